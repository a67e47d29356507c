-- A step of a node is one of each that is alike.
use Rattle.std.proofs.Common.{◌≡◌, true, Some, ap, subst, ◌∙◌}
use Rattle.std.specs.Prelude.{not, ◌&&◌}
use Rattle.uid_names.specs.Steps.{◌>>=◌}
use Rattle.uid_names.proofs.Passed.{right-true}
use Rattle.uid_names.proofs.Somes.{bind-some}
use Rattle.dom_history.specs.declared.event.What.{What}
use Rattle.node_runs.specs.Setups.{Given}
use Rattle.node_runs.specs.NodeStates.{NodeState, is_ended}
use Rattle.node_runs.specs.Incomings.{Incoming, may_happen, enabled}
use Rattle.node_runs.specs.Outcomes.{Stepped}
use Rattle.node_runs.specs.Doings.{event_of, ticked}
use Rattle.node_runs.specs.Steps.{stepped_as_named, named_step}
use Rattle.node_runs.specs.Alikes.{AreAlikeGiven, AreAlike, AreAlikeSteps}
use Rattle.node_runs.proofs.Alike.{happen-alike, event-alike, found-alike}

-- a node with the processes and marks of another
abbrev mixed : NodeState → NodeState → NodeState
mixed n m = record n { procs = m.procs; marks = m.marks }

abbrev mixed_given : Given → Given → Given
mixed_given g h = record h { number = g.number; wire = g.wire; phases = g.phases }

-- which is that other one, where they are alike
mixed-is : (n m : NodeState) → AreAlike n m → mixed n m ≡ m
mixed-is n m is =
    ap (λ x. record n { side = x; procs = m.procs; marks = m.marks }) is.side
    ∙ ap (λ x. record n { side = m.side; desk = x; procs = m.procs; marks = m.marks }) is.desk
    ∙ ap (λ x. record m { emitted = x; tick = n.tick; phase = n.phase; ready = n.ready }) is.emitted
    ∙ ap (λ x. record m { tick = x; phase = n.phase; ready = n.ready }) is.tick
    ∙ ap (λ x. record m { phase = x; ready = n.ready }) is.phase
    ∙ ap (λ x. record m { ready = x }) is.ready

mixed-given : (g h : Given) (n m : NodeState) → AreAlikeGiven g h n m → mixed_given g h ≡ h
mixed-given g h n m is =
    ap (λ x. record h { number = x; wire = g.wire; phases = g.phases }) is.number ∙ ap (λ x. record h { wire = x; phases = g.phases }) is.wire ∙ ap (λ x. record h { phases = x }) is.phases

module _ (g h : Given) (n m : NodeState) (what : What) (incoming : Incoming) (given : AreAlikeGiven g h n m) (alike : AreAlike n m) where
  mixed-enabled : enabled g n what incoming ≡ enabled (mixed_given g h) (mixed n m) what incoming
  mixed-enabled = ap (λ b. not (is_ended g n) && b) (happen-alike g h n m alike.procs alike.many alike.marks given.nodes given.greatest given.programs given.asks what incoming)

  pub enabled-alike : enabled g n what incoming ≡ enabled h m what incoming
  enabled-alike =
      subst (λ x. enabled g n what incoming ≡ enabled x m what incoming) (mixed-given g h n m given)
      (subst (λ x. enabled g n what incoming ≡ enabled (mixed_given g h) x what incoming) (mixed-is n m alike) mixed-enabled)

  abbrev later : NodeState
  later = ticked n incoming

  -- what the processes heard before is the same at the tick of the event
  since : (s t : Stepped) → AreAlikeSteps later (mixed later m) s t → AreAlikeSteps n (mixed n m) s t
  since s t is = record {
    node = is.node;
    heard = λ p. let x = is.heard p in record { told = x.told; here = x.here; there = x.there };
    frame = is.frame;
    call = is.call;
    effects = is.effects;
    note = is.note;
  }

  mixed-step : (s : Stepped) → enabled g n what incoming ≡ true → named_step g n what incoming ≡ Some s
      → (t : Stepped) × (named_step (mixed_given g h) (mixed n m) what incoming ≡ Some t) × AreAlikeSteps n (mixed n m) s t
  mixed-step s may e =
      let happens : may_happen g later what incoming ≡ true = right-true (not (is_ended g n)) (may_happen g n what incoming) may in
      let there = bind-some (event_of g later what incoming) (stepped_as_named g later) s e in
      let found = found-alike g h later m alike.procs alike.many alike.marks given.nodes given.greatest given.programs given.asks (event_of g later what incoming) (event_of (mixed_given g h) (mixed later m) what incoming) there.0 s
      (event-alike g h later m alike.procs alike.many alike.marks given.nodes given.greatest given.programs given.asks what incoming happens) there.1 there.2 in
      (found.1, ap (λ x. x >>= stepped_as_named (mixed_given g h) (mixed later m)) found.2 ∙ found.3, since s found.1 found.4)

  pub step-alike : (s : Stepped) → enabled g n what incoming ≡ true → named_step g n what incoming ≡ Some s → (t : Stepped) × (named_step h m what incoming ≡ Some t) × AreAlikeSteps n m s t
  step-alike s may e =
      subst (λ x. (t : Stepped) × (named_step x m what incoming ≡ Some t) × AreAlikeSteps n m s t) (mixed-given g h n m given)
      (subst (λ x. (t : Stepped) × (named_step (mixed_given g h) x what incoming ≡ Some t) × AreAlikeSteps n x s t) (mixed-is n m alike) (mixed-step s may e))
