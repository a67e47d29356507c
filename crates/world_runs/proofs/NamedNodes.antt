-- The events of a run name nodes of its opening alone.
use Rattle.std.proofs.Common.{◌≡◌, ℕ, ◌≤◌, true, cond, List, map, Option, Some, None, IfSome, refl, sym, ap, subst, ◌∙◌, arith}
use Rattle.std.specs.Prelude.{◌==◌, ◌&&◌, ◌^◌, nat_le, All}
use Rattle.std.specs.List.{AllByRecursion}
use Rattle.std.proofs.lemmas.Bool.Decides.{nat_tests}
use Rattle.std.proofs.lemmas.List.Elements.{All-from_recursion}
use Rattle.uid_names.proofs.ListLemmas.{by_cases}
use Rattle.uid_names.specs.Names.{ProcName}
use Rattle.uid_names.proofs.Passed.{left-true, equal}
use Rattle.dom_history.specs.declared.event.What.{What}
use Rattle.dom_history.specs.declared.event.What.TheVariants.{Begin, Go, Take, Notice, Ready, Mark}
use Rattle.dom_history.specs.declared.event.Sent.{Sent}
use Rattle.dom_history.specs.declared.plan.FateRow.{FateRow}
use Rattle.dom_history.specs.Events.{Happening}
use Rattle.ring_messages.specs.Frames.{Message}
use Rattle.fault_handler.specs.Desks.{IsNode}
use Rattle.node_runs.specs.Setups.{Setup, IsSetup, Given, given}
use Rattle.node_runs.specs.NodeStates.{NodeState}
use Rattle.node_runs.specs.Incomings.{Incoming}
use Rattle.node_runs.specs.Doings.{ticked}
use Rattle.node_runs.specs.SentFrames.{IsIncoming}
use Rattle.node_runs.specs.NodesKeep.{IsTimely}
use Rattle.node_runs.specs.CallsKeep.{EachOf}
use Rattle.node_runs.specs.Runs.{World, SentMark, Choice, choice_of, numbered, taken, told_of, marked, mark_of, incoming_of, frames_after, world_after, world_of, IsRun}
use Rattle.node_runs.proofs.Calls.{frames-one}
use Rattle.node_runs.proofs.Nodes.{Keeps}
use Rattle.node_runs.proofs.Reaching.{step_of-keeps}
use Rattle.node_runs.proofs.Receiving.{numbered-each}
use Rattle.node_runs.proofs.SettingUp.{given-procs, setup-gives}
use Rattle.node_runs.proofs.Worlds.{place_at}
use Rattle.world_runs.specs.ByPlace.{by_place}
use Rattle.world_runs.specs.Draws.{draws}
use Rattle.world_runs.specs.Picked.{IsPicked}
use Rattle.world_runs.specs.NamedNodes.{NamesNodesIn, NamesNodes}
use Rattle.world_runs.proofs.Sent.{IsSent, step-sent}
use Rattle.world_runs.proofs.Alike.{marked_by, marks-marked}
use Rattle.world_runs.proofs.Merging.{turns-merge}
use Rattle.world_runs.proofs.LostFrames.{done-is}
use Rattle.world_runs.proofs.TimelyRuns.{IsTimelyNext, next-did, next-received, every-timely-run}
use Rattle.world_runs.proofs.AskedNodes.{asks-nodes, did-to}

-- frames are only on links between nodes, marks only of nodes, and events name no other
pub record AreNamed (nodes : ℕ) (w : World) : Type 0 where
  pub frames : (from to : ℕ) → EachOf (λ (m : Message). IsNode nodes from × IsNode nodes to) (w.frames from to)
  pub marks : (from phase : ℕ) (m : SentMark) → mark_of w from phase ≡ Some m → IsNode nodes from
  pub events : AllByRecursion (NamesNodes nodes) w.done

-- what is received is of nodes
taken-of : (P : Type 0) (o : Option Message) (i : Incoming) → IfSome o (λ m. P) → taken o ≡ Some i → P
taken-of P None i is e = absurd (cc)
taken-of P (Some m) i is e = is

told-of : (P : Type 0) (p : ProcName) (o : Option Message) (i : Incoming) → IfSome o (λ m. P) → told_of p o ≡ Some i → P
told-of P p None i is e = absurd (cc)
told-of P p (Some m) i is e = is

marked-of : (P : Type 0) (o : Option SentMark) (i : Incoming) → ((m : SentMark) → o ≡ Some m → P) → marked o ≡ Some i → P
marked-of P None i is e = absurd (cc)
marked-of P (Some m) i is e = is m refl

module _ (nodes : ℕ) (w : World) (are : AreNamed nodes w) where
  on-link : (from to index : ℕ) → IfSome (numbered index (w.frames from to)) (λ m. IsNode nodes from × IsNode nodes to)
  on-link from to index = numbered-each (λ m. IsNode nodes from × IsNode nodes to) index (w.frames from to) (are.frames from to)

  what-named : (n : ℕ) (what : What) (i : Incoming) → incoming_of w n what ≡ Some i → NamesNodesIn nodes what
  what-named n (Begin p) i e = tt
  what-named n (Go p) i e = tt
  what-named n (Take from index) i e = (taken-of (IsNode nodes from × IsNode nodes n) (numbered index (w.frames from n)) i (on-link from n index) e).0
  what-named n (Notice p from to index) i e = told-of (IsNode nodes from × IsNode nodes to) (record { node = n; number = p }) (numbered index (w.frames from to)) i (on-link from to index) e
  what-named n (Ready phase) i e = tt
  what-named n (Mark from phase) i e = marked-of (IsNode nodes from) (mark_of w from phase) i (are.marks from phase) e

-- the marks after an event
mark-after : (nodes n tick from phase : ℕ) (what : What) (o : Option SentMark) (m : SentMark) → IsNode nodes n → ((x : SentMark) → o ≡ Some x → IsNode nodes from) → marked_by n tick what from phase o ≡ Some m → IsNode nodes from
mark-after nodes n tick from phase (Begin p) o m own before e = before m e
mark-after nodes n tick from phase (Go p) o m own before e = before m e
mark-after nodes n tick from phase (Take a k) o m own before e = before m e
mark-after nodes n tick from phase (Notice p a b k) o m own before e = before m e
mark-after nodes n tick from phase (Mark a k) o m own before e = before m e
mark-after nodes n tick from phase (Ready k) o m own before e =
    by_cases ((n == from) && (k == phase)) (IsNode nodes from)
    (λ h. subst (IsNode nodes) (equal n from (left-true (n == from) (k == phase) h)) own)
    (λ h. before m (subst (λ b. cond b (Some (record { node = n; phase = k; tick = tick })) o ≡ Some m) h e))

-- what an event sent goes where its frame goes
sent-to : (nodes tick : ℕ) (f : Option Message) (x : Option Sent) → IsSent tick f x → IfSome f (λ m. IsNode nodes m.to) → IfSome x (λ sent. IsNode nodes sent.to)
sent-to nodes tick None x same is = subst (λ (y : Option Sent). IfSome y (λ sent. IsNode nodes sent.to)) (sym same) tt
sent-to nodes tick (Some m) None same is = absurd same
sent-to nodes tick (Some m) (Some x) same is = subst (IsNode nodes) (sym same.1) is

frames-named : (nodes : ℕ) (w : World) (n : ℕ) → AreNamed nodes w → IsNode nodes n → (f : Option Message) → IfSome f (λ m. IsNode nodes m.to)
    → (from to : ℕ) → EachOf (λ (m : Message). IsNode nodes from × IsNode nodes to) (frames_after w n f from to)
frames-named nodes w n are own None is = are.frames
frames-named nodes w n are own (Some m) is = frames-one w n m (λ from to x. IsNode nodes from × IsNode nodes to) (own, is) are.frames

module _ (s : Setup) (setup : IsSetup s) where
  abbrev nodes : ℕ
  nodes = s.opening.nodes

  module _ (old : World) (c : Choice) (new : World) (turn : IsTimelyNext s old c new) (are : AreNamed nodes old) where
    abbrev g : Given
    g = given s c.node

    own : IsNode nodes c.node
    own = let e : (nat_le 1 c.node && nat_le c.node s.opening.nodes) ≡ true = turn.is.node in (grind (arith, nat_tests, e), grind (arith, nat_tests, e))

    received : IsIncoming turn.is.incoming
    received = next-received s old c new turn

    keeps : Keeps g turn.is.step
    keeps = step_of-keeps g (old.nodes c.node) c.what turn.is.incoming c.dropped turn.is.step (setup-gives s setup c.node turn.is.node) (turn.kept.nodes c.node turn.is.node) received turn.is.steps

    named : NamesNodesIn nodes c.what
    named = what-named nodes old are c.node c.what turn.is.incoming turn.is.comes

    goes : IfSome turn.is.step.frame (λ m. IsNode nodes m.to)
    goes =
        did-to nodes g (ticked (old.nodes c.node) turn.is.incoming) (turn.kept.nodes c.node turn.is.node).four (given-procs g (setup-gives s setup c.node turn.is.node).programs)
        c.what turn.is.incoming turn.is.step received named (asks-nodes g turn.is.step.node keeps.node) (next-did s old c new turn.is)

    named-later : AreNamed nodes new
    named-later = record {
      frames = λ from to. subst (λ (w : World). EachOf (λ (m : Message). IsNode nodes from × IsNode nodes to) (w.frames from to)) (sym turn.is.world) (frames-named nodes old c.node are own turn.is.step.frame goes from to);
      marks = λ from phase m e.
          mark-after nodes c.node turn.is.step.node.tick from phase c.what (mark_of old from phase) m own (are.marks from phase)
          (sym (marks-marked old (place_at c turn.is.step) c.what turn.is.step from phase) ∙ ap (λ (w : World). mark_of w from phase) (sym turn.is.world) ∙ e);
      events = subst (λ (w : World). AllByRecursion (NamesNodes nodes) w.done) (sym turn.is.world) (
        record {
          place = own;
          what = named;
          sent = sent-to nodes turn.is.step.node.tick turn.is.step.frame turn.is.step.effects.sent (step-sent g (old.nodes c.node) c.what turn.is.incoming c.dropped turn.is.step turn.is.steps) goes;
        },
        are.events,
      );
    }

  pub world-names : (cs : List Choice) (w : World) → world_after s cs ≡ Some w → IsTimely w → All (NamesNodes nodes) w.done
  world-names cs w is timely =
      All-from_recursion (NamesNodes nodes) w.done
      (every-timely-run s setup (AreNamed nodes) (record { frames = λ from to. tt; marks = λ from phase m e. absurd (cc); events = tt }) named-later cs w is timely).events

  pub run-names : (es : List Happening) (w : World) → IsRun s es → world_of s es ≡ Some w → IsTimely w → All (NamesNodes nodes) es
  run-names es w run is timely = subst (λ (xs : List Happening). All (NamesNodes nodes) xs) (done-is s es w run is) (world-names (map choice_of es) w is timely)

  pub picked-names : (plan : List FateRow) (seed last : ℕ) → last ≤ 2 ^ 40 → (es : List Happening) → IsPicked s plan seed last es → All (NamesNodes nodes) es
  picked-names plan seed last most es is =
      let timely : IsTimely is.world = λ n. let b = is.ends.below n in omega (arith, b, most) in
      let m = (turns-merge s setup plan (draws seed is.ends.count) is.world is.ends.comes).merged timely in
      subst (λ (xs : List Happening). All (NamesNodes nodes) xs) (m.done ∙ sym is.events)
      (world-names (map choice_of (by_place is.world.done)) m.world m.run (λ n. subst (λ (x : NodeState). x.tick ≤ 2 ^ 40) (m.like.nodes n) (timely n)))
