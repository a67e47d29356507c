-- The next event of a journal happened in the pass, or it may not.
use Rattle.std.proofs.Common.{◌≡◌, ℕ, ◌<◌, Option, Some, None, List, [], ◌∷◌, length, map, refl, sym, ap, subst, ◌∙◌, arith}
use Rattle.std.specs.Prelude.{◌^◌, All, Result, Ok, Err}
use Rattle.std.specs.Result.{IsErrAnd}
use Rattle.std.proofs.lemmas.List.Elements.{All-head}
use Rattle.dom_history.specs.declared.op.Reply.{Reply}
use Rattle.dom_history.specs.declared.op.Want.{Want}
use Rattle.dom_history.specs.declared.event.What.{What}
use Rattle.dom_history.specs.declared.plan.FateRow.{FateRow}
use Rattle.dom_history.specs.Events.{Happening}
use Rattle.script_reader.specs.Scripts.{Content}
use Rattle.node_runs.specs.NodesKeep.{IsTimely}
use Rattle.node_runs.specs.Runs.{World, choice_of}
use Rattle.world_runs.specs.NamedNodes.{NamesNodes}
use Rattle.world_runs.proofs.Counting.{runs-low}
use Rattle.world_runs.proofs.NamedNodes.{world-names}
use Rattle.run_laws.specs.NextNumbers.{SayNextNumbers}
use Rattle.run_laws.proofs.Numbers.{runs-number}
use Rattle.script_runs.specs.Setups.{setup_of}
use Rattle.run_journals.specs.RecentRuns.{IsRecentRun}
use Rattle.journal_check.specs.Judged.{ArePlaces, IsNextEvent, TellsAgain}
use Rattle.journal_check.specs.declared.places.Places.{Places}
use Rattle.journal_check.specs.Passes.{Made, IsNotShown, IsShown, IsStep}
use Rattle.journal_check.specs.declared.pass.Pass.{Pass}
use Rattle.journal_check.specs.declared.pass.Shown.{Shown}
use Rattle.journal_check.specs.Passing.{HaveHappened, IsAdded, IsBefore, IsNoNext, IsPassed}
use Rattle.journal_check.specs.Verdicts.{IsStopped}
use Rattle.journal_check.specs.declared.verdict.CheckFault.{CheckFault}
use Rattle.journal_check.specs.declared.verdict.CheckFault.TheVariants.{No, NoMemory}
use Rattle.journal_check.specs.declared.verdict.NoCause.TheVariants as causes

-- a fault that is passed on
module _ {P G T : Type 0} (wants : P → Want) (becomes : P → Option Reply → P) (made : Made P) (s : Content) (pass : Pass P G) (places : Places) (later : Pass P G) (behind : Places) (r : Result T CheckFault) where
  pub added-none : (e : Happening) (line : ℕ) → IsErrAnd r (λ f. f ≡ NoMemory) → IsAdded wants becomes made s e line pass places later behind r
  added-none e line = by r
    where
      by : (q : Result T CheckFault) → IsErrAnd q (λ f. f ≡ NoMemory) → IsAdded wants becomes made s e line pass places later behind q
      by (Ok x) is = absurd is
      by (Err f) is = λ es before. subst (IsNoNext s es e line) (sym is) tt

  pub passed-none : (events : List Happening) (fault : CheckFault) → IsErrAnd r (λ f. f ≡ fault) → (HaveHappened wants becomes made s [] pass places → IsStopped s events fault)
      → IsPassed wants becomes made s events pass places later behind r
  passed-none events fault = by r
    where
      by : (q : Result T CheckFault) → IsErrAnd q (λ f. f ≡ fault) → (HaveHappened wants becomes made s [] pass places → IsStopped s events fault) → IsPassed wants becomes made s events pass places later behind q
      by (Ok x) is stops = absurd is
      by (Err f) is stops = λ first. subst (IsStopped s events) (sym is) (stops first)

module _ {P G : Type 0} (wants : P → Want) (becomes : P → Option Reply → P) (made : Made P) (s : Content) (es : List Happening) (line : ℕ) (pass : Pass P G) (places : Places)
    (before : IsBefore wants becomes made s es line pass places) (e : Happening) where
  abbrev pub w : World
  w = before.happened.world

  pub few-here : length w.done < 2 ^ 40
  few-here = subst (λ (xs : List Happening). length xs < 2 ^ 40) (sym before.happened.done) before.few

  -- what a step of the pass answers, of the event of the line
  pub shown-of : (later : Pass P G) (n : ℕ) (what : What) (shown : Shown) → n ≡ e.place.node → what ≡ e.what → IsStep wants becomes made (setup_of s) w n what later (Some shown)
      → IsShown wants becomes made (setup_of s) w e.place.node e.what later shown
  shown-of later n what shown node_is what_is step =
      subst (λ k. IsShown wants becomes made (setup_of s) w k e.what later shown) node_is (subst (λ (x : What). IsShown wants becomes made (setup_of s) w n x later shown) what_is step)

  pub none-of : (later : Pass P G) (n : ℕ) (what : What) → n ≡ e.place.node → what ≡ e.what → IsStep wants becomes made (setup_of s) w n what later None → IsNotShown wants becomes made (setup_of s) w e.place.node e.what later
  none-of later n what node_is what_is step =
      subst (λ k. IsNotShown wants becomes made (setup_of s) w k e.what later) node_is (subst (λ (x : What). IsNotShown wants becomes made (setup_of s) w n x later) what_is step)

  -- the event that the pass did is that of the line
  module _ (later : Pass P G) (shown : Shown) (is : IsShown wants becomes made (setup_of s) w e.place.node e.what later shown) (same : shown.event ≡ e) where
    done : is.world.done ≡ e ∷ es
    done = is.done ∙ (ap (λ (x : Happening). x ∷ w.done) same ∙ ap (λ (xs : List Happening). e ∷ xs) before.happened.done)

    timely : IsTimely is.world
    timely n =
        let most = (runs-low (setup_of s) (map choice_of is.world.done) is.world is.stands.leads).nodes n in
        let long = ap (λ (xs : List Happening). length xs) done in
        let few = before.few in
        omega (arith, most, long, few)

    pub named-there : NamesNodes places.nodes e
    named-there =
        let all : All (NamesNodes s.opening.nodes) (e ∷ es) =
        subst (All (NamesNodes s.opening.nodes)) done (world-names (setup_of s) is.stands.setup (map choice_of is.world.done) is.world is.stands.leads timely) in
        subst (λ k. NamesNodes k e) (sym before.happened.places_are.nodes_are) (All-head (NamesNodes s.opening.nodes) e es all)

    pub next-event : IsNextEvent es e line shown.again
    next-event = record {
      few = before.few;
      line_is = before.line_is;
      tells = subst (λ (xs : List Happening). TellsAgain xs e.what shown.again) before.happened.done is.again;
      numbers = subst SayNextNumbers done (runs-number (setup_of s) is.stands.setup (map choice_of is.world.done) is.world is.stands.leads timely).says;
    }

    pub happened-next : (behind : Places) → ArePlaces s.plan s.opening.nodes (e ∷ es) behind → HaveHappened wants becomes made s (e ∷ es) later behind
    happened-next behind places_are = record { world = is.world; done = done; stands = is.stands; places_are = places_are }

  -- so far they are a run
  run-here : IsRecentRun (setup_of s) es
  run-here = subst (IsRecentRun (setup_of s)) before.happened.done before.happened.stands.run

  back : IsRecentRun (setup_of s) (e ∷ es) → IsRecentRun (setup_of s) (e ∷ w.done)
  back run = subst (λ (xs : List Happening). IsRecentRun (setup_of s) (e ∷ xs)) (sym before.happened.done) run

  -- the pass did another, so that of the line may not happen
  pub no-other : (later : Pass P G) (shown : Shown) → IsShown wants becomes made (setup_of s) w e.place.node e.what later shown → (shown.event ≡ e → ⊥) → IsNoNext s es e line (No line causes.Step)
  no-other later shown is differs = (refl, refl, run-here, λ run. differs (sym (is.only e refl refl (back run))))

  -- or it did none
  pub no-none : (later : Pass P G) → IsNotShown wants becomes made (setup_of s) w e.place.node e.what later → IsNoNext s es e line (No line causes.Step)
  no-none later is = (refl, refl, run-here, λ run. is.none e refl refl (back run))

  -- the places are of the events before
  pub own-places : ArePlaces places.plan.now places.nodes es places
  own-places =
      let are = before.happened.places_are in
      subst (λ k. ArePlaces places.plan.now k es places) (sym are.nodes_are) (subst (λ (f : List FateRow). ArePlaces f s.opening.nodes es places) (sym are.plan_is) are)
