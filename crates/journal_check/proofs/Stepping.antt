-- Where no event of a kind may follow, the pass tells none.
use Rattle.std.proofs.Common.{◌≡◌, ℕ, ◌<◌, Bool, true, false, Option, Some, None, List, ◌∷◌, length, refl, arith}
use Rattle.std.specs.Prelude.{◌^◌}
use Rattle.std.proofs.lemmas.Bool.Decides.{nat_tests}
use Rattle.dom_history.specs.declared.op.Reply.{Reply}
use Rattle.dom_history.specs.declared.op.Want.{Want}
use Rattle.dom_history.specs.declared.event.What.{What}
use Rattle.dom_history.specs.Events.{Happening}
use Rattle.dom_history.specs.Objects.{is_node}
use Rattle.fault_handler.specs.Desks.{IsNode}
use Rattle.node_runs.specs.Incomings.{tick_of}
use Rattle.node_runs.specs.Runs.{World, is_above, world_of}
use Rattle.node_runs.specs.Setups.{Setup, IsSetup, given}
use Rattle.node_core.specs.Receivings.{seen}
use Rattle.node_core.specs.declared.setup.Incoming as code
use Rattle.run_journals.specs.Deciding.{IsDecided}
use Rattle.run_journals.specs.RecentRuns.{IsRecentRun}
use Rattle.journal_check.specs.Passes.{Made, IsNotShown, IsReceived, MayHappen, StandsFor, may_follow}
use Rattle.journal_check.specs.declared.pass.Pass.{Pass}
use Rattle.journal_check.proofs.Happened.{none-follows, tick-low}
use Rattle.journal_check.proofs.Decided.{no-node, nothing-sent, received-coming}
use Rattle.journal_check.proofs.Standing.{never}

-- the law on steps of a run
pub record AreDecided (s : Setup) : Type 0 where
  pub above : (e : Happening) (es : List Happening) → IsRecentRun s (e ∷ es) → is_above e.place es ≡ true
  pub only : IsSetup s → (e : Happening) (es : List Happening) (w : World) → world_of s es ≡ Some w → length es < 2 ^ 40 → IsRecentRun s (e ∷ es) → IsDecided s w e

pub law-of : (s : Setup) → ((t : Setup) (e : Happening) (es : List Happening) → IsRecentRun t (e ∷ es) → is_above e.place es ≡ true)
    → ((t : Setup) → IsSetup t → (e : Happening) (es : List Happening) (w : World) → world_of t es ≡ Some w → length es < 2 ^ 40 → IsRecentRun t (e ∷ es) → IsDecided t w e) → AreDecided s
law-of s above only = record { above = above s; only = only s }

module _ {P G : Type 0} (wants : P → Want) (becomes : P → Option Reply → P) (made : Made P) (s : Setup) (p : Pass P G) (w : World) (stands : StandsFor wants becomes made s p w) (few : length w.done < 2 ^ 40) (n : ℕ) (what : What) where
  -- what is received has a tick of few events
  pub tick-few : IsNode s.opening.nodes n → (i : code.Incoming) (again : Bool) → IsReceived w n what (Some (i, again)) → tick_of (seen i) < 2 ^ 40
  tick-few node i again got = tick-low s stands.setup w stands.leads few n node what (seen i) (received-coming s w n what i again got)

  pub may-happen : (i : code.Incoming) (again : Bool) → IsReceived w n what (Some (i, again)) → may_follow (given s n) w n what (seen i) ≡ true → MayHappen wants becomes made s p w n what i again
  may-happen i again got may = record { stands = stands; few = few; got = got; may = may }

  module _ (law : AreDecided s) where
    decides : (e : Happening) → IsRecentRun s (e ∷ w.done) → IsDecided s w e
    decides e run = law.only stands.setup e w.done w stands.leads few run

    -- there is no such node
    pub not-among : (IsNode s.opening.nodes n → ⊥) → IsNotShown wants becomes made s w n what p
    not-among none = record { stands = stands; none = never s w decides n what (no-node s w n what (by (is_node s.opening n) refl)) }
      where
        by : (b : Bool) → is_node s.opening n ≡ b → is_node s.opening n ≡ false
        by false other = other
        by true sure = absurd (none (grind (arith, nat_tests, sure), grind (arith, nat_tests, sure)))

    -- nothing of the kind was sent
    pub not-received : IsReceived w n what None → IsNotShown wants becomes made s w n what p
    not-received got = record { stands = stands; none = never s w decides n what (nothing-sent s w n what got) }

    -- or what is received may not follow
    pub not-may : IsNode s.opening.nodes n → (i : code.Incoming) (again : Bool) → IsReceived w n what (Some (i, again)) → may_follow (given s n) w n what (seen i) ≡ false → IsNotShown wants becomes made s w n what p
    not-may node i again got shut = record {
      stands = stands;
      none = λ e node_is what_is run.
          none-follows s stands.setup w stands.leads few n node what (seen i) (received-coming s w n what i again got) shut e node_is what_is (decides e run) (law.above e w.done run);
    }
