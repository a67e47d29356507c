-- What a pass that did an event has to show for it, from what the calls that it made answered.
use Rattle.std.proofs.Common.{◌≡◌, ℕ, ◌-◌, ◌<◌, Bool, true, Option, Some, List, ◌∷◌, ◌++◌, length, refl, sym, ap, subst, ◌∙◌, arith}
use Rattle.std.specs.Prelude.{◌^◌, IfSome, slice_get, slice_index_or, slice_set}
use Rattle.std.proofs.lemmas.List.{length-set}
use Rattle.std.proofs.lemmas.Option.{same_Some}
use Rattle.uid_names.proofs.ListLemmas.{set-there}
use Rattle.uid_names.proofs.Somes.{take-some}
use Rattle.dom_history.specs.declared.op.Reply.{Reply}
use Rattle.dom_history.specs.declared.op.Want.{Want}
use Rattle.dom_history.specs.declared.event.What.{What}
use Rattle.dom_history.specs.Events.{Happening}
use Rattle.ring_messages.specs.Frames.{Message}
use Rattle.fault_handler.specs.Desks.{IsNode}
use Rattle.node_runs.specs.Incomings.{tick_of}
use Rattle.node_runs.specs.Outcomes.{Stepped}
use Rattle.node_runs.specs.Runs.{World, is_above, world_of}
use Rattle.node_runs.specs.Setups.{Setup, given}
use Rattle.node_core.specs.Nodes.{Noted, DoesAside, HappenedAside, Stands, is_enabled, line_of, state_of}
use Rattle.node_core.specs.Receivings.{seen, indexed, mark_in}
use Rattle.node_core.specs.declared.setup.Emitted.{Emitted}
use Rattle.node_core.specs.declared.setup.Incoming as code
use Rattle.run_journals.specs.Deciding.{IsDecided}
use Rattle.run_journals.specs.RecentRuns.{IsRecentRun}
use Rattle.journal_check.proofs.LinkPlaces.{read-at}
use Rattle.journal_check.specs.Changes.{ChangeLinks, IsFrameThere, IsHeard, IsSent, IsServed, IsTold}
use Rattle.journal_check.specs.Kept.{Kept}
use Rattle.journal_check.specs.Passes.{Made, IsEnabledAt, IsShown, MayHappen, marks_sent}
use Rattle.journal_check.specs.declared.pass.Pass.{Pass}
use Rattle.journal_check.proofs.Coming.{own-node}
use Rattle.journal_check.proofs.Happened.{node-low}
use Rattle.journal_check.proofs.Standing.{above, decides-v, frame-named, frame-there, shown}
use Rattle.journal_check.proofs.Stepping.{AreDecided, tick-few}

-- so is a step that its node decides
abbrev pub AreGood : Setup → Type 0
AreGood s = (e : Happening) (es : List Happening) (w : World) → IsRecentRun s es → world_of s es ≡ Some w → length es < 2 ^ 40 → is_above e.place es ≡ true → IsDecided s w e → IsRecentRun s (e ∷ es)

module _ {P G : Type 0} (wants : P → Want) (becomes : P → Option Reply → P) (made : Made P) (s : Setup) (old : Pass P G) (w : World) (n : ℕ) (what : What) (i : code.Incoming) (again : Bool)
    (can : MayHappen wants becomes made s old w n what i again) (own_node : IsNode (length old.nodes.items) n) (at : ℕ) (at_is : at ≡ n - 1) (was : Noted P) (was_is : was ≡ slice_index_or old.nodes.items at was) where
  node : IsNode s.opening.nodes n
  node = subst (λ k. IsNode k n) can.stands.nodes.count own_node

  own : Stands wants becomes (made n) (given s n) was (w.nodes n)
  own = own-node wants becomes made s old w can.stands n at was node at_is was_is

  -- what the step of the node asks
  pub step-enabled : IsEnabledAt old n what (seen i) → is_enabled was what (seen i) ≡ true
  step-enabled there =
      let low = own_node.0 in
      let high = own_node.1 in
      take-some (λ (x : Noted P). is_enabled x what (seen i) ≡ true) (slice_get old.nodes.items (n - 1)) was
      (read-at old.nodes.items at (n - 1) was (omega (arith, at_is, low, high)) was_is at_is) there

  pub step-tick : (state_of was).tick < 2 ^ 40
  step-tick =
      let low = node-low s can.stands.setup w can.stands.leads can.few n node in
      let same = own.alike.tick in
      omega (arith, low, same)

  pub step-incoming : tick_of (seen i) < 2 ^ 40
  step-incoming = tick-few wants becomes made s old w can.stands can.few n what node i again can.got

  -- the step was done
  module _ (x : Noted P) (did : Happening) (emitted : Emitted) (does : DoesAside wants becomes what (seen i) was x did emitted) where
    pub found : (st : Stepped) × HappenedAside wants becomes (made n) (given s n) what (seen i) x did emitted (w.nodes n) st
    found = does (made n) (given s n) (w.nodes n) own

    abbrev pub st : Stepped
    st = found.0

    -- what is told of and sent is of links between nodes
    pub told-there : IsFrameThere (length old.nodes.items) what old.frames.items
    told-there =
        subst (λ k. IsFrameThere k what old.frames.items) (sym can.stands.nodes.count)
        (frame-there wants becomes made s old w can.stands can.few n node what i again can.got can.may st found.1.step)

    pub sent-there : IfSome emitted.frame (λ y. IsNode (length old.nodes.items) y.1.from × IsNode (length old.nodes.items) y.1.to)
    sent-there =
        subst (λ (o : Option (ℕ × Message)). IfSome o (λ y. IsNode (length old.nodes.items) y.1.from × IsNode (length old.nodes.items) y.1.to)) (sym (ap (λ (e : Emitted). e.frame) found.1.emits))
        (subst (λ k. IfSome (indexed st.frame st.effects.sent) (λ y. IsNode k y.1.from × IsNode k y.1.to)) (sym can.stands.nodes.count)
        (frame-named wants becomes made s old w can.stands can.few n node what i again can.got can.may st found.1.step))

    -- and the pass stands for what came of it
    pub shown-here : (good : AreGood s) (law : AreDecided s) (a b d : List Kept) (new : Pass P G) → ChangeLinks (length old.nodes.items) (IsTold what) old.frames.items a
        → ChangeLinks (length old.nodes.items) (IsSent emitted.frame) a b → ChangeLinks (length old.nodes.items) (IsServed (seen i)) b d → ChangeLinks (length old.nodes.items) (IsHeard x n) d new.frames.items
        → new.nodes.items ≡ slice_set old.nodes.items at x → new.marks.items ≡ old.marks.items ++ marks_sent emitted.mark n did.place.tick → new.last ≡ Some did.place
        → IsShown wants becomes made s w n what new (record { event = did; received = i; again = again })
    shown-here good law a b d new told sent served heard nodes marks last =
        let stands = can.stands in
        let many = stands.nodes.count in
        let it = found.1.event_is in
        let here = above wants becomes made s old w stands can.few n node what i again can.got can.may st found.1.step in
        let decides = decides-v wants becomes made s old w stands can.few n node what i again can.got can.may st found.1.step in
        subst (λ (e : Happening). IsShown wants becomes made s w n what new (record { event = e; received = i; again = again })) (sym it)
        (shown wants becomes made s old w stands can.few n node what i again can.got can.may st found.1.step a b d x new found.1.stands
        (subst (λ k. ChangeLinks k (IsTold what) old.frames.items a) many told)
        (subst (λ (o : Option (ℕ × Message)). ChangeLinks s.opening.nodes (IsSent o) a b) (ap (λ (e : Emitted). e.frame) found.1.emits) (subst (λ k. ChangeLinks k (IsSent emitted.frame) a b) many sent))
        (subst (λ k. ChangeLinks k (IsServed (seen i)) b d) many served)
        (subst (λ k. ChangeLinks k (IsHeard x n) d new.frames.items) many heard)
        (nodes ∙ ap (λ k. slice_set old.nodes.items k x) at_is)
        (marks ∙ (ap (λ (o : Option ℕ). old.marks.items ++ marks_sent o n did.place.tick) (ap (λ (e : Emitted). e.mark) found.1.emits) ∙ ap (λ (e : Happening). old.marks.items ++ marks_sent (mark_in what) n e.place.tick) it))
        (last ∙ ap (λ (e : Happening). Some e.place) it)
        (good (line_of n what st) w.done w stands.run stands.leads can.few here decides)
        (λ e run. law.only stands.setup e w.done w stands.leads can.few run))

-- an item that was set is read again
pub set-read : {A : Type 0} (xs : List A) (k : ℕ) (x y : A) → k < length xs → y ≡ slice_index_or (slice_set xs k x) k y → y ≡ x
set-read xs k x y low is =
    let many = length-set xs k x in
    let there : slice_get (slice_set xs k x) k ≡ Some y = read-at (slice_set xs k x) k k y (omega (arith, low, many)) is refl in
    same_Some y x (sym there ∙ set-there xs k x low)
