-- The frame that an event sends is on its way then.
use Rattle.std.proofs.Common.{◌≡◌, ℕ, ◌+◌, ◌≤◌, true, false, cond, List, [], ◌∷◌, ◌++◌, length, Option, Some, None, inl, inr, refl, sym, ap, subst, ◌∙◌}
use Rattle.std.specs.Prelude.{◌==◌, ◌||◌, ◌⊎◌}
use Rattle.std.specs.List.{list_any, AllByRecursion}
use Rattle.std.proofs.lemmas.Bool.{eq-eqb}
use Rattle.std.proofs.lemmas.List.Folds.{list_any-append}
use Rattle.uid_names.specs.Names.{ProcName}
use Rattle.dom_history.specs.declared.event.What.{What}
use Rattle.dom_history.specs.declared.event.What.TheVariants.{Begin, Go, Take, Notice, Ready, Mark}
use Rattle.dom_history.specs.declared.event.Sent.{Sent}
use Rattle.dom_history.specs.declared.plan.FateRow.{FateRow}
use Rattle.dom_history.specs.Events.{Happening}
use Rattle.dom_history.specs.Histories.{SomeOf}
use Rattle.dom_history.specs.Plans.{fate_of}
use Rattle.ring_messages.specs.Frames.{Message}
use Rattle.node_runs.specs.Setups.{Setup, given}
use Rattle.node_runs.specs.Deliveries.{is_gone, noticed_by, noticed_in}
use Rattle.node_runs.specs.Runs.{World, numbered}
use Rattle.world_runs.specs.Gone.{FrameName, same_frame, frame_if, gone_by, gone_in, was_told}
use Rattle.world_runs.specs.Sendings.{Sending, sending_if, frame_to, mark_to, sent_if, sent_by, sendings, frames_on}
use Rattle.world_runs.specs.Waiting.{Entry, waiting}
use Rattle.world_runs.proofs.Alike.{added, frames-added}
use Rattle.world_runs.proofs.Among.{Among, among-right}
use Rattle.world_runs.proofs.Coming.{IsDue, coming-due}
use Rattle.world_runs.proofs.Inserting.{event_at}
use Rattle.world_runs.proofs.Noticing.{IsWithin, gone-within, not-among}
use Rattle.world_runs.proofs.Planning.{AreDelivered}
use Rattle.world_runs.proofs.Sent.{IsSent, step-sent}
use Rattle.world_runs.proofs.Taking.{TakesOldest, due-takes-oldest}
use Rattle.world_runs.proofs.TimelyTurns.{IsTimelyTurn}
use Rattle.run_laws.specs.FramesOfCalls.{IsOfCall}
use Rattle.run_laws.specs.OpenFrames.{IsWaiting, IsUntold, HasFrame}
use Rattle.run_laws.proofs.WaitingNext.{behind, among-some, waits-next, sent-behind}

due-within : (plan : List FateRow) (w : World) (k : ℕ) (what : What) → IsDue plan w k what → AllByRecursion (IsWithin w.done) (noticed_by what)
due-within plan w k (Begin p) due = tt
due-within plan w k (Go p) due = tt
due-within plan w k (Take from index) due = tt
due-within plan w k (Notice p from to index) due = (gone-within plan w.done (from, to, index) due.0, tt)
due-within plan w k (Ready phase) due = tt
due-within plan w k (Mark from phase) due = tt

module _ (s : Setup) (plan : List FateRow) (old new : World) (turn : IsTimelyTurn s plan old new) where
  abbrev n : ℕ
  n = turn.is.act.node

  abbrev what : What
  what = turn.is.act.what

  abbrev pub turned : Happening
  turned = event_at n what turn.is.step

  pub done-after : new.done ≡ turned ∷ old.done
  done-after = ap (λ (w : World). w.done) turn.is.world

  pub frames-after : (from to : ℕ) → new.frames from to ≡ added n turn.is.step.frame from to (old.frames from to)
  frames-after from to = ap (λ (w : World). w.frames from to) turn.is.world ∙ frames-added old n turn.is.step.frame from to

  pub takes-oldest : (from to : ℕ) → TakesOldest plan from to n what old.done
  takes-oldest = due-takes-oldest plan old n what (coming-due plan old n what turn.is.comes)

  module _ (delivered : AreDelivered plan old) (within : AllByRecursion (IsWithin old.done) (noticed_in old.done)) where
    module _ (m : Message) (frame : turn.is.step.frame ≡ Some m) (x : Sent) (sent : turn.is.step.effects.sent ≡ Some x) (same : x.to ≡ m.to) where
      abbrev k : ℕ
      k = frames_on n x.to old.done

      abbrev f : FrameName
      f = (n, x.to, k + 1)

      abbrev xs : List Message
      xs = old.frames n x.to

      found : numbered (k + 1) (new.frames n x.to) ≡ Some m
      found =
          ap (numbered (k + 1)) (frames-after n x.to ∙ ap (λ (o : Option Message). added n o n x.to xs) frame
          ∙ ap (λ b. cond b (cond (x.to == m.to) (m ∷ xs) xs) xs) (eq-eqb n n refl) ∙ ap (λ b. cond b (m ∷ xs) xs) (eq-eqb x.to m.to same))
          ∙ ap (λ b. cond b (Some m) (numbered (k + 1) xs)) (eq-eqb (k + 1) (length xs + 1) (ap (λ i. i + 1) (sym (delivered.frames n x.to))))

      sent-list : sent_by n x.to turned ≡ mark_to n x.to what ++ Sending.Frame ∷ []
      sent-list =
          ap (λ b. sent_if b n x.to turned) (eq-eqb n n refl) ∙ ap (λ (o : Option Sent). mark_to n x.to what ++ frame_to x.to o) sent
          ∙ ap (λ b. mark_to n x.to what ++ sending_if b Sending.Frame) (eq-eqb x.to x.to refl)

      waits : Among (Entry.Copy (k + 1)) (behind (fate_of plan n x.to) (mark_to n x.to what ++ Sending.Frame ∷ []) (sendings n x.to old.done)) → IsWaiting plan new f
      waits is =
          let oldest = takes-oldest n x.to in
          let put = behind (fate_of plan n x.to) (sent_by n x.to turned) (sendings n x.to old.done) in
          let here = subst (λ (ss : List Sending). Among (Entry.Copy (k + 1)) (behind (fate_of plan n x.to) ss (sendings n x.to old.done))) (sym sent-list) is in
          subst (λ (es : List Happening). SomeOf (λ (y : Entry). Entry.Copy (k + 1) ≡ y) (waiting plan n x.to es)) (sym done-after)
          (subst (SomeOf (λ (y : Entry). Entry.Copy (k + 1) ≡ y)) (sym (waits-next plan n x.to turned old.done (delivered.order n x.to) oldest.0 oldest.1))
          (among-some (Entry.Copy (k + 1)) (oldest.0 ++ put) (among-right (Entry.Copy (k + 1)) oldest.0 put here)))

      gone : is_gone (fate_of plan n x.to (k + 1)) ≡ true → IsUntold plan new f
      gone is =
          subst (λ (es : List Happening). SomeOf (λ (g : FrameName). f ≡ g) (gone_in plan es) × (was_told es f ≡ false)) (sym done-after) (
            among-some f (gone_in plan old.done ++ gone_by plan n turn.is.step.effects.sent old.done)
                (among-right f (gone_in plan old.done) (gone_by plan n turn.is.step.effects.sent old.done)
                (subst (λ (o : Option Sent). Among f (gone_by plan n o old.done)) (sym sent) (subst (λ b. Among f (frame_if b f)) (sym is) (inl refl)))),
            list_any-append (same_frame f) (noticed_by what) (noticed_in old.done)
                ∙ ap (λ b. b || list_any (same_frame f) (noticed_in old.done)) (not-among old.done f (noticed_by what) (due-within plan old n what (coming-due plan old n what turn.is.comes)) refl)
                ∙ not-among old.done f (noticed_in old.done) within refl,
          )

      way : IsWaiting plan new f ⊎ IsUntold plan new f
      way = elim (sent-behind (fate_of plan n x.to) (mark_to n x.to what) (sendings n x.to old.done)) [ inl is ↦ inl (waits is) | inr is ↦ inr (gone is) ]

    pub sends-frame : (p : ProcName) (number : ℕ) → IsOfCall p number turn.is.step.frame → HasFrame plan new p number
    sends-frame p number call =
        by turn.is.step.frame refl turn.is.step.effects.sent refl (step-sent (given s n) (old.nodes n) what turn.is.incoming turn.is.step.effects.dropped turn.is.step turn.steps) call
      where
        by : (o : Option Message) → turn.is.step.frame ≡ o → (x : Option Sent) → turn.is.step.effects.sent ≡ x → IsSent turn.is.step.node.tick o x → IsOfCall p number o → HasFrame plan new p number
        by None frame x sent is call = absurd call
        by (Some m) frame None sent is call = absurd is
        by (Some m) frame (Some x) sent is call = record { frame = f m frame x sent is.1; call = subst (IsOfCall p number) (sym (found m frame x sent is.1)) call; way = way m frame x sent is.1 }
