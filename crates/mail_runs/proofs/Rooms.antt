-- Objects that were made have room, and what is held was made.
use Rattle.std.proofs.Common.{◌≡◌, ◌≤◌, ◌∙◌, ℕ, zero, suc, Bool, true, false, Option, Some, None, List, [], ◌∷◌, ◌++◌, refl, sym, ap, subst, inl, inr, arith}
use Rattle.std.specs.Prelude.{All, find, is_some, not, if◌then◌else◌}
use Rattle.std.proofs.lemmas.List.Elements.{All-append, All-nil, All-push, All-weaker}
use Rattle.uid_names.specs.Beginnings.{entry_directory}
use Rattle.uid_names.specs.Names.{ProcName, ObjectName, same_proc, same_uid}
use Rattle.uid_names.specs.Openings.{Start, IsStart, IsDeclarable}
use Rattle.uid_names.specs.declared.mode.Mode.{Mode}
use Rattle.uid_names.specs.declared.opening.Object.{Object}
use Rattle.uid_names.proofs.Passed.{left-true}
use Rattle.dom_history.specs.declared.op.Op.{Op}
use Rattle.dom_history.specs.declared.op.Op.TheVariants.{New, Lock, Unlock, Delete, Store, Map, Unmap}
use Rattle.dom_history.specs.declared.op.Reply.{Reply}
use Rattle.dom_history.specs.declared.op.Reply.TheVariants.{Made, Fine, At, NoObject}
use Rattle.dom_history.specs.Histories.{Item, Answered, Acted, before_op, deed_of, deeds}
use Rattle.dom_history.specs.Legal.{AreLegal}
use Rattle.dom_history.specs.Locks.{is_held}
use Rattle.dom_history.specs.Objects.{entry_directories, is_deleted, is_present, made, room_of, room_or_none}
use Rattle.dom_history.specs.Ranges.{IsOp}
use Rattle.dom_history.specs.Replies.{reply_of}
use Rattle.dom_history.specs.StoreEffects.{StoreEffect, store_effect, store_effects}
use Rattle.dom_history.proofs.KeptObjects.{find-present}
use Rattle.dom_history.proofs.MadeObjects.{found-step}
use Rattle.dom_history.proofs.ReplyRows.{found}
use Rattle.dom_history.proofs.HeldObjects.{held-before}
use Rattle.mail_runs.proofs.Faults.{allowed_told, lock_granted}
use Rattle.mail_runs.proofs.Locks.{state_other, state_own, state_told}

-- all operations are in their ranges
abbrev pub AreRanged : List Item → Type 0
AreRanged [] = Unit {0}
AreRanged (i ∷ past) = IsOp (deed_of i).op × AreRanged past

abbrev HasRoom : Object → Type 0
HasRoom o = 1 ≤ o.room

module _ (opening : Start) (start : IsStart opening) where
  directories_some : (n : ℕ) → All HasRoom (entry_directories n)
  directories_some zero = All-nil HasRoom
  directories_some (suc n) = All-push HasRoom (entry_directories n) (entry_directory (suc n)) (directories_some n) (omega arith)

  next_some : (q : ProcName) (op : Op) (reply : Reply) (eff : List StoreEffect) → IsOp op → All HasRoom (made opening eff) → All HasRoom (made opening (store_effect q op reply ++ eff))
  next_some q (New home kind room) (Made u) eff range some = All-push HasRoom (made opening eff) (record { uid = u; kind = kind; room = room }) some range.1.0
  next_some q (Lock u m) Fine eff range some = some
  next_some q (Unlock u) Fine eff range some = some
  next_some q (Delete u) Fine eff range some = some
  next_some q (Store spot bytes) Fine eff range some = some
  next_some q (Map u) (At a true) eff range some = some
  next_some q (Unmap u) Fine eff range some = some
  next_some q _ _ eff range some = some

  rooms_some : (past : List Item) → AreRanged past → All HasRoom (made opening (store_effects (deeds past)))
  rooms_some [] ranged = All-append HasRoom (entry_directories opening.nodes) opening.objects (directories_some opening.nodes) (All-weaker (IsDeclarable opening.nodes opening.greatest) HasRoom (λ o h. h.room_low) opening.objects start.objects)
  rooms_some (i ∷ past) ranged = next_some (deed_of i).proc (deed_of i).op (deed_of i).reply (store_effects (deeds past)) ranged.0 (rooms_some past ranged.1)

  -- so has one that was made
  pub room_some : (past : List Item) → AreRanged past → (u : ObjectName) → is_some (find (λ o. same_uid o.uid u) (made opening (store_effects (deeds past)))) ≡ true → 1 ≤ room_of opening (store_effects (deeds past)) u
  room_some past ranged u there = by_found (find (λ o. same_uid o.uid u) objects) refl there
    where
      objects : List Object
      objects = made opening (store_effects (deeds past))

      by_found : (o : Option Object) → find (λ o. same_uid o.uid u) objects ≡ o → is_some o ≡ true → 1 ≤ room_of opening (store_effects (deeds past)) u
      by_found None e there = absurd (cc)
      by_found (Some o) e there = subst (λ x. 1 ≤ room_or_none x) (sym e) (found HasRoom (λ o. same_uid o.uid u) objects (rooms_some past ranged) o e)

module _ (opening : Start) where
  present-was_made : (eff : List StoreEffect) (u : ObjectName) → is_present opening eff u ≡ true → is_some (find (λ o. same_uid o.uid u) (made opening eff)) ≡ true
  present-was_made eff u h = left-true _ _ (sym (find-present (λ v. is_deleted v eff) (made opening eff) u) ∙ h)

  made-stays : (p : ProcName) (op : Op) (reply : Reply) (eff : List StoreEffect) (test : Object → Bool) → is_some (find test (made opening eff)) ≡ true → is_some (find test (made opening (store_effect p op reply ++ eff))) ≡ true
  made-stays p op reply eff test h = by_found (find test (made opening eff)) refl h
    where
      by_found : (x : Option Object) → find test (made opening eff) ≡ x → is_some x ≡ true → is_some (find test (made opening (store_effect p op reply ++ eff))) ≡ true
      by_found None e h = absurd cc
      by_found (Some o) e h = ap is_some (found-step p op reply opening eff test o e)

  granted_there : (there : Bool) (rest : Reply) → (if not there then NoObject else rest) ≡ Fine → there ≡ true
  granted_there true rest e = refl
  granted_there false rest e = absurd (cc)

  -- an object that a process was told that it holds was made
  pub held_made : (p : ProcName) (u : ObjectName) (past : List Item) → AreLegal opening [] past → is_held (state_told opening p u past) ≡ true → is_some (find (λ o. same_uid o.uid u) (made opening (store_effects (deeds past)))) ≡ true
  held_made p u [] legal h = absurd cc
  held_made p u (Acted a ∷ past) legal h = made-stays a.deed.proc a.deed.op a.deed.reply (store_effects (deeds past)) (λ o. same_uid o.uid u) (held_made p u past legal.1 h)
  held_made p u (Answered e ∷ past) legal h = by_own (same_proc e.proc p) refl (held_made p u past legal.1)
    where
      eff : List StoreEffect
      eff = store_effects (deeds past)

      after : is_some (find (λ o. same_uid o.uid u) (made opening eff)) ≡ true → is_some (find (λ o. same_uid o.uid u) (made opening (store_effect e.proc e.op e.reply ++ eff))) ≡ true
      after = made-stays e.proc e.op e.reply eff (λ o. same_uid o.uid u)

      locked : (m : Mode) → e.op ≡ Lock u m → e.reply ≡ Fine → is_present opening eff u ≡ true
      locked m asked granted =
          let b = before_op opening past e.proc in
          let home = lock_granted b e.proc u m (sym granted ∙ allowed_told b e.proc e.op e.reply (rw granted refl) legal.0 ∙ ap (reply_of b e.proc) asked) in
          granted_there (is_present opening eff u) _ home

      by_own : (b : Bool) → same_proc e.proc p ≡ b → (is_held (state_told opening p u past) ≡ true → is_some (find (λ o. same_uid o.uid u) (made opening eff)) ≡ true) → is_some (find (λ o. same_uid o.uid u) (made opening (store_effect e.proc e.op e.reply ++ eff))) ≡ true
      by_own false other before = after (before (sym (ap is_held (state_other opening p u e past other)) ∙ h))
      by_own true mine before =
          elim (held-before u e.op e.reply (state_told opening p u past) (sym (ap is_held (state_own opening p u e past mine)) ∙ h)) [
            | inl held ↦ after (before held)
            | inr (m, asked, granted) ↦ after (present-was_made eff u (locked m asked granted))
          ]
