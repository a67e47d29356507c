-- What one store holds behind a stream that puts a text behind an object.
use Rattle.std.proofs.Common.{◌≡◌, ◌<◌, ◌≤◌, ◌+◌, ◌-◌, ◌*◌, min, ℕ, Bool, true, false, Some, List, [], ◌∷◌, ◌++◌, length, take, drop, refl, ap, ◌∙◌, sym, subst, arith, append-nil}
use Rattle.std.proofs.lemmas.List.{append_assoc, take-append-drop, length-take, length-drop}
use Rattle.uid_names.specs.Names.{ProcName, ObjectName}
use Rattle.uid_names.specs.Openings.{Start}
use Rattle.uid_names.specs.declared.limits.TheConstants.{PAGE_BYTES}
use Rattle.uid_names.specs.declared.mode.Mode.{Mode}
use Rattle.uid_names.specs.declared.mode.Mode.TheVariants.{Write}
use Rattle.dom_history.specs.declared.op.Spot.TheVariants.{Addr}
use Rattle.dom_history.specs.declared.deed.Deed.{Deed}
use Rattle.dom_history.specs.StoreEffects.{StoreEffect, TakesLock, store_effects}
use Rattle.dom_history.specs.Objects.{room_of}
use Rattle.dom_history.specs.Mappings.{target}
use Rattle.dom_history.specs.Bytes.{length_of, bytes_from}
use Rattle.naming_tree.specs.Sessions.{closers_if}
use Rattle.mapped_streams.specs.declared.step.StreamResult.TheVariants.{Fine}
use Rattle.mapped_streams.specs.declared.mapped.Opened.{Opened}
use Rattle.mapped_streams.specs.Pages.{end_of, room_at, store_behind, stores_at}
use Rattle.mapped_streams.specs.Dialogues.{Dialogue}
use Rattle.mapped_streams.specs.Streams.{shutting, storing, append}
use Rattle.mapped_streams.specs.OneStore.{come, behind, content, IsDone}
use Rattle.mapped_streams.proofs.Sound.{IsReached, IsSound}
use Rattle.mapped_streams.proofs.Contents.{content_stays}
use Rattle.mapped_streams.proofs.Reaching.{mapped_if, Opens, opens, opened_length}
use Rattle.mapped_streams.proofs.Storing.{shut_leaves, puts}

module _ (opening : Start) (p : ProcName) where
  -- an opening leaves what objects hold
  pub opened_holds : (past : List StoreEffect) (u v : ObjectName) (mode : Mode) (a : ℕ) (fresh : Bool) → content opening (mapped_if fresh p u a (TakesLock p u mode ∷ past)) v ≡ content opening past v
  opened_holds past u v mode a true = content_stays opening past (mapped_if true p u a (TakesLock p u mode ∷ past)) v refl (λ i. refl)
  opened_holds past u v mode a false = content_stays opening past (mapped_if false p u a (TakesLock p u mode ∷ past)) v refl (λ i. refl)

  -- where the two parts of a text go
  before_in : (n room all : ℕ) (place : ℕ) → n + all ≤ room → 1 ≤ min (room_at place) all → n < room
  before_in n room all place fits some = grind (arith, fits, some)

  behind_in : (n room all place : ℕ) → n + all ≤ room → 1 ≤ all - room_at place → n + room_at place < room
  behind_in n room all place fits some = omega (arith, fits, some)

  full_before : (all place : ℕ) → 1 ≤ all - room_at place → room_at place ≡ min (room_at place) all
  full_before all place some = grind (arith, some)

  abbrev append_further : ObjectName → List ℕ → Opened → Dialogue
  append_further u text o = storing (closers_if o.fresh u) (stores_at (end_of o.at) text) (shutting (closers_if o.fresh u) Fine)

  opened_put : (u : ObjectName) (text : List ℕ) (deeds : List Deed) → length_of opening (store_effects deeds) u + length text ≤ PAGE_BYTES * room_of opening (store_effects deeds) u → IsDone (come opening p (append u text) deeds) → Opens opening p u Write (append_further u text) deeds → content opening (store_effects (behind opening p (append u text) deeds)) u ≡ content opening (store_effects deeds) u ++ text
  opened_put u text deeds fits done w =
      let past = store_effects deeds in
      let held = closers_if w.o.fresh u in
      let end = shutting held Fine in
      let n = w.o.at.length in
      let place = end_of w.o.at in
      let room = room_at place in
      let front = take room text in
      let back = drop room text in
      let all = PAGE_BYTES * room_of opening past u in
      let fits_n : n + length text ≤ all = subst (λ m. m + length text ≤ all) (sym w.long) fits in
      let long : length_of opening (store_effects w.later) u ≡ n = ap (λ x. length_of opening x u) w.effects ∙ opened_length opening p past u u Write w.o.at.address w.o.fresh ∙ sym w.long in
      let one = puts opening p u place n front held (store_behind place text) end w.later (λ some. w.reached n (before_in n all (length text) place fits_n (subst (λ m. 1 ≤ m) (length-take room text) some))) long (subst IsDone w.comes done) in
      let done1 = subst IsDone one.comes (subst IsDone w.comes done) in
      let nothing = append-nil (store_behind place text) in
      let two = puts opening p u (place + room) (n + length front) back held [] end one.later (λ some. second w.o.at.address n all one.later (one.kept w.o.at.address all w.reached) fits_n (subst (λ m. 1 ≤ m) (length-drop room text) some)) one.long (subst (λ ops. IsDone (come opening p (storing held ops end) one.later)) (sym nothing) done1) in
      let leads = w.leads ∙ one.leads ∙ ap (λ ops. behind opening p (storing held ops end) one.later) (sym nothing) ∙ two.leads in
      let done2 = subst IsDone two.comes (subst (λ ops. IsDone (come opening p (storing held ops end) one.later)) (sym nothing) done1) in
      ap (λ ds. content opening (store_effects ds) u) leads
      ∙ shut_leaves opening p w.o.fresh u u Fine two.later done2
      ∙ ap (λ m. bytes_from opening (store_effects two.later) u 0 m) two.long
      ∙ two.holds
      ∙ ap (λ bytes. bytes ++ back) one.holds
      ∙ append_assoc (bytes_from opening (store_effects w.later) u 0 n) front back
      ∙ ap (λ bytes. bytes_from opening (store_effects w.later) u 0 n ++ bytes) (take-append-drop room text)
      ∙ ap (λ m. bytes_from opening (store_effects w.later) u 0 m ++ text) (sym long)
      ∙ ap (λ x. content opening x u ++ text) w.effects
      ∙ ap (λ bytes. bytes ++ text) (opened_holds past u u Write w.o.at.address w.o.fresh)
    where
      second : (address n all : ℕ) (later : List Deed) → IsReached opening (store_effects later) p u address all → n + length text ≤ all → 1 ≤ length text - room_at (address + n) → target opening (store_effects later) p (Addr (address + n + room_at (address + n))) ≡ Some (record { uid = u; offset = n + length (take (room_at (address + n)) text) })
      second address n all later reached fits some =
          let room = room_at (address + n) in
          let full : room ≡ length (take room text) = full_before (length text) (address + n) some ∙ sym (length-take room text) in
          let place : address + n + room ≡ address + (n + room) = omega arith in
          ap (λ x. target opening (store_effects later) p (Addr x)) place
          ∙ reached (n + room) (behind_in n all (length text) (address + n) fits some)
          ∙ ap (λ m. Some (record { uid = u; offset = n + m })) full

  -- a text with room for it is put behind what was there
  pub text_put : (u : ObjectName) (text : List ℕ) (deeds : List Deed) → IsSound opening (store_effects deeds) p → length_of opening (store_effects deeds) u + length text ≤ PAGE_BYTES * room_of opening (store_effects deeds) u → IsDone (come opening p (append u text) deeds) → content opening (store_effects (behind opening p (append u text) deeds)) u ≡ content opening (store_effects deeds) u ++ text
  text_put u text deeds sound fits done = opened_put u text deeds fits done (opens opening p u Write (append_further u text) deeds sound done)
