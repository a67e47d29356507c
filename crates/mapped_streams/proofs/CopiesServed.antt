-- What one store holds behind a stream that copies an object.
use Rattle.std.proofs.Common.{◌≡◌, ◌<◌, ◌≤◌, ◌+◌, ◌-◌, ◌*◌, min, ℕ, zero, suc, false, Some, List, ◌∷◌, ◌++◌, length, refl, ap, ◌∙◌, sym, subst, arith}
use Rattle.std.specs.Int.{div_ceil}
use Rattle.std.specs.List.{range_with_len}
use Rattle.uid_names.specs.Names.{ProcName, ObjectName, same_uid}
use Rattle.uid_names.specs.Openings.{Start}
use Rattle.uid_names.specs.declared.limits.TheConstants.{PAGE_BYTES}
use Rattle.uid_names.specs.declared.mode.Mode.TheVariants.{Write}
use Rattle.dom_history.specs.declared.op.Op.{Op}
use Rattle.dom_history.specs.declared.op.Spot.TheVariants.{Addr}
use Rattle.dom_history.specs.declared.deed.Deed.{Deed}
use Rattle.dom_history.specs.StoreEffects.{StoreEffect, Writes, store_effects}
use Rattle.dom_history.specs.Objects.{room_of}
use Rattle.dom_history.specs.Mappings.{Mapping, mappings}
use Rattle.dom_history.specs.Replies.{before_of, mapping_of}
use Rattle.uid_names.proofs.Orders.{same_uid_is}
use Rattle.uid_names.proofs.Finds.{find-passes}
use Rattle.dom_history.specs.Bytes.{length_of, bytes_from}
use Rattle.naming_tree.specs.Entering.{pages}
use Rattle.naming_tree.specs.Sessions.{fine, bytes, closers_if}
use Rattle.mapped_streams.specs.declared.step.StreamResult.TheVariants.{Fine}
use Rattle.mapped_streams.specs.declared.mapped.Mapped.{Mapped}
use Rattle.mapped_streams.specs.declared.mapped.Opened.{Opened}
use Rattle.mapped_streams.specs.Pages.{page_load, page_store, bytes_in, pages_from}
use Rattle.mapped_streams.specs.Dialogues.{Dialogue}
use Rattle.mapped_streams.specs.Streams.{ask, shutting, copying, copy}
use Rattle.mapped_streams.specs.OneStore.{answer, answered, come, behind, content, source_at, IsDone}
use Rattle.mapped_streams.proofs.Sound.{IsReached, IsSound}
use Rattle.mapped_streams.proofs.Serving.{goes, is_fine}
use Rattle.mapped_streams.proofs.Contents.{bytes_joined, bytes_stay, length_written, content_written, byte_elsewhere, length_of_bytes}
use Rattle.mapped_streams.proofs.Reaching.{Opens, opens, opened_bytes, opened_length}
use Rattle.mapped_streams.proofs.ReadsServed.{page_loaded, past_end, in_end, next_page}
use Rattle.mapped_streams.proofs.Storing.{shut_leaves, stored_effect}

-- how many of n bytes lie below a page
abbrev below : ℕ → ℕ → ℕ
below n page = min (page * PAGE_BYTES) n

below_all : (n page : ℕ) → 0 ≡ div_ceil n PAGE_BYTES - page → below n page ≡ n
below_all n page e =
    let past = past_end n page e in
    grind (arith, past)

below_page : (n page : ℕ) → page * PAGE_BYTES < n → below n page ≡ page * PAGE_BYTES
below_page n page h = grind (arith, h)

below_next : (n page : ℕ) → page * PAGE_BYTES < n → page * PAGE_BYTES + min PAGE_BYTES (n - page * PAGE_BYTES) ≡ below n (page + 1)
below_next n page h = grind (arith, h)

below_none : (n : ℕ) → below n 0 ≡ 0
below_none n = grind arith

none_before : (n : ℕ) → 0 + n ≡ n
none_before n = omega arith

module _ (opening : Start) (p : ProcName) (from to : ObjectName) (other : same_uid to from ≡ false) (source target : Mapped) where
  -- the pages below one were copied
  pub record Copied (page : ℕ) (deeds : List Deed) : Type 0 where
    pub source_reached : IsReached opening (store_effects deeds) p from source.address source.length
    pub target_reached : IsReached opening (store_effects deeds) p to target.address source.length
    pub long : length_of opening (store_effects deeds) to ≡ below source.length page
    pub same : bytes_from opening (store_effects deeds) to 0 (below source.length page) ≡ bytes_from opening (store_effects deeds) from 0 (below source.length page)

  -- all were
  pub record Copies (ps : List ℕ) (held : List Op) (end : Dialogue) (deeds : List Deed) : Type 0 where
    pub later : List Deed
    pub comes : come opening p (copying held source target ps end) deeds ≡ come opening p end later
    pub leads : behind opening p (copying held source target ps end) deeds ≡ behind opening p end later
    pub long : length_of opening (store_effects later) to ≡ source.length
    pub same : bytes_from opening (store_effects later) to 0 source.length ≡ bytes_from opening (store_effects deeds) from 0 source.length

  -- one more is stored
  page_stored : (page : ℕ) (deeds : List Deed) (more : List ℕ) (later : List StoreEffect) → Copied page deeds → page * PAGE_BYTES < source.length → more ≡ bytes_from opening (store_effects deeds) from (page * PAGE_BYTES) (bytes_in source page) → later ≡ Writes p (Addr (target.address + page * PAGE_BYTES)) more ∷ store_effects deeds → (length_of opening later to ≡ below source.length (page + 1)) × (bytes_from opening later to 0 (below source.length (page + 1)) ≡ bytes_from opening later from 0 (below source.length (page + 1)))
  page_stored page deeds more later c h loaded effects =
      let past = store_effects deeds in
      let o = page * PAGE_BYTES in
      let spot = Addr (target.address + o) in
      let here = c.target_reached o h in
      let long : length_of opening past to ≡ o = c.long ∙ below_page source.length page h in
      let size : o + length more ≡ below source.length (page + 1) = ap (λ bytes. o + length bytes) loaded ∙ ap (λ n. o + n) (length_of_bytes opening past from o (bytes_in source page)) ∙ below_next source.length page h in
      let same : bytes_from opening past to 0 o ≡ bytes_from opening past from 0 o = subst (λ n. bytes_from opening past to 0 n ≡ bytes_from opening past from 0 n) (below_page source.length page h) c.same in
      let size_there : o + bytes_in source page ≡ below source.length (page + 1) = below_next source.length page h in
      let stays : bytes_from opening (Writes p spot more ∷ past) from 0 (below source.length (page + 1)) ≡ bytes_from opening past from 0 (below source.length (page + 1)) = bytes_stay opening past (Writes p spot more ∷ past) from 0 (below source.length (page + 1)) (λ i inside. byte_elsewhere opening past p spot more to o here from other (0 + i)) in (
        ap (λ x. length_of opening x to) effects ∙ length_written opening past p spot more to o here long ∙ size,
        ap (λ x. bytes_from opening x to 0 (below source.length (page + 1))) effects
            ∙ ap (λ n. bytes_from opening (Writes p spot more ∷ past) to 0 n) (sym size)
            ∙ content_written opening past p spot more to o here long
            ∙ ap (λ bytes. bytes ++ more) same
            ∙ ap (λ bytes. bytes_from opening past from 0 o ++ bytes) loaded
            ∙ ap (λ n. bytes_from opening past from 0 o ++ bytes_from opening past from n (bytes_in source page)) (sym (none_before o))
            ∙ bytes_joined opening past from 0 o (bytes_in source page)
            ∙ ap (λ n. bytes_from opening past from 0 n) size_there
            ∙ sym stays
            ∙ ap (λ x. bytes_from opening x from 0 (below source.length (page + 1))) (sym effects),
      )

  copied_more : (page : ℕ) (deeds later : List Deed) (more : List ℕ) → Copied page deeds → page * PAGE_BYTES < source.length → more ≡ bytes_from opening (store_effects deeds) from (page * PAGE_BYTES) (bytes_in source page) → store_effects later ≡ Writes p (Addr (target.address + page * PAGE_BYTES)) more ∷ store_effects deeds → Copied (page + 1) later
  copied_more page deeds later more c h loaded effects =
      let stored = page_stored page deeds more (store_effects later) c h loaded effects in
      record {
        source_reached = subst (λ x. IsReached opening x p from source.address source.length) (sym effects) c.source_reached;
        target_reached = subst (λ x. IsReached opening x p to target.address source.length) (sym effects) c.target_reached;
        long = stored.0;
        same = stored.1;
      }

  source_stays : (page : ℕ) (deeds later : List Deed) (more : List ℕ) → Copied page deeds → page * PAGE_BYTES < source.length → store_effects later ≡ Writes p (Addr (target.address + page * PAGE_BYTES)) more ∷ store_effects deeds → bytes_from opening (store_effects later) from 0 source.length ≡ bytes_from opening (store_effects deeds) from 0 source.length
  source_stays page deeds later more c h effects =
      let past = store_effects deeds in
      let o = page * PAGE_BYTES in
      let spot = Addr (target.address + o) in
      ap (λ x. bytes_from opening x from 0 source.length) effects
      ∙ bytes_stay opening past (Writes p spot more ∷ past) from 0 source.length (λ i inside. byte_elsewhere opening past p spot more to o (c.target_reached o h) from other (0 + i))

  copies : (k page : ℕ) (held : List Op) (end : Dialogue) (deeds : List Deed) → k ≡ pages source.length - page → Copied page deeds → IsDone (come opening p (copying held source target (range_with_len page k) end) deeds) → Copies (range_with_len page k) held end deeds
  copies zero page held end deeds e c done =
      let all = below_all source.length page e in
      record {
        later = deeds;
        comes = refl;
        leads = refl;
        long = c.long ∙ all;
        same = subst (λ n. bytes_from opening (store_effects deeds) to 0 n ≡ bytes_from opening (store_effects deeds) from 0 n) all c.same;
      }
  copies (suc k) page held end deeds e c done =
      let h = in_end source.length page k e in
      let ps = range_with_len (page + 1) k in
      let load = page_load source page in
      let g1 = goes opening p bytes held load (λ some. ask fine held (page_store target page some) (λ _. copying held source target ps end)) deeds done in
      let d1 = answered opening p deeds load in
      let more = page_loaded opening p from deeds source page g1.at (c.source_reached (page * PAGE_BYTES) h) g1.told in
      let store = page_store target page g1.at in
      let done1 = subst IsDone g1.comes done in
      let g2 = goes opening p fine held store (λ _. copying held source target ps end) d1 done1 in
      let d2 = answered opening p d1 store in
      let effects = stored_effect opening p d1 (Addr (target.address + page * PAGE_BYTES)) g1.at (is_fine (answer opening p d1 store) g2.at g2.told) in
      let further = copies k (page + 1) held end d2 (next_page (pages source.length) page k e) (copied_more page deeds d2 g1.at c h more effects) (subst IsDone g2.comes done1) in
      record {
        later = further.later;
        comes = g1.comes ∙ g2.comes ∙ further.comes;
        leads = g1.leads ∙ g2.leads ∙ further.leads;
        long = further.long;
        same = further.same ∙ source_stays page deeds d2 g1.at c h effects;
      }

module _ (opening : Start) (p : ProcName) (from to : ObjectName) (source : Mapped) (deeds : List Deed) (other : same_uid to from ≡ false) (reached : IsReached opening (store_effects deeds) p from source.address source.length) (whole : source.length ≡ length_of opening (store_effects deeds) from) (empty : length_of opening (store_effects deeds) to ≡ 0) (fits : source.length ≤ PAGE_BYTES * room_of opening (store_effects deeds) to) where
  abbrev copy_further : Opened → Dialogue
  copy_further o = copying (closers_if o.fresh to) source o.at (pages_from source 0) (shutting (closers_if o.fresh to) Fine)

  begins : (w : Opens opening p to Write copy_further deeds) → Copied opening p from to other source w.o.at 0 w.later
  begins w =
      let none = below_none source.length in
      record {
        source_reached = w.kept from source.address source.length reached;
        target_reached = λ o h. w.reached o (omega (arith, h, fits));
        long = ap (λ x. length_of opening x to) w.effects ∙ opened_length opening p (store_effects deeds) to to Write w.o.at.address w.o.fresh ∙ empty ∙ sym none;
        same = subst (λ n. bytes_from opening (store_effects w.later) to 0 n ≡ bytes_from opening (store_effects w.later) from 0 n) (sym none) refl;
      }

  all_put : IsDone (come opening p (copy source to) deeds) → (w : Opens opening p to Write copy_further deeds) → Copies opening p from to other source w.o.at (pages_from source 0) (closers_if w.o.fresh to) (shutting (closers_if w.o.fresh to) Fine) w.later → content opening (store_effects (behind opening p (copy source to) deeds)) to ≡ content opening (store_effects deeds) from
  all_put done w all =
      let past = store_effects deeds in
      ap (λ ds. content opening (store_effects ds) to) (w.leads ∙ all.leads)
      ∙ shut_leaves opening p w.o.fresh to to Fine all.later (subst IsDone (w.comes ∙ all.comes) done)
      ∙ ap (λ n. bytes_from opening (store_effects all.later) to 0 n) all.long
      ∙ all.same
      ∙ ap (λ x. bytes_from opening x from 0 source.length) w.effects
      ∙ opened_bytes opening p past to from Write w.o.at.address w.o.fresh 0 source.length
      ∙ ap (λ n. bytes_from opening past from 0 n) whole

  opened_copy : IsDone (come opening p (copy source to) deeds) → Opens opening p to Write copy_further deeds → content opening (store_effects (behind opening p (copy source to) deeds)) to ≡ content opening (store_effects deeds) from
  opened_copy done w = all_put done w (copies opening p from to other source w.o.at (pages source.length - 0) 0 (closers_if w.o.fresh to) (shutting (closers_if w.o.fresh to) Fine) w.later refl (begins w) (subst IsDone w.comes done))

-- an object that was empty, and has room, holds what the source holds
pub copy_put : (opening : Start) (p : ProcName) (from to : ObjectName) (source : Mapped) (deeds : List Deed) → IsSound opening (store_effects deeds) p → same_uid to from ≡ false → IsReached opening (store_effects deeds) p from source.address source.length → source.length ≡ length_of opening (store_effects deeds) from → length_of opening (store_effects deeds) to ≡ 0 → source.length ≤ PAGE_BYTES * room_of opening (store_effects deeds) to → IsDone (come opening p (copy source to) deeds) → content opening (store_effects (behind opening p (copy source to) deeds)) to ≡ content opening (store_effects deeds) from
copy_put opening p from to source deeds sound other reached whole empty fits done =
    opened_copy opening p from to source deeds other reached whole empty fits done (opens opening p to Write (copy_further opening p from to source deeds other reached whole empty fits) deeds sound done)

-- so does a copy of an object that is mapped
pub mapped_copy : (opening : Start) (p : ProcName) (from to : ObjectName) (m : Mapping) (deeds : List Deed) → IsSound opening (store_effects deeds) p → same_uid to from ≡ false → mapping_of (before_of opening deeds p) p from ≡ Some m → length_of opening (store_effects deeds) to ≡ 0 → length_of opening (store_effects deeds) from ≤ PAGE_BYTES * room_of opening (store_effects deeds) to → IsDone (come opening p (copy (source_at opening (store_effects deeds) m) to) deeds) → content opening (store_effects (behind opening p (copy (source_at opening (store_effects deeds) m) to) deeds)) to ≡ content opening (store_effects deeds) from
mapped_copy opening p from to m deeds sound other mapped empty fits done =
    let past = store_effects deeds in
    let own : from ≡ m.uid = same_uid_is from m.uid (find-passes (λ n. same_uid from n.uid) (mappings p past) m mapped) in
    let long : length_of opening past m.uid ≡ length_of opening past from = ap (λ u. length_of opening past u) (sym own) in
    let within = sound.lengths from in
    copy_put opening p from to (source_at opening past m) deeds sound other (λ o h. sound.reached from m mapped o (omega (arith, h, long, within))) long empty (subst (λ n. n ≤ PAGE_BYTES * room_of opening past to) (sym long) fits) done
