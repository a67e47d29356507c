-- What an event that moves a desk leaves at its end: no store, or the one that it did.
use Rattle.std.proofs.Common.{◌≡◌, ℕ, ◌+◌, ◌*◌, ◌≤◌, nat_lt, true, false, List, ◌∷◌, ◌++◌, length, take, drop, Option, Some, None, IfSome, inl, inr, ◌⊎◌, refl, sym, ap, subst, ◌∙◌, arith, length-append, length-drop, length-take}
use Rattle.std.specs.Prelude.{◌&&◌, ◌==◌, max}
use Rattle.std.proofs.lemmas.Bool.Decides.{nat_tests}
use Rattle.std.proofs.lemmas.Option.{same_Some}
use Rattle.uid_names.specs.Names.{ProcName, ObjectName, same_uid}
use Rattle.uid_names.specs.Openings.{Start}
use Rattle.uid_names.specs.declared.limits.TheConstants.{PAGE_BYTES}
use Rattle.uid_names.proofs.ListLemmas.{by_cases}
use Rattle.uid_names.proofs.Orders.{same_uid_is}
use Rattle.dom_history.specs.declared.op.Spot.{Spot}
use Rattle.dom_history.specs.Mappings.{target}
use Rattle.dom_history.specs.StoreEffects.{StoreEffect, Writes}
use Rattle.dom_history.specs.Bytes.{bytes_from, length_of}
use Rattle.page_cache.specs.Caches.{Resident, page_at}
use Rattle.page_cache.specs.Changes.{spliced}
use Rattle.fault_handler.specs.declared.lengths.Known.{Known}
use Rattle.fault_handler.specs.Lengths.{known_of, length_of as known_length}
use Rattle.fault_handler.specs.ShownPages.{written}
use Rattle.fault_handler.specs.Tasks.{page_of, start_of}
use Rattle.fault_handler.specs.Desks.{DeskState}
use Rattle.fault_handler.specs.Invariant.{IsDesk, IsShownPage, is_dirty}
use Rattle.fault_handler.proofs.PageLists.{is_same, same-uid, same-page}
use Rattle.lock_validate.specs.Causes.{Cause}
use Rattle.run_laws.specs.Items.{Item}
use Rattle.run_laws.proofs.Doings.{IsAccess, IsDone, task-access}
use Rattle.run_laws.proofs.StoresMoved.{bytes-are, length-is}
use Rattle.run_laws.proofs.NotedStores.{LeavesStores, left-value}
use Rattle.run_laws.proofs.StoredBytes.{put-again, page-put, page-elsewhere, page-apart, length-put, length-apart}

pub data Ending (opening : Start) (past later : List StoreEffect) (d : DeskState) (p : ℕ) (e : DeskState) (c : Cause) : Type 0 where
  quiet : (effects : List StoreEffect) → later ≡ effects ++ past → LeavesStores effects → Ending opening past later d p e c
  stored : (done : IsDone d p e c) (P : ProcName) (spot : Spot) → later ≡ Writes P spot done.bytes ∷ past → target opening past P spot ≡ Some (record { uid = done.task.uid; offset = done.task.offset })
      → start_of done.task + length done.bytes ≤ PAGE_BYTES → Ending opening past later d p e c

-- what was put in whole had that front
fits-front : (old bytes : List ℕ) (s : ℕ) → length (spliced old s bytes) ≡ PAGE_BYTES → s + length bytes ≤ PAGE_BYTES → s ≤ length old
fits-front old bytes s whole within = by_cases (nat_lt (length old) s) (s ≤ length old)
    (λ less.
    let under : length old ≤ s = grind (arith, nat_tests, less) in
    let a = length-append (take s old) (bytes ++ drop (s + length bytes) old) in
    let b = length-append bytes (drop (s + length bytes) old) in
    let h = length-drop (s + length bytes) old in
    let f = length-take s old in
    omega (arith, under, a, b, h, f, whole, within))
    (λ least. grind (arith, nat_tests, least))

module _ (opening : Start) (past later : List StoreEffect) (d : DeskState) (p : ℕ) (e : DeskState) (c : Cause) where
  abbrev was : ObjectName → ℕ → List ℕ
  was u k = bytes_from opening past u (PAGE_BYTES * k) PAGE_BYTES

  abbrev now : ObjectName → ℕ → List ℕ
  now u k = bytes_from opening later u (PAGE_BYTES * k) PAGE_BYTES

  quiet-page : (effects : List StoreEffect) → later ≡ effects ++ past → LeavesStores effects → (u : ObjectName) (k : ℕ) → now u k ≡ was u k
  quiet-page effects is leaves u k = ap (λ es. bytes_from opening es u (PAGE_BYTES * k) PAGE_BYTES) is ∙ bytes-are _ _ (left-value opening effects past leaves u (Item.Page k))

  quiet-length : (effects : List StoreEffect) → later ≡ effects ++ past → LeavesStores effects → (u : ObjectName) → length_of opening later u ≡ length_of opening past u
  quiet-length effects is leaves u = ap (λ es. length_of opening es u) is ∙ length-is _ _ (left-value opening effects past leaves u Item.Size)

  module _ (done : IsDone d p e c) (P : ProcName) (spot : Spot) (is : later ≡ Writes P spot done.bytes ∷ past) (at : target opening past P spot ≡ Some (record { uid = done.task.uid; offset = done.task.offset }))
      (within : start_of done.task + length done.bytes ≤ PAGE_BYTES) where
    other-page : (u : ObjectName) (k : ℕ) → is_same u k done.task.uid (page_of done.task) ≡ false → now u k ≡ was u k
    other-page u k differs = ap (λ es. bytes_from opening es u (PAGE_BYTES * k) PAGE_BYTES) is ∙ by_cases (same_uid done.task.uid u) (bytes_from opening (Writes P spot done.bytes ∷ past) u (PAGE_BYTES * k) PAGE_BYTES ≡ was u k)
        (λ same. page-elsewhere opening past P spot done.bytes done.task.uid done.task.offset at within u k (λ number. absurd (
        let a : same_uid u done.task.uid ≡ true = grind (arith, nat_tests, same) in
        let b : (k == page_of done.task) ≡ true = grind (arith, nat_tests, number) in
        let f : true ≡ false = sym (ap (λ x. x && (k == page_of done.task)) a ∙ b) ∙ differs in cc)))
        (λ apart. page-apart opening past P spot done.bytes done.task.uid done.task.offset at within u apart k)

    own : same_uid done.task.uid done.task.uid ≡ true
    own = grind (arith, nat_tests)

    this-page : now done.task.uid (page_of done.task) ≡ spliced (was done.task.uid (page_of done.task)) (start_of done.task) done.bytes
    this-page = ap (λ es. bytes_from opening es done.task.uid (PAGE_BYTES * page_of done.task) PAGE_BYTES) is ∙ sym (page-put opening past P spot done.bytes done.task.uid done.task.offset at within done.task.uid own)

    page-of-store : IsDesk e → (r : Resident) → page_at e.cache.pages done.task.uid (page_of done.task) ≡ Some r → (r.bytes ≡ was done.task.uid (page_of done.task)) ⊎ (r.bytes ≡ now done.task.uid (page_of done.task)) → r.bytes ≡ now done.task.uid (page_of done.task)
    page-of-store desk r found (inr so) = so
    page-of-store desk r found (inl so) =
        let one : r ≡ written (start_of done.task) done.bytes done.before = same_Some r (written (start_of done.task) done.bytes done.before) (sym found ∙ done.page) in
        let bytes : r.bytes ≡ spliced done.before.bytes (start_of done.task) done.bytes = ap (λ (x : Resident). x.bytes) one in
        let shown = subst (λ o. IfSome o (IsShownPage e.entries)) found (desk.pages.each done.task.uid (page_of done.task)) in
        let whole : length (spliced done.before.bytes (start_of done.task) done.bytes) ≡ PAGE_BYTES = ap length (sym bytes) ∙ shown.bytes in
        let again = put-again done.before.bytes done.bytes (start_of done.task) (fits-front done.before.bytes done.bytes (start_of done.task) whole within) in
        bytes ∙ (sym again ∙ (ap (λ x. spliced x (start_of done.task) done.bytes) (sym bytes ∙ so) ∙ sym this-page))

    length-of-store : length_of opening later done.task.uid ≡ max (length_of opening past done.task.uid) (done.task.offset + length done.bytes)
    length-of-store = ap (λ es. length_of opening es done.task.uid) is ∙ length-put opening past P spot done.bytes done.task.uid done.task.offset at within done.task.uid own

    length-other : (u : ObjectName) → same_uid done.task.uid u ≡ false → length_of opening later u ≡ length_of opening past u
    length-other u apart = ap (λ es. length_of opening es u) is ∙ length-apart opening past P spot done.bytes done.task.uid done.task.offset at within u apart

  module _ (ending : Ending opening past later d p e c) where
    -- what is one of both is as it is now
    pub page-end : IsDesk e → (u : ObjectName) (k : ℕ) (r : Resident) → page_at e.cache.pages u k ≡ Some r → (r.bytes ≡ was u k) ⊎ (r.bytes ≡ now u k) → r.bytes ≡ now u k
    page-end desk u k r found so = by ending so
      where
        by : Ending opening past later d p e c → (r.bytes ≡ was u k) ⊎ (r.bytes ≡ now u k) → r.bytes ≡ now u k
        by any (inr is) = is
        by (quiet effects is leaves) (inl same) = same ∙ sym (quiet-page effects is leaves u k)
        by (stored done P spot is at within) (inl same) = by_cases (is_same u k done.task.uid (page_of done.task)) (r.bytes ≡ now u k)
            (λ here.
            let a = same-uid u k done.task.uid (page_of done.task) here in
            let b = same-page u k done.task.uid (page_of done.task) here in
            subst (λ v. r.bytes ≡ now v k) (sym a) (subst (λ j. r.bytes ≡ now done.task.uid j) (sym b)
            (page-of-store done P spot is at within desk r (subst (λ v. page_at e.cache.pages v (page_of done.task) ≡ Some r) a (subst (λ j. page_at e.cache.pages u j ≡ Some r) b found))
            (inl (subst (λ v. r.bytes ≡ was v (page_of done.task)) a (subst (λ j. r.bytes ≡ was u j) b same))))))
            (λ apart. same ∙ sym (other-page done P spot is at within u k apart))

    -- a page that is clean was not stored to
    pub page-still : (u : ObjectName) (k : ℕ) → is_dirty (page_at e.cache.pages u k) ≡ false → now u k ≡ was u k
    page-still u k clean = by ending
      where
        by : Ending opening past later d p e c → now u k ≡ was u k
        by (quiet effects is leaves) = quiet-page effects is leaves u k
        by (stored done P spot is at within) = by_cases (is_same u k done.task.uid (page_of done.task)) (now u k ≡ was u k)
            (λ here. absurd (
            let a = same-uid u k done.task.uid (page_of done.task) here in
            let b = same-page u k done.task.uid (page_of done.task) here in
            let h : true ≡ false = sym (ap is_dirty done.page) ∙ subst (λ v. is_dirty (page_at e.cache.pages v (page_of done.task)) ≡ false) a (subst (λ j. is_dirty (page_at e.cache.pages u j) ≡ false) b clean) in cc))
            (λ apart. other-page done P spot is at within u k apart)

    end-row : (o : Option Known) (end : ℕ) → nat_lt (known_length o) end ≡ false → (a b : ℕ) → b ≡ max a end → (row : Known) → o ≡ Some row → (row.length ≡ a) ⊎ (row.length ≡ b) → row.length ≡ b
    end-row o end most a b is row found (inr so) = so
    end-row o end most a b is row found (inl so) =
        let least : end ≤ row.length = (let h : nat_lt row.length end ≡ false = ap (λ x. nat_lt (known_length x) end) (sym found) ∙ most in grind (arith, nat_tests, h)) in
        omega (arith, least, is, so)

    pub length-end : (u : ObjectName) (row : Known) → known_of u e.known ≡ Some row → (row.length ≡ length_of opening past u) ⊎ (row.length ≡ length_of opening later u) → row.length ≡ length_of opening later u
    length-end u row found so = by ending so
      where
        by : Ending opening past later d p e c → (row.length ≡ length_of opening past u) ⊎ (row.length ≡ length_of opening later u) → row.length ≡ length_of opening later u
        by (quiet effects is leaves) (inl same) = same ∙ sym (quiet-length effects is leaves u)
        by (quiet effects is leaves) (inr same) = same
        by (stored done P spot is at within) both = by_cases (same_uid done.task.uid u) (row.length ≡ length_of opening later u)
            (λ here.
            let a : done.task.uid ≡ u = same_uid_is done.task.uid u here in
            end-row (known_of u e.known) (done.task.offset + length done.bytes) (subst (λ v. nat_lt (known_length (known_of v e.known)) (done.task.offset + length done.bytes) ≡ false) a done.end)
            (length_of opening past u) (length_of opening later u) (subst (λ v. length_of opening later v ≡ max (length_of opening past v) (done.task.offset + length done.bytes)) a (length-of-store done P spot is at within)) row found both)
            (λ apart. elim both [ inl same ↦ same ∙ sym (length-other done P spot is at within u apart) | inr same ↦ same ])

    -- a length that is unchanged, and as it was where a page of the object is dirty
    pub length-still : (u : ObjectName) → (IsAccess c → (k : ℕ) (row : Known) → is_dirty (page_at e.cache.pages u k) ≡ true → known_of u e.known ≡ Some row → row.length ≡ length_of opening past u) → length_of opening later u ≡ length_of opening past u
    length-still u so = by ending
      where
        at-end : (o : Option Known) (end a b : ℕ) → nat_lt (known_length o) end ≡ false → ((row : Known) → o ≡ Some row → row.length ≡ a) → b ≡ max a end → b ≡ a
        at-end None end a b most row is = let h : end ≤ 0 = grind (arith, nat_tests, most) in omega (arith, h, is)
        at-end (Some k) end a b most row is = let l = row k refl in let h : end ≤ k.length = grind (arith, nat_tests, most) in omega (arith, h, l, is)

        by : Ending opening past later d p e c → length_of opening later u ≡ length_of opening past u
        by (quiet effects is leaves) = quiet-length effects is leaves u
        by (stored done P spot is at within) = by_cases (same_uid done.task.uid u) (length_of opening later u ≡ length_of opening past u)
            (λ here.
            let a : done.task.uid ≡ u = same_uid_is done.task.uid u here in
            at-end (known_of u e.known) (done.task.offset + length done.bytes) (length_of opening past u) (length_of opening later u)
            (subst (λ v. nat_lt (known_length (known_of v e.known)) (done.task.offset + length done.bytes) ≡ false) a done.end)
            (λ row found. so (task-access d p c done.task done.is) (page_of done.task) row (subst (λ v. is_dirty (page_at e.cache.pages v (page_of done.task)) ≡ true) a (ap is_dirty done.page)) found)
            (subst (λ v. length_of opening later v ≡ max (length_of opening past v) (done.task.offset + length done.bytes)) a (length-of-store done P spot is at within)))
            (λ apart. length-other done P spot is at within u apart)
