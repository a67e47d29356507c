-- What rows in order say of the volume that they are.
use Rattle.std.proofs.Common.{◌≡◌, ℕ, List, [], ◌∷◌, length, map, get_or, set, ap, sym, ◌∙◌, subst, refl, T}
use Rattle.std.specs.Prelude.{Bool, true, false, filter, IsTrue, None, cond, unwrap_or, Result, Ok, Err, MatchResult}
use Rattle.std.specs.List.{insert}
use Rattle.std.specs.List.Sorted.{IsBinarySearchResult, IsSearchInRange}
use Rattle.std.specs.FinMap.{put, find, is_sorted, entries-from_sorted, get-from_sorted, entries-insert, same_entries_map, same_map, get-retain_keys, len-entries, empty_of_len}
use Rattle.std.specs.FinMap.Entries.{where_key, is_sorted-put, is_sorted-where_key, find-where_key}
use Rattle.page_store.specs.Volumes.{PageName, page_cmp, page_of, with_page, without_object, zeros, no_pages, is_other}
use Rattle.page_store.specs.declared.list_pages.PageRow.{PageRow}
use Rattle.page_store.specs.Rows.{name_of, entry_of, AreInOrder, volume_of, StandsAt, WouldStandAt}
use Rattle.page_store.proofs.Orders.{page_cmp-total, page_cmp-IsAntisymmetric, is_other-tied}
use Rattle.page_store.proofs.Searched.{IsNonDecreasingBy-answers, find-at, find-between, put-at, put-between}

-- a true test, in the two forms that std has
T-from : (b : Bool) → IsTrue b → T b
T-from true h = tt
T-from false h = cc

-- and back
T-into : (b : Bool) → T b → IsTrue b
T-into true h = refl
T-into false h = absurd h

-- what a binary search by the name answers
pub placed : (rows : List PageRow) (name : PageName) (r : Result ℕ ℕ) → AreInOrder rows → IsSearchInRange r (length rows)
    → IsBinarySearchResult (λ row. page_cmp (name_of row) name) rows r → MatchResult r (StandsAt rows name) (WouldStandAt rows name)
placed rows name (Ok at) h bound found = record { within = bound; named = found }
placed rows name (Err at) h bound found =
    let parts = found (IsNonDecreasingBy-answers page_cmp-total name_of (λ row. row.bytes) rows name h) in
    record { within = bound; before = parts.0; behind = parts.1 }

-- no row is no page
pub volume_of-nil : volume_of [] ≡ no_pages
volume_of-nil = empty_of_len (volume_of []) (len-entries (volume_of []) ∙ ap (λ (es : List (PageName × List ℕ)). length es) (entries-from_sorted page_cmp [] tt))

-- a page is what is found under its name
page_of-found : (rows : List PageRow) (counter page : ℕ) → AreInOrder rows
    → page_of (volume_of rows) counter page ≡ unwrap_or (find page_cmp (counter, page) (map entry_of rows)) zeros
page_of-found rows counter page h = ap (λ o. unwrap_or o zeros) (get-from_sorted page_cmp (map entry_of rows) (counter, page) (T-from _ h))

-- the page of a row
pub page_of-StandsAt : (rows : List PageRow) (counter page at : ℕ) (d : PageRow) → AreInOrder rows → StandsAt rows (counter, page) at
    → (get_or rows at d).bytes ≡ page_of (volume_of rows) counter page
page_of-StandsAt rows counter page at d h s =
    sym (page_of-found rows counter page h ∙ ap (λ o. unwrap_or o zeros) (find-at page_cmp-total name_of (λ row. row.bytes) rows (counter, page) at d h s.within (s.named d)))

-- a page without a row
pub page_of-WouldStandAt : (rows : List PageRow) (counter page at : ℕ) → AreInOrder rows → WouldStandAt rows (counter, page) at
    → zeros ≡ page_of (volume_of rows) counter page
page_of-WouldStandAt rows counter page at h s =
    sym (page_of-found rows counter page h ∙ ap (λ o. unwrap_or o zeros) (find-between page_cmp-total name_of (λ row. row.bytes) rows (counter, page) at s.before s.behind))

-- rows whose entries are those of a put
put-rows : (rows new : List PageRow) (counter page : ℕ) (bytes : List ℕ) → AreInOrder rows → put page_cmp (counter, page) bytes (map entry_of rows) ≡ map entry_of new
    → AreInOrder new × (volume_of new ≡ with_page (volume_of rows) counter page bytes)
put-rows rows new counter page bytes h e =
    let old-sorted : T (is_sorted page_cmp (map entry_of rows)) = T-from _ h in
    let put-sorted : T (is_sorted page_cmp (put page_cmp (counter, page) bytes (map entry_of rows))) = is_sorted-put page_cmp page_cmp-total (counter, page) bytes (map entry_of rows) old-sorted in
    let new-sorted : T (is_sorted page_cmp (map entry_of new)) = subst (λ es. T (is_sorted page_cmp es)) e put-sorted in (
      T-into _ new-sorted,
      same_entries_map (volume_of new) (with_page (volume_of rows) counter page bytes)
          (entries-from_sorted page_cmp (map entry_of new) new-sorted ∙ sym e
          ∙ ap (put page_cmp (counter, page) bytes) (sym (entries-from_sorted page_cmp (map entry_of rows) old-sorted))
          ∙ sym (entries-insert page_cmp-total (volume_of rows) (counter, page) bytes)),
    )

-- the page's row written over
pub put-StandsAt : (rows : List PageRow) (counter page : ℕ) (bytes : List ℕ) (at : ℕ) (d : PageRow) → AreInOrder rows → StandsAt rows (counter, page) at
    → let new = set rows at (record (get_or rows at d) { bytes = bytes }) in AreInOrder new × (volume_of new ≡ with_page (volume_of rows) counter page bytes)
put-StandsAt rows counter page bytes at d h s =
    put-rows rows (set rows at (record (get_or rows at d) { bytes = bytes })) counter page bytes h
    (put-at page_cmp-total name_of (λ row. row.bytes) rows (counter, page) bytes at d (record (get_or rows at d) { bytes = bytes }) h s.within (s.named d) refl refl)

-- a new row in its place
pub put-WouldStandAt : (rows : List PageRow) (row : PageRow) (at : ℕ) → AreInOrder rows → WouldStandAt rows (name_of row) at
    → AreInOrder (insert rows at row) × (volume_of (insert rows at row) ≡ with_page (volume_of rows) row.counter row.page row.bytes)
put-WouldStandAt rows row at h s =
    put-rows rows (insert rows at row) row.counter row.page row.bytes h
    (put-between page_cmp-total name_of (λ r. r.bytes) rows row at s.within s.before s.behind)

-- to keep rows is to keep their entries
where_key-map : (rows : List PageRow) (counter : ℕ) → where_key page_cmp (is_other counter) (map entry_of rows) ≡ map entry_of (filter (λ row. is_other counter (name_of row)) rows)
where_key-map [] counter = refl
where_key-map (row ∷ rows) counter =
    elim (is_other counter (name_of row)) as (λ b.
    cond b (entry_of row ∷ where_key page_cmp (is_other counter) (map entry_of rows)) (where_key page_cmp (is_other counter) (map entry_of rows))
    ≡ map entry_of (cond b (row ∷ filter (λ r. is_other counter (name_of r)) rows) (filter (λ r. is_other counter (name_of r)) rows))) [
      | true ↦ ap (λ es. entry_of row ∷ es) (where_key-map rows counter)
      | false ↦ where_key-map rows counter
    ]

-- the rows of all other objects
pub dropped : (rows new : List PageRow) (counter : ℕ) → AreInOrder rows → new ≡ filter (λ row. is_other counter (name_of row)) rows
    → AreInOrder new × (volume_of new ≡ without_object (volume_of rows) counter)
dropped rows new counter h e =
    let kept : map entry_of new ≡ where_key page_cmp (is_other counter) (map entry_of rows) = ap (map entry_of) e ∙ sym (where_key-map rows counter) in
    let old-sorted : T (is_sorted page_cmp (map entry_of rows)) = T-from _ h in
    let new-sorted : T (is_sorted page_cmp (map entry_of new)) = subst (λ es. T (is_sorted page_cmp es)) (sym kept) (is_sorted-where_key page_cmp (is_other counter) (map entry_of rows) old-sorted) in (
      T-into _ new-sorted,
      same_map page_cmp-total page_cmp-IsAntisymmetric (volume_of new) (without_object (volume_of rows) counter)
          (λ q.
          get-from_sorted page_cmp (map entry_of new) q new-sorted
          ∙ ap (find page_cmp q) kept
          ∙ find-where_key page_cmp (is_other counter) q (λ p t. is_other-tied counter p q t) (map entry_of rows)
          ∙ ap (λ o. cond (is_other counter q) o None) (sym (get-from_sorted page_cmp (map entry_of rows) q old-sorted))
          ∙ sym (get-retain_keys (volume_of rows) (is_other counter) q (λ p t. is_other-tied counter p q t))),
    )
