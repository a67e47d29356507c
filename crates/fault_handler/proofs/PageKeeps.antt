-- Changes of resident pages keep what each desk keeps.
use Rattle.std.proofs.Common.{◌≡◌, ℕ, ◌+◌, ◌≤◌, true, false, List, ◌++◌, length, take, drop, Option, Some, None, IfSome, refl, sym, subst, ◌∙◌, arith, length-append, length-drop, inl, inr, ◌⊎◌}
use Rattle.std.specs.Prelude.{not}
use Rattle.std.proofs.lemmas.List.{length-take}
use Rattle.uid_names.specs.Names.{ObjectName, same_uid}
use Rattle.uid_names.specs.declared.limits.TheConstants.{PAGE_BYTES}
use Rattle.page_cache.specs.Caches.{Resident, is_of, is_page, page_at}
use Rattle.page_cache.specs.Changes.{spliced, without_page, without_object, used}
use Rattle.uid_names.proofs.ListLemmas.{by_cases, count_by-filter-le}
use Rattle.uid_names.proofs.Orders.{same_uid_is}
use Rattle.fault_handler.specs.declared.entries.LockEntry.{LockEntry}
use Rattle.fault_handler.specs.Entries.{keeps_writing}
use Rattle.fault_handler.specs.ShownPages.{changed_page, written, as_sent}
use Rattle.fault_handler.specs.Transits.{is_moving}
use Rattle.fault_handler.specs.Desks.{DeskState, at, entry_at, any_writes, moving_of, is_in_transit_there}
use Rattle.fault_handler.specs.Changes.{with_pages, with_used, with_stored, with_dropped, with_no_page, with_sent_again}
use Rattle.fault_handler.specs.Invariant.{IsProc, IsShownPage, ArePages, IsDesk}
use Rattle.fault_handler.proofs.Fours.{any-at, any-not}
use Rattle.fault_handler.proofs.PageLists.{is_same, AreOnce, found-uid, same-uid, same-page, page_at-used, count_by-used, page_at-without_same, page_at-without_other, page_at-without_object_same, page_at-without_object_other}
use Rattle.fault_handler.proofs.Alike.{Alike, Alike-same, ArePages-changed, Alike-changed}
use Rattle.fault_handler.proofs.MovingOthers.{AreMoved-alike, AreOpen-alike}

-- other pages, where those that processes move are alike
pub IsDesk-pages : (d : DeskState) (new : List Resident) → IsDesk d → ArePages new d.entries
    → ((q : ℕ) → IsProc q → (v : ObjectName) (j : ℕ) → is_moving v j (moving_of d q) ≡ true → Alike d.cache.pages new v j) → IsDesk (with_pages d new)
IsDesk-pages d new is are alike = record {
  four = record { entries = is.four.entries; maps = is.four.maps; calls = is.four.calls; tasks = is.four.tasks; moving = is.four.moving };
  frames = is.frames;
  maps = is.maps;
  pages = are;
  moved = AreMoved-alike d.cache.reserved d.cache.pages new d.entries d.moving is.moved alike;
  calls = AreOpen-alike d.cache.pages new d.entries d.calls d.tasks d.moving is.calls alike;
  entries = is.entries;
  known = is.known;
  lengths = is.lengths;
  at_nodes = is.at_nodes;
}

-- a page was used
pub IsDesk-with_used : (d : DeskState) (u : ObjectName) (k : ℕ) → IsDesk d → IsDesk (with_used d u k)
IsDesk-with_used d u k is =
    IsDesk-pages d (used d.cache.pages u k) is
    (record {
      once = λ v j. rw (count_by-used d.cache.pages u k is.pages.once (is_page v j)) (is.pages.once v j);
      each = λ v j. subst (λ (o : Option Resident). IfSome o (IsShownPage d.entries)) (sym (page_at-used d.cache.pages u k v j)) (is.pages.each v j);
    })
    (λ q proc v j moves. Alike-same d.cache.pages (used d.cache.pages u k) v j (page_at-used d.cache.pages u k v j))

-- bytes that are put among others leave as many
pub length-spliced : (old : List ℕ) (offset : ℕ) (bytes : List ℕ) → offset + length bytes ≤ length old → length (spliced old offset bytes) ≡ length old
length-spliced old offset bytes within =
    omega (
      arith,
      length-append (take offset old) (bytes ++ drop (offset + length bytes) old),
      length-append bytes (drop (offset + length bytes) old),
      length-take offset old,
      length-drop (offset + length bytes) old,
    )

-- a page changed in its place, which stays as dirty
IsDesk-changed : (d : DeskState) (u : ObjectName) (k : ℕ) (change : Resident → Resident) → IsDesk d → ((v : ObjectName) (j : ℕ) (r : Resident) → is_page v j (change r) ≡ is_page v j r)
    → ((r : Resident) → r.flags.dirty ≡ true → (change r).flags.dirty ≡ true)
    → ((r : Resident) → page_at d.cache.pages u k ≡ Some r → IsShownPage d.entries r → IsShownPage d.entries (change r)) → IsDesk (with_pages d (changed_page u k change d.cache.pages))
IsDesk-changed d u k change is names dirt after =
    IsDesk-pages d (changed_page u k change d.cache.pages) is
    (ArePages-changed u k change names d.cache.pages d.entries is.pages after)
    (λ q proc v j moves. Alike-changed u k change names d.cache.pages dirt v j)

-- bytes were stored in a page, by a process that keeps the object in a mode that writes
pub IsDesk-with_stored : (d : DeskState) (u : ObjectName) (k offset : ℕ) (bytes : List ℕ) (p : ℕ) → IsDesk d → IsProc p → offset + length bytes ≤ PAGE_BYTES → keeps_writing (entry_at d.entries p u) ≡ true → IsDesk (with_stored d u k offset bytes)
IsDesk-with_stored d u k offset bytes p is proc within writes =
    IsDesk-changed (with_used d u k) u k (written offset bytes) (IsDesk-with_used d u k is) (λ v j r. refl) (λ r h. refl) after
  where
    after : (r : Resident) → page_at (used d.cache.pages u k) u k ≡ Some r → IsShownPage d.entries r → IsShownPage d.entries (written offset bytes r)
    after r found shown = record {
      page = shown.page;
      bytes = let whole = shown.bytes in length-spliced r.bytes offset bytes (omega arith) ∙ whole;
      written = λ dirty. subst (λ (v : ObjectName). any_writes d.entries v ≡ true) (sym (found-uid (used d.cache.pages u k) u k r found)) (any-at (λ q. keeps_writing (entry_at d.entries q u)) p proc writes);
    }

-- a page that is sent is shown as before
pub IsShownPage-sent : (entries : List (List LockEntry)) (r : Resident) → IsShownPage entries r → IsShownPage entries (as_sent r)
IsShownPage-sent entries r shown = record { page = shown.page; bytes = shown.bytes; written = shown.written }

-- a page was sent again
pub IsDesk-with_sent_again : (d : DeskState) (u : ObjectName) (k : ℕ) → IsDesk d → IsDesk (with_sent_again d u k)
IsDesk-with_sent_again d u k is = IsDesk-changed d u k as_sent is (λ v j r. refl) (λ r h. h) (λ r found shown. IsShownPage-sent d.entries r shown)

-- a page is as it was, or it was dropped and no process moves it
abbrev Left : DeskState → List Resident → ObjectName → ℕ → Type 0
Left d new v j = (page_at new v j ≡ page_at d.cache.pages v j) ⊎ ((page_at new v j ≡ None) × (is_in_transit_there d.moving v j ≡ false))

-- fewer pages
IsDesk-fewer : (d : DeskState) (new : List Resident) → IsDesk d → AreOnce new → ((v : ObjectName) (j : ℕ) → Left d new v j) → IsDesk (with_pages d new)
IsDesk-fewer d new is once left = IsDesk-pages d new is (record { once = once; each = λ v j. shown v j (left v j) }) (λ q proc v j moves. alike q proc v j moves (left v j))
  where
    shown : (v : ObjectName) (j : ℕ) → Left d new v j → IfSome (page_at new v j) (IsShownPage d.entries)
    shown v j (inl as_before) = subst (λ (o : Option Resident). IfSome o (IsShownPage d.entries)) (sym as_before) (is.pages.each v j)
    shown v j (inr gone) = subst (λ (o : Option Resident). IfSome o (IsShownPage d.entries)) (sym gone.0) tt

    alike : (q : ℕ) → IsProc q → (v : ObjectName) (j : ℕ) → is_moving v j (moving_of d q) ≡ true → Left d new v j → Alike d.cache.pages new v j
    alike q proc v j moves (inl as_before) = Alike-same d.cache.pages new v j as_before
    alike q proc v j moves (inr gone) = absurd (let still : is_moving v j (moving_of d q) ≡ false = any-not (λ r. is_moving v j (at d.moving r None)) gone.1 q proc in let e : true ≡ false = sym moves ∙ still in cc)

-- a page was dropped that is not in transit
pub IsDesk-with_dropped : (d : DeskState) (u : ObjectName) (k : ℕ) → IsDesk d → is_in_transit_there d.moving u k ≡ false → IsDesk (with_dropped d u k)
IsDesk-with_dropped d u k is still =
    IsDesk-fewer d (without_page d.cache.pages u k) is
    (λ v j. omega (arith, count_by-filter-le (is_page v j) (λ r. not (is_page u k r)) d.cache.pages, is.pages.once v j))
    (λ v j. by_cases (is_same v j u k) (Left d (without_page d.cache.pages u k) v j) (gone v j) (λ differ. inl (page_at-without_other d.cache.pages u k v j differ)))
  where
    gone : (v : ObjectName) (j : ℕ) → is_same v j u k ≡ true → Left d (without_page d.cache.pages u k) v j
    gone v j same = inr (rw (same-uid v j u k same, same-page v j u k same) (page_at-without_same d.cache.pages u k, still))

-- no page of an object is left, where none was in transit
pub IsDesk-with_no_page : (d : DeskState) (u : ObjectName) → IsDesk d → ((k : ℕ) → is_in_transit_there d.moving u k ≡ false) → IsDesk (with_no_page d u)
IsDesk-with_no_page d u is still =
    IsDesk-fewer d (without_object d.cache.pages u) is
    (λ v j. omega (arith, count_by-filter-le (is_page v j) (λ r. not (is_of u r)) d.cache.pages, is.pages.once v j))
    (λ v j. by_cases (same_uid v u) (Left d (without_object d.cache.pages u) v j) (gone v j) (λ differ. inl (page_at-without_object_other d.cache.pages u v j differ)))
  where
    gone : (v : ObjectName) (j : ℕ) → same_uid v u ≡ true → Left d (without_object d.cache.pages u) v j
    gone v j same = inr (rw (same_uid_is v u same) (page_at-without_object_same d.cache.pages u j, still j))
