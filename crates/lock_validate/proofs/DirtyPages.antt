-- The lowest dirty page of an object is dirty.
use Rattle.std.proofs.Common.{◌≡◌, ℕ, true, List, [], ◌∷◌, Option, Some, None, inl, inr, ◌⊎◌, refl, arith}
use Rattle.std.proofs.lemmas.Bool.Decides.{nat_tests}
use Rattle.uid_names.specs.Names.{ObjectName}
use Rattle.uid_names.proofs.ListLemmas.{by_cases, count_by-cons_passes, count_by-cons, count_by-found}
use Rattle.page_cache.specs.Caches.{Resident, is_page, page_at}
use Rattle.page_cache.specs.Numbers.{is_dirty_of, dirty_page}
use Rattle.page_cache.proofs.PageLemmas.{lesser_is}
use Rattle.fault_handler.specs.Invariant.{is_dirty}
use Rattle.fault_handler.proofs.PageLists.{AreOnce}

-- a page that is dirty behind a page is dirty before it too
later-dirty : (r : Resident) (pages : List Resident) (u : ObjectName) (k : ℕ) → AreOnce (r ∷ pages) → is_dirty (page_at pages u k) ≡ true → is_dirty (page_at (r ∷ pages) u k) ≡ true
later-dirty r pages u k once dirty =
    by_cases
    (is_page u k r)
    (is_dirty (page_at (r ∷ pages) u k) ≡ true)
    (λ here. absurd (by_found (page_at pages u k) refl dirty here))
    (λ elsewhere. rw elsewhere dirty)
  where
    by_found : (o : Option Resident) → page_at pages u k ≡ o → is_dirty o ≡ true → is_page u k r ≡ true → ⊥
    by_found None found h here = cc
    by_found (Some s) found h here = omega (arith, count_by-found (is_page u k) pages s found, count_by-cons_passes (is_page u k) r pages here, once u k)

pub lowest-dirty : (pages : List Resident) (u : ObjectName) (k : ℕ) → AreOnce pages → dirty_page pages u ≡ Some k → is_dirty (page_at pages u k) ≡ true
lowest-dirty [] u k once found = absurd (cc)
lowest-dirty (r ∷ pages) u k once found =
    by_cases
    (is_dirty_of u r)
    (is_dirty (page_at (r ∷ pages) u k) ≡ true)
    (λ dirty. elim (lesser_is r.page k (dirty_page pages u) (rw dirty at found)) [
      | inl same ↦ (let here : is_page u k r ≡ true = grind (arith, nat_tests, dirty, same) in let flag : r.flags.dirty ≡ true = grind (arith, nat_tests, dirty) in rw here flag)
      | inr later ↦ later-dirty r pages u k once (lowest-dirty pages u k (tail once) later)
    ])
    (λ other. later-dirty r pages u k once (lowest-dirty pages u k (tail once) (rw other at found)))
  where
    tail : AreOnce (r ∷ pages) → AreOnce pages
    tail both v j = omega (arith, count_by-cons (is_page v j) r pages, both v j)
