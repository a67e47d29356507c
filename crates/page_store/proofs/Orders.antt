-- The order of pages is total, and only one page ties with a page.
use Rattle.std.proofs.Common.{◌≡◌, ℕ, ◌==◌, arith, sym, ap}
use Rattle.std.specs.Prelude.{◌&&◌}
use Rattle.std.proofs.lemmas.Bool.Decides.{nat_tests}
use Rattle.std.specs.Ordering.{nat_cmp, eq_by_cmp}
use Rattle.std.specs.declared.cmp.Ordering.TheVariants.{Equal}
use Rattle.std.specs.Cmp.{IsTotalOrder, nat_cmp_total, on_total, then_total, both_tied, unsigned_ties}
use Rattle.std.specs.FinMap.{IsAntisymmetric}
use Rattle.page_store.specs.Volumes.{PageName, page_cmp, is_other}

-- by counter, and then by number
pub page_cmp-total : IsTotalOrder page_cmp
page_cmp-total = then_total (on_total (λ (p : PageName). p.0) nat_cmp_total) (on_total (λ (p : PageName). p.1) nat_cmp_total)

-- names that tie have one counter
counters-tie : (p q : PageName) → page_cmp p q ≡ Equal → p.0 ≡ q.0
counters-tie p q tie = grind (arith, nat_tests)

-- names that tie have one number
pages-tie : (p q : PageName) → page_cmp p q ≡ Equal → p.1 ≡ q.1
pages-tie p q tie = grind (arith, nat_tests)

-- two names that tie are one
pub page_cmp-IsAntisymmetric : IsAntisymmetric page_cmp
page_cmp-IsAntisymmetric p q tie = λ i. (counters-tie p q tie i, pages-tie p q tie i)

-- whether two names tie
pub eq_by_cmp-page_cmp : (c k counter page : ℕ) → eq_by_cmp page_cmp (c, k) (counter, page) ≡ ((c == counter) && (k == page))
eq_by_cmp-page_cmp c k counter page =
    sym (both_tied (c == counter) (k == page) (nat_cmp c counter) (nat_cmp k page) (unsigned_ties c counter) (unsigned_ties k page))

-- names that tie are of one object
pub is_other-tied : (counter : ℕ) (p q : PageName) → page_cmp q p ≡ Equal → is_other counter p ≡ is_other counter q
is_other-tied counter p q tie = ap (is_other counter) (sym (page_cmp-IsAntisymmetric q p tie))
