-- What a page of a volume is after a change of the volume.
use Rattle.std.proofs.Common.{◌≡◌, ℕ, ◌==◌, List, ap, ◌∙◌, refl}
use Rattle.std.specs.Prelude.{Bool, true, false, not, ◌&&◌, if◌then◌else◌, Option, Some, None, cond, unwrap_or}
use Rattle.std.specs.FinMap.{get-empty, get-insert, get-retain_keys, get}
use Rattle.page_store.specs.Volumes.{page_cmp, Volume, page_of, with_page, without_object, is_other, zeros, no_pages}
use Rattle.page_store.proofs.Orders.{page_cmp-total, eq_by_cmp-page_cmp, is_other-tied}

-- each page is zeros where none was put
pub page_of-no_pages : (counter page : ℕ) → page_of no_pages counter page ≡ zeros
page_of-no_pages counter page = ap (λ o. unwrap_or o zeros) (get-empty page_cmp (counter, page))

-- what a look-up after a put gives
found-or : (b : Bool) (bytes : List ℕ) (o : Option (List ℕ)) → unwrap_or (cond b (Some bytes) o) zeros ≡ (if b then bytes else unwrap_or o zeros)
found-or true bytes o = refl
found-or false bytes o = refl

-- a put changes the page that it names, and no other
pub page_of-with_page : (volume : Volume) (counter page : ℕ) (bytes : List ℕ) (c k : ℕ)
    → page_of (with_page volume counter page bytes) c k ≡ (if (c == counter) && (k == page) then bytes else page_of volume c k)
page_of-with_page volume counter page bytes c k =
    ap (λ o. unwrap_or o zeros) (get-insert page_cmp-total volume (counter, page) bytes (c, k))
    ∙ ap (λ b. unwrap_or (cond b (Some bytes) (get volume (c, k))) zeros) (eq_by_cmp-page_cmp c k counter page)
    ∙ found-or ((c == counter) && (k == page)) bytes (get volume (c, k))

-- what a look-up after a drop gives
kept-or : (b : Bool) (o : Option (List ℕ)) → unwrap_or (cond (not b) o None) zeros ≡ (if b then zeros else unwrap_or o zeros)
kept-or true o = refl
kept-or false o = refl

-- a drop makes the pages of one object zeros, and leaves the others
pub page_of-without_object : (volume : Volume) (counter c k : ℕ) → page_of (without_object volume counter) c k ≡ (if c == counter then zeros else page_of volume c k)
page_of-without_object volume counter c k =
    ap (λ o. unwrap_or o zeros) (get-retain_keys volume (is_other counter) (c, k) (λ p t. is_other-tied counter p (c, k) t))
    ∙ kept-or (c == counter) (get volume (c, k))
