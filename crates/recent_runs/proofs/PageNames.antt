-- What each change of a cache's pages makes of their order.
use Rattle.std.proofs.Common.{◌≡◌, ℕ, Bool, true, false, cond, List, [], ◌∷◌, Option, Some, None, refl, sym, ap, subst, ◌∙◌}
use Rattle.std.specs.Prelude.{not, filter, map, find}
use Rattle.std.proofs.lemmas.Option.{same_Some}
use Rattle.uid_names.specs.Names.{ObjectName, same_uid}
use Rattle.page_cache.specs.Caches.{Resident, is_page, page_at}
use Rattle.page_cache.specs.Changes.{changed_if, with_front, without_page, without_object, used}
use Rattle.page_cache.specs.Victims.{name_of}
use Rattle.fault_handler.specs.ShownPages.{changed_page, written, stored, as_sent, settled}
use Rattle.recent_runs.specs.Uses.{PageName, with_use}
use Rattle.recent_runs.specs.CacheOrders.{AreByUse}
use Rattle.recent_runs.proofs.Orders.{same_page-self, same_page-is, apart, fewer, to-front}

abbrev pub names : List Resident → List PageName
names pages = map name_of pages

-- pages that stand by their last uses do so after a change in which this page was used, or none
abbrev pub Kept : Option PageName → List Resident → List Resident → Type 0
Kept page old new = (used : List PageName) → AreByUse used (names old) → AreByUse (with_use page used) (names new)

pub kept-same : (old new : List Resident) → names new ≡ names old → Kept None old new
kept-same old new same used are = subst (AreByUse used) (sym same) are

pub kept-fewer : (old new : List Resident) (test : PageName → Bool) → names new ≡ filter test (names old) → Kept None old new
kept-fewer old new test same used are = subst (AreByUse used) (sym same) (fewer used test (names old) are)

pub kept-used : (old new : List Resident) (z : PageName) → names new ≡ z ∷ filter (apart z) (names old) → Kept (Some z) old new
kept-used old new z same used are = subst (AreByUse (z ∷ used)) (sym same) (to-front used z (names old) are)

-- a page that is changed in its place keeps its name
changed-name : (b : Bool) (change : Resident → Resident) → ((r : Resident) → name_of (change r) ≡ name_of r) → (r : Resident) → name_of (changed_if b change r) ≡ name_of r
changed-name true change keeps r = keeps r
changed-name false change keeps r = refl

pub changed-names : (u : ObjectName) (k : ℕ) (change : Resident → Resident) → ((r : Resident) → name_of (change r) ≡ name_of r) → (pages : List Resident) → names (changed_page u k change pages) ≡ names pages
changed-names u k change keeps [] = refl
changed-names u k change keeps (r ∷ pages) = let one = changed-name (is_page u k r) change keeps r in let rest = changed-names u k change keeps pages in λ i. one i ∷ rest i

pub sent-names : (u : ObjectName) (k : ℕ) (pages : List Resident) → names (changed_page u k as_sent pages) ≡ names pages
sent-names u k = changed-names u k as_sent (λ r. refl)

pub settled-names : (u : ObjectName) (k : ℕ) (taken : Bool) (pages : List Resident) → names (changed_page u k (settled taken) pages) ≡ names pages
settled-names u k taken = changed-names u k (settled taken) (λ r. refl)

-- pages that go
names-filter : (test : PageName → Bool) (pages : List Resident) → names (filter (λ r. test (name_of r)) pages) ≡ filter test (names pages)
names-filter test [] = refl
names-filter test (r ∷ pages) = by (test (name_of r)) (names-filter test pages)
  where
    by : (b : Bool) → names (filter (λ q. test (name_of q)) pages) ≡ filter test (names pages)
        → names (cond b (r ∷ filter (λ q. test (name_of q)) pages) (filter (λ q. test (name_of q)) pages)) ≡ cond b (name_of r ∷ filter test (names pages)) (filter test (names pages))
    by true rest = ap (λ (ns : List PageName). name_of r ∷ ns) rest
    by false rest = rest

pub without-names : (pages : List Resident) (u : ObjectName) (k : ℕ) → names (without_page pages u k) ≡ filter (apart (u, k)) (names pages)
without-names pages u k = names-filter (apart (u, k)) pages

pub objectless-names : (pages : List Resident) (u : ObjectName) → names (without_object pages u) ≡ filter (λ n. not (same_uid n.0 u)) (names pages)
objectless-names pages u = names-filter (λ n. not (same_uid n.0 u)) pages

-- what is found by its name has it
pub found-name : (pages : List Resident) (u : ObjectName) (k : ℕ) (r : Resident) → page_at pages u k ≡ Some r → name_of r ≡ (u, k)
found-name [] u k r e = absurd (cc)
found-name (q ∷ pages) u k r e = by (is_page u k q) refl e (found-name pages u k r)
  where
    by : (b : Bool) → is_page u k q ≡ b → cond b (Some q) (find (is_page u k) pages) ≡ Some r → (find (is_page u k) pages ≡ Some r → name_of r ≡ (u, k)) → name_of r ≡ (u, k)
    by true is e rest = ap name_of (sym (same_Some q r e)) ∙ same_page-is (name_of q) (u, k) is
    by false is e rest = rest e

-- a page that is used comes to the front
pub used-names : (pages : List Resident) (u : ObjectName) (k : ℕ) (r : Resident) → page_at pages u k ≡ Some r → names (used pages u k) ≡ (u, k) ∷ filter (apart (u, k)) (names pages)
used-names pages u k r found =
    ap (λ o. names (with_front o (without_page pages u k))) found
    ∙ (let name = found-name pages u k r found in let rest = without-names pages u k in λ i. name i ∷ rest i)

pub stored-names : (pages : List Resident) (u : ObjectName) (k offset : ℕ) (bytes : List ℕ) (r : Resident) → page_at pages u k ≡ Some r → names (stored u k offset bytes pages) ≡ (u, k) ∷ filter (apart (u, k)) (names pages)
stored-names pages u k offset bytes r found = changed-names u k (written offset bytes) (λ q. refl) (used pages u k) ∙ used-names pages u k r found

-- one that came is among those behind it no more once it was used
pub once-more : (z : PageName) (ns : List PageName) → filter (apart z) (z ∷ ns) ≡ filter (apart z) ns
once-more z ns = ap (λ b. cond (not b) (z ∷ filter (apart z) ns) (filter (apart z) ns)) (same_page-self z)
