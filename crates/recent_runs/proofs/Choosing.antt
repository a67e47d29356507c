-- The clean page that a cache names is the one used longest ago.
use Rattle.std.proofs.Common.{◌≡◌, ℕ, reverse, Bool, true, false, cond, List, [], ◌∷◌, Option, Some, None, refl, sym, ap, subst, ◌∙◌}
use Rattle.std.specs.Prelude.{not, ◌&&◌, ◌||◌, filter, find}
use Rattle.std.specs.List.{list_all}
use Rattle.std.specs.Option.{option_or}
use Rattle.std.proofs.lemmas.Option.{same_Some}
use Rattle.uid_names.specs.Names.{ObjectName}
use Rattle.uid_names.proofs.ListLemmas.{by_cases, find-push}
use Rattle.uid_names.proofs.Passed.{left-true, right-true}
use Rattle.page_cache.specs.Caches.{Resident, is_page, page_at}
use Rattle.page_cache.specs.Changes.{without_page}
use Rattle.page_cache.specs.Victims.{oldest, name_of}
use Rattle.page_cache.proofs.PageLemmas.{reverse-cons}
use Rattle.recent_runs.specs.Uses.{PageName, same_page, is_used_before}
use Rattle.recent_runs.specs.CacheOrders.{AreUsedBefore, AreByUse}
use Rattle.recent_runs.proofs.Orders.{same_page-self, same_page-is, one-before}
use Rattle.recent_runs.proofs.PageNames.{names}

-- the last one that passes
abbrev pub last : (Resident → Bool) → List Resident → Option Resident
last test [] = None
last test (q ∷ pages) = option_or (last test pages) (cond (test q) (Some q) None)

pub oldest-last : (test : Resident → Bool) (pages : List Resident) → oldest test pages ≡ last test pages
oldest-last test [] = refl
oldest-last test (q ∷ pages) = ap (find test) (reverse-cons q pages) ∙ find-push test (reverse pages) q ∙ ap (λ o. option_or o (cond (test q) (Some q) None)) (oldest-last test pages)

-- what holds of each holds of those that stay
abbrev Each : (Resident → Bool) → List Resident → Type 0
Each p pages = list_all p pages ≡ true

-- each page passes the one test where it passes the other
abbrev pub AreAlike : (Resident → Bool) → (Resident → Bool) → List Resident → Type 0
AreAlike test now [] = Unit {0}
AreAlike test now (q ∷ pages) = (now q ≡ test q) × AreAlike test now pages

module _ (used : List PageName) (test now : Resident → Bool) where
  -- whether it is none that passes now, or was used later than x
  abbrev pub stays : PageName → Resident → Bool
  stays x q = not (now q) || is_used_before used x (name_of q)

  -- so of each that passes now
  pub stays-passing : (x : PageName) (pages : List Resident) → list_all (stays x) pages ≡ list_all (λ q. is_used_before used x (name_of q)) (filter now pages)
  stays-passing x [] = refl
  stays-passing x (q ∷ pages) = by (now q) (stays-passing x pages)
    where
      by : (b : Bool) → list_all (stays x) pages ≡ list_all (λ q. is_used_before used x (name_of q)) (filter now pages)
          → ((not b || is_used_before used x (name_of q)) && list_all (stays x) pages) ≡ list_all (λ q. is_used_before used x (name_of q)) (cond b (q ∷ filter now pages) (filter now pages))
      by true rest = ap (λ c. is_used_before used x (name_of q) && c) rest
      by false rest = rest

  none-left : (x : PageName) (keep : Resident → Bool) (pages : List Resident) → AreAlike test now pages → last test pages ≡ None → Each (stays x) (filter keep pages)
  none-left x keep [] alike none = refl
  none-left x keep (q ∷ pages) alike none = by (last test pages) refl none (λ is. none-left x keep pages alike.1 is)
    where
      failed : (b : Bool) → test q ≡ b → cond b (Some q) None ≡ None → (rest : Each (stays x) (filter keep pages)) → (k : Bool) → Each (stays x) (cond k (q ∷ filter keep pages) (filter keep pages))
      failed true is none rest k = absurd (cc)
      failed false is none rest false = rest
      failed false is none rest true = ap (λ b. (not b || is_used_before used x (name_of q)) && list_all (stays x) (filter keep pages)) (alike.0 ∙ is) ∙ rest

      by : (o : Option Resident) → last test pages ≡ o → option_or o (cond (test q) (Some q) None) ≡ None → (last test pages ≡ None → Each (stays x) (filter keep pages)) → Each (stays x) (cond (keep q) (q ∷ filter keep pages) (filter keep pages))
      by (Some r) is e rest = absurd (cc)
      by None is e rest = failed (test q) refl e (rest is) (keep q)

  -- the last one that passes is older than each before it
  last-older : (x : PageName) (r : Resident) (pages : List Resident) → last test pages ≡ Some r → AreUsedBefore used x (names pages) → is_used_before used (name_of r) x ≡ true
  last-older x r [] is are = absurd (cc)
  last-older x r (q ∷ pages) is are = by (last test pages) refl is (λ e. last-older x r pages e are.1)
    where
      this : (b : Bool) → cond b (Some q) None ≡ Some r → is_used_before used (name_of r) x ≡ true
      this true e = subst (λ (y : Resident). is_used_before used (name_of y) x ≡ true) (same_Some q r e) are.0
      this false e = absurd (cc)

      by : (o : Option Resident) → last test pages ≡ o → option_or o (cond (test q) (Some q) None) ≡ Some r → (last test pages ≡ Some r → is_used_before used (name_of r) x ≡ true) → is_used_before used (name_of r) x ≡ true
      by (Some y) found e rest = rest (found ∙ e)
      by None found e rest = this (test q) e

  -- so each other one that passes was used later
  pub named-recent : (r : Resident) (pages : List Resident) → last test pages ≡ Some r → AreAlike test now pages → AreByUse used (names pages) → Each (stays (name_of r)) (without_page pages r.uid r.page)
  named-recent r [] is alike are = refl
  named-recent r (q ∷ pages) is alike are = by (last test pages) refl is (λ e. named-recent r pages e alike.1 are.1)
    where
      keep : Resident → Bool
      keep y = not (is_page r.uid r.page y)

      here : (b : Bool) → is_used_before used (name_of r) (name_of q) ≡ true → Each (stays (name_of r)) (filter keep pages) → Each (stays (name_of r)) (cond b (q ∷ filter keep pages) (filter keep pages))
      here true older rest = ap (λ b. (not (now q) || b) && list_all (stays (name_of r)) (filter keep pages)) older ∙ any (now q) ∙ rest
        where
          any : (c : Bool) → ((not c || true) && list_all (stays (name_of r)) (filter keep pages)) ≡ list_all (stays (name_of r)) (filter keep pages)
          any true = refl
          any false = refl
      here false older rest = rest

      itself : (b : Bool) → cond b (Some q) None ≡ Some r → last test pages ≡ None → Each (stays (name_of r)) (cond (keep q) (q ∷ filter keep pages) (filter keep pages))
      itself true e none =
          let same : same_page (name_of q) (name_of r) ≡ true = subst (λ (y : Resident). same_page (name_of q) (name_of y) ≡ true) (same_Some q r e) (same_page-self (name_of q)) in
          subst (λ b. Each (stays (name_of r)) (cond (not b) (q ∷ filter keep pages) (filter keep pages))) (sym same) (none-left (name_of r) keep pages alike.1 none)
      itself false e none = absurd (cc)

      by : (o : Option Resident) → last test pages ≡ o → option_or o (cond (test q) (Some q) None) ≡ Some r → (last test pages ≡ Some r → Each (stays (name_of r)) (without_page pages r.uid r.page))
          → Each (stays (name_of r)) (cond (keep q) (q ∷ filter keep pages) (filter keep pages))
      by (Some y) found e rest = here (keep q) (last-older (name_of q) r pages (found ∙ e) are.0) (rest (found ∙ e))
      by None found e rest = itself (test q) e found

  module _ (u : ObjectName) (k : ℕ) where
    abbrev others : Resident → Bool
    others y = not (is_page u k y)

    tail : (q : Resident) (pages : List Resident) → Each (stays (u, k)) (cond (others q) (q ∷ filter others pages) (filter others pages)) → Each (stays (u, k)) (filter others pages)
    tail q pages each = by (others q) each
      where
        by : (b : Bool) → Each (stays (u, k)) (cond b (q ∷ filter others pages) (filter others pages)) → Each (stays (u, k)) (filter others pages)
        by true each = right-true (stays (u, k) q) _ each
        by false each = each

    -- the last one that passes, of another name, was used later where each is
    last-later : (r : Resident) (pages : List Resident) → last test pages ≡ Some r → is_page u k r ≡ false → AreAlike test now pages → Each (stays (u, k)) (filter others pages) → is_used_before used (u, k) (name_of r) ≡ true
    last-later r [] is differs alike each = absurd (cc)
    last-later r (q ∷ pages) is differs alike each = by (last test pages) refl is (λ e. last-later r pages e differs alike.1 (tail q pages each))
      where
        this : (b : Bool) → test q ≡ b → cond b (Some q) None ≡ Some r → is_used_before used (u, k) (name_of r) ≡ true
        this true passes e =
            let same : q ≡ r = same_Some q r e in
            let apart : is_page u k q ≡ false = subst (λ (y : Resident). is_page u k y ≡ false) (sym same) differs in
            let first : stays (u, k) q ≡ true = left-true (stays (u, k) q) _ (subst (λ b. Each (stays (u, k)) (cond (not b) (q ∷ filter others pages) (filter others pages))) apart each) in
            subst (λ (y : Resident). is_used_before used (u, k) (name_of y) ≡ true) same (subst (λ b. (not b || is_used_before used (u, k) (name_of q)) ≡ true) (alike.0 ∙ passes) first)
        this false passes e = absurd (cc)

        by : (o : Option Resident) → last test pages ≡ o → option_or o (cond (test q) (Some q) None) ≡ Some r → (last test pages ≡ Some r → is_used_before used (u, k) (name_of r) ≡ true) → is_used_before used (u, k) (name_of r) ≡ true
        by (Some y) found e rest = rest (found ∙ e)
        by None found e rest = this (test q) refl e

    -- so the page before which each other one was used is the one that the cache names
    abbrev pub Names : List Resident → Type 0
    Names pages = (r : Resident) × (last test pages ≡ Some r) × (name_of r ≡ (u, k))

    pub recent-named : (r0 : Resident) (pages : List Resident) → page_at pages u k ≡ Some r0 → test r0 ≡ true → AreAlike test now pages → AreByUse used (names pages) → Each (stays (u, k)) (without_page pages u k) → Names pages
    recent-named r0 [] there passes alike are each = absurd (cc)
    recent-named r0 (q ∷ pages) there passes alike are each = by (is_page u k q) refl there (λ e. recent-named r0 pages e passes alike.1 are.1 (tail q pages each))
      where
        behind : Names pages → Names (q ∷ pages)
        behind (r, found, name) = (r, ap (λ o. option_or o (cond (test q) (Some q) None)) found, name)

        first : (name : is_page u k q ≡ true) → q ≡ r0 → (o : Option Resident) → last test pages ≡ o → Names (q ∷ pages)
        first name same None found = (q, ap (λ o. option_or o (cond (test q) (Some q) None)) found ∙ ap (λ b. cond b (Some q) None) (subst (λ (y : Resident). test y ≡ true) (sym same) passes), same_page-is (name_of q) (u, k) name)
        first name same (Some r) found = by_cases (is_page u k r) (Names (q ∷ pages))
            (λ is. behind (r, found, same_page-is (name_of r) (u, k) is))
            (λ differs.
            let later = last-later r pages found differs alike.1 (tail q pages each) in
            let older : is_used_before used (name_of r) (u, k) ≡ true = subst (λ x. is_used_before used (name_of r) x ≡ true) (same_page-is (name_of q) (u, k) name) (last-older (name_of q) r pages found are.0) in
            behind (r, found, one-before used (name_of r) (u, k) older later))

        by : (b : Bool) → is_page u k q ≡ b → cond b (Some q) (find (is_page u k) pages) ≡ Some r0 → (page_at pages u k ≡ Some r0 → Names pages) → Names (q ∷ pages)
        by true name e rest = first name (same_Some q r0 e) (last test pages) refl
        by false name e rest = behind (rest e)
