-- What a process needs of the page that it moves stays so where other pages change.
use Rattle.std.proofs.Common.{◌≡◌, ℕ, Bool, true, false, List, Option, Some, None, IsSome, IfSome, refl, sym, ap, subst, ◌∙◌, arith}
use Rattle.std.specs.Option.{option_map}
use Rattle.std.proofs.lemmas.Bool.Decides.{nat_tests}
use Rattle.uid_names.specs.Names.{ObjectName}
use Rattle.page_cache.specs.Caches.{Resident, is_page, page_at}
use Rattle.uid_names.proofs.ListLemmas.{by_cases}
use Rattle.fault_handler.specs.declared.entries.LockEntry.{LockEntry}
use Rattle.fault_handler.specs.declared.transits.Transit.{Transit}
use Rattle.fault_handler.specs.declared.tasks.Task.{Task}
use Rattle.fault_handler.specs.ShownPages.{changed_page}
use Rattle.fault_handler.specs.Transits.{is_moving}
use Rattle.fault_handler.specs.Invariant.{IsShownPage, ArePages, is_dirty, FitsWay, FitsTransit, FitsOpen}
use Rattle.fault_handler.proofs.PageLists.{is_same, same-uid, same-page, page_at-changed_same, page_at-changed_other, AreOnce-changed}

-- a page that was not resident isn't, one that was is, and is as dirty as it was
pub record Alike (old new : List Resident) (u : ObjectName) (k : ℕ) : Type 0 where
  pub absent : page_at old u k ≡ None → page_at new u k ≡ None
  pub stays : IsSome (page_at old u k) → IsSome (page_at new u k)
  pub dirt : is_dirty (page_at old u k) ≡ true → is_dirty (page_at new u k) ≡ true

pub Alike-same : (old new : List Resident) (u : ObjectName) (k : ℕ) → page_at new u k ≡ page_at old u k → Alike old new u k
Alike-same old new u k same = record { absent = λ h. same ∙ h; stays = λ h. subst IsSome (sym same) h; dirt = λ h. ap is_dirty same ∙ h }

-- the pages of which a transit speaks
abbrev pub AreAlike : List Resident → List Resident → Option Transit → Type 0
AreAlike old new t = (u : ObjectName) (k : ℕ) → is_moving u k t ≡ true → Alike old new u k

-- a transit moves the page that it names
pub is_moving-own : (t : Transit) → is_moving t.uid t.page (Some t) ≡ true
is_moving-own t = grind (arith, nat_tests)

module _ (old new : List Resident) (entries : List (List LockEntry)) (q : ℕ) where
  pub FitsWay-alike : (inward : Bool) (u : ObjectName) (k : ℕ) → Alike old new u k → FitsWay inward old entries q u k → FitsWay inward new entries q u k
  FitsWay-alike true u k alike fits = (alike.absent fits.0, fits.1)
  FitsWay-alike false u k alike fits = (alike.stays fits.0, fits.1)

  pub FitsTransit-alike : (t : Option Transit) → AreAlike old new t → FitsTransit old entries q t → FitsTransit new entries q t
  FitsTransit-alike None alike fits = tt
  FitsTransit-alike (Some t) alike fits = FitsWay-alike t.inward t.uid t.page (alike t.uid t.page (is_moving-own t)) fits

  pub FitsOpen-alike : (access : Bool) (task : Option Task) (t : Option Transit) → AreAlike old new t → FitsOpen old entries q access task t → FitsOpen new entries q access task t
  FitsOpen-alike true (Some task) (Some t) alike is = record {
    allowed = is.allowed;
    keeping = is.keeping;
    comes = is.comes;
    goes = λ away. (alike t.uid t.page (is_moving-own t)).dirt (is.goes away);
  }
  FitsOpen-alike true (Some task) None alike is = is
  FitsOpen-alike true None t alike is = is
  FitsOpen-alike false None None alike is = is
  FitsOpen-alike false None (Some t) alike is = is
  FitsOpen-alike false (Some task) t alike is = is

-- what holds of a page that was changed
pub IfSome-changed : (P : Resident → Type 0) (change : Resident → Resident) (o : Option Resident) → ((r : Resident) → o ≡ Some r → P r → P (change r)) → IfSome o P → IfSome (option_map change o) P
IfSome-changed P change None after is = tt
IfSome-changed P change (Some r) after is = after r refl is

module _ (u : ObjectName) (k : ℕ) (change : Resident → Resident) (names : (v : ObjectName) (j : ℕ) (r : Resident) → is_page v j (change r) ≡ is_page v j r) (pages : List Resident) where
  -- the page, and the others
  by_name : (P : ObjectName → ℕ → Type 0) (v : ObjectName) (j : ℕ) → P u k → (is_same v j u k ≡ false → P v j) → P v j
  by_name P v j here other =
      by_cases
      (is_same v j u k)
      (P v j)
      (λ is. subst (λ (w : ObjectName). P w j) (sym (same-uid v j u k is)) (subst (P u) (sym (same-page v j u k is)) here))
      other

  pub ArePages-changed : (entries : List (List LockEntry)) → ArePages pages entries → ((r : Resident) → page_at pages u k ≡ Some r → IsShownPage entries r → IsShownPage entries (change r)) → ArePages (changed_page u k change pages) entries
  ArePages-changed entries are after = record {
    once = AreOnce-changed u k change names pages are.once;
    each = λ v j. by_name (λ w i. IfSome (page_at (changed_page u k change pages) w i) (IsShownPage entries)) v j
        (subst (λ (o : Option Resident). IfSome o (IsShownPage entries)) (sym (page_at-changed_same u k change names pages)) (IfSome-changed (IsShownPage entries) change (page_at pages u k) after (are.each u k)))
        (λ differ. subst (λ (o : Option Resident). IfSome o (IsShownPage entries)) (sym (page_at-changed_other u k change names pages v j differ)) (are.each v j));
  }

  -- other pages than the changed one are as they were
  pub Alike-other : (v : ObjectName) (j : ℕ) → is_same v j u k ≡ false → Alike pages (changed_page u k change pages) v j
  Alike-other v j differ = Alike-same pages (changed_page u k change pages) v j (page_at-changed_other u k change names pages v j differ)

  -- and the changed one is alike where it stays dirty
  pub Alike-changed : ((r : Resident) → r.flags.dirty ≡ true → (change r).flags.dirty ≡ true) → (v : ObjectName) (j : ℕ) → Alike pages (changed_page u k change pages) v j
  Alike-changed dirt v j = by_name (Alike pages (changed_page u k change pages)) v j here (Alike-other v j)
    where
      absent_in : (o : Option Resident) → o ≡ None → option_map change o ≡ None
      absent_in None none = refl
      absent_in (Some r) none = absurd (cc)

      stays_in : (o : Option Resident) → IsSome o → IsSome (option_map change o)
      stays_in None is = is
      stays_in (Some r) is = refl

      dirt_in : (o : Option Resident) → is_dirty o ≡ true → is_dirty (option_map change o) ≡ true
      dirt_in None is = is
      dirt_in (Some r) is = dirt r is

      after : page_at (changed_page u k change pages) u k ≡ option_map change (page_at pages u k)
      after = page_at-changed_same u k change names pages

      here : Alike pages (changed_page u k change pages) u k
      here = record {
        absent = λ h. after ∙ absent_in (page_at pages u k) h;
        stays = λ h. subst IsSome (sym after) (stays_in (page_at pages u k) h);
        dirt = λ h. ap is_dirty after ∙ dirt_in (page_at pages u k) h;
      }
