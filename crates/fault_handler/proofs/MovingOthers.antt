-- What is kept of the pages that processes move, where one process moves another page than before.
use Rattle.std.proofs.Common.{◌≡◌, ◌≢◌, ℕ, ◌+◌, Bool, true, false, List, length, Option, Some, None, inl, inr, refl, sym, ap, subst, ◌∙◌, arith}
use Rattle.std.specs.Prelude.{◌==◌, not, ◌&&◌}
use Rattle.std.proofs.lemmas.Bool.{cases_eq}
use Rattle.std.proofs.lemmas.Bool.Decides.{nat_tests}
use Rattle.uid_names.specs.Names.{ObjectName}
use Rattle.page_cache.specs.Caches.{Resident, page_at}
use Rattle.uid_names.proofs.ListLemmas.{none_is_no_some}
use Rattle.fault_handler.specs.declared.entries.LockEntry.{LockEntry}
use Rattle.fault_handler.specs.declared.transits.Transit.{Transit}
use Rattle.fault_handler.specs.declared.tasks.Task.{Task}
use Rattle.fault_handler.specs.declared.open_call.OpenCall.{OpenCall}
use Rattle.fault_handler.specs.declared.open_call.OpenCall.TheVariants.{Access, Lock, PageOut, AttrOut, Unlock, Remove}
use Rattle.fault_handler.specs.Transits.{is_moving, is_coming, inward_count, going}
use Rattle.fault_handler.specs.Entries.{keeps}
use Rattle.fault_handler.specs.Desks.{at, put_at, entry_at, count_of, others_fetch}
use Rattle.fault_handler.specs.Invariant.{IsProc, FitsWay, FitsTransit, AreApart, AreMoved, is_access, IsOpenTask, FitsOpen, AreOpen}
use Rattle.fault_handler.proofs.Fours.{at-put_same, at-put_other, each-put, any-not, count_of-put}
use Rattle.fault_handler.proofs.PageLists.{same-uid, same-page}
use Rattle.fault_handler.proofs.Alike.{AreAlike, FitsTransit-alike, FitsOpen-alike}

-- three of each process are put at one
pub each-put_three : {A B C : Type 0} (P : ℕ → A → B → C → Type 0) (xs : List A) (ys : List B) (zs : List C) (p : ℕ) (a x : A) (b y : B) (c z : C)
    → length xs ≡ 4 → length ys ≡ 4 → length zs ≡ 4 → IsProc p → P p a b c
    → ((q : ℕ) → IsProc q → q ≢ p → P q (at xs q x) (at ys q y) (at zs q z))
    → (q : ℕ) → IsProc q → P q (at (put_at xs p a) q x) (at (put_at ys p b) q y) (at (put_at zs p c) q z)
each-put_three P xs ys zs p a x b y c z fx fy fz is here others q other = elim (cases_eq q p) [
  | inl same ↦
      subst (λ (r : ℕ). P r (at (put_at xs p a) r x) (at (put_at ys p b) r y) (at (put_at zs p c) r z)) (sym same)
      (rw (at-put_same xs p a x fx is, at-put_same ys p b y fy is, at-put_same zs p c z fz is) here)
  | inr differs ↦ rw (at-put_other xs p q a x is other differs, at-put_other ys p q b y is other differs, at-put_other zs p q c z is other differs) (others q other differs)
]

-- no two processes move one page, where the process's new one is moved by no other
pub AreApart-put : (moving : List (Option Transit)) (p : ℕ) (new : Option Transit) → length moving ≡ 4 → IsProc p → AreApart moving
    → ((q : ℕ) → IsProc q → q ≢ p → (u : ObjectName) (k : ℕ) → is_moving u k new ≡ true → is_moving u k (at moving q None) ≡ true → ⊥)
    → AreApart (put_at moving p new)
AreApart-put moving p new four is apart alone q r one two u k =
    elim (cases_eq q p) [
      | inl here ↦ elim (cases_eq r p) [
        | inl there ↦ λ a b. here ∙ sym there
        | inr away ↦ λ a b. absurd (alone r two away u k (own q here a) (other r two away b))
      ]
      | inr away ↦ elim (cases_eq r p) [
        | inl there ↦ λ a b. absurd (alone q one away u k (own r there b) (other q one away a))
        | inr far ↦ λ a b. apart q r one two u k (other q one away a) (other r two far b)
      ]
    ]
  where
    own : (s : ℕ) → s ≡ p → is_moving u k (at (put_at moving p new) s None) ≡ true → is_moving u k new ≡ true
    own s same a = ap (is_moving u k) (sym (ap (λ n. at (put_at moving p new) n None) same ∙ at-put_same moving p new None four is)) ∙ a

    other : (s : ℕ) → IsProc s → s ≢ p → is_moving u k (at (put_at moving p new) s None) ≡ true → is_moving u k (at moving s None) ≡ true
    other s proc differs a = ap (is_moving u k) (sym (at-put_other moving p s new None is proc differs)) ∙ a

-- a process moves another page
pub AreMoved-put : (frames after : ℕ) (old new : List Resident) (entries : List (List LockEntry)) (moving : List (Option Transit)) (p : ℕ) (t : Option Transit)
    → length moving ≡ 4 → IsProc p → AreMoved frames old entries moving
    → after + inward_count (at moving p None) ≡ frames + inward_count t
    → FitsTransit new entries p t
    → ((q : ℕ) → IsProc q → q ≢ p → AreAlike old new (at moving q None))
    → ((q : ℕ) → IsProc q → q ≢ p → (u : ObjectName) (k : ℕ) → is_moving u k t ≡ true → is_moving u k (at moving q None) ≡ true → ⊥)
    → AreMoved after new entries (put_at moving p t)
AreMoved-put frames after old new entries moving p t four is moved reserved here alike alone = record {
  reserved =
      let a : frames ≡ count_of inward_count moving = moved.reserved in
      let b : count_of inward_count (put_at moving p t) + inward_count (at moving p None) ≡ count_of inward_count moving + inward_count t = count_of-put inward_count moving p t four is in omega arith;
  each = each-put (FitsTransit new entries) moving p t None four is here (λ q proc differs. FitsTransit-alike old new entries q (at moving q None) (alike q proc differs) (moved.each q proc));
  apart = AreApart-put moving p t four is moved.apart alone;
}

-- nothing moves, while pages change that no process moves
pub AreMoved-alike : (frames : ℕ) (old new : List Resident) (entries : List (List LockEntry)) (moving : List (Option Transit)) → AreMoved frames old entries moving
    → ((q : ℕ) → IsProc q → AreAlike old new (at moving q None)) → AreMoved frames new entries moving
AreMoved-alike frames old new entries moving moved alike = record {
  reserved = moved.reserved;
  each = λ q proc. FitsTransit-alike old new entries q (at moving q None) (alike q proc) (moved.each q proc);
  apart = moved.apart;
}

pub AreOpen-alike : (old new : List Resident) (entries : List (List LockEntry)) (calls : List (Option OpenCall)) (tasks : List (Option Task)) (moving : List (Option Transit)) → AreOpen old entries calls tasks moving
    → ((q : ℕ) → IsProc q → AreAlike old new (at moving q None)) → AreOpen new entries calls tasks moving
AreOpen-alike old new entries calls tasks moving open_ones alike q proc =
    FitsOpen-alike old new entries q (is_access (at calls q None)) (at tasks q None) (at moving q None) (alike q proc) (open_ones q proc)

-- a process opens or ends a load or store
pub AreOpen-put : (old new : List Resident) (entries : List (List LockEntry)) (calls : List (Option OpenCall)) (tasks : List (Option Task)) (moving : List (Option Transit))
    (p : ℕ) (call : Option OpenCall) (task : Option Task) (t : Option Transit) → length calls ≡ 4 → length tasks ≡ 4 → length moving ≡ 4 → IsProc p
    → AreOpen old entries calls tasks moving
    → FitsOpen new entries p (is_access call) task t
    → ((q : ℕ) → IsProc q → q ≢ p → AreAlike old new (at moving q None))
    → AreOpen new entries (put_at calls p call) (put_at tasks p task) (put_at moving p t)
AreOpen-put old new entries calls tasks moving p call task t fc ft fm is open_ones here alike =
    each-put_three (λ q c x m. FitsOpen new entries q (is_access c) x m) calls tasks moving p call None task None t None fc ft fm is here
    (λ q proc differs. FitsOpen-alike old new entries q (is_access (at calls q None)) (at tasks q None) (at moving q None) (alike q proc differs) (open_ones q proc))

-- a process of which no load or store is open moves another page
pub AreOpen-moved : (old new : List Resident) (entries : List (List LockEntry)) (calls : List (Option OpenCall)) (tasks : List (Option Task)) (moving : List (Option Transit))
    (p : ℕ) (t : Option Transit) → length moving ≡ 4 → IsProc p
    → AreOpen old entries calls tasks moving
    → FitsOpen new entries p (is_access (at calls p None)) (at tasks p None) t
    → ((q : ℕ) → IsProc q → q ≢ p → AreAlike old new (at moving q None))
    → AreOpen new entries calls tasks (put_at moving p t)
AreOpen-moved old new entries calls tasks moving p t fm is open_ones here alike =
    each-put (λ q m. FitsOpen new entries q (is_access (at calls q None)) (at tasks q None) m) moving p t None fm is here
    (λ q proc differs. FitsOpen-alike old new entries q (is_access (at calls q None)) (at tasks q None) (at moving q None) (alike q proc differs) (open_ones q proc))

-- a page that is moved has the name of the transit
pub moving-uid : (u : ObjectName) (k : ℕ) (t : Transit) → is_moving u k (Some t) ≡ true → t.uid ≡ u
moving-uid u k t is = same-uid t.uid t.page u k is

pub moving-page : (u : ObjectName) (k : ℕ) (t : Transit) → is_moving u k (Some t) ≡ true → t.page ≡ k
moving-page u k t is = same-page t.uid t.page u k is

module _ (pages : List Resident) (entries : List (List LockEntry)) (q : ℕ) (u : ObjectName) (k : ℕ) where
  -- what fits the transit of a page speaks of that page
  pub FitsWay-named : (t : Transit) → is_moving u k (Some t) ≡ true → FitsTransit pages entries q (Some t) → FitsWay t.inward pages entries q u k
  FitsWay-named t is fits = subst (λ (n : ℕ). FitsWay t.inward pages entries q u n) (moving-page u k t is) (subst (λ (v : ObjectName). FitsWay t.inward pages entries q v t.page) (moving-uid u k t is) fits)

  -- a page that is not resident and is moved comes
  pub moving-absent : (t : Option Transit) → page_at pages u k ≡ None → FitsTransit pages entries q t → is_moving u k t ≡ true → is_coming u k t ≡ true
  moving-absent None none fits is = is
  moving-absent (Some t) none fits is = by_way t.inward refl (FitsWay-named t is fits)
    where
      by_way : (b : Bool) → t.inward ≡ b → FitsWay b pages entries q u k → (t.inward && is_moving u k (Some t)) ≡ true
      by_way true way fits = rw way is
      by_way false way fits = absurd (none_is_no_some (page_at pages u k) fits.0 none)

-- a call that is not a load's or store's
pub not_access : (call : Option OpenCall) → call ≢ Some Access → is_access call ≡ false
not_access None other = refl
not_access (Some Access) other = absurd (other refl)
not_access (Some (Lock u m)) other = refl
not_access (Some (PageOut u k delete)) other = refl
not_access (Some (AttrOut u n delete)) other = refl
not_access (Some (Unlock u)) other = refl
not_access (Some (Remove u)) other = refl

-- a call that is
pub is_access-is : (call : Option OpenCall) → call ≡ Some Access → is_access call ≡ true
is_access-is call is = rw is refl

pub access-is : (call : Option OpenCall) → is_access call ≡ true → call ≡ Some Access
access-is None is = absurd (cc)
access-is (Some Access) is = refl
access-is (Some (Lock u m)) is = absurd (cc)
access-is (Some (PageOut u k delete)) is = absurd (cc)
access-is (Some (AttrOut u n delete)) is = absurd (cc)
access-is (Some (Unlock u)) is = absurd (cc)
access-is (Some (Remove u)) is = absurd (cc)

module _ (pages : List Resident) (entries : List (List LockEntry)) (q : ℕ) where
  -- where none is open there is none
  pub FitsOpen-no_task : (access : Bool) (task : Option Task) (t : Option Transit) → access ≡ false → FitsOpen pages entries q access task t → task ≡ None
  FitsOpen-no_task true task t closed fits = absurd (cc)
  FitsOpen-no_task false None t closed fits = refl
  FitsOpen-no_task false (Some task) t closed fits = absurd fits

  -- and no page comes
  pub FitsOpen-goes : (access : Bool) (task : Option Task) (t : Transit) → access ≡ false → FitsOpen pages entries q access task (Some t) → t.inward ≡ false
  FitsOpen-goes true task t closed fits = absurd (cc)
  FitsOpen-goes false None t closed fits = fits.0
  FitsOpen-goes false (Some task) t closed fits = absurd fits

  -- a page may go home, or none may move
  pub FitsOpen-going : (new : List Resident) (access : Bool) (task : Option Task) (t : Option Transit) (u : ObjectName) (k : ℕ) → access ≡ false → keeps (entry_at entries q u) ≡ true → FitsOpen pages entries q access task t → FitsOpen new entries q access task (going u k)
  FitsOpen-going new true task t u k closed kept fits = absurd (cc)
  FitsOpen-going new false None t u k closed kept fits = (refl, kept)
  FitsOpen-going new false (Some task) t u k closed kept fits = absurd fits

  pub FitsOpen-still : (new : List Resident) (access : Bool) (task : Option Task) (t : Option Transit) → access ≡ false → FitsOpen pages entries q access task t → FitsOpen new entries q access task None
  FitsOpen-still new true task t closed fits = absurd (cc)
  FitsOpen-still new false None t closed fits = tt
  FitsOpen-still new false (Some task) t closed fits = absurd fits

  -- where one is open, there is a load or store and a page that moves
  pub FitsOpen-task : (access : Bool) (task : Option Task) (t : Option Transit) → access ≡ true → FitsOpen pages entries q access task t → (a : Task) × (m : Transit) × (task ≡ Some a) × (t ≡ Some m) × IsOpenTask pages entries q a m
  FitsOpen-task true (Some task) (Some t) is fits = (task, t, refl, refl, fits)
  FitsOpen-task true (Some task) None is fits = absurd fits
  FitsOpen-task true None t is fits = absurd fits
  FitsOpen-task false task t is fits = absurd (cc)

  -- so one is open where a page comes
  pub FitsOpen-comes : (access : Bool) (task : Option Task) (t : Transit) → t.inward ≡ true → FitsOpen pages entries q access task (Some t) → access ≡ true
  FitsOpen-comes true task t comes fits = refl
  FitsOpen-comes false None t comes fits = absurd (let h : t.inward ≡ false = fits.0 in cc)
  FitsOpen-comes false (Some task) t comes fits = absurd fits

-- no other process moves a page that is not resident, where none was found to bring it
pub alone-absent : (pages : List Resident) (entries : List (List LockEntry)) (frames : ℕ) (moving : List (Option Transit)) (p : ℕ) (u : ObjectName) (k : ℕ) → AreMoved frames pages entries moving → page_at pages u k ≡ None
    → others_fetch moving p u k ≡ false → (q : ℕ) → IsProc q → q ≢ p → is_moving u k (at moving q None) ≡ true → ⊥
alone-absent pages entries frames moving p u k moved none alone q proc differs is =
    let comes : is_coming u k (at moving q None) ≡ true = moving-absent pages entries q u k (at moving q None) none (moved.each q proc) is in
    let no : (not (q == p) && is_coming u k (at moving q None)) ≡ false = any-not (λ r. not (r == p) && is_coming u k (at moving r None)) alone q proc in
    let far : (q == p) ≡ false = grind (arith, nat_tests) in
    let h : is_coming u k (at moving q None) ≡ false = rw far at no in
    cc
