-- What calls on pages in frames do to the pages as they are shown, by their names.
use Rattle.std.proofs.Common.{◌≡◌, ◌∙◌, ℕ, ◌≤◌, Bool, true, false, not, List, [], ◌∷◌, map, filter, reverse, take, drop, Option, Some, None, IsSome, IfSome, IfNone, is_some, count_by, refl, sym, ap, subst, arith}
use Rattle.std.specs.Bool.{OnTrue, OnFalse}
use Rattle.std.proofs.lemmas.List.{reverse-append, map-append}
use Rattle.std.specs.List.{find}
use Rattle.std.specs.Option.{option_map}
use Rattle.uid_names.specs.Names.{ObjectName}
use Rattle.page_frames.specs.declared.frame.Flags.{Flags}
use Rattle.page_cache.specs.Caches.{Resident, Cached, IsCache, IsResident, IsFrame, is_of, is_page, is_in, page_at, page_in}
use Rattle.page_cache.specs.Changes.{without_page, without_object, with_front, used, changed_if, changed_in, with_flags, with_bytes, spliced}
use Rattle.page_cache.specs.Numbers.{is_dirty_of, numbers, least, rising, dirty_page, resident_pages}
use Rattle.uid_names.proofs.Finds.{find-passes}
use Rattle.uid_names.proofs.ListLemmas.{by_cases, count_by-cons_passes, count_by-cons_fails, find-map, filter-map}
use Rattle.page_cache.proofs.CacheLemmas.{none_mapped}
use Rattle.page_cache.proofs.PageLemmas.{changed_in-none}
use Rattle.fault_handler.specs.declared.transits.Transit.{Transit}
use Rattle.fault_handler.specs.ShownPages.{changed_page, written}
use Rattle.fault_handler.specs.Unseen.{bare, Paged, repaged}
use Rattle.fault_handler.proofs.PageLists.{changed_page-none, without_page-none, page_at-used}

-- a page is resident where it is shown, and the other way round
pub page_at-shown : (pages : List Resident) (u : ObjectName) (k : ℕ) → page_at (map bare pages) u k ≡ option_map bare (page_at pages u k)
page_at-shown pages u k = find-map bare (is_page u k) pages

IsSome-unmapped : {X Y : Type 0} (f : X → Y) (o : Option X) → IsSome (option_map f o) → IsSome o
IsSome-unmapped f None some = some
IsSome-unmapped f (Some x) some = refl

IsSome-mapped : {X Y : Type 0} (f : X → Y) (o : Option X) → IsSome o → IsSome (option_map f o)
IsSome-mapped f None some = some
IsSome-mapped f (Some x) some = refl

pub IsResident-unshown : (pages : List Resident) (u : ObjectName) (k : ℕ) → IsResident (map bare pages) u k → IsResident pages u k
IsResident-unshown pages u k is = IsSome-unmapped bare (page_at pages u k) (rw page_at-shown at is)

pub IsResident-shown : (pages : List Resident) (u : ObjectName) (k : ℕ) → IsResident pages u k → IsResident (map bare pages) u k
IsResident-shown pages u k is = rw page_at-shown (IsSome-mapped bare (page_at pages u k) is)

pub absent-unshown : (pages : List Resident) (u : ObjectName) (k : ℕ) → page_at (map bare pages) u k ≡ None → page_at pages u k ≡ None
absent-unshown pages u k none = none_mapped bare (page_at pages u k) (sym (page_at-shown pages u k) ∙ none)

-- what a page has beside its frame and its mark is shown
part-shown : {X : Type 0} (part : Resident → X) → ((r : Resident) → part (bare r) ≡ part r) → (o : Option Resident) → option_map part (option_map bare o) ≡ option_map part o
part-shown part same None = refl
part-shown part same (Some r) = ap Some (same r)

pub dirty-shown : (pages : List Resident) (u : ObjectName) (k : ℕ) → option_map (λ r. r.flags.dirty) (page_at (map bare pages) u k) ≡ option_map (λ r. r.flags.dirty) (page_at pages u k)
dirty-shown pages u k = ap (option_map (λ r. r.flags.dirty)) (page_at-shown pages u k) ∙ part-shown (λ r. r.flags.dirty) (λ r. refl) (page_at pages u k)

pub dirty-of : (o : Option Resident) (flags : Flags) → option_map (λ r. r.flags) o ≡ Some flags → option_map (λ r. r.flags.dirty) o ≡ Some flags.dirty
dirty-of None flags has = absurd (cc)
dirty-of (Some r) flags has = let is : r.flags ≡ flags = cc in ap (λ (f : Flags). Some f.dirty) is

pub bytes-shown : (pages : List Resident) (u : ObjectName) (k : ℕ) → option_map (λ r. r.bytes) (page_at (map bare pages) u k) ≡ option_map (λ r. r.bytes) (page_at pages u k)
bytes-shown pages u k = ap (option_map (λ r. r.bytes)) (page_at-shown pages u k) ∙ part-shown (λ r. r.bytes) (λ r. refl) (page_at pages u k)

-- pages that go, and the page that was used
pub without_page-shown : (pages : List Resident) (u : ObjectName) (k : ℕ) → without_page (map bare pages) u k ≡ map bare (without_page pages u k)
without_page-shown pages u k = filter-map bare (λ r. not (is_page u k r)) pages

pub without_object-shown : (pages : List Resident) (u : ObjectName) → without_object (map bare pages) u ≡ map bare (without_object pages u)
without_object-shown pages u = filter-map bare (λ r. not (is_of u r)) pages

with_front-shown : (o : Option Resident) (pages : List Resident) → with_front (option_map bare o) (map bare pages) ≡ map bare (with_front o pages)
with_front-shown None pages = refl
with_front-shown (Some r) pages = refl

pub used-shown : (pages : List Resident) (u : ObjectName) (k : ℕ) → used (map bare pages) u k ≡ map bare (used pages u k)
used-shown pages u k = rw (page_at-shown pages u k, without_page-shown pages u k) (with_front-shown (page_at pages u k) (without_page pages u k))

-- a page that was used stays resident
pub IsResident-used : (pages : List Resident) (u : ObjectName) (k : ℕ) → IsResident pages u k → IsResident (used pages u k) u k
IsResident-used pages u k is = rw page_at-used is

-- a page is changed by its name where its frame is: each stands once
pub changed_in-named : (frame : ℕ) (u : ObjectName) (k : ℕ) (f g : Resident → Resident) (r : Resident) → f r ≡ g r → (pages : List Resident) → count_by (is_in frame) pages ≤ 1 → count_by (is_page u k) pages ≤ 1 → page_in pages frame ≡ Some r → page_at pages u k ≡ Some r
    → changed_in frame f pages ≡ changed_page u k g pages
changed_in-named frame u k f g r same [] one_frame one_page in_it at = absurd (cc)
changed_in-named frame u k f g r same (x ∷ rest) one_frame one_page in_it at =
    by_cases
    (is_in frame x)
    (changed_in frame f (x ∷ rest) ≡ changed_page u k g (x ∷ rest))
    (λ here.
    let some : Some x ≡ Some r = rw here at in_it in
    let is : x ≡ r = cc in
    let named : is_page u k x ≡ true = rw is (find-passes (is_page u k) (x ∷ rest) r at) in
    let none_in = changed_in-none frame f rest (omega (arith, count_by-cons_passes (is_in frame) x rest here)) in
    let none_of = changed_page-none u k g rest (omega (arith, count_by-cons_passes (is_page u k) x rest named)) in
    let front : f x ≡ g x = rw is same in
    rw (here, named, none_in, none_of) (ap (λ y. y ∷ rest) front))
    (λ fails.
    let frame_is : is_in frame r ≡ true = find-passes (is_in frame) (x ∷ rest) r in_it in
    by_cases
    (is_page u k x)
    (changed_in frame f (x ∷ rest) ≡ changed_page u k g (x ∷ rest))
    (λ named. let some : Some x ≡ Some r = rw named at at in let is : x ≡ r = cc in absurd (let no : true ≡ false = sym frame_is ∙ rw (← is) fails in cc))
    (λ not_named.
    let later = changed_in-named frame u k f g r same rest (omega (arith, count_by-cons_fails (is_in frame) x rest fails)) (omega (arith, count_by-cons_fails (is_page u k) x rest not_named)) (rw fails at in_it) (rw not_named at at) in
    rw (fails, not_named) (ap (λ rs. x ∷ rs) later)))

-- a change of a page is shown
pub changed_page-shown : (u : ObjectName) (k : ℕ) (f g : Resident → Resident) → ((r : Resident) → bare (f r) ≡ g (bare r)) → (pages : List Resident) → map bare (changed_page u k f pages) ≡ changed_page u k g (map bare pages)
changed_page-shown u k f g same [] = refl
changed_page-shown u k f g same (r ∷ rest) =
    let later = changed_page-shown u k f g same rest in
    by_cases
    (is_page u k r)
    (map bare (changed_page u k f (r ∷ rest)) ≡ changed_page u k g (map bare (r ∷ rest)))
    (λ is. rw is (λ i. same r i ∷ later i))
    (λ fails. rw fails (ap (λ rs. bare r ∷ rs) later))

-- two changes that do the same to the page in a frame
changed_in-same : (frame : ℕ) (f g : Resident → Resident) (r : Resident) → f r ≡ g r → (pages : List Resident) → count_by (is_in frame) pages ≤ 1 → page_in pages frame ≡ Some r → changed_in frame f pages ≡ changed_in frame g pages
changed_in-same frame f g r same [] one found = refl
changed_in-same frame f g r same (x ∷ rest) one found =
    by_cases
    (is_in frame x)
    (changed_in frame f (x ∷ rest) ≡ changed_in frame g (x ∷ rest))
    (λ here.
    let some : Some x ≡ Some r = rw here at found in
    let is : x ≡ r = cc in
    let none : count_by (is_in frame) rest ≡ 0 = omega (arith, count_by-cons_passes (is_in frame) x rest here) in
    let front : f x ≡ g x = rw is same in
    rw (here, changed_in-none frame f rest none, changed_in-none frame g rest none) (ap (λ y. y ∷ rest) front))
    (λ fails. rw fails (ap (λ rs. x ∷ rs) (changed_in-same frame f g r same rest (omega (arith, count_by-cons_fails (is_in frame) x rest fails)) (rw fails at found))))

-- two changes of the page in a frame
changed-twice : (b : Bool) (frame : ℕ) (f g : Resident → Resident) (r : Resident) → is_in frame r ≡ b → is_in frame (f r) ≡ is_in frame r → changed_if (is_in frame (changed_if b f r)) g (changed_if b f r) ≡ changed_if b (λ x. g (f x)) r
changed-twice true frame f g r is kept = rw (kept, is) refl
changed-twice false frame f g r is kept = rw is refl

changed_in-twice : (frame : ℕ) (f g : Resident → Resident) → ((r : Resident) → is_in frame (f r) ≡ is_in frame r) → (pages : List Resident) → changed_in frame g (changed_in frame f pages) ≡ changed_in frame (λ r. g (f r)) pages
changed_in-twice frame f g kept [] = refl
changed_in-twice frame f g kept (r ∷ rest) = rw (changed-twice (is_in frame r) frame f g r refl (kept r), changed_in-twice frame f g kept rest) refl

-- a frame stays that of a page
find-same : {X : Type 0} (p q : X → Bool) → ((x : X) → p x ≡ q x) → (xs : List X) → find p xs ≡ find q xs
find-same p q same [] = refl
find-same p q same (x ∷ xs) = rw (same x, find-same p q same xs) refl

in_changed : (b : Bool) (frame : ℕ) (f : Resident → Resident) (r : Resident) → is_in frame (f r) ≡ is_in frame r → is_in frame (changed_if b f r) ≡ is_in frame r
in_changed true frame f r kept = kept
in_changed false frame f r kept = refl

pub IsFrame-bytes : (pages : List Resident) (frame offset : ℕ) (bytes : List ℕ) → IsFrame pages frame → IsFrame (with_bytes pages frame offset bytes) frame
IsFrame-bytes pages frame offset bytes is =
    let change : Resident → Resident = λ r. record r { bytes = spliced r.bytes offset bytes } in
    let after : Resident → Resident = λ r. changed_if (is_in frame r) change r in
    let found : page_in (map after pages) frame ≡ option_map after (page_in pages frame) =
    find-map after (is_in frame) pages ∙ ap (option_map after) (find-same (λ r. is_in frame (after r)) (is_in frame) (λ r. in_changed (is_in frame r) frame change r refl) pages) in
    rw found (IsSome-mapped after (page_in pages frame) is)

-- bytes that are stored in the page of a frame
pub written-in : (c : Cached) → IsCache c → (frame offset : ℕ) (bytes : List ℕ) (old : Flags) → option_map (λ r. r.flags) (page_in c.pages frame) ≡ Some old
    → with_flags (with_bytes c.pages frame offset bytes) frame (record old { dirty = true; sent = false }) ≡ changed_in frame (written offset bytes) c.pages
written-in c sound frame offset bytes old was =
    changed_in-twice frame (λ r. record r { bytes = spliced r.bytes offset bytes }) (λ r. record r { flags = record old { dirty = true; sent = false } }) (λ r. refl) c.pages
    ∙ by_page (page_in c.pages frame) refl was
  where
    change : Resident → Resident
    change r = record r { bytes = spliced r.bytes offset bytes; flags = record old { dirty = true; sent = false } }

    by_page : (o : Option Resident) → page_in c.pages frame ≡ o → option_map (λ r. r.flags) o ≡ Some old → changed_in frame change c.pages ≡ changed_in frame (written offset bytes) c.pages
    by_page None found has = absurd (cc)
    by_page (Some r) found has = let is : r.flags ≡ old = cc in changed_in-same frame change (written offset bytes) r (rw is refl) c.pages (sound.frames frame) found

-- the page of a name, and its flags
module _ (c : Cached) (sound : IsCache c) (u : ObjectName) (k frame : ℕ) (in_it : page_in c.pages frame ≡ page_at c.pages u k) where
  pub named_by : (f g : Resident → Resident) → ((r : Resident) → page_at c.pages u k ≡ Some r → f r ≡ g r) → (o : Option Resident) → page_at c.pages u k ≡ o → IsSome o → changed_in frame f c.pages ≡ changed_page u k g c.pages
  named_by f g same None at some = absurd (cc)
  named_by f g same (Some r) at some = changed_in-named frame u k f g r (same r at) c.pages (sound.frames frame) (sound.pages u k) (in_it ∙ at) at

  -- a page whose flags are set as its flags ask for
  pub flags_set : (is : IsResident c.pages u k) (old new : Flags) → option_map (λ r. r.flags) (page_in c.pages frame) ≡ Some old → (g : Resident → Resident) → ((r : Resident) → r.flags ≡ old → record r { flags = new } ≡ g r) → with_flags c.pages frame new ≡ changed_page u k g c.pages
  flags_set is old new was g same =
      named_by (λ r. record r { flags = new }) g (λ r at. same r (let has : Some r.flags ≡ Some old = rw (in_it, at) at was in cc)) (page_at c.pages u k) refl is

-- what is listed depends on no frame, and on no mark
pub map-reverse : {X Y : Type 0} (f : X → Y) (xs : List X) → reverse (map f xs) ≡ map f (reverse xs)
map-reverse f [] = refl
map-reverse f (x ∷ xs) = rw (reverse-append (x ∷ []) xs, reverse-append (f x ∷ []) (map f xs), map-reverse f xs) (sym (map-append f (reverse xs) (x ∷ [])))

map-numbers : (pages : List Resident) → map (λ r. r.page) (map bare pages) ≡ map (λ r. r.page) pages
map-numbers [] = refl
map-numbers (r ∷ rest) = ap (λ ks. r.page ∷ ks) (map-numbers rest)

filter-same : {X : Type 0} (p q : X → Bool) → ((x : X) → p x ≡ q x) → (xs : List X) → filter p xs ≡ filter q xs
filter-same p q same [] = refl
filter-same p q same (x ∷ xs) = rw (same x, filter-same p q same xs) refl

numbers-shown : (test : Resident → Bool) → ((r : Resident) → test (bare r) ≡ test r) → (pages : List Resident) → numbers test (map bare pages) ≡ numbers test pages
numbers-shown test same pages = rw (filter-map bare test pages, map-numbers) (ap (map (λ r. r.page)) (filter-same (λ r. test (bare r)) test same pages))

pub dirty_page-shown : (pages : List Resident) (u : ObjectName) → dirty_page (map bare pages) u ≡ dirty_page pages u
dirty_page-shown pages u = ap least (numbers-shown (is_dirty_of u) (λ r. refl) pages)

pub resident_pages-shown : (pages : List Resident) (u : ObjectName) → resident_pages (map bare pages) u ≡ resident_pages pages u
resident_pages-shown pages u = ap rising (numbers-shown (is_of u) (λ r. refl) pages)

-- a name that is resident is so where it is shown
pub IfSome-resident : (pages : List Resident) (u : ObjectName) (o : Option ℕ) → IfSome o (IsResident pages u) → IfSome o (IsResident (map bare pages) u)
IfSome-resident pages u None is = tt
IfSome-resident pages u (Some k) is = IsResident-shown pages u k is

pub IfSome-named : (pages : List Resident) (o : Option (ObjectName × ℕ)) → IfSome o (λ name. IsResident pages name.0 name.1) → IfSome o (λ name. IsResident (map bare pages) name.0 name.1)
IfSome-named pages None is = tt
IfSome-named pages (Some name) is = IsResident-shown pages name.0 name.1 is

pub absent-shown : (pages : List Resident) (u : ObjectName) (k : ℕ) → page_at pages u k ≡ None → page_at (map bare pages) u k ≡ None
absent-shown pages u k none = page_at-shown pages u k ∙ ap (option_map bare) none

-- equal parts make equal pages
pub same_paged : (frames m n : ℕ) (ps qs : List Resident) (ms ns : List (Option Transit)) → m ≡ n → ps ≡ qs → ms ≡ ns
    → ◌≡◌ {A = Paged} (record { cache = record { frames = frames; reserved = m; pages = ps }; moving = ms }) (record { cache = record { frames = frames; reserved = n; pages = qs }; moving = ns })
same_paged frames m n ps qs ms ns reserved pages moving = λ i. record { cache = record { frames = frames; reserved = reserved i; pages = pages i }; moving = moving i }

-- what holds before holds after a load that uses its page or finds none
pub loaded-keeps : (P : Paged → Type 0) (old new : Paged) (u : ObjectName) (k : ℕ) (loaded : Option (List ℕ)) → P old → P (repaged old (used old.cache.pages u k))
    → IfSome loaded (λ bytes. new ≡ repaged old (used old.cache.pages u k)) → IfNone loaded (new ≡ old) → P new
loaded-keeps P old new u k (Some bytes) before after is left = subst P (sym is) after
loaded-keeps P old new u k None before after is left = subst P (sym left) before

-- and after a store that changes its page or finds none
pub stored-keeps : (P : Paged → Type 0) (old new changed : Paged) (b : Bool) → P old → P changed → OnTrue b (new ≡ changed) → OnFalse b (new ≡ old) → P new
stored-keeps P old new changed true before after is left = subst P (sym is) after
stored-keeps P old new changed false before after is left = subst P (sym left) before

-- the bytes that were taken from a page
pub taken-there : (o : Option Resident) (start count : ℕ) (given bytes : List ℕ) → option_map (λ p. p.bytes) o ≡ Some given → bytes ≡ take count (drop start given) → ◌≡◌ {A = Option (List ℕ)} (Some bytes) (option_map (λ p. take count (drop start p.bytes)) o)
taken-there None start count given bytes has is = absurd (cc)
taken-there (Some r) start count given bytes has is = let same : r.bytes ≡ given = cc in rw (is, ← same) refl

-- none is taken where it is not resident
pub taken-absent : (pages : List Resident) (u : ObjectName) (k start count : ℕ) → page_at pages u k ≡ None → ◌≡◌ {A = Option (List ℕ)} None (option_map (λ p. take count (drop start p.bytes)) (page_at (map bare pages) u k))
taken-absent pages u k start count none = rw (absent-shown pages u k none) refl

-- nothing changes where a page is used that is not resident
pub used-absent : (pages : List Resident) (u : ObjectName) (k : ℕ) → page_at pages u k ≡ None → used pages u k ≡ pages
used-absent pages u k none = rw (none, without_page-none pages u k none) refl

-- a page is resident where its frame was found
pub resident-found : (pages : List Resident) (u : ObjectName) (k frame : ℕ) → Some frame ≡ option_map (λ r. r.frame) (page_at pages u k) → IsResident pages u k
resident-found pages u k frame = by_page (page_at pages u k)
  where
    by_page : (o : Option Resident) → Some frame ≡ option_map (λ r. r.frame) o → IsSome o
    by_page None found = absurd (cc)
    by_page (Some r) found = refl

pub IsSome-is : {A : Type 0} (o : Option A) → IsSome o → true ≡ is_some o
IsSome-is None some = absurd (cc)
IsSome-is (Some x) some = refl

pub None-is : {A : Type 0} (o : Option A) → o ≡ None → false ≡ is_some o
None-is o none = rw none refl
