-- Changes of lock states, open calls and mappings keep what each desk keeps.
use Rattle.std.proofs.Common.{◌≡◌, ◌≢◌, ℕ, ◌≤◌, Bool, true, false, List, [], length, Option, Some, None, IfSome, IsSome, inl, inr, refl, sym, ap, subst, ◌∙◌, arith}
use Rattle.std.specs.Prelude.{◌==◌, not, ◌&&◌, if◌then◌else◌}
use Rattle.std.specs.List.{find, list_any}
use Rattle.std.specs.Option.{option_map, option_or}
use Rattle.std.proofs.lemmas.Bool.{cases_eq}
use Rattle.std.proofs.lemmas.Bool.Decides.{nat_tests}
use Rattle.uid_names.specs.Names.{ObjectName, same_uid}
use Rattle.dom_history.specs.declared.deed.LockState.{LockState}
use Rattle.dom_history.specs.declared.deed.LockState.TheVariants.{Free, Held, Taking, Releasing, Deleting}
use Rattle.dom_history.specs.Locks.{is_held, is_free}
use Rattle.page_cache.specs.Caches.{Resident, page_at}
use Rattle.uid_names.proofs.Finds.{find-passes}
use Rattle.uid_names.proofs.ListLemmas.{by_cases, find-push, find-count_none, find-map, find-filter_leaves, count_by-filter_takes, none_is_no_some}
use Rattle.uid_names.proofs.Orders.{same_uid_is, same_uid-itself}
use Rattle.version_stamps.specs.Stamps.{stamp_of}
use Rattle.fault_handler.specs.declared.entries.LockEntry.{LockEntry}
use Rattle.fault_handler.specs.declared.transits.Transit.{Transit}
use Rattle.fault_handler.specs.declared.tasks.Work.{Work}
use Rattle.fault_handler.specs.declared.tasks.Work.TheVariants.{Load, Store}
use Rattle.fault_handler.specs.declared.tasks.Task.{Task}
use Rattle.fault_handler.specs.Entries.{is_on, entry_of, state_in, keeps, keeps_writing, entries_without, entries_with, entries_after, entries_noted, noted_if}
use Rattle.fault_handler.specs.declared.open_call.OpenCall.{OpenCall}
use Rattle.address_map.specs.declared.mapping.Mapping.{Mapping}
use Rattle.address_map.specs.Maps.{IsLayout}
use Rattle.address_map.proofs.Keeps.{IsLayout-none}
use Rattle.fault_handler.specs.Transits.{is_moving}
use Rattle.fault_handler.specs.Conditions.{IsNotAccessing, IsOther, empty_desk}
use Rattle.fault_handler.specs.Lengths.{known_of, is_changed}
use Rattle.fault_handler.specs.Desks.{DeskState, IsNode, procs, at, put_at, entry_at, any_keeps, any_writes, others_write, entries_of, open_call_of, task_of, moving_of}
use Rattle.fault_handler.specs.Changes.{with_state, with_note, with_call, with_maps}
use Rattle.fault_handler.specs.Invariant.{IsProc, IsShownPage, is_dirty, FitsWay, FitsTransit, is_access, MayWork, IsAllowed, KeepsAll, FitsOpen, IsLockEntry, AreEntries, AreLengthsWritten, IsCallAtNode, IsDesk}
use Rattle.fault_handler.proofs.Fours.{at-put_same, at-put_other, by_proc, length-put, each-put, any-at, any-of, any-more, apart-is}
use Rattle.fault_handler.proofs.PageLists.{found-uid}
use Rattle.fault_handler.proofs.MovingOthers.{FitsOpen-task, not_access}
use Rattle.fault_handler.proofs.TransitKeeps.{keeps_writing-keeps, any_writes-keeps, dirty-writes}

-- what is on another object is not on this one
on_other : (u v : ObjectName) (e : LockEntry) → same_uid v u ≡ false → is_on v e ≡ true → is_on u e ≡ false
on_other u v e differ is = grind (arith, nat_tests, differ, is)

-- the entry of the object is gone
pub entry_of-without_same : (u : ObjectName) (entries : List LockEntry) → entry_of u (entries_without u entries) ≡ None
entry_of-without_same u entries = find-count_none (is_on u) (entries_without u entries) (count_by-filter_takes (is_on u) (λ e. not (is_on u e)) (λ e is. ap not is) entries)

-- the others stay
pub entry_of-without_other : (u v : ObjectName) (entries : List LockEntry) → same_uid v u ≡ false → entry_of v (entries_without u entries) ≡ entry_of v entries
entry_of-without_other u v entries differ = find-filter_leaves (is_on v) (λ e. not (is_on u e)) (λ e is. ap not (on_other u v e differ is)) entries

-- the new entry is the object's
pub entry_of-with_same : (e : LockEntry) (entries : List LockEntry) → entry_of e.uid (entries_with e entries) ≡ Some e
entry_of-with_same e entries = find-push (is_on e.uid) (entries_without e.uid entries) e ∙ rw (entry_of-without_same e.uid entries, same_uid-itself e.uid) refl

pub entry_of-with_other : (e : LockEntry) (v : ObjectName) (entries : List LockEntry) → same_uid v e.uid ≡ false → entry_of v (entries_with e entries) ≡ entry_of v entries
entry_of-with_other e v entries differ = find-push (is_on v) (entries_without e.uid entries) e ∙ rw (differ, entry_of-without_other e.uid v entries differ) (option_or-none (entry_of v entries))
  where
    option_or-none : (o : Option LockEntry) → option_or o None ≡ o
    option_or-none None = refl
    option_or-none (Some x) = refl

-- the entry after a state was set
abbrev pub entry_after : ObjectName → LockState → ℕ → Option LockEntry
entry_after u s grant = if is_free s then None else Some (record { uid = u; state = s; grant = grant; released = false })

pub entry_of-after_same : (u : ObjectName) (s : LockState) (grant : ℕ) (entries : List LockEntry) → entry_of u (entries_after u s grant entries) ≡ entry_after u s grant
entry_of-after_same u s grant entries =
    by_cases
    (is_free s)
    (entry_of u (entries_after u s grant entries) ≡ entry_after u s grant)
    (λ free. rw free (entry_of-without_same u entries))
    (λ other. rw other (entry_of-with_same (record { uid = u; state = s; grant = grant; released = false }) entries))

pub entry_of-after_other : (u : ObjectName) (s : LockState) (grant : ℕ) (v : ObjectName) (entries : List LockEntry) → same_uid v u ≡ false → entry_of v (entries_after u s grant entries) ≡ entry_of v entries
entry_of-after_other u s grant v entries differ =
    by_cases
    (is_free s)
    (entry_of v (entries_after u s grant entries) ≡ entry_of v entries)
    (λ free. rw free (entry_of-without_other u v entries differ))
    (λ other. rw other (entry_of-with_other (record { uid = u; state = s; grant = grant; released = false }) v entries differ))

-- what a note changes
abbrev noting : ObjectName → LockEntry → LockEntry
noting u e = noted_if (is_on u e) e

is_on-noting : (u v : ObjectName) (e : LockEntry) → is_on v (noting u e) ≡ is_on v e
is_on-noting u v e = by_cases (is_on u e) (is_on v (noting u e) ≡ is_on v e) (λ is. rw is refl) (λ is. rw is refl)

entry_of-noted : (u v : ObjectName) (entries : List LockEntry) → entry_of v (entries_noted u entries) ≡ option_map (noting u) (entry_of v entries)
entry_of-noted u v entries = find-map (noting u) (is_on v) entries ∙ ap (λ t. option_map (noting u) (find t entries)) (λ i e. is_on-noting u v e i)

pub entry_of-noted_same : (u : ObjectName) (entries : List LockEntry) → entry_of u (entries_noted u entries) ≡ option_map (noted_if true) (entry_of u entries)
entry_of-noted_same u entries = entry_of-noted u u entries ∙ by_found (entry_of u entries) refl
  where
    by_found : (o : Option LockEntry) → entry_of u entries ≡ o → option_map (noting u) o ≡ option_map (noted_if true) o
    by_found None found = refl
    by_found (Some e) found = let here : is_on u e ≡ true = find-passes (is_on u) entries e found in rw here refl

pub entry_of-noted_other : (u v : ObjectName) (entries : List LockEntry) → same_uid v u ≡ false → entry_of v (entries_noted u entries) ≡ entry_of v entries
entry_of-noted_other u v entries differ = entry_of-noted u v entries ∙ by_found (entry_of v entries) refl
  where
    by_found : (o : Option LockEntry) → entry_of v entries ≡ o → option_map (noting u) o ≡ o
    by_found None found = refl
    by_found (Some e) found = let away : is_on u e ≡ false = on_other u v e differ (find-passes (is_on v) entries e found) in rw away refl

-- where a process keeps an object its entry stays
abbrev pub Stays : List (List LockEntry) → List (List LockEntry) → ℕ → Type 0
Stays old new q = (v : ObjectName) → keeps (entry_at old q v) ≡ true → entry_at new q v ≡ entry_at old q v

-- some process keeps an object where one kept it
pub any_keeps-stays : (old new : List (List LockEntry)) → ((q : ℕ) → IsProc q → Stays old new q) → (v : ObjectName) → any_keeps old v ≡ true → any_keeps new v ≡ true
any_keeps-stays old new stays v = any-more (λ q. keeps (entry_at old q v)) (λ q. keeps (entry_at new q v)) (λ q proc is. ap keeps (stays q proc v is) ∙ is)

pub any_writes-stays : (old new : List (List LockEntry)) → ((q : ℕ) → IsProc q → Stays old new q) → (v : ObjectName) → any_writes old v ≡ true → any_writes new v ≡ true
any_writes-stays old new stays v =
    any-more (λ q. keeps_writing (entry_at old q v)) (λ q. keeps_writing (entry_at new q v)) (λ q proc is. ap keeps_writing (stays q proc v (keeps_writing-keeps (entry_at old q v) is)) ∙ is)

module _ (old new : List (List LockEntry)) (q : ℕ) (stays : Stays old new q) where
  MayWork-stays : (work : Work) (v : ObjectName) → keeps (entry_at old q v) ≡ true → MayWork work (entry_at old q v) → MayWork work (entry_at new q v)
  MayWork-stays (Load n) v kept may = tt
  MayWork-stays (Store bytes) v kept may = ap keeps_writing (stays v kept) ∙ may

  pub IsAllowed-stays : (task : Task) → IsAllowed old q task → IsAllowed new q task
  IsAllowed-stays task allowed = record {
    range = allowed.range;
    kept = ap keeps (stays task.uid allowed.kept) ∙ allowed.kept;
    mode = MayWork-stays task.work task.uid allowed.kept allowed.mode;
  }

  FitsOpen-stays : (pages : List Resident) (access : Bool) (task : Option Task) (t : Option Transit) → (KeepsAll old q → KeepsAll new q) → FitsOpen pages old q access task t → FitsOpen pages new q access task t
  FitsOpen-stays pages true (Some task) (Some t) keeping fits = record { allowed = IsAllowed-stays task fits.allowed; keeping = keeping fits.keeping; comes = fits.comes; goes = fits.goes }
  FitsOpen-stays pages true (Some task) None keeping fits = fits
  FitsOpen-stays pages true None t keeping fits = fits
  FitsOpen-stays pages false None None keeping fits = fits
  FitsOpen-stays pages false None (Some t) keeping fits = (fits.0, ap keeps (stays t.uid fits.1) ∙ fits.1)
  FitsOpen-stays pages false (Some task) t keeping fits = fits

-- where none is open, entries speak of the page that the process moves alone
FitsOpen-closed : (pages : List Resident) (old new : List (List LockEntry)) (q : ℕ) (access : Bool) (task : Option Task) (t : Option Transit) → access ≡ false → (IsSome t → Stays old new q)
    → FitsOpen pages old q access task t → FitsOpen pages new q access task t
FitsOpen-closed pages old new q true task t closed stays fits = absurd (cc)
FitsOpen-closed pages old new q false None None closed stays fits = fits
FitsOpen-closed pages old new q false None (Some t) closed stays fits = (fits.0, ap keeps (stays refl t.uid fits.1) ∙ fits.1)
FitsOpen-closed pages old new q false (Some task) t closed stays fits = fits

module _ (d : DeskState) (new : List (List LockEntry)) (is : IsDesk d) where
  -- other entries: an object whose page is dirty has a writer still, and what a process that moves a page keeps stays
  module _ (four : length new ≡ 4) (entries : AreEntries new)
      (writes : (v : ObjectName) (k : ℕ) → is_dirty (page_at d.cache.pages v k) ≡ true → any_writes d.entries v ≡ true → any_writes new v ≡ true)
      (stays : (q : ℕ) → IsProc q → IsSome (moving_of d q) → Stays d.entries new q)
      (keeping : (q : ℕ) → IsProc q → is_access (open_call_of d q) ≡ true → KeepsAll d.entries q → KeepsAll new q)
      (stamped : (q : ℕ) → IsProc q → (v : ObjectName) → keeps (entry_at new q v) ≡ true → IsSome (stamp_of v d.seen))
      (lengths : AreLengthsWritten d.known new)
      (located : (q : ℕ) → IsProc q → (v : ObjectName) → IsSome (entry_at new q v) → IsNode d.nodes v.home) where
    shown : (v : ObjectName) (k : ℕ) (o : Option Resident) → page_at d.cache.pages v k ≡ o → IfSome o (IsShownPage d.entries) → IfSome o (IsShownPage new)
    shown v k None found was = tt
    shown v k (Some r) found was = record {
      page = was.page;
      bytes = was.bytes;
      written = λ dirty.
          let same : r.uid ≡ v = found-uid d.cache.pages v k r found in
          subst (λ (w : ObjectName). any_writes new w ≡ true) (sym same) (writes v k (rw found dirty) (subst (λ (w : ObjectName). any_writes d.entries w ≡ true) same (was.written dirty)));
    }

    fits : (q : ℕ) → IsProc q → (o : Option Transit) → moving_of d q ≡ o → FitsTransit d.cache.pages d.entries q o → FitsTransit d.cache.pages new q o
    fits q proc None moves was = tt
    fits q proc (Some t) moves was = by_way t.inward refl was
      where
        some : IsSome (moving_of d q)
        some = rw moves refl

        -- a page goes home to make room, and is dirty, or is of an object that its process keeps
        goes_by : (access : Bool) (task : Option Task) → t.inward ≡ false → FitsOpen d.cache.pages d.entries q access task (Some t) → any_keeps new t.uid ≡ true
        goes_by true (Some task) way f = let dirty = f.goes way in any_writes-keeps new t.uid (writes t.uid t.page dirty (dirty-writes d q is proc t.uid t.page dirty))
        goes_by true None way f = absurd f
        goes_by false None way f = any-at (λ r. keeps (entry_at new r t.uid)) q proc (ap keeps (stays q proc some t.uid f.1) ∙ f.1)
        goes_by false (Some task) way f = absurd f

        by_way : (b : Bool) → t.inward ≡ b → FitsWay b d.cache.pages d.entries q t.uid t.page → FitsWay b d.cache.pages new q t.uid t.page
        by_way true way f = (f.0, ap keeps (stays q proc some t.uid f.1) ∙ f.1)
        by_way false way f = (f.0, goes_by (is_access (open_call_of d q)) (task_of d q) way (subst (FitsOpen d.cache.pages d.entries q (is_access (open_call_of d q)) (task_of d q)) moves (is.calls q proc)))

    opened : (q : ℕ) → IsProc q → FitsOpen d.cache.pages new q (is_access (open_call_of d q)) (task_of d q) (moving_of d q)
    opened q proc =
        by_cases
        (is_access (open_call_of d q))
        (FitsOpen d.cache.pages new q (is_access (open_call_of d q)) (task_of d q) (moving_of d q))
        (λ access. FitsOpen-stays d.entries new q (stays q proc (moves-some access)) d.cache.pages (is_access (open_call_of d q)) (task_of d q) (moving_of d q) (keeping q proc access) (is.calls q proc))
        (λ closed. FitsOpen-closed d.cache.pages d.entries new q (is_access (open_call_of d q)) (task_of d q) (moving_of d q) closed (stays q proc) (is.calls q proc))
      where
        moves-some : is_access (open_call_of d q) ≡ true → IsSome (moving_of d q)
        moves-some access = let found = FitsOpen-task d.cache.pages d.entries q (is_access (open_call_of d q)) (task_of d q) (moving_of d q) access (is.calls q proc) in rw found.3 refl

    pub IsDesk-entries : IsDesk (record d { entries = new })
    IsDesk-entries = record {
      four = record { entries = four; maps = is.four.maps; calls = is.four.calls; tasks = is.four.tasks; moving = is.four.moving };
      frames = is.frames;
      maps = is.maps;
      pages = record { once = is.pages.once; each = λ v k. shown v k (page_at d.cache.pages v k) refl (is.pages.each v k) };
      moved = record { reserved = is.moved.reserved; each = λ q proc. fits q proc (moving_of d q) refl (is.moved.each q proc); apart = is.moved.apart };
      calls = opened;
      entries = entries;
      known = record { rows = is.known.rows; stamps = is.known.stamps; kept = stamped; both = is.known.both };
      lengths = lengths;
      at_nodes = record { locked = located; asked = is.at_nodes.asked };
    }

-- a process's new entries, as all see them
entry_at-put_same : (entries : List (List LockEntry)) (p : ℕ) (new : List LockEntry) (v : ObjectName) → length entries ≡ 4 → IsProc p → entry_at (put_at entries p new) p v ≡ entry_of v new
entry_at-put_same entries p new v four proc = ap (entry_of v) (at-put_same entries p new [] four proc)

entry_at-put_other : (entries : List (List LockEntry)) (p q : ℕ) (new : List LockEntry) (v : ObjectName) → IsProc p → IsProc q → q ≢ p → entry_at (put_at entries p new) q v ≡ entry_at entries q v
entry_at-put_other entries p q new v proc other differs = ap (entry_of v) (at-put_other entries p q new [] proc other differs)

-- what holds of the entry of an object after a process's entries changed: of the changed one, of the process's others, and of those of others
by_entry : (P : ℕ → ObjectName → Option LockEntry → Type 0) (entries : List (List LockEntry)) (p : ℕ) (new : List LockEntry) (u : ObjectName) → length entries ≡ 4 → IsProc p → P p u (entry_of u new)
    → ((v : ObjectName) → same_uid v u ≡ false → P p v (entry_of v new))
    → ((q : ℕ) → IsProc q → q ≢ p → (v : ObjectName) → P q v (entry_at entries q v))
    → (q : ℕ) → IsProc q → (v : ObjectName) → P q v (entry_at (put_at entries p new) q v)
by_entry P entries p new u four proc here others elsewhere q proc_q v = elim (cases_eq q p) [
  | inl same ↦
      subst (λ (r : ℕ). P r v (entry_at (put_at entries p new) r v)) (sym same)
      (subst (P p v) (sym (entry_at-put_same entries p new v four proc))
      (by_cases (same_uid v u) (P p v (entry_of v new)) (λ is. subst (λ (w : ObjectName). P p w (entry_of w new)) (sym (same_uid_is v u is)) here) (others v)))
  | inr differs ↦ subst (P q v) (sym (entry_at-put_other entries p q new v proc proc_q differs)) (elsewhere q proc_q differs v)
]

-- a state was set
module _ (d : DeskState) (p : ℕ) (u : ObjectName) (s : LockState) (grant : ℕ) (is : IsDesk d) (proc : IsProc p)
    (given_up : keeps (entry_at d.entries p u) ≡ false) (seen : is_held s ≡ true → IsSome (stamp_of u d.seen)) (least : is_held s ≡ true → 1 ≤ grant)
    (home : is_free s ≡ false → IsNode d.nodes u.home) where
  abbrev new : List LockEntry
  new = entries_after u s grant (entries_of d p)

  -- what holds of each entry afterwards
  by_new : (P : ℕ → ObjectName → Option LockEntry → Type 0) → P p u (entry_after u s grant) → ((q : ℕ) → IsProc q → (v : ObjectName) → P q v (entry_at d.entries q v)) → (q : ℕ) → IsProc q → (v : ObjectName) → P q v (entry_at (put_at d.entries p new) q v)
  by_new P here before =
      by_entry P d.entries p new u is.four.entries proc
      (subst (P p u) (sym (entry_of-after_same u s grant (entries_of d p))) here)
      (λ v differ. subst (P p v) (sym (entry_of-after_other u s grant v (entries_of d p) differ)) (before p proc v))
      (λ q proc_q differs v. before q proc_q v)

  IsLockEntry-after : IfSome (entry_after u s grant) IsLockEntry
  IsLockEntry-after = by_state s refl
    where
      by_state : (t : LockState) → s ≡ t → IfSome (entry_after u t grant) IsLockEntry
      by_state Free same = tt
      by_state (Held m) same = least (ap is_held same)
      by_state (Taking m) same = tt
      by_state (Releasing m) same = tt
      by_state Deleting same = tt

  keeps-after : (keeps (entry_after u s grant) ≡ true → is_held s ≡ true) × (is_held (state_in (entry_after u s grant)) ≡ true → keeps (entry_after u s grant) ≡ true)
  keeps-after = by_state s
    where
      by_state : (t : LockState) → (keeps (entry_after u t grant) ≡ true → is_held t ≡ true) × (is_held (state_in (entry_after u t grant)) ≡ true → keeps (entry_after u t grant) ≡ true)
      by_state Free = (λ h. h, λ h. h)
      by_state (Held m) = (λ h. refl, λ h. refl)
      by_state (Taking m) = (λ h. h, λ h. h)
      by_state (Releasing m) = (λ h. h, λ h. h)
      by_state Deleting = (λ h. h, λ h. h)

  stays-after : (q : ℕ) → IsProc q → Stays d.entries (put_at d.entries p new) q
  stays-after =
      by_new (λ q v o. keeps (entry_at d.entries q v) ≡ true → o ≡ entry_at d.entries q v)
      (λ is_kept. absurd (let e : true ≡ false = sym is_kept ∙ given_up in cc))
      (λ q proc_q v is_kept. refl)

  -- an object that has an entry afterwards is not Free
  not_free : IsSome (entry_after u s grant) → is_free s ≡ false
  not_free some = by_cases (is_free s) (is_free s ≡ false) (λ free. absurd (let e : IsSome {T = LockEntry} None = rw free at some in cc)) (λ h. h)

  pub IsDesk-with_state : IsDesk (with_state d p u s grant)
  IsDesk-with_state =
      IsDesk-entries d (put_at d.entries p new) is (length-put d.entries p new is.four.entries)
      (by_new (λ q v o. IfSome o IsLockEntry) IsLockEntry-after is.entries)
      (λ v k dirty. any_writes-stays d.entries (put_at d.entries p new) stays-after v)
      (λ q proc_q some. stays-after q proc_q)
      (λ q proc_q access all v. by_new (λ r w o. KeepsAll d.entries r → is_held (state_in o) ≡ true → keeps o ≡ true) (λ every. keeps-after.1) (λ r proc_r w every. every w) q proc_q v all)
      (by_new (λ q v o. keeps o ≡ true → IsSome (stamp_of v d.seen)) (λ is_kept. seen (keeps-after.0 is_kept)) (λ q proc_q v. is.known.kept q proc_q v))
      (λ v changed. any_writes-stays d.entries (put_at d.entries p new) stays-after v (is.lengths v changed))
      (by_new (λ q v o. IsSome o → IsNode d.nodes v.home) (λ some. home (not_free some)) is.at_nodes.locked)

-- a noted entry is an entry, and is not kept
IsLockEntry-noted : (o : Option LockEntry) → IfSome o IsLockEntry → IfSome (option_map (noted_if true) o) IsLockEntry
IsLockEntry-noted None is = tt
IsLockEntry-noted (Some e) is = is

some-noted : (o : Option LockEntry) → IsSome (option_map (noted_if true) o) → IsSome o
some-noted None some = absurd (cc)
some-noted (Some e) some = refl

keeps-noted : (o : Option LockEntry) → keeps (option_map (noted_if true) o) ≡ true → ⊥
keeps-noted None is = cc
keeps-noted (Some e) is = grind (arith, nat_tests, is)

-- a release or a removal was sent
module _ (d : DeskState) (p : ℕ) (u : ObjectName) (is : IsDesk d) (proc : IsProc p) (other : IsNotAccessing d p)
    (dirty : (k : ℕ) → is_dirty (page_at d.cache.pages u k) ≡ true → others_write d.entries p u ≡ true)
    (still : moving_of d p ≡ None)
    (changed : is_changed (known_of u d.known) ≡ true → others_write d.entries p u ≡ true) where
  abbrev noted : List (List LockEntry)
  noted = put_at d.entries p (entries_noted u (entries_of d p))

  -- what holds of each entry afterwards
  by_noted : (P : ℕ → ObjectName → Option LockEntry → Type 0) → P p u (option_map (noted_if true) (entry_at d.entries p u)) → ((q : ℕ) → IsProc q → (v : ObjectName) → P q v (entry_at d.entries q v)) → (q : ℕ) → IsProc q → (v : ObjectName) → P q v (entry_at noted q v)
  by_noted P here before =
      by_entry P d.entries p (entries_noted u (entries_of d p)) u is.four.entries proc
      (subst (P p u) (sym (entry_of-noted_same u (entries_of d p))) here)
      (λ v differ. subst (P p v) (sym (entry_of-noted_other u v (entries_of d p) differ)) (before p proc v))
      (λ q proc_q differs v. before q proc_q v)

  -- the entries of another process, and those of other objects, stay
  noted-elsewhere : (q : ℕ) → IsProc q → q ≢ p → (v : ObjectName) → entry_at noted q v ≡ entry_at d.entries q v
  noted-elsewhere q proc_q differs v = entry_at-put_other d.entries p q (entries_noted u (entries_of d p)) v proc proc_q differs

  noted-others : (v : ObjectName) → same_uid v u ≡ false → (q : ℕ) → IsProc q → entry_at noted q v ≡ entry_at d.entries q v
  noted-others v differ q proc_q = elim (cases_eq q p) [
    | inl same ↦
        subst (λ (r : ℕ). entry_at noted r v ≡ entry_at d.entries r v) (sym same)
        (entry_at-put_same d.entries p (entries_noted u (entries_of d p)) v is.four.entries proc ∙ entry_of-noted_other u v (entries_of d p) differ)
    | inr differs ↦ noted-elsewhere q proc_q differs v
  ]

  -- a test that another process passes, and one on another object
  passes-noted : (test : Option LockEntry → Bool) (v : ObjectName) → (same_uid v u ≡ true → list_any (λ q. not (q == p) && test (entry_at d.entries q u)) procs ≡ true)
      → list_any (λ q. test (entry_at d.entries q v)) procs ≡ true → list_any (λ q. test (entry_at noted q v)) procs ≡ true
  passes-noted test v beside passes =
      by_cases
      (same_uid v u)
      (list_any (λ q. test (entry_at noted q v)) procs ≡ true)
      (λ same.
      let found = any-of (λ q. not (q == p) && test (entry_at d.entries q u)) (beside same) in
      let there = apart-is p found.0 (test (entry_at d.entries found.0 u)) found.2 in
      let at_v : test (entry_at noted found.0 u) ≡ true = ap test (noted-elsewhere found.0 found.1 there.0 u) ∙ there.1 in
      any-at (λ q. test (entry_at noted q v)) found.0 found.1 (subst (λ (w : ObjectName). test (entry_at noted found.0 w) ≡ true) (sym (same_uid_is v u same)) at_v))
      (λ differ. any-more (λ q. test (entry_at d.entries q v)) (λ q. test (entry_at noted q v)) (λ q proc_q h. ap test (noted-others v differ q proc_q) ∙ h) passes)

  -- a process that moves a page is another one, and so is that of a load or store
  mover : (q : ℕ) → IsSome (moving_of d q) → q ≢ p
  mover q some same = let h : IsSome (moving_of d p) = subst (λ (r : ℕ). IsSome (moving_of d r)) same some in none_is_no_some (moving_of d p) h still

  another : (q : ℕ) → is_access (open_call_of d q) ≡ true → q ≢ p
  another q access same = let closed = not_access (open_call_of d p) other in let e : is_access (open_call_of d p) ≡ true = subst (λ (r : ℕ). is_access (open_call_of d r) ≡ true) same access in cc

  pub IsDesk-with_note : IsDesk (with_note d p u)
  IsDesk-with_note =
      IsDesk-entries d noted is (length-put d.entries p (entries_noted u (entries_of d p)) is.four.entries)
      (by_noted (λ q v o. IfSome o IsLockEntry) (IsLockEntry-noted (entry_at d.entries p u) (is.entries p proc u)) is.entries)
      (λ v k h. passes-noted keeps_writing v (λ same. dirty k (subst (λ (w : ObjectName). is_dirty (page_at d.cache.pages w k) ≡ true) (same_uid_is v u same) h)))
      (λ q proc_q some v is_kept. noted-elsewhere q proc_q (mover q some) v)
      (λ q proc_q access all v. subst (λ (o : Option LockEntry). is_held (state_in o) ≡ true → keeps o ≡ true) (sym (noted-elsewhere q proc_q (another q access) v)) (all v))
      (by_noted (λ q v o. keeps o ≡ true → IsSome (stamp_of v d.seen)) (λ h. absurd (keeps-noted (entry_at d.entries p u) h)) (λ q proc_q v. is.known.kept q proc_q v))
      (λ v h. passes-noted keeps_writing v (λ same. changed (subst (λ (w : ObjectName). is_changed (known_of w d.known) ≡ true) (same_uid_is v u same) h)) (is.lengths v h))
      (by_noted (λ q v o. IsSome o → IsNode d.nodes v.home) (λ some. is.at_nodes.locked p proc u (some-noted (entry_at d.entries p u) some)) is.at_nodes.locked)

-- an open call was set that neither is nor was that of a load or store
pub IsDesk-with_call : (d : DeskState) (p : ℕ) (call : Option OpenCall) → IsDesk d → IsProc p → IsNotAccessing d p → IsOther call → IfSome call (IsCallAtNode d.nodes) → IsDesk (with_call d p call)
IsDesk-with_call d p call is proc other new_other located = record {
  four = record { entries = is.four.entries; maps = is.four.maps; calls = length-put d.calls p call is.four.calls; tasks = is.four.tasks; moving = is.four.moving };
  frames = is.frames;
  maps = is.maps;
  pages = is.pages;
  moved = is.moved;
  calls = each-put (λ q c. FitsOpen d.cache.pages d.entries q (is_access c) (task_of d q) (moving_of d q)) d.calls p call None is.four.calls proc
      (subst (λ (b : Bool). FitsOpen d.cache.pages d.entries p b (task_of d p) (moving_of d p)) (not_access (open_call_of d p) other ∙ sym (not_access call new_other)) (is.calls p proc))
      (λ q proc_q differs. is.calls q proc_q);
  entries = is.entries;
  known = is.known;
  lengths = is.lengths;
  at_nodes = record { locked = is.at_nodes.locked; asked = each-put (λ q c. IfSome c (IsCallAtNode d.nodes)) d.calls p call None is.four.calls proc located (λ q proc_q differs. is.at_nodes.asked q proc_q) };
}

-- mappings were set, which are laid out
pub IsDesk-with_maps : (d : DeskState) (p : ℕ) (maps : List Mapping) → IsDesk d → IsProc p → IsLayout maps → IsDesk (with_maps d p maps)
IsDesk-with_maps d p maps is proc layout = record {
  four = record { entries = is.four.entries; maps = length-put d.maps p maps is.four.maps; calls = is.four.calls; tasks = is.four.tasks; moving = is.four.moving };
  frames = is.frames;
  maps = each-put (λ q ms. IsLayout ms) d.maps p maps [] is.four.maps proc layout (λ q proc_q differs. is.maps q proc_q);
  pages = is.pages;
  moved = is.moved;
  calls = is.calls;
  entries = is.entries;
  known = is.known;
  lengths = is.lengths;
  at_nodes = is.at_nodes;
}

-- a desk without pages, locks and mappings
pub IsDesk-empty_desk : (node nodes frames : ℕ) → 5 ≤ frames → IsDesk (empty_desk node nodes frames)
IsDesk-empty_desk node nodes frames least = record {
  four = record { entries = refl; maps = refl; calls = refl; tasks = refl; moving = refl };
  frames = least;
  maps = by_proc (λ q. IsLayout (at (empty_desk node nodes frames).maps q [])) IsLayout-none IsLayout-none IsLayout-none IsLayout-none;
  pages = record { once = λ u k. omega arith; each = λ u k. tt };
  moved = record {
    reserved = refl;
    each = by_proc (λ q. FitsTransit [] (empty_desk node nodes frames).entries q (at (empty_desk node nodes frames).moving q None)) tt tt tt tt;
    apart = λ q r one two u k own_q moves. absurd (nothing q one u k own_q);
  };
  calls = by_proc (λ q. FitsOpen [] (empty_desk node nodes frames).entries q (is_access (at (empty_desk node nodes frames).calls q None)) (at (empty_desk node nodes frames).tasks q None) (at (empty_desk node nodes frames).moving q None)) tt tt tt tt;
  entries = λ q proc u. by_proc (λ r. IfSome (entry_at (empty_desk node nodes frames).entries r u) IsLockEntry) tt tt tt tt q proc;
  known = record {
    rows = λ u. tt;
    stamps = λ u. tt;
    kept = λ q proc u. by_proc (λ r. keeps (entry_at (empty_desk node nodes frames).entries r u) ≡ true → IsSome (stamp_of u [])) (λ h. h) (λ h. h) (λ h. h) (λ h. h) q proc;
    both = λ u h. h;
  };
  lengths = λ u h. absurd (cc);
  at_nodes = record {
    locked = λ q proc u. by_proc (λ r. IsSome (entry_at (empty_desk node nodes frames).entries r u) → IsNode nodes u.home) (λ h. absurd (cc)) (λ h. absurd (cc)) (λ h. absurd (cc)) (λ h. absurd (cc)) q proc;
    asked = by_proc (λ q. IfSome (at (empty_desk node nodes frames).calls q None) (IsCallAtNode nodes)) tt tt tt tt;
  };
}
  where
    nothing : (q : ℕ) → IsProc q → (u : ObjectName) (k : ℕ) → is_moving u k (at (empty_desk node nodes frames).moving q None) ≡ true → ⊥
    nothing q proc u k = by_proc (λ r. is_moving u k (at (empty_desk node nodes frames).moving r None) ≡ true → ⊥) (λ h. cc) (λ h. cc) (λ h. cc) (λ h. cc) q proc
