-- The pool that a slab of flags and a list of pages stand for: what it has at a number, and how many.
use Rattle.std.proofs.Common.{◌≡◌, ◌≢◌, ℕ, zero, suc, ◌+◌, ◌-◌, ◌<◌, cond, List, [], ◌∷◌, map, length, get_or, set, Option, Some, None, is_some, IsSome, count_by, inl, inr, refl, sym, ap, ◌∙◌, arith, zero-add}
use Rattle.std.proofs.lemmas.Bool.{cases_eq}
use Rattle.std.proofs.lemmas.List.{get_or-set_same, get_or-set_other, get_or_default, length-set}
use Rattle.std.proofs.lemmas.List.Sums.{sum_by-cons}
use Rattle.std.specs.Option.{option_map}
use Rattle.std.specs.Ordering.{nat_cmp, eq_by_cmp}
use Rattle.std.specs.Cmp.{nat_cmp_total}
use Rattle.std.specs.FinMap.{find, from_entries, get, insert, remove, len, same_map, nat_cmp-IsAntisymmetric, get-from_entries, get-insert, get-remove, len-insert, len-empty}
use Rattle.slab.specs.Slab as slab
use Rattle.slab.specs.Slab.{Slab, ContainsKey, Updates, with_value, entries_from, slab_len}
use Rattle.slab.proofs.SlabLemmas.{Updates-with_value}
use Rattle.page_frames.specs.declared.frame.Flags.{Flags}
use Rattle.page_frames.proofs.FrameLemmas.{tied, apart}
use Rattle.page_frames.specs.Pools.{Frame, Pool, IsPool, IsTaken, frame_at, frame_in, free_count, no_flags, with_frame, without_frame, with_bytes, with_flags}
use Rattle.page_frames.specs.Insides.{frame_of, taken_of, pool_of, IsSound}

-- what a mapped value comes from
pub some_mapped : {X Y : Type 0} (f : X → Y) (o : Option X) → IsSome (option_map f o) → (x : X) × (o ≡ Some x)
some_mapped f None found = absurd (cc)
some_mapped f (Some x) found = (x, refl)

module _ (pages : List (List ℕ)) where
  -- the numbered frames of these slots, the first of which has this number
  abbrev listed : ℕ → List (Option Flags) → List (ℕ × Frame)
  listed k slots = map (λ e. (e.0, frame_of pages e.0 e.1)) (entries_from k slots)

  -- a number below the first one is not listed
  find-below : (k : ℕ) (slots : List (Option Flags)) (q : ℕ) → q < k → find nat_cmp q (listed k slots) ≡ None
  find-below k [] q lt = refl
  find-below k (None ∷ rest) q lt = find-below (k + 1) rest q (omega arith)
  find-below k (Some f ∷ rest) q lt = rw (apart q k (omega arith)) (find-below (k + 1) rest q (omega arith))

  -- a number is listed where its slot has flags
  find-listed : (k : ℕ) (slots : List (Option Flags)) (i q : ℕ) → q ≡ k + i → find nat_cmp q (listed k slots) ≡ option_map (frame_of pages q) (get_or slots i None)
  find-listed k [] i q is = refl
  find-listed k (None ∷ rest) zero q is = find-below (k + 1) rest q (omega arith)
  find-listed k (None ∷ rest) (suc i) q is = find-listed (k + 1) rest i q (omega arith)
  find-listed k (Some f ∷ rest) zero q is =
      let here : q ≡ k = omega arith in
      rw (here, tied k) refl
  find-listed k (Some f ∷ rest) (suc i) q is = rw (apart q k (omega arith)) (find-listed (k + 1) rest i q (omega arith))

  -- as many are listed as slots have flags
  len-listed : (k : ℕ) (slots : List (Option Flags)) → len (from_entries {R = nat_cmp} (listed k slots)) ≡ count_by is_some slots
  len-listed k [] = len-empty nat_cmp Frame
  len-listed k (None ∷ rest) = omega (arith, len-listed (k + 1) rest, sum_by-cons (λ o. cond (is_some o) 1 0) None rest)
  len-listed k (Some f ∷ rest) =
      let new : get (from_entries {R = nat_cmp} (listed (k + 1) rest)) k ≡ None = get-from_entries nat_cmp_total _ k ∙ find-below (k + 1) rest k (omega arith) in
      let more = len-insert nat_cmp_total (from_entries {R = nat_cmp} (listed (k + 1) rest)) k (frame_of pages k f) in
      rw (more, new) (omega (arith, len-listed (k + 1) rest, sum_by-cons (λ o. cond (is_some o) 1 0) (Some f) rest))

  -- what the pool has at a number is what the slab has there, with the bytes
  pub get-taken_of : (numbers : Slab Flags) (q : ℕ) → get (taken_of numbers pages) q ≡ option_map (frame_of pages q) (slab.get numbers q)
  get-taken_of numbers q = get-from_entries nat_cmp_total _ q ∙ find-listed 0 numbers.slots q q (sym (zero-add q))

  -- as many frames are taken as the slab has values
  pub len-taken_of : (numbers : Slab Flags) → len (taken_of numbers pages) ≡ slab_len numbers
  len-taken_of numbers = len-listed 0 numbers.slots

-- a slab that changes at one key, and pages that change there alone, stand for one frame put there
pub taken_of-with : (old new : Slab Flags) (ps qs : List (List ℕ)) (key : ℕ) (f : Flags) → Updates old new key (Some f) → ((q : ℕ) → q ≢ key → get_or qs q [] ≡ get_or ps q []) → taken_of new qs ≡ insert (taken_of old ps) key (frame_of qs key f)
taken_of-with old new ps qs key f updates kept = same_map nat_cmp_total nat_cmp-IsAntisymmetric _ _ each
  where
    at : (q : ℕ) → option_map (frame_of qs q) (slab.get new q) ≡ cond (eq_by_cmp nat_cmp q key) (Some (frame_of qs key f)) (option_map (frame_of ps q) (slab.get old q))
    at q = elim (cases_eq q key) [
      | inl same ↦ rw (same, tied key, updates.changed) refl
      | inr differs ↦ rw (apart q key differs, updates.others q differs) (ap (λ (bytes : List ℕ). option_map (λ (f : Flags). record { bytes = bytes; flags = f }) (slab.get old q)) (kept q differs))
    ]

    each : (q : ℕ) → get (taken_of new qs) q ≡ get (insert (taken_of old ps) key (frame_of qs key f)) q
    each q = rw (get-insert nat_cmp_total (taken_of old ps) key (frame_of qs key f) q, get-taken_of qs new q, get-taken_of ps old q) (at q)

-- a slab without a key stands for the pool without that frame
pub taken_of-without : (old new : Slab Flags) (ps : List (List ℕ)) (key : ℕ) → Updates old new key None → taken_of new ps ≡ remove (taken_of old ps) key
taken_of-without old new ps key updates = same_map nat_cmp_total nat_cmp-IsAntisymmetric _ _ each
  where
    at : (q : ℕ) → option_map (frame_of ps q) (slab.get new q) ≡ cond (eq_by_cmp nat_cmp q key) None (option_map (frame_of ps q) (slab.get old q))
    at q = elim (cases_eq q key) [
      | inl same ↦ rw (same, tied key, updates.changed) refl
      | inr differs ↦ rw (apart q key differs, updates.others q differs) refl
    ]

    each : (q : ℕ) → get (taken_of new ps) q ≡ get (remove (taken_of old ps) key) q
    each q = rw (get-remove nat_cmp_total (taken_of old ps) key q, get-taken_of ps new q, get-taken_of ps old q) (at q)

-- p is the pool that these fields stand for
module _ (count : ℕ) (numbers : Slab Flags) (pages : List (List ℕ)) (p : Pool) (is : pool_of count numbers pages ≡ p) where
  -- what the pool has at a number
  frame_at-fields : (key : ℕ) → frame_at p key ≡ option_map (frame_of pages key) (slab.get numbers key)
  frame_at-fields key = rw (← is) (get-taken_of pages numbers key)

  -- a number that the slab does not have is free
  pub frame_at-vacant : (key : ℕ) → slab.get numbers key ≡ None → frame_at p key ≡ None
  frame_at-vacant key vacant = frame_at-fields key ∙ ap (option_map (frame_of pages key)) vacant

  -- what a taken frame holds
  frame_in-fields : (key : ℕ) (f : Flags) → slab.get numbers key ≡ Some f → frame_in p key ≡ frame_of pages key f
  frame_in-fields key f found = rw (frame_at-fields key, found) refl

  -- a taken frame has its flags in the slab
  flags_found : (key : ℕ) → IsTaken p key → (f : Flags) × (slab.get numbers key ≡ Some f)
  flags_found key taken = some_mapped (frame_of pages key) (slab.get numbers key) (rw (frame_at-fields key) at taken)

  -- a taken frame's number is a key of the slab
  pub ContainsKey-taken : (key number : ℕ) → key ≡ number → IsTaken p number → ContainsKey numbers key
  ContainsKey-taken key number same taken = let found = flags_found key (rw same taken) in rw found.1 refl

  -- the flags that the slab has are the frame's
  pub flags-fields : (key number : ℕ) (f : Flags) → key ≡ number → slab.get numbers key ≡ Some f → f ≡ (frame_in p number).flags
  flags-fields key number f same found = sym (ap (λ x. x.flags) (rw same at (frame_in-fields key f found)))

  -- the bytes that the pages have at its number are the frame's
  pub bytes-fields : (key number : ℕ) (bytes : List ℕ) → key ≡ number → IsTaken p number → key < length pages → bytes ≡ get_or pages key bytes → bytes ≡ (frame_in p number).bytes
  bytes-fields key number bytes same taken within read =
      let found = flags_found key (rw same taken) in
      let seen : frame_in p number ≡ frame_of pages key found.0 = rw (← same) (frame_in-fields key found.0 found.1) in
      read ∙ get_or_default pages key bytes [] within ∙ sym (ap (λ x. x.bytes) seen)

  -- the free frames are those that the slab has no flags for
  pub free_count-fields : free_count p ≡ count - slab_len numbers
  free_count-fields = rw (← is, len-taken_of pages numbers) refl

  -- the pool keeps what every pool keeps
  pub IsPool-fields : IsSound count numbers pages → IsPool p
  IsPool-fields sound = rw (← is) (record { few = sound.few; many = sound.many; within = rw (len-taken_of pages numbers) sound.within })

  -- the slab changes at one key, and the pages there alone
  pool_of-with : (new : Slab Flags) (qs : List (List ℕ)) (key : ℕ) (f : Flags) → Updates numbers new key (Some f) → ((q : ℕ) → q ≢ key → get_or qs q [] ≡ get_or pages q []) → pool_of count new qs ≡ with_frame p key (frame_of qs key f)
  pool_of-with new qs key f updates kept = rw (← is, taken_of-with numbers new pages qs key f updates kept) refl

  -- a frame that was free is taken
  pub pool_of-taken : (new : Slab Flags) (key : ℕ) (bytes : List ℕ) → key < length pages → Updates numbers new key (Some no_flags) → pool_of count new (set pages key bytes) ≡ with_frame p key (record { bytes = bytes; flags = no_flags })
  pool_of-taken new key bytes within updates =
      pool_of-with new (set pages key bytes) key no_flags updates (λ q differs. get_or-set_other pages key q bytes [] differs)
      ∙ ap (λ (xs : List ℕ). with_frame p key (record { bytes = xs; flags = no_flags })) (get_or-set_same pages key bytes [] within)

  -- a taken frame is given back
  pub pool_of-without : (new : Slab Flags) (key number : ℕ) → key ≡ number → Updates numbers new key None → pool_of count new pages ≡ without_frame p number
  pool_of-without new key number same updates = rw (← same, ← is, taken_of-without numbers new pages key updates) refl

  -- a taken frame's bytes are written
  pub pool_of-bytes : (key number : ℕ) (bytes : List ℕ) → key ≡ number → IsTaken p number → key < length pages → pool_of count numbers (set pages key bytes) ≡ with_bytes p number bytes
  pool_of-bytes key number bytes same taken within =
      let found = flags_found key (rw same taken) in
      pool_of-with numbers (set pages key bytes) key found.0 (record { changed = found.1; others = λ other differs. refl }) (λ q differs. get_or-set_other pages key q bytes [] differs)
      ∙ rw (← same, frame_in-fields key found.0 found.1, get_or-set_same pages key bytes [] within) refl

  -- a taken frame's flags are written
  pub pool_of-flags : (key number : ℕ) (f : Flags) → key ≡ number → IsTaken p number → pool_of count (with_value numbers key f) pages ≡ with_flags p number f
  pool_of-flags key number f same taken =
      let found = flags_found key (rw same taken) in
      let present : ContainsKey numbers key = rw found.1 refl in
      pool_of-with (with_value numbers key f) pages key f (Updates-with_value numbers key f present) (λ q differs. refl)
      ∙ rw (← same, frame_in-fields key found.0 found.1) refl

-- one frame more is taken
pub IsSound-taken : (count : ℕ) (old new : Slab Flags) (pages : List (List ℕ)) (key : ℕ) (bytes : List ℕ) (f : Flags) → IsSound count old pages → 0 < count - slab_len old → slab_len new ≡ slab_len old + 1 → new.capacity ≡ old.capacity → key < new.capacity → Updates old new key (Some f) → IsSound count new (set pages key bytes)
IsSound-taken count old new pages key bytes f sound free more same in_range updates = record {
  few = sound.few;
  many = sound.many;
  within = omega (arith, sound.within);
  room = omega (arith, sound.room);
  paged = rw (length-set pages key bytes, same) sound.paged;
  keys = each;
}
  where
    each : (k : ℕ) → ContainsKey new k → k < length (set pages key bytes)
    each k present = rw (length-set pages key bytes) (elim (cases_eq k key) [
      | inl here ↦ omega (arith, sound.paged)
      | inr differs ↦ sound.keys k (rw (updates.others k differs) at present)
    ])
