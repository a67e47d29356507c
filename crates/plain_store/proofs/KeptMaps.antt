-- The mappings that are kept: what is looked up among them, and one deed more.
use Rattle.std.proofs.Common.{◌≡◌, ℕ, ◌*◌, ◌+◌, Bool, true, false, List, [], ◌∷◌, ◌++◌, refl, sym, ◌∙◌, ap, arith}
use Rattle.std.specs.Prelude.{All, filter, find, map, not, ◌&&◌, if◌then◌else◌, slice_index_or}
use Rattle.std.specs.Option.{option_map}
use Rattle.std.proofs.lemmas.Bool.Decides.{nat_tests}
use Rattle.std.proofs.lemmas.List.Elements.{All-head, All-tail, All-filter}
use Rattle.uid_names.specs.Names.{ProcName, ObjectName, same_proc, same_uid}
use Rattle.uid_names.specs.Openings.{Start}
use Rattle.uid_names.specs.Segments.{Stretch, segments, lies_in}
use Rattle.uid_names.specs.declared.segment.TheConstants.{SEGMENT_SIZE}
use Rattle.uid_names.proofs.Finds.{find-and}
use Rattle.dom_history.specs.declared.op.Op.{Op}
use Rattle.dom_history.specs.declared.op.Reply.{Reply}
use Rattle.plain_store.specs.declared.maps.Mapped.{Mapped}
use Rattle.plain_store.specs.declared.maps.MapChange.TheVariants.{Mapping as NewMapping, Unmapping}
use Rattle.dom_history.specs.StoreEffects.{StoreEffect, store_effect}
use Rattle.dom_history.specs.Objects.{room_or_none}
use Rattle.dom_history.specs.Mappings.{Mapping, stretch_of}
use Rattle.plain_store.specs.KeptMaps.{mapping_in, stretch_in, mappings_of, stretches_of, IsMapped, mappings_after}
use Rattle.dom_history.proofs.MadeObjects.{found-step}

-- the addresses of a mapping of an object that was made
stretch-is : (opening : Start) (past : List StoreEffect) (m : Mapped) → IsMapped opening past m → stretch_of opening past (mapping_in m) ≡ stretch_in m
stretch-is opening past m h =
    let high : ℕ → Stretch = λ n. record { low = m.first * SEGMENT_SIZE; high = m.first * SEGMENT_SIZE + n * SEGMENT_SIZE } in
    ap (λ o. high (segments (room_or_none o))) h.found ∙ ap high (sym h.count)

-- and of all of them
stretches-are : (opening : Start) (past : List StoreEffect) (ms : List Mapped) → All (IsMapped opening past) ms → map (stretch_of opening past) (map mapping_in ms) ≡ map stretch_in ms
stretches-are opening past [] h = refl
stretches-are opening past (m ∷ ms) h =
    rw (stretch-is opening past m (All-head (IsMapped opening past) m ms h), stretches-are opening past ms (All-tail (IsMapped opening past) m ms h)) refl

-- the addresses of the mappings of a process
pub stretches_of-same : (opening : Start) (past : List StoreEffect) (p : ProcName) (ms : List Mapped) → All (IsMapped opening past) ms → map (stretch_of opening past) (mappings_of p ms) ≡ stretches_of p ms
stretches_of-same opening past p ms h =
    stretches-are opening past (filter (λ m. same_proc p m.proc) ms) (All-filter (λ m. same_proc p m.proc) (IsMapped opening past) ms h)

-- what is found among images is the image of what is found
find-map : {X Y : Type 0} (test : Y → Bool) (f : X → Y) (xs : List X) → find test (map f xs) ≡ option_map f (find (λ x. test (f x)) xs)
find-map test f [] = refl
find-map test f (x ∷ xs) = by_test (test (f x)) refl (find-map test f xs)
  where
    by_test : (b : Bool) → test (f x) ≡ b → find test (map f xs) ≡ option_map f (find (λ y. test (f y)) xs) → find test (map f (x ∷ xs)) ≡ option_map f (find (λ y. test (f y)) (x ∷ xs))
    by_test true e others = rw e refl
    by_test false e others = rw e others

-- tests that agree find the same
find-agree : {X : Type 0} (p q : X → Bool) (xs : List X) → All (λ x. p x ≡ q x) xs → find p xs ≡ find q xs
find-agree p q [] h = refl
find-agree p q (x ∷ xs) h = rw (All-head (λ y. p y ≡ q y) x xs h, find-agree p q xs (All-tail (λ y. p y ≡ q y) x xs h)) refl

-- what is found among the mappings of a process
pub find-mapping : (test : Mapping → Bool) (p : ProcName) (ms : List Mapped) → find test (mappings_of p ms) ≡ option_map mapping_in (find (λ m. same_proc p m.proc && test (mapping_in m)) ms)
find-mapping test p ms =
    find-map test mapping_in (filter (λ m. same_proc p m.proc) ms)
    ∙ ap (option_map mapping_in) (sym (find-and (λ m. same_proc p m.proc) (λ m. test (mapping_in m)) ms))

-- and at an address
pub find-at : (opening : Start) (past : List StoreEffect) (p : ProcName) (ms : List Mapped) (a : ℕ) → All (IsMapped opening past) ms
    → find (λ m. lies_in a (stretch_of opening past m)) (mappings_of p ms) ≡ option_map mapping_in (find (λ m. same_proc p m.proc && lies_in a (stretch_in m)) ms)
find-at opening past p ms a h =
    find-mapping (λ m. lies_in a (stretch_of opening past m)) p ms
    ∙ ap (option_map mapping_in) (find-agree (λ m. same_proc p m.proc && lies_in a (stretch_of opening past (mapping_in m))) (λ m. same_proc p m.proc && lies_in a (stretch_in m)) ms
    (λ k d below. ap (λ (s : Stretch). same_proc p (slice_index_or ms k d).proc && lies_in a s) (stretch-is opening past (slice_index_or ms k d) (h k d below))))

-- what was made stays so
pub mapped-stays : (p : ProcName) (op : Op) (reply : Reply) (opening : Start) (past : List StoreEffect) (m : Mapped) → IsMapped opening past m → IsMapped opening (store_effect p op reply ++ past) m
mapped-stays p op reply opening past m h = record {
  object = h.object;
  found = found-step p op reply opening past (λ o. same_uid o.uid m.uid) h.object h.found;
  count = h.count;
}

-- the mappings of a process with one more
pub mappings_of-cons : (m : Mapped) (ms : List Mapped) (p : ProcName) → mappings_of p (m ∷ ms) ≡ mappings_after (NewMapping m) p (mappings_of p ms)
mappings_of-cons m ms p = by_test (same_proc p m.proc) refl
  where
    by_test : (b : Bool) → same_proc p m.proc ≡ b → mappings_of p (m ∷ ms) ≡ (if b then mapping_in m ∷ mappings_of p ms else mappings_of p ms)
    by_test true e = rw e refl
    by_test false e = rw e refl

-- and without one
pub mappings_of-without : (q : ProcName) (u : ObjectName) (ms : List Mapped) (p : ProcName) → mappings_of p (filter (λ m. not (same_proc q m.proc && same_uid u m.uid)) ms) ≡ mappings_after (Unmapping q u) p (mappings_of p ms)
mappings_of-without q u [] p = by_test (same_proc p q)
  where
    by_test : (b : Bool) → [] ≡ (if b then filter (λ (m : Mapping). not (same_uid u m.uid)) [] else [])
    by_test true = refl
    by_test false = refl
mappings_of-without q u (m ∷ ms) p = by_tests (same_proc p m.proc) (same_proc p q) (same_proc q m.proc) (same_uid u m.uid) refl refl refl refl (mappings_of-without q u ms p)
  where
    mine : same_proc p m.proc ≡ true → same_proc p q ≡ true → same_proc q m.proc ≡ false → ⊥
    mine e f g = grind (arith, nat_tests, e, f, g)

    other : same_proc p m.proc ≡ true → same_proc p q ≡ false → same_proc q m.proc ≡ true → ⊥
    other e f g = grind (arith, nat_tests, e, f, g)

    by_tests : (a s t v : Bool) → same_proc p m.proc ≡ a → same_proc p q ≡ s → same_proc q m.proc ≡ t → same_uid u m.uid ≡ v
        → mappings_of p (filter (λ n. not (same_proc q n.proc && same_uid u n.uid)) ms) ≡ mappings_after (Unmapping q u) p (mappings_of p ms)
        → mappings_of p (filter (λ n. not (same_proc q n.proc && same_uid u n.uid)) (m ∷ ms)) ≡ mappings_after (Unmapping q u) p (mappings_of p (m ∷ ms))
    by_tests true true true true e f g h others = let o = rw f at others in rw (g, h, f, e, h) o
    by_tests true true true false e f g h others = let o = rw f at others in rw (g, h, e, f, h) (ap (λ ns. mapping_in m ∷ ns) o)
    by_tests true true false v e f g h others = absurd (mine e f g)
    by_tests true false true v e f g h others = absurd (other e f g)
    by_tests true false false v e f g h others = let o = rw f at others in rw (g, e, f) (ap (λ ns. mapping_in m ∷ ns) o)
    by_tests false s true true e f g h others = rw (g, h, e) others
    by_tests false s true false e f g h others = rw (g, h, e) others
    by_tests false s false v e f g h others = rw (g, e) others
