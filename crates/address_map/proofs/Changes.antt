-- What the changes of mappings leave, and what an address means.
use Rattle.std.proofs.Common.{◌≡◌, ℕ, zero, suc, ◌<◌, ◌≤◌, Bool, true, false, List, [], ◌∷◌, length, get_or, refl, arith}
use Rattle.std.specs.Prelude.{AllPairs, IsTrue, Option, Some, None, if◌then◌else◌}
use Rattle.std.proofs.lemmas.Bool.Decides.{nat_tests}
use Rattle.uid_names.specs.Names.{ObjectName, same_uid}
use Rattle.uid_names.specs.declared.limits.TheConstants.{PROCESS_MAPPINGS}
use Rattle.address_map.specs.declared.mapping.Mapping.{Mapping}
use Rattle.address_map.specs.Mappings.{lies_in, mapping_of, mapping_at, without_mapping}
use Rattle.address_map.specs.Runs.{is_apart, is_free_run, lowest_run}
use Rattle.address_map.specs.Maps.{IsLayout, is_full, mappings_after}
use Rattle.uid_names.specs.Segments.{starts_from}
use Rattle.uid_names.proofs.Finds.{find-passes}
use Rattle.uid_names.proofs.InOrder.{AllPairs-tail}
use Rattle.address_map.proofs.Keeps.{IsLayout-push}

-- the mapping of u where that of v ended
pub mapping_of-without_mapping : (v : ObjectName) (mappings : List Mapping) (u : ObjectName) → mapping_of u (without_mapping v mappings) ≡ (if same_uid u v then None else mapping_of u mappings)
mapping_of-without_mapping v [] u = grind (arith, nat_tests)
mapping_of-without_mapping v (m ∷ mappings) u = grind (arith, nat_tests, mapping_of-without_mapping v mappings u)

-- a call that maps keeps the layout, by what it finds
pub IsLayout-mappings_after : (u : ObjectName) (count : ℕ) (mappings : List Mapping) → IsLayout mappings → 1 ≤ count → IsLayout (mappings_after u count (mapping_of u mappings) (is_full mappings) (lowest_run count mappings) mappings)
IsLayout-mappings_after u count mappings kept some = by_cases (mapping_of u mappings) (is_full mappings) (lowest_run count mappings) refl refl refl
  where
    by_cases : (known : Option Mapping) (full : Bool) (run : Option ℕ) → mapping_of u mappings ≡ known → is_full mappings ≡ full → lowest_run count mappings ≡ run → IsLayout (mappings_after u count known full run mappings)
    by_cases (Some m) full run e f g = kept
    by_cases None true run e f g = kept
    by_cases None false None e f g = kept
    by_cases None false (Some first) e f g =
        let fewer : length mappings < PROCESS_MAPPINGS = grind (arith, nat_tests, f) in
        IsLayout-push mappings (record { uid = u; first = first; segments = count }) kept fewer some e
        (find-passes (λ k. is_free_run count k mappings) (starts_from 0) first g)

-- no address lies in two mappings that are apart
lies_in-apart : (a : ℕ) (m n : Mapping) → is_apart n.segments n.first m ≡ true → lies_in a m ≡ true → lies_in a n ≡ true → ⊥
lies_in-apart a m n apart e f = grind (arith, nat_tests, apart, e, f)

-- an address in the segments of a mapping among others that are apart is found there
pub mapping_at-found : (a : ℕ) (mappings : List Mapping) (m : Mapping) → AllPairs (λ x y. IsTrue (is_apart y.segments y.first x)) mappings → (k : ℕ) → k < length mappings → get_or mappings k m ≡ m → lies_in a m ≡ true → mapping_at a mappings ≡ Some m
mapping_at-found a [] m pairs k below is e = absurd (omega (arith, below))
mapping_at-found a (n ∷ mappings) m pairs zero below is e = rw (is, e) refl
mapping_at-found a (n ∷ mappings) m pairs (suc k) below is e = by_test (lies_in a n) refl (mapping_at-found a mappings m (AllPairs-tail (λ x y. IsTrue (is_apart y.segments y.first x)) n mappings pairs) k (omega (arith, below)) is e)
  where
    apart : is_apart m.segments m.first n ≡ true
    apart = rw is at (pairs 0 (suc k) m (omega arith) below)

    by_test : (b : Bool) → lies_in a n ≡ b → mapping_at a mappings ≡ Some m → mapping_at a (n ∷ mappings) ≡ Some m
    by_test true f others = absurd (lies_in-apart a n m apart f e)
    by_test false f others = rw f others
