-- Each change of mappings keeps their layout.
use Rattle.std.proofs.Common.{◌≡◌, ◌+◌, ◌<◌, ◌≤◌, true, false, List, [], ◌∷◌, ◌++◌, length, sym, arith}
use Rattle.std.specs.Prelude.{IsTrue, not, nat_le, ◌&&◌, None}
use Rattle.std.proofs.lemmas.Bool.Decides.{nat_tests}
use Rattle.uid_names.specs.declared.segment.TheConstants.{SEGMENTS}
use Rattle.std.specs.List.{list_all}
use Rattle.std.proofs.lemmas.List.Elements.{All-nil, All-cons, All-append, All-filter}
use Rattle.std.proofs.lemmas.List.Kept.{AllPairs-filter}
use Rattle.std.proofs.lemmas.List.Quantifiers.{all_pairs_push}
use Rattle.std.proofs.lemmas.List.Sums.{AllPass-from_list_all}
use Rattle.std.proofs.lemmas.List.Filters.{length-filter_both}
use Rattle.std.proofs.lemmas.List.{length-append}
use Rattle.uid_names.specs.Names.{ObjectName}
use Rattle.uid_names.specs.declared.limits.TheConstants.{PROCESS_MAPPINGS}
use Rattle.address_map.specs.declared.mapping.Mapping.{Mapping}
use Rattle.address_map.specs.Mappings.{is_of, mapping_of, stretch_of, without_mapping}
use Rattle.address_map.specs.Runs.{is_apart, is_free_run}
use Rattle.address_map.specs.Maps.{IsMapping, IsLayout}
use Rattle.uid_names.specs.Segments.{is_apart as is_apart_from}
use Rattle.uid_names.proofs.Finds.{find-all_fail, not-not}
use Rattle.uid_names.proofs.InOrder.{AllPairs-nil}
use Rattle.std.proofs.lemmas.List.Folds.{list_all-map}
use Rattle.std.proofs.lemmas.Bool.{and_parts}

-- no two take one segment
abbrev Apart : Mapping → Mapping → Type 0
Apart m n = IsTrue (is_apart n.segments n.first m)

-- no two are of one object
abbrev Once : Mapping → Mapping → Type 0
Once m n = is_of n.uid m ≡ false

-- nothing is mapped
pub IsLayout-none : IsLayout []
IsLayout-none = record { few = omega arith; each = All-nil IsMapping; apart = AllPairs-nil Apart; once = AllPairs-nil Once }

-- a mapping is made in a free run
pub IsLayout-push : (mappings : List Mapping) (new : Mapping) → IsLayout mappings → length mappings < PROCESS_MAPPINGS → 1 ≤ new.segments → mapping_of new.uid mappings ≡ None → is_free_run new.segments new.first mappings ≡ true → IsLayout (mappings ++ new ∷ [])
IsLayout-push mappings new kept fewer some none free =
    let parts = and_parts (nat_le (new.first + new.segments) SEGMENTS) (list_all (is_apart new.segments new.first) mappings) (rw (← list_all-map (is_apart_from new.segments new.first) stretch_of mappings) free) in
    let within : new.first + new.segments ≤ SEGMENTS = grind (arith, nat_tests, parts.0) in
    let count : length (mappings ++ new ∷ []) ≡ length mappings + 1 = length-append mappings (new ∷ []) in
    record {
      few = omega (arith, fewer, count);
      each = All-append IsMapping mappings (new ∷ []) kept.each (All-cons IsMapping new [] (record { some = some; within = within }) (All-nil IsMapping));
      apart = all_pairs_push Apart mappings new kept.apart (λ k d below. AllPass-from_list_all (is_apart new.segments new.first) mappings parts.1 k d below);
      once = all_pairs_push Once mappings new kept.once (λ k d below. find-all_fail (is_of new.uid) mappings none k d below);
    }

-- a mapping ends
pub IsLayout-without_mapping : (u : ObjectName) (mappings : List Mapping) → IsLayout mappings → IsLayout (without_mapping u mappings)
IsLayout-without_mapping u mappings kept = record {
  few = (let parts = length-filter_both (λ m. not (is_of u m)) (is_of u) (λ m. sym (not-not (is_of u m))) mappings in omega (arith, parts, kept.few));
  each = All-filter (λ m. not (is_of u m)) IsMapping mappings kept.each;
  apart = AllPairs-filter Apart (λ m. not (is_of u m)) mappings kept.apart;
  once = AllPairs-filter Once (λ m. not (is_of u m)) mappings kept.once;
}
