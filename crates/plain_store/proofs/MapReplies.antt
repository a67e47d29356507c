-- The replies to a Map, by what is mapped.
use Rattle.std.proofs.Common.{◌≡◌, ℕ, ◌≤◌, ◌<◌, arith, refl, true, false}
use Rattle.std.specs.Prelude.{nat_le, if◌then◌else◌, Option, Some, None}
use Rattle.std.specs.Option.{option_map}
use Rattle.std.proofs.lemmas.Bool.Decides.{nat_tests}
use Rattle.uid_names.specs.declared.limits.TheConstants.{PROCESS_MAPPINGS}
use Rattle.dom_history.specs.Mappings.{Mapping}

-- an address is that of a mapping
pub some-mapped : (x : Option Mapping) (a : ℕ) → Some a ≡ option_map (λ m. m.address) x → (m : Mapping) × (x ≡ Some m) × (m.address ≡ a)
some-mapped None a e = absurd cc
some-mapped (Some m) a e = (m, refl, cc)

-- where there is no address there is no mapping
pub none-mapped : (x : Option Mapping) → ◌≡◌ {A = Option ℕ} None (option_map (λ m. m.address) x) → x ≡ None
none-mapped None e = refl
none-mapped (Some m) e = absurd cc

-- the choice by a count
pub many : {X : Type 0} (n : ℕ) (x y : X) → PROCESS_MAPPINGS ≤ n → x ≡ (if nat_le PROCESS_MAPPINGS n then x else y)
many n x y h = let test : nat_le PROCESS_MAPPINGS n ≡ true = grind (arith, nat_tests) in rw test refl

pub few : {X : Type 0} (n : ℕ) (x y : X) → n < PROCESS_MAPPINGS → y ≡ (if nat_le PROCESS_MAPPINGS n then x else y)
few n x y h = let test : nat_le PROCESS_MAPPINGS n ≡ false = grind (arith, nat_tests) in rw test refl
