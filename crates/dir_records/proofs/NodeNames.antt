-- Names of nodes among those that stand in directories.
use Rattle.std.proofs.Common.{◌≡◌, ℕ, ◌==◌, nat_le, Bool, true, false, ◌&&◌, ◌||◌, List, [], ◌∷◌, length, refl, ap}
use Rattle.std.specs.List.{list_all}
use Rattle.std.proofs.lemmas.Bool.{false≢true}
use Rattle.uid_names.specs.NameTexts.{is_name_byte}
use Rattle.dir_records.specs.Components.{is_component_byte, is_component}
use Rattle.dir_records.specs.Paths.{is_node_name}

both : (a b : Bool) (c d : Bool) → (b && c) ≡ true → (c ≡ true → d ≡ true) → ((b || a) && d) ≡ true
both a true c d h k = k h
both a false c d h k = absurd (false≢true h)

-- bytes that may stand in a node's name may stand in any
bytes_stand : (name : List ℕ) → list_all is_name_byte name ≡ true → list_all is_component_byte name ≡ true
bytes_stand [] h = refl
bytes_stand (b ∷ name) h = both (b == 46) (is_name_byte b) (list_all is_name_byte name) (list_all is_component_byte name) h (bytes_stand name)

-- of such bytes a node's name is the same as any
pub same_test : (name : List ℕ) → list_all is_name_byte name ≡ true → is_component name ≡ is_node_name name
same_test name h = ap (λ (t : Bool). nat_le 1 (length name) && (nat_le (length name) 32 && t)) (rw (h, bytes_stand name h) refl)
