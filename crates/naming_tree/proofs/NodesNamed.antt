-- The node of a name.
use Rattle.std.proofs.Common.{◌≡◌, ◌≢◌, ℕ, zero, suc, ◌+◌, ◌-◌, ◌≤◌, Bool, true, false, Some, None, List, [], ◌∷◌, All, AllPairs, refl, ap, ◌∙◌, sym, arith}
use Rattle.std.specs.Prelude.{bytes_eq, slice_get}
use Rattle.std.specs.List.{position_from}
use Rattle.std.proofs.lemmas.Option.{slice_get_within, get_or_from_slice_get}
use Rattle.std.proofs.lemmas.Slice.Eq.{bytes_eq-Decides}
use Rattle.dom_history.specs.NodeTexts.{name_of}
use Rattle.naming_tree.specs.Walks.{node_named}

by_name : (other name : List ℕ) (t : Bool) → bytes_eq other name ≡ t → other ≢ name → t ≡ false
by_name other name true e h = absurd (h ((bytes_eq-Decides other name).0 e))
by_name other name false e h = refl

-- texts that are not the same
apart : (other name : List ℕ) → other ≢ name → bytes_eq other name ≡ false
apart other name h = by_name other name (bytes_eq other name) refl h

from_place : (names : List (List ℕ)) (name : List ℕ) (k i : ℕ) → AllPairs (λ a b. a ≢ b) names → slice_get names i ≡ Some name → position_from (λ other. bytes_eq other name) k names ≡ Some (k + i)
from_place [] name k i once h = grind arith
from_place (x ∷ xs) name k zero once h =
    let same : x ≡ name = grind arith in
    rw ((bytes_eq-Decides x name).1 same) (ap Some (omega arith))
from_place (x ∷ xs) name k (suc i) once h =
    let within = slice_get_within xs i name h in
    let other : x ≢ name = λ same. once 0 (suc i) x (omega arith) (omega (arith, within)) (same ∙ sym (get_or_from_slice_get xs i name x h)) in
    rw (apart x name other) (from_place xs name (k + 1) i (λ a b d p q. once (suc a) (suc b) d (omega (arith, p)) (omega (arith, q))) h ∙ ap Some (omega arith))

-- the node whose name it is
pub named : (names : List (List ℕ)) (name : List ℕ) (node : ℕ) → AllPairs (λ a b. a ≢ b) names → 1 ≤ node → name_of names node ≡ Some name → node_named names name ≡ Some node
named names name node once low h = from_place names name 1 (node - 1) once h ∙ ap Some (omega (arith, low))

from_none : (names : List (List ℕ)) (name : List ℕ) (k : ℕ) → All (λ other. other ≢ name) names → position_from (λ other. bytes_eq other name) k names ≡ None
from_none [] name k h = refl
from_none (x ∷ xs) name k h = rw (apart x name (h 0 x (omega arith))) (from_none xs name (k + 1) (λ i d p. h (suc i) d (omega (arith, p))))

-- none where no node has it
pub unnamed : (names : List (List ℕ)) (name : List ℕ) → All (λ other. other ≢ name) names → node_named names name ≡ None
unnamed names name h = from_none names name 1 h
