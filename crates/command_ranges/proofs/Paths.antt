-- What a path says are names of directories, and its text is short.
use Rattle.std.proofs.Common.{◌≡◌, ℕ, ◌≤◌, Bool, true, false, cond, Option, Some, None, List, [], ◌∷◌, length, refl, arith, rules}
use Rattle.std.specs.Prelude.{◌==◌, nat_le, IfSome, IsSome}
use Rattle.std.specs.List.{AllByRecursion}
use Rattle.std.proofs.lemmas.Bool.{cond_both, false≢true}
use Rattle.dir_records.specs.Components.{component_of}
use Rattle.dir_records.specs.LastNames.{behind_first, last_of}
use Rattle.dir_records.specs.Paths.{along, from_node, from_root, from_slash, from_text, is_node_name, names_of, pieces, route_of}
use Rattle.dir_records.specs.declared.path.Route.{Route}
use Rattle.dir_records.specs.declared.path.Start.{Start}
use Rattle.dir_records.specs.declared.path.Start.TheVariants as starts
use Rattle.command_ranges.proofs.Records.{IsComponent, component-is, whole-such}

-- names that can stand in directories
abbrev pub AreComponents : List (List ℕ) → Type 0
AreComponents names = AllByRecursion IsComponent names

abbrev pub IsOfComponents : Route → Type 0
IsOfComponents route = AreComponents route.names

names-are : (pieces : List (List ℕ)) → IfSome (names_of pieces) AreComponents
names-are [] = tt
names-are (piece ∷ pieces) = whole-such IsComponent (component_of piece) (names_of pieces) (component-is piece) (names-are pieces)

-- the routes of texts
abbrev IsRoute : Option Route → Type 0
IsRoute route = IfSome route IsOfComponents

along-is : (start : Start) (names : Option (List (List ℕ))) → IfSome names AreComponents → IsRoute (along start names)
along-is start None are = tt
along-is start (Some names) are = are

pieces-are : (start : Start) (text : List ℕ) → IsRoute (along start (names_of (pieces text)))
pieces-are start text = along-is start (names_of (pieces text)) (names-are (pieces text))

node-is : (list : List (List ℕ)) → IsRoute (from_node list)
node-is [] = tt
node-is (node ∷ names) = cond_both (is_node_name node) (along (starts.Node node) (names_of names)) None IsRoute (λ e. along-is (starts.Node node) (names_of names) (names-are names)) (λ e. tt)

root-is : (rest : List ℕ) → IsRoute (from_root rest)
root-is [] = tt
root-is (b ∷ rest) = node-is (pieces (b ∷ rest))

slash-is : (rest : List ℕ) → IsRoute (from_slash rest)
slash-is [] = tt
slash-is (b ∷ rest) = cond_both (b == 47) (from_root rest) (along starts.Own (names_of (pieces (b ∷ rest)))) IsRoute (λ e. root-is rest) (λ e. pieces-are starts.Own (b ∷ rest))

text-is : (text : List ℕ) → IsRoute (from_text text)
text-is [] = tt
text-is (b ∷ rest) = cond_both (b == 47) (from_slash rest) (along starts.Working (names_of (pieces (b ∷ rest)))) IsRoute (λ e. slash-is rest) (λ e. pieces-are starts.Working (b ∷ rest))

pub route-is : (text : List ℕ) → IfSome (route_of text) IsOfComponents
route-is text = cond_both (nat_le (length text) 256) (from_text text) None IsRoute (λ e. text-is text) (λ e. tt)

-- so is the last of them
abbrev pub IsLast : List (List ℕ) × List ℕ → Type 0
IsLast parts = IsComponent parts.1

behind-is : (name : List ℕ) (parts : Option (List (List ℕ) × List ℕ)) → IsComponent name → IfSome parts IsLast → IfSome (behind_first name parts) IsLast
behind-is name None own is = own
behind-is name (Some (front, last)) own is = is

pub last-is : (names : List (List ℕ)) → AreComponents names → IfSome (last_of names) IsLast
last-is [] are = tt
last-is (name ∷ names) are = behind-is name (last_of names) are.0 (last-is names are.1)

-- the text of a path has a byte, and no more than 256
pub path-sized : (text : List ℕ) → IsSome (route_of text) → (1 ≤ length text) × (length text ≤ 256)
path-sized [] is = absurd (false≢true is)
path-sized (b ∷ rest) is = by_test (nat_le (length (b ∷ rest)) 256) refl is
  where
    by_test : (t : Bool) → nat_le (length (b ∷ rest)) 256 ≡ t → IsSome (cond t (from_text (b ∷ rest)) None) → (1 ≤ length (b ∷ rest)) × (length (b ∷ rest) ≤ 256)
    by_test true e some = (omega arith, search (rules, e))
    by_test false e some = absurd (false≢true some)
