use Rattle.std.proofs.Common.{◌≡◌, ◌≢◌, ◌+◌, ◌-◌, ◌<◌, ◌≤◌, ℕ, List, [], length, get_or, arith, ap, ◌∙◌}
use Rattle.std.specs.Prelude.{Option, Some, None, IsSome, IfSome, MatchOption, All}
use Rattle.std.proofs.lemmas.Option.{slice_get-get_or}
use Rattle.uid_names.specs.declared.limits.TheConstants.{MAX_NODES}
use Rattle.dom_history.specs.NodeTexts.{name_of}
use Rattle.dom_history.proofs.node_names.NodeNames.number_of.Goals as goal

-- what a number that is a node's says of the names
node-of : (r : Option ℕ) (names : List (List ℕ)) (name : List ℕ) (n : ℕ) → IsSome r → IfSome r (λ node. node ≡ n) → name_of names n ≡ Some name
    → MatchOption r (All (λ other. other ≢ name) names) (λ node. name_of names node ≡ Some name)
node-of None names name n some value is = cc
node-of (Some node) names name n some value is = ap (name_of names) value ∙ is

-- the name at a place
at-place : (names : List (List ℕ)) (at : ℕ) (name : List ℕ) → at < length names → get_or names at [] ≡ name → name_of names (at + 1) ≡ Some name
at-place names at name below is = let n : at + 1 - 1 ≡ at = omega arith in rw n (slice_get-get_or names at [] below ∙ ap Some is)

pub returns-in-Some : goal.returns-in-Some
returns-in-Some c =
    let names : c.deref.result.now ≡ c.args.self.now = cc in
    let few : length c.deref.result.now ≤ MAX_NODES = omega (arith, ap length names) in
    let bound : c.in-Some.at < length c.args.self.now = rw names at c.in-Some.ensures.bound in
    node-of c.new.result c.args.self.now c.args.name.now (c.in-Some.at + 1) (c.new.ensures.valid.1 (omega arith, omega (arith, few, c.in-Some.ensures.bound))) c.new.ensures.value
    (at-place c.args.self.now c.in-Some.at c.args.name.now bound (rw names at c.in-Some.ensures.found))
