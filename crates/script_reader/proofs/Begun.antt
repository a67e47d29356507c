-- From what a script declares a store can begin.
use Rattle.std.proofs.Common.{◌≡◌, ◌<◌, ℕ, List, length, get_or, min, take, ap, ◌∙◌, arith}
use Rattle.std.proofs.lemmas.List.{get_or-take, get_or_default, length-take}
use Rattle.uid_names.specs.Names.{same_uid}
use Rattle.uid_names.specs.Openings.{IsUnnamed}
use Rattle.uid_names.specs.declared.opening.Object.{Object}
use Rattle.uid_names.specs.Beginnings.{CanBegin}
use Rattle.script_reader.specs.Walk.Starts.{AreStarts}

pub can_begin : (nodes greatest : ℕ) (starts : List Object) → AreStarts nodes greatest starts → CanBegin (record { nodes = nodes; greatest = greatest; objects = starts })
can_begin nodes greatest starts h = record { homes = λ home. record { counters = h.counters home; fits = h.volume home } }

-- no object before one has its name
pub unnamed : (nodes greatest : ℕ) (starts : List Object) (i : ℕ) (d : Object) → AreStarts nodes greatest starts → i < length starts → IsUnnamed (get_or starts i d).uid (take i starts)
unnamed nodes greatest starts i d h below = λ k e lt.
    let count : length (take i starts) ≡ min i (length starts) = length-take i starts in
    let early : k < i = omega (arith, count, lt) in
    let one = get_or-take i starts k e early ∙ get_or_default starts k e d (omega (arith, early, below)) in
    ap (λ o. same_uid o.uid (get_or starts i d).uid) one ∙ h.apart k i d early below
