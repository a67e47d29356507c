-- What there is at the start.
use Rattle.std.specs.Prelude.{◌≡◌, ℕ, ◌≤◌, false, List, [], ◌∷◌, ◌++◌, All}
use Rattle.uid_names.specs.Names.{ObjectName, same_uid}
use Rattle.uid_names.specs.declared.opening.Object.{Object}
use Rattle.uid_names.specs.declared.limits.TheConstants.{MAX_ROOM}

-- the number of nodes, the greatest room, and the declared objects
pub record Start : Type 0 where
  pub nodes : ℕ
  pub greatest : ℕ
  pub objects : List Object

-- no object of the list has this name
abbrev pub IsUnnamed : ObjectName → List Object → Type 0
IsUnnamed u objects = All (λ o. same_uid o.uid u ≡ false) objects

-- each object's name stands once
abbrev pub AreNamedApart : List Object → Type 0
AreNamedApart [] = Unit {0}
AreNamedApart (o ∷ rest) = IsUnnamed o.uid rest × AreNamedApart rest

-- a declared object of an opening with so many nodes and this greatest room;
-- counter 1 is the entry directory of a node, which is never declared
pub record IsDeclarable (nodes greatest : ℕ) (o : Object) : Type 0 where
  pub counter : 2 ≤ o.uid.counter
  pub home : o.uid.home ≤ nodes
  pub room_low : 1 ≤ o.room
  pub room_high : o.room ≤ greatest

-- what each opening keeps
pub record IsStart (s : Start) : Type 0 where
  pub nodes_low : 1 ≤ s.nodes
  pub nodes_high : s.nodes ≤ 8
  pub greatest_low : 1 ≤ s.greatest
  pub greatest_high : s.greatest ≤ MAX_ROOM
  pub objects : All (IsDeclarable s.nodes s.greatest) s.objects
  pub apart : AreNamedApart s.objects

-- the opening with one object more
abbrev pub with_object : Start → Object → Start
with_object s o = record s { objects = s.objects ++ o ∷ [] }
