-- Two processes of a node store to one object: the first to its bytes 0 to 2, then the second to byte 1.
use Rattle.std.specs.Prelude.{◌≡◌, Some, None, List, [], ◌∷◌}
use Rattle.uid_names.specs.Names.{ProcName, ObjectName}
use Rattle.uid_names.specs.Openings.{Start}
use Rattle.dom_history.specs.declared.op.Spot.TheVariants.{Of}
use Rattle.dom_history.specs.Bytes.{byte, length_of, last_storer, end_of}
use Rattle.dom_history.specs.StoreEffects.{StoreEffect, Writes}

abbrev pub x : ObjectName
x = record { counter = 1; home = 2 }

abbrev pub a : ProcName
a = record { node = 1; number = 1 }

abbrev pub b : ProcName
b = record { node = 1; number = 2 }

abbrev pub past : List StoreEffect
past = Writes b (Of x 1) (8 ∷ []) ∷ Writes a (Of x 0) (5 ∷ 6 ∷ 7 ∷ []) ∷ []

pub record AreTwoStorers (opening : Start) : Type 0 where
  pub before : last_storer opening past x 0 ≡ Some a
  pub put : last_storer opening past x 1 ≡ Some b
  pub behind : last_storer opening past x 2 ≡ Some a
  pub none : last_storer opening past x 3 ≡ None
  pub byte : byte opening past x 1 ≡ 8
  pub first_end : end_of opening past a x ≡ 3
  pub second_end : end_of opening past b x ≡ 2
  pub length : length_of opening past x ≡ 3
