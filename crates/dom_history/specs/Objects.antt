-- Which objects there are, and what room they take. Each list of effects has the newest first.
use Rattle.std.specs.Prelude.{ℕ, zero, suc, nat_le, ◌&&◌, max, Bool, true, false, not, ◌||◌, is_some, IsSome, Option, Some, None, List, [], ◌∷◌, ◌++◌, filter, find, sum_by, fold}
use Rattle.uid_names.specs.Names.{ObjectName, same_uid}
use Rattle.uid_names.specs.Openings.{Start}
use Rattle.uid_names.specs.declared.opening.Object.{Object}
use Rattle.uid_names.specs.Beginnings.{at_home, entry_directory}
use Rattle.dom_history.specs.declared.op.Op.{Op}
use Rattle.dom_history.specs.declared.op.Op.TheVariants.{Map}
use Rattle.dom_history.specs.declared.op.Reply.{Reply}
use Rattle.dom_history.specs.declared.op.Reply.TheVariants.{At}
use Rattle.dom_history.specs.StoreEffects.{StoreEffect, Makes, Deletes}

-- a node of the opening
abbrev pub is_node : Start → ℕ → Bool
is_node opening home = nat_le 1 home && nat_le home opening.nodes

-- the entry directories of the nodes up to one
abbrev pub entry_directories : ℕ → List Object
entry_directories zero = []
entry_directories (suc n) = entry_directories n ++ entry_directory (suc n) ∷ []

-- the objects that were made, the oldest first
abbrev pub made : Start → List StoreEffect → List Object
made opening [] = entry_directories opening.nodes ++ opening.objects
made opening (Makes object ∷ past) = made opening past ++ object ∷ []
made opening (_ ∷ past) = made opening past

abbrev pub is_deleted : ObjectName → List StoreEffect → Bool
is_deleted u [] = false
is_deleted u (Deletes p v ∷ past) = same_uid u v || is_deleted u past
is_deleted u (_ ∷ past) = is_deleted u past

-- those that are still there
abbrev pub present : Start → List StoreEffect → List Object
present opening past = filter (λ o. not (is_deleted o.uid past)) (made opening past)

abbrev pub is_present : Start → List StoreEffect → ObjectName → Bool
is_present opening past u = is_some (find (λ o. same_uid o.uid u) (present opening past))

abbrev pub room_or_none : Option Object → ℕ
room_or_none None = 0
room_or_none (Some o) = o.room

-- the room that u was made with
abbrev pub room_of : Start → List StoreEffect → ObjectName → ℕ
room_of opening past u = room_or_none (find (λ o. same_uid o.uid u) (made opening past))

-- the room that the present objects of a home take
abbrev pub room_taken : Start → List StoreEffect → ℕ → ℕ
room_taken opening past home = sum_by (λ o. o.room) (at_home home (present opening past))

-- the greatest counter that was given at a home
abbrev pub greatest_counter : Start → List StoreEffect → ℕ → ℕ
greatest_counter opening past home = fold (λ a o. max a o.uid.counter) 0 (at_home home (made opening past))

-- the name, where there is one, is that of u
abbrev pub is_named : Option ObjectName → ObjectName → Bool
is_named None u = false
is_named (Some v) u = same_uid u v

-- an object that an operation maps anew was made
abbrev pub IsOfMade : List Object → Op → Reply → Type 0
IsOfMade objects (Map u) (At address true) = IsSome (find (λ o. same_uid o.uid u) objects)
IsOfMade objects _ _ = Unit {0}
