-- Small histories with link faults and acts, and of several holders; each with a wrong neighbour.
use Rattle.std.specs.Prelude.{List, [], ◌∷◌, ◌++◌}
use Rattle.uid_names.specs.Names.{ProcName, ObjectName}
use Rattle.uid_names.specs.declared.mode.Mode.{Mode}
use Rattle.uid_names.specs.declared.mode.Mode.TheVariants.{Read, Write}
use Rattle.uid_names.specs.declared.mode.ObjKind.TheVariants.{File}
use Rattle.uid_names.specs.declared.ids.Place.{Place}
use Rattle.dom_history.specs.declared.op.Op.TheVariants.{New, Lock, Unlock}
use Rattle.dom_history.specs.declared.op.Reply.{Reply}
use Rattle.dom_history.specs.declared.op.Reply.TheVariants.{Made, Fine, Kept, Doubt, LinkFault}
use Rattle.dom_history.specs.Histories.{Item, History}
use Rattle.dom_history.specs.Samples.{p, q, y, at, entry, act, closed}

-- another process of the node of p
abbrev pub p2 : ProcName
p2 = record { node = 1; number = 2 }

-- y is locked in this mode, and its unlock is answered Kept
abbrev pub kept_in : Mode → List Item
kept_in mode = entry (at 4 1) p (Unlock y) Kept ∷ (entry (at 2 2) p (Lock y mode) Fine ∷ [])

-- and then it is locked again
abbrev pub locks_what_is_kept : Reply → History
locks_what_is_kept reply = closed (entry (at 6 1) p (Lock y Write) reply ∷ kept_in Write)

-- p is in doubt of its lock
abbrev pub lock_in_doubt : List Item
lock_in_doubt = entry (at 1 1) p (Lock y Write) Doubt ∷ []

-- the home acts on it late, after this
abbrev pub acts_after : List Item → History
acts_after others = closed (act (at 9 2) (at 1 1) p (Lock y Write) Fine ∷ (others ++ lock_in_doubt))

-- q locks y meanwhile, and unlocks it
abbrev pub locked_by_other : List Item
locked_by_other = entry (at 3 2) q (Lock y Write) Fine ∷ []

abbrev pub unlocked_by_other : List Item
unlocked_by_other = entry (at 5 2) q (Unlock y) Fine ∷ locked_by_other

-- p is in doubt of its lock and of its unlock, and the home acts on both: on what began so first, and then on the other
abbrev pub acts_on_both : Item → Item → History
acts_on_both first second = closed (second ∷ (first ∷ (entry (at 2 1) p (Unlock y) Doubt ∷ lock_in_doubt)))

abbrev pub lock_acts : Place → Item
lock_acts place = act place (at 1 1) p (Lock y Write) Fine

abbrev pub unlock_acts : Place → Item
unlock_acts place = act place (at 2 1) p (Unlock y) Fine

-- an object that node 2 makes
abbrev pub z : ObjectName
z = record { counter = 3; home = 2 }

-- p was answered by a link fault and the home acted, and then another process makes an object
abbrev pub makes_behind_act : ObjectName → History
makes_behind_act u = closed (entry (at 5 2) q (New 2 File 1) (Made u) ∷ (act (at 3 2) (at 1 1) p (New 2 File 1) (Made z) ∷ (entry (at 1 1) p (New 2 File 1) LinkFault ∷ [])))

-- two processes of one node read y, the second of them first, and q asks to write
abbrev pub asks_readers : Reply → History
asks_readers reply = closed (entry (at 5 2) q (Lock y Write) reply ∷ (entry (at 3 2) p (Lock y Read) Fine ∷ (entry (at 2 2) p2 (Lock y Read) Fine ∷ [])))
