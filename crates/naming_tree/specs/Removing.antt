-- How a name is removed from a directory that is loaded, reply by reply.
use Rattle.std.specs.Prelude.{ℕ, Option, Some, None, List}
use Rattle.uid_names.specs.declared.mode.Mode.TheVariants.{Write}
use Rattle.uid_names.specs.declared.mode.ObjKind.{ObjKind}
use Rattle.uid_names.specs.declared.mode.ObjKind.TheVariants.{Directory}
use Rattle.dom_history.specs.declared.op.Op.{Op}
use Rattle.dom_history.specs.declared.op.Op.TheVariants as ops
use Rattle.dom_history.specs.declared.op.Reply.{Reply}
use Rattle.dom_history.specs.declared.op.Reply.TheVariants.{Fine, NoObject, Kept, WrongMode}
use Rattle.dir_records.specs.declared.row.DirRow.{DirRow}
use Rattle.dir_records.specs.Records.{Slot, free_bytes}
use Rattle.dir_records.specs.Directories.{placed_row}
use Rattle.naming_tree.specs.declared.session.Opened.{Opened}
use Rattle.naming_tree.specs.declared.step.NameResult.TheVariants.{Removed, NoName, IsDir}
use Rattle.naming_tree.specs.declared.placed.Placed.{Placed}
use Rattle.naming_tree.specs.declared.removing.RemoveStage.{RemoveStage}
use Rattle.naming_tree.specs.declared.removing.RemoveStage.TheVariants.{Lock, Delete, Clear}
use Rattle.naming_tree.specs.declared.changing.Stage.TheVariants.{Removes}
use Rattle.naming_tree.specs.declared.changing.Next.{Next}
use Rattle.naming_tree.specs.declared.changing.Next.TheVariants.{To, End}
use Rattle.naming_tree.specs.Entering.{held_of}
use Rattle.naming_tree.specs.Endings.{refused_with, decided, completed}
use Rattle.naming_tree.specs.Placing.{store_record, held_with, IsThere}

-- the directory was read: the tests, in their order
abbrev pub on_kind : ObjKind → Placed → Next
on_kind Directory p = End (decided p.opened IsDir)
on_kind _ p = To (Removes (Lock p))

abbrev pub on_name : Option (ℕ × DirRow) → Opened → Next
on_name None o = End (decided o NoName)
on_name (Some (place, row)) o = on_kind row.kind (record { opened = o; place = place; uid = row.uid })

abbrev pub remove_in : List ℕ → List Slot → Opened → Next
remove_in name slots o = on_name (placed_row name slots) o

-- a reply to the lock of the object
abbrev pub on_locked : Placed → Reply → Next
on_locked p Fine = To (Removes (Delete p))
on_locked p NoObject = To (Removes (Clear p))
on_locked p reply = End (refused_with (Some (held_of p.opened)) reply)

-- a reply to its deleting
abbrev pub on_deleted : Placed → Reply → Next
on_deleted p Fine = To (Removes (Clear p))
on_deleted p Kept = End (refused_with (Some (held_with p)) Kept)
on_deleted p WrongMode = End (refused_with (Some (held_with p)) WrongMode)
on_deleted p reply = End (refused_with (Some (held_of p.opened)) reply)

-- a reply to the store of a free record
abbrev pub on_cleared : Placed → Reply → Next
on_cleared p Fine = End (completed p.opened Removed)
on_cleared p reply = End (refused_with (Some (held_of p.opened)) reply)

abbrev pub remove_heard : RemoveStage → Reply → Next
remove_heard (Lock p) reply = on_locked p reply
remove_heard (Delete p) reply = on_deleted p reply
remove_heard (Clear p) reply = on_cleared p reply

-- what it asks
abbrev pub remove_op : RemoveStage → Op
remove_op (Lock p) = ops.Lock p.uid Write
remove_op (Delete p) = ops.Delete p.uid
remove_op (Clear p) = store_record p.opened p.place free_bytes

-- a stage that can be reached
abbrev pub IsRemoveStage : RemoveStage → Type 0
IsRemoveStage (Lock p) = IsThere p
IsRemoveStage (Delete p) = IsThere p
IsRemoveStage (Clear p) = IsThere p
