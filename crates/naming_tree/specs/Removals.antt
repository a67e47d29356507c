-- A name that is removed from a directory, and what that asks.
use Rattle.std.specs.Prelude.{ℕ, Option, Some, None, List, ◌∷◌}
use Rattle.uid_names.specs.Names.{ObjectName}
use Rattle.uid_names.specs.declared.mode.Mode.TheVariants.{Write}
use Rattle.uid_names.specs.declared.mode.ObjKind.{ObjKind}
use Rattle.uid_names.specs.declared.mode.ObjKind.TheVariants.{Directory}
use Rattle.dom_history.specs.declared.op.Op.TheVariants.{Lock, Unlock, Delete}
use Rattle.dom_history.specs.declared.op.Reply.{Reply}
use Rattle.dom_history.specs.declared.op.Reply.TheVariants.{Fine, NoObject, Kept, WrongMode}
use Rattle.dir_records.specs.declared.row.DirRow.{DirRow}
use Rattle.naming_tree.specs.declared.session.Opened.{Opened}
use Rattle.naming_tree.specs.declared.step.NameResult.TheVariants.{Removed, NoName, IsDir, Store}
use Rattle.dir_records.specs.Records.{Slot, free_bytes}
use Rattle.dir_records.specs.Directories.{placed_row}
use Rattle.naming_tree.specs.Placing.{store_record}
use Rattle.naming_tree.specs.Dialogues.{Dialogue, Ends, Asks}
use Rattle.naming_tree.specs.Sessions.{fine, closing, ask, closers, shutting}
use Rattle.naming_tree.specs.Changes.{changed}

-- a free record is stored in the name's place, and the directory closed
abbrev pub clearing : Opened → ℕ → Dialogue
clearing o place = ask fine (closers o) (store_record o place free_bytes) (λ _. shutting (closers o) (Ends Removed))

-- the object was deleted, or not: its lock is still held after Kept and WrongMode
abbrev pub on_deleted : ObjectName → Opened → ℕ → Reply → Dialogue
on_deleted u o place Fine = clearing o place
on_deleted u o place Kept = closing (Unlock u ∷ closers o) (Store Kept)
on_deleted u o place WrongMode = closing (Unlock u ∷ closers o) (Store WrongMode)
on_deleted u o place reply = closing (closers o) (Store reply)

-- the object is locked and is deleted; one that is gone needs no deleting
abbrev pub on_locked : ObjectName → Opened → ℕ → Reply → Dialogue
on_locked u o place Fine = Asks (Delete u) (on_deleted u o place)
on_locked u o place NoObject = clearing o place
on_locked u o place reply = closing (closers o) (Store reply)

-- a directory is not removed
abbrev pub on_kind : ObjKind → ObjectName → Opened → ℕ → Dialogue
on_kind Directory u o place = closing (closers o) IsDir
on_kind _ u o place = Asks (Lock u Write) (on_locked u o place)

abbrev pub on_name : Option (ℕ × DirRow) → Opened → Dialogue
on_name None o = closing (closers o) NoName
on_name (Some (place, row)) o = on_kind row.kind row.uid o place

abbrev pub finding : List ℕ → List Slot → Opened → Dialogue
finding name slots o = on_name (placed_row name slots) o

-- a name is removed from a directory, with its object
abbrev pub drop_at : ObjectName → List ℕ → Dialogue
drop_at parent name = changed parent (finding name)
