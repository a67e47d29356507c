-- A removal keeps to stages that can be reached.
use Rattle.std.proofs.Common.{◌≡◌, ℕ, ◌<◌, Option, Some, None, List}
use Rattle.std.specs.Prelude.{IfSome}
use Rattle.uid_names.specs.declared.mode.ObjKind.{ObjKind}
use Rattle.uid_names.specs.declared.mode.ObjKind.TheVariants.{Directory}
use Rattle.dom_history.specs.declared.op.Reply.{Reply}
use Rattle.dom_history.specs.declared.op.Reply.TheVariants.{Fine, NoObject, Kept, WrongMode}
use Rattle.dir_records.specs.declared.row.DirRow.{DirRow}
use Rattle.dir_records.specs.declared.directory.TheConstants.{MOST_RECORDS}
use Rattle.dir_records.specs.Records.{Slot}
use Rattle.dir_records.specs.Directories.{directory_of, placed_row}
use Rattle.dir_records.proofs.DirectoriesRead.{directory_read, placed_within}
use Rattle.naming_tree.specs.declared.session.Opened.{Opened}
use Rattle.naming_tree.specs.declared.placed.Placed.{Placed}
use Rattle.naming_tree.specs.declared.removing.RemoveStage.{RemoveStage}
use Rattle.naming_tree.specs.declared.removing.RemoveStage.TheVariants.{Lock, Delete, Clear}
use Rattle.naming_tree.specs.declared.changing.Change.{Change}
use Rattle.naming_tree.specs.Entering.{IsOpened}
use Rattle.naming_tree.specs.Placing.{IsThere}
use Rattle.naming_tree.specs.Removing.{on_kind, on_name, remove_in, on_locked, on_deleted, on_cleared, remove_heard, IsRemoveStage}
use Rattle.naming_tree.proofs.AddingsOn.{IsNext}

module _ (change : Change) where
  kind_next : (kind : ObjKind) (p : Placed) → IsThere p → IsNext change (on_kind kind p)
  kind_next Directory p h = tt
  kind_next kind p h = (tt, h)

  name_next : (found : Option (ℕ × DirRow)) (o : Opened) → IsOpened o → IfSome found (λ f. f.0 < MOST_RECORDS) → IsNext change (on_name found o)
  name_next None o h k = tt
  name_next (Some (place, row)) o h k = kind_next row.kind (record { opened = o; place = place; uid = row.uid }) (h, k)

  pub remove_begins : (name bytes : List ℕ) (slots : List Slot) (o : Opened) → directory_of bytes ≡ Some slots → IsOpened o → IsNext change (remove_in name slots o)
  remove_begins name bytes slots o e h = name_next (placed_row name slots) o h (placed_within name slots (directory_read bytes slots e).few)

  locked_next : (p : Placed) (reply : Reply) → IsThere p → IsNext change (on_locked p reply)
  locked_next p Fine h = (tt, h)
  locked_next p NoObject h = (tt, h)
  locked_next p reply h = tt

  deleted_next : (p : Placed) (reply : Reply) → IsThere p → IsNext change (on_deleted p reply)
  deleted_next p Fine h = (tt, h)
  deleted_next p Kept h = tt
  deleted_next p WrongMode h = tt
  deleted_next p reply h = tt

  cleared_next : (p : Placed) (reply : Reply) → IsNext change (on_cleared p reply)
  cleared_next p Fine = tt
  cleared_next p reply = tt

  pub remove_next : (stage : RemoveStage) (reply : Reply) → IsRemoveStage stage → IsNext change (remove_heard stage reply)
  remove_next (Lock p) reply h = locked_next p reply h
  remove_next (Delete p) reply h = deleted_next p reply h
  remove_next (Clear p) reply h = cleared_next p reply
