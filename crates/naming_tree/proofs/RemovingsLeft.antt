-- How each reply leads the dialogue of a removal on.
use Rattle.std.proofs.Common.{◌≡◌, ℕ, Option, Some, None, List, refl}
use Rattle.uid_names.specs.Names.{ObjectName}
use Rattle.uid_names.specs.declared.mode.ObjKind.{ObjKind}
use Rattle.uid_names.specs.declared.mode.ObjKind.TheVariants.{Directory}
use Rattle.dom_history.specs.declared.op.Reply.{Reply}
use Rattle.dom_history.specs.declared.op.Reply.TheVariants.{Fine, NoObject, Kept, WrongMode}
use Rattle.dir_records.specs.declared.row.DirRow.{DirRow}
use Rattle.dir_records.specs.Records.{Slot}
use Rattle.dir_records.specs.Directories.{placed_row}
use Rattle.naming_tree.specs.declared.session.Opened.{Opened}
use Rattle.naming_tree.specs.declared.placed.Placed.{Placed}
use Rattle.naming_tree.specs.declared.removing.RemoveStage.{RemoveStage}
use Rattle.naming_tree.specs.declared.removing.RemoveStage.TheVariants.{Lock, Delete, Clear}
use Rattle.naming_tree.specs.declared.changing.Change.{Change}
use Rattle.naming_tree.specs.declared.changing.Next.{Next}
use Rattle.naming_tree.specs.Removals.{clearing, on_deleted, on_locked, on_kind, on_name, finding}
use Rattle.naming_tree.specs.Dialogues.{Dialogue, told}
use Rattle.naming_tree.specs.Removing as stages
use Rattle.naming_tree.specs.Removing.{remove_in, remove_heard}
use Rattle.naming_tree.proofs.StagesLeft.{remove_left, next_left}

module _ (parent : ObjectName) (change : Change) (bytes : List ℕ) where
  abbrev left : Next → Dialogue
  left next = next_left parent change bytes next

  kind_left : (kind : ObjKind) (p : Placed) → on_kind kind p.uid p.opened p.place ≡ left (stages.on_kind kind p)
  kind_left Directory p = refl
  kind_left kind p = refl

  row_left : (found : Option (ℕ × DirRow)) (o : Opened) → on_name found o ≡ left (stages.on_name found o)
  row_left None o = refl
  row_left (Some (place, row)) o = kind_left row.kind (record { opened = o; place = place; uid = row.uid })

  pub remove_begun : (name : List ℕ) (slots : List Slot) (o : Opened) → finding name slots o ≡ left (remove_in name slots o)
  remove_begun name slots o = row_left (placed_row name slots) o

  locked_on : (p : Placed) (reply : Reply) → on_locked p.uid p.opened p.place reply ≡ left (stages.on_locked p reply)
  locked_on p Fine = refl
  locked_on p NoObject = refl
  locked_on p reply = refl

  deleted_on : (p : Placed) (reply : Reply) → on_deleted p.uid p.opened p.place reply ≡ left (stages.on_deleted p reply)
  deleted_on p Fine = refl
  deleted_on p Kept = refl
  deleted_on p WrongMode = refl
  deleted_on p reply = refl

  cleared_on : (p : Placed) (reply : Reply) → told (clearing p.opened p.place) reply ≡ left (stages.on_cleared p reply)
  cleared_on p Fine = refl
  cleared_on p reply = refl

  pub remove_on : (stage : RemoveStage) (reply : Reply) → told (remove_left stage) reply ≡ left (remove_heard stage reply)
  remove_on (Lock p) reply = locked_on p reply
  remove_on (Delete p) reply = deleted_on p reply
  remove_on (Clear p) reply = cleared_on p reply
