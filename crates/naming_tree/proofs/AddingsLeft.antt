-- How each reply leads the dialogue of an addition on.
use Rattle.std.proofs.Common.{◌≡◌, ℕ, Bool, true, false, Option, Some, None, is_some, List, refl}
use Rattle.std.specs.Prelude.{nat_lt}
use Rattle.uid_names.specs.Names.{ObjectName}
use Rattle.dom_history.specs.declared.op.Reply.{Reply}
use Rattle.dom_history.specs.declared.op.Reply.TheVariants.{Made, Fine}
use Rattle.dir_records.specs.declared.row.DirRow.{DirRow}
use Rattle.dir_records.specs.declared.directory.TheConstants.{MOST_RECORDS}
use Rattle.dir_records.specs.Records.{Slot}
use Rattle.dir_records.specs.Directories.{row_named, first_free}
use Rattle.naming_tree.specs.declared.session.Opened.{Opened}
use Rattle.naming_tree.specs.declared.session.Held.{Held}
use Rattle.naming_tree.specs.declared.placed.Placed.{Placed}
use Rattle.naming_tree.specs.declared.addition.Addition.{Addition}
use Rattle.naming_tree.specs.declared.adding.AddStage.{AddStage}
use Rattle.naming_tree.specs.declared.adding.AddStage.TheVariants.{Make, LockText, StoreText, UnlockText, StoreName}
use Rattle.naming_tree.specs.declared.changing.Change.TheVariants.{Add}
use Rattle.naming_tree.specs.declared.changing.Next.{Next}
use Rattle.naming_tree.specs.Entering.{held_of}
use Rattle.naming_tree.specs.Placing.{held_with}
use Rattle.naming_tree.specs.Additions.{making, texting, on_place, on_name, placing}
use Rattle.naming_tree.specs.Dialogues.{Dialogue, told}
use Rattle.naming_tree.specs.Sessions.{fine, go_on}
use Rattle.naming_tree.specs.Adding as stages
use Rattle.naming_tree.specs.Adding.{text_or_name, add_in, add_heard}
use Rattle.naming_tree.proofs.ReadingsLeft.{ops_held}
use Rattle.naming_tree.proofs.StagesLeft.{add_left, name_left, next_left}

module _ (parent : ObjectName) (a : Addition) (bytes : List ℕ) where
  abbrev left : Next → Dialogue
  left next = next_left parent (Add a) bytes next

  place_left : (t : Bool) (o : Opened) (place : ℕ) → on_place t a o place ≡ left (stages.on_place t o place)
  place_left true o place = refl
  place_left false o place = refl

  row_left : (row : Option DirRow) (o : Opened) (place : ℕ) → on_name row a o place ≡ left (stages.on_name row o place)
  row_left (Some row) o place = refl
  row_left None o place = place_left (nat_lt place MOST_RECORDS) o place

  pub add_begun : (slots : List Slot) (o : Opened) → placing a slots o ≡ left (add_in a slots o)
  add_begun slots o = row_left (row_named a.name slots) o (first_free slots)

  text_left : (text : Option (List ℕ)) (p : Placed) → a.text ≡ text → texting text p.uid p.opened (name_left a p) ≡ add_left a (text_or_name (is_some text) p)
  text_left (Some text) p e = rw e refl
  text_left None p e = refl

  made_on : (o : Opened) (place : ℕ) (reply : Reply) → told (making a o place) reply ≡ left (stages.on_made (is_some a.text) o place reply)
  made_on o place (Made u) = text_left a.text (record { opened = o; place = place; uid = u }) refl
  made_on o place reply = refl

  went_on : (stage : AddStage) (held : Held) (reply : Reply) → go_on (fine reply) reply (ops_held (Some held)) (λ _. add_left a stage) ≡ left (stages.went_on stage held reply)
  went_on stage held Fine = refl
  went_on stage held reply = refl

  named_on : (p : Placed) (reply : Reply) → told (name_left a p) reply ≡ left (stages.on_named p reply)
  named_on p Fine = refl
  named_on p reply = refl

  pub add_on : (stage : AddStage) (reply : Reply) → told (add_left a stage) reply ≡ left (add_heard (is_some a.text) stage reply)
  add_on (Make o place) reply = made_on o place reply
  add_on (LockText p) reply = went_on (StoreText p) (held_of p.opened) reply
  add_on (StoreText p) reply = went_on (UnlockText p) (held_with p) reply
  add_on (UnlockText p) reply = went_on (StoreName p) (held_of p.opened) reply
  add_on (StoreName p) reply = named_on p reply
