-- What is asked of a directory that is changed is in the ranges of operations.
use Rattle.std.proofs.Common.{ℕ, Bool, true, false, Option, Some, None, IfSome, List, ◌∷◌, refl, arith}
use Rattle.std.specs.Prelude.{nat_lt}
use Rattle.uid_names.specs.Names.{ObjectName, IsName}
use Rattle.uid_names.specs.declared.mode.Mode.TheVariants.{Write}
use Rattle.uid_names.specs.declared.mode.ObjKind.{ObjKind}
use Rattle.uid_names.specs.declared.mode.ObjKind.TheVariants as kinds
use Rattle.dom_history.specs.declared.op.Op.TheVariants.{Lock, New, Store, Unlock}
use Rattle.dom_history.specs.declared.op.Reply.{Reply}
use Rattle.dom_history.specs.declared.op.Reply.TheVariants as replies
use Rattle.dom_history.specs.declared.op.Spot.TheVariants.{Of}
use Rattle.dir_records.specs.Directories.{first_free, placed_row, row_named}
use Rattle.dir_records.specs.Records.{Slot, free_bytes, row_bytes}
use Rattle.dir_records.specs.declared.directory.TheConstants.{MOST_RECORDS}
use Rattle.dir_records.specs.declared.row.DirRow.{DirRow}
use Rattle.naming_tree.specs.Additions as adding
use Rattle.naming_tree.specs.Additions.{IsAddition, IsText, add_at, added_row, making, naming, on_place, placing, texting}
use Rattle.naming_tree.specs.Dialogues.{Dialogue, Ends}
use Rattle.naming_tree.specs.Entering.{IsOpened}
use Rattle.naming_tree.specs.Placing.{store_record}
use Rattle.naming_tree.specs.Removals as removing
use Rattle.naming_tree.specs.Removals.{clearing, drop_at, finding, on_deleted, on_kind, on_locked}
use Rattle.naming_tree.specs.Sessions.{ask, closers, fine, made, shutting}
use Rattle.naming_tree.specs.declared.addition.Addition.{Addition}
use Rattle.naming_tree.specs.declared.session.Opened.{Opened}
use Rattle.naming_tree.specs.declared.step.NameResult.TheVariants.{Added, DirFull, IsDir, NameExists, NoName, Removed, Store as Refused}
use Rattle.aegis_shell.proofs.Ranged.{AreOps}
use Rattle.command_ranges.proofs.Answers.{made-told}
use Rattle.command_ranges.proofs.Names.{AsksNames, ask-names, changed-names, closing-names, fine-names, opened-closes, shutting-names}
use Rattle.command_ranges.proofs.Paths.{path-sized}
use Rattle.command_ranges.proofs.Ranges.{record-stored}
use Rattle.command_ranges.proofs.Records.{IsComponent, IsNamedPlace, placed_row-named, row-long}

-- a name is added to a directory that is open
module _ (a : Addition) (is : IsAddition a) (form : IsComponent a.name) (o : Opened) (named : IsName o.uid) (opened : IsOpened o) where
  closes : AreOps (closers o)
  closes = opened-closes o named

  naming-names : (place : ℕ) (u : ObjectName) → IsName u → AsksNames (naming a o place u)
  naming-names place u own =
      fine-names (closers o) (store_record o place (row_bytes (added_row a u))) (shutting (closers o) (Ends (Added u))) closes (record-stored o place (row_bytes (added_row a u)) opened (row-long (added_row a u) form))
      (shutting-names (closers o) (Ends (Added u)) closes own)

  texting-names : (kind : ObjKind) (text : Option (List ℕ)) (u : ObjectName) (further : Dialogue) → IsText kind text → IsName u → AsksNames further → AsksNames (texting text u o further)
  texting-names kind None u further path own next = next
  texting-names kinds.Link (Some text) u further path own next =
      let sized = path-sized text path in
      let some = sized.0 in
      let few = sized.1 in
      let unlocking = ask fine (closers o) (Unlock u) (λ _. further) in
      fine-names (closers o) (Lock u Write) (ask fine (Unlock u ∷ closers o) (Store (Of u 0) text) (λ _. unlocking)) closes own
      (fine-names (Unlock u ∷ closers o) (Store (Of u 0) text) unlocking (own, closes) (own, (some, omega (arith, few)))
      (fine-names (closers o) (Unlock u) further closes own next))
  texting-names kinds.File (Some text) u further path own next = absurd path
  texting-names kinds.Directory (Some text) u further path own next = absurd path
  texting-names kinds.Mail (Some text) u further path own next = absurd path

  making-names : (place : ℕ) → AsksNames (making a o place)
  making-names place =
      let low = named.home_low in
      let high = named.home_high in
      ask-names made IsName (closers o) (New o.uid.home a.kind a.room) (λ u. texting a.text u o (naming a o place u)) closes ((low, omega (arith, high)), is.room) (made-told (New o.uid.home a.kind a.room))
      (λ u own. texting-names a.kind a.text u (naming a o place u) is.text own (naming-names place u own))

  added-place : (free : Bool) (place : ℕ) → AsksNames (on_place free a o place)
  added-place true place = making-names place
  added-place false place = closing-names (closers o) DirFull closes tt

  added-name : (row : Option DirRow) (place : ℕ) → AsksNames (adding.on_name row a o place)
  added-name (Some row) place = closing-names (closers o) NameExists closes tt
  added-name None place = added-place (nat_lt place MOST_RECORDS) place

  placing-names : (slots : List Slot) → AsksNames (placing a slots o)
  placing-names slots = added-name (row_named a.name slots) (first_free slots)

pub add_at-names : (parent : ObjectName) (a : Addition) → IsName parent → IsAddition a → IsComponent a.name → AsksNames (add_at parent a)
add_at-names parent a named is form = changed-names (placing a) (λ slots o are own opened. placing-names a is form o own opened slots) parent named

-- a name is removed from one
module _ (o : Opened) (named : IsName o.uid) (opened : IsOpened o) where
  shuts : AreOps (closers o)
  shuts = opened-closes o named

  clearing-names : (place : ℕ) → AsksNames (clearing o place)
  clearing-names place =
      fine-names (closers o) (store_record o place free_bytes) (shutting (closers o) (Ends Removed)) shuts (record-stored o place free_bytes opened refl) (shutting-names (closers o) (Ends Removed) shuts tt)

  deleted-names : (u : ObjectName) (place : ℕ) → IsName u → (reply : Reply) → AsksNames (on_deleted u o place reply)
  deleted-names u place is replies.Fine = clearing-names place
  deleted-names u place is replies.Kept = closing-names (Unlock u ∷ closers o) (Refused replies.Kept) (is, shuts) tt
  deleted-names u place is replies.WrongMode = closing-names (Unlock u ∷ closers o) (Refused replies.WrongMode) (is, shuts) tt
  deleted-names u place is reply = closing-names (closers o) (Refused reply) shuts tt

  locked-names : (u : ObjectName) (place : ℕ) → IsName u → (reply : Reply) → AsksNames (on_locked u o place reply)
  locked-names u place is replies.Fine = (is, λ reply may. deleted-names u place is reply)
  locked-names u place is replies.NoObject = clearing-names place
  locked-names u place is reply = closing-names (closers o) (Refused reply) shuts tt

  kind-names : (kind : ObjKind) (u : ObjectName) (place : ℕ) → IsName u → AsksNames (on_kind kind u o place)
  kind-names kinds.Directory u place is = closing-names (closers o) IsDir shuts tt
  kind-names kind u place is = (is, λ reply may. locked-names u place is reply)

  found-names : (found : Option (ℕ × DirRow)) → IfSome found IsNamedPlace → AsksNames (removing.on_name found o)
  found-names None is = closing-names (closers o) NoName shuts tt
  found-names (Some (place, row)) is = kind-names row.kind row.uid place is

pub drop_at-names : (parent : ObjectName) (name : List ℕ) → IsName parent → AsksNames (drop_at parent name)
drop_at-names parent name named = changed-names (finding name) (λ slots o are own opened. found-names o own opened (placed_row name slots) (placed_row-named name slots are)) parent named
