-- A name that is added to a directory, and what that asks.
use Rattle.std.specs.Prelude.{ℕ, nat_lt, Bool, true, false, Option, Some, None, List, ◌∷◌, IsSome}
use Rattle.uid_names.specs.Names.{ObjectName}
use Rattle.uid_names.specs.Rooms.{IsRoom}
use Rattle.uid_names.specs.declared.mode.Mode.TheVariants.{Write}
use Rattle.uid_names.specs.declared.mode.ObjKind.{ObjKind}
use Rattle.uid_names.specs.declared.mode.ObjKind.TheVariants.{Link}
use Rattle.dom_history.specs.declared.op.Op.TheVariants.{New, Lock, Unlock, Store}
use Rattle.dom_history.specs.declared.op.Spot.TheVariants.{Of}
use Rattle.dir_records.specs.declared.row.DirRow.{DirRow}
use Rattle.dir_records.specs.declared.directory.TheConstants.{MOST_RECORDS}
use Rattle.naming_tree.specs.declared.session.Opened.{Opened}
use Rattle.naming_tree.specs.declared.step.NameResult.TheVariants.{Added, NameExists, DirFull}
use Rattle.naming_tree.specs.declared.addition.Addition.{Addition}
use Rattle.dir_records.specs.Records.{Slot, row_bytes}
use Rattle.dir_records.specs.Directories.{row_named, first_free}
use Rattle.dir_records.specs.Paths.{route_of}
use Rattle.naming_tree.specs.Placing.{store_record}
use Rattle.naming_tree.specs.Dialogues.{Dialogue, Ends}
use Rattle.naming_tree.specs.Sessions.{fine, made, closing, ask, closers, shutting}
use Rattle.naming_tree.specs.Changes.{changed}

-- the row of an addition
abbrev pub added_row : Addition → ObjectName → DirRow
added_row a u = record { kind = a.kind; name = a.name; uid = u }

-- the text of a link is stored into it
abbrev pub texting : Option (List ℕ) → ObjectName → Opened → Dialogue → Dialogue
texting None u o further = further
texting (Some text) u o further =
    ask fine (closers o) (Lock u Write) (λ _.
    ask fine (Unlock u ∷ closers o) (Store (Of u 0) text) (λ _.
    ask fine (closers o) (Unlock u) (λ _. further)))

-- the record is stored, and the directory closed
abbrev pub naming : Addition → Opened → ℕ → ObjectName → Dialogue
naming a o place u = ask fine (closers o) (store_record o place (row_bytes (added_row a u))) (λ _. shutting (closers o) (Ends (Added u)))

-- the object is made at the directory's home
abbrev pub making : Addition → Opened → ℕ → Dialogue
making a o place = ask made (closers o) (New o.uid.home a.kind a.room) (λ u. texting a.text u o (naming a o place u))

-- the name is new, and goes to this place, where there is one
abbrev pub on_place : Bool → Addition → Opened → ℕ → Dialogue
on_place true a o place = making a o place
on_place false a o place = closing (closers o) DirFull

abbrev pub on_name : Option DirRow → Addition → Opened → ℕ → Dialogue
on_name (Some row) a o place = closing (closers o) NameExists
on_name None a o place = on_place (nat_lt place MOST_RECORDS) a o place

abbrev pub placing : Addition → List Slot → Opened → Dialogue
placing a slots o = on_name (row_named a.name slots) a o (first_free slots)

-- a name is added to a directory, with a new object
abbrev pub add_at : ObjectName → Addition → Dialogue
add_at parent a = changed parent (placing a)

-- a text is there for a link alone, and is a path
abbrev pub IsText : ObjKind → Option (List ℕ) → Type 0
IsText Link None = ⊥
IsText Link (Some text) = IsSome (route_of text)
IsText _ None = Unit {0}
IsText _ (Some text) = ⊥

-- what can be added
pub record IsAddition (a : Addition) : Type 0 where
  pub room : IsRoom a.room
  pub text : IsText a.kind a.text
