-- How a name is added to a directory that is loaded, reply by reply.
use Rattle.std.specs.Prelude.{ℕ, nat_lt, Bool, true, false, Option, Some, None, List, []}
use Rattle.uid_names.specs.declared.mode.Mode.TheVariants.{Write}
use Rattle.dom_history.specs.declared.op.Op.{Op}
use Rattle.dom_history.specs.declared.op.Op.TheVariants as ops
use Rattle.dom_history.specs.declared.op.Spot.TheVariants.{Of}
use Rattle.dom_history.specs.declared.op.Reply.{Reply}
use Rattle.dom_history.specs.declared.op.Reply.TheVariants.{Made, Fine}
use Rattle.dir_records.specs.declared.row.DirRow.{DirRow}
use Rattle.dir_records.specs.declared.directory.TheConstants.{MOST_RECORDS}
use Rattle.dir_records.specs.Records.{Slot, row_bytes}
use Rattle.dir_records.specs.Directories.{row_named, first_free}
use Rattle.naming_tree.specs.declared.session.Opened.{Opened}
use Rattle.naming_tree.specs.declared.session.Held.{Held}
use Rattle.naming_tree.specs.declared.step.NameResult.TheVariants.{Added, NameExists, DirFull}
use Rattle.naming_tree.specs.declared.addition.Addition.{Addition}
use Rattle.naming_tree.specs.declared.adding.AddStage.{AddStage}
use Rattle.naming_tree.specs.declared.adding.AddStage.TheVariants.{Make, LockText, StoreText, UnlockText, StoreName}
use Rattle.naming_tree.specs.declared.changing.Stage.TheVariants.{Adds}
use Rattle.naming_tree.specs.declared.changing.Next.{Next}
use Rattle.naming_tree.specs.declared.changing.Next.TheVariants.{To, End}
use Rattle.naming_tree.specs.declared.placed.Placed.{Placed}
use Rattle.naming_tree.specs.Entering.{held_of}
use Rattle.naming_tree.specs.Endings.{refused_with, decided, completed}
use Rattle.naming_tree.specs.Additions.{added_row}
use Rattle.naming_tree.specs.Placing.{store_record, held_with, IsPlaced, IsThere}

-- the directory was read: the tests, in their order
abbrev pub on_place : Bool → Opened → ℕ → Next
on_place true o place = To (Adds (Make o place))
on_place false o place = End (decided o DirFull)

abbrev pub on_name : Option DirRow → Opened → ℕ → Next
on_name (Some row) o place = End (decided o NameExists)
on_name None o place = on_place (nat_lt place MOST_RECORDS) o place

abbrev pub add_in : Addition → List Slot → Opened → Next
add_in a slots o = on_name (row_named a.name slots) o (first_free slots)

-- the object was made: a text is stored into a link, and then its name into the directory
abbrev pub text_or_name : Bool → Placed → AddStage
text_or_name true m = LockText m
text_or_name false m = StoreName m

abbrev pub on_made : Bool → Opened → ℕ → Reply → Next
on_made texted o place (Made u) = To (Adds (text_or_name texted (record { opened = o; place = place; uid = u })))
on_made texted o place reply = End (refused_with (Some (held_of o)) reply)

-- an operation that tells nothing: on in this stage, or giving up what is held
abbrev pub went_on : AddStage → Held → Reply → Next
went_on stage held Fine = To (Adds stage)
went_on stage held reply = End (refused_with (Some held) reply)

abbrev pub on_named : Placed → Reply → Next
on_named m Fine = End (completed m.opened (Added m.uid))
on_named m reply = End (refused_with (Some (held_of m.opened)) reply)

-- what a reply makes of it, with a text to be stored or without
abbrev pub add_heard : Bool → AddStage → Reply → Next
add_heard texted (Make o place) reply = on_made texted o place reply
add_heard texted (LockText m) reply = went_on (StoreText m) (held_of m.opened) reply
add_heard texted (StoreText m) reply = went_on (UnlockText m) (held_with m) reply
add_heard texted (UnlockText m) reply = went_on (StoreName m) (held_of m.opened) reply
add_heard texted (StoreName m) reply = on_named m reply

-- the text of a link
abbrev pub text_of : Option (List ℕ) → List ℕ
text_of None = []
text_of (Some text) = text

-- what it asks
abbrev pub add_op : Addition → AddStage → Op
add_op a (Make o place) = ops.New o.uid.home a.kind a.room
add_op a (LockText m) = ops.Lock m.uid Write
add_op a (StoreText m) = ops.Store (Of m.uid 0) (text_of a.text)
add_op a (UnlockText m) = ops.Unlock m.uid
add_op a (StoreName m) = store_record m.opened m.place (row_bytes (added_row a m.uid))

-- a text is there
abbrev pub IsTexted : Option (List ℕ) → Type 0
IsTexted None = ⊥
IsTexted (Some text) = Unit {0}

-- a stage that can be reached
abbrev pub IsAddStage : Addition → AddStage → Type 0
IsAddStage a (Make o place) = IsPlaced o place
IsAddStage a (LockText m) = IsThere m × IsTexted a.text
IsAddStage a (StoreText m) = IsThere m × IsTexted a.text
IsAddStage a (UnlockText m) = IsThere m
IsAddStage a (StoreName m) = IsThere m
