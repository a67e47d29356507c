-- How an object is read whole, reply by reply.
use Rattle.std.specs.Prelude.{Bool, true, false, Option, Some, None, [], IfSome}
use Rattle.uid_names.specs.Names.{ObjectName}
use Rattle.uid_names.specs.declared.mode.Mode.TheVariants.{Read}
use Rattle.dom_history.specs.declared.op.Op.{Op}
use Rattle.dom_history.specs.declared.op.Op.TheVariants.{Unlock}
use Rattle.dom_history.specs.declared.op.Reply.{Reply}
use Rattle.naming_tree.specs.declared.session.Opened.{Opened}
use Rattle.naming_tree.specs.declared.session.Held.{Held}
use Rattle.naming_tree.specs.declared.session.Entering.{Entering}
use Rattle.naming_tree.specs.declared.session.Entering.TheVariants as entering
use Rattle.naming_tree.specs.declared.session.Entry.{Entry}
use Rattle.naming_tree.specs.declared.session.Entry.TheVariants.{On, In, Out}
use Rattle.naming_tree.specs.declared.session.Closing.{Closing}
use Rattle.naming_tree.specs.declared.reading.Reading.{Reading}
use Rattle.naming_tree.specs.Entering.{enter_op, entry_of, bytes_after, held_of, held_op, closing_after, IsEntering}

-- nothing is held
abbrev pub nothing_held : Closing
nothing_held = record { held = None; counts = false; refused = None }

-- what was opened is closed, and refusals count
abbrev pub shut : Opened → Closing
shut o = record { held = Some (held_of o); counts = true; refused = None }

-- what is held is closed behind a refusal
abbrev pub give_up : Option Held → Reply → Closing
give_up held reply = record { held = held; counts = false; refused = Some reply }

-- a reading of an object that begins
abbrev pub reading_of : ObjectName → Reading
reading_of u = record { uid = u; enter = Some entering.Lock; bytes = []; closing = nothing_held }

-- what it asks, while it is not done
abbrev pub closing_op : ObjectName → Option Held → Op
closing_op u None = Unlock u
closing_op u (Some held) = held_op held

abbrev pub op_at : ObjectName → Option Entering → Option Held → Op
op_at u None held = closing_op u held
op_at u (Some stage) held = enter_op u Read stage

abbrev pub reading_op : Reading → Op
reading_op r = op_at r.uid r.enter r.closing.held

-- it is done where nothing is to be opened, loaded or closed
abbrev pub is_closed : Option Held → Bool
is_closed None = true
is_closed (Some held) = false

abbrev pub is_done_at : Option Entering → Option Held → Bool
is_done_at (Some stage) held = false
is_done_at None held = is_closed held

abbrev pub is_done : Reading → Bool
is_done r = is_done_at r.enter r.closing.held

-- the stage and the closing behind a reply to the opening
abbrev pub stage_of : Entry → Option Entering
stage_of (On stage) = Some stage
stage_of _ = None

abbrev pub closing_of : Reply → Entry → Closing
closing_of reply (On stage) = nothing_held
closing_of reply (In o) = shut o
closing_of reply (Out held) = give_up held reply

-- the reading behind a reply
abbrev pub entered : Reading → Entering → Reply → Reading
entered r stage reply = record {
  uid = r.uid;
  enter = stage_of (entry_of r.uid stage reply);
  bytes = bytes_after stage r.bytes reply;
  closing = closing_of reply (entry_of r.uid stage reply);
}

abbrev pub closed : Reading → Reply → Reading
closed r reply = record { uid = r.uid; enter = None; bytes = r.bytes; closing = closing_after r.closing reply }

abbrev pub heard_at : Reading → Option Entering → Reply → Reading
heard_at r None reply = closed r reply
heard_at r (Some stage) reply = entered r stage reply

abbrev pub reading_after : Reading → Reply → Reading
reading_after r reply = heard_at r r.enter reply

-- its stage can be reached
abbrev pub IsReading : Reading → Type 0
IsReading r = IfSome r.enter IsEntering
