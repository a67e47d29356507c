-- What is left of a mailbox's dialogue at each stage of its machine.
use Rattle.std.specs.Prelude.{◌≡◌, ◌≢◌, ◌<◌, ◌≤◌, ◌-◌, ◌*◌, ◌%◌, ◌^◌, Bool, true, false, Option, Some, None, List}
use Rattle.uid_names.specs.Names.{ObjectName}
use Rattle.uid_names.specs.declared.mode.Mode.TheVariants.{Write}
use Rattle.uid_names.specs.declared.segment.TheConstants.{SEGMENT_SIZE, SEGMENTS}
use Rattle.dom_history.specs.declared.op.Op.{Op}
use Rattle.dom_history.specs.declared.op.Op.TheVariants as ops
use Rattle.naming_tree.specs.Sessions.{closers_if}
use Rattle.naming_tree.specs.Entering.{unmap_if}
use Rattle.mail_box.specs.Boxes.{IsText}
use Rattle.mail_box.specs.Dialogues.{Dialogue, Ends, closing}
use Rattle.mail_box.specs.Mails.{come_of, counted, counting, handling, mailing, mapping, measuring, message_load, message_store, numbers_load, numbers_store, opened_left, reaching, shutting}
use Rattle.mail_box.specs.declared.boxes.Extent.TheVariants.{Whole}
use Rattle.mail_box.specs.declared.boxes.Head.{Head}
use Rattle.mail_box.specs.declared.mailing.Opened.{Opened}
use Rattle.mail_box.specs.declared.mailing.Stage.{Stage}
use Rattle.mail_box.specs.declared.mailing.Stage.TheVariants.{Lock, Length, Map, Numbers, Message, Count, Close}
use Rattle.mail_box.specs.declared.mailing.Mailing.{Mailing}
use Rattle.mail_box.specs.declared.step.MailResult.{MailResult}
use Rattle.mail_box.specs.declared.work.MailWork.{MailWork}
use Rattle.mail_box.specs.declared.work.MailWork.TheVariants.{Put, Take}

-- a machine at a stage of its work; the result that is decided already, if one is
abbrev pub mailing_at : ObjectName → MailWork → Option MailResult → Stage → Mailing
mailing_at u work decided stage = record { uid = u; work = work; stage = stage; decided = decided }

-- one that begins
abbrev pub mailing_of : ObjectName → MailWork → Mailing
mailing_of u work = mailing_at u work None Lock

-- refusals of a closing count where nothing is decided
abbrev pub closing_left : List Op → Option MailResult → MailResult → Dialogue
closing_left held None result = shutting held result
closing_left held (Some decided) result = closing held decided

abbrev pub stage_left : ObjectName → MailWork → Option MailResult → Stage → Dialogue
stage_left u work decided Lock = mailing u work
stage_left u work decided Length = measuring u (opened_left u work)
stage_left u work decided (Map n) = mapping u n (opened_left u work)
stage_left u work decided (Numbers o) = reaching u o work Whole
stage_left u work decided (Message o h) = handling u o work h
stage_left u work decided (Count o h) = counting u o work h
stage_left u work decided (Close mapped) = closing_left (closers_if mapped u) decided (come_of work)

abbrev pub left : Mailing → Dialogue
left m = stage_left m.uid m.work m.decided m.stage

-- what is left behind a reply, by what has come of it
abbrev pub left_or : Option MailResult → Mailing → Dialogue
left_or None m = left m
left_or (Some result) m = Ends result

-- what is left of a machine, unless it is over
abbrev pub rest : Option Mailing → Option Dialogue
rest None = None
rest (Some m) = Some (left m)

-- what a stage asks
abbrev pub message_op : MailWork → Opened → Head → Op
message_op (Put text) o h = message_store o h.put text
message_op (Take text) o h = message_load o h.taken

abbrev pub stage_op : ObjectName → MailWork → Stage → Op
stage_op u work Lock = ops.Lock u Write
stage_op u work Length = ops.Length u
stage_op u work (Map n) = ops.Map u
stage_op u work (Numbers o) = numbers_load o
stage_op u work (Message o h) = message_op work o h
stage_op u work (Count o h) = numbers_store o (counted work h)
stage_op u work (Close mapped) = unmap_if mapped u

-- a text that is put is one
abbrev pub IsWork : MailWork → Type 0
IsWork (Put text) = IsText text
IsWork (Take text) = Unit {0}

-- it lies where mappings lie
pub record IsOpened (o : Opened) : Type 0 where
  pub at : o.address % SEGMENT_SIZE ≡ 0
  pub below : o.address < SEGMENTS * SEGMENT_SIZE

-- numbers of which each can be one more
pub record IsCounted (h : Head) : Type 0 where
  pub put : h.put ≢ 2 ^ 64 - 1
  pub taken : h.taken ≤ h.put

-- a stage that can be reached
abbrev pub IsStage : Stage → Type 0
IsStage Lock = Unit {0}
IsStage Length = Unit {0}
IsStage (Map n) = Unit {0}
IsStage (Numbers o) = IsOpened o
IsStage (Message o h) = IsOpened o × IsCounted h
IsStage (Count o h) = IsOpened o × IsCounted h
IsStage (Close mapped) = Unit {0}

pub record IsMailing (m : Mailing) : Type 0 where
  pub work : IsWork m.work
  pub stage : IsStage m.stage

-- a machine unless it is over, and what holds while it is not
abbrev pub unless : Bool → Mailing → Option Mailing
unless true m = None
unless false m = Some m

abbrev pub IfOn : Bool → Mailing → Type 0
IfOn true m = Unit {0}
IfOn false m = IsMailing m
