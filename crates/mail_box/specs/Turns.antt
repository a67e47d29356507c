-- What a reply makes of a machine of a mailbox.
use Rattle.std.specs.Prelude.{ℕ, Bool, true, false, Option, Some, None, List}
use Rattle.uid_names.specs.Names.{ObjectName}
use Rattle.dom_history.specs.declared.op.Reply.{Reply}
use Rattle.dom_history.specs.declared.op.Reply.TheVariants.{Fine, Size, Bytes, At as MappedAt}
use Rattle.mail_box.specs.Boxes.{extent_of, first_head, head_of, text_in}
use Rattle.mail_box.specs.Mails.{come_of, judged, opened_at}
use Rattle.mail_box.specs.States.{mailing_at}
use Rattle.mail_box.specs.declared.boxes.Extent.{Extent}
use Rattle.mail_box.specs.declared.boxes.Extent.TheVariants.{New, Torn, Whole}
use Rattle.mail_box.specs.declared.boxes.Head.{Head}
use Rattle.mail_box.specs.declared.mailing.Opened.{Opened}
use Rattle.mail_box.specs.declared.mailing.Stage.{Stage}
use Rattle.mail_box.specs.declared.mailing.Stage.TheVariants.{Lock, Length, Map, Numbers, Message, Count, Close}
use Rattle.mail_box.specs.declared.mailing.Mailing.{Mailing}
use Rattle.mail_box.specs.declared.step.MailResult.{MailResult}
use Rattle.mail_box.specs.declared.step.MailResult.TheVariants.{BadMail, Store}
use Rattle.mail_box.specs.declared.work.MailWork.{MailWork}
use Rattle.mail_box.specs.declared.work.MailWork.TheVariants.{Put, Take}

-- it goes on, or comes to a result
pub data Turn : Type 0 where
  Goes : (mail : Mailing) → Turn
  Comes : (result : MailResult) → Turn

-- the turn of a machine and of the result, if there is one
abbrev pub turn_of : Option MailResult → Mailing → Turn
turn_of None m = Goes m
turn_of (Some result) m = Comes result

-- where it stands behind it; None once it is over
abbrev pub state_of : Turn → Option Mailing
state_of (Goes m) = Some m
state_of (Comes result) = None

module _ (u : ObjectName) (work : MailWork) where
  -- this is decided: it closes
  abbrev pub decides : Bool → MailResult → Mailing
  decides mapped result = mailing_at u work (Some result) (Close mapped)

  abbrev pub behind_lock : Reply → Turn
  behind_lock Fine = Goes (mailing_at u work None Length)
  behind_lock reply = Comes (Store reply)

  abbrev pub behind_length : Reply → Mailing
  behind_length (Size n) = mailing_at u work None (Map n)
  behind_length reply = decides false (Store reply)

  -- the numbers are known
  abbrev pub known_if : Opened → Head → Option MailResult → Mailing
  known_if o h None = mailing_at u work None (Message o h)
  known_if o h (Some result) = decides o.fresh result

  abbrev pub known : Opened → Head → Mailing
  known o h = known_if o h (judged work h)

  -- so is the length
  abbrev pub reached : Opened → Extent → Mailing
  reached o New = known o first_head
  reached o Torn = decides o.fresh BadMail
  reached o Whole = mailing_at u work None (Numbers o)

  abbrev pub behind_map : ℕ → Reply → Mailing
  behind_map n (MappedAt address fresh) = reached (opened_at address fresh) (extent_of n)
  behind_map n reply = decides false (Store reply)

  abbrev pub behind_numbers : Opened → Reply → Mailing
  behind_numbers o (Bytes loaded) = known o (head_of loaded)
  behind_numbers o reply = decides o.fresh (Store reply)

  -- a message is stored
  abbrev pub behind_stored : Opened → Head → Reply → Mailing
  behind_stored o h Fine = mailing_at u work None (Count o h)
  behind_stored o h reply = decides o.fresh (Store reply)

  -- or loaded
  abbrev pub with_text : Opened → Head → Option (List ℕ) → Mailing
  with_text o h None = decides o.fresh BadMail
  with_text o h (Some text) = mailing_at u (Take text) None (Count o h)

  abbrev pub behind_loaded : Opened → Head → Reply → Mailing
  behind_loaded o h (Bytes loaded) = with_text o h (text_in loaded)
  behind_loaded o h reply = decides o.fresh (Store reply)

  abbrev pub behind_count : Opened → Reply → Mailing
  behind_count o Fine = mailing_at u work None (Close o.fresh)
  behind_count o reply = decides o.fresh (Store reply)

abbrev pub behind_message : ObjectName → MailWork → Opened → Head → Reply → Mailing
behind_message u (Put text) o h reply = behind_stored u (Put text) o h reply
behind_message u (Take text) o h reply = behind_loaded u (Take text) o h reply

-- the first refusal of a closing counts where nothing is decided
abbrev pub first_decided : Option MailResult → Reply → Option MailResult
first_decided None Fine = None
first_decided None reply = Some (Store reply)
first_decided (Some earlier) reply = Some earlier

abbrev pub come_behind : MailWork → Option MailResult → MailResult
come_behind work None = come_of work
come_behind work (Some decided) = decided

-- behind the closing of the mapping the lock is given back
abbrev pub behind_close : ObjectName → MailWork → Bool → Option MailResult → Turn
behind_close u work true decided = Goes (mailing_at u work decided (Close false))
behind_close u work false decided = Comes (come_behind work decided)

abbrev pub stage_turn : ObjectName → MailWork → Option MailResult → Stage → Reply → Turn
stage_turn u work decided Lock reply = behind_lock u work reply
stage_turn u work decided Length reply = Goes (behind_length u work reply)
stage_turn u work decided (Map n) reply = Goes (behind_map u work n reply)
stage_turn u work decided (Numbers o) reply = Goes (behind_numbers u work o reply)
stage_turn u work decided (Message o h) reply = Goes (behind_message u work o h reply)
stage_turn u work decided (Count o h) reply = Goes (behind_count u work o reply)
stage_turn u work decided (Close mapped) reply = behind_close u work mapped (first_decided decided reply)

abbrev pub turn : Mailing → Reply → Turn
turn m reply = stage_turn m.uid m.work m.decided m.stage reply

-- where a machine stands once it is told this, which is nothing at its first call; None once it is over
abbrev pub told_turn : Mailing → Option Reply → Turn
told_turn m None = Goes m
told_turn m (Some reply) = turn m reply

abbrev pub stood_after : Option Mailing → Option Reply → Option Mailing
stood_after None last = None
stood_after (Some m) last = state_of (told_turn m last)
