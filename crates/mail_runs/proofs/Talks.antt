-- What a command of mailboxes is at: the walk along its path, the check of it, and the machine of its mailbox.
use Rattle.std.proofs.Common.{◌≡◌, ℕ, Option, Some, None, List, [], ◌∷◌, refl, sym, ◌∙◌, ap, subst}
use Rattle.uid_names.specs.Names.{ObjectName}
use Rattle.uid_names.specs.declared.mode.ObjKind.{ObjKind}
use Rattle.uid_names.specs.declared.mode.ObjKind.TheVariants as kinds
use Rattle.dir_records.specs.Directories.{directory_of, row_named}
use Rattle.dir_records.specs.Records.{Slot}
use Rattle.dir_records.specs.declared.row.DirRow.{DirRow}
use Rattle.dom_history.specs.declared.op.Op.{Op}
use Rattle.dom_history.specs.declared.op.Reply.{Reply}
use Rattle.naming_tree.specs.Dialogues.{NameStep, asked}
use Rattle.naming_tree.specs.declared.step.NameResult.{NameResult}
use Rattle.naming_tree.specs.declared.step.Step.TheVariants as steps
use Rattle.naming_tree.specs.Turns.{stood_after, stood_says}
use Rattle.naming_tree.specs.Walking.{walking_after, walking_asks}
use Rattle.naming_tree.specs.declared.walking.Walking.{Walking}
use Rattle.mapped_streams.specs.Dialogues.{StreamStep, said_to}
use Rattle.mapped_streams.specs.States.{rest}
use Rattle.mapped_streams.specs.Turns.{stood_after as stream_after}
use Rattle.mapped_streams.specs.declared.step.StreamResult.{StreamResult}
use Rattle.mapped_streams.specs.declared.step.StreamResult.TheVariants as results
use Rattle.mapped_streams.specs.declared.streaming.Streaming.{Streaming}
use Rattle.mail_box.specs.Dialogues as boxes
use Rattle.mail_box.specs.Dialogues.{Ends, Asks}
use Rattle.mail_box.specs.States as box_states
use Rattle.mail_box.specs.States.{mailing_of, stage_op, IsMailing}
use Rattle.mail_box.specs.Turns as box_turns
use Rattle.mail_box.specs.declared.mailing.Mailing.{Mailing}
use Rattle.mail_box.specs.declared.work.MailWork.{MailWork}
use Rattle.mail_box.specs.declared.work.MailWork.TheVariants.{Put, Take}
use Rattle.mail_box.proofs.Stages.{says_op}
use Rattle.command_talks.specs.Arriving.{mail_in}
use Rattle.command_talks.specs.Checks.{bad_list, check_for, check_of, denied, list_name, of_bad, of_text}
use Rattle.command_talks.specs.FileTalks.{arrived, check_stream, checked_turn, directory_turn, fails_turn, file_asks, file_turn, guarded_turn, kind_turn, mail_asks, mail_told, mail_turn, named_turn, row_turn, slots_turn, sought_turn, text_turn, verdict_turn}
use Rattle.command_talks.specs.declared.arriving.Arrival.{Arrival}
use Rattle.command_talks.specs.declared.arriving.Arrival.TheVariants.{There, Else}
use Rattle.command_talks.specs.declared.check.Check.{Check}
use Rattle.command_talks.specs.declared.check.Subject.{Subject}
use Rattle.command_talks.specs.declared.check.Verdict.{Verdict}
use Rattle.command_talks.specs.declared.check.Verdict.TheVariants.{Passes, IsBad, Denies}
use Rattle.command_talks.specs.declared.errand.Errand.{Errand}
use Rattle.command_talks.specs.declared.errand.Errand.TheVariants as errands
use Rattle.command_talks.specs.declared.file_talk.FileTalk.{FileTalk}
use Rattle.command_talks.specs.declared.file_talk.FileTalk.TheVariants.{Seeks, LooksUp, ReadsList, Mails}
use Rattle.command_talks.specs.declared.file_talk.FileTurn.{FileTurn}
use Rattle.command_talks.specs.declared.file_talk.FileTurn.TheVariants.{Goes, Comes}
use Rattle.command_talks.specs.declared.file_talk.Pending.{Pending}
use Rattle.command_talks.specs.declared.outcome.Outcome.{Outcome}
use Rattle.command_talks.specs.declared.outcome.Outcome.TheVariants.{Streamed, Written}
use Rattle.mail_runs.proofs.Mild.{check_reads, read_mild, reads_on, walk_mild, AsksMild, IsReads}

-- the errand of a work, and the work with which its machine begins
abbrev pub errand_for : MailWork → Errand
errand_for (Put text) = errands.Put text
errand_for (Take text) = errands.Take

abbrev pub fresh_of : MailWork → MailWork
fresh_of (Put text) = Put text
fresh_of (Take text) = Take []

-- the same work, but for the text that was taken
abbrev pub IsSameWork : MailWork → MailWork → Type 0
IsSameWork (Put text) (Put other) = text ≡ other
IsSameWork (Take text) (Take other) = Unit {0}
IsSameWork work other = ⊥

-- a machine of it that is on
abbrev pub OfMail : MailWork → Option Mailing → Type 0
OfMail w None = Unit {0}
OfMail w (Some m) = IsSameWork w m.work × IsMailing m

-- or that begins
abbrev pub BeginsMail : MailWork → Option Mailing → Type 0
BeginsMail w None = Unit {0}
BeginsMail w (Some m) = m ≡ mailing_of m.uid (fresh_of w)

-- what the command of this work is at: `P` holds of its machine
module _ (P : Option Mailing → Type 0) (w : MailWork) where
  abbrev pub OfFile : FileTalk → Type 0
  OfFile (Seeks walk errand guard) = errand ≡ errand_for w
  OfFile (LooksUp m p) = (p.errand ≡ errand_for w) × IsReads m
  OfFile (ReadsList m p) = (p.errand ≡ errand_for w) × IsReads m
  OfFile (Mails m) = P m
  OfFile talk = ⊥

  abbrev pub OfTalk : Option FileTalk → Type 0
  OfTalk None = Unit {0}
  OfTalk (Some talk) = OfFile talk

  -- what it turns to
  abbrev pub TurnIs : Option FileTurn → Type 0
  TurnIs None = Unit {0}
  TurnIs (Some (Goes talk op)) = OfFile talk
  TurnIs (Some (Comes outcome)) = Unit {0}

module _ (w : MailWork) where
  abbrev pub Starts : Option FileTurn → Type 0
  Starts t = TurnIs (BeginsMail w) w t

  fails_so : (outcome : Outcome) → Starts (fails_turn (errand_for w) outcome)
  fails_so outcome = by_work w
    where
      by_work : (v : MailWork) → TurnIs (BeginsMail w) w (fails_turn (errand_for v) outcome)
      by_work (Put text) = tt
      by_work (Take text) = tt

  fails_as : (errand : Errand) (outcome : Outcome) → errand ≡ errand_for w → Starts (fails_turn errand outcome)
  fails_as errand outcome is = subst (λ e. Starts (fails_turn e outcome)) (sym is) (fails_so outcome)

-- a mailbox that was found is opened
put_arrives : (text : List ℕ) (a : Arrival) → Starts (Put text) (arrived (λ u. mail_told (Some (mailing_of u (Put text))) None) a)
put_arrives text (There u) = refl
put_arrives text (Else outcome) = tt

take_arrives : (text : List ℕ) (a : Arrival) → Starts (Take text) (arrived (λ u. mail_told (Some (mailing_of u (Take []))) None) a)
take_arrives text (There u) = refl
take_arrives text (Else outcome) = tt

sought_so : (w : MailWork) (result : NameResult) → Starts w (sought_turn (errand_for w) result)
sought_so (Put text) result = put_arrives text (mail_in result)
sought_so (Take text) result = take_arrives text (mail_in result)

module _ (w : MailWork) where
  sought_as : (errand : Errand) (result : NameResult) → errand ≡ errand_for w → Starts w (sought_turn errand result)
  sought_as errand result is = subst (λ e. Starts w (sought_turn e result)) (sym is) (sought_so w result)

  -- a check leads on to it, or stops it
  verdict_so : (p : Pending) (v : Verdict) → p.errand ≡ errand_for w → Starts w (verdict_turn p v)
  verdict_so p Passes is = sought_as p.errand p.come is
  verdict_so p IsBad is = fails_as w p.errand (Written bad_list) is
  verdict_so p (Denies k) is = fails_as w p.errand (Written (denied k)) is

  text_so : (p : Pending) (result : StreamResult) → p.errand ≡ errand_for w → Starts w (text_turn p result)
  text_so p (results.Bytes text) is = verdict_so p (of_text p.who p.check text) is
  text_so p (results.Store reply) is = fails_as w p.errand _ is
  text_so p result is = fails_as w p.errand (Streamed result) is

  kind_so : (p : Pending) (kind : ObjKind) (u : ObjectName) → p.errand ≡ errand_for w → Starts w (kind_turn p kind u)
  kind_so p kinds.File u is = (is, check_reads u)
  kind_so p kinds.Directory u is = verdict_so p (of_bad p.check.lenient) is
  kind_so p kinds.Link u is = verdict_so p (of_bad p.check.lenient) is
  kind_so p kinds.Mail u is = verdict_so p (of_bad p.check.lenient) is

  row_so : (p : Pending) (row : Option DirRow) → p.errand ≡ errand_for w → Starts w (row_turn p row)
  row_so p None is = sought_as p.errand p.come is
  row_so p (Some row) is = kind_so p row.kind row.uid is

  slots_so : (p : Pending) (slots : Option (List Slot)) → p.errand ≡ errand_for w → Starts w (slots_turn p slots)
  slots_so p None is = fails_as w p.errand _ is
  slots_so p (Some slots) is = row_so p (row_named list_name slots) is

  directory_so : (p : Pending) (result : StreamResult) → p.errand ≡ errand_for w → Starts w (directory_turn p result)
  directory_so p (results.Bytes bytes) is = slots_so p (directory_of bytes) is
  directory_so p (results.Store reply) is = fails_as w p.errand _ is
  directory_so p result is = fails_as w p.errand (Streamed result) is

  checked_so : (asked : Option (Subject × Check)) (errand : Errand) (result : NameResult) → errand ≡ errand_for w → Starts w (checked_turn asked errand result)
  checked_so None errand result is = sought_as errand result is
  checked_so (Some asked) errand result is = (is, check_reads asked.1.dir)

  -- a walk goes on, or leads on
  named_so : (errand : Errand) (guard : Option Subject) (said : Option NameStep) (m : Option Walking) → errand ≡ errand_for w → Starts w (named_turn (λ m. Seeks m errand guard) (guarded_turn guard errand) said m)
  named_so errand guard None m is = tt
  named_so errand guard (Some (steps.Do op)) m is = is
  named_so errand guard (Some (steps.Over result)) m is = checked_so (check_for guard (check_of errand result)) errand result is

  pub seeks_so : (walk : Option Walking) (errand : Errand) (guard : Option Subject) (last : Option Reply) → errand ≡ errand_for w → Starts w (file_turn (Seeks walk errand guard) last)
  seeks_so walk errand guard last is = named_so errand guard (stood_says walking_asks walking_after walk last) (stood_after walking_after walk last) is

  -- so does what is read for a check
  looks_so : (p : Pending) (said : Option StreamStep) (m : Option Streaming) → p.errand ≡ errand_for w → IsReads m → Starts w (check_stream (λ m. LooksUp m p) (directory_turn p) said m)
  looks_so p None m is reads = tt
  looks_so p (Some (steps.Do op)) m is reads = (is, reads)
  looks_so p (Some (steps.Over result)) m is reads = directory_so p result is

  lists_so : (p : Pending) (said : Option StreamStep) (m : Option Streaming) → p.errand ≡ errand_for w → IsReads m → Starts w (check_stream (λ m. ReadsList m p) (text_turn p) said m)
  lists_so p None m is reads = tt
  lists_so p (Some (steps.Do op)) m is reads = (is, reads)
  lists_so p (Some (steps.Over result)) m is reads = text_so p result is

-- the machine of a mailbox, where the command is at it
abbrev pub mail_in_file : FileTalk → Option Mailing
mail_in_file (Mails m) = m
mail_in_file talk = None

abbrev pub mail_in_talk : Option FileTalk → Option Mailing
mail_in_talk None = None
mail_in_talk (Some talk) = mail_in_file talk

-- it goes on as the machine turns
abbrev pub GoesAs : Option Mailing → Option Reply → Option FileTurn → Type 0
GoesAs m last None = Unit {0}
GoesAs m last (Some (Goes talk op)) = talk ≡ Mails (box_turns.stood_after m last)
GoesAs m last (Some (Comes outcome)) = Unit {0}

mail_goes_by : (m : Option Mailing) (last : Option Reply) (said : Option boxes.MailStep) → GoesAs m last (mail_turn said (Mails (box_turns.stood_after m last)))
mail_goes_by m last None = tt
mail_goes_by m last (Some (steps.Do op)) = refl
mail_goes_by m last (Some (steps.Over result)) = tt

-- what is told behind its machine leads the machine on; told at another place, the machine begins at most
abbrev pub Follows : MailWork → FileTalk → Option Reply → Option FileTurn → Type 0
Follows w (Mails m) last t = GoesAs m last t
Follows w talk last t = Starts w t

pub file_follows : (w : MailWork) (talk : FileTalk) (last : Option Reply) → OfFile (OfMail w) w talk → Follows w talk last (file_turn talk last)
file_follows w (Seeks walk errand guard) last is = seeks_so w walk errand guard last is
file_follows w (LooksUp m p) last is = looks_so w p (said_to (rest m) last) (stream_after m last) is.0 (reads_on m last is.1)
file_follows w (ReadsList m p) last is = lists_so w p (said_to (rest m) last) (stream_after m last) is.0 (reads_on m last is.1)
file_follows w (Mails m) last is = mail_goes_by m last (boxes.said_to (box_states.rest m) last)
file_follows w _ last is = absurd is

-- a machine that begins is on
same_fresh : (w : MailWork) → IsSameWork w (fresh_of w)
same_fresh (Put text) = refl
same_fresh (Take text) = tt

fresh_work : (w : MailWork) → box_states.IsWork w → box_states.IsWork (fresh_of w)
fresh_work (Put text) is = is
fresh_work (Take text) is = tt

pub begun_on : (w : MailWork) (m : Option Mailing) → box_states.IsWork w → BeginsMail w m → OfMail w m
begun_on w None is begins = tt
begun_on w (Some m) is begins =
    subst (λ (x : Mailing). IsSameWork w x.work × IsMailing x) (sym begins) (same_fresh w, record { work = fresh_work w is; stage = tt })

pub begun_file : (w : MailWork) (talk : FileTalk) → box_states.IsWork w → OfFile (BeginsMail w) w talk → OfFile (OfMail w) w talk
begun_file w (Seeks walk errand guard) is at = at
begun_file w (LooksUp m p) is at = at
begun_file w (ReadsList m p) is at = at
begun_file w (Mails m) is at = begun_on w m is at
begun_file w _ is at = absurd at

-- a machine asks what its stage asks
asked_says : (d : boxes.Dialogue) (op : Op) → boxes.says d ≡ steps.Do op → asked d ≡ Some op
asked_says (Ends result) op e = absurd (cc)
asked_says (Asks other further) op e = let same : other ≡ op = cc in ap Some same

pub mail_asks_stage : (m : Mailing) → mail_asks (Some m) ≡ Some (stage_op m.uid m.work m.stage)
mail_asks_stage m = asked_says (box_states.left m) (stage_op m.uid m.work m.stage) (says_op m)

-- beside it, the command asks mildly
pub file_mild : (w : MailWork) (talk : FileTalk) → OfFile (OfMail w) w talk → mail_in_file talk ≡ None → AsksMild (file_asks talk)
file_mild w (Seeks walk errand guard) is none = walk_mild walk
file_mild w (LooksUp m p) is none = read_mild m is.1
file_mild w (ReadsList m p) is none = read_mild m is.1
file_mild w (Mails m) is none = subst (λ (x : Option Mailing). AsksMild (mail_asks x)) (sym none) tt
file_mild w _ is none = absurd is
