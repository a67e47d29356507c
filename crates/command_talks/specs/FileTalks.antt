-- The machines that have the dialogues of commands, as a shell drives them.
use Rattle.std.specs.Prelude.{Bool, true, false, Option, Some, None, List, ℕ, [], IsSome}
use Rattle.uid_names.specs.Names.{ObjectName}
use Rattle.uid_names.specs.declared.mode.Mode.TheVariants as modes
use Rattle.uid_names.specs.declared.mode.ObjKind.{ObjKind}
use Rattle.uid_names.specs.declared.mode.ObjKind.TheVariants as kinds
use Rattle.dir_records.specs.Directories.{directory_of, row_named}
use Rattle.dir_records.specs.Records.{Slot}
use Rattle.dir_records.specs.declared.row.DirRow.{DirRow}
use Rattle.dom_history.specs.declared.op.Op.{Op}
use Rattle.dom_history.specs.declared.op.Op.TheVariants as ops
use Rattle.dom_history.specs.declared.op.Reply.{Reply}
use Rattle.dom_history.specs.declared.op.Reply.TheVariants.{Fine, Size, At as MappedAt}
use Rattle.dom_history.specs.Fitting.{Fits}
use Rattle.naming_tree.specs.declared.changing.Change.TheVariants as changes
use Rattle.naming_tree.specs.declared.by_path.ByPath.{ByPath}
use Rattle.naming_tree.specs.declared.purpose.Purpose.TheVariants as purposes
use Rattle.naming_tree.specs.declared.walking.Walking.{Walking}
use Rattle.naming_tree.specs.declared.step.Within.{Within}
use Rattle.naming_tree.specs.declared.step.NameResult.{NameResult}
use Rattle.naming_tree.specs.declared.step.NameResult.TheVariants.{Under, Added, BadDir, Store}
use Rattle.naming_tree.specs.Dialogues.{NameStep}
use Rattle.naming_tree.specs.declared.step.Step.TheVariants as steps
use Rattle.naming_tree.specs.ByPaths.{to_parent_of, by_path_after, by_path_asks}
use Rattle.naming_tree.specs.Changing.{changing_of, changing_after, changing_asks}
use Rattle.naming_tree.specs.ListsAt.{listing_of, listing_after, listing_asks}
use Rattle.naming_tree.specs.NamePaths.{addition}
use Rattle.dir_records.specs.Paths.{route_of}
use Rattle.naming_tree.specs.Turns.{Turn, FitsStood, stood_after, stood_says}
use Rattle.naming_tree.specs.Walking.{walking_after, walking_asks}
use Rattle.mapped_streams.specs.declared.gathered.Gathered.TheVariants.{All, Lines}
use Rattle.mapped_streams.specs.declared.step.StreamResult.{StreamResult}
use Rattle.mapped_streams.specs.declared.step.StreamResult.TheVariants as results
use Rattle.mapped_streams.specs.Dialogues.{StreamStep}
use Rattle.mapped_streams.specs.declared.streaming.Streaming.{Streaming}
use Rattle.mapped_streams.specs.declared.work.Side.TheVariants.{Before}
use Rattle.mapped_streams.specs.declared.work.Work.TheVariants as works
use Rattle.naming_tree.specs.Dialogues.{DialogueOf, asked}
use Rattle.mapped_streams.specs.Dialogues.{MayHear, said_to}
use Rattle.mapped_streams.specs.States.{rest, streaming_of}
use Rattle.mapped_streams.specs.Turns.{stood_after as stream_after}
use Rattle.mail_box.specs.Dialogues.{MailStep}
use Rattle.mail_box.specs.Dialogues as boxes
use Rattle.mail_box.specs.States as box_states
use Rattle.mail_box.specs.States.{mailing_of}
use Rattle.mail_box.specs.Turns.{stood_after as mail_after}
use Rattle.mail_box.specs.declared.mailing.Mailing.{Mailing}
use Rattle.mail_box.specs.declared.work.MailWork.TheVariants as mail_works
use Rattle.command_talks.specs.Arriving.{file_in, mail_in, directory_in}
use Rattle.command_talks.specs.Checks.{bad_list, check_for, check_of, denied, list_name, of_bad, of_text}
use Rattle.command_talks.specs.Files.{room_for}
use Rattle.command_talks.specs.Intentions.{Intended}
use Rattle.command_talks.specs.Mailed.{mail_outcome}
use Rattle.command_talks.specs.Sources.{Sourced, Targeted, source_of, measured, mapped, unmapped, close_op}
use Rattle.command_talks.specs.declared.arriving.Arrival.{Arrival}
use Rattle.command_talks.specs.declared.arriving.Arrival.TheVariants.{There, Else}
use Rattle.command_talks.specs.declared.check.Check.{Check}
use Rattle.command_talks.specs.declared.check.Subject.{Subject}
use Rattle.command_talks.specs.declared.check.Verdict.{Verdict}
use Rattle.command_talks.specs.declared.check.Verdict.TheVariants.{Passes, IsBad, Denies}
use Rattle.command_talks.specs.declared.file_talk.Pending.{Pending}
use Rattle.command_talks.specs.declared.errand.Errand.{Errand}
use Rattle.command_talks.specs.declared.errand.Errand.TheVariants as errands
use Rattle.command_talks.specs.declared.file_talk.FileTalk.{FileTalk}
use Rattle.command_talks.specs.declared.file_talk.FileTalk.TheVariants.{Seeks, Reaches, LooksUp, ReadsList, Lists, Changes, Reads, Counts, Appends, Mails, Opens, Adds, Copies, Closes}
use Rattle.command_talks.specs.declared.file_talk.Opening.{Opening}
use Rattle.command_talks.specs.declared.file_talk.Opening.TheVariants.{Lock, Length, Map}
use Rattle.command_talks.specs.declared.file_talk.FileTurn.{FileTurn}
use Rattle.command_talks.specs.declared.file_talk.FileTurn.TheVariants.{Goes, Comes}
use Rattle.command_talks.specs.declared.outcome.Outcome.{Outcome}
use Rattle.command_talks.specs.declared.outcome.Outcome.TheVariants.{Came, Streamed, Written}

-- what a machine of a name asks where it stands
abbrev pub asked_at : {S : Type 0} → (S → Option Op) → Option S → Option Op
asked_at asks None = None
asked_at asks (Some state) = asks state

-- what a machine of a file asks, by what is left of its dialogue
abbrev pub op_left : {R : Type 0} → Option (DialogueOf R) → Option Op
op_left None = None
op_left (Some d) = asked d

-- so a stream
abbrev pub stream_asks : Option Streaming → Option Op
stream_asks m = op_left (rest m)

-- and a machine of a mailbox
abbrev pub mail_asks : Option Mailing → Option Op
mail_asks m = op_left (box_states.rest m)

-- what opens the source of a copy
abbrev pub opening_op : ObjectName → Opening → Op
opening_op u Lock = ops.Lock u modes.Read
opening_op u Length = ops.Length u
opening_op u Map = ops.Map u

-- what a machine asks where it stands
abbrev pub file_asks : FileTalk → Option Op
file_asks (Seeks walk errand guard) = asked_at walking_asks walk
file_asks (Reaches m errand guard) = asked_at by_path_asks m
file_asks (LooksUp m p) = stream_asks m
file_asks (ReadsList m p) = stream_asks m
file_asks (Lists m) = asked_at listing_asks m
file_asks (Changes m) = asked_at changing_asks m
file_asks (Reads m) = stream_asks m
file_asks (Counts m) = stream_asks m
file_asks (Appends m) = stream_asks m
file_asks (Mails m) = mail_asks m
file_asks (Opens s stage target) = Some (opening_op s.uid stage)
file_asks (Adds s m) = asked_at changing_asks m
file_asks (Copies s m) = stream_asks m
file_asks (Closes s outcome) = Some (close_op s)

-- what may be told to it
abbrev pub FitsOp : Op → Option Reply → Type 0
FitsOp op None = ⊥
FitsOp op (Some reply) = Fits op reply

abbrev pub MayHearFile : FileTalk → Option Reply → Type 0
MayHearFile (Seeks walk errand guard) last = IsSome walk × FitsStood walking_asks walk last
MayHearFile (Reaches m errand guard) last = IsSome m × FitsStood by_path_asks m last
MayHearFile (LooksUp m p) last = MayHear (rest m) last
MayHearFile (ReadsList m p) last = MayHear (rest m) last
MayHearFile (Lists m) last = IsSome m × FitsStood listing_asks m last
MayHearFile (Changes m) last = IsSome m × FitsStood changing_asks m last
MayHearFile (Reads m) last = MayHear (rest m) last
MayHearFile (Counts m) last = MayHear (rest m) last
MayHearFile (Appends m) last = MayHear (rest m) last
MayHearFile (Mails m) last = boxes.MayHear (box_states.rest m) last
MayHearFile (Opens s stage target) last = FitsOp (opening_op s.uid stage) last
MayHearFile (Adds s m) last = IsSome m × FitsStood changing_asks m last
MayHearFile (Copies s m) last = MayHear (rest m) last
MayHearFile (Closes s outcome) last = FitsOp (close_op s) last

-- the source is closed; behind a refusal that is the outcome
abbrev pub closes : Sourced → Option Outcome → FileTurn
closes s outcome = Goes (Closes s outcome) (close_op s)

-- a stream has come to this, which is the command's result; behind a copy of bytes the source is closed first
abbrev pub copied : StreamResult → Option Outcome
copied results.Fine = None
copied result = Some (Streamed result)

abbrev pub over_turn : FileTalk → StreamResult → FileTurn
over_turn (Copies s m) result = closes s (copied result)
over_turn talk result = Comes (Streamed result)

-- a machine whose stream says this goes on, or has come to its end
abbrev pub stream_turn : Option StreamStep → FileTalk → Option FileTurn
stream_turn None talk = None
stream_turn (Some (steps.Do op)) talk = Some (Goes talk op)
stream_turn (Some (steps.Over result)) talk = Some (over_turn talk result)

abbrev pub stream_told : (Option Streaming → FileTalk) → Option Streaming → Option Reply → Option FileTurn
stream_told make m last = stream_turn (said_to (rest m) last) (make (stream_after m last))

-- a machine of a mailbox says this
abbrev pub mail_turn : Option MailStep → FileTalk → Option FileTurn
mail_turn None talk = None
mail_turn (Some (steps.Do op)) talk = Some (Goes talk op)
mail_turn (Some (steps.Over result)) talk = Some (Comes (mail_outcome result))

abbrev pub mail_told : Option Mailing → Option Reply → Option FileTurn
mail_told m last = mail_turn (boxes.said_to (box_states.rest m) last) (Mails (mail_after m last))

-- a machine of a name says this: it goes on, or what it has come to leads on
abbrev pub named_turn : {S : Type 0} → (Option S → FileTalk) → (NameResult → Option FileTurn) → Option NameStep → Option S → Option FileTurn
named_turn make over None m = None
named_turn make over (Some (steps.Do op)) m = Some (Goes (make m) op)
named_turn make over (Some (steps.Over result)) m = over result

abbrev pub named_told : {S : Type 0} → (S → Option Op) → (S → Option Reply → Turn S) → (Option S → FileTalk) → (NameResult → Option FileTurn) → Option S → Option Reply → Option FileTurn
named_told asks after make over m last = named_turn make over (stood_says asks after m last) (stood_after after m last)

-- that is what the command has come to
abbrev pub came_turn : NameResult → Option FileTurn
came_turn result = Some (Comes (Came result))

-- a file is read, counted, appended to, or opened for a copy
abbrev pub read_turn : ObjectName → Option FileTurn
read_turn u = stream_told (λ m. Reads m) (Some (streaming_of u (works.Read 0 (All [])))) None

abbrev pub count_turn : ObjectName → Option FileTurn
count_turn u = stream_told (λ m. Counts m) (Some (streaming_of u (works.Read 0 (Lines 0)))) None

abbrev pub append_turn : List ℕ → ObjectName → Option FileTurn
append_turn text u = stream_told (λ m. Appends m) (Some (streaming_of u (works.Append text (Some Before)))) None

-- a text is put into a mailbox, or the first is taken
abbrev pub put_turn : List ℕ → ObjectName → Option FileTurn
put_turn text u = mail_told (Some (mailing_of u (mail_works.Put text))) None

abbrev pub take_turn : ObjectName → Option FileTurn
take_turn u = mail_told (Some (mailing_of u (mail_works.Take []))) None

abbrev pub copy_turn : Targeted → ObjectName → Option FileTurn
copy_turn target u = Some (Goes (Opens (source_of u) Lock target) (ops.Lock u modes.Read))

-- a directory is listed
abbrev pub list_turn : ObjectName → Option FileTurn
list_turn u = named_told listing_asks listing_after (λ m. Lists m) came_turn (Some (listing_of u)) None

-- a walk came to this, and an object is asked for with which it goes on
abbrev pub arrived : (ObjectName → Option FileTurn) → Arrival → Option FileTurn
arrived begin (There u) = begin u
arrived begin (Else outcome) = Some (Comes outcome)

abbrev pub file_sought : (ObjectName → Option FileTurn) → NameResult → Option FileTurn
file_sought begin result = arrived begin (file_in result)

abbrev pub mail_sought : (ObjectName → Option FileTurn) → NameResult → Option FileTurn
mail_sought begin result = arrived begin (mail_in result)

abbrev pub list_sought : NameResult → Option FileTurn
list_sought result = arrived list_turn (directory_in result)

-- or the directory of a name, which is added to it or removed from it
abbrev pub place_sought : (Within → Option FileTurn) → NameResult → Option FileTurn
place_sought begin (Under p) = begin p
place_sought begin result = came_turn result

abbrev pub add_turn : Intended → Within → Option FileTurn
add_turn what p = named_told changing_asks changing_after (λ m. Changes m) came_turn (Some (changing_of p.dir (changes.Add (addition what.kind what.room what.text p.name)))) None

abbrev pub remove_turn : Within → Option FileTurn
remove_turn p = named_told changing_asks changing_after (λ m. Changes m) came_turn (Some (changing_of p.dir (changes.Remove p.name))) None

-- the target of a copy is added, and then takes the bytes
abbrev pub added_turn : Sourced → NameResult → Option FileTurn
added_turn s (Added v) = stream_told (λ m. Copies s m) (Some (streaming_of v (works.Copy s.at 0 None))) None
added_turn s result = Some (closes s (Some (Came result)))

abbrev pub fill_turn : Sourced → NameResult → Option FileTurn
fill_turn s (Under p) =
    named_told changing_asks changing_after (λ m. Adds s m) (added_turn s) (Some (changing_of p.dir (changes.Add (addition kinds.File (room_for s.at.length) None p.name)))) None
fill_turn s result = Some (closes s (Some (Came result)))

-- what is done behind a walk begins
abbrev pub sought_turn : Errand → NameResult → Option FileTurn
sought_turn errands.Bind = came_turn
sought_turn errands.Enter = came_turn
sought_turn errands.List = list_sought
sought_turn errands.Read = file_sought read_turn
sought_turn errands.Count = file_sought count_turn
sought_turn (errands.Append text) = file_sought (append_turn text)
sought_turn (errands.Put text) = mail_sought (put_turn text)
sought_turn errands.Take = mail_sought take_turn
sought_turn (errands.Copy target) = file_sought (copy_turn target)
sought_turn (errands.Add what) = place_sought (add_turn what)
sought_turn errands.Remove = place_sought remove_turn
sought_turn (errands.Fill s) = fill_turn s

-- a check stops an errand
abbrev pub fails_turn : Errand → Outcome → Option FileTurn
fails_turn (errands.Fill s) outcome = Some (closes s (Some outcome))
fails_turn errand outcome = Some (Comes outcome)

-- an object that is read whole for a check
abbrev pub read_stream : ObjectName → Option Streaming
read_stream u = Some (streaming_of u (works.Read 0 (All [])))

abbrev pub check_stream : (Option Streaming → FileTalk) → (StreamResult → Option FileTurn) → Option StreamStep → Option Streaming → Option FileTurn
check_stream make over None m = None
check_stream make over (Some (steps.Do op)) m = Some (Goes (make m) op)
check_stream make over (Some (steps.Over result)) m = over result

abbrev pub check_told : (Option Streaming → FileTalk) → (StreamResult → Option FileTurn) → Option Streaming → Option Reply → Option FileTurn
check_told make over m last = check_stream make over (said_to (rest m) last) (stream_after m last)

-- what a list says
abbrev pub verdict_turn : Pending → Verdict → Option FileTurn
verdict_turn p Passes = sought_turn p.errand p.come
verdict_turn p IsBad = fails_turn p.errand (Written bad_list)
verdict_turn p (Denies k) = fails_turn p.errand (Written (denied k))

abbrev pub text_turn : Pending → StreamResult → Option FileTurn
text_turn p (results.Bytes text) = verdict_turn p (of_text p.who p.check text)
text_turn p (results.Store reply) = fails_turn p.errand (Came (Store reply))
text_turn p result = fails_turn p.errand (Streamed result)

-- the list that a directory has
abbrev pub kind_turn : Pending → ObjKind → ObjectName → Option FileTurn
kind_turn p kinds.File u = check_told (λ m. ReadsList m p) (text_turn p) (read_stream u) None
kind_turn p kind u = verdict_turn p (of_bad p.check.lenient)

abbrev pub row_turn : Pending → Option DirRow → Option FileTurn
row_turn p None = sought_turn p.errand p.come
row_turn p (Some row) = kind_turn p row.kind row.uid

abbrev pub slots_turn : Pending → Option (List Slot) → Option FileTurn
slots_turn p None = fails_turn p.errand (Came BadDir)
slots_turn p (Some slots) = row_turn p (row_named list_name slots)

abbrev pub directory_turn : Pending → StreamResult → Option FileTurn
directory_turn p (results.Bytes bytes) = slots_turn p (directory_of bytes)
directory_turn p (results.Store reply) = fails_turn p.errand (Came (Store reply))
directory_turn p result = fails_turn p.errand (Streamed result)

-- the directory of a check is read, and then its list
abbrev pub look_turn : Pending → Option FileTurn
look_turn p = check_told (λ m. LooksUp m p) (directory_turn p) (read_stream p.check.dir) None

-- the one way on from each walk: the check, where there is one, and then the errand
abbrev pub checked_turn : Option (Subject × Check) → Errand → NameResult → Option FileTurn
checked_turn None errand result = sought_turn errand result
checked_turn (Some asked) errand result = look_turn (record { who = asked.0; check = asked.1; errand = errand; come = result })

abbrev pub guarded_turn : Option Subject → Errand → NameResult → Option FileTurn
guarded_turn guard errand = λ result. checked_turn (check_for guard (check_of errand result)) errand result

-- a path of an errand is walked along
abbrev pub seek_told : Errand → Option Subject → Option Walking → Option Reply → Option FileTurn
seek_told errand guard m last = named_told walking_asks walking_after (λ m. Seeks m errand guard) (guarded_turn guard errand) m last

abbrev pub reach_told : Errand → Option Subject → Option ByPath → Option Reply → Option FileTurn
reach_told errand guard m last = named_told by_path_asks by_path_after (λ m. Reaches m errand guard) (guarded_turn guard errand) m last

-- the source of a copy is opened, and then the directory of its target's name is looked for. One that is not mapped is closed by its
-- lock alone
abbrev pub begin_fill : Sourced → Targeted → Option FileTurn
begin_fill s target = reach_told (errands.Fill s) target.guard (to_parent_of target.site (route_of target.path) target.dir purposes.Adds) None

abbrev pub lock_turn : Sourced → Targeted → Reply → Option FileTurn
lock_turn s target Fine = Some (Goes (Opens s Length target) (ops.Length s.uid))
lock_turn s target reply = Some (Comes (Came (Store reply)))

abbrev pub length_turn : Sourced → Targeted → Reply → Option FileTurn
length_turn s target (Size n) = Some (Goes (Opens (measured s n) Map target) (ops.Map s.uid))
length_turn s target reply = Some (closes (source_of s.uid) (Some (Came (Store reply))))

abbrev pub map_turn : Sourced → Targeted → Reply → Option FileTurn
map_turn s target (MappedAt address fresh) = begin_fill (mapped s address fresh) target
map_turn s target reply = Some (closes (source_of s.uid) (Some (Came (Store reply))))

abbrev pub open_turn : Sourced → Opening → Targeted → Option Reply → Option FileTurn
open_turn s stage target None = None
open_turn s Lock target (Some reply) = lock_turn s target reply
open_turn s Length target (Some reply) = length_turn s target reply
open_turn s Map target (Some reply) = map_turn s target reply

-- the source is closed, and the first refusal counts
abbrev pub first_outcome : Option Outcome → Reply → Option Outcome
first_outcome None Fine = None
first_outcome None reply = Some (Came (Store reply))
first_outcome (Some outcome) reply = Some outcome

abbrev pub copy_outcome : Option Outcome → Outcome
copy_outcome None = Streamed results.Fine
copy_outcome (Some outcome) = outcome

abbrev pub closed_turn : Bool → Sourced → Option Outcome → FileTurn
closed_turn true s outcome = closes (unmapped s) outcome
closed_turn false s outcome = Comes (copy_outcome outcome)

abbrev pub close_turn : Sourced → Option Outcome → Option Reply → Option FileTurn
close_turn s outcome None = None
close_turn s outcome (Some reply) = Some (closed_turn s.fresh s (first_outcome outcome reply))

-- what a reply makes of a machine, or nothing at its first call: it goes on with an operation, or comes to an outcome.
-- None of one that is over
abbrev pub file_turn : FileTalk → Option Reply → Option FileTurn
file_turn (Seeks walk errand guard) last = seek_told errand guard walk last
file_turn (Reaches m errand guard) last = reach_told errand guard m last
file_turn (LooksUp m p) last = check_told (λ m. LooksUp m p) (directory_turn p) m last
file_turn (ReadsList m p) last = check_told (λ m. ReadsList m p) (text_turn p) m last
file_turn (Lists m) last = named_told listing_asks listing_after (λ m. Lists m) came_turn m last
file_turn (Changes m) last = named_told changing_asks changing_after (λ m. Changes m) came_turn m last
file_turn (Reads m) last = stream_told (λ m. Reads m) m last
file_turn (Counts m) last = stream_told (λ m. Counts m) m last
file_turn (Appends m) last = stream_told (λ m. Appends m) m last
file_turn (Mails m) last = mail_told m last
file_turn (Opens s stage target) last = open_turn s stage target last
file_turn (Adds s m) last = named_told changing_asks changing_after (λ m. Adds s m) (added_turn s) m last
file_turn (Copies s m) last = stream_told (λ m. Copies s m) m last
file_turn (Closes s outcome) last = close_turn s outcome last
