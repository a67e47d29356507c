-- The machine of a command stands where its dialogue does.
use Rattle.std.proofs.Common.{◌≡◌, lit≤, ℕ, Bool, true, false, Option, Some, None, List, [], refl, ap, ◌∙◌, sym, subst, arith}
use Rattle.std.specs.Prelude.{is_some}
use Rattle.uid_names.specs.Names.{ObjectName}
use Rattle.uid_names.specs.Rooms.{IsLength, IsRoom}
use Rattle.uid_names.specs.declared.mode.ObjKind.{ObjKind}
use Rattle.uid_names.specs.declared.mode.ObjKind.TheVariants as kinds
use Rattle.dir_records.specs.Directories.{directory_of, row_named}
use Rattle.dir_records.specs.Records.{Slot}
use Rattle.dir_records.specs.declared.row.DirRow.{DirRow}
use Rattle.dom_history.specs.declared.op.Op.{Op}
use Rattle.dom_history.specs.declared.op.Reply.{Reply}
use Rattle.dom_history.specs.declared.op.Reply.TheVariants.{Fine, Size, At as MappedAt}
use Rattle.dom_history.specs.Fitting.{Fits, is_length_reply, is_map_reply}
use Rattle.dom_history.proofs.Fitting.{size-fits, at-fits}
use Rattle.naming_tree.specs.declared.by_path.ByPath.{ByPath}
use Rattle.naming_tree.specs.declared.changing.Change.TheVariants as changes
use Rattle.naming_tree.specs.declared.purpose.Purpose.TheVariants as purposes
use Rattle.naming_tree.specs.declared.walking.Walking.{Walking}
use Rattle.naming_tree.specs.declared.step.NameResult.{NameResult}
use Rattle.naming_tree.specs.declared.step.NameResult.TheVariants.{Under, Added, BadDir, Store}
use Rattle.naming_tree.specs.declared.step.Within.{Within}
use Rattle.naming_tree.specs.Additions.{add_at, IsText as IsLinkText}
use Rattle.naming_tree.specs.ByPaths.{to_parent_of, by_path_after, by_path_asks}
use Rattle.naming_tree.specs.Changing.{changing_of, changing_after, changing_asks}
use Rattle.naming_tree.specs.Dialogues.{NameStep}
use Rattle.naming_tree.specs.Dialogues as names
use Rattle.naming_tree.specs.ListsAt.{listing_of, listing_after, listing_asks}
use Rattle.naming_tree.specs.NamePaths.{addition, listing_at, to_parent}
use Rattle.naming_tree.specs.Removals.{drop_at}
use Rattle.naming_tree.specs.Sayings.{SaysAs}
use Rattle.dir_records.specs.Paths.{route_of}
use Rattle.naming_tree.specs.Turns.{FitsAsked, Turn}
use Rattle.naming_tree.specs.Walking.{walking_after, walking_asks}
use Rattle.naming_tree.proofs.ByPathsLeft.{parent_heard}
use Rattle.naming_tree.proofs.ChangingsLeft.{addition_says, removal_says}
use Rattle.naming_tree.proofs.ListsLeft.{list_at_heard}
use Rattle.mapped_streams.specs.declared.gathered.Gathered.TheVariants.{All, Lines}
use Rattle.mapped_streams.specs.declared.step.StreamResult.{StreamResult}
use Rattle.mapped_streams.specs.declared.step.StreamResult.TheVariants as results
use Rattle.mapped_streams.specs.Dialogues.{StreamStep}
use Rattle.mapped_streams.specs.declared.streaming.Streaming.{Streaming}
use Rattle.mapped_streams.specs.declared.work.Side.TheVariants.{Before}
use Rattle.mapped_streams.specs.declared.work.Work.TheVariants as works
use Rattle.mapped_streams.specs.Dialogues as streams
use Rattle.mapped_streams.specs.Pages.{IsMapped}
use Rattle.mapped_streams.specs.States.{left, streaming_of, IsStreaming}
use Rattle.mapped_streams.specs.Streams.{read_all, count_lines, append, copy}
use Rattle.mapped_streams.specs.Works.{IsText}
use Rattle.mapped_streams.proofs.Turning.{IsOn}
use Rattle.mail_box.specs.Boxes as mail_texts
use Rattle.mail_box.specs.Dialogues as boxes
use Rattle.mail_box.specs.Mails.{put_mail, take_mail}
use Rattle.mail_box.specs.States as box_states
use Rattle.mail_box.specs.declared.mailing.Mailing.{Mailing}
use Rattle.mail_box.specs.declared.work.MailWork.TheVariants as mail_works
use Rattle.mail_box.proofs.Turning as mail_turns
use Rattle.command_talks.specs.Arriving.{file_in, mail_in, directory_in}
use Rattle.command_talks.specs.Checks.{bad_list, check_for, check_of, checked_by, denied, list_name, of_bad, of_text, on_directory, on_kind, on_row, on_slots, on_text, on_verdict}
use Rattle.command_talks.specs.Dialogues.{Dialogue, Ends, Asks, asked, told, led_on, came, streamed, mailed, closing}
use Rattle.command_talks.specs.FileTalks.{file_asks, file_turn, over_turn, stream_turn, stream_told, named_turn, named_told, closes, copied, came_turn, read_turn, count_turn, append_turn, put_turn, take_turn, copy_turn, list_turn, mail_told, mail_turn, mail_sought, arrived, file_sought, place_sought, add_turn, remove_turn, added_turn, fill_turn, sought_turn, fails_turn, read_stream, check_stream, check_told, verdict_turn, text_turn, kind_turn, row_turn, slots_turn, directory_turn, look_turn, checked_turn, guarded_turn, seek_told, reach_told, begin_fill, lock_turn, length_turn, map_turn, open_turn, first_outcome, closed_turn, close_turn, opening_op}
use Rattle.command_talks.specs.Files.{on_arrival, on_file, on_mail, on_place, room_for, shutting, on_copied, on_added, filling, copy_open, map_source, measure_source, copy_from, behind, fails_of, guarded}
use Rattle.command_talks.specs.Intentions.{Intended}
use Rattle.command_talks.specs.Sources.{Sourced, Targeted, source_of, mapped, unmapped, closers, close_op}
use Rattle.command_talks.specs.declared.arriving.Arrival.{Arrival}
use Rattle.command_talks.specs.declared.arriving.Arrival.TheVariants.{There, Else}
use Rattle.command_talks.specs.declared.check.Check.{Check}
use Rattle.command_talks.specs.declared.check.Subject.{Subject}
use Rattle.command_talks.specs.declared.check.Verdict.{Verdict}
use Rattle.command_talks.specs.declared.check.Verdict.TheVariants.{Passes, IsBad, Denies}
use Rattle.command_talks.specs.declared.errand.Errand.{Errand}
use Rattle.command_talks.specs.declared.file_talk.Pending.{Pending}
use Rattle.command_talks.specs.declared.errand.Errand.TheVariants as errands
use Rattle.command_talks.specs.declared.file_talk.FileTalk.{FileTalk}
use Rattle.command_talks.specs.declared.file_talk.FileTalk.TheVariants.{Seeks, Reaches, LooksUp, ReadsList, Lists, Changes, Reads, Counts, Appends, Mails, Opens, Adds, Copies, Closes}
use Rattle.command_talks.specs.declared.file_talk.FileTurn.{FileTurn}
use Rattle.command_talks.specs.declared.file_talk.FileTurn.TheVariants.{Goes, Comes}
use Rattle.command_talks.specs.declared.file_talk.Opening.{Opening}
use Rattle.command_talks.specs.declared.file_talk.Opening.TheVariants.{Lock, Length, Map}
use Rattle.command_talks.specs.declared.outcome.Outcome.{Outcome}
use Rattle.command_talks.specs.declared.outcome.Outcome.TheVariants.{Came, Streamed, Written}
use Rattle.command_talks.proofs.Boxes.{mail_asked, mail_begun, mail_told_on}
use Rattle.command_talks.proofs.Machines.{NameOn, name_begun, name_told, name_asked, stream_begun, stream_told_on, stream_asked}

-- a machine of a name that asks, where what follows its result is this
pub record NameSim {S : Type 0} (asks : S → Option Op) (go : S → Option Reply → Turn S) (after : NameResult → Dialogue) (m : Option S) (d : Dialogue) : Type 0 where
  pub op : Op
  pub next : Reply → names.Dialogue
  pub on : NameOn asks go m (names.Asks op next)
  pub is : d ≡ Asks op (λ reply. led_on (next reply) after)

-- and one of a stream
pub record StreamSim (after : StreamResult → Dialogue) (m : Option Streaming) (d : Dialogue) : Type 0 where
  pub op : Op
  pub next : Reply → streams.Dialogue
  pub on : IsOn m (names.Asks op next)
  pub is : d ≡ Asks op (λ reply. led_on (next reply) after)

-- and one of a mailbox
pub record MailSim (m : Option Mailing) (d : Dialogue) : Type 0 where
  pub op : Op
  pub next : Reply → boxes.Dialogue
  pub on : mail_turns.IsOn m (names.Asks op next)
  pub is : d ≡ Asks op (λ reply. led_on (next reply) mailed)

-- an errand whose parts are such
abbrev pub IsErrand : Errand → Type 0
IsErrand (errands.Append text) = IsText text
IsErrand (errands.Put text) = mail_texts.IsText text
IsErrand (errands.Copy target) = is_some (route_of target.path) ≡ true
IsErrand (errands.Add what) = IsRoom what.room × IsLinkText what.kind what.text
IsErrand (errands.Fill s) = IsMapped s.at
IsErrand _ = Unit {0}

-- what is left of a copy whose source is opened, or closed
abbrev pub open_left : Sourced → Opening → Targeted → Dialogue
open_left s Lock target = copy_from target s.uid
open_left s Length target = measure_source target s.uid
open_left s Map target = map_source target s.uid s.at.length

abbrev pub close_left : Sourced → Option Outcome → Dialogue
close_left s None = shutting (closers s) (Streamed results.Fine)
close_left s (Some outcome) = closing (closers s) outcome

pub record OpenSim (s : Sourced) (stage : Opening) (target : Targeted) (d : Dialogue) : Type 0 where
  pub path : is_some (route_of target.path) ≡ true
  pub long : IsLength s.at.length
  pub is : d ≡ open_left s stage target

-- a machine stands where a dialogue does that asks
abbrev pub FileSim : FileTalk → Dialogue → Type 0
FileSim (Seeks walk errand guard) d = IsErrand errand × NameSim walking_asks walking_after (guarded guard errand) walk d
FileSim (Reaches m errand guard) d = IsErrand errand × NameSim by_path_asks by_path_after (guarded guard errand) m d
FileSim (LooksUp m p) d = IsErrand p.errand × StreamSim (on_directory p.who p.check (fails_of p.errand) (behind p.errand p.come)) m d
FileSim (ReadsList m p) d = IsErrand p.errand × StreamSim (on_text p.who p.check (fails_of p.errand) (behind p.errand p.come)) m d
FileSim (Lists m) d = NameSim listing_asks listing_after came m d
FileSim (Changes m) d = NameSim changing_asks changing_after came m d
FileSim (Reads m) d = StreamSim streamed m d
FileSim (Counts m) d = StreamSim streamed m d
FileSim (Appends m) d = StreamSim streamed m d
FileSim (Mails m) d = MailSim m d
FileSim (Opens s stage target) d = OpenSim s stage target d
FileSim (Adds s m) d = IsMapped s.at × NameSim changing_asks changing_after (on_added (closers s) s.at) m d
FileSim (Copies s m) d = StreamSim (on_copied (closers s)) m d
FileSim (Closes s outcome) d = d ≡ close_left s outcome

-- it goes on so, or comes to the outcome
abbrev pub TurnOn : Option FileTurn → Dialogue → Type 0
TurnOn None d = ⊥
TurnOn (Some (Goes talk op)) d = (asked d ≡ Some op) × FileSim talk d
TurnOn (Some (Comes outcome)) d = d ≡ Ends outcome

-- the source is closed
close_asks_if : (fresh : Bool) (s : Sourced) (outcome : Option Outcome) → asked (close_left (record { uid = s.uid; at = s.at; fresh = fresh }) outcome) ≡ Some (close_op (record { uid = s.uid; at = s.at; fresh = fresh }))
close_asks_if true s None = refl
close_asks_if true s (Some outcome) = refl
close_asks_if false s None = refl
close_asks_if false s (Some outcome) = refl

close_asks : (s : Sourced) (outcome : Option Outcome) → asked (close_left s outcome) ≡ Some (close_op s)
close_asks s outcome = close_asks_if s.fresh s outcome

closes_on : (s : Sourced) (outcome : Option Outcome) → TurnOn (Some (closes s outcome)) (close_left s outcome)
closes_on s outcome = (close_asks s outcome, refl)

-- a machine of a name, by what its result leads to
module _ {S : Type 0} (asks : S → Option Op) (go : S → Option Reply → Turn S) (make : Option S → FileTalk) (over : NameResult → Option FileTurn) (further : NameResult → Dialogue)
    (same : (m : Option S) (d : Dialogue) → NameSim asks go further m d → FileSim (make m) d) (ends : (result : NameResult) → TurnOn (over result) (further result)) where
  name_goes : (left : names.Dialogue) (step : Option NameStep) (m : Option S) → step ≡ Some (names.says left) → NameOn asks go m left → TurnOn (named_turn make over step m) (led_on left further)
  name_goes (names.Ends result) step m e on = subst (λ (x : Option NameStep). TurnOn (named_turn make over x m) (further result)) (sym e) (ends result)
  name_goes (names.Asks op next) step m e on =
      let d = Asks op (λ reply. led_on (next reply) further) in
      subst (λ (x : Option NameStep). TurnOn (named_turn make over x m) d) (sym e) (refl, same m d (record { op = op; next = next; on = on; is = refl }))

  pub name_starts : (made : Option S) (whole : names.Dialogue) → SaysAs asks go made whole → TurnOn (named_told asks go make over made None) (led_on whole further)
  name_starts made whole tells = let begun = name_begun asks go made whole tells in name_goes whole _ _ begun.0 begun.1

  name_next : (m : Option S) (d : Dialogue) (reply : Reply) → NameSim asks go further m d → FitsAsked (asked d) (Some reply) → TurnOn (named_told asks go make over m (Some reply)) (told d reply)
  name_next m d reply h fits =
      let fitting : Fits h.op reply = subst (λ (x : Dialogue). FitsAsked (asked x) (Some reply)) h.is fits in
      let next = name_told asks go m (names.Asks h.op h.next) reply h.on fitting in
      subst (λ (x : Dialogue). TurnOn (named_told asks go make over m (Some reply)) (told x reply)) (sym h.is) (name_goes (h.next reply) _ _ next.0 next.1)

-- a stream, by what its result leads to
module _ (further : StreamResult → Dialogue) (make : Option Streaming → FileTalk) (same : (m : Option Streaming) (d : Dialogue) → StreamSim further m d → FileSim (make m) d)
    (over : (m : Option Streaming) (result : StreamResult) → TurnOn (Some (over_turn (make m) result)) (further result)) where
  stream_goes : (left : streams.Dialogue) (step : Option StreamStep) (m : Option Streaming) → step ≡ Some (names.says left) → IsOn m left → TurnOn (stream_turn step (make m)) (led_on left further)
  stream_goes (names.Ends result) step m e on = subst (λ (x : Option StreamStep). TurnOn (stream_turn x (make m)) (further result)) (sym e) (over m result)
  stream_goes (names.Asks op next) step m e on =
      let d = Asks op (λ reply. led_on (next reply) further) in
      subst (λ (x : Option StreamStep). TurnOn (stream_turn x (make m)) d) (sym e) (refl, same m d (record { op = op; next = next; on = on; is = refl }))

  stream_starts : (s : Streaming) → IsStreaming s → TurnOn (stream_told make (Some s) None) (led_on (left s) further)
  stream_starts s h = let begun = stream_begun s h in stream_goes (left s) _ _ begun.0 begun.1

  stream_next : (m : Option Streaming) (d : Dialogue) (reply : Reply) → StreamSim further m d → FitsAsked (asked d) (Some reply) → TurnOn (stream_told make m (Some reply)) (told d reply)
  stream_next m d reply h fits =
      let fitting : Fits h.op reply = subst (λ (x : Dialogue). FitsAsked (asked x) (Some reply)) h.is fits in
      let next = stream_told_on m (names.Asks h.op h.next) reply h.on fitting in
      subst (λ (x : Dialogue). TurnOn (stream_told make m (Some reply)) (told x reply)) (sym h.is) (stream_goes (h.next reply) _ _ next.0 next.1)

-- a machine of a mailbox
mail_goes : (left : boxes.Dialogue) (step : Option boxes.MailStep) (m : Option Mailing) → step ≡ Some (names.says left) → mail_turns.IsOn m left → TurnOn (mail_turn step (Mails m)) (led_on left mailed)
mail_goes (names.Ends result) step m e on = subst (λ (x : Option boxes.MailStep). TurnOn (mail_turn x (Mails m)) (mailed result)) (sym e) refl
mail_goes (names.Asks op next) step m e on =
    let d = Asks op (λ reply. led_on (next reply) mailed) in
    subst (λ (x : Option boxes.MailStep). TurnOn (mail_turn x (Mails m)) d) (sym e) (refl, record { op = op; next = next; on = on; is = refl })

mail_starts : (m : Mailing) → box_states.IsMailing m → TurnOn (mail_told (Some m) None) (led_on (box_states.left m) mailed)
mail_starts m h = let begun = mail_begun m h in mail_goes (box_states.left m) _ _ begun.0 begun.1

mail_next : (m : Option Mailing) (d : Dialogue) (reply : Reply) → MailSim m d → FitsAsked (asked d) (Some reply) → TurnOn (mail_told m (Some reply)) (told d reply)
mail_next m d reply h fits =
    let fitting : Fits h.op reply = subst (λ (x : Dialogue). FitsAsked (asked x) (Some reply)) h.is fits in
    let next = mail_told_on m (names.Asks h.op h.next) reply h.on fitting in
    subst (λ (x : Dialogue). TurnOn (mail_told m (Some reply)) (told x reply)) (sym h.is) (mail_goes (h.next reply) _ _ next.0 next.1)

-- a stream of a check, by what its result leads to
module _ (further : StreamResult → Dialogue) (make : Option Streaming → FileTalk) (over : StreamResult → Option FileTurn) (same : (m : Option Streaming) (d : Dialogue) → StreamSim further m d → FileSim (make m) d)
    (ends : (result : StreamResult) → TurnOn (over result) (further result)) where
  check_goes : (left : streams.Dialogue) (step : Option StreamStep) (m : Option Streaming) → step ≡ Some (names.says left) → IsOn m left → TurnOn (check_stream make over step m) (led_on left further)
  check_goes (names.Ends result) step m e on = subst (λ (x : Option StreamStep). TurnOn (check_stream make over x m) (further result)) (sym e) (ends result)
  check_goes (names.Asks op next) step m e on =
      let d = Asks op (λ reply. led_on (next reply) further) in
      subst (λ (x : Option StreamStep). TurnOn (check_stream make over x m) d) (sym e) (refl, same m d (record { op = op; next = next; on = on; is = refl }))

  check_next : (m : Option Streaming) (d : Dialogue) (reply : Reply) → StreamSim further m d → FitsAsked (asked d) (Some reply) → TurnOn (check_told make over m (Some reply)) (told d reply)
  check_next m d reply h fits =
      let fitting : Fits h.op reply = subst (λ (x : Dialogue). FitsAsked (asked x) (Some reply)) h.is fits in
      let next = stream_told_on m (names.Asks h.op h.next) reply h.on fitting in
      subst (λ (x : Dialogue). TurnOn (check_told make over m (Some reply)) (told x reply)) (sym h.is) (check_goes (h.next reply) _ _ next.0 next.1)

  -- an object that is read whole for one
  check_starts : (u : ObjectName) → TurnOn (check_told make over (read_stream u) None) (led_on (read_all u) further)
  check_starts u =
      let s = streaming_of u (works.Read 0 (All [])) in
      let begun = stream_begun s (record { work = tt; stage = tt }) in
      check_goes (left s) _ _ begun.0 begun.1

-- behind a copy of bytes the source is closed
copied_on : (s : Sourced) (result : StreamResult) → TurnOn (Some (closes s (copied result))) (on_copied (closers s) result)
copied_on s results.Fine = closes_on s None
copied_on s result = closes_on s (Some (Streamed result))

copy_starts : (s : Sourced) (v : ObjectName) → IsMapped s.at → TurnOn (stream_told (λ m. Copies s m) (Some (streaming_of v (works.Copy s.at 0 None))) None) (led_on (copy s.at v) (on_copied (closers s)))
copy_starts s v m = stream_starts (on_copied (closers s)) (λ m. Copies s m) (λ m d same. same) (λ m result. copied_on s result) (streaming_of v (works.Copy s.at 0 None)) (record { work = (m, tt); stage = tt })

-- the target of a copy
added_on : (s : Sourced) (result : NameResult) → IsMapped s.at → TurnOn (added_turn s result) (on_added (closers s) s.at result)
added_on s (Added v) at = copy_starts s v at
added_on s result at = closes_on s (Some (Came result))

-- the room of a copy is one
pub room_is_one : (n : ℕ) → IsLength n → IsRoom (room_for n)
room_is_one n long = (omega arith, omega (arith, long))

fill_on : (s : Sourced) (result : NameResult) → IsMapped s.at → TurnOn (fill_turn s result) (filling s result)
fill_on s (Under p) at =
    let a = addition kinds.File (room_for s.at.length) None p.name in
    name_starts changing_asks changing_after (λ m. Adds s m) (added_turn s) (on_added (closers s) s.at) (λ m d sim. (at, sim)) (λ result. added_on s result at)
    (Some (changing_of p.dir (changes.Add a))) (add_at p.dir a) (addition_says p.dir a (record { room = room_is_one s.at.length at.long; text = tt }))
fill_on s result at = closes_on s (Some (Came result))

-- the source is opened
lock_on : (s : Sourced) (target : Targeted) (reply : Reply) → is_some (route_of target.path) ≡ true → IsLength s.at.length → TurnOn (lock_turn s target reply) (told (open_left s Lock target) reply)
lock_on s target Fine path long = (refl, record { path = path; long = long; is = refl })
lock_on s target reply path long = refl

length_on : (s : Sourced) (target : Targeted) (reply : Reply) → is_some (route_of target.path) ≡ true → is_length_reply reply ≡ true → TurnOn (length_turn s target reply) (told (open_left s Length target) reply)
length_on s target (Size n) path fits = (refl, record { path = path; long = size-fits n fits; is = refl })
length_on s target reply path fits = closes_on (source_of s.uid) (Some (Came (Store reply)))

-- and closed
closed_on : (fresh : Bool) (s : Sourced) (outcome : Option Outcome) (reply : Reply)
    → TurnOn (Some (closed_turn fresh (record { uid = s.uid; at = s.at; fresh = fresh }) (first_outcome outcome reply))) (told (close_left (record { uid = s.uid; at = s.at; fresh = fresh }) outcome) reply)
closed_on true s None Fine = closes_on (unmapped s) None
closed_on true s None reply = closes_on (unmapped s) (Some (Came (Store reply)))
closed_on true s (Some outcome) reply = closes_on (unmapped s) (Some outcome)
closed_on false s None Fine = refl
closed_on false s None reply = refl
closed_on false s (Some outcome) reply = refl

close_next : (s : Sourced) (outcome : Option Outcome) (d : Dialogue) (reply : Reply) → d ≡ close_left s outcome → TurnOn (close_turn s outcome (Some reply)) (told d reply)
close_next s outcome d reply is = subst (λ (x : Dialogue). TurnOn (close_turn s outcome (Some reply)) (told x reply)) (sym is) (closed_on s.fresh s outcome reply)

-- a walk has led to an object such as is asked for, or to something else
arrived_on : (begin : ObjectName → Option FileTurn) (further : ObjectName → Dialogue) → ((u : ObjectName) → TurnOn (begin u) (further u)) → (found : Arrival) → TurnOn (arrived begin found) (on_arrival further found)
arrived_on begin further each (There u) = each u
arrived_on begin further each (Else outcome) = refl

file_on : (begin : ObjectName → Option FileTurn) (further : ObjectName → Dialogue) → ((u : ObjectName) → TurnOn (begin u) (further u)) → (result : NameResult) → TurnOn (file_sought begin result) (on_file further result)
file_on begin further each result = arrived_on begin further each (file_in result)

mail_found_on : (begin : ObjectName → Option FileTurn) (further : ObjectName → Dialogue) → ((u : ObjectName) → TurnOn (begin u) (further u)) → (result : NameResult) → TurnOn (mail_sought begin result) (on_mail further result)
mail_found_on begin further each result = arrived_on begin further each (mail_in result)

-- or to a directory of a name
place_on : (begin : Within → Option FileTurn) (further : Within → Dialogue) → ((p : Within) → TurnOn (begin p) (further p)) → (result : NameResult) → TurnOn (place_sought begin result) (on_place further result)
place_on begin further each (Under p) = each p
place_on begin further each result = refl

-- what is done there begins
reads_on : (u : ObjectName) → TurnOn (read_turn u) (led_on (read_all u) streamed)
reads_on u = stream_starts streamed (λ m. Reads m) (λ m d same. same) (λ m result. refl) (streaming_of u (works.Read 0 (All []))) (record { work = tt; stage = tt })

counts_on : (u : ObjectName) → TurnOn (count_turn u) (led_on (count_lines u) streamed)
counts_on u = stream_starts streamed (λ m. Counts m) (λ m d same. same) (λ m result. refl) (streaming_of u (works.Read 0 (Lines 0))) (record { work = omega arith; stage = tt })

appends_on : (text : List ℕ) → IsText text → (u : ObjectName) → TurnOn (append_turn text u) (led_on (append u text) streamed)
appends_on text h u = stream_starts streamed (λ m. Appends m) (λ m d same. same) (λ m result. refl) (streaming_of u (works.Append text (Some Before))) (record { work = h; stage = tt })

puts_on : (text : List ℕ) → mail_texts.IsText text → (u : ObjectName) → TurnOn (put_turn text u) (led_on (put_mail u text) mailed)
puts_on text h u = mail_starts (box_states.mailing_of u (mail_works.Put text)) (record { work = h; stage = tt })

takes_on : (u : ObjectName) → TurnOn (take_turn u) (led_on (take_mail u) mailed)
takes_on u = mail_starts (box_states.mailing_of u (mail_works.Take [])) (record { work = tt; stage = tt })

copies_on : (target : Targeted) → is_some (route_of target.path) ≡ true → (u : ObjectName) → TurnOn (copy_turn target u) (copy_from target u)
copies_on target h u = (refl, record { path = h; long = lit≤ tt; is = refl })

lists_on : (u : ObjectName) → TurnOn (list_turn u) (led_on (listing_at u) came)
lists_on u = name_starts listing_asks listing_after (λ m. Lists m) came_turn came (λ m d sim. sim) (λ result. refl) (Some (listing_of u)) (listing_at u) (list_at_heard u)

add_on : (what : Intended) → IsRoom what.room → IsLinkText what.kind what.text → (p : Within) → TurnOn (add_turn what p) (led_on (add_at p.dir (addition what.kind what.room what.text p.name)) came)
add_on what room text p =
    let a = addition what.kind what.room what.text p.name in
    name_starts changing_asks changing_after (λ m. Changes m) came_turn came (λ m d sim. sim) (λ result. refl) (Some (changing_of p.dir (changes.Add a))) (add_at p.dir a)
    (addition_says p.dir a (record { room = room; text = text }))

remove_on : (p : Within) → TurnOn (remove_turn p) (led_on (drop_at p.dir p.name) came)
remove_on p = name_starts changing_asks changing_after (λ m. Changes m) came_turn came (λ m d sim. sim) (λ result. refl) (Some (changing_of p.dir (changes.Remove p.name))) (drop_at p.dir p.name) (removal_says p.dir p.name)

-- the way on from each walk
sought_on : (errand : Errand) → IsErrand errand → (result : NameResult) → TurnOn (sought_turn errand result) (behind errand result)
sought_on errands.Bind h result = refl
sought_on errands.Enter h result = refl
sought_on errands.List h result = arrived_on list_turn (λ u. led_on (listing_at u) came) lists_on (directory_in result)
sought_on errands.Read h result = file_on read_turn (λ u. led_on (read_all u) streamed) reads_on result
sought_on errands.Count h result = file_on count_turn (λ u. led_on (count_lines u) streamed) counts_on result
sought_on (errands.Append text) h result = file_on (append_turn text) (λ u. led_on (append u text) streamed) (appends_on text h) result
sought_on (errands.Put text) h result = mail_found_on (put_turn text) (λ u. led_on (put_mail u text) mailed) (puts_on text h) result
sought_on errands.Take h result = mail_found_on take_turn (λ u. led_on (take_mail u) mailed) takes_on result
sought_on (errands.Copy target) h result = file_on (copy_turn target) (copy_from target) (copies_on target h) result
sought_on (errands.Add what) h result = place_on (add_turn what) (λ p. led_on (add_at p.dir (addition what.kind what.room what.text p.name)) came) (add_on what h.0 h.1) result
sought_on errands.Remove h result = place_on remove_turn (λ p. led_on (drop_at p.dir p.name) came) remove_on result
sought_on (errands.Fill s) h result = fill_on s result h

-- a check that stops an errand
fails_on : (errand : Errand) (outcome : Outcome) → TurnOn (fails_turn errand outcome) (fails_of errand outcome)
fails_on errands.Bind outcome = refl
fails_on errands.Enter outcome = refl
fails_on errands.List outcome = refl
fails_on errands.Read outcome = refl
fails_on errands.Count outcome = refl
fails_on (errands.Append text) outcome = refl
fails_on (errands.Put text) outcome = refl
fails_on errands.Take outcome = refl
fails_on (errands.Copy target) outcome = refl
fails_on (errands.Add what) outcome = refl
fails_on errands.Remove outcome = refl
fails_on (errands.Fill s) outcome = closes_on s (Some outcome)

module _ (p : Pending) (h : IsErrand p.errand) where
  verdict_on : (verdict : Verdict) → TurnOn (verdict_turn p verdict) (on_verdict (fails_of p.errand) (behind p.errand p.come) verdict)
  verdict_on Passes = sought_on p.errand h p.come
  verdict_on IsBad = fails_on p.errand (Written bad_list)
  verdict_on (Denies k) = fails_on p.errand (Written (denied k))

  text_on : (result : StreamResult) → TurnOn (text_turn p result) (on_text p.who p.check (fails_of p.errand) (behind p.errand p.come) result)
  text_on (results.Bytes text) = verdict_on (of_text p.who p.check text)
  text_on (results.Store reply) = fails_on p.errand (Came (Store reply))
  text_on result = fails_on p.errand (Streamed result)

  list_on : (kind : ObjKind) (u : ObjectName) → TurnOn (kind_turn p kind u) (on_kind p.who p.check (fails_of p.errand) (behind p.errand p.come) kind u)
  list_on kinds.File u = check_starts (on_text p.who p.check (fails_of p.errand) (behind p.errand p.come)) (λ m. ReadsList m p) (text_turn p) (λ m d sim. (h, sim)) text_on u
  list_on kind u = verdict_on (of_bad p.check.lenient)

  row_on : (row : Option DirRow) → TurnOn (row_turn p row) (on_row p.who p.check (fails_of p.errand) (behind p.errand p.come) row)
  row_on None = sought_on p.errand h p.come
  row_on (Some row) = list_on row.kind row.uid

  slots_on : (slots : Option (List Slot)) → TurnOn (slots_turn p slots) (on_slots p.who p.check (fails_of p.errand) (behind p.errand p.come) slots)
  slots_on None = fails_on p.errand (Came BadDir)
  slots_on (Some slots) = row_on (row_named list_name slots)

  directory_on : (result : StreamResult) → TurnOn (directory_turn p result) (on_directory p.who p.check (fails_of p.errand) (behind p.errand p.come) result)
  directory_on (results.Bytes bytes) = slots_on (directory_of bytes)
  directory_on (results.Store reply) = fails_on p.errand (Came (Store reply))
  directory_on result = fails_on p.errand (Streamed result)

  look_on : TurnOn (look_turn p) (led_on (read_all p.check.dir) (on_directory p.who p.check (fails_of p.errand) (behind p.errand p.come)))
  look_on = check_starts (on_directory p.who p.check (fails_of p.errand) (behind p.errand p.come)) (λ m. LooksUp m p) (directory_turn p) (λ m d sim. (h, sim)) directory_on p.check.dir

-- the check of an errand, and the errand
checked_on : (errand : Errand) → IsErrand errand → (result : NameResult) (asked : Option (Subject × Check)) → TurnOn (checked_turn asked errand result) (checked_by asked (fails_of errand) (behind errand result))
checked_on errand h result None = sought_on errand h result
checked_on errand h result (Some (who, check)) = look_on (record { who = who; check = check; errand = errand; come = result }) h

guarded_on : (guard : Option Subject) (errand : Errand) → IsErrand errand → (result : NameResult) → TurnOn (guarded_turn guard errand result) (guarded guard errand result)
guarded_on guard errand h result = checked_on errand h result (check_for guard (check_of errand result))

-- a walk begins
pub seek_starts : (errand : Errand) (guard : Option Subject) (made : Option Walking) (whole : names.Dialogue) → IsErrand errand → SaysAs walking_asks walking_after made whole → TurnOn (seek_told errand guard made None) (led_on whole (guarded guard errand))
seek_starts errand guard made whole h tells =
    name_starts walking_asks walking_after (λ m. Seeks m errand guard) (guarded_turn guard errand) (guarded guard errand) (λ m d sim. (h, sim)) (guarded_on guard errand h) made whole tells

pub reach_starts : (errand : Errand) (guard : Option Subject) (made : Option ByPath) (whole : names.Dialogue) → IsErrand errand → SaysAs by_path_asks by_path_after made whole → TurnOn (reach_told errand guard made None) (led_on whole (guarded guard errand))
reach_starts errand guard made whole h tells =
    name_starts by_path_asks by_path_after (λ m. Reaches m errand guard) (guarded_turn guard errand) (guarded guard errand) (λ m d sim. (h, sim)) (guarded_on guard errand h) made whole tells

-- the source of a copy is open
fill_starts : (s : Sourced) (target : Targeted) → is_some (route_of target.path) ≡ true → IsMapped s.at → TurnOn (begin_fill s target) (copy_open target s)
fill_starts s target path at =
    reach_starts (errands.Fill s) target.guard (to_parent_of target.site (route_of target.path) target.dir purposes.Adds) (to_parent target.site target.path target.dir purposes.Adds) at
    (parent_heard target.site target.path target.dir purposes.Adds path)

map_on : (s : Sourced) (target : Targeted) (reply : Reply) → is_some (route_of target.path) ≡ true → IsLength s.at.length → is_map_reply reply ≡ true → TurnOn (map_turn s target reply) (told (open_left s Map target) reply)
map_on s target (MappedAt address fresh) path long fits = let start = at-fits address fresh fits in fill_starts (mapped s address fresh) target path (record { long = long; at = start.0; below = start.1 })
map_on s target reply path long fits = closes_on (source_of s.uid) (Some (Came (Store reply)))

open_on : (s : Sourced) (stage : Opening) (target : Targeted) (reply : Reply) → is_some (route_of target.path) ≡ true → IsLength s.at.length → FitsAsked (asked (open_left s stage target)) (Some reply)
    → TurnOn (open_turn s stage target (Some reply)) (told (open_left s stage target) reply)
open_on s Lock target reply path long fits = lock_on s target reply path long
open_on s Length target reply path long fits = length_on s target reply path fits
open_on s Map target reply path long fits = map_on s target reply path long fits

open_next : (s : Sourced) (stage : Opening) (target : Targeted) (d : Dialogue) (reply : Reply) → OpenSim s stage target d → FitsAsked (asked d) (Some reply) → TurnOn (open_turn s stage target (Some reply)) (told d reply)
open_next s stage target d reply h fits =
    subst (λ (x : Dialogue). TurnOn (open_turn s stage target (Some reply)) (told x reply)) (sym h.is)
    (open_on s stage target reply h.path h.long (subst (λ (x : Dialogue). FitsAsked (asked x) (Some reply)) h.is fits))

-- a machine that is told what fits goes on as its dialogue does
pub file_next : (talk : FileTalk) (d : Dialogue) (reply : Reply) → FileSim talk d → FitsAsked (asked d) (Some reply) → TurnOn (file_turn talk (Some reply)) (told d reply)
file_next (Seeks walk errand guard) d reply h fits =
    name_next walking_asks walking_after (λ m. Seeks m errand guard) (guarded_turn guard errand) (guarded guard errand) (λ m d sim. (h.0, sim)) (guarded_on guard errand h.0) walk d reply h.1 fits
file_next (Reaches m errand guard) d reply h fits =
    name_next by_path_asks by_path_after (λ m. Reaches m errand guard) (guarded_turn guard errand) (guarded guard errand) (λ m d sim. (h.0, sim)) (guarded_on guard errand h.0) m d reply h.1 fits
file_next (LooksUp m p) d reply h fits =
    check_next (on_directory p.who p.check (fails_of p.errand) (behind p.errand p.come)) (λ m. LooksUp m p) (directory_turn p) (λ m d sim. (h.0, sim)) (directory_on p h.0) m d reply h.1 fits
file_next (ReadsList m p) d reply h fits =
    check_next (on_text p.who p.check (fails_of p.errand) (behind p.errand p.come)) (λ m. ReadsList m p) (text_turn p) (λ m d sim. (h.0, sim)) (text_on p h.0) m d reply h.1 fits
file_next (Lists m) d reply h fits = name_next listing_asks listing_after (λ m. Lists m) came_turn came (λ m d sim. sim) (λ result. refl) m d reply h fits
file_next (Changes m) d reply h fits = name_next changing_asks changing_after (λ m. Changes m) came_turn came (λ m d sim. sim) (λ result. refl) m d reply h fits
file_next (Reads m) d reply h fits = stream_next streamed (λ m. Reads m) (λ m d same. same) (λ m result. refl) m d reply h fits
file_next (Counts m) d reply h fits = stream_next streamed (λ m. Counts m) (λ m d same. same) (λ m result. refl) m d reply h fits
file_next (Appends m) d reply h fits = stream_next streamed (λ m. Appends m) (λ m d same. same) (λ m result. refl) m d reply h fits
file_next (Mails m) d reply h fits = mail_next m d reply h fits
file_next (Opens s stage target) d reply h fits = open_next s stage target d reply h fits
file_next (Adds s m) d reply h fits =
    name_next changing_asks changing_after (λ m. Adds s m) (added_turn s) (on_added (closers s) s.at) (λ m d sim. (h.0, sim)) (λ result. added_on s result h.0) m d reply h.1 fits
file_next (Copies s m) d reply h fits = stream_next (on_copied (closers s)) (λ m. Copies s m) (λ m d same. same) (λ m result. copied_on s result) m d reply h fits
file_next (Closes s outcome) d reply h fits = close_next s outcome d reply h

-- and asks what that asks
opening_asks : (s : Sourced) (stage : Opening) (target : Targeted) → Some (opening_op s.uid stage) ≡ asked (open_left s stage target)
opening_asks s Lock target = refl
opening_asks s Length target = refl
opening_asks s Map target = refl

pub file_asked : (talk : FileTalk) (d : Dialogue) → FileSim talk d → file_asks talk ≡ asked d
file_asked (Seeks walk errand guard) d h = name_asked walking_asks walking_after walk (names.Asks h.1.op h.1.next) h.1.op h.1.on refl ∙ ap asked (sym h.1.is)
file_asked (Reaches m errand guard) d h = name_asked by_path_asks by_path_after m (names.Asks h.1.op h.1.next) h.1.op h.1.on refl ∙ ap asked (sym h.1.is)
file_asked (LooksUp m p) d h = stream_asked m h.1.op h.1.next h.1.on ∙ ap asked (sym h.1.is)
file_asked (ReadsList m p) d h = stream_asked m h.1.op h.1.next h.1.on ∙ ap asked (sym h.1.is)
file_asked (Lists m) d h = name_asked listing_asks listing_after m (names.Asks h.op h.next) h.op h.on refl ∙ ap asked (sym h.is)
file_asked (Changes m) d h = name_asked changing_asks changing_after m (names.Asks h.op h.next) h.op h.on refl ∙ ap asked (sym h.is)
file_asked (Reads m) d h = stream_asked m h.op h.next h.on ∙ ap asked (sym h.is)
file_asked (Counts m) d h = stream_asked m h.op h.next h.on ∙ ap asked (sym h.is)
file_asked (Appends m) d h = stream_asked m h.op h.next h.on ∙ ap asked (sym h.is)
file_asked (Mails m) d h = mail_asked m h.op h.next h.on ∙ ap asked (sym h.is)
file_asked (Opens s stage target) d h = opening_asks s stage target ∙ ap asked (sym h.is)
file_asked (Adds s m) d h = name_asked changing_asks changing_after m (names.Asks h.1.op h.1.next) h.1.op h.1.on refl ∙ ap asked (sym h.1.is)
file_asked (Copies s m) d h = stream_asked m h.op h.next h.on ∙ ap asked (sym h.is)
file_asked (Closes s outcome) d h = sym (ap asked h ∙ close_asks s outcome)
