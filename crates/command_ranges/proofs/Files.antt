-- What is done behind the walk along a command's path asks in the ranges of operations.
use Rattle.std.proofs.Common.{ℕ, ◌≤◌, true, false, Option, Some, None, IfSome, List, [], ◌∷◌, length}
use Rattle.uid_names.specs.Names.{ObjectName, IsName}
use Rattle.uid_names.specs.Rooms.{IsRoom}
use Rattle.uid_names.specs.declared.limits.TheConstants.{PAGE_BYTES}
use Rattle.uid_names.specs.declared.mode.Mode.TheVariants.{Read}
use Rattle.uid_names.specs.declared.mode.ObjKind.{ObjKind}
use Rattle.uid_names.specs.declared.mode.ObjKind.TheVariants as kinds
use Rattle.acl_rules.specs.declared.rights.Rights.{Rights}
use Rattle.dir_records.specs.Directories.{directory_of, row_named}
use Rattle.dir_records.specs.Records.{Slot}
use Rattle.dir_records.specs.declared.row.DirRow.{DirRow}
use Rattle.dom_history.specs.declared.op.Op.{Op}
use Rattle.naming_tree.specs.Additions.{IsText, add_at}
use Rattle.naming_tree.specs.Dialogues as names
use Rattle.naming_tree.specs.NamePaths.{addition, listing_at, to_parent}
use Rattle.naming_tree.specs.Removals.{drop_at}
use Rattle.naming_tree.specs.declared.purpose.Purpose.TheVariants.{Adds}
use Rattle.naming_tree.specs.declared.step.NameResult.{NameResult}
use Rattle.naming_tree.specs.declared.step.NameResult.TheVariants.{Added, BadDir, Found, Store, Under}
use Rattle.naming_tree.specs.declared.step.Walked.TheVariants.{At, Root}
use Rattle.naming_tree.specs.declared.step.Within.{Within}
use Rattle.mapped_streams.specs.Pages.{IsMapped}
use Rattle.mapped_streams.specs.Streams.{append, copy, count_lines, read_all}
use Rattle.mapped_streams.specs.declared.mapped.Mapped.{Mapped}
use Rattle.mapped_streams.specs.declared.step.StreamResult.{StreamResult}
use Rattle.mapped_streams.specs.declared.step.StreamResult.TheVariants as results
use Rattle.acl_rules.specs.RightTexts.{rights_with}
use Rattle.mail_box.specs.Boxes as mail_texts
use Rattle.mail_box.specs.Dialogues as boxes
use Rattle.mail_box.specs.Mails.{put_mail, take_mail}
use Rattle.mail_box.specs.declared.step.MailResult.{MailResult}
use Rattle.mail_box.specs.declared.step.MailResult.TheVariants as mails
use Rattle.command_talks.specs.Arriving.{directory_in, file_in, mail_in}
use Rattle.command_talks.specs.Checks.{at_added, at_bound, at_file, at_itself, at_mail, at_new_mail, at_place, at_removed, bad_list, check_for, check_of, checked, checked_by, denied, list_name, of_bad, of_text, on_bytes, on_directory, on_kind, on_row, on_slots, on_text, on_verdict, to_own, to_read, to_write}
use Rattle.command_talks.specs.Dialogues.{Dialogue, came, closing, led_on, mailed, refused, streamed}
use Rattle.command_talks.specs.Mailed.{mail_outcome}
use Rattle.command_talks.specs.Files.{behind, copy_from, copy_open, fails_of, fill_checked, filling, guarded, on_added, on_arrival, on_copied, on_file, on_mail, on_place, room_for, shutting}
use Rattle.command_talks.specs.Sources.{Sourced, Targeted, closers, mapped_at}
use Rattle.command_talks.specs.declared.arriving.Arrival.{Arrival}
use Rattle.command_talks.specs.declared.arriving.Arrival.TheVariants.{Else, There}
use Rattle.command_talks.specs.declared.check.Check.{Check}
use Rattle.command_talks.specs.declared.check.Subject.{Subject}
use Rattle.command_talks.specs.declared.check.Verdict.{Verdict}
use Rattle.command_talks.specs.declared.check.Verdict.TheVariants.{Passes, IsBad, Denies}
use Rattle.command_talks.specs.declared.errand.Errand.{Errand}
use Rattle.command_talks.specs.declared.errand.Errand.TheVariants as errands
use Rattle.command_talks.specs.declared.outcome.Outcome.{Outcome}
use Rattle.command_talks.specs.declared.outcome.Outcome.TheVariants.{Came, Streamed, Written}
use Rattle.command_talks.proofs.Sims.{room_is_one}
use Rattle.mapped_streams.specs.Dialogues as streams
use Rattle.aegis_shell.proofs.Ranged.{AreOps}
use Rattle.command_ranges.specs.Naming.{IsNamedOutcome, IsNamedResult}
use Rattle.command_ranges.specs.Talking.{IsSite}
use Rattle.command_ranges.specs.Telling.{AsksInRange}
use Rattle.command_ranges.proofs.Answers.{Anything}
use Rattle.command_ranges.proofs.Asking.{closing-asks, fine-asks, led-asks, opened-asks}
use Rattle.command_ranges.proofs.Changes.{add_at-names, drop_at-names}
use Rattle.command_ranges.proofs.Mails.{AsksMails, put-mails, take-mails}
use Rattle.command_ranges.proofs.Names.{AsksNames}
use Rattle.command_ranges.proofs.Parents.{listing-names, reach-names}
use Rattle.command_ranges.proofs.Ranges.{closers-ops}
use Rattle.command_ranges.proofs.Records.{AreNamedSlots, IsNamedSlot, directory-named, row-named}
use Rattle.command_ranges.proofs.Streams.{AsksStreams, append-streams, copy-streams, count-streams, read-streams}

-- a dialogue of a command asks in its ranges, and what it comes to has names
abbrev pub AsksTalks : Dialogue → Type 0
AsksTalks d = AsksInRange IsNamedOutcome d

pub streamed-talks : (d : streams.Dialogue) → AsksStreams d → AsksTalks (led_on d streamed)
streamed-talks d asks = led-asks (Anything StreamResult) IsNamedOutcome d streamed asks (λ result is. tt)

-- no answer of a mailbox tells a name
mail-outcome : (result : MailResult) → IsNamedOutcome (mail_outcome result)
mail-outcome mails.Put = tt
mail-outcome (mails.Taken text) = tt
mail-outcome mails.Full = tt
mail-outcome mails.Empty = tt
mail-outcome mails.BadMail = tt
mail-outcome (mails.Store reply) = tt

mailed-talks : (d : boxes.Dialogue) → AsksMails d → AsksTalks (led_on d mailed)
mailed-talks d asks = led-asks (Anything MailResult) IsNamedOutcome d mailed asks (λ result is. mail-outcome result)

closing-talks : (held : List Op) (outcome : Outcome) → AreOps held → IsNamedOutcome outcome → AsksTalks (closing held outcome)
closing-talks held outcome ops is = closing-asks IsNamedOutcome held outcome ops is

shutting-talks : (held : List Op) (outcome : Outcome) → AreOps held → IsNamedOutcome outcome → AsksTalks (shutting held outcome)
shutting-talks [] outcome ops is = is
shutting-talks (op ∷ held) outcome ops is = fine-asks IsNamedOutcome refused (λ reply. tt) held op (shutting held outcome) ops.1 ops.0 (shutting-talks held outcome ops.1 is)

-- a copy
copied-talks : (held : List Op) (result : StreamResult) → AreOps held → AsksTalks (on_copied held result)
copied-talks held results.Fine ops = shutting-talks held (Streamed results.Fine) ops tt
copied-talks held result ops = closing-talks held (Streamed result) ops tt

added-talks : (held : List Op) (source : Mapped) (result : NameResult) → AreOps held → IsMapped source → IsNamedResult result → AsksTalks (on_added held source result)
added-talks held source (Added v) ops from is = led-asks (Anything StreamResult) IsNamedOutcome (copy source v) (on_copied held) (copy-streams source v from is) (λ result any. copied-talks held result ops)
added-talks held source result ops from is = closing-talks held (Came result) ops is

-- the target of a copy
filling-talks : (s : Sourced) → IsName s.uid → IsMapped s.at → (result : NameResult) → IsNamedResult result → AsksTalks (filling s result)
filling-talks s own from (Under p) is =
    let a = addition kinds.File (room_for s.at.length) None p.name in
    led-asks IsNamedResult IsNamedOutcome (add_at p.dir a) (on_added (closers s) s.at) (add_at-names p.dir a is.0 (record { room = room_is_one s.at.length from.long; text = tt }) is.1)
    (λ result named. added-talks (closers s) s.at result (closers-ops s.fresh s.uid own) from named)
filling-talks s own from result is = closing-talks (closers s) (Came result) (closers-ops s.fresh s.uid own) is

-- a check reads a real directory, and then its list
abbrev pub IsNamedCheck : Option Check → Type 0
IsNamedCheck None = Unit {0}
IsNamedCheck (Some c) = IsName c.dir

abbrev pub IsNamedAsking : Option (Subject × Check) → Type 0
IsNamedAsking None = Unit {0}
IsNamedAsking (Some asked) = IsName asked.1.dir

asking-named : (guard : Option Subject) (check : Option Check) → IsNamedCheck check → IsNamedAsking (check_for guard check)
asking-named None check is = tt
asking-named (Some who) None is = tt
asking-named (Some who) (Some c) is = is

itself-named : (need : Rights) (result : NameResult) → IsNamedResult result → IsNamedCheck (at_itself need result)
itself-named need (Found (At u kinds.Directory within)) is = is.0
itself-named need (Found Root) is = tt
itself-named need (Found (At u kind within)) is = tt
itself-named need result is = tt

bytes-named : (plain own : Rights) (result : NameResult) → IsNamedResult result → IsNamedCheck (at_file plain own result)
bytes-named plain own (Found (At u kinds.File (Some w))) is = is.1
bytes-named plain own (Found (At u kinds.File None)) is = tt
bytes-named plain own (Found Root) is = tt
bytes-named plain own (Found (At u kind within)) is = tt
bytes-named plain own result is = tt

bound-named : (result : NameResult) → IsNamedResult result → IsNamedCheck (at_bound result)
bound-named (Found Root) is = tt
bound-named (Found (At u kinds.Directory within)) is = is.0
bound-named (Found (At u kind (Some w))) is = is.1
bound-named (Found (At u kind None)) is = tt
bound-named result is = tt

place-named : (result : NameResult) → IsNamedResult result → IsNamedCheck (at_place result)
place-named (Under p) is = is.0
place-named result is = tt

new-mail-named : (result : NameResult) → IsNamedResult result → IsNamedCheck (at_new_mail result)
new-mail-named (Under p) is = is.0
new-mail-named result is = tt

added-named : (kind : ObjKind) (result : NameResult) → IsNamedResult result → IsNamedCheck (at_added kind result)
added-named kinds.Mail result is = new-mail-named result is
added-named kinds.File result is = place-named result is
added-named kinds.Directory result is = place-named result is
added-named kinds.Link result is = place-named result is

mail-named : (need : Rights) (result : NameResult) → IsNamedResult result → IsNamedCheck (at_mail need result)
mail-named need (Found (At u kinds.Mail (Some w))) is = is.1
mail-named need (Found (At u kinds.Mail None)) is = tt
mail-named need (Found Root) is = tt
mail-named need (Found (At u kind within)) is = tt
mail-named need result is = tt

removed-named : (result : NameResult) → IsNamedResult result → IsNamedCheck (at_removed result)
removed-named (Under p) is = is.0
removed-named result is = tt

check-named : (errand : Errand) (result : NameResult) → IsNamedResult result → IsNamedCheck (check_of errand result)
check-named errands.Bind result is = bound-named result is
check-named errands.Enter result is = itself-named to_read result is
check-named errands.List result is = itself-named to_read result is
check-named errands.Read result is = bytes-named to_read to_read result is
check-named errands.Count result is = bytes-named to_read to_read result is
check-named (errands.Append text) result is = bytes-named to_write to_own result is
check-named (errands.Put text) result is = mail-named to_write result is
check-named errands.Take result is = mail-named (rights_with true true false false) result is
check-named (errands.Copy target) result is = bytes-named to_read to_read result is
check-named (errands.Add what) result is = added-named what.kind result is
check-named errands.Remove result is = removed-named result is
check-named (errands.Fill s) result is = place-named result is

module _ (fails : Outcome → Dialogue) (stops : (outcome : Outcome) → IsNamedOutcome outcome → AsksTalks (fails outcome)) where
  verdict-talks : (further : Dialogue) → AsksTalks further → (verdict : Verdict) → AsksTalks (on_verdict fails further verdict)
  verdict-talks further next Passes = next
  verdict-talks further next IsBad = stops (Written bad_list) tt
  verdict-talks further next (Denies k) = stops (Written (denied k)) tt

  bytes-talks : (further : List ℕ → Dialogue) → ((bytes : List ℕ) → AsksTalks (further bytes)) → (result : StreamResult) → AsksTalks (on_bytes fails further result)
  bytes-talks further next (results.Bytes bytes) = next bytes
  bytes-talks further next (results.Store reply) = stops (Came (Store reply)) tt
  bytes-talks further next result = stops (Streamed result) tt

  module _ (who : Subject) (c : Check) (further : Dialogue) (next : AsksTalks further) where
    text-talks : (result : StreamResult) → AsksTalks (on_text who c fails further result)
    text-talks result = bytes-talks (λ text. on_verdict fails further (of_text who c text)) (λ text. verdict-talks further next (of_text who c text)) result

    kind-talks : (kind : ObjKind) (u : ObjectName) → IsName u → AsksTalks (on_kind who c fails further kind u)
    kind-talks kinds.File u is = led-asks (Anything StreamResult) IsNamedOutcome (read_all u) (on_text who c fails further) (read-streams u is) (λ result any. text-talks result)
    kind-talks kind u is = verdict-talks further next (of_bad c.lenient)

    row-talks : (row : Option DirRow) → IsNamedSlot row → AsksTalks (on_row who c fails further row)
    row-talks None is = next
    row-talks (Some row) is = kind-talks row.kind row.uid is

    slots-talks : (slots : Option (List Slot)) → IfSome slots AreNamedSlots → AsksTalks (on_slots who c fails further slots)
    slots-talks None are = stops (Came BadDir) tt
    slots-talks (Some slots) are = row-talks (row_named list_name slots) (row-named list_name slots are)

    checked-talks : IsName c.dir → AsksTalks (checked who c fails further)
    checked-talks is =
        led-asks (Anything StreamResult) IsNamedOutcome (read_all c.dir) (on_directory who c fails further) (read-streams c.dir is)
        (λ result any. bytes-talks (λ bytes. on_slots who c fails further (directory_of bytes)) (λ bytes. slots-talks (directory_of bytes) (directory-named bytes)) result)

  asked-talks : (asked : Option (Subject × Check)) → IsNamedAsking asked → (further : Dialogue) → AsksTalks further → AsksTalks (checked_by asked fails further)
  asked-talks None is further next = next
  asked-talks (Some (who, c)) is further next = checked-talks who c further next is

-- where a copy goes: a real directory of a site
pub record IsTarget (target : Targeted) : Type 0 where
  pub site : IsSite target.site
  pub dir : IsName target.dir

open-talks : (target : Targeted) (s : Sourced) → IsTarget target → IsName s.uid → IsMapped s.at → AsksTalks (copy_open target s)
open-talks target s is own from =
    led-asks IsNamedResult IsNamedOutcome (to_parent target.site target.path target.dir Adds) (fill_checked target.guard s) (reach-names target.site is.site target.path target.dir Adds is.dir)
    (λ result walked. asked-talks (λ outcome. closing (closers s) outcome) (λ outcome named. closing-talks (closers s) outcome (closers-ops s.fresh s.uid own) named)
    (check_for target.guard (at_place result)) (asking-named target.guard (at_place result) (place-named result walked)) (filling s result) (filling-talks s own from result walked))

copy-talks : (target : Targeted) → IsTarget target → (u : ObjectName) → IsName u → AsksTalks (copy_from target u)
copy-talks target is u own =
    opened-asks IsNamedOutcome refused (λ reply. tt) u Read (λ n at. copy_open target (record { uid = u; at = mapped_at at.0 n; fresh = at.1 })) own
    (λ n at long there. open-talks target (record { uid = u; at = mapped_at at.0 n; fresh = at.1 }) is own (record { long = long; at = there.0; below = there.1 }))

-- where walks have led, objects have names
abbrev pub IsNamedArrival : Arrival → Type 0
IsNamedArrival (There u) = IsName u
IsNamedArrival (Else outcome) = IsNamedOutcome outcome

file-named : (result : NameResult) → IsNamedResult result → IsNamedArrival (file_in result)
file-named (Found Root) is = tt
file-named (Found (At u kinds.File within)) is = is.0
file-named (Found (At u kinds.Directory within)) is = tt
file-named (Found (At u kind within)) is = tt
file-named result is = is

box-named : (result : NameResult) → IsNamedResult result → IsNamedArrival (mail_in result)
box-named (Found Root) is = tt
box-named (Found (At u kinds.Mail within)) is = is.0
box-named (Found (At u kind within)) is = tt
box-named result is = is

arrival-named : (result : NameResult) → IsNamedResult result → IsNamedArrival (directory_in result)
arrival-named (Found Root) is = tt
arrival-named (Found (At u kinds.Directory within)) is = is.0
arrival-named (Found (At u kind within)) is = tt
arrival-named result is = is

arrival-talks : (further : ObjectName → Dialogue) → ((u : ObjectName) → IsName u → AsksTalks (further u)) → (found : Arrival) → IsNamedArrival found → AsksTalks (on_arrival further found)
arrival-talks further next (There u) is = next u is
arrival-talks further next (Else outcome) is = is

file-talks : (further : ObjectName → Dialogue) → ((u : ObjectName) → IsName u → AsksTalks (further u)) → (result : NameResult) → IsNamedResult result → AsksTalks (on_file further result)
file-talks further next result is = arrival-talks further next (file_in result) (file-named result is)

box-talks : (further : ObjectName → Dialogue) → ((u : ObjectName) → IsName u → AsksTalks (further u)) → (result : NameResult) → IsNamedResult result → AsksTalks (on_mail further result)
box-talks further next result is = arrival-talks further next (mail_in result) (box-named result is)

place-talks : (further : Within → Dialogue) → ((p : Within) → IsNamedResult (Under p) → AsksTalks (further p)) → (result : NameResult) → IsNamedResult result → AsksTalks (on_place further result)
place-talks further next (Under p) is = next p is
place-talks further next result is = is

came-talks : (d : names.Dialogue) → AsksNames d → AsksTalks (led_on d came)
came-talks d asks = led-asks IsNamedResult IsNamedOutcome d came asks (λ result is. is)

-- an errand whose parts are in their ranges
abbrev pub IsRangedErrand : Errand → Type 0
IsRangedErrand (errands.Append text) = length text ≤ PAGE_BYTES
IsRangedErrand (errands.Put text) = mail_texts.IsText text
IsRangedErrand (errands.Copy target) = IsTarget target
IsRangedErrand (errands.Add what) = IsRoom what.room × IsText what.kind what.text
IsRangedErrand (errands.Fill s) = IsName s.uid × IsMapped s.at
IsRangedErrand _ = Unit {0}

-- what is done behind a walk
pub behind-talks : (errand : Errand) → IsRangedErrand errand → (result : NameResult) → IsNamedResult result → AsksTalks (behind errand result)
behind-talks errands.Bind h result is = is
behind-talks errands.Enter h result is = is
behind-talks errands.List h result is = arrival-talks (λ u. led_on (listing_at u) came) (λ u own. came-talks (listing_at u) (listing-names u own)) (directory_in result) (arrival-named result is)
behind-talks errands.Read h result is = file-talks (λ u. led_on (read_all u) streamed) (λ u own. streamed-talks (read_all u) (read-streams u own)) result is
behind-talks errands.Count h result is = file-talks (λ u. led_on (count_lines u) streamed) (λ u own. streamed-talks (count_lines u) (count-streams u own)) result is
behind-talks (errands.Append text) h result is = file-talks (λ u. led_on (append u text) streamed) (λ u own. streamed-talks (append u text) (append-streams u text own h)) result is
behind-talks (errands.Put text) h result is = box-talks (λ u. led_on (put_mail u text) mailed) (λ u own. mailed-talks (put_mail u text) (put-mails u text own h)) result is
behind-talks errands.Take h result is = box-talks (λ u. led_on (take_mail u) mailed) (λ u own. mailed-talks (take_mail u) (take-mails u own)) result is
behind-talks (errands.Copy target) h result is = file-talks (copy_from target) (copy-talks target h) result is
behind-talks (errands.Add what) h result is =
    place-talks (λ p. led_on (add_at p.dir (addition what.kind what.room what.text p.name)) came)
    (λ p there. came-talks (add_at p.dir (addition what.kind what.room what.text p.name)) (add_at-names p.dir (addition what.kind what.room what.text p.name) there.0 (record { room = h.0; text = h.1 }) there.1))
    result is
behind-talks errands.Remove h result is = place-talks (λ p. led_on (drop_at p.dir p.name) came) (λ p there. came-talks (drop_at p.dir p.name) (drop_at-names p.dir p.name there.0)) result is
behind-talks (errands.Fill s) h result is = filling-talks s h.0 h.1 result is

-- where a check stops an errand
fails-talks : (errand : Errand) → IsRangedErrand errand → (outcome : Outcome) → IsNamedOutcome outcome → AsksTalks (fails_of errand outcome)
fails-talks errands.Bind h outcome is = is
fails-talks errands.Enter h outcome is = is
fails-talks errands.List h outcome is = is
fails-talks errands.Read h outcome is = is
fails-talks errands.Count h outcome is = is
fails-talks (errands.Append text) h outcome is = is
fails-talks (errands.Put text) h outcome is = is
fails-talks errands.Take h outcome is = is
fails-talks (errands.Copy target) h outcome is = is
fails-talks (errands.Add what) h outcome is = is
fails-talks errands.Remove h outcome is = is
fails-talks (errands.Fill s) h outcome is = closing-talks (closers s) outcome (closers-ops s.fresh s.uid h.0) is

pub guarded-talks : (guard : Option Subject) (errand : Errand) → IsRangedErrand errand → (result : NameResult) → IsNamedResult result → AsksTalks (guarded guard errand result)
guarded-talks guard errand h result is =
    asked-talks (fails_of errand) (fails-talks errand h) (check_for guard (check_of errand result)) (asking-named guard (check_of errand result) (check-named errand result is)) (behind errand result) (behind-talks errand h result is)
