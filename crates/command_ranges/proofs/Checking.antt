-- A check comes to what the list says that it was told, and without lists in force there is none.
use Rattle.std.proofs.Common.{◌≡◌, ◌≢◌, ℕ, Bool, false, Option, Some, None, List, [], ◌∷◌, ◌++◌, refl, ap, ◌∙◌}
use Rattle.std.specs.Prelude.{cond}
use Rattle.uid_names.specs.Names.{ObjectName, ProcName}
use Rattle.uid_names.specs.declared.mode.ObjKind.{ObjKind}
use Rattle.uid_names.specs.declared.mode.ObjKind.TheVariants as kinds
use Rattle.dom_history.specs.declared.op.Op.{Op}
use Rattle.dom_history.specs.declared.op.Reply.{Reply}
use Rattle.dir_records.specs.Directories.{row_named}
use Rattle.dir_records.specs.Records.{Slot}
use Rattle.dir_records.specs.declared.row.DirRow.{DirRow}
use Rattle.script_reader.specs.Scripts.{Content}
use Rattle.script_reader.specs.declared.command.Command.{Command}
use Rattle.naming_tree.specs.Dialogues.{Asks, DialogueOf, Ends, FitsHeard, FitsSaid, after, led_on, says, told}
use Rattle.naming_tree.specs.NamePaths.{to_parent}
use Rattle.naming_tree.specs.declared.purpose.Purpose.TheVariants.{Adds}
use Rattle.naming_tree.specs.declared.site.Site.{Site}
use Rattle.naming_tree.specs.declared.step.NameResult.{NameResult}
use Rattle.mapped_streams.specs.declared.step.StreamResult.{StreamResult}
use Rattle.mapped_streams.specs.declared.step.StreamResult.TheVariants as streams
use Rattle.mapped_streams.specs.Streams.{read_all}
use Rattle.command_talks.specs.Checks.{check_for, check_of, checked, checked_by, list_name, of_bad, on_directory, on_kind, on_row, on_slots, on_text, on_verdict}
use Rattle.command_talks.specs.Commands.{Row, dialogue_by, dialogue_for, row_of}
use Rattle.command_talks.specs.Deeds.{errand_of, purpose_of}
use Rattle.command_talks.specs.Dialogues.{Dialogue, closing}
use Rattle.command_talks.specs.Files.{behind, fails_of, fill_checked, guarded, talk_along, walk_for}
use Rattle.command_talks.specs.Sources.{Sourced, Targeted, closers}
use Rattle.command_talks.specs.declared.check.Check.{Check}
use Rattle.command_talks.specs.declared.check.Subject.{Subject}
use Rattle.command_talks.specs.declared.errand.Errand.{Errand}
use Rattle.command_talks.specs.declared.errand.Errand.TheVariants as errands
use Rattle.command_talks.specs.declared.outcome.Outcome.{Outcome}
use Rattle.aegis_shell.specs.Work.{guard_of, subject_in}
use Rattle.command_ranges.specs.Checking.{AsksInTurn, AsksOfNoList, CommandGoesByFinding, ComesTo, Finding, HasFound, HasList, HasSlots, IsCheckedBehindWalk, IsTargetChecked, TargetAsksOfNoList, held_by, on_finding}
use Rattle.command_ranges.specs.Checking.{bad_directory, list_of, list_refused, no_file, no_list, refused}

-- what is left of two dialogues in a row, while the first goes on
module _ {A B : Type 0} (further : A → DialogueOf B) where
  told-led : (d : DialogueOf A) (reply : Reply) → FitsSaid (says d) reply → told (led_on d further) reply ≡ led_on (told d reply) further
  told-led (Ends result) reply fits = absurd fits
  told-led (Asks op next) reply fits = refl

  after-led : (d : DialogueOf A) (heard : List Reply) → FitsHeard d heard → after (led_on d further) heard ≡ led_on (after d heard) further
  after-led d [] fits = refl
  after-led d (reply ∷ heard) fits = ap (λ (e : DialogueOf B). told e reply) (after-led d heard fits.0) ∙ told-led (after d heard) reply fits.1

  -- behind the first, once it has come to its end
  led-come : (d : DialogueOf A) (heard : List Reply) (result : A) → ComesTo d heard result → after (led_on d further) heard ≡ further result
  led-come d heard result is = after-led d heard is.fits ∙ ap (λ (e : DialogueOf A). led_on e further) is.ends

-- behind earlier replies and later ones
module _ {A : Type 0} (d : DialogueOf A) where
  after-both : (later earlier : List Reply) → after d (later ++ earlier) ≡ after (after d earlier) later
  after-both [] earlier = refl
  after-both (reply ∷ later) earlier = ap (λ (e : DialogueOf A). told e reply) (after-both later earlier)

module _ (who : Subject) (c : Check) (fails : Outcome → Dialogue) (further : Dialogue) where
  -- behind the directory
  checked-slots : (heard : List Reply) (slots : List Slot) → HasSlots c.dir heard slots → after (checked who c fails further) heard ≡ on_row who c fails further (row_named list_name slots)
  checked-slots heard slots has =
      led-come (on_directory who c fails further) (read_all c.dir) heard (streams.Bytes has.bytes) has.is_read ∙ ap (λ (found : Option (List Slot)). on_slots who c fails further found) has.directory

  checked-row : (heard : List Reply) (row : DirRow) → HasList c.dir heard row → after (checked who c fails further) heard ≡ on_kind who c fails further row.kind row.uid
  checked-row heard row has = checked-slots heard has.slots has.has ∙ ap (λ (found : Option DirRow). on_row who c fails further found) has.found

  -- a list that is no file is bad
  no-file : (kind : ObjKind) (u : ObjectName) → kind ≢ kinds.File → on_kind who c fails further kind u ≡ on_verdict fails further (of_bad c.lenient)
  no-file kinds.File u other = absurd (other refl)
  no-file kind u other = refl

  -- behind its list, where that is a file
  checked-list : (earlier later : List Reply) (row : DirRow) (result : StreamResult) → HasList c.dir earlier row → row.kind ≡ kinds.File → ComesTo (read_all row.uid) later result
      → after (checked who c fails further) (later ++ earlier) ≡ on_text who c fails further result
  checked-list earlier later row result has file is =
      let reads : after (checked who c fails further) earlier ≡ led_on (read_all row.uid) (on_text who c fails further) =
      checked-row earlier row has ∙ ap (λ (kind : ObjKind). on_kind who c fails further kind row.uid) file in
      after-both (checked who c fails further) later earlier
      ∙ ap (λ (d : Dialogue). after d later) reads
      ∙ led-come (on_text who c fails further) (read_all row.uid) later result is

  checked-found : {heard : List Reply} {finding : Finding} → HasFound c.dir heard finding → after (checked who c fails further) heard ≡ on_finding who c fails further finding
  checked-found (no_list {heard = heard} none) = checked-slots heard none.slots none.has ∙ ap (λ (found : Option DirRow). on_row who c fails further found) none.none
  checked-found (no_file {heard = heard} row has other) = checked-row heard row has ∙ no-file row.kind row.uid other
  checked-found (bad_directory {heard = heard} is) =
      led-come (on_directory who c fails further) (read_all c.dir) heard (streams.Bytes is.bytes) is.is_read ∙ ap (λ (found : Option (List Slot)). on_slots who c fails further found) is.bad
  checked-found (refused {heard = heard} reply is) = led-come (on_directory who c fails further) (read_all c.dir) heard (streams.Store reply) is
  checked-found (list_of {earlier = earlier} {later = later} row text has file is) = checked-list earlier later row (streams.Bytes text) has file is
  checked-found (list_refused {earlier = earlier} {later = later} row reply has file is) = checked-list earlier later row (streams.Store reply) has file is

module _ (who : Subject) (errand : Errand) (come : NameResult) (c : Check) (is : check_of errand come ≡ Some c) where
  -- what is checked of an errand
  is-checked : guarded (Some who) errand come ≡ checked who c (fails_of errand) (behind errand come)
  is-checked = ap (λ (found : Option Check). checked_by (check_for (Some who) found) (fails_of errand) (behind errand come)) is

  pub goes-by-finding : (heard : List Reply) (finding : Finding) → HasFound c.dir heard finding → after (guarded (Some who) errand come) heard ≡ on_finding who c (fails_of errand) (behind errand come) finding
  goes-by-finding heard finding found =
      ap (λ (d : Dialogue). after d heard) is-checked ∙ checked-found who c (fails_of errand) (behind errand come) found

-- an errand that is stopped closes what it has opened, and asks no more
closing-turns : (ops : List Op) (outcome : Outcome) → AsksInTurn ops outcome (closing ops outcome)
closing-turns [] outcome = refl
closing-turns (op ∷ ops) outcome = (refl, λ reply. closing-turns ops outcome)

pub stops-closing : (errand : Errand) (outcome : Outcome) → AsksInTurn (held_by errand) outcome (fails_of errand outcome)
stops-closing errands.Bind outcome = refl
stops-closing errands.Enter outcome = refl
stops-closing errands.List outcome = refl
stops-closing errands.Read outcome = refl
stops-closing errands.Count outcome = refl
stops-closing (errands.Append text) outcome = refl
stops-closing (errands.Put text) outcome = refl
stops-closing errands.Take outcome = refl
stops-closing (errands.Copy target) outcome = refl
stops-closing (errands.Add what) outcome = refl
stops-closing errands.Remove outcome = refl
stops-closing (errands.Fill s) outcome = closing-turns (closers s) outcome

-- a command is checked behind its walk
module _ (guard : Option Subject) (site : Site) (dir : ObjectName) (command : Command) (r : Row) (is : row_of command ≡ Some r) where
  command-along : dialogue_for guard site dir command ≡ talk_along guard site dir r.path (errand_of guard site dir r.deed)
  command-along = ap (λ (found : Option Row). dialogue_by guard site dir found) is

  pub checked-behind : IsCheckedBehindWalk guard site dir command r
  checked-behind walked come comes =
      let errand = errand_of guard site dir r.deed in
      ap (λ (d : Dialogue). after d walked) command-along ∙ led-come (guarded guard errand) (walk_for (purpose_of errand) site dir r.path) walked come comes

pub target-checked : (target : Targeted) (s : Sourced) → IsTargetChecked target s
target-checked target s walked come comes = led-come (fill_checked target.guard s) (to_parent target.site target.path target.dir Adds) walked come comes

pub command-goes : (who : Subject) (site : Site) (dir : ObjectName) (command : Command) (r : Row) → row_of command ≡ Some r → CommandGoesByFinding who site dir command r
command-goes who site dir command r is walked heard come c finding comes check found =
    let d = dialogue_for (Some who) site dir command in
    after-both d heard walked
    ∙ ap (λ (e : Dialogue). after e heard) (checked-behind (Some who) site dir command r is walked come comes)
    ∙ goes-by-finding who (errand_of (Some who) site dir r.deed) come c check heard finding found

-- without lists in force
pub goes-unchecked : (site : Site) (dir : ObjectName) (path : List ℕ) (errand : Errand) → AsksOfNoList site dir path errand
goes-unchecked site dir path errand = refl

pub fills-unchecked : (target : Targeted) (s : Sourced) → TargetAsksOfNoList target s
fills-unchecked target s none = ap (λ (guard : Option Subject). led_on (to_parent target.site target.path target.dir Adds) (fill_checked guard s)) none

pub has-no-guard : (s : Content) (p : ProcName) → s.access ≡ false → guard_of s p ≡ None
has-no-guard s p is = let who : Subject = subject_in s.subjects p in ap (λ (b : Bool). cond b (Some who) None) is
