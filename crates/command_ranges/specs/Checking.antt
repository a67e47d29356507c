-- What the check of a command found, by the replies that it was told, and what comes of it. Lists of replies have the newest first.
use Rattle.std.specs.Prelude.{◌≡◌, ◌≢◌, ℕ, Option, Some, None, List, [], ◌∷◌, ◌++◌}
use Rattle.uid_names.specs.Names.{ObjectName}
use Rattle.uid_names.specs.declared.mode.ObjKind.TheVariants as kinds
use Rattle.dom_history.specs.declared.op.Op.{Op}
use Rattle.dom_history.specs.declared.op.Reply.{Reply}
use Rattle.dir_records.specs.Directories.{directory_of, row_named}
use Rattle.dir_records.specs.Records.{Slot}
use Rattle.dir_records.specs.declared.row.DirRow.{DirRow}
use Rattle.script_reader.specs.declared.command.Command.{Command}
use Rattle.naming_tree.specs.Dialogues.{DialogueOf, Ends, FitsHeard, after, asked, told}
use Rattle.naming_tree.specs.declared.purpose.Purpose.TheVariants.{Adds}
use Rattle.naming_tree.specs.declared.site.Site.{Site}
use Rattle.naming_tree.specs.declared.step.NameResult.{NameResult}
use Rattle.naming_tree.specs.declared.step.NameResult.TheVariants.{BadDir, Store}
use Rattle.naming_tree.specs.NamePaths.{to_parent}
use Rattle.mapped_streams.specs.declared.step.StreamResult.TheVariants as streams
use Rattle.mapped_streams.specs.Streams.{read_all}
use Rattle.command_talks.specs.Checks.{check_of, list_name, of_bad, of_text, on_verdict}
use Rattle.command_talks.specs.Commands.{Row, dialogue_for}
use Rattle.command_talks.specs.Deeds.{errand_of, purpose_of}
use Rattle.command_talks.specs.Dialogues.{Dialogue, led_on}
use Rattle.command_talks.specs.Files.{behind, copy_open, fails_of, filling, guarded, talk_along, walk_for}
use Rattle.command_talks.specs.Sources.{Sourced, Targeted, closers}
use Rattle.command_talks.specs.declared.check.Check.{Check}
use Rattle.command_talks.specs.declared.check.Subject.{Subject}
use Rattle.command_talks.specs.declared.errand.Errand.{Errand}
use Rattle.command_talks.specs.declared.errand.Errand.TheVariants.{Fill}
use Rattle.command_talks.specs.declared.outcome.Outcome.{Outcome}
use Rattle.command_talks.specs.declared.outcome.Outcome.TheVariants.{Came}

-- by these replies a dialogue comes to its end
pub record ComesTo {R : Type 0} (d : DialogueOf R) (heard : List Reply) (result : R) : Type 0 where
  pub fits : FitsHeard d heard
  pub ends : after d heard ≡ Ends result

-- a directory is read whole by them, and has these slots
pub record HasSlots (dir : ObjectName) (heard : List Reply) (slots : List Slot) : Type 0 where
  pub bytes : List ℕ
  pub is_read : ComesTo (read_all dir) heard (streams.Bytes bytes)
  pub directory : directory_of bytes ≡ Some slots

-- it holds no list
pub record HasNoList (dir : ObjectName) (heard : List Reply) : Type 0 where
  pub slots : List Slot
  pub has : HasSlots dir heard slots
  pub none : row_named list_name slots ≡ None

-- it holds this one
pub record HasList (dir : ObjectName) (heard : List Reply) (row : DirRow) : Type 0 where
  pub slots : List Slot
  pub has : HasSlots dir heard slots
  pub found : row_named list_name slots ≡ Some row

-- it is no directory
pub record IsBad (dir : ObjectName) (heard : List Reply) : Type 0 where
  pub bytes : List ℕ
  pub is_read : ComesTo (read_all dir) heard (streams.Bytes bytes)
  pub bad : directory_of bytes ≡ None

-- what a check can find
pub data Finding : Type 0 where
  NoList : Finding
  ListOf : (text : List ℕ) → Finding
  NoFile : Finding
  BadDirectory : Finding
  Refused : (reply : Reply) → Finding

-- what it found at a directory by these replies: the directory is read, and then the list, where that is a file
pub data HasFound (dir : ObjectName) : List Reply → Finding → Type 0 where
  no_list : {heard : List Reply} → HasNoList dir heard → HasFound dir heard NoList
  no_file : {heard : List Reply} → (row : DirRow) → HasList dir heard row → row.kind ≢ kinds.File → HasFound dir heard NoFile
  bad_directory : {heard : List Reply} → IsBad dir heard → HasFound dir heard BadDirectory
  refused : {heard : List Reply} → (reply : Reply) → ComesTo (read_all dir) heard (streams.Store reply) → HasFound dir heard (Refused reply)
  list_of : {earlier later : List Reply} → (row : DirRow) (text : List ℕ) → HasList dir earlier row → row.kind ≡ kinds.File → ComesTo (read_all row.uid) later (streams.Bytes text) → HasFound dir (later ++ earlier) (ListOf text)
  list_refused : {earlier later : List Reply} → (row : DirRow) (reply : Reply) → HasList dir earlier row → row.kind ≡ kinds.File → ComesTo (read_all row.uid) later (streams.Store reply) → HasFound dir (later ++ earlier) (Refused reply)

-- what comes of it: the errand goes on, or is stopped
abbrev pub on_finding : Subject → Check → (Outcome → Dialogue) → Dialogue → Finding → Dialogue
on_finding who c fails further NoList = further
on_finding who c fails further (ListOf text) = on_verdict fails further (of_text who c text)
on_finding who c fails further NoFile = on_verdict fails further (of_bad c.lenient)
on_finding who c fails further BadDirectory = fails (Came BadDir)
on_finding who c fails further (Refused reply) = fails (Came (Store reply))

-- whatever a check finds, that is what comes of the errand
abbrev pub GoesByFinding : Subject → Errand → NameResult → Check → Type 0
GoesByFinding who errand come c = (heard : List Reply) (finding : Finding) → HasFound c.dir heard finding → after (guarded (Some who) errand come) heard ≡ on_finding who c (fails_of errand) (behind errand come) finding

-- a dialogue asks these operations and no more, whatever it is told, and comes to this
abbrev pub AsksInTurn : List Op → Outcome → Dialogue → Type 0
AsksInTurn [] outcome d = d ≡ Ends outcome
AsksInTurn (op ∷ ops) outcome d = (asked d ≡ Some op) × ((reply : Reply) → AsksInTurn ops outcome (told d reply))

-- the operations that close what an errand has opened before its check
abbrev pub held_by : Errand → List Op
held_by (Fill s) = closers s
held_by errand = []

-- behind the walk of a command it is checked, and then goes on
abbrev pub IsCheckedBehindWalk : Option Subject → Site → ObjectName → Command → Row → Type 0
IsCheckedBehindWalk guard site dir command r =
    (walked : List Reply) (come : NameResult) → ComesTo (walk_for (purpose_of (errand_of guard site dir r.deed)) site dir r.path) walked come → after (dialogue_for guard site dir command) walked ≡ guarded guard (errand_of guard site dir r.deed) come

-- and so is the target of a copy, of which the source is open
abbrev pub IsTargetChecked : Targeted → Sourced → Type 0
IsTargetChecked target s = (walked : List Reply) (come : NameResult) → ComesTo (to_parent target.site target.path target.dir Adds) walked come → after (copy_open target s) walked ≡ guarded target.guard (Fill s) come

-- without lists in force a command asks what stands behind its walk, and no more; so does a copy, once its source is open
abbrev pub AsksOfNoList : Site → ObjectName → List ℕ → Errand → Type 0
AsksOfNoList site dir path errand = talk_along None site dir path errand ≡ led_on (walk_for (purpose_of errand) site dir path) (behind errand)

abbrev pub TargetAsksOfNoList : Targeted → Sourced → Type 0
TargetAsksOfNoList target s = target.guard ≡ None → copy_open target s ≡ led_on (to_parent target.site target.path target.dir Adds) (filling s)

-- from its walk on, a command of a process with a subject goes by what its check finds
abbrev pub CommandGoesByFinding : Subject → Site → ObjectName → Command → Row → Type 0
CommandGoesByFinding who site dir command r =
    (walked heard : List Reply) (come : NameResult) (c : Check) (finding : Finding) → ComesTo (walk_for (purpose_of (errand_of (Some who) site dir r.deed)) site dir r.path) walked come
    → check_of (errand_of (Some who) site dir r.deed) come ≡ Some c → HasFound c.dir heard finding
    → after (dialogue_for (Some who) site dir command) (heard ++ walked) ≡ on_finding who c (fails_of (errand_of (Some who) site dir r.deed)) (behind (errand_of (Some who) site dir r.deed) come) finding
