-- The check of a command behind its walk: which list is asked, for what, and what comes of it.
use Rattle.std.specs.Prelude.{ℕ, Bool, true, false, if◌then◌else◌, Option, Some, None, List, [], ◌∷◌, ◌++◌, bytes_eq, codes, decimal}
use Rattle.uid_names.specs.Names.{ObjectName}
use Rattle.uid_names.specs.declared.mode.ObjKind.{ObjKind}
use Rattle.uid_names.specs.declared.mode.ObjKind.TheVariants as kinds
use Rattle.acl_rules.specs.Decisions.{decided}
use Rattle.acl_rules.specs.Lists.{list_of}
use Rattle.acl_rules.specs.RightTexts.{rights_with}
use Rattle.acl_rules.specs.declared.deciding.Decision.{Decision}
use Rattle.acl_rules.specs.declared.deciding.Decision.TheVariants.{Allowed, Denied}
use Rattle.acl_rules.specs.declared.entry.Entry.{Entry}
use Rattle.acl_rules.specs.declared.rights.Rights.{Rights}
use Rattle.dir_records.specs.Directories.{directory_of, row_named}
use Rattle.dir_records.specs.Records.{Slot}
use Rattle.dir_records.specs.declared.row.DirRow.{DirRow}
use Rattle.naming_tree.specs.declared.step.NameResult.{NameResult}
use Rattle.naming_tree.specs.declared.step.NameResult.TheVariants.{Found, Under, BadDir, Store}
use Rattle.naming_tree.specs.declared.step.Walked.TheVariants.{At}
use Rattle.naming_tree.specs.declared.step.Within.{Within}
use Rattle.mapped_streams.specs.declared.step.StreamResult.{StreamResult}
use Rattle.mapped_streams.specs.declared.step.StreamResult.TheVariants as streams
use Rattle.mapped_streams.specs.Streams.{read_all}
use Rattle.command_talks.specs.Dialogues.{Dialogue, led_on}
use Rattle.command_talks.specs.declared.check.Check.{Check}
use Rattle.command_talks.specs.declared.check.Subject.{Subject}
use Rattle.command_talks.specs.declared.check.Verdict.{Verdict}
use Rattle.command_talks.specs.declared.check.Verdict.TheVariants.{Passes, IsBad, Denies}
use Rattle.command_talks.specs.declared.errand.Errand.{Errand}
use Rattle.command_talks.specs.declared.errand.Errand.TheVariants as errands
use Rattle.command_talks.specs.declared.outcome.Outcome.{Outcome}
use Rattle.command_talks.specs.declared.outcome.Outcome.TheVariants.{Came, Streamed, Written}

-- the name of the list in each directory
abbrev pub list_name : List ℕ
list_name = codes "acl$"

-- some rights, or others in their place for the list's own name
abbrev pub or_own : List ℕ → Rights → Rights → Rights
or_own name plain own = if bytes_eq name list_name then own else plain

abbrev pub to_read : Rights
to_read = rights_with true false false false

abbrev pub to_write : Rights
to_write = rights_with false true false false

abbrev pub to_name : Rights
to_name = rights_with false false true false

abbrev pub to_own : Rights
to_own = rights_with false false false true

-- one that a bad list stops
abbrev pub check_with : ObjectName → Rights → Check
check_with dir need = record { dir = dir; need = need; lenient = false }

-- at a directory itself
abbrev pub at_itself : Rights → NameResult → Option Check
at_itself need (Found (At u kinds.Directory within)) = Some (check_with u need)
at_itself need result = None

-- at the directory in which something has its name, by that name
abbrev pub at_name : Rights → Rights → Option Within → Option Check
at_name plain own None = None
at_name plain own (Some w) = Some (check_with w.dir (or_own w.name plain own))

-- where the bytes of a file are asked for
abbrev pub at_file : Rights → Rights → NameResult → Option Check
at_file plain own (Found (At u kinds.File within)) = at_name plain own within
at_file plain own result = None

-- a directory that is bound is asked itself, and of anything else its directory
abbrev pub at_bound : NameResult → Option Check
at_bound (Found (At u kinds.Directory within)) = Some (check_with u (rights_with true true true true))
at_bound (Found (At u kind within)) = at_name (rights_with true true false false) (rights_with true false false true) within
at_bound result = None

-- at the directory of a last name
abbrev pub at_place : NameResult → Option Check
at_place (Under p) = Some (check_with p.dir (or_own p.name to_name to_own))
at_place result = None

-- a mailbox that is added is a name like others, that of the list too
abbrev pub at_new_mail : NameResult → Option Check
at_new_mail (Under p) = Some (check_with p.dir to_name)
at_new_mail result = None

abbrev pub at_added : ObjKind → NameResult → Option Check
at_added kinds.Mail = at_new_mail
at_added kind = at_place

-- at the directory of a mailbox, by whatever name
abbrev pub at_mail : Rights → NameResult → Option Check
at_mail need (Found (At u kinds.Mail within)) = at_name need need within
at_mail need result = None

-- a list that is bad can be removed
abbrev pub at_removed : NameResult → Option Check
at_removed (Under p) = Some (record { dir = p.dir; need = or_own p.name to_name to_own; lenient = bytes_eq p.name list_name })
at_removed result = None

-- what is checked for each errand; nothing that its walk refuses by kind, and never `//`
abbrev pub check_of : Errand → NameResult → Option Check
check_of errands.Bind = at_bound
check_of errands.Enter = at_itself to_read
check_of errands.List = at_itself to_read
check_of errands.Read = at_file to_read to_read
check_of errands.Count = at_file to_read to_read
check_of (errands.Append text) = at_file to_write to_own
check_of (errands.Put text) = at_mail to_write
check_of errands.Take = at_mail (rights_with true true false false)
check_of (errands.Copy target) = at_file to_read to_read
check_of (errands.Add what) = at_added what.kind
check_of errands.Remove = at_removed
check_of (errands.Fill s) = at_place

-- it is made for a process with a subject; without lists in force there is none
abbrev pub check_for : Option Subject → Option Check → Option (Subject × Check)
check_for None check = None
check_for (Some who) None = None
check_for (Some who) (Some check) = Some (who, check)

-- what a list's bytes say
abbrev pub of_bad : Bool → Verdict
of_bad true = Passes
of_bad false = IsBad

abbrev pub of_decision : Decision → Verdict
of_decision Allowed = Passes
of_decision (Denied k) = Denies k

abbrev pub of_list : Subject → Check → Option (List Entry) → Verdict
of_list who c None = of_bad c.lenient
of_list who c (Some entries) = of_decision (decided entries who.person who.project c.need)

abbrev pub of_text : Subject → Check → List ℕ → Verdict
of_text who c [] = Passes
of_text who c (b ∷ text) = of_list who c (list_of (b ∷ text))

-- the answers of a command that is stopped
abbrev pub bad_list : List ℕ
bad_list = codes "bad access list"

abbrev pub denied : ℕ → List ℕ
denied k = codes "denied " ++ decimal k

-- behind a verdict
abbrev pub on_verdict : (Outcome → Dialogue) → Dialogue → Verdict → Dialogue
on_verdict fails further Passes = further
on_verdict fails further IsBad = fails (Written bad_list)
on_verdict fails further (Denies k) = fails (Written (denied k))

-- behind an object that was read whole
abbrev pub on_bytes : (Outcome → Dialogue) → (List ℕ → Dialogue) → StreamResult → Dialogue
on_bytes fails further (streams.Bytes bytes) = further bytes
on_bytes fails further (streams.Store reply) = fails (Came (Store reply))
on_bytes fails further result = fails (Streamed result)

module _ (who : Subject) (c : Check) (fails : Outcome → Dialogue) (further : Dialogue) where
  -- a list that is a file is read; any other is bad by its record alone
  abbrev pub on_text : StreamResult → Dialogue
  on_text = on_bytes fails (λ text. on_verdict fails further (of_text who c text))

  abbrev pub on_kind : ObjKind → ObjectName → Dialogue
  on_kind kinds.File u = led_on (read_all u) on_text
  on_kind kind u = on_verdict fails further (of_bad c.lenient)

  abbrev pub on_row : Option DirRow → Dialogue
  on_row None = further
  on_row (Some row) = on_kind row.kind row.uid

  abbrev pub on_slots : Option (List Slot) → Dialogue
  on_slots None = fails (Came BadDir)
  on_slots (Some slots) = on_row (row_named list_name slots)

  abbrev pub on_directory : StreamResult → Dialogue
  on_directory = on_bytes fails (λ bytes. on_slots (directory_of bytes))

  -- the directory is read, and then its list
  abbrev pub checked : Dialogue
  checked = led_on (read_all c.dir) on_directory

-- a check, where there is one
abbrev pub checked_by : Option (Subject × Check) → (Outcome → Dialogue) → Dialogue → Dialogue
checked_by None fails further = further
checked_by (Some asked) fails further = checked asked.0 asked.1 fails further
