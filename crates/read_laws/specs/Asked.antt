-- A check between the items of a history: the process reads the directory, and then the list there. Lists of items have the newest first.
use Rattle.std.specs.Prelude.{◌≡◌, ℕ, Some, List, ◌++◌}
use Rattle.uid_names.specs.Names.{ObjectName, ProcName}
use Rattle.uid_names.specs.Openings.{Start}
use Rattle.uid_names.specs.declared.mode.ObjKind.TheVariants as kinds
use Rattle.dom_history.specs.Histories.{History, Item}
use Rattle.dir_records.specs.Directories.{directory_of, row_named}
use Rattle.dir_records.specs.Records.{Slot}
use Rattle.dir_records.specs.declared.row.DirRow.{DirRow}
use Rattle.naming_tree.specs.Dialogues.{Ends}
use Rattle.naming_tree.specs.declared.step.NameResult.{NameResult}
use Rattle.mapped_streams.specs.Streams.{read_all}
use Rattle.mapped_streams.specs.declared.step.StreamResult.TheVariants.{Bytes}
use Rattle.command_talks.specs.Checks.{check_of, list_name, of_text, on_verdict}
use Rattle.command_talks.specs.Files.{behind, fails_of, guarded}
use Rattle.command_talks.specs.declared.check.Check.{Check}
use Rattle.command_talks.specs.declared.check.Subject.{Subject}
use Rattle.command_talks.specs.declared.errand.Errand.{Errand}
use Rattle.read_laws.specs.Carrying.{CarriesOn, carried}
use Rattle.read_laws.specs.Loads.{LoadsTell, loaded}

-- the process reads an object whole between these items, and these are the bytes
pub record ReadsWhole (p : ProcName) (u : ObjectName) (items : List Item) (bytes : List ℕ) : Type 0 where
  pub asks : CarriesOn p (read_all u) items
  pub ends : carried p (read_all u) items ≡ Ends (Bytes bytes)

-- it reads a directory between these items, and finds a list there, which is a file
pub record FindsList (p : ProcName) (dir : ObjectName) (earlier : List Item) (row : DirRow) : Type 0 where
  pub bytes : List ℕ
  pub slots : List Slot
  pub reads_dir : ReadsWhole p dir earlier bytes
  pub directory : directory_of bytes ≡ Some slots
  pub found : row_named list_name slots ≡ Some row
  pub is_file : row.kind ≡ kinds.File

-- and between later ones it reads the list, of which this is the text
pub record ReadsList (p : ProcName) (dir : ObjectName) (earlier later : List Item) (row : DirRow) (text : List ℕ) : Type 0 where
  pub finds : FindsList p dir earlier row
  pub reads_list : ReadsWhole p row.uid later text

-- each load of an object that was read so told bytes of it as one store has them there, and these were all that was read
pub record IsOfStore (opening : Start) (p : ProcName) (u : ObjectName) (older items : List Item) (bytes : List ℕ) : Type 0 where
  pub loads : LoadsTell opening p u older items
  pub whole : loaded p items ≡ bytes

-- what is left of an errand then is what the list's text says, and both texts are of one store
pub record IsDecided (opening : Start) (p : ProcName) (who : Subject) (errand : Errand) (come : NameResult) (c : Check) (older earlier later : List Item) (row : DirRow) (text : List ℕ) : Type 0 where
  pub comes : carried p (guarded (Some who) errand come) (later ++ earlier) ≡ on_verdict (fails_of errand) (behind errand come) (of_text who c text)
  pub bytes : List ℕ
  pub of_dir : IsOfStore opening p c.dir older earlier bytes
  pub of_list : IsOfStore opening p row.uid (earlier ++ older) later text

-- wherever a check reads its list in a history
abbrev pub GoesByStore : Start → History → ProcName → Subject → Errand → NameResult → Check → Type 0
GoesByStore opening h p who errand come c =
    (newer later earlier older : List Item) (row : DirRow) (text : List ℕ) → h.items ≡ newer ++ (later ++ (earlier ++ older)) → ReadsList p c.dir earlier later row text
    → IsDecided opening p who errand come c older earlier later row text

-- so does each check of each command
abbrev pub ChecksGoByStore : Start → History → Type 0
ChecksGoByStore opening h = (p : ProcName) (who : Subject) (errand : Errand) (come : NameResult) (c : Check) → check_of errand come ≡ Some c → GoesByStore opening h p who errand come c
