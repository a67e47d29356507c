-- The commands that are done by a dialogue: a row for each. A site and a working directory say where its paths begin.
use Rattle.std.specs.Prelude.{ℕ, nat_le, Bool, true, false, ◌&&◌, is_some, Option, Some, None, List, length, unwrap_or}
use Rattle.uid_names.specs.Names.{ObjectName}
use Rattle.uid_names.specs.declared.mode.ObjKind.{ObjKind}
use Rattle.uid_names.specs.declared.mode.ObjKind.TheVariants as kinds
use Rattle.uid_names.specs.declared.limits.TheConstants.{MAX_ROOM, PAGE_BYTES}
use Rattle.script_reader.specs.declared.command.Command.{Command}
use Rattle.script_reader.specs.declared.command.Command.TheVariants.{Bind, Crf, Crd, Crl, Dlf, Catf, Lnf, Apf, Cpf, Crm, Putm, Takem, Ld, Wd}
use Rattle.mail_box.specs.declared.boxes.TheConstants.{TEXT_BYTES}
use Rattle.naming_tree.specs.declared.purpose.Purpose.{Purpose}
use Rattle.naming_tree.specs.declared.site.Site.{Site}
use Rattle.dir_records.specs.Paths.{route_of}
use Rattle.naming_tree.specs.declared.step.NameResult.TheVariants.{Removed}
use Rattle.naming_tree.specs.Walking.{walk_of}
use Rattle.naming_tree.specs.ByPaths.{to_parent_of}
use Rattle.command_talks.specs.Deeds.{Deed, errand_of, purpose_of}
use Rattle.command_talks.specs.Deeds as deeds
use Rattle.command_talks.specs.Dialogues.{Dialogue, came}
use Rattle.command_talks.specs.Files.{talk_along}
use Rattle.command_talks.specs.Intentions.{object_for}
use Rattle.command_talks.specs.Talks.{talk_in}
use Rattle.command_talks.specs.declared.check.Subject.{Subject}
use Rattle.command_talks.specs.declared.errand.Errand.{Errand}
use Rattle.command_talks.specs.declared.file_talk.FileTalk.{FileTalk}
use Rattle.command_talks.specs.declared.file_talk.FileTalk.TheVariants.{Seeks, Reaches}
use Rattle.command_talks.specs.declared.talk.Talk.{Talk}

-- the path that a command walks along, and what it does behind the walk
pub record Row : Type 0 where
  pub path : List ℕ
  pub deed : Deed

abbrev pub row_with : List ℕ → Deed → Row
row_with path deed = record { path = path; deed = deed }

-- the row of a command; None of one that has no dialogue
abbrev pub row_of : Command → Option Row
row_of (Bind var path) = Some (row_with path deeds.Binds)
row_of (Crf path room) = Some (row_with path (deeds.Adds (object_for kinds.File (unwrap_or room 16) None)))
row_of (Crd path) = Some (row_with path (deeds.Adds (object_for kinds.Directory 8 None)))
row_of (Crl path target) = Some (row_with path (deeds.Adds (object_for kinds.Link 1 (Some target))))
row_of (Dlf path) = Some (row_with path deeds.Removes)
row_of (Catf path) = Some (row_with path deeds.Reads)
row_of (Lnf path) = Some (row_with path deeds.Counts)
row_of (Apf path text) = Some (row_with path (deeds.Appends text))
row_of (Cpf path target) = Some (row_with path (deeds.Copies target))
row_of (Crm path) = Some (row_with path (deeds.Adds (object_for kinds.Mail 8 None)))
row_of (Putm path text) = Some (row_with path (deeds.Puts text))
row_of (Takem path) = Some (row_with path deeds.Takes)
row_of (Ld path) = Some (row_with path deeds.Lists)
row_of (Wd (Some path)) = Some (row_with path deeds.Enters)
row_of _ = None

-- a command is done by a dialogue
abbrev pub talks : Command → Bool
talks command = is_some (row_of command)

-- its paths are paths, its room is one, and so is its text, as they are in every script
abbrev pub is_path : List ℕ → Bool
is_path text = is_some (route_of text)

abbrev pub is_room : ℕ → Bool
is_room room = nat_le 1 room && nat_le room MAX_ROOM

abbrev pub is_text : List ℕ → Bool
is_text text = nat_le 1 (length text) && nat_le (length text) PAGE_BYTES

abbrev pub is_message : List ℕ → Bool
is_message text = nat_le 1 (length text) && nat_le (length text) TEXT_BYTES

abbrev pub is_link_text : ObjKind → Option (List ℕ) → Bool
is_link_text kinds.Link None = false
is_link_text kinds.Link (Some text) = is_path text
is_link_text _ None = true
is_link_text _ (Some text) = false

abbrev pub is_good : Deed → Bool
is_good (deeds.Appends text) = is_text text
is_good (deeds.Puts text) = is_message text
is_good (deeds.Copies target) = is_path target
is_good (deeds.Adds what) = is_room what.room && is_link_text what.kind what.text
is_good _ = true

abbrev pub is_sound_row : Option Row → Bool
is_sound_row None = true
is_sound_row (Some r) = is_path r.path && is_good r.deed

abbrev pub is_sound : Command → Bool
is_sound command = is_sound_row (row_of command)

-- the dialogue of a row, for a process with this subject, or for one that no list binds
abbrev pub dialogue_by : Option Subject → Site → ObjectName → Option Row → Dialogue
dialogue_by guard site dir None = came Removed
dialogue_by guard site dir (Some r) = talk_along guard site dir r.path (errand_of guard site dir r.deed)

abbrev pub dialogue_for : Option Subject → Site → ObjectName → Command → Dialogue
dialogue_for guard site dir command = dialogue_by guard site dir (row_of command)

-- the machine of an errand before its first turn, by what its path is walked along for
abbrev pub errand_talk : Option Purpose → Option Subject → Site → ObjectName → List ℕ → Errand → FileTalk
errand_talk None guard site dir path errand = Seeks (walk_of site true (route_of path) dir) errand guard
errand_talk (Some purpose) guard site dir path errand = Reaches (to_parent_of site (route_of path) dir purpose) errand guard

-- and that of a row
abbrev pub begun_at : Option Subject → Site → ObjectName → List ℕ → Errand → FileTalk
begun_at guard site dir path errand = errand_talk (purpose_of errand) guard site dir path errand

abbrev pub talk_by : Option Subject → Site → ObjectName → Option Row → Talk
talk_by guard site dir None = talk_in None
talk_by guard site dir (Some r) = talk_in (Some (begun_at guard site dir r.path (errand_of guard site dir r.deed)))

abbrev pub talk_for : Option Subject → Site → ObjectName → Command → Talk
talk_for guard site dir command = talk_by guard site dir (row_of command)
