-- What the code knows of how machines begin.
use Rattle.std.proofs.Common.{◌≡◌, ℕ, true, Option, Some, None, List, length, lit≤, refl}
use Rattle.std.specs.Prelude.{IfSome, nat_le, unwrap_or}
use Rattle.std.proofs.lemmas.Bool.{and_from}
use Rattle.uid_names.proofs.Passed.{le-passes}
use Rattle.uid_names.specs.Names.{ObjectName}
use Rattle.uid_names.specs.Rooms.{IsRoom}
use Rattle.uid_names.specs.declared.limits.TheConstants.{MAX_ROOM, PAGE_BYTES}
use Rattle.uid_names.specs.declared.mode.ObjKind.{ObjKind}
use Rattle.uid_names.specs.declared.mode.ObjKind.TheVariants as kinds
use Rattle.script_reader.specs.declared.command.Command.{Command}
use Rattle.script_reader.specs.declared.command.Command.TheVariants.{New, Lock, Unlock, Delete, Load, Store, Length, Map, Unmap, Loadat, Storeat, Bind, Crf, Crd, Crl, Dlf, Catf, Lnf, Apf, Cpf, Crm, Putm, Takem, Ld, Wd, Llkob}
use Rattle.mail_box.specs.declared.boxes.TheConstants.{TEXT_BYTES}
use Rattle.naming_tree.specs.declared.site.Site.{Site}
use Rattle.command_talks.specs.Commands.{talks, is_path, is_room, is_text, is_message, is_link_text, is_good, is_sound, talk_for}
use Rattle.command_talks.specs.Deeds as deeds
use Rattle.command_talks.specs.Intentions.{object_for}
use Rattle.command_talks.specs.Ranges.{IsRanged}
use Rattle.command_talks.specs.Talks.{MayBeTold}
use Rattle.command_talks.specs.declared.check.Subject.{Subject}
use Rattle.command_talks.proofs.Readies.{begun_for}

-- the room of a file
pub room_or : (room : Option ℕ) → IfSome room IsRoom → IsRoom (unwrap_or room 16)
room_or None h = (lit≤ tt, lit≤ tt)
room_or (Some room) h = h

room_yes : (room : ℕ) → IsRoom room → is_room room ≡ true
room_yes room h = and_from (nat_le 1 room) (nat_le room MAX_ROOM) (le-passes 1 room h.0) (le-passes room MAX_ROOM h.1)

-- what a command of a script adds is such
added_yes : (kind : ObjKind) (room : ℕ) (text : Option (List ℕ)) → is_room room ≡ true → is_link_text kind text ≡ true → is_good (deeds.Adds (object_for kind room text)) ≡ true
added_yes kind room text h k = and_from (is_room room) (is_link_text kind text) h k

-- the paths and the room of a command of a script are such
pub ranged_sound : (command : Command) → IsRanged command → is_sound command ≡ true
ranged_sound (Bind var path) h = and_from (is_path path) true h.1.0 refl
ranged_sound (Crf path room) h =
    let pages = unwrap_or room 16 in
    and_from (is_path path) (is_good (deeds.Adds (object_for kinds.File pages None))) h.0 (added_yes kinds.File pages None (room_yes pages (room_or room h.1.0)) refl)
ranged_sound (Crd path) h = and_from (is_path path) (is_good (deeds.Adds (object_for kinds.Directory 8 None))) h.0 refl
ranged_sound (Crl path target) h = and_from (is_path path) (is_good (deeds.Adds (object_for kinds.Link 1 (Some target)))) h.0 (added_yes kinds.Link 1 (Some target) refl h.1.0)
ranged_sound (Dlf path) h = and_from (is_path path) true h.0 refl
ranged_sound (Catf path) h = and_from (is_path path) true h.0 refl
ranged_sound (Lnf path) h = and_from (is_path path) true h.0 refl
ranged_sound (Apf path text) h = and_from (is_path path) (is_text text) h.0 (and_from (nat_le 1 (length text)) (nat_le (length text) PAGE_BYTES) (le-passes 1 (length text) h.1.0.0) (le-passes (length text) PAGE_BYTES h.1.0.1))
ranged_sound (Cpf path target) h = and_from (is_path path) (is_path target) h.0 h.1.0
ranged_sound (Crm path) h = and_from (is_path path) (is_good (deeds.Adds (object_for kinds.Mail 8 None))) h.0 refl
ranged_sound (Putm path text) h = and_from (is_path path) (is_message text) h.0 (and_from (nat_le 1 (length text)) (nat_le (length text) TEXT_BYTES) (le-passes 1 (length text) h.1.0.0) (le-passes (length text) TEXT_BYTES h.1.0.1))
ranged_sound (Takem path) h = and_from (is_path path) true h.0 refl
ranged_sound (Ld path) h = and_from (is_path path) true h.0 refl
ranged_sound (Wd (Some path)) h = and_from (is_path path) true h.0 refl
ranged_sound (Wd None) h = refl
ranged_sound (Llkob node) h = refl
ranged_sound (New var room home) h = refl
ranged_sound (Lock var mode) h = refl
ranged_sound (Unlock var) h = refl
ranged_sound (Delete var) h = refl
ranged_sound (Load var offset count) h = refl
ranged_sound (Store var offset text) h = refl
ranged_sound (Length var) h = refl
ranged_sound (Map var) h = refl
ranged_sound (Unmap var) h = refl
ranged_sound (Loadat address count) h = refl
ranged_sound (Storeat address text) h = refl

pub ranged_begun : (guard : Option Subject) (site : Site) (dir : ObjectName) (command : Command) → talks command ≡ true → IsRanged command → MayBeTold (talk_for guard site dir command) None
ranged_begun guard site dir command t ranged = begun_for guard site dir command t (ranged_sound command ranged)
