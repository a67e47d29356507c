-- The machines of commands stand where their dialogues do.
use Rattle.std.proofs.Common.{◌≡◌, lit≤, ℕ, true, Option, Some, None, List, length, rules}
use Rattle.std.specs.Prelude.{nat_le, is_some}
use Rattle.std.proofs.lemmas.Bool.{and_parts, false≢true}
use Rattle.uid_names.specs.Names.{ObjectName}
use Rattle.uid_names.specs.Rooms.{IsRoom}
use Rattle.uid_names.specs.declared.limits.TheConstants.{MAX_ROOM, PAGE_BYTES}
use Rattle.uid_names.specs.declared.mode.ObjKind.{ObjKind}
use Rattle.uid_names.specs.declared.mode.ObjKind.TheVariants as kinds
use Rattle.dom_history.specs.declared.op.Reply.{Reply}
use Rattle.script_reader.specs.declared.command.Command.{Command}
use Rattle.naming_tree.specs.declared.purpose.Purpose.{Purpose}
use Rattle.naming_tree.specs.declared.site.Site.{Site}
use Rattle.naming_tree.specs.Additions.{IsText as IsLinkText}
use Rattle.dir_records.specs.Paths.{route_of}
use Rattle.naming_tree.specs.Turns.{FitsAsked}
use Rattle.naming_tree.specs.ByPaths.{to_parent_of}
use Rattle.naming_tree.specs.NamePaths.{to_parent}
use Rattle.naming_tree.specs.Walking.{walk_of}
use Rattle.naming_tree.specs.Walks.{walk}
use Rattle.naming_tree.proofs.ByPathsLeft.{parent_heard}
use Rattle.naming_tree.proofs.WalksLive.{walk_says}
use Rattle.mapped_streams.specs.Works.{IsText}
use Rattle.mail_box.specs.Boxes.{IsText as IsMessageText}
use Rattle.mail_box.specs.declared.boxes.TheConstants.{TEXT_BYTES}
use Rattle.command_talks.specs.Commands.{Row, row_of, talks, is_path, is_room, is_text, is_message, is_link_text, is_good, is_sound_row, is_sound, dialogue_by, dialogue_for, errand_talk, begun_at, talk_by, talk_for}
use Rattle.command_talks.specs.Deeds.{Deed, errand_of, purpose_of}
use Rattle.command_talks.specs.Deeds as deeds
use Rattle.command_talks.specs.Dialogues.{Dialogue, Ends, asked, told, led_on}
use Rattle.command_talks.specs.Files.{guarded, walk_for, talk_along}
use Rattle.command_talks.specs.FileTalks.{file_turn}
use Rattle.command_talks.specs.Talks.{Turn, Goes, Comes, asks_in, talk_asks, of_file, turn_in, talk_turn}
use Rattle.command_talks.specs.declared.check.Subject.{Subject}
use Rattle.command_talks.specs.declared.errand.Errand.{Errand}
use Rattle.command_talks.specs.declared.file_talk.FileTalk.{FileTalk}
use Rattle.command_talks.specs.declared.file_talk.FileTurn.{FileTurn}
use Rattle.command_talks.specs.declared.file_talk.FileTurn.TheVariants as files
use Rattle.command_talks.specs.declared.talk.Talk.{Talk}
use Rattle.command_talks.proofs.Sims.{FileSim, TurnOn, IsErrand, seek_starts, reach_starts, file_next, file_asked}

-- a machine stands where a dialogue does that asks
abbrev pub SimIn : Option FileTalk → Dialogue → Type 0
SimIn None d = ⊥
SimIn (Some talk) d = FileSim talk d

abbrev pub TalkSim : Talk → Dialogue → Type 0
TalkSim talk d = SimIn talk.at d

-- it goes on so, or comes to the outcome
abbrev pub TalkOn : Option Turn → Dialogue → Type 0
TalkOn None d = ⊥
TalkOn (Some (Goes talk op)) d = (asked d ≡ Some op) × TalkSim talk d
TalkOn (Some (Comes outcome)) d = d ≡ Ends outcome

of_file_on : (turn : Option FileTurn) (d : Dialogue) → TurnOn turn d → TalkOn (of_file turn) d
of_file_on None d h = absurd h
of_file_on (Some (files.Goes talk op)) d h = h
of_file_on (Some (files.Comes outcome)) d h = h

-- a machine that is told what fits goes on as its dialogue does
next_in : (at : Option FileTalk) (d : Dialogue) (reply : Reply) → SimIn at d → FitsAsked (asked d) (Some reply) → TalkOn (turn_in at (Some reply)) (told d reply)
next_in None d reply h fits = absurd h
next_in (Some talk) d reply h fits = of_file_on (file_turn talk (Some reply)) (told d reply) (file_next talk d reply h fits)

pub talk_next : (talk : Talk) (d : Dialogue) (reply : Reply) → TalkSim talk d → FitsAsked (asked d) (Some reply) → TalkOn (talk_turn talk (Some reply)) (told d reply)
talk_next talk d reply h fits = next_in talk.at d reply h fits

-- and asks what that asks
asked_in : (at : Option FileTalk) (d : Dialogue) → SimIn at d → asks_in at ≡ asked d
asked_in None d h = absurd h
asked_in (Some talk) d h = file_asked talk d h

pub talk_asked : (talk : Talk) (d : Dialogue) → TalkSim talk d → talk_asks talk ≡ asked d
talk_asked talk d h = asked_in talk.at d h

pub room_is : (room : ℕ) → is_room room ≡ true → IsRoom room
room_is room h = let both = and_parts (nat_le 1 room) (nat_le room MAX_ROOM) h in (search (rules, both.0), search (rules, both.1))

pub room_of_directory : IsRoom 8
room_of_directory = (lit≤ tt, lit≤ tt)

pub room_of_link : IsRoom 1
room_of_link = (lit≤ tt, lit≤ tt)

pub text_is : (text : List ℕ) → is_text text ≡ true → IsText text
text_is text h = let both = and_parts (nat_le 1 (length text)) (nat_le (length text) PAGE_BYTES) h in record { some = search (rules, both.0); few = search (rules, both.1) }

pub message_is : (text : List ℕ) → is_message text ≡ true → IsMessageText text
message_is text h = let both = and_parts (nat_le 1 (length text)) (nat_le (length text) TEXT_BYTES) h in record { some = search (rules, both.0); few = search (rules, both.1) }

pub link_text_is : (kind : ObjKind) (text : Option (List ℕ)) → is_link_text kind text ≡ true → IsLinkText kind text
link_text_is kinds.Link None h = absurd (false≢true h)
link_text_is kinds.Link (Some text) h = h
link_text_is kinds.File None h = tt
link_text_is kinds.Directory None h = tt
link_text_is kinds.Mail None h = tt
link_text_is kinds.File (Some text) h = absurd (false≢true h)
link_text_is kinds.Directory (Some text) h = absurd (false≢true h)
link_text_is kinds.Mail (Some text) h = absurd (false≢true h)

-- the machine of each command begins with its dialogue
module _ (guard : Option Subject) (site : Site) (dir : ObjectName) where
  deed_good : (deed : Deed) → is_good deed ≡ true → IsErrand (errand_of guard site dir deed)
  deed_good deeds.Binds h = tt
  deed_good deeds.Enters h = tt
  deed_good deeds.Lists h = tt
  deed_good deeds.Reads h = tt
  deed_good deeds.Counts h = tt
  deed_good (deeds.Appends text) h = text_is text h
  deed_good (deeds.Puts text) h = message_is text h
  deed_good deeds.Takes h = tt
  deed_good (deeds.Copies target) h = h
  deed_good (deeds.Adds what) h =
      let both = and_parts (is_room what.room) (is_link_text what.kind what.text) h in
      (room_is what.room both.0, link_text_is what.kind what.text both.1)
  deed_good deeds.Removes h = tt

  errand_starts : (purpose : Option Purpose) (path : List ℕ) (errand : Errand) → is_path path ≡ true → IsErrand errand
      → TurnOn (file_turn (errand_talk purpose guard site dir path errand) None) (led_on (walk_for purpose site dir path) (guarded guard errand))
  errand_starts None path errand sound h = seek_starts errand guard (walk_of site true (route_of path) dir) (walk site path dir true) h (walk_says site dir true path sound)
  errand_starts (Some purpose) path errand sound h =
      reach_starts errand guard (to_parent_of site (route_of path) dir purpose) (to_parent site path dir purpose) h (parent_heard site path dir purpose sound)

  row_starts : (found : Option Row) → is_some found ≡ true → is_sound_row found ≡ true → TalkOn (talk_turn (talk_by guard site dir found) None) (dialogue_by guard site dir found)
  row_starts None some sound = absurd (false≢true some)
  row_starts (Some r) some sound =
      let errand = errand_of guard site dir r.deed in
      let both = and_parts (is_path r.path) (is_good r.deed) sound in
      of_file_on (file_turn (begun_at guard site dir r.path errand) None) (talk_along guard site dir r.path errand)
      (errand_starts (purpose_of errand) r.path errand both.0 (deed_good r.deed both.1))

  pub starts_for : (command : Command) → talks command ≡ true → is_sound command ≡ true → TalkOn (talk_turn (talk_for guard site dir command) None) (dialogue_for guard site dir command)
  starts_for command t sound = row_starts (row_of command) t sound
