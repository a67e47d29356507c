-- Which machines may be told something.
use Rattle.std.proofs.Common.{◌≡◌, ℕ, true, Option, Some, None, List, refl}
use Rattle.std.specs.Prelude.{IsSome, is_some}
use Rattle.std.proofs.lemmas.Bool.{and_parts, false≢true}
use Rattle.uid_names.specs.Names.{ObjectName}
use Rattle.dom_history.specs.declared.op.Op.{Op}
use Rattle.dom_history.specs.declared.op.Reply.{Reply}
use Rattle.script_reader.specs.declared.command.Command.{Command}
use Rattle.dir_records.specs.declared.path.Route.{Route}
use Rattle.dir_records.specs.declared.path.Start.{Start}
use Rattle.naming_tree.specs.declared.purpose.Purpose.{Purpose}
use Rattle.naming_tree.specs.declared.site.Site.{Site}
use Rattle.naming_tree.specs.declared.step.Walked.{Walked}
use Rattle.naming_tree.specs.declared.step.NameResult.{NameResult}
use Rattle.naming_tree.specs.declared.task.Task.{Task}
use Rattle.naming_tree.specs.declared.task.Task.TheVariants.{Reach}
use Rattle.dir_records.specs.Paths.{route_of}
use Rattle.naming_tree.specs.Turns.{FitsAsked, FitsStood}
use Rattle.naming_tree.specs.Walking.{walking_asks, walk_of}
use Rattle.dir_records.specs.LastNames.{last_of}
use Rattle.naming_tree.specs.Changing.{changing_asks}
use Rattle.naming_tree.specs.ListsAt.{listing_asks}
use Rattle.naming_tree.specs.NamePaths.{alone_for}
use Rattle.mapped_streams.specs.declared.streaming.Streaming.{Streaming}
use Rattle.naming_tree.specs.Dialogues.{asked}
use Rattle.mapped_streams.specs.Dialogues.{MayHear, FitsSaid, says, Dialogue, Ends, Asks}
use Rattle.mapped_streams.specs.States.{left, rest}
use Rattle.mail_box.specs.Dialogues as boxes
use Rattle.mail_box.specs.States as box_states
use Rattle.mail_box.specs.declared.mailing.Mailing.{Mailing}
use Rattle.naming_tree.specs.ByPaths.{by_path_asks, on_last, to_parent_of}
use Rattle.command_talks.specs.Commands.{Row, row_of, talks, is_path, is_good, is_sound_row, is_sound, errand_talk, talk_by, talk_for}
use Rattle.command_talks.specs.Deeds.{errand_of, purpose_of}
use Rattle.command_talks.specs.FileTalks.{asked_at, file_asks, mail_asks, stream_asks, MayHearFile}
use Rattle.command_talks.specs.Talks.{asks_in, talk_asks, MayTellIn, MayBeTold}
use Rattle.command_talks.specs.declared.check.Subject.{Subject}
use Rattle.command_talks.specs.declared.errand.Errand.{Errand}
use Rattle.command_talks.specs.declared.talk.Talk.{Talk}
use Rattle.command_talks.specs.declared.file_talk.FileTalk.{FileTalk}
use Rattle.command_talks.specs.declared.file_talk.FileTalk.TheVariants.{Seeks, Reaches, LooksUp, ReadsList, Lists, Changes, Reads, Counts, Appends, Mails, Opens, Adds, Copies, Closes}

-- one that asks something may be told a reply that fits
stood_told : {S : Type 0} (asks : S → Option Op) (m : Option S) (reply : Reply) → FitsAsked (asked_at asks m) (Some reply) → IsSome m × FitsStood asks m (Some reply)
stood_told asks None reply fits = absurd fits
stood_told asks (Some state) reply fits = (refl, fits)

said_told : (d : Dialogue) (reply : Reply) → FitsAsked (asked d) (Some reply) → FitsSaid (says d) reply
said_told (Ends result) reply fits = absurd fits
said_told (Asks op further) reply fits = fits

stream_told : (m : Option Streaming) (reply : Reply) → FitsAsked (stream_asks m) (Some reply) → MayHear (rest m) (Some reply)
stream_told None reply fits = absurd fits
stream_told (Some s) reply fits = said_told (left s) reply fits

mail_said : (d : boxes.Dialogue) (reply : Reply) → FitsAsked (asked d) (Some reply) → boxes.FitsSaid (boxes.says d) reply
mail_said (boxes.Ends result) reply fits = absurd fits
mail_said (boxes.Asks op further) reply fits = fits

mail_told : (m : Option Mailing) (reply : Reply) → FitsAsked (mail_asks m) (Some reply) → boxes.MayHear (box_states.rest m) (Some reply)
mail_told None reply fits = absurd fits
mail_told (Some m) reply fits = mail_said (box_states.left m) reply fits

file_told : (talk : FileTalk) (reply : Reply) → FitsAsked (file_asks talk) (Some reply) → MayHearFile talk (Some reply)
file_told (Seeks walk errand guard) reply fits = stood_told walking_asks walk reply fits
file_told (Reaches m errand guard) reply fits = stood_told by_path_asks m reply fits
file_told (LooksUp m p) reply fits = stream_told m reply fits
file_told (ReadsList m p) reply fits = stream_told m reply fits
file_told (Lists m) reply fits = stood_told listing_asks m reply fits
file_told (Changes m) reply fits = stood_told changing_asks m reply fits
file_told (Reads m) reply fits = stream_told m reply fits
file_told (Counts m) reply fits = stream_told m reply fits
file_told (Appends m) reply fits = stream_told m reply fits
file_told (Mails m) reply fits = mail_told m reply fits
file_told (Opens s stage target) reply fits = fits
file_told (Adds s m) reply fits = stood_told changing_asks m reply fits
file_told (Copies s m) reply fits = stream_told m reply fits
file_told (Closes s outcome) reply fits = fits

told_in : (at : Option FileTalk) (reply : Reply) → FitsAsked (asks_in at) (Some reply) → MayTellIn at (Some reply)
told_in None reply fits = absurd fits
told_in (Some talk) reply fits = file_told talk reply fits

pub talk_told : (talk : Talk) (reply : Reply) → FitsAsked (talk_asks talk) (Some reply) → MayBeTold talk (Some reply)
talk_told talk reply fits = told_in talk.at reply fits

-- one before its first turn may be told nothing
walk_begun : (site : Site) (dir : ObjectName) (route : Option Route) → is_some route ≡ true → IsSome (walk_of site true route dir) × FitsStood walking_asks (walk_of site true route dir) None
walk_begun site dir None h = absurd cc
walk_begun site dir (Some route) h = (refl, tt)

last_begun : (site : Site) (start : Start) (dir : ObjectName) (alone : Option Walked → NameResult) (task : List ℕ → Task) (last : Option (List (List ℕ) × List ℕ))
    → FitsStood by_path_asks (Some (on_last site start dir alone task last)) None
last_begun site start dir alone task None = tt
last_begun site start dir alone task (Some (front, name)) = tt

parent_begun : (site : Site) (dir : ObjectName) (purpose : Purpose) (route : Option Route) → is_some route ≡ true
    → IsSome (to_parent_of site route dir purpose) × FitsStood by_path_asks (to_parent_of site route dir purpose) None
parent_begun site dir purpose None h = absurd cc
parent_begun site dir purpose (Some route) h = (refl, last_begun site route.start dir (alone_for purpose) Reach (last_of route.names))

module _ (guard : Option Subject) (site : Site) (dir : ObjectName) where
  errand_begun : (purpose : Option Purpose) (path : List ℕ) (errand : Errand) → is_path path ≡ true → MayHearFile (errand_talk purpose guard site dir path errand) None
  errand_begun None path errand sound = walk_begun site dir (route_of path) sound
  errand_begun (Some purpose) path errand sound = parent_begun site dir purpose (route_of path) sound

  row_begun : (found : Option Row) → is_some found ≡ true → is_sound_row found ≡ true → MayBeTold (talk_by guard site dir found) None
  row_begun None some sound = absurd (false≢true some)
  row_begun (Some r) some sound =
      let errand = errand_of guard site dir r.deed in
      errand_begun (purpose_of errand) r.path errand (and_parts (is_path r.path) (is_good r.deed) sound).0

  pub begun_for : (command : Command) → talks command ≡ true → is_sound command ≡ true → MayBeTold (talk_for guard site dir command) None
  begun_for command t sound = row_begun (row_of command) t sound
