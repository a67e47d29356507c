-- The dialogues of what is done behind the walk along a command's path.
use Rattle.std.specs.Prelude.{ℕ, max, true, Option, Some, None, List, [], ◌∷◌}
use Rattle.uid_names.specs.Names.{ObjectName}
use Rattle.uid_names.specs.declared.mode.Mode.TheVariants.{Read}
use Rattle.uid_names.specs.declared.mode.ObjKind.TheVariants as kinds
use Rattle.dom_history.specs.declared.op.Op.{Op}
use Rattle.dom_history.specs.declared.op.Op.TheVariants.{Lock, Unlock, Length, Map}
use Rattle.naming_tree.specs.declared.purpose.Purpose.{Purpose}
use Rattle.naming_tree.specs.declared.purpose.Purpose.TheVariants.{Adds}
use Rattle.naming_tree.specs.declared.site.Site.{Site}
use Rattle.naming_tree.specs.declared.step.NameResult.{NameResult}
use Rattle.naming_tree.specs.declared.step.NameResult.TheVariants.{Under, Added}
use Rattle.naming_tree.specs.declared.step.Within.{Within}
use Rattle.naming_tree.specs.Additions.{add_at}
use Rattle.naming_tree.specs.Dialogues as names
use Rattle.naming_tree.specs.Entering.{pages}
use Rattle.naming_tree.specs.NamePaths.{addition, listing_at, to_parent}
use Rattle.naming_tree.specs.Removals.{drop_at}
use Rattle.naming_tree.specs.Sessions.{fine, size, place}
use Rattle.naming_tree.specs.Walks.{walk}
use Rattle.mapped_streams.specs.declared.step.StreamResult.{StreamResult}
use Rattle.mapped_streams.specs.declared.step.StreamResult.TheVariants as streams
use Rattle.mapped_streams.specs.declared.mapped.Mapped.{Mapped}
use Rattle.mapped_streams.specs.Streams.{read_all, count_lines, append, copy}
use Rattle.mail_box.specs.Mails.{put_mail, take_mail}
use Rattle.command_talks.specs.Arriving.{file_in, mail_in, directory_in}
use Rattle.command_talks.specs.Checks.{at_place, check_for, check_of, checked_by}
use Rattle.command_talks.specs.Deeds.{purpose_of}
use Rattle.command_talks.specs.declared.check.Subject.{Subject}
use Rattle.command_talks.specs.declared.errand.Errand.{Errand}
use Rattle.command_talks.specs.declared.errand.Errand.TheVariants as errands
use Rattle.command_talks.specs.declared.outcome.Outcome.{Outcome}
use Rattle.command_talks.specs.declared.arriving.Arrival.{Arrival}
use Rattle.command_talks.specs.declared.arriving.Arrival.TheVariants.{There, Else}
use Rattle.command_talks.specs.declared.outcome.Outcome.TheVariants.{Came, Streamed}
use Rattle.command_talks.specs.Dialogues.{Dialogue, Ends, led_on, came, streamed, mailed, closing, ask}
use Rattle.command_talks.specs.Sources.{Sourced, Targeted, mapped_at, closers}

-- a path leads to an object such as is asked for, with which it goes on, or to something else
abbrev pub on_arrival : (ObjectName → Dialogue) → Arrival → Dialogue
on_arrival further (There u) = further u
on_arrival further (Else outcome) = Ends outcome

abbrev pub on_file : (ObjectName → Dialogue) → NameResult → Dialogue
on_file further result = on_arrival further (file_in result)

abbrev pub on_mail : (ObjectName → Dialogue) → NameResult → Dialogue
on_mail further result = on_arrival further (mail_in result)

-- a path leads to a directory, which is listed
abbrev pub on_listed : NameResult → Dialogue
on_listed result = on_arrival (λ u. led_on (listing_at u) came) (directory_in result)

-- a path leads to a name in a directory, with which it goes on
abbrev pub on_place : (Within → Dialogue) → NameResult → Dialogue
on_place further (Under p) = further p
on_place further result = Ends (Came result)

-- the room of a copy: one page at least
abbrev pub room_for : ℕ → ℕ
room_for n = max 1 (pages n)

-- the source is closed, and the first that is refused is the outcome
abbrev pub shutting : List Op → Outcome → Dialogue
shutting [] outcome = Ends outcome
shutting (op ∷ held) outcome = ask fine held op (λ _. shutting held outcome)

-- the bytes are copied: the source is closed, as it is behind a refusal
abbrev pub on_copied : List Op → StreamResult → Dialogue
on_copied held streams.Fine = shutting held (Streamed streams.Fine)
on_copied held result = closing held (Streamed result)

-- the target is made, and takes the bytes of the source
abbrev pub on_added : List Op → Mapped → NameResult → Dialogue
on_added held source (Added v) = led_on (copy source v) (on_copied held)
on_added held source result = closing held (Came result)

-- the target is a name for a new file, in the directory that was found for it
abbrev pub filling : Sourced → NameResult → Dialogue
filling s (Under p) = led_on (add_at p.dir (addition kinds.File (room_for s.at.length) None p.name)) (on_added (closers s) s.at)
filling s result = closing (closers s) (Came result)

-- where a check stops it, the source is closed
abbrev pub fill_checked : Option Subject → Sourced → NameResult → Dialogue
fill_checked guard s = λ result. checked_by (check_for guard (at_place result)) (λ outcome. closing (closers s) outcome) (filling s result)

-- the source is open: the directory of the target's name is looked for
abbrev pub copy_open : Targeted → Sourced → Dialogue
copy_open target s = led_on (to_parent target.site target.path target.dir Adds) (fill_checked target.guard s)

abbrev pub map_source : Targeted → ObjectName → ℕ → Dialogue
map_source target u n = ask place (Unlock u ∷ []) (Map u) (λ at. copy_open target (record { uid = u; at = mapped_at at.0 n; fresh = at.1 }))

abbrev pub measure_source : Targeted → ObjectName → Dialogue
measure_source target u = ask size (Unlock u ∷ []) (Length u) (λ n. map_source target u n)

-- a file is copied to a new name
abbrev pub copy_from : Targeted → ObjectName → Dialogue
copy_from target u = ask fine [] (Lock u Read) (λ _. measure_source target u)

-- behind a walk that came to this: a file's bytes, how many lines it has, a text behind its bytes, and so on
abbrev pub behind : Errand → NameResult → Dialogue
behind errands.Bind = came
behind errands.Enter = came
behind errands.List = on_listed
behind errands.Read = on_file (λ u. led_on (read_all u) streamed)
behind errands.Count = on_file (λ u. led_on (count_lines u) streamed)
behind (errands.Append text) = on_file (λ u. led_on (append u text) streamed)
behind (errands.Put text) = on_mail (λ u. led_on (put_mail u text) mailed)
behind errands.Take = on_mail (λ u. led_on (take_mail u) mailed)
behind (errands.Copy target) = on_file (copy_from target)
behind (errands.Add what) = on_place (λ p. led_on (add_at p.dir (addition what.kind what.room what.text p.name)) came)
behind errands.Remove = on_place (λ p. led_on (drop_at p.dir p.name) came)
behind (errands.Fill s) = filling s

-- where a check stops it, what it has opened is closed
abbrev pub fails_of : Errand → Outcome → Dialogue
fails_of (errands.Fill s) = λ outcome. closing (closers s) outcome
fails_of errand = λ outcome. Ends outcome

-- for a process with a subject it is checked first
abbrev pub guarded : Option Subject → Errand → NameResult → Dialogue
guarded guard errand = λ result. checked_by (check_for guard (check_of errand result)) (fails_of errand) (behind errand result)

-- the walk: to the end of a path, where a link is followed, or to the directory of its last name
abbrev pub walk_for : Option Purpose → Site → ObjectName → List ℕ → names.Dialogue
walk_for None site dir path = walk site path dir true
walk_for (Some purpose) site dir path = to_parent site path dir purpose

-- a path is walked along, and its errand is done behind the walk
abbrev pub talk_along : Option Subject → Site → ObjectName → List ℕ → Errand → Dialogue
talk_along guard site dir path errand = led_on (walk_for (purpose_of errand) site dir path) (guarded guard errand)
