-- What of the pages of a node is counted: which loads and stores asked no home, why pages were dropped, and for what they were sent home.
use Rattle.std.specs.Prelude.{ℕ, ◌==◌, ◌&&◌, ◌||◌, Bool, false, not, is_none, is_some, if◌then◌else◌, Option, Some, None, List, [], codes, bytes_eq, nat_eq}
use Rattle.std.specs.List.{list_any, starts_with}
use Rattle.uid_names.specs.FrameKinds.{kind_number}
use Rattle.uid_names.specs.declared.frame_kind.FrameKind.TheVariants.{Granted, PageIn, PageOut}
use Rattle.dom_history.specs.declared.event.Sent.{Sent}
use Rattle.dom_text.specs.Cuts.{cut_at}
use Rattle.event_views.specs.Chosen.{names_command}
use Rattle.event_views.specs.Labels.{command_in}
use Rattle.event_views.specs.declared.command.CommandName.{CommandName}
use Rattle.event_views.specs.declared.command.CommandView.{CommandView}
use Rattle.event_views.specs.declared.run.EventView.{EventView}
use Rattle.event_views.specs.declared.run.FrameView.{FrameView}
use Rattle.event_counts.specs.CommandCounts.{front_of}
use Rattle.event_counts.specs.FrameCounts.{is_of_kind}
use Rattle.event_counts.specs.NodeCounts.{asks, dropped_at}
use Rattle.event_counts.specs.declared.pages.Cause.{Cause}
use Rattle.event_counts.specs.declared.pages.Cause.TheVariants.{Room, Written, Gone}
use Rattle.event_counts.specs.declared.pages.Errand.{Errand}
use Rattle.event_counts.specs.declared.pages.Errand.TheVariants as errands

-- ---- words of commands

-- the first of these words is this one
abbrev pub is_first : List ℕ → List ℕ → Bool
is_first words word = bytes_eq (front_of (cut_at 32 words) words) word

-- the command is one load or one store
abbrev pub is_access : List ℕ → Bool
is_access words = is_first words (codes "load") || (is_first words (codes "store") || (is_first words (codes "loadat") || is_first words (codes "storeat")))

-- it gives a lock up, alone or with its object
abbrev pub is_release : List ℕ → Bool
is_release words = is_first words (codes "unlock") || is_first words (codes "delete")

-- ---- loads and stores that asked no home

-- it was done
abbrev pub is_done : Option (List ℕ) → Bool
is_done None = false
is_done (Some answer) = starts_with nat_eq answer (codes "ok")

-- the frame asks a home for a page, for a command
abbrev pub asks_for : CommandName → Option FrameView → Bool
asks_for c None = false
asks_for c (Some frame) = (kind_number frame.said.kind == kind_number PageIn) && names_command c frame.command

-- a load or a store of a process of a node was done, and no page was asked for it
abbrev pub is_hit : ℕ → List EventView → CommandView → Bool
is_hit node views row =
    (row.name.proc.node == node) && (is_access row.words && (is_done row.answer && not (list_any (λ v. asks_for row.name v.sent) views)))

-- ---- why pages were dropped

-- to make room, where the event asks for another page; since another process had stored, where a grant tells so; else the object is gone
abbrev pub is_cause : Cause → Option Sent → Option FrameView → Bool
is_cause Room sent met = is_some sent
is_cause Written sent met = is_none sent && is_of_kind Granted met
is_cause Gone sent met = is_none sent && not (is_of_kind Granted met)

-- how many pages an event dropped at a node for this cause
abbrev pub dropped_for : ℕ → Cause → EventView → ℕ
dropped_for node cause v = if is_cause cause v.event.effects.sent v.met then dropped_at node v else 0

-- ---- for what pages were sent home

-- the words of the command for which a frame was sent
abbrev pub words_in : Option CommandView → List ℕ
words_in None = []
words_in (Some row) = row.words

abbrev pub words_named : List CommandView → Option CommandName → List ℕ
words_named commands None = []
words_named commands (Some c) = words_in (command_in commands c)

abbrev pub words_for : List CommandView → Option FrameView → List ℕ
words_for commands None = []
words_for commands (Some frame) = words_named commands frame.command

-- to make room, where the command is a load or a store; before a lock is given up; else the command makes several operations
abbrev pub is_errand : Errand → List ℕ → Bool
is_errand errands.Room words = is_access words
is_errand errands.Release words = is_release words
is_errand errands.Other words = not (is_access words || is_release words)

-- a node sends a page home on this errand, what is sent again left out
abbrev pub sends_home : ℕ → List CommandView → Errand → EventView → Bool
sends_home node commands errand v = asks node PageOut v && is_errand errand (words_for commands v.sent)
