-- Which events are chosen.
use Rattle.std.specs.Prelude.{ℕ, Bool, true, false, nat_le, ◌==◌, ◌&&◌, ◌||◌, is_none, Option, Some, None, List, filter}
use Rattle.std.specs.List.{list_any}
use Rattle.uid_names.specs.Names.{ObjectName, same_uid}
use Rattle.event_views.specs.Commands.{same_command}
use Rattle.event_views.specs.declared.choice.Choice.{Choice}
use Rattle.event_views.specs.declared.command.CommandName.{CommandName}
use Rattle.event_views.specs.declared.run.FrameView.{FrameView}
use Rattle.event_views.specs.declared.run.EventView.{EventView}

-- a tick is not below the first one, nor above the last one, where these are chosen
abbrev pub is_from : Option ℕ → ℕ → Bool
is_from None tick = true
is_from (Some first) tick = nat_le first tick

abbrev pub is_to : Option ℕ → ℕ → Bool
is_to None tick = true
is_to (Some last) tick = nat_le tick last

-- what is said of an object or a page is of the one that is chosen, if one is
abbrev pub is_object : Option ObjectName → Option ObjectName → Bool
is_object None named = true
is_object (Some u) None = false
is_object (Some u) (Some v) = same_uid u v

abbrev pub is_page : Option ℕ → Option ℕ → Bool
is_page None named = true
is_page (Some k) None = false
is_page (Some k) (Some n) = k == n

abbrev pub says_so : Choice → Option FrameView → Bool
says_so choice None = false
says_so choice (Some frame) = is_object choice.object frame.said.uid && is_page choice.page frame.said.page

abbrev pub drops_so : Choice → ObjectName × ℕ → Bool
drops_so choice page = is_object choice.object (Some page.0) && is_page choice.page (Some page.1)

-- no object and no page is chosen, or the event sent, met or dropped something of them
abbrev pub is_about : Choice → EventView → Bool
is_about choice v =
    (is_none choice.object && is_none choice.page)
    || (says_so choice v.sent || (says_so choice v.met || list_any (drops_so choice) v.event.effects.dropped))

abbrev pub names_command : CommandName → Option CommandName → Bool
names_command c None = false
names_command c (Some d) = same_command c d

abbrev pub sent_for : CommandName → Option FrameView → Bool
sent_for c None = false
sent_for c (Some frame) = names_command c frame.command

-- the command begins or is answered with the event, or it sent or met a frame that was sent for it
abbrev pub is_of : CommandName → EventView → Bool
is_of c v = names_command c v.begun || (list_any (same_command c) v.answered || (sent_for c v.sent || sent_for c v.met))

abbrev pub is_of_command : Option CommandName → EventView → Bool
is_of_command None v = true
is_of_command (Some c) v = is_of c v

abbrev pub is_chosen : Choice → EventView → Bool
is_chosen choice v =
    (is_from choice.from v.event.place.tick && is_to choice.to v.event.place.tick)
    && (is_about choice v && is_of_command choice.command v)

-- the frame that an event sent is itself one that is chosen, or no object, page or command is
abbrev pub is_sent_about : Choice → EventView → Bool
is_sent_about choice v = (is_none choice.object && is_none choice.page) || says_so choice v.sent

abbrev pub is_sent_for : Option CommandName → Option FrameView → Bool
is_sent_for None frame = true
is_sent_for (Some c) frame = sent_for c frame

abbrev pub is_sent_chosen : Choice → EventView → Bool
is_sent_chosen choice v = is_sent_about choice v && is_sent_for choice.command v.sent

-- the events that are chosen, in order
abbrev pub chosen : Choice → List EventView → List EventView
chosen choice views = filter (is_chosen choice) views
