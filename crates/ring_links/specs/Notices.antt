-- The notice of a frame that was lost or is late, its event, and what the event receives.
use Rattle.std.specs.Prelude.{ℕ}
use Rattle.dom_history.specs.declared.event.What.{What}
use Rattle.dom_history.specs.declared.event.What.TheVariants as events
use Rattle.ring_messages.specs.Frames.{Message}
use Rattle.node_runs.specs.Incomings.{Incoming}
use Rattle.ring_links.specs.declared.notice.Notice.{Notice}

-- the notice of a frame with this number on its link
abbrev pub notice_for : Message → ℕ → Notice
notice_for m index = record { proc = m.proc; from = m.from; to = m.to; index = index; number = m.number; tick = m.tick }

abbrev pub notice_what : Notice → What
notice_what x = events.Notice x.proc x.from x.to x.index

abbrev pub notice_incoming : Notice → Incoming
notice_incoming x = Incoming.Gone x.number x.tick
