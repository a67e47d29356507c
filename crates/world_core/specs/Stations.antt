-- The events that may come to a node of a world, and which of them are enabled there.
use Rattle.std.specs.Prelude.{ℕ, ◌+◌, Bool, List, [], ◌∷◌, ◌++◌, map, filter, flat_map}
use Rattle.dom_history.specs.declared.event.What.{What}
use Rattle.dom_history.specs.declared.event.What.TheVariants as events
use Rattle.fault_handler.specs.Desks.{procs}
use Rattle.node_runs.specs.Incomings.{Incoming}
use Rattle.ring_links.specs.declared.entry.Waiting.{Waiting}
use Rattle.ring_links.specs.declared.entry.Waiting.TheVariants.{Copy, Mark}
use Rattle.ring_links.specs.declared.entry.Entry.{Entry}
use Rattle.ring_links.specs.declared.notice.Notice.{Notice}
use Rattle.ring_links.specs.Notices.{notice_what, notice_incoming}
use Rattle.node_core.specs.declared.setup.Incoming as code
use Rattle.node_core.specs.Receivings.{seen}
use Rattle.node_core.specs.Nodes.{Noted, state_of, is_enabled}
use Rattle.node_core.specs.Starts.{starts_of as events_of}
use Rattle.world_core.specs.declared.coming.Coming.{Coming}
use Rattle.world_core.specs.declared.coming.Source.TheVariants as sources
use Rattle.world_core.specs.declared.station.LinkFrom.{LinkFrom}

-- an event that may come, with what it would receive
pub record Candidate : Type 0 where
  pub coming : Coming
  pub incoming : Incoming

-- one that receives nothing
abbrev pub start : What → Candidate
start what = record { coming = record { what = what; source = sources.Nothing }; incoming = Incoming.Nothing }

-- those of a process
abbrev pub starts_of : ℕ → List Candidate
starts_of p = map start (events_of p)

-- the notice at this place
abbrev pub notice_at : ℕ → Notice → Candidate
notice_at i x = record { coming = record { what = notice_what x; source = sources.Notice i }; incoming = notice_incoming x }

-- notices, from the one at this place on
abbrev pub noticed : ℕ → List Notice → List Candidate
noticed i [] = []
noticed i (x ∷ more) = notice_at i x ∷ noticed (i + 1) more

-- the event that takes an entry of a link
abbrev pub what_of : ℕ → Waiting → What
what_of from (Copy index) = events.Take from index
what_of from (Mark phase) = events.Mark from phase

abbrev pub oldest_of : ℕ → ℕ → List (Entry code.Incoming) → List Candidate
oldest_of i from [] = []
oldest_of i from (e ∷ more) =
    record { coming = record { what = what_of from e.waiting; source = sources.Link i }; incoming = seen e.received } ∷ []

-- the oldest entries of links, from the one at this place on
abbrev pub oldest : ℕ → List LinkFrom → List Candidate
oldest i [] = []
oldest i (l ∷ more) = oldest_of i l.from l.link.queue ++ oldest (i + 1) more

module _ {P : Type 0} where
  abbrev pub passes : Noted P → Candidate → Bool
  passes node c = is_enabled node c.coming.what c.incoming

  -- the enabled ones of these
  abbrev pub comings : Noted P → List Candidate → List Coming
  comings node cs = map (λ c. c.coming) (filter (passes node) cs)

  -- all that may come to a node: to its processes, its notices, what waits on its links, its own mark
  abbrev pub candidates : Noted P → List Notice → List LinkFrom → List Candidate
  candidates node notices ins =
      flat_map starts_of procs ++ (noticed 0 notices ++ (oldest 0 ins ++ start (events.Ready (state_of node).phase) ∷ []))

  abbrev pub is_open_notice : Noted P → Notice → Bool
  is_open_notice node x = is_enabled node (notice_what x) (notice_incoming x)

  -- those whose call is open
  abbrev pub open_ones : Noted P → List Notice → List Notice
  open_ones node notices = filter (is_open_notice node) notices
