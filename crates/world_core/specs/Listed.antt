-- A node of a world whose enabled events are listed, and what an event of it does there.
use Rattle.std.specs.Prelude.{◌≡◌, ℕ, Option, Some, List, filter, drop, slice_get, slice_set, remove}
use Rattle.dom_history.specs.declared.op.Reply.{Reply}
use Rattle.dom_history.specs.declared.op.Want.{Want}
use Rattle.node_core.specs.declared.setup.Emitted.{Emitted}
use Rattle.node_core.specs.Nodes.{Does}
use Rattle.world_core.specs.declared.coming.Source as source
use Rattle.world_core.specs.declared.coming.Source.TheVariants as sources
use Rattle.ring_links.specs.declared.notice.Notice.{Notice}
use Rattle.world_core.specs.declared.station.LinkFrom.{LinkFrom}
use Rattle.world_core.specs.declared.station.Station.{Station}
use Rattle.world_core.specs.Stations.{Candidate, passes, comings, candidates}

-- the oldest entry of a link is taken
abbrev pub link_less : LinkFrom → LinkFrom
link_less l = record l { link = record l.link { queue = drop 1 l.link.queue } }

abbrev pub less_at : ℕ → List LinkFrom → Option LinkFrom → List LinkFrom
less_at i ins Option.None = ins
less_at i ins (Some l) = slice_set ins i (link_less l)

-- what an event takes: a notice goes, the oldest entry of a link is taken
abbrev pub notices_less : source.Source → List Notice → List Notice
notices_less (sources.Notice i) notices = remove notices i
notices_less sources.Nothing notices = notices
notices_less (sources.Link i) notices = notices

abbrev pub ins_less : source.Source → List LinkFrom → List LinkFrom
ins_less (sources.Link i) ins = less_at i ins (slice_get ins i)
ins_less sources.Nothing ins = ins
ins_less (sources.Notice i) ins = ins

module _ {P G : Type 0} where
  -- its list has the enabled ones of all that may come to it
  abbrev pub IsListed : Station P G → Type 0
  IsListed x = x.enabled.items ≡ comings x.node (candidates x.node x.notices.items x.ins.items)

  -- its node and its links are the same
  pub record IsKept (old new : Station P G) : Type 0 where
    pub node : new.node ≡ old.node
    pub ins : new.ins ≡ old.ins

  -- the enabled event at a place
  abbrev pub event_at : Station P G → ℕ → Option Candidate
  event_at x place = slice_get (filter (passes x.node) (candidates x.node x.notices.items x.ins.items)) place

-- an event was done at a node, and what it received was taken
pub record IsDone {P G : Type 0} (wants : P → Want) (becomes : P → Option Reply → P) (c : Candidate) (emitted : Emitted) (old new : Station P G) : Type 0 where
  pub does : Does wants becomes c.coming.what c.incoming old.node new.node emitted
  pub notices : new.notices.items ≡ notices_less c.coming.source old.notices.items
  pub ins : new.ins.items ≡ ins_less c.coming.source old.ins.items
