-- What a world of nodes stands for: the world of the definitions.
use Rattle.std.specs.Prelude.{◌≡◌, ◌≢◌, ℕ, ◌+◌, ◌<◌, Bool, true, false, Option, Some, None, List, [], length, map, reverse, All, slice_get, IsSome}
use Rattle.std.specs.Option.{option_map}
use Rattle.uid_names.specs.Names.{ProcName}
use Rattle.dom_history.specs.declared.op.Reply.{Reply}
use Rattle.dom_history.specs.declared.op.Want.{Want}
use Rattle.dom_history.specs.declared.plan.FateRow.{FateRow}
use Rattle.dom_history.specs.Events.{Happening}
use Rattle.dom_history.specs.Plans.{IsPlan}
use Rattle.dom_history.specs.Programs.{program_after}
use Rattle.fault_handler.specs.Desks.{IsNode}
use Rattle.node_runs.specs.Setups.{Setup, IsSetup, given}
use Rattle.node_runs.specs.NodeStates.{first_node, proc_of}
use Rattle.node_runs.specs.NodesKeep.{IsTimely}
use Rattle.node_runs.specs.Runs as runs
use Rattle.ring_links.specs.declared.entry.Waiting.{Waiting}
use Rattle.ring_links.specs.declared.entry.Waiting.TheVariants.{Copy, Mark}
use Rattle.ring_links.specs.Carried.{plain_link, CarriesFrames}
use Rattle.node_core.specs.declared.setup.Incoming as code
use Rattle.node_core.specs.declared.setup.Incoming.TheVariants as received
use Rattle.node_core.specs.Nodes as nodes
use Rattle.node_core.specs.Nodes.{Noted}
use Rattle.world_runs.specs.Sendings.{sendings}
use Rattle.world_runs.specs.Links.{link_of}
use Rattle.world_runs.specs.OpenNotices.{open_notices}
use Rattle.world_runs.specs.Turns.{Act, after_turns, enabled_events, turn}
use Rattle.world_runs.specs.Draws.{EndsIn}
use Rattle.world_runs.specs.ByPlace.{by_place, events_of}
use Rattle.world_core.specs.declared.coming.Coming.{Coming}
use Rattle.ring_links.specs.declared.notice.Notice.{Notice}
use Rattle.world_core.specs.declared.station.LinkFrom.{LinkFrom}
use Rattle.world_core.specs.declared.station.Station.{Station}
use Rattle.world_core.specs.declared.world.World.{World}
use Rattle.ring_links.specs.Notices.{notice_what, notice_incoming}
use Rattle.world_core.specs.Listed.{IsListed}
use Rattle.world_core.specs.SoFar.{IsRightSoFar}
use Rattle.ended_nodes.specs.Ended.{named}

-- a listed event, as one of a node
abbrev pub act_of : ℕ → Coming → Act
act_of n c = record { node = n; what = c.what }

-- an entry carries the tick of its mark
abbrev pub IsMarkOf : runs.World → ℕ → code.Incoming → Waiting → Type 0
IsMarkOf w from x (Copy index) = Unit {0}
IsMarkOf w from x (Mark phase) = option_map (λ m. received.Mark m.tick) (runs.mark_of w from phase) ≡ Some x

-- a link has what waits there, each copy with its frame and each mark with its tick
pub record IsLink (plan : List FateRow) (w : runs.World) (from to : ℕ) (l : LinkFrom) : Type 0 where
  pub from_is : l.from ≡ from
  pub waits : plain_link l.link ≡ link_of plan from to w.done
  pub frames : CarriesFrames (map received.Frame (w.frames from to)) l.link
  pub marks : All (λ e. IsMarkOf w from e.received e.waiting) l.link.queue

-- a notice tells the call number and the tick of its frame
abbrev pub IsNoticeOf : runs.World → ℕ → Notice → Type 0
IsNoticeOf w n x = runs.incoming_of w n (notice_what x) ≡ Some (notice_incoming x)

module _ {P G : Type 0} (wants : P → Want) (becomes : P → Option Reply → P) (made : ℕ → ℕ → Option P) (s : Setup) where
  -- a node with all that may come to it
  pub record IsStation (plan : List FateRow) (w : runs.World) (n : ℕ) (x : Station P G) : Type 0 where
    pub node : nodes.Stands wants becomes (made n) (given s n) x.node (w.nodes n)
    pub log : x.node.log ≡ record { node = n; events = reverse (events_of n w.done) }
    pub links : length x.ins.items ≡ s.opening.nodes
    pub silent : (from : ℕ) → s.opening.nodes < from → sendings from n w.done ≡ []
    pub link : (from : ℕ) (l : LinkFrom) → slice_get x.ins.items from ≡ Some l → IsLink plan w (from + 1) n l
    pub notices : map notice_what x.notices.items ≡ open_notices s plan w n
    pub told : All (IsNoticeOf w n) x.notices.items
    pub listed : IsListed x

  -- a world stands for one to which turns led from the start
  pub record Stands (x : World P G) (w : runs.World) : Type 0 where
    pub whole : x.spent ≡ false
    pub setup : IsSetup s
    pub plan : IsPlan x.plan
    pub choices : List ℕ
    pub turns : after_turns s x.plan choices ≡ Some w
    pub timely : IsTimely w
    pub count : length x.stations.items ≡ s.opening.nodes
    pub station : (n : ℕ) (y : Station P G) → slice_get x.stations.items n ≡ Some y → IsStation x.plan w (n + 1) y

  -- a turn was done, by the node whose station has this place: no other node changed
  pub record IsTurnOf (old new : World P G) (w : runs.World) (choice i : ℕ) : Type 0 where
    pub world : runs.World
    pub turns : turn s old.plan w choice ≡ Some world
    pub stands : Stands new world
    pub within : i < length new.stations.items
    pub only : (n : ℕ) → n ≢ i + 1 → world.nodes n ≡ w.nodes n

  abbrev pub IsTurnAt : World P G → World P G → runs.World → ℕ → Option ℕ → Type 0
  IsTurnAt old new w choice (Some i) = IsTurnOf old new w choice i
  IsTurnAt old new w choice None = (enabled_events s old.plan w ≡ []) × Stands new w

  -- a turn was done, or no event is enabled
  abbrev pub IsTurn : World P G → World P G → runs.World → ℕ → Bool → Type 0
  IsTurn old new w choice true = (v : runs.World) × (turn s old.plan w choice ≡ Some v) × Stands new v
  IsTurn old new w choice false = (enabled_events s old.plan w ≡ []) × Stands new w

module _ {P : Type 0} (wants : P → Want) (becomes : P → Option Reply → P) (made : ℕ → ℕ → Option P) (s : Setup) where
  -- nodes as they were made, by number
  pub record AreNodes (xs : List (Noted P)) : Type 0 where
    pub setup : IsSetup s
    pub count : length xs ≡ s.opening.nodes
    pub node : (n : ℕ) (x : Noted P) → slice_get xs n ≡ Some x → nodes.Stands wants becomes (made (n + 1)) (given s (n + 1)) x (first_node (given s (n + 1)))
    pub log : (n : ℕ) (x : Noted P) → slice_get xs n ≡ Some x → x.log ≡ record { node = n + 1; events = [] }

  -- each program is what it became by what its process heard, and there are no others
  pub record AreEnded (w : runs.World) (programs : List (ProcName × P)) : Type 0 where
    pub ended : (p : ProcName) → IsNode s.opening.nodes p.node
        → named programs p ≡ option_map (λ y. program_after becomes y (proc_of (w.nodes p.node) p.number).heard) (made p.node p.number)
    pub only : (p : ProcName) → IsSome (named programs p) → IsNode s.opening.nodes p.node

  -- the turns of a seed end in a world in which all nodes have ended, with these events by place and these programs; by place they are a run by the
  -- plan, as one store would have it, and each page that was dropped for another was the clean one used longest ago
  pub record IsRunOf (plan : List FateRow) (seed last : ℕ) (events : List Happening) (programs : List (ProcName × P)) : Type 0 where
    pub world : runs.World
    pub ends : EndsIn s plan seed last world
    pub ended : runs.HasEnded s world
    pub so_far : IsRightSoFar s plan world
    pub events_are : events ≡ reverse (by_place world.done)
    pub programs_are : AreEnded world programs

-- whether a turn was done tells whether all nodes have ended
abbrev pub TellsEnd : Setup → runs.World → Bool → Type 0
TellsEnd s w true = runs.HasEnded s w → ⊥
TellsEnd s w false = runs.HasEnded s w

-- no node's tick has come so far
abbrev pub IsBelow : {P G : Type 0} → ℕ → World P G → Type 0
IsBelow last x = All (λ y. (nodes.state_of y.node).tick < last) x.stations.items
