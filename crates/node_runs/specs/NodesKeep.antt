-- What each node keeps, wherever its events led.
use Rattle.std.specs.Prelude.{◌≡◌, ℕ, ◌≤◌, ◌^◌, true, Option, Some, None, List, ◌∷◌, length}
use Rattle.uid_names.specs.Names.{ObjectName}
use Rattle.uid_names.specs.Wires.{wire_room}
use Rattle.uid_names.specs.declared.limits.TheConstants.{NODE_PROCESSES}
use Rattle.dom_history.specs.declared.event.What.{What}
use Rattle.dom_history.specs.Objects.{is_node}
use Rattle.ring_messages.specs.Bodies.{body_of_ask}
use Rattle.ring_messages.specs.Ranges.{LiesWithin}
use Rattle.page_server.specs.ServerStates.{IsSide, IsSideWithin, IsCountedTo}
use Rattle.fault_handler.specs.Desks.{DeskState}
use Rattle.fault_handler.specs.Invariant.{IsProc, IsDesk}
use Rattle.lock_validate.specs.Bounded.{IsBounded}
use Rattle.node_runs.specs.Setups.{Given, IsGiven, Setup, IsSetup}
use Rattle.node_runs.specs.NodeStates.{Await, OpenOp, NodeState, first_node, proc_of, emitted_to}
use Rattle.node_runs.specs.Incomings.{Incoming}
use Rattle.node_runs.specs.Outcomes.{Stepped}
use Rattle.node_runs.specs.Steps.{step_of, Dropped, StepsTo}
use Rattle.node_runs.specs.Runs.{Choice, World, world_after}
use Rattle.node_runs.specs.Agreements.{Agrees}
use Rattle.node_runs.specs.Following.{IsFollowed}
use Rattle.node_runs.specs.SentFrames.{IsIncoming}

-- the desk is that of the node, with its frames
pub record IsOwnDesk (g : Given) (d : DeskState) : Type 0 where
  pub node : d.node ≡ g.number
  pub nodes : d.nodes ≡ g.opening.nodes
  pub frames : d.cache.frames ≡ g.frames

-- what an open call asks lies within a room
abbrev pub IsAwaitWithin : ℕ → Await → Type 0
IsAwaitWithin room (Await.Answer c) = LiesWithin room (body_of_ask c.ask)
IsAwaitWithin room (Await.Page u k) = Unit {0}

abbrev pub IsOpenWithin : ℕ → Option OpenOp → Type 0
IsOpenWithin room None = Unit {0}
IsOpenWithin room (Some o) = IsAwaitWithin room o.awaits

-- all that its desk, its home side and its open calls know lies within a room
pub record IsNodeWithin (room : ℕ) (n : NodeState) : Type 0 where
  pub desk : IsBounded room n.desk
  pub side : IsSideWithin room n.side
  pub asked : (p : ℕ) → IsProc p → IsOpenWithin room (proc_of n p).doing

-- its home side is one and its desk is one, both its own; the desk agrees with each process, and each process does what
-- its program wants; and all that it knows can be written in its version
pub record IsNodeOf (g : Given) (n : NodeState) : Type 0 where
  pub side : IsSide n.side
  pub home : n.side.home.node ≡ g.number
  pub own : IsOwnDesk g n.desk
  pub desk : IsDesk n.desk
  pub four : length n.procs ≡ NODE_PROCESSES
  pub agrees : (p : ℕ) → IsProc p → Agrees n.desk p (proc_of n p).last (proc_of n p).doing
  pub followed : (p : ℕ) → IsProc p → IsFollowed (g.asks p) (proc_of n p)
  pub within : IsNodeWithin (wire_room g.wire) n

-- no number is above the tick: no event sends two frames, makes two calls, or gives two grants, counters or stamps
pub record IsCounted (n : NodeState) : Type 0 where
  pub emitted : (to : ℕ) → emitted_to n to ≤ n.tick
  pub last : (p : ℕ) → IsProc p → (proc_of n p).last ≤ n.tick
  pub side : IsCountedTo n.tick n.side

-- it holds of each event that happens at such a node
abbrev pub AtEachStep : (Given → Stepped → Type 0) → Type 0
AtEachStep P =
    (g : Given) (n : NodeState) (what : What) (incoming : Incoming) (dropped : Dropped) (s : Stepped) → IsGiven g → IsNodeOf g n → IsIncoming incoming → StepsTo g n what incoming dropped s → P g s

-- a node that its start led to by steps, whatever it received
pub data Reached (g : Given) : NodeState → Type 0 where
  starts : Reached g (first_node g)
  steps : {n : NodeState} (s : Stepped) (what : What) (incoming : Incoming) (dropped : List (ObjectName × ℕ)) → Reached g n → IsIncoming incoming
      → step_of g n what incoming dropped ≡ Some s → Reached g s.node

-- no tick is above the greatest one, at which nodes end
abbrev pub IsTimely : World → Type 0
IsTimely w = (n : ℕ) → (w.nodes n).tick ≤ 2 ^ 40

-- it holds in every run in which no tick is above that
abbrev pub InEveryRun : (Setup → World → Type 0) → Type 0
InEveryRun P = (s : Setup) → IsSetup s → (cs : List Choice) (w : World) → world_after s cs ≡ Some w → IsTimely w → P s w

-- and of each node
abbrev pub AtEveryNode : (NodeState → Type 0) → Type 0
AtEveryNode P = InEveryRun (λ s w. (n : ℕ) → is_node s.opening n ≡ true → P (w.nodes n))

-- it holds of the worlds before and after each event of such a run
abbrev pub AtEveryEvent : (World → World → Type 0) → Type 0
AtEveryEvent P =
    (s : Setup) → IsSetup s → (cs : List Choice) (c : Choice) (old new : World) → world_after s cs ≡ Some old → world_after s (c ∷ cs) ≡ Some new → IsTimely old → P old new
