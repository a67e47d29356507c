-- How what is kept of the frames of links changes at an event.
use Rattle.std.specs.Prelude.{◌≡◌, ℕ, ◌+◌, ◌*◌, ◌≤◌, ◌==◌, Bool, true, false, not, ◌&&◌, IfSome, IsSome, Option, Some, None, List, [], ◌∷◌, ◌++◌, length, filter}
use Rattle.std.specs.List.{list_any}
use Rattle.uid_names.specs.declared.limits.TheConstants.{MAX_NODES}
use Rattle.dom_history.specs.declared.event.What.{What}
use Rattle.dom_history.specs.declared.event.What.TheVariants.{Notice}
use Rattle.fault_handler.specs.Desks.{IsNode}
use Rattle.ring_messages.specs.Bodies.{is_request}
use Rattle.ring_messages.specs.Frames.{Message}
use Rattle.node_runs.specs.Deliveries.{noticed_by}
use Rattle.node_runs.specs.Incomings.{Incoming}
use Rattle.node_core.specs.Nodes.{Noted}
use Rattle.world_runs.specs.Gone.{FrameName, same_frame}
use Rattle.journal_check.specs.Links.{at_link}
use Rattle.journal_check.specs.Kept.{Kept, head_at, head_of, told_if, is_served, is_heard}

-- the nodes are few, and there is something of each link between two
pub record AreOfNodes (nodes : ℕ) (links : List Kept) : Type 0 where
  pub few : nodes ≤ MAX_NODES
  pub whole : length links ≡ nodes * nodes

-- what is kept of each link changes so
pub record ChangeLinks (nodes : ℕ) (Changes : ℕ → ℕ → Kept → Kept → Type 0) (old new : List Kept) : Type 0 where
  pub count : length new ≡ length old
  pub each : (from to : ℕ) → IsNode nodes from → IsNode nodes to → (k : Kept) → at_link nodes from to old ≡ Some k → IfSome (at_link nodes from to new) (Changes from to k)

-- the event tells of the frame
abbrev pub tells : What → FrameName → Bool
tells what f = list_any (same_frame f) (noticed_by what)

-- a frame was told, if the event tells of one
pub record IsTold (what : What) (from to : ℕ) (old new : Kept) : Type 0 where
  pub count : length new.heads ≡ length old.heads
  pub heads : (index : ℕ) → head_at index new.heads ≡ told_if (tells what (from, to, index)) (head_at index old.heads)
  pub live : new.live ≡ old.live

-- the frame that was sent, if one was, is the last one on its link, and lives
abbrev pub sent_if : Bool → Message → Kept → Kept
sent_if true m k = record { heads = k.heads ++ head_of m false ∷ []; live = k.live ++ record { index = length k.heads + 1; frame = m } ∷ [] }
sent_if false m k = k

abbrev pub IsSent : Option (ℕ × Message) → ℕ → ℕ → Kept → Kept → Type 0
IsSent None from to old new = new ≡ old
IsSent (Some sent) from to old new = new ≡ sent_if ((sent.1.from == from) && (sent.1.to == to)) sent.1 old

-- the requests go that a home has decided by now that took this one
abbrev pub served_if : Bool → Message → Kept → Kept
served_if true m k = record { heads = k.heads; live = filter (λ l. not (is_served m.proc m.number l.frame)) k.live }
served_if false m k = k

abbrev pub IsServed : Incoming → ℕ → ℕ → Kept → Kept → Type 0
IsServed (Incoming.Frame m) from to old new = new ≡ served_if (is_request m.body && ((m.from == from) && (m.to == to))) m old
IsServed incoming from to old new = new ≡ old

-- the answers to this node go whose call is open there no more
abbrev pub heard_if : {P : Type 0} → Bool → Noted P → Kept → Kept
heard_if true x k = record { heads = k.heads; live = filter (λ l. not (is_heard x l.index l.frame)) k.live }
heard_if false x k = k

abbrev pub IsHeard : {P : Type 0} → Noted P → ℕ → ℕ → ℕ → Kept → Kept → Type 0
IsHeard x n from to old new = new ≡ heard_if (to == n) x old

-- the frame of a Notice was sent
abbrev pub IsFrameThere : ℕ → What → List Kept → Type 0
IsFrameThere nodes (Notice p from to index) links =
    IsNode nodes from × IsNode nodes to × IfSome (at_link nodes from to links) (λ k. IsSome (head_at index k.heads))
IsFrameThere nodes what links = Unit {0}
