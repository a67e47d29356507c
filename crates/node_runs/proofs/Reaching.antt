-- What each node keeps holds in each state that its start leads to.
use Rattle.std.proofs.Common.{◌≡◌, ℕ, ◌≤◌, List, Option, Some, IfSome, refl, arith}
use Rattle.std.specs.Prelude.{◌<◌, ◌==◌, All}
use Rattle.std.proofs.lemmas.List.Elements.{All-nil, All-weaker, All-filter}
use Rattle.uid_names.specs.Names.{ObjectName}
use Rattle.uid_names.specs.Wires.{wire_room}
use Rattle.uid_names.specs.Openings.{Start, IsStart, IsDeclarable}
use Rattle.uid_names.specs.Beginnings.{at_home}
use Rattle.uid_names.specs.declared.opening.Object.{Object}
use Rattle.uid_names.proofs.Wires.{wire_room-least}
use Rattle.dom_history.specs.declared.op.Reply.{Reply}
use Rattle.dom_history.specs.declared.event.What.{What}
use Rattle.dom_history.specs.Follows.{Heard}
use Rattle.dom_history.specs.declared.op.Want.{Want}
use Rattle.dom_history.specs.Ranges.{IsNamedReply}
use Rattle.call_once.specs.Calls.{Call}
use Rattle.ring_messages.specs.Bodies.{Answer, body_of_answer}
use Rattle.ring_messages.specs.Ranges.{LiesWithin}
use Rattle.object_store.specs.Beginnings.{first_rows}
use Rattle.object_store.proofs.Begun.{IsHome-first_home}
use Rattle.page_server.specs.ServerStates.{AreRoomsWithin}
use Rattle.page_server.proofs.Sides.{IsSide-first}
use Rattle.page_server.proofs.Within.{within-first_home}
use Rattle.fault_handler.specs.declared.tasks.Task.{Task}
use Rattle.fault_handler.specs.Tasks.{page_of}
use Rattle.fault_handler.specs.Desks.{task_of}
use Rattle.fault_handler.specs.Invariant.{IsProc}
use Rattle.fault_handler.specs.Conditions.{IsIdle, empty_desk}
use Rattle.fault_handler.proofs.Fours.{by_proc, first, second, third, fourth}
use Rattle.fault_handler.proofs.LockKeeps.{IsDesk-empty_desk}
use Rattle.lock_validate.specs.Bounded.{IsBounded}
use Rattle.node_runs.specs.Setups.{Given, IsGiven, FitsWire}
use Rattle.node_runs.specs.NodeStates.{NodeState, first_proc, first_node, proc_of}
use Rattle.node_runs.specs.Incomings.{Incoming}
use Rattle.node_runs.specs.Doings.{ticked}
use Rattle.node_runs.specs.Outcomes.{Stepped}
use Rattle.node_runs.specs.Steps.{step_of}
use Rattle.node_runs.specs.Agreements.{Agrees}
use Rattle.node_runs.specs.Following.{IsFollowed}
use Rattle.node_runs.specs.SentFrames.{IsIncoming}
use Rattle.node_runs.specs.NodesKeep.{IsNodeOf, IsNodeWithin, IsOpenWithin, Reached, starts, steps}
use Rattle.node_runs.proofs.Doing.{step_of-did, step_of-version}
use Rattle.node_runs.proofs.Nodes.{Keeps, node-with, did-keeps}
use Rattle.node_runs.proofs.SettingUp.{given-procs}

-- a step leaves what each node keeps, and sends a frame in its range
pub step_of-keeps : (g : Given) (n : NodeState) (what : What) (incoming : Incoming) (dropped : List (ObjectName × ℕ)) (s : Stepped) → IsGiven g → IsNodeOf g n → IsIncoming incoming
    → step_of g n what incoming dropped ≡ Some s → Keeps g s
step_of-keeps g n what incoming dropped s given_is is frame e =
    did-keeps g given_is.wants given_is.wire (given-procs g given_is.programs) (ticked n incoming) (node-with g n (ticked n incoming) is refl refl is.side is.home is.within.side) (omega arith) what incoming s frame
    (step_of-version g n what incoming dropped s e) (step_of-did g n what incoming dropped s e)

first-idle : (node nodes frames : ℕ) → (q : ℕ) → IsProc q → IsIdle (empty_desk node nodes frames) q
first-idle node nodes frames = by_proc (IsIdle (empty_desk node nodes frames))
    (record { no_call = refl; no_page = refl; keeping = λ u held. absurd (cc) })
    (record { no_call = refl; no_page = refl; keeping = λ u held. absurd (cc) })
    (record { no_call = refl; no_page = refl; keeping = λ u held. absurd (cc) })
    (record { no_call = refl; no_page = refl; keeping = λ u held. absurd (cc) })

first-agrees : (g : Given) → (q : ℕ) → IsProc q → Agrees (first_node g).desk q (proc_of (first_node g) q).last (proc_of (first_node g) q).doing
first-agrees g = let idle = first-idle g.number g.opening.nodes g.frames in
    by_proc (λ q. Agrees (first_node g).desk q (proc_of (first_node g) q).last (proc_of (first_node g) q).doing) (idle 1 first) (idle 2 second) (idle 3 third) (idle 4 fourth)

first-followed : (g : Given) → (q : ℕ) → IsProc q → IsFollowed (g.asks q) (proc_of (first_node g) q)
first-followed g = by_proc (λ q. IsFollowed (g.asks q) (proc_of (first_node g) q)) one one one one
  where
    one : {asks : Heard → Want} → IsFollowed asks first_proc
    one = record { wanted = tt; fitting = tt; named = All-nil (λ (t : Option Reply). IfSome t IsNamedReply) }

-- each object of the opening lies within the rooms of the version
pub first-rooms : (wire number : ℕ) (start : Start) → IsStart start → FitsWire wire start → AreRoomsWithin (wire_room wire) (first_rows number (at_home number start.objects))
first-rooms wire number start is fits =
    let room = wire_room wire in
    let least = wire_room-least wire in
    let declared : All (λ (o : Object). o.room ≤ room) start.objects = All-weaker (IsDeclarable start.nodes start.greatest) (λ (o : Object). o.room ≤ room)
    (λ o one. let high = one.room_high in let rooms = fits.rooms in omega (arith, high, rooms)) start.objects is.objects in
    within-first_home room number (at_home number start.objects) (omega (arith, least)) (All-filter (λ (o : Object). o.uid.home == number) (λ (o : Object). o.room ≤ room) start.objects declared)

-- and an empty desk knows nothing
module _ (g : Given) (is : IsGiven g) where
  abbrev room : ℕ
  room = wire_room g.wire

  first-bounded : IsBounded room (empty_desk g.number g.opening.nodes g.frames)
  first-bounded = record {
    known = λ u. tt;
    pages = tt;
    tasks = by_proc (λ q. IfSome (task_of (empty_desk g.number g.opening.nodes g.frames) q) (λ (task : Task). page_of task < room)) tt tt tt tt;
  }

  first-within : IsNodeWithin room (first_node g)
  first-within = record {
    desk = first-bounded;
    side = record { rooms = first-rooms g.wire g.number g.opening is.start is.wire; kept = All-nil (λ (call : Call Answer). LiesWithin room (body_of_answer call.body)) };
    asked = by_proc (λ q. IsOpenWithin room (proc_of (first_node g) q).doing) tt tt tt tt;
  }

pub IsNodeOf-first : (g : Given) → IsGiven g → IsNodeOf g (first_node g)
IsNodeOf-first g is = record {
  side = IsSide-first (first_node g).side.home (IsHome-first_home g.number g.opening is.start (is.begins.homes g.number));
  home = refl;
  own = record { node = refl; nodes = refl; frames = refl };
  desk = IsDesk-empty_desk g.number g.opening.nodes g.frames is.frames.few;
  four = refl;
  agrees = first-agrees g;
  followed = first-followed g;
  within = first-within g is;
}

pub Reached-keeps : (g : Given) → IsGiven g → (n : NodeState) → Reached g n → IsNodeOf g n
Reached-keeps g is n starts = IsNodeOf-first g is
Reached-keeps g is n (steps {n = m} s what incoming dropped before frame e) = (step_of-keeps g m what incoming dropped s is (Reached-keeps g is m before) frame e).node
