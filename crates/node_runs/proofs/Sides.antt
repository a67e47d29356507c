-- What an event does to the home side of its node: nothing, unless it takes a request.
use Rattle.std.specs.Prelude.{◌&&◌}
use Rattle.std.proofs.Common.{◌≡◌, ℕ, ◌+◌, ◌<◌, Bool, true, false, ◌∷◌, length, Some, refl, sym, subst, arith}
use Rattle.std.proofs.lemmas.List.{length-map}
use Rattle.uid_names.specs.Names.{ProcName}
use Rattle.uid_names.specs.Beginnings.{at_home}
use Rattle.dom_history.specs.declared.event.What.{What}
use Rattle.object_store.specs.Beginnings.{opened, first_home}
use Rattle.object_store.specs.Kept.{IsHome}
use Rattle.object_store.proofs.RowLemmas.{length-le-rooms}
use Rattle.object_store.proofs.Begun.{IsHome-first_home}
use Rattle.call_once.specs.declared.served.Looked.{Looked}
use Rattle.call_once.specs.declared.served.Looked.TheVariants.{Fresh, Again, Old}
use Rattle.call_once.specs.Calls.{Call, last_of, looked, with_call}
use Rattle.ring_messages.specs.Bodies.{Ask, Answer, ask_of}
use Rattle.ring_messages.specs.Frames.{Message, caller_of}
use Rattle.page_server.specs.Decisions.{decide}
use Rattle.page_server.specs.Serving.{HomeSide, serve_as, serve_of}
use Rattle.page_server.specs.ServerStates.{IsBegun, IsCountedTo}
use Rattle.page_server.proofs.Begun.{IsBegun-first_home}
use Rattle.page_server.proofs.Bounds.{IsCountedTo-decided, IsCountedTo-later}
use Rattle.fault_handler.specs.Outcomes.{Turn, Moved}
use Rattle.node_runs.specs.Setups.{Given, Setup, IsSetup, given}
use Rattle.node_runs.specs.NodeStates.{BegunOp, NodeState, first_node}
use Rattle.node_runs.specs.Incomings.{Incoming}
use Rattle.node_runs.specs.Outcomes.{Stepped, Stage, turned, moved}
use Rattle.node_runs.specs.Doings.{begun_at, stage_of, others_marked, in_next_phase}
use Rattle.node_runs.specs.Dones.{Did, paused, finished, began, resumed, served, passed_over, heard, ignored, resent, gave_up, got_ready, marked}

turned-side : (g : Given) (n : NodeState) (p : ℕ) (o : BegunOp) (stage : Stage) (turn : Turn) → (turned g n p o stage turn).node.side ≡ n.side
turned-side g n p o stage (Turn.Ends reply) = refl
turned-side g n p o stage (Turn.Asks home ask) = refl
turned-side g n p o stage (Turn.Waits u k) = refl

pub moved-side : (g : Given) (n : NodeState) (p : ℕ) (o : BegunOp) (stage : Stage) (m : Moved) → (moved g n p o stage m).node.side ≡ n.side
moved-side g n p o stage m = turned-side g (record n { desk = m.desk }) p o stage m.turn

pub next-side : (b : Bool) (x : NodeState) → (in_next_phase b x).side ≡ x.side
next-side true x = refl
next-side false x = refl

-- what holds of the side, and after each request in it, holds after each event
module _ (g : Given) (n : NodeState) (P : HomeSide → Type 0) (still : P n.side) where
  abbrev Serves : Incoming → Type 0
  Serves incoming = (m : Message) (ask : Ask) → incoming ≡ Incoming.Frame m → m.to ≡ g.number → ask_of m.body ≡ Some ask → P (serve_of n.side (caller_of m) m.number ask).side

  kept : (x : HomeSide) → x ≡ n.side → P x
  kept x same = subst P (sym same) still

  pub did-side : (what : What) (incoming : Incoming) (s : Stepped) → Serves incoming → Did g n what incoming s → P s.node.side
  did-side what incoming s serves (paused p has none is) = still
  did-side what incoming s serves (finished p has none is) = still
  did-side what incoming s serves (began p op to has none is may) = kept _ (moved-side g n p (begun_at g n op) Stage.Starts to)
  did-side what incoming s serves (resumed p o u k accessed to has is come goes may) = kept _ (moved-side g n p o Stage.Resumes to)
  did-side what incoming s serves (served from index m ask answer sender receiver asks is) = serves m ask refl receiver asks
  did-side what incoming s serves (passed_over from index m ask sender receiver asks is) = serves m ask refl receiver asks
  did-side what incoming s serves (heard from index m o c said to sender receiver asks is same fits may) = kept _ (moved-side g n m.proc o (stage_of m.number said) to)
  did-side what incoming s serves (ignored from index m sender receiver asks) = still
  did-side what incoming s serves (resent p from to index number tick o c has is same answer) = still
  did-side what incoming s serves (gave_up p from to index number tick o c into has is same answer fails) = kept _ (moved-side g n p o (Stage.Settles c.waiting.number) into)
  did-side what incoming s serves (got_ready phase may) = let x = record n { ready = true } in kept _ (next-side (x.ready && others_marked g x) x)
  did-side what incoming s serves (marked from phase tick may) = let x = record n { marks = (from, phase) ∷ n.marks } in kept _ (next-side (x.ready && others_marked g x) x)

-- a request gives one number of each kind at most
serve_as-counted : (how : Looked) (side : HomeSide) (p : ProcName) (number : ℕ) (ask : Ask) (before tick : ℕ) → IsCountedTo before side → before < tick → IsCountedTo tick (serve_as how side p number ask).side
serve_as-counted Fresh side p number ask before tick counted later =
    let call : Call Answer = record { proc = p; number = number; body = (decide side.home side.locks p ask).answer } in
    IsCountedTo-decided side p ask (with_call call side.served) before tick counted later
serve_as-counted Again side p number ask before tick counted later = IsCountedTo-later side before tick counted later
serve_as-counted Old side p number ask before tick counted later = IsCountedTo-later side before tick counted later

pub did-counted : (g : Given) (n : NodeState) (what : What) (incoming : Incoming) (s : Stepped) (before : ℕ) → before < n.tick → IsCountedTo before n.side → Did g n what incoming s → IsCountedTo n.tick s.node.side
did-counted g n what incoming s before later counted did =
    did-side g n (IsCountedTo n.tick) (IsCountedTo-later n.side before n.tick counted later) what incoming s
    (λ m ask comes receiver asks. serve_as-counted (looked m.number (last_of (caller_of m) n.side.served)) n.side (caller_of m) m.number ask before n.tick counted later)
    did

-- each home of a set-up is one at the start, and its numbers are counted from there
module _ (s : Setup) (is : IsSetup s) (n : ℕ) where
  pub first-home : IsHome (first_node (given s n)).side.home
  first-home = IsHome-first_home n s.opening is.start (is.begins.homes n)

  pub first-side-counted : IsCountedTo 0 (first_node (given s n)).side
  first-side-counted =
      let own = at_home n s.opening.objects in
      let home = first-home in
      let few = length-le-rooms (length own + 1) (first_home n own).objects home.rows in
      let fits = home.fits in
      let same = length-map own opened in
      let begun : IsBegun (first_home n own) = IsBegun-first_home (first_home n own) n own refl (omega (arith, few, fits, same)) in
      record { grants = omega arith; counters = begun.counters; stamps = begun.stamps }
