-- In every run the room of a new object for which a home is asked is one of the opening's.
use Rattle.std.proofs.Common.{◌≡◌, ℕ, Bool, true, false, List, Option, Some, None, IfSome, inl, inr, sym, subst}
use Rattle.std.specs.Prelude.{nat_le}
use Rattle.std.proofs.lemmas.Bool.{cases_eq}
use Rattle.uid_names.specs.Names.{ObjectName}
use Rattle.uid_names.specs.Openings.{Start}
use Rattle.uid_names.proofs.Passed.{right-true}
use Rattle.dom_history.specs.declared.op.Op.{Op}
use Rattle.dom_history.specs.declared.op.Op.TheVariants as ops
use Rattle.dom_history.specs.Objects.{is_node}
use Rattle.ring_messages.specs.Bodies.{Ask}
use Rattle.fault_handler.specs.Desks.{DeskState}
use Rattle.fault_handler.specs.Outcomes.{Turn, Moved}
use Rattle.lock_validate.specs.Releases.{release_ask}
use Rattle.lock_validate.specs.Causes.{Cause}
use Rattle.lock_validate.specs.Turns.{Says}
use Rattle.node_runs.specs.Setups.{Setup, IsSetup, given}
use Rattle.node_runs.specs.NodeStates.{Asked, OpenOp, ProcState, NodeState, proc_of}
use Rattle.node_runs.specs.Incomings.{Incoming}
use Rattle.node_runs.specs.Outcomes.{Stage, Stepped}
use Rattle.node_runs.specs.Doings.{ticked}
use Rattle.node_runs.specs.NodesKeep.{IsTimely}
use Rattle.node_runs.specs.Runs.{World, Choice, calls_after, world_after}
use Rattle.node_runs.specs.CallsKeep.{EachOf}
use Rattle.node_runs.proofs.Calls.{put-same, put-other}
use Rattle.node_runs.proofs.SettingUp.{setup-procs}
use Rattle.run_laws.proofs.HearingRuns.{IsKeptNext, every-kept-run}
use Rattle.run_laws.specs.DeskSteps.{IsHomeTurn, OpMove, apart, moves, NodeMove, still, moved, turn_call}
use Rattle.run_laws.proofs.EventMoves.{desk-moves}

-- a room that the opening allows
abbrev pub IsRoomAsked : Start → Ask → Type 0
IsRoomAsked opening (Ask.Make kind room) = nat_le room opening.greatest ≡ true
IsRoomAsked opening ask = Unit {0}

module _ (opening : Start) where
  abbrev IsTurnAsked : Turn → Type 0
  IsTurnAsked (Turn.Ends reply) = Unit {0}
  IsTurnAsked (Turn.Asks home ask) = IsRoomAsked opening ask
  IsTurnAsked (Turn.Waits u k) = Unit {0}

  release-asked : (delete : Bool) (u : ObjectName) → IsRoomAsked opening (release_ask delete u)
  release-asked true u = tt
  release-asked false u = tt

  -- a desk asks for no new object
  said-asked : (d e : DeskState) (p : ℕ) (c : Cause) (turn : Turn) → Says d p e c turn → IsTurnAsked turn
  said-asked d e p c turn (Says.asks_page cause task given fetches) = tt
  said-asked d e p c turn (Says.sends_room cause task r given room) = tt
  said-asked d e p c turn (Says.sends_page cause delete u k r given opened sends) = tt
  said-asked d e p c turn (Says.sends_length cause delete u n given opened changed) = tt
  said-asked d e p c turn (Says.asks_lock u m opened) = tt
  said-asked d e p c turn (Says.gives_up cause delete u given opened may settled) = release-asked delete u
  said-asked d e p c turn says = tt

  module _ (incoming : Incoming) (doing : Option OpenOp) where
    begin-asked : (p to : ℕ) (ask : Ask) (stage : Stage) (op : Op) → IsHomeTurn opening incoming p doing stage op (Turn.Asks to ask) → IsRoomAsked opening ask
    begin-asked p to ask Stage.Starts (ops.New home kind room) is = subst (IsRoomAsked opening) (sym is.0.1) (right-true (is_node opening home) (nat_le room opening.greatest) is.1)
    begin-asked p to ask Stage.Starts (ops.List home after) is = subst (IsRoomAsked opening) (sym is.0.1) tt
    begin-asked p to ask Stage.Starts (ops.Lock u m) is = absurd is
    begin-asked p to ask Stage.Starts (ops.Unlock u) is = absurd is
    begin-asked p to ask Stage.Starts (ops.Delete u) is = absurd is
    begin-asked p to ask Stage.Starts (ops.Load spot count) is = absurd is
    begin-asked p to ask Stage.Starts (ops.Store spot bytes) is = absurd is
    begin-asked p to ask Stage.Starts (ops.Length u) is = absurd is
    begin-asked p to ask Stage.Starts (ops.Map u) is = absurd is
    begin-asked p to ask Stage.Starts (ops.Unmap u) is = absurd is
    begin-asked p to ask Stage.Resumes op is = absurd is
    begin-asked p to ask (Stage.Settles number) op is = absurd is

    home-asked : (p : ℕ) (stage : Stage) (op : Op) (turn : Turn) → IsHomeTurn opening incoming p doing stage op turn → IsTurnAsked turn
    home-asked p stage op (Turn.Ends reply) is = tt
    home-asked p stage op (Turn.Waits u k) is = tt
    home-asked p stage op (Turn.Asks to ask) is = begin-asked p to ask stage op is

    move-asked : (stage : Stage) (d : DeskState) (p : ℕ) (op : Op) (m : Moved) → OpMove opening incoming doing stage d p op m → IsTurnAsked m.turn
    move-asked stage d p op m (apart desk turn) = home-asked p stage op m.turn turn
    move-asked stage d p op m (moves c may of at_stage taken made) = said-asked d m.desk p c m.turn made.says

  abbrev IsCallAsked : Option (ℕ × Asked) → Type 0
  IsCallAsked o = IfSome o (λ (x : ℕ × Asked). IsRoomAsked opening x.1.ask)

  turn-asked : (p : ℕ) (q : ProcState) (turn : Turn) → IsTurnAsked turn → IsCallAsked (turn_call p q turn)
  turn-asked p q (Turn.Ends reply) is = tt
  turn-asked p q (Turn.Asks home ask) is = is
  turn-asked p q (Turn.Waits u k) is = tt

node-asked : (s : Setup) (a : ℕ) (n : NodeState) (incoming : Incoming) (step : Stepped) → NodeMove (given s a) n incoming step → IsCallAsked s.opening step.call
node-asked s a n incoming step (still desk same quiet uncalled) = subst (IsCallAsked s.opening) (sym uncalled) tt
node-asked s a n incoming step (moved p o stage m proc continues made desk doing others note call side) =
    subst (IsCallAsked s.opening) (sym call) (turn-asked s.opening p (proc_of n p) m.turn (move-asked s.opening incoming (proc_of n p).doing stage n.desk p o.op m made))

-- each call that was ever made
abbrev pub AreRoomsAsked : Setup → World → Type 0
AreRoomsAsked s w = (n p : ℕ) → EachOf (λ (k : Asked). IsRoomAsked s.opening k.ask) (w.calls n p)

module _ (s : Setup) (old : World) (n : ℕ) (before : AreRoomsAsked s old) where
  abbrev Each : List Asked → Type 0
  Each xs = EachOf (λ (k : Asked). IsRoomAsked s.opening k.ask) xs

  call-more : (o : Option (ℕ × Asked)) → IsCallAsked s.opening o → (a q : ℕ) → Each (calls_after old n o a q)
  call-more None is a q = before a q
  call-more (Some x) is a q = elim (cases_eq a n) [
    | inr away ↦ subst (λ (f : ℕ → List Asked). Each (f q)) (sym (put-other old.calls n a _ away)) (before a q)
    | inl there ↦ subst (λ (f : ℕ → List Asked). Each (f q)) (sym (put-same old.calls n a _ there)) (elim (cases_eq q x.0) [
      | inr beside ↦ subst Each (sym (put-other (old.calls n) x.0 q _ beside)) (before n q)
      | inl same ↦ subst Each (sym (put-same (old.calls n) x.0 q _ same)) (is, before n x.0)
    ])
  ]

rooms-later : (s : Setup) → IsSetup s → (old : World) (c : Choice) (new : World) → IsKeptNext s old c new → AreRoomsAsked s old → AreRoomsAsked s new
rooms-later s setup old c new next before =
    subst (AreRoomsAsked s) (sym next.is.world)
    (call-more s old c.node before next.is.step.call
    (node-asked s c.node (ticked (old.nodes c.node) next.is.incoming) next.is.incoming next.is.step (desk-moves s setup old c new next)))

-- in every run
pub rooms-asked : (s : Setup) → IsSetup s → (cs : List Choice) (w : World) → world_after s cs ≡ Some w → IsTimely w → AreRoomsAsked s w
rooms-asked s setup = every-kept-run s setup (setup-procs s setup) (AreRoomsAsked s) (λ n p. tt) (λ cs old c new e timely next before. rooms-later s setup old c new next before)
