-- While a lock that is held is given back, and its home did not decide that yet, its row stands there.
use Rattle.std.proofs.Common.{◌≡◌, ◌≢◌, ℕ, ◌+◌, ◌≤◌, ◌<◌, Bool, true, false, List, ◌∷◌, length, Option, Some, inl, inr, ◌⊎◌, refl, sym, ap, subst, ◌∙◌, arith}
use Rattle.std.specs.Prelude.{◌==◌, if◌then◌else◌}
use Rattle.std.proofs.lemmas.Bool.{cases_eq}
use Rattle.uid_names.specs.Names.{ProcName, ObjectName}
use Rattle.uid_names.specs.declared.mode.Mode.{Mode}
use Rattle.uid_names.proofs.ListLemmas.{by_cases}
use Rattle.uid_names.proofs.Passed.{equal}
use Rattle.dom_history.specs.Locks.{is_held}
use Rattle.dom_history.specs.Objects.{is_node}
use Rattle.dom_history.specs.declared.op.Op.{Op}
use Rattle.dom_history.specs.declared.op.Op.TheVariants as ops
use Rattle.lock_manager.specs.Grants.{grant_of, held_in}
use Rattle.lock_manager.specs.Tables.{Table}
use Rattle.call_once.specs.Calls.{last_of}
use Rattle.ring_messages.specs.Bodies.{Ask}
use Rattle.ring_messages.specs.Frames.{caller_of}
use Rattle.fault_handler.specs.declared.entries.LockEntry.{LockEntry}
use Rattle.fault_handler.specs.Entries.{entry_of, state_in, is_released, keeps}
use Rattle.fault_handler.specs.Desks.{DeskState, entries_of, entry_at}
use Rattle.fault_handler.specs.LockCalls.{LockCall, LockAnswer}
use Rattle.fault_handler.specs.Outcomes.{Turn, Moved}
use Rattle.fault_handler.specs.Invariant.{IsProc, IsDesk, KeepsAll}
use Rattle.fault_handler.specs.Ready.{CallStands}
use Rattle.lock_validate.specs.Causes.{Cause, MayCome}
use Rattle.lock_validate.specs.Releasing.{releasing_in}
use Rattle.lock_validate.specs.Turns.{Says}
use Rattle.lock_validate.proofs.Beside.{moves-beside}
use Rattle.lock_validate.proofs.LockSaid.{answer-closes}
use Rattle.node_runs.specs.Setups.{Setup, IsSetup, given}
use Rattle.node_runs.specs.NodeStates.{Asked, BegunOp, NodeState, proc_of}
use Rattle.node_runs.specs.NodesKeep.{IsTimely, IsNodeOf}
use Rattle.node_runs.specs.Outcomes.{Stage, next_call}
use Rattle.node_runs.specs.SentFrames.{IsFrame, IsIncoming}
use Rattle.node_runs.specs.CallsKeep.{AsksThis, IsCallAt}
use Rattle.node_runs.specs.Runs.{World, Choice, numbered, calls_after, world_after}
use Rattle.node_runs.proofs.Calls.{put-same, put-other}
use Rattle.node_runs.proofs.Decisions.{HomeStep, apart, decides}
use Rattle.node_runs.proofs.Reaching.{step_of-keeps}
use Rattle.node_runs.proofs.Receiving.{incoming-is}
use Rattle.node_runs.proofs.SettingUp.{setup-gives, setup-procs}
use Rattle.run_laws.specs.DecidedReplies.{proc_at}
use Rattle.run_laws.proofs.HearingRuns.{IsKeptNext, every-kept-run, event, event-home}
use Rattle.run_laws.proofs.Replies.{caller-at}
use Rattle.run_laws.specs.DeskSteps.{apart as desk_apart, moves, IsHomeAsk, IsHomeTurn, OpMove, NodeMove, still, moved, doing_after, turn_call}
use Rattle.run_laws.specs.Released.{gives_up, is_being_released}
use Rattle.run_laws.proofs.DeskSteps.{step-desk, home-asks}
use Rattle.run_laws.proofs.Released.{node-released}
use Rattle.run_laws.specs.LiveLocks.{IsAbout, row_at, locks_of, served_of}
use Rattle.run_laws.proofs.EntryMoves.{EntryThen, as_before, freed, noted, got, moves-entry}
use Rattle.run_laws.proofs.Grants.{stays}
use Rattle.run_laws.proofs.LiveRun.{link-call, live-are}
use Rattle.run_laws.proofs.Standing.{keeping-row}
use Rattle.run_laws.proofs.Keepers.{keeper}

-- a row of the process stands, and no other request about its object may still be decided
pub record IsRowed (locks : ℕ → Table) (served : ℕ → ℕ) (p : ProcName) (calls : List Asked) (u : ObjectName) : Type 0 where
  pub mode : Mode
  pub grant : ℕ
  pub row : row_at locks p u ≡ Some (mode, grant)
  pub alone : (k to : ℕ) (ask : Ask) → IsCallAt calls k to ask → IsAbout u ask → served u.home < k → k ≡ length calls

-- held, and its release or its removal was sent
abbrev pub IsGivenUp : Option LockEntry → Type 0
IsGivenUp o = (is_held (state_in o) ≡ true) × (is_released o ≡ true)

abbrev pub AreRowed : Setup → World → Type 0
AreRowed s w = (n p : ℕ) → is_node s.opening n ≡ true → IsProc p → (u : ObjectName) → IsGivenUp (entry_at (w.nodes n).desk.entries p u) → served_of w (proc_at n p) u.home < length (w.calls n p)
    → IsRowed (locks_of w) (served_of w (proc_at n p)) (proc_at n p) (w.calls n p) u

-- whether the turn gives up this object
abbrev turn_gives : Turn → ObjectName → Bool
turn_gives (Turn.Asks home ask) u = gives_up ask u
turn_gives turn u = false

said-gives : (d : DeskState) (p : ℕ) (e : DeskState) (u : ObjectName) (c : Cause) (turn : Turn) → Says d p e c turn → turn_gives turn u ≡ true → (delete : Bool) × (v : ObjectName) × (releasing_in c ≡ Some (delete, v))
said-gives d p e u c turn (Says.gives_up cause delete v gives opened may settled) is = (delete, v, gives)
said-gives d p e u c turn (Says.sends_page cause delete v k r gives opened sends) is = (delete, v, gives)
said-gives d p e u c turn (Says.sends_length cause delete v n gives opened changed) is = (delete, v, gives)
said-gives d p e u c turn said is = absurd (cc)

-- where a release begins or goes on, its process keeps all that it holds
answer-keeps : (d : DeskState) (p : ℕ) (desk : IsDesk d) (proc : IsProc p) (a : LockAnswer) → MayCome d p (Cause.AnswerCame a) → (delete : Bool) (v : ObjectName) → releasing_in (Cause.AnswerCame a) ≡ Some (delete, v) → KeepsAll d.entries p
answer-keeps d p desk proc (LockAnswer.PageSettled w del taken stamp) may delete v is =
    let closed = answer-closes d p (LockAnswer.PageSettled w del taken stamp) desk proc may in
    let stands : CallStands d p (LockCall.PageOut w closed.closes.0 del) = subst (CallStands d p) closed.closes.1 closed.stands in
    stands.0.others
answer-keeps d p desk proc (LockAnswer.LengthSettled w n del taken stamp) may delete v is =
    let closed = answer-closes d p (LockAnswer.LengthSettled w n del taken stamp) desk proc may in
    let stands : CallStands d p (LockCall.AttrOut w n del) = subst (CallStands d p) closed.closes closed.stands in
    stands.0.others
answer-keeps d p desk proc (LockAnswer.Granted w m grant stamp room n) may delete v is = absurd (cc)
answer-keeps d p desk proc (LockAnswer.Refused q held) may delete v is = absurd (cc)
answer-keeps d p desk proc (LockAnswer.Gone w) may delete v is = absurd (cc)
answer-keeps d p desk proc (LockAnswer.Released w) may delete v is = absurd (cc)
answer-keeps d p desk proc (LockAnswer.Removed w) may delete v is = absurd (cc)

releasing-keeps : (d : DeskState) (p : ℕ) (desk : IsDesk d) (proc : IsProc p) (c : Cause) → MayCome d p c → (delete : Bool) (v : ObjectName) → releasing_in c ≡ Some (delete, v) → KeepsAll d.entries p
releasing-keeps d p desk proc (Cause.Releases del w) may delete v is = may.keeping
releasing-keeps d p desk proc (Cause.AnswerCame a) may delete v is = answer-keeps d p desk proc a may delete v is
releasing-keeps d p desk proc (Cause.Accesses access) may delete v is = absurd (cc)
releasing-keeps d p desk proc (Cause.Locks w m) may delete v is = absurd (cc)
releasing-keeps d p desk proc (Cause.PageCame a) may delete v is = absurd (cc)
releasing-keeps d p desk proc (Cause.AccessFailed t) may delete v is = absurd (cc)
releasing-keeps d p desk proc (Cause.CallFailed call) may delete v is = absurd (cc)

-- a new object and a list give up nothing
home-gives : (op : Op) (to : ℕ) (ask : Ask) (u : ObjectName) → IsHomeAsk op to ask → gives_up ask u ≡ true → ⊥
home-gives (ops.New home kind room) to ask u asks gives = absurd (let e = ap (λ x. gives_up x u) (sym asks.1) ∙ gives in cc)
home-gives (ops.List home after) to ask u asks gives = absurd (let e = ap (λ x. gives_up x u) (sym asks.1) ∙ gives in cc)
home-gives (ops.Lock v k) to ask u asks gives = asks
home-gives (ops.Unlock v) to ask u asks gives = asks
home-gives (ops.Delete v) to ask u asks gives = asks
home-gives (ops.Load spot count) to ask u asks gives = asks
home-gives (ops.Store spot bytes) to ask u asks gives = asks
home-gives (ops.Length v) to ask u asks gives = asks
home-gives (ops.Map v) to ask u asks gives = asks
home-gives (ops.Unmap v) to ask u asks gives = asks

-- an older call, or the new one
new-or-old : (k to : ℕ) (ask : Ask) (x : Asked) (calls : List Asked) → IsCallAt (x ∷ calls) k to ask → (k ≡ length (x ∷ calls)) ⊎ IsCallAt calls k to ask
new-or-old k to ask x calls made = by_cases (k == length calls + 1) ((k ≡ length (x ∷ calls)) ⊎ IsCallAt calls k to ask)
    (λ same. inl (let e = equal k (length calls + 1) same in omega (arith, e)))
    (λ differs. inr (subst (λ b. AsksThis (if b then Some x else numbered k calls) to ask) differs made))

module _ (s : Setup) (setup : IsSetup s) (cs : List Choice) (old : World) (e : world_after s cs ≡ Some old) (timely : IsTimely old) (c : Choice) (new : World) (next : IsKeptNext s old c new) (rowed : AreRowed s old) where
  open event s old c new next use {n, step, after}

  node_old : IsNodeOf (given s c.node) (old.nodes c.node)
  node_old = next.kept.nodes c.node next.is.node

  is_incoming : IsIncoming next.is.incoming
  is_incoming = incoming-is IsIncoming tt (λ number tick. tt) (λ tick. tt) IsFrame (λ x is. is) old c.node (λ from. next.kept.frames from c.node) c.what next.is.incoming next.is.comes

  node_new : IsNodeOf (given s c.node) step.node
  node_new = (step_of-keeps (given s c.node) (old.nodes c.node) c.what next.is.incoming c.dropped step (setup-gives s setup c.node next.is.node) node_old is_incoming next.is.steps).node

  home-step : HomeStep (given s c.node) n c.what next.is.incoming step
  home-step = event-home s old c new next

  -- what a process asked of a home, of which it is served no less
  served-by : HomeStep (given s c.node) n c.what next.is.incoming step → (P : ProcName) → last_of P n.side.served ≤ last_of P step.node.side.served
  served-by (apart more same none) P = more P
  served-by (decides from index m ask answer takes frame asks more above now note decision) P = more P

  served-up : (P : ProcName) (a : ℕ) → served_of old P a ≤ served_of after P a
  served-up P a = elim (cases_eq a c.node) [
    | inl here ↦ (let f = ap (λ (x : NodeState). last_of P x.side.served) (put-same old.nodes c.node a step.node here) in let g = ap (λ b. last_of P (old.nodes b).side.served) here in let h = served-by home-step P in omega (arith, f, g, h))
    | inr away ↦ (let f = ap (λ (x : NodeState). last_of P x.side.served) (put-other old.nodes c.node a step.node away) in omega (arith, f))
  ]

  -- where the calls and the entry of a process stay
  module _ (a q : ℕ) (node : is_node s.opening a ≡ true) (proc : IsProc q) (u : ObjectName) (given_up : IsGivenUp (entry_at (old.nodes a).desk.entries q u)) (fresh : served_of after (proc_at a q) u.home < length (old.calls a q)) where
    abbrev P : ProcName
    P = proc_at a q

    was : IsRowed (locks_of old) (served_of old P) P (old.calls a q) u
    was = rowed a q node proc u given_up (let f = served-up P u.home in omega (arith, f, fresh))

    row-stays : HomeStep (given s c.node) n c.what next.is.incoming step → u.home ≡ c.node → held_in (grant_of P u step.node.side.locks.grants) ≡ Some (was.mode, was.grant)
    row-stays (apart more same none) here = ap (λ (t : Table). held_in (grant_of P u t.grants)) same.1 ∙ subst (λ b. held_in (grant_of P u (old.nodes b).side.locks.grants) ≡ Some (was.mode, was.grant)) here was.row
    row-stays (decides from index m ask answer takes frame asks more above now note decision) here =
        ap (λ (t : Table). held_in (grant_of P u t.grants)) decision.locks
        ∙ stays P u was.mode was.grant n.side.home n.side.locks node_old.side.table (subst (λ b. held_in (grant_of P u (old.nodes b).side.locks.grants) ≡ Some (was.mode, was.grant)) here was.row) (caller_of m) ask
        (λ same about. absurd (
        let call : IsCallAt (old.calls a q) m.number c.node ask = subst (λ (r : ProcName). IsCallAt (old.calls r.node r.number) m.number c.node ask) (sym (same ∙ caller-at m ask asks)) (link-call s old c new next m frame ask asks) in
        let low : served_of old P u.home < m.number = subst (λ b. served_of old P b < m.number) (sym here) (subst (λ r. last_of r n.side.served < m.number) (sym same) above) in
        let last : m.number ≡ length (old.calls a q) = was.alone m.number c.node ask call about low in
        let so : served_of after P u.home ≡ m.number = ap (λ (x : NodeState). last_of P x.side.served) (put-same old.nodes c.node u.home step.node here) ∙ subst (λ r. last_of r step.node.side.served ≡ m.number) (sym same) now in
        omega (arith, last, so, fresh)))

    pub rowed-still : IsRowed (locks_of after) (served_of after P) P (old.calls a q) u
    rowed-still = record {
      mode = was.mode;
      grant = was.grant;
      row = elim (cases_eq u.home c.node) [
        | inl here ↦ ap (λ (x : NodeState). held_in (grant_of P u x.side.locks.grants)) (put-same old.nodes c.node u.home step.node here) ∙ row-stays home-step here
        | inr away ↦ ap (λ (x : NodeState). held_in (grant_of P u x.side.locks.grants)) (put-other old.nodes c.node u.home step.node away) ∙ was.row
      ];
      alone = λ k to ask made about late. was.alone k to ask made about (let f = served-up P u.home in omega (arith, f, late));
    }

  -- the operation of a process moves its desk
  module _ (p : ℕ) (proc : IsProc p) (o : BegunOp) (stage : Stage) (m : Moved) (made : OpMove s.opening next.is.incoming (proc_of n p).doing stage n.desk p o.op m) (at_desk : step.node.desk ≡ m.desk)
      (doing : (proc_of step.node p).doing ≡ doing_after o (proc_of n p) m.turn) (call : step.call ≡ turn_call p (proc_of n p) m.turn) (side : step.node.side ≡ n.side) where
    abbrev Q : ProcName
    Q = proc_at c.node p

    locks-same : (a : ℕ) → locks_of after a ≡ locks_of old a
    locks-same a = elim (cases_eq a c.node) [
      | inl here ↦ ap (λ (x : NodeState). x.side.locks) (put-same old.nodes c.node a step.node here) ∙ (ap (λ x. x.locks) side ∙ ap (λ b. (old.nodes b).side.locks) (sym here))
      | inr away ↦ ap (λ (x : NodeState). x.side.locks) (put-other old.nodes c.node a step.node away)
    ]

    gives-then : (u : ObjectName) → IsGivenUp (entry_at step.node.desk.entries p u) → turn_gives m.turn u ≡ true
    gives-then u given_up = by m.turn (sym (node-released (given s c.node) step.node node_new p proc u given_up.0 ∙ ap (λ x. is_being_released x u) doing) ∙ given_up.1)
      where
        by : (turn : Turn) → is_being_released (doing_after o (proc_of n p) turn) u ≡ true → turn_gives turn u ≡ true
        by (Turn.Ends reply) is = absurd (cc)
        by (Turn.Waits v k) is = absurd (cc)
        by (Turn.Asks home ask) is = is

    asks-then : (u : ObjectName) (turn : Turn) → m.turn ≡ turn → turn_gives turn u ≡ true → (x : Asked) × (after.calls c.node p ≡ x ∷ old.calls c.node p)
    asks-then u (Turn.Asks home ask) is gives =
        (next_call (proc_of n p) home ask, ap (λ y. calls_after old c.node y c.node p) (call ∙ ap (turn_call p (proc_of n p)) is) ∙ (ap (λ f. f p) (put-same old.calls c.node c.node _ refl) ∙ put-same (old.calls c.node) p p _ refl))
    asks-then u (Turn.Ends reply) is gives = absurd (cc)
    asks-then u (Turn.Waits v k) is gives = absurd (cc)

    -- it was kept before
    kept-before : (u : ObjectName) → IsGivenUp (entry_at step.node.desk.entries p u) → keeps (entry_at n.desk.entries p u) ≡ true
    kept-before u given_up = by made
      where
        apart-asks : (turn : Turn) → IsHomeTurn s.opening next.is.incoming p (proc_of n p).doing stage o.op turn → turn_gives turn u ≡ true → ⊥
        apart-asks (Turn.Asks home ask) is gives = home-gives o.op home ask u (home-asks s.opening next.is.incoming p (proc_of n p).doing stage o.op home ask is) gives
        apart-asks (Turn.Ends reply) is gives = absurd (cc)
        apart-asks (Turn.Waits v k) is gives = absurd (cc)

        by : OpMove s.opening next.is.incoming (proc_of n p).doing stage n.desk p o.op m → keeps (entry_at n.desk.entries p u) ≡ true
        by (desk_apart desk turn) = absurd (apart-asks m.turn turn (gives-then u given_up))
        by (moves cause may of at_stage taken done) = from_entry (subst (λ (d : DeskState). EntryThen cause m.turn u (entry_at n.desk.entries p u) (entry_at d.entries p u)) (sym at_desk) (moves-entry cause m.turn p proc u n.desk m.desk m.dropped node_old.desk done.moves))
          where
            from_entry : EntryThen cause m.turn u (entry_at n.desk.entries p u) (entry_at step.node.desk.entries p u) → keeps (entry_at n.desk.entries p u) ≡ true
            from_entry (noted delete gives asks kept allowed never) = kept
            from_entry (freed never held) = absurd (let h : true ≡ false = sym given_up.0 ∙ held in cc)
            from_entry (got k grant stamp room i gives is) = absurd (let h : false ≡ true = sym (ap is_released is) ∙ given_up.1 in cc)
            from_entry (as_before same) =
                let by_cause = said-gives n.desk p m.desk u cause m.turn done.says (gives-then u given_up) in
                releasing-keeps n.desk p node_old.desk proc cause may by_cause.0 by_cause.1 by_cause.2 u (ap (λ o. is_held (state_in o)) (sym same) ∙ given_up.0)

    pub rowed-own : (u : ObjectName) → IsGivenUp (entry_at step.node.desk.entries p u) → IsRowed (locks_of after) (served_of after Q) Q (after.calls c.node p) u
    rowed-own u given_up =
        let kept = kept-before u given_up in
        let k = keeper old c.node p proc u kept in
        let row = keeping-row s setup cs old e timely c.node p u k.mode k.grant k.keeping in
        let asked = asks-then u m.turn refl (gives-then u given_up) in
        subst (λ calls. IsRowed (locks_of after) (served_of after Q) Q calls u) (sym asked.1) (record {
          mode = k.mode;
          grant = k.grant;
          row = ap (λ (t : Table). held_in (grant_of Q u t.grants)) (locks-same u.home) ∙ row;
          alone = λ i to ask is about late. elim (new-or-old i to ask asked.0 (old.calls c.node p) is) [
            | inl last ↦ last
            | inr earlier ↦ absurd (
                let never = (live-are s setup cs old e timely c.node p proc).late i to u ask earlier about (let f = served-up Q u.home in omega (arith, f, late)) in
                let h : true ≡ false = sym kept ∙ never in cc)
          ];
        })

    entries-beside : (q : ℕ) → IsProc q → q ≢ p → entries_of step.node.desk q ≡ entries_of (old.nodes c.node).desk q
    entries-beside q other differs = by made
      where
        by : OpMove s.opening next.is.incoming (proc_of n p).doing stage n.desk p o.op m → entries_of step.node.desk q ≡ entries_of (old.nodes c.node).desk q
        by (desk_apart desk turn) = ap (λ d. entries_of d q) (at_desk ∙ desk)
        by (moves cause may of at_stage taken done) = ap (λ d. entries_of d q) at_desk ∙ (moves-beside cause m.turn p q proc other differs n.desk m.desk m.dropped done.moves).entries

    calls-beside : (a q : ℕ) → (a ≡ c.node → q ≡ p → ⊥) → after.calls a q ≡ old.calls a q
    calls-beside a q differs = ap (λ x. calls_after old c.node x a q) call ∙ by m.turn
      where
        by : (turn : Turn) → calls_after old c.node (turn_call p (proc_of n p) turn) a q ≡ old.calls a q
        by (Turn.Ends reply) = refl
        by (Turn.Waits v i) = refl
        by (Turn.Asks home ask) = elim (cases_eq a c.node) [
          | inr away ↦ ap (λ f. f q) (put-other old.calls c.node a _ away)
          | inl here ↦ ap (λ b. calls_after old c.node (Some (p, next_call (proc_of n p) home ask)) b q) here
              ∙ (ap (λ f. f q) (put-same old.calls c.node c.node _ refl) ∙ (put-other (old.calls c.node) p q _ (λ there. differs here there) ∙ ap (λ b. old.calls b q) (sym here)))
        ]

  -- a process whose entries and calls stay
  at-rest : (a q : ℕ) → is_node s.opening a ≡ true → IsProc q → (u : ObjectName) → entries_of (after.nodes a).desk q ≡ entries_of (old.nodes a).desk q → after.calls a q ≡ old.calls a q → IsGivenUp (entry_at (after.nodes a).desk.entries q u)
      → served_of after (proc_at a q) u.home < length (after.calls a q) → IsRowed (locks_of after) (served_of after (proc_at a q)) (proc_at a q) (after.calls a q) u
  at-rest a q node proc u entries calls given_up fresh =
      subst (λ xs. IsRowed (locks_of after) (served_of after (proc_at a q)) (proc_at a q) xs u) (sym calls)
      (rowed-still a q node proc u (subst (λ (es : List LockEntry). IsGivenUp (entry_of u es)) entries given_up) (subst (λ (xs : List Asked). served_of after (proc_at a q) u.home < length xs) calls fresh))

  entries-at : (a q : ℕ) → (a ≡ c.node → entries_of step.node.desk q ≡ entries_of (old.nodes c.node).desk q) → entries_of (after.nodes a).desk q ≡ entries_of (old.nodes a).desk q
  entries-at a q own = elim (cases_eq a c.node) [
    | inl here ↦ ap (λ (x : NodeState). entries_of x.desk q) (put-same old.nodes c.node a step.node here) ∙ (own here ∙ ap (λ b. entries_of (old.nodes b).desk q) (sym here))
    | inr away ↦ ap (λ (x : NodeState). entries_of x.desk q) (put-other old.nodes c.node a step.node away)
  ]

  rowed-after : NodeMove (given s c.node) n next.is.incoming step → AreRowed s after
  rowed-after (still desk same quiet uncalled) a q node proc u given_up fresh =
      at-rest a q node proc u (entries-at a q (λ here. ap (λ d. entries_of d q) desk)) (ap (λ x. calls_after old c.node x a q) uncalled) given_up fresh
  rowed-after (moved p o stage m proc is_at made at_desk doing others note call side) a q node other u given_up fresh = elim (cases_eq a c.node) [
    | inr away ↦ at-rest a q node other u (entries-at a q (λ here. absurd (away here))) (calls-beside p proc o stage m made at_desk doing call side a q (λ here there. away here)) given_up fresh
    | inl here ↦ elim (cases_eq q p) [
      | inr beside ↦ at-rest a q node other u (entries-at a q (λ at_node. entries-beside p proc o stage m made at_desk doing call side q other beside)) (calls-beside p proc o stage m made at_desk doing call side a q (λ at_node there. beside there)) given_up fresh
      | inl there ↦
          subst (λ b. IsRowed (locks_of after) (served_of after (proc_at b q)) (proc_at b q) (after.calls b q) u) (sym here)
          (subst (λ r. IsRowed (locks_of after) (served_of after (proc_at c.node r)) (proc_at c.node r) (after.calls c.node r) u) (sym there)
          (rowed-own p proc o stage m made at_desk doing call side u
          (subst (λ r. IsGivenUp (entry_at step.node.desk.entries r u)) there (subst (λ (x : NodeState). IsGivenUp (entry_at x.desk.entries q u)) (put-same old.nodes c.node a step.node here) given_up))))
    ]
  ]

  pub rowed-later : AreRowed s new
  rowed-later = subst (AreRowed s) (sym next.is.world)
      (rowed-after (step-desk (given s c.node) (old.nodes c.node) c.what next.is.incoming c.dropped step (setup-gives s setup c.node next.is.node) node_old is_incoming next.is.steps))

-- in every run
pub rowed-are : (s : Setup) → IsSetup s → (cs : List Choice) (w : World) → world_after s cs ≡ Some w → IsTimely w → AreRowed s w
rowed-are s setup = every-kept-run s setup (setup-procs s setup) (AreRowed s) (λ n p node proc u given_up fresh. absurd (omega (arith, fresh)))
    (λ cs old c new e timely next rowed. rowed-later s setup cs old e timely c new next rowed)
