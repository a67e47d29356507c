-- A call that there is after an event was there, or is the one that the event opens. And the grant that a write names was given.
use Rattle.std.proofs.Common.{◌≡◌, ℕ, ◌+◌, ◌≤◌, Bool, true, false, List, ◌∷◌, length, Option, Some, None, ◌⊎◌, inl, inr, sym, ap, subst, ◌∙◌, arith}
use Rattle.std.specs.Prelude.{◌==◌, ◌&&◌, if◌then◌else◌}
use Rattle.std.proofs.lemmas.Bool.{cases_eq}
use Rattle.std.proofs.lemmas.Bool.Decides.{nat_tests}
use Rattle.lock_validate.proofs.States.{writing-entry}
use Rattle.uid_names.specs.Names.{ObjectName}
use Rattle.uid_names.specs.Modes.{mode_writes}
use Rattle.uid_names.specs.declared.mode.Mode.{Mode}
use Rattle.uid_names.proofs.ListLemmas.{by_cases}
use Rattle.uid_names.proofs.Passed.{left-true, right-true}
use Rattle.dom_history.specs.Objects.{is_node}
use Rattle.object_store.specs.declared.attributes.Attr.{Attr}
use Rattle.object_store.specs.HomeStates.{HomeState}
use Rattle.lock_manager.specs.Tables.{Table, IsTable}
use Rattle.ring_messages.specs.Bodies.{Ask}
use Rattle.ring_messages.specs.Frames.{caller_of}
use Rattle.page_server.specs.Decisions.{lock_by, remove_by}
use Rattle.page_server.proofs.Given.{last-rises}
use Rattle.fault_handler.specs.declared.entries.LockEntry.{LockEntry}
use Rattle.fault_handler.specs.Entries.{keeps_writing, grant_in}
use Rattle.fault_handler.specs.Desks.{DeskState, entry_at}
use Rattle.fault_handler.specs.Outcomes.{Turn}
use Rattle.fault_handler.specs.Invariant.{IsProc}
use Rattle.fault_handler.proofs.Fours.{any-of}
use Rattle.node_runs.specs.Setups.{Setup, IsSetup, Given, given}
use Rattle.node_runs.specs.NodeStates.{Asked, BegunOp, NodeState, proc_of}
use Rattle.node_runs.specs.Incomings.{Incoming}
use Rattle.node_runs.specs.Outcomes.{Stepped, next_call}
use Rattle.node_runs.specs.Dones.{asking}
use Rattle.node_runs.specs.NodesKeep.{IsTimely}
use Rattle.node_runs.specs.Runs.{World, Choice, put, numbered, calls_after, world_after}
use Rattle.node_runs.specs.CallsKeep.{IsCallAt, AsksThis}
use Rattle.node_runs.proofs.Calls.{put-same, put-other}
use Rattle.node_runs.proofs.Decisions.{HomeStep, apart, decides}
use Rattle.node_runs.proofs.SettingUp.{setup-procs}
use Rattle.run_laws.specs.DecidedReplies.{proc_at}
use Rattle.run_laws.proofs.HearingRuns.{IsKeptNext, every-kept-run, event, event-home}
use Rattle.run_laws.specs.DeskSteps.{doing_after, turn_call, NodeMove, still, moved}
use Rattle.run_laws.specs.OpenCalls.{writes_under, Carries, CarriesOpen, AreCarried}
use Rattle.run_laws.proofs.OpenCalls.{runs-carry}
use Rattle.run_laws.proofs.EventMoves.{desk-moves}
use Rattle.run_laws.specs.LiveLocks.{row_at, locks_of, AreLive}
use Rattle.run_laws.proofs.LiveRun.{live-are}
use Rattle.run_laws.proofs.Standing.{table-now}
use Rattle.run_laws.specs.Items.{Write, write_of}
use Rattle.run_laws.proofs.Decisions.{row-given}

-- a call of a process is the one that its node makes now
pub record IsMadeNow (a q home : ℕ) (ask : Ask) (n : ℕ) (made : Option (ℕ × Asked)) : Type 0 where
  pub call : Asked
  pub is : made ≡ Some (q, call)
  pub node : a ≡ n
  pub to : call.home ≡ home
  pub asks : call.ask ≡ ask

pub call-then : (old : World) (n a q number home : ℕ) (ask : Ask) (made : Option (ℕ × Asked)) → IsCallAt (calls_after old n made a q) number home ask → IsCallAt (old.calls a q) number home ask ⊎ IsMadeNow a q home ask n made
call-then old n a q number home ask None is = inl is
call-then old n a q number home ask (Some (p, k)) is = elim (cases_eq a n) [
  | inr away ↦ inl (subst (λ (f : ℕ → List Asked). IsCallAt (f q) number home ask) (put-other old.calls n a _ away) is)
  | inl here ↦ at (subst (λ (f : ℕ → List Asked). IsCallAt (f q) number home ask) (put-same old.calls n a _ here) is) here
]
  where
    newest : (older : List Asked) → IsCallAt (k ∷ older) number home ask → IsCallAt older number home ask ⊎ ((k.home ≡ home) × (k.ask ≡ ask))
    newest older is = by_cases (number == length older + 1) (IsCallAt older number home ask ⊎ ((k.home ≡ home) × (k.ask ≡ ask)))
        (λ h. let this : AsksThis (Some k) home ask = subst (λ b. AsksThis (if b then Some k else numbered number older) home ask) h is in inr (this.0, this.1))
        (λ h. inl (subst (λ b. AsksThis (if b then Some k else numbered number older) home ask) h is))

    at : IsCallAt (put (old.calls n) p (k ∷ old.calls n p) q) number home ask → a ≡ n → IsCallAt (old.calls a q) number home ask ⊎ IsMadeNow a q home ask n (Some (p, k))
    at is here = elim (cases_eq q p) [
      | inr beside ↦ inl (subst (λ b. IsCallAt (old.calls b q) number home ask) (sym here) (subst (λ xs. IsCallAt xs number home ask) (put-other (old.calls n) p q _ beside) is))
      | inl there ↦ elim (newest (old.calls n p) (subst (λ xs. IsCallAt xs number home ask) (put-same (old.calls n) p q _ there) is)) [
        | inl older ↦ inl (subst (λ b. IsCallAt (old.calls b q) number home ask) (sym here) (subst (λ r. IsCallAt (old.calls n r) number home ask) (sym there) older))
        | inr new ↦ inr (record {
          call = k;
          is = ap (λ r. let z : Option (ℕ × Asked) = Some (r, k) in z) (sym there);
          node = here;
          to = new.0;
          asks = new.1;
        })
      ]
    ]

-- the process of a call that is made, and the call
abbrev first_of : ℕ → Option (ℕ × Asked) → ℕ
first_of p None = p
first_of p (Some z) = z.0

abbrev second_of : Asked → Option (ℕ × Asked) → Asked
second_of k None = k
second_of k (Some z) = z.1

-- it is open then
pub made-open : (g : Given) (n : NodeState) (incoming : Incoming) (s : Stepped) → NodeMove g n incoming s → (q : ℕ) (k : Asked) → s.call ≡ Some (q, k) → IsProc q × ((o : BegunOp) × ((proc_of s.node q).doing ≡ asking o k))
made-open g n incoming s (still desk same quiet uncalled) q k is = absurd (let e : None ≡ Some (q, k) = sym uncalled ∙ is in cc)
made-open g n incoming s (moved p o stage m proc is_at made at_desk doing others note call side) q k is = by m.turn (sym call ∙ is) doing
  where
    by : (turn : Turn) → turn_call p (proc_of n p) turn ≡ Some (q, k) → (proc_of s.node p).doing ≡ doing_after o (proc_of n p) turn → IsProc q × ((o : BegunOp) × ((proc_of s.node q).doing ≡ asking o k))
    by (Turn.Ends reply) e doing = absurd (cc)
    by (Turn.Waits u i) e doing = absurd (cc)
    by (Turn.Asks home ask) e doing =
        let a : p ≡ q = ap (λ (z : Option (ℕ × Asked)). first_of p z) e in
        let b : next_call (proc_of n p) home ask ≡ k = ap (λ (z : Option (ℕ × Asked)). second_of k z) e in
        subst (λ r. IsProc r × ((o : BegunOp) × ((proc_of s.node r).doing ≡ asking o k))) a (proc, (o, doing ∙ ap (asking o) b))

-- a process that writes under a grant has its row
pub record IsWriterRow (w : World) (a : ℕ) (u : ObjectName) (grant : ℕ) : Type 0 where
  pub number : ℕ
  pub owner : IsProc number
  pub mode : Mode
  pub row : row_at (locks_of w) (proc_at a number) u ≡ Some (mode, grant)
  pub writes : mode_writes mode ≡ true

pub writer-row : (w : World) → AreLive w → (a q : ℕ) → IsProc q → (u : ObjectName) (grant : ℕ) → writes_under (w.nodes a).desk.entries u grant q ≡ true → IsWriterRow w a u grant
writer-row w live a q proc u grant writes =
    let o : Option LockEntry = entry_at (w.nodes a).desk.entries q u in
    let x = writing-entry o (left-true (keeps_writing o) (grant_in o == grant) writes) in
    let number : x.0.grant ≡ grant = sym (ap grant_in x.2) ∙ (let e = right-true (keeps_writing o) (grant_in o == grant) writes in grind (arith, nat_tests, e)) in
    record { number = q; owner = proc; mode = x.1; row = (live a q proc).row u x.0 x.1 x.2 x.5 x.3 ∙ ap (λ i. Some (x.1, i)) number; writes = x.4 }

-- the process under whose grant a write is sent
pub carries-writer : (d : DeskState) (q : ℕ) → IsProc q → (ask : Ask) (written : Write) → write_of ask ≡ Some written → Carries d q ask → (r : ℕ) × IsProc r × (writes_under d.entries written.uid written.grant r ≡ true)
carries-writer d q proc (Ask.PageOut u k grant base bytes) written is carries =
    let found = any-of (writes_under d.entries u grant) carries.granted in
    let same = some_write is in
    subst (λ (w : Write). (r : ℕ) × IsProc r × (writes_under d.entries w.uid w.grant r ≡ true)) same (found.0, found.1, found.2)
  where
    some_write : {x y : Write} → Some x ≡ Some y → x ≡ y
    some_write e = cc
carries-writer d q proc (Ask.AttrOut u n grant base) written is carries =
    subst (λ (w : Write). (r : ℕ) × IsProc r × (writes_under d.entries w.uid w.grant r ≡ true)) (some_write is) (q, proc, carries.granted)
  where
    some_write : {x y : Write} → Some x ≡ Some y → x ≡ y
    some_write e = cc
carries-writer d q proc (Ask.PageIn u k) written is carries = absurd (cc)
carries-writer d q proc (Ask.Lock u m) written is carries = absurd (cc)
carries-writer d q proc (Ask.Unlock u) written is carries = absurd (cc)
carries-writer d q proc (Ask.Remove u) written is carries = absurd (cc)
carries-writer d q proc (Ask.Make kind room) written is carries = absurd (cc)
carries-writer d q proc (Ask.ListLocks from) written is carries = absurd (cc)

-- the last grant of a home never falls
lock-last : (attr : Option Attr) (conflict : _) (row : _) (locks : Table) → locks.last ≤ (lock_by attr conflict row locks).locks.last
lock-last None conflict row locks = omega arith
lock-last (Some attr) None row locks = omega arith
lock-last (Some attr) (Some held) row locks = omega arith

remove-last : (there held : Bool) (u : ObjectName) (home : HomeState) (locks : Table) → locks.last ≤ (remove_by there held u home locks).locks.last
remove-last false held u home locks = omega arith
remove-last true false u home locks = omega arith
remove-last true true u home locks = omega arith

-- the grant of each write was given
abbrev pub AreGiven : Setup → World → Type 0
AreGiven s w = (n p : ℕ) → is_node s.opening n ≡ true → IsProc p → (number home : ℕ) (ask : Ask) (written : Write) → IsCallAt (w.calls n p) number home ask → write_of ask ≡ Some written → written.grant ≤ (locks_of w written.uid.home).last

module _ (s : Setup) (setup : IsSetup s) (old : World) (c : Choice) (new : World) (next : IsKeptNext s old c new) where
  open event s old c new next use {n, after}

  pub node-move : NodeMove (given s c.node) n next.is.incoming next.is.step
  node-move =
      desk-moves s setup old c new next

  pub home-step : HomeStep (given s c.node) n c.what next.is.incoming next.is.step
  home-step = event-home s old c new next

  last-here : HomeStep (given s c.node) n c.what next.is.incoming next.is.step → n.side.locks.last ≤ next.is.step.node.side.locks.last
  last-here (apart more same none) = let e = ap (λ (t : Table). t.last) same.1 in omega (arith, e)
  last-here (decides from index m ask answer takes frame asks more above now note decision) =
      let e = ap (λ (t : Table). t.last) decision.locks in let f = last-rises n.side.home n.side.locks (caller_of m) ask in omega (arith, e, f)

  pub last-still : (a : ℕ) → (locks_of old a).last ≤ (locks_of after a).last
  last-still a = elim (cases_eq a c.node) [
    | inl here ↦
        (let e = ap (λ (x : NodeState). x.side.locks.last) (put-same old.nodes c.node a next.is.step.node here) in
        let f = ap (λ b. (old.nodes b).side.locks.last) here in
        let h = last-here home-step in omega (arith, e, f, h))
    | inr away ↦ (let e = ap (λ (x : NodeState). x.side.locks.last) (put-other old.nodes c.node a next.is.step.node away) in omega (arith, e))
  ]

  given-later : AreGiven s old → ((a : ℕ) → is_node s.opening a ≡ true → AreCarried (after.nodes a)) → AreLive after → ((a : ℕ) → IsTable (locks_of after a)) → AreGiven s after
  given-later was carried live tables a q node proc number home ask written is writes = elim (call-then old c.node a q number home ask next.is.step.call is) [
    | inl older ↦ (let e = was a q node proc number home ask written older writes in let f = last-still written.uid.home in omega (arith, e, f))
    | inr made ↦
        (let opened = made-open (given s c.node) n next.is.incoming next.is.step node-move q made.call made.is in
        let doing : (proc_of (after.nodes a) q).doing ≡ asking opened.1.0 made.call = ap (λ (x : NodeState). (proc_of x q).doing) (put-same old.nodes c.node a next.is.step.node made.node) ∙ opened.1.1 in
        let carries : Carries (after.nodes a).desk q made.call.ask = subst (CarriesOpen (after.nodes a).desk q) doing (carried a node q proc) in
        let writer = carries-writer (after.nodes a).desk q proc ask written writes (subst (Carries (after.nodes a).desk q) made.asks carries) in
        let row = writer-row after live a writer.0 writer.1 written.uid written.grant writer.2 in
        row-given (proc_at a row.number) written.uid row.mode written.grant (locks_of after written.uid.home) (tables written.uid.home) row.row)
  ]

-- in every run
abbrev IsGivenRun : Setup → World → Type 0
IsGivenRun s w = (cs : List Choice) → world_after s cs ≡ Some w → IsTimely w → AreGiven s w

pub given-are : (s : Setup) → IsSetup s → (cs : List Choice) (w : World) → world_after s cs ≡ Some w → IsTimely w → AreGiven s w
given-are s setup cs w e timely =
    every-kept-run s setup (setup-procs s setup) (IsGivenRun s) (λ cs e timely n p node proc number home ask written is. absurd is)
    (λ before old c new e timely next was after whole late.
    subst (AreGiven s) (sym next.is.world) (given-later s setup old c new next (was before e timely)
    (subst (λ (x : World). (a : ℕ) → is_node s.opening a ≡ true → AreCarried (x.nodes a)) next.is.world (runs-carry s setup after new whole late))
    (subst AreLive next.is.world (live-are s setup after new whole late))
    (subst (λ (x : World). (a : ℕ) → IsTable (locks_of x a)) next.is.world (table-now s setup after new whole late))))
    cs w e timely cs e timely
