-- Each event keeps contents.
use Rattle.std.proofs.Common.{◌≡◌, ◌≢◌, ℕ, ◌+◌, ◌≤◌, ◌<◌, Bool, true, false, List, [], ◌∷◌, length, Option, Some, None, ◌⊎◌, inl, inr, refl, sym, ap, subst, ◌∙◌, arith}
use Rattle.std.specs.Prelude.{is_some, unwrap_or, IfSome}
use Rattle.std.specs.Option.{option_map}
use Rattle.std.proofs.lemmas.Bool.{cases_eq}
use Rattle.std.proofs.lemmas.Bool.Decides.{nat_tests}
use Rattle.std.proofs.lemmas.Option.{same_Some}
use Rattle.uid_names.specs.Names.{ProcName, ObjectName, same_uid}
use Rattle.uid_names.specs.declared.ids.Place.{Place}
use Rattle.uid_names.specs.declared.mode.Mode.{Mode}
use Rattle.uid_names.specs.Openings.{Start}
use Rattle.uid_names.proofs.ListLemmas.{by_cases}
use Rattle.uid_names.proofs.Orders.{same_uid_is}
use Rattle.uid_names.proofs.Somes.{there_is}
use Rattle.dom_history.specs.declared.op.Op.{Op}
use Rattle.dom_history.specs.declared.op.Op.TheVariants as ops
use Rattle.dom_history.specs.Objects.{is_node}
use Rattle.page_cache.specs.Caches.{page_at}
use Rattle.version_stamps.specs.Stamps.{stamp_of as seen_of, raised}
use Rattle.object_store.specs.HomeStates.{HomeState, attr_of}
use Rattle.object_store.specs.Rules.{stamp_of}
use Rattle.lock_manager.specs.Grants.{grant_of, held_in}
use Rattle.lock_manager.specs.Tables.{Table}
use Rattle.page_server.specs.Decisions.{is_granted}
use Rattle.ring_messages.specs.Bodies.{Ask, Answer}
use Rattle.fault_handler.specs.declared.tasks.Task.{Task}
use Rattle.fault_handler.specs.Tasks.{page_of}
use Rattle.fault_handler.specs.Entries.{keeps}
use Rattle.fault_handler.specs.Transits.{coming}
use Rattle.fault_handler.specs.Desks.{DeskState, entry_at, moving_of, any_keeps, base_of}
use Rattle.fault_handler.specs.Outcomes.{Turn, Moved}
use Rattle.fault_handler.specs.PageReplies.{PageAnswer}
use Rattle.fault_handler.specs.LockCalls.{LockAnswer}
use Rattle.fault_handler.specs.Invariant.{IsProc, is_dirty, FitsWay, FitsTransit, IsDesk}
use Rattle.fault_handler.proofs.Fours.{any-of}
use Rattle.lock_validate.specs.Answers.{is_seen, is_fresh}
use Rattle.lock_validate.proofs.States.{kept-entry}
use Rattle.lock_validate.specs.Causes.{Cause, MayCome, IsOf}
use Rattle.lock_validate.specs.Left.{IsGranted}
use Rattle.lock_validate.specs.Told.{told_stamp}
use Rattle.lock_validate.specs.Turns.{IsMade}
use Rattle.lock_validate.specs.DeskMoves.{DeskMoves}
use Rattle.lock_validate.proofs.PageSaid.{page-said}
use Rattle.node_runs.specs.Setups.{Setup, IsSetup, given}
use Rattle.node_runs.specs.NodeStates.{Asked, Await, BegunOp, OpenOp, ProcState, NodeState, proc_of}
use Rattle.node_runs.specs.Incomings.{Incoming}
use Rattle.node_runs.specs.Outcomes.{Stage, next_call}
use Rattle.node_runs.specs.Dones.{Did, asking}
use Rattle.node_runs.specs.Notes.{Note}
use Rattle.node_runs.specs.NodesKeep.{IsNodeOf}
use Rattle.node_runs.specs.Runs.{World, Noted, Choice, calls_after}
use Rattle.node_runs.specs.CallsKeep.{IsCallAt, EachOf}
use Rattle.node_runs.specs.DecidedCalls.{IsDecided}
use Rattle.node_runs.specs.Agreements.{Agrees}
use Rattle.node_runs.proofs.Doing.{step_of-did}
use Rattle.node_runs.proofs.Calls.{put-same, put-other, numbered-within}
use Rattle.node_runs.proofs.Decisions.{IsNoDecision}
use Rattle.run_laws.specs.DecidedReplies.{proc_at, IsAnswerAt, WasAnswered}
use Rattle.run_laws.proofs.HearingRuns.{IsKeptNext, event}
use Rattle.run_laws.specs.DeskSteps.{IsTaken, IsHomeAsk, IsHomeTurn, IsAt, OpMove, apart as desk_apart, moves, doing_after, turn_call, IsSameDoing, NodeMove, still, moved}
use Rattle.run_laws.specs.OpenCalls.{Carries, CarriesOpen}
use Rattle.run_laws.proofs.DeskSteps.{home-asks, same-doing}
use Rattle.run_laws.specs.LiveLocks.{row_at, locks_of, served_of}
use Rattle.run_laws.proofs.Live.{not-answered}
use Rattle.run_laws.proofs.LiveRun.{got-row}
use Rattle.run_laws.specs.Items.{Item, Value, page_value, known_value, desk_value, is_dirty_at, Write, write_of}
use Rattle.run_laws.specs.Contents.{content}
use Rattle.run_laws.specs.Stamps.{home_at, stamp_at, IsThere, IsStampOf, IsItemTold, TellsItem}
use Rattle.run_laws.specs.Writes.{HasRoom, IsUnchanged, IsAcknowledged}
use Rattle.run_laws.specs.DeskContents.{AreContents}
use Rattle.run_laws.proofs.ItemSteps.{Cleans, IsPlain}
use Rattle.run_laws.proofs.Traces.{content-quiet, since-quiet, told-of, stamps-told}
use Rattle.run_laws.proofs.AnsweredContents.{IsAnswering, answering, IsTold, cleaned-acked, came-told, removed-told}
use Rattle.run_laws.proofs.Raising.{awaited_number, CameTo, came-to}
use Rattle.run_laws.proofs.Shown.{low_of, cleans-low, moves-up, Shows, Fits, IsKeptFrom, moves-kept}
use Rattle.run_laws.proofs.Gone.{TellsGone}
use Rattle.run_laws.proofs.WriteCalls.{call-then}
use Rattle.run_laws.proofs.Lawful.{IsLawful, ack-stamp}
use Rattle.run_laws.proofs.Sending.{unchanged-back, IsSent, SendsTurn, says-sent}
use Rattle.run_laws.proofs.Moved.{granted_uid, IsGrantLeft, said-left, clean-then, seen-then, low-then, kept-shows, unkept-same, unkept-seen}
use Rattle.run_laws.proofs.Quiet.{IsSentNow, DeskStep, IsQuietFor, contents-of, quiet-contents, IsDeskStill, ack-same, still-step}

-- what a new object or a list asks is no write
pub home-sends : (opening : Start) (incoming : Incoming) (p : ℕ) (doing : Option OpenOp) (stage : Stage) (op : Op) (e : DeskState) (turn : Turn) → IsHomeTurn opening incoming p doing stage op turn → SendsTurn e p turn
home-sends opening incoming p doing stage op e (Turn.Ends reply) is = tt
home-sends opening incoming p doing stage op e (Turn.Waits u k) is = tt
home-sends opening incoming p doing stage op e (Turn.Asks home ask) is = λ carries written writes. absurd (by op (home-asks opening incoming p doing stage op home ask is) written writes)
  where
    by : (op : Op) → IsHomeAsk op home ask → (written : Write) → write_of ask ≡ Some written → ⊥
    by (ops.New to kind room) asks written writes = absurd (let f : None ≡ Some written = sym (ap write_of asks.1) ∙ writes in cc)
    by (ops.List to from) asks written writes = absurd (let f : None ≡ Some written = sym (ap write_of asks.1) ∙ writes in cc)
    by (ops.Lock v k) asks written writes = asks
    by (ops.Unlock v) asks written writes = asks
    by (ops.Delete v) asks written writes = asks
    by (ops.Load spot count) asks written writes = asks
    by (ops.Store spot bytes) asks written writes = asks
    by (ops.Length v) asks written writes = asks
    by (ops.Map v) asks written writes = asks
    by (ops.Unmap v) asks written writes = asks

-- what a call that is made asks
abbrev asked_in : Ask → Option (ℕ × Asked) → Ask
asked_in x None = x
asked_in x (Some z) = z.1.ask

-- whether a call is awaited, and not a page
abbrev is_call : Await → Bool
is_call (Await.Answer c) = true
is_call (Await.Page w i) = false

abbrev has_call : Option OpenOp → Bool
has_call None = false
has_call (Some r) = is_call r.awaits

-- what the answer of a cause names, and another where it names none
abbrev removed_in : ObjectName → Cause → ObjectName
removed_in other (Cause.AnswerCame (LockAnswer.Removed w)) = w
removed_in other _ = other

abbrev came_task : Task → Cause → Task
came_task other (Cause.PageCame (PageAnswer.Came task stamp bytes)) = task
came_task other _ = other

abbrev came_stamp : ℕ → Cause → ℕ
came_stamp other (Cause.PageCame (PageAnswer.Came task stamp bytes)) = stamp
came_stamp other _ = other

abbrev came_bytes_of : List ℕ → Cause → List ℕ
came_bytes_of other (Cause.PageCame (PageAnswer.Came task stamp bytes)) = bytes
came_bytes_of other _ = other

abbrev granted_stamp : ℕ → Cause → ℕ
granted_stamp other (Cause.AnswerCame (LockAnswer.Granted u k grant stamp room l)) = stamp
granted_stamp other _ = other

-- a grant of the object, or not
granted-or : (u : ObjectName) (c : Cause) → ((k : Mode) × (grant : ℕ) × (stamp : ℕ) × (room : ℕ) × (l : ℕ) × (c ≡ Cause.AnswerCame (LockAnswer.Granted u k grant stamp room l))) ⊎ ((k : Mode) (grant stamp room l : ℕ) → c ≡ Cause.AnswerCame (LockAnswer.Granted u k grant stamp room l) → ⊥)
granted-or u (Cause.AnswerCame (LockAnswer.Granted w k grant stamp room l)) = by_cases (same_uid w u) (((j : Mode) × (g : ℕ) × (st : ℕ) × (r : ℕ) × (i : ℕ) × (Cause.AnswerCame (LockAnswer.Granted w k grant stamp room l) ≡ Cause.AnswerCame (LockAnswer.Granted u j g st r i)))
    ⊎ ((j : Mode) (g st r i : ℕ) → Cause.AnswerCame (LockAnswer.Granted w k grant stamp room l) ≡ Cause.AnswerCame (LockAnswer.Granted u j g st r i) → ⊥))
    (λ same. inl (k, grant, stamp, room, l, ap (λ v. Cause.AnswerCame (LockAnswer.Granted v k grant stamp room l)) (same_uid_is w u same)))
    (λ differs. inr (λ j g st r i is. absurd (let e : w ≡ u = ap (granted_uid w) is in let f : same_uid w u ≡ true = subst (λ v. same_uid w v ≡ true) e (grind (arith, nat_tests)) in let h : true ≡ false = sym f ∙ differs in cc)))
granted-or u (Cause.AnswerCame (LockAnswer.Refused q held)) = inr (λ k grant stamp room l is. absurd (cc))
granted-or u (Cause.AnswerCame (LockAnswer.Gone w)) = inr (λ k grant stamp room l is. absurd (cc))
granted-or u (Cause.AnswerCame (LockAnswer.PageSettled w delete taken st)) = inr (λ k grant stamp room l is. absurd (cc))
granted-or u (Cause.AnswerCame (LockAnswer.LengthSettled w i delete taken st)) = inr (λ k grant stamp room l is. absurd (cc))
granted-or u (Cause.AnswerCame (LockAnswer.Released w)) = inr (λ k grant stamp room l is. absurd (cc))
granted-or u (Cause.AnswerCame (LockAnswer.Removed w)) = inr (λ k grant stamp room l is. absurd (cc))
granted-or u (Cause.PageCame a) = inr (λ k grant stamp room l is. absurd (cc))
granted-or u (Cause.Accesses access) = inr (λ k grant stamp room l is. absurd (cc))
granted-or u (Cause.Locks w j) = inr (λ k grant stamp room l is. absurd (cc))
granted-or u (Cause.Releases delete w) = inr (λ k grant stamp room l is. absurd (cc))
granted-or u (Cause.AccessFailed t) = inr (λ k grant stamp room l is. absurd (cc))
granted-or u (Cause.CallFailed call) = inr (λ k grant stamp room l is. absurd (cc))

raised-self : (stamp : ℕ) → raised stamp (Some stamp) ≡ stamp
raised-self stamp = omega arith

-- the number of the call that a turn makes
turn-number : (o b : BegunOp) (q : ProcState) (k : Asked) (turn : Turn) → doing_after o q turn ≡ asking b k → k.waiting.number ≡ q.last + 1
turn-number o b q k (Turn.Ends reply) is = absurd (cc)
turn-number o b q k (Turn.Waits u i) is = absurd (let e : false ≡ true = ap has_call is in cc)
turn-number o b q k (Turn.Asks home ask) is = sym (ap awaited_number is)

-- tests of stamps
seen-is : (stamp : ℕ) (o : Option ℕ) → is_seen stamp o ≡ true → o ≡ Some stamp
seen-is stamp None is = absurd (cc)
seen-is stamp (Some s) is = ap (λ i. Some i) (let e : s ≡ stamp = grind (arith, nat_tests, is) in e)

fresh-raised : (stamp : ℕ) (o : Option ℕ) → is_fresh stamp o ≡ true → raised stamp o ≡ stamp
fresh-raised stamp None is = refl
fresh-raised stamp (Some s) is = let e : s ≤ stamp = grind (arith, nat_tests, is) in omega arith

old-raised : (stamp : ℕ) (o : Option ℕ) → is_fresh stamp o ≡ false → (s : ℕ) × (o ≡ Some s) × (stamp < s) × (raised stamp o ≡ s)
old-raised stamp None is = absurd (cc)
old-raised stamp (Some s) is = let e : stamp < s = grind (arith, nat_tests, is) in (s, refl, e, omega arith)

fresh-low : (stamp : ℕ) (o : Option ℕ) → is_fresh stamp o ≡ true → unwrap_or o 0 ≤ stamp
fresh-low stamp None is = omega arith
fresh-low stamp (Some s) is = grind (arith, nat_tests, is)

-- a call that was answered was made
answered-call : (w : World) (P : ProcName) (home number : ℕ) (x : Answer) (notes : List Noted) → WasAnswered notes home P number x → EachOf (λ (j : Noted). IsDecided w j.place j.note) notes → (to : ℕ) × (ask : Ask) × IsCallAt (w.calls P.node P.number) number to ask
answered-call w P home number x [] some each = absurd some
answered-call w P home number x (j ∷ older) (inr some) each = answered-call w P home number x older some each.1
answered-call w P home number x (j ∷ older) (inl is) each = by j.place j.note is each.0
  where
    by : (place : Place) (note : Note) → IsAnswerAt home P number x (record { place = place; note = note }) → IsDecided w place note → (to : ℕ) × (ask : Ask) × IsCallAt (w.calls P.node P.number) number to ask
    by place Note.Nothing is decided = absurd is.1
    by place (Note.Began q op) is decided = absurd is.1
    by place (Note.Did q phase op reply) is decided = absurd is.1
    by place (Note.Ended t) is decided = absurd is.1
    by place (Note.Decided q k ask given) is decided =
        (place.node, ask, subst (λ (r : ProcName). IsCallAt (w.calls r.node r.number) number place.node ask) is.1.0 (subst (λ i. IsCallAt (w.calls q.node q.number) i place.node ask) is.1.1 decided.1))

module _ (s : Setup) (setup : IsSetup s) (old : World) (c : Choice) (new : World) (next : IsKeptNext s old c new) where
  open event s old c new next use {n, step, after, mark}

  abbrev d : DeskState
  d = (old.nodes c.node).desk

  module _ (law : IsLawful s old) (law_after : IsLawful s after) (were : AreContents s old) where
    node : is_node s.opening c.node ≡ true
    node = next.is.node

    stamps : (b q : ℕ) (w : ObjectName) (y : Item) (z : Value) (t : ℕ) → IsAcknowledged old b q w y z t → IsStampOf old w t
    stamps = ack-stamp s old law

    -- where no home decides
    module _ (quiet : IsNoDecision step.note) (homes : (a : ℕ) → (after.nodes a).side.home ≡ (old.nodes a).side.home) (tables : (a : ℕ) → (after.nodes a).side.locks ≡ (old.nodes a).side.locks) (served : (q : ProcName) (a : ℕ) → served_of old q a ≤ served_of after q a) where
      answered-was : (u : ObjectName) (P : ProcName) (i t : ℕ) → WasAnswered after.trace u.home P i (Answer.Stored t) → WasAnswered old.trace u.home P i (Answer.Stored t)
      answered-was u P i t some = not-answered mark old.trace P quiet u.home i (Answer.Stored t) some

      quiet-for : (u : ObjectName) → IsQuietFor old after u
      quiet-for u = record {
        content = λ t x. content-quiet mark old.trace u quiet t x;
        stamp = ap (λ (h : HomeState). stamp_of (attr_of h u)) (homes u.home);
        there = λ there. subst (λ (h : HomeState). is_some (attr_of h u) ≡ true) (homes u.home) there;
        room = λ x v room. subst (λ h. HasRoom h u x v) (homes u.home) room;
        rows = λ q m grant row. inl (sym (ap (λ (t : Table). held_in (grant_of q u t.grants)) (tables u.home)) ∙ row, since-quiet mark old.trace u quiet grant);
        granted = λ grant a given on. subst (λ (t : Table). is_granted t grant u a ≡ true) (tables u.home) on;
        served = λ q. served q u.home;
      }

      there-after : (u : ObjectName) → IsThere old u → IsThere after u
      there-after u there = subst (λ (h : HomeState). is_some (attr_of h u) ≡ true) (sym (homes u.home)) there

      -- one process's operation moved the desk
      module _ (p : ℕ) (proc : IsProc p) (o : BegunOp) (stage : Stage) (m : Moved) (is_at : IsAt (proc_of n p).doing o stage) (at_desk : step.node.desk ≡ m.desk) (doing : (proc_of step.node p).doing ≡ doing_after o (proc_of n p) m.turn)
          (others : (q : ℕ) → IsProc q → q ≢ p → proc_of step.node q ≡ proc_of n q) (call : step.call ≡ turn_call p (proc_of n p) m.turn) where
        after-node : after.nodes c.node ≡ step.node
        after-node = put-same old.nodes c.node c.node step.node refl

        after-desk : (after.nodes c.node).desk ≡ m.desk
        after-desk = ap (λ (x : NodeState). x.desk) after-node ∙ at_desk

        -- its process has a new call, which is not answered
        own-fresh : (u : ObjectName) (x : Item) (v : Value) (t : ℕ) → IsAcknowledged after c.node p u x v t → ⊥
        own-fresh u x v t ack =
            let now : doing_after o (proc_of n p) m.turn ≡ asking ack.began ack.open_call = sym doing ∙ (sym (ap (λ (y : NodeState). (proc_of y p).doing) after-node) ∙ ack.doing) in
            let number = turn-number o ack.began (proc_of n p) ack.open_call m.turn now in
            let made = answered-call old (proc_at c.node p) u.home ack.open_call.waiting.number (Answer.Stored t) old.trace (answered-was u (proc_at c.node p) ack.open_call.waiting.number t ack.answered) next.decisions.each in
            let within = numbered-within ack.open_call.waiting.number (old.calls c.node p) made.0 made.1 made.2 in
            let last = next.calls.last c.node p proc in
            absurd (omega (arith, number, within, last))

        acked-then : (u : ObjectName) (q : ℕ) (x : Item) (v : Value) (t : ℕ) → (ack : IsAcknowledged after c.node q u x v t)
            → (IsProc q → q ≢ p → (ask : Ask) (grant base : ℕ) → write_of ask ≡ Some (record { uid = u; item = x; value = v; grant = grant; base = base }) → Carries d q ask → IsUnchanged m.desk u x v → IsUnchanged d u x v) → IsAcknowledged old c.node q u x v t
        acked-then u q x v t ack back = elim (cases_eq q p) [
          | inl there ↦ absurd (own-fresh u x v t (subst (λ r. IsAcknowledged after c.node r u x v t) there ack))
          | inr beside ↦
              (let same : (proc_of (after.nodes c.node) q) ≡ proc_of (old.nodes c.node) q = ap (λ (y : NodeState). proc_of y q) after-node ∙ others q ack.owner beside in
              let was : (proc_of (old.nodes c.node) q).doing ≡ asking ack.began ack.open_call = sym (ap (λ (y : ProcState). y.doing) same) ∙ ack.doing in
              let carries : Carries d q ack.open_call.ask = subst (CarriesOpen d q) was (law.carried c.node node q ack.owner) in
              ack-same old after c.node q ack.owner (subst (λ (y : ProcState). IsSameDoing (proc_of (old.nodes c.node) q).doing y.doing) (sym same) (same-doing (proc_of (old.nodes c.node) q).doing)) u x v t ack
              (answered-was u (proc_at c.node q) ack.open_call.waiting.number t ack.answered)
              (back ack.owner beside ack.open_call.ask ack.grant ack.base ack.writes carries (subst (λ e. IsUnchanged e u x v) after-desk ack.unchanged)))
        ]

        calls-then : SendsTurn m.desk p m.turn → (q number home : ℕ) (ask : Ask) (written : Write) → IsProc q → IsCallAt (after.calls c.node q) number home ask → write_of ask ≡ Some written → IsCallAt (old.calls c.node q) number home ask ⊎ IsSentNow after c.node written
        calls-then sends q number home ask written owner made writes = elim (call-then old c.node c.node q number home ask step.call made) [
          | inl older ↦ inl older
          | inr now ↦ inr (by m.turn refl sends (sym call ∙ now.is) now.asks)
        ]
          where
            by : (turn : Turn) → m.turn ≡ turn → SendsTurn m.desk p turn → {k : Asked} → turn_call p (proc_of n p) turn ≡ Some (q, k) → k.ask ≡ ask → IsSentNow after c.node written
            by (Turn.Ends reply) same sends is asks = absurd (cc)
            by (Turn.Waits w i) same sends is asks = absurd (cc)
            by (Turn.Asks to x) same sends {k} is asks =
                let this : x ≡ ask = ap (λ (z : Option (ℕ × Asked)). asked_in x z) is ∙ asks in
                let open_now : (proc_of (after.nodes c.node) p).doing ≡ asking o (next_call (proc_of n p) to x) = ap (λ (y : NodeState). (proc_of y p).doing) after-node ∙ (doing ∙ ap (doing_after o (proc_of n p)) same) in
                let carries : Carries m.desk p x = subst (λ e. Carries e p x) after-desk (subst (CarriesOpen (after.nodes c.node).desk p) open_now (law_after.carried c.node node p proc)) in
                let sent : IsSent m.desk written = sends carries written (ap write_of this ∙ writes) in
                record { dirty = subst (λ e. is_dirty_at e written.uid written.item ≡ true) (sym after-desk) sent.dirty; value = subst (λ e. desk_value e written.uid written.item ≡ Some written.value) (sym after-desk) sent.value }

        -- the desk had no part
        apart-step : m.desk ≡ d → SendsTurn m.desk p m.turn → (u : ObjectName) → IsThere old u → DeskStep old after c.node u
        apart-step same sends u there =
            let desk : (after.nodes c.node).desk ≡ d = after-desk ∙ same in
            record {
              clean = λ x clean. inl (subst (λ e. is_dirty_at e u x ≡ false) desk clean);
              seen = let e = ap (λ (y : DeskState). base_of y.seen u) desk in omega (arith, e);
              acked = λ q x v t ack. acked-then u q x v t ack (λ owner beside ask grant base writes carries now. subst (λ e. IsUnchanged e u x v) same now);
              calls = λ q number home ask written owner made writes. calls-then sends q number home ask written owner made writes;
              shown = λ x v t shows clean seen. were.as_seen c.node node u x v t there (subst (λ e. desk_value e u x ≡ Some v) desk shows) (subst (λ e. is_dirty_at e u x ≡ false) desk clean) (subst (λ (e : DeskState). seen_of u e.seen ≡ Some t) desk seen);
            }

        -- it moved by a cause
        module _ (cause : Cause) (may : MayCome d p cause) (of : IsOf d p cause o.op) (taken : IsTaken next.is.incoming d p (proc_of n p).doing cause may) (made : IsMade cause p d m) where
          node_old : IsNodeOf (given s c.node) (old.nodes c.node)
          node_old = next.kept.nodes c.node node

          desk_old : IsDesk d
          desk_old = node_old.desk

          did : Did (given s c.node) n c.what next.is.incoming step
          did = step_of-did (given s c.node) (old.nodes c.node) c.what next.is.incoming c.dropped step next.is.steps

          answer-came : (x : Cause) (may : MayCome d p x) → IsOf d p x o.op → IsTaken next.is.incoming d p (proc_of n p).doing x may → (y : Answer) → IsAnswering old c.node p o y → CameTo d p x step.node.desk
          answer-came x may of taken y ans =
              let agrees = subst (Agrees n.desk p (proc_of n p).last) ans.doing (node_old.agrees p proc) in
              came-to (given s c.node) n p o ans.call ans.doing agrees.1.1.number c.what next.is.incoming step did agrees.1.1.least m.turn doing x may of taken

          came-of : (x : Cause) (may : MayCome d p x) → IsOf d p x o.op → IsTaken next.is.incoming d p (proc_of n p).doing x may → CameTo d p x step.node.desk
          came-of (Cause.PageCame a) may of taken = answer-came (Cause.PageCame a) may of taken may.answer (answering s old c new next (law.opened c.node node) (law.carried c.node node) p proc o stage is_at may.answer taken)
          came-of (Cause.AnswerCame a) may of taken = answer-came (Cause.AnswerCame a) may of taken may.answer (answering s old c new next (law.opened c.node node) (law.carried c.node node) p proc o stage is_at may.answer taken)
          came-of (Cause.Accesses access) may of taken = tt
          came-of (Cause.Locks w k) may of taken = tt
          came-of (Cause.Releases delete w) may of taken = tt
          came-of (Cause.AccessFailed t) may of taken = tt
          came-of (Cause.CallFailed k) may of taken = tt

          came : CameTo d p cause m.desk
          came = subst (CameTo d p cause) at_desk (came-of cause may of taken)

          -- of an object that is there
          module _ (u : ObjectName) (there : IsThere old u) where
            unremoved-by : (x : Cause) (may : MayCome d p x) → IsOf d p x o.op → IsTaken next.is.incoming d p (proc_of n p).doing x may → x ≡ Cause.AnswerCame (LockAnswer.Removed u) → ⊥
            unremoved-by (Cause.AnswerCame (LockAnswer.Removed w)) may of taken is =
                let gone = removed-told s old c new next (law.opened c.node node) (law.carried c.node node) p proc o stage is_at (TellsGone old) law.gone w may of taken in
                let same : w ≡ u = ap (removed_in w) is in
                absurd (let e : true ≡ false = sym there ∙ subst (λ v. is_some (attr_of (home_at old v) v) ≡ false) same gone.none in cc)
            unremoved-by (Cause.AnswerCame (LockAnswer.Granted w k grant stamp room l)) may of taken is = absurd (cc)
            unremoved-by (Cause.AnswerCame (LockAnswer.Refused q held)) may of taken is = absurd (cc)
            unremoved-by (Cause.AnswerCame (LockAnswer.Gone w)) may of taken is = absurd (cc)
            unremoved-by (Cause.AnswerCame (LockAnswer.PageSettled w delete tk stamp)) may of taken is = absurd (cc)
            unremoved-by (Cause.AnswerCame (LockAnswer.LengthSettled w l delete tk stamp)) may of taken is = absurd (cc)
            unremoved-by (Cause.AnswerCame (LockAnswer.Released w)) may of taken is = absurd (cc)
            unremoved-by (Cause.PageCame a) may of taken is = absurd (cc)
            unremoved-by (Cause.Accesses access) may of taken is = absurd (cc)
            unremoved-by (Cause.Locks w k) may of taken is = absurd (cc)
            unremoved-by (Cause.Releases delete w) may of taken is = absurd (cc)
            unremoved-by (Cause.AccessFailed t) may of taken is = absurd (cc)
            unremoved-by (Cause.CallFailed k) may of taken is = absurd (cc)

            unremoved : cause ≡ Cause.AnswerCame (LockAnswer.Removed u) → ⊥
            unremoved is = unremoved-by cause may of taken is

            acked-of : (x : Item) (v : Value) → Cleans cause d p u x v → IsTold s old c new next (law.opened c.node node) (law.carried c.node node) p proc o stage is_at cause u x v
            acked-of x v cleans = cleaned-acked s old c new next (law.opened c.node node) (law.carried c.node node) p proc o stage is_at cause may of taken u x v cleans

            low-is : (x : Item) (v : Value) (cleans : Cleans cause d p u x v) → low_of cause u ≡ (acked-of x v cleans).stamp
            low-is x v cleans = cleans-low cause d p u x v (acked-of x v cleans).stamp cleans (acked-of x v cleans).told

            -- a stamp that is seen then is not above the object's
            seen-most : (t : ℕ) → seen_of u m.desk.seen ≡ Some t → t ≤ stamp_at old u
            seen-most t seen =
                let is : seen_of u (after.nodes c.node).desk.seen ≡ Some t = ap (λ (e : DeskState). seen_of u e.seen) after-desk ∙ seen in
                let e = (subst (λ x. IfSome x (IsStampOf after u)) is (law_after.stamped.seen c.node node u)).most (there-after u there) in
                let f = ap (λ (h : HomeState). stamp_of (attr_of h u)) (homes u.home) in
                omega (arith, e, f)

            seen-was : (t : ℕ) → seen_of u d.seen ≡ Some t → t ≤ stamp_at old u
            seen-was t seen = (subst (λ x. IfSome x (IsStampOf old u)) seen (law.stamped.seen c.node node u)).most there

            -- where a process of the node keeps it
            module _ (kept : any_keeps d.entries u ≡ true) where
              keeper : (q : ℕ) × IsProc q × (keeps (entry_at d.entries q u) ≡ true)
              keeper = any-of (λ r. keeps (entry_at d.entries r u)) kept

              quiet-since : (x : Item) → is_dirty_at d u x ≡ false → (t : ℕ) → base_of d.seen u ≤ t → t ≤ stamp_at old u → content old.trace u t x ≡ content old.trace u (stamp_at old u) x
              quiet-since x clean t above below =
                  let q = keeper in
                  let e = kept-entry (entry_at d.entries q.0 u) q.2 in
                  let kept_one : keeps (Some e.0) ≡ true = ap keeps (sym e.2) ∙ q.2 in
                  let row : row_at (locks_of old) (proc_at c.node q.0) u ≡ Some (e.1, e.0.grant) = (law.live c.node q.0 q.1).row u e.0 e.1 e.2 kept_one e.3 in
                  let low = law.stamped.kept c.node q.0 node u e.1 e.0.grant (record { owner = q.1; entry = e.0; found = e.2; kept = kept_one; state = e.3; number = refl }) in
                  were.quiet c.node q.0 node q.1 u x e.1 e.0.grant there row clean t (omega (arith, low, above)) below

              shows : (x : Item) → Shows (λ t y. content old.trace u t y) (stamp_at old u) u d (base_of d.seen u) x
              shows x v clean shown t above below =
                  let q = keeper in
                  let s0 = there_is (seen_of u d.seen) (desk_old.known.kept q.0 q.1 u q.2) in
                  let base : base_of d.seen u ≡ s0.0 = ap (λ y. unwrap_or y 0) s0.1 in
                  let top = seen-was s0.0 s0.1 in
                  were.as_seen c.node node u x v s0.0 there shown clean s0.1
                  ∙ (quiet-since x clean s0.0 (omega (arith, base)) top ∙ sym (quiet-since x clean t above below))

              arrives-by : (x : Cause) (may : MayCome d p x) → IsTaken next.is.incoming d p (proc_of n p).doing x may → (task : Task) (stamp : ℕ) (bytes : List ℕ) → x ≡ Cause.PageCame (PageAnswer.Came task stamp bytes) → u ≡ task.uid → base_of d.seen u ≤ stamp → (t : ℕ) → stamp ≤ t → t ≤ stamp_at old u
                  → Value.Bytes bytes ≡ content old.trace u t (Item.Page (page_of task))
              arrives-by (Cause.PageCame (PageAnswer.Came own at_stamp came_bytes)) may taken task stamp bytes is on above t up below =
                  let told = came-told s old c new next (law.opened c.node node) (law.carried c.node node) p proc o stage is_at law.stamped own at_stamp came_bytes may taken in
                  let said = page-said d p desk_old proc (PageAnswer.Came own at_stamp came_bytes) may in
                  let a : own ≡ task = ap (came_task own) is in
                  let b : at_stamp ≡ stamp = ap (came_stamp at_stamp) is in
                  let e : came_bytes ≡ bytes = ap (came_bytes_of came_bytes) is in
                  let here : IsItemTold old task.uid stamp (Item.Page (page_of task)) (Value.Bytes bytes) =
                  subst (λ (y : Task). IsItemTold old y.uid stamp (Item.Page (page_of y)) (Value.Bytes bytes)) a (subst (λ i. IsItemTold old own.uid i (Item.Page (page_of own)) (Value.Bytes bytes)) b (subst (λ bs. IsItemTold old own.uid at_stamp (Item.Page (page_of own)) (Value.Bytes bs)) e told)) in
                  let mine : IsItemTold old u stamp (Item.Page (page_of task)) (Value.Bytes bytes) = subst (λ w. IsItemTold old w stamp (Item.Page (page_of task)) (Value.Bytes bytes)) (sym on) here in
                  let comes : moving_of d p ≡ coming task.uid (page_of task) = subst (λ (y : Task). moving_of d p ≡ coming y.uid (page_of y)) a said.comes in
                  let fits : FitsWay true d.cache.pages d.entries p task.uid (page_of task) = subst (FitsTransit d.cache.pages d.entries p) comes (desk_old.moved.each p proc) in
                  let clean : is_dirty_at d u (Item.Page (page_of task)) ≡ false = ap (λ w. is_dirty (page_at d.cache.pages w (page_of task))) on ∙ ap is_dirty fits.0 in
                  let low = mine.stamp.most there in
                  mine.value there ∙ (quiet-since (Item.Page (page_of task)) clean stamp above low ∙ sym (quiet-since (Item.Page (page_of task)) clean t (omega (arith, above, up)) below))
              arrives-by (Cause.PageCame (PageAnswer.Taken own r st)) may taken task stamp bytes is on above t up below = absurd (cc)
              arrives-by (Cause.PageCame (PageAnswer.NotTaken own r st)) may taken task stamp bytes is on above t up below = absurd (cc)
              arrives-by (Cause.AnswerCame a) may taken task stamp bytes is on above t up below = absurd (cc)
              arrives-by (Cause.Accesses access) may taken task stamp bytes is on above t up below = absurd (cc)
              arrives-by (Cause.Locks w k) may taken task stamp bytes is on above t up below = absurd (cc)
              arrives-by (Cause.Releases delete w) may taken task stamp bytes is on above t up below = absurd (cc)
              arrives-by (Cause.AccessFailed tr) may taken task stamp bytes is on above t up below = absurd (cc)
              arrives-by (Cause.CallFailed k) may taken task stamp bytes is on above t up below = absurd (cc)

              fits : Fits (λ t y. content old.trace u t y) (stamp_at old u) u cause d p (low_of cause u)
              fits = record {
                cleans = λ x v cleans t low below.
                    let told = acked-of x v cleans in
                    let e = low-is x v cleans in
                    sym ((were.acknowledged c.node p node u x v told.stamp there told.is).stays t (omega (arith, low, e)) below);
                arrives = λ task stamp bytes is on above t up below. arrives-by cause may taken task stamp bytes is on above t up below;
              }

              kept-shown : (x : Item) (v : Value) (t : ℕ) → desk_value m.desk u x ≡ Some v → is_dirty_at m.desk u x ≡ false → seen_of u m.desk.seen ≡ Some t → v ≡ content old.trace u t x
              kept-shown x v t shown clean seen =
                  let base : base_of m.desk.seen u ≡ t = ap (λ y. unwrap_or y 0) seen in
                  let low = low-then d desk_old p proc m.desk u cause m.turn may m.dropped made.moves came unremoved in
                  kept-shows d desk_old p proc m.desk u cause m.turn may m.dropped made.moves came unremoved (λ t y. content old.trace u t y) (stamp_at old u) kept fits shows x v clean shown t (omega (arith, base, low)) (seen-most t seen)

            -- where none does, a grant tells of it
            module _ (none : any_keeps d.entries u ≡ false) where
              granted-shown : (k : Mode) (grant stamp room l : ℕ) → cause ≡ Cause.AnswerCame (LockAnswer.Granted u k grant stamp room l) → (x : Item) (v : Value) (t : ℕ) → desk_value m.desk u x ≡ Some v → is_dirty_at m.desk u x ≡ false → seen_of u m.desk.seen ≡ Some t
                  → v ≡ content old.trace u t x
              granted-shown k grant stamp room l is = by
                where
                  left : IsGranted d p m.desk u k grant stamp room l
                  left = subst (IsGrantLeft d p m.desk) is (said-left d p m.desk cause m.turn made.says)

                  raised-is : (t : ℕ) → seen_of u m.desk.seen ≡ Some t → raised stamp (seen_of u d.seen) ≡ t
                  raised-is t seen = same_Some (raised stamp (seen_of u d.seen)) t (sym left.seen ∙ seen)

                  told : IsItemTold old u stamp Item.Size (Value.Length l)
                  told =
                      let got = got-row s setup old c new next (law.opened c.node node) law.calls (law.carried c.node node) law.live p proc o stage m is_at at_desk doing call u k grant stamp room l cause may of taken is in
                      told-of old (TellsItem old) (proc_at c.node p) (length (old.calls c.node p)) got.2 (Ask.Lock u k) got.3 u.home (Answer.Granted grant stamp got.4 room l) old.trace got.5 next.decisions.each (stamps-told old old.trace law.stamped.told)

                  plain : IsPlain cause
                  plain = subst IsPlain (sym is) tt

                  same-from : (x : Item) → ((f : DeskState) (before : List (ObjectName × ℕ)) → DeskMoves cause m.turn p d f before → (j : Mode) (g st r i : ℕ) → cause ≡ Cause.AnswerCame (LockAnswer.Granted u j g st r i) → x ≡ Item.Size → is_fresh st (seen_of u f.seen) ≡ true → ⊥) → IsKeptFrom d m.desk u x
                  same-from x unlearned = moves-kept cause d p u (λ y v cleans. subst (λ z. Cleans z d p u y v) is cleans) (λ task st bytes came_so on. absurd (let f = sym is ∙ came_so in cc)) m.turn proc plain desk_old x unlearned m.desk m.dropped made.moves

                  as-before : (x : Item) (v : Value) (s0 : ℕ) → IsKeptFrom d m.desk u x → seen_of u d.seen ≡ Some s0 → desk_value m.desk u x ≡ Some v → is_dirty_at m.desk u x ≡ false → v ≡ content old.trace u s0 x
                  as-before x v s0 from seen shown clean = let was = from v clean shown in were.as_seen c.node node u x v s0 there was.1 was.0 seen

                  by : (x : Item) (v : Value) (t : ℕ) → desk_value m.desk u x ≡ Some v → is_dirty_at m.desk u x ≡ false → seen_of u m.desk.seen ≡ Some t → v ≡ content old.trace u t x
                  by (Item.Page i) v t shown clean seen = by_cases (is_seen stamp (seen_of u d.seen)) (v ≡ content old.trace u t (Item.Page i))
                      (λ same.
                      let was = seen-is stamp (seen_of u d.seen) same in
                      let at : t ≡ stamp = sym (raised-is t seen) ∙ (ap (raised stamp) was ∙ raised-self stamp) in
                      subst (λ j. v ≡ content old.trace u j (Item.Page i)) (sym at) (as-before (Item.Page i) v stamp (same-from (Item.Page i) (λ f before moved_so j g st r h given size fresh. absurd (cc))) was shown clean))
                      (λ differs. absurd (let f : None ≡ Some v = sym (ap (option_map page_value) (left.pages none differs i)) ∙ shown in cc))
                  by Item.Size v t shown clean seen = by_cases (is_fresh stamp (seen_of u d.seen)) (v ≡ content old.trace u t Item.Size)
                      (λ fresh.
                      let at : t ≡ stamp = sym (raised-is t seen) ∙ fresh-raised stamp (seen_of u d.seen) fresh in
                      let value : v ≡ Value.Length l = same_Some v (Value.Length l) (sym shown ∙ ap (option_map known_value) (left.known none fresh)) in
                      subst (λ j. v ≡ content old.trace u j Item.Size) (sym at) (value ∙ told.value there))
                      (λ stale.
                      let was = old-raised stamp (seen_of u d.seen) stale in
                      let at : t ≡ was.0 = sym (raised-is t seen) ∙ was.3 in
                      let above = was.2 in
                      let base : base_of d.seen u ≡ was.0 = ap (λ y. unwrap_or y 0) was.1 in
                      subst (λ j. v ≡ content old.trace u j Item.Size) (sym at)
                      (as-before Item.Size v was.0 (same-from Item.Size (λ f before moved_so j g st r h given size fresh.
                      let same_stamp : st ≡ stamp = ap (granted_stamp stamp) (sym given ∙ is) in
                      let low = fresh-low st (seen_of u f.seen) fresh in
                      let up = moves-up cause m.turn p u unremoved d f before moved_so in
                      absurd (omega (arith, same_stamp, low, up, base, above)))) was.1 shown clean))

              unkept-shown : ((k : Mode) (grant stamp room l : ℕ) → cause ≡ Cause.AnswerCame (LockAnswer.Granted u k grant stamp room l) → ⊥) → (x : Item) (v : Value) (t : ℕ) → desk_value m.desk u x ≡ Some v → is_dirty_at m.desk u x ≡ false → seen_of u m.desk.seen ≡ Some t
                  → v ≡ content old.trace u t x
              unkept-shown ungranted x v t shown clean seen =
                  let told : (y : Item) (z : Value) → Cleans cause d p u y z → (i : ℕ) × (told_stamp cause ≡ Some (u, i)) = λ y z cleans. ((acked-of y z cleans).stamp, (acked-of y z cleans).told) in
                  let was = unkept-same d desk_old p proc m.desk u cause m.turn may m.dropped made.moves came unremoved none ungranted told x v clean shown in
                  let same = unkept-seen d desk_old p proc m.desk u cause m.turn may m.dropped made.moves came unremoved none ungranted told in
                  were.as_seen c.node node u x v t there was.1 was.0 (sym same ∙ seen)

            shown-then : (x : Item) (v : Value) (t : ℕ) → desk_value m.desk u x ≡ Some v → is_dirty_at m.desk u x ≡ false → seen_of u m.desk.seen ≡ Some t → v ≡ content old.trace u t x
            shown-then x v t shown clean seen = by_cases (any_keeps d.entries u) (v ≡ content old.trace u t x)
                (λ kept. kept-shown kept x v t shown clean seen)
                (λ none. elim (granted-or u cause) [
                  | inl is ↦ granted-shown none is.0 is.1 is.2 is.3 is.4 is.5 x v t shown clean seen
                  | inr ungranted ↦ unkept-shown none ungranted x v t shown clean seen
                ])

            moves-step : DeskStep old after c.node u
            moves-step = record {
              clean = λ x clean. elim (clean-then d desk_old p proc m.desk u cause m.turn may m.dropped made.moves came unremoved x (subst (λ e. is_dirty_at e u x ≡ false) after-desk clean)) [
                | inl was ↦ inl was
                | inr taken_so ↦ inr (record {
                  proc = p;
                  value = taken_so.0;
                  stamp = (acked-of x taken_so.0 taken_so.1).stamp;
                  ack = (acked-of x taken_so.0 taken_so.1).is;
                  seen = let a = low-is x taken_so.0 taken_so.1 in let b = low-then d desk_old p proc m.desk u cause m.turn may m.dropped made.moves came unremoved in let e = ap (λ (y : DeskState). base_of y.seen u) after-desk in omega (arith, a, b, e);
                })
              ];
              seen = let a = seen-then d desk_old p proc m.desk u cause m.turn may m.dropped made.moves came unremoved in let e = ap (λ (y : DeskState). base_of y.seen u) after-desk in omega (arith, a, e);
              acked = λ q x v t ack. acked-then u q x v t ack (λ owner beside ask grant base writes carries now. unchanged-back cause m.turn p proc q owner beside d desk_old u x v grant base ask writes carries m.desk m.dropped made.moves now);
              calls = λ q number home ask written owner made_now writes. calls-then (says-sent d p m.desk cause m.turn made.says) q number home ask written owner made_now writes;
              shown = λ x v t shows clean seen. shown-then x v t (subst (λ e. desk_value e u x ≡ Some v) after-desk shows) (subst (λ e. is_dirty_at e u x ≡ false) after-desk clean) (sym (ap (λ (e : DeskState). seen_of u e.seen) after-desk) ∙ seen);
            }

        -- either way
        op-step : OpMove (given s c.node).opening next.is.incoming (proc_of n p).doing stage d p o.op m → (u : ObjectName) → IsThere old u → DeskStep old after c.node u
        op-step (desk_apart desk turn) u there = apart-step desk (home-sends (given s c.node).opening next.is.incoming p (proc_of n p).doing stage o.op m.desk m.turn turn) u there
        op-step (moves cause may of at_stage taken made) u there = moves-step cause may of taken made u there

      -- the other nodes
      calls-away : (a q : ℕ) (made : Option (ℕ × Asked)) → a ≢ c.node → calls_after old c.node made a q ≡ old.calls a q
      calls-away a q None away = refl
      calls-away a q (Some k) away = ap (λ f. f q) (put-other old.calls c.node a _ away)

      away-still : (a : ℕ) → a ≢ c.node → IsDeskStill old after a
      away-still a away = record {
        desk = ap (λ (x : NodeState). x.desk) (put-other old.nodes c.node a step.node away);
        doing = λ q owner. subst (λ (x : NodeState). IsSameDoing (proc_of (old.nodes a) q).doing (proc_of x q).doing) (sym (put-other old.nodes c.node a step.node away)) (same-doing (proc_of (old.nodes a) q).doing);
        calls = λ q. calls-away a q step.call away;
      }

      at-node : (u : ObjectName) → (IsThere old u → DeskStep old after c.node u) → IsThere old u → (a : ℕ) → is_node s.opening a ≡ true → DeskStep old after a u
      at-node u here there a is_one = elim (cases_eq a c.node) [
        | inl same ↦ subst (λ b. DeskStep old after b u) (sym same) (here there)
        | inr away ↦ still-step s old after were a is_one (away-still a away) u there (λ q x v t ack. answered-was u (proc_at a q) ack.open_call.waiting.number t ack.answered)
      ]

      quiet-all : ((u : ObjectName) → IsThere old u → DeskStep old after c.node u) → AreContents s after
      quiet-all here = contents-of s after (λ u. quiet-contents s old after u (quiet-for u) (at-node u (here u)) law_after.carried law.given were stamps)

      pub quiet-move : NodeMove (given s c.node) n next.is.incoming step → AreContents s after
      quiet-move (moved p o stage m proc is_at made at_desk doing others note call side) = quiet-all (λ u there. op-step p proc o stage m is_at at_desk doing others call made u there)
      quiet-move (still desk same quiet_note uncalled) = quiet-all (λ u there. still-step s old after were c.node node (record {
        desk = ap (λ (x : NodeState). x.desk) (put-same old.nodes c.node c.node step.node refl) ∙ desk;
        doing = λ q owner. subst (λ (x : NodeState). IsSameDoing (proc_of (old.nodes c.node) q).doing (proc_of x q).doing) (sym (put-same old.nodes c.node c.node step.node refl)) (same q owner);
        calls = λ q. ap (λ x. calls_after old c.node x c.node q) uncalled;
      }) u there (λ q x v t ack. answered-was u (proc_at c.node q) ack.open_call.waiting.number t ack.answered))
