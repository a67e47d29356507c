-- An event that ends no operation by an answer or a fault: the history stays, or grows at its end.
use Rattle.std.proofs.Common.{◌≡◌, ℕ, ◌<◌, ◌≤◌, true, List, [], ◌∷◌, ◌++◌, Option, Some, None, inl, inr, refl, sym, ap, subst, ◌∙◌, arith}
use Rattle.std.specs.Prelude.{◌⊎◌, IsTrue, All, not}
use Rattle.std.proofs.lemmas.Bool.Decides.{nat_tests}
use Rattle.std.proofs.lemmas.Option.{same_Some}
use Rattle.uid_names.proofs.ListLemmas.{by_cases}
use Rattle.uid_names.proofs.Orders.{same_proc_is}
use Rattle.uid_names.specs.Names.{ProcName, same_proc}
use Rattle.uid_names.specs.declared.ids.Place.{Place}
use Rattle.dom_history.specs.declared.op.Op.{Op}
use Rattle.dom_history.specs.declared.op.Reply.{Reply}
use Rattle.dom_history.specs.declared.op.Reply.TheVariants as replies
use Rattle.dom_history.specs.declared.op.Entry.{Entry}
use Rattle.dom_history.specs.Histories.{Item, Answered, Acted, Act, Pending, SomeOf, place_of, place_lt, deeds, before_op}
use Rattle.dom_history.specs.Legal.{IsLegal, IsAllowed, IsIdle, IsLeftOpen, MayAct}
use Rattle.dom_history.specs.Objects.{is_node}
use Rattle.dom_history.specs.Replies.{Before}
use Rattle.dom_history.specs.StoreEffects.{own, store_effects}
use Rattle.history_moves.specs.HistoryMoves.{history, entry_of, act_of, IsEnd, IsNoActOf, MayEndAct, begins, does, finishes, acts}
use Rattle.history_moves.proofs.Lists.{All-without, SomeOf-left, SomeOf-right}
use Rattle.history_moves.proofs.Acting.{may_end-act, may_end-idle, may_end-open}
use Rattle.history_moves.proofs.Opens.{begins-at_end}
use Rattle.ring_messages.specs.Bodies.{Ask, Answer}
use Rattle.fault_handler.specs.Invariant.{IsProc}
use Rattle.node_runs.specs.Setups.{Setup, IsSetup, given}
use Rattle.node_runs.specs.NodeStates.{Asked, Await, BegunOp, OpenOp, proc_of}
use Rattle.node_runs.specs.Agreements.{Agrees}
use Rattle.node_runs.specs.Dones.{asking}
use Rattle.node_runs.specs.Notes.{Told, Note}
use Rattle.node_runs.specs.NodesKeep.{IsTimely}
use Rattle.node_runs.specs.Runs.{World, Noted, Choice, world_after}
use Rattle.node_runs.specs.RunHistories.{is_fault, settled_op, change_reply, act_item, entry_at, told_item, open_item, settled_item, decided_item, begun_item, fault_item, all_told, told_by, doing_of, ended_at, ended_by, items_of, items_from, pending_to, pending_in, history_in}
use Rattle.node_runs.specs.CallsKeep.{EachOf}
use Rattle.node_runs.specs.DecidedCalls.{IsDecided, IsOther, IsFirst}
use Rattle.node_runs.proofs.Worlds.{place_at}
use Rattle.node_runs.proofs.Receiving.{EachOf-more}
use Rattle.node_runs.proofs.Decisions.{decisions-are}
use Rattle.node_runs.proofs.SettingUp.{setup-procs}
use Rattle.node_runs.proofs.Ticks.{step_of-tick}
use Rattle.node_runs.proofs.EachOf.{EachOf-at}
use Rattle.run_laws.specs.DecidedReplies.{proc_at, WasDecided}
use Rattle.run_laws.specs.Heard.{IsToldByDecision}
use Rattle.run_laws.specs.LastCalls.{IsOpenNumber}
use Rattle.run_laws.specs.Placed.{IsBegin, IsEndOf, IsPlaced, AreEndsPlaced}
use Rattle.run_laws.specs.Progress.{IsSettling, IsPart}
use Rattle.run_laws.proofs.Slots.{settles}
use Rattle.run_laws.proofs.Walks.{others-not}
use Rattle.run_laws.proofs.Hearing.{place-none}
use Rattle.run_laws.proofs.HearingRuns.{IsKeptNext, heard-are, event}
use Rattle.run_laws.proofs.Placing.{ends-placed}
use Rattle.run_laws.proofs.Rising.{notes-rise}
use Rattle.run_laws.specs.DecisionOrder.{IsDecidedAbove}
use Rattle.run_laws.specs.SingleActs.{IsActOf}
use Rattle.run_laws.proofs.DecisionOrder.{decisions-rise}
use Rattle.run_laws.proofs.SingleActs.{open-no-act}
use Rattle.run_laws.proofs.ToldRising.{told-rises}
use Rattle.run_laws.specs.AskedHomes.{IsOpenAtHome}
use Rattle.run_laws.specs.KeptLocks.{IsKeptWithout}
use Rattle.run_laws.proofs.AskedHomes.{opens-at-homes}
use Rattle.run_laws.proofs.KeptLocks.{kept-without}
use Rattle.run_laws.proofs.ToldAnswers.{calling-own}
use Rattle.run_laws.specs.NotedDeeds.{noted_deeds}
use Rattle.run_laws.specs.DeskReplies.{before_note, IsOneStoreNote}
use Rattle.run_laws.specs.HomeReplies.{IsHomeReply}
use Rattle.run_laws.specs.KnownRuns.{IsKnown}
use Rattle.run_laws.specs.MovedHistories.{IsMovedOrSame, stays, moves}
use Rattle.run_laws.proofs.Alone.{Alone, here, later, IsAloneDoing, alone-are}
use Rattle.run_laws.proofs.AnsweredMoves.{faults-are}
use Rattle.run_laws.proofs.Cuts.{AreCut, all-of, pending-each, pending-cut}
use Rattle.run_laws.proofs.MovedEvents.{after, moved-history}
use Rattle.run_laws.proofs.InOrder.{told-op, acts-in-order}
use Rattle.run_laws.proofs.ItemViews.{IsAmong, found, absent, decided-last, found-call}
use Rattle.run_laws.proofs.Orders.{ended-is}
use Rattle.run_laws.proofs.SameItems.{items-same, untold-same, SettlingOpen, open-settling}
use Rattle.run_laws.proofs.StandingMoves.{items-at, home-is, since-of, no-act}

-- where an open operation began there is a note, of which this holds
alone-note : (p : ProcName) (op : Op) (begun : Place) (Q : Noted → Type 0) (R : Place → Type 0) → ((j : Noted) → Q j → R j.place) → (notes : List Noted) → Alone p op begun notes → EachOf Q notes → R begun
alone-note p op begun Q R gives [] alone each = elim alone [ ]
alone-note p op begun Q R gives (m ∷ older) (here place note) each = subst R place (gives m each.0)
alone-note p op begun Q R gives (m ∷ older) (later quiet alone) each = alone-note p op begun Q R gives older alone each.1

-- an operation that ended began
told-began : (t : Told) (notes : List Noted) → AreEndsPlaced notes → IsAmong t (all_told notes) → SomeOf (IsBegin t.proc t.op t.begun) notes
told-began t [] ends among = absurd among
told-began t (m ∷ older) ends among = by (λ some. inr (told-began t older ends.1 some)) m.note ends.0 among
  where
    by : (IsAmong t (all_told older) → SomeOf (IsBegin t.proc t.op t.begun) (m ∷ older)) → (note : Note) → IsPlaced note older → IsAmong t (told_by note ++ all_told older) → SomeOf (IsBegin t.proc t.op t.begun) (m ∷ older)
    by rest Note.Nothing placed some = rest some
    by rest (Note.Began q op) placed some = rest some
    by rest (Note.Did q phase op reply) placed some = rest some
    by rest (Note.Decided q k ask answer) placed some = rest some
    by rest (Note.Ended v) placed (inr some) = rest some
    by rest (Note.Ended v) placed (inl same) = inr (subst (IsEndOf older) same placed).began

items-some : (w : World) (ts : List Told) (P : Item → Type 0) (R : Noted → Type 0) → ((j : Noted) → R j → SomeOf P (items_of w ts j.place j.note)) → (notes : List Noted) → SomeOf R notes → SomeOf P (items_from w ts notes)
items-some w ts P R gives [] some = absurd some
items-some w ts P R gives (j ∷ notes) (inl is) = SomeOf-left P (items_of w ts j.place j.note) (items_from w ts notes) (gives j is)
items-some w ts P R gives (j ∷ notes) (inr some) = SomeOf-right P (items_of w ts j.place j.note) (items_from w ts notes) (items-some w ts P R gives notes some)

module _ (s : Setup) (setup : IsSetup s) (cs : List Choice) (old : World) (e : world_after s cs ≡ Some old) (timely : IsTimely old) (known : IsKnown s old) (c : Choice) (new : World) (next : IsKeptNext s old c new)
    (e_after : world_after s (c ∷ cs) ≡ Some (after old c next.is.step)) (timely_after : IsTimely (after old c next.is.step)) (known_after : IsKnown s (after old c next.is.step)) (legal : IsLegal s.opening (history_in s old))
    (quiet : told_by next.is.step.note ≡ [])
    (keeps : (p : ProcName) → IsProc p.number → (b : BegunOp) (k : Asked) → doing_of old p ≡ asking b k → IsSettling k.ask → (r : OpenOp) × (doing_of (after old c next.is.step) p ≡ Some r) × (r.began ≡ b)) where
  open event s old c new next use {step}

  abbrev so_far : List Told
  so_far = all_told old.trace

  abbrev then_world : World
  then_world = after old c step

  abbrev x : Place
  x = place_at c step

  abbrev items : List Item
  items = items_from old so_far old.trace

  abbrev pends : List Pending
  pends = pending_to old s.opening.nodes

  decided : EachOf (λ (j : Noted). IsDecided old j.place j.note) old.trace
  decided = (decisions-are s (setup-procs s setup) cs old e).each

  items-now : (history_in s then_world).items ≡ items_of then_world so_far x step.note ++ items
  items-now =
      ap (λ ts. items_of then_world (ts ++ so_far) x step.note ++ items_from then_world (ts ++ so_far) old.trace) quiet
      ∙ ap (λ is. items_of then_world so_far x step.note ++ is) (items-same old then_world so_far so_far old.trace
      (EachOf-more (λ (j : Noted). IsDecided old j.place j.note) (λ (j : Noted). items_of then_world so_far j.place j.note ≡ items_of old so_far j.place j.note) old.trace
      (λ j is. untold-same s setup cs old e timely then_world keeps j.place j.note is) decided))

  below : EachOf (λ (j : Noted). place_lt j.place x ≡ true) old.trace
  below = (notes-rise s (c ∷ cs) then_world e_after).rising.0

  alone-of : (n q : ℕ) → IsProc q → (r : OpenOp) → doing_of old (proc_at n q) ≡ Some r → Alone (proc_at n q) r.began.op r.began.begun old.trace
  alone-of n q other r doing = subst (IsAloneDoing (proc_at n q) old.trace) doing ((alone-are s setup cs old e timely).opened n q other)

  -- all stands before the event
  ends : IsEnd x items pends
  ends = record {
    items_below = all-of (λ i. IsTrue (place_lt (place_of i) x)) items (items-at s setup cs old e timely (λ y. place_lt y x ≡ true) old.trace decided below);
    begun_below = all-of (λ o. IsTrue (place_lt o.begun x)) pends (pending-each old (λ o. IsTrue (place_lt o.begun x)) (λ n q other r doing.
        alone-note (proc_at n q) r.began.op r.began.begun (λ (j : Noted). place_lt j.place x ≡ true) (λ y. place_lt y x ≡ true) (λ j is. is) old.trace (alone-of n q other r doing) below) s.opening.nodes);
  }

  idle : (n q : ℕ) → doing_of old (proc_at n q) ≡ None → IsIdle (proc_at n q) pends
  idle n q none = all-of (λ o. IsTrue (not (same_proc (proc_at n q) o.proc))) pends (pending-each old (λ o. IsTrue (not (same_proc (proc_at n q) o.proc))) (λ a i other r doing.
      by_cases (same_proc (proc_at n q) (proc_at a i)) (IsTrue (not (same_proc (proc_at n q) (proc_at a i))))
      (λ h. absurd (let f : None ≡ Some r = sym none ∙ (ap (doing_of old) (same_proc_is (proc_at n q) (proc_at a i) h) ∙ doing) in cc))
      (λ h. ap not h)) s.opening.nodes)

  abbrev Result : Type 0
  Result = IsMovedOrSame s.opening (history_in s old) (history_in s then_world)

  -- where the event gives nothing, and leaves what is open
  pub nothing-stays : items_of then_world so_far x step.note ≡ [] → pending_to then_world s.opening.nodes ≡ pends → Result
  nothing-stays none same =
      moved-history s.opening items items (history_in s old).items (history_in s then_world).items pends pends pends (pending_to then_world s.opening.nodes)
      refl refl (items-now ∙ ap (λ is. is ++ items) none) same (stays refl)

  -- an operation begins
  pub begin-moves : (p : ℕ) → IsProc p → (op : Op) (begun : Place) → x ≡ begun → step.note ≡ Note.Began (proc_at c.node p) op → doing_of old (proc_at c.node p) ≡ None
      → AreCut [] ((let o : Pending = record { begun = begun; proc = proc_at c.node p; op = op } in o) ∷ []) pends (pending_to then_world s.opening.nodes) → Result
  begin-moves p proc op begun at noted none cut =
      let o : Pending = record { begun = begun; proc = proc_at c.node p; op = op } in
      let up : (old.nodes c.node).tick < step.node.tick = up_tick in
      let new_place : ended_at (proc_at c.node p) x so_far ≡ None = place-none (proc_at c.node p) x so_far
      (EachOf-more (λ (t : Told). t.proc ≡ proc_at c.node p → (t.number ≤ (proc_of (old.nodes c.node) p).last) × (t.begun.tick ≤ (old.nodes c.node).tick)) (λ (t : Told). t.proc ≡ proc_at c.node p → t.begun.tick < step.node.tick) so_far
      (λ t was mine. let f = (was mine).1 in omega (arith, f, up)) ((heard-are s setup (setup-procs s setup) cs old e timely).procs c.node p proc).told) in
      let gives : items_of then_world so_far x step.note ≡ [] = ap (items_of then_world so_far x) noted ∙ ap (begun_item x) new_place in
      moved-history s.opening items items (history_in s old).items (history_in s then_world).items (cut.left ++ cut.right) (cut.left ++ o ∷ cut.right) pends (pending_to then_world s.opening.nodes)
      refl cut.first (items-now ∙ ap (λ is. is ++ items) gives) cut.second
      (moves (begins items cut.left cut.right o (begins-at_end items (cut.left ++ cut.right) o (subst (IsIdle (proc_at c.node p)) cut.first (idle c.node p none)) (subst (λ ps. IsEnd begun items ps) cut.first (subst (λ y. IsEnd y items pends) at ends)))))
    where
      up_tick : (old.nodes c.node).tick < step.node.tick
      up_tick = let f = step_of-tick (given s c.node) (old.nodes c.node) c.what next.is.incoming c.dropped step next.is.steps in omega (arith, f)

  -- an operation is done at the desk
  module _ (p : ℕ) (proc : IsProc p) (phase : ℕ) (op : Op) (reply : Reply) (noted : step.note ≡ Note.Did (proc_at c.node p) phase op reply) where
    abbrev me : ProcName
    me = proc_at c.node p

    abbrev entry : Entry
    entry = record { place = x; proc = me; phase = phase; op = op; reply = reply }

    gives-entry : items_of then_world so_far x step.note ≡ Answered entry ∷ []
    gives-entry = ap (items_of then_world so_far x) noted

    same-before : before_note s old.trace me ≡ before_op s.opening items me
    same-before =
        ap (λ es. let b : Before = record { opening = s.opening; past = es; told = own me (noted_deeds old.trace) } in b) (sym (known.effects [] old.trace refl))
        ∙ ap (λ ds. let b : Before = record { opening = s.opening; past = store_effects (deeds items); told = ds } in b) (sym (known.deeds c.node p proc))

    allowed : IsAllowed (before_op s.opening items me) me op reply
    allowed = subst (λ b. IsAllowed b me op reply) same-before (subst (IsOneStoreNote s old.trace) noted (known_after.desks [] old.trace _ refl))

    pub does-moves : doing_of old me ≡ None → pending_to then_world s.opening.nodes ≡ pends → Result
    does-moves none same =
        moved-history s.opening items (Answered entry ∷ items) (history_in s old).items (history_in s then_world).items pends pends pends (pending_to then_world s.opening.nodes)
        refl refl (items-now ∙ ap (λ is. is ++ items) gives-entry) same
        (moves (does (history items pends) entry (may_end-idle s.opening (history items pends) entry ends (idle c.node p none) allowed)))

    pub finish-moves : (r : OpenOp) → doing_of old me ≡ Some r → IsPart r.awaits → r.began.op ≡ op
        → AreCut ((let o : Pending = record { begun = r.began.begun; proc = proc_at c.node p; op = r.began.op } in o) ∷ []) [] pends (pending_to then_world s.opening.nodes) → Result
    finish-moves r doing part same cut =
        let o : Pending = record { begun = r.began.begun; proc = me; op = r.began.op } in
        let gone : EachOf (λ i. IsActOf me r.began.begun i → ⊥) items = open-no-act s setup cs old e timely c.node p proc r doing part in
        moved-history s.opening items (Answered (entry_of o x phase reply) ∷ items) (history_in s old).items (history_in s then_world).items (cut.left ++ o ∷ cut.right) (cut.left ++ cut.right) pends (pending_to then_world s.opening.nodes)
        refl cut.first (items-now ∙ (ap (λ is. is ++ items) gives-entry ∙ ap (λ z. Answered (record { place = x; proc = me; phase = phase; op = z; reply = reply }) ∷ items) (sym same))) cut.second
        (moves (finishes items cut.left cut.right o x phase reply (record {
          allowed = subst (λ z. IsAllowed (before_op s.opening items me) me z reply) (sym same) allowed;
          end = record { items_below = ends.items_below; begun_below = All-without (λ q. IsTrue (place_lt q.begun x)) cut.left o cut.right (subst (All (λ q. IsTrue (place_lt q.begun x))) cut.first ends.begun_below) };
          no_act = all-of (IsNoActOf o) items (EachOf-more (λ i. IsActOf me r.began.begun i → ⊥) (IsNoActOf o) items none-of gone);
        })))
      where
        none-of : (i : Item) → (IsActOf me r.began.begun i → ⊥) → IsNoActOf (record { begun = r.began.begun; proc = me; op = r.began.op }) i
        none-of (Answered y) none is = is
        none-of (Acted a) none is = none (sym is.1, sym is.0)

  -- a home decides
  module _ (n q i : ℕ) (ask : Ask) (answer : Answer) (noted : step.note ≡ Note.Decided (proc_at n q) i ask answer) (same : pending_to then_world s.opening.nodes ≡ pends) (all : doing_of then_world (proc_at n q) ≡ doing_of old (proc_at n q)) where
    abbrev who : ProcName
    who = proc_at n q

    decided-now : IsDecided then_world x (Note.Decided who i ask answer)
    decided-now = subst (IsDecided then_world x) noted (decisions-are s (setup-procs s setup) (c ∷ cs) then_world e_after).each.0

    first-now : EachOf (λ (j : Noted). IsOther who i j.note) old.trace
    first-now = subst (λ k. IsFirst k old.trace) noted (decisions-are s (setup-procs s setup) (c ∷ cs) then_world e_after).once.0

    no-items : items_of then_world so_far x (Note.Decided who i ask answer) ≡ [] → Result
    no-items none = nothing-stays (ap (items_of then_world so_far x) noted ∙ none) same

    module _ (op : Op) (of : settled_op x.node ask ≡ Some op) (settling : IsSettling ask) where
      decided-as : (o : Option Told) → ended_by who i so_far ≡ o → items_of then_world so_far x (Note.Decided who i ask answer) ≡ settled_item x who op answer o (doing_of then_world who)
      decided-as o is = ap (λ z. decided_item x who z answer (ended_by who i so_far) (doing_of then_world who)) of ∙ ap (λ z. settled_item x who op answer z (doing_of then_world who)) is

      may-act : (reply : Reply) → change_reply answer ≡ Some reply → MayAct s.opening (store_effects (deeds items)) who op reply
      may-act reply change =
          let home : IsHomeReply s old.trace c.node (Note.Decided who i ask answer) = subst (IsHomeReply s old.trace c.node) noted (known_after.homes [] old.trace _ refl next.is.node) in
          subst (λ es. MayAct s.opening es who op reply) (sym (known.effects [] old.trace refl)) ((home op of).1 reply change)

      act-moves : (a : Act) → items_of then_world so_far x (Note.Decided who i ask answer) ≡ Acted a ∷ [] → (may : MayEndAct s.opening (history items pends) a) → Result
      act-moves a is may =
          moved-history s.opening items (Acted a ∷ items) (history_in s old).items (history_in s then_world).items pends pends pends (pending_to then_world s.opening.nodes)
          refl refl (items-now ∙ ap (λ is. is ++ items) (ap (items_of then_world so_far x) noted ∙ is)) same (moves (acts (history items pends) a may))

      -- for an operation that a fault left open
      module _ (t : Told) (is : ended_by who i so_far ≡ Some t) (named : t.proc ≡ who) (number : t.number ≡ i) (among : IsAmong t so_far) where
        fault-told : is_fault t.reply ≡ true
        fault-told = elim (EachOf-at (IsToldByDecision old.trace) t so_far (heard-are s setup (setup-procs s setup) cs old e timely).decided among) [
          | inl fault ↦ fault
          | inr was ↦ absurd (others-not who i old.trace first-now (subst (λ z. WasDecided old.trace z i) named (subst (λ z. WasDecided old.trace t.proc z) number was)))
        ]

        gives-act : (change : Option Reply) → change_reply answer ≡ change → items_of then_world so_far x (Note.Decided who i ask answer) ≡ act_item x t.begun t.proc op change
        gives-act change same_change = decided-as (Some t) is ∙ (ap (λ z. told_item z x op answer t) fault-told ∙ ap (act_item x t.begun t.proc op) same_change)

        noted-told : step.note ≡ Note.Decided t.proc t.number ask answer
        noted-told = subst (λ z. step.note ≡ Note.Decided z t.number ask answer) (sym named) (subst (λ z. step.note ≡ Note.Decided who z ask answer) (sym number) noted)

        among-now : IsAmong t (all_told then_world.trace)
        among-now = subst (λ ts. IsAmong t (ts ++ so_far)) (sym quiet) among

        same_op : t.op ≡ op
        same_op = told-op s setup (c ∷ cs) then_world e_after timely_after t among-now x.node ask op (subst (IsDecided then_world x) noted-told (decisions-are s (setup-procs s setup) (c ∷ cs) then_world e_after).each.0).1 of

        module _ (reply : Reply) (change : change_reply answer ≡ Some reply) where
          abbrev act : Act
          act = record { place = x; begun = t.begun; deed = record { proc = t.proc; op = op; reply = reply } }

          left-by : (t.reply ≡ replies.Doubt) ⊎ (t.reply ≡ replies.LinkFault)
          left-by = elim (faults-are t.reply fault-told) [
            | inr doubt ↦ doubt
            | inl kept ↦ absurd (
                let without : IsKeptWithout s then_world t = EachOf-at (IsKeptWithout s then_world) t (all_told then_world.trace) (kept-without s setup (c ∷ cs) then_world e_after timely_after) among-now in
                let none = subst (EachOf (λ y. IsActOf t.proc t.begun y → ⊥)) (items-now ∙ ap (λ is. is ++ items) (ap (items_of then_world so_far x) noted ∙ gives-act (Some reply) change)) (without kept) in
                none.0 (refl, refl))
          ]

          begun-there : SomeOf (IsLeftOpen t.begun t.proc op) items
          begun-there = items-some old so_far (IsLeftOpen t.begun t.proc op) (IsBegin t.proc t.op t.begun) at old.trace (told-began t old.trace (ends-placed s setup cs old e timely) among)
            where
              at : (j : Noted) → IsBegin t.proc t.op t.begun j → SomeOf (IsLeftOpen t.begun t.proc op) (items_of old so_far j.place j.note)
              at j begin =
                  let one : items_of old so_far t.begun (Note.Began t.proc t.op) ≡ entry_at t.begun t ∷ [] = ap (begun_item t.begun) (ended-is t so_far (told-rises s setup cs old e timely) among) ∙ ap (λ z. fault_item z t.begun t) fault-told in
                  subst (λ y. SomeOf (IsLeftOpen t.begun t.proc op) (items_of old so_far y j.note)) (sym begin.0)
                  (subst (λ k. SomeOf (IsLeftOpen t.begun t.proc op) (items_of old so_far t.begun k)) (sym begin.1)
                  (subst (SomeOf (IsLeftOpen t.begun t.proc op)) (sym one) (inl (refl, refl, same_op, left-by))))

          left-acts : Result
          left-acts = act-moves act (gives-act (Some reply) change)
              (may_end-act s.opening (history items pends) act ends (subst (λ z. MayAct s.opening (store_effects (deeds items)) z op reply) (sym named) (may-act reply change)) (inl begun-there)
              (all-of _ items (acts-in-order s setup cs old e timely t among x op
              (home-is s setup (c ∷ cs) then_world e_after timely_after (record { place = x; note = step.note }) t.proc t.number ask answer op (decisions-are s (setup-procs s setup) (c ∷ cs) then_world e_after).each.0 noted-told of)
              (subst (λ k. IsDecidedAbove x k old.trace) noted-told (decisions-rise s (setup-procs s setup) (c ∷ cs) then_world e_after).0) reply)))

        left-moves : (change : Option Reply) → change_reply answer ≡ change → Result
        left-moves None is_none = no-items (gives-act None is_none)
        left-moves (Some reply) change = left-acts reply change

      -- for one that is open
      module _ (is : ended_by who i so_far ≡ None) (proc : IsProc q) (has : IsOpenNumber i (doing_of then_world who)) where
        abbrev open_now : SettlingOpen then_world who i x.node ask
        open_now = open-settling s setup (c ∷ cs) then_world e_after timely_after x who i ask proc settling decided-now.1 has

        abbrev b : BegunOp
        b = open_now.began

        abbrev k : Asked
        k = open_now.call

        was : doing_of old who ≡ asking b k
        was = sym all ∙ open_now.doing

        node : is_node s.opening n ≡ true
        node =
            let since = since-of s setup cs old e timely n q proc b (Await.Answer k) was in
            subst (λ z. is_node s.opening z ≡ true) since.node
            (alone-note who b.op b.begun (λ (j : Noted). is_node s.opening j.place.node ≡ true) (λ y. is_node s.opening y.node ≡ true) (λ j at. at) old.trace
            (alone-of n q proc (record { began = b; awaits = Await.Answer k }) was) (alone-are s setup cs old e timely).nodes)

        same-op : b.op ≡ op
        same-op =
            let agrees = subst (Agrees (old.nodes n).desk q (proc_of (old.nodes n) q).last) was ((next.kept.nodes n node).agrees q proc) in
            let at = subst IsOpenAtHome was (opens-at-homes s setup cs old e timely n node q proc) in
            let own_ask : settled_op k.home k.ask ≡ Some b.op = calling-own (old.nodes n).desk q b.op k.home k.ask at.1 agrees.1.0 open_now.settling in
            same_Some b.op op (sym own_ask ∙ (ap (λ h. settled_op h k.ask) open_now.of ∙ (ap (settled_op x.node) open_now.asks ∙ of)))

        gives-open : (change : Option Reply) → change_reply answer ≡ change → items_of then_world so_far x (Note.Decided who i ask answer) ≡ act_item x b.begun who b.op change
        gives-open change same_change = decided-as None is ∙ (ap (open_item x who op answer) open_now.doing ∙ (ap (act_item x b.begun who op) same_change ∙ ap (λ z. act_item x b.begun who z change) (sym same-op)))

        open-acts : (reply : Reply) → change_reply answer ≡ Some reply → Result
        open-acts reply change =
            let o : Pending = record { begun = b.begun; proc = who; op = b.op } in
            let low : 1 ≤ n = grind (arith, nat_tests, node) in
            let high : n ≤ s.opening.nodes = grind (arith, nat_tests, node) in
            let cut = pending-cut old old n q proc (λ a i other differs. refl) s.opening.nodes low high in
            let at : pends ≡ cut.left ++ o ∷ cut.right = cut.first ∙ ap (λ d. cut.left ++ (pending_in who d ++ cut.right)) was in
            act-moves (act_of o x reply) (gives-open (Some reply) change)
            (subst (λ ps. MayEndAct s.opening (history items ps) (act_of o x reply)) (sym at)
            (may_end-open s.opening cut.left cut.right o items x reply (subst (λ ps. IsLegal s.opening (history items ps)) at legal) (subst (λ ps. IsEnd x items ps) at ends)
            (subst (λ z. MayAct s.opening (store_effects (deeds items)) who z reply) (sym same-op) (may-act reply change))
            (all-of (IsNoActOf o) items (no-act s setup cs old e timely n q proc b k was old.trace decided (subst (λ z. EachOf (λ (j : Noted). IsOther who z j.note) old.trace) (sym open_now.numbered_so) first-now)))))

        open-moves : (change : Option Reply) → change_reply answer ≡ change → Result
        open-moves None is_none = no-items (gives-open None is_none)
        open-moves (Some reply) change = open-acts reply change

      settled-moves : Result
      settled-moves =
          let last = decided-last s setup (c ∷ cs) then_world e_after timely_after x who i ask answer settling decided-now in
          elim (found-call who i so_far) [
            | found t is named number among ↦ left-moves t is named number among (change_reply answer) refl
            | absent is none ↦ open-moves is last.0 (elim last.1 [ inl mine ↦ mine | inr gone ↦ absurd (none (subst (λ ts. SomeOf (λ (t : Told). (t.proc ≡ who) × (t.number ≡ i)) (ts ++ so_far)) quiet gone)) ]) (change_reply answer) refl
          ]

    pub decided-moves : Result
    decided-moves = elim (settles x.node ask) [
      | inl none ↦ no-items (ap (λ z. decided_item x who z answer (ended_by who i so_far) (doing_of then_world who)) none)
      | inr some ↦ settled-moves some.1.0 some.1.1 some.0
    ]
