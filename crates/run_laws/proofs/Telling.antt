-- An event that ends the open operation of a process, by an answer of its home or by a link fault: the history moves at the earlier place.
use Rattle.std.proofs.Common.{◌≡◌, ℕ, true, false, List, [], ◌∷◌, ◌++◌, Option, Some, None, inl, inr, refl, sym, ap, subst, ◌∙◌, append_assoc, append-nil}
use Rattle.std.specs.Prelude.{IsTrue, All, not}
use Rattle.uid_names.proofs.ListLemmas.{by_cases}
use Rattle.uid_names.specs.Names.{ProcName, same_proc}
use Rattle.uid_names.specs.declared.ids.Place.{Place}
use Rattle.dom_history.specs.declared.op.Op.{Op}
use Rattle.dom_history.specs.declared.op.Op.TheVariants as ops
use Rattle.dom_history.specs.declared.op.Reply.{Reply}
use Rattle.dom_history.specs.declared.op.Reply.TheVariants as replies
use Rattle.dom_history.specs.Histories.{Item, Answered, Acted, Pending, SomeOf, place_of, place_lt, same_place, deeds, told, entries, IsRising}
use Rattle.dom_history.specs.Legal.{IsLegal, IsElsewhere}
use Rattle.dom_history.specs.Locks.{state}
use Rattle.dom_history.specs.Objects.{is_node}
use Rattle.dom_history.specs.Replies.{may_write}
use Rattle.dom_history.specs.StoreEffects.{own, store_effect, store_effects}
use Rattle.dom_history.proofs.Places.{place_lt-trans, place_lt-not_self}
use Rattle.history_moves.specs.Asking.{HomeSays, MayAsk}
use Rattle.history_moves.specs.HistoryMoves.{history, entry_of, act_of, told_to, IsNoActOf, IsNoneAtHome, faults, is_told, hears}
use Rattle.history_moves.proofs.Lists.{All-without}
use Rattle.history_moves.proofs.Standing.{asked-allowed}
use Rattle.ring_messages.specs.Bodies.{Ask, Answer}
use Rattle.fault_handler.specs.Desks.{entries_of, state_of}
use Rattle.fault_handler.specs.Invariant.{IsProc}
use Rattle.node_runs.specs.Setups.{Setup, IsSetup, given}
use Rattle.node_runs.specs.NodeStates.{Asked, Await, BegunOp, proc_of}
use Rattle.node_runs.specs.Dones.{asking}
use Rattle.node_runs.specs.Doings.{ticked}
use Rattle.node_runs.specs.Notes.{Told, Note}
use Rattle.node_runs.specs.NodesKeep.{IsTimely}
use Rattle.node_runs.specs.Runs.{World, Noted, Choice, world_after}
use Rattle.node_runs.specs.RunHistories.{is_fault, settled_op, change_reply, act_item, all_told, told_by, doing_of, items_of, items_from, pending_to, history_in}
use Rattle.node_runs.specs.CallsKeep.{IsCallAt, EachOf}
use Rattle.node_runs.specs.DecidedCalls.{IsDecided, IsOther, AreDecidedOnce}
use Rattle.node_runs.proofs.Worlds.{place_at}
use Rattle.node_runs.proofs.Receiving.{EachOf-more}
use Rattle.node_runs.proofs.Decisions.{decisions-are}
use Rattle.node_runs.proofs.SettingUp.{setup-gives, setup-procs}
use Rattle.node_runs.proofs.EachOf.{EachOf-behind}
use Rattle.run_laws.specs.DecidedReplies.{proc_at, IsDecisionOf}
use Rattle.run_laws.specs.Placed.{AreRisingNotes, IsSettledBy, IsDecidedBehind, IsEndOf, IsPlaced}
use Rattle.run_laws.specs.Progress.{IsSettling, told_of}
use Rattle.run_laws.proofs.Slots.{IsSlot, IsNew, settles, place-is}
use Rattle.run_laws.proofs.Walks.{settled-decides, SomeOf-more}
use Rattle.run_laws.proofs.Hearing.{new-told}
use Rattle.run_laws.specs.NotedEntries.{noted_entries}
use Rattle.run_laws.proofs.HistoryEntries.{history-entries}
use Rattle.run_laws.proofs.HearingRuns.{IsKeptNext, event, event-incoming}
use Rattle.run_laws.proofs.Following.{EachOf-append}
use Rattle.run_laws.proofs.Placing.{ends-placed}
use Rattle.run_laws.proofs.Rising.{notes-rise, history-rises}
use Rattle.run_laws.specs.DecisionOrder.{AreDecisionsRising}
use Rattle.run_laws.specs.SingleActs.{IsActOf}
use Rattle.run_laws.proofs.DecisionOrder.{decisions-rise}
use Rattle.run_laws.specs.KeptLocks.{IsKeptWithout}
use Rattle.run_laws.specs.ToldAnswers.{TellsReply, IsFaultOf, IsSettled, IsEnded, IsToldBy, IsTold}
use Rattle.run_laws.specs.WaitingReleases.{IsOpenRelease}
use Rattle.run_laws.proofs.EndedOps.{step-ended}
use Rattle.run_laws.proofs.KeptLocks.{kept-without}
use Rattle.run_laws.proofs.ToldAnswers.{told-are}
use Rattle.run_laws.proofs.WaitingReleases.{runs-release}
use Rattle.run_laws.specs.NotedEffects.{noted_past}
use Rattle.run_laws.specs.NotedDeeds.{noted_deeds}
use Rattle.run_laws.specs.HomeReplies.{IsHomeReply}
use Rattle.run_laws.specs.KnownRuns.{IsKnown}
use Rattle.run_laws.specs.MovedHistories.{IsMovedOrSame, moves}
use Rattle.run_laws.proofs.Alone.{Alone, here, later, IsAloneDoing, alone-are}
use Rattle.run_laws.proofs.AnsweredMoves.{tells-change, tells-none, fault-faulty, faults-are, asked_of, kept-writes}
use Rattle.run_laws.proofs.Begins.{BeginSplit, begin-split, WritesKept, fault-may, began-may, began-asks, told-then}
use Rattle.run_laws.proofs.Cuts.{AreCut, all-of, pending-each}
use Rattle.run_laws.proofs.MovedEvents.{after, items-cut, moved-history}
use Rattle.run_laws.proofs.InOrder.{told-op}
use Rattle.run_laws.proofs.ItemViews.{IsAmong}
use Rattle.run_laws.proofs.Orders.{NoteSplit, note-split, each-middle, each-front, once-around, once-each, rising-around, above-around}
use Rattle.run_laws.proofs.SameItems.{items-same, told-same, fault-was, fault-is, answer-was, answer-is}
use Rattle.run_laws.proofs.TellsThen.{ToldThen, alone-quiet}
use Rattle.run_laws.proofs.StandingMoves.{items-at, since-of, no-act, none-behind}

-- an open operation began at another place than that of another note
begun-apart : (p : ProcName) (op : Op) (begun : Place) (m : Noted) → (m.note ≡ Note.Began p op → ⊥) → (notes : List Noted) → Alone p op begun notes → EachOf (λ (j : Noted). j.place ≡ m.place → j.note ≡ m.note) notes → IsTrue (not (same_place begun m.place))
begun-apart p op begun m other [] alone each = elim alone [ ]
begun-apart p op begun m other (j ∷ older) (here place note) each = by_cases (same_place begun m.place) (IsTrue (not (same_place begun m.place)))
    (λ h. absurd (other (sym (each.0 (place ∙ place-is begun m.place h)) ∙ note)))
    (λ h. ap not h)
begun-apart p op begun m other (j ∷ older) (later quiet alone) each = begun-apart p op begun m other older alone each.1

-- no two notes stand at one place
one-place : (notes newer : List Noted) (m : Noted) (older : List Noted) → notes ≡ newer ++ m ∷ older → EachOf (λ (j : Noted). place_lt m.place j.place ≡ true) newer → EachOf (λ (j : Noted). place_lt j.place m.place ≡ true) older → EachOf (λ (j : Noted). j.place ≡ m.place → j.note ≡ m.note) notes
one-place notes newer m older parts above below = subst (EachOf (λ (j : Noted). j.place ≡ m.place → j.note ≡ m.note)) (sym parts) (by newer above)
  where
    by : (newer : List Noted) → EachOf (λ (j : Noted). place_lt m.place j.place ≡ true) newer → EachOf (λ (j : Noted). j.place ≡ m.place → j.note ≡ m.note) (newer ++ m ∷ older)
    by [] above = (
      (λ same. refl),
      EachOf-more (λ (j : Noted). place_lt j.place m.place ≡ true) (λ (j : Noted). j.place ≡ m.place → j.note ≡ m.note) older
          (λ j below same. absurd (place_lt-not_self m.place (subst (λ x. place_lt x m.place ≡ true) same below))) below,
    )
    by (j ∷ newer) above = ((λ same. absurd (place_lt-not_self m.place (subst (λ x. place_lt m.place x ≡ true) same above.0))), by newer above.1)

module _ (s : Setup) (setup : IsSetup s) (cs : List Choice) (old : World) (e : world_after s cs ≡ Some old) (timely : IsTimely old) (known : IsKnown s old) (c : Choice) (new : World) (next : IsKeptNext s old c new)
    (e_after : world_after s (c ∷ cs) ≡ Some (after old c next.is.step)) (timely_after : IsTimely (after old c next.is.step)) (legal : IsLegal s.opening (history_in s old))
    (p : ℕ) (proc : IsProc p) (o : BegunOp) (k : Asked) (reply : Reply) (was : (proc_of (old.nodes c.node) p).doing ≡ asking o k)
    (noted : next.is.step.note ≡ Note.Ended (told_of (proc_at c.node p) (proc_of (old.nodes c.node) p) o k.waiting.number reply))
    (others : (q : ProcName) → IsProc q.number → same_proc (proc_at c.node p) q ≡ false → doing_of (after old c next.is.step) q ≡ doing_of old q)
    (cut : AreCut ((let o : Pending = record { begun = o.begun; proc = proc_at c.node p; op = o.op } in o) ∷ []) [] (pending_to old s.opening.nodes) (pending_to (after old c next.is.step) s.opening.nodes)) where
  open event s old c new next use {step}

  abbrev so_far : List Told
  so_far = all_told old.trace

  abbrev me : ProcName
  me = proc_at c.node p

  abbrev phase : ℕ
  phase = (proc_of (old.nodes c.node) p).phase

  abbrev t : Told
  t = told_of me (proc_of (old.nodes c.node) p) o k.waiting.number reply

  abbrev mine : Pending
  mine = record { begun = o.begun; proc = me; op = o.op }

  abbrev then_world : World
  then_world = after old c step

  is_new : IsNew t so_far
  is_new = new-told me so_far old.trace (old.nodes c.node).tick (proc_of (old.nodes c.node) p) o k reply (since-of s setup cs old e timely c.node p proc o (Await.Answer k) was)

  decided : EachOf (λ (j : Noted). IsDecided old j.place j.note) old.trace
  decided = (decisions-are s (setup-procs s setup) cs old e).each

  -- what the event leaves of each note at which the entry does not stand
  same-part : (notes : List Noted) → EachOf (λ (j : Noted). IsDecided old j.place j.note) notes → EachOf (λ (j : Noted). IsSlot t j.place j.note → ⊥) notes → items_from then_world (t ∷ so_far) notes ≡ items_from old so_far notes
  same-part notes decided off = items-same old then_world so_far (t ∷ so_far) notes (by notes decided off)
    where
      by : (notes : List Noted) → EachOf (λ (j : Noted). IsDecided old j.place j.note) notes → EachOf (λ (j : Noted). IsSlot t j.place j.note → ⊥) notes → EachOf (λ (j : Noted). items_of then_world (t ∷ so_far) j.place j.note ≡ items_of old so_far j.place j.note) notes
      by [] decided off = tt
      by (j ∷ notes) decided off = (told-same s setup cs old e timely then_world t is_new o k was refl refl others j.place j.note decided.0 off.0, by notes decided.1 off.1)

  items-now : (history_in s then_world).items ≡ items_from then_world (t ∷ so_far) old.trace
  items-now = ap (λ (n : Note). items_of then_world (told_by n ++ so_far) (place_at c step) n ++ items_from then_world (told_by n ++ so_far) old.trace) noted

  -- the history before and after, cut at the note at which the entry stands
  module _ (newer : List Noted) (it : Noted) (older : List Noted) (parts : old.trace ≡ newer ++ it ∷ older)
      (off_newer : EachOf (λ (j : Noted). IsSlot t j.place j.note → ⊥) newer) (off_older : EachOf (λ (j : Noted). IsSlot t j.place j.note → ⊥) older) where
    abbrev behind : List Item
    behind = items_from old so_far newer

    abbrev before : List Item
    before = items_from old so_far older

    decided-parts : EachOf (λ (j : Noted). IsDecided old j.place j.note) (newer ++ it ∷ older)
    decided-parts = subst (EachOf (λ (j : Noted). IsDecided old j.place j.note)) parts decided

    decided-newer : EachOf (λ (j : Noted). IsDecided old j.place j.note) newer
    decided-newer = each-front (λ (j : Noted). IsDecided old j.place j.note) newer (it ∷ older) decided-parts

    decided-older : EachOf (λ (j : Noted). IsDecided old j.place j.note) older
    decided-older = (EachOf-behind (λ (j : Noted). IsDecided old j.place j.note) newer (it ∷ older) decided-parts).1

    items-is : (x : Item) → items_of then_world (t ∷ so_far) it.place it.note ≡ x ∷ [] → (history_in s then_world).items ≡ behind ++ x ∷ before
    items-is x is =
        items-now ∙ (items-cut then_world (t ∷ so_far) old.trace newer it older parts (x ∷ []) is
        ∙ (ap (λ xs. xs ++ x ∷ items_from then_world (t ∷ so_far) older) (same-part newer decided-newer off_newer) ∙ ap (λ xs. behind ++ x ∷ xs) (same-part older decided-older off_older)))

    rises-now : (x : Item) → items_of then_world (t ∷ so_far) it.place it.note ≡ x ∷ [] → IsRising (behind ++ x ∷ before)
    rises-now x is = subst IsRising (items-is x is) (history-rises s (c ∷ cs) then_world e_after)

    past : store_effects (deeds before) ≡ noted_past older
    past = known.effects (newer ++ it ∷ []) older (parts ∙ sym (append_assoc newer (it ∷ []) older))

    legal-cut : (gone : List Item) → items_of old so_far it.place it.note ≡ gone → IsLegal s.opening (history (behind ++ (gone ++ before)) (cut.left ++ mine ∷ cut.right))
    legal-cut gone is =
        subst (λ ps. IsLegal s.opening (history (behind ++ (gone ++ before)) ps)) cut.first
        (subst (λ xs. IsLegal s.opening (history xs (pending_to old s.opening.nodes))) (items-cut old so_far old.trace newer it older parts gone is) legal)

  -- where it began, and what it awaited
  abbrev split : BeginSplit me o.op o.begun old.trace
  split = begin-split me o.op o.begun old.trace (subst (IsAloneDoing me old.trace) was ((alone-are s setup cs old e timely).opened c.node p proc))

  rising-parts : (newer : List Noted) (it : Noted) (older : List Noted) → old.trace ≡ newer ++ it ∷ older → EachOf (λ (j : Noted). place_lt it.place j.place ≡ true) newer × EachOf (λ (j : Noted). place_lt j.place it.place ≡ true) older
  rising-parts newer it older parts = rising-around newer it older (subst AreRisingNotes parts (notes-rise s cs old e).rising)

  -- the entry stands where the operation began
  module _ (fault : is_fault reply ≡ true) where
    fault-off : (j : Noted) → (j.place ≡ t.begun → ⊥) → IsSlot t j.place j.note → ⊥
    fault-off j differs is = by j.note is
      where
        by : (note : Note) → IsSlot t j.place note → ⊥
        by Note.Nothing is = is
        by (Note.Began q op) is = differs is.1
        by (Note.Did q ph op r) is = is
        by (Note.Ended u) is = is
        by (Note.Decided q i ask answer) is = absurd (let f : true ≡ false = sym fault ∙ is.3 in cc)

    fault_around : EachOf (λ (j : Noted). place_lt split.it.place j.place ≡ true) split.newer × EachOf (λ (j : Noted). place_lt j.place split.it.place ≡ true) split.older
    fault_around = rising-parts split.newer split.it split.older split.parts

    fault_newer : EachOf (λ (j : Noted). IsSlot t j.place j.note → ⊥) split.newer
    fault_newer = EachOf-more (λ (j : Noted). place_lt split.it.place j.place ≡ true) (λ (j : Noted). IsSlot t j.place j.note → ⊥) split.newer
        (λ j above. fault-off j (λ same. place_lt-not_self split.it.place (subst (λ x. place_lt split.it.place x ≡ true) (same ∙ sym split.place) above))) fault_around.0

    fault_older : EachOf (λ (j : Noted). IsSlot t j.place j.note → ⊥) split.older
    fault_older = EachOf-more (λ (j : Noted). place_lt j.place split.it.place ≡ true) (λ (j : Noted). IsSlot t j.place j.note → ⊥) split.older
        (λ j below. fault-off j (λ same. place_lt-not_self split.it.place (subst (λ x. place_lt x split.it.place ≡ true) (same ∙ sym split.place) below))) fault_around.1

    abbrev fault_late : List Item
    fault_late = items_from old so_far split.newer

    abbrev fault_early : List Item
    fault_early = items_from old so_far split.older

    abbrev fault_entry : Item
    fault_entry = Answered (entry_of mine o.begun phase reply)

    fault-gave : items_of old so_far split.it.place split.it.note ≡ []
    fault-gave = subst (λ n. items_of old so_far split.it.place n ≡ []) (sym split.note) (fault-was s setup cs old e timely then_world t is_new o k was refl refl others split.it.place o.op split.place)

    fault-gives : items_of then_world (t ∷ so_far) split.it.place split.it.note ≡ fault_entry ∷ []
    fault-gives = subst (λ n. items_of then_world (t ∷ so_far) split.it.place n ≡ fault_entry ∷ []) (sym split.note)
        (subst (λ x. items_of then_world (t ∷ so_far) x (Note.Began me o.op) ≡ fault_entry ∷ []) (sym split.place) (fault-is s setup cs old e timely then_world t is_new o k was refl refl others o.begun o.op refl fault))

    was-items : (history_in s old).items ≡ fault_late ++ fault_early
    was-items = items-cut old so_far old.trace split.newer split.it split.older split.parts [] fault-gave

    fault-now : (history_in s then_world).items ≡ fault_late ++ fault_entry ∷ fault_early
    fault-now = items-is split.newer split.it split.older split.parts fault_newer fault_older fault_entry fault-gives

    fault-above : EachOf (λ i. place_lt o.begun (place_of i) ≡ true) fault_late
    fault-above = items-at s setup cs old e timely (λ x. place_lt o.begun x ≡ true) split.newer (decided-newer split.newer split.it split.older split.parts fault_newer fault_older)
        (subst (λ y. EachOf (λ (j : Noted). place_lt y j.place ≡ true) split.newer) split.place fault_around.0)

    fault-told : told_to mine fault_early ≡ own me (noted_deeds split.older)
    fault-told = told-then s old known c.node p proc o split cut.left cut.right fault_late fault_early was-items (legal-cut split.newer split.it split.older split.parts fault_newer fault_older [] fault-gave) fault-above

    -- the desk's own word of the fault
    ended : IsSettled (given s c.node) (ticked (old.nodes c.node) next.is.incoming) next.is.incoming t
    ended = subst (IsEnded (given s c.node) (ticked (old.nodes c.node) next.is.incoming) next.is.incoming) noted
        (step-ended (given s c.node) (old.nodes c.node) c.what next.is.incoming c.dropped step (setup-gives s setup c.node next.is.node) (next.kept.nodes c.node next.is.node)
        (event-incoming s old c new next) next.is.steps)

    same_call : ended.call ≡ k
    same_call = ap (asked_of k) (sym ended.doing ∙ (ap (λ i. (proc_of (old.nodes c.node) i).doing) (ap (λ (q : ProcName). q.number) (sym ended.named)) ∙ was))

    by-fault : IsFaultOf o.op k.ask reply
    by-fault = subst (λ (x : Asked). IsFaultOf o.op x.ask reply) same_call (elim ended.by [ inl is ↦ is | inr word ↦ absurd (tells-none o.op reply word.0 word.2 fault) ])

    release-open : (op : Op) → o.op ≡ op → IsFaultOf op k.ask reply → WritesKept (own me (noted_deeds split.older)) op reply
    release-open (ops.Unlock u) same is = λ kept.
        let open_now : IsOpenRelease (entries_of (old.nodes c.node).desk p) (asking o k) = subst (IsOpenRelease (entries_of (old.nodes c.node).desk p)) was (runs-release s setup cs old e timely c.node next.is.node p proc) in
        let sends : IsOpenRelease (entries_of (old.nodes c.node).desk p) (asking (record { op = ops.Unlock u; begun = o.begun }) k) =
        subst (λ z. IsOpenRelease (entries_of (old.nodes c.node).desk p) (asking (record { op = z; begun = o.begun }) k)) same open_now in
        let writes : may_write (state_of (old.nodes c.node).desk p u) ≡ true = kept-writes (entries_of (old.nodes c.node).desk p) u k.ask sends (subst (IsFaultOf (ops.Unlock u) k.ask) kept is) in
        subst (λ ds. may_write (state u ds) ≡ true) split.same (ap may_write (known.states.states c.node p next.is.node proc u) ∙ writes)
    release-open (ops.New home kind room) same is = tt
    release-open (ops.List home list_after) same is = tt
    release-open (ops.Lock u m) same is = tt
    release-open (ops.Delete u) same is = tt
    release-open (ops.Load spot count) same is = tt
    release-open (ops.Store spot bytes) same is = tt
    release-open (ops.Length u) same is = tt
    release-open (ops.Map u) same is = tt
    release-open (ops.Unmap u) same is = tt

    no-act-of : (i : Item) → (IsActOf me o.begun i → ⊥) → IsNoActOf mine i
    no-act-of (Answered x) none is = is
    no-act-of (Acted a) none is = none (sym is.1, sym is.0)

    kept-none : reply ≡ replies.Kept → All (IsNoActOf mine) fault_late
    kept-none kept =
        let each = kept-without s setup (c ∷ cs) then_world e_after timely_after in
        let mine_kept : IsKeptWithout s then_world t = (subst (λ n. EachOf (IsKeptWithout s then_world) (told_by n ++ so_far)) noted each).0 in
        let none : EachOf (λ i. IsActOf me o.begun i → ⊥) (fault_late ++ fault_entry ∷ fault_early) = subst (EachOf (λ i. IsActOf me o.begun i → ⊥)) fault-now (mine_kept kept) in
        all-of (IsNoActOf mine) fault_late (EachOf-more (λ i. IsActOf me o.begun i → ⊥) (IsNoActOf mine) fault_late no-act-of (each-front (λ i. IsActOf me o.begun i → ⊥) fault_late (fault_entry ∷ fault_early) none))

    fault-moves : IsMovedOrSame s.opening (history_in s old) (history_in s then_world)
    fault-moves =
        moved-history s.opening (fault_late ++ fault_early) (fault_late ++ fault_entry ∷ fault_early) (history_in s old).items (history_in s then_world).items (cut.left ++ mine ∷ cut.right) (cut.left ++ cut.right) (pending_to old s.opening.nodes) (pending_to then_world s.opening.nodes)
        was-items cut.first fault-now cut.second
        (moves (faults fault_late fault_early cut.left cut.right mine phase reply (record {
          fault = faults-are reply fault;
          allowed = fault-may s split.older fault_early mine (past split.newer split.it split.older split.parts fault_newer fault_older) fault-told k.ask reply o.op refl (began-may s old known c.node p proc o split) by-fault (release-open o.op refl by-fault);
          rising = rises-now split.newer split.it split.older split.parts fault_newer fault_older fault_entry fault-gives;
          kept = kept-none;
        })))

  -- the entry stands where the home decided
  module _ (answer_told : is_fault reply ≡ false) where
    end-of : IsEndOf old.trace t
    end-of = subst (λ n. IsPlaced n old.trace) noted (ends-placed s setup (c ∷ cs) then_world e_after timely_after).0

    decided-some : SomeOf (IsDecidedBehind me k.waiting.number o.begun) old.trace
    decided-some = elim end-of.decided [ inl is ↦ absurd (let f : true ≡ false = sym is ∙ answer_told in cc) | inr some ↦ some ]

    abbrev decided-at : NoteSplit (IsDecidedBehind me k.waiting.number o.begun) old.trace
    decided-at = note-split (IsDecidedBehind me k.waiting.number o.begun) old.trace decided-some

    told-it : IsTold then_world t
    told-it = (subst (λ n. EachOf (IsTold then_world) (told_by n ++ so_far)) noted (told-are s setup (c ∷ cs) then_world e_after timely_after).told).0

    told-decides : (note : Note) → IsToldBy t note → IsDecisionOf me k.waiting.number note × IsToldBy t note
    told-decides Note.Nothing is = absurd is
    told-decides (Note.Began q op) is = absurd is
    told-decides (Note.Did q ph op r) is = absurd is
    told-decides (Note.Ended u) is = absurd is
    told-decides (Note.Decided q i ask answer) is = ((is.0, is.1), is)

    told-some : SomeOf (λ (j : Noted). IsToldBy t j.note) old.trace
    told-some = elim told-it.by [
      | inl is ↦ absurd (let f : true ≡ false = sym (fault-faulty o.op told-it.ask reply is) ∙ answer_told in cc)
      | inr some ↦ elim some [ inl head ↦ absurd (subst (IsToldBy t) noted head) | inr rest ↦ rest ]
    ]

    told-at : IsToldBy t decided-at.it.note
    told-at =
        let each = once-each me k.waiting.number (λ (j : Noted). IsToldBy t j.note) old.trace (decisions-are s (setup-procs s setup) cs old e).once
        (SomeOf-more (λ (j : Noted). IsToldBy t j.note) (λ (j : Noted). IsDecisionOf me k.waiting.number j.note × IsToldBy t j.note) old.trace (λ j is. told-decides j.note is) told-some) in
        each-middle (λ (j : Noted). IsDecisionOf me k.waiting.number j.note → IsToldBy t j.note) decided-at.newer decided-at.it decided-at.older
        (subst (EachOf (λ (j : Noted). IsDecisionOf me k.waiting.number j.note → IsToldBy t j.note)) decided-at.parts each) (settled-decides me k.waiting.number decided-at.it.note decided-at.is.0)

    answer-off : (j : Noted) → IsOther me k.waiting.number j.note → IsSlot t j.place j.note → ⊥
    answer-off j other is = by j.note other is
      where
        by : (note : Note) → IsOther me k.waiting.number note → IsSlot t j.place note → ⊥
        by Note.Nothing other is = is
        by (Note.Began q op) other is = absurd (let f : true ≡ false = sym is.2 ∙ answer_told in cc)
        by (Note.Did q ph op r) other is = is
        by (Note.Ended u) other is = is
        by (Note.Decided q i ask answer) other is = other is.0 is.1

    others-around : EachOf (λ (j : Noted). IsOther me k.waiting.number j.note) decided-at.newer × EachOf (λ (j : Noted). IsOther me k.waiting.number j.note) decided-at.older
    others-around = once-around me k.waiting.number decided-at.newer decided-at.it decided-at.older (subst AreDecidedOnce decided-at.parts (decisions-are s (setup-procs s setup) cs old e).once) (settled-decides me k.waiting.number decided-at.it.note decided-at.is.0)

    off_newer : EachOf (λ (j : Noted). IsSlot t j.place j.note → ⊥) decided-at.newer
    off_newer = EachOf-more (λ (j : Noted). IsOther me k.waiting.number j.note) (λ (j : Noted). IsSlot t j.place j.note → ⊥) decided-at.newer answer-off others-around.0

    off_older : EachOf (λ (j : Noted). IsSlot t j.place j.note → ⊥) decided-at.older
    off_older = EachOf-more (λ (j : Noted). IsOther me k.waiting.number j.note) (λ (j : Noted). IsSlot t j.place j.note → ⊥) decided-at.older answer-off others-around.1

    abbrev x : Place
    x = decided-at.it.place

    abbrev late : List Item
    late = items_from old so_far decided-at.newer

    abbrev early : List Item
    early = items_from old so_far decided-at.older

    abbrev entry : Item
    entry = Answered (entry_of mine x phase reply)

    around : EachOf (λ (j : Noted). place_lt x j.place ≡ true) decided-at.newer × EachOf (λ (j : Noted). place_lt j.place x ≡ true) decided-at.older
    around = rising-parts decided-at.newer decided-at.it decided-at.older decided-at.parts

    above-begin : EachOf (λ i. place_lt o.begun (place_of i) ≡ true) late
    above-begin = items-at s setup cs old e timely (λ y. place_lt o.begun y ≡ true) decided-at.newer (decided-newer decided-at.newer decided-at.it decided-at.older decided-at.parts off_newer off_older)
        (EachOf-more (λ (j : Noted). place_lt x j.place ≡ true) (λ (j : Noted). place_lt o.begun j.place ≡ true) decided-at.newer (λ j is. place_lt-trans o.begun x j.place decided-at.is.1 is) around.0)

    -- the decision, and what its answer tells
    module _ (ask : Ask) (answer : Answer) (note : decided-at.it.note ≡ Note.Decided me k.waiting.number ask answer) (settling : IsSettling ask) (tells : TellsReply o.op reply answer) where
      decided-it : IsDecided old x decided-at.it.note
      decided-it = each-middle (λ (j : Noted). IsDecided old j.place j.note) decided-at.newer decided-at.it decided-at.older (decided-parts decided-at.newer decided-at.it decided-at.older decided-at.parts off_newer off_older)

      call-after : IsCallAt (then_world.calls c.node p) k.waiting.number x.node ask
      call-after =
          let each = (decisions-are s (setup-procs s setup) (c ∷ cs) then_world e_after).each.1 in
          let there = each-middle (λ (j : Noted). IsDecided then_world j.place j.note) decided-at.newer decided-at.it decided-at.older (subst (EachOf (λ (j : Noted). IsDecided then_world j.place j.note)) decided-at.parts each) in
          (subst (IsDecided then_world x) note there).1

      among-now : IsAmong t (all_told then_world.trace)
      among-now = subst (λ n. IsAmong t (told_by n ++ so_far)) (sym noted) (inl refl)

      of : settled_op x.node ask ≡ Some o.op
      of = elim (settles x.node ask) [
        | inl none ↦ absurd (no ask settling none)
        | inr some ↦ some.1.1 ∙ ap (λ z. Some z) (sym (told-op s setup (c ∷ cs) then_world e_after timely_after t among-now x.node ask some.1.0 call-after some.1.1))
      ]
        where
          no : (a : Ask) → IsSettling a → settled_op x.node a ≡ None → ⊥
          no (Ask.PageIn u j) is e = is
          no (Ask.PageOut u j grant base bytes) is e = is
          no (Ask.AttrOut u j grant base) is e = is
          no (Ask.Lock u m) is e = absurd (cc)
          no (Ask.Unlock u) is e = absurd (cc)
          no (Ask.Remove u) is e = absurd (cc)
          no (Ask.Make kind room) is e = absurd (cc)
          no (Ask.ListLocks list_after) is e = absurd (cc)

      gave : (change : Option Reply) → change_reply answer ≡ change → items_of old so_far x decided-at.it.note ≡ act_item x o.begun me o.op change
      gave change is = subst (λ n. items_of old so_far x n ≡ act_item x o.begun me o.op change) (sym note) (answer-was s setup cs old e timely then_world t is_new o k was refl refl others x ask answer o.op of ∙ ap (act_item x o.begun me o.op) is)

      gives : items_of then_world (t ∷ so_far) x decided-at.it.note ≡ entry ∷ []
      gives = subst (λ n. items_of then_world (t ∷ so_far) x n ≡ entry ∷ []) (sym note) (answer-is s setup cs old e timely then_world t is_new o k was refl refl others x ask answer o.op of answer_told)

      now-items : (history_in s then_world).items ≡ late ++ entry ∷ early
      now-items = items-is decided-at.newer decided-at.it decided-at.older decided-at.parts off_newer off_older entry gives

      early-told : (gone : List Item) → items_of old so_far x decided-at.it.note ≡ gone → EachOf (λ i. place_lt o.begun (place_of i) ≡ true) (late ++ gone) → told_to mine early ≡ own me (noted_deeds split.older)
      early-told gone is above =
          let parts : (history_in s old).items ≡ (late ++ gone) ++ early = items-cut old so_far old.trace decided-at.newer decided-at.it decided-at.older decided-at.parts gone is ∙ sym (append_assoc late gone early) in
          let legal_now = subst (λ xs. IsLegal s.opening (history xs (cut.left ++ mine ∷ cut.right))) (sym (append_assoc late gone early)) (legal-cut decided-at.newer decided-at.it decided-at.older decided-at.parts off_newer off_older gone is) in
          told-then s old known c.node p proc o split cut.left cut.right (late ++ gone) early parts legal_now above

      asks : (gone : List Item) → items_of old so_far x decided-at.it.note ≡ gone → EachOf (λ i. place_lt o.begun (place_of i) ≡ true) (late ++ gone) → MayAsk (told_to mine early) o.op
      asks gone is above = subst (λ ds. MayAsk ds o.op) (sym (early-told gone is above)) (began-asks s old known c.node p proc o split x.node ask of)

      act-above : (change : Option Reply) → EachOf (λ i. place_lt o.begun (place_of i) ≡ true) (act_item x o.begun me o.op change)
      act-above None = tt
      act-above (Some r) = (decided-at.is.1, tt)

      -- where its home decided the process had been told what the notes before say
      told-fact : told_to mine early ≡ own me (noted_deeds decided-at.older)
      told-fact =
          let parts : old.trace ≡ (decided-at.newer ++ decided-at.it ∷ []) ++ decided-at.older = decided-at.parts ∙ sym (append_assoc decided-at.newer (decided-at.it ∷ []) decided-at.older) in
          let above : EachOf (λ (j : Noted). place_lt o.begun j.place ≡ true) (decided-at.newer ++ decided-at.it ∷ []) = EachOf-append (λ (j : Noted). place_lt o.begun j.place ≡ true) decided-at.newer (decided-at.it ∷ [])
          (EachOf-more (λ (j : Noted). place_lt x j.place ≡ true) (λ (j : Noted). place_lt o.begun j.place ≡ true) decided-at.newer (λ j is. place_lt-trans o.begun x j.place decided-at.is.1 is) around.0) (decided-at.is.1, tt) in
          let alone : Alone me o.op o.begun old.trace = subst (IsAloneDoing me old.trace) was ((alone-are s setup cs old e timely).opened c.node p proc) in
          early-told (act_item x o.begun me o.op (change_reply answer)) (gave (change_reply answer) refl) (EachOf-append (λ i. place_lt o.begun (place_of i) ≡ true) late (act_item x o.begun me o.op (change_reply answer)) above-begin (act-above (change_reply answer)))
          ∙ (sym split.same ∙ (ap (λ js. own me (noted_deeds js)) parts ∙ alone-quiet me o.op o.begun (decided-at.newer ++ decided-at.it ∷ []) decided-at.older (subst (Alone me o.op o.begun) parts alone) above))

      moved-so : (gone : List Item) → items_of old so_far x decided-at.it.note ≡ gone → IsMovedOrSame s.opening (history (late ++ (gone ++ early)) (cut.left ++ mine ∷ cut.right)) (history (late ++ entry ∷ early) (cut.left ++ cut.right))
          → IsMovedOrSame s.opening (history_in s old) (history_in s then_world)
      moved-so gone is =
          moved-history s.opening (late ++ (gone ++ early)) (late ++ entry ∷ early) (history_in s old).items (history_in s then_world).items (cut.left ++ mine ∷ cut.right) (cut.left ++ cut.right) (pending_to old s.opening.nodes) (pending_to then_world s.opening.nodes)
          (items-cut old so_far old.trace decided-at.newer decided-at.it decided-at.older decided-at.parts gone is) cut.first now-items cut.second

      told-moves : change_reply answer ≡ Some reply → IsMovedOrSame s.opening (history_in s old) (history_in s then_world)
      told-moves change =
          let gone : List Item = Acted (act_of mine x reply) ∷ [] in
          let is = gave (Some reply) change in
          moved-so gone is (moves (is_told late early cut.left cut.right mine x phase reply
          (asks gone is (EachOf-append (λ i. place_lt o.begun (place_of i) ≡ true) late gone above-begin (decided-at.is.1, tt)))))

      says : HomeSays s.opening (store_effects (deeds early)) me o.op reply
      says =
          let node : is_node s.opening x.node ≡ true = each-middle (λ (j : Noted). is_node s.opening j.place.node ≡ true) decided-at.newer decided-at.it decided-at.older
          (subst (EachOf (λ (j : Noted). is_node s.opening j.place.node ≡ true)) decided-at.parts (alone-are s setup cs old e timely).nodes) in
          let home : IsHomeReply s decided-at.older x.node (Note.Decided me k.waiting.number ask answer) = subst (IsHomeReply s decided-at.older x.node) note (known.homes decided-at.newer decided-at.older decided-at.it decided-at.parts node) in
          subst (λ es. HomeSays s.opening es me o.op reply) (sym (past decided-at.newer decided-at.it decided-at.older decided-at.parts off_newer off_older)) ((home o.op of).0 reply tells)

      not-begun : (q : ProcName) (op : Op) → decided-at.it.note ≡ Note.Began q op → ⊥
      not-begun q op is = absurd (let f : Note.Decided me k.waiting.number ask answer ≡ Note.Began q op = sym note ∙ is in cc)

      elsewhere : All (λ q. IsElsewhere q x) (cut.left ++ cut.right)
      elsewhere = All-without (λ q. IsElsewhere q x) cut.left mine cut.right (subst (All (λ q. IsElsewhere q x)) cut.first
          (all-of (λ q. IsElsewhere q x) (pending_to old s.opening.nodes) (pending-each old (λ q. IsElsewhere q x) (λ n i other r doing.
          begun-apart (proc_at n i) r.began.op r.began.begun decided-at.it (not-begun (proc_at n i) r.began.op) old.trace (subst (IsAloneDoing (proc_at n i) old.trace) doing ((alone-are s setup cs old e timely).opened n i other))
          (one-place old.trace decided-at.newer decided-at.it decided-at.older decided-at.parts around.0 around.1)) s.opening.nodes)))

      hears-moves : change_reply answer ≡ None → store_effect me o.op reply ≡ [] → IsMovedOrSame s.opening (history_in s old) (history_in s then_world)
      hears-moves change none =
          let is = gave None change in
          moved-so [] is (moves (hears late early cut.left cut.right mine x phase reply (record {
            no_effect = none;
            allowed = asked-allowed s.opening early mine reply (asks [] is (subst (EachOf (λ i. place_lt o.begun (place_of i) ≡ true)) (sym (append-nil late)) above-begin)) says;
            rising = rises-now decided-at.newer decided-at.it decided-at.older decided-at.parts off_newer off_older entry gives;
            begun_before = decided-at.is.1;
            apart = elsewhere;
            no_act_behind = all-of (IsNoneAtHome mine) late (none-behind s setup cs old e timely c.node p proc o k was decided-at.it ask answer decided-it note of decided-at.newer
                (decided-newer decided-at.newer decided-at.it decided-at.older decided-at.parts off_newer off_older)
                (above-around decided-at.newer decided-at.it decided-at.older (subst AreDecisionsRising decided-at.parts (decisions-rise s (setup-procs s setup) cs old e))));
            no_act_before = all-of (IsNoActOf mine) early (no-act s setup cs old e timely c.node p proc o k was decided-at.older
                (decided-older decided-at.newer decided-at.it decided-at.older decided-at.parts off_newer off_older) others-around.1);
          })))

      by-answer : IsMovedOrSame s.opening (history_in s old) (history_in s then_world)
      by-answer = elim (tells-change o.op reply answer tells) [ inl change ↦ told-moves change | inr none ↦ hears-moves none.0 (none.1 me) ]

    -- the decision is one of its call
    with-answer : (R : Type 0) → ((ask : Ask) (answer : Answer) → decided-at.it.note ≡ Note.Decided me k.waiting.number ask answer → IsSettling ask → TellsReply o.op reply answer → R) → R
    with-answer R gives-it = by decided-at.it.note refl decided-at.is.0 told-at
      where
        by : (note : Note) → decided-at.it.note ≡ note → IsSettledBy me k.waiting.number note → IsToldBy t note → R
        by Note.Nothing e settled told = absurd settled
        by (Note.Began q op) e settled told = absurd settled
        by (Note.Did q ph op r) e settled told = absurd settled
        by (Note.Ended u) e settled told = absurd settled
        by (Note.Decided q i ask answer) e settled told =
            gives-it ask answer (subst (λ z. decided-at.it.note ≡ Note.Decided z k.waiting.number ask answer) settled.0 (subst (λ z. decided-at.it.note ≡ Note.Decided q z ask answer) settled.1 e)) settled.2 told.2

    answer-moves : IsMovedOrSame s.opening (history_in s old) (history_in s then_world)
    answer-moves = with-answer (IsMovedOrSame s.opening (history_in s old) (history_in s then_world)) by-answer

    pub answer-told : ToldThen then_world t
    answer-told = record {
      newer = (record { place = place_at c step; note = step.note }) ∷ decided-at.newer;
      it = decided-at.it;
      older = decided-at.older;
      parts = ap (λ js. (let z : Noted = record { place = place_at c step; note = step.note } in z) ∷ js) decided-at.parts;
      decides = settled-decides me k.waiting.number decided-at.it.note decided-at.is.0;
      same = ap (λ (n : Note). own me (told (noted_entries (told_by n ++ so_far) decided-at.older))) noted
          ∙ (ap (λ es. own me (told es)) (sym (history-entries then_world (t ∷ so_far) decided-at.older)
          ∙ ap entries (same-part decided-at.older (decided-older decided-at.newer decided-at.it decided-at.older decided-at.parts off_newer off_older) off_older))
          ∙ with-answer (told_to mine early ≡ own me (noted_deeds decided-at.older)) told-fact);
    }

  -- the end of an operation moves the history
  pub end-moves : IsMovedOrSame s.opening (history_in s old) (history_in s then_world)
  end-moves = by_cases (is_fault reply) (IsMovedOrSame s.opening (history_in s old) (history_in s then_world)) fault-moves answer-moves
