-- Each event of a run leaves its history as it was, or moves it; so each history is one of one store.
use Rattle.std.proofs.Common.{◌≡◌, ◌≢◌, ℕ, ◌≤◌, Bool, true, false, List, [], ◌∷◌, ◌++◌, Option, Some, None, inl, inr, refl, sym, ap, subst, ◌∙◌, arith, rules}
use Rattle.std.specs.Prelude.{map}
use Rattle.std.proofs.lemmas.Bool.{cases_eq}
use Rattle.std.proofs.lemmas.Bool.Decides.{nat_tests}
use Rattle.std.proofs.lemmas.Option.{same_Some}
use Rattle.uid_names.proofs.Orders.{same_proc_is, same_proc-itself}
use Rattle.uid_names.specs.Names.{ProcName, same_proc}
use Rattle.uid_names.specs.Openings.{Start}
use Rattle.uid_names.specs.declared.ids.Place.{Place}
use Rattle.dom_history.specs.declared.op.Op.{Op}
use Rattle.dom_history.specs.declared.op.Reply.{Reply}
use Rattle.dom_history.specs.declared.op.Want.TheVariants.{Do}
use Rattle.dom_history.specs.Events.{Happening}
use Rattle.dom_history.specs.Histories.{Pending}
use Rattle.dom_history.specs.Legal.{IsLegal}
use Rattle.history_moves.specs.HistoryMoves.{history}
use Rattle.history_moves.proofs.Moving.{legal-moved}
use Rattle.fault_handler.specs.Invariant.{IsProc}
use Rattle.fault_handler.proofs.Fours.{by_proc}
use Rattle.node_runs.specs.Setups.{Setup, IsSetup, given}
use Rattle.node_runs.specs.NodeStates.{Asked, Await, BegunOp, OpenOp, ProcState, NodeState, first_node, proc_of, name_of}
use Rattle.node_runs.specs.Dones.{asking}
use Rattle.node_runs.specs.Doings.{noticed_call, ticked}
use Rattle.node_runs.specs.Following.{IsWanted}
use Rattle.node_runs.specs.Notes.{Note}
use Rattle.node_runs.specs.NodesKeep.{IsTimely}
use Rattle.node_runs.specs.Runs.{World, Choice, choice_of, first_world, then_next, world_after, world_of}
use Rattle.node_runs.specs.RunHistories.{told_by, doing_of, items_of, all_told, pending_to, pending_in, history_in, history_if, history_of}
use Rattle.node_runs.specs.CallsKeep.{EachOf}
use Rattle.node_runs.proofs.Calls.{calls-are, put-same, put-other}
use Rattle.node_runs.proofs.Decisions.{decisions-are}
use Rattle.node_runs.proofs.Running.{run-keeps}
use Rattle.node_runs.proofs.SettingUp.{setup-procs}
use Rattle.node_runs.proofs.Ticks.{step_of-tick}
use Rattle.node_runs.proofs.Worlds.{IsNext, place_at, next-is}
use Rattle.run_laws.specs.DecidedReplies.{proc_at}
use Rattle.run_laws.specs.Progress.{IsSettling, IsPart, IsPartDoing, Progress, opens, goes_on, again, did, told, pauses, is_done, IsApart, rests, comes}
use Rattle.run_laws.proofs.HearingRuns.{IsKeptNext, proc-step, heard-are, event}
use Rattle.run_laws.proofs.Replies.{replies-are}
use Rattle.run_laws.specs.KnownRuns.{IsKnown, IsAlwaysKnown}
use Rattle.run_laws.specs.MovedHistories.{IsMovedOrSame, stays, moves}
use Rattle.run_laws.proofs.Cuts.{AreCut, pending-same, pending-cut, pending-each}
use Rattle.run_laws.proofs.MovedEvents.{after, doing-here, doing-away, doing-other, name-apart}
use Rattle.run_laws.proofs.Growing.{nothing-stays, begin-moves, does-moves, finish-moves, decided-moves}
use Rattle.run_laws.proofs.Telling.{end-moves}

-- an open operation goes on to await an answer that settles it
abbrev KeepsOpen : World → World → Type 0
KeepsOpen old now = (p : ProcName) → IsProc p.number → (b : BegunOp) (k : Asked) → doing_of old p ≡ asking b k → IsSettling k.ask → (r : OpenOp) × (doing_of now p ≡ Some r) × (r.began ≡ b)

module _ (s : Setup) (setup : IsSetup s) (cs : List Choice) (old : World) (e : world_after s cs ≡ Some old) (timely : IsTimely old) (known : IsKnown s old) (c : Choice) (new : World) (next : IsKeptNext s old c new)
    (e_after : world_after s (c ∷ cs) ≡ Some (after old c next.is.step)) (timely_after : IsTimely (after old c next.is.step)) (known_after : IsKnown s (after old c next.is.step)) (legal : IsLegal s.opening (history_in s old)) where
  open event s old c new next use {step}

  abbrev then_world : World
  then_world = after old c step

  abbrev m : NodeState
  m = ticked (old.nodes c.node) next.is.incoming

  abbrev Result : Type 0
  Result = IsMovedOrSame s.opening (history_in s old) (history_in s then_world)

  -- no process comes on
  module _ (all : (q : ℕ) → proc_of step.node q ≡ proc_of m q) where
    same-doing : (n q : ℕ) → doing_of then_world (proc_at n q) ≡ doing_of old (proc_at n q)
    same-doing n q = elim (cases_eq n c.node) [
      | inr away ↦ doing-away old c step n q away
      | inl same ↦ subst (λ a. doing_of then_world (proc_at a q) ≡ doing_of old (proc_at a q)) (sym same) (doing-here old c step q ∙ ap (λ (y : ProcState). y.doing) (all q))
    ]

    rest-keeps : KeepsOpen old then_world
    rest-keeps p proc b k doing settling = (record { began = b; awaits = Await.Answer k }, same-doing p.node p.number ∙ doing, refl)

    same-pends : pending_to then_world s.opening.nodes ≡ pending_to old s.opening.nodes
    same-pends = pending-same old then_world (λ n q proc. same-doing n q) s.opening.nodes

    rest-moves : (note : Note) → step.note ≡ note → IsApart note → Result
    rest-moves Note.Nothing is apart =
        nothing-stays s setup cs old e timely known c new next e_after timely_after known_after legal (ap told_by is) rest-keeps (ap (items_of then_world (all_told old.trace) (place_at c step)) is) same-pends
    rest-moves (Note.Decided q i ask answer) is apart =
        decided-moves s setup cs old e timely known c new next e_after timely_after known_after legal (ap told_by is) rest-keeps q.node q.number i ask answer
        (is ∙ ap (λ z. Note.Decided z i ask answer) (sym (same_proc_is (proc_at q.node q.number) q (same_proc-itself q)))) same-pends (same-doing q.node q.number)
    rest-moves (Note.Began q op) is apart = absurd apart
    rest-moves (Note.Did q phase op reply) is apart = absurd apart
    rest-moves (Note.Ended t) is apart = absurd apart

  -- one process comes on
  module _ (p : ℕ) (proc : IsProc p) (others : (q : ℕ) → IsProc q → q ≢ p → proc_of step.node q ≡ proc_of m q) where
    abbrev me : ProcName
    me = proc_at c.node p

    other-doing : (n q : ℕ) → IsProc q → (n ≡ c.node → q ≡ p → ⊥) → doing_of then_world (proc_at n q) ≡ doing_of old (proc_at n q)
    other-doing = doing-other old c step p others

    pub others-doing : (q : ProcName) → IsProc q.number → same_proc me q ≡ false → doing_of then_world q ≡ doing_of old q
    others-doing q other apart = other-doing q.node q.number other (name-apart old c step p q apart)

    come-keeps : ((b : BegunOp) (k : Asked) → (proc_of m p).doing ≡ asking b k → IsSettling k.ask → (r : OpenOp) × ((proc_of step.node p).doing ≡ Some r) × (r.began ≡ b)) → KeepsOpen old then_world
    come-keeps mine q other b k doing settling = by (same_proc me q) refl
      where
        by : (z : Bool) → same_proc me q ≡ z → (r : OpenOp) × (doing_of then_world q ≡ Some r) × (r.began ≡ b)
        by false apart = (record { began = b; awaits = Await.Answer k }, others-doing q other apart ∙ doing, refl)
        by true same =
            let named : me ≡ q = same_proc_is me q same in
            let kept = mine b k (subst (λ z. doing_of old z ≡ asking b k) (sym named) doing) settling in
            (kept.0, subst (λ z. doing_of then_world z ≡ Some kept.0) named (doing-here old c step p ∙ kept.1), kept.2)

    low : 1 ≤ c.node
    low = let node = next.is.node in grind (arith, nat_tests, node)

    high : c.node ≤ s.opening.nodes
    high = let node = next.is.node in grind (arith, nat_tests, node)

    pub cut-at : (a b : Option OpenOp) → (proc_of m p).doing ≡ a → (proc_of step.node p).doing ≡ b → AreCut (pending_in me a) (pending_in me b) (pending_to old s.opening.nodes) (pending_to then_world s.opening.nodes)
    cut-at a b was is =
        subst (λ z. AreCut (pending_in me z) (pending_in me b) (pending_to old s.opening.nodes) (pending_to then_world s.opening.nodes)) was
        (subst (λ z. AreCut (pending_in me (doing_of old me)) (pending_in me z) (pending_to old s.opening.nodes) (pending_to then_world s.opening.nodes)) (doing-here old c step p ∙ is)
        (pending-cut old then_world c.node p proc other-doing s.opening.nodes low high))

    same-at : (a b : Option OpenOp) → (proc_of m p).doing ≡ a → (proc_of step.node p).doing ≡ b → pending_in me a ≡ pending_in me b → pending_to then_world s.opening.nodes ≡ pending_to old s.opening.nodes
    same-at a b was is same = let cut = cut-at a b was is in cut.second ∙ (ap (λ zs. cut.left ++ (zs ++ cut.right)) (sym same) ∙ sym cut.first)

    -- it goes on, and nothing is noted
    quiet-moves : (a b : Option OpenOp) → (proc_of m p).doing ≡ a → (proc_of step.node p).doing ≡ b → pending_in me a ≡ pending_in me b → KeepsOpen old then_world → step.note ≡ Note.Nothing → Result
    quiet-moves a b was is same keeps noted =
        nothing-stays s setup cs old e timely known c new next e_after timely_after known_after legal (ap told_by noted) keeps (ap (items_of then_world (all_told old.trace) (place_at c step)) noted) (same-at a b was is same)

    none-kept : (proc_of m p).doing ≡ None → KeepsOpen old then_world
    none-kept none = come-keeps (λ b k doing settling. absurd (let f : None ≡ asking b k = sym none ∙ doing in cc))

    part-kept : (a : Await) (o : BegunOp) → IsPart a → (proc_of m p).doing ≡ Some (record { began = o; awaits = a }) → KeepsOpen old then_world
    part-kept a o part was = come-keeps (λ b k doing settling. absurd (
        (subst IsPartDoing (sym was ∙ doing) part) settling))

    desk-moves : (d : Option OpenOp) → (proc_of m p).doing ≡ d → IsPartDoing d → (op : Op) (reply : Reply) → ((given s c.node).asks p) (proc_of m p).heard ≡ Do op → (proc_of step.node p).doing ≡ None → step.note ≡ Note.Did me (proc_of m p).phase op reply → Result
    desk-moves None was part op reply asks ended noted =
        does-moves s setup cs old e timely known c new next e_after timely_after known_after legal (ap told_by noted) (none-kept was) p proc (proc_of m p).phase op reply noted was (same-at None None was ended refl)
    desk-moves (Some r) was part op reply asks ended noted =
        finish-moves s setup cs old e timely known c new next e_after timely_after known_after legal (ap told_by noted) (part-kept r.awaits r.began part was) p proc (proc_of m p).phase op reply noted r was part same_op
        (cut-at (Some r) None was ended)
      where
        same_op : r.began.op ≡ op
        same_op = let wanted : ((given s c.node).asks p) (proc_of m p).heard ≡ Do r.began.op = subst (IsWanted (((given s c.node).asks p) (proc_of m p).heard)) was ((next.kept.nodes c.node next.is.node).followed p proc).wanted in
            let f : Do r.began.op ≡ Do op = sym wanted ∙ asks in cc

    come-moves : Progress ((given s c.node).asks p) (name_of (given s c.node) p) m.tick next.is.incoming (proc_of m p) (proc_of step.node p) step.note → Result
    come-moves (opens op a asks none doing awaits same noted) =
        begin-moves s setup cs old e timely known c new next e_after timely_after known_after legal (ap told_by noted) (none-kept none) p proc op (record { tick = m.tick; node = c.node })
        (ap (λ t. let y : Place = record { tick = t; node = c.node } in y) (step_of-tick (given s c.node) (old.nodes c.node) c.what next.is.incoming c.dropped step next.is.steps)) noted none (cut-at None _ none doing)
    come-moves (goes_on o a b part was doing awaits same noted) = quiet-moves _ _ was doing refl (part-kept a o part was) noted
    come-moves (again o k was doing last same noted) =
        quiet-moves _ _ was doing refl (come-keeps (λ b j at settling. (record { began = o; awaits = Await.Answer (noticed_call k) }, doing, ap (λ (x : OpenOp). x.began) (same_Some _ (record { began = b; awaits = Await.Answer j }) (sym was ∙ at))))) noted
    come-moves (did op reply part asks end noted) = desk-moves (proc_of m p).doing refl part op reply asks end.doing noted
    come-moves (told o k reply asks was end noted tells) =
        end-moves s setup cs old e timely known c new next e_after timely_after legal p proc o k reply was noted others-doing (cut-at (asking o k) None was end.doing)
    come-moves (pauses none asks none_now last heard phase noted) = quiet-moves None None none none_now refl (none-kept none) noted
    come-moves (is_done none asks none_now last heard noted) = quiet-moves None None none none_now refl (none-kept none) noted

  pub event-moves : Result
  event-moves = elim (proc-step s setup old c new next (heard-are s setup (setup-procs s setup) cs old e timely)) [ rests all apart ↦ rest-moves all step.note refl apart | comes p proc others progress ↦ come-moves p proc others progress ]

module _ (s : Setup) (setup : IsSetup s) (known : IsAlwaysKnown s) where
  -- ticks never fall
  timely-before : (old : World) (c : Choice) (new : World) → IsNext s old c new → IsTimely new → IsTimely old
  timely-before old c new is timely n = elim (cases_eq n c.node) [
    | inl same ↦
        (let up = step_of-tick (given s c.node) (old.nodes c.node) c.what is.incoming c.dropped is.step is.steps in
        let now = ap (λ (w : World). (w.nodes n).tick) is.world ∙ ap (λ (y : NodeState). y.tick) (put-same old.nodes c.node n is.step.node same) in
        let was = ap (λ a. (old.nodes a).tick) same in
        let most = timely n in omega (arith, up, now, was, most))
    | inr away ↦
        (let now = ap (λ (w : World). (w.nodes n).tick) is.world ∙ ap (λ (y : NodeState). y.tick) (put-other old.nodes c.node n is.step.node away) in
        let most = timely n in omega (arith, now, most))
  ]

  module _ (cs : List Choice) (c : Choice) (old new : World) (e : world_after s cs ≡ Some old) (e_new : world_after s (c ∷ cs) ≡ Some new) (timely : IsTimely new) where
    abbrev is : IsNext s old c new
    is = next-is s old c new (subst (λ o. then_next s o c ≡ Some new) e e_new)

    pub was_timely : IsTimely old
    was_timely = timely-before old c new is timely

    abbrev pub kept-next : IsKeptNext s old c new
    kept-next = record {
      is = is;
      kept = (run-keeps s setup cs old e).kept was_timely;
      calls = calls-are s (setup-procs s setup) cs old e;
      decisions = decisions-are s (setup-procs s setup) cs old e;
      once = (decisions-are s (setup-procs s setup) (c ∷ cs) new e_new).once;
      replies = replies-are s cs old e;
    }

    pub e_after : world_after s (c ∷ cs) ≡ Some (after old c kept-next.is.step)
    e_after = subst (λ w. world_after s (c ∷ cs) ≡ Some w) kept-next.is.world e_new

    pub timely_after : IsTimely (after old c kept-next.is.step)
    timely_after = subst IsTimely kept-next.is.world timely

    moved-or-same : IsLegal s.opening (history_in s old) → IsMovedOrSame s.opening (history_in s old) (history_in s new)
    moved-or-same legal =
        subst (λ w. IsMovedOrSame s.opening (history_in s old) (history_in s w)) (sym kept-next.is.world)
        (event-moves s setup cs old e was_timely (known cs old e was_timely) c new kept-next e_after timely_after (known (c ∷ cs) (after old c kept-next.is.step) e_after timely_after) legal)

  legal-then : (opening : Start) (h g : _) → IsMovedOrSame opening h g → IsLegal opening h → IsLegal opening g
  legal-then opening h g (stays same) legal = subst (IsLegal opening) (sym same) legal
  legal-then opening h g (moves move) legal = legal-moved opening h g move legal

  -- nothing is open at the start
  none-open : (xs : List Pending) → EachOf (λ o. ⊥) xs → xs ≡ []
  none-open [] each = refl
  none-open (o ∷ xs) each = absurd each.0

  first-open : pending_to (first_world s) s.opening.nodes ≡ []
  first-open = none-open (pending_to (first_world s) s.opening.nodes) (pending-each (first_world s) (λ o. ⊥)
      (λ n. by_proc (λ p. (o : OpenOp) → (proc_of (first_node (given s n)) p).doing ≡ Some o → ⊥) (λ o is. absurd (cc)) (λ o is. absurd (cc)) (λ o is. absurd (cc)) (λ o is. absurd (cc))) s.opening.nodes)

  empty-legal : IsLegal s.opening (history [] [])
  empty-legal = search rules

  legal-first : IsLegal s.opening (history_in s (first_world s))
  legal-first = subst (λ ps. IsLegal s.opening (history [] ps)) (sym first-open) empty-legal

  -- in every run
  pub legal-runs : (cs : List Choice) (w : World) → world_after s cs ≡ Some w → IsTimely w → IsLegal s.opening (history_in s w)
  legal-runs [] w e timely = subst (λ (x : World). IsLegal s.opening (history_in s x)) (same_Some (first_world s) w e) legal-first
  legal-runs (c ∷ cs) w e timely = one (world_after s cs) refl (λ old is was. legal-runs cs old is was)
    where
      one : (o : Option World) → world_after s cs ≡ o → ((old : World) → world_after s cs ≡ Some old → IsTimely old → IsLegal s.opening (history_in s old)) → IsLegal s.opening (history_in s w)
      one None is before = absurd (let f : then_next s None c ≡ Some w = subst (λ o. then_next s o c ≡ Some w) is e in cc)
      one (Some old) is before =
          let legal = before old is (was_timely cs c old w is e timely) in
          legal-then s.opening (history_in s old) (history_in s w) (moved-or-same cs c old w is e timely legal) legal

  pub event-moves-run : (cs : List Choice) (c : Choice) (old new : World) → world_after s cs ≡ Some old → world_after s (c ∷ cs) ≡ Some new → IsTimely new → IsMovedOrSame s.opening (history_in s old) (history_in s new)
  event-moves-run cs c old new e e_new timely = moved-or-same cs c old new e e_new timely (legal-runs cs old e (was_timely cs c old new e e_new timely))

  pub legal-events : (es : List Happening) (w : World) → world_of s es ≡ Some w → IsTimely w → IsLegal s.opening (history_of s es)
  legal-events es w e timely = subst (λ (o : Option World). IsLegal s.opening (history_if s o)) (sym e) (legal-runs (map choice_of es) w e timely)
