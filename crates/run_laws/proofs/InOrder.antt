-- What a home does for an operation that was left open stands behind all that it decided for the same process.
use Rattle.std.proofs.Common.{◌≡◌, ℕ, ◌<◌, true, false, List, Some, None, inl, inr, refl, sym, ap, subst, ◌∙◌, arith}
use Rattle.std.proofs.lemmas.Bool.Decides.{nat_tests}
use Rattle.std.proofs.lemmas.Option.{same_Some}
use Rattle.uid_names.proofs.Orders.{same_proc_is, same_proc-itself}
use Rattle.uid_names.specs.Names.{ObjectName, ProcName}
use Rattle.uid_names.specs.Openings.{Start}
use Rattle.uid_names.specs.declared.mode.Mode.{Mode}
use Rattle.uid_names.specs.declared.ids.Place.{Place}
use Rattle.dom_history.specs.declared.op.Op.{Op}
use Rattle.dom_history.specs.declared.op.Op.TheVariants as ops
use Rattle.dom_history.specs.declared.op.Reply.{Reply}
use Rattle.dom_history.specs.declared.op.Reply.TheVariants as replies
use Rattle.dom_history.specs.Histories.{Item, Act, SomeOf, place_lt}
use Rattle.dom_history.specs.Legal.{home_of, is_of_home, IsEarlier}
use Rattle.ring_messages.specs.Bodies.{Ask, Answer}
use Rattle.fault_handler.specs.Invariant.{IsProc}
use Rattle.node_runs.specs.Setups.{Setup, IsSetup}
use Rattle.node_runs.specs.NodeStates.{Await, OpenOp}
use Rattle.node_runs.specs.Notes.{Told, Note}
use Rattle.node_runs.specs.NodesKeep.{IsTimely}
use Rattle.node_runs.specs.Runs.{World, Noted, Choice, numbered, world_after}
use Rattle.node_runs.specs.RunHistories.{is_fault, settled_op, all_told, doing_of, items_from}
use Rattle.node_runs.specs.CallsKeep.{IsCallAt, EachOf}
use Rattle.node_runs.specs.DecidedCalls.{IsDecided}
use Rattle.node_runs.proofs.Decisions.{decisions-are}
use Rattle.node_runs.proofs.SettingUp.{setup-procs}
use Rattle.node_runs.proofs.EachOf.{EachOf-at}
use Rattle.run_laws.specs.DecidedReplies.{proc_at, IsDecisionOf}
use Rattle.run_laws.specs.LastCalls.{HasNumber}
use Rattle.run_laws.specs.Progress.{IsSettling}
use Rattle.run_laws.proofs.Slots.{settles}
use Rattle.run_laws.proofs.HearingRuns.{same-ask}
use Rattle.run_laws.proofs.Rising.{notes-rise}
use Rattle.run_laws.proofs.Placing.{ends-placed}
use Rattle.run_laws.specs.DecisionOrder.{IsDecidedBelow}
use Rattle.run_laws.proofs.ToldRising.{told-rises}
use Rattle.run_laws.specs.ToldAnswers.{IsLockRefusal, IsLocalReply, IsAtDesk, IsTold}
use Rattle.run_laws.proofs.ToldAnswers.{told-are}
use Rattle.run_laws.proofs.HomeEffects.{same-home}
use Rattle.run_laws.proofs.Alone.{alone-are}
use Rattle.run_laws.proofs.ItemViews.{IsAmong, IsItemAt, did, faulted, answered, left_open, opened, each-item, decided-last}
use Rattle.run_laws.proofs.Orders.{once-each, told-earlier, told-before-begin}
use Rattle.run_laws.proofs.Refusals.{IsRefusal, IsNoteRefusal, refusals-are}
use Rattle.run_laws.proofs.StandingMoves.{home-is, told-less}

module _ (opening : Start) where
  lock-apart : (u : ObjectName) (m : Mode) (reply : Reply) → IsLockRefusal reply → IsRefusal opening (ops.Lock u m) reply → is_of_home opening (ops.Lock u m) reply ≡ false
  lock-apart u m replies.AlreadyHeld is none = refl
  lock-apart u m replies.Unsettled is none = refl
  lock-apart u m replies.TooMany is none = refl
  lock-apart u m replies.NoObject is none = none
  lock-apart u m reply is none = absurd is

  -- what a desk answers no home decided
  desk-apart : (op : Op) (reply : Reply) (home : ℕ) → home_of op ≡ Some home → IsLocalReply op reply → IsRefusal opening op reply → is_of_home opening op reply ≡ false
  desk-apart (ops.New to kind room) reply home at is none = ap (is_of_home opening (ops.New to kind room)) is ∙ none
  desk-apart (ops.List to after) reply home at is none = ap (is_of_home opening (ops.List to after)) is ∙ none
  desk-apart (ops.Lock u m) reply home at is none = lock-apart u m reply is none
  desk-apart (ops.Unlock u) reply home at is none = ap (is_of_home opening (ops.Unlock u)) is
  desk-apart (ops.Delete u) reply home at (inl is) none = ap (is_of_home opening (ops.Delete u)) is
  desk-apart (ops.Delete u) reply home at (inr is) none = ap (is_of_home opening (ops.Delete u)) is
  desk-apart (ops.Load spot count) reply home at is none = absurd (cc)
  desk-apart (ops.Store spot bytes) reply home at is none = absurd (cc)
  desk-apart (ops.Length u) reply home at is none = absurd (cc)
  desk-apart (ops.Map u) reply home at is none = absurd (cc)
  desk-apart (ops.Unmap u) reply home at is none = absurd (cc)

  -- nor what a link fault answers
  kept-apart : (op : Op) → is_of_home opening op replies.Kept ≡ false
  kept-apart (ops.New to kind room) = refl
  kept-apart (ops.List to after) = refl
  kept-apart (ops.Lock u m) = refl
  kept-apart op = refl

  doubt-apart : (op : Op) → is_of_home opening op replies.Doubt ≡ false
  doubt-apart (ops.New to kind room) = refl
  doubt-apart (ops.List to after) = refl
  doubt-apart (ops.Lock u m) = refl
  doubt-apart op = refl

  fault-apart : (op : Op) → is_of_home opening op replies.LinkFault ≡ false
  fault-apart (ops.New to kind room) = refl
  fault-apart (ops.List to after) = refl
  fault-apart (ops.Lock u m) = refl
  fault-apart op = refl

  link-apart : (op : Op) (reply : Reply) → is_fault reply ≡ true → is_of_home opening op reply ≡ false
  link-apart op replies.Kept is = kept-apart op
  link-apart op replies.Doubt is = doubt-apart op
  link-apart op replies.LinkFault is = fault-apart op
  link-apart op reply is = absurd (cc)

some-settling : (home : ℕ) (ask : Ask) (op : Op) → settled_op home ask ≡ Some op → IsSettling ask
some-settling home ask op of = elim (settles home ask) [ inl none ↦ absurd (let f : None ≡ Some op = sym none ∙ of in cc) | inr some ↦ some.0 ]

module _ (s : Setup) (setup : IsSetup s) (cs : List Choice) (w : World) (e : world_after s cs ≡ Some w) (timely : IsTimely w) where
  abbrev so_far : List Told
  so_far = all_told w.trace

  -- a call of which a process was told is of the operation that ended
  pub told-op : (t : Told) → IsAmong t so_far → (home : ℕ) (ask : Ask) (op : Op) → IsCallAt (w.calls t.proc.node t.proc.number) t.number home ask → settled_op home ask ≡ Some op → t.op ≡ op
  told-op t among home ask op call of =
      let told : IsTold w t = EachOf-at (IsTold w) t so_far (told-are s setup cs w e timely).told among in
      let same : told.ask ≡ ask = same-ask (numbered t.number (w.calls t.proc.node t.proc.number)) told.home home told.ask ask told.call call in
      let at : told.home ≡ home = same-home (numbered t.number (w.calls t.proc.node t.proc.number)) told.home home told.ask ask told.call call in
      same_Some t.op op (sym (told.op (subst IsSettling (sym same) (some-settling home ask op of))) ∙ (ap (λ h. settled_op h told.ask) at ∙ (ap (settled_op home) same ∙ of)))

  -- what is decided of a call is that call
  decided-call : (j : Noted) → IsDecided w j.place j.note → (p : ProcName) (k : ℕ) (ask : Ask) (answer : Answer) → j.note ≡ Note.Decided p k ask answer → IsCallAt (w.calls p.node p.number) k j.place.node ask
  decided-call j decided p k ask answer note = (subst (IsDecided w j.place) note decided).1

  -- an operation that was left open, and its home
  module _ (t : Told) (among : IsAmong t so_far) (x : Place) (op : Op) (home : home_of op ≡ Some x.node) (above : EachOf (λ (j : Noted). j.place.node ≡ x.node → IsDecidedBelow t.proc t.number j.note) w.trace) (reply : Reply) where
    abbrev act : Act
    act = record { place = x; begun = t.begun; deed = record { proc = t.proc; op = op; reply = reply } }

    less : (j : Noted) → SomeOf (λ i. i ≡ j) w.trace → (p : ProcName) (k : ℕ) (ask : Ask) (answer : Answer) (other : Op) → j.note ≡ Note.Decided p k ask answer → settled_op j.place.node ask ≡ Some other → p ≡ t.proc → home_of other ≡ home_of op → k < t.number
    less j some p k ask answer other note of named same =
        let home_j = home-is s setup cs w e timely j p k ask answer other (EachOf-at (λ (j : Noted). IsDecided w j.place j.note) j w.trace (decisions-are s (setup-procs s setup) cs w e).each some) note of in
        let node : j.place.node ≡ x.node = same_Some j.place.node x.node (sym home_j ∙ (same ∙ home)) in
        (subst (IsDecidedBelow t.proc t.number) note (EachOf-at (λ (j : Noted). j.place.node ≡ x.node → IsDecidedBelow t.proc t.number j.note) j w.trace above some node)) named

    ticks-lt : (a b : Place) → a.tick < b.tick → place_lt a b ≡ true
    ticks-lt a b is = grind (arith, nat_tests, is)

    pub acts-in-order : EachOf (IsEarlier s.opening act) (items_from w so_far w.trace)
    acts-in-order = each-item s setup cs w e timely (IsEarlier s.opening act) w.trace (decisions-are s (setup-procs s setup) cs w e).each by
      where
        open-number : (p : ProcName) → IsProc p.number → t.proc ≡ p → (o : OpenOp) → doing_of w p ≡ Some o → (a : Await) → o.awaits ≡ a → (k : ℕ) → HasNumber k a → t.number < k
        open-number p proc named o doing (Await.Page u i) same k has = absurd has
        open-number p proc named o doing (Await.Answer c) same k has =
            let less_c = told-less s setup cs w e timely p.node p.number proc o.began c (doing ∙ ap (λ a. Some (let z : OpenOp = record { began = o.began; awaits = a } in z)) same) t among (named ∙ sym (same_proc_is (proc_at p.node p.number) p (same_proc-itself p))) in
            subst (λ i. t.number < i) has less_c

        by : (j : Noted) → SomeOf (λ i. i ≡ j) w.trace → (i : Item) → IsItemAt w j i → IsEarlier s.opening act i
        by j some _ (did p phase other reply note) = λ at. absurd (
            let desk : IsLocalReply other reply = subst IsAtDesk note (EachOf-at (λ (j : Noted). IsAtDesk j.note) j w.trace (told-are s setup cs w e timely).desks some) in
            let refusal : IsRefusal s.opening other reply = subst (IsNoteRefusal s.opening) note (EachOf-at (λ (j : Noted). IsNoteRefusal s.opening j.note) j w.trace (refusals-are s setup cs w e timely) some) in
            let none = desk-apart s.opening other reply x.node (at.1 ∙ home) desk refusal in
            let f : true ≡ false = sym at.2 ∙ none in cc)
        by j some _ (faulted u other note place fault found) = λ at. absurd (let f : true ≡ false = sym at.2 ∙ link-apart s.opening u.op u.reply fault in cc)
        by j some _ (answered u other ask answer note of none found) = λ at.
            let decided = EachOf-at (λ (j : Noted). IsDecided w j.place j.note) j w.trace (decisions-are s (setup-procs s setup) cs w e).each some in
            let same_op : u.op ≡ other = told-op u found j.place.node ask other (decided-call j decided u.proc u.number ask answer note) of in
            let fewer = less j some u.proc u.number ask answer other note of at.0 (ap home_of (sym same_op) ∙ at.1) in
            let alone = alone-are s setup cs w e timely in
            let below = told-before-begin u none t at.0 fewer w.trace (ends-placed s setup cs w e timely) alone.ended (notes-rise s cs w e).rising (told-rises s setup cs w e timely) among found in
            EachOf-at (λ (j : Noted). IsDecisionOf u.proc u.number j.note → place_lt j.place t.begun ≡ true) j w.trace
            (once-each u.proc u.number (λ (j : Noted). place_lt j.place t.begun ≡ true) w.trace (decisions-are s (setup-procs s setup) cs w e).once below) some (subst (IsDecisionOf u.proc u.number) (sym note) (refl, refl))
        by j some _ (left_open u other ask answer given note of change fault found) = λ at.
            ticks-lt u.begun t.begun (told-earlier t u at.0 (less j some u.proc u.number ask answer other note of at.0 at.1) so_far (told-rises s setup cs w e timely) among found)
        by j some _ (opened p k other ask answer given o note of change doing has) = λ at. absurd (
            let decided = EachOf-at (λ (j : Noted). IsDecided w j.place j.note) j w.trace (decisions-are s (setup-procs s setup) cs w e).each some in
            let proc = (decided-last s setup cs w e timely j.place p k ask answer (some-settling j.place.node ask other of) (subst (IsDecided w j.place) note decided)).0 in
            let fewer = less j some p k ask answer other note of at.0 at.1 in
            let more = open-number p proc (sym at.0) o doing o.awaits refl k has in
            omega (arith, fewer, more))
