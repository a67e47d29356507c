-- Each mark that was sent was taken by each other node, or waits on the link to it.
use Rattle.std.proofs.Common.{◌≡◌, ℕ, ◌+◌, Bool, true, false, cond, List, ◌∷◌, map, Option, Some, None, inl, inr, refl, sym, ap, subst, ◌∙◌, arith}
use Rattle.std.specs.Prelude.{◌==◌, ◌&&◌, ◌||◌, not, is_none}
use Rattle.std.proofs.lemmas.Bool.{cases_eq, eq-eqb, ne_eqb}
use Rattle.uid_names.proofs.Passed.{right-true, equal}
use Rattle.dom_history.specs.declared.event.What.{What}
use Rattle.dom_history.specs.declared.event.What.TheVariants.{Begin, Go, Take, Notice, Ready, Mark}
use Rattle.dom_history.specs.declared.plan.FateRow.{FateRow}
use Rattle.dom_history.specs.Events.{Happening}
use Rattle.node_runs.specs.Setups.{Setup, IsSetup, given}
use Rattle.node_runs.specs.NodeStates.{NodeState, is_marked, is_ended}
use Rattle.node_runs.specs.Incomings.{may_happen}
use Rattle.node_runs.specs.Doings.{ticked}
use Rattle.node_runs.specs.Dones.{Did}
use Rattle.node_runs.specs.NodesKeep.{IsTimely}
use Rattle.node_runs.specs.Runs.{World, SentMark, choice_of, first_world, mark_of}
use Rattle.node_runs.proofs.Calls.{put-same, put-other}
use Rattle.node_runs.proofs.Doing.{step_of-did}
use Rattle.world_runs.specs.Sendings.{mark_to, sent_by, sendings}
use Rattle.world_runs.specs.Waiting.{entry_by, entries_taken}
use Rattle.world_runs.specs.Turns.{after_turns}
use Rattle.world_runs.proofs.Alike.{marked_by, marks-marked}
use Rattle.world_runs.proofs.Marking.{HasSent, IsMarking, AreMarked, marks-are, step-marking}
use Rattle.world_runs.specs.ByPlace.{by_place}
use Rattle.world_runs.proofs.Merging.{Merged}
use Rattle.world_runs.proofs.Inserting.{event_at}
use Rattle.world_runs.proofs.Turning.{act_place, node-after}
use Rattle.world_runs.proofs.TimelyTurns.{IsTimelyTurn, every-timely}
use Rattle.world_runs.proofs.MarkCounts.{marks_of, marks_sent, marks-append, sent-append, by-event, one-mark, one-entry, no-entry}
use Rattle.run_laws.proofs.MarkSteps.{MarksNow, IsUnderWay, did-marks, did-under_way}

-- whether the mark was sent on the link
abbrev pub was_sent : ℕ → ℕ → Option SentMark → ℕ
was_sent from to o = cond (from == to) 0 (cond (is_none o) 0 1)

pub record AreLinkMarks (s : Setup) (w : World) : Type 0 where
  pub sent : (from to k : ℕ) → marks_sent k (sendings from to w.done) ≡ was_sent from to (mark_of w from k)
  pub taken : (from to k : ℕ) → marks_of k (entries_taken from to w.done) ≡ cond (is_marked (w.nodes to) from k) 1 0
  pub under_way : (n : ℕ) → IsUnderWay (given s n) (w.nodes n)

cond-zero : (b : Bool) → ◌≡◌ {A = ℕ} (cond b 0 0) 0
cond-zero true = refl
cond-zero false = refl

-- one more where it is the event's
sent-one : (self own new : Bool) (o : Option SentMark) (m : SentMark) (x y : ℕ) → x ≡ cond own (cond (not self) (cond new 1 0) 0) 0 → y ≡ cond self 0 (cond (is_none o) 0 1)
    → (own ≡ true → new ≡ true → o ≡ None) → x + y ≡ cond self 0 (cond (is_none (cond (own && new) (Some m) o)) 0 1)
sent-one true true new o m x y e f first = omega (arith, e, f)
sent-one true false new o m x y e f first = omega (arith, e, f)
sent-one false true true o m x y e f first = let z : y ≡ 0 = f ∙ ap (λ (a : Option SentMark). cond (is_none a) 0 1) (first refl refl) in omega (arith, e, z)
sent-one false true false o m x y e f first = omega (arith, e, f)
sent-one false false new o m x y e f first = omega (arith, e, f)

none-by : (o : Option SentMark) → ((m : SentMark) → o ≡ Some m → ⊥) → o ≡ None
none-by None never = refl
none-by (Some m) never = absurd (never m refl)

-- a mark more that is taken
taken-one : (here new old : Bool) (x y : ℕ) → x ≡ cond old 1 0 → y ≡ cond here (cond new 1 0) 0 → (here ≡ true → new ≡ true → old ≡ false) → x + y ≡ cond ((here && new) || old) 1 0
taken-one true true old x y e f first = let z : x ≡ 0 = e ∙ ap (λ b. cond b 1 0) (first refl refl) in omega (arith, f, z)
taken-one true false old x y e f first = omega (arith, e, f)
taken-one false new old x y e f first = omega (arith, e, f)

marked-of : (s : Setup) (w : World) → Merged s w → AreMarked w
marked-of s w merged =
    let are = marks-are s (map choice_of (by_place w.done)) merged.world merged.run in
    record { sent = λ from phase m found. subst (λ (n : NodeState). HasSent n phase) (sym (merged.like.nodes from)) (are.sent from phase m (sym (merged.like.marks from phase) ∙ found)) }

module _ (s : Setup) (setup : IsSetup s) (plan : List FateRow) where
  first-marks : AreLinkMarks s (first_world s)
  first-marks = record { sent = λ from to k. sym (cond-zero (from == to)); taken = λ from to k. refl; under_way = λ n. (omega arith, refl) }

  module _ (old new : World) (turn : IsTimelyTurn s plan old new) (before : AreLinkMarks s old) where
    abbrev a : ℕ
    a = turn.is.act.node

    abbrev it : Happening
    it = event_at a turn.is.act.what turn.is.step

    abbrev node : NodeState
    node = ticked (old.nodes a) turn.is.incoming

    did : Did (given s a) node turn.is.act.what turn.is.incoming turn.is.step
    did = step_of-did (given s a) (old.nodes a) turn.is.act.what turn.is.incoming turn.is.step.effects.dropped turn.is.step turn.steps

    may : may_happen (given s a) node turn.is.act.what turn.is.incoming ≡ true
    may = right-true (not (is_ended (given s a) (old.nodes a))) (may_happen (given s a) (old.nodes a) turn.is.act.what turn.is.incoming) turn.is.may

    done-after : new.done ≡ it ∷ old.done
    done-after = ap (λ (w : World). w.done) turn.is.world

    mark-after : (from k : ℕ) → mark_of new from k ≡ marked_by a turn.is.step.node.tick turn.is.act.what from k (mark_of old from k)
    mark-after from k = ap (λ (w : World). mark_of w from k) turn.is.world ∙ marks-marked old (act_place turn.is.act turn.is.step) turn.is.act.what turn.is.step from k

    marked : AreMarked old
    marked = marked-of s old turn.merged

    -- what was sent
    quiet-sent : (from to k x y : ℕ) (o : Option SentMark) → x ≡ cond (a == from) 0 0 → y ≡ was_sent from to o → x + y ≡ was_sent from to o
    quiet-sent from to k x y o e f = let z = e ∙ cond-zero (a == from) in omega (arith, z, f)

    by-what : (what : What) → IsMarking (old.nodes a) what turn.is.step → (from to k x y : ℕ) → x ≡ cond (a == from) (marks_sent k (mark_to from to what)) 0 → y ≡ was_sent from to (mark_of old from k)
        → x + y ≡ was_sent from to (marked_by a turn.is.step.node.tick what from k (mark_of old from k))
    by-what (Begin p) how from to k x y e f = quiet-sent from to k x y (mark_of old from k) e f
    by-what (Go p) how from to k x y e f = quiet-sent from to k x y (mark_of old from k) e f
    by-what (Take b i) how from to k x y e f = quiet-sent from to k x y (mark_of old from k) e f
    by-what (Notice p b c i) how from to k x y e f = quiet-sent from to k x y (mark_of old from k) e f
    by-what (Mark b i) how from to k x y e f = quiet-sent from to k x y (mark_of old from k) e f
    by-what (Ready phase) how from to k x y e f =
        sent-one (from == to) (a == from) (phase == k) (mark_of old from k) (record { node = a; phase = phase; tick = turn.is.step.node.tick }) x y
        (e ∙ ap (λ i. cond (a == from) i 0) (one-mark k phase (not (from == to)))) f
        (λ own it. none-by (mark_of old from k) (λ m found.
        how.1 (subst (λ b. HasSent (old.nodes b) phase) (sym (equal a from own)) (subst (HasSent (old.nodes from)) (sym (equal phase k it)) (marked.sent from k m found)))))

    sent-after : (from to k : ℕ) → marks_sent k (sendings from to new.done) ≡ was_sent from to (mark_of new from k)
    sent-after from to k =
        ap (λ (es : List Happening). marks_sent k (sendings from to es)) done-after ∙ sent-append k (sent_by from to it) (sendings from to old.done)
        ∙ by-what turn.is.act.what (step-marking (given s a) (old.nodes a) turn.is.act.what turn.is.incoming turn.is.step.effects.dropped turn.is.step turn.steps) from to k
        (marks_sent k (sent_by from to it)) (marks_sent k (sendings from to old.done)) (by-event k (a == from) from to it) (before.sent from to k)
        ∙ ap (was_sent from to) (sym (mark-after from k))

    -- what was taken
    quiet-taken : (to from k x : ℕ) (m : NodeState) → m.marks ≡ (old.nodes to).marks → x ≡ cond (is_marked (old.nodes to) from k) 1 0 → x + 0 ≡ cond (is_marked m from k) 1 0
    quiet-taken to from k x m same e =
        let f : is_marked m from k ≡ is_marked (old.nodes to) from k = ap (λ ms. is_marked (record m { marks = ms }) from k) same in
        let h : x ≡ cond (is_marked m from k) 1 0 = e ∙ ap (λ b. cond b 1 0) (sym f) in omega (arith, h)

    by-taken : (what : What) (m : NodeState) → MarksNow (old.nodes a) what m → (from k x : ℕ) → x ≡ cond (is_marked (old.nodes a) from k) 1 0
        → x + marks_of k (entry_by from a a what) ≡ cond (is_marked m from k) 1 0
    by-taken (Begin p) m now from k x e = quiet-taken a from k x m now e
    by-taken (Go p) m now from k x e = quiet-taken a from k x m now e
    by-taken (Notice p b c i) m now from k x e = quiet-taken a from k x m now e
    by-taken (Ready phase) m now from k x e = quiet-taken a from k x m now e
    by-taken (Take b i) m now from k x e = let z = no-entry k i ((b == from) && (a == a)) in let f = quiet-taken a from k x m now e in omega (arith, z, f)
    by-taken (Mark b phase) m now from k x e =
        let own : (a == a) ≡ true = eq-eqb a a refl in
        let f : marks_of k (entry_by from a a (Mark b phase)) ≡ cond (b == from) (cond (phase == k) 1 0) 0 =
        one-entry k phase ((b == from) && (a == a)) ∙ ap (λ h. cond ((b == from) && h) (cond (phase == k) 1 0) 0) own ∙ and-true (b == from) (cond (phase == k) 1 0) in
        taken-one (b == from) (phase == k) (is_marked (old.nodes a) from k) x (marks_of k (entry_by from a a (Mark b phase))) e f
        (λ here it. subst (λ i. is_marked (old.nodes a) i k ≡ false) (equal b from here) (subst (λ i. is_marked (old.nodes a) b i ≡ false) (equal phase k it) now.1))
        ∙ ap (λ h. cond h 1 0) (sym (ap (λ ms. is_marked (record m { marks = ms }) from k) now.0))
      where
        and-true : (h : Bool) (i : ℕ) → cond (h && true) i 0 ≡ cond h i 0
        and-true true i = refl
        and-true false i = refl

    away : (h : Bool) (c : Bool) (i : ℕ) → c ≡ false → cond (h && c) i 0 ≡ 0
    away true c i e = ap (λ b. cond b i 0) e
    away false c i e = refl

    elsewhere : (what : What) (from to k : ℕ) → (a == to) ≡ false → marks_of k (entry_by from to a what) ≡ 0
    elsewhere (Begin p) from to k e = refl
    elsewhere (Go p) from to k e = refl
    elsewhere (Notice p b c i) from to k e = refl
    elsewhere (Ready phase) from to k e = refl
    elsewhere (Take b i) from to k e = no-entry k i ((b == from) && (a == to))
    elsewhere (Mark b phase) from to k e = one-entry k phase ((b == from) && (a == to)) ∙ away (b == from) (a == to) (cond (phase == k) 1 0) e

    now-marks : (what : What) → MarksNow node what turn.is.step.node → MarksNow (old.nodes a) what turn.is.step.node
    now-marks (Begin p) is = is
    now-marks (Go p) is = is
    now-marks (Take b i) is = is
    now-marks (Notice p b c i) is = is
    now-marks (Ready phase) is = is
    now-marks (Mark b phase) is = is

    taken-after : (from to k : ℕ) → marks_of k (entries_taken from to new.done) ≡ cond (is_marked (new.nodes to) from k) 1 0
    taken-after from to k =
        ap (λ (es : List Happening). marks_of k (entries_taken from to es)) done-after ∙ marks-append k (entries_taken from to old.done) (entry_by from to a turn.is.act.what)
        ∙ elim (cases_eq to a) [
          | inl here ↦ at-node to here
          | inr beside ↦
              (let z = elsewhere turn.is.act.what from to k (ne_eqb a to (λ e. beside (sym e))) in
              let f = before.taken from to k in
              let h = ap {B = ℕ} (λ (m : NodeState). cond (is_marked m from k) 1 0) (node-after s plan old new turn.is to ∙ put-other old.nodes a to turn.is.step.node beside) in
              omega (arith, z, f, h))
        ]
      where
        at-node : (b : ℕ) → b ≡ a → marks_of k (entries_taken from b old.done) + marks_of k (entry_by from b a turn.is.act.what) ≡ cond (is_marked (new.nodes b) from k) 1 0
        at-node b here =
            subst (λ i. marks_of k (entries_taken from i old.done) + marks_of k (entry_by from i a turn.is.act.what) ≡ cond (is_marked (new.nodes i) from k) 1 0) (sym here)
            (by-taken turn.is.act.what turn.is.step.node (now-marks turn.is.act.what (did-marks (given s a) node turn.is.act.what turn.is.incoming turn.is.step did)) from k
            (marks_of k (entries_taken from a old.done)) (before.taken from a k)
            ∙ ap {B = ℕ} (λ (m : NodeState). cond (is_marked m from k) 1 0) (sym (node-after s plan old new turn.is a ∙ put-same old.nodes a a turn.is.step.node refl)))

    under_way-after : (n : ℕ) → IsUnderWay (given s n) (new.nodes n)
    under_way-after n = elim (cases_eq n a) [
      | inl here ↦
          subst (λ i. IsUnderWay (given s i) (new.nodes i)) (sym here)
          (subst (IsUnderWay (given s a)) (sym (node-after s plan old new turn.is a ∙ put-same old.nodes a a turn.is.step.node refl))
          (did-under_way (given s a) node turn.is.act.what turn.is.incoming turn.is.step may did (before.under_way a)))
      | inr beside ↦ subst (IsUnderWay (given s n)) (sym (node-after s plan old new turn.is n ∙ put-other old.nodes a n turn.is.step.node beside)) (before.under_way n)
    ]

    later-marks : AreLinkMarks s new
    later-marks = record { sent = sent-after; taken = taken-after; under_way = under_way-after }

  pub turns-link-marks : (cs : List ℕ) (w : World) → after_turns s plan cs ≡ Some w → IsTimely w → AreLinkMarks s w
  turns-link-marks = every-timely s setup plan (AreLinkMarks s) first-marks later-marks
