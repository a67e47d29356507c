-- The number that all three loaded last is the sum of their rounds.
use Rattle.std.proofs.Common.{◌≡◌, ◌≢◌, ℕ, ◌-◌, ◌*◌, ◌<◌, ◌≤◌, ◌==◌, Bool, true, false, Option, Some, None, List, [], ◌∷◌, refl, sym, ◌∙◌, ap, subst, inl, inr, arith}
use Rattle.std.specs.Prelude.{◌⊎◌, ◌&&◌, ◌^◌, slice_index_or}
use Rattle.std.proofs.lemmas.Bool.Decides.{nat_tests}
use Rattle.std.proofs.lemmas.Option.{same_Some}
use Rattle.uid_names.specs.Names.{ProcName, same_proc}
use Rattle.dom_history.specs.declared.op.Entry.{Entry}
use Rattle.dom_history.specs.declared.op.Want.TheVariants.{Done}
use Rattle.dom_history.specs.declared.plan.FateRow.{FateRow}
use Rattle.dom_history.specs.Events.{Happening}
use Rattle.dom_history.specs.Follows.{Heard, Reaches, IsEnded, IsPhased, entries_of}
use Rattle.dom_history.specs.Histories.{History, entries}
use Rattle.dom_history.specs.Legal.{IsLegal, AreLegal}
use Rattle.dom_history.specs.Objects.{is_node}
use Rattle.node_core.specs.Programs.{program_by}
use Rattle.node_runs.specs.NodeStates.{proc_of}
use Rattle.node_runs.specs.NodesKeep.{IsTimely}
use Rattle.node_runs.specs.Runs.{World}
use Rattle.node_runs.specs.RunHistories.{history_of, history_in, history_if}
use Rattle.node_runs.specs.Setups.{Setup, IsSetup}
use Rattle.run_laws.specs.EveryRun.{IsRightAt}
use Rattle.run_laws.specs.Paced.{IsPacedTo, ArePaced, is_driven}
use Rattle.world_runs.specs.EndedRuns.{IsEndedRun}
use Rattle.count_up.specs.declared.counter.Counter.{Counter}
use Rattle.count_up.specs.declared.counter.Step.{Step}
use Rattle.count_up.specs.declared.counter.Step.TheVariants.{Waits, Locks, Loads, Stores, Unlocks, Ends, Fails}
use Rattle.count_up.specs.Counters.{first_counter, seen_at, seen_by}
use Rattle.count_up.specs.Counting.{made_if, made_counter, asks_of, counting}
use Rattle.count_up.specs.Starting.{object, start}
use Rattle.count_up.specs.Sums.{CountsTo}
use Rattle.count_up.proofs.Named.{idle, of_three}
use Rattle.count_up.proofs.Plain.{plain_answered}
use Rattle.count_up.proofs.Setting.{by_three, counting_is}
use Rattle.count_up.proofs.Sides.{Who, One, Two, Three, name_of}
use Rattle.count_up.proofs.Steps.{asks, heard_by, settle_at, phase_at, is_waiting, is_asked, IsAsked}
use Rattle.count_up.proofs.Summing.{counter_by, AreTheirs, AreKnown, all_plain, all_sides}

-- a process has a counter, or none
made_is : (b : Bool) (rounds p : ℕ) → (made_if b rounds p ≡ None) ⊎ (made_if b rounds p ≡ Some (first_counter object rounds))
made_is false rounds p = inl refl
made_is true rounds p = by_number (1 == p)
  where
    by_number : (b : Bool) → (program_by b (first_counter object rounds) None ≡ None) ⊎ (program_by b (first_counter object rounds) None ≡ Some (first_counter object rounds))
    by_number true = inr refl
    by_number false = inl refl

paced_none : IsPacedTo (asks_of None) 2
paced_none es heard phase reaches asks_is = absurd (cc asks_is)

paced_some : (rounds : ℕ) → rounds ≢ 0 → IsPacedTo (asks_of (Some (first_counter object rounds))) 2
paced_some rounds some es heard phase reaches asks_is =
    let is = is_asked rounds some es heard phase reaches in
    let c = heard_by rounds heard in
    let waits : c.step ≡ Waits = is_waiting c.step c asks_is in
    let one : phase ≡ 1 = is.phase_is ∙ ap (λ s. phase_at s c.left) waits in
    omega (arith, one)

paced_to : (rounds : ℕ) → rounds ≢ 0 → (o : Option Counter) → (o ≡ None) ⊎ (o ≡ Some (first_counter object rounds)) → IsPacedTo (asks_of o) 2
paced_to rounds some o (inl is) = subst (λ x. IsPacedTo (asks_of x) 2) (sym is) paced_none
paced_to rounds some o (inr is) = subst (λ x. IsPacedTo (asks_of x) 2) (sym is) (paced_some rounds some)

-- each node has one program
one_each : (rounds n : ℕ) → 1 ≤ n → n ≤ 3 → slice_index_or (counting rounds).programs (n - 1) [] ≡ 1 ∷ []
one_each rounds = by_three (λ n. slice_index_or (counting rounds).programs (n - 1) [] ≡ 1 ∷ []) refl refl refl

absent : (rounds : ℕ) (p : ProcName) → is_driven (counting rounds) p ≡ false → asks_of (made_counter rounds p.node p.number) [] ≡ Done
absent rounds p out = by_node (is_node start p.node) refl
  where
    by_number : (b : Bool) → 1 == p.number ≡ b → is_node start p.node ≡ true → asks_of (program_by b (first_counter object rounds) None) [] ≡ Done
    by_number false is node = refl
    by_number true is node =
        let low : 1 ≤ p.node = grind (arith, nat_tests, node) in
        let high : p.node ≤ 3 = grind (arith, nat_tests, node) in
        let there = rw (node, one_each rounds p.node low high, is) at out in
        absurd (cc there)

    by_node : (b : Bool) → is_node start p.node ≡ b → asks_of (made_if b rounds p.number) [] ≡ Done
    by_node false is = refl
    by_node true is = by_number (1 == p.number) refl is

pub paced : (rounds : ℕ) → rounds ≢ 0 → ArePaced (counting rounds)
paced rounds some = record {
  phases = λ p. paced_to rounds some (made_counter rounds p.node p.number) (made_is (is_node start p.node) rounds p.number);
  absent = absent rounds;
}

-- no process of this number at this node is one of the three
abbrev IsOut : ℕ → ℕ → Type 0
IsOut q n = ((n == 1) && (q == 1)) ≡ false → ((n == 2) && (q == 1)) ≡ false → ((n == 3) && (q == 1)) ≡ false → q == 1 ≡ false

-- who is none of the three has no counter
no_counter : (rounds : ℕ) (p : ProcName) → ((v : Who) → same_proc p (name_of v) ≡ false) → made_counter rounds p.node p.number ≡ None
no_counter rounds p out = by_node (is_node start p.node) refl
  where
    by_number : (b : Bool) → 1 == p.number ≡ b → is_node start p.node ≡ true → program_by b (first_counter object rounds) None ≡ None
    by_number false is node = refl
    by_number true is node =
        let low : 1 ≤ p.node = grind (arith, nat_tests, node) in
        let high : p.node ≤ 3 = grind (arith, nat_tests, node) in
        let not_one : p.number == 1 ≡ false = by_three (IsOut p.number) (λ a b c. a) (λ a b c. b) (λ a b c. c) p.node low high (out One) (out Two) (out Three) in
        let one : p.number == 1 ≡ true = grind (arith, nat_tests, is) in
        absurd (cc (not_one, one))

    by_node : (b : Bool) → is_node start p.node ≡ b → made_if b rounds p.number ≡ None
    by_node false is = refl
    by_node true is = by_number (1 == p.number) refl is

-- who has loaded last has come to its end
seen_ends : (step : Step) (c : Counter) (sum : ℕ) → seen_at step c ≡ Some sum → (step ≡ Ends) × (c.number ≡ sum)
seen_ends Waits c sum is = absurd (cc is)
seen_ends Locks c sum is = absurd (cc is)
seen_ends Loads c sum is = absurd (cc is)
seen_ends Stores c sum is = absurd (cc is)
seen_ends Unlocks c sum is = absurd (cc is)
seen_ends Ends c sum is = (refl, cc is)
seen_ends Fails c sum is = absurd (cc is)

settled : (step : Step) (c : Counter) → step ≡ Ends → settle_at step c ≡ c
settled step c is = rw is refl

-- what is known of a history in which all three came to their end
record IsOver (rounds sum : ℕ) (h : History) : Type 0 where
  pub legal : IsLegal start h
  pub phased : IsPhased (entries h.items)
  pub closed : h.open_ops ≡ []
  pub others : (p : ProcName) → ((v : Who) → same_proc p (name_of v) ≡ false) → entries_of p (entries h.items) ≡ []
  pub heard : Who → Heard
  pub phase : Who → ℕ
  pub reaches : (w : Who) → Reaches (asks rounds) (entries_of (name_of w) (entries h.items)) (heard w) (phase w)
  pub seen : (w : Who) → seen_by (heard_by rounds (heard w)) ≡ Some sum

module _ (rounds sum : ℕ) (some : rounds ≢ 0) (few : 3 * rounds < 2 ^ 64) (h : History) (over : IsOver rounds sum h) where
  es : List Entry
  es = entries h.items

  asked_of : (w : Who) → IsAsked rounds (entries_of (name_of w) (entries h.items)) (over.heard w) (over.phase w)
  asked_of w = is_asked rounds some (entries_of (name_of w) (entries h.items)) (over.heard w) (over.phase w) (over.reaches w)

  at_end : (w : Who) → (heard_by rounds (over.heard w)).step ≡ Ends
  at_end w = let c = heard_by rounds (over.heard w) in (seen_ends c.step c sum (over.seen w)).0

  same : (w : Who) → heard_by rounds (over.heard w) ≡ counter_by rounds (entries h.items) w
  same w = let c = heard_by rounds (over.heard w) in sym (settled c.step c (at_end w)) ∙ (asked_of w).counter

  theirs : AreTheirs rounds (entries h.items)
  theirs = record {
    of_them = of_three (entries h.items) over.others;
    did = λ w. (asked_of w).did;
    fine = λ w fails. absurd (ends_or_fails (sym (at_end w) ∙ (ap (λ (c : Counter). c.step) (same w) ∙ fails)));
  }
    where
      ends_or_fails : Ends ≡ Fails → ⊥
      ends_or_fails is = absurd (cc is)

  known : AreKnown rounds (entries h.items)
  known = record {
    theirs = theirs;
    answered = plain_answered start h.items (subst (λ os. AreLegal start os h.items) over.closed over.legal.legal) (all_plain rounds (entries h.items) theirs);
    phased = over.phased;
    late = inl (λ w. ap (λ (c : Counter). c.left) (sym (same w)) ∙ (asked_of w).ends (at_end w));
  }

  sum_is : sum ≡ 3 * rounds
  sum_is =
      let all = all_sides rounds few (entries h.items) known in
      let c = heard_by rounds (over.heard One) in
      let number : c.number ≡ sum = (seen_ends c.step c sum (over.seen One)).1 in
      let here : (counter_by rounds (entries h.items) One).step ≡ Ends = ap (λ (d : Counter). d.step) (sym (same One)) ∙ at_end One in
      sym number ∙ (ap (λ (d : Counter). d.number) (same One) ∙ (all.1.each One).looked (rw here refl))

-- an ended run has an ended history
abbrev pub EndHistories : Type 0
EndHistories =
    (s : Setup) (plan : List FateRow) → IsSetup s → ArePaced s → (es : List Happening) (w : World) → IsEndedRun s plan es w → IsTimely w → IsEnded s.asks (history_of s es)

-- three processes that count come to three times their rounds
pub counts_up : EndHistories → (rounds sum : ℕ) → rounds ≢ 0 → 3 * rounds < 2 ^ 64 → CountsTo rounds sum → sum ≡ 3 * rounds
counts_up law rounds sum some few counts =
    let s = counting rounds in
    let w = counts.world in
    let ended = law s [] (counting_is rounds) (paced rounds some) counts.events w counts.run counts.timely in
    let at = counts.right.each [] counts.events refl in
    let world : at.0 ≡ w = same_Some at.0 w (sym at.1 ∙ counts.run.leads) in
    let right : IsRightAt s counts.events w = subst (IsRightAt s counts.events) world at.2 in
    let history : history_of s counts.events ≡ history_in s w = ap (history_if s) counts.run.leads in
    let end : IsEnded s.asks (history_in s w) = subst (IsEnded s.asks) history ended in
    sum_is rounds sum some few (history_in s w) (record {
      legal = subst (IsLegal start) history right.legal;
      phased = subst (λ (h : History). IsPhased (entries h.items)) history right.phased;
      closed = end.nothing_open;
      others = λ p out.
          idle (s.asks p) (λ heard. ap (λ o. asks_of o heard) (no_counter rounds p out)) (entries_of p (entries (history_in s w).items)) (end.all_done p).heard (end.all_done p).phase (end.all_done p).reaches;
      heard = heard_at w;
      phase = phase_of_three right;
      reaches = reaches_of_three right;
      seen = seen_of_three;
    })
  where
    heard_at : World → Who → Heard
    heard_at w v = (proc_of (w.nodes (name_of v).node) 1).heard

    phase_of_three : IsRightAt (counting rounds) counts.events counts.world → Who → ℕ
    phase_of_three right One = (right.asked 1 1 (omega arith, omega arith)).0
    phase_of_three right Two = (right.asked 2 1 (omega arith, omega arith)).0
    phase_of_three right Three = (right.asked 3 1 (omega arith, omega arith)).0

    reaches_of_three : (right : IsRightAt (counting rounds) counts.events counts.world) (v : Who)
        → Reaches (asks rounds) (entries_of (name_of v) (entries (history_in (counting rounds) counts.world).items)) (heard_at counts.world v) (phase_of_three right v)
    reaches_of_three right One = (right.asked 1 1 (omega arith, omega arith)).1
    reaches_of_three right Two = (right.asked 2 1 (omega arith, omega arith)).1
    reaches_of_three right Three = (right.asked 3 1 (omega arith, omega arith)).1

    seen_of_three : (v : Who) → seen_by (heard_by rounds (heard_at counts.world v)) ≡ Some sum
    seen_of_three One = counts.seen 1 (omega arith, omega arith)
    seen_of_three Two = counts.seen 2 (omega arith, omega arith)
    seen_of_three Three = counts.seen 3 (omega arith, omega arith)
