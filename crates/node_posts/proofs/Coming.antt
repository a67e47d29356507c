-- What came stays what came, as more comes and more is done.
use Rattle.std.proofs.Common.{◌≡◌, ◌≢◌, ℕ, ◌+◌, ◌<◌, Bool, true, false, cond, List, [], ◌∷◌, ◌++◌, map, Option, Some, None, inl, inr, refl, sym, ap, subst, ◌∙◌, arith}
use Rattle.std.specs.Prelude.{◌⊎◌, ◌==◌, ◌&&◌, not, ◌||◌}
use Rattle.std.specs.List.{AllByRecursion, list_any}
use Rattle.std.proofs.lemmas.Bool.{cases_eq, eq-eqb, ne_eqb}
use Rattle.std.proofs.lemmas.Option.{same_Some}
use Rattle.uid_names.proofs.ListLemmas.{by_cases}
use Rattle.uid_names.proofs.Passed.{left-true, right-true, equal}
use Rattle.dom_history.specs.declared.event.What.{What}
use Rattle.dom_history.specs.declared.event.What.TheVariants.{Begin, Go, Take, Notice, Ready, Mark}
use Rattle.dom_history.specs.declared.plan.FateRow.{FateRow}
use Rattle.dom_history.specs.Events.{Happening}
use Rattle.ring_messages.specs.Frames.{Message}
use Rattle.fault_handler.specs.Outcomes.{Turn, Moved}
use Rattle.node_runs.specs.Setups.{Setup, Given, given}
use Rattle.node_runs.specs.NodeStates.{BegunOp, NodeState, is_marked, first_node}
use Rattle.node_runs.specs.Incomings.{Incoming}
use Rattle.node_runs.specs.Outcomes.{Stepped, Stage, turned, moved}
use Rattle.node_runs.specs.Doings.{begun_at, stage_of, ticked, in_next_phase}
use Rattle.node_runs.specs.Dones.{Did, paused, finished, began, resumed, served, passed_over, heard, ignored, resent, gave_up, got_ready, marked}
use Rattle.node_runs.specs.Steps.{step_of}
use Rattle.node_runs.specs.Runs.{World, first_world, numbered, taken, told_of}
use Rattle.node_runs.proofs.Calls.{put-same}
use Rattle.node_runs.proofs.Doing.{step_of-did}
use Rattle.world_runs.specs.Waiting as plain
use Rattle.world_runs.specs.Waiting.{entry_if, entry_by, entries_taken}
use Rattle.local_runs.specs.LocalRuns.{Own, events_in, IsLocalRun}
use Rattle.local_runs.proofs.Alone.{last-of}
use Rattle.wire_links.specs.declared.carried.Carried.{Carried}
use Rattle.local_runs.specs.Posts.{Serving, IsIn, Came, CameAsFrame, CameAsWord, CameAsMark}
use Rattle.local_runs.proofs.Members.{in-append, in-last}
use Rattle.node_posts.proofs.Noticing.{IsGrown, told-stays}

taken-stays : (k : ℕ) (xs ys : List Message) (i : Incoming) → IsGrown xs ys → taken (numbered k xs) ≡ Some i → taken (numbered k ys) ≡ Some i
taken-stays k xs ys i grown e = by-found (numbered k xs) refl e
  where
    by-found : (o : Option Message) → numbered k xs ≡ o → taken o ≡ Some i → taken (numbered k ys) ≡ Some i
    by-found None is found = absurd (cc)
    by-found (Some m) is found = ap taken (grown.stays k m is) ∙ found

-- more came out of the rings, and more was sent
pub record IsLater (n : ℕ) (p q : Serving) : Type 0 where
  pub ins : (from : ℕ) → (more : List Carried) × (q.ins from ≡ p.ins from ++ more)
  pub frames : (to : ℕ) → IsGrown (p.world.frames n to) (q.world.frames n to)

module _ (plan : List FateRow) (n : ℕ) (p q : Serving) (later : IsLater n p q) where
  still-in : (from : ℕ) (c : Carried) → IsIn c (p.ins from) → IsIn c (q.ins from)
  still-in from c is = let m = later.ins from in subst (λ (xs : List Carried). IsIn c xs) (sym m.1) (in-append c (p.ins from) m.0 is)

  pub came-later : (what : What) (i : Incoming) → Came plan n p what i → Came plan n q what i
  came-later (Begin proc) i came = came
  came-later (Go proc) i came = came
  came-later (Ready phase) i came = came
  came-later (Take from index) i (inl here) = inl (here.0, taken-stays index (p.world.frames n n) (q.world.frames n n) i (later.frames n) here.1)
  came-later (Take from index) i (inr (away, is)) = inr (away, record { frame = is.frame; bytes = is.bytes; spells = is.spells; is = is.is; came = still-in from _ is.came })
  came-later (Notice proc from to index) i (inl here) =
      inl (here.0, told-stays (record { node = n; number = proc }) index (p.world.frames n to) (q.world.frames n to) i (later.frames to) here.1, here.2)
  came-later (Notice proc from to index) i (inr (away, is)) = inr (away, record { number = is.number; tick = is.tick; here = is.here; is = is.is; came = still-in from _ is.came })
  came-later (Mark from phase) i (away, is) = (away, record { tick = is.tick; is = is.is; came = still-in from _ is.came })

  pub all-came-later : (own : List Own) → AllByRecursion (λ x. Came plan n p x.event.what x.received) own → AllByRecursion (λ x. Came plan n q x.event.what x.received) own
  all-came-later [] all = tt
  all-came-later (x ∷ own) all = (came-later x.event.what x.received all.0, all-came-later own all.1)

-- a mark that a node took is one that it took
next-marks : (b : Bool) (n : NodeState) (from phase : ℕ) → is_marked (in_next_phase b n) from phase ≡ is_marked n from phase
next-marks true n from phase = refl
next-marks false n from phase = refl

turned-marks : (g : Given) (n : NodeState) (p : ℕ) (o : BegunOp) (stage : Stage) (turn : Turn) (from phase : ℕ) → is_marked (turned g n p o stage turn).node from phase ≡ is_marked n from phase
turned-marks g n p o stage (Turn.Ends reply) from phase = refl
turned-marks g n p o stage (Turn.Asks home ask) from phase = refl
turned-marks g n p o stage (Turn.Waits u k) from phase = refl

moved-marks : (g : Given) (n : NodeState) (p : ℕ) (o : BegunOp) (stage : Stage) (m : Moved) (from phase : ℕ) → is_marked (moved g n p o stage m).node from phase ≡ is_marked n from phase
moved-marks g n p o stage m from phase = turned-marks g (record n { desk = m.desk }) p o stage m.turn from phase

abbrev IsMarkedBy : NodeState → ℕ → ℕ → What → Type 0
IsMarkedBy n from phase what = (is_marked n from phase ≡ true) ⊎ (what ≡ Mark from phase)

newest-mark : (n : NodeState) (a k from phase : ℕ) (b : Bool) → ((a == from) && (k == phase)) ≡ b → (b || is_marked n from phase) ≡ true → IsMarkedBy n from phase (Mark a k)
newest-mark n a k from phase true same is =
    inr (ap (λ (i : ℕ). Mark i k) (equal a from (left-true (a == from) (k == phase) same)) ∙ ap (λ (i : ℕ). Mark from i) (equal k phase (right-true (a == from) (k == phase) same)))
newest-mark n a k from phase false differs is = inl is

marks-by : (g : Given) (n : NodeState) (what : What) (incoming : Incoming) (s : Stepped) → Did g n what incoming s → (from phase : ℕ) → is_marked s.node from phase ≡ true → IsMarkedBy n from phase what
marks-by g n what incoming s (paused p has none is) from phase h = inl h
marks-by g n what incoming s (finished p has none is) from phase h = inl h
marks-by g n what incoming s (began p op to has none is may) from phase h = inl (sym (moved-marks g n p (begun_at g n op) Stage.Starts to from phase) ∙ h)
marks-by g n what incoming s (resumed p o u k accessed to has is come goes may) from phase h = inl (sym (moved-marks g n p o Stage.Resumes to from phase) ∙ h)
marks-by g n what incoming s (served a index m ask answer sender receiver asks is) from phase h = inl h
marks-by g n what incoming s (passed_over a index m ask sender receiver asks is) from phase h = inl h
marks-by g n what incoming s (heard a index m o c said to sender receiver asks is same fits may) from phase h = inl (sym (moved-marks g n m.proc o (stage_of m.number said) to from phase) ∙ h)
marks-by g n what incoming s (ignored a index m sender receiver asks) from phase h = inl h
marks-by g n what incoming s (resent p a to index number tick o c has is same answer) from phase h = inl h
marks-by g n what incoming s (gave_up p a to index number tick o c into has is same answer fails) from phase h = inl (sym (moved-marks g n p o (Stage.Settles c.waiting.number) into from phase) ∙ h)
marks-by g n what incoming s (got_ready k may) from phase h = inl (sym (next-marks _ (record n { ready = true }) from phase) ∙ h)
marks-by g n what incoming s (marked a k tick may) from phase h =
    newest-mark n a k from phase ((a == from) && (k == phase)) refl (sym (next-marks _ (record n { marks = (a, k) ∷ n.marks }) from phase) ∙ h)

mark-entry : (from phase n at : ℕ) (what : What) → what ≡ Mark from phase → at ≡ n → entry_by from n at what ≡ plain.Entry.Mark phase ∷ []
mark-entry from phase n at what is here =
    ap (entry_by from n at) is
    ∙ (ap (λ (b : Bool). entry_if (b && (at == n)) (plain.Entry.Mark phase)) (eq-eqb from from refl)
    ∙ ap (λ (b : Bool). entry_if b (plain.Entry.Mark phase)) (eq-eqb at n here))

pub marks-taken : (s : Setup) (n : ℕ) (own : List Own) (w : World) → IsLocalRun s n own w → (from phase : ℕ) → is_marked (w.nodes n) from phase ≡ true → IsIn (plain.Entry.Mark phase) (entries_taken from n (events_in own))
marks-taken s n [] w is from phase h =
    absurd (let e : is_marked (w.nodes n) from phase ≡ false = ap (λ (v : World). is_marked (v.nodes n) from phase) (sym (same_Some (first_world s) w is.run)) in cc)
marks-taken s n (x ∷ older) w is from phase h =
    let after = last-of s n x older w is in
    let m = x.event.place.node in
    let at : m ≡ n = is.node.0 in
    let now : w.nodes n ≡ after.next.step.node = ap (λ (v : World). v.nodes n) after.next.world ∙ put-same after.before.nodes m n after.next.step.node (sym at) in
    let did = step_of-did (given s m) (after.before.nodes m) x.event.what x.received x.event.effects.dropped after.next.step after.next.steps in
    let by = marks-by (given s m) (ticked (after.before.nodes m) x.received) x.event.what x.received after.next.step did from phase (ap (λ (y : NodeState). is_marked y from phase) (sym now) ∙ h) in
    by-event (after.before.nodes m) by (subst (λ (k : ℕ). is_marked (after.before.nodes k) from phase ≡ true → IsIn (plain.Entry.Mark phase) (entries_taken from n (events_in older))) (sym at) (marks-taken s n older after.before after.run from phase)) at
  where
    by-event : (y : NodeState) → (is_marked y from phase ≡ true) ⊎ (x.event.what ≡ Mark from phase) → (is_marked y from phase ≡ true → IsIn (plain.Entry.Mark phase) (entries_taken from n (events_in older)))
        → x.event.place.node ≡ n → IsIn (plain.Entry.Mark phase) (entries_taken from n (events_in (x ∷ older)))
    by-event y (inl was) before at = in-append (plain.Entry.Mark phase) (entries_taken from n (events_in older)) (entry_by from n x.event.place.node x.event.what) (before was)
    by-event y (inr is) before at =
        subst (λ (es : List plain.Entry). IsIn (plain.Entry.Mark phase) (entries_taken from n (events_in older) ++ es)) (sym (mark-entry from phase n x.event.place.node x.event.what is at))
        (in-last (plain.Entry.Mark phase) (entries_taken from n (events_in older)))
