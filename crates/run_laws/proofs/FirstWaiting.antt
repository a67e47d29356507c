-- What waits first on a link is enabled.
use Rattle.std.proofs.Common.{◌≡◌, ℕ, zero, suc, ◌+◌, ◌≤◌, Bool, true, false, cond, List, [], ◌∷◌, ◌++◌, map, length, Option, Some, None, IfSome, refl, sym, ap, subst, ◌∙◌, arith}
use Rattle.std.specs.Prelude.{◌==◌, ◌&&◌, not, is_none, flat_map}
use Rattle.std.proofs.lemmas.Bool.{eq-eqb, and_from}
use Rattle.std.proofs.lemmas.Bool.Decides.{nat_tests}
use Rattle.uid_names.proofs.ListLemmas.{by_cases}
use Rattle.dom_history.specs.declared.event.What.{What}
use Rattle.dom_history.specs.declared.event.What.TheVariants.{Take, Mark}
use Rattle.dom_history.specs.declared.plan.Fate.{Fate}
use Rattle.dom_history.specs.declared.plan.Fate.TheVariants.{Pass, Lose, Twice, Late}
use Rattle.dom_history.specs.declared.plan.FateRow.{FateRow}
use Rattle.dom_history.specs.Plans.{fate_of}
use Rattle.ring_messages.specs.Frames.{Message}
use Rattle.node_runs.specs.Setups.{Setup, IsSetup, given}
use Rattle.node_runs.specs.NodeStates.{is_marked, is_ended}
use Rattle.node_runs.specs.Incomings.{Incoming, may_happen}
use Rattle.node_runs.specs.Deliveries.{in_place, falls_behind, copy_if, copies}
use Rattle.node_runs.specs.Doings.{node_numbers}
use Rattle.node_runs.specs.NodesKeep.{IsTimely}
use Rattle.node_runs.specs.Runs.{World, SentMark, choice_of, numbered, taken, marked, mark_of, incoming_of}
use Rattle.node_runs.specs.CallsKeep.{IsOnLink, EachOf}
use Rattle.node_runs.proofs.Calls.{calls-are}
use Rattle.node_runs.proofs.Receiving.{EachOf-more, numbered-each}
use Rattle.node_runs.proofs.SettingUp.{setup-procs}
use Rattle.node_runs.proofs.EachOf.{EachOf-behind}
use Rattle.node_runs.proofs.Running.{run-keeps}
use Rattle.run_laws.proofs.Following.{EachOf-append}
use Rattle.world_runs.specs.ByPlace.{by_place}
use Rattle.world_runs.specs.Sendings.{Sending, sendings, frames_in, frames_on}
use Rattle.world_runs.specs.Waiting.{Entry, due, entries, entries_taken, waiting}
use Rattle.world_runs.specs.Turns.{oldest, takes_at, is_enabled_by, is_enabled, after_turns}
use Rattle.world_runs.proofs.Merging.{Merged, turns-merge}
use Rattle.world_runs.proofs.Planning.{AreDelivered, turns-deliver}
use Rattle.world_runs.proofs.MarkCounts.{marks_of, marks-append, entries-sent}
use Rattle.run_laws.proofs.LinkMarks.{was_sent, AreLinkMarks, turns-link-marks}

-- a copy is of one of so many frames
abbrev IsOfSent : ℕ → ℕ → Type 0
IsOfSent most index = (1 ≤ index) × (index ≤ most)

abbrev IsCopyOf : ℕ → Entry → Type 0
IsCopyOf most (Entry.Copy index) = IsOfSent most index
IsCopyOf most (Entry.Mark phase) = Unit {0}

each-copy : (most : ℕ) (is : List ℕ) → EachOf (IsOfSent most) is → EachOf (IsCopyOf most) (map Entry.Copy is)
each-copy most [] each = tt
each-copy most (i ∷ is) each = (each.0, each-copy most is each.1)

one-copy : (most : ℕ) (b : Bool) (i : ℕ) → IsOfSent most i → EachOf (IsOfSent most) (copy_if b i)
one-copy most true i is = (is, tt)
one-copy most false i is = tt

falling-copies : (most : ℕ) (fate : ℕ → Fate) (j i : ℕ) → i ≤ most → EachOf (IsOfSent most) (copies fate j i)
falling-copies most fate j zero low = tt
falling-copies most fate j (suc i) low =
    EachOf-append (IsOfSent most) (copies fate j i) (copy_if (falls_behind (suc i) j (fate (suc i))) (suc i)) (falling-copies most fate j i (omega (arith, low)))
    (one-copy most (falls_behind (suc i) j (fate (suc i))) (suc i) (omega arith, low))

place-copies : (most j : ℕ) → IsOfSent most j → (f : Fate) → EachOf (IsOfSent most) (in_place j f)
place-copies most j is Pass = (is, tt)
place-copies most j is Lose = tt
place-copies most j is (Twice n) = (is, tt)
place-copies most j is (Late n) = tt

more-sent : (most : ℕ) (x : Entry) → IsCopyOf most x → IsCopyOf (most + 1) x
more-sent most (Entry.Copy index) is = (is.0, (let h = is.1 in omega (arith, h)))
more-sent most (Entry.Mark phase) is = tt

copies-sent : (fate : ℕ → Fate) (ss : List Sending) → EachOf (IsCopyOf (frames_in ss)) (entries fate ss)
copies-sent fate [] = tt
copies-sent fate (Sending.Frame ∷ older) =
    let n = frames_in older in
    EachOf-append (IsCopyOf (n + 1)) (entries fate older) (map Entry.Copy (due fate n))
    (EachOf-more (IsCopyOf n) (IsCopyOf (n + 1)) (entries fate older) (more-sent n) (copies-sent fate older))
    (each-copy (n + 1) (due fate n)
    (EachOf-append (IsOfSent (n + 1)) (in_place (n + 1) (fate (n + 1))) (copies fate (n + 1) (n + 1)) (place-copies (n + 1) (n + 1) (omega arith, omega arith) (fate (n + 1))) (falling-copies (n + 1) fate (n + 1) (n + 1) (omega arith))))
copies-sent fate (Sending.Mark phase ∷ older) = EachOf-append (IsCopyOf (frames_in older)) (entries fate older) (Entry.Mark phase ∷ []) (copies-sent fate older) (tt, tt)

each-flat : {A B : Type 0} (P : B → Type 0) (f : A → List B) (xs : List A) → ((x : A) → EachOf P (f x)) → EachOf P (flat_map f xs)
each-flat P f [] each = tt
each-flat P f (x ∷ xs) each = EachOf-append P (f x) (flat_map f xs) (each x) (each-flat P f xs each)

numbered-there : {A : Type 0} (k : ℕ) (xs : List A) → 1 ≤ k → k ≤ length xs → (x : A) × (numbered k xs ≡ Some x)
numbered-there k [] low high = absurd (omega (arith, low, high))
numbered-there {A} k (x ∷ older) low high =
    by_cases (k == length older + 1) ((y : A) × (numbered k (x ∷ older) ≡ Some y))
    (λ h. (x, ap (λ b. cond b (Some x) (numbered k older)) h))
    (λ h.
    let below : k ≤ length older = grind (arith, nat_tests, h, high) in
    let found = numbered-there k older low below in (found.0, ap (λ b. cond b (Some x) (numbered k older)) h ∙ found.1))

pub if-some : {A : Type 0} (P : A → Type 0) (o : Option A) (x : A) → IfSome o P → o ≡ Some x → P x
if-some P o x is e = let h : IfSome (Some x) P = subst (λ a. IfSome a P) e is in h

-- a mark that waits was sent by another, and not taken
waits-still : (self : Bool) (o : Option SentMark) (was : Bool) (more : ℕ) → cond self 0 (cond (is_none o) 0 1) ≡ cond was 1 0 + suc more → (not self ≡ true) × (not was ≡ true) × (m : SentMark) × (o ≡ Some m)
waits-still true o was more e = absurd (omega (arith, e))
waits-still false None was more e = absurd (omega (arith, e))
waits-still false (Some m) true more e = absurd (omega (arith, e))
waits-still false (Some m) false more e = (refl, refl, m, refl)

module _ (s : Setup) (setup : IsSetup s) (plan : List FateRow) (cs : List ℕ) (w : World) (e : after_turns s plan cs ≡ Some w) (timely : IsTimely w) where
  delivered : AreDelivered plan w
  delivered = turns-deliver s setup plan cs w e timely

  merged : Merged s w
  merged = (turns-merge s setup plan cs w e).merged timely

  marks : AreLinkMarks s w
  marks = turns-link-marks s setup plan cs w e timely

  -- the marks of a link are those that were taken and those that wait
  pub marks-parts : (from to k : ℕ) → was_sent from to (mark_of w from k) ≡ cond (is_marked (w.nodes to) from k) 1 0 + marks_of k (waiting plan from to w.done)
  marks-parts from to k =
      let a = marks.sent from to k in
      let b = entries-sent k (fate_of plan from to) (sendings from to w.done) in
      let c = ap (marks_of k) (delivered.order from to).parts in
      let d = marks-append k (entries_taken from to w.done) (waiting plan from to w.done) in
      let f = marks.taken from to k in
      omega (arith, a, b, c, d, f)

  on-link : (from to index : ℕ) (m : Message) → numbered index (w.frames from to) ≡ Some m → (m.from ≡ from) × (m.to ≡ to)
  on-link from to index m found =
      let calls = calls-are s (setup-procs s setup) (map choice_of (by_place w.done)) merged.world merged.run in
      let is = if-some (IsOnLink merged.world.calls from to) (numbered index (merged.world.frames from to)) m
      (numbered-each (IsOnLink merged.world.calls from to) index (merged.world.frames from to) (calls.frames from to))
      (ap (λ (xs : List Message). numbered index xs) (sym (merged.like.frames from to)) ∙ found) in (is.sender, is.receiver)

  -- each frame is of the version of the run
  of-wire : (from to index : ℕ) (m : Message) → numbered index (w.frames from to) ≡ Some m → m.version ≡ s.wire
  of-wire from to index m found =
      let kept = run-keeps s setup (map choice_of (by_place w.done)) merged.world merged.run in
      if-some (λ (k : Message). k.version ≡ s.wire) (numbered index (merged.world.frames from to)) m
      (numbered-each (λ (k : Message). k.version ≡ s.wire) index (merged.world.frames from to) (kept.wire from to))
      (ap (λ (xs : List Message). numbered index xs) (sym (merged.like.frames from to)) ∙ found)

  module _ (n : ℕ) (alive : is_ended (given s n) (w.nodes n) ≡ false) where
    pub enable : (what : What) (incoming : Incoming) → incoming_of w n what ≡ Some incoming → may_happen (given s n) (w.nodes n) what incoming ≡ true → is_enabled s w n what ≡ true
    enable what incoming comes may =
        ap (is_enabled_by (given s n) (w.nodes n) what) comes ∙ ap (λ b. not b && may_happen (given s n) (w.nodes n) what incoming) alive ∙ may

    copy-enabled : (from index : ℕ) → IsOfSent (frames_on from n w.done) index → is_enabled s w n (Take from index) ≡ true
    copy-enabled from index is =
        let long = delivered.frames from n in
        let high = is.1 in
        let found = numbered-there index (w.frames from n) is.0 (omega (arith, long, high)) in
        let on = on-link from n index found.0 found.1 in
        let m = found.0 in
        enable (Take from index) (Incoming.Frame found.0) (ap taken found.1)
        (and_from ((m.from == from) && (m.to == n)) (m.version == s.wire) (and_from (m.from == from) (m.to == n) (eq-eqb m.from from on.0) (eq-eqb m.to n on.1))
        (eq-eqb m.version s.wire (of-wire from n index m found.1)))

    mark-enabled : (from k : ℕ) (rest : List Entry) → waiting plan from n w.done ≡ Entry.Mark k ∷ rest → is_enabled s w n (Mark from k) ≡ true
    mark-enabled from k rest first =
        let own : cond (k == k) 1 0 ≡ 1 = ap {B = ℕ} (λ b. cond b 1 0) (eq-eqb k k refl) in
        let parts = marks-parts from n k in
        let here = ap (marks_of k) first in
        let is = waits-still (from == n) (mark_of w from k) (is_marked (w.nodes n) from k) (marks_of k rest) (omega (arith, own, parts, here)) in
        enable (Mark from k) (Incoming.Mark is.2.tick) (ap marked is.3)
        (and_from (not (from == n)) (not (is_marked (w.nodes n) from k)) is.0 is.1)

    pub first-enabled : (from : ℕ) (ws : List Entry) → waiting plan from n w.done ≡ ws → EachOf (λ (what : What). is_enabled s w n what ≡ true) (oldest from ws)
    first-enabled from [] is = tt
    first-enabled from (Entry.Copy index ∷ more) is =
        let each = copies-sent (fate_of plan from n) (sendings from n w.done) in
        let all = subst (EachOf (IsCopyOf (frames_on from n w.done))) (delivered.order from n).parts each in
        let waits = subst (EachOf (IsCopyOf (frames_on from n w.done))) is (EachOf-behind (IsCopyOf (frames_on from n w.done)) (entries_taken from n w.done) (waiting plan from n w.done) all) in
        (copy-enabled from index waits.0, tt)
    first-enabled from (Entry.Mark k ∷ more) is = (mark-enabled from k more is, tt)

    pub takes-enabled : EachOf (λ (what : What). is_enabled s w n what ≡ true) (takes_at plan w n)
    takes-enabled = each-flat (λ (what : What). is_enabled s w n what ≡ true) (λ from. oldest from (waiting plan from n w.done)) node_numbers (λ from. first-enabled from (waiting plan from n w.done) refl)
