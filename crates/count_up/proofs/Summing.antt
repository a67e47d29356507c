-- What all three load last is the sum of their rounds.
use Rattle.std.proofs.Common.{◌≡◌, ◌≢◌, ℕ, ◌*◌, ◌<◌, ◌≤◌, ◌==◌, Bool, true, false, Some, None, List, [], ◌∷◌, ◌++◌, refl, sym, ◌∙◌, ap, subst, inl, inr, arith}
use Rattle.std.specs.Prelude.{◌⊎◌, ◌^◌, All, if◌then◌else◌}
use Rattle.std.specs.Int.{w64, to_le_bytes}
use Rattle.std.proofs.lemmas.Bool.Decides.{nat_tests}
use Rattle.std.proofs.lemmas.List.Elements.{All-cons, All-nil, All-head, All-tail}
use Rattle.uid_names.specs.Names.{ProcName}
use Rattle.dom_history.specs.declared.op.Op.{Op}
use Rattle.dom_history.specs.declared.op.Op.TheVariants.{Lock, Unlock, Load, Store}
use Rattle.dom_history.specs.declared.op.Reply.{Reply}
use Rattle.dom_history.specs.declared.op.Reply.TheVariants.{Fine, Conflict, Kept, Doubt, LinkFault}
use Rattle.dom_history.specs.declared.op.Spot.TheVariants.{Of}
use Rattle.dom_history.specs.declared.op.Want.TheVariants.{Do}
use Rattle.dom_history.specs.declared.op.Entry.{Entry}
use Rattle.dom_history.specs.Follows.{entries_of, IsPhased}
use Rattle.dom_history.specs.Histories.{told}
use Rattle.dom_history.specs.declared.deed.LockState.TheVariants.{Free}
use Rattle.dom_history.specs.Replies.{reply_of, before_of}
use Rattle.dom_history.specs.Runs.{AreAnswered, IsFaultless}
use Rattle.dom_history.specs.Locks.{state}
use Rattle.uid_names.specs.declared.mode.Mode.{Mode}
use Rattle.dom_history.specs.StoreEffects.{StoreEffect, store_effect, store_effects, own}
use Rattle.count_up.specs.declared.counter.Counter.{Counter}
use Rattle.count_up.specs.declared.counter.Step.{Step}
use Rattle.count_up.specs.declared.counter.Step.TheVariants.{Waits, Locks, Loads, Stores, Unlocks, Ends, Fails}
use Rattle.count_up.specs.Counters.{mode_of, want_at, want_of, is_fine, after_lock, number_in, after_at}
use Rattle.count_up.specs.Starting.{object, start}
use Rattle.count_up.proofs.Going.{Result, answered_side, before, lock_answers, fine_answers, load_held, goes_locked, goes_refused, goes_loaded, goes_stored, goes_freed}
use Rattle.count_up.proofs.Numbers.{load_of, is_loaded}
use Rattle.count_up.proofs.Sides.{Who, One, Two, Three, name_of, Side, Sides, side, put, Apart, each_who, lock_at, lock_of, held_mode, writes, rest_at, IsSide, AreSides}
use Rattle.count_up.proofs.Steps.{settle, goes, after_all, Did, phase_at}

-- an unlock is answered by Fine
unlock_answers : (reply : Reply) → (is_fine (Some reply) ≡ false → ⊥) → reply ≡ Fine
unlock_answers Fine ok = refl
unlock_answers _ ok = absurd (ok refl)

module _ (rounds n : ℕ) (few : 3 * rounds < 2 ^ 64) (past : List StoreEffect) (t : Sides) (are : AreSides rounds n past t) (v : Who) where
  abbrev Comes : Step → Op → Reply → Type 0
  Comes step op reply = Result rounds n few past t are v step op reply

  abbrev IsAnswer : Op → Reply → Type 0
  IsAnswer op reply = reply ≡ reply_of (before past (side t v)) (name_of v) op

  abbrev IsFine : Step → Reply → Type 0
  IsFine step reply = (settle (after_at step (side t v).counter (Some reply))).step ≢ Fails

  by_lock : (reply : Reply) → (side t v).counter.step ≡ Locks → IsFine Locks reply → IsAnswer (Lock object (mode_of (side t v).counter.left)) reply → Comes Locks (Lock object (mode_of (side t v).counter.left)) reply
  by_lock reply at ok is = by_answer (lock_answers reply (λ f. ok (rw f refl)))
    where
      by_answer : (reply ≡ Fine) ⊎ ((q : ProcName) × (m : Mode) × (reply ≡ Conflict q m)) → Comes Locks (Lock object (mode_of (side t v).counter.left)) reply
      by_answer (inl fine) =
          subst (Comes Locks (Lock object (mode_of (side t v).counter.left))) (sym fine) (goes_locked rounds n few past t are v at (sym fine ∙ is))
      by_answer (inr (q, m, refused)) = subst (Comes Locks (Lock object (mode_of (side t v).counter.left))) (sym refused) (goes_refused rounds n few past t are v q m at)

  by_load : (reply : Reply) → (side t v).counter.step ≡ Loads → IsAnswer (Load (Of object 0) 8) reply → ((side t v).counter.left ≡ 0 → n ≡ 3 * rounds) → Comes Loads (Load (Of object 0) 8) reply
  by_load reply at is late =
      let c = (side t v).counter in
      let all = are.total in
      let below : n < 2 ^ 64 = omega (arith, all, few) in
      let held = (are.each v).knows ∙ ap (λ s. lock_at s c.left) at in
      let answer : reply ≡ load_of past = is ∙ load_held (state object (side t v).told) (mode_of c.left) (load_of past) held in
      goes_loaded rounds n few past t are v reply at (ap (λ r. number_in (Some r)) answer ∙ is_loaded n past below are.number) late

  by_store : (reply : Reply) → (side t v).counter.step ≡ Stores → IsFine Stores reply → Comes Stores (Store (Of object 0) (to_le_bytes w64 (side t v).counter.number)) reply
  by_store reply at ok =
      let fine = fine_answers reply (λ f. ok (rw f refl)) in
      subst (Comes Stores (Store (Of object 0) (to_le_bytes w64 (side t v).counter.number))) (sym fine) (goes_stored rounds n few past t are v at)

  by_unlock : (reply : Reply) → (side t v).counter.step ≡ Unlocks → IsFine Unlocks reply → Comes Unlocks (Unlock object) reply
  by_unlock reply at ok =
      let fine = unlock_answers reply (λ f. ok (rw f refl)) in
      subst (Comes Unlocks (Unlock object)) (sym fine) (goes_freed rounds n few past t are v at)

  -- an entry of one of them, by what that waited for
  by_step : (step : Step) (op : Op) (reply : Reply) → (side t v).counter.step ≡ step → want_at step (side t v).counter ≡ Do op → IsFine step reply → IsAnswer op reply
      → ((side t v).counter.left ≡ 0 → n ≡ 3 * rounds) → Comes step op reply
  by_step Waits op reply at asks ok is late = absurd (cc asks)
  by_step Ends op reply at asks ok is late = absurd (cc asks)
  by_step Fails op reply at asks ok is late = absurd (cc asks)
  by_step Locks op reply at asks ok is late =
      let uid = (are.each v).uid_is in
      let same : Lock object (mode_of (side t v).counter.left) ≡ op = cc (asks, uid) in
      subst (λ o. IsAnswer o reply → Comes Locks o reply) same (by_lock reply at ok) is
  by_step Loads op reply at asks ok is late =
      let uid = (are.each v).uid_is in
      let same : Load (Of object 0) 8 ≡ op = cc (asks, uid) in
      subst (λ o. IsAnswer o reply → Comes Loads o reply) same (λ answer. by_load reply at answer late) is
  by_step Stores op reply at asks ok is late =
      let uid = (are.each v).uid_is in
      let same : Store (Of object 0) (to_le_bytes w64 (side t v).counter.number) ≡ op = cc (asks, uid) in
      subst (λ o. Comes Stores o reply) same (by_store reply at ok)
  by_step Unlocks op reply at asks ok is late =
      let uid = (are.each v).uid_is in
      let same : Unlock object ≡ op = cc (asks, uid) in
      subst (λ o. Comes Unlocks o reply) same (by_unlock reply at ok)

-- the three after these entries
abbrev pub side_by : ℕ → List Entry → Who → Side
side_by rounds es w = record { told = own (name_of w) (told es); counter = after_all rounds (entries_of (name_of w) es) }

abbrev pub sides_by : ℕ → List Entry → Sides
sides_by rounds es = record { one = side_by rounds es One; two = side_by rounds es Two; three = side_by rounds es Three }

side_is : (rounds : ℕ) (es : List Entry) (w : Who) → side (sides_by rounds es) w ≡ side_by rounds es w
side_is rounds es One = refl
side_is rounds es Two = refl
side_is rounds es Three = refl

abbrev side_after : ℕ → Entry → List Entry → Who → Side
side_after rounds e es v = answered_side (side (sides_by rounds es) v).counter.step v e.op e.reply (side (sides_by rounds es) v)

sides_step : (rounds : ℕ) (v : Who) (e : Entry) (es : List Entry) → e.proc ≡ name_of v → sides_by rounds (e ∷ es) ≡ put v (side_after rounds e es v) (sides_by rounds es)
sides_step rounds One e es is = rw is refl
sides_step rounds Two e es is = rw is refl
sides_step rounds Three e es is = rw is refl

own_entry : (v : Who) (e : Entry) (es : List Entry) → e.proc ≡ name_of v → entries_of (name_of v) (e ∷ es) ≡ e ∷ entries_of (name_of v) es
own_entry One e es is = rw is refl
own_entry Two e es is = rw is refl
own_entry Three e es is = rw is refl

other_entry : (v w : Who) (e : Entry) (es : List Entry) → e.proc ≡ name_of v → Apart v w → entries_of (name_of w) (e ∷ es) ≡ entries_of (name_of w) es
other_entry v w e es is apart = rw (is, apart) refl

abbrev pub counter_by : ℕ → List Entry → Who → Counter
counter_by rounds es w = after_all rounds (entries_of (name_of w) es)

-- no round is left to any, or all entries are of the first phase
abbrev pub IsLate : ℕ → List Entry → Type 0
IsLate rounds es = ((w : Who) → (counter_by rounds es w).left ≡ 0) ⊎ All (λ e. e.phase ≤ 1) es

-- who fails goes on so
fails_on : (step : Step) (c : Counter) (reply : Reply) → c.step ≡ step → step ≡ Fails → (settle (after_at step c (Some reply))).step ≡ Fails
fails_on step c reply at is = rw is (rw (at ∙ is) refl)

-- an operation is asked for in a phase
in_phase : (step : Step) (c : Counter) (op : Op) → want_at step c ≡ Do op → phase_at step c.left ≡ (if c.left == 0 then 2 else 1)
in_phase Waits c op asks = absurd (cc asks)
in_phase Locks c op asks = refl
in_phase Loads c op asks = refl
in_phase Stores c op asks = refl
in_phase Unlocks c op asks = refl
in_phase Ends c op asks = refl
in_phase Fails c op asks = refl

rest_none : (step : Step) (left : ℕ) → left ≡ 0 → rest_at step left ≡ 0
rest_none Waits left is = is
rest_none Locks left is = is
rest_none Loads left is = is
rest_none Stores left is = is
rest_none Unlocks left is = rw is refl
rest_none Ends left is = is
rest_none Fails left is = is

-- entries of the three, each of which is what its process asked, and none of which made it fail
pub record AreTheirs (rounds : ℕ) (es : List Entry) : Type 0 where
  pub of_them : All (λ e. (v : Who) × (e.proc ≡ name_of v)) es
  pub did : (w : Who) → Did rounds (entries_of (name_of w) es)
  pub fine : (w : Who) → (counter_by rounds es w).step ≢ Fails

module _ (rounds : ℕ) (v : Who) (e : Entry) (es : List Entry) (is : e.proc ≡ name_of v) (theirs : AreTheirs rounds (e ∷ es)) where
  did_own : Did rounds (e ∷ entries_of (name_of v) es)
  did_own = subst (Did rounds) (own_entry v e es is) (theirs.did v)

  asked : want_of (counter_by rounds es v) ≡ Do e.op
  asked = did_own.0

  own_fine : (goes (counter_by rounds es v) e.reply).step ≢ Fails
  own_fine = subst (λ xs. (after_all rounds xs).step ≢ Fails) (own_entry v e es is) (theirs.fine v)

  theirs_before : AreTheirs rounds es
  theirs_before = record {
    of_them = All-tail (λ (f : Entry). (w : Who) × (f.proc ≡ name_of w)) e es theirs.of_them;
    did = each_who (λ w. Did rounds (entries_of (name_of w) es)) v (λ w apart. subst (Did rounds) (other_entry v w e es is apart) (theirs.did w)) did_own.2;
    fine = each_who (λ w. (counter_by rounds es w).step ≢ Fails) v
        (λ w apart. subst (λ xs. (after_all rounds xs).step ≢ Fails) (other_entry v w e es is apart) (theirs.fine w))
        (λ fails. let c = counter_by rounds es v in own_fine (fails_on c.step c e.reply refl fails));
  }

-- the reply makes it fail, whatever it waits for
record IsBad (reply : Reply) : Type 0 where
  pub lock : after_lock (Some reply) ≡ Fails
  pub number : number_in (Some reply) ≡ None
  pub fine : is_fine (Some reply) ≡ false

by_bad : (step : Step) (c : Counter) (op : Op) (reply : Reply) → want_at step c ≡ Do op → IsBad reply → (settle (after_at step c (Some reply))).step ≡ Fails
by_bad Waits c op reply asks bad = absurd (cc asks)
by_bad Locks c op reply asks bad = rw bad.lock refl
by_bad Loads c op reply asks bad = rw bad.number refl
by_bad Stores c op reply asks bad = rw bad.fine refl
by_bad Unlocks c op reply asks bad = rw bad.fine refl
by_bad Ends c op reply asks bad = absurd (cc asks)
by_bad Fails c op reply asks bad = absurd (cc asks)

plain_reply : (reply : Reply) → (IsBad reply → ⊥) → IsFaultless reply
plain_reply Kept good = good (record { lock = refl; number = refl; fine = refl })
plain_reply Doubt good = good (record { lock = refl; number = refl; fine = refl })
plain_reply LinkFault good = good (record { lock = refl; number = refl; fine = refl })
plain_reply _ good = tt

-- none was answered by a link fault
pub all_plain : (rounds : ℕ) (es : List Entry) → AreTheirs rounds es → All (λ e. IsFaultless e.reply) es
all_plain rounds [] theirs = All-nil (λ (e : Entry). IsFaultless e.reply)
all_plain rounds (e ∷ es) theirs =
    let first = All-head (λ (f : Entry). (w : Who) × (f.proc ≡ name_of w)) e es theirs.of_them in
    let c = counter_by rounds es first.0 in
    All-cons (λ (f : Entry). IsFaultless f.reply) e es
    (plain_reply e.reply (λ bad. own_fine rounds first.0 e es first.1 theirs (by_bad c.step c e.op e.reply (asked rounds first.0 e es first.1 theirs) bad)))
    (all_plain rounds es (theirs_before rounds first.0 e es first.1 theirs))

-- what is known of entries, up to one of them
pub record AreKnown (rounds : ℕ) (es : List Entry) : Type 0 where
  pub theirs : AreTheirs rounds es
  pub answered : AreAnswered start (told es)
  pub phased : IsPhased es
  pub late : IsLate rounds es

module _ (rounds : ℕ) (few : 3 * rounds < 2 ^ 64) (v : Who) (e : Entry) (es : List Entry) (is : e.proc ≡ name_of v) (known : AreKnown rounds (e ∷ es)) where
  phase_is : e.phase ≡ (if (counter_by rounds es v).left == 0 then 2 else 1)
  phase_is =
      let c = counter_by rounds es v in
      (did_own rounds v e es is known.theirs).1 ∙ in_phase c.step c e.op (asked rounds v e es is known.theirs)

  same_left : (w : Who) → Apart v w → (counter_by rounds (e ∷ es) w).left ≡ 0 → (counter_by rounds es w).left ≡ 0
  same_left w apart none = subst (λ xs. (after_all rounds xs).left ≡ 0) (other_entry v w e es is apart) none

  -- where it asks with no round left, no round is left to any
  none_left : (counter_by rounds es v).left ≡ 0 → (w : Who) → (counter_by rounds es w).left ≡ 0
  none_left none = by_late known.late
    where
      by_late : IsLate rounds (e ∷ es) → (w : Who) → (counter_by rounds es w).left ≡ 0
      by_late (inl all) = each_who (λ w. (counter_by rounds es w).left ≡ 0) v (λ w apart. same_left w apart (all w)) none
      by_late (inr first) =
          let low = All-head (λ (f : Entry). f.phase ≤ 1) e es first in
          let two : e.phase ≡ 2 = phase_is ∙ rw none refl in
          absurd (omega (arith, low, two))

  still_late : IsLate rounds es
  still_late = by_late known.late
    where
      by_left : (b : Bool) → (counter_by rounds es v).left == 0 ≡ b → IsLate rounds es
      by_left true left = inl (none_left (grind (arith, nat_tests, left)))
      by_left false left =
          let one : e.phase ≡ 1 = phase_is ∙ rw left refl in
          inr (subst (λ k. All (λ (f : Entry). f.phase ≤ k) es) one known.phased.0)

      by_late : IsLate rounds (e ∷ es) → IsLate rounds es
      by_late (inl all) = by_left ((counter_by rounds es v).left == 0) refl
      by_late (inr first) = inr (All-tail (λ (f : Entry). f.phase ≤ 1) e es first)

  known_before : AreKnown rounds es
  known_before = record { theirs = theirs_before rounds v e es is known.theirs; answered = known.answered.1; phased = known.phased.1; late = still_late }

  one_more : (n : ℕ) → AreSides rounds n (store_effects (told es)) (sides_by rounds es) → (m : ℕ) × AreSides rounds m (store_effects (told (e ∷ es))) (sides_by rounds (e ∷ es))
  one_more n are =
      let past = store_effects (told es) in
      let t = sides_by rounds es in
      let here : side t v ≡ side_by rounds es v = side_is rounds es v in
      let answer : e.reply ≡ reply_of (before past (side_by rounds es v)) (name_of v) e.op = subst (λ p. e.reply ≡ reply_of (before_of start (told es) p) p e.op) is known.answered.0 in
      let next = by_step rounds n few past t are v (side t v).counter.step e.op e.reply refl
      (subst (λ (x : Side). want_of x.counter ≡ Do e.op) (sym here) (asked rounds v e es is known.theirs))
      (subst (λ (x : Side). (goes x.counter e.reply).step ≢ Fails) (sym here) (own_fine rounds v e es is known.theirs))
      (subst (λ (x : Side). e.reply ≡ reply_of (before past x) (name_of v) e.op) (sym here) answer)
      (λ none. ended are (none_left (subst (λ (x : Side). x.counter.left ≡ 0) here none))) in (
        next.0,
        subst (λ p. AreSides rounds next.0 (store_effect p e.op e.reply ++ past) (sides_by rounds (e ∷ es))) (sym is)
            (subst (AreSides rounds next.0 (store_effect (name_of v) e.op e.reply ++ past)) (sym (sides_step rounds v e es is)) next.1),
      )
    where
      ended : {n : ℕ} → AreSides rounds n (store_effects (told es)) (sides_by rounds es) → ((w : Who) → (counter_by rounds es w).left ≡ 0) → n ≡ 3 * rounds
      ended {n} are none =
          let one = rest_none (counter_by rounds es One).step (counter_by rounds es One).left (none One) in
          let two = rest_none (counter_by rounds es Two).step (counter_by rounds es Two).left (none Two) in
          let three = rest_none (counter_by rounds es Three).step (counter_by rounds es Three).left (none Three) in
          let all = are.total in
          omega (arith, one, two, three, all)

first_sides : (rounds : ℕ) → AreSides rounds 0 [] (sides_by rounds [])
first_sides rounds = record {
  number = refl;
  total = omega arith;
  each = each_first;
  keeps = keeps_first;
  alone = alone_first;
}
  where
    each_first : (w : Who) → IsSide rounds 0 (side (sides_by rounds []) w)
    each_first w = subst (IsSide rounds 0) (sym (side_is rounds [] w)) (record { uid_is = refl; knows = refl; next = λ e. absurd (cc e); some_left = λ e. absurd (cc e); looked = λ e. absurd (cc e) })

    keeps_first : (w : Who) → None ≡ held_mode (lock_of (side (sides_by rounds []) w))
    keeps_first w = ap (λ x. held_mode (lock_of x)) (sym (side_is rounds [] w))

    alone_first : (a b : Who) → Apart a b → writes (side (sides_by rounds []) a) ≡ true → lock_of (side (sides_by rounds []) b) ≡ Free
    alone_first a b apart writing = ap lock_of (side_is rounds [] b)

-- so it is after all entries
pub all_sides : (rounds : ℕ) → 3 * rounds < 2 ^ 64 → (es : List Entry) → AreKnown rounds es → (n : ℕ) × AreSides rounds n (store_effects (told es)) (sides_by rounds es)
all_sides rounds few [] known = (0, first_sides rounds)
all_sides rounds few (e ∷ es) known =
    let first = All-head (λ (f : Entry). (w : Who) × (f.proc ≡ name_of w)) e es known.theirs.of_them in
    let earlier = all_sides rounds few es (known_before rounds few first.0 e es first.1 known) in
    one_more rounds few first.0 e es first.1 known earlier.0 earlier.1
