-- How a counter goes on from one answer to the next.
use Rattle.std.proofs.Common.{◌≡◌, ◌≢◌, ℕ, zero, suc, ◌-◌, ◌==◌, Bool, true, false, Option, Some, None, List, [], ◌∷◌, refl, sym, ◌∙◌, ap, subst, arith}
use Rattle.std.specs.Prelude.{if◌then◌else◌}
use Rattle.std.proofs.lemmas.Bool.Decides.{nat_tests}
use Rattle.dom_history.specs.declared.op.Op.{Op}
use Rattle.dom_history.specs.declared.op.Reply.{Reply}
use Rattle.dom_history.specs.declared.op.Reply.TheVariants.{Fine, Conflict}
use Rattle.dom_history.specs.declared.op.Entry.{Entry}
use Rattle.dom_history.specs.declared.op.Want.{Want}
use Rattle.dom_history.specs.declared.op.Want.TheVariants.{Do, Phase}
use Rattle.dom_history.specs.Follows.{Heard, Reaches, starts, answered, passed}
use Rattle.dom_history.specs.Programs.{program_after, asked_by}
use Rattle.count_up.specs.declared.counter.Counter.{Counter}
use Rattle.count_up.specs.declared.counter.Step.{Step}
use Rattle.count_up.specs.declared.counter.Step.TheVariants.{Waits, Locks, Loads, Stores, Unlocks, Ends, Fails}
use Rattle.count_up.specs.Counters.{want_at, want_of, is_fine, number_in, after_unlock, after_at, counter_after, first_counter}
use Rattle.count_up.specs.Starting.{object}

-- who waits for a phase goes on once it begins
abbrev pub settle_at : Step → Counter → Counter
settle_at Waits c = record c { step = Locks }
settle_at Locks c = c
settle_at Loads c = c
settle_at Stores c = c
settle_at Unlocks c = c
settle_at Ends c = c
settle_at Fails c = c

abbrev pub settle : Counter → Counter
settle c = settle_at c.step c

abbrev pub goes : Counter → Reply → Counter
goes c reply = settle (counter_after c (Some reply))

-- the counter of a process that was answered these entries, once its phase has begun
abbrev pub after_all : ℕ → List Entry → Counter
after_all rounds [] = counter_after (first_counter object rounds) None
after_all rounds (e ∷ es) = goes (after_all rounds es) e.reply

-- the phase in which it is
abbrev pub phase_at : Step → ℕ → ℕ
phase_at Waits left = 1
phase_at Locks left = if left == 0 then 2 else 1
phase_at Loads left = if left == 0 then 2 else 1
phase_at Stores left = if left == 0 then 2 else 1
phase_at Unlocks left = if left == 0 then 2 else 1
phase_at Ends left = if left == 0 then 2 else 1
phase_at Fails left = if left == 0 then 2 else 1

abbrev pub phase_of : Counter → ℕ
phase_of c = phase_at c.step c.left

-- each entry is what it asked, in its phase
abbrev pub Did : ℕ → List Entry → Type 0
Did rounds [] = Unit {0}
Did rounds (e ∷ es) = (want_of (after_all rounds es) ≡ Do e.op) × (e.phase ≡ phase_of (after_all rounds es)) × Did rounds es

abbrev pub heard_by : ℕ → Heard → Counter
heard_by rounds heard = program_after counter_after (first_counter object rounds) heard

abbrev pub asks : ℕ → Heard → Want
asks rounds heard = asked_by want_of counter_after (first_counter object rounds) heard

-- what it asks is an operation, so it waits for no phase
no_wait : (step : Step) (c : Counter) (op : Op) → want_at step c ≡ Do op → settle_at step c ≡ c
no_wait Waits c op asks = absurd (cc asks)
no_wait Locks c op asks = refl
no_wait Loads c op asks = refl
no_wait Stores c op asks = refl
no_wait Unlocks c op asks = refl
no_wait Ends c op asks = refl
no_wait Fails c op asks = refl

pub is_waiting : (step : Step) (c : Counter) → want_at step c ≡ Phase → step ≡ Waits
is_waiting Waits c asks = refl
is_waiting Locks c asks = absurd (cc asks)
is_waiting Loads c asks = absurd (cc asks)
is_waiting Stores c asks = absurd (cc asks)
is_waiting Unlocks c asks = absurd (cc asks)
is_waiting Ends c asks = absurd (cc asks)
is_waiting Fails c asks = absurd (cc asks)

pub record IsAsked (rounds : ℕ) (es : List Entry) (heard : Heard) (phase : ℕ) : Type 0 where
  pub counter : settle (heard_by rounds heard) ≡ after_all rounds es
  pub did : Did rounds es
  pub phase_is : phase ≡ phase_of (heard_by rounds heard)
  pub waits : (heard_by rounds heard).step ≡ Waits → (heard_by rounds heard).left ≡ 0
  pub ends : (heard_by rounds heard).step ≡ Ends → (heard_by rounds heard).left ≡ 0

abbrev phase_by : ℕ → ℕ
phase_by left = if left == 0 then 2 else 1

-- after an answer it is in the phase in which it asked, and where it waits or ends no round is left
pub record IsKept (told : Option Reply) (c : Counter) (step : Step) : Type 0 where
  pub phase : phase_of (after_at step c told) ≡ phase_at step c.left
  pub waits : (after_at step c told).step ≡ Waits → (after_at step c told).left ≡ 0
  pub ends : (after_at step c told).step ≡ Ends → (after_at step c told).left ≡ 0

lock_kept : (told : Option Reply) (c : Counter) → IsKept told c Locks
lock_kept (Some Fine) c = record { phase = refl; waits = λ is. absurd (cc is); ends = λ is. absurd (cc is) }
lock_kept (Some (Conflict q m)) c = record { phase = refl; waits = λ is. absurd (cc is); ends = λ is. absurd (cc is) }
lock_kept _ c = record { phase = refl; waits = λ is. absurd (cc is); ends = λ is. absurd (cc is) }

load_kept : (told : Option Reply) (number : Option ℕ) (c : Counter) → number_in told ≡ number → IsKept told c Loads
load_kept told None c is = record { phase = rw is refl; waits = λ e. absurd (cc (rw is at e)); ends = λ e. absurd (cc (rw is at e)) }
load_kept told (Some n) c is = record { phase = rw is (by_left (c.left == 0)); waits = λ e. absurd (not_waiting (c.left == 0) (rw is at e)); ends = λ e. absurd (not_ending (c.left == 0) (rw is at e)) }
  where
    by_left : (b : Bool) → phase_at (if b then Unlocks else Stores) c.left ≡ phase_by c.left
    by_left true = refl
    by_left false = refl

    not_waiting : (b : Bool) → (if b then Unlocks else Stores) ≡ Waits → ⊥
    not_waiting true e = absurd (cc e)
    not_waiting false e = absurd (cc e)

    not_ending : (b : Bool) → (if b then Unlocks else Stores) ≡ Ends → ⊥
    not_ending true e = absurd (cc e)
    not_ending false e = absurd (cc e)

store_kept : (told : Option Reply) (fine : Bool) (c : Counter) → is_fine told ≡ fine → IsKept told c Stores
store_kept told true c is = record { phase = rw is refl; waits = λ e. absurd (cc (rw is at e)); ends = λ e. absurd (cc (rw is at e)) }
store_kept told false c is = record { phase = rw is refl; waits = λ e. absurd (cc (rw is at e)); ends = λ e. absurd (cc (rw is at e)) }

after_rounds : (left : ℕ) → phase_at (after_unlock left) (left - 1) ≡ phase_by left
after_rounds zero = refl
after_rounds (suc zero) = refl
after_rounds (suc (suc k)) =
    let less : suc (suc k) - 1 ≡ suc k = omega arith in
    let some : suc k == 0 ≡ false = grind (arith, nat_tests) in
    let more : suc (suc k) == 0 ≡ false = grind (arith, nat_tests) in
    let most : suc (suc k) == 1 ≡ false = grind (arith, nat_tests) in
    rw (less, more, most, some) refl

waits_at_last : (left : ℕ) → after_unlock left ≡ Waits → left - 1 ≡ 0
waits_at_last zero is = refl
waits_at_last (suc zero) is = refl
waits_at_last (suc (suc k)) is =
    let more : suc (suc k) == 0 ≡ false = grind (arith, nat_tests) in
    let most : suc (suc k) == 1 ≡ false = grind (arith, nat_tests) in
    let locks : Locks ≡ Waits = rw (more, most) at is in
    absurd (cc locks)

ends_at_none : (left : ℕ) → after_unlock left ≡ Ends → left - 1 ≡ 0
ends_at_none zero is = refl
ends_at_none (suc zero) is = refl
ends_at_none (suc (suc k)) is =
    let more : suc (suc k) == 0 ≡ false = grind (arith, nat_tests) in
    let most : suc (suc k) == 1 ≡ false = grind (arith, nat_tests) in
    let locks : Locks ≡ Ends = rw (more, most) at is in
    absurd (cc locks)

unlock_kept : (told : Option Reply) (fine : Bool) (c : Counter) → is_fine told ≡ fine → IsKept told c Unlocks
unlock_kept told true c is = record { phase = rw is (after_rounds c.left); waits = λ e. rw is (waits_at_last c.left (rw is at e)); ends = λ e. rw is (ends_at_none c.left (rw is at e)) }
unlock_kept told false c is = record { phase = rw is refl; waits = λ e. absurd (cc (rw is at e)); ends = λ e. absurd (cc (rw is at e)) }

kept : (step : Step) (c : Counter) (told : Option Reply) (op : Op) → want_at step c ≡ Do op → IsKept told c step
kept Waits c told op asks = absurd (cc asks)
kept Locks c told op asks = lock_kept told c
kept Loads c told op asks = load_kept told (number_in told) c refl
kept Stores c told op asks = store_kept told (is_fine told) c refl
kept Unlocks c told op asks = unlock_kept told (is_fine told) c refl
kept Ends c told op asks = absurd (cc asks)
kept Fails c told op asks = absurd (cc asks)

passes : (step : Step) (c : Counter) → step ≡ Waits → settle (after_at step c None) ≡ settle_at step c
passes step c is = rw is refl

-- what a counter did, by what it was answered
pub is_asked : (rounds : ℕ) → rounds ≢ 0 → (es : List Entry) (heard : Heard) (phase : ℕ) → Reaches (asks rounds) es heard phase → IsAsked rounds es heard phase
is_asked rounds some es told now starts = record {
  counter = refl;
  did = tt;
  phase_is = let none : rounds == 0 ≡ false = grind (arith, nat_tests) in rw none refl;
  waits = λ is. absurd (cc is);
  ends = λ is. absurd (cc is);
}
is_asked rounds some es told now (answered {past} {heard} {phase} e reaches asks_is in_phase) =
    let earlier = is_asked rounds some past heard phase reaches in
    let c = heard_by rounds heard in
    let same : c ≡ after_all rounds past = sym (no_wait c.step c e.op asks_is) ∙ earlier.counter in
    let stays = kept c.step c (Some e.reply) e.op asks_is in
    record {
      counter = ap (λ x. goes x e.reply) same;
      did = (subst (λ x. want_of x ≡ Do e.op) same asks_is, in_phase ∙ (earlier.phase_is ∙ ap phase_of same), earlier.did);
      phase_is = earlier.phase_is ∙ sym stays.phase;
      waits = stays.waits;
      ends = stays.ends;
    }
is_asked rounds some es told now (passed {past} {heard} {phase} reaches asks_is) =
    let earlier = is_asked rounds some past heard phase reaches in
    let c = heard_by rounds heard in
    let waiting : c.step ≡ Waits = is_waiting c.step c asks_is in
    let none : c.left ≡ 0 = earlier.waits waiting in
    record {
      counter = passes c.step c waiting ∙ earlier.counter;
      did = earlier.did;
      phase_is = rw waiting (rw none (ap suc (earlier.phase_is ∙ rw waiting refl)));
      waits = λ is. rw waiting none;
      ends = λ is. rw waiting none;
    }
