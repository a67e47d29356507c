-- What an entry of one of the three does.
use Rattle.std.proofs.Common.{◌≡◌, ◌≢◌, ℕ, zero, suc, ◌+◌, ◌-◌, ◌*◌, ◌<◌, ◌≤◌, ◌==◌, Bool, true, false, Option, Some, None, List, [], ◌∷◌, ◌++◌, refl, sym, ◌∙◌, ap, subst, inl, inr, arith}
use Rattle.std.specs.Prelude.{◌⊎◌, ◌^◌, ◌%◌, if◌then◌else◌, not}
use Rattle.std.specs.Int.{w64, to_le_bytes}
use Rattle.std.proofs.Math.Nat.{mod-eq_of_lt}
use Rattle.std.proofs.lemmas.Bool.Decides.{nat_tests}
use Rattle.uid_names.specs.Names.{ProcName, same_proc}
use Rattle.uid_names.specs.Modes.{modes_clash}
use Rattle.uid_names.specs.declared.lock_row.LockRow.{LockRow}
use Rattle.uid_names.specs.declared.mode.Mode.{Mode}
use Rattle.uid_names.specs.declared.mode.Mode.TheVariants.{Read, Write}
use Rattle.dom_history.specs.declared.deed.LockState.{LockState}
use Rattle.dom_history.specs.declared.deed.LockState.TheVariants.{Free, Held}
use Rattle.dom_history.specs.declared.op.Op.{Op}
use Rattle.dom_history.specs.declared.op.Op.TheVariants.{Lock, Unlock, Load, Store}
use Rattle.dom_history.specs.declared.op.Reply.{Reply}
use Rattle.dom_history.specs.declared.op.Reply.TheVariants.{Fine, Conflict, AlreadyHeld, Unsettled, TooMany, NoObject, NoLock}
use Rattle.dom_history.specs.declared.op.Spot.TheVariants.{Of}
use Rattle.dom_history.specs.Locks.{holds, state, is_held, is_unsettled}
use Rattle.dom_history.specs.Replies.{Before, conflict_or_fine, reply_of}
use Rattle.dom_history.specs.StoreEffects.{StoreEffect, store_effect}
use Rattle.dom_history.proofs.Tables.{state-by_last}
use Rattle.count_up.specs.declared.counter.Counter.{Counter}
use Rattle.count_up.specs.declared.counter.Step.{Step}
use Rattle.count_up.specs.declared.counter.Step.TheVariants.{Waits, Locks, Loads, Stores, Unlocks, Ends, Fails}
use Rattle.count_up.specs.Counters.{mode_of, is_fine, after_lock, number_in, after_at}
use Rattle.count_up.specs.Starting.{object, start}
use Rattle.count_up.proofs.Numbers.{Number, is_stored, number_locked, number_freed, is_granted, no_conflict}
use Rattle.count_up.proofs.Sides.{Who, One, Two, Three, name_of, Side, Sides, side, put, Apart, apart_sym, each_but, lock_at, lock_of, held_mode, writes_at, writes, rest_at, rest_of, rest_all, looked_at, IsSide, AreSides, rest_same, rest_less, alone_put}
use Rattle.count_up.proofs.Steps.{settle}

-- a process once it was answered
abbrev pub answered_side : Step → Who → Op → Reply → Side → Side
answered_side step v op reply x =
    record { told = record { proc = name_of v; op = op; reply = reply } ∷ x.told; counter = settle (after_at step x.counter (Some reply)) }

-- what stands before an operation of it
abbrev pub before : List StoreEffect → Side → Before
before past x = record { opening = start; past = past; told = x.told }

-- who holds the lock holds it in its mode
free_or_held : (step : Step) (left : ℕ) → (lock_at step left ≡ Free) ⊎ (lock_at step left ≡ Held (mode_of left))
free_or_held Waits left = inl refl
free_or_held Locks left = inl refl
free_or_held Loads left = inr refl
free_or_held Stores left = inr refl
free_or_held Unlocks left = inr refl
free_or_held Ends left = inl refl
free_or_held Fails left = inl refl

-- who writes holds it to write
writes_held : (step : Step) (left : ℕ) → writes_at step left ≡ true → (lock_at step left ≡ Held (mode_of left)) × (not (left == 0) ≡ true)
writes_held Waits left is = absurd (cc is)
writes_held Locks left is = absurd (cc is)
writes_held Loads left is = (refl, is)
writes_held Stores left is = (refl, is)
writes_held Unlocks left is = (refl, is)
writes_held Ends left is = absurd (cc is)
writes_held Fails left is = absurd (cc is)

-- who writes is in conflict with any other
first_clashes : (p q : ProcName) (x y : Bool) → not x ≡ true → modes_clash p (if x then Read else Write) q (if y then Read else Write) ≡ false → ⊥
first_clashes p q true y is fails = absurd (cc is)
first_clashes p q false y is fails = absurd (cc fails)

second_clashes : (p q : ProcName) (x y : Bool) → not y ≡ true → modes_clash p (if x then Read else Write) q (if y then Read else Write) ≡ false → ⊥
second_clashes p q x true is fails = absurd (cc is)
second_clashes p q true false is fails = absurd (cc fails)
second_clashes p q false false is fails = absurd (cc fails)

-- where nobody knows a lock, one that is granted meets no row in conflict
granted : (s : LockState) (many here : Bool) (found : Option LockRow) → s ≡ Free
    → Fine ≡ (if is_held s then AlreadyHeld else if is_unsettled s then Unsettled else if many then TooMany else if not here then NoObject else conflict_or_fine found)
    → found ≡ None
granted s many here found free is = is_granted many here found (sym (rw free at is))

-- what is left to one is left to all
pub rest_within : (v : Who) (t : Sides) → rest_of (side t v) ≤ rest_all t
rest_within One t = omega arith
rest_within Two t = omega arith
rest_within Three t = omega arith

-- the answer to a load under a lock
pub load_held : (s : LockState) (m : Mode) (reply : Reply) → s ≡ Held m → (if not (is_held s) then NoLock else reply) ≡ reply
load_held s m reply is = rw is refl

-- a lock is answered by Fine or by a conflict
pub lock_answers : (reply : Reply) → after_lock (Some reply) ≢ Fails → (reply ≡ Fine) ⊎ ((q : ProcName) × (m : Mode) × (reply ≡ Conflict q m))
lock_answers Fine ok = inl refl
lock_answers (Conflict q m) ok = inr (q, m, refl)
lock_answers _ ok = absurd (ok refl)

pub fine_answers : (reply : Reply) → (if is_fine (Some reply) then Unlocks else Fails) ≢ Fails → reply ≡ Fine
fine_answers Fine ok = refl
fine_answers _ ok = absurd (ok refl)

module _ (rounds n : ℕ) (few : 3 * rounds < 2 ^ 64) (past : List StoreEffect) (t : Sides) (are : AreSides rounds n past t) (v : Who) where
  abbrev pub Result : Step → Op → Reply → Type 0
  Result step op reply = (m : ℕ) × AreSides rounds m (store_effect (name_of v) op reply ++ past) (put v (answered_side step v op reply (side t v)) t)

  -- it got the lock, so no other has it in conflict
  beside : (side t v).counter.step ≡ Locks → Fine ≡ reply_of (before past (side t v)) (name_of v) (Lock object (mode_of (side t v).counter.left))
      → (w : Who) → Apart v w → (lock_of (side t w) ≡ Held (mode_of (side t w).counter.left)) → modes_clash (name_of v) (mode_of (side t v).counter.left) (name_of w) (mode_of (side t w).counter.left) ≡ false
  beside locks is w apart held =
      let own = are.each v in
      let free : state object (side t v).told ≡ Free = own.knows ∙ ap (λ s. lock_at s (side t v).counter.left) locks in
      let none = granted (state object (side t v).told) _ _ _ free is in
      no_conflict (name_of v) (name_of w) (mode_of (side t v).counter.left) (mode_of (side t w).counter.left) past none apart (are.keeps w ∙ ap held_mode held)

  -- the others meet the same lock
  keeps_locked : (m : Mode) (w : Who) → Apart v w → holds (name_of w) object (store_effect (name_of v) (Lock object m) Fine ++ past) ≡ held_mode (lock_of (side t w))
  keeps_locked m w apart = let other : same_proc (name_of w) (name_of v) ≡ false = apart_sym v w apart in rw other (are.keeps w)

  keeps_freed : (w : Who) → Apart v w → holds (name_of w) object (store_effect (name_of v) (Unlock object) Fine ++ past) ≡ held_mode (lock_of (side t w))
  keeps_freed w apart = let other : same_proc (name_of w) (name_of v) ≡ false = apart_sym v w apart in rw other (are.keeps w)

  -- it got the lock
  pub goes_locked : (side t v).counter.step ≡ Locks → Fine ≡ reply_of (before past (side t v)) (name_of v) (Lock object (mode_of (side t v).counter.left))
      → Result Locks (Lock object (mode_of (side t v).counter.left)) Fine
  goes_locked locks is =
      let c = (side t v).counter in
      let m = mode_of c.left in
      let own = are.each v in
      let new = answered_side Locks v (Lock object m) Fine (side t v) in (
        n,
        record {
          number = number_locked n past (name_of v) object m are.number;
          total = ap (λ k. n + k) (rest_same v new t (sym (ap (λ s. rest_at s c.left) locks))) ∙ are.total;
          each = each_but (λ w s. IsSide rounds n s) v new t (λ w apart. are.each w) (record {
            uid_is = own.uid_is;
            knows = state-by_last object new.told;
            next = λ is. absurd (cc is);
            some_left = λ is. absurd (cc is);
            looked = λ is. absurd (cc is);
          });
          keeps = each_but (λ w s. holds (name_of w) object (store_effect (name_of v) (Lock object m) Fine ++ past) ≡ held_mode (lock_of s)) v new t (keeps_locked m) (own_held v);
          alone = alone_put v new t are.alone (first_alone c) (others_not c);
        },
      )
    where
      own_held : (w : Who) → holds (name_of w) object (store_effect (name_of w) (Lock object (mode_of (side t v).counter.left)) Fine ++ past) ≡ Some (mode_of (side t v).counter.left)
      own_held One = refl
      own_held Two = refl
      own_held Three = refl

      first_alone : (c : Counter) → not ((side t v).counter.left == 0) ≡ true → (w : Who) → Apart v w → lock_of (side t w) ≡ Free
      first_alone c writing w apart = by_lock (free_or_held (side t w).counter.step (side t w).counter.left)
        where
          by_lock : (lock_of (side t w) ≡ Free) ⊎ (lock_of (side t w) ≡ Held (mode_of (side t w).counter.left)) → lock_of (side t w) ≡ Free
          by_lock (inl free) = free
          by_lock (inr held) =
              absurd (first_clashes (name_of v) (name_of w) ((side t v).counter.left == 0) ((side t w).counter.left == 0) writing (beside locks is w apart held))

      others_not : (c : Counter) → (w : Who) → Apart v w → writes (side t w) ≡ true → Held (mode_of (side t v).counter.left) ≡ Free
      others_not c w apart writing =
          let held = writes_held (side t w).counter.step (side t w).counter.left writing in
          absurd (second_clashes (name_of v) (name_of w) ((side t v).counter.left == 0) ((side t w).counter.left == 0) held.1 (beside locks is w apart held.0))

  -- where neither the lock nor what is stored changed
  goes_alike : (step : Step) (op : Op) (reply : Reply) → (side t v).counter.step ≡ step → store_effect (name_of v) op reply ≡ []
      → (state object (answered_side step v op reply (side t v)).told ≡ state object (side t v).told)
      → lock_of (answered_side step v op reply (side t v)) ≡ lock_of (side t v)
      → writes (answered_side step v op reply (side t v)) ≡ writes (side t v)
      → rest_of (answered_side step v op reply (side t v)) ≡ rest_of (side t v)
      → IsSide rounds n (answered_side step v op reply (side t v)) → Result step op reply
  goes_alike step op reply at none same lock writing rest new =
      let y = answered_side step v op reply (side t v) in
      subst (λ (es : List StoreEffect). (m : ℕ) × AreSides rounds m (es ++ past) (put v y t)) (sym none) (
        n,
        record {
          number = are.number;
          total = ap (λ k. n + k) (rest_same v y t rest) ∙ are.total;
          each = each_but (λ w s. IsSide rounds n s) v y t (λ w apart. are.each w) new;
          keeps = each_but (λ w s. holds (name_of w) object past ≡ held_mode (lock_of s)) v y t (λ w apart. are.keeps w) (are.keeps v ∙ sym (ap held_mode lock));
          alone = alone_put v y t are.alone (λ is w apart. are.alone v w apart (sym writing ∙ is)) (λ w apart is. lock ∙ are.alone w v (apart_sym v w apart) is);
        },
      )

  -- it was refused the lock
  pub goes_refused : (q : ProcName) (m : Mode) → (side t v).counter.step ≡ Locks → Result Locks (Lock object (mode_of (side t v).counter.left)) (Conflict q m)
  goes_refused q m locks =
      let c = (side t v).counter in
      let own = are.each v in
      let op = Lock object (mode_of c.left) in
      let free : lock_at c.step c.left ≡ Free = ap (λ s. lock_at s c.left) locks in
      goes_alike Locks op (Conflict q m) locks refl refl (sym free) (sym (ap (λ s. writes_at s c.left) locks)) (sym (ap (λ s. rest_at s c.left) locks)) (record {
        uid_is = own.uid_is;
        knows = own.knows ∙ free;
        next = λ is. absurd (cc is);
        some_left = λ is. absurd (cc is);
        looked = λ is. absurd (cc is);
      })

  -- it loaded the number
  pub goes_loaded : (reply : Reply) → (side t v).counter.step ≡ Loads → number_in (Some reply) ≡ Some n → ((side t v).counter.left ≡ 0 → n ≡ 3 * rounds) → Result Loads (Load (Of object 0) 8) reply
  goes_loaded reply loads is late = by_left ((side t v).counter.left == 0) refl
    where
      c : Counter
      c = (side t v).counter

      op : Op
      op = Load (Of object 0) 8

      next_of : (b : Bool) → c.left == 0 ≡ b → after_at Loads c (Some reply) ≡ record c { number = if b then n else (n + 1) % 2 ^ 64; step = if b then Unlocks else Stores }
      next_of b left = rw is (rw left refl)

      held : lock_at c.step c.left ≡ Held (mode_of c.left)
      held = ap (λ s. lock_at s c.left) loads

      side_of : Counter → Side
      side_of d = record { told = record { proc = name_of v; op = op; reply = reply } ∷ (side t v).told; counter = settle d }

      by_side : (d : Counter) → after_at Loads c (Some reply) ≡ d → lock_of (side_of d) ≡ lock_of (side t v) → writes (side_of d) ≡ writes (side t v) → rest_of (side_of d) ≡ rest_of (side t v) → IsSide rounds n (side_of d)
          → (state object (side_of d).told ≡ state object (side t v).told) → store_effect (name_of v) op reply ≡ [] → Result Loads op reply
      by_side d same lock writing rest new told none =
          goes_alike Loads op reply loads none told
          (subst (λ e. lock_of (side_of e) ≡ lock_of (side t v)) (sym same) lock) (subst (λ e. writes (side_of e) ≡ writes (side t v)) (sym same) writing)
          (subst (λ e. rest_of (side_of e) ≡ rest_of (side t v)) (sym same) rest) (subst (λ e. IsSide rounds n (side_of e)) (sym same) new)

      by_left : (b : Bool) → c.left == 0 ≡ b → Result Loads op reply
      by_left true left =
          let none : c.left ≡ 0 = grind (arith, nat_tests, left) in
          by_side (record c { number = n; step = Unlocks }) (next_of true left) (sym held) (sym (ap (λ s. writes_at s c.left) loads)) rest (record {
            uid_is = (are.each v).uid_is;
            knows = (are.each v).knows ∙ held;
            next = λ e. absurd (cc e);
            some_left = λ e. absurd (cc e);
            looked = λ e. late none;
          }) refl refl
        where
          rest : c.left - 1 ≡ rest_at c.step c.left
          rest = let none : c.left ≡ 0 = grind (arith, nat_tests, left) in rw (ap (λ s. rest_at s c.left) loads) (omega (arith, none))
      by_left false left =
          let some : c.left ≢ 0 = λ e. absurd (cc (left, e)) in
          by_side (record c { number = (n + 1) % 2 ^ 64; step = Stores }) (next_of false left) (sym held) (sym (ap (λ s. writes_at s c.left) loads)) (sym (ap (λ s. rest_at s c.left) loads)) (record {
            uid_is = (are.each v).uid_is;
            knows = (are.each v).knows ∙ held;
            next = λ e. small;
            some_left = λ e. some;
            looked = λ e. absurd (cc e);
          }) refl refl
        where
          small : (n + 1) % 2 ^ 64 ≡ n + 1
          small =
              let all = are.total in
              let within = rest_within v t in
              let own : rest_of (side t v) ≡ c.left = ap (λ s. rest_at s c.left) loads in
              let some : 1 ≤ c.left = grind (arith, nat_tests, left) in
              mod-eq_of_lt (omega (arith, all, within, own, some, few))

  -- it stored the next number
  pub goes_stored : (side t v).counter.step ≡ Stores → Result Stores (Store (Of object 0) (to_le_bytes w64 (side t v).counter.number)) Fine
  goes_stored stores =
      let c = (side t v).counter in
      let own = are.each v in
      let op = Store (Of object 0) (to_le_bytes w64 c.number) in
      let new = answered_side Stores v op Fine (side t v) in
      let one_more : c.number ≡ suc n = own.next stores ∙ omega arith in
      let some : c.left ≢ 0 = own.some_left stores in
      let none : c.left == 0 ≡ false = grind (arith, nat_tests, some) in
      let held : lock_at c.step c.left ≡ Held (mode_of c.left) = ap (λ s. lock_at s c.left) stores in
      let writing : writes (side t v) ≡ true = ap (λ s. writes_at s c.left) stores ∙ ap not none in
      let less : rest_of (side t v) ≡ rest_of new + 1 = ap (λ s. rest_at s c.left) stores ∙ omega (arith, some) in
      let all = are.total in
      let fewer = rest_less v new t less in (
        suc n,
        record {
          number = subst (λ k. Number (suc n) (store_effect (name_of v) (Store (Of object 0) (to_le_bytes w64 k)) Fine ++ past)) (sym one_more) (is_stored n past (name_of v) are.number);
          total = omega (arith, all, fewer);
          each = each_but (λ w s. IsSide rounds (suc n) s) v new t (λ w apart. still (are.each w) (are.alone v w apart writing)) (record {
            uid_is = own.uid_is;
            knows = own.knows ∙ held;
            next = λ e. absurd (cc e);
            some_left = λ e. absurd (cc e);
            looked = λ e. absurd (cc (none, e));
          });
          keeps = each_but (λ w s. holds (name_of w) object past ≡ held_mode (lock_of s)) v new t (λ w apart. are.keeps w) (are.keeps v ∙ ap held_mode held);
          alone = alone_put v new t are.alone (λ is w apart. are.alone v w apart writing) (λ w apart is. absurd (not_both (sym held ∙ are.alone w v (apart_sym v w apart) is)));
        },
      )
    where
      not_both : Held (mode_of (side t v).counter.left) ≡ Free → ⊥
      not_both is = absurd (cc is)

      still : {s : Side} → IsSide rounds n s → lock_of s ≡ Free → IsSide rounds (suc n) s
      still {s} is free = record {
        uid_is = is.uid_is;
        knows = is.knows;
        next = λ e. absurd (cc (sym (ap (λ k. lock_at k s.counter.left) e) ∙ free));
        some_left = is.some_left;
        looked = is.looked;
      }

  -- it gave the lock back
  pub goes_freed : (side t v).counter.step ≡ Unlocks → Result Unlocks (Unlock object) Fine
  goes_freed unlocks = by_left (side t v).counter.left refl
    where
      c : Counter
      c = (side t v).counter

      side_of : Counter → Side
      side_of d = record { told = record { proc = name_of v; op = Unlock object; reply = Fine } ∷ (side t v).told; counter = d }

      own_free : (w : Who) → holds (name_of w) object (store_effect (name_of w) (Unlock object) Fine ++ past) ≡ None
      own_free One = refl
      own_free Two = refl
      own_free Three = refl

      by_side : (d : Counter) → settle (after_at Unlocks c (Some Fine)) ≡ d → lock_of (side_of d) ≡ Free → writes (side_of d) ≡ false → rest_of (side_of d) ≡ rest_of (side t v) → IsSide rounds n (side_of d) → Result Unlocks (Unlock object) Fine
      by_side d same free writing rest new = subst (λ e. (m : ℕ) × AreSides rounds m (store_effect (name_of v) (Unlock object) Fine ++ past) (put v (side_of e) t)) (sym same) (
        n,
        record {
          number = number_freed n past (name_of v) object are.number;
          total = ap (λ k. n + k) (rest_same v (side_of d) t rest) ∙ are.total;
          each = each_but (λ w s. IsSide rounds n s) v (side_of d) t (λ w apart. are.each w) new;
          keeps = each_but (λ w s. holds (name_of w) object (store_effect (name_of v) (Unlock object) Fine ++ past) ≡ held_mode (lock_of s)) v (side_of d) t keeps_freed (own_free v ∙ sym (ap held_mode free));
          alone = alone_put v (side_of d) t are.alone (λ is w apart. absurd (cc (sym writing ∙ is))) (λ w apart is. free);
        },
      )

      knows_free : (d : Counter) → state object (side_of d).told ≡ Free
      knows_free d = state-by_last object (side_of d).told

      rest_is : rest_of (side t v) ≡ c.left - 1
      rest_is = ap (λ s. rest_at s c.left) unlocks

      goes_on : (k : ℕ) → c.left ≡ suc (suc k) → settle (after_at Unlocks c (Some Fine)) ≡ record c { left = suc k; step = Locks }
      goes_on k is =
          let less : suc (suc k) - 1 ≡ suc k = omega arith in
          let more : suc (suc k) == 0 ≡ false = grind (arith, nat_tests) in
          let most : suc (suc k) == 1 ≡ false = grind (arith, nat_tests) in
          rw (is, less, more, most) refl

      by_left : (left : ℕ) → c.left ≡ left → Result Unlocks (Unlock object) Fine
      by_left zero is =
          by_side (record c { left = 0; step = Ends }) (rw is refl) refl refl (sym (rest_is ∙ ap (λ k. k - 1) is)) (record {
            uid_is = (are.each v).uid_is;
            knows = knows_free (record c { left = 0; step = Ends });
            next = λ e. absurd (cc e);
            some_left = λ e. absurd (cc e);
            looked = λ e. (are.each v).looked (ap (λ s. looked_at s c.left) unlocks ∙ ap (λ k. k == 0) is);
          })
      by_left (suc zero) is =
          by_side (record c { left = 0; step = Locks }) (rw is refl) refl refl (sym (rest_is ∙ ap (λ k. k - 1) is)) (record {
            uid_is = (are.each v).uid_is;
            knows = knows_free (record c { left = 0; step = Locks });
            next = λ e. absurd (cc e);
            some_left = λ e. absurd (cc e);
            looked = λ e. absurd (cc e);
          })
      by_left (suc (suc k)) is =
          by_side (record c { left = suc k; step = Locks }) (goes_on k is) refl refl (sym (rest_is ∙ (ap (λ j. j - 1) is ∙ omega arith))) (record {
            uid_is = (are.each v).uid_is;
            knows = knows_free (record c { left = suc k; step = Locks });
            next = λ e. absurd (cc e);
            some_left = λ e. absurd (cc e);
            looked = λ e. absurd (cc e);
          })
