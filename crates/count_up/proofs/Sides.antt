-- The three processes, what each was told and what its counter is.
use Rattle.std.proofs.Common.{◌≡◌, ◌≢◌, ℕ, ◌+◌, ◌-◌, ◌*◌, ◌==◌, ◌∙◌, Bool, true, false, Option, Some, None, List, refl, ap, arith}
use Rattle.std.specs.Prelude.{not}
use Rattle.uid_names.specs.Names.{ProcName, same_proc}
use Rattle.uid_names.specs.declared.mode.Mode.{Mode}
use Rattle.dom_history.specs.declared.deed.Deed.{Deed}
use Rattle.dom_history.specs.declared.deed.LockState.{LockState}
use Rattle.dom_history.specs.declared.deed.LockState.TheVariants.{Free, Held}
use Rattle.dom_history.specs.Locks.{holds, state}
use Rattle.dom_history.specs.StoreEffects.{StoreEffect}
use Rattle.count_up.specs.declared.counter.Counter.{Counter}
use Rattle.count_up.specs.declared.counter.Step.{Step}
use Rattle.count_up.specs.declared.counter.Step.TheVariants.{Waits, Locks, Loads, Stores, Unlocks, Ends, Fails}
use Rattle.count_up.specs.Counters.{mode_of}
use Rattle.count_up.specs.Starting.{object}
use Rattle.count_up.proofs.Numbers.{Number}

pub data Who : Type 0 where
  One : Who
  Two : Who
  Three : Who

abbrev pub name_of : Who → ProcName
name_of One = record { node = 1; number = 1 }
name_of Two = record { node = 2; number = 1 }
name_of Three = record { node = 3; number = 1 }

pub record Side : Type 0 where
  pub told : List Deed
  pub counter : Counter

pub record Sides : Type 0 where
  pub one : Side
  pub two : Side
  pub three : Side

abbrev pub side : Sides → Who → Side
side t One = t.one
side t Two = t.two
side t Three = t.three

abbrev pub put : Who → Side → Sides → Sides
put One x t = record { one = x; two = t.two; three = t.three }
put Two x t = record { one = t.one; two = x; three = t.three }
put Three x t = record { one = t.one; two = t.two; three = x }

abbrev pub Apart : Who → Who → Type 0
Apart v w = same_proc (name_of v) (name_of w) ≡ false

pub apart_sym : (v w : Who) → Apart v w → Apart w v
apart_sym One One is = is
apart_sym One Two is = refl
apart_sym One Three is = refl
apart_sym Two One is = refl
apart_sym Two Two is = is
apart_sym Two Three is = refl
apart_sym Three One is = refl
apart_sym Three Two is = refl
apart_sym Three Three is = is

pub not_apart : (v : Who) → Apart v v → ⊥
not_apart One is = absurd (cc is)
not_apart Two is = absurd (cc is)
not_apart Three is = absurd (cc is)

-- what holds of one and of those apart from it holds of each
pub each_who : (P : Who → Type 0) (v : Who) → ((w : Who) → Apart v w → P w) → P v → (w : Who) → P w
each_who P One rest own One = own
each_who P One rest own Two = rest Two refl
each_who P One rest own Three = rest Three refl
each_who P Two rest own One = rest One refl
each_who P Two rest own Two = own
each_who P Two rest own Three = rest Three refl
each_who P Three rest own One = rest One refl
each_who P Three rest own Two = rest Two refl
each_who P Three rest own Three = own

pub each_but : (P : Who → Side → Type 0) (v : Who) (x : Side) (t : Sides) → ((w : Who) → Apart v w → P w (side t w)) → P v x → (w : Who) → P w (side (put v x t) w)
each_but P One x t rest new One = new
each_but P One x t rest new Two = rest Two refl
each_but P One x t rest new Three = rest Three refl
each_but P Two x t rest new One = rest One refl
each_but P Two x t rest new Two = new
each_but P Two x t rest new Three = rest Three refl
each_but P Three x t rest new One = rest One refl
each_but P Three x t rest new Two = rest Two refl
each_but P Three x t rest new Three = new

-- how it stands with the lock
abbrev pub lock_at : Step → ℕ → LockState
lock_at Waits left = Free
lock_at Locks left = Free
lock_at Loads left = Held (mode_of left)
lock_at Stores left = Held (mode_of left)
lock_at Unlocks left = Held (mode_of left)
lock_at Ends left = Free
lock_at Fails left = Free

abbrev pub lock_of : Side → LockState
lock_of x = lock_at x.counter.step x.counter.left

abbrev pub held_mode : LockState → Option Mode
held_mode (Held m) = Some m
held_mode _ = None

-- it holds the lock to write
abbrev pub writes_at : Step → ℕ → Bool
writes_at Waits left = false
writes_at Locks left = false
writes_at Loads left = not (left == 0)
writes_at Stores left = not (left == 0)
writes_at Unlocks left = not (left == 0)
writes_at Ends left = false
writes_at Fails left = false

abbrev pub writes : Side → Bool
writes x = writes_at x.counter.step x.counter.left

-- how many stores are still to come
abbrev pub rest_at : Step → ℕ → ℕ
rest_at Waits left = left
rest_at Locks left = left
rest_at Loads left = left
rest_at Stores left = left
rest_at Unlocks left = left - 1
rest_at Ends left = left
rest_at Fails left = left

abbrev pub rest_of : Side → ℕ
rest_of x = rest_at x.counter.step x.counter.left

abbrev pub rest_all : Sides → ℕ
rest_all t = rest_of t.one + (rest_of t.two + rest_of t.three)

-- it has looked once more
abbrev pub looked_at : Step → ℕ → Bool
looked_at Waits left = false
looked_at Locks left = false
looked_at Loads left = false
looked_at Stores left = false
looked_at Unlocks left = left == 0
looked_at Ends left = true
looked_at Fails left = false

-- what is so of one process where so many were stored
pub record IsSide (rounds n : ℕ) (x : Side) : Type 0 where
  pub uid_is : x.counter.uid ≡ object
  pub knows : state object x.told ≡ lock_of x
  pub next : x.counter.step ≡ Stores → x.counter.number ≡ n + 1
  pub some_left : x.counter.step ≡ Stores → x.counter.left ≢ 0
  pub looked : looked_at x.counter.step x.counter.left ≡ true → x.counter.number ≡ 3 * rounds

-- and of all
pub record AreSides (rounds n : ℕ) (past : List StoreEffect) (t : Sides) : Type 0 where
  pub number : Number n past
  pub total : n + rest_all t ≡ 3 * rounds
  pub each : (w : Who) → IsSide rounds n (side t w)
  pub keeps : (w : Who) → holds (name_of w) object past ≡ held_mode (lock_of (side t w))
  pub alone : (v w : Who) → Apart v w → writes (side t v) ≡ true → lock_of (side t w) ≡ Free

pub rest_same : (v : Who) (x : Side) (t : Sides) → rest_of x ≡ rest_of (side t v) → rest_all (put v x t) ≡ rest_all t
rest_same One x t is = ap (λ k. k + (rest_of t.two + rest_of t.three)) is
rest_same Two x t is = ap (λ k. rest_of t.one + (k + rest_of t.three)) is
rest_same Three x t is = ap (λ k. rest_of t.one + (rest_of t.two + k)) is

pub rest_less : (v : Who) (x : Side) (t : Sides) → rest_of (side t v) ≡ rest_of x + 1 → rest_all t ≡ rest_all (put v x t) + 1
rest_less One x t is = ap (λ k. k + (rest_of t.two + rest_of t.three)) is ∙ sums
  where
    sums : rest_of x + 1 + (rest_of t.two + rest_of t.three) ≡ rest_of x + (rest_of t.two + rest_of t.three) + 1
    sums = omega arith
rest_less Two x t is = ap (λ k. rest_of t.one + (k + rest_of t.three)) is ∙ sums
  where
    sums : rest_of t.one + (rest_of x + 1 + rest_of t.three) ≡ rest_of t.one + (rest_of x + rest_of t.three) + 1
    sums = omega arith
rest_less Three x t is = ap (λ k. rest_of t.one + (rest_of t.two + k)) is ∙ sums
  where
    sums : rest_of t.one + (rest_of t.two + (rest_of x + 1)) ≡ rest_of t.one + (rest_of t.two + rest_of x) + 1
    sums = omega arith

-- one of them changed
pub alone_put : (v : Who) (x : Side) (t : Sides) → ((a b : Who) → Apart a b → writes (side t a) ≡ true → lock_of (side t b) ≡ Free)
    → (writes x ≡ true → (w : Who) → Apart v w → lock_of (side t w) ≡ Free)
    → ((w : Who) → Apart v w → writes (side t w) ≡ true → lock_of x ≡ Free)
    → (a b : Who) → Apart a b → writes (side (put v x t) a) ≡ true → lock_of (side (put v x t) b) ≡ Free
alone_put v x t old own others =
    each_but (λ a s. (b : Who) → Apart a b → writes s ≡ true → lock_of (side (put v x t) b) ≡ Free) v x t
    (λ a from_v. each_but (λ b s. Apart a b → writes (side t a) ≡ true → lock_of s ≡ Free) v x t (λ b there apart writing. old a b apart writing) (λ apart writing. others a from_v writing))
    (each_but (λ b s. Apart v b → writes x ≡ true → lock_of s ≡ Free) v x t (λ b there apart writing. own writing b apart) (λ apart writing. absurd (not_apart v apart)))
