-- A program that counts up a number: what it asks, and what it is once it was answered.
use Rattle.std.specs.Prelude.{◌≡◌, ℕ, length, ◌+◌, ◌-◌, ◌%◌, ◌^◌, ◌==◌, Bool, true, false, if◌then◌else◌, Option, Some, None}
use Rattle.std.specs.Int.{w64, to_le_bytes, from_le_bytes}
use Rattle.uid_names.specs.Names.{ObjectName}
use Rattle.uid_names.specs.declared.mode.Mode.{Mode}
use Rattle.uid_names.specs.declared.mode.Mode.TheVariants.{Read, Write}
use Rattle.dom_history.specs.declared.op.Spot.TheVariants.{Of}
use Rattle.dom_history.specs.declared.op.Op.TheVariants.{Lock, Unlock, Load, Store}
use Rattle.dom_history.specs.declared.op.Reply.{Reply}
use Rattle.dom_history.specs.declared.op.Reply.TheVariants.{Fine, Bytes, Conflict, PastEnd}
use Rattle.dom_history.specs.declared.op.Want.{Want}
use Rattle.dom_history.specs.declared.op.Want.TheVariants.{Do, Phase, Done}
use Rattle.count_up.specs.declared.counter.Counter.{Counter}
use Rattle.count_up.specs.declared.counter.Step.{Step}
use Rattle.count_up.specs.declared.counter.Step.TheVariants.{Waits, Locks, Loads, Stores, Unlocks, Ends, Fails}

abbrev pub first_counter : ObjectName → ℕ → Counter
first_counter uid rounds = record { uid = uid; rounds = rounds; left = rounds; number = 0; step = Waits; spent = false }

-- it only looks once no round is left
abbrev pub mode_of : ℕ → Mode
mode_of left = if left == 0 then Read else Write

-- what it asks, by what it waits for
abbrev pub want_at : Step → Counter → Want
want_at Waits c = Phase
want_at Locks c = Do (Lock c.uid (mode_of c.left))
want_at Loads c = Do (Load (Of c.uid 0) 8)
want_at Stores c = Do (Store (Of c.uid 0) (to_le_bytes w64 c.number))
want_at Unlocks c = Do (Unlock c.uid)
want_at Ends c = Done
want_at Fails c = Done

abbrev pub want_of : Counter → Want
want_of c = want_at c.step c

abbrev pub is_fine : Option Reply → Bool
is_fine (Some Fine) = true
is_fine _ = false

-- who is refused a lock asks again
abbrev pub after_lock : Option Reply → Step
after_lock (Some Fine) = Loads
after_lock (Some (Conflict q m)) = Locks
after_lock _ = Fails

-- what was loaded is as long as the number
abbrev pub HasEightBytes : Option Reply → Type 0
HasEightBytes (Some (Bytes bytes)) = length bytes ≡ 8
HasEightBytes _ = Unit {0}

-- the number that was loaded; where nothing was stored yet it is 0
abbrev pub number_in : Option Reply → Option ℕ
number_in (Some (Bytes bytes)) = Some (from_le_bytes w64 bytes)
number_in (Some PastEnd) = Some 0
number_in _ = None

-- what it stores is one more than what it loaded
abbrev pub loaded : Option ℕ → Counter → Counter
loaded None c = record c { step = Fails }
loaded (Some n) c =
    record c {
      number = if c.left == 0 then n else (n + 1) % 2 ^ 64;
      step = if c.left == 0 then Unlocks else Stores;
    }

-- behind the last round it waits for the next phase
abbrev pub after_unlock : ℕ → Step
after_unlock left = if left == 0 then Ends else if left == 1 then Waits else Locks

abbrev pub unlocked : Bool → Counter → Counter
unlocked true c = record c { left = c.left - 1; step = after_unlock c.left }
unlocked false c = record c { step = Fails }

abbrev pub after_at : Step → Counter → Option Reply → Counter
after_at Waits c told = record c { step = Locks }
after_at Locks c told = record c { step = after_lock told }
after_at Loads c told = loaded (number_in told) c
after_at Stores c told = record c { step = if is_fine told then Unlocks else Fails }
after_at Unlocks c told = unlocked (is_fine told) c
after_at Ends c told = c
after_at Fails c told = c

abbrev pub counter_after : Counter → Option Reply → Counter
counter_after c told = after_at c.step c told

-- the number that it loaded last, where it came to its end
abbrev pub seen_at : Step → Counter → Option ℕ
seen_at Ends c = Some c.number
seen_at _ c = None

abbrev pub seen_by : Counter → Option ℕ
seen_by c = seen_at c.step c
