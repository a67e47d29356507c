-- What a counter asks is in its ranges, whatever it heard.
use Rattle.std.proofs.Common.{◌≡◌, ℕ, Bool, true, false, Option, Some, None, [], ◌∷◌, refl, sym, ◌∙◌, subst, arith}
use Rattle.uid_names.specs.Names.{IsName}
use Rattle.dom_history.specs.declared.op.Reply.{Reply}
use Rattle.dom_history.specs.Follows.{Heard}
use Rattle.dom_history.specs.Programs.{program_after, asked_by}
use Rattle.dom_history.specs.Ranges.{IsWant}
use Rattle.count_up.specs.declared.counter.Counter.{Counter}
use Rattle.count_up.specs.declared.counter.Step.{Step}
use Rattle.count_up.specs.declared.counter.Step.TheVariants.{Waits, Locks, Loads, Stores, Unlocks, Ends, Fails}
use Rattle.count_up.specs.Counters.{want_at, want_of, is_fine, number_in, loaded, unlocked, after_at, counter_after}

in_range : (step : Step) (c : Counter) → IsName c.uid → IsWant (want_at step c)
in_range Waits c name = tt
in_range Locks c name = name
in_range Loads c name = (name, (omega arith, omega arith))
in_range Stores c name = (name, (omega arith, omega arith))
in_range Unlocks c name = name
in_range Ends c name = tt
in_range Fails c name = tt

loads_same : (number : Option ℕ) (c : Counter) → (loaded number c).uid ≡ c.uid
loads_same None c = refl
loads_same (Some n) c = refl

unlocks_same : (fine : Bool) (c : Counter) → (unlocked fine c).uid ≡ c.uid
unlocks_same true c = refl
unlocks_same false c = refl

-- it stays with its object
same_at : (step : Step) (c : Counter) (told : Option Reply) → (after_at step c told).uid ≡ c.uid
same_at Waits c told = refl
same_at Locks c told = refl
same_at Loads c told = loads_same (number_in told) c
same_at Stores c told = refl
same_at Unlocks c told = unlocks_same (is_fine told) c
same_at Ends c told = refl
same_at Fails c told = refl

same_object : (c : Counter) (heard : Heard) → (program_after counter_after c heard).uid ≡ c.uid
same_object c [] = same_at c.step c None
same_object c (told ∷ heard) = let now = program_after counter_after c heard in same_at now.step now told ∙ same_object c heard

pub asks_in_range : (c : Counter) (heard : Heard) → IsName c.uid → IsWant (asked_by want_of counter_after c heard)
asks_in_range c heard name =
    let now = program_after counter_after c heard in
    in_range now.step now (subst IsName (sym (same_object c heard)) name)
