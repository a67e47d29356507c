-- Draws from a seed: they look like chance, and are the same at each run.
use Rattle.std.specs.Prelude.{ℕ, zero, suc, ◌+◌, ◌*◌, ◌/◌, ◌%◌, ◌^◌}

-- the state behind a draw
abbrev pub next_state : ℕ → ℕ
next_state state = (state * 6364136223846793005 + 1442695040888963407) % 2 ^ 64

-- the state behind so many draws
abbrev pub state_after : ℕ → ℕ → ℕ
state_after seed zero = seed
state_after seed (suc k) = next_state (state_after seed k)

-- the number that the draw gives which led to this state
abbrev pub drawn : ℕ → ℕ
drawn state = state / 2 ^ 33

-- the number that it gives below a bound
abbrev pub drawn_below : ℕ → ℕ → ℕ
drawn_below state bound = drawn state % bound
