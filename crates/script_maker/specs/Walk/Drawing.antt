-- The draws of a phase, as they are kept.
use Rattle.std.specs.Prelude.{ℕ, ◌≡◌, ◌<◌, slice_index_or}
use Rattle.script_maker.specs.Generated.{shift_of, offset_of, number_of}
use Rattle.script_maker.specs.declared.phase_draws.PhaseDraws.TheInside.{Inside}

pub record HoldsDraws (d : Inside) : Type 0 where
  pub shift : d.shift ≡ shift_of d.begin
  pub offsets : (q : ℕ) → q < 32 → slice_index_or d.offsets q 0 ≡ offset_of d.begin q
  pub numbers : (q : ℕ) → q < 32 → slice_index_or d.numbers q 0 ≡ number_of d.begin q
