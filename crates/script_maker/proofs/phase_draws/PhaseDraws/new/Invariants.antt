use Rattle.std.proofs.Common.{◌≡◌, ◌<◌, ℕ, ◌+◌, ◌*◌, length, slice_index_or}
use Rattle.script_maker.specs.Generated.{number_of, offset_of, state_behind}
use Rattle.script_maker.proofs.phase_draws.PhaseDraws.new.Given as goal

abbrev pub invariant-loop-q : goal.invariant-loop-q
invariant-loop-q l = record {
  state : l.draws ≡ state_behind l.begin (2 * l.q + 1);
  offsets_kept : length l.offsets ≡ 32;
  numbers_kept : length l.numbers ≡ 32;
  offsets : (p : ℕ) → p < l.q → slice_index_or l.offsets p 0 ≡ offset_of l.begin p;
  numbers : (p : ℕ) → p < l.q → slice_index_or l.numbers p 0 ≡ number_of l.begin p;
}
