use Rattle.std.proofs.Common.{◌≡◌, ◌<◌, suc, ◌+◌, ◌*◌, length, length-set, ap, sym, ◌∙◌, arith, rules}
use Rattle.drawn_numbers.specs.Draws.{drawn_below, next_state}
use Rattle.script_maker.specs.Generated.{number_of, offset_of, state_behind}
use Rattle.script_maker.proofs.Generating.{draw_number, draw_offset, draws_on, first_draw, one_more}
use Rattle.script_maker.proofs.phase_draws.PhaseDraws.new.Goals as goal

pub loop-q-init : goal.loop-q-init
loop-q-init c = record {
  state = first_draw c.state-begin.result c.below-shift.new.self (c.below-shift.ensures.state ∙ ap next_state (sym c.state-begin.ensures));
  offsets_kept = search rules;
  numbers_kept = search rules;
  offsets = λ p below. absurd (omega (arith, below));
  numbers = λ p below. absurd (omega (arith, below));
}

pub loop-q-preserved : goal.loop-q-preserved
loop-q-preserved c =
    let begin = c.state-begin.result in
    let q = c.loop-q.q in
    let next : c.below-offset.new.self ≡ state_behind begin (suc (2 * q + 1)) = draw_offset begin q c.loop-q.draws c.below-offset.new.self c.loop-q.invariant.state c.below-offset.ensures.state in
    let last : c.below-number.new.self ≡ state_behind begin (suc (2 * q + 2)) = draw_number begin q c.below-offset.new.self c.below-number.new.self next c.below-number.ensures.state in
    let in_offsets : q < length c.loop-q.offsets = omega arith in
    let in_numbers : q < length c.loop-q.numbers = omega arith in record {
      state = draws_on begin q c.below-number.new.self last;
      offsets_kept = length-set c.loop-q.offsets q c.below-offset.result ∙ c.loop-q.invariant.offsets_kept;
      numbers_kept = length-set c.loop-q.numbers q c.below-number.result ∙ c.loop-q.invariant.numbers_kept;
      offsets = one_more c.loop-q.offsets (offset_of begin) q c.below-offset.result in_offsets c.loop-q.invariant.offsets (c.below-offset.ensures.value ∙ ap (λ s. drawn_below s 4000) next);
      numbers = one_more c.loop-q.numbers (number_of begin) q c.below-number.result in_numbers c.loop-q.invariant.numbers (c.below-number.ensures.value ∙ ap (λ s. drawn_below s 100000000) last);
    }

pub invariant_of-result : goal.invariant_of-result
invariant_of-result c =
    let first = first_draw c.state-begin.result c.below-shift.new.self (c.below-shift.ensures.state ∙ ap next_state (sym c.state-begin.ensures)) in
    let end : c.loop-q.q ≡ 32 = omega arith in record {
      shift = c.below-shift.ensures.value ∙ ap (λ s. drawn_below s 32) first;
      offsets = λ p below. c.loop-q.invariant.offsets p (omega (arith, end, below));
      numbers = λ p below. c.loop-q.invariant.numbers p (omega (arith, end, below));
    }
