-- A source of more bytes than are checked.
use Rattle.std.proofs.Common.{◌≡◌, ◌+◌, ℕ, Option, Some, None, List, inl, inr, refl, arith}
use Rattle.dom_io.specs.Known.{Exceeds, left_after}
use Rattle.script_reader.specs.declared.cause.Cause.TheVariants.{TooLong}
use Rattle.journal_check.specs.declared.verdict.TheConstants.{JOURNAL_BYTES}
use Rattle.script_runner.specs.Checking.{IsSaidOfSource}
use Rattle.script_runner.specs.Domain.{refusal}
use Rattle.script_runner.specs.Outside.{from_to}
use Rattle.script_runner.proofs.Sourced.{zeros, length-zeros}

-- that is said of it
pub too_many_said : (before after : Option (List ℕ)) (text : List ℕ) → Exceeds before JOURNAL_BYTES → after ≡ left_after (JOURNAL_BYTES + 1) before → text ≡ refusal 0 TooLong → IsSaidOfSource (from_to before after) 3 text
too_many_said None after text exceeds taken is =
    let many = length-zeros (JOURNAL_BYTES + 1) in
    record {
      bytes = zeros (JOURNAL_BYTES + 1);
      are_left = tt;
      taken = inr (omega (arith, many), taken);
      said = inl (record { long = omega (arith, many); status_is = refl; text_is = is });
    }
too_many_said (Some left) after text exceeds taken is = record {
  bytes = left;
  are_left = refl;
  taken = inr (exceeds, taken);
  said = inl (record { long = exceeds; status_is = refl; text_is = is });
}
