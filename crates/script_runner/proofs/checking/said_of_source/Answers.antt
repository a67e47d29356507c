use Rattle.std.proofs.Common.{◌≤◌, inl, inr, length, ap, sym, subst, Err, rules}
use Rattle.journal_check.specs.declared.verdict.TheConstants.{JOURNAL_BYTES}
use Rattle.script_runner.proofs.Saying.{too_many_said}
use Rattle.script_runner.proofs.checking.said_of_source.Goals as goal

pub returns-in_ok-refusal-in-Err-TooLong-clause-said : goal.returns-in_ok-refusal-in-Err-TooLong-clause-said
returns-in_ok-refusal-in-Err-TooLong-clause-said g c =
    too_many_said (g.S.Source.left c.args.source.now) (g.S.Source.left c.read_all.new.source) c.in_ok-refusal-in-Err-TooLong.field-0
    (c.in-Err-TooLong.ensures.too_long (ap Err c.in-Err-TooLong.field-0-is)) (c.in-Err-TooLong.ensures.too_long_rest (ap Err c.in-Err-TooLong.field-0-is)) c.in_ok-refusal-in-Err-TooLong.ensures

pub returns-in_ok-said_of-in-Ok-clause-said : goal.returns-in_ok-said_of-in-Ok-clause-said
returns-in_ok-said_of-in-Ok-clause-said g c =
    let few : length c.bytes.result.now ≤ JOURNAL_BYTES = subst (λ list. length list ≤ JOURNAL_BYTES) (sym c.bytes.ensures) c.in-Ok.ensures.within in
    record {
      bytes = c.bytes.result.now;
      are_left = search (rules, c.in-Ok.ensures.all, c.bytes.ensures);
      taken = inl (few, c.in-Ok.ensures.end);
      said = inr (few, c.in_ok-said_of-in-Ok.ensures);
    }
