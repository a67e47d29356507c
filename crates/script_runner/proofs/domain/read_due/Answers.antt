use Rattle.std.proofs.Common.{◌≤◌, length, sym, ap, subst, Err, rules}
use Rattle.uid_names.specs.declared.limits.TheConstants.{SCRIPT_BYTES}
use Rattle.script_reader.specs.Grammar.{IsBad}
use Rattle.script_reader.specs.Faults.{IsRefusal}
use Rattle.script_reader.specs.declared.cause.Cause.TheVariants.{TooLong}
use Rattle.script_runner.specs.declared.words.Asked.TheVariants.{Reads}
use Rattle.script_runner.specs.Outside.{from_to}
use Rattle.script_runner.specs.Domain.{IsSourceOf}
use Rattle.script_runner.proofs.Sourced.{too_long_is_bad, all_taken}
use Rattle.script_runner.proofs.Due.{limit_for, no_read_fault}
use Rattle.script_runner.proofs.domain.read_due.Goals as goal

pub returns-in-Err-TooLong-clause-due : goal.returns-in-Err-TooLong-clause-due
returns-in-Err-TooLong-clause-due g c = record {
  line = 0;
  cause = TooLong;
  bad = too_long_is_bad (g.S.Source.left c.args.script.now) (g.S.Source.left c.read_all.new.source) (c.in-Err-TooLong.ensures.too_long (ap Err c.in-Err-TooLong.field-0-is))
      (c.in-Err-TooLong.ensures.too_long_rest (ap Err c.in-Err-TooLong.field-0-is));
  written = c.in_ok-refusal-in-Err-TooLong.ensures;
}

pub returns-in-Ok-read_script-clause-due : goal.returns-in-Ok-read_script-clause-due
returns-in-Ok-read_script-clause-due g c =
    let left = from_to (g.S.Source.left c.args.script.now) (g.S.Source.left c.read_all.new.source) in
    let source : IsSourceOf left c.in-Ok-read_script.read = record { bytes = c.bytes.result.now; are_left = search (rules, c.in-Ok.ensures.all, c.bytes.ensures); form = c.in-Ok-read_script.ensures.script; at_end = c.in-Ok.ensures.end } in
    c.run_due.ensures.due left source

pub returns-in-Ok-read_script-clause-read_fault : goal.returns-in-Ok-read_script-clause-read_fault
returns-in-Ok-read_script-clause-read_fault g c = λ is. absurd (no_read_fault c.in-Ok-read_script.read c.args.turns c.run_due.result c.run_due.ensures.end is)

pub returns-in-Ok-read_script-clause-limit : goal.returns-in-Ok-read_script-clause-limit
returns-in-Ok-read_script-clause-limit g c =
    let left = from_to (g.S.Source.left c.args.script.now) (g.S.Source.left c.read_all.new.source) in
    let source : IsSourceOf left c.in-Ok-read_script.read = record { bytes = c.bytes.result.now; are_left = search (rules, c.in-Ok.ensures.all, c.bytes.ensures); form = c.in-Ok-read_script.ensures.script; at_end = c.in-Ok.ensures.end } in
    limit_for (Reads c.args.turns) left c.in-Ok-read_script.read c.run_due.result source c.run_due.ensures.end

pub returns-in-Err-Bad-clause-due : goal.returns-in-Err-Bad-clause-due
returns-in-Err-Bad-clause-due g c =
    let left = from_to (g.S.Source.left c.args.script.now) (g.S.Source.left c.read_all.new.source) in
    let bytes = c.bytes.result.now in
    let bad : IsBad c.bytes.result.now c.in-Err-Bad.line c.in-Err-Bad.cause = subst (IsRefusal c.bytes.result.now) c.in-Err-Bad.field-0-is c.in-Err-Bad.ensures.bad in
    let few : length c.bytes.result.now ≤ SCRIPT_BYTES = subst (λ list. length list ≤ SCRIPT_BYTES) (sym c.bytes.ensures) c.in-Ok.ensures.within in
    record {
      line = c.in-Err-Bad.line;
      cause = c.in-Err-Bad.cause;
      bad = record {
        bytes = bytes;
        are_left = search (rules, c.in-Ok.ensures.all, c.bytes.ensures);
        bad = bad;
        taken = all_taken left bytes c.in-Err-Bad.line c.in-Err-Bad.cause few bad c.in-Ok.ensures.end;
      };
      written = rw c.in-Err-Bad.field-0-is at c.in_ok-refusal-in-Err-Bad.ensures;
    }
