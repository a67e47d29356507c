use Rattle.std.proofs.Common.{[], inl, inr, refl, sym, rules, arith}
use Rattle.std.proofs.KnownBytes.{prepend_known-nil}
use Rattle.script_runner.specs.Outside.{over}
use Rattle.script_runner.specs.Words.{AskToRun, AskToCheck}
use Rattle.script_runner.specs.Domain.{usage}
use Rattle.script_runner.specs.Promises.{Promised}
use Rattle.script_runner.proofs.Asking.{of_each, run_or_check}
use Rattle.script_runner.proofs.Promising.{text_statuses, never_falls}
use Rattle.script_runner.proofs.domain.run_domain.Goals as goal

pub returns-in_default : goal.returns-in_default
returns-in_default g c =
    let script = over g.S.Source.left g.S.Source.faults c.args.script.now c.args.script.now in
    let out = over g.O.Sink.held g.O.Sink.faults c.args.out.now c.write_text.new.out in
    let journal = over g.J.Sink.held g.J.Sink.faults c.args.journal.now c.args.journal.now in
    let left = g.S.Source.left c.args.script.now in
    let runs : AskToRun c.args.words.now → ⊥ = search rules in
    let checks : AskToCheck c.args.words.now → ⊥ = search rules in
    record {
      statuses = λ _. text_statuses script out journal usage 2 c.write_text.result refl refl (λ five. absurd (omega (arith, five))) c.write_text.ensures.either refl
          ([], omega arith, sym (prepend_known-nil left)) (never_falls script refl) c.write_text.ensures.count;
      words_refused = λ _. record { written = c.write_text.ensures.either; unread = refl };
      kept = λ a are. absurd (runs (a, are));
      checked = λ are. absurd (checks are);
      checked_alone = λ are. absurd (checks are);
    }

pub returns : goal.returns
returns g c =
    let script = over g.S.Source.left g.S.Source.faults c.args.script.now c.run_asked.new.script in
    let out = over g.O.Sink.held g.O.Sink.faults c.args.out.now c.run_asked.new.out in
    let journal = over g.J.Sink.held g.J.Sink.faults c.args.journal.now c.run_asked.new.journal in
    let checks : AskToCheck c.args.words.now → ⊥ = search rules in
    record {
      statuses = λ _. c.run_asked.ensures.statuses;
      words_refused = λ refused. absurd (refused (inl (c.in-Some.asked, c.in-Some.ensures)));
      kept = of_each c.args.words.now c.in-Some.asked c.in-Some.ensures (λ a. Promised a script out journal c.run_asked.result) c.run_asked.ensures.kept;
      checked = λ are. absurd (checks are);
      checked_alone = λ are. absurd (checks are);
    }

pub returns-then-ask_to_check : goal.returns-then-ask_to_check
returns-then-ask_to_check g c =
    let checks : AskToCheck c.args.words.now = search rules in
    record {
      statuses = λ never. absurd (never checks);
      words_refused = λ refused. absurd (refused (inr checks));
      kept = λ a are. absurd (run_or_check c.args.words.now a are checks);
      checked = λ _. c.check_source.ensures;
      checked_alone = λ _. refl;
    }
