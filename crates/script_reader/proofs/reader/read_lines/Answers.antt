use Rattle.std.proofs.Common.{rules, ◌≡◌, ◌+◌, true, ℕ, List, length, Ok, Err, refl, sym, ap, subst, ◌∙◌, arith}
use Rattle.std.specs.Prelude.{◌==◌}
use Rattle.std.proofs.lemmas.Bool.{eqb-true}
use Rattle.std.proofs.lemmas.List.{nil_from_length}
use Rattle.dom_text.specs.Answers.{Gives}
use Rattle.script_reader.specs.Grammar.{AreGood, IsFirstBad, raw_lines, without_cr}
use Rattle.script_reader.specs.Judging.{judged}
use Rattle.script_reader.specs.Scripts.{Content}
use Rattle.script_reader.specs.Walk.Results.{line_answer}
use Rattle.script_reader.specs.declared.cause.LineFault.{LineFault}
use Rattle.script_reader.proofs.Reading.{good_step, bad_step, bad_here}
use Rattle.script_reader.proofs.reader.read_lines.Goals as goal

pub loop-rest-init : goal.loop-rest-init
loop-rest-init c = (
  λ end good. subst (λ (s : Content). AreGood s (raw_lines c.args.bytes.now) end) c.in_ok-draft.ensures good,
  λ n cause bad. subst (λ (s : Content). IsFirstBad 1 s (raw_lines c.args.bytes.now) n cause) c.in_ok-draft.ensures bad,
  omega arith,
)

pub loop-rest-preserved : goal.loop-rest-preserved
loop-rest-preserved c =
    let line = c.cut_line.result.0.now in
    let behind = raw_lines c.cut_line.result.1.now in
    let judges : judged c.loop-rest.draft (without_cr line) ≡ Ok c.read_line.new.draft = ap (judged c.loop-rest.draft) (sym c.without_cr.ensures) ∙ c.in-Ok.ensures in (
      λ end good.
          c.loop-rest.invariant.0 end
          (subst (λ (lines : List (List ℕ)). AreGood c.loop-rest.draft lines end) (sym c.cut_line.ensures.lines) (good_step c.loop-rest.draft c.read_line.new.draft line behind end judges good)),
      λ n cause bad.
          c.loop-rest.invariant.1 n cause
          (subst (λ (lines : List (List ℕ)). IsFirstBad (c.loop-rest.number + 1) c.loop-rest.draft lines n cause) (sym c.cut_line.ensures.lines)
          (bad_step (c.loop-rest.number + 1) c.loop-rest.draft c.read_line.new.draft line behind n cause judges bad)),
      omega arith,
    )

pub returns-in-Err-Bad : goal.returns-in-Err-Bad
returns-in-Err-Bad c =
    let line = c.cut_line.result.0.now in
    let told : judged c.loop-rest.draft c.without_cr.result.now ≡ Err c.in-Err-Bad.cause =
    subst (λ (f : LineFault). Gives (line_answer c.read_line.new.draft (Err f)) (judged c.loop-rest.draft c.without_cr.result.now)) c.in-Err-Bad.field-0-is c.in-Err-Bad.ensures in
    let judges : judged c.loop-rest.draft (without_cr line) ≡ Err c.in-Err-Bad.cause = ap (judged c.loop-rest.draft) (sym c.without_cr.ensures) ∙ told in
    record {
      good = tt;
      bad = rw c.in-Err-Bad.field-0-is
          (c.loop-rest.invariant.1 (c.loop-rest.number + 1) c.in-Err-Bad.cause
          (subst (λ (lines : List (List ℕ)). IsFirstBad (c.loop-rest.number + 1) c.loop-rest.draft lines (c.loop-rest.number + 1) c.in-Err-Bad.cause) (sym c.cut_line.ensures.lines)
          (bad_here (c.loop-rest.number + 1) c.loop-rest.draft line (raw_lines c.cut_line.result.1.now) c.in-Err-Bad.cause judges)));
    }

pub returns-in-Err-NoMemory : goal.returns-in-Err-NoMemory
returns-in-Err-NoMemory c = record { good = tt; bad = tt }

pub returns : goal.returns
returns c =
    let test : (length c.loop-rest.rest.now == 0) ≡ true = search rules in
    let none = nil_from_length c.loop-rest.rest.now (eqb-true (length c.loop-rest.rest.now) 0 test) in
    record {
      good = c.loop-rest.invariant.0 c.loop-rest.draft (subst (λ (bytes : List ℕ). AreGood c.loop-rest.draft (raw_lines bytes) c.loop-rest.draft) (sym none) refl);
      bad = tt;
    }
