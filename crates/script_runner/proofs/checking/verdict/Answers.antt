use Rattle.std.proofs.Common.{◌∙◌, ℕ, inl, inr, length, map, refl, ap, subst}
use Rattle.script_runs.specs.Reports.{lines_of, names_of}
use Rattle.journal_check.specs.Verdicts.{cause_seen, IsRefused}
use Rattle.script_runner.specs.Checking.{yes_text}
use Rattle.script_runner.specs.Domain.{line_text}
use Rattle.script_runner.specs.Reports.{answers_in}
use Rattle.script_runner.proofs.checking.verdict.Goals as goal

pub returns-in_ok-yes-in-Ok : goal.returns-in_ok-yes-in-Ok
returns-in_ok-yes-in-Ok c =
    let s = c.args.script.now in
    let is = c.in-Ok.ensures.yes in
    inl (record {
      events = is.events;
      world = is.world;
      is = is.is;
      one_store = is.one_store;
      status_is = refl;
      text_is = c.in_ok-yes-in-Ok.ensures
          ∙ (ap (λ (n : ℕ). yes_text n (lines_of (names_of s) (map answers_in c.in-Ok.checked.answers))) is.count
          ∙ ap (λ rows. yes_text (length is.events) (lines_of (names_of s) rows)) is.answered);
    })

pub returns-in_ok-line_text-in-Err-No : goal.returns-in_ok-line_text-in-Err-No
returns-in_ok-line_text-in-Err-No c =
    inr (record {
      line = c.in-Err-No.line;
      cause = cause_seen c.in-Err-No.cause;
      no = subst (IsRefused c.args.script.now c.args.journal.now) c.in-Err-No.field-0-is c.in-Err-No.ensures.no;
      status_is = refl;
      text_is = c.in_ok-line_text-in-Err-No.ensures ∙ ap (line_text c.in-Err-No.line) c.text.ensures;
    })
