use Rattle.journal_check.proofs.Verdicts.{verdict-no, verdict-only, verdict-yes}
use Rattle.journal_check.proofs.verdict.check.Goals as goal

pub returns : goal.returns
returns g c =
    let verdict = c.judged.ensures in
    record {
      yes = λ made s given. verdict-yes g.P.Program.wants g.P.Program.becomes made s c.args.journal.now c.judged.result (verdict made s given);
      no = λ made s given. verdict-no g.P.Program.wants g.P.Program.becomes made s c.args.journal.now c.judged.result (verdict made s given);
      only = λ made s given accepted. verdict-only g.P.Program.wants g.P.Program.becomes made s c.args.journal.now c.judged.result (verdict made s given)
          (λ line cause no. c.a_journal_has_one_verdict.ensures.never_both s c.args.journal.now line cause given.can accepted no);
    }
