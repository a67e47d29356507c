use Rattle.std.proofs.Common.{◌≡◌, ◌∙◌, ap, subst, map, length}
use Rattle.std.specs.Prelude.{IfOk, not}
use Rattle.std.specs.List.{count_by}
use Rattle.std.proofs.lemmas.List.{length-map}
use Rattle.script_runner.specs.Reports.{answers_in}
use Rattle.script_runs.specs.Summaries.{is_ok, all_answers, summary_line}
use Rattle.script_runner.proofs.Judged.{count_by-map}
use Rattle.script_runner.proofs.summary.summary.Goals as goal

pub returns : goal.returns
returns c =
    let answers = all_answers (map answers_in c.args.rows.now) in
    let oks : c.as_slice-oks.result.now ≡ map is_ok (all_answers (map answers_in c.args.rows.now)) = c.as_slice-oks.ensures.value ∙ c.in_ok-judged.ensures in
    let commands : length c.as_slice-oks.result.now ≡ length (all_answers (map answers_in c.args.rows.now)) = ap length oks ∙ length-map answers is_ok in
    let ok : c.count_ok.result ≡ count_by is_ok (all_answers (map answers_in c.args.rows.now)) =
    c.count_ok.ensures ∙ (ap (count_by (λ ok. ok)) oks ∙ count_by-map is_ok (λ ok. ok) answers) in
    let other : c.count_other.result ≡ count_by (λ a. not (is_ok a)) (all_answers (map answers_in c.args.rows.now)) =
    c.count_other.ensures ∙ (ap (count_by not) oks ∙ count_by-map is_ok not answers) in
    subst (λ line. IfOk c.line.result (λ text. text ≡ line))
    (ap (λ n. summary_line c.args.seed n c.count_ok.result c.count_other.result) commands
    ∙ (ap (λ n. summary_line c.args.seed (length answers) n c.count_other.result) ok
    ∙ ap (summary_line c.args.seed (length answers) (count_by is_ok answers)) other))
    c.line.ensures
