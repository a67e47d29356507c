use Rattle.std.proofs.Common.{◌∙◌, ap, ◌++◌}
use Rattle.node_texts.specs.Texts.{process_text}
use Rattle.script_runs.specs.Reports.{report_lines}
use Rattle.script_runner.proofs.WrittenLines.{put_lines-more}
use Rattle.script_runner.proofs.report.report.Goals as goal

pub loop-row-preserved : goal.loop-row-preserved
loop-row-preserved c =
    let names = c.args.names.now in
    put_lines-more names c.args.rows.now c.loop-row.row-index c.row-item.result c.loop-row.text c.put_lines.new.to
    c.loop-row-test.true c.row-item.is c.loop-row.invariant
    (c.in_ok-put_lines.ensures ∙ (ap (λ n. c.loop-row.text ++ report_lines n 1 c.items.result.now) (c.bytes.ensures ∙ c.in_ok-name.ensures)
    ∙ ap (λ a. c.loop-row.text ++ report_lines (process_text names c.row-item.result.proc) 1 a) c.items.ensures))
