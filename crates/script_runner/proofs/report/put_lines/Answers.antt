use Rattle.std.proofs.Common.{◌∙◌, ◌+◌, ap, ◌++◌}
use Rattle.script_runs.specs.Reports.{report_line}
use Rattle.script_runner.proofs.WrittenLines.{put_line-more}
use Rattle.script_runner.proofs.report.put_lines.Goals as goal

pub loop-i-preserved : goal.loop-i-preserved
loop-i-preserved c =
    put_line-more c.args.to.now c.args.process.now c.args.answers.now c.loop-i.i c.index-answers-i.result c.loop-i.to c.put_line.new.to
    c.loop-i-test.true c.index-answers-i.is c.loop-i.invariant
    (c.in_ok-put_line.ensures ∙ ap (λ a. c.loop-i.to ++ report_line c.args.process.now (c.loop-i.i + 1) a) c.bytes.ensures)
