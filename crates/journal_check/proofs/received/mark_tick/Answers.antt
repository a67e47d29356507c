use Rattle.std.proofs.Common.{ap, sym, ◌∙◌}
use Rattle.std.specs.Option.{option_map}
use Rattle.node_runs.specs.Runs as runs
use Rattle.journal_check.proofs.Marks.{mark-found, mark-none, mark-passed}
use Rattle.journal_check.proofs.received.mark_tick.Goals as goal

pub returns-then-is_mark_of : goal.returns-then-is_mark_of
returns-then-is_mark_of c =
    let m = c.index-marks-at.result in
    let test = sym c.if-is_mark_of.ensures in
    sym (ap (option_map (λ (x : runs.SentMark). x.tick)) (c.loop-i.invariant ∙ mark-found c.args.from c.args.phase c.args.marks.now c.loop-i.i m c.loop-i-test.true c.index-marks-at.is test))

pub loop-i-preserved : goal.loop-i-preserved
loop-i-preserved c =
    let m = c.index-marks-at.result in
    c.loop-i.invariant ∙ mark-passed c.args.from c.args.phase c.args.marks.now c.loop-i.i m c.loop-i-test.true c.index-marks-at.is (sym c.if-is_mark_of.ensures)

pub returns : goal.returns
returns c = sym (ap (option_map (λ (x : runs.SentMark). x.tick)) (c.loop-i.invariant ∙ mark-none c.args.from c.args.phase c.args.marks.now c.loop-i.i c.loop-i-test.false))
