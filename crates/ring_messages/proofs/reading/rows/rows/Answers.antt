use Rattle.std.proofs.lemmas.Result.{err_from_is_err_and}
use Rattle.ring_messages.specs.ReaderRows.{rows_at}
use Rattle.ring_messages.proofs.Loop.{goes_on, ends, is_done, not_ended, ended}
use Rattle.ring_messages.proofs.reading.rows.rows.Goals as goal

pub returns-in_err-rest : goal.returns-in_err-rest
returns-in_err-rest c =
    let p = err_from_is_err_and c.from_residual.result c.from_residual.ensures.1 in
    rw (p.1, p.2) (ends c.in_err-rest.field-0.0 c.loop.rows c.args.count c.loop.counter c.loop.rest.now (rows_at c.args.count c.args.bytes.now) c.loop-test.true c.in_err-rest.ensures c.loop.invariant)

pub loop-preserved : goal.loop-preserved
loop-preserved c = goes_on c.loop.rows c.push_row.new.rows c.args.count c.loop.counter c.loop.rest.now c.in_ok-rest.rest.now (rows_at c.args.count c.args.bytes.now) c.loop-test.true c.in_ok-rest.ensures c.loop.invariant

pub returns-in_err-end : goal.returns-in_err-end
returns-in_err-end c =
    let p = err_from_is_err_and c.from_residual-in_err-end.result c.from_residual-in_err-end.ensures.1 in
    let all = is_done c.loop.rows c.args.count c.loop.counter c.loop.rest.now (rows_at c.args.count c.args.bytes.now) c.loop-test.false c.loop.invariant in
    rw (p.1, p.2) (not_ended c.in_err-end.field-0.0 c.loop.rows c.loop.rest.now (rows_at c.args.count c.args.bytes.now) all c.in_err-end.ensures)

pub returns : goal.returns
returns c =
    let all = is_done c.loop.rows c.args.count c.loop.counter c.loop.rest.now (rows_at c.args.count c.args.bytes.now) c.loop-test.false c.loop.invariant in
    ended c.loop.rows c.loop.rest.now (rows_at c.args.count c.args.bytes.now) c.in_ok-end.field-0 all c.in_ok-end.ensures
