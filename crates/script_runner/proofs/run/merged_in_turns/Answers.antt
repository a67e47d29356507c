use Rattle.std.specs.Prelude.{Some}
use Rattle.script_runner.proofs.run.merged_in_turns.Goals as goal

pub what_came-requires : goal.what_came-requires
what_came-requires c = record { ended = (Some c.args.number, c.args.last_tick, c.in_ok-ended.ensures.run) }

pub returns-clause-ran : goal.returns-clause-ran
returns-clause-ran c = c.in_ok-what_came.ensures.ran (Some c.args.number) c.args.last_tick c.in_ok-ended.ensures.run
