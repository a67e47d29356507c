use Rattle.std.specs.Prelude.{None}
use Rattle.script_runner.proofs.run.merged_in_threads.Goals as goal

pub what_came-requires : goal.what_came-requires
what_came-requires g c = record { ended = (None, c.args.last_tick, c.in_ok-ended.ensures.run) }

pub returns-clause-ran : goal.returns-clause-ran
returns-clause-ran g c = c.in_ok-what_came.ensures.ran None c.args.last_tick c.in_ok-ended.ensures.run
