use Rattle.std.proofs.Common.{sym, subst}
use Rattle.std.specs.Prelude.{IfOk, IfErr}
use Rattle.script_runner.specs.Faults.{IsFaultOf}
use Rattle.script_runner.specs.Reports.{RunOf}
use Rattle.script_runner.proofs.run.run_merged.Goals as goal

pub returns-in-Some-clause-ran : goal.returns-in-Some-clause-ran
returns-in-Some-clause-ran g c =
    subst (λ turns. IfOk c.merged_in_turns.result (λ ran. RunOf c.args.script.now turns c.args.last_tick (record { events = ran.events.events; answers = ran.answers }))) (sym c.in-Some.is) c.merged_in_turns.ensures.ran

pub returns-in-Some-clause-limit : goal.returns-in-Some-clause-limit
returns-in-Some-clause-limit g c =
    subst (λ turns. IfErr c.merged_in_turns.result (IsFaultOf c.args.script.now turns c.args.last_tick)) (sym c.in-Some.is) c.merged_in_turns.ensures.limit

pub returns-in-None-clause-ran : goal.returns-in-None-clause-ran
returns-in-None-clause-ran g c =
    subst (λ turns. IfOk c.merged_in_threads.result (λ ran. RunOf c.args.script.now turns c.args.last_tick (record { events = ran.events.events; answers = ran.answers }))) (sym c.in-None.is) c.merged_in_threads.ensures.ran

pub returns-in-None-clause-limit : goal.returns-in-None-clause-limit
returns-in-None-clause-limit g c =
    subst (λ turns. IfErr c.merged_in_threads.result (IsFaultOf c.args.script.now turns c.args.last_tick)) (sym c.in-None.is) c.merged_in_threads.ensures.limit
