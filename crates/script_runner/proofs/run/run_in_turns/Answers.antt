use Rattle.std.proofs.Common.{◌∙◌}
use Rattle.std.proofs.lemmas.Result.{IfOk-weaker}
use Rattle.script_runs.specs.Setups.{setup_of}
use Rattle.script_runner.specs.Nodes.{made_shell}
use Rattle.script_runner.proofs.RanNodes.{run_found, limit_found, shells_of_turns}
use Rattle.script_runner.proofs.run.run_in_turns.Goals as goal

pub new-requires : goal.new-requires
new-requires c = let s = c.args.script.now in record { nodes = (made_shell s, setup_of s, c.in_ok-nodes.ensures) }

pub run_merged-requires-clause-stands : goal.run_merged-requires-clause-stands
run_merged-requires-clause-stands c =
    let s = c.args.script.now in
    (made_shell s, setup_of s, c.in_ok-world.ensures.stands (made_shell s) (setup_of s) c.in_ok-nodes.ensures)

pub returns-clause-run : goal.returns-clause-run
returns-clause-run c =
    let s = c.args.script.now in
    IfOk-weaker c.run_merged.result _ _
    (λ r is.
    shells_of_turns s c.opening.ensures.content c.args.number c.args.last_tick r.0.events r.1.items is c.a_seed_picks_one_run_of_a_script.ensures.not_both)
    (run_found (λ r. r.0.events) (λ r. r.1.items) s c.args.number c.args.last_tick c.in_ok-world.world c.run_merged.result
    (c.in_ok-world.ensures.stands (made_shell s) (setup_of s) c.in_ok-nodes.ensures)
    (c.in_ok-world.ensures.plan ∙ (c.in_ok-plan.ensures ∙ c.plan.ensures.value)) c.run_merged.ensures.run)

pub returns-clause-limit : goal.returns-clause-limit
returns-clause-limit c =
    let s = c.args.script.now in
    limit_found s c.args.number c.args.last_tick c.in_ok-world.world c.run_merged.result
    (c.in_ok-world.ensures.stands (made_shell s) (setup_of s) c.in_ok-nodes.ensures)
    (c.in_ok-world.ensures.plan ∙ (c.in_ok-plan.ensures ∙ c.plan.ensures.value)) c.run_merged.ensures.limit
