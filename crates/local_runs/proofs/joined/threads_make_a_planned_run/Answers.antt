use Rattle.std.proofs.Common.{ap, ◌∙◌}
use Rattle.node_runs.specs.Setups.{given}
use Rattle.node_runs.specs.NodeStates.{is_ended}
use Rattle.local_runs.specs.Posts.{own_of, world_at}
use Rattle.local_runs.proofs.joined.threads_make_a_planned_run.Goals as goal

pub returns-clause-planned : goal.returns-clause-planned
returns-clause-planned c s plan posts es are kept merge =
    c.delivered_local_runs_are_planned.ensures s plan (own_of s posts) (world_at s posts) es
    (c.served_posts_are_local_runs.ensures.runs s plan posts are) kept (c.served_posts_are_local_runs.ensures.delivered s plan posts are) merge

pub returns-clause-leads : goal.returns-clause-leads
returns-clause-leads c s plan posts es are merge =
    c.local_runs_are_one_run.ensures.leads s (own_of s posts) (world_at s posts) es (c.served_posts_are_local_runs.ensures.runs s plan posts are) merge

pub returns-clause-ended : goal.returns-clause-ended
returns-clause-ended c s plan posts es are kept merge ended =
    let runs = c.served_posts_are_local_runs.ensures.runs s plan posts are in
    let led = c.local_runs_are_one_run.ensures.leads s (own_of s posts) (world_at s posts) es runs merge in
    let planned = c.delivered_local_runs_are_planned.ensures s plan (own_of s posts) (world_at s posts) es runs kept (c.served_posts_are_local_runs.ensures.delivered s plan posts are) merge in
    (led.0, record { planned = planned; leads = led.1; ended = λ n node. ap (is_ended (given s n)) (led.3.nodes n) ∙ ended n node }, led.3)
