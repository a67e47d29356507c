use Rattle.std.proofs.Common.{◌∙◌}
use Rattle.script_runs.specs.Setups.{setup_of}
use Rattle.run_views.proofs.RisingRuns.{recent-again}
use Rattle.run_views.proofs.runs.run_in_turns.Goals as goal

pub views_of-requires-clause-run : goal.views_of-requires-clause-run
views_of-requires-clause-run c =
    let ran = c.in_ok-ran.ensures.ran in
    recent-again (setup_of c.args.script.now) ran.events c.items.result.now ran.run.run.planned.run ran.recent (c.items.ensures ∙ ran.by_place)

pub returns-clause-run : goal.returns-clause-run
returns-clause-run c =
    let ran = c.in_ok-ran.ensures.ran in
    record { events = ran.events; picked = ran.picked; are = c.in_ok-run.ensures.events ∙ (c.items.ensures ∙ ran.by_place) }
