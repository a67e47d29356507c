use Rattle.std.proofs.Common.{◌≡◌, sym, ap, subst, ◌∙◌}
use Rattle.dom_history.specs.Events.{Happening}
use Rattle.node_runs.specs.Runs.{World}
use Rattle.world_runs.specs.OpenNotices.{open_notices, notices_kept}
use Rattle.world_runs.proofs.Among.{cons-heads}
use Rattle.world_runs.proofs.Inserting.{event_at}
use Rattle.world_runs.proofs.Turning.{turn-is}
use Rattle.world_runs.proofs.TimelyTurns.{timely-turn}
use Rattle.world_runs.proofs.Noticing.{open-kept, turns-within}
use Rattle.world_runs.proofs.laws.open_notices_are_kept.Goals as goal

pub returns : goal.returns
returns c = λ s plan setup cs old new choice before timely now e done n.
    let turn = timely-turn s setup plan cs old new before (turn-is s plan old choice new now) timely in
    let it = event_at turn.is.act.node turn.is.act.what turn.is.step in
    subst (λ (x : Happening). open_notices s plan new n ≡ notices_kept s plan old new n x)
    (cons-heads it e old.done old.done (sym (ap (λ (w : World). w.done) turn.is.world) ∙ done))
    (open-kept s setup plan old new turn (turns-within s setup plan cs old before timely) n)
