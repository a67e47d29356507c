use Rattle.std.proofs.Common.{sym, ap, ◌∙◌}
use Rattle.dom_history.specs.Events.{Happening}
use Rattle.node_runs.specs.Runs.{World}
use Rattle.world_runs.proofs.Among.{cons-heads}
use Rattle.world_runs.proofs.Inserting.{event_at}
use Rattle.world_runs.proofs.Turning.{turn-is}
use Rattle.world_runs.proofs.TimelyTurns.{timely-turn}
use Rattle.world_runs.proofs.Happening.{turns-marked}
use Rattle.world_runs.proofs.Noticing.{turns-within}
use Rattle.world_runs.proofs.Alone.{enabled-same}
use Rattle.world_runs.specs.Sendings.{sent_by}
use Rattle.world_runs.specs.OpenNotices.{notices_by}
use Rattle.world_runs.proofs.laws.a_node_left_alone_has_the_same_events.Goals as goal

pub returns : goal.returns
returns c = λ s plan setup cs old new choice before timely now e done n alone.
    let turn = timely-turn s setup plan cs old new before (turn-is s plan old choice new now) timely in
    let it = event_at turn.is.act.node turn.is.act.what turn.is.step in
    let same = cons-heads e it old.done old.done (sym done ∙ ap (λ (w : World). w.done) turn.is.world) in
    enabled-same s setup plan old new turn (turns-within s setup plan cs old before timely) (turns-marked s setup plan cs old before timely) n
    (λ h. alone.other (ap (λ (x : Happening). x.place.node) same ∙ h))
    (ap (λ (x : Happening). sent_by x.place.node n x) (sym same) ∙ alone.nothing)
    (ap (λ (x : Happening). notices_by plan new n x old.done) (sym same) ∙ alone.quiet)
