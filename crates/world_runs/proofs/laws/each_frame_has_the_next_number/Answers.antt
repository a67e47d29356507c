use Rattle.std.proofs.Common.{◌≡◌, ◌+◌, IfSome, sym, ap, subst, ◌∙◌}
use Rattle.dom_history.specs.Events.{Happening}
use Rattle.node_runs.specs.Runs.{World}
use Rattle.world_runs.specs.Sendings.{frames_on}
use Rattle.world_runs.proofs.Among.{cons-heads}
use Rattle.world_runs.proofs.Inserting.{event_at}
use Rattle.world_runs.proofs.Turning.{turn-is}
use Rattle.world_runs.proofs.TimelyTurns.{timely-turn}
use Rattle.world_runs.proofs.Numbering.{next-number, turns-number}
use Rattle.world_runs.proofs.laws.each_frame_has_the_next_number.Goals as goal

pub returns : goal.returns
returns c = record {
  number = λ s plan setup cs old new choice before timely now e done.
      let turn = timely-turn s setup plan cs old new before (turn-is s plan old choice new now) timely in
      let it = event_at turn.is.act.node turn.is.act.what turn.is.step in
      subst (λ (x : Happening). IfSome x.effects.sent (λ sent. sent.index ≡ frames_on x.place.node sent.to old.done + 1))
      (cons-heads it e old.done old.done (sym (ap (λ (w : World). w.done) turn.is.world) ∙ done))
      (next-number s setup plan old new turn (turns-number s setup plan cs old before timely));
  counts = λ s plan setup cs w e timely n to node. (turns-number s setup plan cs w e timely).counts n to node;
}
