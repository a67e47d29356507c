use Rattle.world_core.proofs.laws.turns_are_right_so_far.Goals as goal

pub returns : goal.returns
returns c = λ s plan setup kept cs w turns timely. record {
  planned = c.turns_come_to_right_runs.ensures.planned s plan setup kept cs w turns timely;
  leads = let led = c.turns_are_a_run_by_place.ensures.leads s plan setup cs w turns timely in (led.0, led.1, led.3);
  right = c.turns_come_to_right_runs.ensures.right s plan setup kept cs w turns timely;
  ended = c.turns_come_to_right_runs.ensures.ended s plan setup kept cs w turns timely;
  recent = c.turns_are_recent.ensures.turns s setup plan cs w turns timely;
}
