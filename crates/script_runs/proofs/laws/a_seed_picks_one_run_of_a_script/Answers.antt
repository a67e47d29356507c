use Rattle.std.proofs.Common.{inl, inr, refl}
use Rattle.world_runs.specs.ByPlace.{by_place}
use Rattle.script_runs.specs.Setups.{setup_of}
use Rattle.script_runs.proofs.laws.a_seed_picks_one_run_of_a_script.Goals as goal

pub returns : goal.returns
returns c = record {
  ended = λ s seed last content start most events picked.
      let led = c.a_picked_run_has_ended.ensures (setup_of s) s.plan seed last (c.scripts_set_nodes_up.ensures s content start) content.draft.plan most events picked in
      (led.0, record { run = led.1; timely = led.2 }, led.3);
  either = λ s seed last content start least most. elim (c.turns_end.ensures.either (setup_of s) s.plan (c.scripts_set_nodes_up.ensures s content start) seed last least most) [
    | inl ends ↦ inl (by_place ends.0.done, record { world = ends.0; ends = ends.1; events = refl })
    | inr comes ↦ inr comes
  ];
  ends = λ s seed last w is. (record { world = w; ends = is; events = refl }, refl);
  not_both = λ s seed last node events picked comes. c.turns_end.ensures.not_both (setup_of s) s.plan seed last node picked.world picked.ends comes;
  one = λ s seed last events others picked other. c.a_seed_picks_one_run.ensures.one (setup_of s) s.plan seed last events others picked other;
}
