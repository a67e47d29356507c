use Rattle.world_runs.specs.ByPlace.{by_place}
use Rattle.run_laws.proofs.Turned.{like-timely, like-ended}
use Rattle.run_laws.proofs.every.turns_come_to_right_runs.Goals as goal

pub returns : goal.returns
returns c = record {
  planned = c.turns_are_a_run_by_place.ensures.planned;
  right = λ s plan setup kept cs w e timely.
      let led = c.turns_are_a_run_by_place.ensures.leads s plan setup cs w e timely in
      c.every_run_is_right.ensures.timely s setup (by_place w.done) led.0 (c.turns_are_a_run_by_place.ensures.planned s plan setup kept cs w e timely).run led.1
      (like-timely w led.0 led.3 timely);
  ended = λ s plan setup kept cs w e timely ended.
      let led = c.turns_are_a_run_by_place.ensures.leads s plan setup cs w e timely in (
        led.0,
        record {
          planned = c.turns_are_a_run_by_place.ensures.planned s plan setup kept cs w e timely;
          leads = led.1;
          ended = like-ended w led.0 led.3 s ended;
        },
        like-timely w led.0 led.3 timely,
        led.3,
      );
}
