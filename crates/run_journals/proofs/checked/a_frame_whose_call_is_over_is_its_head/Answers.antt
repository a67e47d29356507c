use Rattle.std.proofs.Common.{refl}
use Rattle.run_journals.proofs.Over.{step-over, over-stays}
use Rattle.run_journals.proofs.checked.a_frame_whose_call_is_over_is_its_head.Goals as goal

pub returns : goal.returns
returns c = record {
  enabled = λ g n from index m. refl;
  step = step-over;
  stays = over-stays;
}
