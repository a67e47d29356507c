use Rattle.run_laws.proofs.OpenFrames.{frames-are}
use Rattle.run_laws.proofs.ends.an_open_call_has_a_frame_on_its_way.Goals as goal

pub returns : goal.returns
returns c = λ s plan setup. frames-are s setup plan
