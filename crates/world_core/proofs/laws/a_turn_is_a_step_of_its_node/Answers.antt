use Rattle.world_core.proofs.Turning.{turn-of}
use Rattle.world_core.proofs.laws.a_turn_is_a_step_of_its_node.Goals as goal

pub returns : goal.returns
returns c = turn-of
