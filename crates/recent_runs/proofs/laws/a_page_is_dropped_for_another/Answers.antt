use Rattle.recent_runs.proofs.Judging.{event-judged}
use Rattle.recent_runs.proofs.laws.a_page_is_dropped_for_another.Goals as goal
use Rattle.world_runs.proofs.LostFrames.{done-is}

pub returns : goal.returns
returns c = λ s setup e es w is run timely x more sent dropped sends. event-judged x more sent s setup e es w run (done-is s _ w is run) timely dropped sends
