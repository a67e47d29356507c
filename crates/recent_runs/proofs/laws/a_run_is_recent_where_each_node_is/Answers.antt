use Rattle.recent_runs.proofs.Running.{named-are}
use Rattle.recent_runs.proofs.Owning.{own-named}
use Rattle.recent_runs.proofs.laws.a_run_is_recent_where_each_node_is.Goals as goal
use Rattle.world_runs.proofs.LostFrames.{done-is}

pub returns : goal.returns
returns c = λ s setup es w is run timely are. named-are s setup es w run (done-is s es w is run) timely (own-named s w es w run (λ n what i h. h) are)
