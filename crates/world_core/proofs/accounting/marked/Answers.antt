use Rattle.std.proofs.Common.{rules}
use Rattle.world_core.proofs.accounting.marked.Goals as goal

pub returns : goal.returns
returns c = search rules
