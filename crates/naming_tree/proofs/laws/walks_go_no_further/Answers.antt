use Rattle.naming_tree.proofs.WalksBounded.{walk_bounded}
use Rattle.naming_tree.proofs.laws.walks_go_no_further.Goals as goal

pub returns-clause-bounded : goal.returns-clause-bounded
returns-clause-bounded c = walk_bounded
