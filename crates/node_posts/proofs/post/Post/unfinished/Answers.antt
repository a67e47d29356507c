use Rattle.node_posts.proofs.Asking.{none-begins}
use Rattle.node_posts.proofs.post.Post.unfinished.Goals as goal

pub returns-clause-none : goal.returns-clause-none
returns-clause-none g c = none-begins c.args.self.now.node c.args.proc c.count_answered.result c.count_answered.ensures.none
