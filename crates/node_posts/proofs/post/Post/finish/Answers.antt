use Rattle.std.proofs.Common.{refl}
use Rattle.node_posts.proofs.Going.{unpushed-none}
use Rattle.node_posts.proofs.post.Post.finish.Goals as goal

pub returns-then-tick-last_tick-clause-beside : goal.returns-then-tick-last_tick-clause-beside
returns-then-tick-last_tick-clause-beside g c = record { ins = refl; outs = unpushed-none c.args.self.now.outs.items }
