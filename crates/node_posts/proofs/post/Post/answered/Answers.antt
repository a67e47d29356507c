use Rattle.std.proofs.Common.{◌∙◌, sym}
use Rattle.uid_names.proofs.Somes.{none-there}
use Rattle.node_posts.proofs.Asking.{run-live}
use Rattle.node_posts.proofs.post.Post.answered.Goals as goal

pub count_answered-requires : goal.count_answered-requires
count_answered-requires g c = record {
  live =
      run-live g.P.Program.wants g.P.Program.becomes c.requires.run.0 c.args.self.now (none-there c.args.self.now.fault (sym c.has_fault.ensures ∙ c.if-has_fault.false))
      c.requires.run.1;
}
