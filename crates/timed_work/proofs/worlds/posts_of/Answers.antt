use Rattle.std.proofs.Common.{arith}
use Rattle.std.specs.Prelude.{◌^◌}
use Rattle.std.proofs.lemmas.Result.{IfOk-weaker}
use Rattle.timed_work.specs.Teams.{made_round, setup_with}
use Rattle.timed_work.proofs.SettingUp.{are_nodes_of_posts}
use Rattle.timed_work.proofs.worlds.posts_of.Goals as goal

pub make_posts-requires : goal.make_posts-requires
make_posts-requires c =
    let s = c.args.script.now in
    let teams = c.in_ok-nodes.ensures.made.0 in
    record {
      nodes = (
        made_round teams,
        setup_with s teams,
        are_nodes_of_posts s c.in_ok-nodes.ensures.content.0 c.in_ok-nodes.ensures.content.1 teams c.in_ok-nodes.nodes.items c.in_ok-nodes.ensures.made.1 c.in_ok-nodes.ensures.count,
      );
    }

pub returns-clause-posts : goal.returns-clause-posts
returns-clause-posts c =
    let s = c.args.script.now in
    let teams = c.in_ok-nodes.ensures.made.0 in
    let are = are_nodes_of_posts s c.in_ok-nodes.ensures.content.0 c.in_ok-nodes.ensures.content.1 teams c.in_ok-nodes.nodes.items c.in_ok-nodes.ensures.made.1 c.in_ok-nodes.ensures.count in
    IfOk-weaker c.make_posts.result _ _ (λ posts have. (made_round teams, setup_with s teams, c.new-plan.result, have (2 ^ 40) (omega arith) (made_round teams) (setup_with s teams) are)) c.make_posts.ensures.posts
