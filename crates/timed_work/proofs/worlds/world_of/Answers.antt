use Rattle.std.proofs.lemmas.Result.{IfOk-weaker}
use Rattle.timed_work.specs.Teams.{made_round, setup_with}
use Rattle.timed_work.proofs.SettingUp.{are_nodes}
use Rattle.timed_work.proofs.worlds.world_of.Goals as goal

pub new-requires-2 : goal.new-requires-2
new-requires-2 c =
    let s = c.args.script.now in
    let teams = c.in_ok-nodes.ensures.made.0 in
    record {
      nodes = (
        made_round teams,
        setup_with s teams,
        are_nodes s c.in_ok-nodes.ensures.content.0 c.in_ok-nodes.ensures.content.1 teams c.in_ok-nodes.nodes.items c.in_ok-nodes.ensures.made.1 c.in_ok-nodes.ensures.count,
      );
    }

pub returns : goal.returns
returns c =
    let s = c.args.script.now in
    let teams = c.in_ok-nodes.ensures.made.0 in
    let are = are_nodes s c.in_ok-nodes.ensures.content.0 c.in_ok-nodes.ensures.content.1 teams c.in_ok-nodes.nodes.items c.in_ok-nodes.ensures.made.1 c.in_ok-nodes.ensures.count in
    IfOk-weaker c.new-2.result _ _ (λ world stands. (made_round teams, setup_with s teams, stands (made_round teams) (setup_with s teams) are)) c.new-2.ensures.stands
