-- When a post has ended.
use Rattle.std.specs.Prelude.{Bool, false, not, ◌&&◌}
use Rattle.std.specs.List.{list_any}
use Rattle.node_runs.specs.NodeStates.{is_ended}
use Rattle.node_core.specs.Nodes.{given_of, state_of}
use Rattle.wire_links.specs.declared.wire.WireOut.{WireOut}
use Rattle.wire_links.specs.Wires.{outbox}
use Rattle.wire_links.specs.Outboxes.{is_mark}
use Rattle.node_posts.specs.declared.post.Post.{Post}

-- a mark waits to be pushed
abbrev pub holds_mark : WireOut → Bool
holds_mark o = list_any is_mark (outbox o)

-- its node has ended, and no mark is left
abbrev pub has_ended : {P G : Type 0} → Post P G → Bool
has_ended x = is_ended (given_of x.node) (state_of x.node) && not (list_any holds_mark x.outs.items)
