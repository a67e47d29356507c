use Rattle.std.proofs.Common.{◌<◌, length, refl, subst, sym, rules}
use Rattle.wire_links.specs.declared.wire.WireOut.{WireOut}
use Rattle.node_posts.specs.Sending.{IsFlushed}
use Rattle.node_posts.proofs.Zips.{all-same, all-set}
use Rattle.node_posts.proofs.Going.{same-out}
use Rattle.node_posts.proofs.flushing.flush_at.Goals as goal

still : (x : WireOut) → IsFlushed x x
still x = record { same = same-out x; wire = refl }

pub returns-then-at-len : goal.returns-then-at-len
returns-then-at-len c = all-same IsFlushed still c.args.outs.now.items

pub returns-then-before-eq0 : goal.returns-then-before-eq0
returns-then-before-eq0 c = all-same IsFlushed still c.args.outs.now.items

pub returns : goal.returns
returns c =
    let within : c.args.at < length c.args.outs.now.items = search rules in
    all-set IsFlushed still c.args.outs.now.items c.args.at c.flush.new.self c.index_mut.result.now within
    (subst (λ (o : WireOut). IsFlushed o c.flush.new.self) c.index_mut.ensures.value (record { same = c.flush.ensures.same; wire = c.flush.ensures.wire }))
