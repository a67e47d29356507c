use Rattle.std.proofs.Common.{sym, subst, arith}
use Rattle.ring_links.specs.Later.{HaveFallen}
use Rattle.ring_links.proofs.Falling.{AreFalling, none-fell, one-fell, all-fell}
use Rattle.ring_links.proofs.link.fall_some.Goals as goal

pub loop-copy-init : goal.loop-copy-init
loop-copy-init g c = (none-fell c.args.frames c.args.queue.now.items c.args.later.now.items c.requires.later, c.requires.room)

pub loop-copy-preserved : goal.loop-copy-preserved
loop-copy-preserved g c =
    let before = c.args.queue.now.items in
    let old = c.args.later.now.items in
    let queue = c.loop-copy.queue.items in
    let rest = c.pop_behind.new.later.items in (
      subst (λ es. AreFalling c.args.frames before old es rest) (sym c.put_copy.ensures.waits)
          (one-fell c.args.frames before old queue c.loop-copy.later.items c.in-Some.copy rest c.loop-copy.invariant.0 c.in-Some.ensures.some.0 c.in-Some.ensures.some.1),
      omega (arith, c.loop-copy.invariant.1, c.in-Some.ensures.fewer, c.put_copy.ensures.len, c.put_copy.ensures.capacity),
    )

pub loop-copy-smaller : goal.loop-copy-smaller
loop-copy-smaller g c = omega (arith, c.in-Some.ensures.fewer)

pub returns-in-None : goal.returns-in-None
returns-in-None g c =
    let before = c.args.queue.now.items in
    let old = c.args.later.now.items in
    let later = c.loop-copy.later.items in
    let fell = all-fell c.args.frames before old c.loop-copy.queue.items later c.requires.later.rising c.loop-copy.invariant.0 c.in-None.ensures.none.1 in
    subst (λ cs. HaveFallen c.args.frames before c.loop-copy.queue.items old cs) (sym c.in-None.ensures.none.0) fell
