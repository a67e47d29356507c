use Rattle.std.proofs.Common.{rules, ℕ, ◌<◌, sym, subst, arith}
use Rattle.node_threads.proofs.Beside.{all-outs-stay, all-ins-stay, all-outs-stay-then, all-ins-stay-then, outs-many, ins-many, links-forth, more-to}
use Rattle.node_threads.proofs.joining.beside_from.Goals as goal

pub loop-to-init : goal.loop-to-init
loop-to-init c = (all-outs-stay c.args.outs.now.items, all-ins-stay c.args.ins.now.items, λ to below differ. absurd (omega (arith, below)))

pub beside_link-requires-clause-from : goal.beside_link-requires-clause-from
beside_link-requires-clause-from c =
    subst (λ (n : ℕ). c.args.from < n) (sym (outs-many c.args.outs.now.items c.loop-to.outs.items c.loop-to.invariant.0)) c.requires.from

pub beside_link-requires-clause-to : goal.beside_link-requires-clause-to
beside_link-requires-clause-to c =
    subst (λ (n : ℕ). c.loop-to.to < n) (sym (ins-many c.args.ins.now.items c.loop-to.ins.items c.loop-to.invariant.1)) (search rules)

pub beside_link-requires-clause-rings : goal.beside_link-requires-clause-rings
beside_link-requires-clause-rings c =
    links-forth c.args.outs.now.items c.loop-to.outs.items c.args.ins.now.items c.loop-to.ins.items c.loop-to.invariant.0 c.loop-to.invariant.1 c.requires.rings

pub loop-to-preserved : goal.loop-to-preserved
loop-to-preserved c = (
  all-outs-stay-then c.args.outs.now.items c.loop-to.outs.items c.beside_link.new.outs.items c.loop-to.invariant.0 c.beside_link.ensures.outs,
  all-ins-stay-then c.args.ins.now.items c.loop-to.ins.items c.beside_link.new.ins.items c.loop-to.invariant.1 c.beside_link.ensures.ins,
  more-to c.args.outs.now.items c.loop-to.outs.items c.args.ins.now.items c.loop-to.ins.items c.loop-to.invariant.0 c.loop-to.invariant.1 c.args.from c.loop-to.to c.loop-to.invariant.2 c.beside_link.ensures.fifo,
)
