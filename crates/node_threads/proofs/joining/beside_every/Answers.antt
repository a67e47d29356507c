use Rattle.std.proofs.Common.{rules, ℕ, ◌<◌, length, sym, subst, arith}
use Rattle.node_threads.proofs.Beside.{all-outs-stay, all-ins-stay, all-outs-stay-then, all-ins-stay-then, outs-many, ins-many, links-forth, more-from, every-link}
use Rattle.node_threads.proofs.joining.beside_every.Goals as goal

pub loop-from-init : goal.loop-from-init
loop-from-init c = (all-outs-stay c.args.outs.now.items, all-ins-stay c.args.ins.now.items, λ from to below within differ. absurd (omega (arith, below)))

pub beside_from-requires-clause-from : goal.beside_from-requires-clause-from
beside_from-requires-clause-from c =
    subst (λ (n : ℕ). c.loop-from.from < n) (sym (outs-many c.args.outs.now.items c.loop-from.outs.items c.loop-from.invariant.0)) (search rules)

pub beside_from-requires-clause-rings : goal.beside_from-requires-clause-rings
beside_from-requires-clause-rings c =
    links-forth c.args.outs.now.items c.loop-from.outs.items c.args.ins.now.items c.loop-from.ins.items c.loop-from.invariant.0 c.loop-from.invariant.1 c.requires.rings

-- as many links lead to nodes as before
pub loop-from-preserved : goal.loop-from-preserved
loop-from-preserved c =
    let many = ins-many c.args.ins.now.items c.loop-from.ins.items c.loop-from.invariant.1 in (
      all-outs-stay-then c.args.outs.now.items c.loop-from.outs.items c.beside_from.new.outs.items c.loop-from.invariant.0 c.beside_from.ensures.outs,
      all-ins-stay-then c.args.ins.now.items c.loop-from.ins.items c.beside_from.new.ins.items c.loop-from.invariant.1 c.beside_from.ensures.ins,
      more-from c.args.outs.now.items c.loop-from.outs.items c.args.ins.now.items c.loop-from.ins.items c.loop-from.invariant.0 c.loop-from.invariant.1 (length c.args.ins.now.items) c.loop-from.from c.loop-from.invariant.2
          (λ b within differ. c.beside_from.ensures.fifo b (subst (λ (n : ℕ). b < n) (sym many) within) differ),
    )

pub returns : goal.returns
returns c = record { fifo = every-link c.args.outs.now.items c.args.ins.now.items c.loop-from.from (search rules) c.loop-from.invariant.2 }
