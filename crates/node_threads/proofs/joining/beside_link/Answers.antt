use Rattle.std.proofs.Common.{rules, ◌≢◌}
use Rattle.wire_links.specs.Wires.{AreEnds}
use Rattle.node_threads.specs.Joined.{IsFifo}
use Rattle.node_threads.proofs.Beside.{all-outs-stay, all-ins-stay, outs-set, ins-set, link-of-ends, ends-of-link}
use Rattle.node_threads.proofs.joining.beside_link.Goals as goal

pub returns-then-to-from-clause-outs : goal.returns-then-to-from-clause-outs
returns-then-to-from-clause-outs c = all-outs-stay c.args.outs.now.items

pub returns-then-to-from-clause-ins : goal.returns-then-to-from-clause-ins
returns-then-to-from-clause-ins c = all-ins-stay c.args.ins.now.items

pub beside_at-requires : goal.beside_at-requires
beside_at-requires c =
    let differ : c.args.from ≢ c.args.to = search rules in
    record {
      ring = ends-of-link AreEnds c.args.from c.args.to c.args.outs.now.items c.args.ins.now.items c.index_mut.result.now c.index_mut-2.result.now c.place_among-at.result c.place_among-other.result
          c.index_mut.ensures.value c.index_mut-2.ensures.value c.place_among-at.ensures c.place_among-other.ensures c.requires.from c.requires.to (c.requires.rings c.args.from c.args.to differ);
    }

pub returns-clause-fifo : goal.returns-clause-fifo
returns-clause-fifo c differ =
    link-of-ends IsFifo c.args.from c.args.to c.args.outs.now.items c.args.ins.now.items c.index_mut.result.now c.index_mut-2.result.now c.place_among-at.result c.place_among-other.result
    c.index_mut.ensures.value c.index_mut-2.ensures.value c.place_among-at.ensures c.place_among-other.ensures c.beside_at.ensures.fifo

pub returns-clause-outs : goal.returns-clause-outs
returns-clause-outs c =
    outs-set c.args.outs.now.items c.args.from c.index_mut.result.now c.beside_at.new.outs c.requires.from c.index_mut.ensures.value c.beside_at.ensures.outs

pub returns-clause-ins : goal.returns-clause-ins
returns-clause-ins c =
    ins-set c.args.ins.now.items c.args.to c.index_mut-2.result.now c.beside_at.new.ins c.requires.to c.index_mut-2.ensures.value c.beside_at.ensures.ins
