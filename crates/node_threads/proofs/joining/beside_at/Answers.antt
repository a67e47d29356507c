use Rattle.std.proofs.Common.{rules, length, refl}
use Rattle.std.proofs.lemmas.Option.{slice_get_read}
use Rattle.node_threads.specs.Joined.{StaysOut, StaysIn}
use Rattle.node_threads.proofs.Beside.{stays-out, stays-in, outs-stay, ins-stay, set-stays, beside-fact}
use Rattle.node_threads.proofs.joining.beside_at.Goals as goal

pub returns-then-at-len-clause-outs : goal.returns-then-at-len-clause-outs
returns-then-at-len-clause-outs c = outs-stay c.args.outs.now.items

pub returns-then-at-len-clause-ins : goal.returns-then-at-len-clause-ins
returns-then-at-len-clause-ins c = ins-stay c.args.ins.now.items

pub beside-requires : goal.beside-requires
beside-requires c =
    c.requires.ring c.index_mut-2.result.now c.index_mut.result.now
    (slice_get_read c.args.outs.now.items (length c.args.outs.now.items) c.args.at c.index_mut-2.result.now refl (search rules) c.index_mut-2.ensures.value)
    (slice_get_read c.args.ins.now.items (length c.args.ins.now.items) c.args.other c.index_mut.result.now refl (search rules) c.index_mut.ensures.value)

pub returns-clause-fifo : goal.returns-clause-fifo
returns-clause-fifo c =
    beside-fact c.args.outs.now.items c.args.at c.args.ins.now.items c.args.other c.index_mut-2.result.now c.beside.new.out c.index_mut.result.now c.beside.new.self
    c.index_mut-2.ensures.value c.index_mut.ensures.value c.beside.ensures.fifo c.beside.ensures.taken c.beside.ensures.out.gone_in

pub returns-clause-outs : goal.returns-clause-outs
returns-clause-outs c =
    set-stays StaysOut stays-out c.args.outs.now.items c.args.at c.index_mut-2.result.now c.beside.new.out (search rules) c.index_mut-2.ensures.value
    (record { same = c.beside.ensures.out.same; pushed_is = c.beside.ensures.out.gone_in })

pub returns-clause-ins : goal.returns-clause-ins
returns-clause-ins c =
    set-stays StaysIn stays-in c.args.ins.now.items c.args.other c.index_mut.result.now c.beside.new.self (search rules) c.index_mut.ensures.value
    (record { same = c.beside.ensures.same; taken_is = c.beside.ensures.taken })
