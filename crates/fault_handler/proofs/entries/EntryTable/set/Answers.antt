use Rattle.std.proofs.Common.{◌<◌, ◌∙◌, ◌++◌, ◌∷◌, [], length, ap, arith}
use Rattle.std.proofs.lemmas.List.{length-append}
use Rattle.uid_names.specs.declared.limits.TheConstants.{PROCESS_LOCKS}
use Rattle.fault_handler.proofs.EntryLists.{room_for}
use Rattle.fault_handler.proofs.entries.EntryTable.set.Goals as goal

pub unreachable-requires : goal.unreachable-requires
unreachable-requires c =
    let room : length c.self.inside.items.items < PROCESS_LOCKS = rw (c.self.view_is, c.remove.ensures.others) (room_for c.args.entry.uid c.args.self.now PROCESS_LOCKS c.requires c.remove.ensures.few) in
    omega (arith, c.self.invariant.1, c.in-Err.ensures.full)

pub invariant_of-self : goal.invariant_of-self
invariant_of-self c =
    let room : length c.self.inside.items.items < PROCESS_LOCKS = rw (c.self.view_is, c.remove.ensures.others) (room_for c.args.entry.uid c.args.self.now PROCESS_LOCKS c.requires c.remove.ensures.few) in
    (rw (c.in-Ok.ensures.items, length-append) (omega arith), omega (arith, c.self.invariant.1, c.in-Ok.ensures.capacity))

pub returns : goal.returns
returns c = rw (c.in-Ok.ensures.items) (ap (λ es. es ++ c.args.entry ∷ []) (c.self.view_is ∙ c.remove.ensures.others))
