use Rattle.std.proofs.Common.{◌≡◌, ◌<◌, ℕ, length, ap, sym, subst, ◌∙◌}
use Rattle.dom_history.specs.declared.op.Op.TheVariants as ops
use Rattle.dom_history.specs.declared.op.Want.TheVariants.{Do}
use Rattle.node_core.specs.Processes.{IsWanted, want_at}
use Rattle.node_core.proofs.Seen.{want-is}
use Rattle.node_core.proofs.machine.Machine.begins.Goals as goal

pub begins_new-requires : goal.begins_new-requires
begins_new-requires g c =
    let m = c.args.self.now in
    let i = c.index_of.result in
    let inside : i < length m.procs = subst (λ (n : ℕ). i < n) (sym c.requires.at.four) c.index_of.ensures.bound in
    let wanted : want_at m.procs c.args.proc.number ≡ Do (ops.New c.in-Do-New.home c.in-Do-New.kind c.in-Do-New.room) =
    want-is m.procs i c.args.proc.number c.index-self-index_of.result c.index_of.ensures.value inside ∙ (c.in-Do-New.is ∙ (rw c.in-Do-New.is at (ap Do c.in-Do-New.field-0-is))) in
    record {
      fresh = c.requires.fresh;
      own = c.requires.own;
      at = c.requires.at;
      program = c.requires.program;
      wanted = wanted;
      room = (subst IsWanted wanted c.requires.wanted).1;
      rooms = c.requires.rooms;
    }

pub returns-in-Do-New : goal.returns-in-Do-New
returns-in-Do-New g c = c.begins_new.ensures

pub begins_list-requires : goal.begins_list-requires
begins_list-requires g c =
    let m = c.args.self.now in
    let i = c.index_of.result in
    let inside : i < length m.procs = subst (λ (n : ℕ). i < n) (sym c.requires.at.four) c.index_of.ensures.bound in
    let wanted : want_at m.procs c.args.proc.number ≡ Do (ops.List c.in-Do-List.home c.in-Do-List.after) =
    want-is m.procs i c.args.proc.number c.index-self-index_of.result c.index_of.ensures.value inside ∙ (c.in-Do-List.is ∙ (rw c.in-Do-List.is at (ap Do c.in-Do-List.field-0-is))) in
    record {
      fresh = c.requires.fresh;
      own = c.requires.own;
      at = c.requires.at;
      program = c.requires.program;
      wanted = wanted;
    }

pub returns-in-Do-List : goal.returns-in-Do-List
returns-in-Do-List g c = c.begins_list.ensures

pub begins_lock-requires : goal.begins_lock-requires
begins_lock-requires g c =
    let m = c.args.self.now in
    let i = c.index_of.result in
    let inside : i < length m.procs = subst (λ (n : ℕ). i < n) (sym c.requires.at.four) c.index_of.ensures.bound in
    let wanted : want_at m.procs c.args.proc.number ≡ Do (ops.Lock c.in-Do-Lock.uid c.in-Do-Lock.mode) =
    want-is m.procs i c.args.proc.number c.index-self-index_of.result c.index_of.ensures.value inside ∙ (c.in-Do-Lock.is ∙ (rw c.in-Do-Lock.is at (ap Do c.in-Do-Lock.field-0-is))) in
    record {
      fresh = c.requires.fresh;
      own = c.requires.own;
      at = c.requires.at;
      program = c.requires.program;
      wanted = wanted;
      range = subst IsWanted wanted c.requires.wanted;
      process = c.index_of.ensures.process;
      desk = c.requires.desk;
      low = c.requires.low;
      idle = c.requires.idle;
    }

pub returns-in-Do-Lock : goal.returns-in-Do-Lock
returns-in-Do-Lock g c = c.begins_lock.ensures

pub begins_unlock-requires : goal.begins_unlock-requires
begins_unlock-requires g c =
    let m = c.args.self.now in
    let i = c.index_of.result in
    let inside : i < length m.procs = subst (λ (n : ℕ). i < n) (sym c.requires.at.four) c.index_of.ensures.bound in
    let wanted : want_at m.procs c.args.proc.number ≡ Do (ops.Unlock c.in-Do-Unlock.uid) =
    want-is m.procs i c.args.proc.number c.index-self-index_of.result c.index_of.ensures.value inside ∙ (c.in-Do-Unlock.is ∙ (rw c.in-Do-Unlock.is at (ap Do c.in-Do-Unlock.field-0-is))) in
    record {
      fresh = c.requires.fresh;
      own = c.requires.own;
      at = c.requires.at;
      program = c.requires.program;
      wanted = wanted;
      range = subst IsWanted wanted c.requires.wanted;
      process = c.index_of.ensures.process;
      desk = c.requires.desk;
      low = c.requires.low;
      idle = c.requires.idle;
    }

pub returns-in-Do-Unlock : goal.returns-in-Do-Unlock
returns-in-Do-Unlock g c = c.begins_unlock.ensures

pub begins_delete-requires : goal.begins_delete-requires
begins_delete-requires g c =
    let m = c.args.self.now in
    let i = c.index_of.result in
    let inside : i < length m.procs = subst (λ (n : ℕ). i < n) (sym c.requires.at.four) c.index_of.ensures.bound in
    let wanted : want_at m.procs c.args.proc.number ≡ Do (ops.Delete c.in-Do-Delete.uid) =
    want-is m.procs i c.args.proc.number c.index-self-index_of.result c.index_of.ensures.value inside ∙ (c.in-Do-Delete.is ∙ (rw c.in-Do-Delete.is at (ap Do c.in-Do-Delete.field-0-is))) in
    record {
      fresh = c.requires.fresh;
      own = c.requires.own;
      at = c.requires.at;
      program = c.requires.program;
      wanted = wanted;
      range = subst IsWanted wanted c.requires.wanted;
      process = c.index_of.ensures.process;
      desk = c.requires.desk;
      low = c.requires.low;
      idle = c.requires.idle;
    }

pub returns-in-Do-Delete : goal.returns-in-Do-Delete
returns-in-Do-Delete g c = c.begins_delete.ensures

pub returns-in-Do : goal.returns-in-Do
returns-in-Do g c = c.begins_access.ensures
