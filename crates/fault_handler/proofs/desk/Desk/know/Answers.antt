use Rattle.std.proofs.Common.{refl, ◌≡◌, ◌∙◌, false, ap}
use Rattle.std.specs.Prelude.{is_some}
use Rattle.version_stamps.specs.Stamps.{stamp_of, without_stamp}
use Rattle.fault_handler.specs.declared.lengths.Known.{Known}
use Rattle.fault_handler.specs.Insides.{desk_of}
use Rattle.fault_handler.proofs.SeenRows.{without-with_stamp, no-stamp}
use Rattle.fault_handler.proofs.KnownKeeps.{IsDesk-learned}
use Rattle.fault_handler.proofs.desk.Desk.know.Goals as goal
use Rattle.fault_handler.proofs.desk.Desk.know.Goals.{After-forget}

pub invariant_of-self-in-Ok : goal.invariant_of-self-in-Ok
invariant_of-self-in-Ok c =
    let row : Known = record { uid = c.args.uid; room = c.args.room; length = c.args.length; changed = false } in
    rw (c.in_ok-set.ensures.set, c.in-Ok.ensures.set)
    (IsDesk-learned (desk_of c.self.inside) row c.args.stamp c.self.invariant c.requires.stamp (record { room = c.requires.room; length = c.requires.length }) refl)

-- the stamp was forgotten without a trace
unchanged : (c : After-forget) → c.forget.new.self ≡ c.self.inside.seen
unchanged c =
    let none : is_some (stamp_of c.args.uid c.self.inside.seen) ≡ false = no-stamp _ _ (c.self.invariant.known.both c.args.uid) c.in-Err.ensures.memory in
    c.forget.ensures ∙ ap (without_stamp c.args.uid) c.in_ok-set.ensures.set ∙ without-with_stamp (record { uid = c.args.uid; stamp = c.args.stamp }) c.self.inside.seen none

pub invariant_of-self-in-Err : goal.invariant_of-self-in-Err
invariant_of-self-in-Err c = rw (unchanged c, c.in-Err.ensures.refused) c.self.invariant

pub returns-in-Err-clause-unchanged : goal.returns-in-Err-clause-unchanged
returns-in-Err-clause-unchanged c = rw (unchanged c, c.in-Err.ensures.refused) c.self.view_is

pub returns-in-Err-clause-memory : goal.returns-in-Err-clause-memory
returns-in-Err-clause-memory c = rw (← c.self.view_is) (no-stamp _ _ (c.self.invariant.known.both c.args.uid) c.in-Err.ensures.memory)
