use Rattle.std.proofs.Common.{◌≡◌, false, sym, ap, ◌∙◌, arith}
use Rattle.dom_history.specs.Replies.{may_write}
use Rattle.fault_handler.specs.Desks.{state_of}
use Rattle.lock_validate.proofs.Releasing.{dirty-another, changed-another}
use Rattle.lock_validate.proofs.releases.unlock_by.Goals as goal

-- A dirty page is another process's, since this one does not write.
pub note_release-requires-clause-dirty : goal.note_release-requires-clause-dirty
note_release-requires-clause-dirty c =
    let d = c.args.desk.now in
    let p = c.args.proc.number in
    let reads : may_write (state_of d p c.args.uid) ≡ false = ap may_write (sym c.requires.state) ∙ rw c.in-Held.is (sym c.writes.ensures ∙ c.if-writes.false) in
    dirty-another d p c.args.uid c.requires.kept (omega arith, omega arith) c.requires.idle reads

-- So is a changed length.
pub note_release-requires-clause-changed : goal.note_release-requires-clause-changed
note_release-requires-clause-changed c =
    let d = c.args.desk.now in
    let p = c.args.proc.number in
    let reads : may_write (state_of d p c.args.uid) ≡ false = ap may_write (sym c.requires.state) ∙ rw c.in-Held.is (sym c.writes.ensures ∙ c.if-writes.false) in
    changed-another d p c.args.uid c.requires.kept (omega arith, omega arith) c.requires.idle reads
