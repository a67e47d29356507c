use Rattle.std.proofs.Common.{◌≡◌, true, false, sym, ◌∙◌}
use Rattle.fault_handler.proofs.Nothing.{none-dirty}
use Rattle.lock_validate.proofs.releases.send_length.Goals as goal

-- No page of the object is dirty.
pub note_release-requires-clause-dirty : goal.note_release-requires-clause-dirty
note_release-requires-clause-dirty c page dirty =
    absurd (let e : true ≡ false = sym dirty ∙ none-dirty c.args.desk.now.cache.pages c.args.uid c.requires.clean page in cc)
