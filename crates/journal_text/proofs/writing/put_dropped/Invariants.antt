use Rattle.std.proofs.Common.{◌≡◌, ◌++◌, take}
use Rattle.std.specs.List.{flat_map}
use Rattle.journal_text.specs.Buffers.{filled}
use Rattle.journal_text.specs.Lines.{drop_text}
use Rattle.journal_text.proofs.writing.put_dropped.Given as goal

abbrev pub invariant-loop-uid : goal.invariant-loop-uid
invariant-loop-uid l = l.to ≡ filled (l.fn.to.text ++ flat_map drop_text (take l.uid-index l.pages)) l.fn.to.room
