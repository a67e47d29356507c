use Rattle.std.proofs.Common.{◌≡◌, take, length}
use Rattle.std.specs.List.{flat_map}
use Rattle.journal_text.specs.Lines.{drop_text}
use Rattle.journal_text.proofs.sizes.dropped_len.Given as goal

abbrev pub invariant-loop-uid : goal.invariant-loop-uid
invariant-loop-uid l = l.total ≡ length (flat_map drop_text (take l.uid-index l.pages))
