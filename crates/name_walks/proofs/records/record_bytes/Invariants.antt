use Rattle.std.proofs.Common.{length}
use Rattle.name_walks.proofs.records.record_bytes.Given as goal

abbrev pub decreases-loop-word : goal.decreases-loop-word
decreases-loop-word l = length l.rest
