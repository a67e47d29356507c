use Rattle.std.proofs.Common.{◌≡◌, length}
use Rattle.dir_records.specs.Wholes.{in_front}
use Rattle.dir_records.specs.Paths.{pieces, names_of}
use Rattle.dir_records.proofs.path.names_in.Given as goal

-- the names so far, and those of the text to come
abbrev pub invariant-loop-front : goal.invariant-loop-front
invariant-loop-front l = names_of (pieces l.text) ≡ in_front l.names (names_of (pieces l.rest))

abbrev pub decreases-loop-front : goal.decreases-loop-front
decreases-loop-front l = length l.rest
