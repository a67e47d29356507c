use Rattle.std.proofs.Common.{◌≡◌, length}
use Rattle.dir_records.specs.Wholes.{in_front}
use Rattle.acl_rules.specs.Lists.{entries_in}
use Rattle.acl_rules.proofs.read.read_entries.Given as goal

-- the entries so far, and those of the text to come
abbrev pub invariant-loop-line : goal.invariant-loop-line
invariant-loop-line l = entries_in l.text ≡ in_front l.entries.items (entries_in l.rest)

abbrev pub decreases-loop-line : goal.decreases-loop-line
decreases-loop-line l = length l.rest
