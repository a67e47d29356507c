use Rattle.std.proofs.Common.{◌≡◌, drop}
use Rattle.acl_rules.specs.Decisions.{first_from}
use Rattle.acl_rules.proofs.deciding.first_for.Given as goal

-- none so far is for the subject
abbrev pub invariant-loop-i : goal.invariant-loop-i
invariant-loop-i l = first_from 0 l.person l.project l.entries ≡ first_from l.i l.person l.project (drop l.i l.entries)
