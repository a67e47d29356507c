use Rattle.uid_names.proofs.Codes.{removes-writes, removes-alone, shared-writes, writes-together, modes_clash-sym}
use Rattle.uid_names.proofs.laws.modes_agree.Goals as goal

pub returns : goal.returns
returns c = record { removes = removes-writes; alone = removes-alone; shared = shared-writes; together = writes-together; clash = modes_clash-sym }
