use Rattle.std.proofs.Common.{rules}
use Rattle.std.specs.Prelude.{not}
use Rattle.std.proofs.lemmas.Fn.{filter_same}
use Rattle.fault_handler.specs.declared.entries.LockEntry.{LockEntry}
use Rattle.fault_handler.specs.Entries.{is_on}
use Rattle.fault_handler.proofs.entries.EntryTable.remove.Goals as goal

pub returns-clause-others : goal.returns-clause-others
returns-clause-others c = rw (← c.self.view_is) (filter_same _ (λ (e : LockEntry). not (is_on c.args.uid e)) _ (λ x b q called. search rules) _ _ c.retain.ensures.filtered)
