use Rattle.script_reader.proofs.Naming.{HasAlso-insert_key}
use Rattle.script_reader.proofs.index.VarSet.add.Goals as goal

pub returns-clause-ok : goal.returns-clause-ok
returns-clause-ok c =
    rw (← c.self.view_is, c.in_ok-insert.ensures.keys, ← c.in_ok-name.ensures.items) (HasAlso-insert_key c.self.inside.names.keys c.in_ok-name.name)
