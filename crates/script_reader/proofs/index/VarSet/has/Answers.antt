use Rattle.script_reader.proofs.Naming.{finds_name}
use Rattle.script_reader.proofs.index.VarSet.has.Goals as goal

pub returns : goal.returns
returns c = rw (c.contains.ensures, ← c.self.view_is) (finds_name c.self.inside.names.keys c.args.var.now)
