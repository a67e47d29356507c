use Rattle.acl_rules.proofs.RightsRead.{rights_found}
use Rattle.acl_rules.proofs.rights.read_rights.Goals as goal

pub returns : goal.returns
returns c = rights_found c.written_so.result c.args.word.now c.written_so.ensures
