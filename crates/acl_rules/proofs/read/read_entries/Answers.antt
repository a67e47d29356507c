use Rattle.acl_rules.proofs.Reading.{all_read}
use Rattle.acl_rules.proofs.read.read_entries.Goals as goal

pub returns-in-None-clause-read : goal.returns-in-None-clause-read
returns-in-None-clause-read c =
    all_read c.args.text.now c.loop-line.rest.now c.loop-line.entries.items c.loop-line.invariant c.in-None.ensures.cases
