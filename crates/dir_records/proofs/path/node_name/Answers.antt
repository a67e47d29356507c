use Rattle.std.proofs.Common.{◌≡◌, rules, true}
use Rattle.std.specs.List.{list_all}
use Rattle.uid_names.specs.NameTexts.{is_name_byte}
use Rattle.dir_records.proofs.NodeNames.{same_test}
use Rattle.dir_records.proofs.path.node_name.Goals as goal

pub returns : goal.returns
returns c =
    let bytes : list_all is_name_byte c.args.name.now ≡ true = search rules in
    rw (← same_test c.args.name.now bytes) c.read.ensures
