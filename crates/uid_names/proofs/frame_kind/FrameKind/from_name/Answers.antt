use Rattle.std.proofs.Common.{sym, ap}
use Rattle.uid_names.specs.FrameKinds.{kind_name, all_kinds, kind_of_name}
use Rattle.uid_names.proofs.WrittenTables.{told_by, no_first, found-begun}
use Rattle.uid_names.proofs.TextTables.{kind_of_name-name}
use Rattle.uid_names.proofs.frame_kind.FrameKind.from_name.Goals as goal

pub returns-in_default : goal.returns-in_default
returns-in_default c =
    let none = sym (ap kind_of_name (no_first c.args.name.now c.in_default.ensures.value)) in
    record { value = none; name = told_by kind_name all_kinds kind_of_name-name _ c.args.name.now none }

pub returns : goal.returns
returns c =
    let found = found-begun kind_name c.args.name.now _ (sym c.in-Some.ensures.value) all_kinds _ c.named.result c.named.ensures c.of_first.ensures in
    record { value = found; name = told_by kind_name all_kinds kind_of_name-name c.named.result c.args.name.now found }
