use Rattle.std.proofs.Common.{◌≡◌, ◌+◌, true, arith}
use Rattle.std.specs.Prelude.{nat_le}
use Rattle.std.proofs.lemmas.Bool.Decides.{nat_tests}
use Rattle.std.proofs.lemmas.List.Folds.{list_all-map}
use Rattle.uid_names.specs.Segments.{is_apart as is_apart_from}
use Rattle.uid_names.specs.declared.segment.TheConstants.{SEGMENTS}
use Rattle.address_map.specs.Mappings.{stretch_of}
use Rattle.address_map.proofs.mapping.is_free_run.Goals as goal

pub returns-then-end-from : goal.returns-then-end-from
returns-then-end-from c =
    let within : nat_le (c.args.first + c.args.count) SEGMENTS ≡ true = grind (arith, nat_tests, c.if-end-from.true, c.from.ensures, c.from-2.ensures, c.from-3.ensures) in
    rw (within, list_all-map (is_apart_from c.args.count c.args.first) stretch_of c.args.mappings.now) c.is_free.ensures
