use Rattle.std.proofs.Common.{◌≡◌}
use Rattle.std.specs.Prelude.{find}
use Rattle.uid_names.specs.Segments.{starts_from}
use Rattle.address_map.specs.Runs.{is_free_run, lowest_run}
use Rattle.address_map.proofs.mapping.lowest_run.Given as goal

abbrev pub invariant-loop-first : goal.invariant-loop-first
invariant-loop-first l = find (λ first. is_free_run l.count first l.mappings) (starts_from l.first) ≡ lowest_run l.count l.mappings
