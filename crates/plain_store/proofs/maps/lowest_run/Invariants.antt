use Rattle.std.proofs.Common.{◌≡◌}
use Rattle.std.specs.Prelude.{find}
use Rattle.uid_names.specs.Segments.{is_free_run, starts_from, lowest_run}
use Rattle.plain_store.specs.KeptMaps.{stretches_of}
use Rattle.plain_store.proofs.maps.lowest_run.Given as goal

abbrev pub invariant-loop-first : goal.invariant-loop-first
invariant-loop-first l = find (λ first. is_free_run l.count first (stretches_of l.p l.maps)) (starts_from l.first) ≡ lowest_run l.count (stretches_of l.p l.maps)
