use Rattle.std.proofs.Common.{◌≡◌, drop}
use Rattle.std.specs.Prelude.{find, ◌&&◌}
use Rattle.uid_names.specs.Names.{same_proc, same_uid}
use Rattle.plain_store.proofs.maps.mapping_of.Given as goal

abbrev pub invariant-loop-mapped : goal.invariant-loop-mapped
invariant-loop-mapped l = find (λ m. same_proc l.p m.proc && same_uid l.uid m.uid) (drop l.mapped-index l.maps) ≡ find (λ m. same_proc l.p m.proc && same_uid l.uid m.uid) l.maps
