use Rattle.std.proofs.Common.{◌≡◌, ◌*◌, ◌^◌, ◌≤◌, take}
use Rattle.std.specs.Prelude.{filter, not}
use Rattle.std.specs.HashSet.{contains}
use Rattle.uid_names.specs.Names.{same_uid}
use Rattle.dom_history.proofs.Volumes.{rooms, greatest}
use Rattle.plain_store.proofs.objects.volume_in.Given as goal

abbrev pub invariant-loop-object : goal.invariant-loop-object
invariant-loop-object l = record {
  taken : l.volume.taken ≡ rooms l.home (filter (λ o. not (contains same_uid l.deleted o.uid)) (take l.object-index l.objects));
  greatest : l.volume.greatest ≡ greatest l.home (take l.object-index l.objects);
  bound : l.volume.taken ≤ l.object-index * 2 ^ 32;
}
