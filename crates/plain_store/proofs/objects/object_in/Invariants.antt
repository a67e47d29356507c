use Rattle.std.proofs.Common.{◌≡◌, drop}
use Rattle.std.specs.Prelude.{find}
use Rattle.uid_names.specs.Names.{same_uid}
use Rattle.plain_store.proofs.objects.object_in.Given as goal

abbrev pub invariant-loop-object : goal.invariant-loop-object
invariant-loop-object l = find (λ o. same_uid o.uid l.uid) (drop l.object-index l.objects) ≡ find (λ o. same_uid o.uid l.uid) l.objects
