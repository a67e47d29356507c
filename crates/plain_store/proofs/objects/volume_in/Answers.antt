use Rattle.std.proofs.Common.{◌≡◌, [], take, ap, sym, arith}
use Rattle.std.specs.Prelude.{not}
use Rattle.std.specs.HashSet.{contains}
use Rattle.uid_names.specs.Names.{same_uid}
use Rattle.dom_history.proofs.MadeObjects.{one-more}
use Rattle.dom_history.proofs.Volumes.{greatest-push}
use Rattle.dom_history.proofs.KeptObjects.{kept-rooms-push}
use Rattle.plain_store.proofs.objects.volume_in.Goals as goal

pub loop-object-preserved : goal.loop-object-preserved
loop-object-preserved c =
    let before = take c.loop-object.object-index c.args.objects.now in
    let deleted : not (contains same_uid c.args.deleted.now c.object-item.result.uid) ≡ not c.contains.result = ap not (sym c.contains.ensures) in
    rw (one-more [] c.args.objects.now c.loop-object.object-index c.object-item.result c.loop-object-test.true c.object-item.is)
    (record {
      taken = rw (kept-rooms-push c.args.home (λ o. not (contains same_uid c.args.deleted.now o.uid)) before c.object-item.result c.contains.result deleted, ← c.loop-object.invariant.taken) c.with-volume.ensures.taken;
      greatest = rw (greatest-push c.args.home before c.object-item.result, ← c.loop-object.invariant.greatest) c.with-volume.ensures.greatest;
      bound = omega (arith, c.with-volume.ensures.bound, c.loop-object.invariant.bound);
    })
