use Rattle.std.proofs.Common.{◌∙◌, ap, sym, length, arith}
use Rattle.object_store.specs.Objects.{rooms}
use Rattle.uid_names.specs.Beginnings.{at_home}
use Rattle.object_store.specs.Beginnings.{first_rows}
use Rattle.object_store.proofs.RowLemmas.{length-le-rooms}
use Rattle.object_store.proofs.Begun.{begun, rooms-first}
use Rattle.object_store.proofs.homes.Home.new.Goals as goal

-- the objects' rooms and the entry directory's fit the volume
pub sum_of_rooms-taken-requires : goal.sum_of_rooms-taken-requires
sum_of_rooms-taken-requires g c =
    let own = at_home c.args.node c.args.opening.now.objects in
    let rows = c.in_ok-objects.ensures ∙ ap (λ os. first_rows c.args.node (at_home c.args.node os)) c.objects.ensures in
    let same = ap rooms (c.as_slice.ensures.value ∙ rows) in
    omega (arith, same, rooms-first c.args.node own, c.requires.begins.fits)

pub invariant_of-result : goal.invariant_of-result
invariant_of-result g c =
    let rows = c.in_ok-objects.ensures ∙ ap (λ os. first_rows c.args.node (at_home c.args.node os)) c.objects.ensures in
    let count = c.len-greatest.ensures ∙ sym c.as_slice.ensures.len ∙ ap length c.as_slice.ensures.value in
    let taken = c.sum_of_rooms-taken.ensures ∙ ap rooms c.as_slice.ensures.value in
    begun c.args.node c.args.opening.now c.in_ok-objects.objects.items c.len-greatest.result c.sum_of_rooms-taken.result _ c.nodes-nodes.ensures.start c.requires.begins rows count taken c.requires.empty

pub returns-clause-few : goal.returns-clause-few
returns-clause-few g c =
    let kept = (invariant_of-result g c).0 in
    let count = c.len-greatest.ensures ∙ sym c.as_slice.ensures.len ∙ ap length c.as_slice.ensures.value in
    omega (arith, count, length-le-rooms c.len-greatest.result c.in_ok-objects.objects.items kept.rows, kept.fits)

pub returns-clause-kept : goal.returns-clause-kept
returns-clause-kept g c = (invariant_of-result g c).0
