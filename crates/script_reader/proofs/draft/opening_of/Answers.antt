use Rattle.std.proofs.Common.{take, sym, subst}
use Rattle.uid_names.specs.Openings.{IsUnnamed}
use Rattle.script_reader.proofs.Begun.{unnamed}
use Rattle.script_reader.proofs.draft.opening_of.Goals as goal

pub add-requires-clause-absent : goal.add-requires-clause-absent
add-requires-clause-absent c =
    let starts = c.args.starts.now in
    let i = c.loop-object.object-index in
    let o = c.object-item.result in
    let before = unnamed c.args.nodes c.args.greatest starts i o c.requires.starts c.loop-object-test.true in
    let here : IsUnnamed o.uid (take i starts) = subst (λ x. IsUnnamed x.uid (take i starts)) (sym c.object-item.is) before in
    subst (λ x. IsUnnamed o.uid x.objects) (sym c.loop-object.invariant) here
