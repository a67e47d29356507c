use Rattle.std.proofs.Common.{◌≡◌, ◌∙◌, sym, ap}
use Rattle.std.specs.Prelude.{is_some, not, ◌&&◌}
use Rattle.dom_history.specs.Objects.{made, is_deleted}
use Rattle.dom_history.proofs.KeptObjects.{find-present}
use Rattle.plain_store.proofs.objects.ObjectTable.is_present.Goals as goal

pub returns-in-Some : goal.returns-in-Some
returns-in-Some c = λ opening past held.
    let found = c.in-Some.ensures opening past held in
    let gone : c.contains.result ≡ is_deleted c.args.uid past = c.contains.ensures ∙ held.deleted c.args.uid in
    ap not gone ∙ sym (find-present (λ u. is_deleted u past) (made opening past) c.args.uid ∙ ap (λ o. is_some o && not (is_deleted c.args.uid past)) (sym found))

pub returns-in-None : goal.returns-in-None
returns-in-None c = λ opening past held.
    let found = c.in-None.ensures opening past held in
    sym (find-present (λ u. is_deleted u past) (made opening past) c.args.uid ∙ ap (λ o. is_some o && not (is_deleted c.args.uid past)) (sym found))
