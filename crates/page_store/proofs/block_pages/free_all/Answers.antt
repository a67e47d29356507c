use Rattle.std.proofs.Common.{◌≡◌, ◌∷◌, ◌∙◌, ℕ, ap, refl, subst, sym}
use Rattle.std.proofs.lemmas.List.Elements.{All-head, All-tail}
use Rattle.std.specs.Prelude.{All, Some, nat_eq}
use Rattle.std.specs.HashMap.{get}
use Rattle.page_store.specs.declared.blocks.Place.{Place}
use Rattle.page_store.proofs.block_pages.free_all.Goals as goal

pub loop-place-init : goal.loop-place-init
loop-place-init c =
    let P : ℕ × Place → Type 0 = λ e. get nat_eq c.args.pages.now e.0 ≡ Some e.1 in
    let is = c.into_iter-place-iterator.ensures.into_iter_gives ∙ c.iter-place-items.ensures.rest in
    record { left = subst (All P) (sym is) c.iter-place-items.ensures.found; others = λ place none. refl }

pub loop-place-preserved : goal.loop-place-preserved
loop-place-preserved c =
    let P : ℕ × Place → Type 0 = λ e. get nat_eq c.args.pages.now e.0 ≡ Some e.1 in
    let e : ℕ × Place = (c.in-Some.field-0-0.now, c.in-Some.place.now) in
    let left : All P (e ∷ c.next.new.self) = rw c.in-Some.ensures.steps at c.loop-place.invariant.left in
    let here : P e = All-head P e c.next.new.self left in
    record {
      left = All-tail P e c.next.new.self left;
      others = λ place none. c.free.ensures.others place (λ same. none e.0 (here ∙ ap Some (sym same))) ∙ c.loop-place.invariant.others place none;
    }
