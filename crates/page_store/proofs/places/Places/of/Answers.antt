use Rattle.std.proofs.Common.{◌∙◌, sym, ap}
use Rattle.page_store.proofs.PlacedLemmas.{get-placed_of, place_in}
use Rattle.page_store.proofs.places.Places.of.Goals as goal

pub returns-in_err-get : goal.returns-in_err-get
returns-in_err-get c =
    rw (← c.self.view_is) (c.from_residual.ensures ∙ sym (get-placed_of c.self.inside.objects.entries c.args.counter c.args.page c.self.invariant ∙ ap (place_in c.args.page) (sym c.in_err-get.ensures.value)))

pub returns : goal.returns
returns c =
    rw (← c.self.view_is)
    (c.copied.ensures ∙ c.get-2.ensures.value ∙ sym (get-placed_of c.self.inside.objects.entries c.args.counter c.args.page c.self.invariant ∙ ap (place_in c.args.page) (sym c.in_ok-get.ensures.value)))
