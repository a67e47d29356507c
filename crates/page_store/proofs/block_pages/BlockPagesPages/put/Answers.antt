use Rattle.std.proofs.Common.{◌≡◌, ◌∙◌, sym, ap}
use Rattle.std.specs.Prelude.{Some, None}
use Rattle.std.specs.FinMap.{get}
use Rattle.page_store.specs.Volumes.{PageName}
use Rattle.page_store.specs.Housed.{volume_of}
use Rattle.page_store.proofs.HousedLemmas.{volume_of-put, IsHoused-put, placed_again, IsKept-placed, taken_is_free}
use Rattle.page_store.proofs.block_pages.BlockPagesPages.put.Goals as goal

pub invariant_of-self : goal.invariant_of-self
invariant_of-self c =
    let places = c.self.inside.places in
    let name : PageName = (c.args.counter, c.args.page) in
    let found : get places name ≡ Some c.in-Some.place = sym c.of.ensures ∙ c.in-Some.is in
    rw (← placed_again places name c.in-Some.place found)
    (IsHoused-put places c.self.inside.blocks.blocks.items c.write.new.self.blocks.items c.self.invariant name c.in-Some.place c.args.bytes.now c.write.ensures
    (λ q differs other. differs (c.self.invariant.apart q name c.in-Some.place other found)))

pub returns-in-Some-clause-ok : goal.returns-in-Some-clause-ok
returns-in-Some-clause-ok c =
    let places = c.self.inside.places in
    let name : PageName = (c.args.counter, c.args.page) in
    let found : get places name ≡ Some c.in-Some.place = sym c.of.ensures ∙ c.in-Some.is in
    rw (← c.self.view_is)
    (ap (λ p. volume_of p c.write.new.self.blocks.items) (sym (placed_again places name c.in-Some.place found))
    ∙ volume_of-put places c.self.inside.blocks.blocks.items c.write.new.self.blocks.items c.self.invariant name c.in-Some.place c.args.bytes.now c.write.ensures
    (λ q differs other. differs (c.self.invariant.apart q name c.in-Some.place other found)))

pub returns-in_err-place-clause-kept : goal.returns-in_err-place-clause-kept
returns-in_err-place-clause-kept c = λ kept.
    let both = IsKept-placed c.self.inside.places c.self.inside.blocks.blocks.items c.args.counter c.args.page in
    let placed = both.0 (rw (← c.self.view_is) at kept) in
    let none : get c.self.inside.places (c.args.counter, c.args.page) ≡ None = sym c.of.ensures ∙ c.in_default.is in
    absurd (let h = rw none at placed in cc)

pub invariant_of-self-in-Ok : goal.invariant_of-self-in-Ok
invariant_of-self-in-Ok c =
    let name : PageName = (c.args.counter, c.args.page) in
    rw c.in-Ok.ensures.ok
    (IsHoused-put c.self.inside.places c.self.inside.blocks.blocks.items c.store.new.self.blocks.items c.self.invariant name c.in_ok-place.place c.args.bytes.now c.in_ok-place.ensures.stored
    (taken_is_free c.self.inside.places c.self.inside.blocks.blocks.items c.self.invariant name c.in_ok-place.place c.in_ok-place.ensures.free))

pub returns-in-Ok-clause-ok : goal.returns-in-Ok-clause-ok
returns-in-Ok-clause-ok c =
    let name : PageName = (c.args.counter, c.args.page) in
    rw (← c.self.view_is, c.in-Ok.ensures.ok)
    (volume_of-put c.self.inside.places c.self.inside.blocks.blocks.items c.store.new.self.blocks.items c.self.invariant name c.in_ok-place.place c.args.bytes.now c.in_ok-place.ensures.stored
    (taken_is_free c.self.inside.places c.self.inside.blocks.blocks.items c.self.invariant name c.in_ok-place.place c.in_ok-place.ensures.free))

pub returns-in-Err-clause-kept : goal.returns-in-Err-clause-kept
returns-in-Err-clause-kept c = λ kept.
    let both = IsKept-placed c.self.inside.places c.self.inside.blocks.blocks.items c.args.counter c.args.page in
    let placed = both.0 (rw (← c.self.view_is) at kept) in
    let none : get c.self.inside.places (c.args.counter, c.args.page) ≡ None = sym c.of.ensures ∙ c.in_default.is in
    absurd (let h = rw none at placed in cc)
