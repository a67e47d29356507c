use Rattle.std.proofs.Common.{refl}
use Rattle.page_store.proofs.HousedLemmas.{volume_of-dropped, IsHoused-dropped, others_place}
use Rattle.page_store.proofs.block_pages.BlockPagesPages.drop_object.Goals as goal

pub invariant_of-self : goal.invariant_of-self
invariant_of-self c =
    rw c.forget.ensures.others
    (IsHoused-dropped c.self.inside.places c.self.inside.blocks.blocks.items c.free_all.new.blocks.blocks.items c.self.invariant c.args.counter
    (λ q p other found. c.free_all.ensures p (others_place c.self.inside.places c.self.inside.blocks.blocks.items c.args.counter c.in-Some.pages c.self.invariant c.in-Some.ensures.own q p other found)))

pub invariant_of-self-in_default : goal.invariant_of-self-in_default
invariant_of-self-in_default c =
    rw c.forget.ensures.others
    (IsHoused-dropped c.self.inside.places c.self.inside.blocks.blocks.items c.self.inside.blocks.blocks.items c.self.invariant c.args.counter (λ q p other found. refl))

pub returns-in-Some : goal.returns-in-Some
returns-in-Some c =
    rw (← c.self.view_is, c.forget.ensures.others)
    (volume_of-dropped c.self.inside.places c.self.inside.blocks.blocks.items c.free_all.new.blocks.blocks.items c.self.invariant c.args.counter
    (λ q p other found. c.free_all.ensures p (others_place c.self.inside.places c.self.inside.blocks.blocks.items c.args.counter c.in-Some.pages c.self.invariant c.in-Some.ensures.own q p other found)))

pub returns-in_default : goal.returns-in_default
returns-in_default c =
    rw (← c.self.view_is, c.forget.ensures.others)
    (volume_of-dropped c.self.inside.places c.self.inside.blocks.blocks.items c.self.inside.blocks.blocks.items c.self.invariant c.args.counter (λ q p other found. refl))
