use Rattle.std.proofs.Common.{◌≡◌, ◌-◌, length, sym, subst, arith}
use Rattle.std.specs.Prelude.{◌==◌, IsSome, slice_set}
use Rattle.std.proofs.lemmas.List.{length-set}
use Rattle.std.proofs.lemmas.List.Elements.{All-set}
use Rattle.journal_check.specs.Kept.{IsHead, Kept, head_at, told_if}
use Rattle.journal_check.proofs.Heads.{head-some, head-told, told_head}
use Rattle.journal_check.proofs.Sending.{told-ranges}
use Rattle.journal_check.proofs.frames.Frames.tell.Goals as goal

pub overflow_sub-at : goal.overflow_sub-at
overflow_sub-at c =
    let there = head-some c.args.index c.args.self.now.heads c.requires in
    let low = there.0 in
    omega (arith, low)

pub index_mut-requires : goal.index_mut-requires
index_mut-requires c =
    let there = head-some c.args.index c.self.inside.heads.items (subst (λ (k : Kept). IsSome (head_at c.args.index k.heads)) (sym c.self.view_is) c.requires) in
    let low = there.0 in
    let high = there.1 in
    omega (arith, low, high)

pub invariant_of-self : goal.invariant_of-self
invariant_of-self c =
    let heads = c.self.inside.heads.items in
    let there = head-some c.args.index heads (subst (λ (k : Kept). IsSome (head_at c.args.index k.heads)) (sym c.self.view_is) c.requires) in
    let low = there.0 in
    let high = there.1 in
    let h = c.index_mut.result.now in
    All-set IsHead heads (c.args.index - 1) (told_head h) (told-ranges h (subst IsHead (sym c.index_mut.ensures.value) (c.self.invariant (c.args.index - 1) h (omega (arith, low, high))))) c.self.invariant

pub returns-clause-count : goal.returns-clause-count
returns-clause-count c =
    let heads = c.self.inside.heads.items in
    subst (λ (k : Kept). length (slice_set heads (c.args.index - 1) (told_head c.index_mut.result.now)) ≡ length k.heads) c.self.view_is (length-set heads (c.args.index - 1) (told_head c.index_mut.result.now))

pub returns-clause-told : goal.returns-clause-told
returns-clause-told c = λ i.
    let heads = c.self.inside.heads.items in
    let there = head-some c.args.index heads (subst (λ (k : Kept). IsSome (head_at c.args.index k.heads)) (sym c.self.view_is) c.requires) in
    let h = c.index_mut.result.now in
    subst (λ (k : Kept). head_at i (slice_set heads (c.args.index - 1) (told_head h)) ≡ told_if (i == c.args.index) (head_at i k.heads)) c.self.view_is
    (head-told heads c.args.index i h there.0 there.1 c.index_mut.ensures.value)
