use Rattle.std.proofs.Common.{◌∙◌, sym, ap, cond, refl}
use Rattle.std.specs.Prelude.{nat_eq, Some, is_some, Result, Ok, Err, OnErr}
use Rattle.std.specs.HashMap as hash
use Rattle.page_store.proofs.PlacedLemmas.{place_in, placed_of-set, placed_of-same}
use Rattle.page_store.proofs.places.Places.set.Goals as goal

-- what holds anyway holds at an error
on_err : {X E : Type 0} (r : Result X E) (P : Type 0) → P → OnErr r P
on_err (Ok x) P holds = tt
on_err (Err e) P holds = holds

pub returns-in_err-insert-clause-err : goal.returns-in_err-insert-clause-err
returns-in_err-insert-clause-err c =
    let left = c.insert.new.self in
    let written = c.get_mut.follows.holds left in
    let found = c.in-Some.ensures.value in
    on_err c.from_residual.result _ (rw (← c.self.view_is)
    (placed_of-same c.self.inside.objects.entries (c.get_mut.follows.lender left).entries c.self.invariant written.4 c.args.counter left (written.3 (ap is_some (sym found))).0
    (λ k. rw c.in_err-insert.ensures.err (ap (place_in k) found))))

pub returns-in-Some-clause-ok : goal.returns-in-Some-clause-ok
returns-in-Some-clause-ok c =
    let left = c.insert.new.self in
    let written = c.get_mut.follows.holds left in
    let found = c.in-Some.ensures.value in
    rw (← c.self.view_is)
    (placed_of-set c.self.inside.objects.entries (c.get_mut.follows.lender left).entries c.self.invariant written.4 c.args.counter c.args.page c.args.place left (written.3 (ap is_some (sym found))).0
    (λ k. c.in_ok-insert.ensures.updates.0 k ∙ ap (λ o. cond (nat_eq c.args.page k) (Some c.args.place) (place_in k o)) found))

pub returns-clause-ok : goal.returns-clause-ok
returns-clause-ok c =
    let pages = c.insert-2.new.self in
    rw (← c.self.view_is)
    (placed_of-set c.self.inside.objects.entries c.insert-3.new.self.entries c.self.invariant c.in_ok-insert-3.ensures.unique c.args.counter c.args.page c.args.place pages
    (λ q. c.in_ok-insert-3.ensures.updates.0 q ∙ ap (λ m. cond (nat_eq c.args.counter q) (Some pages) (hash.get nat_eq m q)) c.get_mut.follows.holds-at-none)
    (λ k. c.in_ok-insert-2.ensures.updates.0 k ∙ ap (cond (nat_eq c.args.page k) (Some c.args.place)) (rw (c.new-pages.ensures.empty, ← c.in_default.ensures.value) refl)))
