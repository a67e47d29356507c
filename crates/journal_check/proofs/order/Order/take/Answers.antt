use Rattle.std.proofs.Common.{◌≡◌, ℕ, Option, Some, None, [], ◌∷◌, ◌++◌, inl, inr, refl, sym, subst, drop}
use Rattle.std.proofs.lemmas.Bool.{cases_eq}
use Rattle.uid_names.proofs.Somes.{none-there}
use Rattle.node_runs.specs.Deliveries.{deliveries}
use Rattle.ring_links.specs.Carried.{Carrying}
use Rattle.journal_check.specs.Orders.{IsOrder, IsOrderAs, taken_of}
use Rattle.journal_check.specs.declared.order.Bare.{Bare}
use Rattle.journal_check.specs.declared.order.Early.{Early}
use Rattle.journal_check.specs.declared.order.Order.{Order}
use Rattle.journal_check.proofs.Ordering.{taken-early, taken-next}
use Rattle.journal_check.proofs.order.Order.take.Goals as goal

pub returns-in-Some : goal.returns-in-Some
returns-in-Some c = λ fates count taken is.
    let o = c.args.self.now in
    let t : Early = record { index = c.args.index; line = c.args.line } in
    let next = c.in-Some.next in
    let none : o.fault ≡ None = none-there o.fault (sym c.if-is_some.ensures) in
    let at = subst (λ (f : Option ℕ). IsOrderAs f (deliveries fates count) taken o.waiting o.early.items) none is.order in
    let less : Carrying Bare = record { frames = o.waiting.frames; queue = drop 1 o.waiting.queue; later = o.waiting.later } in
    elim (cases_eq t.index next) [
      | inl same ↦ subst (λ (x : Order). IsOrder fates count (taken ++ taken_of t ∷ []) x) (sym (c.take_next.ensures.same same)) (record {
        frames = is.frames;
        later = is.later;
        order = subst (λ (f : Option ℕ). IsOrderAs f (deliveries fates count) (taken ++ taken_of t ∷ []) less o.early.items) (sym none)
            (taken-next (deliveries fates count) taken o.waiting o.early.items None less next t at (sym c.in-Some.ensures) (λ _. (refl, refl)) (λ differs. absurd (differs same)));
      })
      | inr differs ↦ subst (λ (x : Order). IsOrder fates count (taken ++ taken_of t ∷ []) x) (sym (c.take_next.ensures.other differs)) (record {
        frames = is.frames;
        later = is.later;
        order = taken-next (deliveries fates count) taken o.waiting o.early.items (Some t.line) o.waiting next t at (sym c.in-Some.ensures) (λ same. absurd (differs same)) (λ _. refl);
      })
    ]

pub returns-in_ok-push_back-in-None : goal.returns-in_ok-push_back-in-None
returns-in_ok-push_back-in-None c = λ fates count taken is.
    let o = c.args.self.now in
    let t : Early = record { index = c.args.index; line = c.args.line } in
    let none : o.fault ≡ None = none-there o.fault (sym c.if-is_some.ensures) in
    let at = subst (λ (f : Option ℕ). IsOrderAs f (deliveries fates count) taken o.waiting o.early.items) none is.order in
    record {
      frames = is.frames;
      later = is.later;
      order = subst (λ (f : Option ℕ). IsOrderAs f (deliveries fates count) (taken ++ taken_of t ∷ []) o.waiting c.push_back.new.self.items) (sym none)
          (taken-early (deliveries fates count) taken o.waiting o.early.items c.push_back.new.self.items t at (sym c.in-None.ensures) c.in_ok-push_back-in-None.ensures.items);
    }
