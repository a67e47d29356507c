use Rattle.std.proofs.Common.{◌≡◌, ℕ, Option, Some, None, inl, inr, refl, ap, sym, subst, drop, ◌∙◌}
use Rattle.std.proofs.lemmas.Bool.{cases_eq}
use Rattle.uid_names.proofs.Somes.{none-there}
use Rattle.ring_links.specs.Carried.{Carrying}
use Rattle.journal_check.specs.Orders.{IsHalfwayAs, IsOrderAs}
use Rattle.journal_check.specs.declared.order.Bare.{Bare}
use Rattle.journal_check.specs.declared.order.Order.{Order}
use Rattle.journal_check.proofs.Ordering.{half-end-waiting, half-next}
use Rattle.journal_check.proofs.order.Order.settle.Goals as goal

pub returns-in_default-clause-order : goal.returns-in_default-clause-order
returns-in_default-clause-order c = λ delivered taken half.
    let o = c.loop-self.self in
    let none : o.fault ≡ None = none-there o.fault c.loop-self-test.ensures in
    let at = subst (λ (f : Option ℕ). IsHalfwayAs f delivered taken o.waiting o.early.items) none (c.loop-self.invariant.order delivered taken half) in
    subst (λ (f : Option ℕ). IsOrderAs f delivered taken o.waiting o.early.items) (sym none) (half-end-waiting delivered taken o.waiting o.early.items at (sym c.in_default.ensures))

pub loop-self-preserved : goal.loop-self-preserved
loop-self-preserved c =
    let o = c.loop-self.self in
    let was = c.args.self.now in
    let t = c.in-Some-pop_front.taken in
    let next = c.in-Some.next in
    let none : o.fault ≡ None = none-there o.fault c.loop-self-test.ensures in
    let less : Carrying Bare = record { frames = o.waiting.frames; queue = drop 1 o.waiting.queue; later = o.waiting.later } in
    elim (cases_eq t.index next) [
      | inl same ↦
          let e = c.take_next.ensures.same same in
          record {
            order = λ delivered taken half.
                let at = subst (λ (f : Option ℕ). IsHalfwayAs f delivered taken o.waiting o.early.items) none (c.loop-self.invariant.order delivered taken half) in
                subst (λ (x : Order). IsHalfwayAs x.fault delivered taken x.waiting x.early.items) (sym e)
                (subst (λ (f : Option ℕ). IsHalfwayAs f delivered taken less c.pop_front.new.self.items) (sym none)
                (half-next delivered taken o.waiting o.early.items None less c.pop_front.new.self.items next t at (sym c.in-Some.ensures) c.in-Some-pop_front.ensures.items (λ _. (refl, refl)) (λ differs. absurd (differs same))));
            frames = ap (λ (x : Order). x.waiting.frames) e ∙ c.loop-self.invariant.frames;
            later = ap (λ (x : Order). x.waiting.later) e ∙ c.loop-self.invariant.later;
          }
      | inr differs ↦
          let e = c.take_next.ensures.other differs in
          record {
            order = λ delivered taken half.
                let at = subst (λ (f : Option ℕ). IsHalfwayAs f delivered taken o.waiting o.early.items) none (c.loop-self.invariant.order delivered taken half) in
                subst (λ (x : Order). IsHalfwayAs x.fault delivered taken x.waiting x.early.items) (sym e)
                (half-next delivered taken o.waiting o.early.items (Some t.line) o.waiting c.pop_front.new.self.items next t at (sym c.in-Some.ensures) c.in-Some-pop_front.ensures.items (λ same. absurd (differs same)) (λ _. refl));
            frames = ap (λ (x : Order). x.waiting.frames) e ∙ c.loop-self.invariant.frames;
            later = ap (λ (x : Order). x.waiting.later) e ∙ c.loop-self.invariant.later;
          }
    ]
