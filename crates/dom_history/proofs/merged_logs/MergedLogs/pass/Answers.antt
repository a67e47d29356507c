use Rattle.std.proofs.Common.{◌≡◌, ℕ, ◌+◌, IfSome, List, ◌∷◌, [], ◌++◌, length, set, get_or, subst, sym, ap, ◌∙◌, arith}
use Rattle.std.specs.Prelude.{IsSome}
use Rattle.std.proofs.lemmas.List.{get_or_default}
use Rattle.dom_history.specs.declared.event.NodeLog.{NodeLog}
use Rattle.dom_history.specs.MergedLogs.{Merged, next_at, none_came, one_more, came_by, in_order, IsOrder}
use Rattle.dom_history.proofs.OrderedLogs.{log_within, count_within, event_within, order-more, came_by-more, events-more}
use Rattle.dom_history.proofs.merged_logs.MergedLogs.pass.Goals as goal

pub index-requires : goal.index-requires
index-requires c =
    let inside = log_within c.self.inside.logs.items c.self.inside.came.items c.args.i (subst (λ (m : Merged). IsSome (next_at m.logs m.came c.args.i)) (sym c.self.view_is) c.requires) in
    omega (arith, inside)

pub index_mut-requires : goal.index_mut-requires
index_mut-requires c =
    let inside = count_within c.self.inside.logs.items c.self.inside.came.items c.args.i (subst (λ (m : Merged). IsSome (next_at m.logs m.came c.args.i)) (sym c.self.view_is) c.requires) in
    omega (arith, inside)

pub count-requires : goal.count-requires
count-requires c =
    let logs = c.self.inside.logs.items in
    let came = c.self.inside.came.items in
    let i = c.args.i in
    let some = subst (λ (m : Merged). IsSome (next_at m.logs m.came i)) (sym c.self.view_is) c.requires in
    let log = c.index.result.now in
    let within = event_within logs came i log some in
    let same-log : length (get_or logs i log).events ≡ length log.events = ap (λ (l : NodeLog). length l.events) (sym c.index.ensures) in
    let same-came : get_or came i 0 ≡ c.index_mut.result.now =
    get_or_default came i 0 c.index_mut.result.now (count_within logs came i some) ∙ sym c.index_mut.ensures.value in
    omega (arith, within, same-log, same-came)

pub invariant_of-self-2 : goal.invariant_of-self-2
invariant_of-self-2 c =
    let logs = c.self.inside.logs.items in
    let came = c.self.inside.came.items in
    let first = none_came logs in
    let order = c.self.inside.order.items in
    let i = c.args.i in
    let some = subst (λ (m : Merged). IsSome (next_at m.logs m.came i)) (sym c.self.view_is) c.requires in
    let by = c.self.invariant.1 in
    let one : c.index_mut.result.now ≡ get_or came i 0 =
    c.index_mut.ensures.value ∙ sym (get_or_default came i 0 c.index_mut.result.now (count_within logs came i some)) in (
      subst (IsOrder logs first) (sym c.in_ok-push.ensures.items) (order-more logs first order i c.self.invariant.0 (subst (λ (cs : List ℕ). IsSome (next_at logs cs i)) by some)),
      ap (set came i) (c.count.ensures ∙ ap (λ n. n + 1) one) ∙ ap (λ (cs : List ℕ). one_more cs i) by ∙ sym (came_by-more first order i) ∙ ap (came_by first) (sym c.in_ok-push.ensures.items),
    )

pub returns-clause-events : goal.returns-clause-events
returns-clause-events c =
    let logs = c.self.inside.logs.items in
    let first = none_came logs in
    subst (λ (m : Merged). IfSome (next_at m.logs m.came c.args.i) (λ e. in_order logs first c.push.new.self.items ≡ m.events ++ e ∷ [])) c.self.view_is
    (events-more logs first c.self.inside.came.items c.self.inside.order.items c.push.new.self.items c.args.i c.self.invariant.1 c.in_ok-push.ensures.items)
