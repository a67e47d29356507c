use Rattle.std.proofs.Common.{◌≡◌, ℕ, ◌<◌, List, length, get_or, sym, subst, ◌∙◌, arith}
use Rattle.std.proofs.lemmas.List.{get_or_default}
use Rattle.dom_history.specs.MergedLogs.{IsOrder}
use Rattle.dom_history.proofs.OrderedLogs.{log_within, count_within, event_within}
use Rattle.dom_history.proofs.merged_logs.LogReader.next.Goals as goal

pub next_event-event-requires-clause-log : goal.next_event-event-requires-clause-log
next_event-event-requires-clause-log c =
    let logs = c.self.inside.logs.now in
    let is = subst (IsOrder logs c.self.inside.came.items) c.in_ok-i.ensures.cases.0 c.self.invariant in
    log_within logs c.self.inside.came.items c.in_ok-i.i.now is.0

pub next_event-event-requires-clause-count : goal.next_event-event-requires-clause-count
next_event-event-requires-clause-count c =
    let logs = c.self.inside.logs.now in
    let is = subst (IsOrder logs c.self.inside.came.items) c.in_ok-i.ensures.cases.0 c.self.invariant in
    let inside = count_within logs c.self.inside.came.items c.in_ok-i.i.now is.0 in
    subst (λ (came : List ℕ). c.in_ok-i.i.now < length came) (sym c.deref.ensures.value) inside

pub offset_bounds-self-inside-i : goal.offset_bounds-self-inside-i
offset_bounds-self-inside-i c =
    let logs = c.self.inside.logs.now in
    let is = subst (IsOrder logs c.self.inside.came.items) c.in_ok-i.ensures.cases.0 c.self.invariant in
    let inside = log_within logs c.self.inside.came.items c.in_ok-i.i.now is.0 in
    omega (arith, inside)

pub bounds-self-inside-i : goal.bounds-self-inside-i
bounds-self-inside-i c =
    let logs = c.self.inside.logs.now in
    let is = subst (IsOrder logs c.self.inside.came.items) c.in_ok-i.ensures.cases.0 c.self.invariant in
    log_within logs c.self.inside.came.items c.in_ok-i.i.now is.0

pub index_mut-requires : goal.index_mut-requires
index_mut-requires c =
    let logs = c.self.inside.logs.now in
    let is = subst (IsOrder logs c.self.inside.came.items) c.in_ok-i.ensures.cases.0 c.self.invariant in
    let inside = count_within logs c.self.inside.came.items c.in_ok-i.i.now is.0 in
    omega (arith, inside)

pub count-requires : goal.count-requires
count-requires c =
    let logs = c.self.inside.logs.now in
    let came = c.self.inside.came.items in
    let i = c.in_ok-i.i.now in
    let is = subst (IsOrder logs came) c.in_ok-i.ensures.cases.0 c.self.invariant in
    let within = event_within logs came i c.index-self-i.result is.0 in
    let same-came : get_or came i 0 ≡ c.index_mut.result.now =
    get_or_default came i 0 c.index_mut.result.now (count_within logs came i is.0) ∙ sym c.index_mut.ensures.value in
    omega (arith, within, same-came)
