use Rattle.std.proofs.Common.{ℕ, ◌<◌, List, length, ap, sym, subst, ◌∙◌, arith}
use Rattle.dom_history.specs.MergedLogs.{Merged}
use Rattle.dom_history.proofs.OrderedLogs.{length-came}
use Rattle.dom_history.proofs.merged_logs.MergedLogs.next.Goals as goal

pub next_event-requires-clause-count : goal.next_event-requires-clause-count
next_event-requires-clause-count c =
    let inside : c.args.i < length c.self.inside.logs.items = subst (λ (m : Merged). c.args.i < length m.logs) (sym c.self.view_is) c.requires in
    let same = ap (λ (came : List ℕ). length came) c.self.invariant.1 ∙ length-came c.self.inside.logs.items c.self.inside.order.items in
    omega (arith, inside, same)
