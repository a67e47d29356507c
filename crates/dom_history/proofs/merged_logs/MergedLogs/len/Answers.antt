use Rattle.std.proofs.Common.{length, ap, sym, ◌∙◌, arith}
use Rattle.dom_history.specs.MergedLogs.{Merged, none_came}
use Rattle.dom_history.proofs.OrderedLogs.{length-in_order}
use Rattle.dom_history.proofs.merged_logs.MergedLogs.len.Goals as goal

pub returns : goal.returns
returns c =
    let logs = c.self.inside.logs.items in
    let same = ap (λ (m : Merged). length m.events) (sym c.self.view_is) ∙ length-in_order logs (none_came logs) c.self.inside.order.items c.self.invariant.0 in
    omega (arith, same)
