use Rattle.std.proofs.Common.{◌≤◌, length, sym, subst}
use Rattle.dom_history.specs.declared.plan.FateRow.{FateRow}
use Rattle.script_reader.specs.Fates.{IsFateRow}
use Rattle.script_reader.proofs.Drafting.{held-fate}
use Rattle.script_reader.proofs.draft.Draft.add_fate.Goals as goal

pub invariant_of-self-2 : goal.invariant_of-self-2
invariant_of-self-2 c =
    let d = c.self.inside in
    let view = sym c.self.view_is in
    let row : FateRow = record { from = c.args.from; to = c.args.to; index = c.args.index; fate = c.args.fate } in
    let given : IsFateRow (length d.nodes.items) row = record {
      from = subst (λ t. row.from ≤ length t.nodes) view c.requires.from;
      to = subst (λ t. row.to ≤ length t.nodes) view c.requires.to;
      index_low = c.requires.low;
      index_high = c.requires.high;
      fate = c.requires.fate;
    } in
    held-fate d c.set.new.self row c.self.invariant c.in_ok-set.ensures.ok c.rows-plan.ensures.plan given
