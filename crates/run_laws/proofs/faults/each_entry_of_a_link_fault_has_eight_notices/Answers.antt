use Rattle.std.proofs.Common.{Option, map, sym, ap, subst, ◌∙◌}
use Rattle.std.specs.Prelude.{All}
use Rattle.std.proofs.lemmas.List.Elements.{All-weaker}
use Rattle.node_runs.specs.Notes.{Told}
use Rattle.node_runs.specs.Runs.{World, Noted, choice_of}
use Rattle.node_runs.specs.RunHistories.{all_told, history_in, history_if}
use Rattle.world_runs.specs.Faults.{CallName, IsFaultlessNote}
use Rattle.world_runs.proofs.LostFrames.{done-is}
use Rattle.run_laws.specs.NotedEntries.{entry_of}
use Rattle.run_laws.specs.LinkFaults.{fault_entries}
use Rattle.run_laws.specs.EightNotices.{HasEightNotices}
use Rattle.run_laws.proofs.OpEnds.{each-from, one-end}
use Rattle.run_laws.proofs.FaultEntries.{IsEndedByFault, faults-ended}
use Rattle.run_laws.proofs.FramesTold.{runs-own}
use Rattle.run_laws.proofs.Eight.{eight-notices}
use Rattle.run_laws.proofs.faults.each_entry_of_a_link_fault_has_eight_notices.Goals as goal

pub returns : goal.returns
returns c = record {
  eight = λ s plan setup es w planned leads timely.
      let cs = map choice_of es in
      let desk = each-from (λ (m : Noted). IsFaultlessNote m.note) w.trace (c.each_link_fault_has_eight_notices.ensures.desk s setup cs w leads timely) in
      let eight = c.each_link_fault_has_eight_notices.ensures.eight s setup cs w leads timely in
      subst (λ (o : Option World). All (HasEightNotices plan w) (fault_entries (history_if s o))) (sym leads)
      (All-weaker (IsEndedByFault (all_told w.trace)) (HasEightNotices plan w) (λ e end. eight-notices s plan es w planned (done-is s es w planned.run leads) (runs-own s cs w leads) eight e end)
      (fault_entries (history_in s w)) (faults-ended s setup cs w leads timely desk));
  own = λ s plan setup es w leads timely d e one other same.
      let ends = one-end (all_told w.trace) (c.operations_end_in_order.ensures s setup (map choice_of es) w leads timely) one.end other.end one.told other.told
      (ap (λ (x : CallName). x.proc) same) (ap (λ (x : CallName). x.number) same) in
      sym one.entry ∙ ap (λ (t : Told). entry_of t.begun t) ends ∙ other.entry;
}
