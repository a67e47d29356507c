use Rattle.std.proofs.Common.{◌≡◌, List, Option, Some, length, map, sym, ap, ◌∙◌}
use Rattle.dom_history.specs.Events.{Happening}
use Rattle.node_runs.specs.Setups.{Setup, IsSetup}
use Rattle.node_runs.specs.NodesKeep.{IsTimely}
use Rattle.node_runs.specs.Runs.{World, Noted, choice_of, world_of}
use Rattle.node_runs.specs.RunHistories.{all_told, history_if, history_of}
use Rattle.world_runs.specs.Faults.{faults_in, IsFaultlessNote}
use Rattle.world_runs.proofs.LostFrames.{done-is}
use Rattle.run_laws.proofs.HistoryEntries.{history-entries}
use Rattle.run_laws.specs.LinkFaults.{fault_entries, link_faults}
use Rattle.run_laws.proofs.OpEnds.{each-from}
use Rattle.run_laws.proofs.NotedFaults.{by_fault, as-many-entries}
use Rattle.run_laws.proofs.FaultEnds.{runs-told, noted-calls}
use Rattle.run_laws.proofs.faults.each_link_fault_has_one_entry.Goals as goal

pub returns : goal.returns
returns c =
    let desk = λ (s : Setup) (setup : IsSetup s) (es : List Happening) (w : World) (leads : world_of s es ≡ Some w) (timely : IsTimely w).
    each-from (λ (m : Noted). IsFaultlessNote m.note) w.trace (c.each_link_fault_has_eight_notices.ensures.desk s setup (map choice_of es) w leads timely) in
    let calls : (s : Setup) → IsSetup s → (es : List Happening) (w : World) → world_of s es ≡ Some w → IsTimely w → length (fault_entries (history_of s es)) ≡ length (faults_in w.trace) =
    λ s setup es w leads timely.
    let cs = map choice_of es in
    ap (λ (o : Option World). length (fault_entries (history_if s o))) leads
    ∙ ap (λ es. length (by_fault es)) (history-entries w (all_told w.trace) w.trace)
    ∙ as-many-entries w.trace (c.entries_stand_within_their_operations.ensures.rising s cs w leads) (c.entries_stand_within_their_operations.ensures.ends s setup cs w leads timely)
    (c.operations_end_in_order.ensures s setup cs w leads timely) (desk s setup es w leads timely) in
    record {
      calls = calls;
      events = λ s setup es w run leads timely.
          calls s setup es w leads timely ∙ sym (noted-calls w.trace (desk s setup es w leads timely)) ∙ sym (runs-told s (map choice_of es) w leads).told
          ∙ ap link_faults (done-is s es w run leads);
    }
