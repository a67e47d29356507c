use Rattle.std.proofs.Common.{◌≡◌, List, Some, inl, inr, sym, ap, ◌∙◌}
use Rattle.std.specs.Prelude.{map}
use Rattle.uid_names.specs.Names.{ProcName, IsProcNumber}
use Rattle.dom_history.specs.Events.{Happening}
use Rattle.node_runs.specs.Setups.{Setup, IsSetup}
use Rattle.node_runs.specs.NodesKeep.{IsTimely}
use Rattle.node_runs.specs.Runs.{World, choice_of, world_of}
use Rattle.node_runs.specs.RunHistories.{history_of}
use Rattle.run_laws.specs.HeardOf.{heard_in, own_entries, heard_by_phase}
use Rattle.run_laws.proofs.HistoryEntries.{IsReached}
use Rattle.run_laws.proofs.Reached.{reached-of, done-apart}
use Rattle.run_laws.proofs.every.histories_say_what_was_heard.Goals as goal

pub returns : goal.returns
returns c =
    let reached : (s : Setup) → IsSetup s → (es : List Happening) (w : World) → world_of s es ≡ Some w → IsTimely w → (p : ProcName) → IsProcNumber p.number → IsReached s (history_of s es) w p =
    λ s setup es w leads timely p proc. reached-of s es w leads (c.open_operations_stand_last.ensures s setup (map choice_of es) w leads timely) p proc in
    record {
      phases = λ s setup es w leads timely p proc.
          let is = reached s setup es w leads timely p proc in
          let own = own_entries (history_of s es) p in
          elim is.in_phase [
            | inl same ↦ inl (c.entries_say_what_was_heard.ensures.phases (s.asks p) own (heard_in w p) is.phase is.reaches ∙ ap (heard_by_phase own) (sym same))
            | inr is_done ↦ inr is_done
          ];
      asks = λ s setup paced es w leads timely p proc apart.
          let is = reached s setup es w leads timely p proc in
          c.entries_say_what_was_heard.ensures.asks (s.asks p) s.phases (paced.phases p) (own_entries (history_of s es) p) (heard_in w p) is.phase is.reaches apart;
      ended = λ s plan setup paced es w run timely p proc.
          let is = reached s setup es w run.leads timely p proc in
          c.entries_say_what_was_heard.ensures.asks (s.asks p) s.phases (paced.phases p) (own_entries (history_of s es) p) (heard_in w p) is.phase is.reaches
          (done-apart (s.asks p (heard_in w p)) (c.an_ended_run_ends_its_programs.ensures.programs s plan setup paced es w run timely p proc));
      ended_history = λ s paced h ended p.
          let is = ended.all_done p in
          let own = own_entries h p in
          ap (s.asks p) (sym (c.entries_say_what_was_heard.ensures.asks (s.asks p) s.phases (paced.phases p) own is.heard is.phase is.reaches (done-apart (s.asks p is.heard) is.finished)))
          ∙ is.finished;
    }
