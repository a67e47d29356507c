-- What comes of nodes that count, once they have ended.
use Rattle.std.proofs.Common.{◌≡◌, ◌≢◌, ℕ, false, Some, List, [], sym, ◌∙◌, ap, subst}
use Rattle.std.specs.Prelude.{IfSome, reverse}
use Rattle.std.specs.Option.{option_map}
use Rattle.std.proofs.lemmas.List.Elements.{All-nil}
use Rattle.uid_names.specs.Names.{ProcName}
use Rattle.uid_names.proofs.InOrder.{AllPairs-nil}
use Rattle.dom_history.specs.Events.{Happening}
use Rattle.dom_history.specs.declared.event.NodeLog.{NodeLog}
use Rattle.dom_history.specs.declared.plan.FateRow.{FateRow}
use Rattle.dom_history.specs.Programs.{program_after}
use Rattle.fault_handler.specs.Desks.{IsNode}
use Rattle.node_runs.specs.NodeStates.{NodeState, proc_of}
use Rattle.node_runs.specs.NodesKeep.{IsTimely}
use Rattle.node_runs.specs.Runs.{World, IsRun, world_of}
use Rattle.node_runs.specs.Setups.{Setup, IsSetup}
use Rattle.run_laws.specs.EveryRun.{IsRightRun}
use Rattle.world_runs.specs.ByPlace.{by_place}
use Rattle.world_core.specs.Stands.{IsRunOf}
use Rattle.dom_history.specs.Plans.{IsPlan, is_of_frame}
use Rattle.ring_links.specs.Merged.{AreMerged}
use Rattle.node_threads.specs.Ran.{HaveRun}
use Rattle.ended_nodes.specs.Ended.{named}
use Rattle.count_up.specs.declared.counter.Counter.{Counter}
use Rattle.count_up.specs.Counters.{first_counter, want_of, counter_after, seen_by}
use Rattle.count_up.specs.Counting.{made_counter, counting}
use Rattle.count_up.specs.Starting.{object}
use Rattle.count_up.specs.Sums.{CountsTo, HaveSeen}
use Rattle.count_up.proofs.Seeing.{named_each}
use Rattle.count_up.proofs.Setting.{made_one, counting_is}

-- a process's counter, as one of those that were handed back
seen_of : (rounds sum n : ℕ) (state : NodeState) (counters : List (ProcName × Counter)) → IsNode 3 n → HaveSeen sum counters
    → named counters (record { node = n; number = 1 }) ≡ option_map (λ y. program_after counter_after y (proc_of state 1).heard) (made_counter rounds n 1)
    → seen_by (program_after counter_after (first_counter object rounds) (proc_of state 1).heard) ≡ Some sum
seen_of rounds sum n state counters node seen is =
    let this = is ∙ ap (option_map (λ y. program_after counter_after y (proc_of state 1).heard)) (made_one rounds n node) in
    subst (λ o. IfSome o (λ c. seen_by c ≡ Some sum)) this (named_each (λ c. seen_by c ≡ Some sum) counters (record { node = n; number = 1 }) seen)

-- turns come to it
pub by_turns_ended : (rounds sum seed last : ℕ) (events : List Happening) (counters : List (ProcName × Counter))
    → IsRunOf want_of counter_after (made_counter rounds) (counting rounds) [] seed last events counters → HaveSeen sum counters → CountsTo rounds sum
by_turns_ended rounds sum seed last events counters ran seen =
    let alike = ran.so_far.ended ran.ended in
    record {
      events = by_place ran.world.done;
      world = alike.0;
      run = alike.1;
      timely = alike.2;
      right = ran.so_far.right;
      seen = λ n node.
          subst (λ (state : NodeState). seen_by (program_after counter_after (first_counter object rounds) (proc_of state 1).heard) ≡ Some sum) (alike.3.nodes n)
          (seen_of rounds sum n (ran.world.nodes n) counters node seen (ran.programs_are.ended (record { node = n; number = 1 }) node));
    }

-- a run in which no tick is above the greatest is right
abbrev pub AreRightWhereTimely : Type 0
AreRightWhereTimely = (s : Setup) → IsSetup s → (es : List Happening) (w : World) → IsRun s es → world_of s es ≡ Some w → IsTimely w → IsRightRun s es

no_faults : IsPlan []
no_faults = record { apart = All-nil (λ (row : FateRow). row.from ≢ row.to); once = AllPairs-nil (λ (a b : FateRow). is_of_frame b.from b.to b.index a ≡ false) }

-- so do threads
pub by_threads_ended : AreRightWhereTimely → (rounds sum : ℕ) (logs : List NodeLog) (events : List Happening) (counters : List (ProcName × Counter)) → HaveRun want_of counter_after (made_counter rounds) (counting rounds) [] logs counters → AreMerged logs events → HaveSeen sum counters → CountsTo rounds sum
by_threads_ended law rounds sum logs events counters ran merged seen =
    let ends = ran.merged (counting_is rounds) no_faults events merged in
    record {
      events = reverse events;
      world = ends.world;
      run = ends.run;
      timely = ends.timely;
      right = law (counting rounds) (counting_is rounds) (reverse events) ends.world ends.run.planned.run ends.run.leads ends.timely;
      seen = λ n node.
          subst (λ (state : NodeState). seen_by (program_after counter_after (first_counter object rounds) (proc_of state 1).heard) ≡ Some sum) (sym (ends.together.nodes n))
          (seen_of rounds sum n ((ran.worlds n).nodes n) counters node seen (ran.programs_are.ended (record { node = n; number = 1 }) node));
    }
