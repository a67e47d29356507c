-- What comes of a script's nodes.
use Rattle.std.proofs.Common.{◌≡◌, ℕ, ◌-◌, ◌<◌, Option, Some, None, Result, Ok, Err, List, [], length, map, reverse, slice_index_or, refl, sym, ◌∙◌, ap, subst, arith}
use Rattle.std.specs.Prelude.{All, IsSome, IfSome, IfOk, IfErr, IsErrOf}
use Rattle.std.specs.Option.{option_map}
use Rattle.std.proofs.lemmas.List.{length-map, reverse-reverse}
use Rattle.std.proofs.lemmas.List.Elements.{All-weaker}
use Rattle.std.proofs.lemmas.Option.{slice_get-get_or}
use Rattle.uid_names.proofs.ListLemmas.{All-reverse}
use Rattle.uid_names.specs.Names.{ProcName}
use Rattle.uid_names.specs.Openings.{IsStart}
use Rattle.dom_history.specs.Events.{Happening}
use Rattle.dom_history.specs.declared.plan.FateRow.{FateRow}
use Rattle.dom_history.specs.declared.event.What.{What}
use Rattle.dom_history.specs.declared.event.What.TheVariants.{Begin, Go, Take, Notice, Ready, Mark}
use Rattle.dom_history.specs.declared.event.Sent.{Sent}
use Rattle.dom_history.specs.declared.event.NodeLog.{NodeLog}
use Rattle.dom_history.specs.Programs.{program_after}
use Rattle.dom_history.specs.Follows.{Heard}
use Rattle.script_reader.specs.declared.script.NodeRow.{NodeRow}
use Rattle.script_reader.specs.Scripts.{Content, IsContent}
use Rattle.script_reader.specs.Commands.{IsCommandRow}
use Rattle.aegis_shell.specs.Asking.{answers}
use Rattle.aegis_shell.specs.Shells.{Shelled, shell_of, shell_wants, shell_after, shell_answers}
use Rattle.journal_text.specs.Lines.{Names, NamesWhat, IsNamed}
use Rattle.fault_handler.specs.Desks.{IsNode}
use Rattle.node_runs.specs.Setups.{Setup}
use Rattle.node_runs.specs.NodeStates.{NodeState, proc_of}
use Rattle.node_runs.specs.Runs.{World, first_world}
use Rattle.world_runs.specs.Draws.{ComesToLast}
use Rattle.world_runs.specs.ByPlace.{by_place}
use Rattle.world_runs.specs.NamedNodes.{NamesNodes, NamesNodesIn}
use Rattle.node_core.specs.declared.fault.RunFault.{RunFault}
use Rattle.node_core.specs.declared.fault.RunFault.TheVariants.{TickLimit, NoMemory}
use Rattle.world_core.specs.declared.world.World.{World as Whole}
use Rattle.ended_nodes.specs.Ended.{named}
use Rattle.world_core.specs.Stands as worlds
use Rattle.script_runs.specs.Processes.{processes_of}
use Rattle.script_runs.specs.Setups.{setup_of}
use Rattle.script_runs.specs.Runs.{IsEndedRunOf, IsPickedRunOf, ComesToTick}
use Rattle.script_runs.specs.Reports.{names_of, rows_of}
use Rattle.script_runs.specs.Histories.{heard_in, script_history, IsAsOneStore, AreAnswersOfHistory}
use Rattle.mail_runs.specs.Mailboxes.{AreMailboxesKept}
use Rattle.node_threads.specs.Ran.{HaveRun, EndsTogether}
use Rattle.script_runs.proofs.ProcsWith.{processes_of-All}
use Rattle.script_runs.proofs.Running.{map-each}
use Rattle.script_runner.specs.declared.run.AnswerRow.{AnswerRow}
use Rattle.script_runner.specs.Answered.{answers_by, row_in}
use Rattle.script_runner.specs.EndedShells.{AreEndedShells}
use Rattle.script_runner.specs.Faults.{IsFaultOf}
use Rattle.script_runner.specs.Nodes.{made_shell}
use Rattle.script_runner.specs.Reports.{RunOf, answers_in}
use Rattle.script_runner.proofs.FirstNodes.{shell_found}

-- each process of a script is one of its nodes
pub processes_named : (s : Content) → IsContent s → All (λ p. IsNode (length s.nodes) p.node) (processes_of s.commands)
processes_named s content = processes_of-All (λ p. IsNode (length s.nodes) p.node) s.commands
    (All-weaker (IsCommandRow (length s.nodes) s.phases) (λ row. IsNode (length s.nodes) row.proc.node) (λ row h. (h.proc.node.0, h.node)) s.commands content.draft.commands)

-- the shell of each process of a script is made
pub shells_made : (s : Content) → All (λ p. made_shell s p.node p.number ≡ Some (shell_of s p)) (processes_of s.commands)
shells_made s i d below = shell_found s (processes_of s.commands) (slice_index_or (processes_of s.commands) i d) i d below refl

-- a node of so many has a name
named_node : (s : Content) (n : ℕ) → IsNode (length s.nodes) n → IsNamed (names_of s) n
named_node s n node =
    let low = node.0 in
    let high = node.1 in
    let short : n - 1 < length (names_of s) = omega (arith, low, high, length-map s.nodes (λ (r : NodeRow). r.name)) in
    subst IsSome (sym (slice_get-get_or (names_of s) (n - 1) [] short)) refl

named_what : (s : Content) (what : What) → NamesNodesIn (length s.nodes) what → NamesWhat (names_of s) what
named_what s (Begin p) names = tt
named_what s (Go p) names = tt
named_what s (Take from index) names = named_node s from names
named_what s (Notice p from to index) names = (named_node s from names.0, named_node s to names.1)
named_what s (Ready phase) names = tt
named_what s (Mark from phase) names = named_node s from names

named_sent : (s : Content) (sent : Option Sent) → IfSome sent (λ x. IsNode (length s.nodes) x.to) → IfSome sent (λ x. IsNamed (names_of s) x.to)
named_sent s None names = tt
named_sent s (Some x) names = named_node s x.to names

-- an event that names nodes of a script alone has names for them
pub events_named : (s : Content) (events : List Happening) → All (NamesNodes (length s.nodes)) events → All (Names (names_of s)) (reverse events)
events_named s events all = All-reverse (Names (names_of s)) events
    (All-weaker (NamesNodes (length s.nodes)) (Names (names_of s)) (λ e names. record {
      place = named_node s e.place.node names.place;
      what = named_what s e.what names.what;
      sent = named_sent s e.effects.sent names.sent;
    }) events all)

-- the turns of a script's nodes end in a run, or come to the last tick
pub run_found : {G R : Type 0} (events : R → List Happening) (programs : R → List (ProcName × Shelled)) (s : Content) (seed last : ℕ) (x : Whole Shelled G) (r : Result R RunFault)
    → worlds.Stands shell_wants shell_after (made_shell s) (setup_of s) x (first_world (setup_of s)) → x.plan ≡ s.plan
    → IfOk r (λ y. (made : ℕ → ℕ → Option Shelled) (t : Setup) → worlds.Stands shell_wants shell_after made t x (first_world t) → worlds.IsRunOf shell_wants shell_after made t x.plan seed last (events y) (programs y))
    → IfOk r (λ y. worlds.IsRunOf shell_wants shell_after (made_shell s) (setup_of s) s.plan seed last (events y) (programs y))
run_found events programs s seed last x (Err e) stands plan found = tt
run_found events programs s seed last x (Ok y) stands plan found =
    subst (λ (rows : List FateRow). worlds.IsRunOf shell_wants shell_after (made_shell s) (setup_of s) rows seed last (events y) (programs y)) plan (found (made_shell s) (setup_of s) stands)

-- the turns of a number do not come both to a run and to the last tick
abbrev pub NeverBoth : Type 0
NeverBoth = (s : Content) (seed last node : ℕ) (events : List Happening) → IsPickedRunOf s seed last events → ComesToTick s seed last node → ⊥

pub limit_found : {G R : Type 0} (s : Content) (number last : ℕ) (x : Whole Shelled G) (r : Result R RunFault)
    → worlds.Stands shell_wants shell_after (made_shell s) (setup_of s) x (first_world (setup_of s)) → x.plan ≡ s.plan
    → ((n : ℕ) → IsErrOf r (TickLimit n) → (made : ℕ → ℕ → Option Shelled) (t : Setup) → worlds.Stands shell_wants shell_after made t x (first_world t) → ComesToLast t x.plan number last n)
    → IfErr r (IsFaultOf s (Some number) last)
limit_found s number last x (Ok y) stands plan found = tt
limit_found s number last x (Err NoMemory) stands plan found = tt
limit_found s number last x (Err (TickLimit n)) stands plan found =
    subst (λ (rows : List FateRow). ComesToLast (setup_of s) rows number last n) plan (found n refl (made_shell s) (setup_of s) stands)

-- laws of a script's runs
abbrev pub NameTheirNodes : Type 0
NameTheirNodes = (s : Content) → IsContent s → IsStart s.opening → (events : List Happening) (w : World) → IsEndedRunOf s events w → All (NamesNodes (length s.nodes)) events

abbrev pub AreAsOneStore : Type 0
AreAsOneStore = (s : Content) → IsContent s → IsStart s.opening → (events : List Happening) (w : World) → IsEndedRunOf s events w → IsAsOneStore s events w

abbrev pub KeepMailboxes : Type 0
KeepMailboxes = (s : Content) → IsContent s → IsStart s.opening → (events : List Happening) (w : World) → IsEndedRunOf s events w → AreMailboxesKept s (script_history s events)

abbrev pub AnswerByHistory : Type 0
AnswerByHistory = (s : Content) → IsContent s → IsStart s.opening → (events : List Happening) (w : World) → IsEndedRunOf s events w → AreAnswersOfHistory s events w

-- the turns of a number end in nodes of the script that have ended
pub shells_of_turns : (s : Content) (content : IsContent s) (number last : ℕ) (events : List Happening) (programs : List (ProcName × Shelled))
    → worlds.IsRunOf shell_wants shell_after (made_shell s) (setup_of s) s.plan number last events programs → NeverBoth → AreEndedShells s (Some number) last events programs
shells_of_turns s content number last events programs ended never =
    let done = by_place ended.world.done in
    let picks : IsPickedRunOf s number last (by_place ended.world.done) = record { world = ended.world; ends = ended.ends; events = refl } in
    let alike = ended.so_far.ended ended.ended in
    record {
      done = done;
      world = alike.0;
      run = record { run = alike.1; timely = alike.2 };
      picked = picks;
      below = λ node. never s number last node done picks;
      recent = ended.so_far.recent;
      by_place = ended.events_are;
      heard = λ p node.
          ended.programs_are.ended p (subst (λ n. IsNode n p.node) (sym content.draft.opening_nodes) node)
          ∙ ap (λ (x : NodeState). option_map (λ y. program_after shell_after y (proc_of x p.number).heard) (made_shell s p.node p.number)) (alike.3.nodes p.node);
    }

-- so do threads
pub shells_of_threads : (s : Content) (content : IsContent s) (last : ℕ) (logs : List NodeLog) (events : List Happening) (programs : List (ProcName × Shelled))
    → (ran : HaveRun shell_wants shell_after (made_shell s) (setup_of s) s.plan logs programs) → EndsTogether (setup_of s) s.plan ran.worlds (reverse events) → AreEndedShells s None last events programs
shells_of_threads s content last logs events programs ran ends = record {
  done = reverse events;
  world = ends.world;
  run = record { run = ends.run; timely = ends.timely };
  picked = tt;
  below = tt;
  recent = ends.recent;
  by_place = sym (reverse-reverse events);
  heard = λ p node.
      ran.programs_are.ended p (subst (λ n. IsNode n p.node) (sym content.draft.opening_nodes) node)
      ∙ ap (λ (x : NodeState). option_map (λ y. program_after shell_after y (proc_of x p.number).heard) (made_shell s p.node p.number)) (sym (ends.together.nodes p.node));
}

module _ (s : Content) (content : IsContent s) (turns : Option ℕ) (last : ℕ) (events : List Happening) (programs : List (ProcName × Shelled)) (ended : AreEndedShells s turns last events programs) where
  -- the shell of each process is what it became by what its program heard
  shells_are : All (λ p. named programs p ≡ Some (program_after shell_after (shell_of s p) (heard_in ended.world p))) (processes_of s.commands)
  shells_are i d below =
      let p = slice_index_or (processes_of s.commands) i d in
      let node : IsNode (length s.nodes) (slice_index_or (processes_of s.commands) i d).node = processes_named s content i d below in
      ended.heard p node ∙ ap (option_map (λ y. program_after shell_after y (heard_in ended.world p))) (shells_made s i d below)

  -- each has one
  pub shells_there : (procs : List ProcName) → procs ≡ processes_of s.commands → All (λ p. IsSome (named programs p)) procs
  shells_there procs are = subst (All (λ p. IsSome (named programs p))) (sym are) (λ i d below. subst IsSome (sym (shells_are i d below)) refl)

  -- their answers are those over what was heard
  pub rows_are : ((p : ProcName) (heard : Heard) → shell_answers (program_after shell_after (shell_of s p) heard) ≡ answers s p heard)
      → (procs : List ProcName) → procs ≡ processes_of s.commands → map (row_in programs) procs ≡ rows_of s (heard_in ended.world)
  rows_are law procs are =
      ap (map (row_in programs)) are
      ∙ map-each (row_in programs) (λ p. record { proc = p; answers = answers s p (heard_in ended.world p) }) (processes_of s.commands)
      (λ i d below.
      let p = slice_index_or (processes_of s.commands) i d in
      ap (λ (texts : List (List ℕ)). record { proc = p; answers = texts }) (ap answers_by (shells_are i d below) ∙ law p (heard_in ended.world p)))

  module _ (start : IsStart s.opening) where
    -- what came of the script
    pub ran_is : AreAsOneStore → KeepMailboxes → AnswerByHistory → ((p : ProcName) (heard : Heard) → shell_answers (program_after shell_after (shell_of s p) heard) ≡ answers s p heard)
        → (procs : List ProcName) → procs ≡ processes_of s.commands → (rows : List AnswerRow) → map answers_in rows ≡ map (row_in programs) procs → RunOf s turns last (record { events = events; answers = rows })
    ran_is one_store kept by_history answered procs are rows same =
        record {
          events = ended.done;
          world = ended.world;
          run = ended.run;
          picked = ended.picked;
          below = ended.below;
          one_store = one_store s content start ended.done ended.world ended.run;
          mailboxes = kept s content start ended.done ended.world ended.run;
          recent = ended.recent;
          by_place = ended.by_place;
          answered = same ∙ (rows_are answered procs are ∙ by_history s content start ended.done ended.world ended.run);
        }

    -- each node that an event names has a name
    pub names_are : NameTheirNodes → All (Names (names_of s)) events
    names_are named = subst (All (Names (names_of s))) (sym ended.by_place) (events_named s ended.done (named s content start ended.done ended.world ended.run))
