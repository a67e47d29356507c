use Rattle.std.proofs.Common.{◌≤◌, List, length, arith}
use Rattle.std.proofs.lemmas.List.{length-map}
use Rattle.dom_history.specs.Events.{Happening}
use Rattle.script_reader.specs.Scripts.{Content}
use Rattle.aegis_shell.proofs.Parts.{node_names}
use Rattle.node_runs.specs.Runs.{World}
use Rattle.script_runs.specs.Reports.{names_of}
use Rattle.script_runs.specs.Runs.{IsEndedRunOf}
use Rattle.script_runs.specs.Setups.{setup_of}
use Rattle.run_journals.specs.Begins.{CanRun}
use Rattle.run_journals.specs.Journals.{AreRunsTold, SpellsOnly, journal_of}
use Rattle.run_journals.proofs.laws.the_journal_of_a_script_tells_its_run.Goals as goal

pub returns : goal.returns
returns c =
    let enough : (s : Content) → CanRun s → s.opening.nodes ≤ length (names_of s) =
    λ s can. let all = length-map s.nodes (λ n. n.name) in let nodes = can.content.draft.opening_nodes in omega (arith, all, nodes)
    in
    let told : (s : Content) → CanRun s → AreRunsTold (names_of s) (setup_of s) =
    λ s can. c.a_journal_tells_its_run.ensures.spells (setup_of s) (c.scripts_set_nodes_up.ensures s can.content can.start) (names_of s) (node_names s can.content) (enough s can)
    in
    let ended : (s : Content) → CanRun s → (events : List Happening) (w : World) → IsEndedRunOf s events w → SpellsOnly (names_of s) (journal_of (names_of s) events) events =
    λ s can events w is. told s can events (record { run = is.run.planned.run; world = w; leads = is.run.leads; timely = is.timely })
    in
    record {
      runs = told;
      ended = ended;
      picked = λ s seed last can most events picked.
          let led = c.a_seed_picks_one_run_of_a_script.ensures.ended s seed last can.content can.start most events picked in
          ended s can events led.0 led.1;
      one = λ s can.
          let setup = c.scripts_set_nodes_up.ensures s can.content can.start in
          c.a_journal_tells_its_run.ensures.one (setup_of s) (setup_of s) setup setup (names_of s) (node_names s can.content) (enough s can) (enough s can);
    }
