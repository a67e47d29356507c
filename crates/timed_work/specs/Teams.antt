-- The programs of nodes, and what the nodes of a world are given with them.
use Rattle.std.specs.Prelude.{◌≡◌, ℕ, ◌+◌, ◌-◌, Option, Some, None, List, [], All, map, length, slice_get, slice_index_or}
use Rattle.dom_history.specs.declared.op.Want.{Want}
use Rattle.dom_history.specs.declared.op.Want.TheVariants.{Phase}
use Rattle.dom_history.specs.Follows.{Heard}
use Rattle.dom_history.specs.Programs.{asked_by}
use Rattle.script_reader.specs.Scripts.{Content, wire_of}
use Rattle.node_runs.specs.Setups.{Given, Setup, ArePrograms}
use Rattle.node_runs.specs.NodeStates.{first_node}
use Rattle.node_core.specs.declared.setup.NodeSetup.{NodeSetup}
use Rattle.node_core.specs.Programs.{program_in, numbers_in}
use Rattle.node_core.specs.Nodes.{Noted, Stands, IsGivenBy}
use Rattle.timed_work.specs.Rounds.{Round, round_wants, round_after, IsReady}

-- the programs of a node's processes, each with the number of its process
pub record IsTeam (team : List (ℕ × Round)) : Type 0 where
  pub numbers : ArePrograms (numbers_in team)
  pub ready : All (λ e. IsReady e.1) team

-- the program of a process of a node, as it was made
abbrev pub made_round : List (List (ℕ × Round)) → ℕ → ℕ → Option Round
made_round teams n p = program_in (slice_index_or teams (n - 1) []) p

abbrev pub asks_of : Option Round → Heard → Want
asks_of None heard = Phase
asks_of (Some r) heard = asked_by round_wants round_after r heard

-- the nodes, version, objects and phases that a script declares, and these programs
abbrev pub setup_with : Content → List (List (ℕ × Round)) → Setup
setup_with s teams =
    record {
      opening = s.opening;
      wire = wire_of s;
      frames = map (λ n. n.frames) s.nodes;
      phases = s.phases;
      programs = map numbers_in teams;
      asks = λ p heard. asks_of (made_round teams p.node p.number) heard;
    }

abbrev pub node_setup : Content → ℕ → NodeSetup
node_setup s n = record { node = n; nodes = s.opening.nodes; wire = wire_of s; frames = slice_index_or (map (λ r. r.frames) s.nodes) (n - 1) 0; phases = s.phases }

-- a node of a script, made with these programs
pub record IsMade (s : Content) (n : ℕ) (team : List (ℕ × Round)) (x : Noted Round) : Type 0 where
  pub stands : (g : Given) → IsGivenBy round_wants round_after (node_setup s n) s.opening team g → Stands round_wants round_after (program_in team) g x (first_node g)
  pub log : x.log ≡ record { node = n; events = [] }

-- nodes by number, each made with its programs
pub record AreMade (s : Content) (teams : List (List (ℕ × Round))) (xs : List (Noted Round)) : Type 0 where
  pub count : length xs ≡ length teams
  pub teams_are : All IsTeam teams
  pub node : (n : ℕ) (x : Noted Round) → slice_get xs n ≡ Some x → IsMade s (n + 1) (slice_index_or teams n []) x
