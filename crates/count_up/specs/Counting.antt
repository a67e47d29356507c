-- Three nodes, of each of which process 1 counts up one number.
use Rattle.std.specs.Prelude.{◌≡◌, ℕ, Bool, true, false, Option, Some, None, List, [], ◌∷◌}
use Rattle.dom_history.specs.declared.op.Want.{Want}
use Rattle.dom_history.specs.declared.op.Want.TheVariants.{Done}
use Rattle.dom_history.specs.Follows.{Heard}
use Rattle.dom_history.specs.Objects.{is_node}
use Rattle.dom_history.specs.Programs.{asked_by}
use Rattle.node_runs.specs.Setups.{Setup, given}
use Rattle.node_runs.specs.NodeStates.{first_node}
use Rattle.node_core.specs.Programs.{program_in}
use Rattle.node_core.specs.Nodes.{Noted, Stands}
use Rattle.count_up.specs.declared.counter.Counter.{Counter}
use Rattle.count_up.specs.Counters.{first_counter, want_of, counter_after}
use Rattle.count_up.specs.Starting.{object, start}

-- the programs of a node
abbrev pub team : ℕ → List (ℕ × Counter)
team rounds = (1, first_counter object rounds) ∷ []

abbrev pub made_if : Bool → ℕ → ℕ → Option Counter
made_if true rounds p = program_in (team rounds) p
made_if false rounds p = None

-- the program of a process
abbrev pub made_counter : ℕ → ℕ → ℕ → Option Counter
made_counter rounds n = made_if (is_node start n) rounds

-- who has no program asks nothing
abbrev pub asks_of : Option Counter → Heard → Want
asks_of None heard = Done
asks_of (Some c) heard = asked_by want_of counter_after c heard

-- what the nodes are given, where each process counts up so often
abbrev pub counting : ℕ → Setup
counting rounds =
    record {
      opening = start;
      wire = 2;
      frames = 8 ∷ 8 ∷ 8 ∷ [];
      phases = 2;
      programs = (1 ∷ []) ∷ (1 ∷ []) ∷ (1 ∷ []) ∷ [];
      asks = λ p heard. asks_of (made_counter rounds p.node p.number) heard;
    }

-- a node of these, as it is made
pub record IsCounting (rounds n : ℕ) (x : Noted Counter) : Type 0 where
  pub stands : Stands want_of counter_after (made_counter rounds n) (given (counting rounds) n) x (first_node (given (counting rounds) n))
  pub log : x.log ≡ record { node = n; events = [] }
