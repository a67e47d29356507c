-- A run of paced programs that ends: the first run of node_runs, where the one process alone wants something.
use Rattle.std.specs.Prelude.{ℕ, Bool, true, false, Option, List, length}
use Rattle.std.specs.Option.{option_map}
use Rattle.uid_names.specs.Names.{same_proc}
use Rattle.dom_history.specs.declared.op.Want.{Want}
use Rattle.dom_history.specs.declared.op.Want.TheVariants.{Done}
use Rattle.dom_history.specs.Follows.{Heard}
use Rattle.dom_history.specs.Events.{Happening}
use Rattle.node_runs.specs.Setups.{Setup, given}
use Rattle.node_runs.specs.NodeStates.{is_ended}
use Rattle.node_runs.specs.Runs.{world_of}
use Rattle.node_runs.specs.FirstRun as one

abbrev pub wants_if : Bool → Heard → Want
wants_if true heard = one.nth_or_done one.wants (length heard)
wants_if false heard = Done

abbrev pub setup : Setup
setup = record one.setup { asks = λ q. wants_if (same_proc q one.p) }

-- whether a node has ended after events
abbrev pub has_ended_after : ℕ → List Happening → Option Bool
has_ended_after n es = option_map (λ w. is_ended (given setup n) (w.nodes n)) (world_of setup es)
