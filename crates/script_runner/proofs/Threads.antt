-- What comes of a script's nodes that each have a thread.
use Rattle.std.proofs.Common.{◌≡◌, ℕ, List, None, Result, Ok, Err, refl, subst}
use Rattle.std.specs.Prelude.{IfErr, IsErrOf}
use Rattle.uid_names.specs.Names.{ProcName}
use Rattle.dom_history.specs.declared.event.NodeLog.{NodeLog}
use Rattle.dom_history.specs.declared.plan.FateRow.{FateRow}
use Rattle.script_reader.specs.Scripts.{Content}
use Rattle.aegis_shell.specs.Shells.{Shelled, shell_wants, shell_after}
use Rattle.node_core.specs.Nodes.{Noted}
use Rattle.node_core.specs.declared.fault.RunFault.{RunFault}
use Rattle.node_core.specs.declared.fault.RunFault.TheVariants.{TickLimit, NoMemory}
use Rattle.world_core.specs.Stands as worlds
use Rattle.node_threads.specs.Starts as posts
use Rattle.node_threads.specs.Ran.{HaveRun, ReachesTick}
use Rattle.script_runs.specs.Setups.{setup_of}
use Rattle.script_runner.specs.Faults.{IsFaultOf}
use Rattle.script_runner.specs.Nodes.{made_shell}

-- the nodes of a script are nodes at the start, as posts have them
pub threads_nodes : (s : Content) (nodes : List (Noted Shelled)) → worlds.AreNodes shell_wants shell_after (made_shell s) (setup_of s) nodes → posts.AreNodes shell_wants shell_after (made_shell s) (setup_of s) nodes
threads_nodes s nodes are = record { setup = are.setup; count = are.count; node = are.node; log = are.log }

-- where the plan is that of the script, threads came to the end by it
pub by_its_plan : (s : Content) (plan : List FateRow) (same : plan ≡ s.plan) (logs : List NodeLog) (shells : List (ProcName × Shelled)) → HaveRun shell_wants shell_after (made_shell s) (setup_of s) plan logs shells
    → HaveRun shell_wants shell_after (made_shell s) (setup_of s) s.plan logs shells
by_its_plan s plan same logs shells ran = subst (λ (rows : List FateRow). HaveRun shell_wants shell_after (made_shell s) (setup_of s) rows logs shells) same ran

pub threads_limit : {R : Type 0} (s : Content) (last : ℕ) (plan : List FateRow) (same : plan ≡ s.plan) (r : Result R RunFault) → ((n : ℕ) → IsErrOf r (TickLimit n) → ReachesTick (setup_of s) plan last n) → IfErr r (IsFaultOf s None last)
threads_limit s last plan same (Ok y) found = tt
threads_limit s last plan same (Err NoMemory) found = tt
threads_limit s last plan same (Err (TickLimit n)) found = subst (λ (rows : List FateRow). ReachesTick (setup_of s) rows last n) same (found n refl)
