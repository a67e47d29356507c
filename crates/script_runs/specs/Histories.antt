-- What the history of a script's run says of its processes.
use Rattle.std.specs.Prelude.{◌≡◌, ℕ, ◌*◌, ◌≤◌, false, List, length, All, map}
use Rattle.uid_names.specs.Names.{ProcName, IsProcNumber}
use Rattle.dom_history.specs.declared.op.Entry.{Entry}
use Rattle.dom_history.specs.declared.plan.FateRow.{FateRow}
use Rattle.dom_history.specs.Events.{Happening}
use Rattle.dom_history.specs.Histories.{History, entries, told}
use Rattle.dom_history.specs.Legal.{IsLegal}
use Rattle.dom_history.specs.Runs.{AreAnswered, IsEntry}
use Rattle.dom_history.specs.Follows.{Reaches, Follows, IsEnded, IsPhased}
use Rattle.script_reader.specs.Scripts.{Content}
use Rattle.aegis_shell.specs.Asking.{ask}
use Rattle.node_runs.specs.Runs.{World, HasEnded}
use Rattle.node_runs.specs.RunHistories.{history_of}
use Rattle.node_runs.specs.Deliveries.{is_gone}
use Rattle.run_laws.specs.Entries.{replies_in}
use Rattle.run_laws.specs.LinkFaults.{fault_entries, marked}
use Rattle.run_laws.specs.EightNotices.{HasEightNotices}
use Rattle.run_laws.specs.EveryRun.{HomesHaveAll as HomesHaveAllOf}
pub use Rattle.run_laws.specs.HeardOf.{heard_in, own_entries}
use Rattle.script_runs.specs.Setups.{setup_of}
use Rattle.script_runs.specs.Answers.{AreAllAnswered}
use Rattle.script_runs.specs.Reports.{rows_of, history_rows}

-- the history of a script's events
abbrev pub script_history : Content → List Happening → History
script_history s events = history_of (setup_of s) events

-- it does what the script gives its processes to do, each operation once and in order
abbrev pub FollowsScript : Content → List Happening → Type 0
FollowsScript s events = Follows (ask s) (script_history s events)

-- it is a history of one store, without nodes or caches
abbrev pub IsOfOneStore : Content → List Happening → Type 0
IsOfOneStore s events = IsLegal s.opening (script_history s events)

-- at each unlock of a lock that its process held, the object's home has each byte whose last store is the process's, as the history has it there,
-- and no length below its stores; and every byte and the length, where no other process holds the object shared
abbrev pub HomesHaveAll : Content → List Happening → Type 0
HomesHaveAll s events = HomesHaveAllOf (setup_of s) events

-- its phases never overlap: no entry stands before one of a smaller phase, over all processes
abbrev pub KeepsPhasesApart : Content → List Happening → Type 0
KeepsPhasesApart s events = IsPhased (entries (script_history s events).items)

-- it has ended: nothing is open, and each process has come to the end of its commands
abbrev pub IsWhole : Content → List Happening → Type 0
IsWhole s events = IsEnded (ask s) (script_history s events)

-- each process's entries have exactly the replies that its program heard in this world
abbrev pub AreRepliesHeard : Content → List Happening → World → Type 0
AreRepliesHeard s events w = (p : ProcName) → IsProcNumber p.number → map (λ (e : Entry). e.reply) (own_entries (script_history s events) p) ≡ replies_in (heard_in w p)

-- and the operations that the script's process asked each time, each once and in its phase
abbrev pub AreAskedHeard : Content → List Happening → World → Type 0
AreAskedHeard s events w = (p : ProcName) → IsProcNumber p.number → (phase : ℕ) × Reaches (ask s p) (own_entries (script_history s events) p) (heard_in w p) phase

-- what its processes heard in this world gives the answers that the history says
abbrev pub AreAnswersOfHistory : Content → List Happening → World → Type 0
AreAnswersOfHistory s events w = rows_of s (heard_in w) ≡ history_rows s (script_history s events)

-- by the plan no frame is lost or late
abbrev pub LosesNothing : List FateRow → Type 0
LosesNothing plan = All (λ row. is_gone row.fate ≡ false) plan

-- no link fault shows in it: it is its entries, without acts, and each has the very reply that the store gives over those before it
pub record IsFaultless (s : Content) (events : List Happening) : Type 0 where
  pub no_acts : All IsEntry (script_history s events).items
  pub answered : AreAnswered s.opening (told (entries (script_history s events).items))

-- each entry that a link fault answered has eight notices of one call of its operation, each of a frame of its own that is lost or late
abbrev pub HaveEightNotices : Content → List Happening → World → Type 0
HaveEightNotices s events w = All (HasEightNotices s.plan w) (fault_entries (script_history s events))

-- so eight times as many frames are lost or late, at least
abbrev pub AreFaultsFew : Content → List Happening → Type 0
AreFaultsFew s events = 8 * length (fault_entries (script_history s events)) ≤ marked s.plan events

-- an ended run of a script is as one store would have it, without nodes or caches
pub record IsAsOneStore (s : Content) (events : List Happening) (w : World) : Type 0 where
  -- all nodes have ended in this world
  pub ended : HasEnded (setup_of s) w
  pub legal : IsOfOneStore s events
  pub follows : FollowsScript s events
  pub whole : IsWhole s events
  pub phased : KeepsPhasesApart s events
  pub heard : AreRepliesHeard s events w
  pub asked : AreAskedHeard s events w
  pub all_answered : AreAllAnswered s (script_history s events)
  pub homes : HomesHaveAll s events
  pub eight_notices : HaveEightNotices s events w
  pub few_faults : AreFaultsFew s events
  pub faultless : LosesNothing s.plan → IsFaultless s events
