-- What the history of a run says of each process.
use Rattle.std.specs.Prelude.{◌≡◌, ℕ, Option, Some, None, List, [], ◌∷◌, map}
use Rattle.std.specs.Option.{option_map}
use Rattle.dom_history.specs.declared.op.Reply.{Reply}
use Rattle.dom_history.specs.declared.op.Entry.{Entry}
use Rattle.dom_history.specs.Events.{Happening}
use Rattle.dom_history.specs.Histories.{entries}
use Rattle.dom_history.specs.Follows.{Heard, Reaches, entries_of}
use Rattle.fault_handler.specs.Invariant.{IsProc}
use Rattle.node_runs.specs.Setups.{Setup}
use Rattle.node_runs.specs.NodeStates.{proc_of}
use Rattle.node_runs.specs.Runs.{World, world_of}
use Rattle.node_runs.specs.RunHistories.{history_in}
use Rattle.run_laws.specs.DecidedReplies.{proc_at}

-- the replies in what a program heard
abbrev pub replies_in : Heard → List Reply
replies_in [] = []
replies_in (None ∷ before) = replies_in before
replies_in (Some reply ∷ before) = reply ∷ replies_in before

-- the entries of a process in the history up to here, the last first
abbrev pub own_entries : Setup → World → ℕ → ℕ → List Entry
own_entries s w n p = entries_of (proc_at n p) (entries (history_in s w).items)

-- by place, each process's entries have exactly the replies that its program heard
abbrev pub AreRepliesHeard : Setup → World → Type 0
AreRepliesHeard s w = (n p : ℕ) → IsProc p → map (λ (e : Entry). e.reply) (own_entries s w n p) ≡ replies_in (proc_of (w.nodes n) p).heard

-- and the operations that it asked each time, each once and in its phase
abbrev pub AreAskedHeard : Setup → World → Type 0
AreAskedHeard s w = (n p : ℕ) → IsProc p → (phase : ℕ) × Reaches (s.asks (proc_at n p)) (own_entries s w n p) (proc_of (w.nodes n) p).heard phase

-- the replies of the entries of a process 1, and those that it heard, after events
abbrev pub entries_after : Setup → ℕ → List Happening → Option (List Reply)
entries_after s n es = option_map (λ w. map (λ (e : Entry). e.reply) (own_entries s w n 1)) (world_of s es)

abbrev pub heard_after : Setup → ℕ → List Happening → Option (List Reply)
heard_after s n es = option_map (λ w. replies_in (proc_of (w.nodes n) 1).heard) (world_of s es)
