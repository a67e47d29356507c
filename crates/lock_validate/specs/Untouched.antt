-- What a desk keeps for a process stays where another process acts, and what it is stays at every call.
use Rattle.std.specs.Prelude.{◌≡◌, ℕ}
use Rattle.fault_handler.specs.Desks.{DeskState, entries_of, maps_of, open_call_of, task_of, moving_of}

-- what is kept for this process is the same
pub record IsUntouched (old new : DeskState) (q : ℕ) : Type 0 where
  pub nodes : new.nodes ≡ old.nodes
  pub entries : entries_of new q ≡ entries_of old q
  pub maps : maps_of new q ≡ maps_of old q
  pub call : open_call_of new q ≡ open_call_of old q
  pub task : task_of new q ≡ task_of old q
  pub moving : moving_of new q ≡ moving_of old q

-- it is the desk of the same node, of as many nodes, with as many frames
pub record IsSameDesk (old new : DeskState) : Type 0 where
  pub node : new.node ≡ old.node
  pub nodes : new.nodes ≡ old.nodes
  pub frames : new.cache.frames ≡ old.cache.frames
