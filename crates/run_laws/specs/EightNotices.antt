-- The eight notices of an entry that a link fault answered.
use Rattle.std.specs.Prelude.{◌≡◌, ◌≢◌, Bool, false, Option, Some, None, List, length, filter, IsTrue, All, AllPairs}
use Rattle.dom_history.specs.declared.op.Entry.{Entry}
use Rattle.dom_history.specs.declared.plan.FateRow.{FateRow}
use Rattle.dom_history.specs.Histories.{SomeOf}
use Rattle.dom_history.specs.Plans.{fate_of}
use Rattle.call_once.specs.declared.asking.TheConstants.{MOST_NOTICES}
use Rattle.ring_messages.specs.Frames.{Message, caller_of}
use Rattle.node_runs.specs.Deliveries.{is_gone, noticed_in}
use Rattle.node_runs.specs.Notes.{Told}
use Rattle.node_runs.specs.RunHistories.{all_told}
use Rattle.node_runs.specs.Runs.{World, numbered}
use Rattle.world_runs.specs.Faults.{CallName, same_call}
use Rattle.world_runs.specs.Gone.{FrameName}
use Rattle.run_laws.specs.NotedEntries.{entry_of}

-- the last call of an operation that ended
abbrev pub last_call : Told → CallName
last_call t = record { proc = t.proc; number = t.number }

-- a request or a reply to it is a frame of its call
abbrev pub is_of_call : CallName → Option Message → Bool
is_of_call c None = false
is_of_call c (Some m) = same_call c (record { proc = caller_of m; number = m.number })

-- the frames of a call of which its process was told, the last first
abbrev pub frames_told : World → CallName → List FrameName
frames_told w c = filter (λ f. is_of_call c (numbered f.2 (w.frames f.0 f.1))) (noticed_in w.done)

-- an entry of a run by a plan that a link fault answered
pub record HasEightNotices (plan : List FateRow) (w : World) (e : Entry) : Type 0 where
  -- how its operation ended
  pub end : Told
  pub told : SomeOf (λ t. t ≡ end) (all_told w.trace)
  -- it stands where that operation began
  pub entry : entry_of end.begun end ≡ e
  -- of the last call of that operation eight frames were told
  pub eight : length (frames_told w (last_call end)) ≡ MOST_NOTICES
  -- each by a notice of its own
  pub own : AllPairs (λ f g. f ≢ g) (frames_told w (last_call end))
  -- and each is lost or late
  pub gone : All (λ f. IsTrue (is_gone (fate_of plan f.0 f.1 f.2))) (frames_told w (last_call end))

-- no two entries with eight notices have one last call
abbrev pub HaveOwnCalls : List FateRow → World → Type 0
HaveOwnCalls plan w =
    (d e : Entry) (one : HasEightNotices plan w d) (other : HasEightNotices plan w e) → last_call one.end ≡ last_call other.end → d ≡ e
