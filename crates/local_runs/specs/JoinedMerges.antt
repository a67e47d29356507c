-- What holds of the events of posts that were served, by place.
use Rattle.std.specs.Prelude.{List, reverse}
use Rattle.dom_history.specs.declared.event.NodeLog.{NodeLog}
use Rattle.dom_history.specs.declared.plan.FateRow.{FateRow}
use Rattle.dom_history.specs.Events.{Happening}
use Rattle.dom_history.specs.Plans.{IsPlan}
use Rattle.node_runs.specs.Setups.{Setup}
use Rattle.node_runs.specs.Runs.{World}
use Rattle.ring_links.specs.Merged.{AreMerged}
use Rattle.local_runs.specs.LocalRuns.{IsMergeOf, IsTogether}
use Rattle.local_runs.specs.Logs.{AreLogsOf}
use Rattle.world_runs.specs.EndedRuns.{IsEndedRun}
use Rattle.local_runs.specs.Posts.{Numbered, AreServed, own_of, world_at}

-- it holds of all events of posts that were served by a plan, by place, the last one first
abbrev pub OfServedPosts : (Setup → List FateRow → List Numbered → List Happening → Type 0) → Type 0
OfServedPosts P =
    (s : Setup) (plan : List FateRow) (posts : List Numbered) (es : List Happening) → AreServed s plan posts → IsPlan plan → IsMergeOf (own_of s posts) es → P s plan posts es

-- it holds of what the merge of their logs makes of them
abbrev pub OfServedLogs : (Setup → List FateRow → List Numbered → List Happening → Type 0) → Type 0
OfServedLogs P =
    (s : Setup) (plan : List FateRow) (posts : List Numbered) (logs : List NodeLog) (events : List Happening) → AreServed s plan posts → IsPlan plan →
    AreLogsOf (own_of s posts) logs → AreMerged logs events → P s plan posts (reverse events)

-- the events are a run that has ended, in which each node is as its post has it
abbrev pub EndTogether : Setup → List FateRow → List Numbered → List Happening → Type 0
EndTogether s plan posts es = (w : World) × IsEndedRun s plan es w × IsTogether (world_at s posts) w
