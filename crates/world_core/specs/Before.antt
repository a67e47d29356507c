-- Where the event of a link stands among the listed ones: behind those of processes, notices and the links before it.
use Rattle.std.specs.Prelude.{ℕ, ◌+◌, nat_lt, Bool, true, false, List, [], ◌∷◌, ◌++◌, suc, take, drop, flat_map}
use Rattle.dom_history.specs.declared.event.What.{What}
use Rattle.dom_history.specs.declared.event.What.TheVariants as events
use Rattle.fault_handler.specs.Desks.{procs}
use Rattle.node_core.specs.Nodes.{state_of}
use Rattle.world_core.specs.declared.coming.Coming.{Coming}
use Rattle.world_core.specs.declared.coming.Source as source
use Rattle.world_core.specs.declared.coming.Source.TheVariants as sources
use Rattle.world_core.specs.declared.station.Station.{Station}
use Rattle.world_core.specs.Stations.{Candidate, start, starts_of, noticed, oldest}

-- an event that receives nothing is of a process, or the node's own mark
abbrev pub is_of_process : What → Bool
is_of_process (events.Ready phase) = false
is_of_process _ = true

abbrev pub is_before_by : ℕ → What → source.Source → Bool
is_before_by at what sources.Nothing = is_of_process what
is_before_by at what (sources.Notice i) = true
is_before_by at what (sources.Link i) = nat_lt i at

-- a listed event comes before that of the link at this place
abbrev pub is_before : ℕ → Coming → Bool
is_before at c = is_before_by at c.what c.source

abbrev pub count_if : Bool → ℕ → ℕ
count_if true n = n + 1
count_if false n = 0

-- how many do, up to the first that does not
abbrev pub count_before : ℕ → List Coming → ℕ
count_before at [] = 0
count_before at (c ∷ cs) = count_if (is_before at c) (count_before at cs)

-- what may come to a node before the oldest entry of the link at this place, and behind it
abbrev pub before_link : {P G : Type 0} → ℕ → Station P G → List Candidate
before_link at x = flat_map starts_of procs ++ (noticed 0 x.notices.items ++ oldest 0 (take at x.ins.items))

abbrev pub behind_link : {P G : Type 0} → ℕ → Station P G → List Candidate
behind_link at x = oldest (at + 1) (drop (suc at) x.ins.items) ++ start (events.Ready (state_of x.node).phase) ∷ []
