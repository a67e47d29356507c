-- `limit`: more nodes, pages at a home, phases or commands than there may be.
use Rattle.std.specs.Prelude.{ℕ, ◌+◌, nat_lt, nat_le, Bool, false, unwrap_or, List, length, sum_by}
use Rattle.uid_names.specs.declared.opening.Object.{Object as ObjectRecord}
use Rattle.uid_names.specs.declared.limits.TheConstants.{ENTRY_ROOM, MAX_NODES, MAX_PHASES, VOLUME_ROOM}
use Rattle.uid_names.specs.Beginnings.{at_home}
use Rattle.script_reader.specs.Scripts.{Content}
use Rattle.script_reader.specs.Sayings.{Saying, Wire, Node, Object, Fault, Phase, Access, Subject, Does}
use Rattle.script_reader.specs.NodeNames.{node_number}

-- the room that a home's objects take, with its entry directory's
abbrev pub pages_at : ℕ → List ObjectRecord → ℕ
pages_at home objects = ENTRY_ROOM + sum_by (λ o. o.room) (at_home home objects)

-- a ninth node, a home fuller than its volume, phase 1,001, command 20,001
abbrev pub is_past_limit : Content → Saying → Bool
is_past_limit s (Wire version) = false
is_past_limit s (Node name frames) = nat_le MAX_NODES (length s.nodes)
is_past_limit s (Object var room home) = nat_lt VOLUME_ROOM (pages_at (node_number s.nodes home) s.opening.objects + unwrap_or room 0)
is_past_limit s (Fault from to index fate) = false
is_past_limit s Phase = nat_le MAX_PHASES s.phases
is_past_limit s Access = false
is_past_limit s (Subject process person project) = false
is_past_limit s (Does process verb arguments) = nat_le 20000 (length s.commands)
