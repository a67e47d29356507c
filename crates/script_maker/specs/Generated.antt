-- The script of a seed: eight nodes of four processes, 32 objects, and 25 phases. In each phase each process works on one
-- object, and no two on the same. Processes, objects and phases are counted from 0 here.
use Rattle.std.specs.Prelude.{ℕ, zero, suc, ◌+◌, ◌-◌, ◌*◌, ◌/◌, ◌%◌, None, false, List, [], ◌∷◌, ◌++◌, map, flat_map, codes, decimal}
use Rattle.std.specs.List.{range_with_len}
use Rattle.uid_names.specs.Names.{ProcName, ObjectName}
use Rattle.uid_names.specs.Openings.{Start}
use Rattle.uid_names.specs.Wires.{wire_room}
use Rattle.uid_names.specs.declared.mode.Mode.TheVariants.{Write}
use Rattle.uid_names.specs.declared.mode.ObjKind.TheVariants.{File}
use Rattle.uid_names.specs.declared.opening.Object.{Object}
use Rattle.drawn_numbers.specs.Draws.{drawn_below, state_after}
use Rattle.script_reader.specs.Scripts.{Content}
use Rattle.script_reader.specs.declared.command.Command.{Command}
use Rattle.script_reader.specs.declared.command.Command.TheVariants.{Lock, Unlock, Load, Store, Length}
use Rattle.script_reader.specs.declared.script.NodeRow.{NodeRow}
use Rattle.script_reader.specs.declared.script.VarRow.{VarRow}
use Rattle.script_reader.specs.declared.script.CommandRow.{CommandRow}

-- the nodes `n1` to `n8`, of 8 page frames each
abbrev pub generated_node : ℕ → NodeRow
generated_node n = record { name = codes "n" ++ decimal n; frames = 8 }

-- the objects `o1` to `o32`, one home after the other; counter 1 of a home is its entry directory
abbrev pub object_name : ℕ → List ℕ
object_name i = codes "o" ++ decimal (i + 1)

abbrev pub object_uid : ℕ → ObjectName
object_uid i = record { counter = i / 8 + 2; home = i % 8 + 1 }

abbrev pub generated_var : ℕ → VarRow
generated_var i = record { var = object_name i; uid = object_uid i }

abbrev pub generated_object : ℕ → Object
generated_object i = record { uid = object_uid i; kind = File; room = 4 }

abbrev pub generated_opening : Start
generated_opening = record { nodes = 8; greatest = wire_room 1; objects = map generated_object (range_with_len 0 32) }

-- the four processes of a node follow one another
abbrev pub process_at : ℕ → ProcName
process_at q = record { node = q / 4 + 1; number = q % 4 + 1 }

-- the state behind so many draws; it stays folded, since no proof walks all 65 of a phase
unfoldable pub state_behind : ℕ → ℕ → ℕ
state_behind state places = state_after state places

-- a phase has 65 draws, and this is the state in front of them
abbrev pub begin_of : ℕ → ℕ → ℕ
begin_of seed phase = state_behind seed (65 * phase)

-- the number that the draw of a place gives, below a bound; the first has the place 0
abbrev pub draw : ℕ → ℕ → ℕ → ℕ
draw begin place bound = drawn_below (state_behind begin (suc place)) bound

-- the first says how far the objects are shifted against the processes
abbrev pub shift_of : ℕ → ℕ
shift_of begin = draw begin 0 32

-- then two for each process: the offset of its store, and the number that it stores
abbrev pub offset_of : ℕ → ℕ → ℕ
offset_of begin q = draw begin (2 * q + 1) 4000

abbrev pub number_of : ℕ → ℕ → ℕ
number_of begin q = draw begin (2 * q + 2) 100000000

-- the object that a process works on, and the process that works on an object
abbrev pub object_of : ℕ → ℕ → ℕ
object_of begin q = (q + shift_of begin) % 32

abbrev pub worker_of : ℕ → ℕ → ℕ
worker_of begin object = (object + 32 - shift_of begin) % 32

-- a number below 100,000,000 in eight decimal digits, with zeros in front
abbrev pub digit_at : ℕ → ℕ → ℕ
digit_at number unit = 48 + number / unit % 10

abbrev pub eight_digits : ℕ → List ℕ
eight_digits number = map (digit_at number) (10000000 ∷ 1000000 ∷ 100000 ∷ 10000 ∷ 1000 ∷ 100 ∷ 10 ∷ 1 ∷ [])

-- what a process does in the first phase
abbrev pub first_commands : List ℕ → ℕ → List ℕ → List Command
first_commands object offset text = Lock object Write ∷ Store object offset text ∷ Load object offset 8 ∷ Length object ∷ Unlock object ∷ []

abbrev pub first_work : ℕ → ℕ → List Command
first_work begin q = first_commands (object_name (object_of begin q)) (offset_of begin q) (eight_digits (number_of begin q))

-- and in a later one: it loads what was stored in the phase before
abbrev pub later_commands : List ℕ → ℕ → ℕ → List ℕ → List Command
later_commands object last offset text = Lock object Write ∷ Load object last 8 ∷ Store object offset text ∷ Load object offset 8 ∷ Unlock object ∷ []

abbrev pub last_offset : ℕ → ℕ → ℕ
last_offset before object = offset_of before (worker_of before object)

abbrev pub later_work : ℕ → ℕ → ℕ → List Command
later_work before begin q = later_commands (object_name (object_of begin q)) (last_offset before (object_of begin q)) (offset_of begin q) (eight_digits (number_of begin q))

abbrev pub work_in : ℕ → ℕ → ℕ → List Command
work_in seed zero = first_work (begin_of seed 0)
work_in seed (suc phase) = later_work (begin_of seed phase) (begin_of seed (suc phase))

-- the commands of a phase, process by process; in scripts the first phase is 1
abbrev pub rows_by : ℕ → ℕ → List Command → List CommandRow
rows_by phase q commands = map (λ c. record { proc = process_at q; phase = phase; command = c }) commands

unfoldable pub rows_of : ℕ → (ℕ → List Command) → ℕ → List CommandRow
rows_of phase work processes = flat_map (λ q. rows_by phase q (work q)) (range_with_len 0 processes)

abbrev pub rows_in : ℕ → ℕ → List CommandRow
rows_in seed phase = rows_of (phase + 1) (work_in seed phase) 32

unfoldable pub generated_commands : ℕ → ℕ → List CommandRow
generated_commands seed phases = flat_map (rows_in seed) (range_with_len 0 phases)

-- the script of a seed
abbrev pub generated : ℕ → Content
generated seed = record {
  said_wire = None;
  nodes = map generated_node (range_with_len 1 8);
  opening = generated_opening;
  objects = map generated_var (range_with_len 0 32);
  plan = [];
  access = false;
  subjects = [];
  phases = 25;
  commands = generated_commands seed 25;
}
