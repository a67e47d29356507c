-- The script of a seed is a draft at each step.
use Rattle.std.proofs.Common.{◌≡◌, ℕ, zero, suc, ◌≤◌, ◌<◌, ◌+◌, ◌%◌, List, [], ◌∷◌, length, refl, ap, sym, subst, ◌∙◌, add-one, append-nil, append_assoc, arith}
use Rattle.std.specs.List.{AllByRecursion}
use Rattle.uid_names.specs.Wires.{wire_room}
use Rattle.uid_names.proofs.Wires.{wire_room-least}
use Rattle.dom_history.specs.Ranges.{IsProcName}
use Rattle.script_reader.specs.After.{with_command}
use Rattle.script_reader.specs.Commands.{IsOffset}
use Rattle.script_reader.specs.Scripts.{Content}
use Rattle.script_reader.specs.declared.command.Command.{Command}
use Rattle.script_reader.specs.declared.script.CommandRow.{CommandRow}
use Rattle.script_reader.proofs.Kept.{IsDraft-command, IsDraft-phase}
use Rattle.script_maker.specs.Generated.{begin_of, first_work, generated, later_work, object_name, object_of, offset_of, process_at, rows_by, rows_of, worker_of}
use Rattle.script_maker.specs.Walk.Begun.{HasBegun, IsWork, nodes_begun, objects_begun, phases_begun, with_rows}
use Rattle.script_maker.proofs.Generating.{begun_more, begun_rows, node_more, node_name, node_name_is, node_name_new, nodes_few, object_fits, object_more, object_name_is, object_new, one_command, phase_first, phase_more, phases_few, rows_few, rows_none, rows_on, work_in_range, work_spoken}
use Rattle.run_journals.specs.Begins.{CanRun}
use Rattle.run_journals.proofs.Drafts.{IsBegun, can-run, node-begun, object-begun}
use Rattle.run_journals.proofs.GoodLines.{nothing-begun}

-- nodes, and then objects
nodes-ready : (n : ℕ) → n ≤ 8 → IsBegun (nodes_begun n)
nodes-ready zero few = nothing-begun
nodes-ready (suc n) few =
    let lt : n < 8 = omega (arith, few) in
    let many = nodes_few n in
    subst IsBegun (node_more n ∙ ap nodes_begun (add-one n))
    (node-begun (nodes_begun n) (node_name n) 8 (nodes-ready n (omega (arith, few))) (node_name_is n lt) (omega arith) (omega arith) (node_name_new n lt) (omega (arith, many, lt)))

-- the room of each object can be written
four-written : 4 ≤ wire_room 1
four-written = let least = wire_room-least 1 in omega (arith, least)

objects-ready : (i : ℕ) → i ≤ 32 → IsBegun (objects_begun i)
objects-ready zero few = nodes-ready 8 (omega arith)
objects-ready (suc i) few =
    let lt : i < 32 = omega (arith, few) in
    let eight : length (objects_begun i).nodes ≡ 8 = nodes_few 8 in
    subst IsBegun (object_more i lt ∙ ap objects_begun (add-one i))
    (object-begun (objects_begun i) (object_name i) (i % 8 + 1) 4 (objects-ready i (omega (arith, few))) (object_name_is i lt) (omega arith) (omega (arith, eight)) (omega arith, omega arith) four-written (object_new i lt) refl (object_fits i lt))

-- what a process does on an object
abbrev IsWorkOn : ℕ → List Command → Type 0
IsWorkOn i commands = (i < 32) × (length commands ≡ 5) × AllByRecursion (IsWork (object_name i)) commands

process-named : (q : ℕ) → q < 32 → IsProcName (process_at q)
process-named q below = record { node = (omega arith, omega (arith, below)); number = (omega arith, omega arith) }

-- a command more
row-ready : (s : Content) (q i : ℕ) (command : Command) → IsBegun s → HasBegun s → q < 32 → i < 32 → IsWork (object_name i) command → length s.commands < 20000 → IsBegun (with_command s (process_at q) command)
row-ready s q i command is all below on work few =
    let eight = all.nodes in
    record {
      draft =
          IsDraft-command s (process_at q) command is.draft (process-named q below) (omega (arith, eight, below)) (work_in_range (length s.nodes) i command on work)
          (work_spoken s.objects s.commands (process_at q) i command all.objects on work) few;
      starts = is.starts;
    }

rows-ready : (commands : List Command) (s : Content) (q i : ℕ) → IsBegun s → HasBegun s → q < 32 → i < 32 → AllByRecursion (IsWork (object_name i)) commands → length s.commands + length commands ≤ 20000
    → IsBegun (with_rows s (rows_by s.phases q commands))
rows-ready [] s q i is all below on work few = subst (λ (rows : List CommandRow). IsBegun (record s { commands = rows })) (sym (append-nil s.commands)) is
rows-ready (command ∷ rest) s q i is all below on work few =
    let row : CommandRow = record { proc = process_at q; phase = s.phases; command = command } in
    let one = one_command s (process_at q) command in
    let many : length (command ∷ rest) ≡ suc (length rest) = refl in
    let t = with_command s (process_at q) command in
    subst (λ (rows : List CommandRow). IsBegun (record s { commands = rows })) (append_assoc s.commands (row ∷ []) (rows_by s.phases q rest))
    (rows-ready rest t q i (row-ready s q i command is all below on work.0 (omega (arith, few, many))) (begun_more s (process_at q) command all) below on work.1 (omega (arith, few, one, many)))

-- the work of processes, one after another
phase-ready : (s : Content) (work : ℕ → List Command) (objects : ℕ → ℕ) (n : ℕ) → n ≤ 32 → IsBegun s → HasBegun s → ((q : ℕ) → IsWorkOn (objects q) (work q)) → length s.commands + 160 ≤ 20000
    → IsBegun (with_rows s (rows_of s.phases work n))
phase-ready s work objects zero few is all does room = subst IsBegun (rows_none s work) is
phase-ready s work objects (suc n) few is all does room =
    let lt : n < 32 = omega (arith, few) in
    let t = with_rows s (rows_of s.phases work n) in
    let five = (does n).1 in
    let left = rows_few s t work n (λ q. (does q).1) refl lt room in
    subst IsBegun (rows_on s t (with_rows t (rows_by t.phases n (work n))) work n refl refl ∙ ap (λ k. with_rows s (rows_of s.phases work k)) (add-one n))
    (rows-ready (work n) t n (objects n) (phase-ready s work objects n (omega (arith, few)) is all does room) (begun_rows s t (rows_of s.phases work n) refl all) lt (does n).0 (does n).2 (omega (arith, left, five)))

-- what a seed draws is in its ranges
drawn-offset : (begin q : ℕ) → IsOffset (offset_of begin q)
drawn-offset begin q = omega arith

first-does : (begin q : ℕ) → IsWorkOn (object_of begin q) (first_work begin q)
first-does begin q =
    let offset = drawn-offset begin q in (
      omega arith,
      refl,
      ((refl, (tt, tt)), ((refl, (offset, ((omega arith, omega arith), tt))), ((refl, (offset, ((omega arith, omega arith), tt))), ((refl, tt), ((refl, tt), tt))))),
    )

later-does : (before begin q : ℕ) → IsWorkOn (object_of begin q) (later_work before begin q)
later-does before begin q =
    let last = drawn-offset before (worker_of before (object_of begin q)) in
    let offset = drawn-offset begin q in (
      omega arith,
      refl,
      ((refl, (tt, tt)), ((refl, (last, ((omega arith, omega arith), tt))), ((refl, (offset, ((omega arith, omega arith), tt))), ((refl, (offset, ((omega arith, omega arith), tt))), ((refl, tt), tt))))),
    )

-- phases, one after another
all-begun : (s : Content) → s.nodes ≡ (objects_begun 32).nodes → s.objects ≡ (objects_begun 32).objects → HasBegun s
all-begun s nodes objects = record { nodes = ap length nodes ∙ nodes_few 8; objects = objects }

phases-ready : (seed n : ℕ) → n ≤ 24 → IsBegun (phases_begun seed n)
phases-ready seed zero few =
    subst IsBegun (phase_first seed)
    (phase-ready (objects_begun 32) (first_work seed) (object_of seed) 32 (omega arith) (objects-ready 32 (omega arith)) (all-begun (objects_begun 32) refl refl) (first-does seed) (omega arith))
phases-ready seed (suc n) few =
    let lt : n < 24 = omega (arith, few) in
    let s = phases_begun seed n in
    let t = record s { phases = s.phases + 1 } in
    let before = phases-ready seed n (omega (arith, few)) in
    let next : IsBegun t = record { draft = IsDraft-phase s before.draft (omega (arith, lt)); starts = before.starts } in
    let work = later_work (begin_of seed n) (begin_of seed (n + 1)) in
    subst IsBegun (phase_more seed n s t (with_rows t (rows_of t.phases work 32)) (begin_of seed n) (begin_of seed (n + 1)) refl refl refl refl refl ∙ ap (phases_begun seed) (add-one n))
    (phase-ready t work (object_of (begin_of seed (n + 1))) 32 (omega arith) next (all-begun t refl refl) (later-does (begin_of seed n) (begin_of seed (n + 1))) (phases_few t seed n refl lt))

pub generated-runs : (seed : ℕ) → CanRun (generated seed)
generated-runs seed = can-run (generated seed) (phases-ready seed 24 (omega arith)) (let eight : length (generated seed).nodes ≡ 8 = nodes_few 8 in omega (arith, eight))
