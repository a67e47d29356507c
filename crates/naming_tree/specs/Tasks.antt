-- What is done in the directory to which a walk led, reply by reply.
use Rattle.std.specs.Prelude.{Bool, true, false, Option, Some, None}
use Rattle.uid_names.specs.Names.{ObjectName}
use Rattle.dom_history.specs.declared.op.Op.{Op}
use Rattle.dom_history.specs.declared.op.Reply.{Reply}
use Rattle.naming_tree.specs.declared.reading.Reading.{Reading}
use Rattle.naming_tree.specs.declared.task.Task.{Task}
use Rattle.naming_tree.specs.declared.task.Task.TheVariants.{List as ListRows, Change, Reach}
use Rattle.naming_tree.specs.declared.step.NameResult.{NameResult}
use Rattle.naming_tree.specs.declared.step.NameResult.TheVariants.{Nodes, NotDir, Store, Under}
use Rattle.dir_records.specs.Directories.{rows_in}
use Rattle.naming_tree.specs.Readings.{reading_of, reading_op, reading_after, is_done, IsReading}
use Rattle.naming_tree.specs.Changing.{changing_after, changing_asks, IsChanging}
use Rattle.naming_tree.specs.Changing as changes
use Rattle.naming_tree.specs.NamePaths.{listed}
use Rattle.naming_tree.specs.Turns.{Turn, Goes, Comes}

-- a turn of a part
abbrev pub turn_in : {A B : Type 0} → (A → B) → Turn A → Turn B
turn_in whole (Goes part) = Goes (whole part)
turn_in whole (Comes result) = Comes result

-- it begins in this directory; one that was only to be reached has come to its result
abbrev pub task_begins : ObjectName → Task → Turn Task
task_begins u (ListRows r) = Goes (ListRows (reading_of u))
task_begins u (Change c) = turn_in Change (changing_after (record c { parent = u }) None)
task_begins u (Reach name) = Comes (Under (record { dir = u; name = name }))

-- the directory to be listed was read, or is read on
abbrev pub list_at : Bool → Option Reply → Reading → Turn Task
list_at false refused r = Goes (ListRows r)
list_at true (Some reply) r = Comes (Store reply)
list_at true None r = Comes (listed (rows_in r.bytes))

abbrev pub list_on : Reading → Turn Task
list_on r = list_at (is_done r) r.closing.refused r

-- what a reply makes of it
abbrev pub task_after : Task → Reply → Turn Task
task_after (ListRows r) reply = list_on (reading_after r reply)
task_after (Change c) reply = turn_in Change (changing_after c (Some reply))
task_after (Reach name) reply = Goes (Reach name)

-- what it asks
abbrev pub task_asks : Task → Option Op
task_asks (ListRows r) = Some (reading_op r)
task_asks (Change c) = changing_asks c
task_asks (Reach name) = None

-- what it comes to at the root of the network
abbrev pub at_root : Task → NameResult
at_root (ListRows r) = Nodes
at_root (Change c) = NotDir
at_root (Reach name) = NotDir

-- it has begun
abbrev pub IsOn : Task → Type 0
IsOn (ListRows r) = IsReading r
IsOn (Change c) = changes.IsOn c
IsOn (Reach name) = ⊥

-- what each keeps
abbrev pub IsTask : Task → Type 0
IsTask (ListRows r) = Unit {0}
IsTask (Change c) = IsChanging c
IsTask (Reach name) = Unit {0}
