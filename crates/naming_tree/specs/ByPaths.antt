-- How a task is done by a path, reply by reply: a walk, and then the task in the directory to which it led.
use Rattle.std.specs.Prelude.{◌≡◌, ℕ, true, Option, Some, None, List}
use Rattle.uid_names.specs.Names.{ObjectName}
use Rattle.uid_names.specs.declared.mode.ObjKind.{ObjKind}
use Rattle.uid_names.specs.declared.mode.ObjKind.TheVariants.{Directory}
use Rattle.dom_history.specs.declared.op.Op.{Op}
use Rattle.dom_history.specs.declared.op.Reply.{Reply}
use Rattle.dir_records.specs.declared.path.Route.{Route}
use Rattle.naming_tree.specs.declared.site.Site.{Site}
use Rattle.naming_tree.specs.declared.step.Walked.{Walked}
use Rattle.naming_tree.specs.declared.step.Walked.TheVariants.{Root, At}
use Rattle.naming_tree.specs.declared.step.NameResult.{NameResult}
use Rattle.naming_tree.specs.declared.step.NameResult.TheVariants.{Found, NotDir}
use Rattle.naming_tree.specs.declared.walking.Walking.{Walking}
use Rattle.dir_records.specs.declared.path.Start.{Start}
use Rattle.naming_tree.specs.declared.task.Task.{Task}
use Rattle.naming_tree.specs.declared.task.Task.TheVariants.{List as ListRows, Change, Reach}
use Rattle.naming_tree.specs.declared.changing.Change.TheVariants.{Add, Remove}
use Rattle.naming_tree.specs.Readings.{reading_of}
use Rattle.naming_tree.specs.Changing.{changing_of}
use Rattle.naming_tree.specs.Walks.{start_at}
use Rattle.dir_records.specs.LastNames.{last_of}
use Rattle.naming_tree.specs.NamePaths.{alone_for, added_alone, removed_alone, addition}
use Rattle.naming_tree.specs.declared.purpose.Purpose.{Purpose}
use Rattle.naming_tree.specs.declared.by_path.ByPath.{ByPath}
use Rattle.naming_tree.specs.Turns.{Turn, Goes, Comes}
use Rattle.naming_tree.specs.Walking.{walking_after, walking_asks, walking_of, IsWalking}
use Rattle.naming_tree.specs.Tasks.{task_begins, task_after, task_asks, at_root, IsTask}
use Rattle.naming_tree.specs.Tasks as tasks
use Rattle.naming_tree.specs.Walking as walks

-- a turn of the task
abbrev pub on_task : Turn Task → ByPath → Turn ByPath
on_task (Goes task) b = Goes (record b { walking = None; task = task })
on_task (Comes result) b = Comes result

-- the walk led to an object of this kind
abbrev pub at_object : ObjKind → ObjectName → ByPath → Turn ByPath
at_object Directory u b = on_task (task_begins u b.task) b
at_object _ u b = Comes NotDir

abbrev pub on_found : NameResult → ByPath → Turn ByPath
on_found (Found Root) b = Comes (at_root b.task)
on_found (Found (At u kind within)) b = at_object kind u b
on_found result b = Comes result

-- a turn of the walk
abbrev pub on_walk : Turn Walking → ByPath → Turn ByPath
on_walk (Goes w) b = Goes (record b { walking = Some w })
on_walk (Comes result) b = on_found result b

-- what a reply makes of it
abbrev pub told_at : Option Walking → Option Reply → ByPath → Turn ByPath
told_at (Some w) last b = on_walk (walking_after w last) b
told_at None (Some reply) b = on_task (task_after b.task reply) b
told_at None None b = Goes b

-- a path that leads to nothing has its result at once
abbrev pub unless_alone : Option NameResult → Option Reply → ByPath → Turn ByPath
unless_alone (Some result) last b = Comes result
unless_alone None last b = told_at b.walking last b

abbrev pub by_path_after : ByPath → Option Reply → Turn ByPath
by_path_after b last = unless_alone b.alone last b

-- what it asks
abbrev pub asks_at : Option NameResult → Option Walking → Task → Option Op
asks_at (Some result) walking task = None
asks_at None (Some w) task = walking_asks w
asks_at None None task = task_asks task

abbrev pub by_path_asks : ByPath → Option Op
by_path_asks b = asks_at b.alone b.walking b.task

-- it has begun its walk or its task
abbrev pub IsOnAt : Option Walking → Task → Type 0
IsOnAt (Some w) task = walks.IsOn w
IsOnAt None task = tasks.IsOn task

pub record IsOn (b : ByPath) : Type 0 where
  pub going : b.alone ≡ None
  pub task : IsTask b.task
  pub at : IsOnAt b.walking b.task

-- what each keeps
abbrev pub IsAt : Option NameResult → Option Walking → Task → Type 0
IsAt (Some result) walking task = Unit {0}
IsAt None (Some w) task = IsWalking w
IsAt None None task = tasks.IsOn task

pub record IsByPath (b : ByPath) : Type 0 where
  pub task : IsTask b.task
  pub at : IsAt b.alone b.walking b.task

-- a task in the directory to which a walk leads, before it begins
abbrev pub walked_to : Site → Route → ObjectName → Task → ByPath
walked_to site route working task = record { alone = None; walking = Some (walking_of site true route working); task = task }

-- a path that leads to nothing
abbrev pub alone_with : NameResult → ObjectName → ByPath
alone_with result working = record { alone = Some result; walking = None; task = ListRows (reading_of working) }

-- a task on the last name of a path, before it begins
abbrev pub on_last : Site → Start → ObjectName → (Option Walked → NameResult) → (List ℕ → Task) → Option (List (List ℕ) × List ℕ) → ByPath
on_last site start working alone task None = alone_with (alone (start_at site working start)) working
on_last site start working alone task (Some (front, name)) = walked_to site (record { start = start; names = front }) working (task name)

-- a path is listed, a name added to it or removed from it, where the text is a path's
abbrev pub list_dir_of : Site → Option Route → ObjectName → Option ByPath
list_dir_of site None working = None
list_dir_of site (Some route) working = Some (walked_to site route working (ListRows (reading_of working)))

-- a path leads to the directory of its last name, where the text is a path's
abbrev pub to_parent_of : Site → Option Route → ObjectName → Purpose → Option ByPath
to_parent_of site None working purpose = None
to_parent_of site (Some route) working purpose = Some (on_last site route.start working (alone_for purpose) Reach (last_of route.names))

abbrev pub add_name_of : Site → Option Route → ObjectName → ObjKind → ℕ → Option (List ℕ) → Option ByPath
add_name_of site None working kind room text = None
add_name_of site (Some route) working kind room text = Some (on_last site route.start working added_alone (λ name. Change (changing_of working (Add (addition kind room text name)))) (last_of route.names))

abbrev pub drop_name_of : Site → Option Route → ObjectName → Option ByPath
drop_name_of site None working = None
drop_name_of site (Some route) working = Some (on_last site route.start working removed_alone (λ name. Change (changing_of working (Remove name))) (last_of route.names))
