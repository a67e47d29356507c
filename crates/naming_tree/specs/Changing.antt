-- How a directory is changed, reply by reply.
use Rattle.std.specs.Prelude.{ℕ, Bool, false, Option, Some, None, is_some, List, [], IsSome}
use Rattle.uid_names.specs.Names.{ObjectName}
use Rattle.uid_names.specs.declared.mode.Mode.TheVariants.{Write}
use Rattle.dom_history.specs.declared.op.Op.{Op}
use Rattle.dom_history.specs.declared.op.Reply.{Reply}
use Rattle.dir_records.specs.Records.{Slot}
use Rattle.dir_records.specs.Directories.{directory_of}
use Rattle.naming_tree.specs.declared.session.Opened.{Opened}
use Rattle.naming_tree.specs.declared.session.Entering.{Entering}
use Rattle.naming_tree.specs.declared.session.Entering.TheVariants.{Lock}
use Rattle.naming_tree.specs.declared.session.Entry.{Entry}
use Rattle.naming_tree.specs.declared.session.Entry.TheVariants.{On, In, Out}
use Rattle.naming_tree.specs.declared.step.NameResult.TheVariants.{BadDir}
use Rattle.naming_tree.specs.declared.adding.AddStage.{AddStage}
use Rattle.naming_tree.specs.declared.changing.Change.{Change}
use Rattle.naming_tree.specs.declared.changing.Change.TheVariants.{Add, Remove}
use Rattle.naming_tree.specs.declared.changing.Stage.{Stage}
use Rattle.naming_tree.specs.declared.changing.Stage.TheVariants.{Begin, Enter, Adds, Removes}
use Rattle.naming_tree.specs.declared.changing.Next.{Next}
use Rattle.naming_tree.specs.declared.changing.Next.TheVariants.{To, End}
use Rattle.naming_tree.specs.declared.changing.Changing.{Changing}
use Rattle.naming_tree.specs.Entering.{enter_op, entry_of, bytes_after, op_of_closing, IsEntering}
use Rattle.naming_tree.specs.Endings.{no_ending, refused_with, decided, ending_after, result_of, IsEnding}
use Rattle.naming_tree.specs.Additions.{IsAddition}
use Rattle.naming_tree.specs.Adding.{add_in, add_heard, add_op, IsAddStage}
use Rattle.naming_tree.specs.Removing.{remove_in, remove_heard, remove_op, IsRemoveStage}
use Rattle.naming_tree.specs.Turns.{Turn, turn_of}

-- it goes on in a stage, or comes to its end
abbrev pub moved : Next → Changing → Changing
moved (To stage) c = record c { stage = Some stage }
moved (End ending) c = record c { stage = None; ending = ending }

-- the directory was read
abbrev pub on_slots : Change → Option (List Slot) → Opened → Next
on_slots change None o = End (decided o BadDir)
on_slots (Add a) (Some slots) o = add_in a slots o
on_slots (Remove name) (Some slots) o = remove_in name slots o

-- a reply to the opening
abbrev pub on_entry : Change → List ℕ → Entry → Reply → Next
on_entry change bytes (On stage) reply = To (Enter stage)
on_entry change bytes (In o) reply = on_slots change (directory_of bytes) o
on_entry change bytes (Out held) reply = End (refused_with held reply)

abbrev pub loaded_so : Changing → List ℕ → Entry → Reply → Changing
loaded_so c bytes entry reply = moved (on_entry c.change bytes entry reply) (record c { bytes = bytes })

abbrev pub entered : Entering → Reply → Changing → Changing
entered stage reply c = loaded_so c (bytes_after stage c.bytes reply) (entry_of c.parent stage reply) reply

-- a text is to be stored into what is added
abbrev pub has_text : Change → Bool
has_text (Add a) = is_some a.text
has_text (Remove name) = false

abbrev pub heard_in : Stage → Reply → Changing → Changing
heard_in Begin reply c = moved (To (Enter Lock)) c
heard_in (Enter stage) reply c = entered stage reply c
heard_in (Adds stage) reply c = moved (add_heard (has_text c.change) stage reply) c
heard_in (Removes stage) reply c = moved (remove_heard stage reply) c

abbrev pub heard_at : Option Stage → Reply → Changing → Changing
heard_at None reply c = record c { ending = ending_after c.ending reply }
heard_at (Some stage) reply c = heard_in stage reply c

-- once all is closed it has its result
abbrev pub finish_at : Option Stage → Changing → Turn Changing
finish_at (Some stage) c = turn_of None c
finish_at None c = turn_of (result_of c.ending) c

abbrev pub finish : Changing → Turn Changing
finish c = finish_at c.stage c

-- what it becomes: at first it is told nothing
abbrev pub changing_after : Changing → Option Reply → Turn Changing
changing_after c None = turn_of None (moved (To (Enter Lock)) c)
changing_after c (Some reply) = finish (heard_at c.stage reply c)

-- what it asks; nothing before it began
abbrev pub addition_op : Change → AddStage → Option Op
addition_op (Add a) stage = Some (add_op a stage)
addition_op (Remove name) stage = None

abbrev pub stage_op : Changing → Stage → Option Op
stage_op c Begin = None
stage_op c (Enter stage) = Some (enter_op c.parent Write stage)
stage_op c (Adds stage) = addition_op c.change stage
stage_op c (Removes stage) = Some (remove_op stage)

abbrev pub op_at : Changing → Option Stage → Option Op
op_at c None = op_of_closing c.ending.closing
op_at c (Some stage) = stage_op c stage

abbrev pub changing_asks : Changing → Option Op
changing_asks c = op_at c c.stage

-- a change of a directory, before it begins
abbrev pub changing_of : ObjectName → Change → Changing
changing_of parent change = record { parent = parent; change = change; stage = Some Begin; bytes = []; ending = no_ending }

-- what can be changed
abbrev pub IsChange : Change → Type 0
IsChange (Add a) = IsAddition a
IsChange (Remove name) = Unit {0}

-- a stage that can be reached
abbrev pub IsAdds : Change → AddStage → Type 0
IsAdds (Add a) stage = IsAddStage a stage
IsAdds (Remove name) stage = ⊥

abbrev pub IsStage : Change → Stage → Type 0
IsStage change Begin = Unit {0}
IsStage change (Enter stage) = IsEntering stage
IsStage change (Adds stage) = IsAdds change stage
IsStage change (Removes stage) = IsRemoveStage stage

abbrev pub IsStageAt : Changing → Option Stage → Type 0
IsStageAt c None = IsEnding c.ending
IsStageAt c (Some stage) = IsStage c.change stage

-- what each change keeps
pub record IsChanging (c : Changing) : Type 0 where
  pub change : IsChange c.change
  pub stage : IsStageAt c c.stage

-- it has begun
pub record IsOn (c : Changing) : Type 0 where
  pub changing : IsChanging c
  pub asks : IsSome (changing_asks c)
