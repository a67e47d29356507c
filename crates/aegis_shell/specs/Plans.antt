-- How a command is done: by operations one after another, by a dialogue, by lists of locks, or at once.
use Rattle.std.specs.Prelude.{ℕ, nat_lt, Bool, false, cond, Option, Some, None, List, [], length, codes, ◌++◌}
use Rattle.uid_names.specs.Names.{ObjectName}
use Rattle.dom_history.specs.declared.op.Op.{Op}
use Rattle.script_reader.specs.declared.command.Command.{Command}
use Rattle.script_reader.specs.declared.command.Command.TheVariants.{Wd, Llkob}
use Rattle.command_talks.specs.Commands.{talks, is_sound}
use Rattle.aegis_shell.specs.AnswerTexts.{not_bound, path_too_long}
use Rattle.aegis_shell.specs.Operations.{ops_of}
use Rattle.aegis_shell.specs.Standing.{text_at}
use Rattle.aegis_shell.specs.Work.{Part}
use Rattle.aegis_shell.specs.declared.working.Working.{Working}

pub data Plan : Type 0 where
  Makes : (list : List Op) → Plan
  Talks : Plan
  Lists : (home : ℕ) → Plan
  Writes : (text : List ℕ) → Plan

-- operations on an object; without it the command is answered so
abbrev pub makes : Option (List Op) → Plan
makes None = Writes not_bound
makes (Some list) = Makes list

-- the text of the directory that a command is to enter is too long
abbrev pub is_long : Part → Working → Command → Bool
is_long part working (Wd (Some path)) = nat_lt 256 (length (text_at part working path))
is_long part working command = false

-- its dialogue is held, unless the text of the directory that it enters would be too long
abbrev pub talk_plan : Part → Working → Command → Plan
talk_plan part working command = cond (is_long part working command) (Writes path_too_long) (cond (is_sound command) Talks (Writes []))

abbrev pub plan_of : Part → Working → Option ObjectName → Command → Plan
plan_of part working uid (Wd None) = Writes (codes "ok " ++ working.text)
plan_of part working uid (Llkob node) = Lists node
plan_of part working uid command = cond (talks command) (talk_plan part working command) (makes (ops_of part.node command uid))
