-- The name of a command, and how it is written.
use Rattle.std.specs.Prelude.{ℕ, Bool, ◌==◌, ◌&&◌, List, ◌++◌, codes, decimal}
use Rattle.uid_names.specs.Names.{same_proc}
use Rattle.node_texts.specs.Texts.{process_text}
use Rattle.event_views.specs.declared.command.CommandName.{CommandName}

abbrev pub same_command : CommandName → CommandName → Bool
same_command a b = same_proc a.proc b.proc && (a.index == b.index)

-- a command by its process and its number there
abbrev pub command_text : List (List ℕ) → CommandName → List ℕ
command_text names c = process_text names c.proc ++ (codes "." ++ decimal c.index)
