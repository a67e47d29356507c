-- The ranges that commands keep.
use Rattle.uid_names.specs.declared.limits.TheConstants.{MAX_NODES}
use Rattle.script_reader.specs.declared.command.Command.{Command}
use Rattle.script_reader.specs.Commands.{IsCommand}

-- a command such as a script can have
abbrev pub IsRanged : Command → Type 0
IsRanged command = IsCommand MAX_NODES command
