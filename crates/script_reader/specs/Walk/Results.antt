-- What the steps of the reader answer.
use Rattle.std.specs.Prelude.{ℕ, Option, Some, None, Result, Ok, Err, List}
use Rattle.script_reader.specs.Grammar.{IsFirstBad, nothing, raw_lines}
use Rattle.script_reader.specs.Scripts.{Content}
use Rattle.script_reader.specs.declared.cause.Cause.{Cause}
use Rattle.script_reader.specs.declared.cause.LineFault.{LineFault}
use Rattle.script_reader.specs.declared.cause.LineFault.TheVariants.{Bad, NoMemory}
use Rattle.script_reader.specs.declared.cause.ScriptFault.{ScriptFault}
use Rattle.script_reader.specs.declared.cause.ScriptFault.TheVariants.{Bad as BadScript, NoMemory as NoMemoryForScript}

-- what the reader of a line answers, which left this content: nothing where memory ran out
abbrev pub line_answer : Content → Result (Unit {0}) LineFault → Option (Result Content Cause)
line_answer left (Ok done) = Some (Ok left)
line_answer left (Err (Bad cause)) = Some (Err cause)
line_answer left (Err NoMemory) = None

-- the lines were refused for the first bad one, or there was no memory
abbrev pub RefusesLines : List ℕ → ScriptFault → Type 0
RefusesLines bytes (BadScript line cause) = IsFirstBad 1 nothing (raw_lines bytes) line cause
RefusesLines bytes NoMemoryForScript = Unit {0}
