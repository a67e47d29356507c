-- Why bytes are refused.
use Rattle.std.specs.Prelude.{ℕ, List}
use Rattle.script_reader.specs.Grammar.{IsBad}
use Rattle.script_reader.specs.declared.cause.ScriptFault.{ScriptFault}
use Rattle.script_reader.specs.declared.cause.ScriptFault.TheVariants.{Bad, NoMemory}

-- this line is the first bad one and this its first cause, or there was no memory
abbrev pub IsRefusal : List ℕ → ScriptFault → Type 0
IsRefusal bytes (Bad line cause) = IsBad bytes line cause
IsRefusal bytes NoMemory = Unit {0}
