-- What is said, with its status.
use Rattle.std.specs.Prelude.{ℕ, Some, List}
use Rattle.view_program.specs.declared.reading.Said.{Said}

-- this status, and this text
abbrev pub saying : ℕ → List ℕ → Said
saying status text = record { status = status; text = Some text }
