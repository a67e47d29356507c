-- A text in a buffer whose room is taken when it is made.
use Rattle.std.specs.Prelude.{ℕ, List}

pub record Filled : Type 0 where
  pub text : List ℕ
  pub room : ℕ

abbrev pub filled : List ℕ → ℕ → Filled
filled text room = record { text = text; room = room }
