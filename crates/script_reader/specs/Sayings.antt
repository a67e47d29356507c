-- What a line says: its words, and the numbers that they spell. What is not in its range is no number.
use Rattle.std.specs.Prelude.{ℕ, Option, List}
use Rattle.script_reader.specs.Words.{ProcessWord}
use Rattle.script_reader.specs.Arguments.{Said}
use Rattle.script_reader.specs.declared.words.Verb.{Verb}

-- a fate of a frame
pub data SaidFate : Type 0 where
  Lose : SaidFate
  Twice : (late : Option ℕ) → SaidFate
  Late : (late : Option ℕ) → SaidFate

-- a line; the arguments of a command are those of its shape
pub data Saying : Type 0 where
  Wire : (version : Option ℕ) → Saying
  Node : (name : List ℕ) (frames : Option ℕ) → Saying
  Object : (var : List ℕ) (room : Option ℕ) (home : List ℕ) → Saying
  Fault : (from to : List ℕ) (index : Option ℕ) (fate : SaidFate) → Saying
  Phase : Saying
  Access : Saying
  Subject : (process : ProcessWord) (person project : List ℕ) → Saying
  Does : (process : ProcessWord) (verb : Verb) (arguments : List Said) → Saying
