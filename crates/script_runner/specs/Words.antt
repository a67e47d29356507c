-- The words of the command line, and what they ask for.
use Rattle.std.specs.Prelude.{ℕ, ◌≡◌, ◌⊎◌, List, [], ◌∷◌, codes, map, Option, Some, None, String, string_bytes}
use Rattle.dom_text.specs.Numbers.{number_spelled}
use Rattle.script_runner.specs.declared.words.Asked.{Asked}
use Rattle.script_runner.specs.declared.words.Asked.TheVariants.{Reads, Generates}

-- `run` with the number of its turns
pub record AreTurns (words : List (List ℕ)) (turns : ℕ) : Type 0 where
  pub word : List ℕ
  pub are : words ≡ codes "run" ∷ (codes "--turns" ∷ (word ∷ []))
  pub number : number_spelled word ≡ Some turns

-- `gen` with the seed of its script
pub record AreSeed (words : List (List ℕ)) (seed : ℕ) : Type 0 where
  pub word : List ℕ
  pub are : words ≡ codes "gen" ∷ (word ∷ [])
  pub number : number_spelled word ≡ Some seed

-- `gen` with the seed of its script and the number of its turns, which stands behind the seed or before it
pub record AreSeedAndTurns (words : List (List ℕ)) (seed turns : ℕ) : Type 0 where
  pub seed_word : List ℕ
  pub turns_word : List ℕ
  pub are : (words ≡ codes "gen" ∷ (seed_word ∷ (codes "--turns" ∷ (turns_word ∷ [])))) ⊎ (words ≡ codes "gen" ∷ (codes "--turns" ∷ (turns_word ∷ (seed_word ∷ []))))
  pub seed_number : number_spelled seed_word ≡ Some seed
  pub turns_number : number_spelled turns_word ≡ Some turns

-- the words ask for a script that is read: `run`, alone or with the number of its turns
abbrev pub AskToRead : List (List ℕ) → Option ℕ → Type 0
AskToRead words None = words ≡ codes "run" ∷ []
AskToRead words (Some turns) = AreTurns words turns

-- the words ask for the script of a seed: `gen` with that seed, alone or with the number of its turns
abbrev pub AskToGenerate : List (List ℕ) → ℕ → Option ℕ → Type 0
AskToGenerate words seed None = AreSeed words seed
AskToGenerate words seed (Some turns) = AreSeedAndTurns words seed turns

-- what the words ask for, as they stand
abbrev pub AskFor : {Z : Type 0} → List (String Z) → Asked → Type 0
AskFor words (Reads turns) = AskToRead (map string_bytes words) turns
AskFor words (Generates seed turns) = AskToGenerate (map string_bytes words) seed turns

-- the words ask for a run
abbrev pub AskToRun : {Z : Type 0} → List (String Z) → Type 0
AskToRun words = (asked : Asked) × AskFor words asked

-- the words ask whether a journal is that of a run of its script: `check`, alone
abbrev pub AskToCheck : {Z : Type 0} → List (String Z) → Type 0
AskToCheck words = map string_bytes words ≡ codes "check" ∷ []

-- the words are taken
abbrev pub IsTaken : {Z : Type 0} → List (String Z) → Type 0
IsTaken words = AskToRun words ⊎ AskToCheck words

-- the number of the turns, if the words say one
abbrev pub turns_of : Asked → Option ℕ
turns_of (Reads turns) = turns
turns_of (Generates seed turns) = turns
