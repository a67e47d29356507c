-- Which bytes are a script, and which line is the first bad one.
use Rattle.std.specs.Prelude.{ℕ, ◌≡◌, ◌+◌, ◌<◌, ◌≤◌, ◌==◌, ◌⊎◌, false, if◌then◌else◌, MatchResult, None, List, [], ◌∷◌, length}
use Rattle.uid_names.specs.declared.limits.TheConstants.{SCRIPT_BYTES}
use Rattle.uid_names.specs.Wires.{wire_room}
use Rattle.script_reader.specs.Scripts.{Content}
use Rattle.script_reader.specs.Judging.{judged}
use Rattle.script_reader.specs.declared.cause.Cause.{Cause}
use Rattle.script_reader.specs.declared.cause.Cause.TheVariants.{TooLong, NoNode}

-- a byte in front of the first line
abbrev pub before_lines : ℕ → List (List ℕ) → List (List ℕ)
before_lines b [] = (b ∷ []) ∷ []
before_lines b (line ∷ lines) = (b ∷ line) ∷ lines

-- the lines that are ended by LF; the last may lack it
abbrev pub raw_lines : List ℕ → List (List ℕ)
raw_lines [] = []
raw_lines (b ∷ bytes) = if b == 10 then [] ∷ raw_lines bytes else before_lines b (raw_lines bytes)

-- a line without a CR at its end
abbrev pub without_cr : List ℕ → List ℕ
without_cr [] = []
without_cr (b ∷ []) = if b == 13 then [] else b ∷ []
without_cr (b ∷ c ∷ line) = b ∷ without_cr (c ∷ line)

-- what is said before the first line
abbrev pub nothing : Content
nothing = record { said_wire = None; nodes = []; opening = record { nodes = 0; greatest = wire_room 1; objects = [] }; objects = []; plan = []; access = false; subjects = []; phases = 1; commands = [] }

-- the lines are good, one behind the other, and lead from one content to another
abbrev pub AreGood : Content → List (List ℕ) → Content → Type 0
AreGood s [] t = s ≡ t
AreGood s (line ∷ lines) t = MatchResult (judged s (without_cr line)) (λ next. AreGood next lines t) (λ _. ⊥)

-- the first bad one of these lines, which are counted from k, and the first cause that it meets
abbrev pub IsFirstBad : ℕ → Content → List (List ℕ) → ℕ → Cause → Type 0
IsFirstBad k s [] n cause = ⊥
IsFirstBad k s (line ∷ lines) n cause = MatchResult (judged s (without_cr line)) (λ next. IsFirstBad (k + 1) next lines n cause) (λ met. (n ≡ k) × (cause ≡ met))

-- the bytes are a script of this content
pub record IsScript (bytes : List ℕ) (s : Content) : Type 0 where
  pub few : length bytes ≤ SCRIPT_BYTES
  pub good : AreGood nothing (raw_lines bytes) s
  pub some_node : 1 ≤ length s.nodes

-- the whole is too long; no line is looked at
pub record IsTooLong (bytes : List ℕ) (n : ℕ) (cause : Cause) : Type 0 where
  pub long : SCRIPT_BYTES < length bytes
  pub line : n ≡ 0
  pub cause_is : cause ≡ TooLong

-- a line is bad, and none before it
pub record HasBadLine (bytes : List ℕ) (n : ℕ) (cause : Cause) : Type 0 where
  pub few : length bytes ≤ SCRIPT_BYTES
  pub first : IsFirstBad 1 nothing (raw_lines bytes) n cause

-- no line is bad, and none declares a node
pub record LacksNodes (bytes : List ℕ) (n : ℕ) (cause : Cause) : Type 0 where
  pub few : length bytes ≤ SCRIPT_BYTES
  pub content : Content
  pub good : AreGood nothing (raw_lines bytes) content
  pub no_node : content.nodes ≡ []
  pub line : n ≡ 1
  pub cause_is : cause ≡ NoNode

-- the bytes are no script: this is the first bad line and the first cause that it meets
abbrev pub IsBad : List ℕ → ℕ → Cause → Type 0
IsBad bytes n cause = IsTooLong bytes n cause ⊎ HasBadLine bytes n cause ⊎ LacksNodes bytes n cause
