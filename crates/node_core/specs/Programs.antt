-- The programs of a node's processes, each with the number of its process.
use Rattle.std.specs.Prelude.{◌≡◌, ◌≢◌, ℕ, zero, suc, ◌==◌, nat_lt, Bool, true, false, List, [], ◌∷◌, ◌++◌, Option, Some, None, map}
use Rattle.uid_names.specs.InOrder.{AreInOrder}
use Rattle.dom_history.specs.declared.op.Reply.{Reply}
use Rattle.dom_history.specs.Follows.{Heard}

module _ {S : Type 0} where
  abbrev pub program_by : Bool → S → Option S → Option S
  program_by true program others = Some program
  program_by false program others = others

  -- the program of a process
  abbrev pub program_in : List (ℕ × S) → ℕ → Option S
  program_in [] p = None
  program_in (e ∷ es) p = program_by (e.0 == p) e.1 (program_in es p)

  abbrev pub numbers_in : List (ℕ × S) → List ℕ
  numbers_in programs = map (λ e. e.0) programs

  -- what a program is once it was told this too, the newest first
  abbrev pub told_all : (S → Option Reply → S) → S → Heard → S
  told_all becomes program [] = program
  told_all becomes program (told ∷ before) = becomes (told_all becomes program before) told

  -- the first program of the process stands there
  abbrev pub IsFirstAt : List (ℕ × S) → ℕ → ℕ → Type 0
  IsFirstAt [] p i = ⊥
  IsFirstAt (e ∷ es) p zero = e.0 ≡ p
  IsFirstAt (e ∷ es) p (suc i) = (e.0 ≢ p) × IsFirstAt es p i

  -- a program, with its number
  abbrev pub one_of : ℕ → Option S → List (ℕ × S)
  one_of p None = []
  one_of p (Some x) = (p, x) ∷ []

  -- the programs of processes 1 to 4, by rising number
  abbrev pub rising_in : List (ℕ × S) → List (ℕ × S)
  rising_in es = one_of 1 (program_in es 1) ++ (one_of 2 (program_in es 2) ++ (one_of 3 (program_in es 3) ++ (one_of 4 (program_in es 4) ++ [])))

-- each number is below the later ones
abbrev pub AreRising : List ℕ → Type 0
AreRising numbers = AreInOrder nat_lt numbers
