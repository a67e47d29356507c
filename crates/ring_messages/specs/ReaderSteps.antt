-- The reader's steps, from left to right: a field is a value and the bytes behind it.
-- It decides nothing: which bytes are a frame stands in Spelled, and what a frame's bytes are in Spelling.
use Rattle.std.specs.Prelude.{◌≡◌, ℕ, Bool, ◌==◌, if◌then◌else◌, List, length, Option, Some, None, Result, Ok, Err}
use Rattle.uid_names.specs.Steps.{◌>>=◌}
use Rattle.ring_messages.specs.declared.frame.FrameFault.{FrameFault}
use Rattle.ring_messages.specs.declared.frame.FrameFault.TheVariants as faults

-- What a function answered, seen by view, is what reading gives, unless memory ran out.
abbrev pub Fails : {Y : Type 0} → FrameFault → Option Y → Type 0
Fails faults.BadFrame read = read ≡ None
Fails faults.NoMemory read = Unit {0}

abbrev pub Gives : {X Y : Type 0} → (X → Y) → Result X FrameFault → Option Y → Type 0
Gives view (Ok x) read = read ≡ Some (view x)
Gives view (Err e) read = Fails e read

-- nothing stands behind a field
unfoldable pub end_at : List ℕ → Option Unit
end_at bytes = if length bytes == 0 then Some tt else None

-- a field whose value passes the test
abbrev pub passing : {A : Type 0} → (A → Bool) → A × List ℕ → Option (A × List ℕ)
passing test x = if test x.0 then Some x else None

-- a field whose value means something
abbrev pub meaning : {A B : Type 0} → (A → Option B) → A × List ℕ → Option (B × List ℕ)
meaning read x = do
  y ← read x.0
  Some (y, x.1)

-- one field and then another
infixr 20 ◌then◌
abbrev pub ◌then◌ : {A B : Type 0} → (List ℕ → Option (A × List ℕ)) → (List ℕ → Option (B × List ℕ)) → List ℕ → Option ((A × B) × List ℕ)
(f then g) bytes = do
  a ← f bytes
  b ← g a.1
  Some ((a.0, b.0), b.1)

-- fields, and nothing behind them
abbrev pub whole : {A B : Type 0} → (List ℕ → Option (A × List ℕ)) → (A → B) → List ℕ → Option B
whole f make bytes = do
  a ← f bytes
  _ ← end_at a.1
  Some (make a.0)
