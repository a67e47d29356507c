-- What is outside: a source or a sink, as a call found it and as it left it.
use Rattle.std.specs.Prelude.{ℕ, ◌≤◌, ◌≡◌, ◌⊎◌, List, Option}
use Rattle.std.specs.Io.KnownBytes.{append_known}
use Rattle.dom_io.specs.Counts.{CountRose}
use Rattle.dom_io.specs.Known.{AppendsPrefix}

-- the bytes that a source has left, or that a sink holds, before a call and after it, where it tells them
pub record Bytes : Type 0 where
  pub before : Option (List ℕ)
  pub after : Option (List ℕ)

abbrev pub from_to : Option (List ℕ) → Option (List ℕ) → Bytes
from_to before after = record { before = before; after = after }

-- a source or a sink over a call: what it tells of its bytes, how many faults there were, and how the call found it and left it
pub record Stream (A : Type 0) : Type 0 where
  pub tells : A → Option (List ℕ)
  pub faults : A → ℕ
  pub old : A
  pub new : A

abbrev pub over : {A : Type 0} → (A → Option (List ℕ)) → (A → ℕ) → A → A → Stream A
over tells faults old new = record { tells = tells; faults = faults; old = old; new = new }

abbrev pub bytes_of : {A : Type 0} → Stream A → Bytes
bytes_of x = from_to (x.tells x.old) (x.tells x.new)

-- it stays as it was
abbrev pub IsSame : {A : Type 0} → Stream A → Type 0
IsSame x = x.new ≡ x.old

-- it failed: its count of faults rose
abbrev pub Fails : {A : Type 0} → Stream A → Type 0
Fails x = CountRose (x.faults x.old) (x.faults x.new)

-- it did not fail
abbrev pub NeverFails : {A : Type 0} → Stream A → Type 0
NeverFails x = Fails x → ⊥

-- its count of faults never falls
abbrev pub NeverFalls : {A : Type 0} → Stream A → Type 0
NeverFalls x = x.faults x.old ≤ x.faults x.new

-- a text was added at the end of what a sink holds, where it tells that
abbrev pub Adds : {A : Type 0} → Stream A → List ℕ → Type 0
Adds x text = x.tells x.new ≡ append_known (x.tells x.old) text

-- a first part of a text was added, which may be all of it
abbrev pub AddsPart : {A : Type 0} → Stream A → List ℕ → Type 0
AddsPart x text = AppendsPrefix (x.tells x.old) (x.tells x.new) text

-- a text was added, with this status; or a first part of it with 5, where a write failed
abbrev pub AddsOrFails : {A : Type 0} → Stream A → List ℕ → ℕ → ℕ → Type 0
AddsOrFails x text status result = ((result ≡ status) × Adds x text) ⊎ ((result ≡ 5) × Fails x × AddsPart x text)
