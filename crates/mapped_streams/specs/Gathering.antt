-- What is made of the bytes that are loaded.
use Rattle.std.specs.Prelude.{ℕ, ◌+◌, ◌*◌, ◌≤◌, ◌==◌, List, ◌++◌, count_by}
use Rattle.uid_names.specs.declared.limits.TheConstants.{PAGE_BYTES}
use Rattle.mapped_streams.specs.declared.step.StreamResult.{StreamResult}
use Rattle.mapped_streams.specs.declared.step.StreamResult.TheVariants.{Bytes, Count}
use Rattle.mapped_streams.specs.declared.gathered.Gathered.{Gathered}
use Rattle.mapped_streams.specs.declared.gathered.Gathered.TheVariants.{All, Lines}

-- how many lines end in a text: its bytes 0x0A
abbrev pub lines : List ℕ → ℕ
lines bytes = count_by (λ b. b == 10) bytes

-- more is loaded
abbrev pub gathered_with : Gathered → List ℕ → Gathered
gathered_with (All bytes) more = All (bytes ++ more)
gathered_with (Lines n) more = Lines (n + lines more)

-- what it comes to
abbrev pub come_to : Gathered → StreamResult
come_to (All bytes) = Bytes bytes
come_to (Lines n) = Count n

-- no more lines than bytes in so many pages
abbrev pub IsGathered : ℕ → Gathered → Type 0
IsGathered page (All bytes) = Unit {0}
IsGathered page (Lines n) = n ≤ page * PAGE_BYTES
