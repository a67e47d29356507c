-- Rows that are read one after the other, as a loop does.
use Rattle.std.proofs.Common.{◌≡◌, ℕ, suc, ◌-◌, ◌+◌, ◌≤◌, ◌<◌, List, [], ◌∷◌, ◌++◌, Option, Some, None, refl, sym, ap, ◌∙◌, append_assoc, arith}
use Rattle.std.proofs.lemmas.List.{append-nil}
use Rattle.uid_names.specs.declared.lock_row.LockRow.{LockRow}
use Rattle.ring_messages.specs.declared.frame.FrameFault.{FrameFault}
use Rattle.ring_messages.specs.declared.frame.FrameFault.TheVariants as faults
use Rattle.uid_names.specs.Steps.{◌>>=◌}
use Rattle.ring_messages.specs.ReaderSteps.{Fails, end_at}
use Rattle.ring_messages.specs.ReaderRows.{pushed, row_at, rows_at}

-- the rows that were read before, and those that are still read
abbrev pub with_front : List LockRow → Option (List LockRow × List ℕ) → Option (List LockRow × List ℕ)
with_front front read = read >>= λ x. Some (front ++ x.0, x.1)

regroup : (front : List LockRow) (row : LockRow) (read : Option (List LockRow × List ℕ)) → with_front front (read >>= λ x. Some (row ∷ x.0, x.1)) ≡ with_front (front ++ row ∷ []) read
regroup front row (Some x) = ap (λ (rows : List LockRow). Some (rows, x.1)) (simp append_assoc)
regroup front row None = refl

step_by : (front : List LockRow) (n : ℕ) (r : Option (LockRow × List ℕ)) → with_front front (r >>= λ row. rows_at n row.1 >>= λ others. Some (row.0 ∷ others.0, others.1)) ≡ (pushed front r >>= λ y. with_front y.0 (rows_at n y.1))
step_by front n None = refl
step_by front n (Some row) = regroup front row.0 (rows_at n row.1)

-- one row, and then the others
step : (front : List LockRow) (n : ℕ) (bytes : List ℕ) → with_front front (rows_at (suc n) bytes) ≡ (pushed front (row_at bytes) >>= λ y. with_front y.0 (rows_at n y.1))
unfolding rows_at
step front n bytes = step_by front n (row_at bytes)

pub goes_on : (front later : List LockRow) (count i : ℕ) (bytes after : List ℕ) (total : Option (List LockRow × List ℕ)) → i < count → pushed front (row_at bytes) ≡ Some (later, after)
    → with_front front (rows_at (count - i) bytes) ≡ total → with_front later (rows_at (count - (i + 1)) after) ≡ total
goes_on front later count i bytes after total lt h so_far =
    let k : count - i ≡ suc (count - (i + 1)) = omega arith in
    let one : with_front front (rows_at (count - i) bytes) ≡ with_front later (rows_at (count - (i + 1)) after) =
    ap (λ (n : ℕ). with_front front (rows_at n bytes)) k ∙ step front (count - (i + 1)) bytes ∙ ap (λ (r : Option (List LockRow × List ℕ)). r >>= λ y. with_front y.0 (rows_at (count - (i + 1)) y.1)) h in
    sym one ∙ so_far

pub ends : (e : FrameFault) (front : List LockRow) (count i : ℕ) (bytes : List ℕ) (total : Option (List LockRow × List ℕ)) → i < count → Fails e (pushed front (row_at bytes))
    → with_front front (rows_at (count - i) bytes) ≡ total → Fails e (total >>= λ x. end_at x.1 >>= λ _. Some x.0)
ends faults.NoMemory front count i bytes total lt h so_far = tt
ends faults.BadFrame front count i bytes total lt h so_far =
    let k : count - i ≡ suc (count - (i + 1)) = omega arith in
    let none : total ≡ None = sym so_far ∙ ap (λ (n : ℕ). with_front front (rows_at n bytes)) k ∙ step front (count - (i + 1)) bytes ∙ ap (λ (r : Option (List LockRow × List ℕ)). r >>= λ y. with_front y.0 (rows_at (count - (i + 1)) y.1)) h in
    ap (λ (t : Option (List LockRow × List ℕ)). t >>= λ x. end_at x.1 >>= λ _. Some x.0) none

pub is_done : (front : List LockRow) (count i : ℕ) (bytes : List ℕ) (total : Option (List LockRow × List ℕ)) → count ≤ i → with_front front (rows_at (count - i) bytes) ≡ total → total ≡ Some (front, bytes)
unfolding rows_at
is_done front count i bytes total le so_far =
    let k : count - i ≡ 0 = omega arith in
    let one : with_front front (rows_at (count - i) bytes) ≡ Some (front, bytes) = rw k (ap (λ (rows : List LockRow). Some (rows, bytes)) (append-nil front)) in
    sym so_far ∙ one

-- something stands behind the rows
pub not_ended : (e : FrameFault) (front : List LockRow) (bytes : List ℕ) (total : Option (List LockRow × List ℕ)) → total ≡ Some (front, bytes) → Fails e (end_at bytes) → Fails e (total >>= λ x. end_at x.1 >>= λ _. Some x.0)
not_ended faults.NoMemory front bytes total all fails = tt
not_ended faults.BadFrame front bytes total all fails = rw all (rw fails refl)

-- nothing does
pub ended : (front : List LockRow) (bytes : List ℕ) (total : Option (List LockRow × List ℕ)) (u : Unit {0}) → total ≡ Some (front, bytes) → end_at bytes ≡ Some u → (total >>= λ x. end_at x.1 >>= λ _. Some x.0) ≡ Some front
ended front bytes total u all ends = rw all (rw ends refl)
