-- Locks that conflict, and holders that do not.
use Rattle.std.proofs.Common.{◌≡◌, ◌∙◌, sym, refl, Bool, true, false, List, [], ◌∷◌}
use Rattle.std.specs.Prelude.{◌&&◌, AllPairs, Some, if◌then◌else◌}
use Rattle.uid_names.specs.Names.{ProcName, ObjectName, same_proc}
use Rattle.uid_names.specs.Modes.{modes_clash}
use Rattle.uid_names.specs.Rows.{same_row}
use Rattle.uid_names.specs.declared.lock_row.LockRow.{LockRow}
use Rattle.uid_names.proofs.Codes.{modes_clash-sym}
use Rattle.uid_names.proofs.Finds.{find-passes}
use Rattle.uid_names.proofs.InOrder.{AllPairs-head, AllPairs-tail}
use Rattle.uid_names.proofs.Orders.{same_row_is, same_proc-itself, same_uid-itself, same_uid-sym, same_proc-sym}
use Rattle.uid_names.proofs.ListLemmas.{All-found}
use Rattle.lock_manager.specs.declared.grants.Grant.{Grant}
use Rattle.lock_manager.specs.Grants.{grant_of}
use Rattle.lock_manager.specs.Tables.{are_in_conflict}

-- ---- conflicts are mutual

pub are_in_conflict-sym : (a b : Grant) → are_in_conflict a b ≡ are_in_conflict b a
are_in_conflict-sym a b =
    rw (same_uid-sym a.row.uid b.row.uid, same_proc-sym a.row.proc b.row.proc, modes_clash-sym a.row.proc a.row.mode b.row.proc b.row.mode) refl

-- ---- two that hold an object

-- no two locks of these grants conflict
abbrev AreCompatible : List Grant → Type 0
AreCompatible = AllPairs (λ a b. are_in_conflict a b ≡ false)

-- one row is not that of two processes
not_both : (p q : ProcName) (u : ObjectName) (row : LockRow) → same_row p u row ≡ true → same_row q u row ≡ true → same_proc p q ≡ false → ⊥
not_both p q u row of_p of_q apart =
    let first = same_row_is p u row of_p in
    let second = same_row_is q u row of_q in
    let same : same_proc p q ≡ true = rw (first.0, second.0) (same_proc-itself row.proc) in
    cc

compatible : (p q : ProcName) (u : ObjectName) (grants : List Grant) (a b : Grant) → AreCompatible grants → grant_of p u grants ≡ Some a → grant_of q u grants ≡ Some b
    → same_proc p q ≡ false → are_in_conflict a b ≡ false
compatible p q u [] a b pairs held_p held_q apart = absurd cc
compatible p q u (g ∷ rest) a b pairs held_p held_q apart =
    by (same_row p u g.row) refl (same_row q u g.row) refl held_p held_q
    (λ first second. compatible p q u rest a b (AllPairs-tail (λ a b. are_in_conflict a b ≡ false) g rest pairs) first second apart)
  where
    by : (x : Bool) → same_row p u g.row ≡ x → (y : Bool) → same_row q u g.row ≡ y → (if x then Some g else grant_of p u rest) ≡ Some a
        → (if y then Some g else grant_of q u rest) ≡ Some b
        → (grant_of p u rest ≡ Some a → grant_of q u rest ≡ Some b → are_in_conflict a b ≡ false) → are_in_conflict a b ≡ false
    by true of_p true of_q first second others = absurd (not_both p q u g.row of_p of_q apart)
    by true of_p false of_q first second others =
        let same : g ≡ a = cc in
        rw (← same) (All-found (λ c. are_in_conflict g c ≡ false) (λ c. same_row q u c.row) rest b (AllPairs-head (λ a b. are_in_conflict a b ≡ false) g rest pairs) second)
    by false of_p true of_q first second others =
        let same : g ≡ b = cc in
        rw (← same) (are_in_conflict-sym a g ∙ All-found (λ c. are_in_conflict g c ≡ false) (λ c. same_row p u c.row) rest a (AllPairs-head (λ a b. are_in_conflict a b ≡ false) g rest pairs) first)
    by false of_p false of_q first second others = others first second

-- two processes that hold an object hold it in modes that go together
pub holders-compatible : (p q : ProcName) (u : ObjectName) (grants : List Grant) (a b : Grant) → AreCompatible grants → grant_of p u grants ≡ Some a → grant_of q u grants ≡ Some b
    → same_proc p q ≡ false → modes_clash p a.row.mode q b.row.mode ≡ false
holders-compatible p q u grants a b pairs held_p held_q apart =
    let free = compatible p q u grants a b pairs held_p held_q apart in
    let first = same_row_is p u a.row (find-passes (λ g. same_row p u g.row) grants a held_p) in
    let second = same_row_is q u b.row (find-passes (λ g. same_row q u g.row) grants b held_q) in
    let named : are_in_conflict a b ≡ modes_clash p a.row.mode q b.row.mode =
    rw (← first.0, ← first.1, ← second.0, ← second.1, same_uid-itself u, apart) refl in
    sym named ∙ free
