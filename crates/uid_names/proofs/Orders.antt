-- The orders of names and of rows: rows stand by object, then by process.
use Rattle.std.proofs.Common.{◌≡◌, Bool, true, false, refl, ap, ◌∙◌, inl, inr, ◌⊎◌, arith}
use Rattle.std.specs.Prelude.{not, ◌&&◌, ◌||◌, Some}
use Rattle.std.proofs.lemmas.Bool.{and_parts}
use Rattle.std.proofs.lemmas.Bool.Decides.{nat_tests}
use Rattle.uid_names.specs.Names.{ProcName, ObjectName, same_uid, same_proc, uid_lt, proc_lt}
use Rattle.uid_names.specs.contracts.ids.UidOrd.TheImpl as uid_order
use Rattle.uid_names.specs.contracts.ids.ProcIdOrd.TheImpl as proc_order
use Rattle.std.specs.Ordering.{nat_cmp, ordering_then}
use Rattle.uid_names.proofs.InOrder.{Agrees, Agrees-nat, Agrees-then}
use Rattle.uid_names.specs.declared.lock_row.LockRow.{LockRow}
use Rattle.uid_names.specs.Rows.{is_before, is_after, row_lt, same_row}

-- an order by one thing and then by another
pub first_or_second : (x y z : Bool) → (x || (y && z)) ≡ true → (x ≡ true) ⊎ ((y ≡ true) × (z ≡ true))
first_or_second true y z e = inl refl
first_or_second false true true e = inr (refl, refl)
first_or_second false true false e = absurd cc
first_or_second false false z e = absurd cc

-- by the first thing
pub by_first : (x w : Bool) → x ≡ true → (x || w) ≡ true
by_first x w e = rw e refl

-- by the second thing
pub by_second : (x y z : Bool) → y ≡ true → z ≡ true → (x || (y && z)) ≡ true
by_second true y z e f = refl
by_second false y z e f = rw (e, f) refl

-- names of objects are in one order
pub uid_lt-trans : (u v w : ObjectName) → uid_lt u v ≡ true → uid_lt v w ≡ true → uid_lt u w ≡ true
uid_lt-trans u v w e f = grind (arith, nat_tests, e, f)

-- an object is below each name of a greater one
pub uid_lt-same : (u v w : ObjectName) → uid_lt u v ≡ true → same_uid v w ≡ true → uid_lt u w ≡ true
uid_lt-same u v w e f = grind (arith, nat_tests, e, f)

-- each name of an object is below a greater one
pub same-uid_lt : (u v w : ObjectName) → same_uid u v ≡ true → uid_lt v w ≡ true → uid_lt u w ≡ true
same-uid_lt u v w e f = grind (arith, nat_tests, e, f)

-- names of one object are the same
pub same_uid-trans : (u v w : ObjectName) → same_uid u v ≡ true → same_uid v w ≡ true → same_uid u w ≡ true
same_uid-trans u v w e f = grind (arith, nat_tests, e, f)

-- of two objects one is below the other
pub uid_lt-total : (u v : ObjectName) → uid_lt v u ≡ false → same_uid u v ≡ false → uid_lt u v ≡ true
uid_lt-total u v e f = grind (arith, nat_tests, e, f)

-- an object that is below another is not that one
pub uid_lt-apart : (u v : ObjectName) → uid_lt v u ≡ true → same_uid u v ≡ false
uid_lt-apart u v e = grind (arith, nat_tests, e)

-- an object above one that is not below a third is not the third
pub uid_later_apart : (u v w : ObjectName) → uid_lt v w ≡ true → uid_lt v u ≡ false → same_uid u w ≡ false
uid_later_apart u v w e f = grind (arith, nat_tests, e, f)

-- processes are in one order
pub proc_lt-trans : (p q r : ProcName) → proc_lt p q ≡ true → proc_lt q r ≡ true → proc_lt p r ≡ true
proc_lt-trans p q r e f = grind (arith, nat_tests, e, f)

-- by which of the two things the three stand apart
trans_by : (a b c : LockRow) → (uid_lt a.uid b.uid ≡ true) ⊎ ((same_uid a.uid b.uid ≡ true) × (proc_lt a.proc b.proc ≡ true)) → (uid_lt b.uid c.uid ≡ true) ⊎ ((same_uid b.uid c.uid ≡ true) × (proc_lt b.proc c.proc ≡ true)) → row_lt a c ≡ true
trans_by a b c (inl e) (inl f) = by_first (uid_lt a.uid c.uid) (same_uid a.uid c.uid && proc_lt a.proc c.proc) (uid_lt-trans a.uid b.uid c.uid e f)
trans_by a b c (inl e) (inr f) = by_first (uid_lt a.uid c.uid) (same_uid a.uid c.uid && proc_lt a.proc c.proc) (uid_lt-same a.uid b.uid c.uid e f.0)
trans_by a b c (inr e) (inl f) = by_first (uid_lt a.uid c.uid) (same_uid a.uid c.uid && proc_lt a.proc c.proc) (same-uid_lt a.uid b.uid c.uid e.0 f)
trans_by a b c (inr e) (inr f) = by_second (uid_lt a.uid c.uid) (same_uid a.uid c.uid) (proc_lt a.proc c.proc) (same_uid-trans a.uid b.uid c.uid e.0 f.0) (proc_lt-trans a.proc b.proc c.proc e.1 f.1)

-- rows are in one order
pub row_lt-trans : (a b c : LockRow) → row_lt a b ≡ true → row_lt b c ≡ true → row_lt a c ≡ true
row_lt-trans a b c e f =
    trans_by a b c
    (first_or_second (uid_lt a.uid b.uid) (same_uid a.uid b.uid) (proc_lt a.proc b.proc) e)
    (first_or_second (uid_lt b.uid c.uid) (same_uid b.uid c.uid) (proc_lt b.proc c.proc) f)

-- of two rows that are not of one process and object, one stands before the other
pub row_lt-total : (a b : LockRow) → row_lt b a ≡ false → same_row a.proc a.uid b ≡ false → row_lt a b ≡ true
row_lt-total a b e f = grind (arith, nat_tests, e, f)

-- a row that stands before another is not that one
pub row_lt-apart : (a b : LockRow) → row_lt a b ≡ true → same_row a.proc a.uid b ≡ false
row_lt-apart a b e = grind (arith, nat_tests, e)

-- a row that stands before that of a process on an object is not that one
pub is_before-apart : (row : LockRow) (u : ObjectName) (p : ProcName) → is_before row u p ≡ true → same_row p u row ≡ false
is_before-apart row u p e = grind (arith, nat_tests, e)

-- rows before one that stands before a third stand before the third
pub is_before-trans : (a b : LockRow) (u : ObjectName) (p : ProcName) → row_lt a b ≡ true → is_before b u p ≡ true → is_before a u p ≡ true
is_before-trans a b u p e f = row_lt-trans a b (record { uid = u; proc = p; mode = b.mode }) e f

-- objects are known by their parts
uid_by_parts : (u v : ObjectName) → u.counter ≡ v.counter → u.home ≡ v.home → u ≡ v
uid_by_parts u v counter home = ap (λ n. record { counter = n; home = u.home }) counter ∙ ap (λ n. record { counter = v.counter; home = n }) home

-- and processes
pub proc_by_parts : (p q : ProcName) → p.node ≡ q.node → p.number ≡ q.number → p ≡ q
proc_by_parts p q node number = ap (λ n. record { node = n; number = p.number }) node ∙ ap (λ n. record { node = q.node; number = n }) number

-- names of one object are one
pub same_uid_is : (u v : ObjectName) → same_uid u v ≡ true → u ≡ v
same_uid_is u v e = uid_by_parts u v (grind (arith, nat_tests, e)) (grind (arith, nat_tests, e))

-- names of one process are one
pub same_proc_is : (p q : ProcName) → same_proc p q ≡ true → p ≡ q
same_proc_is p q e = proc_by_parts p q (grind (arith, nat_tests, e)) (grind (arith, nat_tests, e))

-- an object is itself
pub same_uid-itself : (u : ObjectName) → same_uid u u ≡ true
same_uid-itself u = grind (arith, nat_tests)

-- and a process
pub same_proc-itself : (p : ProcName) → same_proc p p ≡ true
same_proc-itself p = grind (arith, nat_tests)

-- and is not below itself
pub proc_lt-same : (p : ProcName) → proc_lt p p ≡ false
proc_lt-same p = grind (arith, nat_tests)

-- objects are the same both ways
pub same_uid-sym : (u v : ObjectName) → same_uid u v ≡ same_uid v u
same_uid-sym u v = grind (arith, nat_tests)

-- and processes
pub same_proc-sym : (p q : ProcName) → same_proc p q ≡ same_proc q p
same_proc-sym p q = grind (arith, nat_tests)

-- a row of a process on an object has their names
pub same_row_is : (p : ProcName) (u : ObjectName) (row : LockRow) → same_row p u row ≡ true → (p ≡ row.proc) × (u ≡ row.uid)
same_row_is p u row e =
    let names = and_parts (same_proc p row.proc) (same_uid u row.uid) e in
    (same_proc_is p row.proc names.0, same_uid_is u row.uid names.1)

-- rows behind one that does not stand before a third are not the third
pub later_apart : (a b : LockRow) (u : ObjectName) (p : ProcName) → row_lt a b ≡ true → is_before a u p ≡ false → same_row p u b ≡ false
later_apart a b u p e f = by_test (same_row p u b) refl
  where
    by_test : (t : Bool) → same_row p u b ≡ t → t ≡ false
    by_test true same =
        let names = same_row_is p u b same in
        let h : is_before a u p ≡ true = rw (names.0, names.1) e in
        absurd cc
    by_test false same = refl

-- what is not behind a row stays so before it
pub not_after-trans : (a b : LockRow) (u : ObjectName) (p : ProcName) → row_lt a b ≡ true → not (is_after (Some (u, p)) b) ≡ true → not (is_after (Some (u, p)) a) ≡ true
not_after-trans a b u p e f = by_test (is_after (Some (u, p)) a) refl
  where
    by_test : (t : Bool) → is_after (Some (u, p)) a ≡ t → not t ≡ true
    by_test true above =
        let h : is_after (Some (u, p)) b ≡ true = row_lt-trans (record { uid = u; proc = p; mode = b.mode }) a b above e in
        absurd (grind (arith, nat_tests, f, h))
    by_test false above = refl

-- rows before one of a smaller object are of smaller objects
pub uid_lt-before : (a b : LockRow) (u : ObjectName) → row_lt a b ≡ true → uid_lt b.uid u ≡ true → uid_lt a.uid u ≡ true
uid_lt-before a b u e f = grind (arith, nat_tests, e, f)

-- rows before one of no greater object are of no greater objects
pub not_uid_lt-before : (a b : LockRow) (u : ObjectName) → row_lt a b ≡ true → not (uid_lt u b.uid) ≡ true → not (uid_lt u a.uid) ≡ true
not_uid_lt-before a b u e f = grind (arith, nat_tests, e, f)

-- an object that is neither below nor above another is that one
pub same_uid-between : (u v : ObjectName) → not (uid_lt v u) && not (uid_lt u v) ≡ same_uid u v
same_uid-between u v = grind (arith, nat_tests)

-- objects compare as their names stand
Agrees-uid : (u v : ObjectName) → Agrees (uid_order.ghosts.cmp u v) (uid_lt u v) (same_uid u v)
Agrees-uid u v = Agrees-then (nat_cmp u.counter v.counter) (nat_cmp u.home v.home) _ _ _ _ (Agrees-nat u.counter v.counter) (Agrees-nat u.home v.home)

-- and processes
Agrees-proc : (p q : ProcName) → Agrees (proc_order.ghosts.cmp p q) (proc_lt p q) (same_proc p q)
Agrees-proc p q = Agrees-then (nat_cmp p.node q.node) (nat_cmp p.number q.number) _ _ _ _ (Agrees-nat p.node q.node) (Agrees-nat p.number q.number)

-- a name of an object against the one that is looked for
pub Agrees-object : (u v : ObjectName) → Agrees (uid_order.ghosts.cmp v u) (uid_lt v u) (same_uid u v)
Agrees-object u v =
    let turned : same_uid u v ≡ same_uid v u = grind (arith, nat_tests) in
    rw turned (Agrees-uid v u)

-- a row against that of p on u
pub Agrees-row : (p : ProcName) (u : ObjectName) (row : LockRow) → Agrees (ordering_then (uid_order.ghosts.cmp row.uid u) (proc_order.ghosts.cmp row.proc p)) (is_before row u p) (same_row p u row)
Agrees-row p u row =
    let turned : same_row p u row ≡ (same_uid row.uid u && same_proc row.proc p) = grind (arith, nat_tests) in
    rw turned (Agrees-then (uid_order.ghosts.cmp row.uid u) (proc_order.ghosts.cmp row.proc p) _ _ _ _ (Agrees-uid row.uid u) (Agrees-proc row.proc p))
