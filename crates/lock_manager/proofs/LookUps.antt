-- What a process holds after each change of a lock table.
use Rattle.std.proofs.Common.{◌≡◌, true, false, List, [], ◌∷◌, refl, arith}
use Rattle.std.specs.Prelude.{Some, None, not, filter, ◌&&◌, if◌then◌else◌}
use Rattle.std.proofs.lemmas.Bool.Decides.{nat_tests}
use Rattle.uid_names.specs.Names.{ProcName, ObjectName, same_proc, same_uid}
use Rattle.uid_names.specs.Rows.{same_row}
use Rattle.uid_names.proofs.InOrder.{find-replaced}
use Rattle.uid_names.proofs.Orders.{same_row_is}
use Rattle.lock_manager.specs.declared.grants.Grant.{Grant}
use Rattle.lock_manager.specs.Grants.{grant_lt, is_on, grant_of, grants_with, grants_without}

-- a row of the new one's process and object is p's on u where the new one is
same_row-new : (p : ProcName) (u : ObjectName) (new g : Grant) → same_row new.row.proc new.row.uid g.row ≡ true → same_row p u new.row ≡ same_row p u g.row
same_row-new p u new g e =
    let names = same_row_is new.row.proc new.row.uid g.row e in
    rw (names.0, names.1) refl

-- and no other row is
same_row-other : (p : ProcName) (u : ObjectName) (new g : Grant) → same_row new.row.proc new.row.uid g.row ≡ false → same_row p u new.row ≡ true → same_row p u g.row ≡ false
same_row-other p u new g apart e =
    let names = same_row_is p u new.row e in
    rw (names.0, names.1) apart

-- what p holds on u where what q held on v was taken out
pub grant_of-without : (p q : ProcName) (u v : ObjectName) (grants : List Grant) → grant_of p u (grants_without q v grants) ≡ (if same_proc p q && same_uid u v then None else grant_of p u grants)
grant_of-without p q u v [] = grind (arith, nat_tests)
grant_of-without p q u v (g ∷ grants) = grind (arith, nat_tests, grant_of-without p q u v grants)

-- what p holds on u where all was taken out that was held on v
pub grant_of-without_object : (p : ProcName) (u v : ObjectName) (grants : List Grant) → grant_of p u (filter (λ g. not (is_on v g)) grants) ≡ (if same_uid u v then None else grant_of p u grants)
grant_of-without_object p u v [] = grind (arith, nat_tests)
grant_of-without_object p u v (g ∷ grants) = grind (arith, nat_tests, grant_of-without_object p u v grants)

-- what p holds on u where a grant was put in
pub grant_of-with : (p : ProcName) (u : ObjectName) (new : Grant) (grants : List Grant) → grant_of p u (grants_with new (grants_without new.row.proc new.row.uid grants)) ≡ (if same_row p u new.row then Some new else grant_of p u grants)
grant_of-with p u new = find-replaced grant_lt (λ g. same_row p u g.row) (λ g. same_row new.row.proc new.row.uid g.row) new (same_row-new p u new) (same_row-other p u new)
