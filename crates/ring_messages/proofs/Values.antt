-- The fields of frames, one by one.
use Rattle.std.proofs.Common.{◌≡◌, ℕ, zero, suc, ◌/◌, ◌%◌, ◌^◌, ◌<◌, ◌≤◌, Bool, true, false, List, [], ◌∷◌, ◌++◌, length, take, drop, Some, None, refl, sym, ap, subst, ◌∙◌, append_assoc, arith}
use Rattle.std.specs.Prelude.{All, nat_lt, nat_le, not, ◌*◌, ◌==◌, ◌&&◌, if◌then◌else◌}
use Rattle.std.specs.List.{flat_map, AllByRecursion}
use Rattle.std.proofs.lemmas.Bool.{ltb-false, le-ltb, and_parts, not-true}
use Rattle.std.proofs.lemmas.Bool.Decides.{nat_tests}
use Rattle.std.proofs.lemmas.List.{take_at, drop_at, take-append-drop, length-append, length-take, length-replicate, get_or_default}
use Rattle.std.proofs.lemmas.List.Elements.{All-replicate}
use Rattle.std.proofs.lemmas.Slice.Eq.{bytes_eq-Decides}
use Rattle.std.proofs.lemmas.List.Concat.{flat_map-cons}
use Rattle.uid_names.specs.Names.{ProcName, ObjectName, IsName, number_of, IsProcName}
use Rattle.uid_names.specs.Modes.{mode_code, object_code}
use Rattle.uid_names.specs.declared.lock_row.LockRow.{LockRow}
use Rattle.ring_messages.specs.BlankPages.{blank_page, is_blank}
use Rattle.ring_messages.specs.Spelling.{be32, be64, uid_bytes, proc_bytes, flag, row_bytes, formed, page_by, page_bytes}
use Rattle.uid_names.specs.declared.limits.TheConstants.{PAGE_BYTES}
use Rattle.ring_messages.specs.Ranges.{IsWhole}
use Rattle.ring_messages.specs.Spelled.{IsRow, AreBytes}
use Rattle.uid_names.specs.Modes.{mode_of_code, object_of_code}
use Rattle.uid_names.specs.Steps.{◌>>=◌}
use Rattle.ring_messages.specs.ReaderSteps.{◌then◌}
use Rattle.ring_messages.specs.ReaderFields.{byte_at, bytes_at, full_at, page_of_form, formed_at, whole_by, whole_at, page_at, length_at, room_at, count_at, name_of, is_name, uid_of, own_of, proc_of, flag_of, uid_at, own_at, proc_at, mode_at, object_at, flag_at}
use Rattle.ring_messages.specs.ReaderRows.{row_of, row_at, rows_at}
use Rattle.uid_names.proofs.Codes.{mode_of_code-code, mode_of_code-found, mode_code-small, object_of_code-code, object_of_code-found, object_code-small}
use Rattle.uid_names.proofs.Somes.{bind-some}
use Rattle.ring_messages.proofs.Fields.{IsBytes, IsBytes-take, IsBytes-rest, if_some, unless_some, some_is, IsField, field-then, field-passing, field-meaning, field-byte, field-be32, field-be64}

pub field-page : (room : ℕ) → IsField be32 (λ n. (n < 2 ^ 32) × (n < room)) (page_at room)
unfolding page_at
field-page room = field-passing (λ n. nat_lt n room) (λ n. n < room) (λ n h. grind (arith, nat_tests)) (λ n h. grind (arith, nat_tests)) field-be32

pub field-length : (room : ℕ) → IsField be32 (λ n. (n < 2 ^ 32) × (n ≤ PAGE_BYTES * room)) (length_at room)
unfolding length_at
field-length room = field-passing (λ n. nat_le n (PAGE_BYTES * room)) (λ n. n ≤ PAGE_BYTES * room) (λ n h. grind (arith, nat_tests)) (λ n h. grind (arith, nat_tests)) field-be32

pub field-room : (room : ℕ) → IsField be32 (λ n. (n < 2 ^ 32) × ((1 ≤ n) × (n ≤ room))) (room_at room)
unfolding room_at
field-room room = field-passing (λ n. nat_le 1 n && nat_le n room) (λ n. (1 ≤ n) × (n ≤ room)) (λ n h. grind (arith, nat_tests, h.0, h.1)) (λ n h. (grind (arith, nat_tests), grind (arith, nat_tests))) field-be32

pub field-count : IsField be64 (λ n. (n < 2 ^ 64) × (1 ≤ n)) count_at
unfolding count_at
field-count = field-passing (λ n. nat_le 1 n) (λ n. 1 ≤ n) (λ n h. grind (arith, nat_tests)) (λ n h. grind (arith, nat_tests)) field-be64

-- ---- names

name-number : (n : ℕ) → number_of (name_of n) ≡ n
name-number n = omega arith

number-name : (u : ObjectName) → IsName u → name_of (number_of u) ≡ u
number-name u is =
    let counter : number_of u / 2 ^ 20 ≡ u.counter = omega (arith, is.home_high) in
    let home : number_of u % 2 ^ 20 ≡ u.home = omega (arith, is.home_high) in
    ap (λ (c : ℕ). record { counter = c; home = number_of u % 2 ^ 20 }) counter ∙ ap (λ (h : ℕ). record { counter = u.counter; home = h }) home

pub uid-means : (u : ObjectName) → IsName u → (number_of u < 2 ^ 64) × (uid_of (number_of u) ≡ Some u)
unfolding uid_of
uid-means u is =
    let passes : is_name u ≡ true = grind (arith, nat_tests, is.counter_low, is.home_low, is.home_high) in
    (omega (arith, is.counter_high, is.home_high), ap (λ (v : ObjectName). if is_name v then Some v else None) (number-name u is) ∙ rw passes refl)

pub uid-meant : (n : ℕ) (u : ObjectName) → n < 2 ^ 64 → uid_of n ≡ Some u → (n ≡ number_of u) × IsName u
unfolding uid_of
uid-meant n u small e =
    let g = if_some (is_name (name_of n)) (name_of n) u e in
    let a = and_parts (nat_le 1 (n / 2 ^ 20)) (nat_le 1 (n % 2 ^ 20) && nat_le (n % 2 ^ 20) 8) g.0 in
    let b = and_parts (nat_le 1 (n % 2 ^ 20)) (nat_le (n % 2 ^ 20) 8) a.1 in
    let is : IsName (name_of n) = record { counter_low = grind (arith, nat_tests, a.0); counter_high = omega arith; home_low = grind (arith, nat_tests, b.0); home_high = grind (arith, nat_tests, b.1) } in
    subst (λ (v : ObjectName). (n ≡ number_of v) × IsName v) g.1 (sym (name-number n), is)

pub field-uid : IsField uid_bytes IsName uid_at
field-uid = field-meaning uid_of number_of IsName uid-means uid-meant field-be64

own-means : (home : ℕ) (u : ObjectName) → IsName u × (u.home ≡ home) → (number_of u < 2 ^ 64) × (own_of home (number_of u) ≡ Some u)
unfolding own_of
own-means home u is =
    let m = uid-means u is.0 in
    let here : (u.home == home) ≡ true = grind (arith, nat_tests, is.1) in
    (m.0, rw m.1 (rw here refl))

own-meant : (home n : ℕ) (u : ObjectName) → n < 2 ^ 64 → own_of home n ≡ Some u → (n ≡ number_of u) × (IsName u × (u.home ≡ home))
unfolding own_of
own-meant home n u small e =
    let v = bind-some (uid_of n) (λ v. if v.home == home then Some v else None) u e in
    let g = if_some (v.0.home == home) v.0 u v.2 in
    let m = uid-meant n v.0 small v.1 in
    subst (λ (w : ObjectName). (n ≡ number_of w) × (IsName w × (w.home ≡ home))) g.1 (m.0, (m.1, grind (arith, nat_tests, g.0)))

pub field-own : (home : ℕ) → IsField uid_bytes (λ u. IsName u × (u.home ≡ home)) (own_at home)
field-own home = field-meaning (own_of home) number_of (λ u. IsName u × (u.home ≡ home)) (own-means home) (own-meant home) field-be64

-- ---- processes, modes and flags

pub proc_of-again : (p : ProcName) → IsProcName p → proc_of p.node p.number ≡ Some p
unfolding proc_of
proc_of-again p is =
    let node : (nat_le 1 p.node && nat_le p.node 8) ≡ true = grind (arith, nat_tests, is.node.0, is.node.1) in
    let number : (nat_le 1 p.number && nat_le p.number 4) ≡ true = grind (arith, nat_tests, is.number.0, is.number.1) in
    rw (node, number) refl

pub proc_of-takes : (node number : ℕ) (p : ProcName) → proc_of node number ≡ Some p → (node ≡ p.node) × (number ≡ p.number) × IsProcName p
unfolding proc_of
proc_of-takes node number p e =
    let made : ProcName = record { node = node; number = number } in
    let g = if_some ((nat_le 1 node && nat_le node 8) && (nat_le 1 number && nat_le number 4)) made p e in
    let a = and_parts (nat_le 1 node && nat_le node 8) (nat_le 1 number && nat_le number 4) g.0 in
    let b = and_parts (nat_le 1 node) (nat_le node 8) a.0 in
    let c = and_parts (nat_le 1 number) (nat_le number 4) a.1 in
    let is : IsProcName made = record { node = (grind (arith, nat_tests, b.0), grind (arith, nat_tests, b.1)); number = (grind (arith, nat_tests, c.0), grind (arith, nat_tests, c.1)) } in
    subst (λ (q : ProcName). (node ≡ q.node) × (number ≡ q.number) × IsProcName q) g.1 (refl, refl, is)

proc-means : (p : ProcName) → IsProcName p → ((p.node < 256) × (p.number < 256)) × (proc_of p.node p.number ≡ Some p)
proc-means p is = ((omega (arith, is.node.1), omega (arith, is.number.1)), proc_of-again p is)

proc-meant : (x : ℕ × ℕ) (p : ProcName) → (x.0 < 256) × (x.1 < 256) → proc_of x.0 x.1 ≡ Some p → (x ≡ (p.node, p.number)) × IsProcName p
proc-meant x p small e =
    let t = proc_of-takes x.0 x.1 p e in
    (ap (λ (n : ℕ). (n, x.1)) t.0 ∙ ap (λ (n : ℕ). (p.node, n)) t.1, t.2)

pub field-proc : IsField proc_bytes IsProcName proc_at
field-proc = field-meaning (λ (x : ℕ × ℕ). proc_of x.0 x.1) (λ p. (p.node, p.number)) IsProcName proc-means proc-meant (field-then field-byte field-byte)

pub field-mode : IsField (λ m. mode_code m ∷ []) (λ m. Unit {0}) mode_at
field-mode = field-meaning mode_of_code mode_code (λ m. Unit {0}) (λ m u. (mode_code-small m, mode_of_code-code m)) (λ n m small e. (sym (mode_of_code-found n m e), tt)) field-byte

pub field-object : IsField (λ k. object_code k ∷ []) (λ k. Unit {0}) object_at
field-object = field-meaning object_of_code object_code (λ k. Unit {0}) (λ k u. (object_code-small k, object_of_code-code k)) (λ n k small e. (sym (object_of_code-found n k e), tt)) field-byte

flag-again : (b : Bool) → (flag b < 256) × (flag_of (flag b) ≡ Some b)
unfolding flag_of
flag-again true = (omega arith, refl)
flag-again false = (omega arith, refl)

flag-back : (n : ℕ) (b : Bool) → flag_of n ≡ Some b → n ≡ flag b
unfolding flag_of
flag-back n true e = grind (arith, nat_tests)
flag-back n false e = grind (arith, nat_tests)

pub field-flag : IsField (λ b. flag b ∷ []) (λ b. Unit {0}) flag_at
field-flag = field-meaning flag_of flag (λ b. Unit {0}) (λ b u. flag-again b) (λ n b small e. (flag-back n b e, tt)) field-byte

-- ---- the bytes of a page

-- a page as it is read: whole, and of bytes
pub record IsPageBytes (bytes : List ℕ) : Type 0 where
  pub len : IsWhole bytes
  pub small : AreBytes bytes

All-from_small : (bytes : List ℕ) → IsBytes bytes → All (λ b. b < 256) bytes
All-from_small bytes small k d below = subst (λ (b : ℕ). b < 256) (get_or_default bytes k 0 d below) (small k)

bytes-again : (bytes rest : List ℕ) → IsPageBytes bytes → bytes_at (bytes ++ rest) ≡ Some (bytes, rest)
unfolding bytes_at
bytes-again bytes rest is =
    let long : nat_lt (length (bytes ++ rest)) PAGE_BYTES ≡ false = le-ltb _ _ (omega (arith, length-append bytes rest, is.len)) in
    rw (long, take_at bytes rest PAGE_BYTES is.len, drop_at bytes rest PAGE_BYTES is.len) refl

bytes-takes : (bytes : List ℕ) (x : List ℕ × List ℕ) → IsBytes bytes → bytes_at bytes ≡ Some x → (bytes ≡ x.0 ++ x.1) × IsPageBytes x.0
unfolding bytes_at
bytes-takes bytes x small e =
    let read : List ℕ × List ℕ = (take PAGE_BYTES bytes, drop PAGE_BYTES bytes) in
    let g = unless_some (nat_lt (length bytes) PAGE_BYTES) read x e in
    let long : PAGE_BYTES ≤ length bytes = ltb-false _ _ g.0 in
    let is : IsPageBytes (take PAGE_BYTES bytes) = record {
      len = omega (arith, length-take PAGE_BYTES bytes);
      small = All-from_small (take PAGE_BYTES bytes) (IsBytes-take PAGE_BYTES bytes small);
    } in
    subst (λ (y : List ℕ × List ℕ). (bytes ≡ y.0 ++ y.1) × IsPageBytes y.0) g.1 (sym (take-append-drop PAGE_BYTES bytes), is)

field-bytes : IsField (λ bytes. bytes) IsPageBytes bytes_at
field-bytes = record { again = bytes-again; takes = bytes-takes }

-- a page of zeros is one
pub blank-itself : is_blank blank_page ≡ true
blank-itself = (bytes_eq-Decides blank_page blank_page).1 refl

pub blank-is : IsPageBytes blank_page
unfolding blank_page
blank-is = record { len = length-replicate {A = ℕ} PAGE_BYTES 0; small = All-replicate (λ (b : ℕ). b < 256) PAGE_BYTES 0 (omega arith) }

-- any other page, without its form
field-full : IsField (λ (bytes : List ℕ). bytes) (λ (bytes : List ℕ). IsPageBytes bytes × (is_blank bytes ≡ false)) full_at
unfolding full_at
field-full = field-passing (λ (bytes : List ℕ). not (is_blank bytes)) (λ (bytes : List ℕ). is_blank bytes ≡ false) (λ bytes h. ap not h) (λ bytes h. not-true (is_blank bytes) h) field-bytes

-- a page behind its form
form-again : (bytes rest : List ℕ) (b : Bool) → IsPageBytes bytes → is_blank bytes ≡ b → formed_at (formed b bytes ++ rest) ≡ Some (bytes, rest)
unfolding formed_at page_of_form byte_at
form-again bytes rest true is blank = ap (λ (page : List ℕ). Some (page, rest)) (sym ((bytes_eq-Decides bytes blank_page).0 blank))
form-again bytes rest false is full = field-full.again bytes rest (is, full)

by_form : (form : ℕ) (rest : List ℕ) (x : List ℕ × List ℕ) (a b : Bool) → (form == 0) ≡ a → (form == 1) ≡ b → IsBytes rest → (if a then Some (blank_page, rest) else if b then full_at rest else None) ≡ Some x
    → (form ∷ rest ≡ formed (is_blank x.0) x.0 ++ x.1) × IsPageBytes x.0
by_form form rest x true b zero_so one_so small e =
    let is : form ≡ 0 = grind (arith, nat_tests, zero_so) in
    let read : List ℕ × List ℕ = (blank_page, rest) in
    subst (λ (y : List ℕ × List ℕ). (form ∷ rest ≡ formed (is_blank y.0) y.0 ++ y.1) × IsPageBytes y.0) (some_is read x e)
    (ap (λ (n : ℕ). n ∷ rest) is ∙ ap (λ (b : Bool). formed b blank_page ++ rest) (sym blank-itself), blank-is)
by_form form rest x false true zero_so one_so small e =
    let is : form ≡ 1 = grind (arith, nat_tests, one_so) in
    let full = field-full.takes rest x small e in
    (ap (λ (n : ℕ). n ∷ rest) is ∙ ap (λ (r : List ℕ). 1 ∷ r) full.0 ∙ ap (λ (b : Bool). formed b x.0 ++ x.1) (sym full.1.1), full.1.0)
by_form form rest x false false zero_so one_so small e = absurd cc

form-takes : (form : ℕ) (rest : List ℕ) (x : List ℕ × List ℕ) → IsBytes rest → page_of_form form rest ≡ Some x → (form ∷ rest ≡ formed (is_blank x.0) x.0 ++ x.1) × IsPageBytes x.0
unfolding page_of_form
form-takes form rest x small e = by_form form rest x (form == 0) (form == 1) refl refl small e

formed-takes : (bytes : List ℕ) (x : List ℕ × List ℕ) → IsBytes bytes → formed_at bytes ≡ Some x → (bytes ≡ formed (is_blank x.0) x.0 ++ x.1) × IsPageBytes x.0
unfolding formed_at
formed-takes bytes x small e =
    let form = bind-some (byte_at bytes) (λ (form : ℕ × List ℕ). page_of_form form.0 form.1) x e in
    let first = field-byte.takes bytes form.0 small form.1 in
    let rest = IsBytes-rest (form.0.0 ∷ []) form.0.1 (subst IsBytes first.0 small) in
    let page = form-takes form.0.0 form.0.1 x rest form.2 in
    (first.0 ∙ page.0, page.1)

field-formed : IsField (λ (bytes : List ℕ). formed (is_blank bytes) bytes) IsPageBytes formed_at
field-formed = record { again = λ bytes rest is. form-again bytes rest (is_blank bytes) is refl; takes = formed-takes }

-- a page, in a version
pub field-whole : (version : ℕ) → IsField (λ (bytes : List ℕ). page_bytes version bytes) IsPageBytes (λ (bytes : List ℕ). whole_at version bytes)
field-whole version = by (version == 1)
  where
    by : (b : Bool) → IsField (λ (bytes : List ℕ). page_by b bytes) IsPageBytes (λ (bytes : List ℕ). whole_by b bytes)
    by true = field-bytes
    by false = field-formed

-- ---- rows

row-means : (row : LockRow) → IsRow row → ((number_of row.uid < 2 ^ 64) × ((row.proc.node < 256) × ((row.proc.number < 256) × (mode_code row.mode < 256)))) × (row_of (number_of row.uid) row.proc.node row.proc.number (mode_code row.mode) ≡ Some row)
unfolding row_of
row-means row is =
    let u = uid-means row.uid is.uid in
    let p = proc-means row.proc is.proc in
    ((u.0, (p.0.0, (p.0.1, mode_code-small row.mode))), rw u.1 (rw p.1 (rw (mode_of_code-code row.mode) refl)))

row-meant : (x : ℕ × (ℕ × (ℕ × ℕ))) (row : LockRow) → (x.0 < 2 ^ 64) × ((x.1.0 < 256) × ((x.1.1.0 < 256) × (x.1.1.1 < 256))) → row_of x.0 x.1.0 x.1.1.0 x.1.1.1 ≡ Some row → (x ≡ (number_of row.uid, (row.proc.node, (row.proc.number, mode_code row.mode)))) × IsRow row
unfolding row_of
row-meant x row small e =
    let u = bind-some (uid_of x.0) (λ u. proc_of x.1.0 x.1.1.0 >>= λ p. mode_of_code x.1.1.1 >>= λ m. Some (record { uid = u; proc = p; mode = m })) row e in
    let p = bind-some (proc_of x.1.0 x.1.1.0) (λ p. mode_of_code x.1.1.1 >>= λ m. Some (record { uid = u.0; proc = p; mode = m })) row u.2 in
    let m = bind-some (mode_of_code x.1.1.1) (λ m. Some (record { uid = u.0; proc = p.0; mode = m })) row p.2 in
    let made : LockRow = record { uid = u.0; proc = p.0; mode = m.0 } in
    let um = uid-meant x.0 u.0 small.0 u.1 in
    let pm = proc_of-takes x.1.0 x.1.1.0 p.0 p.1 in
    let mm = sym (mode_of_code-found x.1.1.1 m.0 m.1) in
    let parts : x ≡ (number_of u.0, (p.0.node, (p.0.number, mode_code m.0))) = rw (← um.0, ← pm.0, ← pm.1, ← mm) refl in
    subst (λ (r : LockRow). (x ≡ (number_of r.uid, (r.proc.node, (r.proc.number, mode_code r.mode)))) × IsRow r) (some_is made row m.2) (parts, record { uid = um.1; proc = pm.2 })

pub field-row : IsField row_bytes IsRow row_at
field-row = field-meaning (λ (x : ℕ × (ℕ × (ℕ × ℕ))). row_of x.0 x.1.0 x.1.1.0 x.1.1.1) (λ row. (number_of row.uid, (row.proc.node, (row.proc.number, mode_code row.mode)))) IsRow row-means row-meant (field-then field-be64 (field-then field-byte (field-then field-byte field-byte)))

pub rows-again : (rows : List LockRow) (rest : List ℕ) → AllByRecursion IsRow rows → rows_at (length rows) (flat_map row_bytes rows ++ rest) ≡ Some (rows, rest)
unfolding rows_at
rows-again [] rest is = refl
rows-again (row ∷ rows) rest is =
    let regrouped : flat_map row_bytes (row ∷ rows) ++ rest ≡ row_bytes row ++ (flat_map row_bytes rows ++ rest) = ap (λ (x : List ℕ). x ++ rest) (flat_map-cons row_bytes row rows) ∙ append_assoc (row_bytes row) (flat_map row_bytes rows) rest in
    ap (rows_at (suc (length rows))) regrouped ∙ rw (field-row.again row (flat_map row_bytes rows ++ rest) is.0) (rw (rows-again rows rest is.1) refl)

pub rows-take : (n : ℕ) (bytes : List ℕ) (x : List LockRow × List ℕ) → IsBytes bytes → rows_at n bytes ≡ Some x → (bytes ≡ flat_map row_bytes x.0 ++ x.1) × (length x.0 ≡ n) × AllByRecursion IsRow x.0
unfolding rows_at
rows-take zero bytes x small e =
    let made : List LockRow × List ℕ = ([], bytes) in
    subst (λ (y : List LockRow × List ℕ). (bytes ≡ flat_map row_bytes y.0 ++ y.1) × (length y.0 ≡ 0) × AllByRecursion IsRow y.0) (some_is made x e) (refl, refl, tt)
rows-take (suc n) bytes x small e =
    let a = bind-some (row_at bytes) (λ row. rows_at n row.1 >>= λ others. Some (row.0 ∷ others.0, others.1)) x e in
    let b = bind-some (rows_at n a.0.1) (λ others. Some (a.0.0 ∷ others.0, others.1)) x a.2 in
    let first = field-row.takes bytes a.0 small a.1 in
    let rest-small = IsBytes-rest (row_bytes a.0.0) a.0.1 (subst IsBytes first.0 small) in
    let second = rows-take n a.0.1 b.0 rest-small b.1 in
    let made : List LockRow × List ℕ = (a.0.0 ∷ b.0.0, b.0.1) in
    let parts : bytes ≡ flat_map row_bytes (a.0.0 ∷ b.0.0) ++ b.0.1 =
    first.0 ∙ ap (λ (r : List ℕ). row_bytes a.0.0 ++ r) second.0 ∙ sym (append_assoc (row_bytes a.0.0) (flat_map row_bytes b.0.0) b.0.1) ∙ ap (λ (r : List ℕ). r ++ b.0.1) (sym (flat_map-cons row_bytes a.0.0 b.0.0)) in
    subst (λ (y : List LockRow × List ℕ). (bytes ≡ flat_map row_bytes y.0 ++ y.1) × (length y.0 ≡ suc n) × AllByRecursion IsRow y.0) (some_is made x b.2) (parts, ap suc second.1, (first.1, second.2))
