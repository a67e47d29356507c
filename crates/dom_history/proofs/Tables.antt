-- The tables of locks say what the last reply, and the last effect, said.
use Rattle.std.proofs.Common.{◌≡◌, ◌∙◌, Bool, true, false, List, [], ◌∷◌, refl, ap, sym, arith}
use Rattle.std.specs.Prelude.{if◌then◌else◌, ◌&&◌, ◌==◌, Option, Some, None, find}
use Rattle.std.proofs.lemmas.Bool.Decides.{nat_tests}
use Rattle.uid_names.specs.Names.{ProcName, ObjectName, same_proc, same_uid}
use Rattle.uid_names.specs.declared.lock_row.LockRow.{LockRow}
use Rattle.uid_names.specs.declared.mode.Mode.{Mode}
use Rattle.dom_history.specs.declared.deed.LockLine.{LockLine}
use Rattle.dom_history.specs.declared.deed.LockState.{LockState}
use Rattle.dom_history.specs.declared.deed.LockState.TheVariants.{Free, Held, Taking, Releasing, Deleting}
use Rattle.uid_names.proofs.InOrder.{find-replaced}
use Rattle.dom_history.specs.declared.op.Op.{Op}
use Rattle.dom_history.specs.declared.op.Op.TheVariants.{Lock, Unlock, Delete}
use Rattle.dom_history.specs.declared.op.Reply.{Reply}
use Rattle.dom_history.specs.declared.op.Reply.TheVariants.{Fine, Doubt}
use Rattle.dom_history.specs.declared.deed.Deed.{Deed}
use Rattle.dom_history.specs.StoreEffects.{StoreEffect, TakesLock, FreesLock, Deletes}
use Rattle.uid_names.specs.Rows.{same_row, row_lt}
use Rattle.dom_history.specs.Locks.{state, state_by_last, state_after, lines_after, not_free, mode_at_home, state_in, lines_with, lines_without, holds, rows, rows_with, rows_without, mode_in}

-- the state where an object was made free
state_in-lines_without : (u v : ObjectName) (lines : List LockLine) → state_in u (lines_without v lines) ≡ (if same_uid u v then Free else state_in u lines)
state_in-lines_without u v [] = grind (arith, nat_tests)
state_in-lines_without u v (line ∷ lines) = grind (arith, nat_tests, state_in-lines_without u v lines)

-- the state where an object was put in one
pub state_in-lines_with : (u v : ObjectName) (s : LockState) (lines : List LockLine) → state_in u (lines_with v s lines) ≡ (if same_uid u v then s else state_in u lines)
state_in-lines_with u v s [] = grind (arith, nat_tests)
state_in-lines_with u v s (line ∷ lines) = grind (arith, nat_tests, state_in-lines_with u v s lines)

-- the row where one was taken out
row_of-without : (p q : ProcName) (u v : ObjectName) (rs : List LockRow) → mode_in (find (same_row p u) (rows_without q v rs)) ≡ (if same_proc p q && same_uid u v then None else mode_in (find (same_row p u) rs))
row_of-without p q u v [] = grind (arith, nat_tests)
row_of-without p q u v (row ∷ rs) = grind (arith, nat_tests, row_of-without p q u v rs)

-- a row of q and v is that of p and u where these are the same
row_of_new : (p q : ProcName) (u v : ObjectName) (m : Mode) (row : LockRow) → same_row q v row ≡ true → same_row p u (record { uid = v; proc = q; mode = m }) ≡ same_row p u row
row_of_new p q u v m row e = grind (arith, nat_tests, e)

-- and no other row is
other_row : (p q : ProcName) (u v : ObjectName) (m : Mode) (row : LockRow) → same_row q v row ≡ false → same_row p u (record { uid = v; proc = q; mode = m }) ≡ true → same_row p u row ≡ false
other_row p q u v m row e f = grind (arith, nat_tests, e, f)

-- the mode in the chosen row
mode_in-chosen : (b : Bool) (new : LockRow) (found : Option LockRow) → mode_in (if b then Some new else found) ≡ (if b then Some new.mode else mode_in found)
mode_in-chosen true new found = refl
mode_in-chosen false new found = refl

-- the row where one was put in
row_of-set : (p q : ProcName) (u v : ObjectName) (m : Mode) (rs : List LockRow) → mode_in (find (same_row p u) (rows_with (record { uid = v; proc = q; mode = m }) (rows_without q v rs))) ≡ (if same_proc p q && same_uid u v then Some m else mode_in (find (same_row p u) rs))
row_of-set p q u v m rs =
    let new : LockRow = record { uid = v; proc = q; mode = m } in
    ap mode_in (find-replaced row_lt (same_row p u) (same_row q v) new (row_of_new p q u v m) (other_row p q u v m) rs)
    ∙ mode_in-chosen (same_row p u new) new (find (same_row p u) rs)

-- an effect at another home is on another object
home_apart : (p q : ProcName) (u v : ObjectName) → (v.home == u.home) ≡ false → (same_proc p q && same_uid u v) ≡ false
home_apart p q u v e = grind (arith, nat_tests)

-- the rows of the home change only by an effect there
at_home : (c b : Bool) (x : Option Mode) (held : Option Mode) (changed rest : Option LockRow) → held ≡ mode_in rest → (b ≡ false → c ≡ false) → mode_in changed ≡ (if c then x else mode_in rest) → (if c then x else held) ≡ mode_in (if b then changed else rest)
at_home c true x held changed rest h n e = rw h (sym e)
at_home c false x held changed rest h n e = rw (n refl) h

-- a look-up in the chosen table
found_if : (p : ProcName) (u : ObjectName) (b : Bool) (changed rest : List LockRow) → find (same_row p u) (if b then changed else rest) ≡ (if b then find (same_row p u) changed else find (same_row p u) rest)
found_if p u true changed rest = refl
found_if p u false changed rest = refl

-- what a process holds is in the rows of the home
pub holds-rows : (p : ProcName) (u : ObjectName) (past : List StoreEffect) → holds p u past ≡ mode_in (find (same_row p u) (rows u.home past))
holds-rows p u [] = refl
holds-rows p u (TakesLock q v m ∷ past) =
    rw (found_if p u (v.home == u.home) (rows_with (record { uid = v; proc = q; mode = m }) (rows_without q v (rows u.home past))) (rows u.home past))
    (at_home (same_proc p q && same_uid u v) (v.home == u.home) (Some m) _ _ _ (holds-rows p u past) (home_apart p q u v) (row_of-set p q u v m (rows u.home past)))
holds-rows p u (FreesLock q v ∷ past) =
    rw (found_if p u (v.home == u.home) (rows_without q v (rows u.home past)) (rows u.home past))
    (at_home (same_proc p q && same_uid u v) (v.home == u.home) None _ _ _ (holds-rows p u past) (home_apart p q u v) (row_of-without p q u v (rows u.home past)))
holds-rows p u (Deletes q v ∷ past) =
    rw (found_if p u (v.home == u.home) (rows_without q v (rows u.home past)) (rows u.home past))
    (at_home (same_proc p q && same_uid u v) (v.home == u.home) None _ _ _ (holds-rows p u past) (home_apart p q u v) (row_of-without p q u v (rows u.home past)))
holds-rows p u (_ ∷ past) = holds-rows p u past

-- an object named as another is that other
state_in-named : (u v : ObjectName) (lines : List LockLine) → same_uid u v ≡ true → state_in u lines ≡ state_in v lines
state_in-named u v lines e = grind (arith, nat_tests, e)

-- the mode of a releasing is that of the state before it
released : (u v : ObjectName) (lines : List LockLine) (b : Bool) → same_uid u v ≡ b → state_in u (lines_with v (Releasing (mode_at_home (state_in v lines))) lines) ≡ (if same_uid u v then Releasing (mode_at_home (state_in u lines)) else state_in u lines)
released u v lines true e = rw (state_in-lines_with u v (Releasing (mode_at_home (state_in v lines))) lines, e, state_in-named u v lines e) refl
released u v lines false e = rw (state_in-lines_with u v (Releasing (mode_at_home (state_in v lines))) lines, e) refl

-- the state after a reply
pub state_in-lines_after : (u : ObjectName) (op : Op) (reply : Reply) (lines : List LockLine) → state_in u (lines_after op reply lines) ≡ state_after u op reply (state_in u lines)
state_in-lines_after u (Lock v m) Fine lines = state_in-lines_with u v (Held m) lines
state_in-lines_after u (Lock v m) Doubt lines = state_in-lines_with u v (Taking m) lines
state_in-lines_after u (Unlock v) Fine lines = state_in-lines_without u v lines
state_in-lines_after u (Unlock v) Doubt lines = released u v lines (same_uid u v) refl
state_in-lines_after u (Delete v) Fine lines = state_in-lines_without u v lines
state_in-lines_after u (Delete v) Doubt lines = state_in-lines_with u v Deleting lines
state_in-lines_after u _ _ lines = refl

-- the table of what a process knows says the last reply
pub state-by_last : (u : ObjectName) (told : List Deed) → state u told ≡ state_by_last u told
state-by_last u [] = refl
state-by_last u (d ∷ told) = rw (state_in-lines_after u d.op d.reply (not_free told), state-by_last u told) refl
