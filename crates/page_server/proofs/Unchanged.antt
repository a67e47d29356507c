-- What a refusal, and a request of another process, leave as it was.
use Rattle.std.proofs.Common.{◌≡◌, ℕ, ◌+◌, List, ◌∙◌, ap, refl}
use Rattle.std.specs.Prelude.{Bool, true, false, ◌&&◌, if◌then◌else◌, IsTrue, Option, Some, None, is_some, is_none}
use Rattle.uid_names.specs.Names.{ProcName, ObjectName, same_proc}
use Rattle.uid_names.specs.declared.mode.Mode.{Mode}
use Rattle.object_store.specs.declared.attributes.Attr.{Attr}
use Rattle.object_store.specs.Rules.{stamp_of}
use Rattle.object_store.specs.HomeStates.{HomeState, attr_of}
use Rattle.lock_manager.specs.Grants.{grant_of, conflict_of}
use Rattle.lock_manager.specs.Tables.{Table, with_grant}
use Rattle.lock_manager.proofs.LookUps.{grant_of-with, grant_of-without}
use Rattle.call_once.specs.declared.served.Looked.{Looked}
use Rattle.call_once.specs.declared.served.Looked.TheVariants.{Fresh, Again, Old}
use Rattle.call_once.specs.Calls.{Call, call_of, looked, last_of, with_call}
use Rattle.call_once.proofs.KeptCalls.{call_of-with_call}
use Rattle.ring_messages.specs.Bodies.{Ask, Answer}
use Rattle.page_server.specs.Decisions.{Decision, decide, write_answer, lock_answer, remove_answer, make_answer, may_remove}
use Rattle.page_server.specs.Outcomes.{is_refusal, is_remove}
use Rattle.page_server.specs.Serving.{HomeSide, serve_as, serve_of}

-- a write that is refused changes nothing
write-refused : (there granted current : Bool) (stamp : ℕ) (home after : HomeState) → IsTrue (is_refusal (write_answer there granted current stamp))
    → (if there && (granted && current) then after else home) ≡ home
write-refused false granted current stamp home after refused = refl
write-refused true false current stamp home after refused = refl
write-refused true true false stamp home after refused = refl
write-refused true true true stamp home after refused = absurd cc

-- nor a lock that is refused
lock-refused : (attr : Option Attr) (conflict : Option (ProcName × Mode)) (grant : ℕ) (locks after : Table) → IsTrue (is_refusal (lock_answer attr conflict grant))
    → (if is_some attr && is_none conflict then after else locks) ≡ locks
lock-refused None conflict grant locks after refused = refl
lock-refused (Some attr) (Some held) grant locks after refused = refl
lock-refused (Some attr) None grant locks after refused = absurd cc

-- nor a removal that is refused
remove-refused : {X : Type 0} (there held : Bool) (before after : X) → IsTrue (is_refusal (remove_answer there held)) → (if there && held then after else before) ≡ before
remove-refused false held before after refused = refl
remove-refused true false before after refused = refl
remove-refused true true before after refused = absurd cc

-- nor a making that is refused
make-refused : (fits : Bool) (u : ObjectName) (home after : HomeState) → IsTrue (is_refusal (make_answer fits u)) → (if fits then after else home) ≡ home
make-refused false u home after refused = refl
make-refused true u home after refused = absurd cc

-- a decision that refuses changes nothing
refused-unchanged : (home : HomeState) (locks : Table) (p : ProcName) (ask : Ask) → IsTrue (is_refusal (decide home locks p ask).answer)
    → ((decide home locks p ask).home ≡ home) × ((decide home locks p ask).locks ≡ locks)
refused-unchanged home locks p (Ask.PageIn u page) refused = (refl, refl)
refused-unchanged home locks p (Ask.PageOut u page grant base bytes) refused = (write-refused _ _ _ (stamp_of (attr_of home u)) home _ refused, refl)
refused-unchanged home locks p (Ask.AttrOut u length grant base) refused = (write-refused _ _ _ (stamp_of (attr_of home u)) home _ refused, refl)
refused-unchanged home locks p (Ask.Lock u mode) refused = (refl, lock-refused (attr_of home u) (conflict_of p u mode locks.grants) (locks.last + 1) locks _ refused)
refused-unchanged home locks p (Ask.Unlock u) refused = absurd cc
refused-unchanged home locks p (Ask.Remove u) refused =
    (remove-refused (is_some (attr_of home u)) (may_remove (grant_of p u locks.grants)) home _ refused, remove-refused (is_some (attr_of home u)) (may_remove (grant_of p u locks.grants)) locks _ refused)
refused-unchanged home locks p (Ask.Make kind room) refused = (make-refused _ _ home _ refused, refl)
refused-unchanged home locks p (Ask.ListLocks after) refused = (refl, refl)

-- a request that is refused changes nothing but what was answered last
pub refused-side : (side : HomeSide) (p : ProcName) (number : ℕ) (ask : Ask) (answer : Answer) → (serve_of side p number ask).answer ≡ Some answer → IsTrue (is_refusal answer)
    → (serve_of side p number ask).side ≡ record side { served = (serve_of side p number ask).side.served }
refused-side side p number ask answer = by (looked number (last_of p side.served))
  where
    by : (l : Looked) → (serve_as l side p number ask).answer ≡ Some answer → IsTrue (is_refusal answer)
        → (serve_as l side p number ask).side ≡ record side { served = (serve_as l side p number ask).side.served }
    by Fresh is refused =
        let d : Decision = decide side.home side.locks p ask in
        let told : d.answer ≡ answer = cc in
        let same = refused-unchanged side.home side.locks p ask (rw told refused) in
        let calls : List (Call Answer) = with_call (record { proc = p; number = number; body = d.answer }) side.served in
        ap (λ (h : HomeState). record { home = h; locks = d.locks; served = calls }) same.0
        ∙ ap (λ (t : Table). record { home = side.home; locks = t; served = calls }) same.1
    by Again is refused = refl
    by Old is refused = refl

-- the last call of another process stays
pub others-served : (side : HomeSide) (p q : ProcName) (number : ℕ) (ask : Ask) → same_proc p q ≡ false → call_of q (serve_of side p number ask).side.served ≡ call_of q side.served
others-served side p q number ask other = by (looked number (last_of p side.served))
  where
    by : (l : Looked) → call_of q (serve_as l side p number ask).side.served ≡ call_of q side.served
    by Fresh =
        let call : Call Answer = record { proc = p; number = number; body = (decide side.home side.locks p ask).answer } in
        call_of-with_call call side.served q ∙ rw other refl
    by Again = refl
    by Old = refl

-- what another process holds stays, where nothing is removed
others-grant : (home : HomeState) (locks : Table) (p q : ProcName) (ask : Ask) (u : ObjectName) → is_remove ask ≡ false → same_proc q p ≡ false
    → grant_of q u (decide home locks p ask).locks.grants ≡ grant_of q u locks.grants
others-grant home locks p q (Ask.PageIn v page) u kept other = refl
others-grant home locks p q (Ask.PageOut v page grant base bytes) u kept other = refl
others-grant home locks p q (Ask.AttrOut v length grant base) u kept other = refl
others-grant home locks p q (Ask.Lock v mode) u kept other = by (is_some (attr_of home v) && is_none (conflict_of p v mode locks.grants))
  where
    by : (b : Bool) → grant_of q u (if b then with_grant (record { uid = v; proc = p; mode = mode }) locks else locks).grants ≡ grant_of q u locks.grants
    by true = grant_of-with q u (record { row = record { uid = v; proc = p; mode = mode }; number = locks.last + 1 }) locks.grants ∙ rw other refl
    by false = refl
others-grant home locks p q (Ask.Unlock v) u kept other = grant_of-without q p u v locks.grants ∙ rw other refl
others-grant home locks p q (Ask.Remove v) u kept other = absurd cc
others-grant home locks p q (Ask.Make kind room) u kept other = refl
others-grant home locks p q (Ask.ListLocks after) u kept other = refl

pub others-held : (side : HomeSide) (p q : ProcName) (number : ℕ) (ask : Ask) (u : ObjectName) → is_remove ask ≡ false → same_proc q p ≡ false
    → grant_of q u (serve_of side p number ask).side.locks.grants ≡ grant_of q u side.locks.grants
others-held side p q number ask u kept other = by (looked number (last_of p side.served))
  where
    by : (l : Looked) → grant_of q u (serve_as l side p number ask).side.locks.grants ≡ grant_of q u side.locks.grants
    by Fresh = others-grant side.home side.locks p q ask u kept other
    by Again = refl
    by Old = refl
