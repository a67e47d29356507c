-- A copy of an answer wants memory only for a page and for a list, whose decisions leave the objects and the locks.
use Rattle.std.proofs.Common.{◌≡◌, ℕ, ◌==◌, List, ◌∙◌, sym, subst, refl}
use Rattle.std.specs.Prelude.{Bool, true, false, IsTrue, IsSome, IfSome, Option, Some, None, Result, Ok, Err, OnErr, is_some}
use Rattle.std.proofs.lemmas.Bool.{false≢true}
use Rattle.uid_names.specs.Names.{ProcName, ObjectName}
use Rattle.uid_names.specs.declared.mode.Mode.{Mode}
use Rattle.object_store.specs.declared.attributes.Attr.{Attr}
use Rattle.object_store.specs.Rules.{has_page, has_length, stamp_of}
use Rattle.object_store.specs.HomeStates.{HomeState, attr_of}
use Rattle.lock_manager.specs.Grants.{grant_of, conflict_of}
use Rattle.lock_manager.specs.Tables.{Table}
use Rattle.ring_messages.specs.declared.body.Body.{Body}
use Rattle.ring_messages.specs.Bodies.{Ask, Answer, ask_of, body_of_answer, copy_wants}
use Rattle.page_server.specs.Decisions.{decide, is_granted, page_answer, write_answer, lock_answer, remove_answer, make_answer, may_remove}
use Rattle.page_server.specs.Wants.{is_page, decision_wants}

-- what the copy of an answer wants
abbrev wants_copy : Answer → Bool
wants_copy answer = copy_wants (body_of_answer answer)

page-copied : (there : Bool) (stamp : ℕ) (bytes : List ℕ) → IsTrue (wants_copy (page_answer there stamp bytes)) → IsTrue (is_page (page_answer there stamp bytes))
page-copied false stamp bytes wants = wants
page-copied true stamp bytes wants = wants

write-copied : (there granted current : Bool) (stamp : ℕ) → wants_copy (write_answer there granted current stamp) ≡ false
write-copied false granted current stamp = refl
write-copied true false current stamp = refl
write-copied true true false stamp = refl
write-copied true true true stamp = refl

lock-copied : (attr : Option Attr) (conflict : Option (ProcName × Mode)) (grant : ℕ) → wants_copy (lock_answer attr conflict grant) ≡ false
lock-copied None conflict grant = refl
lock-copied (Some attr) (Some (holder, held)) grant = refl
lock-copied (Some attr) None grant = refl

remove-copied : (there held : Bool) → wants_copy (remove_answer there held) ≡ false
remove-copied false held = refl
remove-copied true false = refl
remove-copied true true = refl

make-copied : (fits : Bool) (u : ObjectName) → wants_copy (make_answer fits u) ≡ false
make-copied false u = refl
make-copied true u = refl

-- what wants no memory does not want it
unwanted : {X : Type 0} {b : Bool} → b ≡ false → IsTrue b → X
unwanted not wants = absurd (false≢true (sym not ∙ wants))

-- where the copy of a decision's answer wants memory, the decision left all, and may want memory itself
copied-unchanged : (home : HomeState) (locks : Table) (p : ProcName) (ask : Ask) → IsTrue (wants_copy (decide home locks p ask).answer)
    → ((decide home locks p ask).home ≡ home) × ((decide home locks p ask).locks ≡ locks) × IsTrue (decision_wants ask locks (decide home locks p ask).answer)
copied-unchanged home locks p (Ask.PageIn u page) wants = (refl, refl, page-copied (has_page (attr_of home u) page) _ _ wants)
copied-unchanged home locks p (Ask.PageOut u page grant base bytes) wants =
    unwanted (write-copied (has_page (attr_of home u) page) (is_granted locks grant u p.node) (base == stamp_of (attr_of home u)) (stamp_of (attr_of home u))) wants
copied-unchanged home locks p (Ask.AttrOut u length grant base) wants =
    unwanted (write-copied (has_length (attr_of home u) length) (is_granted locks grant u p.node) (base == stamp_of (attr_of home u)) (stamp_of (attr_of home u))) wants
copied-unchanged home locks p (Ask.Lock u mode) wants = unwanted (lock-copied (attr_of home u) (conflict_of p u mode locks.grants) _) wants
copied-unchanged home locks p (Ask.Unlock u) wants = absurd (false≢true wants)
copied-unchanged home locks p (Ask.Remove u) wants = unwanted (remove-copied (is_some (attr_of home u)) (may_remove (grant_of p u locks.grants))) wants
copied-unchanged home locks p (Ask.Make kind room) wants = unwanted (make-copied _ _) wants
copied-unchanged home locks p (Ask.ListLocks after) wants = (refl, refl, refl)

-- a decision on what is asked may want memory
abbrev pub MayWant : HomeState → Table → ProcName → Ask → Type 0
MayWant home locks p ask = IsTrue (decision_wants ask locks (decide home locks p ask).answer)

-- the same of what is asked, if anything is
pub asked-unchanged : (asked : Option Ask) → IsSome asked → (home : HomeState) (locks : Table) (p : ProcName) (answer : Answer) (after : HomeState) (left : Table)
    → IfSome asked (λ ask. answer ≡ (decide home locks p ask).answer)
    → IfSome asked (λ ask. after ≡ (decide home locks p ask).home)
    → IfSome asked (λ ask. left ≡ (decide home locks p ask).locks)
    → IsTrue (copy_wants (body_of_answer answer))
    → (after ≡ home) × (left ≡ locks) × IfSome asked (λ ask. IsTrue (decision_wants ask locks (decide home locks p ask).answer))
asked-unchanged None some home locks p answer after left is at_home at_locks wants = absurd (false≢true some)
asked-unchanged (Some ask) some home locks p answer after left is at_home at_locks wants =
    let same = copied-unchanged home locks p ask (subst (λ (a : Answer). IsTrue (copy_wants (body_of_answer a))) is wants) in
    (at_home ∙ same.0, at_locks ∙ same.1, same.2)

-- what is said of what a body asks, and of who asks
pub said-as : (P : ProcName → Ask → Type 0) (b body : Body) (p q : ProcName) → b ≡ body → p ≡ q → IfSome (ask_of b) (P p) → IfSome (ask_of body) (P q)
said-as P b body p q same caller said = subst (λ (x : Body). IfSome (ask_of x) (P q)) same (subst (λ (r : ProcName). IfSome (ask_of b) (P r)) caller said)

-- nothing is said of what is asked
pub nothing-said : {X : Type 0} (asked : Option X) → IfSome asked (λ _. Unit {0})
nothing-said None = tt
nothing-said (Some x) = tt

-- what is said anyway is said of what is asked
pub each-said : {X P : Type 0} (asked : Option X) → P → IfSome asked (λ _. P)
each-said None holds = tt
each-said (Some x) holds = holds

-- and of a failure
pub failed-says : {X T E : Type 0} (P : X → Type 0) (r : Result T E) (asked : Option X) → IfSome asked P → IfSome asked (λ x. OnErr r (P x))
failed-says P (Ok y) None said = tt
failed-says P (Ok y) (Some x) said = tt
failed-says P (Err e) None said = tt
failed-says P (Err e) (Some x) said = said
