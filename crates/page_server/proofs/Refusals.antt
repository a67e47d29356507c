-- What is answered where a lock is refused.
use Rattle.std.proofs.Common.{◌≡◌, ◌≤◌, ℕ, refl}
use Rattle.std.proofs.lemmas.Bool.{le-leb}
use Rattle.std.specs.Prelude.{◌↔◌, Option, Some, None, is_none, Result, Ok, Err, IfOk, OnOk, OnErr, IsErr, IsTrue, ◌&&◌, nat_le, if◌then◌else◌}
use Rattle.std.proofs.lemmas.Result.{IfOk-from_err}
use Rattle.uid_names.specs.Names.{ProcName}
use Rattle.uid_names.specs.declared.mode.Mode.{Mode}
use Rattle.uid_names.specs.declared.no_memory.NoMemory.{NoMemory}
use Rattle.uid_names.proofs.Failures.{on-any, on-any-err}
use Rattle.object_store.specs.declared.attributes.Attr.{Attr}
use Rattle.lock_manager.specs.declared.locks.AskRefusal.{AskRefusal}
use Rattle.lock_manager.specs.declared.locks.AskRefusal.TheVariants as refusals
use Rattle.lock_manager.specs.Tables.{Table}
use Rattle.ring_messages.specs.Bodies.{Answer}
use Rattle.lock_manager.specs.declared.locks.TheConstants.{ROOM}
use Rattle.page_server.specs.Decisions.{lock_answer}
use Rattle.page_server.specs.Wants.{is_grant}

-- a conflict is answered, and want of memory is not
pub answer-refused : (asked : Result ℕ AskRefusal) (refusal : AskRefusal) (attr : Attr) (conflict : Option (ProcName × Mode)) (grant : ℕ) (result : Result Answer NoMemory)
    → ((holder : ProcName) (held : Mode) → refusal ≡ refusals.Conflict holder held → result ≡ Ok (Answer.Conflict holder held))
    → (refusal ≡ refusals.NoMemory → IsErr result)
    → asked ≡ Err refusal → ((holder : ProcName) (held : Mode) → (asked ≡ Err (refusals.Conflict holder held)) ↔ (conflict ≡ Some (holder, held)))
    → IfOk result (λ answer. answer ≡ lock_answer (Some attr) conflict grant)
answer-refused asked (refusals.Conflict holder held) attr conflict grant result told memory is stands =
    let found : conflict ≡ Some (holder, held) = (stands holder held).0 is in
    rw (told holder held refl, found) refl
answer-refused asked refusals.NoMemory attr conflict grant result told memory is stands =
    IfOk-from_err result (λ answer. answer ≡ lock_answer (Some attr) conflict grant) (memory refl)

-- the locks stay where a conflict is answered
pub locks-refused : (asked : Result ℕ AskRefusal) (refusal : AskRefusal) (conflict : Option (ProcName × Mode)) (result : Result Answer NoMemory) (old new granted : Table) → new ≡ old
    → (refusal ≡ refusals.NoMemory → IsErr result)
    → asked ≡ Err refusal → ((holder : ProcName) (held : Mode) → (asked ≡ Err (refusals.Conflict holder held)) ↔ (conflict ≡ Some (holder, held)))
    → OnOk result (new ≡ (if is_none conflict then granted else old))
locks-refused asked (refusals.Conflict holder held) conflict result old new granted same memory is stands =
    let found : conflict ≡ Some (holder, held) = (stands holder held).0 is in
    rw found (on-any result same)
locks-refused asked refusals.NoMemory conflict result old new granted same memory is stands =
    IfOk-from_err result (λ _. new ≡ (if is_none conflict then granted else old)) (memory refl)

-- memory is wanted only for a grant beside many
pub memory-refused : (asked : Result ℕ AskRefusal) (refusal : AskRefusal) (attr : Attr) (conflict : Option (ProcName × Mode)) (grant rows : ℕ) (result : Result Answer NoMemory)
    → ((holder : ProcName) (held : Mode) → refusal ≡ refusals.Conflict holder held → result ≡ Ok (Answer.Conflict holder held))
    → (asked ≡ Err refusals.NoMemory → ROOM ≤ rows)
    → asked ≡ Err refusal → ((holder : ProcName) (held : Mode) → (asked ≡ Err (refusals.Conflict holder held)) ↔ (conflict ≡ Some (holder, held)))
    → OnErr result (IsTrue (is_grant (lock_answer (Some attr) conflict grant) && nat_le ROOM rows))
memory-refused asked (refusals.Conflict holder held) attr conflict grant rows result told many is stands = rw (told holder held refl) tt
memory-refused asked refusals.NoMemory attr None grant rows result told many is stands = on-any-err result (le-leb ROOM rows (many is))
memory-refused asked refusals.NoMemory attr (Some held) grant rows result told many is stands =
    let other : asked ≡ Err (refusals.Conflict held.0 held.1) = (stands held.0 held.1).1 refl in
    absurd cc
