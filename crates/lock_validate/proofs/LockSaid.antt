-- What a home's answer to a lock, an unlock or a removal closes, and its ranges.
use Rattle.std.proofs.Common.{◌≡◌, ℕ, ◌≤◌, Bool, true, false, List, Option, Some, None, IsSome, refl, subst, arith}
use Rattle.std.specs.Prelude.{if◌then◌else◌}
use Rattle.std.proofs.lemmas.Option.{same_Some}
use Rattle.std.proofs.lemmas.Bool.Decides.{nat_tests}
use Rattle.uid_names.specs.Names.{ObjectName, same_uid}
use Rattle.uid_names.specs.Rooms.{IsRoom, IsLength}
use Rattle.ring_messages.specs.Bodies.{Answer, body_of_answer}
use Rattle.ring_messages.specs.Ranges.{IsBody}
use Rattle.fault_handler.specs.declared.lengths.Known.{Known}
use Rattle.fault_handler.specs.Lengths.{known_of, with_known, known_after}
use Rattle.fault_handler.specs.Desks.{DeskState, open_call_of}
use Rattle.fault_handler.specs.LockCalls.{LockCall, LockAnswer, open_call, lock_answer}
use Rattle.fault_handler.specs.Ready.{CallStands}
use Rattle.fault_handler.specs.Invariant.{IsProc, IsDesk}
use Rattle.fault_handler.proofs.KnownRows.{known_of-with_known}
use Rattle.lock_validate.proofs.Standing.{call-stands}
use Rattle.lock_validate.specs.Causes.{Cause, IsLockAnswer}
use Rattle.lock_validate.specs.Calls.{Closes}

-- the ranges of what an answer says
abbrev pub AreTold : LockAnswer → Type 0
AreTold (LockAnswer.Granted u m grant stamp room length) = (1 ≤ grant) × (1 ≤ stamp) × IsRoom room × IsLength length
AreTold (LockAnswer.PageSettled u delete taken stamp) = 1 ≤ stamp
AreTold (LockAnswer.LengthSettled u length delete taken stamp) = 1 ≤ stamp
AreTold a = Unit {0}

module _ (to : ℕ) (a : LockAnswer) where
  lock-said : (call : LockCall) (answer : Answer) → IsBody to (body_of_answer answer) → lock_answer call answer ≡ Some a → Closes (Cause.AnswerCame a) call × AreTold a
  lock-said (LockCall.Lock u m) (Answer.Granted grant stamp kind room length) range says =
      subst (λ (b : LockAnswer). Closes (Cause.AnswerCame b) (LockCall.Lock u m) × AreTold b) (same_Some (LockAnswer.Granted u m grant stamp room length) a says) (refl, (range.0, range.1, range.2, range.3))
  lock-said (LockCall.Lock u m) (Answer.Conflict q held) range says =
      subst (λ (b : LockAnswer). Closes (Cause.AnswerCame b) (LockCall.Lock u m) × AreTold b) (same_Some (LockAnswer.Refused q held) a says) ((u, m, refl), tt)
  lock-said (LockCall.Lock u m) Answer.NoObject range says =
      subst (λ (b : LockAnswer). Closes (Cause.AnswerCame b) (LockCall.Lock u m) × AreTold b) (same_Some (LockAnswer.Gone u) a says) ((m, refl), tt)
  lock-said (LockCall.PageOut u k delete) (Answer.Stored stamp) range says =
      subst (λ (b : LockAnswer). Closes (Cause.AnswerCame b) (LockCall.PageOut u k delete) × AreTold b) (same_Some (LockAnswer.PageSettled u delete true stamp) a says) ((k, refl), range)
  lock-said (LockCall.PageOut u k delete) (Answer.Stale stamp) range says =
      subst (λ (b : LockAnswer). Closes (Cause.AnswerCame b) (LockCall.PageOut u k delete) × AreTold b) (same_Some (LockAnswer.PageSettled u delete false stamp) a says) ((k, refl), range)
  lock-said (LockCall.AttrOut u n delete) (Answer.Stored stamp) range says =
      subst (λ (b : LockAnswer). Closes (Cause.AnswerCame b) (LockCall.AttrOut u n delete) × AreTold b) (same_Some (LockAnswer.LengthSettled u n delete true stamp) a says) (refl, range)
  lock-said (LockCall.AttrOut u n delete) (Answer.Stale stamp) range says =
      subst (λ (b : LockAnswer). Closes (Cause.AnswerCame b) (LockCall.AttrOut u n delete) × AreTold b) (same_Some (LockAnswer.LengthSettled u n delete false stamp) a says) (refl, range)
  lock-said (LockCall.Unlock u) Answer.Done range says =
      subst (λ (b : LockAnswer). Closes (Cause.AnswerCame b) (LockCall.Unlock u) × AreTold b) (same_Some (LockAnswer.Released u) a says) (refl, tt)
  lock-said (LockCall.Remove u) Answer.Done range says =
      subst (λ (b : LockAnswer). Closes (Cause.AnswerCame b) (LockCall.Remove u) × AreTold b) (same_Some (LockAnswer.Removed u) a says) (refl, tt)
  lock-said call answer range says = absurd (cc)

-- the call that the answer closes stands, and is open
pub record IsClosed (d : DeskState) (p : ℕ) (a : LockAnswer) (call : LockCall) : Type 0 where
  pub closes : Closes (Cause.AnswerCame a) call
  pub told : AreTold a
  pub opened : open_call_of d p ≡ Some (open_call call)
  pub stands : CallStands d p call

pub answer-closes : (d : DeskState) (p : ℕ) (a : LockAnswer) → IsDesk d → IsProc p → (came : IsLockAnswer d p a) → IsClosed d p a came.call
answer-closes d p a is proc came =
    let said = lock-said d.node a came.call came.answer came.range came.says in
    record { closes = said.0; told = said.1; opened = came.opened; stands = call-stands d p is proc came.ready came.call came.opened }

-- something is known of an object after a row was set, or changed
pub known-with : (row : Known) (rows : List Known) → IsSome (known_of row.uid (with_known row rows))
known-with row rows = let own : same_uid row.uid row.uid ≡ true = grind (arith, nat_tests) in rw (known_of-with_known row rows row.uid, own) refl

pub known-after : (change : Known → Known) (o : Option Known) (rows : List Known) (u : ObjectName) → IsSome (known_of u rows) → IsSome (known_of u (known_after change o rows))
known-after change None rows u known = known
known-after change (Some k) rows u known = rw (known_of-with_known (change k) rows u) (by_test (same_uid u (change k).uid))
  where
    by_test : (b : Bool) → IsSome (if b then Some (change k) else known_of u rows)
    by_test true = refl
    by_test false = known
