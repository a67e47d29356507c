-- Small facts that the walks share.
use Rattle.std.proofs.Common.{◌≡◌, ℕ, nat_lt, Bool, true, false, List, [], ◌∷◌, length, Option, Some, None, IsSome, refl, ap, ◌∙◌, arith}
use Rattle.std.specs.Prelude.{◌+◌, ◌*◌}
use Rattle.std.proofs.lemmas.Bool.Decides.{nat_tests}
use Rattle.uid_names.specs.Names.{ObjectName, same_uid}
use Rattle.uid_names.specs.declared.limits.TheConstants.{PAGE_BYTES}
use Rattle.uid_names.proofs.Tables.{row_of-named}
use Rattle.uid_names.proofs.Orders.{same_uid-itself}
use Rattle.dom_history.specs.declared.op.Spot.{Spot}
use Rattle.dom_history.specs.declared.op.Spot.TheVariants.{Of, Addr}
use Rattle.page_cache.specs.Caches.{Resident, is_page, page_at}
use Rattle.dom_history.specs.Locks.{is_free}
use Rattle.address_map.specs.Mappings.{mapping_at, target_in}
use Rattle.fault_handler.specs.declared.tasks.Task.{Task}
use Rattle.fault_handler.specs.declared.lengths.Known.{Known}
use Rattle.fault_handler.specs.Lengths.{known_name, known_of, room_of, length_of, grown, grown_if, known_after}
use Rattle.fault_handler.specs.ShownPages.{fresh_page}
use Rattle.fault_handler.specs.Entries.{keeps}
use Rattle.fault_handler.specs.Desks.{DeskState, IsNode, at, entry_at, state_of}
use Rattle.fault_handler.specs.Invariant.{IsProc, IsDesk}
use Rattle.fault_handler.specs.Outcomes.{Moved}
use Rattle.fault_handler.specs.Accesses.{DeskOp, Accessed, Always, target_of}
use Rattle.fault_handler.specs.PageReplies.{PageAnswer}
use Rattle.fault_handler.specs.LockCalls.{LockAnswer}
use Rattle.fault_handler.proofs.KnownRows.{known_of-with_known, uid-grown}
use Rattle.lock_validate.specs.GrantDrops.{MayDropAt}
use Rattle.lock_validate.proofs.States.{there-some}
use Rattle.lock_validate.specs.Causes.{Cause}
use Rattle.lock_validate.specs.Dropped.{MayDropPages}
use Rattle.lock_validate.specs.Loading.{IsTaskIn}

-- what follows from what always holds
pub Always-then : (p : ℕ) (P Q : Moved → Type 0) → ((m : Moved) → P m → Q m) → (a : Accessed) → Always p P a → Always p Q a
Always-then p P Q follows (Accessed.Settled m) holds = follows m holds
Always-then p P Q follows (Accessed.NeedsRoom d task) holds = λ victim may. follows _ (holds victim may)

-- a spot means the same where the mappings do
pub target_of-same : (d e : DeskState) (p : ℕ) (spot : Spot) → e.maps ≡ d.maps → target_of e p spot ≡ target_of d p spot
target_of-same d e p (Of u offset) same = refl
target_of-same d e p (Addr address) same = ap (λ maps. target_in address (mapping_at address (at maps p []))) same

-- so does the load or store that is done, where what is known of objects is the same too
pub IsTaskIn-same : (d e : DeskState) (p : ℕ) (c : Cause) (task : Task) → e.maps ≡ d.maps → e.known ≡ d.known → IsTaskIn d p c task → IsTaskIn e p c task
IsTaskIn-same d e p (Cause.Accesses (DeskOp.Loads spot count)) task maps known is =
    (target_of-same d e p spot maps ∙ is.0, is.1, ap (λ rows. nat_lt (length_of (known_of task.uid rows)) (task.offset + count)) known ∙ is.2)
IsTaskIn-same d e p (Cause.Accesses (DeskOp.Stores spot bytes)) task maps known is =
    (target_of-same d e p spot maps ∙ is.0, is.1, ap (λ rows. nat_lt (PAGE_BYTES * room_of (known_of task.uid rows)) (task.offset + length bytes)) known ∙ is.2)
IsTaskIn-same d e p (Cause.Accesses (DeskOp.Measures u)) task maps known is = is
IsTaskIn-same d e p (Cause.Accesses (DeskOp.Maps u)) task maps known is = is
IsTaskIn-same d e p (Cause.Accesses (DeskOp.Unmaps u)) task maps known is = is
IsTaskIn-same d e p (Cause.Locks u m) task maps known is = is
IsTaskIn-same d e p (Cause.Releases delete u) task maps known is = is
IsTaskIn-same d e p (Cause.PageCame (PageAnswer.Came t stamp bytes)) task maps known is = is
IsTaskIn-same d e p (Cause.PageCame (PageAnswer.Taken t r stamp)) task maps known is = is
IsTaskIn-same d e p (Cause.PageCame (PageAnswer.NotTaken t r stamp)) task maps known is = is
IsTaskIn-same d e p (Cause.AnswerCame a) task maps known is = is
IsTaskIn-same d e p (Cause.AccessFailed t) task maps known is = is
IsTaskIn-same d e p (Cause.CallFailed call) task maps known is = is

-- a page that came is found
pub page_at-fresh : (u : ObjectName) (k : ℕ) (bytes : List ℕ) (pages : List Resident) → page_at (fresh_page u k bytes ∷ pages) u k ≡ Some (fresh_page u k bytes)
page_at-fresh u k bytes pages = let here : is_page u k (fresh_page u k bytes) ≡ true = grind (arith, nat_tests) in rw here refl

-- pages that an answer drops may be dropped where some may be
pub answer-may : (d : DeskState) (p : ℕ) (a : LockAnswer) (dropped : List (ObjectName × ℕ)) → MayDropAt d a → MayDropPages d p (Cause.AnswerCame a) dropped
answer-may d p a [] may = tt
answer-may d p a (name ∷ names) may = may

-- the length after a store is that of its end at least
pub length-grown : (u : ObjectName) (end : ℕ) (rows : List Known) → IsSome (known_of u rows) → nat_lt (length_of (known_of u (known_after (grown end) (known_of u rows) rows))) end ≡ false
length-grown u end rows known = by_row (known_of u rows) refl known
  where
    long-enough : (k : Known) (b : Bool) → nat_lt k.length end ≡ b → nat_lt (grown_if b end k).length end ≡ false
    long-enough k true e = grind (arith, nat_tests)
    long-enough k false e = e

    by_row : (o : Option Known) → known_of u rows ≡ o → IsSome o → nat_lt (length_of (known_of u (known_after (grown end) o rows))) end ≡ false
    by_row None found some = absurd (cc)
    by_row (Some k) found some =
        let named : (grown end k).uid ≡ u = uid-grown end k ∙ row_of-named known_name u rows k found in
        let own : same_uid u (grown end k).uid ≡ true = rw named (same_uid-itself u) in
        rw (known_of-with_known (grown end k) rows u, own) (long-enough k (nat_lt k.length end) refl)

-- something is known of an object that a process keeps
pub known-kept : (d : DeskState) (p : ℕ) → IsDesk d → IsProc p → (u : ObjectName) → keeps (entry_at d.entries p u) ≡ true → IsSome (known_of u d.known)
known-kept d p is proc u kept = is.known.both u (is.known.kept p proc u kept)

-- the home of an object on which a process is not Free is a node
pub node-there : (d : DeskState) (p : ℕ) (u : ObjectName) → IsDesk d → IsProc p → is_free (state_of d p u) ≡ false → IsNode d.nodes u.home
node-there d p u is proc there = is.at_nodes.locked p proc u (there-some (entry_at d.entries p u) there)
