-- Each outcome of a lock that begins, and of an unlock or a removal, is good.
use Rattle.std.proofs.Common.{◌≡◌, ◌≢◌, ℕ, ◌<◌, ◌≤◌, nat_le, Bool, true, false, [], length, Option, Some, None, IfSome, IsSome, refl, sym, ap, subst, ◌∙◌, arith}
use Rattle.std.specs.Prelude.{◌==◌, not, ◌&&◌}
use Rattle.std.proofs.lemmas.Bool.Decides.{nat_tests}
use Rattle.uid_names.specs.Names.{ObjectName}
use Rattle.uid_names.specs.declared.limits.TheConstants.{MAX_LENGTH, MAX_ROOM, PAGE_BYTES, PROCESS_LOCKS}
use Rattle.uid_names.specs.declared.mode.Mode.{Mode}
use Rattle.uid_names.proofs.Somes.{there_is}
use Rattle.dom_history.specs.declared.op.Op.TheVariants as ops
use Rattle.dom_history.specs.declared.op.Reply.TheVariants.{NoObject, AlreadyHeld, Unsettled, TooMany, NotHeld, NoLock, WrongMode}
use Rattle.dom_history.specs.Locks.{is_free, is_held, is_unsettled}
use Rattle.dom_history.specs.Replies.{may_write, may_delete}
use Rattle.page_cache.specs.Caches.{page_at}
use Rattle.page_cache.specs.Numbers.{dirty_page}
use Rattle.page_cache.proofs.PageLemmas.{IsResident-dirty}
use Rattle.ring_messages.specs.Bodies.{Ask}
use Rattle.fault_handler.specs.declared.lengths.Known.{Known}
use Rattle.fault_handler.specs.Entries.{keeps, keeps_writing, grant_in}
use Rattle.fault_handler.specs.Lengths.{known_of, is_changed, changed_in, changed_length}
use Rattle.fault_handler.specs.Transits.{going}
use Rattle.fault_handler.specs.Desks.{DeskState, IsNode, is_node, entry_at, entries_of, state_of, any_writes, others_write, other_transit, base_of}
use Rattle.fault_handler.specs.Changes.{with_note, with_sent_page}
use Rattle.fault_handler.specs.Accesses.{own_page_out}
use Rattle.fault_handler.specs.LockCalls.{LockCall, open_call}
use Rattle.fault_handler.specs.Invariant.{IsProc, is_dirty, IsKnown, IsDesk}
use Rattle.fault_handler.specs.Conditions.{IsIdle}
use Rattle.fault_handler.specs.Next.{release_op, MayGoOn}
use Rattle.lock_validate.specs.Steps.{sent}
use Rattle.lock_validate.specs.Locking.{lock_by, begin_lock_of}
use Rattle.lock_validate.specs.Releases.{release_call, release_ask, bytes_in, length_first, page_first, transit_first, release_of, unlock_by, begin_unlock_of, delete_by, begin_delete_of, begin_release_of}
use Rattle.fault_handler.proofs.Accessing.{base-least}
use Rattle.fault_handler.proofs.Fours.{at-put_same, any-at, any-of, apart-of}
use Rattle.fault_handler.proofs.PageLists.{found-page}
use Rattle.fault_handler.proofs.TransitKeeps.{dirty-writes, keeps_writing-keeps}
use Rattle.fault_handler.proofs.Outcomes.{IsAfter}
use Rattle.fault_handler.proofs.Beginning.{keeps-writes}
use Rattle.lock_validate.proofs.States.{writes-held, held-there, neither-free, deletes-writes, keeps_writing-writes, there-some, grant-least}
use Rattle.lock_validate.proofs.Entries.{state-noted, release-stands}
use Rattle.lock_validate.proofs.Good.{ended-good, waiting-good, sent-good}

-- a home that passes the test is a node
pub is_node-is : (nodes home : ℕ) → is_node nodes home ≡ true → IsNode nodes home
is_node-is nodes home h = (grind (arith, nat_tests, h), grind (arith, nat_tests, h))

module _ (d : DeskState) (p : ℕ) (u : ObjectName) (is : IsDesk d) (proc : IsProc p) (idle : IsIdle d p) where
  -- a lock begins
  lock_by-good : (m : Mode) (held unsettled full at_node : Bool) → is_held (state_of d p u) ≡ held → is_unsettled (state_of d p u) ≡ unsettled → nat_le PROCESS_LOCKS (length (entries_of d p)) ≡ full
      → is_node d.nodes u.home ≡ at_node → IsAfter d.node d.nodes p (ops.Lock u m) (lock_by d p u m held unsettled full at_node)
  lock_by-good m true unsettled full at_node a b c e = ended-good d d p (ops.Lock u m) refl refl AlreadyHeld [] idle refl
  lock_by-good m false true full at_node a b c e = ended-good d d p (ops.Lock u m) refl refl Unsettled [] idle refl
  lock_by-good m false false true at_node a b c e = ended-good d d p (ops.Lock u m) refl refl TooMany [] idle refl
  lock_by-good m false false false false a b c e = ended-good d d p (ops.Lock u m) refl refl NoObject [] idle refl
  lock_by-good m false false false true a b c e =
      sent-good d d p (ops.Lock u m) refl refl (LockCall.Lock u m) u.home (Ask.Lock u m) is.four.calls proc node refl refl (refl, refl)
      (record { free = neither-free (state_of d p u) a b; room = room-left; node = node; still = idle.no_page; others = idle.keeping })
    where
      room-left : length (entries_of d p) < PROCESS_LOCKS
      room-left = grind (arith, nat_tests, c)

      node : IsNode d.nodes u.home
      node = is_node-is d.nodes u.home e

  pub begin_lock_of-good : (m : Mode) → IsAfter d.node d.nodes p (ops.Lock u m) (begin_lock_of d p u m)
  begin_lock_of-good m =
      lock_by-good m (is_held (state_of d p u)) (is_unsettled (state_of d p u)) (nat_le PROCESS_LOCKS (length (entries_of d p))) (is_node d.nodes u.home) refl refl refl refl

  -- the home of an object on which the process is not Free is a node
  pub there-node : is_free (state_of d p u) ≡ false → IsNode d.nodes u.home
  there-node there = is.at_nodes.locked p proc u (there-some (entry_at d.entries p u) there)

  -- the release or the removal itself, once nothing is left to be sent home
  noted-good : (delete : Bool) → is_held (state_of d p u) ≡ true → IsAfter d.node d.nodes p (release_op delete u) (sent (with_note d p u) p (release_call delete u) u.home (release_ask delete u))
  noted-good true held =
      sent-good d (with_note d p u) p (ops.Delete u) refl refl (LockCall.Remove u) u.home (Ask.Remove u) is.four.calls proc (there-node (held-there (state_of d p u) held)) refl refl refl
      (release-stands d p u is proc (Some (open_call (LockCall.Remove u))) held idle, ap is_held (state-noted d p u is proc) ∙ held)
  noted-good false held =
      sent-good d (with_note d p u) p (ops.Unlock u) refl refl (LockCall.Unlock u) u.home (Ask.Unlock u) is.four.calls proc (there-node (held-there (state_of d p u) held)) refl refl refl
      (release-stands d p u is proc (Some (open_call (LockCall.Unlock u))) held idle)

  -- what is sent home before a release or a removal
  module _ (delete : Bool) (writes : keeps_writing (entry_at d.entries p u) ≡ true) (may : delete ≡ true → may_delete (state_of d p u) ≡ true) where
    kept : keeps (entry_at d.entries p u) ≡ true
    kept = keeps_writing-keeps (entry_at d.entries p u) writes

    held : is_held (state_of d p u) ≡ true
    held = writes-held (state_of d p u) (keeps_writing-writes (entry_at d.entries p u) writes)

    grant : 1 ≤ grant_in (entry_at d.entries p u)
    grant = grant-least (entry_at d.entries p u) held (is.entries p proc u)

    base : 1 ≤ base_of d.seen u
    base = base-least d is u (any-at (λ q. keeps (entry_at d.entries q u)) p proc kept)

    node : IsNode d.nodes u.home
    node = there-node (held-there (state_of d p u) held)

    -- a changed length is one that a frame can carry
    changed-within : (o : Option Known) (n : ℕ) → IfSome o IsKnown → changed_length o ≡ Some n → n ≤ MAX_LENGTH
    changed-within None n known found = absurd (cc)
    changed-within (Some k) n known found = by_changed k.changed found
      where
        by_changed : (b : Bool) → changed_in b k.length ≡ Some n → n ≤ MAX_LENGTH
        by_changed true found = let same : k.length ≡ n = cc in subst (λ (i : ℕ). i ≤ MAX_LENGTH) same known.length
        by_changed false found = absurd (cc)

    length_first-good : (o : Option ℕ) → changed_length (known_of u d.known) ≡ o → IsAfter d.node d.nodes p (release_op delete u) (length_first d p u delete o)
    length_first-good None found = noted-good delete held
    length_first-good (Some n) found =
        sent-good d d p (release_op delete u) refl refl (LockCall.AttrOut u n delete) u.home (Ask.AttrOut u n (grant_in (entry_at d.entries p u)) (base_of d.seen u)) is.four.calls proc node
        (refl, changed-within (known_of u d.known) n (is.known.rows u) found, grant, base)
        refl (refl, refl)
        (record { writes = writes; may = may; others = idle.keeping }, idle.no_page)

    page_first-good : (o : Option ℕ) → dirty_page d.cache.pages u ≡ o → IsAfter d.node d.nodes p (release_op delete u) (page_first d p u delete o)
    page_first-good None found = length_first-good (changed_length (known_of u d.known)) refl
    page_first-good (Some k) found =
        sent-good d (with_sent_page d p u k) p (release_op delete u) refl refl (LockCall.PageOut u k delete) u.home (own_page_out d p u k (bytes_in (page_at d.cache.pages u k))) is.four.calls proc node
        (refl, within, grant, base, whole)
        refl (refl, refl)
        (record { writes = writes; may = may; others = idle.keeping }, at-put_same d.moving p (going u k) None is.four.moving proc)
      where
        there : IsSome (page_at d.cache.pages u k)
        there = IsResident-dirty d.cache.pages u k found

        within : k < MAX_ROOM
        within =
            let r = there_is (page_at d.cache.pages u k) there in
            let shown = rw r.1 at (is.pages.each u k) in
            subst (λ (n : ℕ). n < MAX_ROOM) (found-page d.cache.pages u k r.0 r.1) shown.page

        whole : length (bytes_in (page_at d.cache.pages u k)) ≡ PAGE_BYTES
        whole =
            let r = there_is (page_at d.cache.pages u k) there in
            let shown = rw r.1 at (is.pages.each u k) in
            rw r.1 shown.bytes

    -- it may go on after a wait
    goes_on : (remove : Bool) → remove ≡ delete → MayGoOn d p (release_op remove u)
    goes_on true same = may (sym same)
    goes_on false same = held-there (state_of d p u) held

    transit_first-good : (o : Option ℕ) → IsAfter d.node d.nodes p (release_op delete u) (transit_first d p u delete o)
    transit_first-good None = page_first-good (dirty_page d.cache.pages u) refl
    transit_first-good (Some k) = waiting-good d d p (release_op delete u) refl refl u k idle (goes_on delete refl)

    pub release_of-good : IsAfter d.node d.nodes p (release_op delete u) (release_of d p u delete)
    release_of-good = transit_first-good (other_transit d.moving p u)

  -- a process that does not write leaves another that does, where a page is dirty, or a length changed
  module _ (reads : may_write (state_of d p u) ≡ false) where
    another : any_writes d.entries u ≡ true → others_write d.entries p u ≡ true
    another writes =
        let found = any-of (λ q. keeps_writing (entry_at d.entries q u)) writes in
        any-at (λ q. not (q == p) && keeps_writing (entry_at d.entries q u)) found.0 found.1 (apart-of p found.0 (keeps_writing (entry_at d.entries found.0 u)) (apart found.0 found.2) found.2)
      where
        apart : (q : ℕ) → keeps_writing (entry_at d.entries q u) ≡ true → q ≢ p
        apart q writes same =
            let own : keeps_writing (entry_at d.entries p u) ≡ true = subst (λ (r : ℕ). keeps_writing (entry_at d.entries r u) ≡ true) same writes in
            let e : true ≡ false = sym (keeps_writing-writes (entry_at d.entries p u) own) ∙ reads in
            cc

    pub dirty-another : (k : ℕ) → is_dirty (page_at d.cache.pages u k) ≡ true → others_write d.entries p u ≡ true
    dirty-another k dirty = another (dirty-writes d p is proc u k dirty)

    pub changed-another : is_changed (known_of u d.known) ≡ true → others_write d.entries p u ≡ true
    changed-another changed = another (is.lengths u changed)

  unlock_by-good : (free held writes : Bool) → is_free (state_of d p u) ≡ free → is_held (state_of d p u) ≡ held → may_write (state_of d p u) ≡ writes → IsAfter d.node d.nodes p (ops.Unlock u) (unlock_by d p u free held writes)
  unlock_by-good true held writes a b c = ended-good d d p (ops.Unlock u) refl refl NotHeld [] idle refl
  unlock_by-good false true true a b c = release_of-good false (keeps-writes (entry_at d.entries p u) (idle.keeping u b) c) (λ e. absurd (cc))
  unlock_by-good false true false a b c = noted-good false b
  unlock_by-good false false writes a b c =
      sent-good d d p (ops.Unlock u) refl refl (LockCall.Unlock u) u.home (Ask.Unlock u) is.four.calls proc (there-node a) refl refl refl
      (record { there = a; noted = λ h. absurd (cc); still = idle.no_page; others = λ v differs. idle.keeping v })

  pub begin_unlock_of-good : IsAfter d.node d.nodes p (ops.Unlock u) (begin_unlock_of d p u)
  begin_unlock_of-good = unlock_by-good (is_free (state_of d p u)) (is_held (state_of d p u)) (may_write (state_of d p u)) refl refl refl

  delete_by-good : (held may : Bool) → is_held (state_of d p u) ≡ held → may_delete (state_of d p u) ≡ may → IsAfter d.node d.nodes p (ops.Delete u) (delete_by d p u held may)
  delete_by-good false may a b = ended-good d d p (ops.Delete u) refl refl NoLock [] idle refl
  delete_by-good true false a b = ended-good d d p (ops.Delete u) refl refl WrongMode [] idle refl
  delete_by-good true true a b = release_of-good true (keeps-writes (entry_at d.entries p u) (idle.keeping u a) (deletes-writes (state_of d p u) b)) (λ e. b)

  pub begin_delete_of-good : IsAfter d.node d.nodes p (ops.Delete u) (begin_delete_of d p u)
  begin_delete_of-good = delete_by-good (is_held (state_of d p u)) (may_delete (state_of d p u)) refl refl

  -- an unlock or a removal begins, or goes on
  pub begin_release_of-good : (delete : Bool) → IsAfter d.node d.nodes p (release_op delete u) (begin_release_of d p delete u)
  begin_release_of-good true = begin_delete_of-good
  begin_release_of-good false = begin_unlock_of-good
