-- A lock that begins, and an unlock or a removal that begins or goes on, are moves.
use Rattle.std.proofs.Common.{◌≡◌, ℕ, ◌<◌, nat_le, Bool, true, false, [], length, Option, Some, None, refl, sym, ap, ◌∙◌, arith}
use Rattle.std.proofs.lemmas.Bool.Decides.{nat_tests}
use Rattle.uid_names.specs.Names.{ObjectName}
use Rattle.uid_names.specs.declared.limits.TheConstants.{PROCESS_LOCKS}
use Rattle.uid_names.specs.declared.mode.Mode.{Mode}
use Rattle.uid_names.proofs.Somes.{there_is}
use Rattle.dom_history.specs.declared.op.Reply.{Reply}
use Rattle.dom_history.specs.Locks.{is_free, is_held, is_unsettled}
use Rattle.dom_history.specs.Replies.{may_write, may_delete}
use Rattle.page_cache.specs.Caches.{Resident, page_at}
use Rattle.page_cache.specs.Numbers.{dirty_page}
use Rattle.page_cache.proofs.PageLemmas.{IsResident-dirty}
use Rattle.ring_messages.specs.Bodies.{Ask}
use Rattle.fault_handler.specs.ShownPages.{as_sent}
use Rattle.fault_handler.specs.Entries.{grant_in}
use Rattle.fault_handler.specs.Lengths.{known_of, changed_length}
use Rattle.fault_handler.specs.Transits.{going}
use Rattle.fault_handler.specs.Desks.{DeskState, IsNode, is_node, entry_at, entries_of, state_of, other_transit, base_of}
use Rattle.fault_handler.specs.Changes.{with_call, with_note, with_sent_page}
use Rattle.fault_handler.specs.Accesses.{own_page_out}
use Rattle.fault_handler.specs.Outcomes.{Turn}
use Rattle.fault_handler.specs.LockCalls.{LockCall, open_call}
use Rattle.fault_handler.specs.Invariant.{IsProc, IsDesk}
use Rattle.fault_handler.specs.Conditions.{IsIdle}
use Rattle.fault_handler.specs.Ready.{ReleaseStands}
use Rattle.fault_handler.proofs.Fours.{at-put_same}
use Rattle.fault_handler.proofs.PageLists.{page_at-changed_same}
use Rattle.fault_handler.proofs.Nothing.{none-dirty, none-moved, none-changed}
use Rattle.fault_handler.proofs.Beginning.{keeps-writes}
use Rattle.lock_validate.specs.Steps.{sent}
use Rattle.lock_validate.specs.Locking.{lock_by, begin_lock_of}
use Rattle.lock_validate.specs.Releases.{release_call, release_ask, bytes_in, length_first, page_first, transit_first, release_of, unlock_by, delete_by, begin_release_of}
use Rattle.lock_validate.proofs.Entries.{state-noted, release-stands}
use Rattle.lock_validate.proofs.Releasing.{is_node-is, there-node}
use Rattle.lock_validate.proofs.States.{writes-held, held-there, neither-free, deletes-writes, keeps_writing-writes}
use Rattle.lock_validate.specs.Causes.{Cause}
use Rattle.lock_validate.specs.Settled.{IsSettled}
use Rattle.lock_validate.specs.Releasing.{releasing_in, IsReleasing}
use Rattle.lock_validate.specs.DeskMoves.{Change, DeskMoves}
use Rattle.lock_validate.specs.Refusals.{Refuses}
use Rattle.lock_validate.specs.Turns.{Says, IsMade}
use Rattle.lock_validate.proofs.AccessMoves.{refused-made}
use Rattle.lock_validate.proofs.DirtyPages.{lowest-dirty}

-- d is the desk before the call, and g that on which the tests are made
module _ (c : Cause) (p : ℕ) (d g : DeskState) (u : ObjectName) (moves : (turn : Turn) → DeskMoves c turn p d g []) (proc : IsProc p) (desk : IsDesk g) (idle : IsIdle g p) where
  -- a release or a removal is noted and asked for
  noted-made : (delete : Bool) → releasing_in c ≡ Some (delete, u) → is_held (state_of g p u) ≡ true → (delete ≡ true → may_delete (state_of g p u) ≡ true)
      → (may_write (state_of g p u) ≡ true → IsSettled g p u) → IsMade c p d (sent (with_note g p u) p (release_call delete u) u.home (release_ask delete u))
  noted-made delete given held may settled = record {
    may = tt;
    moves = DeskMoves.next (DeskMoves.next (moves _) (Change.notes delete u given idle held may settled refl)) (opened delete given);
    says = Says.gives_up c delete u given (at-put_same g.calls p (Some (open_call (release_call delete u))) None desk.four.calls proc)
        (λ e. ap may_delete (state-noted g p u desk proc) ∙ may e)
        (λ writes. let all = settled (sym (ap may_write (state-noted g p u desk proc)) ∙ writes) in record { clean = all.clean; still = all.still; length = all.length });
  }
    where
      stands : ReleaseStands (with_note g p u) p u
      stands = let s = release-stands g p u desk proc None held idle in record { there = s.there; noted = s.noted; still = s.still; others = s.others }

      opened : (b : Bool) → releasing_in c ≡ Some (b, u) → Change c (Turn.Asks u.home (release_ask b u)) p (with_note g p u) (with_call (with_note g p u) p (Some (open_call (release_call b u)))) []
      opened true e = Change.opens (LockCall.Remove u) (release_ask true u) e idle.no_call (stands, ap is_held (state-noted g p u desk proc) ∙ held) (there-node g p u desk proc idle (held-there (state_of g p u) held)) refl
      opened false e = Change.opens (LockCall.Unlock u) (release_ask false u) e idle.no_call stands (there-node g p u desk proc idle (held-there (state_of g p u) held)) refl

  -- what is sent home first
  module _ (delete : Bool) (releasing : IsReleasing c p g delete u) where
    held : is_held (state_of g p u) ≡ true
    held = writes-held (state_of g p u) (keeps_writing-writes (entry_at g.entries p u) releasing.writes)

    node : IsNode g.nodes u.home
    node = there-node g p u desk proc idle (held-there (state_of g p u) held)

    length_first-made : (o : Option ℕ) → changed_length (known_of u g.known) ≡ o → dirty_page g.cache.pages u ≡ None → other_transit g.moving p u ≡ None → IsMade c p d (length_first g p u delete o)
    length_first-made (Some n) found clean still = record {
      may = tt;
      moves = DeskMoves.next (moves _) (Change.opens (LockCall.AttrOut u n delete) (Ask.AttrOut u n (grant_in (entry_at g.entries p u)) (base_of g.seen u)) (releasing.given, found) idle.no_call (record { writes = releasing.writes; may = releasing.may; others = idle.keeping }, idle.no_page) node refl);
      says = Says.sends_length c delete u n releasing.given (at-put_same g.calls p (Some (open_call (LockCall.AttrOut u n delete))) None desk.four.calls proc) found;
    }
    length_first-made None found clean still =
        noted-made delete releasing.given held releasing.may
        (λ writes. record { clean = none-dirty g.cache.pages u clean; still = none-moved g.moving p u still; length = none-changed (known_of u g.known) found })

    page_sent-made : (k : ℕ) (r : Resident) → page_at g.cache.pages u k ≡ Some r → dirty_page g.cache.pages u ≡ Some k → other_transit g.moving p u ≡ None
        → IsMade c p d (sent (with_sent_page g p u k) p (LockCall.PageOut u k delete) u.home (own_page_out g p u k r.bytes))
    page_sent-made k r there found still = record {
      may = tt;
      moves = DeskMoves.next (DeskMoves.next (moves _) (Change.sends delete u k r releasing still found there (rw there at (lowest-dirty g.cache.pages u k desk.pages.once found)) refl))
          (Change.opens (LockCall.PageOut u k delete) (own_page_out g p u k r.bytes) releasing.given idle.no_call (record { writes = releasing.writes; may = releasing.may; others = idle.keeping }, at-put_same g.moving p (going u k) None desk.four.moving proc) node refl);
      says = Says.sends_page c delete u k (as_sent r) releasing.given (at-put_same g.calls p (Some (open_call (LockCall.PageOut u k delete))) None desk.four.calls proc) (record {
        moves = at-put_same g.moving p (going u k) None desk.four.moving proc;
        there = rw (page_at-changed_same u k as_sent (λ v j s. refl) g.cache.pages, there) refl;
      });
    }

    page_first-made : (o : Option ℕ) → dirty_page g.cache.pages u ≡ o → other_transit g.moving p u ≡ None → IsMade c p d (page_first g p u delete o)
    page_first-made None found still = length_first-made (changed_length (known_of u g.known)) refl found still
    page_first-made (Some k) found still =
        let r = there_is (page_at g.cache.pages u k) (IsResident-dirty g.cache.pages u k found) in
        rw (ap bytes_in r.1) (page_sent-made k r.0 r.1 found still)

    transit_first-made : (o : Option ℕ) → other_transit g.moving p u ≡ o → IsMade c p d (transit_first g p u delete o)
    transit_first-made None found = page_first-made (dirty_page g.cache.pages u) refl found
    transit_first-made (Some k) found = record { moves = moves _; says = Says.waits_to_release c delete u k releasing found; may = tt }

    pub release_of-made : IsMade c p d (release_of g p u delete)
    release_of-made = transit_first-made (other_transit g.moving p u) refl

module _ (d : DeskState) (p : ℕ) (u : ObjectName) (is : IsDesk d) (proc : IsProc p) (idle : IsIdle d p) where
  lock_by-made : (m : Mode) (held unsettled full at_node : Bool) → is_held (state_of d p u) ≡ held → is_unsettled (state_of d p u) ≡ unsettled → nat_le PROCESS_LOCKS (length (entries_of d p)) ≡ full
      → is_node d.nodes u.home ≡ at_node → IsMade (Cause.Locks u m) p d (lock_by d p u m held unsettled full at_node)
  lock_by-made m true unsettled full at_node h s f n = refused-made (Cause.Locks u m) p d Reply.AlreadyHeld (Refuses.lock_held u m h)
  lock_by-made m false true full at_node h s f n = refused-made (Cause.Locks u m) p d Reply.Unsettled (Refuses.lock_unsettled u m h s)
  lock_by-made m false false true at_node h s f n = refused-made (Cause.Locks u m) p d Reply.TooMany (Refuses.lock_full u m (neither-free (state_of d p u) h s) f)
  lock_by-made m false false false false h s f n = refused-made (Cause.Locks u m) p d Reply.NoObject (Refuses.lock_elsewhere u m (neither-free (state_of d p u) h s) f n)
  lock_by-made m false false false true h s f n = record {
    may = tt;
    moves = DeskMoves.next DeskMoves.none (Change.opens (LockCall.Lock u m) (Ask.Lock u m) refl idle.no_call (record { free = neither-free (state_of d p u) h s; room = room; node = node; still = idle.no_page; others = idle.keeping }) node refl);
    says = Says.asks_lock u m (at-put_same d.calls p (Some (open_call (LockCall.Lock u m))) None is.four.calls proc);
  }
    where
      room : length (entries_of d p) < PROCESS_LOCKS
      room = grind (arith, nat_tests, f)

      node : IsNode d.nodes u.home
      node = is_node-is d.nodes u.home n

  pub begin_lock_of-made : (m : Mode) → IsMade (Cause.Locks u m) p d (begin_lock_of d p u m)
  begin_lock_of-made m = lock_by-made m (is_held (state_of d p u)) (is_unsettled (state_of d p u)) (nat_le PROCESS_LOCKS (length (entries_of d p))) (is_node d.nodes u.home) refl refl refl refl

  -- the desk on which the process writes the object
  begins-made : (delete : Bool) → is_held (state_of d p u) ≡ true → may_write (state_of d p u) ≡ true → (delete ≡ true → may_delete (state_of d p u) ≡ true) → IsMade (Cause.Releases delete u) p d (release_of d p u delete)
  begins-made delete held writes may =
      release_of-made (Cause.Releases delete u) p d d u (λ turn. DeskMoves.none) proc is idle delete
      (record { given = refl; idle = idle; writes = keeps-writes (entry_at d.entries p u) (idle.keeping u held) writes; may = may })

  unlock_by-made : (free held writes : Bool) → is_free (state_of d p u) ≡ free → is_held (state_of d p u) ≡ held → may_write (state_of d p u) ≡ writes → IsMade (Cause.Releases false u) p d (unlock_by d p u free held writes)
  unlock_by-made true held writes f h w = refused-made (Cause.Releases false u) p d Reply.NotHeld (Refuses.unlock_free u f)
  unlock_by-made false true true f h w = begins-made false h w (λ e. absurd (cc))
  unlock_by-made false true false f h w =
      noted-made (Cause.Releases false u) p d d u (λ turn. DeskMoves.none) proc is idle false refl h (λ e. absurd (cc)) (λ writes. absurd (let e : true ≡ false = sym writes ∙ w in cc))
  unlock_by-made false false writes f h w = record {
    may = tt;
    moves = DeskMoves.next DeskMoves.none (Change.opens (LockCall.Unlock u) (Ask.Unlock u) refl idle.no_call (record { there = f; noted = λ held. absurd (let e : true ≡ false = sym held ∙ h in cc); still = idle.no_page; others = λ v differs. idle.keeping v }) (there-node d p u is proc idle f) refl);
    says = Says.gives_up (Cause.Releases false u) false u refl (at-put_same d.calls p (Some (open_call (LockCall.Unlock u))) None is.four.calls proc) (λ e. absurd (cc))
        (λ writes. absurd (let e : true ≡ false = sym (writes-held (state_of d p u) writes) ∙ h in cc));
  }

  delete_by-made : (held may : Bool) → is_held (state_of d p u) ≡ held → may_delete (state_of d p u) ≡ may → IsMade (Cause.Releases true u) p d (delete_by d p u held may)
  delete_by-made false may h m = refused-made (Cause.Releases true u) p d Reply.NoLock (Refuses.delete_unheld u h)
  delete_by-made true false h m = refused-made (Cause.Releases true u) p d Reply.WrongMode (Refuses.delete_mode u h m)
  delete_by-made true true h m = begins-made true h (deletes-writes (state_of d p u) m) (λ e. m)

  pub begin_release_of-made : (delete : Bool) → IsMade (Cause.Releases delete u) p d (begin_release_of d p delete u)
  begin_release_of-made true = delete_by-made (is_held (state_of d p u)) (may_delete (state_of d p u)) refl refl
  begin_release_of-made false = unlock_by-made (is_free (state_of d p u)) (is_held (state_of d p u)) (may_write (state_of d p u)) refl refl refl
