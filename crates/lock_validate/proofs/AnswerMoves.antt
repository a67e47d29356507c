-- A lock, an unlock or a removal that goes on with its home's answer is moves, and so is the end of its call by a link fault.
use Rattle.std.proofs.Common.{◌≡◌, ℕ, ◌≤◌, Bool, true, false, [], Some, None, IsSome, refl, sym, ap, subst, ◌∙◌, arith}
use Rattle.std.proofs.lemmas.Bool.Decides.{nat_tests}
use Rattle.uid_names.specs.Names.{ObjectName, same_uid}
use Rattle.uid_names.specs.declared.mode.Mode.{Mode}
use Rattle.uid_names.proofs.Somes.{there_is}
use Rattle.dom_history.specs.declared.deed.LockState.{LockState}
use Rattle.dom_history.specs.declared.deed.LockState.TheVariants.{Free, Held, Taking, Releasing, Deleting}
use Rattle.dom_history.specs.declared.op.Reply.TheVariants.{Fine, Conflict, Kept, Doubt}
use Rattle.dom_history.specs.Locks.{is_held, mode_at_home}
use Rattle.page_cache.specs.Caches.{page_at}
use Rattle.version_stamps.proofs.LookUps.{stamp_of-without_stamp}
use Rattle.fault_handler.specs.Entries.{entry_of, state_in, keeps, entries_after}
use Rattle.fault_handler.specs.Lengths.{known_of, sent_length}
use Rattle.fault_handler.specs.Transits.{going}
use Rattle.fault_handler.specs.Desks.{DeskState, IsNode, entries_of, entry_at, state_of, moving_of, open_call_of, any_keeps}
use Rattle.fault_handler.specs.Changes.{known_sent, with_call, with_state, with_page_done, with_length_done, with_raised}
use Rattle.fault_handler.specs.LockCalls.{LockCall, LockAnswer, open_call}
use Rattle.fault_handler.specs.Outcomes.{Turn}
use Rattle.fault_handler.specs.Invariant.{IsProc, IsDesk}
use Rattle.fault_handler.specs.Conditions.{IsIdle}
use Rattle.fault_handler.specs.Ready.{IsReady, CallStands, LockStands, WriterStands, ReleaseStands}
use Rattle.fault_handler.proofs.Fours.{at-put_same}
use Rattle.fault_handler.proofs.PageLists.{page_at-without_object_same}
use Rattle.fault_handler.proofs.LockKeeps.{entry_after, entry_of-after_same}
use Rattle.fault_handler.proofs.TransitKeeps.{keeps_writing-keeps, going-resident}
use Rattle.lock_validate.specs.Answers.{dropped_of, removed, answered, answer_came_of}
use Rattle.lock_validate.specs.Faults.{failed, call_failed_of}
use Rattle.lock_validate.proofs.Dropping.{unkept-before}
use Rattle.lock_validate.proofs.Standing.{closed-stands, call-stands}
use Rattle.lock_validate.proofs.States.{free-unheld, unheld-unkept, released-unkept}
use Rattle.lock_validate.specs.Causes.{Cause, IsLockAnswer}
use Rattle.lock_validate.specs.Releasing.{IsPageSettled}
use Rattle.lock_validate.specs.Told.{state_set}
use Rattle.lock_validate.specs.Calls.{Closes}
use Rattle.lock_validate.specs.DeskMoves.{Change, DeskMoves}
use Rattle.lock_validate.specs.Turns.{Says, IsMade}
use Rattle.lock_validate.proofs.DeskStays.{moves-desk}
use Rattle.lock_validate.proofs.Facts.{answer-may, known-kept, node-there}
use Rattle.lock_validate.proofs.GrantMoves.{granted-made, gone-made}
use Rattle.lock_validate.proofs.LockSaid.{IsClosed, answer-closes, known-after}
use Rattle.lock_validate.proofs.ReleaseMoves.{release_of-made}

module _ (d : DeskState) (p : ℕ) (is : IsDesk d) (proc : IsProc p) where
  -- the desk on which the call is closed
  abbrev shut : DeskState
  shut = with_call d p None

  shut-call : open_call_of shut p ≡ None
  shut-call = at-put_same d.calls p None None is.four.calls proc

  -- the state that was set
  state-set : (u : ObjectName) (s : LockState) → is_held s ≡ false → state_of (with_state shut p u s 0) p u ≡ s
  state-set u s unheld =
      ap state_in (ap (entry_of u) (at-put_same d.entries p (entries_after u s 0 (entries_of d p)) [] is.four.entries proc) ∙ entry_of-after_same u s 0 (entries_of d p)) ∙ by_state s
    where
      by_state : (s : LockState) → state_in (entry_after u s 0) ≡ s
      by_state Free = refl
      by_state (Held m) = refl
      by_state (Taking m) = refl
      by_state (Releasing m) = refl
      by_state Deleting = refl

  module _ (c : Cause) (turn : Turn) where
    shut-moves : (call : LockCall) → Closes c call → open_call_of d p ≡ Some (open_call call) → CallStands d p call → DeskMoves c turn p d shut []
    shut-moves call closes opened stands = DeskMoves.next DeskMoves.none (Change.closes call closes opened stands)

    -- the page that was sent before a release is on its way no more
    page_done-moves : (u : ObjectName) (k : ℕ) (delete taken : Bool) → IsPageSettled c u taken → DeskMoves c turn p d shut [] → WriterStands d p u delete → moving_of d p ≡ going u k → DeskMoves c turn p d (with_page_done shut p taken) []
    page_done-moves u k delete taken given moves stands goes =
        let there = there_is (page_at d.cache.pages u k) (going-resident d p is proc u k goes).0 in
        DeskMoves.next moves (Change.page_settles u k there.0 taken given shut-call (record { moves = goes; there = there.1 }) stands.writes stands.others)

    -- a state is set that is not Held: of an object on which the process is Free, or whose release it noted
    set-moves : (call : LockCall) (u : ObjectName) (s : LockState) → state_set shut p c ≡ Some (call, u, s, 0) → is_held s ≡ false → DeskMoves c turn p d shut [] → CallStands d p call → moving_of d p ≡ None
        → keeps (entry_at d.entries p u) ≡ false → IsNode d.nodes u.home → DeskMoves c turn p d (with_state shut p u s 0) []
    set-moves call u s given unheld moves stands still unkept node =
        DeskMoves.next moves (Change.sets call u s 0 (record {
          given = given;
          closed = shut-call;
          still = still;
          stood = closed-stands d p call stands;
          unkept = unkept;
          seen = λ held. absurd (let e : true ≡ false = sym held ∙ unheld in cc);
          least = λ held. absurd (let e : true ≡ false = sym held ∙ unheld in cc);
          node = node;
        }))

    lock-moves : (u : ObjectName) (m : Mode) (s : LockState) → state_set shut p c ≡ Some (LockCall.Lock u m, u, s, 0) → is_held s ≡ false → DeskMoves c turn p d shut [] → LockStands d p u → DeskMoves c turn p d (with_state shut p u s 0) []
    lock-moves u m s given unheld moves stands =
        set-moves (LockCall.Lock u m) u s given unheld moves stands stands.still (unheld-unkept (entry_at d.entries p u) (free-unheld (state_of d p u) stands.free)) stands.node

    release-moves : (call : LockCall) (u : ObjectName) (s : LockState) → state_set shut p c ≡ Some (call, u, s, 0) → is_held s ≡ false → DeskMoves c turn p d shut [] → CallStands d p call → ReleaseStands d p u
        → DeskMoves c turn p d (with_state shut p u s 0) []
    release-moves call u s given unheld moves stands release =
        set-moves call u s given unheld moves stands release.still (released-unkept (entry_at d.entries p u) release.noted) (node-there d p u is proc release.there)

  -- the tests of a release are made anew
  module _ (u : ObjectName) (delete taken : Bool) (stamp : ℕ) (least : 1 ≤ stamp) (stands : WriterStands d p u delete) where
    kept : keeps (entry_at d.entries p u) ≡ true
    kept = keeps_writing-keeps (entry_at d.entries p u) stands.writes

    page-made : (k : ℕ) → moving_of d p ≡ going u k → ((turn : Turn) → DeskMoves (Cause.AnswerCame (LockAnswer.PageSettled u delete taken stamp)) turn p d shut [])
        → IsMade (Cause.AnswerCame (LockAnswer.PageSettled u delete taken stamp)) p d (answered shut p (LockAnswer.PageSettled u delete taken stamp))
    page-made k goes moves =
        let c = Cause.AnswerCame (LockAnswer.PageSettled u delete taken stamp) in
        let g = with_raised (with_page_done shut p taken) u stamp in
        let idle : IsIdle g p = record { no_call = shut-call; no_page = at-put_same d.moving p None None is.four.moving proc; keeping = stands.others } in
        let moved : (turn : Turn) → DeskMoves c turn p d g [] = λ turn. DeskMoves.next (page_done-moves c turn u k delete taken (refl, refl) (moves turn) stands goes) (Change.raises u stamp refl least (known-kept d p is proc u kept) tt) in
        release_of-made c p d g u moved proc (moves-desk c (Turn.Ends Fine) p proc d g [] is (moved (Turn.Ends Fine))) idle delete
        (record { given = refl; idle = idle; writes = stands.writes; may = stands.may })

    length-made : (n : ℕ) → moving_of d p ≡ None → ((turn : Turn) → DeskMoves (Cause.AnswerCame (LockAnswer.LengthSettled u n delete taken stamp)) turn p d shut [])
        → IsMade (Cause.AnswerCame (LockAnswer.LengthSettled u n delete taken stamp)) p d (answered shut p (LockAnswer.LengthSettled u n delete taken stamp))
    length-made n still moves =
        let c = Cause.AnswerCame (LockAnswer.LengthSettled u n delete taken stamp) in
        let g = with_raised (with_length_done shut u n taken) u stamp in
        let idle : IsIdle g p = record { no_call = shut-call; no_page = still; keeping = stands.others } in
        let moved : (turn : Turn) → DeskMoves c turn p d g [] = λ turn. DeskMoves.next (DeskMoves.next (moves turn) (Change.length_settles u n delete taken stamp refl (record { no_call = shut-call; no_page = still; keeping = stands.others }) stands.writes))
        (Change.raises u stamp refl least (known-sent taken (known-kept d p is proc u kept)) tt) in
        release_of-made c p d g u moved proc (moves-desk c (Turn.Ends Fine) p proc d g [] is (moved (Turn.Ends Fine))) idle delete
        (record { given = refl; idle = idle; writes = stands.writes; may = stands.may })
      where
        known-sent : (b : Bool) → IsSome (known_of u d.known) → IsSome (known_of u (known_sent b u n d.known))
        known-sent true known = known-after (sent_length n) (known_of u d.known) d.known u known
        known-sent false known = known

  -- the object was removed
  removed-made : (u : ObjectName) → keeps (entry_at d.entries p u) ≡ false → DeskMoves (Cause.AnswerCame (LockAnswer.Removed u)) (Turn.Ends Fine) p d (with_state shut p u Free 0) [] → (keeping : Bool)
      → any_keeps (with_state shut p u Free 0).entries u ≡ keeping → IsMade (Cause.AnswerCame (LockAnswer.Removed u)) p d (removed (with_state shut p u Free 0) u keeping)
  removed-made u unkept moves true e = record {
    moves = moves;
    says = Says.answers (LockAnswer.Removed u) Fine refl (record {
      free = state-set u Free refl;
      pages = λ none k. absurd (let h : true ≡ false = sym e ∙ none in cc);
      seen = λ none. absurd (let h : true ≡ false = sym e ∙ none in cc);
    });
    may = tt;
  }
  removed-made u unkept moves false e = record {
    moves = DeskMoves.next (DeskMoves.dropping moves (Change.drops_all u (LockAnswer.Removed u) refl refl e e)) (Change.forgets u refl e (page_at-without_object_same d.cache.pages u));
    says = Says.answers (LockAnswer.Removed u) Fine refl (record {
      free = state-set u Free refl;
      pages = λ none. page_at-without_object_same d.cache.pages u;
      seen = λ none. let own : same_uid u u ≡ true = grind (arith, nat_tests) in rw (stamp_of-without_stamp u d.seen u, own) refl;
    });
    may = answer-may d p (LockAnswer.Removed u) (dropped_of true (with_state shut p u Free 0) u) (unkept-before d p u unkept proc e);
  }

  answered-made : (a : LockAnswer) (call : LockCall) → IsClosed d p a call → ((turn : Turn) → DeskMoves (Cause.AnswerCame a) turn p d shut []) → IsMade (Cause.AnswerCame a) p d (answered shut p a)
  answered-made (LockAnswer.Granted u m grant stamp room n) call at_call moves =
      let stands = closed-stands d p (LockCall.Lock u m) (subst (CallStands d p) at_call.closes at_call.stands) in
      granted-made d p is.known u m grant stamp room n moves shut-call stands at_call.told.0 at_call.told.1 at_call.told.2 at_call.told.3 is.four.entries proc
  answered-made (LockAnswer.Refused q held) call at_call moves = record { moves = moves _; says = Says.answers (LockAnswer.Refused q held) (Conflict q held) refl tt; may = tt }
  answered-made (LockAnswer.Gone u) call at_call moves = gone-made d p is.known u moves (any_keeps d.entries u) refl
  answered-made (LockAnswer.PageSettled u delete taken stamp) call at_call moves =
      let stands = subst (CallStands d p) at_call.closes.1 at_call.stands in page-made u delete taken stamp at_call.told stands.0 at_call.closes.0 stands.1 moves
  answered-made (LockAnswer.LengthSettled u n delete taken stamp) call at_call moves =
      let stands = subst (CallStands d p) at_call.closes at_call.stands in length-made u delete taken stamp at_call.told stands.0 n stands.1 moves
  answered-made (LockAnswer.Released u) call at_call moves =
      let stands = subst (CallStands d p) at_call.closes at_call.stands in
      record {
        moves = release-moves (Cause.AnswerCame (LockAnswer.Released u)) (Turn.Ends Fine) (LockCall.Unlock u) u Free refl refl (moves _) stands stands;
        says = Says.answers (LockAnswer.Released u) Fine refl (state-set u Free refl);
        may = tt;
      }
  answered-made (LockAnswer.Removed u) call at_call moves =
      let stands = subst (CallStands d p) at_call.closes at_call.stands in
      removed-made u (released-unkept (entry_at d.entries p u) stands.0.noted)
      (release-moves (Cause.AnswerCame (LockAnswer.Removed u)) (Turn.Ends Fine) (LockCall.Remove u) u Free refl refl (moves _) stands stands.0) (any_keeps (with_state shut p u Free 0).entries u) refl

  pub answer_came_of-made : (a : LockAnswer) → IsLockAnswer d p a → IsMade (Cause.AnswerCame a) p d (answer_came_of d p a)
  answer_came_of-made a came =
      let at_call = answer-closes d p a is proc came in
      answered-made a came.call at_call (λ turn. shut-moves (Cause.AnswerCame a) turn came.call at_call.closes at_call.opened at_call.stands)

  -- a link fault ended the call
  failed-made : (call : LockCall) → CallStands d p call → ((turn : Turn) → DeskMoves (Cause.CallFailed call) turn p d shut []) → IsMade (Cause.CallFailed call) p d (failed shut p call)
  failed-made (LockCall.Lock u m) stands moves = record {
    moves = lock-moves (Cause.CallFailed (LockCall.Lock u m)) (Turn.Ends Doubt) u m (Taking m) refl refl (moves _) stands;
    says = Says.call_fails (LockCall.Lock u m) (state-set u (Taking m) refl);
    may = tt;
  }
  failed-made (LockCall.PageOut u k delete) stands moves = record {
    moves = page_done-moves (Cause.CallFailed (LockCall.PageOut u k delete)) (Turn.Ends Kept) u k delete false (refl, refl) (moves _) stands.0 stands.1;
    says = Says.call_fails (LockCall.PageOut u k delete) refl;
    may = tt;
  }
  failed-made (LockCall.AttrOut u n delete) stands moves = record { moves = moves _; says = Says.call_fails (LockCall.AttrOut u n delete) refl; may = tt }
  failed-made (LockCall.Unlock u) stands moves = record {
    moves = release-moves (Cause.CallFailed (LockCall.Unlock u)) (Turn.Ends Doubt) (LockCall.Unlock u) u (Releasing (mode_at_home (state_of shut p u))) refl refl (moves _) stands stands;
    says = Says.call_fails (LockCall.Unlock u) (state-set u (Releasing (mode_at_home (state_of shut p u))) refl);
    may = tt;
  }
  failed-made (LockCall.Remove u) stands moves = record {
    moves = release-moves (Cause.CallFailed (LockCall.Remove u)) (Turn.Ends Doubt) (LockCall.Remove u) u Deleting refl refl (moves _) stands stands.0;
    says = Says.call_fails (LockCall.Remove u) (state-set u Deleting refl);
    may = tt;
  }

  pub call_failed_of-made : (call : LockCall) → IsReady d p → open_call_of d p ≡ Some (open_call call) → IsMade (Cause.CallFailed call) p d (call_failed_of d p call)
  call_failed_of-made call ready opened =
      let stands = call-stands d p is proc ready call opened in
      failed-made call stands (λ turn. shut-moves (Cause.CallFailed call) turn call refl opened stands)
