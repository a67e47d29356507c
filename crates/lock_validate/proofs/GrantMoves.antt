-- A lock that is granted, or whose object is gone, is moves.
use Rattle.std.proofs.Common.{◌≡◌, ℕ, ◌≤◌, Bool, true, false, [], length, Option, Some, None, IsSome, refl, sym, ap, ◌∙◌, arith}
use Rattle.std.specs.Prelude.{not, ◌&&◌, ◌==◌}
use Rattle.std.proofs.lemmas.Bool.Decides.{nat_tests}
use Rattle.std.proofs.lemmas.Bool.{not-true}
use Rattle.uid_names.specs.Names.{ObjectName, same_uid}
use Rattle.uid_names.proofs.ListLemmas.{by_cases}
use Rattle.uid_names.specs.Rooms.{IsRoom, IsLength}
use Rattle.uid_names.specs.declared.mode.Mode.{Mode}
use Rattle.uid_names.proofs.Passed.{left-true, right-true}
use Rattle.dom_history.specs.declared.deed.LockState.TheVariants.{Held}
use Rattle.dom_history.specs.declared.op.Reply.TheVariants.{Fine, NoObject}
use Rattle.version_stamps.specs.Stamps.{stamp_of, raised}
use Rattle.version_stamps.proofs.LookUps.{stamp_of-with_stamp}
use Rattle.fault_handler.specs.declared.lengths.Known.{Known}
use Rattle.page_cache.specs.Caches.{page_at}
use Rattle.fault_handler.specs.Entries.{entry_of, keeps, entries_after}
use Rattle.fault_handler.specs.Lengths.{known_of}
use Rattle.fault_handler.specs.Desks.{DeskState, entries_of, entry_at, state_of, open_call_of, others_keep, any_keeps}
use Rattle.fault_handler.specs.Changes.{with_call, with_state, with_raised}
use Rattle.fault_handler.specs.LockCalls.{LockCall, LockAnswer}
use Rattle.fault_handler.specs.Invariant.{IsProc, AreKnown}
use Rattle.fault_handler.specs.Ready.{LockStands}
use Rattle.fault_handler.specs.Outcomes.{Turn}
use Rattle.fault_handler.proofs.Fours.{at-put_same, any-at, any-of}
use Rattle.fault_handler.proofs.KnownRows.{known_of-with_known}
use Rattle.fault_handler.proofs.LockKeeps.{entry_of-after_same}
use Rattle.fault_handler.proofs.PageLists.{page_at-without_object_same}
use Rattle.lock_validate.specs.Answers.{after_drop, dropped_of, is_seen, is_fresh, known_learned, learned, granted, gone}
use Rattle.lock_validate.proofs.Dropping.{none-keeps}
use Rattle.lock_validate.proofs.States.{free-unheld, unheld-unkept}
use Rattle.lock_validate.specs.Causes.{Cause}
use Rattle.lock_validate.specs.Dropped.{MayDropPages}
use Rattle.lock_validate.specs.Told.{told_row}
use Rattle.lock_validate.specs.DeskMoves.{Change, DeskMoves}
use Rattle.lock_validate.specs.Turns.{Says, IsMade}
use Rattle.lock_validate.proofs.Facts.{answer-may}
use Rattle.lock_validate.proofs.LockSaid.{known-with}

-- a stamp was seen once it was raised
seen-is : (d : DeskState) (u : ObjectName) (stamp : ℕ) → stamp_of u (with_raised d u stamp).seen ≡ Some (raised stamp (stamp_of u d.seen))
seen-is d u stamp =
    let own : same_uid u u ≡ true = grind (arith, nat_tests) in
    rw (stamp_of-with_stamp (record { uid = u; stamp = raised stamp (stamp_of u d.seen) }) d.seen u, own) refl

seen-after : (d : DeskState) (u : ObjectName) (stamp : ℕ) → IsSome (stamp_of u (with_raised d u stamp).seen)
seen-after d u stamp = rw (seen-is d u stamp) refl

-- g is the desk on which the call is closed
module _ (d : DeskState) (p : ℕ) (are_known : AreKnown d.seen d.known d.entries) (u : ObjectName) where
  abbrev g : DeskState
  g = with_call d p None

  module _ (m : Mode) (grant stamp room n : ℕ) (moves : (turn : Turn) → DeskMoves (Cause.AnswerCame (LockAnswer.Granted u m grant stamp room n)) turn p d g []) (closed : open_call_of g p ≡ None) (stands : LockStands g p u)
      (grants : 1 ≤ grant) (least : 1 ≤ stamp) (is_room : IsRoom room) (is_length : IsLength n) where
    abbrev cause : Cause
    cause = Cause.AnswerCame (LockAnswer.Granted u m grant stamp room n)

    unkept : keeps (entry_at g.entries p u) ≡ false
    unkept = unheld-unkept (entry_at g.entries p u) (free-unheld (state_of g p u) stands.free)

    alone-keeps : not (others_keep g.entries p u) ≡ true → any_keeps g.entries u ≡ false
    alone-keeps alone = none-keeps g p u unkept (not-true (others_keep g.entries p u) alone)

    -- pages of another stamp are dropped
    dropped-moves : (b : Bool) → (not (others_keep g.entries p u) && not (is_seen stamp (stamp_of u g.seen))) ≡ b → DeskMoves cause (Turn.Ends Fine) p d (after_drop b g u) (dropped_of b g u)
    dropped-moves true e =
        let none = alone-keeps (left-true (not (others_keep g.entries p u)) (not (is_seen stamp (stamp_of u g.seen))) e) in
        DeskMoves.dropping (moves _) (Change.drops_all u (LockAnswer.Granted u m grant stamp room n) refl refl
        (none, not-true (is_seen stamp (stamp_of u g.seen)) (right-true (not (others_keep g.entries p u)) (not (is_seen stamp (stamp_of u g.seen))) e)) none)
    dropped-moves false e = moves _

    may-drop : (b : Bool) → (not (others_keep g.entries p u) && not (is_seen stamp (stamp_of u g.seen))) ≡ b → MayDropPages d p cause (dropped_of b g u)
    may-drop true e =
        answer-may d p (LockAnswer.Granted u m grant stamp room n) (dropped_of true g u)
        (alone-keeps (left-true (not (others_keep g.entries p u)) (not (is_seen stamp (stamp_of u g.seen))) e), not-true (is_seen stamp (stamp_of u g.seen)) (right-true (not (others_keep g.entries p u)) (not (is_seen stamp (stamp_of u g.seen))) e))
    may-drop false e = tt

    -- what the grant says is learned, and something is known then
    abbrev row : Known
    row = told_row u room n

    learned-moves : (b f : Bool) → (not (others_keep g.entries p u) && not (is_seen stamp (stamp_of u g.seen))) ≡ b → (not (others_keep g.entries p u) && is_fresh stamp (stamp_of u g.seen)) ≡ f
        → DeskMoves cause (Turn.Ends Fine) p d (record (after_drop b g u) { known = known_learned f row g.known }) (dropped_of b g u)
    learned-moves b true drops e =
        let alone = left-true (not (others_keep g.entries p u)) (is_fresh stamp (stamp_of u g.seen)) e in
        DeskMoves.next (dropped-moves b drops)
        (Change.learns u m grant stamp room n refl (not-true (others_keep g.entries p u) alone) (alone-keeps alone) (right-true (not (others_keep g.entries p u)) (is_fresh stamp (stamp_of u g.seen)) e) is_room is_length)
    learned-moves b false drops e = dropped-moves b drops

    -- something is known where another process keeps the object, or a stamp was seen
    known-before : (not (others_keep g.entries p u) && is_fresh stamp (stamp_of u g.seen)) ≡ false → IsSome (known_of u g.known)
    known-before e =
        by_cases
        (others_keep g.entries p u)
        (IsSome (known_of u g.known))
        (λ others.
        let found = any-of (λ q. not (q == p) && keeps (entry_at g.entries q u)) others in
        are_known.both u (are_known.kept found.0 found.1 u (right-true (not (found.0 == p)) (keeps (entry_at g.entries found.0 u)) found.2)))
        (λ alone. are_known.both u (seen-there (stamp_of u g.seen) (stale (others_keep g.entries p u) (is_fresh stamp (stamp_of u g.seen)) alone e)))
      where
        stale : (a b : Bool) → a ≡ false → (not a && b) ≡ false → b ≡ false
        stale a b h e = grind (arith, nat_tests, h, e)

        seen-there : (o : Option ℕ) → is_fresh stamp o ≡ false → IsSome o
        seen-there None h = absurd (cc)
        seen-there (Some s) h = refl

    known-learned : (f : Bool) → (not (others_keep g.entries p u) && is_fresh stamp (stamp_of u g.seen)) ≡ f → IsSome (known_of u (known_learned f row g.known))
    known-learned true e = known-with row g.known
    known-learned false e = known-before e

    -- no outdated page is left, and what is told is known
    none-else : any_keeps g.entries u ≡ false → others_keep g.entries p u ≡ false
    none-else none =
        by_cases
        (others_keep g.entries p u)
        (others_keep g.entries p u ≡ false)
        (λ others.
        let found = any-of (λ q. not (q == p) && keeps (entry_at g.entries q u)) others in
        absurd (let kept = any-at (λ q. keeps (entry_at g.entries q u)) found.0 found.1 (right-true (not (found.0 == p)) (keeps (entry_at g.entries found.0 u)) found.2) in let e : true ≡ false = sym kept ∙ none in cc))
        (λ h. h)

    left : (b : Bool) → (not (others_keep g.entries p u) && not (is_seen stamp (stamp_of u g.seen))) ≡ b → any_keeps g.entries u ≡ false → is_seen stamp (stamp_of u g.seen) ≡ false → (k : ℕ) → page_at (after_drop b g u).cache.pages u k ≡ None
    left true drops none other = page_at-without_object_same d.cache.pages u
    left false drops none other = absurd (let alone = none-else none in let h : (not (others_keep g.entries p u) && not (is_seen stamp (stamp_of u g.seen))) ≡ true = rw (alone, other) refl in let e : true ≡ false = sym h ∙ drops in cc)

    is-learned : (f : Bool) → (not (others_keep g.entries p u) && is_fresh stamp (stamp_of u g.seen)) ≡ f → any_keeps g.entries u ≡ false → is_fresh stamp (stamp_of u g.seen) ≡ true → known_of u (known_learned f row g.known) ≡ Some row
    is-learned true e none fresh = let own : same_uid u u ≡ true = grind (arith, nat_tests) in rw (known_of-with_known row g.known u, own) refl
    is-learned false e none fresh = absurd (let alone = none-else none in let h : (not (others_keep g.entries p u) && is_fresh stamp (stamp_of u g.seen)) ≡ true = rw (alone, fresh) refl in let x : true ≡ false = sym h ∙ e in cc)

    granted-by : (alone_drop alone_fresh : Bool) → (not (others_keep g.entries p u) && not (is_seen stamp (stamp_of u g.seen))) ≡ alone_drop → (not (others_keep g.entries p u) && is_fresh stamp (stamp_of u g.seen)) ≡ alone_fresh
        → DeskMoves cause (Turn.Ends Fine) p d (with_state (learned alone_fresh (after_drop alone_drop g u) u stamp room n) p u (Held m) grant) (dropped_of alone_drop g u)
    granted-by b f drops fresh =
        DeskMoves.next (DeskMoves.next (learned-moves b f drops fresh) (Change.raises u stamp refl least (known-learned f fresh) (record { pages = left b drops; known = is-learned f fresh })))
        (Change.sets (LockCall.Lock u m) u (Held m) grant (record {
          given = refl;
          closed = closed;
          still = stands.still;
          stood = record { free = stands.free; room = stands.room; node = stands.node; still = stands.still; others = stands.others };
          unkept = unkept;
          seen = λ h. seen-after (record (after_drop b g u) { known = known_learned f row g.known }) u stamp;
          least = λ h. grants;
          node = stands.node;
        }))

    pub granted-made : length d.entries ≡ 4 → IsProc p → IsMade cause p d (granted g p u m grant stamp room n (not (others_keep g.entries p u)) (stamp_of u g.seen))
    granted-made four proc = record {
      moves = granted-by (not (others_keep g.entries p u) && not (is_seen stamp (stamp_of u g.seen))) (not (others_keep g.entries p u) && is_fresh stamp (stamp_of u g.seen)) refl refl;
      says = Says.answers (LockAnswer.Granted u m grant stamp room n) Fine refl (record {
        entry = ap (entry_of u) (at-put_same d.entries p (entries_after u (Held m) grant (entries_of d p)) [] four proc) ∙ entry_of-after_same u (Held m) grant (entries_of d p);
        seen = seen-is d u stamp;
        pages = left (not (others_keep g.entries p u) && not (is_seen stamp (stamp_of u g.seen))) refl;
        known = is-learned (not (others_keep g.entries p u) && is_fresh stamp (stamp_of u g.seen)) refl;
      });
      may = may-drop (not (others_keep g.entries p u) && not (is_seen stamp (stamp_of u g.seen))) refl;
    }

  -- the object is gone
  pub gone-made : ((turn : Turn) → DeskMoves (Cause.AnswerCame (LockAnswer.Gone u)) turn p d g []) → (keeping : Bool) → any_keeps g.entries u ≡ keeping → IsMade (Cause.AnswerCame (LockAnswer.Gone u)) p d (gone g u keeping)
  gone-made moves true e = record { moves = moves _; says = Says.answers (LockAnswer.Gone u) NoObject refl (λ none k. absurd (let h : true ≡ false = sym e ∙ none in cc)); may = tt }
  gone-made moves false e = record {
    moves = DeskMoves.dropping (moves _) (Change.drops_all u (LockAnswer.Gone u) refl refl e e);
    says = Says.answers (LockAnswer.Gone u) NoObject refl (λ none. page_at-without_object_same d.cache.pages u);
    may = answer-may d p (LockAnswer.Gone u) (dropped_of true g u) e;
  }
