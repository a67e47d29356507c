-- A load or store that goes on with its home's answer is moves, and so is the end of its call by a link fault.
use Rattle.std.proofs.Common.{◌≡◌, ℕ, ◌≤◌, nat_lt, Bool, true, false, List, [], length, Some, None, refl, sym, subst, ◌∙◌}
use Rattle.std.proofs.lemmas.Option.{same_Some}
use Rattle.uid_names.specs.Names.{ObjectName}
use Rattle.uid_names.specs.declared.limits.TheConstants.{PAGE_BYTES}
use Rattle.uid_names.proofs.Somes.{there_is}
use Rattle.page_cache.specs.Caches.{Resident, page_at}
use Rattle.fault_handler.specs.declared.tasks.Task.{Task}
use Rattle.fault_handler.specs.declared.transits.Transit.{Transit}
use Rattle.fault_handler.specs.ShownPages.{fresh_page, as_sent}
use Rattle.fault_handler.specs.Tasks.{page_of}
use Rattle.fault_handler.specs.Transits.{going}
use Rattle.fault_handler.specs.Desks.{DeskState, task_of, moving_of, base_of}
use Rattle.fault_handler.specs.Changes.{with_raised, with_arrival, with_room_settled}
use Rattle.fault_handler.specs.Outcomes.{Turn, ended}
use Rattle.fault_handler.specs.Accesses.{Always}
use Rattle.fault_handler.specs.PageReplies.{PageAnswer, page_by_stamp, room_taken, page_came_of, failed_way, access_failed_of}
use Rattle.fault_handler.specs.Invariant.{IsProc, is_dirty, IsOpenTask, IsDesk}
use Rattle.fault_handler.specs.Conditions.{IsAccessing}
use Rattle.dom_history.specs.declared.op.Reply.{Reply}
use Rattle.dom_history.specs.declared.op.Reply.TheVariants.{Fine, LinkFault}
use Rattle.fault_handler.proofs.Answering.{coming-needed, going-own}
use Rattle.fault_handler.proofs.Fours.{at-put_same}
use Rattle.fault_handler.proofs.PageLists.{page_at-changed_same, found-uid, found-page}
use Rattle.fault_handler.proofs.TransitKeeps.{open_task, going-resident}
use Rattle.lock_validate.specs.Causes.{Cause, IsPageAnswer}
use Rattle.lock_validate.specs.Loading.{Does, Fetches, MakesRoom}
use Rattle.lock_validate.specs.DeskMoves.{Change, DeskMoves}
use Rattle.lock_validate.specs.Turns.{Says, IsMade}
use Rattle.lock_validate.proofs.DeskStays.{moves-desk}
use Rattle.lock_validate.proofs.Facts.{page_at-fresh, known-kept}
use Rattle.lock_validate.proofs.PageMoves.{performed-made, page_access-made}
use Rattle.lock_validate.proofs.PageSaid.{fetches-of, makes-of, page-said, known-going, seen-raised}

module _ (d : DeskState) (p : ℕ) (is : IsDesk d) (proc : IsProc p) where
  -- the page came, and the load or store is done
  module _ (task : Task) (stamp : ℕ) (bytes : List ℕ) (fetches : Fetches p d task) (least : 1 ≤ stamp) (whole : length bytes ≡ PAGE_BYTES) where
    abbrev came : Cause
    came = Cause.PageCame (PageAnswer.Came task stamp bytes)

    abbrev raised_desk : DeskState
    raised_desk = with_raised d task.uid stamp

    abbrev arrived_desk : DeskState
    arrived_desk = with_arrival raised_desk p task.uid (page_of task) bytes

    arrived : nat_lt stamp (base_of d.seen task.uid) ≡ false → (reply : Reply) → DeskMoves came (Turn.Ends reply) p d arrived_desk []
    arrived fresh reply =
        DeskMoves.next (DeskMoves.next DeskMoves.none (Change.raises task.uid stamp refl least (known-kept d p is proc task.uid fetches.allowed.kept) tt))
        (Change.arrives task stamp bytes reply refl
        (record { accessing = fetches.accessing; opened = fetches.opened; moves = fetches.moves; absent = fetches.absent; allowed = fetches.allowed; keeping = fetches.keeping })
        (seen-raised d task.uid stamp fresh) whole refl)

    does : Does came p arrived_desk task
    does = record {
      idle = record { no_call = at-put_same d.calls p None None is.four.calls proc; no_page = at-put_same d.moving p None None is.four.moving proc; keeping = fetches.keeping };
      allowed = fetches.allowed;
      given = refl;
    }

    by_stamp-made : (old : Bool) → nat_lt stamp (base_of d.seen task.uid) ≡ old → IsMade came p d (page_by_stamp d p task stamp bytes old)
    by_stamp-made true e = record { moves = DeskMoves.none; says = Says.asks_page came task refl fetches; may = tt }
    by_stamp-made false e =
        performed-made came p d arrived_desk task (arrived e) does refl proc (moves-desk came (Turn.Ends Fine) p proc d arrived_desk [] is (arrived e Fine)) task.work (fresh_page task.uid (page_of task) bytes) refl
        (page_at-fresh task.uid (page_of task) bytes d.cache.pages)

  -- the page that made room was taken, and the load or store is made anew
  module _ (task : Task) (r : Resident) (stamp : ℕ) (room : MakesRoom p d task r) (least : 1 ≤ stamp) where
    abbrev taken : Cause
    taken = Cause.PageCame (PageAnswer.Taken task r stamp)

    taken-moves : (turn : Turn) → DeskMoves taken turn p d (room_taken d p r stamp) []
    taken-moves turn =
        DeskMoves.next (DeskMoves.next DeskMoves.none (Change.settles_room task r true (refl, refl, refl) room)) (Change.raises r.uid stamp refl least (known-going d p is proc r.uid r.page room.sends.moves) tt)

    taken-made : Always p (IsMade taken p d) (page_came_of d p (PageAnswer.Taken task r stamp))
    taken-made =
        page_access-made taken p d (room_taken d p r stamp) task taken-moves
        (record {
          idle = record { no_call = at-put_same d.calls p None None is.four.calls proc; no_page = at-put_same d.moving p None None is.four.moving proc; keeping = room.keeping };
          allowed = room.allowed;
          given = refl;
        })
        refl proc (moves-desk taken (Turn.Ends Fine) p proc d (room_taken d p r stamp) [] is (taken-moves (Turn.Ends Fine))) tt (λ v k may. may)

    -- it was not taken, and is sent again
    abbrev not_taken : Cause
    not_taken = Cause.PageCame (PageAnswer.NotTaken task r stamp)

    not_taken-made : Always p (IsMade not_taken p d) (page_came_of d p (PageAnswer.NotTaken task r stamp))
    not_taken-made = record {
      may = tt;
      moves = DeskMoves.next (DeskMoves.next DeskMoves.none (Change.raises r.uid stamp refl least (known-going d p is proc r.uid r.page room.sends.moves) tt))
          (Change.sends_again task r stamp refl (record { accessing = room.accessing; opened = room.opened; sends = record { moves = room.sends.moves; there = room.sends.there }; dirty = room.dirty; allowed = room.allowed; keeping = room.keeping }) refl);
      says = Says.sends_room not_taken task (as_sent r) refl (record {
        accessing = room.accessing;
        opened = room.opened;
        sends = record {
          moves = room.sends.moves;
          there = rw (page_at-changed_same r.uid r.page as_sent (λ v j s. refl) d.cache.pages, room.sends.there) refl;
        };
        dirty = room.dirty;
        allowed = room.allowed;
        keeping = room.keeping;
      });
    }

  pub page_came_of-made : (a : PageAnswer) → IsPageAnswer d p a → Always p (IsMade (Cause.PageCame a) p d) (page_came_of d p a)
  page_came_of-made (PageAnswer.Came task stamp bytes) came =
      let said = page-said d p is proc (PageAnswer.Came task stamp bytes) came in
      by_stamp-made task stamp bytes (fetches-of d p is proc came.accessing task said.there said.allowed said.comes) said.least said.whole (nat_lt stamp (base_of d.seen task.uid)) refl
  page_came_of-made (PageAnswer.Taken task r stamp) came =
      let said = page-said d p is proc (PageAnswer.Taken task r stamp) came in
      taken-made task r stamp (makes-of d p is proc came.accessing task said.there said.allowed r said.goes said.found said.dirty) said.least
  page_came_of-made (PageAnswer.NotTaken task r stamp) came =
      let said = page-said d p is proc (PageAnswer.NotTaken task r stamp) came in
      not_taken-made task r stamp (makes-of d p is proc came.accessing task said.there said.allowed r said.goes said.found said.dirty) said.least

  -- a link fault ended its call
  pub access_failed_of-made : (t : Transit) → IsAccessing d p → moving_of d p ≡ Some t → IsMade (Cause.AccessFailed t) p d (ended (access_failed_of d p t) LinkFault)
  access_failed_of-made t accessing moves = by_way t.inward refl
    where
      -- what it moves is the transit of the open load or store
      opened : (task : Task) × (task_of d p ≡ Some task) × IsOpenTask d.cache.pages d.entries p task t
      opened =
          let found = open_task d p is proc accessing in
          let same : found.1 ≡ t = same_Some found.1 t (sym found.3 ∙ moves) in
          (found.0, found.2, subst (λ (m : Transit). IsOpenTask d.cache.pages d.entries p found.0 m) same found.4)

      -- the page that made room is given up
      given_up : (r : Resident) (u : ObjectName) (k : ℕ) → r.uid ≡ u → r.page ≡ k → moving_of d p ≡ going u k → page_at d.cache.pages u k ≡ Some r → is_dirty (page_at d.cache.pages u k) ≡ true
          → IsMade (Cause.AccessFailed t) p d (ended (with_room_settled d p u k false) LinkFault)
      given_up r u k named numbered =
          subst (λ (v : ObjectName). moving_of d p ≡ going v k → page_at d.cache.pages v k ≡ Some r → is_dirty (page_at d.cache.pages v k) ≡ true → IsMade (Cause.AccessFailed t) p d (ended (with_room_settled d p v k false) LinkFault)) named
          (subst (λ (j : ℕ). moving_of d p ≡ going r.uid j → page_at d.cache.pages r.uid j ≡ Some r → is_dirty (page_at d.cache.pages r.uid j) ≡ true → IsMade (Cause.AccessFailed t) p d (ended (with_room_settled d p r.uid j false) LinkFault)) numbered
          (λ goes there dirty. record {
            moves = DeskMoves.next DeskMoves.none (Change.settles_room opened.0 r false refl (makes-of d p is proc accessing opened.0 opened.1 opened.2.allowed r goes there dirty));
            says = Says.access_fails t;
            may = tt;
          }))

      by_way : (b : Bool) → t.inward ≡ b → IsMade (Cause.AccessFailed t) p d (ended (failed_way d p t b) LinkFault)
      by_way true way = record {
        moves = DeskMoves.next DeskMoves.none (Change.loses opened.0 t refl (fetches-of d p is proc accessing opened.0 opened.1 opened.2.allowed (coming-needed d p is proc accessing opened.0 t opened.1 moves opened.2 way)));
        says = Says.access_fails t;
        may = tt;
      }
      by_way false way =
          let goes = going-own d p is proc accessing opened.0 t opened.1 moves opened.2 way in
          let there = there_is (page_at d.cache.pages t.uid t.page) (going-resident d p is proc t.uid t.page goes).0 in
          given_up there.0 t.uid t.page (found-uid d.cache.pages t.uid t.page there.0 there.1) (found-page d.cache.pages t.uid t.page there.0 there.1) goes there.1 (opened.2.goes way)
