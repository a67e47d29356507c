-- A desk all whose rooms, lengths and pages lie within a room stays so, and asks nothing above it.
use Rattle.std.proofs.Common.{◌≡◌, ℕ, ◌+◌, ◌*◌, ◌≤◌, ◌<◌, Bool, true, false, List, [], length, Option, Some, None, IfSome, sym, subst, arith}
use Rattle.std.specs.Prelude.{◌/◌, ◌==◌, nat_lt, if◌then◌else◌}
use Rattle.std.proofs.lemmas.Bool.Decides.{nat_tests}
use Rattle.std.proofs.lemmas.Option.{same_Some}
use Rattle.uid_names.specs.Names.{ObjectName, same_uid}
use Rattle.uid_names.specs.Each.{EachOf}
use Rattle.uid_names.specs.declared.limits.TheConstants.{PAGE_BYTES}
use Rattle.page_cache.specs.Caches.{Resident, is_page, page_at}
use Rattle.ring_messages.specs.Bodies.{Answer, body_of_ask, body_of_answer}
use Rattle.ring_messages.specs.Ranges.{LiesWithin}
use Rattle.fault_handler.specs.declared.lengths.Known.{Known}
use Rattle.fault_handler.specs.declared.tasks.Work.{Work}
use Rattle.fault_handler.specs.declared.tasks.Work.TheVariants.{Load, Store}
use Rattle.fault_handler.specs.declared.tasks.Task.{Task}
use Rattle.fault_handler.specs.Lengths.{known_of, room_of, length_of, changed_in, changed_length, grown, grown_if, sent_if, sent_length, known_after, with_known}
use Rattle.fault_handler.specs.Tasks.{page_of, start_of, size_of}
use Rattle.fault_handler.specs.Changes.{known_sent}
use Rattle.fault_handler.specs.Desks.{DeskState, at, put_at, task_of, moving_of}
use Rattle.fault_handler.specs.Outcomes.{Turn, Moved}
use Rattle.fault_handler.specs.Accesses.{DeskOp, Always}
use Rattle.fault_handler.specs.PageReplies.{PageAnswer}
use Rattle.fault_handler.specs.LockCalls.{LockCall, LockAnswer, lock_answer}
use Rattle.fault_handler.specs.Invariant.{IsProc, IsDesk}
use Rattle.fault_handler.proofs.Fours.{each-put}
use Rattle.fault_handler.proofs.KnownRows.{known_of-with_known}
use Rattle.fault_handler.proofs.PageLists.{found-page}
use Rattle.lock_validate.specs.Releases.{release_ask}
use Rattle.lock_validate.specs.Causes.{Cause, comes_of, MayCome}
use Rattle.lock_validate.specs.Loading.{Does}
use Rattle.lock_validate.specs.DeskMoves.{Change, DeskMoves}
use Rattle.lock_validate.specs.Turns.{Says, IsMade}
use Rattle.lock_validate.specs.Bounded.{IsKnownWithin, IsBounded, IsToldWithin, AsksWithin, StaysWithin}
use Rattle.lock_validate.proofs.DeskStays.{moves-desk}
use Rattle.lock_validate.proofs.EachCall.{comes_of-made}
use Rattle.lock_validate.proofs.EachPage.{each-find, change-pages}
use Rattle.lock_validate.proofs.Facts.{Always-then}
use Rattle.lock_validate.proofs.PageSaid.{open_task_of, answer-task}

-- where some bytes end within a room, their page lies in it; and the other way
page-below : (offset n room : ℕ) → 1 ≤ n → offset + n ≤ PAGE_BYTES * room → offset / PAGE_BYTES < room
page-below offset n room least within = omega arith

end-below : (task : Task) (n room : ℕ) → page_of task < room → start_of task + n ≤ PAGE_BYTES → task.offset + n ≤ PAGE_BYTES * room
end-below task n room page within = omega (arith, page, within)

module _ (room : ℕ) where
  -- ---- what is known

  abbrev IsRow : Option Known → Type 0
  IsRow o = IfSome o (IsKnownWithin room)

  length-low : (o : Option Known) → IsRow o → length_of o ≤ PAGE_BYTES * room
  length-low None is = omega arith
  length-low (Some k) is = is.length

  room-low : (o : Option Known) → IsRow o → room_of o ≤ room
  room-low None is = omega arith
  room-low (Some k) is = is.room

  grown-within : (end : ℕ) → end ≤ PAGE_BYTES * room → (k : Known) → IsKnownWithin room k → IsKnownWithin room (grown end k)
  grown-within end low k is = by (nat_lt k.length end)
    where
      by : (b : Bool) → IsKnownWithin room (grown_if b end k)
      by true = record { room = is.room; length = low }
      by false = is

  sent-within : (n : ℕ) (k : Known) → IsKnownWithin room k → IsKnownWithin room (sent_length n k)
  sent-within n k is = by (k.length == n)
    where
      by : (b : Bool) → IsKnownWithin room (sent_if b k)
      by true = record { room = is.room; length = is.length }
      by false = is

  -- a row was set
  row-within : (row : Known) (rows : List Known) → IsKnownWithin room row → ((u : ObjectName) → IsRow (known_of u rows)) → (u : ObjectName) → IsRow (known_of u (with_known row rows))
  row-within row rows new are u = subst (λ (o : Option Known). IsRow o) (sym (known_of-with_known row rows u)) (by (same_uid u row.uid))
    where
      by : (b : Bool) → IsRow (if b then Some row else known_of u rows)
      by true = new
      by false = are u

  -- a row was changed, where it was there
  after-within : (change : Known → Known) → ((k : Known) → IsKnownWithin room k → IsKnownWithin room (change k)) → (o : Option Known) (rows : List Known) → IsRow o → ((u : ObjectName) → IsRow (known_of u rows))
      → (u : ObjectName) → IsRow (known_of u (known_after change o rows))
  after-within change keeps None rows is are = are
  after-within change keeps (Some k) rows is are = row-within (change k) rows (keeps k is) are

  known_sent-within : (taken : Bool) (v : ObjectName) (n : ℕ) (rows : List Known) → ((u : ObjectName) → IsRow (known_of u rows)) → (u : ObjectName) → IsRow (known_of u (known_sent taken v n rows))
  known_sent-within true v n rows are = after-within (sent_length n) (sent-within n) (known_of v rows) rows (are v) are
  known_sent-within false v n rows are = are

  -- ---- a load or store

  -- what an answer tells, and the load or store with which it goes on
  abbrev IsCauseWithin : Cause → Type 0
  IsCauseWithin (Cause.PageCame a) = page_of (open_task_of a) < room
  IsCauseWithin (Cause.AnswerCame a) = IsToldWithin room (Cause.AnswerCame a)
  IsCauseWithin (Cause.Accesses op) = Unit {0}
  IsCauseWithin (Cause.Locks u m) = Unit {0}
  IsCauseWithin (Cause.Releases delete u) = Unit {0}
  IsCauseWithin (Cause.AccessFailed t) = Unit {0}
  IsCauseWithin (Cause.CallFailed call) = Unit {0}

  size-load : (task : Task) (count : ℕ) → task.work ≡ Load count → 1 ≤ size_of task.work → 1 ≤ count
  size-load task count is some = subst (λ (w : Work). 1 ≤ size_of w) is some

  size-store : (task : Task) (bytes : List ℕ) → task.work ≡ Store bytes → 1 ≤ size_of task.work → 1 ≤ length bytes
  size-store task bytes is some = subst (λ (w : Work). 1 ≤ size_of w) is some

  -- its page lies within the room
  does-within : (c : Cause) (p : ℕ) (d : DeskState) (task : Task) → IsCauseWithin c → ((u : ObjectName) → IsRow (known_of u d.known)) → Does c p d task → page_of task < room
  does-within (Cause.Accesses (DeskOp.Loads spot count)) p d task told known does =
      let past = does.given.2 in
      let low = length-low (known_of task.uid d.known) (known task.uid) in
      let within : task.offset + count ≤ length_of (known_of task.uid d.known) = grind (arith, nat_tests, past) in
      page-below task.offset count room (size-load task count does.given.1 does.allowed.range.some) (omega (arith, within, low))
  does-within (Cause.Accesses (DeskOp.Stores spot bytes)) p d task told known does =
      let past = does.given.2 in
      let low = room-low (known_of task.uid d.known) (known task.uid) in
      let within : task.offset + length bytes ≤ PAGE_BYTES * room_of (known_of task.uid d.known) = grind (arith, nat_tests, past) in
      page-below task.offset (length bytes) room (size-store task bytes does.given.1 does.allowed.range.some) (omega (arith, within, low))
  does-within (Cause.Accesses (DeskOp.Measures u)) p d task told known does = absurd does.given
  does-within (Cause.Accesses (DeskOp.Maps u)) p d task told known does = absurd does.given
  does-within (Cause.Accesses (DeskOp.Unmaps u)) p d task told known does = absurd does.given
  does-within (Cause.PageCame (PageAnswer.Came t stamp bytes)) p d task told known does = subst (λ (a : Task). page_of a < room) (sym does.given) told
  does-within (Cause.PageCame (PageAnswer.Taken t r stamp)) p d task told known does = subst (λ (a : Task). page_of a < room) (sym does.given) told
  does-within (Cause.PageCame (PageAnswer.NotTaken t r stamp)) p d task told known does = subst (λ (a : Task). page_of a < room) (sym does.given) told
  does-within (Cause.Locks u m) p d task told known does = absurd does.given
  does-within (Cause.Releases delete u) p d task told known does = absurd does.given
  does-within (Cause.AnswerCame a) p d task told known does = absurd does.given
  does-within (Cause.AccessFailed t) p d task told known does = absurd does.given
  does-within (Cause.CallFailed call) p d task told known does = absurd does.given

  -- a page that comes is that of the load or store
  came-within : (c : Cause) → IsCauseWithin c → (d : DeskState) (task : Task) (stamp : ℕ) (bytes : List ℕ) → c ≡ Cause.PageCame (PageAnswer.Came task stamp bytes) → page_of task < room
  came-within c told d task stamp bytes is = subst (λ (x : Cause). IsCauseWithin x) is told

  -- ---- a change

  module _ (c : Cause) (told : IsCauseWithin c) (turn : Turn) (p : ℕ) (proc : IsProc p) where
    change-known : (d e : DeskState) (dropped : List (ObjectName × ℕ)) → Change c turn p d e dropped → ((u : ObjectName) → IsRow (known_of u d.known)) → (u : ObjectName) → IsRow (known_of u e.known)
    change-known d e dropped (Change.grows task bytes does work ends) are =
        let inside = subst (λ (w : Work). start_of task + size_of w ≤ PAGE_BYTES) work does.allowed.range.within in
        after-within (grown (task.offset + length bytes)) (grown-within (task.offset + length bytes) (end-below task (length bytes) room (does-within c p d task told are does) inside)) (known_of task.uid d.known) d.known (are task.uid) are
    change-known d e dropped (Change.length_settles v n delete taken stamp given idle writes) are = known_sent-within taken v n d.known are
    change-known d e dropped (Change.learns v m grant stamp given_room n given alone none fresh is_room is_length) are =
        let low : (given_room ≤ room) × (n ≤ PAGE_BYTES * room) = subst (λ (x : Cause). IsCauseWithin x) given told in
        row-within (record { uid = v; room = given_room; length = n; changed = false }) d.known (record { room = low.0; length = low.1 }) are
    change-known d e dropped change are = are

    abbrev AreTasks : List (Option Task) → Type 0
    AreTasks tasks = (q : ℕ) → IsProc q → IfSome (at tasks q None) (λ (task : Task). page_of task < room)

    put-task : (tasks : List (Option Task)) (new : Option Task) → length tasks ≡ 4 → IfSome new (λ (task : Task). page_of task < room) → AreTasks tasks → AreTasks (put_at tasks p new)
    put-task tasks new four here are = each-put (λ q o. IfSome o (λ (task : Task). page_of task < room)) tasks p new None four proc here (λ q other differs. are q other)

    change-tasks : (d e : DeskState) (dropped : List (ObjectName × ℕ)) → IsDesk d → Change c turn p d e dropped → ((u : ObjectName) → IsRow (known_of u d.known)) → AreTasks d.tasks → AreTasks e.tasks
    change-tasks d e dropped desk (Change.fetches task does missing frame asks) known are = put-task d.tasks (Some task) desk.four.tasks (does-within c p d task told known does) are
    change-tasks d e dropped desk (Change.evicts task r does missing full clean there dirty calm asks) known are = put-task d.tasks (Some task) desk.four.tasks (does-within c p d task told known does) are
    change-tasks d e dropped desk (Change.arrives task stamp bytes reply given fetches seen whole ends) known are = put-task d.tasks None desk.four.tasks tt are
    change-tasks d e dropped desk (Change.loses task t given fetches) known are = put-task d.tasks None desk.four.tasks tt are
    change-tasks d e dropped desk (Change.settles_room task r taken given makes) known are = put-task d.tasks None desk.four.tasks tt are
    change-tasks d e dropped desk change known are = are

    change-bounded : (d e : DeskState) (dropped : List (ObjectName × ℕ)) → IsDesk d → Change c turn p d e dropped → IsBounded room d → IsBounded room e
    change-bounded d e dropped desk change is = record {
      known = change-known d e dropped change is.known;
      pages = change-pages (λ u k. k < room) c turn p (λ f task stamp bytes given range. came-within c told f task stamp bytes given) d e dropped change is.pages;
      tasks = change-tasks d e dropped desk change is.known is.tasks;
    }

    moves-bounded : (d e : DeskState) (dropped : List (ObjectName × ℕ)) → IsDesk d → DeskMoves c turn p d e dropped → IsBounded room d → IsBounded room e
    moves-bounded d e dropped desk DeskMoves.none is = is
    moves-bounded d e dropped desk (DeskMoves.next {e = f} before change) is = change-bounded f e [] (moves-desk c turn p proc d f dropped desk before) change (moves-bounded d f dropped desk before is)
    moves-bounded d e dropped desk (DeskMoves.dropping {e = f} before change) is = change-bounded f e dropped (moves-desk c turn p proc d f [] desk before) change (moves-bounded d f [] desk before is)

  -- ---- what is asked

  there-within : (pages : List Resident) (u : ObjectName) (k : ℕ) (r : Resident) → EachOf (λ (r : Resident). r.page < room) pages → page_at pages u k ≡ Some r → r.page < room
  there-within pages u k r each found = subst (λ (o : Option Resident). IfSome o (λ (r : Resident). r.page < room)) found (each-find (λ u k. k < room) (is_page u k) pages each)

  changed-within : (o : Option Known) (n : ℕ) → IsRow o → changed_length o ≡ Some n → n ≤ PAGE_BYTES * room
  changed-within None n is found = absurd (cc)
  changed-within (Some k) n is found = by k.changed found
    where
      by : (b : Bool) → changed_in b k.length ≡ Some n → n ≤ PAGE_BYTES * room
      by true found = let same : k.length ≡ n = same_Some k.length n found in subst (λ (i : ℕ). i ≤ PAGE_BYTES * room) same is.length
      by false found = absurd (cc)

  gives_up-within : (delete : Bool) (u : ObjectName) → LiesWithin room (body_of_ask (release_ask delete u))
  gives_up-within true u = tt
  gives_up-within false u = tt

  said-within : (d : DeskState) (p : ℕ) (proc : IsProc p) (e : DeskState) (c : Cause) (turn : Turn) → IsBounded room e → Says d p e c turn → AsksWithin room turn
  said-within d p proc e c turn is (Says.asks_page cause task given fetches) = subst (λ (o : Option Task). IfSome o (λ (a : Task). page_of a < room)) fetches.opened (is.tasks p proc)
  said-within d p proc e c turn is (Says.sends_room cause task r given makes) = there-within e.cache.pages r.uid r.page r is.pages makes.sends.there
  said-within d p proc e c turn is (Says.sends_page cause delete u k r given opened sends) = subst (λ (i : ℕ). i < room) (found-page e.cache.pages u k r sends.there) (there-within e.cache.pages u k r is.pages sends.there)
  said-within d p proc e c turn is (Says.sends_length cause delete u n given opened changed) = changed-within (known_of u e.known) n (is.known u) changed
  said-within d p proc e c turn is (Says.asks_lock u m opened) = tt
  said-within d p proc e c turn is (Says.gives_up cause delete u given opened may settled) = gives_up-within delete u
  said-within d p proc e c turn is says = tt

  -- ---- each call

  cause-within : (d : DeskState) (p : ℕ) (proc : IsProc p) (c : Cause) → MayCome d p c → IsBounded room d → IsToldWithin room c → IsCauseWithin c
  cause-within d p proc (Cause.PageCame a) may is told =
      subst (λ (o : Option Task). IfSome o (λ (task : Task). page_of task < room)) (answer-task d.cache.pages (task_of d p) (moving_of d p) may.answer a may.says) (is.tasks p proc)
  cause-within d p proc (Cause.AnswerCame a) may is told = told
  cause-within d p proc (Cause.Accesses op) may is told = tt
  cause-within d p proc (Cause.Locks u m) may is told = tt
  cause-within d p proc (Cause.Releases delete u) may is told = tt
  cause-within d p proc (Cause.AccessFailed t) may is told = tt
  cause-within d p proc (Cause.CallFailed call) may is told = tt

  pub comes_of-bounded : (d : DeskState) (p : ℕ) (c : Cause) → IsDesk d → IsProc p → MayCome d p c → IsBounded room d → IsToldWithin room c → Always p (StaysWithin room) (comes_of d p c)
  comes_of-bounded d p c desk proc may is told = Always-then p (IsMade c p d) (StaysWithin room) follows (comes_of d p c) (comes_of-made d p c desk proc may)
    where
      follows : (m : Moved) → IsMade c p d m → StaysWithin room m
      follows m made =
          let after = moves-bounded c (cause-within d p proc c may is told) m.turn p proc d m.desk m.dropped desk made.moves is in
          record { desk = after; asks = said-within d p proc m.desk c m.turn after made.says }

  -- what a grant in a frame tells
  pub grant-told : (call : LockCall) (answer : Answer) (a : LockAnswer) → LiesWithin room (body_of_answer answer) → lock_answer call answer ≡ Some a → IsToldWithin room (Cause.AnswerCame a)
  grant-told (LockCall.Lock u m) (Answer.Granted grant stamp kind given n) a low says = subst (λ (b : LockAnswer). IsToldWithin room (Cause.AnswerCame b)) (same_Some (LockAnswer.Granted u m grant stamp given n) a says) low
  grant-told (LockCall.Lock u m) (Answer.Conflict q held) a low says = subst (λ (b : LockAnswer). IsToldWithin room (Cause.AnswerCame b)) (same_Some (LockAnswer.Refused q held) a says) tt
  grant-told (LockCall.Lock u m) Answer.NoObject a low says = subst (λ (b : LockAnswer). IsToldWithin room (Cause.AnswerCame b)) (same_Some (LockAnswer.Gone u) a says) tt
  grant-told (LockCall.PageOut u k delete) (Answer.Stored stamp) a low says = subst (λ (b : LockAnswer). IsToldWithin room (Cause.AnswerCame b)) (same_Some (LockAnswer.PageSettled u delete true stamp) a says) tt
  grant-told (LockCall.PageOut u k delete) (Answer.Stale stamp) a low says = subst (λ (b : LockAnswer). IsToldWithin room (Cause.AnswerCame b)) (same_Some (LockAnswer.PageSettled u delete false stamp) a says) tt
  grant-told (LockCall.AttrOut u n delete) (Answer.Stored stamp) a low says = subst (λ (b : LockAnswer). IsToldWithin room (Cause.AnswerCame b)) (same_Some (LockAnswer.LengthSettled u n delete true stamp) a says) tt
  grant-told (LockCall.AttrOut u n delete) (Answer.Stale stamp) a low says = subst (λ (b : LockAnswer). IsToldWithin room (Cause.AnswerCame b)) (same_Some (LockAnswer.LengthSettled u n delete false stamp) a says) tt
  grant-told (LockCall.Unlock u) Answer.Done a low says = subst (λ (b : LockAnswer). IsToldWithin room (Cause.AnswerCame b)) (same_Some (LockAnswer.Released u) a says) tt
  grant-told (LockCall.Remove u) Answer.Done a low says = subst (λ (b : LockAnswer). IsToldWithin room (Cause.AnswerCame b)) (same_Some (LockAnswer.Removed u) a says) tt
  grant-told call answer a low says = absurd (cc)
