-- What a call comes to: what a reply, a request or a wait says of the desk, by what made the desk move. Of the two desks d is
-- that before the call, and e that after it.
use Rattle.std.specs.Prelude.{◌≡◌, ℕ, ◌+◌, nat_lt, Bool, true, false, Some, None, List, length, take, drop, is_some}
use Rattle.uid_names.specs.Names.{ObjectName}
use Rattle.uid_names.specs.Segments.{segments}
use Rattle.uid_names.specs.declared.mode.Mode.{Mode}
use Rattle.dom_history.specs.declared.op.Reply.TheVariants as replies
use Rattle.dom_history.specs.Locks.{is_held}
use Rattle.dom_history.specs.Replies.{may_write, may_delete}
use Rattle.page_cache.specs.Caches.{Resident, page_at}
use Rattle.address_map.specs.Mappings.{mapping_of}
use Rattle.address_map.specs.Runs.{lowest_run}
use Rattle.address_map.specs.Maps.{is_full, map_answer}
use Rattle.ring_messages.specs.Bodies.{Ask}
use Rattle.fault_handler.specs.declared.tasks.Work.TheVariants.{Load, Store}
use Rattle.fault_handler.specs.declared.tasks.Task.{Task}
use Rattle.fault_handler.specs.declared.transits.Transit.{Transit}
use Rattle.fault_handler.specs.Lengths.{known_of, room_of, length_of, changed_length}
use Rattle.fault_handler.specs.Entries.{grant_in}
use Rattle.fault_handler.specs.Tasks.{page_of, start_of}
use Rattle.fault_handler.specs.Desks.{DeskState, entry_at, state_of, maps_of, open_call_of, others_fetch, other_transit, base_of}
use Rattle.fault_handler.specs.Accesses.{DeskOp, page_out, own_page_out, map_reply}
use Rattle.fault_handler.specs.Outcomes.{Turn, Moved}
use Rattle.fault_handler.specs.LockCalls.{LockCall, LockAnswer, open_call}
use Rattle.lock_validate.specs.Releases.{release_ask, release_call}
use Rattle.lock_validate.specs.Causes.{Cause}
use Rattle.lock_validate.specs.Settled.{IsSettled}
use Rattle.dom_history.specs.declared.op.Reply.{Reply}
use Rattle.fault_handler.specs.ShownPages.{written}
use Rattle.lock_validate.specs.Dropped.{MayDropPages}
use Rattle.lock_validate.specs.Loading.{IsTaskIn, Fetches, SendsPage, MakesRoom}
use Rattle.lock_validate.specs.Releasing.{releasing_in, IsReleasing}
use Rattle.lock_validate.specs.DeskMoves.{DeskMoves}
use Rattle.lock_validate.specs.Refusals.{Refuses}
use Rattle.lock_validate.specs.Left.{answer_reply, fault_reply, Leaves, FaultLeaves}

pub data Says (d : DeskState) (p : ℕ) (e : DeskState) : Cause → Turn → Type 0 where
  -- an operation ends
  refuses : (c : Cause) (reply : Reply) → Refuses d p c reply → e ≡ d → Says d p e c (Turn.Ends reply)
  loads : (c : Cause) (task : Task) (count : ℕ) (r : Resident) → IsTaskIn d p c task → task.work ≡ Load count → page_at e.cache.pages task.uid (page_of task) ≡ Some r
      → Says d p e c (Turn.Ends (replies.Bytes (take count (drop (start_of task) r.bytes))))
  stores : (c : Cause) (task : Task) (bytes : List ℕ) (r : Resident) → IsTaskIn d p c task → task.work ≡ Store bytes → page_at e.cache.pages task.uid (page_of task) ≡ Some (written (start_of task) bytes r)
      → nat_lt (length_of (known_of task.uid e.known)) (task.offset + length bytes) ≡ false → Says d p e c (Turn.Ends replies.Fine)
  measures : (u : ObjectName) → is_held (state_of d p u) ≡ true → Says d p e (Cause.Accesses (DeskOp.Measures u)) (Turn.Ends (replies.Size (length_of (known_of u d.known))))
  maps : (u : ObjectName) → is_held (state_of d p u) ≡ true
      → Says d p e (Cause.Accesses (DeskOp.Maps u))
      (Turn.Ends (map_reply (map_answer (mapping_of u (maps_of d p)) (is_full (maps_of d p)) (lowest_run (segments (room_of (known_of u d.known))) (maps_of d p)))))
  unmaps : (u : ObjectName) → is_some (mapping_of u (maps_of d p)) ≡ true → Says d p e (Cause.Accesses (DeskOp.Unmaps u)) (Turn.Ends replies.Fine)
  answers : (a : LockAnswer) (reply : Reply) → answer_reply a ≡ Some reply → Leaves d p e a → Says d p e (Cause.AnswerCame a) (Turn.Ends reply)
  access_fails : (t : Transit) → Says d p e (Cause.AccessFailed t) (Turn.Ends replies.LinkFault)
  call_fails : (call : LockCall) → FaultLeaves d p e call → Says d p e (Cause.CallFailed call) (Turn.Ends (fault_reply call))
  -- it waits for a page that another process has in transit
  waits : (c : Cause) (task : Task) → IsTaskIn d p c task → page_at e.cache.pages task.uid (page_of task) ≡ None → others_fetch e.moving p task.uid (page_of task) ≡ true
      → Says d p e c (Turn.Waits task.uid (page_of task))
  waits_to_release : (c : Cause) (delete : Bool) (u : ObjectName) (k : ℕ) → IsReleasing c p e delete u → other_transit e.moving p u ≡ Some k → Says d p e c (Turn.Waits u k)
  -- a home is asked
  asks_page : (c : Cause) (task : Task) → IsTaskIn d p c task → Fetches p e task → Says d p e c (Turn.Asks task.uid.home (Ask.PageIn task.uid (page_of task)))
  sends_room : (c : Cause) (task : Task) (r : Resident) → IsTaskIn d p c task → MakesRoom p e task r → Says d p e c (Turn.Asks r.uid.home (page_out e r.uid r.page r.bytes))
  sends_page : (c : Cause) (delete : Bool) (u : ObjectName) (k : ℕ) (r : Resident) → releasing_in c ≡ Some (delete, u) → open_call_of e p ≡ Some (open_call (LockCall.PageOut u k delete)) → SendsPage p e u k r
      → Says d p e c (Turn.Asks u.home (own_page_out e p u k r.bytes))
  sends_length : (c : Cause) (delete : Bool) (u : ObjectName) (n : ℕ) → releasing_in c ≡ Some (delete, u) → open_call_of e p ≡ Some (open_call (LockCall.AttrOut u n delete))
      → changed_length (known_of u e.known) ≡ Some n → Says d p e c (Turn.Asks u.home (Ask.AttrOut u n (grant_in (entry_at e.entries p u)) (base_of e.seen u)))
  asks_lock : (u : ObjectName) (m : Mode) → open_call_of e p ≡ Some (open_call (LockCall.Lock u m)) → Says d p e (Cause.Locks u m) (Turn.Asks u.home (Ask.Lock u m))
  gives_up : (c : Cause) (delete : Bool) (u : ObjectName) → releasing_in c ≡ Some (delete, u) → open_call_of e p ≡ Some (open_call (release_call delete u))
      → (delete ≡ true → may_delete (state_of e p u) ≡ true) → (may_write (state_of e p u) ≡ true → IsSettled e p u) → Says d p e c (Turn.Asks u.home (release_ask delete u))

-- what comes of a call is made by such changes, its outcome says so, and pages are dropped only where they may be
pub record IsMade (c : Cause) (p : ℕ) (d : DeskState) (m : Moved) : Type 0 where
  pub moves : DeskMoves c m.turn p d m.desk m.dropped
  pub says : Says d p m.desk c m.turn
  pub may : MayDropPages d p c m.dropped
