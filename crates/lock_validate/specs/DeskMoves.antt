-- What a call of one process changes in its node's desk: one case for each change, exact, with what is known where it is made.
-- What is said of every call goes by these cases, and opens no call again.
use Rattle.std.specs.Prelude.{◌≡◌, ℕ, ◌+◌, ◌≤◌, Bool, true, false, Some, None, IsSome, List, [], ◌∷◌, length, take, drop, map}
use Rattle.uid_names.specs.Names.{ObjectName}
use Rattle.uid_names.specs.Rooms.{IsRoom, IsLength}
use Rattle.uid_names.specs.Segments.{segments}
use Rattle.uid_names.specs.declared.mode.Mode.{Mode}
use Rattle.uid_names.specs.declared.limits.TheConstants.{PAGE_BYTES}
use Rattle.dom_history.specs.declared.deed.LockState.{LockState}
use Rattle.dom_history.specs.declared.op.Reply.{Reply}
use Rattle.dom_history.specs.declared.op.Reply.TheVariants.{Fine, Bytes}
use Rattle.dom_history.specs.Locks.{is_held}
use Rattle.dom_history.specs.Replies.{may_write, may_delete}
use Rattle.page_cache.specs.Caches.{Resident, page_at, free_count}
use Rattle.page_cache.specs.Victims.{oldest}
use Rattle.page_cache.specs.Numbers.{dirty_page, resident_pages}
use Rattle.version_stamps.specs.Stamps.{stamp_of}
use Rattle.address_map.specs.Mappings.{mapping_of, without_mapping}
use Rattle.address_map.specs.Runs.{lowest_run}
use Rattle.address_map.specs.Maps.{is_full, mappings_after}
use Rattle.ring_messages.specs.Bodies.{Ask}
use Rattle.fault_handler.specs.declared.tasks.Work.TheVariants.{Load, Store}
use Rattle.fault_handler.specs.declared.tasks.Task.{Task}
use Rattle.fault_handler.specs.declared.transits.Transit.{Transit}
use Rattle.fault_handler.specs.Lengths.{known_of, room_of}
use Rattle.fault_handler.specs.Entries.{keeps_writing}
use Rattle.fault_handler.specs.Tasks.{page_of, start_of}
use Rattle.fault_handler.specs.Desks.{DeskState, IsNode, entry_at, state_of, maps_of, open_call_of, others_keep, other_transit, any_keeps, is_in_transit_there}
use Rattle.fault_handler.specs.Accesses.{DeskOp, page_out, own_page_out}
use Rattle.fault_handler.specs.Outcomes.{Turn}
use Rattle.fault_handler.specs.Changes.{with_used, with_stored, with_dropped, with_no_page, with_end, with_length_done, with_known_row, with_raised, with_forgotten, with_fetch, with_sent_page, with_eviction, with_sent_again, with_arrival, with_loss, with_room_settled, with_page_done, with_call, with_maps, with_state, with_note}
use Rattle.fault_handler.specs.Victims.{is_idle_clean, is_idle_page}
use Rattle.fault_handler.specs.PageReplies.{PageAnswer}
use Rattle.fault_handler.specs.LockCalls.{LockCall, LockAnswer, open_call}
use Rattle.fault_handler.specs.Invariant.{KeepsAll}
use Rattle.fault_handler.specs.Conditions.{IsIdle}
use Rattle.fault_handler.specs.Ready.{CallStands}
use Rattle.lock_validate.specs.Releases.{release_ask}
use Rattle.lock_validate.specs.Answers.{is_fresh}
use Rattle.lock_validate.specs.GrantDrops.{MayDropAt}
use Rattle.lock_validate.specs.Causes.{Cause}
use Rattle.lock_validate.specs.Settled.{IsSettled}
use Rattle.lock_validate.specs.Loading.{Does, IsMissing, HasFrame, Fetches, SendsPage, MakesRoom, IsRoomAnswer}
use Rattle.lock_validate.specs.Releasing.{releasing_in, IsReleasing, IsPageSettled}
use Rattle.lock_validate.specs.Told.{told_stamp, told_row, IsCurrent, outdated_object, MaySet}
use Rattle.lock_validate.specs.Calls.{lock_object, Opens, Closes}

-- a change of a process's call, which comes to this turn, and the pages that the change drops
pub data Change (c : Cause) (turn : Turn) (p : ℕ) (d : DeskState) : DeskState → List (ObjectName × ℕ) → Type 0 where
  -- a load took bytes of its page
  uses : (task : Task) (count : ℕ) (r : Resident) → Does c p d task → task.work ≡ Load count → page_at d.cache.pages task.uid (page_of task) ≡ Some r → turn ≡ Turn.Ends (Bytes (take count (drop (start_of task) r.bytes)))
      → Change c turn p d (with_used d task.uid (page_of task)) []
  -- a store put bytes into its page, and may have made the object longer
  stores : (task : Task) (bytes : List ℕ) (r : Resident) → Does c p d task → task.work ≡ Store bytes → page_at d.cache.pages task.uid (page_of task) ≡ Some r → turn ≡ Turn.Ends Fine
      → Change c turn p d (with_stored d task.uid (page_of task) (start_of task) bytes) []
  grows : (task : Task) (bytes : List ℕ) → Does c p d task → task.work ≡ Store bytes → turn ≡ Turn.Ends Fine → Change c turn p d (with_end d task.uid (task.offset + length bytes)) []
  -- a page is asked for, or one is dropped or sent home to make room for it
  fetches : (task : Task) → Does c p d task → IsMissing c p d task → HasFrame d → turn ≡ Turn.Asks task.uid.home (Ask.PageIn task.uid (page_of task)) → Change c turn p d (with_fetch d p task) []
  drops : (task : Task) (u : ObjectName) (k : ℕ) → Does c p d task → IsMissing c p d task → free_count d.cache ≡ 0 → is_idle_page d u k ≡ true → turn ≡ Turn.Asks task.uid.home (Ask.PageIn task.uid (page_of task))
      → Change c turn p d (with_dropped d u k) ((u, k) ∷ [])
  evicts : (task : Task) (r : Resident) → Does c p d task → IsMissing c p d task → free_count d.cache ≡ 0 → oldest (is_idle_clean d.moving) d.cache.pages ≡ None
      → page_at d.cache.pages r.uid r.page ≡ Some r → r.flags.dirty ≡ true → is_in_transit_there d.moving r.uid r.page ≡ false → turn ≡ Turn.Asks r.uid.home (page_out d r.uid r.page r.bytes) → Change c turn p d (with_eviction d p task r.uid r.page) []
  -- a page came, of the seen stamp, and the operation ends; or it will not come
  arrives : (task : Task) (stamp : ℕ) (bytes : List ℕ) (reply : Reply) → c ≡ Cause.PageCame (PageAnswer.Came task stamp bytes) → Fetches p d task → stamp_of task.uid d.seen ≡ Some stamp
      → length bytes ≡ PAGE_BYTES → turn ≡ Turn.Ends reply → Change c turn p d (with_arrival d p task.uid (page_of task) bytes) []
  loses : (task : Task) (t : Transit) → c ≡ Cause.AccessFailed t → Fetches p d task → Change c turn p d (with_loss d p) []
  -- the page that made room was taken or given up, or it is sent again
  settles_room : (task : Task) (r : Resident) (taken : Bool) → IsRoomAnswer c task r taken → MakesRoom p d task r → Change c turn p d (with_room_settled d p r.uid r.page taken) []
  sends_again : (task : Task) (r : Resident) (stamp : ℕ) → c ≡ Cause.PageCame (PageAnswer.NotTaken task r stamp) → MakesRoom p d task r → turn ≡ Turn.Asks r.uid.home (page_out d r.uid r.page r.bytes)
      → Change c turn p d (with_sent_again d r.uid r.page) []
  -- the lowest dirty page of an object is sent home before it is given up; the page, or the length, was taken or not
  sends : (delete : Bool) (u : ObjectName) (k : ℕ) (r : Resident) → IsReleasing c p d delete u → other_transit d.moving p u ≡ None → dirty_page d.cache.pages u ≡ Some k
      → page_at d.cache.pages u k ≡ Some r → r.flags.dirty ≡ true → turn ≡ Turn.Asks u.home (own_page_out d p u k r.bytes) → Change c turn p d (with_sent_page d p u k) []
  page_settles : (u : ObjectName) (k : ℕ) (r : Resident) (taken : Bool) → IsPageSettled c u taken → open_call_of d p ≡ None → SendsPage p d u k r → keeps_writing (entry_at d.entries p u) ≡ true → KeepsAll d.entries p
      → Change c turn p d (with_page_done d p taken) []
  length_settles : (u : ObjectName) (n : ℕ) (delete taken : Bool) (stamp : ℕ) → c ≡ Cause.AnswerCame (LockAnswer.LengthSettled u n delete taken stamp) → IsIdle d p → keeps_writing (entry_at d.entries p u) ≡ true
      → Change c turn p d (with_length_done d u n taken) []
  -- a release or a removal is noted: where the process writes nothing is left to be sent home
  notes : (delete : Bool) (u : ObjectName) → releasing_in c ≡ Some (delete, u) → IsIdle d p → is_held (state_of d p u) ≡ true → (delete ≡ true → may_delete (state_of d p u) ≡ true)
      → (may_write (state_of d p u) ≡ true → IsSettled d p u) → turn ≡ Turn.Asks u.home (release_ask delete u) → Change c turn p d (with_note d p u) []
  -- a state is set
  sets : (call : LockCall) (u : ObjectName) (s : LockState) (grant : ℕ) → MaySet c p d call u s grant → Change c turn p d (with_state d p u s grant) []
  -- what a grant tells of an object, and of its stamp
  learns : (u : ObjectName) (m : Mode) (grant stamp room n : ℕ) → c ≡ Cause.AnswerCame (LockAnswer.Granted u m grant stamp room n) → others_keep d.entries p u ≡ false → any_keeps d.entries u ≡ false
      → is_fresh stamp (stamp_of u d.seen) ≡ true → IsRoom room → IsLength n → Change c turn p d (with_known_row d (told_row u room n)) []
  raises : (u : ObjectName) (stamp : ℕ) → told_stamp c ≡ Some (u, stamp) → 1 ≤ stamp → IsSome (known_of u d.known) → IsCurrent c d → Change c turn p d (with_raised d u stamp) []
  -- an object that no process keeps is outdated or gone
  drops_all : (u : ObjectName) (a : LockAnswer) → c ≡ Cause.AnswerCame a → outdated_object a ≡ Some u → MayDropAt d a → any_keeps d.entries u ≡ false
      → Change c turn p d (with_no_page d u) (map (λ k. (u, k)) (resident_pages d.cache.pages u))
  forgets : (u : ObjectName) → c ≡ Cause.AnswerCame (LockAnswer.Removed u) → any_keeps d.entries u ≡ false → ((k : ℕ) → page_at d.cache.pages u k ≡ None) → Change c turn p d (with_forgotten d u) []
  -- a call that stands opens, or closes
  opens : (call : LockCall) (ask : Ask) → Opens c d call → open_call_of d p ≡ None → CallStands d p call → IsNode d.nodes (lock_object call).home → turn ≡ Turn.Asks (lock_object call).home ask
      → Change c turn p d (with_call d p (Some (open_call call))) []
  closes : (call : LockCall) → Closes c call → open_call_of d p ≡ Some (open_call call) → CallStands d p call → Change c turn p d (with_call d p None) []
  -- an object is mapped, or is no more
  maps : (u : ObjectName) → c ≡ Cause.Accesses (DeskOp.Maps u) → IsIdle d p → is_held (state_of d p u) ≡ true
      → Change c turn p d (with_maps d p (mappings_after u (segments (room_of (known_of u d.known))) (mapping_of u (maps_of d p)) (is_full (maps_of d p)) (lowest_run (segments (room_of (known_of u d.known))) (maps_of d p)) (maps_of d p))) []
  unmaps : (u : ObjectName) → c ≡ Cause.Accesses (DeskOp.Unmaps u) → IsIdle d p → IsSome (mapping_of u (maps_of d p)) → Change c turn p d (with_maps d p (without_mapping u (maps_of d p))) []

-- one change after another, of which one at most drops pages
pub data DeskMoves (c : Cause) (turn : Turn) (p : ℕ) (d : DeskState) : DeskState → List (ObjectName × ℕ) → Type 0 where
  none : DeskMoves c turn p d d []
  next : {e f : DeskState} {dropped : List (ObjectName × ℕ)} → DeskMoves c turn p d e dropped → Change c turn p e f [] → DeskMoves c turn p d f dropped
  dropping : {e f : DeskState} {dropped : List (ObjectName × ℕ)} → DeskMoves c turn p d e [] → Change c turn p e f dropped → DeskMoves c turn p d f dropped
