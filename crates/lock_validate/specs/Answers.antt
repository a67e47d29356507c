-- How a lock, an unlock or a removal goes on where a home answers.
use Rattle.std.specs.Prelude.{ℕ, ◌==◌, nat_le, Bool, true, false, not, ◌&&◌, Option, Some, None, List, [], map}
use Rattle.uid_names.specs.Names.{ObjectName}
use Rattle.uid_names.specs.Steps.{◌>>=◌}
use Rattle.uid_names.specs.declared.mode.Mode.{Mode}
use Rattle.dom_history.specs.declared.op.Reply.{Reply}
use Rattle.dom_history.specs.declared.op.Reply.TheVariants.{Fine, Conflict, NoObject}
use Rattle.dom_history.specs.declared.deed.LockState.TheVariants.{Free, Held}
use Rattle.page_cache.specs.Caches.{Resident}
use Rattle.page_cache.specs.Changes.{without_object}
use Rattle.page_cache.specs.Numbers.{resident_pages}
use Rattle.version_stamps.specs.declared.stamps.Stamp.{Stamp}
use Rattle.version_stamps.specs.Stamps.{stamp_of, without_stamp}
use Rattle.ring_messages.specs.Bodies.{answer_of}
use Rattle.ring_messages.specs.declared.body.Body.{Body}
use Rattle.fault_handler.specs.declared.lengths.Known.{Known}
use Rattle.fault_handler.specs.declared.open_call.OpenCall.{OpenCall}
use Rattle.fault_handler.specs.Lengths.{with_known}
use Rattle.fault_handler.specs.Desks.{DeskState, open_call_of, others_keep, any_keeps}
use Rattle.fault_handler.specs.Changes.{with_pages, with_call, with_state, with_raised, with_page_done, with_length_done}
use Rattle.fault_handler.specs.Outcomes.{Turn, Moved, ended}
use Rattle.fault_handler.specs.LockCalls.{LockCall, LockAnswer, lock_call, lock_answer}
use Rattle.lock_validate.specs.Releases.{release_of}

-- the pages once those of an object are dropped, where they are
abbrev pub pages_kept : Bool → ObjectName → List Resident → List Resident
pages_kept true u pages = without_object pages u
pages_kept false u pages = pages

abbrev pub after_drop : Bool → DeskState → ObjectName → DeskState
after_drop dropping d u = with_pages d (pages_kept dropping u d.cache.pages)

-- the pages that are dropped, rising
abbrev pub dropped_of : Bool → DeskState → ObjectName → List (ObjectName × ℕ)
dropped_of true d u = map (λ k. (u, k)) (resident_pages d.cache.pages u)
dropped_of false d u = []

-- the operation ends, and the object's pages are dropped, where they are
abbrev pub ended_dropping : Bool → DeskState → ObjectName → DeskState → Reply → Moved
ended_dropping dropping before u after reply = record { desk = after; turn = Turn.Ends reply; dropped = dropped_of dropping before u }

-- whether this stamp is the seen one
abbrev pub is_seen : ℕ → Option ℕ → Bool
is_seen stamp None = false
is_seen stamp (Some s) = s == stamp

-- whether this stamp is the seen one at least, or none is seen
abbrev pub is_fresh : ℕ → Option ℕ → Bool
is_fresh stamp None = true
is_fresh stamp (Some s) = nat_le s stamp

-- what is known of objects once a grant told of one: it is learned where no other process keeps the object and its stamp is
-- not an old one
abbrev pub known_learned : Bool → Known → List Known → List Known
known_learned true row known = with_known row known
known_learned false row known = known

-- the seen stamp becomes the greater of both
abbrev pub learned : Bool → DeskState → ObjectName → ℕ → ℕ → ℕ → DeskState
learned fresh d u stamp room length =
    with_raised (record d { known = known_learned fresh (record { uid = u; room = room; length = length; changed = false }) d.known }) u stamp

-- a lock is granted: whether no other process of the node keeps the object, and what stamp was seen
abbrev pub granted : DeskState → ℕ → ObjectName → Mode → ℕ → ℕ → ℕ → ℕ → Bool → Option ℕ → Moved
granted d p u m grant stamp room length alone seen =
    ended_dropping (alone && not (is_seen stamp seen)) d u
    (with_state (learned (alone && is_fresh stamp seen) (after_drop (alone && not (is_seen stamp seen)) d u) u stamp room length) p u (Held m) grant)
    Fine

-- the object is gone where no process of the node keeps it; else the answer is older than the object
abbrev pub gone : DeskState → ObjectName → Bool → Moved
gone d u keeping = ended_dropping (not keeping) d u (after_drop (not keeping) d u) NoObject

-- the seen stamps once an object's is forgotten, where it is
abbrev pub stamps_kept : Bool → ObjectName → List Stamp → List Stamp
stamps_kept true u seen = seen
stamps_kept false u seen = without_stamp u seen

-- the object was removed; d is the desk on which the process is Free on it
abbrev pub removed : DeskState → ObjectName → Bool → Moved
removed d u keeping = ended_dropping (not keeping) d u (record (after_drop (not keeping) d u) { seen = stamps_kept keeping u d.seen }) Fine

-- what an answer says to the open call of a process's lock, unlock or removal, which is open no more; after a page or a
-- length was sent the tests are made anew
abbrev pub answered : DeskState → ℕ → LockAnswer → Moved
answered d p (LockAnswer.Granted u m grant stamp room length) = granted d p u m grant stamp room length (not (others_keep d.entries p u)) (stamp_of u d.seen)
answered d p (LockAnswer.Refused q held) = ended d (Conflict q held)
answered d p (LockAnswer.Gone u) = gone d u (any_keeps d.entries u)
answered d p (LockAnswer.PageSettled u delete taken stamp) = release_of (with_raised (with_page_done d p taken) u stamp) p u delete
answered d p (LockAnswer.LengthSettled u length delete taken stamp) = release_of (with_raised (with_length_done d u length taken) u stamp) p u delete
answered d p (LockAnswer.Released u) = ended (with_state d p u Free 0) Fine
answered d p (LockAnswer.Removed u) = removed (with_state d p u Free 0) u (any_keeps (with_state d p u Free 0).entries u)

abbrev pub answer_came_of : DeskState → ℕ → LockAnswer → Moved
answer_came_of d p answer = answered (with_call d p None) p answer

-- the open call of a process, where it is that of a lock, an unlock or a removal
abbrev pub lock_call_of : DeskState → ℕ → Option LockCall
lock_call_of d p = open_call_of d p >>= lock_call

-- what a body answers to an open call of a lock, an unlock or a removal
abbrev pub answer_at : OpenCall → Body → Option LockAnswer
answer_at call body = lock_call call >>= λ c. answer_of body >>= lock_answer c

-- what it answers to that of a process
abbrev pub lock_answer_of : DeskState → ℕ → Body → Option LockAnswer
lock_answer_of d p body = open_call_of d p >>= λ call. answer_at call body
