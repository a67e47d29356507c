-- How a load or store goes on where a home answers, or where a link fault ends its call.
use Rattle.std.specs.Prelude.{ℕ, nat_lt, Bool, true, false, Option, Some, None, List, []}
use Rattle.std.specs.Option.{ForSome}
use Rattle.page_cache.specs.Caches.{Resident, page_at}
use Rattle.ring_messages.specs.Bodies.{Ask, Answer}
use Rattle.fault_handler.specs.declared.access.Access.{Access}
use Rattle.fault_handler.specs.declared.tasks.Task.{Task}
use Rattle.fault_handler.specs.declared.transits.Transit.{Transit}
use Rattle.fault_handler.specs.Tasks.{page_of}
use Rattle.fault_handler.specs.ShownPages.{fresh_page}
use Rattle.fault_handler.specs.Desks.{DeskState, task_of, moving_of, base_of}
use Rattle.fault_handler.specs.Changes.{with_raised, with_arrival, with_loss, with_room_settled, with_sent_again}
use Rattle.fault_handler.specs.Outcomes.{Turn, Moved, Gives, as_access}
use Rattle.fault_handler.specs.Accesses.{Accessed, Comes, page_access, page_out, performed}

-- what a home's answer says to the open call of a load or store
pub data PageAnswer : Type 0 where
  -- its page came
  Came : (task : Task) (stamp : ℕ) (bytes : List ℕ) → PageAnswer
  -- the page that makes room was taken by its home
  Taken : (task : Task) (page : Resident) (stamp : ℕ) → PageAnswer
  -- it was not, since its base was another stamp than the home's, which is this
  NotTaken : (task : Task) (page : Resident) (stamp : ℕ) → PageAnswer

-- to a page that was asked for
abbrev pub answer_inward : Task → Answer → Option PageAnswer
answer_inward task (Answer.Page stamp bytes) = Some (PageAnswer.Came task stamp bytes)
answer_inward task _ = None

-- to a page that was sent home
abbrev pub answer_outward : Task → Option Resident → Answer → Option PageAnswer
answer_outward task (Some r) (Answer.Stored stamp) = Some (PageAnswer.Taken task r stamp)
answer_outward task (Some r) (Answer.Stale stamp) = Some (PageAnswer.NotTaken task r stamp)
answer_outward task _ _ = None

abbrev pub answer_by : List Resident → Task → Transit → Bool → Answer → Option PageAnswer
answer_by pages task t true answer = answer_inward task answer
answer_by pages task t false answer = answer_outward task (page_at pages t.uid t.page) answer

abbrev pub answer_with : List Resident → Option Task → Option Transit → Answer → Option PageAnswer
answer_with pages (Some task) (Some t) answer = answer_by pages task t t.inward answer
answer_with pages _ _ answer = None

-- what an answer says to the load or store of a process; None where it doesn't fit
abbrev pub page_answer : DeskState → ℕ → Answer → Option PageAnswer
page_answer d p answer = answer_with d.cache.pages (task_of d p) (moving_of d p) answer

-- the page came, of a stamp below the seen one or not: an old one is asked for again
abbrev pub page_by_stamp : DeskState → ℕ → Task → ℕ → List ℕ → Bool → Moved
page_by_stamp d p task stamp bytes true = record { desk = d; turn = Turn.Asks task.uid.home (Ask.PageIn task.uid (page_of task)); dropped = [] }
page_by_stamp d p task stamp bytes false =
    performed (with_arrival (with_raised d task.uid stamp) p task.uid (page_of task) bytes) task task.work (fresh_page task.uid (page_of task) bytes)

-- the desk on which the access is made anew once the page that made room was taken
abbrev pub room_taken : DeskState → ℕ → Resident → ℕ → DeskState
room_taken d p r stamp = with_raised (with_room_settled d p r.uid r.page true) r.uid stamp

-- it was not taken: it is sent again, as it is now
abbrev pub room_sent_again : DeskState → Resident → Moved
room_sent_again d r =
    record { desk = with_sent_again d r.uid r.page; turn = Turn.Asks r.uid.home (page_out d r.uid r.page r.bytes); dropped = [] }

-- a load or store goes on with what its home's answer says
abbrev pub page_came_of : DeskState → ℕ → PageAnswer → Accessed
page_came_of d p (PageAnswer.Came task stamp bytes) = Accessed.Settled (page_by_stamp d p task stamp bytes (nat_lt stamp (base_of d.seen task.uid)))
page_came_of d p (PageAnswer.Taken task r stamp) = page_access (room_taken d p r stamp) p task
page_came_of d p (PageAnswer.NotTaken task r stamp) = Accessed.Settled (room_sent_again (with_raised d r.uid stamp) r)

-- an access is that with which a load or store goes on at an answer that fits it, and the desk is as that leaves it
abbrev pub GoesOn : DeskState → DeskState → ℕ → Option Answer → Access → Type 0
GoesOn old new p said access = ForSome said (λ answer. ForSome (page_answer old p answer) (λ a. Comes p (λ m. Gives as_access new m access) (page_came_of old p a)))

abbrev pub failed_way : DeskState → ℕ → Transit → Bool → DeskState
failed_way d p t true = with_loss d p
failed_way d p t false = with_room_settled d p t.uid t.page false

-- a link fault ends the call of a load or store that moves this page: a reserved frame is free again, a dirty page stays
-- dirty
abbrev pub access_failed_of : DeskState → ℕ → Transit → DeskState
access_failed_of d p t = failed_way d p t t.inward
