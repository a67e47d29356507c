-- What a home's answer to a load or store says of the desk.
use Rattle.std.proofs.Common.{◌≡◌, ℕ, ◌≤◌, nat_lt, Bool, true, false, List, Option, Some, None, IsSome, refl, ap, ◌∙◌, arith}
use Rattle.std.proofs.lemmas.Option.{same_Some}
use Rattle.std.specs.Prelude.{unwrap_or}
use Rattle.std.proofs.lemmas.Bool.Decides.{nat_tests}
use Rattle.uid_names.specs.Names.{ObjectName, same_uid}
use Rattle.page_cache.specs.Caches.{Resident, page_at}
use Rattle.version_stamps.specs.Stamps.{stamp_of, raised}
use Rattle.version_stamps.proofs.LookUps.{stamp_of-with_stamp}
use Rattle.ring_messages.specs.Bodies.{Answer, answer_of, body_of_answer}
use Rattle.fault_handler.specs.declared.tasks.Task.{Task}
use Rattle.fault_handler.specs.Entries.{keeps}
use Rattle.fault_handler.specs.Lengths.{known_of}
use Rattle.fault_handler.specs.Tasks.{page_of}
use Rattle.fault_handler.specs.Transits.{coming, going}
use Rattle.fault_handler.specs.Desks.{DeskState, entry_at, moving_of, task_of, base_of}
use Rattle.fault_handler.specs.Changes.{with_raised}
use Rattle.fault_handler.specs.declared.transits.Transit.{Transit}
use Rattle.fault_handler.specs.PageReplies.{PageAnswer, answer_inward, answer_outward, answer_by, answer_with, page_answer}
use Rattle.fault_handler.specs.Unseen.{said_to}
use Rattle.fault_handler.specs.Invariant.{IsProc, is_dirty, IsAllowed, IsDesk}
use Rattle.fault_handler.specs.Conditions.{IsAccessing}
use Rattle.fault_handler.proofs.Answering.{IsSaid, page_answer-said}
use Rattle.fault_handler.proofs.Fours.{any-of}
use Rattle.fault_handler.proofs.TransitKeeps.{KeepsAll-open, going-resident, coming-absent}
use Rattle.lock_validate.specs.Causes.{IsPageAnswer}
use Rattle.lock_validate.specs.Loading.{Fetches, MakesRoom}

-- the load or store that an answer is to is the open one
abbrev pub open_task_of : PageAnswer → Task
open_task_of (PageAnswer.Came task stamp bytes) = task
open_task_of (PageAnswer.Taken task r stamp) = task
open_task_of (PageAnswer.NotTaken task r stamp) = task

pub answer-task : (pages : List Resident) (o : Option Task) (t : Option Transit) (x : Answer) (a : PageAnswer) → answer_with pages o t x ≡ Some a → o ≡ Some (open_task_of a)
answer-task pages None t x a e = absurd (cc)
answer-task pages (Some task) None x a e = absurd (cc)
answer-task pages (Some task) (Some t) x a e = by t.inward e
  where
    outward : (r : Option Resident) (x : Answer) → answer_outward task r x ≡ Some a → Some task ≡ Some (open_task_of a)
    outward None x e = absurd (cc)
    outward (Some r) (Answer.Stored stamp) e = ap (λ b. Some (open_task_of b)) (same_Some (PageAnswer.Taken task r stamp) a e)
    outward (Some r) (Answer.Stale stamp) e = ap (λ b. Some (open_task_of b)) (same_Some (PageAnswer.NotTaken task r stamp) a e)
    outward (Some r) x e = absurd (cc)

    inward : (x : Answer) → answer_inward task x ≡ Some a → Some task ≡ Some (open_task_of a)
    inward (Answer.Page stamp bytes) e = ap (λ b. Some (open_task_of b)) (same_Some (PageAnswer.Came task stamp bytes) a e)
    inward x e = absurd (cc)

    by : (b : Bool) → answer_by pages task t b x ≡ Some a → Some task ≡ Some (open_task_of a)
    by true e = inward x e
    by false e = outward (page_at pages t.uid t.page) x e

module _ (d : DeskState) (p : ℕ) (is : IsDesk d) (proc : IsProc p) (accessing : IsAccessing d p) (task : Task) (opened : task_of d p ≡ Some task) (allowed : IsAllowed d.entries p task) where
  -- the page that an open load or store fetches
  pub fetches-of : moving_of d p ≡ coming task.uid (page_of task) → Fetches p d task
  fetches-of comes = record {
    accessing = accessing;
    opened = opened;
    moves = comes;
    absent = (coming-absent d p is proc task.uid (page_of task) comes).0;
    allowed = allowed;
    keeping = KeepsAll-open d p is proc accessing;
  }

  -- the page that it sends home
  pub makes-of : (r : Resident) → moving_of d p ≡ going r.uid r.page → page_at d.cache.pages r.uid r.page ≡ Some r → is_dirty (page_at d.cache.pages r.uid r.page) ≡ true → MakesRoom p d task r
  makes-of r goes there dirty =
      record {
        accessing = accessing;
        opened = opened;
        sends = record { moves = goes; there = there };
        dirty = rw there at dirty;
        allowed = allowed;
        keeping = KeepsAll-open d p is proc accessing;
      }

module _ (d : DeskState) (p : ℕ) (is : IsDesk d) (proc : IsProc p) where
  -- what an answer says, its body says
  body-says : (answer : Answer) (a : PageAnswer) → page_answer d p answer ≡ Some a → said_to d p (answer_of (body_of_answer answer)) ≡ Some a
  body-says (Answer.Page stamp bytes) a says = says
  body-says (Answer.Stored stamp) a says = says
  body-says (Answer.Stale stamp) a says = says
  body-says Answer.NoGrant a says = says
  body-says Answer.NoObject a says = says
  body-says (Answer.Granted grant stamp kind room n) a says = says
  body-says (Answer.Conflict q held) a says = says
  body-says Answer.Done a says = says
  body-says (Answer.Made u) a says = says
  body-says Answer.NoSpace a says = says
  body-says (Answer.Listed rows more) a says = says

  pub page-said : (a : PageAnswer) → IsPageAnswer d p a → IsSaid d p a
  page-said a came = page_answer-said d p is proc came.accessing d.node (body_of_answer came.answer) a came.range (body-says came.answer a came.says)

  -- something is known of an object whose page goes home
  pub known-going : (u : ObjectName) (k : ℕ) → moving_of d p ≡ going u k → IsSome (known_of u d.known)
  known-going u k goes =
      let found = any-of (λ q. keeps (entry_at d.entries q u)) (going-resident d p is proc u k goes).1 in
      is.known.both u (is.known.kept found.0 found.1 u found.2)

-- the stamp of a page that is not an old one is the seen one then
pub seen-raised : (d : DeskState) (u : ObjectName) (stamp : ℕ) → nat_lt stamp (base_of d.seen u) ≡ false → stamp_of u (with_raised d u stamp).seen ≡ Some stamp
seen-raised d u stamp fresh =
    stamp_of-with_stamp (record { uid = u; stamp = raised stamp (stamp_of u d.seen) }) d.seen u
    ∙ (let own : same_uid u u ≡ true = grind (arith, nat_tests) in rw own (ap Some (by_seen (stamp_of u d.seen) fresh)))
  where
    by_seen : (o : Option ℕ) → nat_lt stamp (unwrap_or o 0) ≡ false → raised stamp o ≡ stamp
    by_seen None fresh = refl
    by_seen (Some seen) fresh = let least : seen ≤ stamp = grind (arith, nat_tests, fresh) in omega arith
