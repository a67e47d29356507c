-- In every run each resident page is one of its object's.
use Rattle.std.proofs.Common.{◌≡◌, ℕ, ◌+◌, ◌*◌, ◌≤◌, ◌<◌, false, List, length, Option, Some, None, IfSome, inl, inr, sym, ap, subst, ◌∙◌, arith}
use Rattle.std.specs.Prelude.{◌/◌}
use Rattle.std.proofs.lemmas.Bool.{cases_eq}
use Rattle.uid_names.specs.Names.{ObjectName}
use Rattle.uid_names.specs.declared.limits.TheConstants.{PAGE_BYTES}
use Rattle.object_store.specs.HomeStates.{HomeState}
use Rattle.page_cache.specs.Caches.{Resident}
use Rattle.fault_handler.specs.declared.lengths.Known.{Known}
use Rattle.fault_handler.specs.declared.tasks.Work.{Work}
use Rattle.fault_handler.specs.declared.tasks.Work.TheVariants.{Load, Store}
use Rattle.fault_handler.specs.declared.tasks.Task.{Task}
use Rattle.fault_handler.specs.Lengths.{known_of}
use Rattle.fault_handler.specs.Tasks.{page_of, size_of, IsTask}
use Rattle.fault_handler.specs.Desks.{DeskState, task_of, moving_of}
use Rattle.fault_handler.specs.PageReplies.{PageAnswer}
use Rattle.fault_handler.specs.Invariant.{IsProc}
use Rattle.lock_validate.specs.Causes.{Cause, MayCome}
use Rattle.lock_validate.proofs.PageSaid.{open_task_of, answer-task}
use Rattle.lock_validate.proofs.EachPage.{moves-pages}
use Rattle.node_runs.specs.Setups.{Setup, IsSetup, given}
use Rattle.node_runs.specs.NodeStates.{NodeState}
use Rattle.node_runs.specs.NodesKeep.{IsTimely}
use Rattle.node_runs.specs.Runs.{World, Choice, world_after}
use Rattle.node_runs.specs.CallsKeep.{EachOf}
use Rattle.node_runs.proofs.Receiving.{EachOf-more}
use Rattle.node_runs.proofs.Calls.{put-same, put-other}
use Rattle.node_runs.proofs.Decisions.{HomeStep}
use Rattle.node_runs.proofs.SettingUp.{setup-procs}
use Rattle.run_laws.proofs.HearingRuns.{IsKeptNext, every-kept-run, event, event-home}
use Rattle.run_laws.specs.DeskSteps.{apart as desk_apart, moves, NodeMove, still, moved}
use Rattle.run_laws.specs.OpenTasks.{IsWithin, IsTaskWithin}
use Rattle.run_laws.proofs.OpenTasks.{runs-within}
use Rattle.run_laws.proofs.EventMoves.{desk-moves}
use Rattle.run_laws.specs.ToldRooms.{IsRoomOf}
use Rattle.run_laws.specs.KnownRooms.{IsKnownRight, IsPageOf, ArePagesRight}
use Rattle.run_laws.proofs.KnownRooms.{known-still, known-are}

page-below : (offset n room : ℕ) → 1 ≤ n → offset + n ≤ PAGE_BYTES * room → offset / PAGE_BYTES < room
page-below offset n room least within = omega arith

-- a load or store within what is known, where that is right, is of a page of its object
pub task-page : (home : HomeState) (task : Task) (o : Option Known) → IsTask task → IsWithin o task.offset task.work → IsKnownRight home task.uid o → IsPageOf home task.uid (page_of task)
task-page home task None range within right = by task.work within range.some
  where
    by : (work : Work) → IsWithin None task.offset work → 1 ≤ size_of work → IsPageOf home task.uid (page_of task)
    by (Load count) within some = absurd (omega (arith, within, some))
    by (Store bytes) within some = absurd (omega (arith, within, some))
task-page home task (Some k) range within right = by task.work within range.some
  where
    is : IsRoomOf home task.uid k.room 0
    is = record { given = right.given; room = right.room; within = omega arith }

    by : (work : Work) → IsWithin (Some k) task.offset work → 1 ≤ size_of work → IsPageOf home task.uid (page_of task)
    by (Load count) within some = let high = right.within in (k.room, is, page-below task.offset count k.room some (omega (arith, within, high)))
    by (Store bytes) within some = (k.room, is, page-below task.offset (length bytes) k.room some within)

module _ (s : Setup) (setup : IsSetup s) (cs : List Choice) (old : World) (e : world_after s cs ≡ Some old) (timely : IsTimely old) (c : Choice) (new : World) (next : IsKeptNext s old c new) (right : ArePagesRight s old) where
  open event s old c new next use {n, after}

  abbrev Was : ObjectName → ℕ → Type 0
  Was u k = IsPageOf (old.nodes u.home).side.home u k

  -- the page that came is one of its object's
  came-page : (p : ℕ) → IsProc p → (cause : Cause) (may : MayCome n.desk p cause) (task : Task) (stamp : ℕ) (bytes : List ℕ) → cause ≡ Cause.PageCame (PageAnswer.Came task stamp bytes) → IsTask task → Was task.uid (page_of task)
  came-page p proc (Cause.PageCame a) may task stamp bytes is range =
      let same : a ≡ PageAnswer.Came task stamp bytes = page-cause a (PageAnswer.Came task stamp bytes) is in
      let open_one : task_of n.desk p ≡ Some task = answer-task n.desk.cache.pages (task_of n.desk p) (moving_of n.desk p) may.answer a may.says ∙ ap (λ x. Some (open_task_of x)) same in
      let within : IsTaskWithin n.desk.known task = subst (λ o. IfSome o (IsTaskWithin n.desk.known)) open_one (runs-within s setup cs old e timely c.node next.is.node p proc) in
      task-page (old.nodes task.uid.home).side.home task (known_of task.uid n.desk.known) range within (known-are s setup cs old e timely c.node next.is.node task.uid)
    where
      page-cause : (x y : PageAnswer) → Cause.PageCame x ≡ Cause.PageCame y → x ≡ y
      page-cause x y same = cc
  came-page p proc (Cause.Accesses access) may task stamp bytes is range = absurd (cc)
  came-page p proc (Cause.Locks u m) may task stamp bytes is range = absurd (cc)
  came-page p proc (Cause.Releases delete u) may task stamp bytes is range = absurd (cc)
  came-page p proc (Cause.AnswerCame a) may task stamp bytes is range = absurd (cc)
  came-page p proc (Cause.AccessFailed t) may task stamp bytes is range = absurd (cc)
  came-page p proc (Cause.CallFailed call) may task stamp bytes is range = absurd (cc)

  desk-pages : NodeMove (given s c.node) n next.is.incoming next.is.step → EachOf (λ (r : Resident). Was r.uid r.page) next.is.step.node.desk.cache.pages
  desk-pages (still desk same quiet uncalled) = subst (λ (d : DeskState). EachOf (λ (r : Resident). Was r.uid r.page) d.cache.pages) (sym desk) (right c.node next.is.node)
  desk-pages (moved p o stage m proc is_at (desk_apart desk turn) at_desk doing others note call side) = subst (λ (d : DeskState). EachOf (λ (r : Resident). Was r.uid r.page) d.cache.pages) (sym (at_desk ∙ desk)) (right c.node next.is.node)
  desk-pages (moved p o stage m proc is_at (moves cause may of at_stage taken made) at_desk doing others note call side) =
      subst (λ (d : DeskState). EachOf (λ (r : Resident). Was r.uid r.page) d.cache.pages) (sym at_desk)
      (moves-pages Was cause m.turn p (λ d task stamp bytes is range. came-page p proc cause may task stamp bytes is range) n.desk m.desk m.dropped made.moves (right c.node next.is.node))

  page-still : HomeStep (given s c.node) n c.what next.is.incoming next.is.step → (r : Resident) → Was r.uid r.page → IsPageOf (after.nodes r.uid.home).side.home r.uid r.page
  page-still home r is = (is.0, known-still s setup cs old e timely c new next (known-are s setup cs old e timely) home r.uid (Some (record { uid = r.uid; room = is.0; length = 0; changed = false })) is.1, is.2)

  all-pages : NodeMove (given s c.node) n next.is.incoming next.is.step → HomeStep (given s c.node) n c.what next.is.incoming next.is.step → ArePagesRight s after
  all-pages move home a node = elim (cases_eq a c.node) [
    | inr away ↦ subst (λ (x : NodeState). EachOf (λ (r : Resident). IsPageOf (after.nodes r.uid.home).side.home r.uid r.page) x.desk.cache.pages) (sym (put-other old.nodes c.node a next.is.step.node away))
        (EachOf-more (λ (r : Resident). Was r.uid r.page) (λ (r : Resident). IsPageOf (after.nodes r.uid.home).side.home r.uid r.page) (old.nodes a).desk.cache.pages (page-still home) (right a node))
    | inl here ↦ subst (λ (x : NodeState). EachOf (λ (r : Resident). IsPageOf (after.nodes r.uid.home).side.home r.uid r.page) x.desk.cache.pages) (sym (put-same old.nodes c.node a next.is.step.node here))
        (EachOf-more (λ (r : Resident). Was r.uid r.page) (λ (r : Resident). IsPageOf (after.nodes r.uid.home).side.home r.uid r.page) next.is.step.node.desk.cache.pages (page-still home) (desk-pages move))
  ]

  pages-later : ArePagesRight s new
  pages-later = subst (ArePagesRight s) (sym next.is.world)
      (all-pages
      (desk-moves s setup old c new next)
      (event-home s old c new next))

-- in every run
pub pages-are : (s : Setup) → IsSetup s → (cs : List Choice) (w : World) → world_after s cs ≡ Some w → IsTimely w → ArePagesRight s w
pages-are s setup = every-kept-run s setup (setup-procs s setup) (ArePagesRight s) (λ n node. tt) (λ cs old c new e timely next right. pages-later s setup cs old e timely c new next right)
