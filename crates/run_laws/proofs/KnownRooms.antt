-- In every run a known room is the object's, and a known length lies within it.
use Rattle.std.proofs.Common.{◌≡◌, ℕ, ◌+◌, ◌*◌, ◌≤◌, Bool, true, false, List, [], ◌∷◌, length, Option, Some, None, IfSome, inl, inr, refl, sym, ap, subst, ◌∙◌, arith}
use Rattle.std.specs.Prelude.{◌==◌, nat_lt, if◌then◌else◌}
use Rattle.std.proofs.lemmas.Bool.{cases_eq}
use Rattle.std.proofs.lemmas.Bool.Decides.{nat_tests}
use Rattle.uid_names.proofs.ListLemmas.{by_cases}
use Rattle.uid_names.proofs.Orders.{same_uid_is}
use Rattle.uid_names.proofs.Tables.{row_of-named}
use Rattle.uid_names.specs.Names.{ProcName, ObjectName, same_uid}
use Rattle.uid_names.specs.declared.limits.TheConstants.{PAGE_BYTES}
use Rattle.uid_names.specs.declared.ids.Place.{Place}
use Rattle.uid_names.specs.declared.mode.Mode.{Mode}
use Rattle.uid_names.specs.declared.mode.ObjKind.{ObjKind}
use Rattle.object_store.specs.HomeStates.{HomeState}
use Rattle.ring_messages.specs.Bodies.{Ask, Answer}
use Rattle.fault_handler.specs.declared.lengths.Known.{Known}
use Rattle.fault_handler.specs.declared.tasks.Work.TheVariants.{Load, Store}
use Rattle.fault_handler.specs.declared.tasks.Task.{Task}
use Rattle.fault_handler.specs.Lengths.{known_name, known_of, room_of, grown, grown_if, sent_length, sent_if, known_after, with_known}
use Rattle.fault_handler.specs.Desks.{DeskState, task_of, moving_of}
use Rattle.fault_handler.specs.Outcomes.{Turn}
use Rattle.fault_handler.specs.Accesses.{DeskOp}
use Rattle.fault_handler.specs.PageReplies.{PageAnswer, page_answer}
use Rattle.fault_handler.specs.LockCalls.{LockAnswer}
use Rattle.fault_handler.proofs.KnownRows.{known_of-with_known, uid-grown, uid-sent}
use Rattle.lock_validate.specs.Causes.{Cause, MayCome}
use Rattle.lock_validate.specs.Loading.{IsTaskIn, Does}
use Rattle.lock_validate.specs.DeskMoves.{Change, DeskMoves}
use Rattle.node_runs.specs.Setups.{Setup, IsSetup, given}
use Rattle.node_runs.specs.NodeStates.{NodeState}
use Rattle.node_runs.specs.NodesKeep.{IsTimely}
use Rattle.node_runs.specs.Notes.{Note}
use Rattle.node_runs.specs.Runs.{World, Noted, Choice, numbered, world_after}
use Rattle.node_runs.specs.CallsKeep.{IsCallAt, EachOf}
use Rattle.node_runs.specs.DecidedCalls.{IsDecided}
use Rattle.node_runs.proofs.Calls.{put-same, put-other}
use Rattle.node_runs.proofs.Decisions.{HomeStep, apart, decides}
use Rattle.node_runs.proofs.SettingUp.{setup-procs}
use Rattle.run_laws.specs.DecidedReplies.{proc_at, IsAnswerAt, WasAnswered}
use Rattle.run_laws.proofs.HearingRuns.{IsKeptNext, same-ask, every-kept-run, event, event-home}
use Rattle.run_laws.specs.DeskSteps.{apart as desk_apart, moves, NodeMove, still, moved}
use Rattle.run_laws.specs.OpenTasks.{IsWithin, IsTaskWithin}
use Rattle.run_laws.proofs.KnownLengths.{IsNotLearned, moves-up}
use Rattle.run_laws.proofs.OpenTasks.{open_task_of, answer-task, runs-within}
use Rattle.run_laws.proofs.AskedHomes.{opens-at-homes, calls-at-homes}
use Rattle.run_laws.proofs.OpenCalls.{runs-carry}
use Rattle.run_laws.proofs.EventMoves.{desk-moves}
use Rattle.run_laws.specs.ToldRooms.{IsRoomOf, TellsRoom}
use Rattle.run_laws.proofs.ToldRooms.{room-decided, rooms-told}
use Rattle.run_laws.specs.KnownRooms.{IsKnownRight, AreKnownRight}
use Rattle.run_laws.proofs.LiveRun.{got-row, live-are}

-- a store that is done ends within the known room
abbrev IsStoreIn : DeskState → Task → Type 0
IsStoreIn d task = (bytes : List ℕ) → task.work ≡ Store bytes → task.offset + length bytes ≤ PAGE_BYTES * room_of (known_of task.uid d.known)

-- one home, and one object
module _ (home : HomeState) (u : ObjectName) where
  abbrev Right : Option Known → Type 0
  Right o = IsKnownRight home u o

  grown-right : (end : ℕ) (k : Known) → end ≤ PAGE_BYTES * k.room → IsRoomOf home u k.room k.length → Right (Some (grown end k))
  grown-right end k within is = by (nat_lt k.length end)
    where
      by : (b : Bool) → Right (Some (grown_if b end k))
      by true = record { given = is.given; room = is.room; within = within }
      by false = is

  sent-right : (n : ℕ) (k : Known) → IsRoomOf home u k.room k.length → Right (Some (sent_length n k))
  sent-right n k is = by (k.length == n)
    where
      by : (b : Bool) → Right (Some (sent_if b k))
      by true = is
      by false = is

  -- a row that was changed in its place
  after-right : (change : Known → Known) → ((k : Known) → (change k).uid ≡ k.uid) → (v : ObjectName) (rows : List Known) (o : Option Known) → known_of v rows ≡ o
      → ((k : Known) → known_of v rows ≡ Some k → IsRoomOf home u k.room k.length → Right (Some (change k))) → Right (known_of u rows) → Right (known_of u (known_after change o rows))
  after-right change names v rows None found right is = is
  after-right change names v rows (Some k) found right is = by_cases (same_uid u (change k).uid) (Right (known_of u (with_known (change k) rows)))
      (λ same.
      let named : (change k).uid ≡ v = names k ∙ row_of-named known_name v rows k found in
      let was : known_of u rows ≡ Some k = ap (λ w. known_of w rows) (same_uid_is u (change k).uid same ∙ named) ∙ found in
      subst Right (sym (known_of-with_known (change k) rows u ∙ ap (λ b. if b then Some (change k) else known_of u rows) same)) (right k found (subst Right was is)))
      (λ differs. subst Right (sym (known_of-with_known (change k) rows u ∙ ap (λ b. if b then Some (change k) else known_of u rows) differs)) is)

  module _ (c : Cause) (turn : Turn) (p : ℕ) (told : (m : Mode) (grant stamp room n : ℕ) → c ≡ Cause.AnswerCame (LockAnswer.Granted u m grant stamp room n) → IsRoomOf home u room n) where
    change-right : (d e : DeskState) (dropped : List (ObjectName × ℕ)) → ((task : Task) → Does c p d task → IsStoreIn d task) → Change c turn p d e dropped → Right (known_of u d.known) → Right (known_of u e.known)
    change-right d e dropped within (Change.grows task bytes does work ends) is =
        after-right (grown (task.offset + length bytes)) (uid-grown (task.offset + length bytes)) task.uid d.known (known_of task.uid d.known) refl
        (λ k found room. grown-right (task.offset + length bytes) k (subst (λ o. task.offset + length bytes ≤ PAGE_BYTES * room_of o) found (within task does bytes work)) room) is
    change-right d e dropped within (Change.length_settles v n delete true stamp given idle writes) is = after-right (sent_length n) (uid-sent n) v d.known (known_of v d.known) refl (λ k found room. sent-right n k room) is
    change-right d e dropped within (Change.length_settles v n delete false stamp given idle writes) is = is
    change-right d e dropped within (Change.learns v m grant stamp room n given alone none fresh is_room is_length) is =
        let row : Known = record { uid = v; room = room; length = n; changed = false } in
        by_cases (same_uid u v) (Right (known_of u (with_known row d.known)))
        (λ same. subst Right (sym (known_of-with_known row d.known u ∙ ap (λ b. if b then Some row else known_of u d.known) same)) (told m grant stamp room n (subst (λ w. c ≡ Cause.AnswerCame (LockAnswer.Granted w m grant stamp room n)) (sym (same_uid_is u v same)) given)))
        (λ differs. subst Right (sym (known_of-with_known row d.known u ∙ ap (λ b. if b then Some row else known_of u d.known) differs)) is)
    change-right d e dropped within change is = is

    pub moves-right : (d : DeskState) → ((f : DeskState) (dropped : List (ObjectName × ℕ)) → DeskMoves c turn p d f dropped → (task : Task) → Does c p f task → IsStoreIn f task) → (e : DeskState) (dropped : List (ObjectName × ℕ)) → DeskMoves c turn p d e dropped
        → Right (known_of u d.known) → Right (known_of u e.known)
    moves-right d within e dropped DeskMoves.none is = is
    moves-right d within e dropped (DeskMoves.next {e = f} before change) is = change-right f e [] (within f dropped before) change (moves-right d within f dropped before is)
    moves-right d within e dropped (DeskMoves.dropping {e = f} before change) is = change-right f e dropped (within f [] before) change (moves-right d within f [] before is)

-- a load or store that a cause does lies within what is known
module _ (d : DeskState) (p : ℕ) (was : IfSome (task_of d p) (IsTaskWithin d.known)) where
  same-bytes : (a b : List ℕ) → Store a ≡ Store b → a ≡ b
  same-bytes a b e = cc

  not-load : (n : ℕ) (b : List ℕ) → Load n ≡ Store b → ⊥
  not-load n b e = absurd (cc)

  -- nothing but a grant tells of an object anew
  page-unlearned : (v : ObjectName) (a : PageAnswer) (f : DeskState) → IsNotLearned v (Cause.PageCame a) f
  page-unlearned v a f w m grant stamp room n given none = absurd (cc)

  came-in : (a : PageAnswer) (turn : Turn) (f : DeskState) (dropped : List (ObjectName × ℕ)) (x : Answer) → page_answer d p x ≡ Some a → DeskMoves (Cause.PageCame a) turn p d f dropped → (task : Task) → task ≡ open_task_of a → IsStoreIn f task
  came-in a turn f dropped x says made task is bytes work =
      let open_one : IsTaskWithin d.known (open_task_of a) = subst (λ o. IfSome o (IsTaskWithin d.known)) (answer-task d.cache.pages (task_of d p) (moving_of d p) x a says) was in
      let here : IsTaskWithin d.known task = subst (IsTaskWithin d.known) (sym is) open_one in
      let stored : task.offset + length bytes ≤ PAGE_BYTES * room_of (known_of task.uid d.known) = subst (IsWithin (known_of task.uid d.known) task.offset) work here in
      let up = (moves-up task.uid (Cause.PageCame a) turn p (page-unlearned task.uid a) d f dropped made).1 in
      subst (λ r. task.offset + length bytes ≤ PAGE_BYTES * r) (sym up) stored

  task-of-answer : (f : DeskState) (a : PageAnswer) (task : Task) → IsTaskIn f p (Cause.PageCame a) task → task ≡ open_task_of a
  task-of-answer f (PageAnswer.Came t stamp bytes) task is = is
  task-of-answer f (PageAnswer.Taken t r stamp) task is = is
  task-of-answer f (PageAnswer.NotTaken t r stamp) task is = is

  stores-in : (c : Cause) (may : MayCome d p c) (turn : Turn) (f : DeskState) (dropped : List (ObjectName × ℕ)) → DeskMoves c turn p d f dropped → (task : Task) → Does c p f task → IsStoreIn f task
  stores-in (Cause.Accesses (DeskOp.Stores spot stored)) may turn f dropped made task does bytes work =
      let is : stored ≡ bytes = same-bytes stored bytes (sym does.given.1 ∙ work) in
      let fits = does.given.2 in
      let low : task.offset + length stored ≤ PAGE_BYTES * room_of (known_of task.uid f.known) = grind (arith, nat_tests, fits) in
      subst (λ b. task.offset + length b ≤ PAGE_BYTES * room_of (known_of task.uid f.known)) is low
  stores-in (Cause.Accesses (DeskOp.Loads spot count)) may turn f dropped made task does bytes work = absurd (not-load count bytes (sym does.given.1 ∙ work))
  stores-in (Cause.Accesses (DeskOp.Measures u)) may turn f dropped made task does bytes work = absurd does.given
  stores-in (Cause.Accesses (DeskOp.Maps u)) may turn f dropped made task does bytes work = absurd does.given
  stores-in (Cause.Accesses (DeskOp.Unmaps u)) may turn f dropped made task does bytes work = absurd does.given
  stores-in (Cause.PageCame a) may turn f dropped made task does bytes work = came-in a turn f dropped may.answer may.says made task (task-of-answer f a task does.given) bytes work
  stores-in (Cause.Locks u m) may turn f dropped made task does bytes work = absurd does.given
  stores-in (Cause.Releases delete u) may turn f dropped made task does bytes work = absurd does.given
  stores-in (Cause.AnswerCame a) may turn f dropped made task does bytes work = absurd does.given
  stores-in (Cause.AccessFailed t) may turn f dropped made task does bytes work = absurd does.given
  stores-in (Cause.CallFailed call) may turn f dropped made task does bytes work = absurd does.given

-- what a grant told of the call of this number
module _ (w : World) (P : ProcName) (u : ObjectName) (k : Mode) (number to : ℕ) (made : IsCallAt (w.calls P.node P.number) number to (Ask.Lock u k)) (grant stamp room len : ℕ) (kind : ObjKind) where
  note-room : (x : Place) (note : Note) → x.node ≡ u.home → IsAnswerAt u.home P number (Answer.Granted grant stamp kind room len) (record { place = x; note = note }) → IsDecided w x note → TellsRoom (w.nodes x.node).side.home note → IsRoomOf (w.nodes u.home).side.home u room len
  note-room x Note.Nothing at is decided tells = absurd is.1
  note-room x (Note.Began q op) at is decided tells = absurd is.1
  note-room x (Note.Did q phase op reply) at is decided tells = absurd is.1
  note-room x (Note.Ended t) at is decided tells = absurd is.1
  note-room x (Note.Decided q i ask answer) at is decided tells =
      let call : IsCallAt (w.calls P.node P.number) number x.node ask = subst (λ (r : ProcName). IsCallAt (w.calls r.node r.number) number x.node ask) is.1.0 (subst (λ j. IsCallAt (w.calls q.node q.number) j x.node ask) is.1.1 decided.1) in
      let asked : ask ≡ Ask.Lock u k = same-ask (numbered number (w.calls P.node P.number)) x.node to ask (Ask.Lock u k) call made in
      subst (λ a. TellsRoom (w.nodes a).side.home (Note.Decided q i (Ask.Lock u k) (Answer.Granted grant stamp kind room len))) at
      (subst (λ y. TellsRoom (w.nodes x.node).side.home (Note.Decided q i (Ask.Lock u k) y)) is.1.2 (subst (λ y. TellsRoom (w.nodes x.node).side.home (Note.Decided q i y answer)) asked tells))

  told-room : (notes : List Noted) → WasAnswered notes u.home P number (Answer.Granted grant stamp kind room len) → EachOf (λ (j : Noted). IsDecided w j.place j.note) notes → EachOf (λ (j : Noted). TellsRoom (w.nodes j.place.node).side.home j.note) notes
      → IsRoomOf (w.nodes u.home).side.home u room len
  told-room [] some decided tells = absurd some
  told-room (j ∷ older) (inl is) decided tells = note-room j.place j.note is.0 is decided.0 tells.0
  told-room (j ∷ older) (inr some) decided tells = told-room older some decided.1 tells.1

module _ (s : Setup) (setup : IsSetup s) (cs : List Choice) (old : World) (e : world_after s cs ≡ Some old) (timely : IsTimely old) (c : Choice) (new : World) (next : IsKeptNext s old c new) (right : AreKnownRight s old) where
  open event s old c new next use {n, step, after}

  -- what is right of a home stays so
  pub known-still : HomeStep (given s c.node) n c.what next.is.incoming step → (u : ObjectName) (o : Option Known) → IsKnownRight (old.nodes u.home).side.home u o → IsKnownRight (after.nodes u.home).side.home u o
  known-still home u o is = elim (cases_eq u.home c.node) [
    | inr away ↦ subst (λ (x : NodeState). IsKnownRight x.side.home u o) (sym (put-other old.nodes c.node u.home step.node away)) is
    | inl here ↦ subst (λ (x : NodeState). IsKnownRight x.side.home u o) (sym (put-same old.nodes c.node u.home step.node here)) (at_home o (subst (λ a. IsKnownRight (old.nodes a).side.home u o) here is))
  ]
    where
      at_home : (o : Option Known) → IsKnownRight n.side.home u o → IsKnownRight step.node.side.home u o
      at_home None is = tt
      at_home (Some k) is = by home
        where
          by : HomeStep (given s c.node) n c.what next.is.incoming step → IsRoomOf step.node.side.home u k.room k.length
          by (apart more same none) = subst (λ h. IsRoomOf h u k.room k.length) (sym same.0) is
          by (decides from index m ask answer takes frame asks more above now note decision) =
              subst (λ h. IsRoomOf h u k.room k.length) (sym decision.home) (room-decided u n.side.home n.side.locks _ ask k.room k.length (next.kept.nodes c.node next.is.node).side.home is)

  -- the desk of the node
  desk-right : NodeMove (given s c.node) n next.is.incoming step → (u : ObjectName) → IsKnownRight (old.nodes u.home).side.home u (known_of u step.node.desk.known)
  desk-right (still desk same quiet uncalled) u = subst (λ d. IsKnownRight (old.nodes u.home).side.home u (known_of u d.known)) (sym desk) (right c.node next.is.node u)
  desk-right (moved p o stage m proc is_at (desk_apart desk turn) at_desk doing others note call side) u = subst (λ d. IsKnownRight (old.nodes u.home).side.home u (known_of u d.known)) (sym (at_desk ∙ desk)) (right c.node next.is.node u)
  desk-right (moved p o stage m proc is_at (moves cause may of at_stage taken made) at_desk doing others note call side) u =
      subst (λ d. IsKnownRight (old.nodes u.home).side.home u (known_of u d.known)) (sym at_desk)
      (moves-right (old.nodes u.home).side.home u cause m.turn p
      (λ k grant stamp room len is.
      let got = got-row s setup old c new next (opens-at-homes s setup cs old e timely c.node next.is.node) (calls-at-homes s setup cs old e timely) (runs-carry s setup cs old e timely c.node next.is.node) (live-are s setup cs old e timely)
      p proc o stage m is_at at_desk doing call u k grant stamp room len cause may of taken is in
      told-room old (proc_at c.node p) u k (length (old.calls c.node p)) got.2 got.3 grant stamp room len got.4 old.trace got.5 next.decisions.each (rooms-told s setup cs old e timely))
      n.desk (stores-in n.desk p (runs-within s setup cs old e timely c.node next.is.node p proc) cause may m.turn) m.desk m.dropped made.moves (right c.node next.is.node u))

  all-right : NodeMove (given s c.node) n next.is.incoming step → HomeStep (given s c.node) n c.what next.is.incoming step → AreKnownRight s after
  all-right move home a node u = elim (cases_eq a c.node) [
    | inr away ↦ subst (λ (x : NodeState). IsKnownRight (after.nodes u.home).side.home u (known_of u x.desk.known)) (sym (put-other old.nodes c.node a step.node away)) (known-still home u (known_of u (old.nodes a).desk.known) (right a node u))
    | inl here ↦ subst (λ (x : NodeState). IsKnownRight (after.nodes u.home).side.home u (known_of u x.desk.known)) (sym (put-same old.nodes c.node a step.node here)) (known-still home u (known_of u step.node.desk.known) (desk-right move u))
  ]

  right-later : AreKnownRight s new
  right-later = subst (AreKnownRight s) (sym next.is.world)
      (all-right
      (desk-moves s setup old c new next)
      (event-home s old c new next))

-- in every run
pub known-are : (s : Setup) → IsSetup s → (cs : List Choice) (w : World) → world_after s cs ≡ Some w → IsTimely w → AreKnownRight s w
known-are s setup = every-kept-run s setup (setup-procs s setup) (AreKnownRight s) (λ n node u. tt) (λ cs old c new e timely next right. right-later s setup cs old e timely c new next right)
