-- In every run a grant tells the room of its object, as long as that is there.
use Rattle.std.proofs.Common.{◌≡◌, ℕ, ◌+◌, ◌≤◌, Bool, true, false, List, Option, Some, None, inl, inr, refl, sym, ap, subst, ◌∙◌, arith}
use Rattle.std.specs.Prelude.{◌==◌, nat_le, if◌then◌else◌, is_some}
use Rattle.std.proofs.lemmas.Bool.{cases_eq}
use Rattle.std.proofs.lemmas.Bool.Decides.{nat_tests}
use Rattle.uid_names.proofs.ListLemmas.{by_cases}
use Rattle.uid_names.specs.Names.{ProcName, ObjectName}
use Rattle.uid_names.specs.declared.mode.Mode.{Mode}
use Rattle.uid_names.specs.declared.mode.ObjKind.{ObjKind}
use Rattle.object_store.specs.declared.attributes.Attr.{Attr}
use Rattle.object_store.specs.Kept.{IsHome}
use Rattle.object_store.specs.Objects.{attr_at, room_of, with_change, stamped, resized, fresh}
use Rattle.object_store.specs.HomeStates.{HomeState, attr_of, after_make, after_remove, after_page, after_length}
use Rattle.object_store.proofs.RowLemmas.{attr_at-high, attr_at-without_row, room-with_change}
use Rattle.object_store.proofs.HomeLemmas.{attr_at-after_make, IsAttr-attr_of}
use Rattle.lock_manager.specs.Grants.{conflict_of}
use Rattle.lock_manager.specs.Tables.{Table}
use Rattle.ring_messages.specs.Bodies.{Ask, Answer}
use Rattle.page_server.specs.Decisions.{decide, lock_answer}
use Rattle.page_server.proofs.Given.{greatest-rises}
use Rattle.node_runs.specs.Setups.{Setup, IsSetup, given}
use Rattle.node_runs.specs.NodeStates.{NodeState}
use Rattle.node_runs.specs.NodesKeep.{IsTimely}
use Rattle.node_runs.specs.Notes.{Note}
use Rattle.node_runs.specs.Runs.{World, Noted, Choice, world_after}
use Rattle.node_runs.proofs.Receiving.{EachOf-more}
use Rattle.node_runs.proofs.Calls.{put-same, put-other}
use Rattle.node_runs.proofs.Decisions.{IsNoDecision, HomeStep, apart, decides}
use Rattle.node_runs.proofs.SettingUp.{setup-procs}
use Rattle.run_laws.proofs.HearingRuns.{IsKeptNext, every-kept-run, event, event-home}
use Rattle.run_laws.specs.ToldRooms.{IsRoomOf, GrantTells, AskTells, TellsRoom, AreRoomsTold}
use Rattle.run_laws.proofs.HomeObjects.{some-changed}

-- the attributes of an object are those of its row
module _ (u : ObjectName) where
  attr-is : (home : HomeState) → u.home ≡ home.node → attr_of home u ≡ attr_at home.objects u.counter
  attr-is home at = ap (λ b. if b then attr_at home.objects u.counter else None) (let e : (u.home == home.node) ≡ true = grind (arith, nat_tests, at) in e)

  there-at : (home : HomeState) → is_some (attr_of home u) ≡ true → u.home ≡ home.node
  there-at home is = by_cases (u.home == home.node) (u.home ≡ home.node) (λ h. grind (arith, nat_tests, h))
      (λ h. absurd (let e : false ≡ true = sym (ap (λ b. is_some (if b then attr_at home.objects u.counter else None)) h) ∙ is in cc))

  -- what is there afterwards was there, with the same room
  abbrev IsRoomStill : HomeState → HomeState → Type 0
  IsRoomStill old new = is_some (attr_of new u) ≡ true → (is_some (attr_of old u) ≡ true) × (room_of (attr_of new u) ≡ room_of (attr_of old u))

  changed-still : (home : HomeState) (change : Attr → Attr) (counter : ℕ) (pages : _) → ((attr : Attr) → (change attr).room ≡ attr.room) → IsRoomStill home (record home { objects = with_change change counter home.objects; pages = pages })
  changed-still home change counter pages keeps is =
      let new : HomeState = record home { objects = with_change change counter home.objects; pages = pages } in
      let at : u.home ≡ home.node = there-at new is in (
        ap is_some (attr-is home at) ∙ (sym (some-changed u change counter u.counter home.objects) ∙ (ap is_some (sym (attr-is new at)) ∙ is)),
        ap room_of (attr-is new at) ∙ (room-with_change change counter u.counter home.objects keeps ∙ ap room_of (sym (attr-is home at))),
      )

  removed-still : (home : HomeState) (counter : ℕ) → IsRoomStill home (after_remove home counter)
  removed-still home counter is =
      let new = after_remove home counter in
      let at : u.home ≡ home.node = there-at new is in
      let found : attr_of new u ≡ (if u.counter == counter then None else attr_of home u) = attr-is new at ∙ (attr_at-without_row counter u.counter home.objects ∙ ap (λ o. if u.counter == counter then None else o) (sym (attr-is home at))) in
      by (u.counter == counter) found
    where
      by : (b : Bool) → attr_of (after_remove home counter) u ≡ (if b then None else attr_of home u) → (is_some (attr_of home u) ≡ true) × (room_of (attr_of (after_remove home counter) u) ≡ room_of (attr_of home u))
      by true found = absurd (let e : false ≡ true = sym (ap is_some found) ∙ is in cc)
      by false found = (sym (ap is_some found) ∙ is, ap room_of found)

  made-still : (home : HomeState) (kind : ObjKind) (room : ℕ) → IsHome home → u.counter ≤ home.greatest → IsRoomStill home (after_make home kind room)
  made-still home kind room kept given is =
      let new = after_make home kind room in
      let at : u.home ≡ home.node = there-at new is in
      let other : (u.counter == home.greatest + 1) ≡ false = grind (arith, nat_tests, given) in
      let found : attr_of new u ≡ attr_of home u = attr-is new at ∙ (attr_at-after_make home kind room u.counter kept ∙ (ap (λ b. if b then Some (fresh kind room) else attr_at home.objects u.counter) other ∙ sym (attr-is home at))) in
      (sym (ap is_some found) ∙ is, ap room_of found)

  chosen-still : (home other : HomeState) (b : Bool) → IsRoomStill home other → IsRoomStill home (if b then other else home)
  chosen-still home other true still = still
  chosen-still home other false still = λ is. (is, refl)

  decide-still : (home : HomeState) (locks : Table) (q : ProcName) (ask : Ask) → IsHome home → u.counter ≤ home.greatest → IsRoomStill home (decide home locks q ask).home
  decide-still home locks q (Ask.PageIn v k) kept given = λ is. (is, refl)
  decide-still home locks q (Ask.PageOut v k grant base bytes) kept given = chosen-still home (after_page home v.counter k bytes) _ (changed-still home stamped v.counter (after_page home v.counter k bytes).pages (λ attr. refl))
  decide-still home locks q (Ask.AttrOut v n grant base) kept given = chosen-still home (after_length home v.counter n) _ (changed-still home (resized n) v.counter home.pages (λ attr. refl))
  decide-still home locks q (Ask.Lock v m) kept given = λ is. (is, refl)
  decide-still home locks q (Ask.Unlock v) kept given = λ is. (is, refl)
  decide-still home locks q (Ask.Remove v) kept given = chosen-still home (after_remove home v.counter) _ (removed-still home v.counter)
  decide-still home locks q (Ask.Make kind room) kept given = chosen-still home (after_make home kind room) _ (made-still home kind room kept given)
  decide-still home locks q (Ask.ListLocks after) kept given = λ is. (is, refl)

  pub room-decided : (home : HomeState) (locks : Table) (q : ProcName) (ask : Ask) (room length : ℕ) → IsHome home → IsRoomOf home u room length → IsRoomOf (decide home locks q ask).home u room length
  room-decided home locks q ask room length kept is = record {
    given = let e = is.given in let f = greatest-rises home locks q ask in omega (arith, e, f);
    room = λ there. let still = decide-still home locks q ask kept is.given there in still.1 ∙ is.room still.0;
    within = is.within;
  }

  -- what a grant tells
  granted-room : (home : HomeState) (attr : Option Attr) (conflict : Option (ProcName × Mode)) (grant : ℕ) → IsHome home → attr_of home u ≡ attr → GrantTells home u (lock_answer attr conflict grant)
  granted-room home None conflict grant kept found = tt
  granted-room home (Some attr) (Some held) grant kept found = tt
  granted-room home (Some attr) None grant kept found = record {
    given = by_cases (nat_le u.counter home.greatest) (u.counter ≤ home.greatest) (λ h. grind (arith, nat_tests, h))
        (λ h. absurd (
        let at = there-at home (ap is_some found) in
        let none = attr_at-high home.greatest u.counter home.objects kept.rows (grind (arith, nat_tests, h)) in
        let e : None ≡ Some attr = sym none ∙ (sym (attr-is home at) ∙ found) in cc));
    room = λ there. ap room_of found;
    within = (IsAttr-attr_of home u attr kept found).length_high;
  }

module _ (home : HomeState) (kept : IsHome home) (locks : Table) (q : ProcName) (ask : Ask) where
  -- an older grant
  grant-still : (u : ObjectName) (answer : Answer) → GrantTells home u answer → GrantTells (decide home locks q ask).home u answer
  grant-still u (Answer.Granted grant stamp kind room length) is = room-decided u home locks q ask room length kept is
  grant-still u (Answer.Page stamp bytes) is = tt
  grant-still u (Answer.Stored stamp) is = tt
  grant-still u (Answer.Stale stamp) is = tt
  grant-still u Answer.NoGrant is = tt
  grant-still u Answer.NoObject is = tt
  grant-still u (Answer.Conflict r m) is = tt
  grant-still u Answer.Done is = tt
  grant-still u (Answer.Made v) is = tt
  grant-still u Answer.NoSpace is = tt
  grant-still u (Answer.Listed rows more) is = tt

  ask-still : (asked : Ask) (answer : Answer) → AskTells home asked answer → AskTells (decide home locks q ask).home asked answer
  ask-still (Ask.Lock u m) answer is = grant-still u answer is
  ask-still (Ask.PageIn u k) answer is = tt
  ask-still (Ask.PageOut u k grant base bytes) answer is = tt
  ask-still (Ask.AttrOut u n grant base) answer is = tt
  ask-still (Ask.Unlock u) answer is = tt
  ask-still (Ask.Remove u) answer is = tt
  ask-still (Ask.Make kind room) answer is = tt
  ask-still (Ask.ListLocks after) answer is = tt

  note-still : (note : Note) → TellsRoom home note → TellsRoom (decide home locks q ask).home note
  note-still Note.Nothing is = tt
  note-still (Note.Began p op) is = tt
  note-still (Note.Did p phase op reply) is = tt
  note-still (Note.Ended t) is = tt
  note-still (Note.Decided p number asked answer) is = ask-still asked answer is

  -- the newest
  new-tells : (asked : Ask) → AskTells (decide home locks q asked).home asked (decide home locks q asked).answer
  new-tells (Ask.Lock u m) = granted-room u home (attr_of home u) (conflict_of q u m locks.grants) (locks.last + 1) kept refl
  new-tells (Ask.PageIn u k) = tt
  new-tells (Ask.PageOut u k grant base bytes) = tt
  new-tells (Ask.AttrOut u n grant base) = tt
  new-tells (Ask.Unlock u) = tt
  new-tells (Ask.Remove u) = tt
  new-tells (Ask.Make kind room) = tt
  new-tells (Ask.ListLocks after) = tt

quiet-tells : (home : HomeState) (note : Note) → IsNoDecision note → TellsRoom home note
quiet-tells home Note.Nothing quiet = tt
quiet-tells home (Note.Began p op) quiet = tt
quiet-tells home (Note.Did p phase op reply) quiet = tt
quiet-tells home (Note.Ended t) quiet = tt
quiet-tells home (Note.Decided p number ask answer) quiet = absurd quiet

module _ (s : Setup) (old : World) (c : Choice) (new : World) (next : IsKeptNext s old c new) (told : AreRoomsTold old) where
  open event s old c new next use {n, after}

  kept : IsHome n.side.home
  kept = (next.kept.nodes c.node next.is.node).side.home

  -- by node
  at-node : (a : ℕ) (note : Note) → (TellsRoom n.side.home note → TellsRoom next.is.step.node.side.home note) → TellsRoom (old.nodes a).side.home note → TellsRoom (after.nodes a).side.home note
  at-node a note here was = elim (cases_eq a c.node) [
    | inl same ↦ subst (λ (x : NodeState). TellsRoom x.side.home note) (sym (put-same old.nodes c.node a next.is.step.node same)) (here (subst (λ b. TellsRoom (old.nodes b).side.home note) same was))
    | inr away ↦ subst (λ (x : NodeState). TellsRoom x.side.home note) (sym (put-other old.nodes c.node a next.is.step.node away)) was
  ]

  here-now : TellsRoom next.is.step.node.side.home next.is.step.note → TellsRoom (after.nodes c.node).side.home next.is.step.note
  here-now is = subst (λ (x : NodeState). TellsRoom x.side.home next.is.step.note) (sym (put-same old.nodes c.node c.node next.is.step.node refl)) is

  all-told : HomeStep (given s c.node) n c.what next.is.incoming next.is.step → AreRoomsTold after
  all-told (apart more same none) = (
    here-now (quiet-tells next.is.step.node.side.home next.is.step.note none),
    EachOf-more (λ (j : Noted). TellsRoom (old.nodes j.place.node).side.home j.note) (λ (j : Noted). TellsRoom (after.nodes j.place.node).side.home j.note) old.trace (λ j was. at-node j.place.node j.note (λ is. subst (λ h. TellsRoom h j.note) (sym same.0) is) was) told,
  )
  all-told (decides from index m ask answer takes frame asks more above now note decision) = (
    here-now (subst (TellsRoom next.is.step.node.side.home) (sym note)
        (subst (λ h. AskTells h ask answer) (sym decision.home) (subst (AskTells (decide n.side.home n.side.locks _ ask).home ask) (sym decision.told) (new-tells n.side.home kept n.side.locks _ ask ask)))),
    EachOf-more (λ (j : Noted). TellsRoom (old.nodes j.place.node).side.home j.note) (λ (j : Noted). TellsRoom (after.nodes j.place.node).side.home j.note) old.trace
        (λ j was. at-node j.place.node j.note (λ is. subst (λ h. TellsRoom h j.note) (sym decision.home) (note-still n.side.home kept n.side.locks _ ask j.note is)) was) told,
  )

  told-later : AreRoomsTold new
  told-later = subst AreRoomsTold (sym next.is.world)
      (all-told (event-home s old c new next))

-- in every run
pub rooms-told : (s : Setup) → IsSetup s → (cs : List Choice) (w : World) → world_after s cs ≡ Some w → IsTimely w → AreRoomsTold w
rooms-told s setup = every-kept-run s setup (setup-procs s setup) AreRoomsTold tt (λ cs old c new e timely next told. told-later s old c new next told)
