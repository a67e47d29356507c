-- A decision of a home keeps contents: of an object of which it writes nothing, and of one of which it takes a write.
use Rattle.std.proofs.Common.{◌≡◌, ◌≢◌, ℕ, ◌+◌, ◌≤◌, ◌<◌, true, false, ◌∷◌, Some, None, ◌⊎◌, inl, inr, sym, ap, subst, ◌∙◌, arith}
use Rattle.std.specs.Prelude.{◌==◌, ◌&&◌, nat_le, max, is_some, IfSome}
use Rattle.std.proofs.lemmas.Bool.{cases_eq}
use Rattle.std.proofs.lemmas.Bool.Decides.{nat_tests}
use Rattle.std.proofs.lemmas.Option.{same_Some}
use Rattle.uid_names.specs.Names.{ProcName, ObjectName, same_uid}
use Rattle.uid_names.specs.declared.ids.Place.{Place}
use Rattle.uid_names.specs.declared.mode.Mode.{Mode}
use Rattle.uid_names.proofs.ListLemmas.{by_cases}
use Rattle.uid_names.proofs.Passed.{le-passes}
use Rattle.version_stamps.specs.Stamps.{stamp_of as seen_of}
use Rattle.dom_history.specs.Objects.{is_node}
use Rattle.object_store.specs.Kept.{IsHome}
use Rattle.object_store.specs.HomeStates.{HomeState, attr_of}
use Rattle.object_store.specs.Rules.{has_page, has_length, stamp_of}
use Rattle.lock_manager.specs.Grants.{grant_of, held_in}
use Rattle.lock_manager.specs.Tables.{Table}
use Rattle.ring_messages.specs.Bodies.{Ask, Answer}
use Rattle.page_server.specs.Decisions.{decide, is_granted}
use Rattle.fault_handler.specs.Desks.{DeskState, base_of}
use Rattle.fault_handler.specs.Invariant.{IsProc}
use Rattle.node_runs.specs.Setups.{Setup}
use Rattle.node_runs.specs.Notes.{Note}
use Rattle.node_runs.specs.Runs.{World, Noted, numbered}
use Rattle.node_runs.specs.CallsKeep.{IsCallAt, IsOpenAt}
use Rattle.run_laws.specs.DecidedReplies.{proc_at, WasAnswered}
use Rattle.run_laws.proofs.HearingRuns.{same-ask}
use Rattle.run_laws.specs.OpenCalls.{Carries, CarriesOpen}
use Rattle.run_laws.proofs.HomeObjects.{there_after, decide-there}
use Rattle.run_laws.specs.LiveLocks.{row_at, locks_of, served_of}
use Rattle.run_laws.specs.Items.{Item, Value, same_item, desk_value, is_dirty_at, Write, write_of}
use Rattle.run_laws.specs.Contents.{value_if, left_by, content, told_with, since}
use Rattle.run_laws.specs.Stamps.{home_at, stamp_at, IsThere, IsStampOf}
use Rattle.run_laws.specs.Writes.{HasRoom, MayStore, IsUnchanged, IsAcknowledged}
use Rattle.run_laws.specs.DeskContents.{AreContents}
use Rattle.run_laws.proofs.Decisions.{ObjectStep, stays, stores, gone, decide-object, RowStep, was_there, now_granted, decide-row, row-given, granted-before}
use Rattle.run_laws.proofs.Traces.{item-is, item-itself, content-unwritten, content-away, since-away, since-other, content-below, content-beside, content-written, since-granted, told-before, content-late}
use Rattle.run_laws.proofs.ObjectChanges.{there-given}
use Rattle.run_laws.proofs.Gone.{room-there}
use Rattle.run_laws.proofs.WriteCalls.{carries-writer, writer-row}
use Rattle.run_laws.proofs.Lawful.{IsLawful, ack-stamp, one-writer}
use Rattle.run_laws.proofs.Quiet.{AreContentsOf, quiet-contents, IsDeskStill, ack-same, still-step}

-- tests of numbers
apart-is : (a b : ℕ) → a ≢ b → (b == a) ≡ false
apart-is a b differs = grind (arith, nat_tests, differs)

low-is : (i n : ℕ) → nat_le i n ≡ true → i ≤ n
low-is i n is = grind (arith, nat_tests, is)

high-is : (i n : ℕ) → nat_le i n ≡ false → n < i
high-is i n is = grind (arith, nat_tests, is)

-- a home decides a call, and the desks stay
pub record IsDecidedStep (old after : World) : Type 0 where
  pub place : Place
  pub caller : ProcName
  pub owner : IsProc caller.number
  pub number : ℕ
  pub ask : Ask
  pub answer : Answer
  pub trace : after.trace ≡ record { place = place; note = Note.Decided caller number ask answer } ∷ old.trace
  pub call : IsCallAt (old.calls caller.node caller.number) number place.node ask
  pub kept : IsHome (old.nodes place.node).side.home
  pub home : (after.nodes place.node).side.home ≡ (decide (old.nodes place.node).side.home (old.nodes place.node).side.locks caller ask).home
  pub locks : (after.nodes place.node).side.locks ≡ (decide (old.nodes place.node).side.home (old.nodes place.node).side.locks caller ask).locks
  pub told : answer ≡ (decide (old.nodes place.node).side.home (old.nodes place.node).side.locks caller ask).answer
  pub away : (a : ℕ) → a ≢ place.node → ((after.nodes a).side.home ≡ (old.nodes a).side.home) × ((after.nodes a).side.locks ≡ (old.nodes a).side.locks)
  pub fresh : served_of old caller place.node < number
  pub served : (p : ProcName) (a : ℕ) → served_of old p a ≤ served_of after p a
  pub desks : (a : ℕ) → IsDeskStill old after a

-- of an object that is not there nothing is said
pub none-contents : (s : Setup) (w : World) (u : ObjectName) → (IsThere w u → ⊥) → AreContentsOf s w u
none-contents s w u none = record {
  acknowledged = λ a p node x v t there ack. absurd (none there);
  harmless = λ a p node x v there clean m. absurd (none there);
  quiet = λ a p node proc x m grant there row clean t above below. absurd (none there);
  as_seen = λ a node x v t there shows clean seen. absurd (none there);
}

-- an object comes to be there only by its making
made-ask : (u : ObjectName) (ask : Ask) (answer : Answer) → there_after u ask answer false ≡ true → (m : Mode) → ask ≡ Ask.Lock u m → ⊥
made-ask u ask answer there m is = absurd (let e : there_after u (Ask.Lock u m) answer false ≡ true = subst (λ a. there_after u a answer false ≡ true) is there in cc)

written-ask : (u : ObjectName) (ask : Ask) (answer : Answer) (written : Write) → write_of ask ≡ Some written → there_after u ask answer false ≡ true → ⊥
written-ask u (Ask.PageOut v k grant base bytes) answer written is there = absurd (cc)
written-ask u (Ask.AttrOut v n grant base) answer written is there = absurd (cc)
written-ask u (Ask.PageIn v k) answer written is there = absurd (cc)
written-ask u (Ask.Lock v m) answer written is there = absurd (cc)
written-ask u (Ask.Unlock v) answer written is there = absurd (cc)
written-ask u (Ask.Remove v) answer written is there = absurd (cc)
written-ask u (Ask.Make kind room) answer written is there = absurd (cc)
written-ask u (Ask.ListLocks from) answer written is there = absurd (cc)

-- the room of an object is told by its attributes
room-same : (h g : HomeState) (u : ObjectName) → attr_of h u ≡ attr_of g u → (x : Item) (v : Value) → HasRoom h u x v → HasRoom g u x v
room-same h g u same (Item.Page k) v room = subst (λ o. has_page o k ≡ true) same room
room-same h g u same Item.Size (Value.Length n) room = subst (λ o. has_length o n ≡ true) same room
room-same h g u same Item.Size (Value.Bytes bytes) room = absurd room

module _ (s : Setup) (old after : World) (is : IsDecidedStep old after) (law : IsLawful s old) (law_after : IsLawful s after) (were : AreContents s old) (u : ObjectName) where
  abbrev h : ℕ
  h = is.place.node

  abbrev mark : Noted
  mark = record { place = is.place; note = Note.Decided is.caller is.number is.ask is.answer }

  -- what was answered now, or before
  answered-then : (p : ProcName) (i t : ℕ) → WasAnswered after.trace u.home p i (Answer.Stored t) → ((h ≡ u.home) × (is.caller ≡ p) × (is.number ≡ i) × (is.answer ≡ Answer.Stored t)) ⊎ WasAnswered old.trace u.home p i (Answer.Stored t)
  answered-then p i t some = elim (subst (λ tr. WasAnswered tr u.home p i (Answer.Stored t)) is.trace some) [
    | inl now ↦ inl (now.0, now.1.0, now.1.1, now.1.2)
    | inr before ↦ inr before
  ]

  -- the open write that is answered now asks what was decided
  asked-now : (a p : ℕ) (x : Item) (v : Value) (t : ℕ) → (ack : IsAcknowledged after a p u x v t) → is.caller ≡ proc_at a p → is.number ≡ ack.open_call.waiting.number → write_of is.ask ≡ Some (record { uid = u; item = x; value = v; grant = ack.grant; base = ack.base })
  asked-now a p x v t ack same numbered_so =
      let open_one : IsCallAt (after.calls a p) ack.open_call.waiting.number ack.open_call.home ack.open_call.ask = subst (IsOpenAt (after.calls a p)) ack.doing (law_after.made.opened a p ack.owner) in
      let mine : IsCallAt (old.calls a p) ack.open_call.waiting.number ack.open_call.home ack.open_call.ask = subst (λ cs. IsCallAt cs ack.open_call.waiting.number ack.open_call.home ack.open_call.ask) ((is.desks a).calls p) open_one in
      let decided : IsCallAt (old.calls a p) ack.open_call.waiting.number h is.ask = subst (λ i. IsCallAt (old.calls a p) i h is.ask) numbered_so (subst (λ (r : ProcName). IsCallAt (old.calls r.node r.number) is.number h is.ask) same is.call) in
      let asks : is.ask ≡ ack.open_call.ask = same-ask (numbered ack.open_call.waiting.number (old.calls a p)) h ack.open_call.home is.ask ack.open_call.ask decided mine in
      ap write_of asks ∙ ack.writes

  stamps : (b q : ℕ) (w : ObjectName) (y : Item) (z : Value) (t : ℕ) → IsAcknowledged old b q w y z t → IsStampOf old w t
  stamps = ack-stamp s old law

  -- at another home
  away-contents : u.home ≢ h → AreContentsOf s after u
  away-contents away =
      let same = is.away u.home away in
      let differs : (h == u.home) ≡ false = apart-is u.home h away in
      let since_same : (grant : ℕ) → since after.trace u grant ≡ since old.trace u grant = λ grant. ap (λ tr. since tr u grant) is.trace ∙ since-away is.place is.caller is.number is.ask is.answer old.trace u differs grant in
      quiet-contents s old after u (record {
        content = λ t x. ap (λ tr. content tr u t x) is.trace ∙ content-away is.place is.caller is.number is.ask is.answer old.trace u differs x t;
        stamp = ap (λ (g : HomeState). stamp_of (attr_of g u)) same.0;
        there = λ there. subst (λ (g : HomeState). is_some (attr_of g u) ≡ true) same.0 there;
        room = λ x v room. subst (λ g. HasRoom g u x v) same.0 room;
        rows = λ p m grant row. inl (sym (ap (λ (t : Table). held_in (grant_of p u t.grants)) same.1) ∙ row, since_same grant);
        granted = λ grant a given on. subst (λ (t : Table). is_granted t grant u a ≡ true) same.1 on;
        served = λ p. is.served p u.home;
      })
      (λ there a node. still-step s old after were a node (is.desks a) u there (λ p x v t ack. elim (answered-then (proc_at a p) ack.open_call.waiting.number t ack.answered) [
        | inl now ↦ absurd (away (sym now.0))
        | inr before ↦ before
      ]))
      law_after.carried law.given were stamps

  module _ (at : h ≡ u.home) where
    abbrev home : HomeState
    home = (old.nodes h).side.home

    abbrev table : Table
    table = (old.nodes h).side.locks

    new-home : home_at after u ≡ (decide home table is.caller is.ask).home
    new-home = ap (λ a. (after.nodes a).side.home) (sym at) ∙ is.home

    old-home : home_at old u ≡ home
    old-home = ap (λ a. (old.nodes a).side.home) (sym at)

    new-locks : locks_of after u.home ≡ (decide home table is.caller is.ask).locks
    new-locks = ap (λ a. (after.nodes a).side.locks) (sym at) ∙ is.locks

    old-locks : locks_of old u.home ≡ table
    old-locks = ap (λ a. (old.nodes a).side.locks) (sym at)

    abbrev RowThen : ProcName → Mode → ℕ → Type 0
    RowThen p m grant = RowStep p u home table is.caller is.ask (decide home table is.caller is.ask).answer m grant

    row-then : (p : ProcName) (m : Mode) (grant : ℕ) → row_at (locks_of after) p u ≡ Some (m, grant) → RowThen p m grant
    row-then p m grant row = decide-row p u home table is.caller m grant is.ask (sym (ap (λ (t : Table). held_in (grant_of p u t.grants)) new-locks) ∙ row)

    old-row : (p : ProcName) (m : Mode) (grant : ℕ) → held_in (grant_of p u table.grants) ≡ Some (m, grant) → row_at (locks_of old) p u ≡ Some (m, grant)
    old-row p m grant row = ap (λ (t : Table). held_in (grant_of p u t.grants)) old-locks ∙ row

    since-before : (p : ProcName) (m : Mode) (grant : ℕ) → held_in (grant_of p u table.grants) ≡ Some (m, grant) → since after.trace u grant ≡ since old.trace u grant
    since-before p m grant row =
        ap (λ tr. since tr u grant) is.trace
        ∙ since-other is.place is.caller is.number is.ask is.answer old.trace u grant (ap (told_with u grant is.ask) is.told ∙ told-before home table is.caller u grant (row-given p u m grant table (law.tables h) row) is.ask)

    granted-was : (grant a : ℕ) → grant ≤ (locks_of old u.home).last → is_granted (locks_of after u.home) grant u a ≡ true → is_granted (locks_of old u.home) grant u a ≡ true
    granted-was grant a given on =
        ap (λ (t : Table). is_granted t grant u a) old-locks
        ∙ granted-before grant u a home table (locks_of after u.home) is.caller is.ask (law_after.tables u.home) new-locks (let e = ap (λ (t : Table). t.last) old-locks in omega (arith, given, e)) on

    -- nothing of it is written
    stays-contents : attr_of (decide home table is.caller is.ask).home u ≡ attr_of home u → ((x : Item) (t : ℕ) → left_by u x t (write_of is.ask) is.answer ≡ None) → AreContentsOf s after u
    stays-contents same left = quiet-contents s old after u (record {
      content = λ t x. ap (λ tr. content tr u t x) is.trace ∙ content-unwritten is.place is.caller is.number is.ask is.answer old.trace u x t (left x t);
      stamp = ap stamp_of attrs;
      there = λ there. ap is_some (sym attrs) ∙ there;
      room = room-same (home_at after u) (home_at old u) u attrs;
      rows = λ p m grant row. elim (row-then p m grant row) [
        | was_there before ↦ inl (old-row p m grant before, since-before p m grant before)
        | now_granted kind room n own asks tells next ↦ inr
            (ap (λ tr. since tr u grant) is.trace ∙ since-granted is.place is.caller is.number is.ask is.answer old.trace u m grant (stamp_of (attr_of home u)) room n kind asks (is.told ∙ tells) at
            ∙ ap stamp_of (sym (ap (λ g. attr_of g u) new-home ∙ same)))
      ];
      granted = granted-was;
      served = λ p. is.served p u.home;
    })
        (λ there a node. still-step s old after were a node (is.desks a) u there (λ p x v t ack. elim (answered-then (proc_at a p) ack.open_call.waiting.number t ack.answered) [
          | inl now ↦ absurd (
              let e : value_if (same_uid u u && (same_item x x && nat_le t t)) (record { uid = u; item = x; value = v; grant = ack.grant; base = ack.base }) ≡ None =
              sym (ap (λ o. left_by u x t o is.answer) (asked-now a p x v t ack now.1 now.2) ∙ ap (left_by u x t (Some (record { uid = u; item = x; value = v; grant = ack.grant; base = ack.base }))) now.3) ∙ left x t in
              shown-none u x v t ack.grant ack.base e)
          | inr before ↦ before
        ]))
        law_after.carried law.given were stamps
      where
        attrs : attr_of (home_at after u) u ≡ attr_of (home_at old u) u
        attrs = ap (λ g. attr_of g u) new-home ∙ (same ∙ ap (λ g. attr_of g u) (sym old-home))

        shown-none : (u : ObjectName) (x : Item) (v : Value) (t grant base : ℕ) → value_if (same_uid u u && (same_item x x && nat_le t t)) (record { uid = u; item = x; value = v; grant = grant; base = base }) ≡ None → ⊥
        shown-none u x v t grant base none = absurd (
            let a : same_uid u u ≡ true = grind (arith, nat_tests) in
            let b : nat_le t t ≡ true = grind (arith, nat_tests) in
            let e : Some v ≡ None = sym (ap (λ y. value_if (y && (same_item x x && nat_le t t)) (record { uid = u; item = x; value = v; grant = grant; base = base })) a
            ∙ (ap (λ y. value_if (y && nat_le t t) (record { uid = u; item = x; value = v; grant = grant; base = base })) (item-itself x) ∙ ap (λ y. value_if y (record { uid = u; item = x; value = v; grant = grant; base = base })) b)) ∙ none in
            cc)

    -- a write of it is taken
    module _ (w : Write) (writes : write_of is.ask ≡ Some w) (on : w.uid ≡ u) (stored : is.answer ≡ Answer.Stored (stamp_of (attr_of home u) + 1)) (base : w.base ≡ stamp_of (attr_of home u)) (granted : is_granted table w.grant u is.caller.node ≡ true)
        (room : HasRoom home u w.item w.value) (stamp : stamp_of (attr_of (decide home table is.caller is.ask).home u) ≡ stamp_of (attr_of home u) + 1) (was_there_home : is_some (attr_of home u) ≡ true) where
      abbrev most : ℕ
      most = stamp_at old u

      same-most : stamp_of (attr_of home u) ≡ most
      same-most = ap (λ g. stamp_of (attr_of g u)) (sym old-home)

      new-most : stamp_at after u ≡ most + 1
      new-most = ap (λ g. stamp_of (attr_of g u)) new-home ∙ (stamp ∙ ap (λ i. i + 1) same-most)

      there : IsThere old u
      there = ap (λ g. is_some (attr_of g u)) old-home ∙ was_there_home

      now : is.answer ≡ Answer.Stored (most + 1)
      now = stored ∙ ap (λ i. Answer.Stored (i + 1)) same-most

      below-same : (x : Item) (t : ℕ) → t ≤ most → content after.trace u t x ≡ content old.trace u t x
      below-same x t below = ap (λ tr. content tr u t x) is.trace ∙ content-below is.place is.caller is.number is.ask is.answer old.trace u w (most + 1) writes now x t (omega (arith, below))

      beside-same : (x : Item) → same_item w.item x ≡ false → content after.trace u (most + 1) x ≡ content old.trace u most x
      beside-same x differs =
          ap (λ tr. content tr u (most + 1) x) is.trace
          ∙ (content-beside is.place is.caller is.number is.ask is.answer old.trace u w (most + 1) writes now x (most + 1) differs ∙ content-late old u there (most + 1) (omega arith) x law.stamped.told)

      written-now : content after.trace u (most + 1) w.item ≡ w.value
      written-now = ap (λ tr. content tr u (most + 1) w.item) is.trace ∙ content-written is.place is.caller is.number is.ask is.answer old.trace u w (most + 1) writes now (most + 1) (omega arith) on at

      -- it might be taken
      might : (a : ℕ) → a ≡ is.caller.node → (x : Item) → w.item ≡ x → MayStore old a is.caller.number u x w.value
      might a same x item = record {
        owner = is.owner;
        number = is.number;
        ask = is.ask;
        call = subst (λ b. IsCallAt (old.calls b is.caller.number) is.number u.home is.ask) (sym same) (subst (λ b. IsCallAt (old.calls is.caller.node is.caller.number) is.number b is.ask) at is.call);
        undecided = subst (λ b. served_of old (proc_at b is.caller.number) u.home < is.number) (sym same) (subst (λ b. served_of old is.caller b < is.number) at is.fresh);
        grant = w.grant;
        writes = writes ∙ (ap (λ v. Some (let y : Write = record { uid = v; item = w.item; value = w.value; grant = w.grant; base = w.base } in y)) on
            ∙ (ap (λ i. Some (let y : Write = record { uid = u; item = i; value = w.value; grant = w.grant; base = w.base } in y)) item
            ∙ ap (λ b. Some (let y : Write = record { uid = u; item = x; value = w.value; grant = w.grant; base = b } in y)) (base ∙ same-most)));
        room = subst (λ g. HasRoom g u x w.value) (sym old-home) (subst (λ i. HasRoom home u i w.value) item room);
        granted = ap (λ (t : Table). is_granted t w.grant u a) old-locks ∙ subst (λ b. is_granted table w.grant u b ≡ true) (sym same) granted;
      }

      -- no other write may be taken then
      none-may : (a p : ℕ) → is_node s.opening a ≡ true → (x : Item) (v : Value) → MayStore after a p u x v → ⊥
      none-may a p node x v m =
          let call : IsCallAt (old.calls a p) m.number u.home m.ask = subst (λ cs. IsCallAt cs m.number u.home m.ask) ((is.desks a).calls p) m.call in
          let e = (law.stamped.bases a p node m.owner m.number u.home m.ask (record { uid = u; item = x; value = v; grant = m.grant; base = stamp_at after u }) call m.writes).most there in
          let f = new-most in
          absurd (omega (arith, e, f))

      writer-is : (a p : ℕ) (m : Mode) (grant : ℕ) → row_at (locks_of old) (proc_at a p) u ≡ Some (m, grant) → a ≡ is.caller.node
      writer-is a p m grant row = one-writer (locks_of old) a p is.caller.node u m grant w.grant (law.tables u.home) row (ap (λ (t : Table). is_granted t w.grant u is.caller.node) old-locks ∙ granted)

      ack-writer : (a p : ℕ) → is_node s.opening a ≡ true → (x : Item) (v : Value) (t : ℕ) → IsAcknowledged old a p u x v t → a ≡ is.caller.node
      ack-writer a p node x v t ack =
          let carries : Carries (old.nodes a).desk p ack.open_call.ask = subst (CarriesOpen (old.nodes a).desk p) ack.doing (law.carried a node p ack.owner) in
          let writer = carries-writer (old.nodes a).desk p ack.owner ack.open_call.ask (record { uid = u; item = x; value = v; grant = ack.grant; base = ack.base }) ack.writes carries in
          let row = writer-row old law.live a writer.0 writer.1 u ack.grant writer.2 in
          writer-is a row.number row.mode ack.grant row.row

      top : (a : ℕ) → is_node s.opening a ≡ true → a ≡ is.caller.node → (x : Item) → is_dirty_at (old.nodes a).desk u x ≡ false → content after.trace u (most + 1) x ≡ content old.trace u most x
      top a node same x clean = by_cases (same_item w.item x) (content after.trace u (most + 1) x ≡ content old.trace u most x)
          (λ on_it.
          let item = item-is w.item x on_it in
          subst (λ i. content after.trace u (most + 1) i ≡ w.value) item written-now ∙ were.harmless a is.caller.number node u x w.value there clean (might a same x item))
          (λ differs. beside-same x differs)

      same-write : (y z : Write) → write_of is.ask ≡ Some y → write_of is.ask ≡ Some z → y ≡ z
      same-write y z one two = same_Some y z (sym one ∙ two)

      stored-same : (i j : ℕ) → is.answer ≡ Answer.Stored i → is.answer ≡ Answer.Stored j → i ≡ j
      stored-same i j one two = same i j (sym one ∙ two)
        where
          same : (i j : ℕ) → Answer.Stored i ≡ Answer.Stored j → i ≡ j
          same i j e = cc

      clean-was : (a : ℕ) (x : Item) → is_dirty_at (after.nodes a).desk u x ≡ false → is_dirty_at (old.nodes a).desk u x ≡ false
      clean-was a x clean = subst (λ d. is_dirty_at d u x ≡ false) (is.desks a).desk clean

      -- what is acknowledged now, and what was before
      ack-stays : (a p : ℕ) → is_node s.opening a ≡ true → (x : Item) (v : Value) (t : ℕ) → IsAcknowledged after a p u x v t → (i : ℕ) → t ≤ i → i ≤ most + 1 → content after.trace u i x ≡ v
      ack-stays a p node x v t ack i above below = elim (answered-then (proc_at a p) ack.open_call.waiting.number t ack.answered) [
        | inl so ↦
            (let same = same-write w (record { uid = u; item = x; value = v; grant = ack.grant; base = ack.base }) writes (asked-now a p x v t ack so.1 so.2) in
            let up = stored-same t (most + 1) so.3 now in
            let last : i ≡ most + 1 = omega (arith, above, below, up) in
            subst (λ j. content after.trace u j x ≡ v) (sym last)
            (subst (λ (y : Write). content after.trace u (most + 1) y.item ≡ y.value) same written-now))
        | inr before ↦
            (let was = ack-same old after a p ack.owner ((is.desks a).doing p ack.owner) u x v t ack before (subst (λ d. IsUnchanged d u x v) (is.desks a).desk ack.unchanged) in
            let kept = were.acknowledged a p node u x v t there was in
            let low = (stamps a p u x v t was).most there in
            by_cases (nat_le i most) (content after.trace u i x ≡ v)
            (λ early. let e : i ≤ most = low-is i most early in below-same x i e ∙ kept.stays i above e)
            (λ late.
            let last : i ≡ most + 1 = (let e = high-is i most late in omega (arith, e, below)) in
            subst (λ j. content after.trace u j x ≡ v) (sym last)
            (by_cases (same_item w.item x) (content after.trace u (most + 1) x ≡ v)
            (λ on_it.
            let item = item-is w.item x on_it in
            subst (λ i. content after.trace u (most + 1) i ≡ w.value) item written-now ∙ kept.alike is.caller.number w.value (might a (ack-writer a p node x v t was) x item))
            (λ differs. beside-same x differs ∙ kept.stays most low (omega arith)))))
      ]

      quiet-now : (a p : ℕ) → is_node s.opening a ≡ true → IsProc p → (x : Item) (m : Mode) (grant : ℕ) → row_at (locks_of after) (proc_at a p) u ≡ Some (m, grant) → is_dirty_at (after.nodes a).desk u x ≡ false → (t : ℕ) → max (since after.trace u grant) (base_of (after.nodes a).desk.seen u) ≤ t
          → t ≤ most + 1 → content after.trace u t x ≡ content after.trace u (most + 1) x
      quiet-now a p node proc x m grant row clean t above below = elim (row-then (proc_at a p) m grant row) [
        | now_granted kind rm n own asks tells next ↦ absurd (let e : None ≡ Some w = sym (ap write_of asks) ∙ writes in cc)
        | was_there before ↦ by_cases (nat_le t most) (content after.trace u t x ≡ content after.trace u (most + 1) x)
            (λ early.
            let low : t ≤ most = low-is t most early in
            let e = since-before (proc_at a p) m grant before in
            let f = ap (λ (d : DeskState). base_of d.seen u) (is.desks a).desk in
            let row_was = old-row (proc_at a p) m grant before in
            below-same x t low ∙ (were.quiet a p node proc u x m grant there row_was (clean-was a x clean) t (omega (arith, above, e, f)) low ∙ sym (top a node (writer-is a p m grant row_was) x (clean-was a x clean))))
            (λ late. let last : t ≡ most + 1 = (let e = high-is t most late in omega (arith, e, below)) in ap (λ j. content after.trace u j x) last)
      ]

      stored-contents : AreContentsOf s after u
      stored-contents = record {
        acknowledged = λ a p node x v t there_after ack. record {
          stays = λ i above below. ack-stays a p node x v t ack i above (let e = new-most in omega (arith, below, e));
          alike = λ q other m. absurd (none-may a q node x other m);
        };
        harmless = λ a p node x v there_after clean m. absurd (none-may a p node x v m);
        quiet = λ a p node proc x m grant there_after row clean t above below.
            quiet-now a p node proc x m grant row clean t above (let e = new-most in omega (arith, below, e)) ∙ ap (λ j. content after.trace u j x) (sym new-most);
        as_seen = λ a node x v t there_after shows clean seen.
            let seen_was : seen_of u (old.nodes a).desk.seen ≡ Some t = subst (λ (d : DeskState). seen_of u d.seen ≡ Some t) (is.desks a).desk seen in
            let low = (subst (λ o. IfSome o (IsStampOf old u)) seen_was (law.stamped.seen a node u)).most there in
            were.as_seen a node u x v t there (subst (λ d. desk_value d u x ≡ Some v) (is.desks a).desk shows) (clean-was a x clean) seen_was ∙ sym (below-same x t low);
      }

    -- an object that is made
    module _ (ungiven : u.counter ≤ home.greatest → ⊥) where
      not-given : u.counter ≤ (home_at old u).greatest → ⊥
      not-given is_given = ungiven (let e = ap (λ (g : HomeState). g.greatest) old-home in omega (arith, is_given, e))

      not-there : is_some (attr_of home u) ≡ false
      not-there = by_cases (is_some (attr_of home u)) (is_some (attr_of home u) ≡ false) (λ yes. absurd (ungiven (there-given home u is.kept yes))) (λ h. h)

      made : IsThere after u → there_after u is.ask (decide home table is.caller is.ask).answer false ≡ true
      made there = sym (ap (λ b. there_after u is.ask (decide home table is.caller is.ask).answer b) not-there) ∙ (sym (decide-there u home table is.caller is.ask) ∙ (ap (λ g. is_some (attr_of g u)) (sym new-home) ∙ there))

      ungiven-contents : AreContentsOf s after u
      ungiven-contents = record {
        acknowledged = λ a p node x v t there ack. elim (answered-then (proc_at a p) ack.open_call.waiting.number t ack.answered) [
          | inl so ↦ absurd (written-ask u is.ask (decide home table is.caller is.ask).answer (record { uid = u; item = x; value = v; grant = ack.grant; base = ack.base }) (asked-now a p x v t ack so.1 so.2) (made there))
          | inr before ↦ absurd (not-given (stamps a p u x v t (ack-same old after a p ack.owner ((is.desks a).doing p ack.owner) u x v t ack before (subst (λ d. IsUnchanged d u x v) (is.desks a).desk ack.unchanged))).given)
        ];
        harmless = λ a p node x v there clean m.
            let call : IsCallAt (old.calls a p) m.number u.home m.ask = subst (λ cs. IsCallAt cs m.number u.home m.ask) ((is.desks a).calls p) m.call in
            absurd (not-given (law.stamped.bases a p node m.owner m.number u.home m.ask (record { uid = u; item = x; value = v; grant = m.grant; base = stamp_at after u }) call m.writes).given);
        quiet = λ a p node proc x m grant there row clean t above below. elim (row-then (proc_at a p) m grant row) [
          | was_there before ↦ absurd (let e : true ≡ false = sym (law.rows (proc_at a p) u (m, grant) (old-row (proc_at a p) m grant before)) ∙ (ap (λ g. is_some (attr_of g u)) old-home ∙ not-there) in cc)
          | now_granted kind rm n own asks tells next ↦ absurd (made-ask u is.ask (decide home table is.caller is.ask).answer (made there) m asks)
        ];
        as_seen = λ a node x v t there shows clean seen. absurd (not-given (subst (λ o. IfSome o (IsStampOf old u)) (subst (λ (d : DeskState). seen_of u d.seen ≡ Some t) (is.desks a).desk seen) (law.stamped.seen a node u)).given);
      }

    by-step : ObjectStep u home table is.caller is.ask (decide home table is.caller is.ask).answer (decide home table is.caller is.ask).home → AreContentsOf s after u
    by-step (stays same left) = stays-contents same (λ x t. ap (left_by u x t (write_of is.ask)) is.told ∙ left x t)
    by-step (stores w writes on answer base granted room stamp) = stored-contents w writes on (is.told ∙ answer) base granted room stamp (room-there home u w.item w.value room)
    by-step (gone none) = none-contents s after u (λ there. absurd (let e : true ≡ false = sym there ∙ (ap (λ g. is_some (attr_of g u)) new-home ∙ none) in cc))

    here-contents : AreContentsOf s after u
    here-contents = by_cases (nat_le u.counter home.greatest) (AreContentsOf s after u)
        (λ yes. by-step (decide-object u home table is.caller is.kept (low-is u.counter home.greatest yes) is.ask))
        (λ fails. ungiven-contents (λ is_given. absurd (let e = le-passes u.counter home.greatest is_given in let f : true ≡ false = sym e ∙ fails in cc)))

  pub decided-contents : AreContentsOf s after u
  decided-contents = elim (cases_eq u.home h) [
    | inl same ↦ here-contents (sym same)
    | inr away ↦ away-contents away
  ]
