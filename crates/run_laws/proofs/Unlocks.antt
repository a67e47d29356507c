-- Where the history of a run has the unlock of a process that held its object, the home has what that process stored.
use Rattle.std.proofs.Common.{◌≡◌, ℕ, true, false, List, [], ◌∷◌, ◌++◌, Option, Some, None, inl, refl, sym, ap, subst, ◌∙◌, arith, append_assoc}
use Rattle.std.specs.Prelude.{if◌then◌else◌, map}
use Rattle.std.specs.Option.{option_map}
use Rattle.std.proofs.lemmas.Bool.Decides.{nat_tests}
use Rattle.std.proofs.lemmas.Option.{same_Some}
use Rattle.uid_names.proofs.ListLemmas.{by_cases}
use Rattle.uid_names.specs.Names.{ObjectName}
use Rattle.uid_names.specs.declared.ids.Place.{Place}
use Rattle.dom_history.specs.declared.op.Op.{Op}
use Rattle.dom_history.specs.declared.op.Op.TheVariants as ops
use Rattle.dom_history.specs.declared.op.Reply.TheVariants as replies
use Rattle.dom_history.specs.declared.op.Entry.{Entry}
use Rattle.dom_history.specs.Events.{Happening}
use Rattle.dom_history.specs.Histories.{Item, Answered, SomeOf, place_of, deed_of, place_lt, deeds, told, entries, before}
use Rattle.dom_history.specs.Locks.{is_held, state}
use Rattle.dom_history.specs.Objects.{is_node}
use Rattle.dom_history.specs.StoreEffects.{own, store_effects}
use Rattle.dom_history.proofs.Places.{place_lt-irrefl}
use Rattle.history_moves.proofs.Lists.{SomeOf-right}
use Rattle.object_store.specs.HomeStates.{HomeState, attr_of}
use Rattle.ring_messages.specs.Bodies.{Ask, Answer}
use Rattle.node_runs.specs.Setups.{Setup, IsSetup}
use Rattle.node_runs.specs.Notes.{Told, Note}
use Rattle.node_runs.specs.NodesKeep.{IsTimely}
use Rattle.node_runs.specs.Replays.{Held}
use Rattle.node_runs.specs.Runs.{World, Noted, Choice, choice_of, first_world, then_next, world_of, IsRun}
use Rattle.node_runs.specs.RunHistories.{is_fault, settled_op, all_told, items_from, history_if}
use Rattle.node_runs.specs.HomesHave.{until_by, until, HasObject, HomeHasIn}
use Rattle.node_runs.specs.CallsKeep.{EachOf}
use Rattle.node_runs.specs.DecidedCalls.{IsDecided}
use Rattle.node_runs.proofs.Decisions.{decisions-are}
use Rattle.node_runs.proofs.Receiving.{EachOf-more}
use Rattle.node_runs.proofs.Replaying.{replays-are}
use Rattle.node_runs.proofs.SettingUp.{setup-procs}
use Rattle.node_runs.proofs.Worlds.{IsNext, next-is, place_at, initial-run}
use Rattle.node_runs.proofs.EachOf.{EachOf-at, EachOf-behind}
use Rattle.run_laws.specs.DecidedReplies.{IsDecisionOf}
use Rattle.run_laws.specs.NotedEntries.{noted_entries}
use Rattle.run_laws.specs.Placed.{AreRisingNotes}
use Rattle.run_laws.proofs.Following.{EachOf-append}
use Rattle.run_laws.proofs.HistoryEntries.{history-entries}
use Rattle.run_laws.proofs.Rising.{notes-rise}
use Rattle.run_laws.proofs.Walks.{SomeOf-more}
use Rattle.run_laws.specs.ToldAnswers.{IsLocalReply, IsAtDesk}
use Rattle.run_laws.proofs.ToldAnswers.{told-are}
use Rattle.run_laws.specs.HistoryHomes.{held_then}
use Rattle.run_laws.specs.NotedEffects.{noted_past}
use Rattle.run_laws.specs.NotedDeeds.{noted_deeds}
use Rattle.run_laws.specs.KnownRuns.{IsAlwaysKnown}
use Rattle.run_laws.proofs.Alone.{alone-are}
use Rattle.run_laws.proofs.InOrder.{told-op}
use Rattle.run_laws.proofs.ItemViews.{IsAmong, IsItemAt, did, faulted, answered, left_open, opened, each-item}
use Rattle.run_laws.proofs.Orders.{each-middle, each-front, once-each, rising-around}
use Rattle.run_laws.proofs.SameItems.{items-append}
use Rattle.run_laws.proofs.StandingMoves.{items-at}
use Rattle.run_laws.proofs.TellsThen.{ToldThen}
use Rattle.run_laws.proofs.ToldAlways.{told-always}
use Rattle.run_laws.specs.HomesAtUnlocks.{HomesHaveAll}
use Rattle.run_laws.specs.Releases.{IsUnlocked, IsGivenBack}
use Rattle.run_laws.proofs.ReleasesAre.{released-are}

-- what stands before a place, where the items are cut there
before-all : (x : Place) (ys : List Item) → EachOf (λ i. place_lt (place_of i) x ≡ true) ys → before x ys ≡ ys
before-all x [] below = refl
before-all x (i ∷ ys) below = ap (λ b. if b then i ∷ ys else before x ys) below.0

before-cut : (x : Place) (xs ys : List Item) → EachOf (λ i. place_lt (place_of i) x ≡ false) xs → EachOf (λ i. place_lt (place_of i) x ≡ true) ys → before x (xs ++ ys) ≡ ys
before-cut x [] ys above below = before-all x ys below
before-cut x (i ∷ xs) ys above below = ap (λ b. if b then i ∷ (xs ++ ys) else before x (xs ++ ys)) above.0 ∙ before-cut x xs ys above.1 below

not-below : (x y : Place) → place_lt x y ≡ true → place_lt y x ≡ false
not-below x y is = by_cases (place_lt y x) (place_lt y x ≡ false) (λ h. absurd (let f : true ≡ false = grind (arith, nat_tests, is, h) in cc)) (λ h. h)

-- the ask of an unlock
unlock-ask : (home : ℕ) (u : ObjectName) (ask : Ask) → settled_op home ask ≡ Some (ops.Unlock u) → ask ≡ Ask.Unlock u
unlock-ask home u (Ask.Unlock v) e = ap (λ (o : Op). named_in o) (same_Some (ops.Unlock v) (ops.Unlock u) e)
  where
    named_in : Op → Ask
    named_in (ops.Unlock w) = Ask.Unlock w
    named_in op = Ask.Unlock v
unlock-ask home u (Ask.PageIn v k) e = absurd (cc)
unlock-ask home u (Ask.PageOut v k grant base bytes) e = absurd (cc)
unlock-ask home u (Ask.AttrOut v n grant base) e = absurd (cc)
unlock-ask home u (Ask.Lock v m) e = absurd (cc)
unlock-ask home u (Ask.Remove v) e = absurd (cc)
unlock-ask home u (Ask.Make kind room) e = absurd (cc)
unlock-ask home u (Ask.ListLocks after) e = absurd (cc)

-- the world after the events up to a note's place
pub record WorldThen (s : Setup) (es : List Happening) (it : Noted) (older : List Noted) : Type 0 where
  pub world : World
  pub is : world_of s (until it.place es) ≡ Some world
  pub trace : world.trace ≡ it ∷ older

module _ (s : Setup) where
  then-here : (ev : Happening) (es : List Happening) (w : World) (it : Noted) (older : List Noted) → world_of s (ev ∷ es) ≡ Some w → it.place ≡ ev.place → w.trace ≡ it ∷ older → WorldThen s (ev ∷ es) it older
  then-here ev es w it older e at parts = record {
    world = w;
    is = ap (λ b. world_of s (until_by b ev es (until it.place es))) (subst (λ y. place_lt it.place y ≡ false) at (place_lt-irrefl it.place)) ∙ e;
    trace = parts;
  }

  then-before : (ev : Happening) (es : List Happening) (it : Noted) (older : List Noted) → place_lt it.place ev.place ≡ true → WorldThen s es it older → WorldThen s (ev ∷ es) it older
  then-before ev es it older above found = record { world = found.world; is = ap (λ b. world_of s (until_by b ev es (until it.place es))) above ∙ found.is; trace = found.trace }

  until-world : (es : List Happening) (w : World) → IsRun s es → world_of s es ≡ Some w → (newer : List Noted) (it : Noted) (older : List Noted) → w.trace ≡ newer ++ it ∷ older → WorldThen s es it older
  until-world [] w run e newer it older parts = absurd (none newer (subst (λ (x : World). x.trace ≡ newer ++ it ∷ older) (sym (same_Some (first_world s) w e)) parts))
    where
      none : (newer : List Noted) → [] ≡ newer ++ it ∷ older → ⊥
      none [] f = absurd (cc)
      none (m ∷ newer) f = absurd (cc)
  until-world (ev ∷ es) w run e newer it older parts = one (world_of s es) refl (λ old is newer parts. until-world es old (initial-run s ev es run) is newer it older parts)
    where
      done : w.done ≡ ev ∷ es
      done = same_Some w.done (ev ∷ es) (ap (λ o. option_map (λ (x : World). x.done) o) (sym e) ∙ run)

      head-place : (x : Place) (a : Happening) (rest : List Happening) → a ∷ rest ≡ ev ∷ es → a.place ≡ x → x ≡ ev.place
      head-place x a rest same at = sym at ∙ ap (λ (xs : List Happening). first_place xs) same
        where
          first_place : List Happening → Place
          first_place [] = ev.place
          first_place (b ∷ bs) = b.place

      by : (old : World) → IsNext s old (choice_of ev) w → ((newer : List Noted) → old.trace ≡ newer ++ it ∷ older → WorldThen s es it older) → (newer : List Noted) → w.trace ≡ newer ++ it ∷ older → WorldThen s (ev ∷ es) it older
      by old is before newer parts = cut newer parts
        where
          at : place_at (choice_of ev) is.step ≡ ev.place
          at = head-place (place_at (choice_of ev) is.step) _ old.done (sym (ap (λ (x : World). x.done) is.world) ∙ done) refl

          trace_is : w.trace ≡ (let z : Noted = record { place = place_at (choice_of ev) is.step; note = is.step.note } in z) ∷ old.trace
          trace_is = ap (λ (x : World). x.trace) is.world

          heads : (x : Noted) (xs : List Noted) (y : Noted) (ys : List Noted) → x ∷ xs ≡ y ∷ ys → (x ≡ y) × (xs ≡ ys)
          heads x xs y ys f = (cc, cc)

          cut : (newer : List Noted) → w.trace ≡ newer ++ it ∷ older → WorldThen s (ev ∷ es) it older
          cut [] parts = then-here ev es w it older e (sym (ap (λ (j : Noted). j.place) (heads _ old.trace it older (sym trace_is ∙ parts)).0) ∙ at) parts
          cut (m ∷ newer) parts =
              let same = heads _ old.trace m (newer ++ it ∷ older) (sym trace_is ∙ parts) in
              let rising : AreRisingNotes ((m ∷ newer) ++ it ∷ older) = subst AreRisingNotes parts (notes-rise s (map choice_of (ev ∷ es)) w e).rising in
              let above : place_lt it.place m.place ≡ true = each-middle (λ (j : Noted). place_lt j.place m.place ≡ true) newer it older rising.0 in
              then-before ev es it older (subst (λ y. place_lt it.place y ≡ true) (sym (ap (λ (j : Noted). j.place) same.0) ∙ at) above) (before newer same.1)

      one : (o : Option World) → world_of s es ≡ o → ((old : World) → world_of s es ≡ Some old → (newer : List Noted) → old.trace ≡ newer ++ it ∷ older → WorldThen s es it older) → WorldThen s (ev ∷ es) it older
      one None is before = absurd (let f : then_next s None (choice_of ev) ≡ Some w = subst (λ o. then_next s o (choice_of ev) ≡ Some w) is e in cc)
      one (Some old) is before = by old (next-is s old (choice_of ev) w (subst (λ o. then_next s o (choice_of ev) ≡ Some w) is e)) (before old is) newer parts

module _ (s : Setup) (setup : IsSetup s) (known : IsAlwaysKnown s) (es : List Happening) (w : World) (run : IsRun s es) (e : world_of s es ≡ Some w) (timely : IsTimely w) where
  abbrev cs : List Choice
  cs = map choice_of es

  abbrev so_far : List Told
  so_far = all_told w.trace

  abbrev items : List Item
  items = items_from w so_far w.trace

  decided : EachOf (λ (j : Noted). IsDecided w j.place j.note) w.trace
  decided = (decisions-are s (setup-procs s setup) cs w e).each

  -- what stands before the place of a note is what the notes before it give
  module _ (newer : List Noted) (it : Noted) (older : List Noted) (parts : w.trace ≡ newer ++ it ∷ older) where
    decided-parts : EachOf (λ (j : Noted). IsDecided w j.place j.note) (newer ++ it ∷ older)
    decided-parts = subst (EachOf (λ (j : Noted). IsDecided w j.place j.note)) parts decided

    around : EachOf (λ (j : Noted). place_lt it.place j.place ≡ true) newer × EachOf (λ (j : Noted). place_lt j.place it.place ≡ true) older
    around = rising-around newer it older (subst AreRisingNotes parts (notes-rise s cs w e).rising)

    before-is : before it.place items ≡ items_from w so_far older
    before-is =
        let reparts : w.trace ≡ (newer ++ it ∷ []) ++ older = parts ∙ sym (append_assoc newer (it ∷ []) older) in
        let decided_front = each-front (λ (j : Noted). IsDecided w j.place j.note) (newer ++ it ∷ []) older (subst (EachOf (λ (j : Noted). IsDecided w j.place j.note)) reparts decided) in
        let decided_older = (EachOf-behind (λ (j : Noted). IsDecided w j.place j.note) newer (it ∷ older) decided-parts).1 in
        let front = EachOf-append (λ (j : Noted). place_lt j.place it.place ≡ false) newer (it ∷ [])
        (EachOf-more (λ (j : Noted). place_lt it.place j.place ≡ true) (λ (j : Noted). place_lt j.place it.place ≡ false) newer (λ j is. not-below it.place j.place is) around.0) (place_lt-irrefl it.place, tt) in
        ap (before it.place) (ap (items_from w so_far) reparts ∙ items-append w so_far (newer ++ it ∷ []) older)
        ∙ before-cut it.place (items_from w so_far (newer ++ it ∷ [])) (items_from w so_far older)
        (items-at s setup cs w e timely (λ y. place_lt y it.place ≡ false) (newer ++ it ∷ []) decided_front front)
        (items-at s setup cs w e timely (λ y. place_lt y it.place ≡ true) older decided_older around.1)

  module _ (x : Entry) (u : ObjectName) (op : x.op ≡ ops.Unlock u) (reply : x.reply ≡ replies.Fine) (held : is_held (state u (own x.proc (told (entries (before x.place items))))) ≡ true) where
    -- the answer that its process was told
    module _ (t : Told) (other : Op) (ask : Ask) (answer : Answer) (j : Noted) (some : SomeOf (λ i. i ≡ j) w.trace) (note : j.note ≡ Note.Decided t.proc t.number ask answer) (of : settled_op j.place.node ask ≡ Some other)
        (none : is_fault t.reply ≡ false) (among : IsAmong t so_far) (place : j.place ≡ x.place) (proc : t.proc ≡ x.proc) (top : t.op ≡ x.op) (treply : t.reply ≡ x.reply) where
      abbrev was : ToldThen w t
      was = EachOf-at (λ (t : Told). is_fault t.reply ≡ false → ToldThen w t) t so_far (told-always s setup known cs w e timely) among none

      it-is : j ≡ was.it
      it-is =
          let there : SomeOf (λ (i : Noted). IsDecisionOf t.proc t.number i.note × (i ≡ was.it)) w.trace = subst (SomeOf (λ (i : Noted). IsDecisionOf t.proc t.number i.note × (i ≡ was.it))) (sym was.parts)
          (SomeOf-right (λ (i : Noted). IsDecisionOf t.proc t.number i.note × (i ≡ was.it)) was.newer (was.it ∷ was.older) (inl (was.decides, refl))) in
          EachOf-at (λ (i : Noted). IsDecisionOf t.proc t.number i.note → i ≡ was.it) j w.trace (once-each t.proc t.number (λ i. i ≡ was.it) w.trace (decisions-are s (setup-procs s setup) cs w e).once there) some
          (subst (IsDecisionOf t.proc t.number) (sym note) (refl, refl))

      at-x : was.it.place ≡ x.place
      at-x = ap (λ (i : Noted). i.place) (sym it-is) ∙ place

      note-it : was.it.note ≡ Note.Decided t.proc t.number ask answer
      note-it = ap (λ (i : Noted). i.note) (sym it-is) ∙ note

      decided-it : IsDecided w j.place j.note
      decided-it = EachOf-at (λ (j : Noted). IsDecided w j.place j.note) j w.trace decided some

      asks : ask ≡ Ask.Unlock u
      asks =
          let same : t.op ≡ other = told-op s setup cs w e timely t among j.place.node ask other (subst (IsDecided w j.place) note decided-it).1 of in
          unlock-ask j.place.node u ask (of ∙ ap (λ o. Some o) (sym same ∙ (top ∙ op)))

      held-then : is_held (state u (own t.proc (noted_deeds was.older))) ≡ true
      held-then =
          let same : own x.proc (told (entries (before x.place items))) ≡ own x.proc (told (noted_entries so_far was.older)) =
          ap (λ y. own x.proc (told (entries (before y items)))) (sym at-x) ∙ (ap (λ is. own x.proc (told (entries is))) (before-is was.newer was.it was.older was.parts) ∙ ap (λ es. own x.proc (told es)) (history-entries w so_far was.older)) in
          subst (λ ds. is_held (state u ds) ≡ true) (same ∙ (ap (λ q. own q (told (noted_entries so_far was.older))) (sym proc) ∙ was.same)) held

      given : IsGivenBack w u t.proc was.it was.older
      given = record {
        number = t.number;
        answer = answer;
        decided = note-it ∙ ap (λ a. Note.Decided t.proc t.number a answer) asks;
        told = SomeOf-more (λ y. y ≡ t) (IsUnlocked u t.proc t.number) so_far
            (λ y same. record { proc = ap (λ (z : Told). z.proc) same; number = ap (λ (z : Told). z.number) same; op = ap (λ (z : Told). z.op) same ∙ (top ∙ op); reply = ap (λ (z : Told). z.reply) same ∙ (treply ∙ reply) }) among;
        held = held-then;
      }

      has-all : HomeHasIn s.opening (store_effects (deeds (before x.place items))) u x.proc (world_of s (until x.place es))
      has-all =
          let node : is_node s.opening was.it.place.node ≡ true = each-middle (λ (j : Noted). is_node s.opening j.place.node ≡ true) was.newer was.it was.older (subst (EachOf (λ (j : Noted). is_node s.opening j.place.node ≡ true)) was.parts (alone-are s setup cs w e timely).nodes) in
          let has : HasObject s.opening (noted_past was.older) (held_then s u.home (was.it ∷ was.older)).home u x.proc (attr_of (held_then s u.home (was.it ∷ was.older)).home u) =
          subst (λ q. HasObject s.opening (noted_past was.older) (held_then s u.home (was.it ∷ was.older)).home u q (attr_of (held_then s u.home (was.it ∷ was.older)).home u)) proc
          (released-are s setup cs w e timely was.newer was.older was.it u t.proc was.parts node given) in
          let past : store_effects (deeds (before x.place items)) ≡ noted_past was.older =
          ap (λ y. store_effects (deeds (before y items))) (sym at-x) ∙ (ap (λ is. store_effects (deeds is)) (before-is was.newer was.it was.older was.parts)
          ∙ (known cs w e timely).effects (was.newer ++ was.it ∷ []) was.older (was.parts ∙ sym (append_assoc was.newer (was.it ∷ []) was.older))) in
          let up = until-world s es w run e was.newer was.it was.older was.parts in
          let home : (up.world.nodes u.home).side.home ≡ (held_then s u.home (was.it ∷ was.older)).home =
          ap (λ (h : Held). h.home) ((replays-are s (map choice_of (until was.it.place es)) up.world up.is).homes u.home) ∙ ap (λ ns. (held_then s u.home ns).home) up.trace in
          subst (λ y. HomeHasIn s.opening (store_effects (deeds (before x.place items))) u x.proc (world_of s (until y es))) at-x
          (subst (HomeHasIn s.opening (store_effects (deeds (before x.place items))) u x.proc) (sym up.is)
          (subst (λ (h : HomeState). HasObject s.opening (store_effects (deeds (before x.place items))) h u x.proc (attr_of h u)) (sym home)
          (subst (λ past. HasObject s.opening past (held_then s u.home (was.it ∷ was.older)).home u x.proc (attr_of (held_then s u.home (was.it ∷ was.older)).home u)) (sym past) has)))

    abbrev Result : Type 0
    Result = HomeHasIn s.opening (store_effects (deeds (before x.place items))) u x.proc (world_of s (until x.place es))

    by-item : (j : Noted) → SomeOf (λ i. i ≡ j) w.trace → (i : Item) → IsItemAt w j i → i ≡ Answered x → Result
    by-item j some _ (did p phase other r note) same = absurd (
        let is_op : other ≡ ops.Unlock u = ap (λ i. (deed_of i).op) same ∙ op in
        let is_reply : r ≡ replies.Fine = ap (λ i. (deed_of i).reply) same ∙ reply in
        let desk : IsLocalReply other r = subst IsAtDesk note (EachOf-at (λ (j : Noted). IsAtDesk j.note) j w.trace (told-are s setup cs w e timely).desks some) in
        let not_held : replies.Fine ≡ replies.NotHeld = subst (λ z. IsLocalReply (ops.Unlock u) z) is_reply (subst (λ z. IsLocalReply z r) is_op desk) in cc)
    by-item j some _ (faulted t other note place fault among) same = absurd (
        let f : true ≡ false = sym fault ∙ ap is_fault (ap (λ i. (deed_of i).reply) same ∙ reply) in cc)
    by-item j some _ (answered t other ask answer note of none among) same =
        has-all t other ask answer j some note of none among (ap place_of same) (ap (λ i. (deed_of i).proc) same) (ap (λ i. (deed_of i).op) same) (ap (λ i. (deed_of i).reply) same)
    by-item j some _ (left_open t other ask answer r note of change fault among) same = absurd (cc)
    by-item j some _ (opened p number other ask answer r o note of change doing has) same = absurd (cc)

    has-item : SomeOf (λ i. i ≡ Answered x) items → Result
    has-item there = EachOf-at (λ i. i ≡ Answered x → Result) (Answered x) items (each-item s setup cs w e timely (λ i. i ≡ Answered x → Result) w.trace decided by-item) there refl

  pub homes-have-all : HomesHaveAll s es
  homes-have-all x u is =
      subst (λ o. HomeHasIn s.opening (store_effects (deeds (before x.place (history_if s o).items))) u x.proc (world_of s (until x.place es))) (sym e)
      (has-item x u is.op is.reply (subst (λ o. is_held (state u (own x.proc (told (entries (before x.place (history_if s o).items))))) ≡ true) e is.held)
      (subst (λ o. SomeOf (λ i. i ≡ Answered x) (history_if s o).items) e is.there))
