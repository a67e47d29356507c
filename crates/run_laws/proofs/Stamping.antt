-- In every run stamps are in order.
use Rattle.std.proofs.Common.{◌≡◌, ◌≢◌, ℕ, ◌+◌, ◌≤◌, Bool, true, false, List, [], ◌∷◌, Option, Some, None, IfSome, IsSome, inl, inr, refl, sym, ap, subst, ◌∙◌, arith}
use Rattle.std.specs.Prelude.{◌==◌, max, map, is_some, unwrap_or, if◌then◌else◌}
use Rattle.std.proofs.lemmas.Bool.{cases_eq}
use Rattle.std.proofs.lemmas.Option.{IfSome_then, same_Some}
use Rattle.uid_names.specs.Names.{ProcName, ObjectName}
use Rattle.uid_names.specs.Beginnings.{at_home, entry_directory}
use Rattle.uid_names.specs.declared.opening.Object.{Object}
use Rattle.uid_names.specs.declared.mode.Mode.{Mode}
use Rattle.dom_history.specs.Objects.{is_node}
use Rattle.dom_history.specs.declared.deed.LockState.TheVariants.{Held}
use Rattle.page_store.specs.Volumes.{page_of}
use Rattle.page_store.proofs.VolumeLemmas.{page_of-no_pages}
use Rattle.object_store.specs.declared.attributes.Attr.{Attr}
use Rattle.object_store.specs.Beginnings.{opened, first_rows, first_home}
use Rattle.object_store.specs.HomeStates.{HomeState, attr_of}
use Rattle.object_store.specs.Kept.{IsHome}
use Rattle.object_store.specs.Objects.{attr_at}
use Rattle.object_store.specs.Rules.{has_page, stamp_of}
use Rattle.version_stamps.specs.Stamps.{stamp_of as seen_of}
use Rattle.lock_manager.specs.Grants.{conflict_of}
use Rattle.ring_messages.specs.Bodies.{Ask, Answer}
use Rattle.ring_messages.specs.Frames.{Message, caller_of}
use Rattle.page_server.specs.Decisions.{decide, page_answer, lock_answer}
use Rattle.page_server.proofs.Sides.{page-there}
use Rattle.fault_handler.specs.declared.entries.LockEntry.{LockEntry}
use Rattle.fault_handler.specs.Entries.{entry_of, keeps}
use Rattle.fault_handler.specs.Desks.{DeskState, entries_of, entry_at, base_of}
use Rattle.fault_handler.specs.LockCalls.{LockAnswer}
use Rattle.fault_handler.specs.Outcomes.{Moved}
use Rattle.fault_handler.specs.Invariant.{IsProc, IsDesk}
use Rattle.fault_handler.proofs.Fours.{by_proc, any-of}
use Rattle.fault_handler.proofs.TransitKeeps.{keeps_writing-keeps}
use Rattle.lock_validate.specs.Causes.{Cause, MayCome, IsOf}
use Rattle.lock_validate.specs.Turns.{IsMade}
use Rattle.lock_validate.proofs.Beside.{moves-beside}
use Rattle.node_runs.specs.Setups.{Setup, IsSetup, given}
use Rattle.node_runs.specs.NodeStates.{Asked, BegunOp, NodeState, first_node, proc_of}
use Rattle.node_runs.specs.Notes.{Note}
use Rattle.node_runs.specs.Outcomes.{Stage}
use Rattle.node_runs.specs.SentFrames.{IsFrame, IsIncoming}
use Rattle.node_runs.specs.NodesKeep.{IsNodeOf, IsTimely}
use Rattle.node_runs.specs.Runs.{World, Noted, Choice, first_world, numbered, calls_after, world_after}
use Rattle.node_runs.specs.CallsKeep.{IsOnLink, AsksThis, EachOf}
use Rattle.node_runs.proofs.Receiving.{EachOf-more, incoming-is, numbered-each}
use Rattle.node_runs.proofs.Calls.{put-same, put-other}
use Rattle.node_runs.proofs.CallSteps.{IsFrameProc, CallStep, silent, asked, again, did-calls}
use Rattle.node_runs.proofs.Reaching.{step_of-keeps}
use Rattle.node_runs.proofs.Decisions.{IsNoDecision, IsDecisionOn, HomeStep, apart, decides}
use Rattle.node_runs.proofs.SettingUp.{setup-gives, setup-procs}
use Rattle.node_runs.proofs.EachOf.{EachOf-both}
use Rattle.run_laws.proofs.HearingRuns.{IsKeptNext, every-kept-run, event, event-did}
use Rattle.run_laws.specs.DeskSteps.{IsTaken, IsAt, apart as desk_apart, moves, NodeMove, still, moved}
use Rattle.run_laws.specs.AskedHomes.{IsAtHome}
use Rattle.run_laws.specs.OpenCalls.{Carries, CarriesOpen, AreCarried, writes_under}
use Rattle.run_laws.proofs.DeskSteps.{step-desk}
use Rattle.run_laws.proofs.AskedHomes.{calls-at-homes}
use Rattle.run_laws.proofs.OpenCalls.{step-carries, runs-carry}
use Rattle.run_laws.proofs.Staying.{writing-left}
use Rattle.run_laws.proofs.HistoryHomes.{asked-home}
use Rattle.run_laws.specs.StandingLocks.{IsKeeping}
use Rattle.run_laws.proofs.EntryMoves.{EntryThen, as_before, freed, noted, got, moves-entry}
use Rattle.run_laws.proofs.LiveRun.{link-call}
use Rattle.run_laws.specs.Items.{Item, Value, blank, home_value, attr_length, Write, write_of}
use Rattle.run_laws.specs.Contents.{content, since}
use Rattle.run_laws.specs.ObjectMoves.{ObjectMove}
use Rattle.run_laws.specs.Stamps.{home_at, stamp_at, IsThere, IsStampOf, IsItemTold, TellsWritten, TellsItem, TellsStamp, IsBaseOf, AreStamped}
use Rattle.run_laws.proofs.ObjectChanges.{there-given, there-least, TellsStamp as TellsOwn, WriteTells, decide-tells}
use Rattle.run_laws.proofs.ObjectMoves.{home-step, home-here, object-move, counters-rise, stamp-later, base-later, note-later, home-later}
use Rattle.run_laws.proofs.Given.{NoteHas, last_at, IsGrantOf, TellsGrant, last-up, since-stays, grants-later}
use Rattle.run_laws.proofs.Seen.{moves-seen, kept-up, said-seen, IsSeenBy}
use Rattle.run_laws.proofs.Heard.{IsToldRight, TellsBoth, cause-told}

-- the writes that a process asked for
abbrev IsAskBased : World → Asked → Type 0
IsAskBased w k = IfSome (write_of k.ask) (IsBaseOf w)

-- stamps are in order, and each grant was given once
pub record AreAllStamped (s : Setup) (w : World) : Type 0 where
  pub homes : (u : ObjectName) → is_node s.opening u.home ≡ true → IsThere w u → (x : Item) → home_value (home_at w u) u x ≡ content w.trace u (stamp_at w u) x
  pub told : EachOf (λ (j : Noted). TellsStamp w j.note) w.trace
  pub grants : EachOf (λ (j : Noted). NoteHas (TellsGrant w) j.note) w.trace
  pub bases : (n p : ℕ) → EachOf (IsAskBased w) (w.calls n p)
  pub seen : (n : ℕ) → is_node s.opening n ≡ true → (u : ObjectName) → IfSome (seen_of u (w.nodes n).desk.seen) (IsStampOf w u)
  pub kept : (n p : ℕ) → is_node s.opening n ≡ true → (u : ObjectName) (m : Mode) (grant : ℕ) → IsKeeping w n p u m grant → (since w.trace u grant ≤ base_of (w.nodes n).desk.seen u) × (grant ≤ last_at w u)

-- at the start
module _ (s : Setup) where
  first-length : (objects : List Object) (counter : ℕ) → attr_length (attr_at (map opened objects) counter) ≡ 0
  first-length [] counter = refl
  first-length (o ∷ objects) counter = by (o.uid.counter == counter) (first-length objects counter)
    where
      by : (b : Bool) → attr_length (attr_at (map opened objects) counter) ≡ 0 → attr_length (if b then Some (opened o).attr else attr_at (map opened objects) counter) ≡ 0
      by true rest = refl
      by false rest = rest

  first-value : (node : ℕ) (own : List Object) (u : ObjectName) (x : Item) → home_value (first_home node own) u x ≡ blank x
  first-value node own u (Item.Page k) = ap Value.Bytes (page_of-no_pages u.counter k)
  first-value node own u Item.Size = ap Value.Length (by (u.home == node))
    where
      by : (b : Bool) → attr_length (if b then attr_at (first_rows node own) u.counter else None) ≡ 0
      by true = first-length (entry_directory node ∷ own) u.counter
      by false = refl

  no-keeping : (n p : ℕ) (u : ObjectName) (m : Mode) (grant : ℕ) → IsKeeping (first_world s) n p u m grant → ⊥
  no-keeping n p u m grant is = by_proc (λ q. entry_of u (entries_of (first_node (given s n)).desk q) ≡ Some is.entry → ⊥) (λ found. absurd (cc)) (λ found. absurd (cc)) (λ found. absurd (cc)) (λ found. absurd (cc)) p is.owner is.found

  all-first : AreAllStamped s (first_world s)
  all-first = record {
    homes = λ u node there x. first-value u.home (at_home u.home s.opening.objects) u x;
    told = tt;
    grants = tt;
    bases = λ n p. tt;
    seen = λ n node u. tt;
    kept = λ n p node u m grant is. absurd (no-keeping n p u m grant is);
  }

-- what a process asks is based on what its desk has seen
module _ (w : World) (d : DeskState) (p : ℕ) (proc : IsProc p) (desk : IsDesk d) (seen : (u : ObjectName) → IfSome (seen_of u d.seen) (IsStampOf w u)) where
  based-on : (written : Write) → written.base ≤ base_of d.seen written.uid → IsSome (seen_of written.uid d.seen) → IsBaseOf w written
  based-on written based some = by (seen_of written.uid d.seen) refl some (seen written.uid)
    where
      by : (o : Option ℕ) → seen_of written.uid d.seen ≡ o → IsSome o → IfSome o (IsStampOf w written.uid) → IsBaseOf w written
      by None found some is = absurd (cc)
      by (Some t) found some is = record {
        given = is.given;
        most = λ there. let e = ap (λ o. unwrap_or o 0) found in let m = is.most there in omega (arith, e, m, based);
      }

  seen-where : (u : ObjectName) (grant q : ℕ) → IsProc q → writes_under d.entries u grant q ≡ true → IsSome (seen_of u d.seen)
  seen-where u grant q owner under = desk.known.kept q owner u (keeps_writing-keeps (entry_at d.entries q u) (writing-left (entry_at d.entries q u) _ under))

  carries-based : (ask : Ask) → Carries d p ask → IfSome (write_of ask) (IsBaseOf w)
  carries-based (Ask.PageOut u k grant base bytes) is = let some = any-of (writes_under d.entries u grant) is.granted in based-on _ is.based (seen-where u grant some.0 some.1 some.2)
  carries-based (Ask.AttrOut u n grant base) is = based-on _ is.based (seen-where u grant p proc is.granted)
  carries-based (Ask.PageIn u k) is = tt
  carries-based (Ask.Lock u m) is = tt
  carries-based (Ask.Unlock u) is = tt
  carries-based (Ask.Remove u) is = tt
  carries-based (Ask.Make kind room) is = tt
  carries-based (Ask.ListLocks after) is = tt

module _ (s : Setup) (setup : IsSetup s) (cs : List Choice) (old : World) (e : world_after s cs ≡ Some old) (timely : IsTimely old) (c : Choice) (new : World) (next : IsKeptNext s old c new) (all : AreAllStamped s old) where
  open event s old c new next use {g, n, step, after}

  is_incoming : IsIncoming next.is.incoming
  is_incoming = incoming-is IsIncoming tt (λ number tick. tt) (λ tick. tt) IsFrame (λ x is. is) old c.node (λ from. next.kept.frames from c.node) c.what next.is.incoming next.is.comes

  node_old : IsNodeOf g (old.nodes c.node)
  node_old = next.kept.nodes c.node next.is.node

  node_new : IsNodeOf g step.node
  node_new = (step_of-keeps g (old.nodes c.node) c.what next.is.incoming c.dropped step (setup-gives s setup c.node next.is.node) node_old is_incoming next.is.steps).node

  carried_new : AreCarried step.node
  carried_new = step-carries g (old.nodes c.node) c.what next.is.incoming c.dropped step (setup-gives s setup c.node next.is.node) node_old is_incoming (runs-carry s setup cs old e timely c.node next.is.node) next.is.steps

  node_move : NodeMove g n next.is.incoming step
  node_move = step-desk g (old.nodes c.node) c.what next.is.incoming c.dropped step (setup-gives s setup c.node next.is.node) node_old is_incoming next.is.steps

  move : (u : ObjectName) → ObjectMove old new u
  move = object-move s old c new next

  rises : (u : ObjectName) → (home_at old u).greatest ≤ (home_at new u).greatest
  rises = counters-rise s old c new next

  nodes-here : (a : ℕ) → a ≡ c.node → new.nodes a ≡ step.node
  nodes-here a here = ap (λ (w : World). w.nodes a) next.is.world ∙ put-same old.nodes c.node a step.node here

  nodes-away : (a : ℕ) → a ≢ c.node → new.nodes a ≡ old.nodes a
  nodes-away a away = ap (λ (w : World). w.nodes a) next.is.world ∙ put-other old.nodes c.node a step.node away

  -- a decision is on a call about an object of its home
  decided-ask : (p q : ProcName) (i k : ℕ) (a b : Ask) (x y : Answer) → Note.Decided p i a x ≡ Note.Decided q k b y → a ≡ b
  decided-ask p q i k a b x y same = cc

  asked-here : (p : ProcName) (number : ℕ) (ask : Ask) (answer : Answer) → step.note ≡ Note.Decided p number ask answer → IsAtHome c.node ask
  asked-here p number ask answer note = by (home-step s old c new next)
    where
      by : HomeStep g n c.what next.is.incoming step → IsAtHome c.node ask
      by (apart more same none) = absurd (subst IsNoDecision note none)
      by (decides from index m a x takes frame asks more above now was decision) =
          let call = link-call s old c new next m frame a asks in
          subst (IsAtHome c.node) (decided-ask (caller_of m) p m.number number a ask x answer (sym was ∙ note))
          (asked-home (numbered m.number (old.calls m.from m.proc)) c.node a (numbered-each (λ (k : Asked). IsAtHome k.home k.ask) m.number (old.calls m.from m.proc) (calls-at-homes s setup cs old e timely m.from m.proc)) call)

  -- the homes
  homes-new : (u : ObjectName) → is_node s.opening u.home ≡ true → IsThere new u → (x : Item) → home_value (home_at new u) u x ≡ content new.trace u (stamp_at new u) x
  homes-new u node there = home-later old new u all.told (λ was. all.homes u node was) (move u) there

  -- what is told now of an object of the node
  module _ (u : ObjectName) (here : u.home ≡ c.node) where
    home-is : home_at new u ≡ step.node.side.home
    home-is = ap (λ (w : World). home_at w u) next.is.world ∙ home-here s old c new next u here

    kept_home : IsHome (home_at new u)
    kept_home = subst IsHome (sym home-is) node_new.side.home

    stamp-now : IsThere new u → IsStampOf new u (stamp_at new u)
    stamp-now there = record { given = there-given (home_at new u) u kept_home there; least = there-least (home_at new u) u kept_home there; most = λ is. omega arith }

    told-now : IsThere new u → (x : Item) → IsItemTold new u (stamp_at new u) x (home_value (home_at new u) u x)
    told-now there x = record { stamp = stamp-now there; value = λ is. homes-new u (subst (λ a. is_node s.opening a ≡ true) (sym here) next.is.node) is x }

    page-tells : step.node.side.home ≡ n.side.home → (k : ℕ) (has : Bool) → has_page (attr_of n.side.home u) k ≡ has → TellsItem new (Ask.PageIn u k) (page_answer has (stamp_of (attr_of n.side.home u)) (page_of n.side.home.pages u.counter k))
    page-tells same k false is = tt
    page-tells same k true is = subst (λ (h : HomeState). IsItemTold new u (stamp_of (attr_of h u)) (Item.Page k) (home_value h u (Item.Page k))) (home-is ∙ same)
        (told-now (ap (λ (h : HomeState). is_some (attr_of h u)) (home-is ∙ same) ∙ page-there (attr_of n.side.home u) k is) (Item.Page k))

    grant-tells : step.node.side.home ≡ n.side.home → (m : Mode) (attr : Option Attr) (conflict : Option (ProcName × Mode)) (grant : ℕ) → attr_of n.side.home u ≡ attr → TellsItem new (Ask.Lock u m) (lock_answer attr conflict grant)
    grant-tells same m None conflict grant found = tt
    grant-tells same m (Some attr) (Some (holder, held)) grant found = tt
    grant-tells same m (Some attr) None grant found =
        let is : attr_of (home_at new u) u ≡ Some attr = ap (λ (h : HomeState). attr_of h u) (home-is ∙ same) ∙ found in
        subst (λ o. IsItemTold new u (stamp_of o) Item.Size (Value.Length (attr_length o))) is (told-now (ap is_some is) Item.Size)

    own-tells : (o : Option Write) (answer : Answer) → IfSome o (λ w. w.uid ≡ u) → WriteTells (home_at new u) o answer → TellsWritten new o answer
    own-tells (Some w) (Answer.Stored t) named is = let own = subst (λ v. TellsOwn (home_at new u) v (Answer.Stored t)) named is in subst (λ v. IsStampOf new v t) (sym named) (subst (IsStampOf new u) own.1 (stamp-now own.0))
    own-tells (Some w) (Answer.Stale t) named is = let own = subst (λ v. TellsOwn (home_at new u) v (Answer.Stale t)) named is in subst (λ v. IsStampOf new v t) (sym named) (subst (IsStampOf new u) own.1 (stamp-now own.0))
    own-tells (Some w) answer named is = tt
    own-tells None answer named is = tt

    write-tells : (p : ProcName) (ask : Ask) (answer : Answer) → IsDecisionOn n step.node p ask answer → IfSome (write_of ask) (λ w. w.uid ≡ u) → TellsWritten new (write_of ask) answer
    write-tells p ask answer decision named = own-tells (write_of ask) answer named
        (subst (λ (h : HomeState). WriteTells h (write_of ask) answer) (sym (home-is ∙ decision.home))
        (subst (WriteTells (decide n.side.home n.side.locks p ask).home (write_of ask)) (sym decision.told) (decide-tells n.side.home n.side.locks p ask)))

  module _ (p : ProcName) where
    abbrev Decides : Ask → Answer → Type 0
    Decides ask answer = IsDecisionOn n step.node p ask answer

    tells-now : (ask : Ask) (answer : Answer) → IsAtHome c.node ask → Decides ask answer → TellsItem new ask answer
    tells-now (Ask.PageIn u k) answer at decision = subst (TellsItem new (Ask.PageIn u k)) (sym decision.told) (page-tells u (sym at) decision.home k (has_page (attr_of n.side.home u) k) refl)
    tells-now (Ask.PageOut u k grant base bytes) answer at decision = write-tells u (sym at) p (Ask.PageOut u k grant base bytes) answer decision refl
    tells-now (Ask.AttrOut u length grant base) answer at decision = write-tells u (sym at) p (Ask.AttrOut u length grant base) answer decision refl
    tells-now (Ask.Lock u m) answer at decision = subst (TellsItem new (Ask.Lock u m)) (sym decision.told) (grant-tells u (sym at) decision.home m (attr_of n.side.home u) (conflict_of p u m n.side.locks.grants) (n.side.locks.last + 1) refl)
    tells-now (Ask.Unlock u) answer at decision = tt
    tells-now (Ask.Remove u) answer at decision = tt
    tells-now (Ask.Make kind room) answer at decision = tt
    tells-now (Ask.ListLocks from) answer at decision = tt

  quiet-note : (note : Note) → IsNoDecision note → TellsStamp new note
  quiet-note Note.Nothing none = tt
  quiet-note (Note.Began p op) none = tt
  quiet-note (Note.Did p phase op reply) none = tt
  quiet-note (Note.Ended t) none = tt
  quiet-note (Note.Decided p number ask answer) none = absurd none

  note-now : HomeStep g n c.what next.is.incoming step → TellsStamp new step.note
  note-now (apart more same none) = quiet-note step.note none
  note-now (decides from index m ask answer takes frame asks more above now note decision) = subst (TellsStamp new) (sym note) (tells-now (caller_of m) ask answer (asked-here (caller_of m) m.number ask answer note) decision)

  told-new : EachOf (λ (j : Noted). TellsStamp new j.note) new.trace
  told-new = subst (λ (w : World). EachOf (λ (j : Noted). TellsStamp new j.note) w.trace) (sym next.is.world)
      (note-now (home-step s old c new next), EachOf-more (λ (j : Noted). TellsStamp old j.note) (λ (j : Noted). TellsStamp new j.note) old.trace (λ j is. note-later old new move rises j.note is) all.told)

  grants-new : EachOf (λ (j : Noted). NoteHas (TellsGrant new) j.note) new.trace
  grants-new = subst (λ (w : World). EachOf (λ (j : Noted). NoteHas (TellsGrant w) j.note) w.trace) (sym next.is.world)
      (grants-later s old c new next (λ p number u m answer note. sym (asked-here p number (Ask.Lock u m) answer note)) all.grants)

  -- what the desk hears
  both-note : (note : Note) → TellsStamp old note → NoteHas (TellsGrant old) note → NoteHas (TellsBoth old) note
  both-note (Note.Decided p number ask answer) tells grants = (tells, grants)
  both-note note tells grants = tt

  both : EachOf (λ (j : Noted). NoteHas (TellsBoth old) j.note) old.trace
  both = EachOf-both (λ (j : Noted). TellsStamp old j.note) (λ (j : Noted). NoteHas (TellsGrant old) j.note) (λ (j : Noted). NoteHas (TellsBoth old) j.note) old.trace (λ j. both-note j.note) all.told all.grants

  greater : (u : ObjectName) (a b : ℕ) → IsStampOf old u a → IsStampOf old u b → IsStampOf old u (max a b)
  greater u a b first second = record {
    given = first.given;
    least = (let x = first.least in omega (arith, x));
    most = λ there. let x = first.most there in let y = second.most there in omega (arith, x, y);
  }

  abbrev IsSeenRight : DeskState → Type 0
  IsSeenRight d = (u : ObjectName) → IfSome (seen_of u d.seen) (IsStampOf old u)

  abbrev IsKeptRight : DeskState → ℕ → ObjectName → Type 0
  IsKeptRight d q u = (entry : LockEntry) (m : Mode) → entry_of u (entries_of d q) ≡ Some entry → keeps (Some entry) ≡ true → entry.state ≡ Held m → (since old.trace u entry.grant ≤ base_of d.seen u) × (entry.grant ≤ last_at old u)

  kept-was : (a : ℕ) → is_node s.opening a ≡ true → (q : ℕ) → IsProc q → (u : ObjectName) → IsKeptRight (old.nodes a).desk q u
  kept-was a node q owner u entry m found kept state = all.kept a q node u m entry.grant (record { owner = owner; entry = entry; found = found; kept = kept; state = state; number = refl })

  -- where the desk moves
  module _ (p : ℕ) (proc : IsProc p) (o : BegunOp) (stage : Stage) (m : Moved) (is_at : IsAt (proc_of n p).doing o stage) (cause : Cause) (may : MayCome n.desk p cause) (of : IsOf n.desk p cause o.op) (taken : IsTaken next.is.incoming n.desk p (proc_of n p).doing cause may)
      (made : IsMade cause p n.desk m) where
    told_right : IsToldRight old cause
    told_right = cause-told s old c new next both p proc o stage is_at cause may of taken

    seen-moved : IsSeenRight m.desk
    seen-moved = moves-seen (IsStampOf old) greater cause m.turn p told_right.0 n.desk m.desk m.dropped made.moves (all.seen c.node next.is.node)

    module _ (u : ObjectName) where
      up : (q : ℕ) → IsProc q → (entry : LockEntry) → entry_of u (entries_of m.desk q) ≡ Some entry → keeps (Some entry) ≡ true → base_of n.desk.seen u ≤ base_of m.desk.seen u
      up q owner entry found kept = kept-up cause m.turn p proc u n.desk node_old.desk m.desk m.dropped made.moves q owner (ap keeps found ∙ kept)

      as-was : (q : ℕ) → IsProc q → entry_of u (entries_of m.desk q) ≡ entry_of u (entries_of n.desk q) → IsKeptRight m.desk q u
      as-was q owner same entry k found kept state =
          let was = kept-was c.node next.is.node q owner u entry k (sym same ∙ found) kept state in
          let low = was.0 in let rise = up q owner entry found kept in
          (omega (arith, low, rise), was.1)

      got-kept : (k : Mode) (grant stamp room len : ℕ) → cause ≡ Cause.AnswerCame (LockAnswer.Granted u k grant stamp room len) → (since old.trace u grant ≤ base_of m.desk.seen u) × (grant ≤ last_at old u)
      got-kept k grant stamp room len is =
          let told : IsGrantOf old u grant stamp = (subst (IsToldRight old) is told_right).1 in
          let seen : stamp ≤ base_of m.desk.seen u = subst (IsSeenBy m.desk) is (said-seen n.desk p m.desk cause m.turn made.says) in
          let same = told.since in
          (omega (arith, same, seen), told.most)

      own-kept : EntryThen cause m.turn u (entry_at n.desk.entries p u) (entry_at m.desk.entries p u) → IsKeptRight m.desk p u
      own-kept (as_before same) entry k found kept state = as-was p proc same entry k found kept state
      own-kept (freed never held) entry k found kept state = absurd (let f : true ≡ false = sym kept ∙ (ap keeps (sym found) ∙ never) in cc)
      own-kept (noted delete given asks kept_then allowed never) entry k found kept state = absurd (let f : true ≡ false = sym kept ∙ (ap keeps (sym found) ∙ never) in cc)
      own-kept (got j grant stamp room len is now) entry k found kept state =
          let same : grant ≡ entry.grant = ap (λ (x : LockEntry). x.grant) (same_Some (record { uid = u; state = Held j; grant = grant; released = false }) entry (sym now ∙ found)) in
          subst (λ i. (since old.trace u i ≤ base_of m.desk.seen u) × (i ≤ last_at old u)) same (got-kept j grant stamp room len is)

      kept-moved : (q : ℕ) → IsProc q → IsKeptRight m.desk q u
      kept-moved q owner = elim (cases_eq q p) [
        | inl there ↦ subst (λ r. IsKeptRight m.desk r u) (sym there) (own-kept (moves-entry cause m.turn p proc u n.desk m.desk m.dropped node_old.desk made.moves))
        | inr beside ↦ as-was q owner (ap (entry_of u) (moves-beside cause m.turn p q proc owner beside n.desk m.desk m.dropped made.moves).entries)
      ]

  seen-step : NodeMove g n next.is.incoming step → IsSeenRight step.node.desk
  seen-step (still desk same quiet uncalled) = subst IsSeenRight (sym desk) (all.seen c.node next.is.node)
  seen-step (moved p o stage m proc is_at (desk_apart desk turn) at_desk doing others note call side) = subst IsSeenRight (sym (at_desk ∙ desk)) (all.seen c.node next.is.node)
  seen-step (moved p o stage m proc is_at (moves cause may of at_stage taken made) at_desk doing others note call side) = subst IsSeenRight (sym at_desk) (seen-moved p proc o stage m is_at cause may of taken made)

  kept-step : NodeMove g n next.is.incoming step → (q : ℕ) → IsProc q → (u : ObjectName) → IsKeptRight step.node.desk q u
  kept-step (still desk same quiet uncalled) q owner u = subst (λ d. IsKeptRight d q u) (sym desk) (kept-was c.node next.is.node q owner u)
  kept-step (moved p o stage m proc is_at (desk_apart desk turn) at_desk doing others note call side) q owner u = subst (λ d. IsKeptRight d q u) (sym (at_desk ∙ desk)) (kept-was c.node next.is.node q owner u)
  kept-step (moved p o stage m proc is_at (moves cause may of at_stage taken made) at_desk doing others note call side) q owner u = subst (λ d. IsKeptRight d q u) (sym at_desk) (kept-moved p proc o stage m is_at cause may of taken made u q owner)

  seen-new : (a : ℕ) → is_node s.opening a ≡ true → (u : ObjectName) → IfSome (seen_of u (new.nodes a).desk.seen) (IsStampOf new u)
  seen-new a node u = IfSome_then (seen_of u (new.nodes a).desk.seen) {P = IsStampOf old u} {Q = IsStampOf new u} (elim (cases_eq a c.node) [
    | inl here ↦ subst (λ (x : NodeState). IfSome (seen_of u x.desk.seen) (IsStampOf old u)) (sym (nodes-here a here)) (seen-step node_move u)
    | inr away ↦ subst (λ (x : NodeState). IfSome (seen_of u x.desk.seen) (IsStampOf old u)) (sym (nodes-away a away)) (all.seen a node u)
  ]) (λ t is. stamp-later old new move rises u t is)

  kept-right : (a : ℕ) → is_node s.opening a ≡ true → (q : ℕ) → IsProc q → (u : ObjectName) → IsKeptRight (new.nodes a).desk q u
  kept-right a node q owner u = elim (cases_eq a c.node) [
    | inl here ↦ subst (λ (x : NodeState). IsKeptRight x.desk q u) (sym (nodes-here a here)) (kept-step node_move q owner u)
    | inr away ↦ subst (λ (x : NodeState). IsKeptRight x.desk q u) (sym (nodes-away a away)) (kept-was a node q owner u)
  ]

  kept-new : (a q : ℕ) → is_node s.opening a ≡ true → (u : ObjectName) (m : Mode) (grant : ℕ) → IsKeeping new a q u m grant → (since new.trace u grant ≤ base_of (new.nodes a).desk.seen u) × (grant ≤ last_at new u)
  kept-new a q node u m grant is =
      let right = subst (λ i. (since old.trace u i ≤ base_of (new.nodes a).desk.seen u) × (i ≤ last_at old u)) is.number (kept-right a node q is.owner u is.entry m is.found is.kept is.state) in
      let low = right.0 in
      let most = right.1 in
      let same = ap (λ (w : World). since w.trace u grant) next.is.world ∙ since-stays s old c new next u grant most in
      let rise = subst (λ (w : World). last_at old u ≤ last_at w u) (sym next.is.world) (last-up s old c new next u) in
      (omega (arith, low, same), omega (arith, most, rise))

  -- the calls
  calls_step : CallStep g n step
  calls_step = did-calls g n (next.calls.four c.node) (setup-procs s setup c.node) c.what next.is.incoming step
      (incoming-is IsFrameProc tt (λ i tick. tt) (λ tick. tt) (λ x. IsProc x.proc) (λ x is. is) old c.node
      (λ from. EachOf-more (IsOnLink old.calls from c.node) (λ (x : Message). IsProc x.proc) (old.frames from c.node) (λ x is. is.proc) (next.calls.frames from c.node)) c.what next.is.incoming next.is.comes)
      (event-did s old c new next)

  abbrev AreBased : List Asked → Type 0
  AreBased xs = EachOf (IsAskBased new) xs

  ask-later : (k : Asked) → IsAskBased old k → IsAskBased new k
  ask-later k is = IfSome_then (write_of k.ask) {P = IsBaseOf old} {Q = IsBaseOf new} is (λ w was. base-later old new move rises w was)

  bases-was : (a q : ℕ) → AreBased (old.calls a q)
  bases-was a q = EachOf-more (IsAskBased old) (IsAskBased new) (old.calls a q) ask-later (all.bases a q)

  one-more : (p : ℕ) (k : Asked) → IsAskBased new k → (a q : ℕ) → AreBased (calls_after old c.node (Some (p, k)) a q)
  one-more p k is a q = elim (cases_eq a c.node) [
    | inr away ↦ subst (λ (f : ℕ → List Asked). AreBased (f q)) (sym (put-other old.calls c.node a _ away)) (bases-was a q)
    | inl there ↦ subst (λ (f : ℕ → List Asked). AreBased (f q)) (sym (put-same old.calls c.node a _ there)) (elim (cases_eq q p) [
      | inr beside ↦ subst AreBased (sym (put-other (old.calls c.node) p q _ beside)) (bases-was c.node q)
      | inl same ↦ subst AreBased (sym (put-same (old.calls c.node) p q _ same)) (is, bases-was c.node p)
    ])
  ]

  bases-new : (a q : ℕ) → AreBased (new.calls a q)
  bases-new a q = subst (λ (w : World). AreBased (w.calls a q)) (sym next.is.world) (elim calls_step [
    | silent none reply stay four ↦ subst (λ o. AreBased (calls_after old c.node o a q)) (sym none) (bases-was a q)
    | again p o k owner was none frame last now others four ↦ subst (λ x. AreBased (calls_after old c.node x a q)) (sym none) (bases-was a q)
    | asked p o k owner number made frame last now others four ↦ subst (λ x. AreBased (calls_after old c.node x a q)) (sym made)
        (one-more p k (ask-later k (carries-based old step.node.desk p owner node_new.desk (seen-step node_move) k.ask (subst (CarriesOpen step.node.desk p) now (carried_new p owner)))) a q)
  ])

  all-later : AreAllStamped s new
  all-later = record { homes = homes-new; told = told-new; grants = grants-new; bases = bases-new; seen = seen-new; kept = kept-new }

-- in every run
pub all-stamped : (s : Setup) → IsSetup s → (cs : List Choice) (w : World) → world_after s cs ≡ Some w → IsTimely w → AreAllStamped s w
all-stamped s setup = every-kept-run s setup (setup-procs s setup) (AreAllStamped s) (all-first s) (λ cs old c new e timely next all. all-later s setup cs old e timely c new next all)

module _ (s : Setup) (w : World) (all : AreAllStamped s w) where
  call-based : (o : Option Asked) (home : ℕ) (ask : Ask) (written : Write) → IfSome o (IsAskBased w) → AsksThis o home ask → write_of ask ≡ Some written → IsBaseOf w written
  call-based None home ask written is made found = absurd made
  call-based (Some k) home ask written is made found = subst (λ o. IfSome o (IsBaseOf w)) (ap write_of made.1 ∙ found) is

  stamped-is : AreStamped s w
  stamped-is = record {
    homes = all.homes;
    told = all.told;
    bases = λ n p node owner number home ask written made found. call-based (numbered number (w.calls n p)) home ask written (numbered-each (IsAskBased w) number (w.calls n p) (all.bases n p)) made found;
    seen = all.seen;
    kept = λ n p node u m grant is. (all.kept n p node u m grant is).0;
  }

pub stamped-are : (s : Setup) → IsSetup s → (cs : List Choice) (w : World) → world_after s cs ≡ Some w → IsTimely w → AreStamped s w
stamped-are s setup cs w e timely = stamped-is s w (all-stamped s setup cs w e timely)
