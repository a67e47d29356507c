-- In every run an object whose removal was done is not there.
use Rattle.std.proofs.Common.{◌≡◌, ℕ, ◌≤◌, Bool, true, false, List, Option, Some, None, inl, inr, refl, sym, ap, subst, ◌∙◌, arith}
use Rattle.std.specs.Prelude.{if◌then◌else◌, is_some, IfSome}
use Rattle.std.proofs.lemmas.Bool.{cases_eq}
use Rattle.std.proofs.lemmas.Bool.Decides.{nat_tests}
use Rattle.uid_names.specs.Names.{ProcName, ObjectName, same_uid}
use Rattle.uid_names.proofs.ListLemmas.{by_cases}
use Rattle.object_store.specs.Kept.{IsHome}
use Rattle.object_store.specs.HomeStates.{HomeState, attr_of}
use Rattle.lock_manager.specs.Grants.{grant_of}
use Rattle.lock_manager.specs.Tables.{Table}
use Rattle.ring_messages.specs.Bodies.{Ask, Answer}
use Rattle.ring_messages.specs.Frames.{caller_of}
use Rattle.page_server.specs.Decisions.{decide, remove_answer, may_remove}
use Rattle.page_server.proofs.Given.{greatest-rises}
use Rattle.page_server.proofs.Sides.{length-there, page-there}
use Rattle.node_runs.specs.Setups.{Setup, IsSetup, given}
use Rattle.node_runs.specs.NodeStates.{Asked, NodeState}
use Rattle.node_runs.specs.NodesKeep.{IsTimely}
use Rattle.node_runs.specs.Notes.{Note}
use Rattle.node_runs.specs.Runs.{World, Noted, Choice, numbered, world_after}
use Rattle.node_runs.specs.CallsKeep.{EachOf, AsksThis}
use Rattle.node_runs.proofs.Receiving.{EachOf-more, numbered-each}
use Rattle.node_runs.proofs.Calls.{put-same, put-other}
use Rattle.node_runs.proofs.Decisions.{IsNoDecision, HomeStep, apart, decides}
use Rattle.node_runs.proofs.SettingUp.{setup-procs}
use Rattle.run_laws.proofs.HearingRuns.{IsKeptNext, every-kept-run, event, event-home}
use Rattle.run_laws.specs.AskedHomes.{IsAtHome}
use Rattle.run_laws.proofs.AskedHomes.{calls-at-homes}
use Rattle.run_laws.proofs.HomeObjects.{there_after, decide-there}
use Rattle.run_laws.proofs.LiveRun.{link-call}
use Rattle.run_laws.specs.Items.{Item, Value}
use Rattle.run_laws.specs.Stamps.{home_at}
use Rattle.run_laws.specs.Writes.{HasRoom}
use Rattle.run_laws.proofs.Decisions.{ObjectStep, stays, stores, gone, decide-object}
use Rattle.run_laws.proofs.Given.{NoteHas}
use Rattle.run_laws.proofs.ObjectChanges.{there-given}

-- its name was given, and it is not there
pub record IsGoneFrom (home : HomeState) (u : ObjectName) : Type 0 where
  pub given : u.counter ≤ home.greatest
  pub none : is_some (attr_of home u) ≡ false

abbrev pub TellsGone : World → Ask → Answer → Type 0
TellsGone w (Ask.Remove u) Answer.Done = IsGoneFrom (home_at w u) u
TellsGone w ask answer = Unit {0}

abbrev pub AreGone : World → Type 0
AreGone w = EachOf (λ (j : Noted). NoteHas (TellsGone w) j.note) w.trace

-- where there is room for an item, the object is there
pub room-there : (home : HomeState) (u : ObjectName) (x : Item) (v : Value) → HasRoom home u x v → is_some (attr_of home u) ≡ true
room-there home u (Item.Page k) v room = page-there (attr_of home u) k room
room-there home u Item.Size (Value.Length n) room = length-there (attr_of home u) n room
room-there home u Item.Size (Value.Bytes bytes) room = absurd room

-- what is gone stays gone, and what is there was there if its name was given
pub there-before : (home : HomeState) (locks : Table) (q : ProcName) (ask : Ask) (u : ObjectName) → IsHome home → u.counter ≤ home.greatest → is_some (attr_of (decide home locks q ask).home u) ≡ true → is_some (attr_of home u) ≡ true
there-before home locks q ask u kept given there = by (decide-object u home locks q kept given ask)
  where
    by : ObjectStep u home locks q ask (decide home locks q ask).answer (decide home locks q ask).home → is_some (attr_of home u) ≡ true
    by (stays same none) = ap is_some (sym same) ∙ there
    by (stores w writes on answer base granted room stamp) = room-there home u w.item w.value room
    by (gone none) = absurd (let e : true ≡ false = sym there ∙ none in cc)

decided-gone : (home : HomeState) (locks : Table) (q : ProcName) (ask : Ask) (u : ObjectName) → IsHome home → IsGoneFrom home u → IsGoneFrom (decide home locks q ask).home u
decided-gone home locks q ask u kept is = record {
  given = let e = is.given in let f = greatest-rises home locks q ask in omega (arith, e, f);
  none = by_cases (is_some (attr_of (decide home locks q ask).home u)) (is_some (attr_of (decide home locks q ask).home u) ≡ false)
      (λ h. absurd (let e : true ≡ false = sym (there-before home locks q ask u kept is.given h) ∙ is.none in cc)) (λ h. h);
}

-- a removal that is done
removed-gone : (home : HomeState) (locks : Table) (q : ProcName) (u : ObjectName) → IsHome home → (decide home locks q (Ask.Remove u)).answer ≡ Answer.Done → IsGoneFrom (decide home locks q (Ask.Remove u)).home u
removed-gone home locks q u kept done = record {
  given = let e = there-given home u kept (was (is_some (attr_of home u)) (may_remove (grant_of q u locks.grants)) refl done) in let f = greatest-rises home locks q (Ask.Remove u) in omega (arith, e, f);
  none = decide-there u home locks q (Ask.Remove u) ∙ (ap (λ a. there_after u (Ask.Remove u) a (is_some (attr_of home u))) done
      ∙ ap (λ b. let o : Bool = if b then false else is_some (attr_of home u) in o) (let e : same_uid u u ≡ true = grind (arith, nat_tests) in e));
}
  where
    was : (there held : Bool) → is_some (attr_of home u) ≡ there → remove_answer there held ≡ Answer.Done → is_some (attr_of home u) ≡ true
    was true held is e = is
    was false held is e = absurd (cc)

module _ (s : Setup) (setup : IsSetup s) (cs : List Choice) (old : World) (e : world_after s cs ≡ Some old) (timely : IsTimely old) (c : Choice) (new : World) (next : IsKeptNext s old c new) (are : AreGone old) where
  open event s old c new next use {n, after}

  kept : IsHome n.side.home
  kept = (next.kept.nodes c.node next.is.node).side.home

  abbrev Step : Type 0
  Step = HomeStep (given s c.node) n c.what next.is.incoming next.is.step

  here-gone : Step → (u : ObjectName) → IsGoneFrom n.side.home u → IsGoneFrom next.is.step.node.side.home u
  here-gone (apart more same none) u is = subst (λ h. IsGoneFrom h u) (sym same.0) is
  here-gone (decides from index m ask answer takes frame asks more above now note decision) u is = subst (λ h. IsGoneFrom h u) (sym decision.home) (decided-gone n.side.home n.side.locks (caller_of m) ask u kept is)

  gone-still : Step → (u : ObjectName) → IsGoneFrom (home_at old u) u → IsGoneFrom (home_at after u) u
  gone-still step u is = elim (cases_eq u.home c.node) [
    | inl same ↦ subst (λ (x : NodeState). IsGoneFrom x.side.home u) (sym (put-same old.nodes c.node u.home next.is.step.node same)) (here-gone step u (subst (λ b. IsGoneFrom (old.nodes b).side.home u) same is))
    | inr away ↦ subst (λ (x : NodeState). IsGoneFrom x.side.home u) (sym (put-other old.nodes c.node u.home next.is.step.node away)) is
  ]

  answer-still : Step → (u : ObjectName) (answer : Answer) → TellsGone old (Ask.Remove u) answer → TellsGone after (Ask.Remove u) answer
  answer-still step u Answer.Done is = gone-still step u is
  answer-still step u (Answer.Page stamp bytes) is = tt
  answer-still step u (Answer.Stored stamp) is = tt
  answer-still step u (Answer.Stale stamp) is = tt
  answer-still step u Answer.NoGrant is = tt
  answer-still step u Answer.NoObject is = tt
  answer-still step u (Answer.Granted grant stamp kind room k) is = tt
  answer-still step u (Answer.Conflict p m) is = tt
  answer-still step u (Answer.Made v) is = tt
  answer-still step u Answer.NoSpace is = tt
  answer-still step u (Answer.Listed rows more) is = tt

  ask-still : Step → (ask : Ask) (answer : Answer) → TellsGone old ask answer → TellsGone after ask answer
  ask-still step (Ask.Remove u) answer is = answer-still step u answer is
  ask-still step (Ask.PageIn u k) answer is = tt
  ask-still step (Ask.PageOut u k grant base bytes) answer is = tt
  ask-still step (Ask.AttrOut u k grant base) answer is = tt
  ask-still step (Ask.Lock u m) answer is = tt
  ask-still step (Ask.Unlock u) answer is = tt
  ask-still step (Ask.Make kind room) answer is = tt
  ask-still step (Ask.ListLocks from) answer is = tt

  note-still : Step → (note : Note) → NoteHas (TellsGone old) note → NoteHas (TellsGone after) note
  note-still step Note.Nothing is = tt
  note-still step (Note.Began p op) is = tt
  note-still step (Note.Did p phase op reply) is = tt
  note-still step (Note.Ended t) is = tt
  note-still step (Note.Decided p number ask answer) is = ask-still step ask answer is

  quiet-has : (note : Note) → IsNoDecision note → NoteHas (TellsGone after) note
  quiet-has Note.Nothing quiet = tt
  quiet-has (Note.Began p op) quiet = tt
  quiet-has (Note.Did p phase op reply) quiet = tt
  quiet-has (Note.Ended t) quiet = tt
  quiet-has (Note.Decided p number ask answer) quiet = absurd quiet

  asked-home : (o : Option Asked) (home : ℕ) (ask : Ask) → IfSome o (λ (j : Asked). IsAtHome j.home j.ask) → AsksThis o home ask → IsAtHome home ask
  asked-home None home ask each is = absurd is
  asked-home (Some k) home ask each is = subst (λ h. IsAtHome h ask) is.0 (subst (IsAtHome k.home) is.1 each)

  -- the newest
  removed-here : (q : ProcName) (u : ObjectName) (answer : Answer) → c.node ≡ u.home → (decide n.side.home n.side.locks q (Ask.Remove u)).answer ≡ answer → next.is.step.node.side.home ≡ (decide n.side.home n.side.locks q (Ask.Remove u)).home → TellsGone after (Ask.Remove u) answer
  removed-here q u Answer.Done at done home =
      subst (λ (x : NodeState). IsGoneFrom x.side.home u) (sym (put-same old.nodes c.node u.home next.is.step.node (sym at)))
      (subst (λ h. IsGoneFrom h u) (sym home) (removed-gone n.side.home n.side.locks q u kept done))
  removed-here q u (Answer.Page stamp bytes) at done home = tt
  removed-here q u (Answer.Stored stamp) at done home = tt
  removed-here q u (Answer.Stale stamp) at done home = tt
  removed-here q u Answer.NoGrant at done home = tt
  removed-here q u Answer.NoObject at done home = tt
  removed-here q u (Answer.Granted grant stamp kind room k) at done home = tt
  removed-here q u (Answer.Conflict p m) at done home = tt
  removed-here q u (Answer.Made v) at done home = tt
  removed-here q u Answer.NoSpace at done home = tt
  removed-here q u (Answer.Listed rows more) at done home = tt

  decided-has : (q : ProcName) (ask : Ask) (answer : Answer) → IsAtHome c.node ask → answer ≡ (decide n.side.home n.side.locks q ask).answer → next.is.step.node.side.home ≡ (decide n.side.home n.side.locks q ask).home → TellsGone after ask answer
  decided-has q (Ask.Remove u) answer at told home = removed-here q u answer at (sym told) home
  decided-has q (Ask.PageIn u k) answer at told home = tt
  decided-has q (Ask.PageOut u k grant base bytes) answer at told home = tt
  decided-has q (Ask.AttrOut u k grant base) answer at told home = tt
  decided-has q (Ask.Lock u m) answer at told home = tt
  decided-has q (Ask.Unlock u) answer at told home = tt
  decided-has q (Ask.Make kind room) answer at told home = tt
  decided-has q (Ask.ListLocks from) answer at told home = tt

  newest : Step → NoteHas (TellsGone after) next.is.step.note
  newest (apart more same none) = quiet-has next.is.step.note none
  newest (decides from index m ask answer takes frame asks more above now note decision) =
      subst (NoteHas (TellsGone after)) (sym note) (decided-has (caller_of m) ask answer
      (asked-home (numbered m.number (old.calls m.from m.proc)) c.node ask (numbered-each (λ (j : Asked). IsAtHome j.home j.ask) m.number (old.calls m.from m.proc) (calls-at-homes s setup cs old e timely m.from m.proc)) (link-call s old c new next m frame ask asks))
      decision.told decision.home)

  gone-later : AreGone new
  gone-later =
      let step = event-home s old c new next in
      subst AreGone (sym next.is.world) (newest step, EachOf-more (λ (j : Noted). NoteHas (TellsGone old) j.note) (λ (j : Noted). NoteHas (TellsGone after) j.note) old.trace (λ j was. note-still step j.note was) are)

-- in every run
pub gone-are : (s : Setup) → IsSetup s → (cs : List Choice) (w : World) → world_after s cs ≡ Some w → IsTimely w → AreGone w
gone-are s setup = every-kept-run s setup (setup-procs s setup) AreGone tt (λ cs old c new e timely next are. gone-later s setup cs old e timely c new next are)
