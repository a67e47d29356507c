-- A grant is given once, so the stamp that was told with it is that of one decision.
use Rattle.std.proofs.Common.{◌≡◌, ℕ, ◌<◌, ◌≤◌, Bool, true, false, Option, Some, None, inl, inr, refl, sym, ap, subst, ◌∙◌, arith}
use Rattle.std.specs.Prelude.{◌==◌, ◌&&◌, if◌then◌else◌, unwrap_or}
use Rattle.std.proofs.lemmas.Bool.{cases_eq}
use Rattle.std.proofs.lemmas.Bool.Decides.{nat_tests}
use Rattle.uid_names.specs.Names.{ProcName, ObjectName, same_uid}
use Rattle.uid_names.specs.declared.mode.Mode.{Mode}
use Rattle.uid_names.specs.declared.mode.ObjKind.{ObjKind}
use Rattle.lock_manager.specs.Tables.{Table}
use Rattle.ring_messages.specs.Bodies.{Ask, Answer}
use Rattle.ring_messages.specs.Frames.{caller_of}
use Rattle.page_server.proofs.Given.{last-rises, granted-once}
use Rattle.node_runs.specs.Setups.{Setup, given}
use Rattle.node_runs.specs.NodeStates.{NodeState}
use Rattle.node_runs.specs.Notes.{Note}
use Rattle.node_runs.specs.Runs.{World, Noted, Choice}
use Rattle.node_runs.specs.CallsKeep.{EachOf}
use Rattle.node_runs.proofs.Receiving.{EachOf-more}
use Rattle.node_runs.proofs.Calls.{put-same, put-other}
use Rattle.node_runs.proofs.Decisions.{IsNoDecision, HomeStep, apart, decides}
use Rattle.run_laws.proofs.HearingRuns.{IsKeptNext, event}
use Rattle.run_laws.specs.Contents.{told_with, granted_at, granted_if, since}
use Rattle.run_laws.proofs.ObjectMoves.{home-step}

-- what holds of each decision
abbrev pub NoteHas : (Ask → Answer → Type 0) → Note → Type 0
NoteHas T (Note.Decided p number ask answer) = T ask answer
NoteHas T note = Unit {0}

abbrev pub last_at : World → ObjectName → ℕ
last_at w u = (w.nodes u.home).side.locks.last

-- the grant was given, and this stamp was told with it
pub record IsGrantOf (w : World) (u : ObjectName) (grant stamp : ℕ) : Type 0 where
  pub most : grant ≤ last_at w u
  pub since : since w.trace u grant ≡ stamp

abbrev pub TellsGrant : World → Ask → Answer → Type 0
TellsGrant w (Ask.Lock u m) (Answer.Granted grant stamp kind room length) = IsGrantOf w u grant stamp
TellsGrant w ask answer = Unit {0}

no-grant : (u : ObjectName) (grant : ℕ) (note : Note) → IsNoDecision note → granted_at u grant note ≡ None
no-grant u grant Note.Nothing none = refl
no-grant u grant (Note.Began p op) none = refl
no-grant u grant (Note.Did p phase op reply) none = refl
no-grant u grant (Note.Ended t) none = refl
no-grant u grant (Note.Decided p number ask answer) none = absurd none

-- a grant that is given now is none of before
other-grant : (u : ObjectName) (grant last : ℕ) → grant ≤ last → (ask : Ask) (answer : Answer) → ((g s : ℕ) (kind : ObjKind) (room n : ℕ) → answer ≡ Answer.Granted g s kind room n → last < g) → told_with u grant ask answer ≡ None
other-grant u grant last low (Ask.Lock v m) (Answer.Granted g s kind room n) above =
    let h = above g s kind room n refl in ap (λ b. if b then Some s else None) (let e : (same_uid v u && (g == grant)) ≡ false = grind (arith, nat_tests, h, low) in e)
other-grant u grant last low (Ask.Lock v m) answer above = refl
other-grant u grant last low ask answer above = refl

module _ (s : Setup) (old : World) (c : Choice) (new : World) (next : IsKeptNext s old c new) where
  open event s old c new next use {n, step, after}

  module _ (u : ObjectName) where
    last-here : HomeStep (given s c.node) n c.what next.is.incoming step → n.side.locks.last ≤ step.node.side.locks.last
    last-here (apart more same none) = let e = ap (λ (t : Table). t.last) same.1 in omega (arith, e)
    last-here (decides from index m ask answer takes frame asks more above now note decision) =
        let e = ap (λ (t : Table). t.last) decision.locks in let f = last-rises n.side.home n.side.locks (caller_of m) ask in omega (arith, e, f)

    pub last-up : last_at old u ≤ last_at after u
    last-up = elim (cases_eq u.home c.node) [
      | inl here ↦ (let e = ap (λ (x : NodeState). x.side.locks.last) (put-same old.nodes c.node u.home step.node here) in let f = ap (λ a. (old.nodes a).side.locks.last) here in let r = last-here (home-step s old c new next) in omega (arith, e, f, r))
      | inr away ↦ (let e = ap (λ (x : NodeState). x.side.locks.last) (put-other old.nodes c.node u.home step.node away) in omega (arith, e))
    ]

    module _ (grant : ℕ) (most : grant ≤ last_at old u) where
      none-here : u.home ≡ c.node → HomeStep (given s c.node) n c.what next.is.incoming step → granted_at u grant step.note ≡ None
      none-here here (apart more same none) = no-grant u grant step.note none
      none-here here (decides from index m ask answer takes frame asks more above now note decision) =
          ap (granted_at u grant) note
          ∙ other-grant u grant n.side.locks.last (subst (λ a. grant ≤ (old.nodes a).side.locks.last) here most) ask answer
          (λ g stamp kind room length is. (granted-once n.side.home n.side.locks (caller_of m) ask g stamp kind room length (sym decision.told ∙ is)).0)

      none-now : granted_if (c.node == u.home) u grant step.note ≡ None
      none-now = elim (cases_eq u.home c.node) [
        | inl here ↦ by (c.node == u.home) (none-here here (home-step s old c new next))
        | inr away ↦ ap (λ b. granted_if b u grant step.note) (let e : (c.node == u.home) ≡ false = grind (arith, nat_tests, away) in e)
      ]
        where
          by : (b : Bool) → granted_at u grant step.note ≡ None → granted_if b u grant step.note ≡ None
          by true none = none
          by false none = refl

      -- the stamp that was told with a grant stays
      pub since-stays : since after.trace u grant ≡ since old.trace u grant
      since-stays = ap (λ (o : Option ℕ). unwrap_or o (since old.trace u grant)) none-now

    pub grant-later : (grant stamp : ℕ) → IsGrantOf old u grant stamp → IsGrantOf after u grant stamp
    grant-later grant stamp is = record { most = (let m = is.most in let up = last-up in omega (arith, m, up)); since = since-stays grant is.most ∙ is.since }

  ask-later : (ask : Ask) (answer : Answer) → TellsGrant old ask answer → TellsGrant after ask answer
  ask-later (Ask.Lock u m) (Answer.Granted grant stamp kind room length) is = grant-later u grant stamp is
  ask-later ask answer is = tt

  note-later : (note : Note) → NoteHas (TellsGrant old) note → NoteHas (TellsGrant after) note
  note-later (Note.Decided p number ask answer) is = ask-later ask answer is
  note-later note is = tt

  -- the newest
  module _ (u : ObjectName) (here : u.home ≡ c.node) (p : ProcName) (number : ℕ) (m : Mode) (grant stamp : ℕ) (kind : ObjKind) (room length : ℕ) (note : step.note ≡ Note.Decided p number (Ask.Lock u m) (Answer.Granted grant stamp kind room length)) (most : grant ≤ step.node.side.locks.last) where
    grant-new : IsGrantOf after u grant stamp
    grant-new = record {
      most = (let e = ap (λ (x : NodeState). x.side.locks.last) (put-same old.nodes c.node u.home step.node here) in omega (arith, e, most));
      since = ap (λ (o : Option ℕ). unwrap_or o (since old.trace u grant))
          (ap (λ b. granted_if b u grant step.note) (let e : (c.node == u.home) ≡ true = grind (arith, nat_tests, here) in e)
          ∙ (ap (granted_at u grant) note ∙ ap (λ b. if b then Some stamp else None) (let e : (same_uid u u && (grant == grant)) ≡ true = grind (arith, nat_tests) in e)));
    }

  none-told : (note : Note) → IsNoDecision note → NoteHas (TellsGrant after) note
  none-told Note.Nothing none = tt
  none-told (Note.Began p op) none = tt
  none-told (Note.Did p phase op reply) none = tt
  none-told (Note.Ended t) none = tt
  none-told (Note.Decided p number ask answer) none = absurd none

  module _ (at_home : (p : ProcName) (number : ℕ) (u : ObjectName) (m : Mode) (answer : Answer) → step.note ≡ Note.Decided p number (Ask.Lock u m) answer → u.home ≡ c.node) where
    new-ask : (p : ProcName) (number : ℕ) (ask : Ask) (answer : Answer) → step.note ≡ Note.Decided p number ask answer → ((grant stamp : ℕ) (kind : ObjKind) (room length : ℕ) → answer ≡ Answer.Granted grant stamp kind room length → grant ≤ step.node.side.locks.last) → TellsGrant after ask answer
    new-ask p number (Ask.Lock u m) (Answer.Granted grant stamp kind room length) note most = grant-new u (at_home p number u m _ note) p number m grant stamp kind room length note (most grant stamp kind room length refl)
    new-ask p number ask answer note most = tt

    new-told : HomeStep (given s c.node) n c.what next.is.incoming step → NoteHas (TellsGrant after) step.note
    new-told (apart more same none) = none-told step.note none
    new-told (decides from index m ask answer takes frame asks more above now note decision) =
        subst (NoteHas (TellsGrant after)) (sym note) (new-ask (caller_of m) m.number ask answer note (λ grant stamp kind room length is.
        let given_now = granted-once n.side.home n.side.locks (caller_of m) ask grant stamp kind room length (sym decision.told ∙ is) in
        let e = ap (λ (t : Table). t.last) decision.locks in
        let f = given_now.1 in
        omega (arith, e, f)))

    pub grants-later : EachOf (λ (j : Noted). NoteHas (TellsGrant old) j.note) old.trace → EachOf (λ (j : Noted). NoteHas (TellsGrant after) j.note) after.trace
    grants-later told = (new-told (home-step s old c new next), EachOf-more (λ (j : Noted). NoteHas (TellsGrant old) j.note) (λ (j : Noted). NoteHas (TellsGrant after) j.note) old.trace (λ j is. note-later j.note is) told)
