-- In every run each process that was told an answer had been told, where its home decided, what the notes up to there say.
use Rattle.std.proofs.Common.{◌≡◌, ◌≢◌, ℕ, Bool, true, false, List, [], ◌∷◌, ◌++◌, Option, Some, None, inl, inr, refl, sym, ap, subst, ◌∙◌}
use Rattle.std.proofs.lemmas.Option.{same_Some}
use Rattle.uid_names.proofs.Orders.{same_proc_is}
use Rattle.uid_names.specs.Names.{same_proc}
use Rattle.uid_names.specs.declared.ids.Place.{Place}
use Rattle.dom_history.specs.Histories.{SomeOf, told, place_lt}
use Rattle.dom_history.specs.Legal.{IsLegal}
use Rattle.dom_history.specs.StoreEffects.{own}
use Rattle.dom_history.proofs.Places.{place_lt-trans, place_lt-not_self}
use Rattle.fault_handler.specs.Invariant.{IsProc}
use Rattle.node_runs.specs.Setups.{Setup, IsSetup, given}
use Rattle.node_runs.specs.NodeStates.{Await, proc_of, name_of}
use Rattle.node_runs.specs.Dones.{asking}
use Rattle.node_runs.specs.Doings.{ticked}
use Rattle.node_runs.specs.Notes.{Told, Note}
use Rattle.node_runs.specs.NodesKeep.{IsTimely}
use Rattle.node_runs.specs.Runs.{World, Noted, Choice, first_world, then_next, world_after}
use Rattle.node_runs.specs.RunHistories.{is_fault, told_by, all_told, history_in}
use Rattle.node_runs.specs.CallsKeep.{EachOf}
use Rattle.node_runs.proofs.Decisions.{decisions-are}
use Rattle.node_runs.proofs.SettingUp.{setup-procs}
use Rattle.node_runs.proofs.Worlds.{place_at}
use Rattle.node_runs.proofs.EachOf.{EachOf-at, EachOf-behind}
use Rattle.run_laws.specs.DecidedReplies.{proc_at, IsDecisionOf}
use Rattle.run_laws.specs.NotedEntries.{noted_entries, entries_at}
use Rattle.run_laws.specs.Placed.{AreRisingNotes, IsEndOf, IsPlaced}
use Rattle.run_laws.specs.Progress.{told_of, Progress, opens, goes_on, again, did, told as was_told, pauses, is_done, IsApart, rests, comes}
use Rattle.run_laws.proofs.Slots.{IsSlot, IsNew, off-slot}
use Rattle.run_laws.proofs.Walks.{others-noted}
use Rattle.run_laws.proofs.Hearing.{new-told}
use Rattle.run_laws.proofs.HearingRuns.{IsKeptNext, proc-step, heard-are, event}
use Rattle.run_laws.proofs.Placing.{ends-placed}
use Rattle.run_laws.proofs.Rising.{notes-rise}
use Rattle.run_laws.specs.SingleActs.{IsToldLater, AreToldRising}
use Rattle.run_laws.proofs.ToldRising.{told-rises}
use Rattle.run_laws.specs.KnownRuns.{IsKnown, IsAlwaysKnown}
use Rattle.run_laws.proofs.Alone.{alone-are}
use Rattle.run_laws.proofs.MovedEvents.{after}
use Rattle.run_laws.proofs.ItemViews.{IsAmong}
use Rattle.run_laws.proofs.Moving.{others-doing, cut-at, kept-next, was_timely, e_after, timely_after, legal-runs}
use Rattle.run_laws.proofs.Orders.{each-middle, once-each, rising-around, told-before-begin}
use Rattle.run_laws.proofs.StandingMoves.{since-of}
use Rattle.run_laws.proofs.TellsThen.{ToldThen, AreToldThen, own-told}
use Rattle.run_laws.proofs.Telling.{answer-told}

each-with : {A : Type 0} (P Q : A → Type 0) (xs : List A) → ((x : A) → SomeOf (λ y. y ≡ x) xs → P x → Q x) → EachOf P xs → EachOf Q xs
each-with P Q [] so each = tt
each-with P Q (x ∷ xs) so each = (so x (inl refl) each.0, each-with P Q xs (λ y some. so y (inr some)) each.1)

-- notes at which the entry of an operation that ends does not stand have the entries that they had
off-entries : (t : Told) (ts : List Told) → IsNew t ts → (notes : List Noted) → EachOf (λ (j : Noted). IsSlot t j.place j.note → ⊥) notes → noted_entries (t ∷ ts) notes ≡ noted_entries ts notes
off-entries t ts is_new [] off = refl
off-entries t ts is_new (j ∷ notes) off =
    ap (λ es. es ++ noted_entries (t ∷ ts) notes) (off-slot t ts is_new j.place j.note off.0) ∙ ap (λ es. entries_at ts j.place j.note ++ es) (off-entries t ts is_new notes off.1)

module _ (s : Setup) (setup : IsSetup s) (cs : List Choice) (old : World) (e : world_after s cs ≡ Some old) (timely : IsTimely old) (known : IsKnown s old) (c : Choice) (new : World) (next : IsKeptNext s old c new)
    (e_now : world_after s (c ∷ cs) ≡ Some (after old c next.is.step)) (timely_now : IsTimely (after old c next.is.step)) (known_now : IsKnown s (after old c next.is.step)) (legal : IsLegal s.opening (history_in s old)) (was_so : AreToldThen old) where
  open event s old c new next use {step}

  abbrev then_world : World
  then_world = after old c step

  abbrev so_far : List Told
  so_far = all_told old.trace

  abbrev IsThen : Told → Type 0
  IsThen t = is_fault t.reply ≡ false → ToldThen then_world t

  abbrev top : Noted
  top = record { place = place_at c step; note = step.note }

  quietly : told_by step.note ≡ [] → AreToldThen then_world
  quietly quiet = subst (λ ts. EachOf IsThen (ts ++ so_far)) (sym quiet) (EachOf-lift so_far was_so)
    where
      EachOf-lift : (ts : List Told) → EachOf (λ (t : Told). is_fault t.reply ≡ false → ToldThen old t) ts → EachOf IsThen ts
      EachOf-lift ts each = each-with (λ (t : Told). is_fault t.reply ≡ false → ToldThen old t) IsThen ts (λ t some r none.
          let was = r none in
          record {
            newer = top ∷ was.newer;
            it = was.it;
            older = was.older;
            parts = ap (λ js. top ∷ js) was.parts;
            decides = was.decides;
            same = ap (λ ts. own t.proc (told (noted_entries (ts ++ so_far) was.older))) quiet ∙ was.same;
          }) each

  -- an operation ended
  module _ (u : Told) (noted : step.note ≡ Note.Ended u) (is_new : IsNew u so_far) (head : is_fault u.reply ≡ false → ToldThen then_world u) where
    among-now : (t : Told) → IsAmong t so_far → IsAmong t (all_told then_world.trace)
    among-now t among = subst (λ n. IsAmong t (told_by n ++ so_far)) (sym noted) (inr among)

    u_among : IsAmong u (all_told then_world.trace)
    u_among = subst (λ n. IsAmong u (told_by n ++ so_far)) (sym noted) (inl refl)

    u_later : EachOf (IsToldLater u) so_far
    u_later = (subst (λ n. AreToldRising (told_by n ++ so_far)) noted (told-rises s setup (c ∷ cs) then_world e_now timely_now)).0

    u_end : IsEndOf old.trace u
    u_end = subst (λ n. IsPlaced n old.trace) noted (ends-placed s setup (c ∷ cs) then_world e_now timely_now).0

    -- of another end of the same process the decision stands before its Begin
    module _ (t : Told) (among : IsAmong t so_far) (none : is_fault t.reply ≡ false) (was : ToldThen old t) (named : t.proc ≡ u.proc) where
      it-below : place_lt was.it.place u.begun ≡ true
      it-below =
          let less = (EachOf-at (IsToldLater u) t so_far u_later among named).1 in
          let below = told-before-begin t none u named less then_world.trace (ends-placed s setup (c ∷ cs) then_world e_now timely_now) (alone-are s setup (c ∷ cs) then_world e_now timely_now).ended (notes-rise s (c ∷ cs) then_world e_now).rising
          (told-rises s setup (c ∷ cs) then_world e_now timely_now) u_among (among-now t among) in
          let each = (once-each t.proc t.number (λ (j : Noted). place_lt j.place u.begun ≡ true) then_world.trace (decisions-are s (setup-procs s setup) (c ∷ cs) then_world e_now).once below).1 in
          each-middle (λ (j : Noted). IsDecisionOf t.proc t.number j.note → place_lt j.place u.begun ≡ true) was.newer was.it was.older
          (subst (EachOf (λ (j : Noted). IsDecisionOf t.proc t.number j.note → place_lt j.place u.begun ≡ true)) was.parts each) was.decides

      older-below : EachOf (λ (j : Noted). place_lt j.place was.it.place ≡ true) was.older
      older-below = (rising-around was.newer was.it was.older (subst AreRisingNotes was.parts (notes-rise s cs old e).rising)).1

      older-behind : EachOf (λ (j : Noted). IsDecisionOf u.proc u.number j.note → place_lt u.begun j.place ≡ true) was.older
      older-behind = (EachOf-behind (λ (j : Noted). IsDecisionOf u.proc u.number j.note → place_lt u.begun j.place ≡ true) was.newer (was.it ∷ was.older)
          (subst (EachOf (λ (j : Noted). IsDecisionOf u.proc u.number j.note → place_lt u.begun j.place ≡ true)) was.parts u_end.behind)).1

      off : (x : Place) (note : Note) → place_lt x was.it.place ≡ true → (IsDecisionOf u.proc u.number note → place_lt u.begun x ≡ true) → IsSlot u x note → ⊥
      off x Note.Nothing below behind is = is
      off x (Note.Did q ph op r) below behind is = is
      off x (Note.Ended v) below behind is = is
      off x (Note.Began q op) below behind is = place_lt-not_self x (place_lt-trans x was.it.place x below (subst (λ y. place_lt was.it.place y ≡ true) (sym is.1) it-below))
      off x (Note.Decided q i ask answer) below behind is = place_lt-not_self x (place_lt-trans x was.it.place x below (place_lt-trans was.it.place u.begun x it-below (behind (is.0, is.1))))

      off-older : EachOf (λ (j : Noted). IsSlot u j.place j.note → ⊥) was.older
      off-older = each-with (λ (j : Noted). place_lt j.place was.it.place ≡ true) (λ (j : Noted). IsSlot u j.place j.note → ⊥) was.older
          (λ j some below. off j.place j.note below (EachOf-at (λ (j : Noted). IsDecisionOf u.proc u.number j.note → place_lt u.begun j.place ≡ true) j was.older older-behind some)) older-below

    same-own : (t : Told) → IsAmong t so_far → is_fault t.reply ≡ false → (was : ToldThen old t) → own t.proc (told (noted_entries (u ∷ so_far) was.older)) ≡ own t.proc (told (noted_entries so_far was.older))
    same-own t among none was = by (same_proc u.proc t.proc) refl
      where
        by : (z : Bool) → same_proc u.proc t.proc ≡ z → own t.proc (told (noted_entries (u ∷ so_far) was.older)) ≡ own t.proc (told (noted_entries so_far was.older))
        by true same = ap (λ es. own t.proc (told es)) (off-entries u so_far is_new was.older (off-older t among none was (sym (same_proc_is u.proc t.proc same))))
        by false apart = own-told t.proc (noted_entries (u ∷ so_far) was.older) ∙ (ap told (others-noted u so_far is_new t.proc apart was.older) ∙ sym (own-told t.proc (noted_entries so_far was.older)))

    ended-then : AreToldThen then_world
    ended-then = subst (λ n. EachOf IsThen (told_by n ++ so_far)) (sym noted) (
      head,
      each-with (λ (t : Told). is_fault t.reply ≡ false → ToldThen old t) IsThen so_far (λ t among r none.
          let was = r none in
          record {
            newer = top ∷ was.newer;
            it = was.it;
            older = was.older;
            parts = ap (λ js. top ∷ js) was.parts;
            decides = was.decides;
            same = ap (λ (n : Note). own t.proc (told (noted_entries (told_by n ++ so_far) was.older))) noted ∙ (same-own t among none was ∙ was.same);
          }) was_so,
    )

  apart-quiet : (note : Note) → IsApart note → told_by note ≡ []
  apart-quiet Note.Nothing is = refl
  apart-quiet (Note.Decided q i ask answer) is = refl
  apart-quiet (Note.Began q op) is = absurd is
  apart-quiet (Note.Did q ph op r) is = absurd is
  apart-quiet (Note.Ended t) is = absurd is

  comes-then : (p : ℕ) → IsProc p → ((q : ℕ) → IsProc q → q ≢ p → proc_of step.node q ≡ proc_of (old.nodes c.node) q)
      → Progress ((given s c.node).asks p) (name_of (given s c.node) p) (ticked (old.nodes c.node) next.is.incoming).tick next.is.incoming (proc_of (old.nodes c.node) p) (proc_of step.node p) step.note → AreToldThen then_world
  comes-then p proc others (opens op a asks none doing awaits same noted) = quietly (ap told_by noted)
  comes-then p proc others (goes_on o a b part was doing awaits same noted) = quietly (ap told_by noted)
  comes-then p proc others (again o k was doing last same noted) = quietly (ap told_by noted)
  comes-then p proc others (did op reply part asks end noted) = quietly (ap told_by noted)
  comes-then p proc others (was_told o k reply asks was end noted tells) =
      ended-then (told_of (proc_at c.node p) (proc_of (old.nodes c.node) p) o k.waiting.number reply) noted
      (new-told (proc_at c.node p) so_far old.trace (old.nodes c.node).tick (proc_of (old.nodes c.node) p) o k reply (since-of s setup cs old e timely c.node p proc o (Await.Answer k) was))
      (answer-told s setup cs old e timely known c new next e_now timely_now legal p proc o k reply was noted
      (others-doing s setup cs old e timely known c new next e_now timely_now known_now legal p proc others)
      (cut-at s setup cs old e timely known c new next e_now timely_now known_now legal p proc others (asking o k) None was end.doing))
  comes-then p proc others (pauses none asks none_now last heard phase noted) = quietly (ap told_by noted)
  comes-then p proc others (is_done none asks none_now last heard noted) = quietly (ap told_by noted)

  event-told : AreToldThen then_world
  event-told = elim (proc-step s setup old c new next (heard-are s setup (setup-procs s setup) cs old e timely)) [ rests all apart ↦ quietly (apart-quiet step.note apart) | comes p proc others progress ↦ comes-then p proc others progress ]

-- in every run
module _ (s : Setup) (setup : IsSetup s) (known : IsAlwaysKnown s) where
  pub told-always : (cs : List Choice) (w : World) → world_after s cs ≡ Some w → IsTimely w → AreToldThen w
  told-always [] w e timely = subst AreToldThen (same_Some (first_world s) w e) tt
  told-always (c ∷ cs) w e timely = one (world_after s cs) refl (λ old is was. told-always cs old is was)
    where
      one : (o : Option World) → world_after s cs ≡ o → ((old : World) → world_after s cs ≡ Some old → IsTimely old → AreToldThen old) → AreToldThen w
      one None is before = absurd (let f : then_next s None c ≡ Some w = subst (λ o. then_next s o c ≡ Some w) is e in cc)
      one (Some old) is before =
          let timely_old = was_timely s setup known cs c old w is e timely in
          let next = kept-next s setup known cs c old w is e timely in
          let e_now = e_after s setup known cs c old w is e timely in
          let timely_now = timely_after s setup known cs c old w is e timely in
          subst AreToldThen (sym next.is.world)
          (event-told s setup cs old is timely_old (known cs old is timely_old) c w next e_now timely_now (known (c ∷ cs) (after old c next.is.step) e_now timely_now) (legal-runs s setup known cs old is timely_old) (before old is timely_old))
