-- In every run each operation's entry stands between its Begin and its end.
use Rattle.std.proofs.Common.{◌≡◌, ℕ, true, List, [], ◌∷◌, Some, inl, inr, sym, subst}
use Rattle.std.specs.Prelude.{◌⊎◌}
use Rattle.uid_names.specs.Names.{ProcName}
use Rattle.uid_names.specs.declared.ids.Place.{Place}
use Rattle.dom_history.specs.declared.op.Reply.{Reply}
use Rattle.dom_history.specs.Histories.{SomeOf, place_lt}
use Rattle.node_runs.specs.Setups.{Setup, IsSetup, given}
use Rattle.node_runs.specs.NodeStates.{Asked, Await, BegunOp, proc_of, name_of}
use Rattle.node_runs.specs.Notes.{Told, Note}
use Rattle.node_runs.specs.NodesKeep.{IsTimely}
use Rattle.node_runs.specs.Runs.{World, Noted, Choice, world_after}
use Rattle.node_runs.specs.RunHistories.{is_fault}
use Rattle.node_runs.specs.CallsKeep.{EachOf}
use Rattle.node_runs.proofs.Receiving.{EachOf-more}
use Rattle.node_runs.proofs.SettingUp.{setup-procs}
use Rattle.run_laws.specs.Progress.{Progress, opens, goes_on, again, did, told, pauses, is_done, IsApart, ProcStep, rests, comes}
use Rattle.run_laws.specs.DecidedReplies.{proc_at, IsDecisionOf}
use Rattle.run_laws.specs.Since.{Since, here, later}
use Rattle.run_laws.specs.Heard.{AreHeard}
use Rattle.run_laws.specs.Placed.{IsSettledBy, AreRisingNotes, IsBegin, IsDecidedBehind, IsEndOf, IsPlaced, AreEndsPlaced}
use Rattle.run_laws.proofs.Walks.{other-not, settled-decides}
use Rattle.run_laws.proofs.Hearing.{open-since}
use Rattle.run_laws.proofs.HearingRuns.{IsKeptNext, n as acting, SomeOf-both, proc-step, answered-call, heard-are, every-kept-run}
use Rattle.run_laws.proofs.Rising.{notes-rise}

module _ (p : ProcName) (o : BegunOp) (so_far : List Told) where
  -- where it began
  since-began : (a : Await) (notes : List Noted) → Since p o a so_far notes → SomeOf (IsBegin p o.op o.begun) notes
  since-began a [] is = elim is [ ]
  since-began a (m ∷ older) (here place note apart none) = inl (place, note)
  since-began a (m ∷ older) (later place none since) = inr (since-began a older since)

  since-place : (a : Await) (Q : Place → Type 0) (notes : List Noted) → Since p o a so_far notes → EachOf (λ (j : Noted). Q j.place) notes → Q o.begun
  since-place a Q [] is each = elim is [ ]
  since-place a Q (m ∷ older) (here place note apart none) each = subst Q place each.0
  since-place a Q (m ∷ older) (later place none since) each = since-place a Q older since each.1

  began-no : (c : Asked) (note : Note) → note ≡ Note.Began p o.op → IsDecisionOf p c.waiting.number note → ⊥
  began-no c note same is = subst (IsDecisionOf p c.waiting.number) same is

  -- each decision on the open call stands behind that
  pub since-behind : (c : Asked) (notes : List Noted) → Since p o (Await.Answer c) so_far notes → AreRisingNotes notes → EachOf (λ (j : Noted). IsDecisionOf p c.waiting.number j.note → place_lt o.begun j.place ≡ true) notes
  since-behind c [] is rising = elim is [ ]
  since-behind c (m ∷ older) (here place note apart none) rising = (
    (λ is. absurd (began-no c m.note note is)),
    EachOf-more _ (λ (j : Noted). IsDecisionOf p c.waiting.number j.note → place_lt o.begun j.place ≡ true) older (λ j other is. absurd (other-not p c.waiting.number j.note other is)) none,
  )
  since-behind c (m ∷ older) (later place none since) rising =
      ((λ is. since-place (Await.Answer c) (λ x. place_lt x m.place ≡ true) older since rising.0), since-behind c older since rising.1)

  end-of : (c : Asked) (notes : List Noted) (phase : ℕ) (reply : Reply) → Since p o (Await.Answer c) so_far notes → AreRisingNotes notes
      → (is_fault reply ≡ true) ⊎ SomeOf (λ (j : Noted). IsSettledBy p c.waiting.number j.note) notes → IsEndOf notes (record { proc = p; phase = phase; op = o.op; begun = o.begun; number = c.waiting.number; reply = reply })
  end-of c notes phase reply since rising by =
      let behind = since-behind c notes since rising in
      record {
        began = since-began (Await.Answer c) notes since;
        decided = elim by [
          | inl fault ↦ inl fault
          | inr some ↦ inr (SomeOf-both (λ (j : Noted). IsSettledBy p c.waiting.number j.note) (λ (j : Noted). IsDecisionOf p c.waiting.number j.note → place_lt o.begun j.place ≡ true) (IsDecidedBehind p c.waiting.number o.begun) notes
              (λ j is lt. (is, lt (settled-decides p c.waiting.number j.note is))) some behind)
        ];
        behind = behind;
      }

apart-placed : (note : Note) (older : List Noted) → IsApart note → IsPlaced note older
apart-placed Note.Nothing older is = tt
apart-placed (Note.Began q op) older is = tt
apart-placed (Note.Did q phase op reply) older is = tt
apart-placed (Note.Ended t) older is = absurd is
apart-placed (Note.Decided q k ask answer) older is = tt

module _ (s : Setup) (setup : IsSetup s) (old : World) (c : Choice) (new : World) (next : IsKeptNext s old c new) (heard : AreHeard s old) (rising : AreRisingNotes old.trace) where
  step-placed : ProcStep (given s c.node) (acting s setup old c new next heard) next.is.incoming next.is.step → IsPlaced next.is.step.note old.trace
  step-placed (rests all apart) = apart-placed next.is.step.note old.trace apart
  step-placed (comes p proc others progress) = by progress
    where
      by : Progress ((given s c.node).asks p) (name_of (given s c.node) p) (acting s setup old c new next heard).tick next.is.incoming (proc_of (acting s setup old c new next heard) p) (proc_of next.is.step.node p) next.is.step.note → IsPlaced next.is.step.note old.trace
      by (opens op a asks none doing awaits same e) = subst (λ k. IsPlaced k old.trace) (sym e) tt
      by (goes_on o a b part was doing awaits same e) = subst (λ k. IsPlaced k old.trace) (sym e) tt
      by (again o k was doing last same e) = subst (λ k. IsPlaced k old.trace) (sym e) tt
      by (did op reply part asks end e) = subst (λ k. IsPlaced k old.trace) (sym e) tt
      by (told o k reply asks was end e tells) =
          let q = proc_of (acting s setup old c new next heard) p in
          let open_was = open-since ((given s c.node).asks p) (proc_at c.node p) _ old.trace _ q (heard.procs c.node p proc) o (Await.Answer k) was in
          subst (λ x. IsPlaced x old.trace) (sym e)
          (end-of (proc_at c.node p) o _ k old.trace q.phase reply open_was.since rising
          (elim tells [ inl fault ↦ inl fault | inr answer ↦ inr (answered-call s setup old c new next heard p proc others progress o k was answer) ]))
      by (pauses was asks none last h phase e) = subst (λ k. IsPlaced k old.trace) (sym e) tt
      by (is_done was asks none last h e) = subst (λ k. IsPlaced k old.trace) (sym e) tt

module _ (s : Setup) (setup : IsSetup s) where
  ends-later : (cs : List Choice) (old : World) (c : Choice) (new : World) → world_after s cs ≡ Some old → IsTimely old → IsKeptNext s old c new → AreEndsPlaced old.trace → AreEndsPlaced new.trace
  ends-later cs old c new e timely next ends =
      let heard = heard-are s setup (setup-procs s setup) cs old e timely in
      subst (λ (w : World). AreEndsPlaced w.trace) (sym next.is.world)
      (step-placed s setup old c new next heard (notes-rise s cs old e).rising (proc-step s setup old c new next heard), ends)

  -- in every run
  pub ends-placed : (cs : List Choice) (w : World) → world_after s cs ≡ Some w → IsTimely w → AreEndsPlaced w.trace
  ends-placed = every-kept-run s setup (setup-procs s setup) (λ w. AreEndsPlaced w.trace) tt ends-later
