-- One process at one event: its entries go on to be what its program heard.
use Rattle.std.proofs.Common.{◌≡◌, ◌≢◌, ℕ, suc, ◌+◌, ◌<◌, ◌≤◌, Bool, true, false, List, [], ◌∷◌, ◌++◌, Option, Some, None, inl, inr, refl, sym, ap, subst, ◌∙◌, arith}
use Rattle.std.specs.Prelude.{◌⊎◌, ◌&&◌, ◌==◌, if◌then◌else◌}
use Rattle.std.specs.List.{find}
use Rattle.uid_names.proofs.ListLemmas.{by_cases}
use Rattle.uid_names.proofs.Orders.{same_proc_is, same_proc-itself}
use Rattle.uid_names.specs.Names.{ProcName, same_proc}
use Rattle.uid_names.specs.declared.ids.Place.{Place}
use Rattle.uid_names.proofs.Passed.{left-true, right-true, equal}
use Rattle.dom_history.specs.declared.op.Entry.{Entry}
use Rattle.dom_history.specs.declared.op.Op.{Op}
use Rattle.dom_history.specs.declared.op.Reply.{Reply}
use Rattle.dom_history.specs.declared.op.Want.{Want}
use Rattle.dom_history.specs.declared.op.Want.TheVariants.{Do, Phase, Done}
use Rattle.dom_history.specs.Histories.{SomeOf, same_place}
use Rattle.dom_history.specs.Follows.{Heard, Reaches, answered as reach_answered, passed, entries_of}
use Rattle.node_runs.specs.NodeStates.{Asked, Await, BegunOp, OpenOp, ProcState}
use Rattle.node_runs.specs.Incomings.{Incoming}
use Rattle.node_runs.specs.Notes.{Told, Note}
use Rattle.node_runs.specs.Dones.{asking}
use Rattle.node_runs.specs.Runs.{Noted}
use Rattle.node_runs.specs.RunHistories.{is_fault, told_by, ended_at, ended_by}
use Rattle.node_runs.specs.CallsKeep.{EachOf}
use Rattle.node_runs.specs.DecidedCalls.{IsOther, AreDecidedOnce}
use Rattle.node_runs.proofs.Receiving.{EachOf-more}
use Rattle.run_laws.specs.NotedEntries.{entry_of, begun_entry, entries_at, noted_entries}
use Rattle.run_laws.specs.Progress.{IsAnswered, IsNewAwait, IsUntold, IsEnd, told_of, Progress, opens, goes_on, again, did, told, pauses, is_done}
use Rattle.run_laws.specs.Placed.{IsSettledBy}
use Rattle.run_laws.specs.Since.{IsUndecided, here, later}
use Rattle.run_laws.specs.Heard.{IsLastCall, IsOpenSince, IsDoingSince, IsHeardAt}
use Rattle.run_laws.proofs.Slots.{IsNew, place-is}
use Rattle.run_laws.proofs.Walks.{entries-append, Inserted, others-noted, since-others, walk-fault, walk-settled, since-awaits, since-same}

pub EachOf-all : {A : Type 0} (P : A → Type 0) (xs : List A) → ((x : A) → P x) → EachOf P xs
EachOf-all P [] all = tt
EachOf-all P (x ∷ xs) all = (all x, EachOf-all P xs all)

pub find-none : {A : Type 0} (test : A → Bool) (xs : List A) → EachOf (λ x. test x ≡ false) xs → find test xs ≡ None
find-none test [] each = refl
find-none test (x ∷ xs) each = ap (λ b. if b then Some x else find test xs) each.0 ∙ find-none test xs each.1

module _ (ask : Heard → Want) (p : ProcName) (so_far : List Told) (notes : List Noted) (tick : ℕ) (q : ProcState) (is : IsHeardAt ask p so_far notes tick q) where
  -- something else was noted, and no entry of the process
  pub carry : (m : Noted) (now : ℕ) → tick ≤ now → ((x : Place) → x.node ≡ p.node → x.tick ≤ tick → m.place ≢ x) → entries_of p (entries_at so_far m.place m.note) ≡ [] → IsHeardAt ask p so_far (m ∷ notes) now q
  carry m now up differs none = record {
    phase = is.phase;
    reaches = subst (λ es. Reaches ask es q.heard is.phase) (sym (entries-append p (entries_at so_far m.place m.note) (noted_entries so_far notes) ∙ ap (λ xs. xs ++ entries_of p (noted_entries so_far notes)) none)) is.reaches;
    in_phase = is.in_phase;
    told = EachOf-more (λ (t : Told). t.proc ≡ p → (t.number ≤ q.last) × (t.begun.tick ≤ tick)) (λ (t : Told). t.proc ≡ p → (t.number ≤ q.last) × (t.begun.tick ≤ now)) so_far
        (λ t was same. ((was same).0, (let e = (was same).1 in omega (arith, e, up)))) is.told;
    doing = carry-doing q.doing is.doing;
  }
    where
      carry-doing : (o : Option OpenOp) → IsDoingSince p so_far notes tick q.last o → IsDoingSince p so_far (m ∷ notes) now q.last o
      carry-doing None was = tt
      carry-doing (Some o) was = record {
        node = was.node;
        begun = let e = was.begun in omega (arith, e, up);
        behind = was.behind;
        call = was.call;
        since = later (differs o.began.begun was.node was.begun) none was.since;
      }

  -- another process was told of the end of its operation
  pub others-told : (t : Told) → IsNew t so_far → same_proc t.proc p ≡ false → (t.proc ≡ p → ⊥) → IsHeardAt ask p (t ∷ so_far) notes tick q
  others-told t is_new other differs = record {
    phase = is.phase;
    reaches = subst (λ es. Reaches ask es q.heard is.phase) (sym (others-noted t so_far is_new p other notes)) is.reaches;
    in_phase = is.in_phase;
    told = ((λ same. absurd (differs same)), is.told);
    doing = others-doing q.doing is.doing;
  }
    where
      others-call : (a : Await) → IsLastCall p so_far q.last a → IsLastCall p (t ∷ so_far) q.last a
      others-call (Await.Answer c) was = (was.0, ((λ same. absurd (differs same)), was.1))
      others-call (Await.Page u k) was = tt

      others-doing : (o : Option OpenOp) → IsDoingSince p so_far notes tick q.last o → IsDoingSince p (t ∷ so_far) notes tick q.last o
      others-doing None was = tt
      others-doing (Some o) was = record {
        node = was.node;
        begun = was.begun;
        behind = ((λ same. absurd (differs same)), was.behind);
        call = others-call o.awaits was.call;
        since = since-others t so_far is_new p other o.began o.awaits notes was.since;
      }

-- no operation that was told of began there
pub place-none : (p : ProcName) (x : Place) (so_far : List Told) → EachOf (λ (t : Told). t.proc ≡ p → t.begun.tick < x.tick) so_far → ended_at p x so_far ≡ None
place-none p x so_far each =
    find-none (λ (t : Told). same_proc t.proc p && same_place t.begun x) so_far
    (EachOf-more (λ (t : Told). t.proc ≡ p → t.begun.tick < x.tick) (λ (t : Told). (same_proc t.proc p && same_place t.begun x) ≡ false) so_far
    (λ t below. by_cases (same_proc t.proc p && same_place t.begun x) ((same_proc t.proc p && same_place t.begun x) ≡ false)
    (λ h. absurd (let e = below (same_proc_is t.proc p (left-true _ _ h)) in let f = ap (λ (y : Place). y.tick) (place-is t.begun x (right-true (same_proc t.proc p) _ h)) in omega (arith, e, f)))
    (λ h. h)) each)

-- no operation that was told of had this last call
pub number-none : (p : ProcName) (number : ℕ) (so_far : List Told) → EachOf (λ (t : Told). t.proc ≡ p → t.number < number) so_far → ended_by p number so_far ≡ None
number-none p number so_far each =
    find-none (λ (t : Told). same_proc t.proc p && (t.number == number)) so_far
    (EachOf-more (λ (t : Told). t.proc ≡ p → t.number < number) (λ (t : Told). (same_proc t.proc p && (t.number == number)) ≡ false) so_far
    (λ t below. by_cases (same_proc t.proc p && (t.number == number)) ((same_proc t.proc p && (t.number == number)) ≡ false)
    (λ h. absurd (let e = below (same_proc_is t.proc p (left-true _ _ h)) in let f = equal t.number number (right-true (same_proc t.proc p) _ h) in omega (arith, e, f)))
    (λ h. h)) each)

not-done : (w : Want) (op : Op) → w ≡ Do op → w ≡ Done → ⊥
not-done w op a b = absurd (let e : Do op ≡ Done = sym a ∙ b in cc)

not-phase : (w : Want) → w ≡ Phase → w ≡ Done → ⊥
not-phase w a b = absurd (let e : Phase ≡ Done = sym a ∙ b in cc)

await-last : (old new : ProcState) (a : Await) → IsNewAwait old new a → old.last ≤ new.last
await-last old new (Await.Answer c) is = let e = is.0 in let f = is.1 in omega (arith, e, f)
await-last old new (Await.Page u k) is = omega (arith, is)

await-call : (p : ProcName) (so_far : List Told) (tick : ℕ) (old new : ProcState) (a : Await) → IsNewAwait old new a → EachOf (λ (t : Told). t.proc ≡ p → (t.number ≤ old.last) × (t.begun.tick ≤ tick)) so_far → IsLastCall p so_far new.last a
await-call p so_far tick old new (Await.Answer c) is each = (
  sym is.1,
  EachOf-more (λ (t : Told). t.proc ≡ p → (t.number ≤ old.last) × (t.begun.tick ≤ tick)) (λ (t : Told). t.proc ≡ p → t.number < c.waiting.number) so_far
      (λ t was same. let e = (was same).0 in let f = is.0 in omega (arith, e, f)) each,
)
await-call p so_far tick old new (Await.Page u k) is each = tt

await-undecided : (p : ProcName) (notes : List Noted) (old new : ProcState) (a : Await) → IsNewAwait old new a → EachOf (λ (j : Noted). IsOther p (old.last + 1) j.note) notes → EachOf (λ (j : Noted). IsUndecided p a j.note) notes
await-undecided p notes old new (Await.Answer c) is each = subst (λ k. EachOf (λ (j : Noted). IsOther p k j.note) notes) (sym is.0) each
await-undecided p notes old new (Await.Page u k) is each = EachOf-all (λ (j : Noted). Unit {0}) notes (λ j. tt)

-- what is open began so
pub open-since : (ask : Heard → Want) (p : ProcName) (so_far : List Told) (notes : List Noted) (tick : ℕ) (q : ProcState) → IsHeardAt ask p so_far notes tick q → (o : BegunOp) (a : Await) → q.doing ≡ Some (record { began = o; awaits = a })
    → IsOpenSince p so_far notes tick q.last o a
open-since ask p so_far notes tick q is o a doing = subst (IsDoingSince p so_far notes tick q.last) doing is.doing

-- of no operation before did its place or its call end
pub new-told : (p : ProcName) (so_far : List Told) (notes : List Noted) (tick : ℕ) (q : ProcState) (o : BegunOp) (c : Asked) (reply : Reply) → IsOpenSince p so_far notes tick q.last o (Await.Answer c)
    → IsNew (told_of p q o c.waiting.number reply) so_far
new-told p so_far notes tick q o c reply is = record { by_place = place-none p o.begun so_far is.behind; by_number = number-none p c.waiting.number so_far is.call.1 }

module _ (ask : Heard → Want) (p : ProcName) (so_far : List Told) (notes : List Noted) (tick now : ℕ) (old new : ProcState) (incoming : Incoming) (is : IsHeardAt ask p so_far notes tick old) (up : tick < now)
    (apart : EachOf (λ (j : Noted). j.place ≢ record { tick = now; node = p.node }) notes) (undecided : EachOf (λ (j : Noted). IsOther p (old.last + 1) j.note) notes) (once : AreDecidedOnce notes)
    (settled : (o : BegunOp) (c : Asked) → old.doing ≡ asking o c → IsAnswered incoming p.number c → SomeOf (λ (j : Noted). IsSettledBy p c.waiting.number j.note) notes) where
  abbrev x : Place
  x = record { tick = now; node = p.node }

  abbrev Goal : Note → Type 0
  Goal note = IsHeardAt ask p (told_by note ++ so_far) (record { place = x; note = note } ∷ notes) now new

  -- what was told stays behind
  still-told : old.last ≤ new.last → EachOf (λ (t : Told). t.proc ≡ p → (t.number ≤ new.last) × (t.begun.tick ≤ now)) so_far
  still-told more = EachOf-more (λ (t : Told). t.proc ≡ p → (t.number ≤ old.last) × (t.begun.tick ≤ tick)) (λ (t : Told). t.proc ≡ p → (t.number ≤ new.last) × (t.begun.tick ≤ now)) so_far
      (λ t was same. ((let e = (was same).0 in omega (arith, e, more)), (let e = (was same).1 in omega (arith, e, up)))) is.told

  below-now : EachOf (λ (t : Told). t.proc ≡ p → t.begun.tick < now) so_far
  below-now = EachOf-more (λ (t : Told). t.proc ≡ p → (t.number ≤ old.last) × (t.begun.tick ≤ tick)) (λ (t : Told). t.proc ≡ p → t.begun.tick < now) so_far
      (λ t was same. let e = (was same).1 in omega (arith, e, up)) is.told

  untold-phase : IsUntold old new → (new.phase ≡ is.phase) ⊎ (ask new.heard ≡ Done)
  untold-phase same = elim is.in_phase [ inl e ↦ inl (same.phase ∙ e) | inr d ↦ inr (ap ask same.heard ∙ d) ]

  untold-reaches : new.heard ≡ old.heard → Reaches ask (entries_of p (noted_entries so_far notes)) new.heard is.phase
  untold-reaches same = subst (λ h. Reaches ask (entries_of p (noted_entries so_far notes)) h is.phase) (sym same) is.reaches

  open-now : (o : BegunOp) (a : Await) → old.doing ≡ Some (record { began = o; awaits = a }) → IsOpenSince p so_far notes tick old.last o a
  open-now = open-since ask p so_far notes tick old is

  differs : (o : BegunOp) → o.begun.tick ≤ tick → x ≢ o.begun
  differs o most same = absurd (let e = ap (λ (y : Place). y.tick) same in omega (arith, e, most, up))

  no-doing : (so : List Told) (more : List Noted) → new.doing ≡ None → IsDoingSince p so more now new.last new.doing
  no-doing so more none = subst (IsDoingSince p so more now new.last) (sym none) tt

  opens-on : (op : Op) (a : Await) → new.doing ≡ Some (record { began = record { op = op; begun = x }; awaits = a }) → IsNewAwait old new a → IsUntold old new → Goal (Note.Began p op)
  opens-on op a doing awaits same =
      let none : ended_at p x so_far ≡ None = place-none p x so_far below-now in
      record {
        phase = is.phase;
        reaches = subst (λ o. Reaches ask (entries_of p (begun_entry x o ++ noted_entries so_far notes)) new.heard is.phase) (sym none) (untold-reaches same.heard);
        in_phase = untold-phase same;
        told = still-told (await-last old new a awaits);
        doing = subst (IsDoingSince p so_far (record { place = x; note = Note.Began p op } ∷ notes) now new.last) (sym doing) (record {
          node = refl;
          begun = omega arith;
          behind = below-now;
          call = await-call p so_far tick old new a awaits is.told;
          since = here refl refl apart (await-undecided p notes old new a awaits undecided);
        });
      }

  goes-on : (o : BegunOp) (a b : Await) → old.doing ≡ Some (record { began = o; awaits = a }) → new.doing ≡ Some (record { began = o; awaits = b }) → IsNewAwait old new b → IsUntold old new → Goal Note.Nothing
  goes-on o a b was doing awaits same =
      let open_was = open-now o a was in
      record {
        phase = is.phase;
        reaches = untold-reaches same.heard;
        in_phase = untold-phase same;
        told = still-told (await-last old new b awaits);
        doing = subst (IsDoingSince p so_far (record { place = x; note = Note.Nothing } ∷ notes) now new.last) (sym doing) (record {
          node = open_was.node;
          begun = let e = open_was.begun in omega (arith, e, up);
          behind = open_was.behind;
          call = await-call p so_far tick old new b awaits is.told;
          since = later (differs o open_was.begun) refl (since-awaits p o a b so_far notes (await-undecided p notes old new b awaits undecided) open_was.since);
        });
      }

  again-on : (o : BegunOp) (a b : Await) → old.doing ≡ Some (record { began = o; awaits = a }) → new.doing ≡ Some (record { began = o; awaits = b }) → (IsLastCall p so_far old.last a → IsLastCall p so_far old.last b) → ((note : Note) → IsUndecided p a note → IsUndecided p b note)
      → new.last ≡ old.last → IsUntold old new → Goal Note.Nothing
  again-on o a b was doing call same_call last same =
      let open_was = open-now o a was in
      record {
        phase = is.phase;
        reaches = untold-reaches same.heard;
        in_phase = untold-phase same;
        told = still-told (omega (arith, last));
        doing = subst (IsDoingSince p so_far (record { place = x; note = Note.Nothing } ∷ notes) now new.last) (sym doing) (record {
          node = open_was.node;
          begun = let e = open_was.begun in omega (arith, e, up);
          behind = open_was.behind;
          call = subst (λ l. IsLastCall p so_far l b) (sym last) (call open_was.call);
          since = later (differs o open_was.begun) refl (since-same p o a b so_far notes same_call open_was.since);
        });
      }

  did-on : (op : Op) (reply : Reply) → ask old.heard ≡ Do op → IsEnd old new reply → Goal (Note.Did p old.phase op reply)
  did-on op reply asks end = elim is.in_phase [
    | inr done ↦ absurd (not-done (ask old.heard) op asks done)
    | inl phase ↦
        let e : Entry = record { place = x; proc = p; phase = old.phase; op = op; reply = reply } in
        let rest = entries_of p (noted_entries so_far notes) in
        record {
          phase = is.phase;
          reaches = subst (λ b. Reaches ask (if b then e ∷ rest else rest) new.heard is.phase) (sym (same_proc-itself p)) (subst (λ h. Reaches ask (e ∷ rest) h is.phase) (sym end.heard) (reach_answered e is.reaches asks phase));
          in_phase = inl (end.phase ∙ phase);
          told = still-told (let l = end.last in omega (arith, l));
          doing = no-doing so_far (record { place = x; note = Note.Did p old.phase op reply } ∷ notes) end.doing;
        }
  ]

  abbrev ends_as : BegunOp → Asked → Reply → Told
  ends_as o c reply = told_of p old o c.waiting.number reply

  told-on : (o : BegunOp) (c : Asked) (reply : Reply) → ask old.heard ≡ Do o.op → old.doing ≡ asking o c → IsEnd old new reply → (is_fault reply ≡ true) ⊎ IsAnswered incoming p.number c → Goal (Note.Ended (told_of p old o c.waiting.number reply))
  told-on o c reply asks was end by = elim is.in_phase [
    | inr done ↦ absurd (not-done (ask old.heard) o.op asks done)
    | inl phase ↦
        record {
          phase = is.phase;
          reaches = subst (λ es. Reaches ask es new.heard is.phase) (sym inserted.same)
              (subst (λ h. Reaches ask (entry_of inserted.place (ends_as o c reply) ∷ entries_of p (noted_entries so_far notes)) h is.phase) (sym end.heard) (reach_answered (entry_of inserted.place (ends_as o c reply)) is.reaches asks phase));
          in_phase = inl (end.phase ∙ phase);
          told = ((λ same. ((let e = open_was.call.0 in let l = end.last in omega (arith, e, l)), (let e = open_was.begun in omega (arith, e, up)))), still-told (let l = end.last in omega (arith, l)));
          doing = no-doing (ends_as o c reply ∷ so_far) (record { place = x; note = Note.Ended (ends_as o c reply) } ∷ notes) end.doing;
        }
  ]
    where
      open_was : IsOpenSince p so_far notes tick old.last o (Await.Answer c)
      open_was = open-now o (Await.Answer c) was

      is_new : IsNew (ends_as o c reply) so_far
      is_new = new-told p so_far notes tick old o c reply open_was

      inserted : Inserted p (ends_as o c reply) so_far notes
      inserted = by_cases (is_fault reply) (Inserted p (ends_as o c reply) so_far notes)
          (λ fault. walk-fault (ends_as o c reply) so_far is_new p refl o (Await.Answer c) refl refl fault notes open_was.since)
          (λ none. walk-settled (ends_as o c reply) so_far is_new p refl o (Await.Answer c) refl refl none notes (λ note other. other) open_was.since once
          (elim by [ inl fault ↦ absurd (let e : true ≡ false = sym fault ∙ none in cc) | inr answer ↦ settled o c was answer ]))

  pauses-on : ask old.heard ≡ Phase → new.doing ≡ None → new.last ≡ old.last → new.heard ≡ None ∷ old.heard → new.phase ≡ old.phase + 1 → Goal Note.Nothing
  pauses-on asks none last heard phase = elim is.in_phase [
    | inr done ↦ absurd (not-phase (ask old.heard) asks done)
    | inl same ↦ record {
      phase = suc is.phase;
      reaches = subst (λ h. Reaches ask (entries_of p (noted_entries so_far notes)) h (suc is.phase)) (sym heard) (passed is.reaches asks);
      in_phase = inl (omega (arith, phase, same));
      told = still-told (omega (arith, last));
      doing = no-doing so_far (record { place = x; note = Note.Nothing } ∷ notes) none;
    }
  ]

  done-on : ask old.heard ≡ Done → new.doing ≡ None → new.last ≡ old.last → new.heard ≡ old.heard → Goal Note.Nothing
  done-on asks none last heard = record {
    phase = is.phase;
    reaches = untold-reaches heard;
    in_phase = inr (ap ask heard ∙ asks);
    told = still-told (omega (arith, last));
    doing = no-doing so_far (record { place = x; note = Note.Nothing } ∷ notes) none;
  }

  pub progress-on : (note : Note) → Progress ask p now incoming old new note → Goal note
  progress-on note (opens op a asks none doing awaits same e) = subst Goal (sym e) (opens-on op a doing awaits same)
  progress-on note (goes_on o a b part was doing awaits same e) = subst Goal (sym e) (goes-on o a b was doing awaits same)
  progress-on note (again o c was doing last same e) = subst Goal (sym e) (again-on o (Await.Answer c) _ was doing (λ call. call) (λ k other. other) last same)
  progress-on note (did op reply part asks end e) = subst Goal (sym e) (did-on op reply asks end)
  progress-on note (told o c reply asks was end e by) = subst Goal (sym e) (told-on o c reply asks was end by)
  progress-on note (pauses was asks none last heard phase e) = subst Goal (sym e) (pauses-on asks none last heard phase)
  progress-on note (is_done was asks none last heard e) = subst Goal (sym e) (done-on asks none last heard)
