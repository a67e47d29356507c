-- Notes before and behind one of them, and the order of what processes were told.
use Rattle.std.proofs.Common.{◌≡◌, ℕ, ◌<◌, true, false, List, [], ◌∷◌, ◌++◌, Some, inl, inr, refl, sym, ap, subst, ◌∙◌, arith}
use Rattle.std.specs.Prelude.{◌&&◌, if◌then◌else◌}
use Rattle.uid_names.proofs.ListLemmas.{by_cases}
use Rattle.uid_names.proofs.Orders.{same_proc_is, same_proc-itself}
use Rattle.uid_names.specs.Names.{ProcName, same_proc}
use Rattle.uid_names.specs.declared.ids.Place.{Place}
use Rattle.uid_names.proofs.Passed.{left-true, right-true}
use Rattle.dom_history.specs.declared.deed.Deed.{Deed}
use Rattle.dom_history.specs.declared.op.Op.{Op}
use Rattle.dom_history.specs.Histories.{SomeOf, place_lt, same_place}
use Rattle.dom_history.specs.StoreEffects.{own}
use Rattle.node_runs.specs.Notes.{Told, Note}
use Rattle.node_runs.specs.Runs.{Noted}
use Rattle.node_runs.specs.RunHistories.{is_fault, told_by, all_told, ended_at}
use Rattle.node_runs.specs.CallsKeep.{EachOf}
use Rattle.node_runs.specs.DecidedCalls.{IsOther, IsFirst, AreDecidedOnce}
use Rattle.node_runs.proofs.Receiving.{EachOf-more}
use Rattle.node_runs.proofs.EachOf.{EachOf-at}
use Rattle.run_laws.specs.DecidedReplies.{IsDecisionOf}
use Rattle.run_laws.specs.Placed.{AreRisingNotes, IsDecidedBehind, IsEndOf, IsPlaced, AreEndsPlaced}
use Rattle.run_laws.proofs.Slots.{place-is, same_place-refl}
use Rattle.run_laws.proofs.Walks.{first-other, other-not, others-not, settled-decides, SomeOf-more}
use Rattle.run_laws.proofs.HearingRuns.{SomeOf-both}
use Rattle.run_laws.specs.DecisionOrder.{IsDecidedBelow, IsDecidedAbove, AreDecisionsRising}
use Rattle.run_laws.specs.SingleActs.{IsToldLater, AreToldRising}
use Rattle.run_laws.specs.NotedDeeds.{note_deeds}
use Rattle.run_laws.proofs.ItemViews.{IsAmong}
use Rattle.run_laws.proofs.Alone.{Alone, here, later, IsAloneEnd, AreAloneEnds}

-- notes that are cut at one of them
pub record NoteSplit (P : Noted → Type 0) (notes : List Noted) : Type 0 where
  pub newer : List Noted
  pub it : Noted
  pub older : List Noted
  pub parts : notes ≡ newer ++ it ∷ older
  pub is : P it

pub note-split : (P : Noted → Type 0) (notes : List Noted) → SomeOf P notes → NoteSplit P notes
note-split P [] some = absurd some
note-split P (j ∷ notes) (inl is) = record { newer = []; it = j; older = notes; parts = refl; is = is }
note-split P (j ∷ notes) (inr some) = let r = note-split P notes some in record { newer = j ∷ r.newer; it = r.it; older = r.older; parts = ap (λ js. j ∷ js) r.parts; is = r.is }

pub each-middle : {A : Type 0} (P : A → Type 0) (xs : List A) (y : A) (ys : List A) → EachOf P (xs ++ y ∷ ys) → P y
each-middle P [] y ys each = each.0
each-middle P (x ∷ xs) y ys each = each-middle P xs y ys each.1

pub each-front : {A : Type 0} (P : A → Type 0) (xs ys : List A) → EachOf P (xs ++ ys) → EachOf P xs
each-front P [] ys each = tt
each-front P (x ∷ xs) ys each = (each.0, each-front P xs ys each.1)

-- a call is decided by one of the notes
module _ (p : ProcName) (k : ℕ) where
  other-first : (note : Note) (newer : List Noted) (m : Noted) (older : List Noted) → IsFirst note (newer ++ m ∷ older) → IsDecisionOf p k m.note → IsOther p k note
  other-first Note.Nothing newer m older first is = tt
  other-first (Note.Began q op) newer m older first is = tt
  other-first (Note.Did q phase op reply) newer m older first is = tt
  other-first (Note.Ended t) newer m older first is = tt
  other-first (Note.Decided q i ask answer) newer m older first is = λ same_q same_i.
      other-not q i m.note (each-middle (λ (j : Noted). IsOther q i j.note) newer m older first) (subst (λ r. IsDecisionOf r i m.note) (sym same_q) (subst (λ l. IsDecisionOf p l m.note) (sym same_i) is))

  pub once-around : (newer : List Noted) (m : Noted) (older : List Noted) → AreDecidedOnce (newer ++ m ∷ older) → IsDecisionOf p k m.note → EachOf (λ (j : Noted). IsOther p k j.note) newer × EachOf (λ (j : Noted). IsOther p k j.note) older
  once-around [] m older once is = (tt, first-other p k m.note older is once.0)
  once-around (j ∷ newer) m older once is = let rest = once-around newer m older once.1 is in ((other-first j.note newer m older once.0 is, rest.0), rest.1)

  -- what is so of one that decides it is so of each that does
  pub once-each : (Q : Noted → Type 0) (notes : List Noted) → AreDecidedOnce notes → SomeOf (λ (j : Noted). IsDecisionOf p k j.note × Q j) notes → EachOf (λ (j : Noted). IsDecisionOf p k j.note → Q j) notes
  once-each Q [] once some = tt
  once-each Q (j ∷ older) once (inl is) =
      ((λ same. is.1), EachOf-more (λ (i : Noted). IsOther p k i.note) (λ (i : Noted). IsDecisionOf p k i.note → Q i) older (λ i other decides. absurd (other-not p k i.note other decides)) (first-other p k j.note older is.0 once.0))
  once-each Q (j ∷ older) once (inr some) =
      ((λ decides. absurd (others-not p k older (first-other p k j.note older decides once.0) (SomeOf-more (λ (i : Noted). IsDecisionOf p k i.note × Q i) (λ (i : Noted). IsDecisionOf p k i.note) older (λ i is. is.0) some))), once-each Q older once.1 some)

pub rising-around : (newer : List Noted) (m : Noted) (older : List Noted) → AreRisingNotes (newer ++ m ∷ older) → EachOf (λ (j : Noted). place_lt m.place j.place ≡ true) newer × EachOf (λ (j : Noted). place_lt j.place m.place ≡ true) older
rising-around [] m older rising = (tt, rising.0)
rising-around (j ∷ newer) m older rising = let rest = rising-around newer m older rising.1 in ((each-middle (λ (i : Noted). place_lt i.place j.place ≡ true) newer m older rising.0, rest.0), rest.1)

-- what a home decided behind it is of greater numbers
abbrev pub IsDecidedAfter : Noted → Place → Note → Type 0
IsDecidedAfter m x (Note.Decided q i ask answer) = m.place.node ≡ x.node → IsDecidedBelow q i m.note
IsDecidedAfter m x note = Unit {0}

decided-after : (x : Place) (note : Note) (newer : List Noted) (m : Noted) (older : List Noted) → IsDecidedAbove x note (newer ++ m ∷ older) → IsDecidedAfter m x note
decided-after x Note.Nothing newer m older above = tt
decided-after x (Note.Began q op) newer m older above = tt
decided-after x (Note.Did q phase op reply) newer m older above = tt
decided-after x (Note.Ended t) newer m older above = tt
decided-after x (Note.Decided q i ask answer) newer m older above = each-middle (λ (j : Noted). j.place.node ≡ x.node → IsDecidedBelow q i j.note) newer m older above

pub above-around : (newer : List Noted) (m : Noted) (older : List Noted) → AreDecisionsRising (newer ++ m ∷ older) → EachOf (λ (j : Noted). IsDecidedAfter m j.place j.note) newer
above-around [] m older rising = tt
above-around (j ∷ newer) m older rising = (decided-after j.place j.note newer m older rising.0, above-around newer m older rising.1)

-- of two ends of a process the one with the smaller number began earlier
pub told-earlier : (t u : Told) → u.proc ≡ t.proc → u.number < t.number → (ts : List Told) → AreToldRising ts → IsAmong t ts → IsAmong u ts → u.begun.tick < t.begun.tick
told-earlier t u named less [] rising is other = absurd is
told-earlier t u named less (v ∷ ts) rising (inl same) (inl at) = absurd (let e = ap (λ (x : Told). x.number) (sym same ∙ at) in omega (arith, e, less))
told-earlier t u named less (v ∷ ts) rising (inl same) (inr other) =
    (subst (λ z. u.proc ≡ z.proc → (u.begun.tick < z.begun.tick) × (u.number < z.number)) same (EachOf-at (IsToldLater v) u ts rising.0 other) named).0
told-earlier t u named less (v ∷ ts) rising (inr is) (inl at) = absurd (
    let f = (subst (λ z. t.proc ≡ z.proc → (t.begun.tick < z.begun.tick) × (t.number < z.number)) at (EachOf-at (IsToldLater v) t ts rising.0 is) (sym named)).1 in
    omega (arith, f, less))
told-earlier t u named less (v ∷ ts) rising (inr is) (inr other) = told-earlier t u named less ts rising.1 is other

-- at its Begin an operation that ended is found
pub ended-is : (t : Told) (ts : List Told) → AreToldRising ts → IsAmong t ts → ended_at t.proc t.begun ts ≡ Some t
ended-is t [] rising is = absurd is
ended-is t (v ∷ ts) rising (inl same) =
    subst (λ z. ended_at t.proc t.begun (z ∷ ts) ≡ Some t) (sym same)
    (let h : (same_proc t.proc t.proc && same_place t.begun t.begun) ≡ true = ap (λ z. z && same_place t.begun t.begun) (same_proc-itself t.proc) ∙ same_place-refl t.begun in
    ap (λ z. if z then Some t else ended_at t.proc t.begun ts) h)
ended-is t (v ∷ ts) rising (inr is) = by_cases (same_proc v.proc t.proc && same_place v.begun t.begun) (ended_at t.proc t.begun (v ∷ ts) ≡ Some t)
    (λ h. absurd (
    let same_p = same_proc_is v.proc t.proc (left-true _ _ h) in
    let same_x = ap (λ (x : Place). x.tick) (place-is v.begun t.begun (right-true (same_proc v.proc t.proc) _ h)) in
    let f = (EachOf-at (IsToldLater v) t ts rising.0 is (sym same_p)).0 in
    omega (arith, same_x, f)))
    (λ h. ap (λ z. if z then Some v else ended_at t.proc t.begun ts) h ∙ ended-is t ts rising.1 is)

-- what was told of an answer was decided before
module _ (u : Told) (none : is_fault u.reply ≡ false) where
  abbrev Below : Place → List Noted → Type 0
  Below x notes = SomeOf (λ (j : Noted). IsDecisionOf u.proc u.number j.note × (place_lt j.place x ≡ true)) notes

  told-decided : (x : Place) (notes : List Noted) → AreEndsPlaced notes → EachOf (λ (j : Noted). place_lt j.place x ≡ true) notes → IsAmong u (all_told notes) → Below x notes
  told-decided x [] ends below among = absurd among
  told-decided x (m ∷ older) ends below among = by (λ some. inr (told-decided x older ends.1 below.1 some)) m.note ends.0 among
    where
      by : (IsAmong u (all_told older) → Below x (m ∷ older)) → (note : Note) → IsPlaced note older → IsAmong u (told_by note ++ all_told older) → Below x (m ∷ older)
      by rest Note.Nothing placed some = rest some
      by rest (Note.Began q op) placed some = rest some
      by rest (Note.Did q phase op reply) placed some = rest some
      by rest (Note.Decided q k ask answer) placed some = rest some
      by rest (Note.Ended v) placed (inr some) = rest some
      by rest (Note.Ended v) placed (inl same) = inr (SomeOf-both (IsDecidedBehind u.proc u.number u.begun) (λ (j : Noted). place_lt j.place x ≡ true) (λ (j : Noted). IsDecisionOf u.proc u.number j.note × (place_lt j.place x ≡ true)) older
          (λ j is at. (settled-decides u.proc u.number j.note is.0, at))
          (elim (subst (IsEndOf older) same placed).decided [ inl fault ↦ absurd (let f : true ≡ false = sym fault ∙ none in cc) | inr some ↦ some ]) below.1)

  -- before a later operation of its process began
  alone-order : (p : ProcName) (op : Op) (begun : Place) → u.proc ≡ p → (notes : List Noted) → Alone p op begun notes → AreEndsPlaced notes → AreRisingNotes notes → IsAmong u (all_told notes) → Below begun notes
  alone-order p op begun named [] alone ends rising among = absurd among
  alone-order p op begun named (m ∷ older) (here place note) ends rising among =
      inr (told-decided begun older ends.1 (subst (λ x. EachOf (λ (j : Noted). place_lt j.place x ≡ true) older) place rising.0) (subst (λ k. IsAmong u (told_by k ++ all_told older)) note among))
  alone-order p op begun named (m ∷ older) (later quiet alone) ends rising among = by (λ some. inr (alone-order p op begun named older alone ends.1 rising.1 some)) m.note quiet among
    where
      by : (IsAmong u (all_told older) → Below begun (m ∷ older)) → (note : Note) → own p (note_deeds note) ≡ [] → IsAmong u (told_by note ++ all_told older) → Below begun (m ∷ older)
      by rest Note.Nothing quiet some = rest some
      by rest (Note.Began q op) quiet some = rest some
      by rest (Note.Did q phase op reply) quiet some = rest some
      by rest (Note.Decided q k ask answer) quiet some = rest some
      by rest (Note.Ended v) quiet (inr some) = rest some
      by rest (Note.Ended v) quiet (inl same) =
          let d : Deed = record { proc = v.proc; op = v.op; reply = v.reply } in
          let h : same_proc v.proc p ≡ true = subst (λ q. same_proc v.proc q ≡ true) (ap (λ (x : Told). x.proc) same ∙ named) (same_proc-itself v.proc) in
          absurd (let f : d ∷ [] ≡ [] = sym (ap (λ z. if z then d ∷ [] else []) h) ∙ quiet in cc)

  pub told-before-begin : (t : Told) → u.proc ≡ t.proc → u.number < t.number → (notes : List Noted) → AreEndsPlaced notes → AreAloneEnds notes → AreRisingNotes notes → AreToldRising (all_told notes) → IsAmong t (all_told notes) → IsAmong u (all_told notes) → Below t.begun notes
  told-before-begin t named less [] ends alone rising told is other = absurd is
  told-before-begin t named less (m ∷ older) ends alone rising told is other = by (λ told is other. inr (told-before-begin t named less older ends.1 alone.1 rising.1 told is other)) m.note alone.0 told is other
    where
      by : (AreToldRising (all_told older) → IsAmong t (all_told older) → IsAmong u (all_told older) → Below t.begun (m ∷ older)) → (note : Note) → IsAloneEnd note older → AreToldRising (told_by note ++ all_told older) → IsAmong t (told_by note ++ all_told older) → IsAmong u (told_by note ++ all_told older) → Below t.begun (m ∷ older)
      by rest Note.Nothing alone_end told is other = rest told is other
      by rest (Note.Began q op) alone_end told is other = rest told is other
      by rest (Note.Did q phase op reply) alone_end told is other = rest told is other
      by rest (Note.Decided q k ask answer) alone_end told is other = rest told is other
      by rest (Note.Ended v) alone_end told (inl same) (inl at) = absurd (let f = ap (λ (x : Told). x.number) (sym same ∙ at) in omega (arith, f, less))
      by rest (Note.Ended v) alone_end told (inl same) (inr other) = inr (alone-order t.proc t.op t.begun named older (subst (λ (z : Told). Alone z.proc z.op z.begun older) same alone_end) ends.1 rising.1 other)
      by rest (Note.Ended v) alone_end told (inr is) (inl at) = absurd (
          let f = (subst (λ z. t.proc ≡ z.proc → (t.begun.tick < z.begun.tick) × (t.number < z.number)) at (EachOf-at (IsToldLater v) t (all_told older) told.0 is) (sym named)).1 in
          omega (arith, f, less))
      by rest (Note.Ended v) alone_end told (inr is) (inr other) = rest told.1 is other
