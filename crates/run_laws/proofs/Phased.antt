-- In every run no entry of a phase stands before one of a smaller phase.
use Rattle.std.proofs.Common.{◌≡◌, ℕ, ◌≤◌, ◌<◌, Bool, true, false, List, [], ◌∷◌, Option, Some, None, IfSome, inl, inr, refl, sym, ap, subst, ◌∙◌, arith, map}
use Rattle.std.specs.Prelude.{IsTrue, if◌then◌else◌, ◌==◌, ◌&&◌, nat_le, not}
use Rattle.std.specs.List.{find, AllByRecursion}
use Rattle.std.proofs.lemmas.List.Elements.{All-from_recursion, recursion_from_All}
use Rattle.std.proofs.lemmas.Bool.Decides.{nat_tests}
use Rattle.uid_names.proofs.ListLemmas.{by_cases}
use Rattle.uid_names.proofs.Orders.{same_proc_is}
use Rattle.uid_names.specs.Names.{ProcName, same_proc}
use Rattle.uid_names.specs.Openings.{Start}
use Rattle.uid_names.specs.declared.ids.Place.{Place}
use Rattle.uid_names.proofs.Passed.{left-true, right-true, equal}
use Rattle.dom_history.specs.declared.op.Entry.{Entry}
use Rattle.dom_history.specs.declared.op.Op.{Op}
use Rattle.dom_history.specs.Events.{Happening}
use Rattle.dom_history.specs.Objects.{is_node}
use Rattle.dom_history.specs.Histories.{Item, Answered, Acted, SomeOf, entries, place_of, place_lt, same_place, IsRising}
use Rattle.dom_history.specs.Follows.{IsPhased}
use Rattle.dom_history.proofs.Places.{place_lt-tick}
use Rattle.node_runs.specs.Setups.{Setup, IsSetup}
use Rattle.node_runs.specs.Notes.{Told, Note}
use Rattle.node_runs.specs.NodesKeep.{IsTimely}
use Rattle.node_runs.specs.Runs.{SentMark, World, Noted, Choice, choice_of, world_of, world_after}
use Rattle.node_runs.specs.RunHistories.{is_fault, settled_op, told_by, all_told, ended_at, ended_by, history_in, history_if, history_of}
use Rattle.node_runs.specs.CallsKeep.{EachOf}
use Rattle.node_runs.specs.DecidedCalls.{AreDecidedOnce}
use Rattle.node_runs.proofs.Receiving.{EachOf-more}
use Rattle.node_runs.proofs.SettingUp.{setup-procs}
use Rattle.node_runs.proofs.Decisions.{decisions-are}
use Rattle.run_laws.specs.NotedEntries.{entry_of, entry_if, begun_entry, decided_entry, entries_at, noted_entries}
use Rattle.run_laws.specs.DecidedReplies.{IsDecisionOf}
use Rattle.run_laws.specs.Placed.{AreRisingNotes, IsBegin, IsDecidedBehind, IsPlaced, AreEndsPlaced}
use Rattle.run_laws.proofs.Slots.{place-is}
use Rattle.run_laws.proofs.Walks.{first-other, others-not, settled-decides, SomeOf-more}
use Rattle.run_laws.proofs.Placing.{ends-placed}
use Rattle.run_laws.proofs.Rising.{notes-rise, history-rises}
use Rattle.run_laws.proofs.Following.{EachOf-append}
use Rattle.run_laws.proofs.HistoryEntries.{history-entries}
use Rattle.run_laws.specs.Phases.{IsMarkBelow, AreMarkedBelow, AreMarksAbove, IsInPhase, IsEndInPhase}
use Rattle.run_laws.proofs.InPhases.{in_phases-are}

-- what is found has what each has, and passes the test
find-passed : {A : Type 0} (P : A → Type 0) (test : A → Bool) (xs : List A) → EachOf P xs → IfSome (find test xs) (λ x. (test x ≡ true) × P x)
find-passed P test [] each = tt
find-passed P test (x ∷ xs) each = by_cases (test x) (IfSome (find test (x ∷ xs)) (λ y. (test y ≡ true) × P y))
    (λ h. subst (λ b. IfSome (if b then Some x else find test xs) (λ y. (test y ≡ true) × P y)) (sym h) (h, each.0))
    (λ h. subst (λ b. IfSome (if b then Some x else find test xs) (λ y. (test y ≡ true) × P y)) (sym h) (find-passed P test xs each.1))

begin-before : (p : ProcName) (op : Op) (begun top : Place) (notes : List Noted) → SomeOf (IsBegin p op begun) notes → EachOf (λ (j : Noted). place_lt j.place top ≡ true) notes → place_lt begun top ≡ true
begin-before p op begun top [] some each = absurd some
begin-before p op begun top (m ∷ older) (inl is) each = subst (λ y. place_lt y top ≡ true) is.0 each.0
begin-before p op begun top (m ∷ older) (inr some) each = begin-before p op begun top older some each.1

module _ (opening : Start) (marks : List SentMark) where
  -- a decision on the last call of what ended stands between its Begin and its end
  abbrev IsBetween : Told → Place → Noted → Type 0
  IsBetween t last j = IsDecisionOf t.proc t.number j.note → (t.begun.tick ≤ j.place.tick) × (j.place.tick ≤ last.tick)

  -- an operation that ended, and the decisions on its last call among these notes
  record IsToldIn (notes : List Noted) (t : Told) : Type 0 where
    last : Place
    is : IsInPhase opening marks t.proc t.phase t.begun.tick last
    begun : t.begun.tick ≤ last.tick
    decided : is_fault t.reply ≡ false → EachOf (IsBetween t last) notes

  abbrev WasTold : List Noted → Told → Type 0
  WasTold notes t = is_fault t.reply ≡ false → SomeOf (λ (j : Noted). IsDecisionOf t.proc t.number j.note) notes

  abbrev Both : List Noted → Told → Type 0
  Both notes t = IsToldIn notes t × WasTold notes t

  -- one note more, which does not decide it again
  told-more : (m : Noted) (older : List Noted) → AreDecidedOnce (m ∷ older) → (t : Told) → Both older t → Both (m ∷ older) t
  told-more m older once t both = (
    record {
      last = both.0.last;
      is = both.0.is;
      begun = both.0.begun;
      decided = λ none. ((λ is. absurd (others-not t.proc t.number older (first-other t.proc t.number m.note older is once.0) (both.1 none))), both.0.decided none);
    },
    (λ none. inr (both.1 none)),
  )

  not-fault : (b : Bool) → (b ≡ true) → (b ≡ false) → ⊥
  not-fault b e f = absurd (let h : true ≡ false = sym e ∙ f in cc)

  new-told : (m : Noted) (older : List Noted) → EachOf (λ (j : Noted). place_lt j.place m.place ≡ true) older → (note : Note) → note ≡ m.note → IsPlaced note older → IsEndInPhase opening marks m.place note → EachOf (Both (m ∷ older)) (told_by note)
  new-told m older rising Note.Nothing same placed is = tt
  new-told m older rising (Note.Began p op) same placed is = tt
  new-told m older rising (Note.Did p phase op reply) same placed is = tt
  new-told m older rising (Note.Decided p number ask answer) same placed is = tt
  new-told m older rising (Note.Ended t) same placed is = (
    (
      record {
        last = m.place;
        is = is;
        begun = place_lt-tick t.begun m.place (begin-before t.proc t.op t.begun m.place older placed.began rising);
        decided = λ none. ((λ decides. absurd (subst (IsDecisionOf t.proc t.number) (sym same) decides)), between older placed.behind rising);
      },
      (λ none. elim placed.decided [
        | inl fault ↦ absurd (not-fault (is_fault t.reply) fault none)
        | inr some ↦ inr (SomeOf-more (IsDecidedBehind t.proc t.number t.begun) (λ (j : Noted). IsDecisionOf t.proc t.number j.note) older (λ j d. settled-decides t.proc t.number j.note d.0) some)
      ]),
    ),
    tt,
  )
    where
      between : (notes : List Noted) → EachOf (λ (j : Noted). IsDecisionOf t.proc t.number j.note → place_lt t.begun j.place ≡ true) notes → EachOf (λ (j : Noted). place_lt j.place m.place ≡ true) notes → EachOf (IsBetween t m.place) notes
      between [] behind below = tt
      between (j ∷ notes) behind below = ((λ decides. (place_lt-tick t.begun j.place (behind.0 decides), place_lt-tick j.place m.place below.0)), between notes behind.1 below.1)

  all-told-in : (notes : List Noted) → AreEndsPlaced notes → AreRisingNotes notes → AreDecidedOnce notes → EachOf (λ (j : Noted). IsEndInPhase opening marks j.place j.note) notes → EachOf (Both notes) (all_told notes)
  all-told-in [] ends rising once each = tt
  all-told-in (m ∷ older) ends rising once each =
      EachOf-append (Both (m ∷ older)) (told_by m.note) (all_told older)
      (new-told m older rising.0 m.note refl ends.0 each.0)
      (EachOf-more (Both older) (Both (m ∷ older)) (all_told older) (λ t both. told-more m older once t both) (all-told-in older ends.1 rising.1 once.1 each.1))

  -- an entry stands above all marks of the phases before its own, and below its node's mark of its own
  record IsEntryIn (e : Entry) : Type 0 where
    node : is_node opening e.proc.node ≡ true
    least : 1 ≤ e.phase
    behind : AreMarkedBelow opening marks e.place.tick e.phase
    before : AreMarksAbove marks e.place.tick e.proc.node e.phase

  -- the entry of what ended, between its Begin and its end
  told-entry : (notes : List Noted) (t : Told) (is : IsToldIn notes t) (x : Place) → t.begun.tick ≤ x.tick → x.tick ≤ is.last.tick → IsEntryIn (entry_of x t)
  told-entry notes t is x low high = record {
    node = is.is.node;
    least = is.is.least;
    behind = λ a k node least below. SomeOf-more (IsMarkBelow t.begun.tick a k) (IsMarkBelow x.tick a k) marks (λ m h. (h.0, h.1, (let e = h.2 in omega (arith, e, low)))) (is.is.behind a k node least below);
    before = EachOf-more (λ (m : SentMark). m.node ≡ t.proc.node → m.phase ≡ t.phase → is.last.tick < m.tick) (λ (m : SentMark). m.node ≡ t.proc.node → m.phase ≡ t.phase → x.tick < m.tick) marks
        (λ m h node phase. let e = h node phase in omega (arith, e, high)) is.is.before;
  }

  entry-if : (b : Bool) (x : Place) (t : Told) → IsEntryIn (entry_of x t) → EachOf IsEntryIn (entry_if b x t)
  entry-if true x t is = (is, tt)
  entry-if false x t is = tt

  not-true : (b : Bool) (c : Bool) → not b ≡ c → c ≡ true → b ≡ false
  not-true true c e f = absurd (let h : false ≡ true = e ∙ f in cc)
  not-true false c e f = refl

  begun-in : (notes : List Noted) (p : ProcName) (x : Place) (o : Option Told) → IfSome o (λ t. ((same_proc t.proc p && same_place t.begun x) ≡ true) × IsToldIn notes t) → EachOf IsEntryIn (begun_entry x o)
  begun-in notes p x None is = tt
  begun-in notes p x (Some t) is = entry-if (is_fault t.reply) x t
      (let e = ap (λ (y : Place). y.tick) (place-is t.begun x (right-true (same_proc t.proc p) _ is.0)) in
      told-entry notes t is.1 x (omega (arith, e)) (let f = is.1.begun in omega (arith, e, f)))

  decided-in : (j : Noted) (older : List Noted) (p : ProcName) (number : ℕ) (op : Option Op) (o : Option Told) → IsDecisionOf p number j.note → IfSome o (λ t. ((same_proc t.proc p && (t.number == number)) ≡ true) × IsToldIn (j ∷ older) t) → EachOf IsEntryIn (decided_entry j.place op o)
  decided-in j older p number None o decides is = tt
  decided-in j older p number (Some op) None decides is = tt
  decided-in j older p number (Some op) (Some t) decides is = by (not (is_fault t.reply)) refl
    where
      mine : IsDecisionOf t.proc t.number j.note
      mine = subst (λ q. IsDecisionOf q t.number j.note) (sym (same_proc_is t.proc p (left-true _ _ is.0))) (subst (λ k. IsDecisionOf p k j.note) (sym (equal t.number number (right-true (same_proc t.proc p) _ is.0))) decides)

      by : (b : Bool) → not (is_fault t.reply) ≡ b → EachOf IsEntryIn (entry_if b j.place t)
      by false e = tt
      by true e = let at = (is.1.decided (not-true (is_fault t.reply) true e refl)).0 mine in (told-entry (j ∷ older) t is.1 j.place at.0 at.1, tt)

  note-in : (so_far : List Told) (j : Noted) (older : List Noted) → EachOf (IsToldIn (j ∷ older)) so_far → (note : Note) → note ≡ j.note → IsEndInPhase opening marks j.place note → EachOf IsEntryIn (entries_at so_far j.place note)
  note-in so_far j older each Note.Nothing same is = tt
  note-in so_far j older each (Note.Began p op) same is = begun-in (j ∷ older) p j.place (ended_at p j.place so_far) (find-passed (IsToldIn (j ∷ older)) _ so_far each)
  note-in so_far j older each (Note.Did p phase op reply) same is = (record { node = is.node; least = is.least; behind = is.behind; before = is.before }, tt)
  note-in so_far j older each (Note.Ended t) same is = tt
  note-in so_far j older each (Note.Decided p number ask answer) same is =
      decided-in j older p number (settled_op j.place.node ask) (ended_by p number so_far) (subst (IsDecisionOf p number) same (refl, refl)) (find-passed (IsToldIn (j ∷ older)) _ so_far each)

  fewer : (j : Noted) (older : List Noted) (t : Told) → IsToldIn (j ∷ older) t → IsToldIn older t
  fewer j older t is = record { last = is.last; is = is.is; begun = is.begun; decided = λ none. (is.decided none).1 }

  entries-in : (so_far : List Told) (notes : List Noted) → EachOf (IsToldIn notes) so_far → EachOf (λ (j : Noted). IsEndInPhase opening marks j.place j.note) notes → EachOf IsEntryIn (noted_entries so_far notes)
  entries-in so_far [] told each = tt
  entries-in so_far (j ∷ older) told each =
      EachOf-append IsEntryIn (entries_at so_far j.place j.note) (noted_entries so_far older) (note-in so_far j older told j.note refl each.0)
      (entries-in so_far older (EachOf-more (IsToldIn (j ∷ older)) (IsToldIn older) so_far (λ t is. fewer j older t is) told) each.1)

  -- an entry that stands before another is not of a greater phase
  between-marks : (low high : ℕ) (node phase : ℕ) (ms : List SentMark) → SomeOf (IsMarkBelow high node phase) ms → AreMarksAbove ms low node phase → low < high
  between-marks low high node phase [] some each = absurd some
  between-marks low high node phase (m ∷ ms) (inl is) each = let e = each.0 is.0 is.1 in let f = is.2 in omega (arith, e, f)
  between-marks low high node phase (m ∷ ms) (inr some) each = between-marks low high node phase ms some each.1

  in-order : (e f : Entry) → IsEntryIn e → IsEntryIn f → place_lt f.place e.place ≡ true → f.phase ≤ e.phase
  in-order e f is at lt = by_cases (nat_le f.phase e.phase) (f.phase ≤ e.phase)
      (λ h. grind (arith, nat_tests, h))
      (λ h.
      let greater : e.phase < f.phase = grind (arith, nat_tests, h) in
      let above = between-marks e.place.tick f.place.tick e.proc.node e.phase marks (at.behind e.proc.node e.phase is.node is.least greater) is.before in
      let below = place_lt-tick f.place e.place lt in
      absurd (omega (arith, above, below)))

  below-phased : (e : Entry) → IsEntryIn e → (past : List Item) → AllByRecursion (λ j. IsTrue (place_lt (place_of j) e.place)) past → EachOf IsEntryIn (entries past) → AllByRecursion (λ (f : Entry). f.phase ≤ e.phase) (entries past)
  below-phased e is [] below each = tt
  below-phased e is (Answered f ∷ past) below each = (in-order e f is each.0 below.0, below-phased e is past below.1 each.1)
  below-phased e is (Acted a ∷ past) below each = below-phased e is past below.1 each

  items-phased : (items : List Item) → IsRising items → EachOf IsEntryIn (entries items) → IsPhased (entries items)
  items-phased [] rising each = tt
  items-phased (Answered e ∷ past) rising each =
      (All-from_recursion (λ (f : Entry). f.phase ≤ e.phase) (entries past) (below-phased e each.0 past (recursion_from_All (λ j. IsTrue (place_lt (place_of j) e.place)) past rising.0) each.1), items-phased past rising.1 each.1)
  items-phased (Acted a ∷ past) rising each = items-phased past rising.1 each

-- in every run
pub history-phased : (s : Setup) → IsSetup s → (cs : List Choice) (w : World) → world_after s cs ≡ Some w → IsTimely w → IsPhased (entries (history_in s w).items)
history-phased s setup cs w e timely =
    let in_phase = in_phases-are s setup cs w e timely in
    let told = EachOf-more (Both s.opening w.marks w.trace) (IsToldIn s.opening w.marks w.trace) (all_told w.trace) (λ t both. both.0)
    (all-told-in s.opening w.marks w.trace (ends-placed s setup cs w e timely) (notes-rise s cs w e).rising (decisions-are s (setup-procs s setup) cs w e).once in_phase.notes) in
    items-phased s.opening w.marks (history_in s w).items (history-rises s cs w e)
    (subst (EachOf (IsEntryIn s.opening w.marks)) (sym (history-entries w (all_told w.trace) w.trace)) (entries-in s.opening w.marks (all_told w.trace) w.trace told in_phase.notes))

-- and that of its events
pub events-phased : (s : Setup) → IsSetup s → (es : List Happening) (w : World) → world_of s es ≡ Some w → IsTimely w → IsPhased (entries (history_of s es).items)
events-phased s setup es w e timely = subst (λ (o : Option World). IsPhased (entries (history_if s o).items)) (sym e) (history-phased s setup (map choice_of es) w e timely)
