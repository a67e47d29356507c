-- In every run each act stands behind the Begin of its operation.
use Rattle.std.proofs.Common.{◌≡◌, ℕ, Bool, true, false, List, [], ◌∷◌, Option, Some, None, IfSome, inl, inr, refl, sym, ap, subst, ◌∙◌}
use Rattle.std.specs.Prelude.{◌&&◌, ◌==◌, if◌then◌else◌}
use Rattle.std.proofs.lemmas.Bool.{eq-eqb}
use Rattle.uid_names.proofs.ListLemmas.{by_cases}
use Rattle.uid_names.proofs.Orders.{same_proc_is, same_proc-itself}
use Rattle.uid_names.specs.Names.{ProcName, same_proc}
use Rattle.uid_names.specs.declared.ids.Place.{Place}
use Rattle.uid_names.proofs.Passed.{left-true, right-true, equal}
use Rattle.dom_history.specs.declared.op.Op.{Op}
use Rattle.dom_history.specs.declared.op.Reply.{Reply}
use Rattle.dom_history.specs.Histories.{SomeOf, place_lt}
use Rattle.ring_messages.specs.Bodies.{Ask, Answer}
use Rattle.fault_handler.specs.Invariant.{IsProc}
use Rattle.node_runs.specs.Setups.{Setup, IsSetup}
use Rattle.node_runs.specs.NodeStates.{Await, OpenOp, proc_of}
use Rattle.node_runs.specs.Notes.{Told, Note}
use Rattle.node_runs.specs.NodesKeep.{IsTimely}
use Rattle.node_runs.specs.Runs.{World, Noted, Choice, world_after}
use Rattle.node_runs.specs.RunHistories.{is_fault, change_reply, act_item, fault_item, begun_item, told_item, open_item, settled_item, decided_item, settled_op, ended_at, ended_by, told_by, all_told, doing_of, items_of, items_from, history_in}
use Rattle.node_runs.specs.CallsKeep.{EachOf}
use Rattle.node_runs.specs.DecidedCalls.{IsDecided}
use Rattle.node_runs.proofs.Receiving.{EachOf-more}
use Rattle.node_runs.proofs.SettingUp.{setup-procs}
use Rattle.node_runs.proofs.Decisions.{decisions-are}
use Rattle.node_runs.proofs.EachOf.{EachOf-both, EachOf-at}
use Rattle.run_laws.specs.DecidedReplies.{proc_at, IsDecisionOf}
use Rattle.run_laws.specs.Placed.{AreRisingNotes, IsBegin, IsPlaced, AreEndsPlaced}
use Rattle.run_laws.specs.Heard.{IsOpenSince, IsDoingSince}
use Rattle.run_laws.specs.LastCalls.{HasNumber, IsOpenNumber, IsOpenOrTold}
use Rattle.run_laws.specs.Acts.{IsBehindBegin}
use Rattle.run_laws.proofs.Slots.{settles}
use Rattle.run_laws.proofs.Placing.{since-behind, ends-placed}
use Rattle.run_laws.proofs.Rising.{notes-rise}
use Rattle.run_laws.proofs.HearingRuns.{heard-are}
use Rattle.run_laws.proofs.Lasting.{last-calls-are, calls-of-procs}
use Rattle.run_laws.proofs.Hearing.{EachOf-all}
use Rattle.run_laws.proofs.Following.{EachOf-append}

EachOf-self : {A : Type 0} (xs : List A) → EachOf (λ x. SomeOf (λ y. y ≡ x) xs) xs
EachOf-self [] = tt
EachOf-self (x ∷ xs) = (inl refl, EachOf-more (λ z. SomeOf (λ y. y ≡ z) xs) (λ z. SomeOf (λ y. y ≡ z) (x ∷ xs)) xs (λ z some. inr some) (EachOf-self xs))

SomeOf-place : (Q : Place → Type 0) (p : ProcName) (op : Op) (begun : Place) (notes : List Noted) → SomeOf (IsBegin p op begun) notes → EachOf (λ (j : Noted). Q j.place) notes → Q begun
SomeOf-place Q p op begun [] some each = absurd some
SomeOf-place Q p op begun (m ∷ older) (inl is) each = subst Q is.0 each.0
SomeOf-place Q p op begun (m ∷ older) (inr some) each = SomeOf-place Q p op begun older some each.1

-- what was told of began before
abbrev HasBegun : List Noted → Told → Type 0
HasBegun notes t = SomeOf (IsBegin t.proc t.op t.begun) notes

placed-begun : (note : Note) (older : List Noted) → IsPlaced note older → EachOf (HasBegun older) (told_by note)
placed-begun Note.Nothing older is = tt
placed-begun (Note.Began p op) older is = tt
placed-begun (Note.Did p phase op reply) older is = tt
placed-begun (Note.Ended t) older is = (is.began, tt)
placed-begun (Note.Decided p number ask answer) older is = tt

told-begun : (notes : List Noted) → AreEndsPlaced notes → EachOf (HasBegun notes) (all_told notes)
told-begun [] ends = tt
told-begun (m ∷ older) ends =
    EachOf-append (HasBegun (m ∷ older)) (told_by m.note) (all_told older)
    (EachOf-more (HasBegun older) (HasBegun (m ∷ older)) (told_by m.note) (λ t is. inr is) (placed-begun m.note older ends.0))
    (EachOf-more (HasBegun older) (HasBegun (m ∷ older)) (all_told older) (λ t is. inr is) (told-begun older ends.1))

-- a decision on the last call of what was told of stands behind its Begin
abbrev IsBehind : Noted → Told → Type 0
IsBehind j t = IsDecisionOf t.proc t.number j.note → place_lt t.begun j.place ≡ true

placed-behind : (note : Note) (older : List Noted) → IsPlaced note older → EachOf (λ (j : Noted). EachOf (IsBehind j) (told_by note)) older
placed-behind Note.Nothing older is = EachOf-all (λ (j : Noted). Unit {0}) older (λ j. tt)
placed-behind (Note.Began p op) older is = EachOf-all (λ (j : Noted). Unit {0}) older (λ j. tt)
placed-behind (Note.Did p phase op reply) older is = EachOf-all (λ (j : Noted). Unit {0}) older (λ j. tt)
placed-behind (Note.Ended t) older is = EachOf-more (λ (j : Noted). IsBehind j t) (λ (j : Noted). EachOf (IsBehind j) (t ∷ [])) older (λ j b. (b, tt)) is.behind
placed-behind (Note.Decided p number ask answer) older is = EachOf-all (λ (j : Noted). Unit {0}) older (λ j. tt)

own-behind : (m : Noted) (note : Note) → note ≡ m.note → EachOf (IsBehind m) (told_by note)
own-behind m Note.Nothing same = tt
own-behind m (Note.Began p op) same = tt
own-behind m (Note.Did p phase op reply) same = tt
own-behind m (Note.Ended t) same = ((λ is. absurd (subst (IsDecisionOf t.proc t.number) (sym same) is)), tt)
own-behind m (Note.Decided p number ask answer) same = tt

all-behind : (notes : List Noted) → AreEndsPlaced notes → AreRisingNotes notes → EachOf (λ (j : Noted). EachOf (IsBehind j) (all_told notes)) notes
all-behind [] ends rising = tt
all-behind (m ∷ older) ends rising = (
  EachOf-append (IsBehind m) (told_by m.note) (all_told older) (own-behind m m.note refl)
      (EachOf-more (HasBegun older) (IsBehind m) (all_told older) (λ t begun is. SomeOf-place (λ x. place_lt x m.place ≡ true) t.proc t.op t.begun older begun rising.0) (told-begun older ends.1)),
  EachOf-both (λ (j : Noted). EachOf (IsBehind j) (told_by m.note)) (λ (j : Noted). EachOf (IsBehind j) (all_told older)) (λ (j : Noted). EachOf (IsBehind j) (all_told (m ∷ older))) older
      (λ j a b. EachOf-append (IsBehind j) (told_by m.note) (all_told older) a b) (placed-behind m.note older ends.0) (all-behind older ends.1 rising.1),
)

-- a call of which nobody was told
none-told : (p : ProcName) (number : ℕ) (so_far : List Told) → ended_by p number so_far ≡ None → SomeOf (λ (t : Told). (t.proc ≡ p) × (t.number ≡ number)) so_far → ⊥
none-told p number [] none some = some
none-told p number (t ∷ so_far) none (inl is) =
    let h : (same_proc t.proc p && (t.number == number)) ≡ true =
    ap (λ b. b && (t.number == number)) (subst (λ q. same_proc t.proc q ≡ true) is.0 (same_proc-itself t.proc)) ∙ eq-eqb t.number number is.1 in
    absurd (let e : Some t ≡ None = sym (ap (λ b. if b then Some t else ended_by p number so_far) h) ∙ none in cc)
none-told p number (t ∷ so_far) none (inr some) = by_cases (same_proc t.proc p && (t.number == number)) ⊥
    (λ h. absurd (let e : Some t ≡ None = sym (ap (λ b. if b then Some t else ended_by p number so_far) h) ∙ none in cc))
    (λ h. none-told p number so_far (sym (ap (λ b. if b then Some t else ended_by p number so_far) h) ∙ none) some)

-- what a decision on a call finds of it
told-found : (j : Noted) (p : ProcName) (number : ℕ) (so_far : List Told) → IsDecisionOf p number j.note → EachOf (IsBehind j) so_far → IfSome (ended_by p number so_far) (λ t. place_lt t.begun j.place ≡ true)
told-found j p number [] is each = tt
told-found j p number (t ∷ so_far) is each = by_cases (same_proc t.proc p && (t.number == number)) (IfSome (ended_by p number (t ∷ so_far)) (λ t. place_lt t.begun j.place ≡ true))
    (λ h. subst (λ b. IfSome (if b then Some t else ended_by p number so_far) (λ t. place_lt t.begun j.place ≡ true)) (sym h)
    (each.0 (subst (λ q. IsDecisionOf q t.number j.note) (sym (same_proc_is t.proc p (left-true _ _ h))) (subst (λ k. IsDecisionOf p k j.note) (sym (equal t.number number (right-true (same_proc t.proc p) _ h))) is))))
    (λ h. subst (λ b. IfSome (if b then Some t else ended_by p number so_far) (λ t. place_lt t.begun j.place ≡ true)) (sym h) (told-found j p number so_far is each.1))

act-behind : (x begun : Place) (p : ProcName) (op : Op) (o : Option Reply) → place_lt begun x ≡ true → EachOf IsBehindBegin (act_item x begun p op o)
act-behind x begun p op None lt = tt
act-behind x begun p op (Some reply) lt = (lt, tt)

fault-behind : (b : Bool) (x : Place) (t : Told) → EachOf IsBehindBegin (fault_item b x t)
fault-behind true x t = (tt, tt)
fault-behind false x t = tt

begun-behind : (x : Place) (o : Option Told) → EachOf IsBehindBegin (begun_item x o)
begun-behind x None = tt
begun-behind x (Some t) = fault-behind (is_fault t.reply) x t

told-behind : (b : Bool) (x : Place) (op : Op) (answer : Answer) (t : Told) → place_lt t.begun x ≡ true → EachOf IsBehindBegin (told_item b x op answer t)
told-behind true x op answer t lt = act-behind x t.begun t.proc op (change_reply answer) lt
told-behind false x op answer t lt = (tt, tt)

open-behind : (x : Place) (p : ProcName) (op : Op) (answer : Answer) (o : Option OpenOp) → IfSome o (λ o. place_lt o.began.begun x ≡ true) → EachOf IsBehindBegin (open_item x p op answer o)
open-behind x p op answer None lt = tt
open-behind x p op answer (Some o) lt = act-behind x o.began.begun p op (change_reply answer) lt

settled-behind : (x : Place) (p : ProcName) (op : Op) (answer : Answer) (o : Option Told) (doing : Option OpenOp) → IfSome o (λ t. place_lt t.begun x ≡ true) → (o ≡ None → IfSome doing (λ o. place_lt o.began.begun x ≡ true))
    → EachOf IsBehindBegin (settled_item x p op answer o doing)
settled-behind x p op answer None doing lt open_lt = open-behind x p op answer doing (open_lt refl)
settled-behind x p op answer (Some t) doing lt open_lt = told-behind (is_fault t.reply) x op answer t lt

module _ (s : Setup) (setup : IsSetup s) (cs : List Choice) (w : World) (e : world_after s cs ≡ Some w) (timely : IsTimely w) where
  abbrev so_far : List Told
  so_far = all_told w.trace

  rising : AreRisingNotes w.trace
  rising = (notes-rise s cs w e).rising

  -- each decision on the open call of a process stands behind its Begin
  open-call-behind : (n p : ℕ) → IsProc p → (number : ℕ) (o : Option OpenOp) → o ≡ (proc_of (w.nodes n) p).doing → IsOpenNumber number o
      → IfSome o (λ o. EachOf (λ (j : Noted). IsDecisionOf (proc_at n p) number j.note → place_lt o.began.begun j.place ≡ true) w.trace)
  open-call-behind n p proc number None same is = tt
  open-call-behind n p proc number (Some o) same is = by o.awaits is (subst (IsDoingSince (proc_at n p) so_far w.trace (w.nodes n).tick (proc_of (w.nodes n) p).last) (sym same) ((heard-are s setup (setup-procs s setup) cs w e timely).procs n p proc).doing)
    where
      by : (a : Await) → HasNumber number a → IsOpenSince (proc_at n p) so_far w.trace (w.nodes n).tick (proc_of (w.nodes n) p).last o.began a → EachOf (λ (j : Noted). IsDecisionOf (proc_at n p) number j.note → place_lt o.began.begun j.place ≡ true) w.trace
      by (Await.Page u k) is since = absurd is
      by (Await.Answer c) is since = subst (λ k. EachOf (λ (j : Noted). IsDecisionOf (proc_at n p) k j.note → place_lt o.began.begun j.place ≡ true) w.trace) is (since-behind (proc_at n p) o.began so_far c w.trace since.since rising)

  open-lt : (j : Noted) (n p : ℕ) (number : ℕ) → SomeOf (λ (i : Noted). i ≡ j) w.trace → IsDecisionOf (proc_at n p) number j.note → (o : Option OpenOp)
      → IfSome o (λ o. EachOf (λ (j : Noted). IsDecisionOf (proc_at n p) number j.note → place_lt o.began.begun j.place ≡ true) w.trace) → IfSome o (λ o. place_lt o.began.begun j.place ≡ true)
  open-lt j n p number member is None each = tt
  open-lt j n p number member is (Some o) each = EachOf-at (λ (j : Noted). IsDecisionOf (proc_at n p) number j.note → place_lt o.began.begun j.place ≡ true) j w.trace each member is

  decision-behind : (j : Noted) → SomeOf (λ (i : Noted). i ≡ j) w.trace → EachOf (IsBehind j) so_far → (p : ProcName) (number : ℕ) (ask : Ask) (answer : Answer) → Note.Decided p number ask answer ≡ j.note → IsDecided w j.place (Note.Decided p number ask answer)
      → EachOf IsBehindBegin (decided_item j.place p (settled_op j.place.node ask) answer (ended_by p number so_far) (doing_of w p))
  decision-behind j member behind p number ask answer same decided = elim (settles j.place.node ask) [
    | inl none ↦ subst (λ o. EachOf IsBehindBegin (decided_item j.place p o answer (ended_by p number so_far) (doing_of w p))) (sym none) tt
    | inr some ↦
        subst (λ o. EachOf IsBehindBegin (decided_item j.place p o answer (ended_by p number so_far) (doing_of w p))) (sym some.1.1)
        (settled-behind j.place p some.1.0 answer (ended_by p number so_far) (doing_of w p)
        (told-found j p number so_far (subst (IsDecisionOf p number) same (refl, refl)) behind)
        (λ none. open_one (last-calls-are s setup cs w e timely p.node p.number proc number j.place.node ask decided.1 some.0) none))
  ]
    where
      proc : IsProc p.number
      proc = calls-of-procs s setup cs w e timely p.node p.number number j.place.node ask decided.1

      name : proc_at p.node p.number ≡ p
      name = same_proc_is (proc_at p.node p.number) p (same_proc-itself p)

      open_one : IsOpenOrTold (proc_at p.node p.number) number (proc_of (w.nodes p.node) p.number) so_far → ended_by p number so_far ≡ None → IfSome (doing_of w p) (λ o. place_lt o.began.begun j.place ≡ true)
      open_one (inl is) none = open-lt j p.node p.number number member (subst (λ q. IsDecisionOf q number j.note) (sym name) (subst (IsDecisionOf p number) same (refl, refl))) (doing_of w p)
          (open-call-behind p.node p.number proc number (doing_of w p) refl is)
      open_one (inr gone) none = absurd (none-told p number so_far none (subst (λ q. SomeOf (λ (t : Told). (t.proc ≡ q) × (t.number ≡ number)) so_far) name gone))

  note-behind : (j : Noted) → SomeOf (λ (i : Noted). i ≡ j) w.trace → EachOf (IsBehind j) so_far → (note : Note) → note ≡ j.note → IsDecided w j.place note → EachOf IsBehindBegin (items_of w so_far j.place note)
  note-behind j member behind Note.Nothing same decided = tt
  note-behind j member behind (Note.Began p op) same decided = begun-behind j.place (ended_at p j.place so_far)
  note-behind j member behind (Note.Did p phase op reply) same decided = (tt, tt)
  note-behind j member behind (Note.Ended t) same decided = tt
  note-behind j member behind (Note.Decided p number ask answer) same decided = decision-behind j member behind p number ask answer same decided

  abbrev AddsBehind : Noted → Type 0
  AddsBehind j = EachOf IsBehindBegin (items_of w so_far j.place j.note)

  items-behind : (notes : List Noted) → EachOf AddsBehind notes → EachOf IsBehindBegin (items_from w so_far notes)
  items-behind [] each = tt
  items-behind (m ∷ older) each = EachOf-append IsBehindBegin (items_of w so_far m.place m.note) (items_from w so_far older) each.0 (items-behind older each.1)

  -- in every run
  pub acts-behind : EachOf IsBehindBegin (history_in s w).items
  acts-behind = items-behind w.trace
      (EachOf-both (λ (j : Noted). SomeOf (λ (i : Noted). i ≡ j) w.trace × EachOf (IsBehind j) so_far) (λ (j : Noted). IsDecided w j.place j.note) AddsBehind w.trace
      (λ j is decided. note-behind j is.0 is.1 j.note refl decided)
      (EachOf-both (λ (j : Noted). SomeOf (λ (i : Noted). i ≡ j) w.trace) (λ (j : Noted). EachOf (IsBehind j) so_far) (λ (j : Noted). SomeOf (λ (i : Noted). i ≡ j) w.trace × EachOf (IsBehind j) so_far) w.trace
      (λ j a b. (a, b)) (EachOf-self w.trace) (all-behind w.trace (ends-placed s setup cs w e timely) rising))
      (decisions-are s (setup-procs s setup) cs w e).each)
