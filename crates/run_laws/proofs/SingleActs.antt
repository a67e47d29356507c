-- In every run an operation acts once: each act is of a decision on the last call of its operation, and that call is decided once.
use Rattle.std.proofs.Common.{◌≡◌, ℕ, ◌<◌, Bool, true, false, List, [], ◌∷◌, ◌++◌, Option, Some, None, inl, inr, refl, sym, ap, subst, ◌∙◌, arith}
use Rattle.std.specs.Prelude.{◌==◌, ◌&&◌, if◌then◌else◌}
use Rattle.std.proofs.lemmas.Bool.{eq-eqb}
use Rattle.uid_names.proofs.ListLemmas.{by_cases}
use Rattle.uid_names.proofs.Orders.{same_proc_is, same_proc-itself}
use Rattle.uid_names.specs.Names.{ProcName, same_proc}
use Rattle.uid_names.specs.declared.ids.Place.{Place}
use Rattle.uid_names.proofs.Passed.{left-true, right-true, equal}
use Rattle.dom_history.specs.declared.op.Op.{Op}
use Rattle.dom_history.specs.declared.op.Reply.{Reply}
use Rattle.dom_history.specs.Histories.{Item, Answered, Acted, SomeOf}
use Rattle.ring_messages.specs.Bodies.{Ask, Answer}
use Rattle.fault_handler.specs.Invariant.{IsProc}
use Rattle.node_runs.specs.Setups.{Setup, IsSetup}
use Rattle.node_runs.specs.NodeStates.{Await, OpenOp, proc_of}
use Rattle.node_runs.specs.Notes.{Told, Note}
use Rattle.node_runs.specs.NodesKeep.{IsTimely}
use Rattle.node_runs.specs.Runs.{World, Noted, Choice, numbered, world_after}
use Rattle.node_runs.specs.RunHistories.{is_fault, settled_op, change_reply, act_item, fault_item, begun_item, told_item, open_item, settled_item, decided_item, doing_of, ended_at, ended_by, all_told, items_of, items_from, history_in}
use Rattle.node_runs.specs.CallsKeep.{IsCallAt, IsAwaited, EachOf}
use Rattle.node_runs.specs.CallsKeep as node_calls
use Rattle.node_runs.proofs.Calls.{calls-are}
use Rattle.run_laws.specs.Progress.{IsSettling, IsPart}
use Rattle.node_runs.specs.DecidedCalls.{IsDecided, IsOther, AreDecidedOnce}
use Rattle.node_runs.proofs.Receiving.{EachOf-more}
use Rattle.node_runs.proofs.SettingUp.{setup-procs}
use Rattle.node_runs.proofs.Decisions.{decisions-are}
use Rattle.run_laws.specs.DecidedReplies.{proc_at, IsDecisionOf}
use Rattle.run_laws.specs.Heard.{IsDoingSince}
use Rattle.run_laws.specs.LastCalls.{HasNumber, IsOpenNumber, IsOpenOrTold}
use Rattle.run_laws.proofs.Slots.{settles}
use Rattle.run_laws.proofs.Walks.{first-other, other-not, SomeOf-more}
use Rattle.run_laws.proofs.Rising.{Adds, nothing, one, note-adds}
use Rattle.run_laws.proofs.HearingRuns.{same-ask, heard-are}
use Rattle.run_laws.proofs.Lasting.{last-calls-are, calls-of-procs}
use Rattle.run_laws.proofs.Following.{EachOf-append}
use Rattle.run_laws.specs.SingleActs.{IsToldLater, AreToldRising, IsActOf, IsOnlyAct, AreSingleActs}
use Rattle.run_laws.specs.LastActs.{IsToldAt, IsOpenAt, IsLastOf, IsSettlingCall, IsActOfLast, HasNoAct, HaveOpenNoAct, HasToldNoAct}
use Rattle.run_laws.proofs.ToldRising.{told-rises}

-- what is found of a call among those that ended operations
pub data FoundCall (p : ProcName) (number : ℕ) (so_far : List Told) : Type 0 where
  found : (t : Told) → ended_by p number so_far ≡ Some t → t.proc ≡ p → SomeOf (IsToldAt p number t.begun) so_far → FoundCall p number so_far
  absent : ended_by p number so_far ≡ None → (SomeOf (λ (t : Told). (t.proc ≡ p) × (t.number ≡ number)) so_far → ⊥) → FoundCall p number so_far

pub find-call : (p : ProcName) (number : ℕ) (so_far : List Told) → FoundCall p number so_far
find-call p number [] = absent refl (λ none. none)
find-call p number (t ∷ so_far) = by_cases (same_proc t.proc p && (t.number == number)) (FoundCall p number (t ∷ so_far))
    (λ h.
    let same_p = same_proc_is t.proc p (left-true _ _ h) in
    found t (ap (λ b. if b then Some t else ended_by p number so_far) h) same_p (inl (same_p, equal t.number number (right-true (same_proc t.proc p) _ h), refl)))
    (λ h. elim (find-call p number so_far) [
      | found u is same some ↦ found u (ap (λ b. if b then Some t else ended_by p number so_far) h ∙ is) same (inr some)
      | absent is none ↦ absent (ap (λ b. if b then Some t else ended_by p number so_far) h ∙ is) (λ some. elim some [
        | inl here ↦
            (let e : (same_proc t.proc p && (t.number == number)) ≡ true = ap (λ b. b && (t.number == number)) (subst (λ q. same_proc t.proc q ≡ true) here.0 (same_proc-itself t.proc)) ∙ eq-eqb t.number number here.1 in
            absurd (let f : true ≡ false = sym e ∙ h in cc))
        | inr there ↦ none there
      ])
    ])

-- an operation has one last call
module _ (p : ProcName) (begun : Place) (k l : ℕ) where
  one-told : (t : Told) → IsToldAt p k begun t → (so_far : List Told) → EachOf (IsToldLater t) so_far → SomeOf (IsToldAt p l begun) so_far → k ≡ l
  one-told t is [] later some = absurd some
  one-told t is (u ∷ so_far) later (inl at) = absurd (
      let e = (later.0 (at.0 ∙ sym is.0)).0 in
      let f = ap (λ (x : Place). x.tick) (at.2 ∙ sym is.2) in
      omega (arith, e, f))
  one-told t is (u ∷ so_far) later (inr some) = one-told t is so_far later.1 some

-- of what ended, an operation has one last call
both-told : (p : ProcName) (begun : Place) (k l : ℕ) (so_far : List Told) → AreToldRising so_far → SomeOf (IsToldAt p k begun) so_far → SomeOf (IsToldAt p l begun) so_far → k ≡ l
both-told p begun k l [] rising some other = absurd some
both-told p begun k l (t ∷ so_far) rising (inl is) (inl at) = sym is.1 ∙ at.1
both-told p begun k l (t ∷ so_far) rising (inl is) (inr other) = one-told p begun k l t is so_far rising.0 other
both-told p begun k l (t ∷ so_far) rising (inr some) (inl at) = sym (one-told p begun l k t at so_far rising.0 some)
both-told p begun k l (t ∷ so_far) rising (inr some) (inr other) = both-told p begun k l so_far rising.1 some other

not-both : (p : ProcName) (begun : Place) (k : ℕ) (so_far : List Told) → EachOf (λ (t : Told). t.proc ≡ p → t.begun.tick < begun.tick) so_far → SomeOf (IsToldAt p k begun) so_far → ⊥
not-both p begun k [] behind some = some
not-both p begun k (t ∷ so_far) behind (inl at) = absurd (let e = behind.0 at.0 in let f = ap (λ (x : Place). x.tick) at.2 in omega (arith, e, f))
not-both p begun k (t ∷ so_far) behind (inr some) = not-both p begun k so_far behind.1 some

same-number : (k l : ℕ) (a : Await) → HasNumber k a → HasNumber l a → k ≡ l
same-number k l (Await.Answer c) is at = sym is ∙ at
same-number k l (Await.Page u page) is at = absurd is

module _ (s : Setup) (setup : IsSetup s) (cs : List Choice) (w : World) (e : world_after s cs ≡ Some w) (timely : IsTimely w) where
  abbrev so_far : List Told
  so_far = all_told w.trace

  -- what is open began behind all that its process was told of
  open-behind : (p : ProcName) → IsProc p.number → (begun : Place) (k : ℕ) → IsOpenAt k begun (doing_of w p) → EachOf (λ (t : Told). t.proc ≡ p → t.begun.tick < begun.tick) so_far
  open-behind p proc begun k is = by (doing_of w p) ((heard-are s setup (setup-procs s setup) cs w e timely).procs p.node p.number proc).doing is
    where
      name : proc_at p.node p.number ≡ p
      name = same_proc_is (proc_at p.node p.number) p (same_proc-itself p)

      by : (o : Option OpenOp) → IsDoingSince (proc_at p.node p.number) so_far w.trace (w.nodes p.node).tick (proc_of (w.nodes p.node) p.number).last o → IsOpenAt k begun o → EachOf (λ (t : Told). t.proc ≡ p → t.begun.tick < begun.tick) so_far
      by None since is = absurd is
      by (Some o) since is = subst (λ q. EachOf (λ (t : Told). t.proc ≡ q → t.begun.tick < begun.tick) so_far) name
          (subst (λ (x : Place). EachOf (λ (t : Told). t.proc ≡ proc_at p.node p.number → t.begun.tick < x.tick) so_far) is.0 since.behind)

  one-open : (p : ProcName) (begun : Place) (k l : ℕ) (o : Option OpenOp) → IsOpenAt k begun o → IsOpenAt l begun o → k ≡ l
  one-open p begun k l None is at = absurd is
  one-open p begun k l (Some o) is at = same-number k l o.awaits is.1 at.1

  one-last : (p : ProcName) → IsProc p.number → (begun : Place) (k l : ℕ) → IsLastOf w p k begun → IsLastOf w p l begun → k ≡ l
  one-last p proc begun k l (inl is) (inl at) = both-told p begun k l so_far (told-rises s setup cs w e timely) is at
  one-last p proc begun k l (inl is) (inr at) = absurd (not-both p begun k so_far (open-behind p proc begun l at) is)
  one-last p proc begun k l (inr is) (inl at) = absurd (not-both p begun l so_far (open-behind p proc begun k is) at)
  one-last p proc begun k l (inr is) (inr at) = one-open p begun k l (doing_of w p) is at

  -- the note decides the last call of the operation, one that settles it
  abbrev IsBy : Noted → ProcName → Place → Type 0
  IsBy j p begun = IsProc p.number × ((k : ℕ) × IsDecisionOf p k j.note × IsLastOf w p k begun × IsSettlingCall w p k)

  -- an act is of the decision on the last call of its operation
  abbrev IsActBy : Noted → Item → Type 0
  IsActBy j (Answered x) = Unit {0}
  IsActBy j (Acted a) = IsBy j a.deed.proc a.begun

  act-by : (j : Noted) (x begun : Place) (p : ProcName) (op : Op) (o : Option Reply) → IsBy j p begun → EachOf (IsActBy j) (act_item x begun p op o)
  act-by j x begun p op None is = tt
  act-by j x begun p op (Some reply) is = (is, tt)

  fault-by : (j : Noted) (b : Bool) (x : Place) (t : Told) → EachOf (IsActBy j) (fault_item b x t)
  fault-by j true x t = (tt, tt)
  fault-by j false x t = tt

  begun-by : (j : Noted) (x : Place) (o : Option Told) → EachOf (IsActBy j) (begun_item x o)
  begun-by j x None = tt
  begun-by j x (Some t) = fault-by j (is_fault t.reply) x t

  told-by : (j : Noted) (b : Bool) (x : Place) (op : Op) (answer : Answer) (t : Told) → IsBy j t.proc t.begun → EachOf (IsActBy j) (told_item b x op answer t)
  told-by j true x op answer t is = act-by j x t.begun t.proc op (change_reply answer) is
  told-by j false x op answer t is = (tt, tt)

  open-by : (j : Noted) (x : Place) (p : ProcName) → IsProc p.number → (number : ℕ) (op : Op) (answer : Answer) (o : Option OpenOp) → IsDecisionOf p number j.note → IsSettlingCall w p number → IsOpenNumber number o → ((begun : Place) → IsOpenAt number begun o → IsLastOf w p number begun)
      → EachOf (IsActBy j) (open_item x p op answer o)
  open-by j x p proc number op answer None decides call is last = tt
  open-by j x p proc number op answer (Some o) decides call is last = act-by j x o.began.begun p op (change_reply answer) (proc, (number, decides, last o.began.begun (refl, is), call))

  settled-by : (j : Noted) (x : Place) (p : ProcName) (number : ℕ) (op : Op) (answer : Answer) → IsProc p.number → IsDecisionOf p number j.note → IsSettlingCall w p number → IsOpenOrTold p number (proc_of (w.nodes p.node) p.number) so_far
      → EachOf (IsActBy j) (settled_item x p op answer (ended_by p number so_far) (doing_of w p))
  settled-by j x p number op answer proc decides call last = by (find-call p number so_far)
    where
      by : FoundCall p number so_far → EachOf (IsActBy j) (settled_item x p op answer (ended_by p number so_far) (doing_of w p))
      by (found t is same some) = subst (λ o. EachOf (IsActBy j) (settled_item x p op answer o (doing_of w p))) (sym is)
          (told-by j (is_fault t.reply) x op answer t (subst (λ q. IsBy j q t.begun) (sym same) (proc, (number, decides, inl some, call))))
      by (absent is none) = subst (λ o. EachOf (IsActBy j) (settled_item x p op answer o (doing_of w p))) (sym is)
          (open-by j x p proc number op answer (doing_of w p) decides call (elim last [ inl here ↦ here | inr gone ↦ absurd (none gone) ]) (λ begun at. inr at))

  decided-by : (j : Noted) (p : ProcName) (number : ℕ) (ask : Ask) (answer : Answer) → Note.Decided p number ask answer ≡ j.note → IsDecided w j.place (Note.Decided p number ask answer)
      → EachOf (IsActBy j) (decided_item j.place p (settled_op j.place.node ask) answer (ended_by p number so_far) (doing_of w p))
  decided-by j p number ask answer same decided = elim (settles j.place.node ask) [
    | inl none ↦ subst (λ o. EachOf (IsActBy j) (decided_item j.place p o answer (ended_by p number so_far) (doing_of w p))) (sym none) tt
    | inr some ↦
        subst (λ o. EachOf (IsActBy j) (decided_item j.place p o answer (ended_by p number so_far) (doing_of w p))) (sym some.1.1)
        (settled-by j j.place p number some.1.0 answer proc (subst (IsDecisionOf p number) same (refl, refl)) (record { home = j.place.node; ask = ask; call = decided.1; settling = some.0 })
        (subst (λ q. IsOpenOrTold q number (proc_of (w.nodes p.node) p.number) so_far) name (last-calls-are s setup cs w e timely p.node p.number proc number j.place.node ask decided.1 some.0)))
  ]
    where
      proc : IsProc p.number
      proc = calls-of-procs s setup cs w e timely p.node p.number number j.place.node ask decided.1

      name : proc_at p.node p.number ≡ p
      name = same_proc_is (proc_at p.node p.number) p (same_proc-itself p)

  note-by : (j : Noted) (note : Note) → note ≡ j.note → IsDecided w j.place note → EachOf (IsActBy j) (items_of w so_far j.place note)
  note-by j Note.Nothing same decided = tt
  note-by j (Note.Began p op) same decided = begun-by j j.place (ended_at p j.place so_far)
  note-by j (Note.Did p phase op reply) same decided = (tt, tt)
  note-by j (Note.Ended t) same decided = tt
  note-by j (Note.Decided p number ask answer) same decided = decided-by j p number ask answer same decided

  abbrev AddsBy : Noted → Type 0
  AddsBy j = EachOf (IsActBy j) (items_of w so_far j.place j.note)

  -- notes that don't decide the last call of an operation add no act of it
  item-other : (p : ProcName) → IsProc p.number → (begun : Place) (k : ℕ) → IsLastOf w p k begun → (j : Noted) → IsOther p k j.note → (i : Item) → IsActBy j i → IsActOf p begun i → ⊥
  item-other p proc begun k last j other (Answered x) by is = is
  item-other p proc begun k last j other (Acted a) by is =
      let at : IsLastOf w p by.1.0 begun = subst (λ x. IsLastOf w p by.1.0 x) is.1 (subst (λ q. IsLastOf w q by.1.0 a.begun) is.0 by.1.2) in
      let same = one-last p proc begun by.1.0 k at last in
      other-not p k j.note other (subst (λ i. IsDecisionOf p i j.note) same (subst (λ q. IsDecisionOf q by.1.0 j.note) is.0 by.1.1))

  others-none : (p : ProcName) → IsProc p.number → (begun : Place) (k : ℕ) → IsLastOf w p k begun → (notes : List Noted) → EachOf (λ (j : Noted). IsOther p k j.note) notes → EachOf AddsBy notes → EachOf (λ i. IsActOf p begun i → ⊥) (items_from w so_far notes)
  others-none p proc begun k last [] others each = tt
  others-none p proc begun k last (j ∷ older) others each =
      EachOf-append (λ i. IsActOf p begun i → ⊥) (items_of w so_far j.place j.note) (items_from w so_far older)
      (EachOf-more (IsActBy j) (λ i. IsActOf p begun i → ⊥) (items_of w so_far j.place j.note) (item-other p proc begun k last j others.0) each.0)
      (others-none p proc begun k last older others.1 each.1)

  only-act : (m : Noted) (older : List Noted) → AreDecidedOnce (m ∷ older) → EachOf AddsBy older → (i : Item) → IsActBy m i → IsOnlyAct i (items_from w so_far older)
  only-act m older once each (Answered x) by = tt
  only-act m older once each (Acted a) by = others-none a.deed.proc by.0 a.begun by.1.0 by.1.2 older (first-other a.deed.proc by.1.0 m.note older by.1.1 once.0) each

  add-one : (x : Place) (items rest : List Item) → Adds x items → EachOf (λ i. IsOnlyAct i rest) items → AreSingleActs rest → AreSingleActs (items ++ rest)
  add-one x [] rest nothing only single = single
  add-one x (i ∷ []) rest (one at) only single = (only.0, single)
  add-one x (i ∷ (j ∷ more)) rest adds only single = elim adds [ ]

  singles : (notes : List Noted) → AreDecidedOnce notes → EachOf AddsBy notes → AreSingleActs (items_from w so_far notes)
  singles [] once each = tt
  singles (m ∷ older) once each =
      add-one m.place (items_of w so_far m.place m.note) (items_from w so_far older) (note-adds w so_far m.place m.note)
      (EachOf-more (IsActBy m) (λ i. IsOnlyAct i (items_from w so_far older)) (items_of w so_far m.place m.note) (only-act m older once each.1) each.0)
      (singles older once.1 each.1)

  each-adds : EachOf AddsBy w.trace
  each-adds = EachOf-more (λ (j : Noted). IsDecided w j.place j.note) AddsBy w.trace (λ j decided. note-by j j.note refl decided) (decisions-are s (setup-procs s setup) cs w e).each

  -- in every run
  pub acts-once : AreSingleActs (history_in s w).items
  acts-once = singles w.trace (decisions-are s (setup-procs s setup) cs w e).once each-adds

  act-last : (j : Noted) (i : Item) → IsActBy j i → IsActOfLast w i
  act-last j (Answered x) by = tt
  act-last j (Acted a) by = (by.1.0, by.1.2, by.1.3)

  lasts : (notes : List Noted) → EachOf AddsBy notes → EachOf (IsActOfLast w) (items_from w so_far notes)
  lasts [] each = tt
  lasts (m ∷ older) each =
      EachOf-append (IsActOfLast w) (items_of w so_far m.place m.note) (items_from w so_far older)
      (EachOf-more (IsActBy m) (IsActOfLast w) (items_of w so_far m.place m.note) (act-last m) each.0) (lasts older each.1)

  pub acts-of-last : EachOf (IsActOfLast w) (history_in s w).items
  acts-of-last = lasts w.trace each-adds

  -- an operation of which no last call settles it has no act
  no-act : (p : ProcName) (begun : Place) → ((k : ℕ) → IsLastOf w p k begun → IsSettlingCall w p k → ⊥) → HasNoAct s w p begun
  no-act p begun none = EachOf-more (IsActOfLast w) (λ i. IsActOf p begun i → ⊥) (history_in s w).items each acts-of-last
    where
      each : (i : Item) → IsActOfLast w i → IsActOf p begun i → ⊥
      each (Answered x) last is = is
      each (Acted a) last is = none last.0 (subst (λ x. IsLastOf w p last.0 x) is.1 (subst (λ q. IsLastOf w q last.0 a.begun) is.0 last.1)) (subst (λ q. IsSettlingCall w q last.0) is.0 last.2)

  -- an open one that awaits what doesn't settle it
  pub open-no-act : HaveOpenNoAct s w
  open-no-act n p proc o doing part = no-act (proc_at n p) o.began.begun by
    where
      behind : EachOf (λ (t : Told). t.proc ≡ proc_at n p → t.begun.tick < o.began.begun.tick) so_far
      behind = (subst (IsDoingSince (proc_at n p) so_far w.trace (w.nodes n).tick (proc_of (w.nodes n) p).last) doing ((heard-are s setup (setup-procs s setup) cs w e timely).procs n p proc).doing).behind

      call-of : (a : Await) (k : ℕ) → IsPart a → HasNumber k a → IsAwaited (w.calls n p) a → IsSettlingCall w (proc_at n p) k → ⊥
      call-of (Await.Answer c) k part number call settles = part (subst IsSettling (same-ask (numbered k (w.calls n p)) settles.home c.home settles.ask c.ask settles.call (subst (λ i. IsCallAt (w.calls n p) i c.home c.ask) number call)) settles.settling)
      call-of (Await.Page u page) k part number call settles = number

      by : (k : ℕ) → IsLastOf w (proc_at n p) k o.began.begun → IsSettlingCall w (proc_at n p) k → ⊥
      by k (inl told) settles = not-both (proc_at n p) o.began.begun k so_far behind told
      by k (inr open_at) settles =
          call-of o.awaits k part (subst (IsOpenAt k o.began.begun) doing open_at).1 (subst (node_calls.IsOpenAt (w.calls n p)) doing ((calls-are s (setup-procs s setup) cs w e).opened n p proc)) settles

  -- one that ended
  told-each : (ts : List Told) → ((t : Told) → SomeOf (λ u. u ≡ t) ts → SomeOf (λ u. u ≡ t) so_far) → EachOf (HasToldNoAct s w) ts
  told-each [] among = tt
  told-each (t ∷ ts) among = (here, told-each ts (λ u some. among u (inr some)))
    where
      here : HasToldNoAct s w t
      here home ask call part = no-act t.proc t.begun by
        where
          by : (k : ℕ) → IsLastOf w t.proc k t.begun → IsSettlingCall w t.proc k → ⊥
          by k last settles =
              let there : SomeOf (IsToldAt t.proc t.number t.begun) so_far = SomeOf-more (λ u. u ≡ t) (IsToldAt t.proc t.number t.begun) so_far (λ u same. (ap (λ (x : Told). x.proc) same, ap (λ (x : Told). x.number) same, ap (λ (x : Told). x.begun) same)) (among t (inl refl)) in
              let same : k ≡ t.number = one-last t.proc (calls-of-procs s setup cs w e timely t.proc.node t.proc.number t.number home ask call) t.begun k t.number last (inl there) in
              part (subst IsSettling (same-ask (numbered t.number (w.calls t.proc.node t.proc.number)) settles.home home settles.ask ask (subst (λ i. IsCallAt (w.calls t.proc.node t.proc.number) i settles.home settles.ask) same settles.call) call) settles.settling)

  pub told-no-act : EachOf (HasToldNoAct s w) (all_told w.trace)
  told-no-act = told-each so_far (λ t some. some)
