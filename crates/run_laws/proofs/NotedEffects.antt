-- What the history of a run does to the store is what its notes do, in the same order.
use Rattle.std.proofs.Common.{◌≡◌, ℕ, Bool, true, false, List, [], ◌∷◌, ◌++◌, Option, Some, None, inl, inr, refl, sym, ap, subst, ◌∙◌, append_assoc}
use Rattle.std.specs.Prelude.{◌==◌, ◌&&◌, if◌then◌else◌}
use Rattle.std.proofs.lemmas.List.{append-nil}
use Rattle.std.proofs.lemmas.Option.{same_Some}
use Rattle.uid_names.proofs.ListLemmas.{by_cases}
use Rattle.uid_names.proofs.Orders.{same_proc_is}
use Rattle.uid_names.specs.Names.{ProcName, same_proc}
use Rattle.uid_names.specs.declared.ids.Place.{Place}
use Rattle.uid_names.proofs.Passed.{left-true, right-true, equal}
use Rattle.dom_history.specs.declared.op.Op.{Op}
use Rattle.dom_history.specs.declared.op.Op.TheVariants as ops
use Rattle.dom_history.specs.declared.op.Reply.{Reply}
use Rattle.dom_history.specs.declared.op.Reply.TheVariants as replies
use Rattle.dom_history.specs.StoreEffects.{StoreEffect, store_effect, store_effects}
use Rattle.dom_history.specs.Histories.{Item, deeds, deed_of}
use Rattle.ring_messages.specs.Bodies.{Ask, Answer}
use Rattle.node_runs.specs.Setups.{Setup, IsSetup}
use Rattle.node_runs.specs.NodeStates.{OpenOp}
use Rattle.node_runs.specs.Notes.{Told, Note}
use Rattle.node_runs.specs.NodesKeep.{IsTimely}
use Rattle.node_runs.specs.Runs.{World, Noted, Choice, numbered, world_after}
use Rattle.node_runs.specs.RunHistories.{is_fault, settled_op, change_reply, act_item, all_told, fault_item, begun_item, told_item, open_item, settled_item, decided_item, doing_of, ended_at, ended_by, items_of, items_from}
use Rattle.node_runs.specs.CallsKeep.{AsksThis, EachOf}
use Rattle.node_runs.specs.DecidedCalls.{IsDecided}
use Rattle.node_runs.proofs.SettingUp.{setup-procs}
use Rattle.node_runs.proofs.Decisions.{decisions-are}
use Rattle.node_runs.proofs.EachOf.{EachOf-both, EachOf-behind}
use Rattle.run_laws.specs.Progress.{IsSettling}
use Rattle.run_laws.proofs.Slots.{settles}
use Rattle.run_laws.proofs.HearingRuns.{same-ask}
use Rattle.run_laws.specs.ToldAnswers.{IsTold}
use Rattle.run_laws.proofs.ToldAnswers.{told-are}
use Rattle.run_laws.specs.DecidedEffects.{home_effects, noted_effect}
use Rattle.run_laws.proofs.HomeEffects.{notes-right}
use Rattle.run_laws.specs.NotedEffects.{note_effects, noted_past, AreEffectsNoted}

-- the effects of items
abbrev item_effects : List Item → List StoreEffect
item_effects items = store_effects (deeds items)

effects-append : (xs ys : List Item) → item_effects (xs ++ ys) ≡ item_effects xs ++ item_effects ys
effects-append [] ys = refl
effects-append (i ∷ xs) ys =
    let d = deed_of i in
    ap (λ es. store_effect d.proc d.op d.reply ++ es) (effects-append xs ys) ∙ sym (append_assoc (store_effect d.proc d.op d.reply) (item_effects xs) (item_effects ys))

module _ (p : ProcName) where
  -- a link fault does nothing to the store
  fault-none : (op : Op) (r : Reply) → is_fault r ≡ true → store_effect p op r ≡ []
  fault-none (ops.New home kind room) (replies.Made u) is = absurd (cc)
  fault-none (ops.New home kind room) r is = refl
  fault-none (ops.Lock u m) replies.Fine is = absurd (cc)
  fault-none (ops.Lock u m) r is = refl
  fault-none (ops.Unlock u) replies.Fine is = absurd (cc)
  fault-none (ops.Unlock u) r is = refl
  fault-none (ops.Delete u) replies.Fine is = absurd (cc)
  fault-none (ops.Delete u) r is = refl
  fault-none (ops.Store spot bytes) replies.Fine is = absurd (cc)
  fault-none (ops.Store spot bytes) r is = refl
  fault-none (ops.Map u) (replies.At address true) is = absurd (cc)
  fault-none (ops.Map u) (replies.At address false) is = refl
  fault-none (ops.Map u) r is = refl
  fault-none (ops.Unmap u) replies.Fine is = absurd (cc)
  fault-none (ops.Unmap u) r is = refl
  fault-none op r is = refl

  -- what a call settles does to the store only what homes decide on
  abbrev IsOfHomes : Op → Type 0
  IsOfHomes op = (r : Reply) → home_effects (store_effect p op r) ≡ store_effect p op r

  new-home : (home : ℕ) (kind : _) (room : ℕ) → IsOfHomes (ops.New home kind room)
  new-home home kind room (replies.Made u) = refl
  new-home home kind room r = refl

  lock-home : (u : _) (m : _) → IsOfHomes (ops.Lock u m)
  lock-home u m replies.Fine = refl
  lock-home u m r = refl

  unlock-home : (u : _) → IsOfHomes (ops.Unlock u)
  unlock-home u replies.Fine = refl
  unlock-home u r = refl

  delete-home : (u : _) → IsOfHomes (ops.Delete u)
  delete-home u replies.Fine = refl
  delete-home u r = refl

  settled-home : (home : ℕ) (ask : Ask) (op : Op) → settled_op home ask ≡ Some op → IsOfHomes op
  settled-home home (Ask.PageIn u k) op e = absurd (cc)
  settled-home home (Ask.PageOut u k grant base bytes) op e = absurd (cc)
  settled-home home (Ask.AttrOut u n grant base) op e = absurd (cc)
  settled-home home (Ask.Lock u m) op e = subst IsOfHomes (same_Some (ops.Lock u m) op e) (lock-home u m)
  settled-home home (Ask.Unlock u) op e = subst IsOfHomes (same_Some (ops.Unlock u) op e) (unlock-home u)
  settled-home home (Ask.Remove u) op e = subst IsOfHomes (same_Some (ops.Delete u) op e) (delete-home u)
  settled-home home (Ask.Make kind room) op e = subst IsOfHomes (same_Some (ops.New home kind room) op e) (new-home home kind room)
  settled-home home (Ask.ListLocks after) op e = subst IsOfHomes (same_Some (ops.List home after) op e) (λ r. refl)

-- homes decide on all that these items do
abbrev AreOfHomes : List Item → Type 0
AreOfHomes items = home_effects (item_effects items) ≡ item_effects items

one-home : (p : ProcName) (op : Op) → IsOfHomes p op → (r : Reply) → home_effects (store_effect p op r ++ []) ≡ store_effect p op r ++ []
one-home p op is r = subst (λ (es : List StoreEffect). home_effects es ≡ es) (sym (append-nil (store_effect p op r))) (is r)

act-home : (x begun : Place) (p : ProcName) (op : Op) → IsOfHomes p op → (o : Option Reply) → AreOfHomes (act_item x begun p op o)
act-home x begun p op is None = refl
act-home x begun p op is (Some r) = one-home p op is r

-- what was told of a call is found among those that ended operations
found-by : (Q : Told → Type 0) (p : ProcName) (number : ℕ) (so_far : List Told) → EachOf Q so_far → (t : Told) → ended_by p number so_far ≡ Some t → (t.proc ≡ p) × (t.number ≡ number) × Q t
found-by Q p number [] each t e = absurd (cc)
found-by Q p number (u ∷ so_far) each t e = by_cases (same_proc u.proc p && (u.number == number)) ((t.proc ≡ p) × (t.number ≡ number) × Q t)
    (λ h.
    let same : u ≡ t = same_Some u t (sym (ap (λ b. if b then Some u else ended_by p number so_far) h) ∙ e) in
    subst (λ (x : Told). (x.proc ≡ p) × (x.number ≡ number) × Q x) same (same_proc_is u.proc p (left-true _ _ h), equal u.number number (right-true (same_proc u.proc p) _ h), each.0))
    (λ h. found-by Q p number so_far each.1 t (sym (ap (λ b. if b then Some u else ended_by p number so_far) h) ∙ e))

module _ (w : World) (so_far : List Told) (told : EachOf (IsTold w) so_far) where
  -- a decision on a call that settles an operation
  module _ (x : Place) (p : ProcName) (number : ℕ) (ask : Ask) (answer : Answer) (op : Op) (settling : IsSettling ask) (of : settled_op x.node ask ≡ Some op) (decided : IsDecided w x (Note.Decided p number ask answer)) where
    told-home : (t : Told) → IsTold w t → t.proc ≡ p → t.number ≡ number → (b : Bool) → AreOfHomes (told_item b x op answer t)
    told-home t is proc same true = act-home x t.begun t.proc op (settled-home t.proc x.node ask op of) (change_reply answer)
    told-home t is proc same false =
        let call = subst (λ k. AsksThis (numbered k (w.calls t.proc.node t.proc.number)) is.home is.ask) same is.call in
        let own = subst (λ (q : ProcName). AsksThis (numbered number (w.calls q.node q.number)) is.home is.ask) proc call in
        let same_ask : is.ask ≡ ask = same-ask (numbered number (w.calls p.node p.number)) is.home x.node is.ask ask own decided.1 in
        one-home t.proc t.op (settled-home t.proc is.home is.ask t.op (is.op (subst IsSettling (sym same_ask) settling))) t.reply

    open-home : (o : Option OpenOp) → AreOfHomes (open_item x p op answer o)
    open-home None = refl
    open-home (Some o) = act-home x o.began.begun p op (settled-home p x.node ask op of) (change_reply answer)

    settled-whole : (o : Option Told) (doing : Option OpenOp) → ended_by p number so_far ≡ o → AreOfHomes (settled_item x p op answer o doing)
    settled-whole None doing e = open-home doing
    settled-whole (Some t) doing e = let found = found-by (IsTold w) p number so_far told t e in told-home t found.2 found.0 found.1 (is_fault t.reply)

  decided-whole : (x : Place) (p : ProcName) (number : ℕ) (ask : Ask) (answer : Answer) → IsDecided w x (Note.Decided p number ask answer) → AreOfHomes (items_of w so_far x (Note.Decided p number ask answer))
  decided-whole x p number ask answer decided = elim (settles x.node ask) [
    | inl none ↦ subst (λ o. AreOfHomes (decided_item x p o answer (ended_by p number so_far) (doing_of w p))) (sym none) refl
    | inr some ↦ subst (λ o. AreOfHomes (decided_item x p o answer (ended_by p number so_far) (doing_of w p))) (sym some.1.1)
        (settled-whole x p number ask answer some.1.0 some.0 some.1.1 decided (ended_by p number so_far) (doing_of w p) refl)
  ]

  begun-none : (x : Place) (o : Option Told) → item_effects (begun_item x o) ≡ []
  begun-none x None = refl
  begun-none x (Some t) = by (is_fault t.reply) refl
    where
      by : (b : Bool) → is_fault t.reply ≡ b → item_effects (fault_item b x t) ≡ []
      by true is = ap (λ es. es ++ []) (fault-none t.proc t.op t.reply is)
      by false is = refl

  note-whole : (x : Place) (note : Note) → IsDecided w x note → home_effects (item_effects (items_of w so_far x note)) ≡ noted_effect x.node note → item_effects (items_of w so_far x note) ≡ note_effects x.node note
  note-whole x Note.Nothing decided right = refl
  note-whole x (Note.Began p op) decided right = begun-none x (ended_at p x so_far)
  note-whole x (Note.Did p phase op reply) decided right = append-nil (store_effect p op reply)
  note-whole x (Note.Ended t) decided right = refl
  note-whole x (Note.Decided p number ask answer) decided right = sym (decided-whole x p number ask answer decided) ∙ right

  abbrev IsNoted : Noted → Type 0
  IsNoted j = item_effects (items_of w so_far j.place j.note) ≡ note_effects j.place.node j.note

  all-noted : (notes : List Noted) → EachOf IsNoted notes → item_effects (items_from w so_far notes) ≡ noted_past notes
  all-noted [] each = refl
  all-noted (j ∷ older) each =
      effects-append (items_of w so_far j.place j.note) (items_from w so_far older)
      ∙ ap (λ es. es ++ item_effects (items_from w so_far older)) each.0
      ∙ ap (λ es. note_effects j.place.node j.note ++ es) (all-noted older each.1)

-- in every run
pub effects-noted : (s : Setup) → IsSetup s → (cs : List Choice) (w : World) → world_after s cs ≡ Some w → IsTimely w → AreEffectsNoted w
effects-noted s setup cs w e timely newer older parts =
    let so_far = all_told w.trace in
    let told = (told-are s setup cs w e timely).told in
    let each : EachOf (IsNoted w so_far told) w.trace =
    EachOf-both (λ (j : Noted). IsDecided w j.place j.note) (λ (j : Noted). home_effects (item_effects (items_of w so_far j.place j.note)) ≡ noted_effect j.place.node j.note) (IsNoted w so_far told) w.trace
    (λ j decided right. note-whole w so_far told j.place j.note decided right) (decisions-are s (setup-procs s setup) cs w e).each (notes-right s setup cs w e timely) in
    all-noted w so_far told older (EachOf-behind (IsNoted w so_far told) newer older (subst (EachOf (IsNoted w so_far told)) parts each))
