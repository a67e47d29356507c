-- What each note of a run gives its history after one event more: what it gave before, but for the one note at which an operation that
-- ended has its entry.
use Rattle.std.proofs.Common.{◌≡◌, ℕ, true, false, List, [], ◌∷◌, ◌++◌, Option, Some, None, inl, inr, refl, sym, ap, subst, ◌∙◌, append_assoc}
use Rattle.std.specs.Prelude.{◌==◌, ◌&&◌, if◌then◌else◌}
use Rattle.std.proofs.lemmas.Bool.{eq-eqb}
use Rattle.uid_names.proofs.ListLemmas.{by_cases}
use Rattle.uid_names.proofs.Orders.{same_proc_is, same_proc-itself}
use Rattle.uid_names.specs.Names.{ProcName, same_proc}
use Rattle.uid_names.specs.declared.ids.Place.{Place}
use Rattle.uid_names.proofs.Passed.{left-true, right-true, equal}
use Rattle.dom_history.specs.declared.op.Op.{Op}
use Rattle.dom_history.specs.Histories.{same_place}
use Rattle.ring_messages.specs.Bodies.{Ask, Answer}
use Rattle.fault_handler.specs.Invariant.{IsProc}
use Rattle.node_runs.specs.Setups.{Setup, IsSetup}
use Rattle.node_runs.specs.NodeStates.{Asked, Await, BegunOp, OpenOp}
use Rattle.node_runs.specs.Dones.{asking}
use Rattle.node_runs.specs.Notes.{Told, Note}
use Rattle.node_runs.specs.NodesKeep.{IsTimely}
use Rattle.node_runs.specs.Runs.{World, Noted, Choice, numbered, world_after}
use Rattle.node_runs.specs.RunHistories.{is_fault, settled_op, change_reply, act_item, entry_at, all_told, fault_item, begun_item, told_item, open_item, settled_item, decided_item, doing_of, ended_at, ended_by, items_of, items_from}
use Rattle.node_runs.specs.CallsKeep.{IsCallAt, IsOpenAt, EachOf}
use Rattle.node_runs.specs.DecidedCalls.{IsDecided}
use Rattle.node_runs.proofs.Calls.{calls-are}
use Rattle.node_runs.proofs.SettingUp.{setup-procs}
use Rattle.run_laws.specs.LastCalls.{HasNumber, IsOpenNumber}
use Rattle.run_laws.specs.Progress.{IsSettling}
use Rattle.run_laws.proofs.Slots.{IsSlot, IsNew, settles, place-is, same_place-refl}
use Rattle.run_laws.proofs.HearingRuns.{same-ask}
use Rattle.run_laws.proofs.HomeEffects.{same-home}
use Rattle.run_laws.proofs.ItemViews.{FoundCall, found, absent, decided-last, found-call}

-- the items of a trace that is cut in two
pub items-append : (w : World) (ts : List Told) (newer older : List Noted) → items_from w ts (newer ++ older) ≡ items_from w ts newer ++ items_from w ts older
items-append w ts [] older = refl
items-append w ts (j ∷ newer) older = ap (λ is. items_of w ts j.place j.note ++ is) (items-append w ts newer older) ∙ sym (append_assoc (items_of w ts j.place j.note) (items_from w ts newer) (items_from w ts older))

-- notes that give the same give the same items
pub items-same : (w v : World) (ts now : List Told) (notes : List Noted) → EachOf (λ (j : Noted). items_of v now j.place j.note ≡ items_of w ts j.place j.note) notes → items_from v now notes ≡ items_from w ts notes
items-same w v ts now [] same = refl
items-same w v ts now (j ∷ notes) same = ap (λ is. is ++ items_from v now notes) same.0 ∙ ap (λ is. items_of w ts j.place j.note ++ is) (items-same w v ts now notes same.1)

-- an open call that settles its operation
pub record SettlingOpen (w : World) (p : ProcName) (number home : ℕ) (ask : Ask) : Type 0 where
  pub began : BegunOp
  pub call : Asked
  pub doing : doing_of w p ≡ asking began call
  pub numbered_so : call.waiting.number ≡ number
  pub settling : IsSettling call.ask
  pub asks : call.ask ≡ ask
  pub of : call.home ≡ home

module _ (s : Setup) (setup : IsSetup s) (cs : List Choice) (w : World) (e : world_after s cs ≡ Some w) (timely : IsTimely w) where
  abbrev so_far : List Told
  so_far = all_told w.trace

  pub open-settling : (x : Place) (p : ProcName) (number : ℕ) (ask : Ask) → IsProc p.number → IsSettling ask → IsCallAt (w.calls p.node p.number) number x.node ask → IsOpenNumber number (doing_of w p) → SettlingOpen w p number x.node ask
  open-settling x p number ask proc settling call has = by (doing_of w p) refl has
    where
      awaits : (r : OpenOp) → doing_of w p ≡ Some r → (a : Await) → r.awaits ≡ a → HasNumber number a → SettlingOpen w p number x.node ask
      awaits r doing (Await.Page u k) same has = absurd has
      awaits r doing (Await.Answer c) same has =
          let doing_now : doing_of w p ≡ asking r.began c = doing ∙ ap (λ a. Some (let z : OpenOp = record { began = r.began; awaits = a } in z)) same in
          let opened : IsCallAt (w.calls p.node p.number) c.waiting.number c.home c.ask = subst (IsOpenAt (w.calls p.node p.number)) doing_now ((calls-are s (setup-procs s setup) cs w e).opened p.node p.number proc) in
          let same_ask : c.ask ≡ ask = same-ask (numbered number (w.calls p.node p.number)) c.home x.node c.ask ask (subst (λ k. IsCallAt (w.calls p.node p.number) k c.home c.ask) has opened) call in
          let called = subst (λ k. IsCallAt (w.calls p.node p.number) k c.home c.ask) has opened in
          record {
            began = r.began;
            call = c;
            doing = doing_now;
            numbered_so = has;
            settling = subst IsSettling (sym same_ask) settling;
            asks = same_ask;
            of = same-home (numbered number (w.calls p.node p.number)) c.home x.node c.ask ask called call;
          }

      by : (o : Option OpenOp) → doing_of w p ≡ o → IsOpenNumber number o → SettlingOpen w p number x.node ask
      by None doing has = absurd has
      by (Some r) doing has = awaits r doing r.awaits refl has

  -- a note that was decided settles nothing, or gives what was told or what is open
  module _ (v : World) (now : List Told) (x : Place) (p : ProcName) (number : ℕ) (ask : Ask) (answer : Answer) where
    abbrev Same : Type 0
    Same = items_of v now x (Note.Decided p number ask answer) ≡ items_of w so_far x (Note.Decided p number ask answer)

    none-same : settled_op x.node ask ≡ None → Same
    none-same none = ap (λ o. decided_item x p o answer (ended_by p number now) (doing_of v p)) none ∙ sym (ap (λ o. decided_item x p o answer (ended_by p number so_far) (doing_of w p)) none)

    some-same : (op : Op) → settled_op x.node ask ≡ Some op → settled_item x p op answer (ended_by p number now) (doing_of v p) ≡ settled_item x p op answer (ended_by p number so_far) (doing_of w p) → Same
    some-same op of same =
        ap (λ o. decided_item x p o answer (ended_by p number now) (doing_of v p)) of ∙ (same ∙ sym (ap (λ o. decided_item x p o answer (ended_by p number so_far) (doing_of w p)) of))

    -- where the same was told of it
    found-same : (op : Op) (t : Told) → ended_by p number now ≡ Some t → ended_by p number so_far ≡ Some t → settled_item x p op answer (ended_by p number now) (doing_of v p) ≡ settled_item x p op answer (ended_by p number so_far) (doing_of w p)
    found-same op t is was = ap (λ o. settled_item x p op answer o (doing_of v p)) is ∙ sym (ap (λ o. settled_item x p op answer o (doing_of w p)) was)

    -- where nothing was, and the operation that is open began at the same place
    open-same : (op : Op) (b : BegunOp) (c : Asked) (r : OpenOp) → ended_by p number now ≡ None → ended_by p number so_far ≡ None → doing_of w p ≡ asking b c → doing_of v p ≡ Some r → r.began ≡ b
        → settled_item x p op answer (ended_by p number now) (doing_of v p) ≡ settled_item x p op answer (ended_by p number so_far) (doing_of w p)
    open-same op b c r is was before doing same =
        ap (λ o. settled_item x p op answer o (doing_of v p)) is
        ∙ (ap (open_item x p op answer) doing
        ∙ (ap (λ (z : BegunOp). act_item x z.begun p op (change_reply answer)) same
        ∙ (sym (ap (open_item x p op answer) before) ∙ sym (ap (λ o. settled_item x p op answer o (doing_of w p)) was))))

  -- an event that ends no operation by an answer or a fault: what awaits an answer that settles it goes on to do so
  module _ (v : World) (keeps : (p : ProcName) → IsProc p.number → (b : BegunOp) (c : Asked) → doing_of w p ≡ asking b c → IsSettling c.ask → (r : OpenOp) × (doing_of v p ≡ Some r) × (r.began ≡ b)) where
    pub untold-same : (x : Place) (note : Note) → IsDecided w x note → items_of v so_far x note ≡ items_of w so_far x note
    untold-same x Note.Nothing decided = refl
    untold-same x (Note.Began p op) decided = refl
    untold-same x (Note.Did p phase op reply) decided = refl
    untold-same x (Note.Ended t) decided = refl
    untold-same x (Note.Decided p number ask answer) decided = elim (settles x.node ask) [
      | inl none ↦ none-same v so_far x p number ask answer none
      | inr some ↦ some-same v so_far x p number ask answer some.1.0 some.1.1 (by some.1.0 some.0 (found-call p number so_far))
    ]
      where
        by : (op : Op) → IsSettling ask → FoundCall p number so_far → settled_item x p op answer (ended_by p number so_far) (doing_of v p) ≡ settled_item x p op answer (ended_by p number so_far) (doing_of w p)
        by op settling (found t is named same among) = found-same v so_far x p number ask answer op t is is
        by op settling (absent is none) =
            let last = decided-last s setup cs w e timely x p number ask answer settling decided in
            let open_now = open-settling x p number ask last.0 settling decided.1 (elim last.1 [ inl here ↦ here | inr gone ↦ absurd (none gone) ]) in
            let kept = keeps p last.0 open_now.began open_now.call open_now.doing open_now.settling in
            open-same v so_far x p number ask answer op open_now.began open_now.call kept.0 is is open_now.doing kept.1 kept.2

  -- an event that ends the open operation of a process by an answer or a fault
  module _ (v : World) (t : Told) (is_new : IsNew t so_far) (b : BegunOp) (c : Asked) (was : doing_of w t.proc ≡ asking b c) (begun : t.begun ≡ b.begun) (number : t.number ≡ c.waiting.number)
      (others : (q : ProcName) → IsProc q.number → same_proc t.proc q ≡ false → doing_of v q ≡ doing_of w q) where
    abbrev now : List Told
    now = t ∷ so_far

    begun-same : (x : Place) (p : ProcName) (op : Op) → (IsSlot t x (Note.Began p op) → ⊥) → begun_item x (ended_at p x now) ≡ begun_item x (ended_at p x so_far)
    begun-same x p op off = by_cases (same_proc t.proc p && same_place t.begun x) (begun_item x (ended_at p x now) ≡ begun_item x (ended_at p x so_far))
        (λ h.
        let same_p = same_proc_is t.proc p (left-true _ _ h) in
        let same_x = place-is t.begun x (right-true (same_proc t.proc p) _ h) in
        let old : ended_at p x so_far ≡ None = subst (λ q. ended_at q x so_far ≡ None) same_p (subst (λ y. ended_at t.proc y so_far ≡ None) same_x is_new.by_place) in
        let new : ended_at p x now ≡ Some t = ap (λ b. if b then Some t else ended_at p x so_far) h in
        by_cases (is_fault t.reply) (begun_item x (ended_at p x now) ≡ begun_item x (ended_at p x so_far))
        (λ f. absurd (off (sym same_p, sym same_x, f)))
        (λ f. ap (begun_item x) new ∙ (ap (λ b. fault_item b x t) f ∙ sym (ap (begun_item x) old))))
        (λ h. ap (λ b. begun_item x (if b then Some t else ended_at p x so_far)) h)

    -- what was open is told of, by a fault
    left-same : (x : Place) (p : ProcName) (k : ℕ) (ask : Ask) (answer : Answer) (op : Op) → (same_proc t.proc p && (t.number == k)) ≡ true → is_fault t.reply ≡ true
        → settled_item x p op answer (ended_by p k now) (doing_of v p) ≡ settled_item x p op answer (ended_by p k so_far) (doing_of w p)
    left-same x p k ask answer op h f =
        let same_p = same_proc_is t.proc p (left-true _ _ h) in
        let same_k = equal t.number k (right-true (same_proc t.proc p) _ h) in
        let old : ended_by p k so_far ≡ None = subst (λ q. ended_by q k so_far ≡ None) same_p (subst (λ i. ended_by t.proc i so_far ≡ None) same_k is_new.by_number) in
        let new : ended_by p k now ≡ Some t = ap (λ b. if b then Some t else ended_by p k so_far) h in
        let doing : doing_of w p ≡ asking b c = subst (λ q. doing_of w q ≡ asking b c) same_p was in
        ap (λ o. settled_item x p op answer o (doing_of v p)) new
        ∙ (ap (λ z. told_item z x op answer t) f
        ∙ (ap (λ q. act_item x t.begun q op (change_reply answer)) same_p
        ∙ (ap (λ y. act_item x y p op (change_reply answer)) begun
        ∙ (sym (ap (open_item x p op answer) doing) ∙ sym (ap (λ o. settled_item x p op answer o (doing_of w p)) old)))))

    abbrev SettlesSame : Place → ProcName → ℕ → Answer → Op → Type 0
    SettlesSame x p k answer op = settled_item x p op answer (ended_by p k now) (doing_of v p) ≡ settled_item x p op answer (ended_by p k so_far) (doing_of w p)

    pub told-same : (x : Place) (note : Note) → IsDecided w x note → (IsSlot t x note → ⊥) → items_of v now x note ≡ items_of w so_far x note
    told-same x Note.Nothing decided off = refl
    told-same x (Note.Began p op) decided off = begun-same x p op off
    told-same x (Note.Did p phase op reply) decided off = refl
    told-same x (Note.Ended u) decided off = refl
    told-same x (Note.Decided p k ask answer) decided off = elim (settles x.node ask) [
      | inl none ↦ none-same v now x p k ask answer none
      | inr some ↦ some-same v now x p k ask answer some.1.0 some.1.1 (by some.1.0 some.0)
    ]
      where
        beside : (op : Op) → IsSettling ask → (same_proc t.proc p && (t.number == k)) ≡ false → ended_by p k now ≡ ended_by p k so_far → FoundCall p k so_far → SettlesSame x p k answer op
        beside op settling h same (found u is named same_k among) = found-same v now x p k ask answer op u (same ∙ is) is
        beside op settling h same (absent is none) =
            let last = decided-last s setup cs w e timely x p k ask answer settling decided in
            let open_now = open-settling x p k ask last.0 settling decided.1 (elim last.1 [ inl here ↦ here | inr gone ↦ absurd (none gone) ]) in
            by_cases (same_proc t.proc p) (SettlesSame x p k answer op)
            (λ mine.
            let same_p = same_proc_is t.proc p mine in
            let has : HasNumber k (Await.Answer c) = subst (IsOpenNumber k) (subst (λ q. doing_of w q ≡ asking b c) same_p was) (elim last.1 [ inl here ↦ here | inr gone ↦ absurd (none gone) ]) in
            let same_k : t.number ≡ k = number ∙ has in
            absurd (let f : (same_proc t.proc p && (t.number == k)) ≡ true = ap (λ z. z && (t.number == k)) mine ∙ eq-eqb t.number k same_k in let g : true ≡ false = sym f ∙ h in cc))
            (λ other. open-same v now x p k ask answer op open_now.began open_now.call (record { began = open_now.began; awaits = Await.Answer open_now.call }) (same ∙ is) is open_now.doing (others p last.0 other ∙ open_now.doing) refl)

        by : (op : Op) → IsSettling ask → SettlesSame x p k answer op
        by op settling = by_cases (same_proc t.proc p && (t.number == k)) (SettlesSame x p k answer op)
            (λ h. by_cases (is_fault t.reply) (SettlesSame x p k answer op)
            (λ f. left-same x p k ask answer op h f)
            (λ f. absurd (off (sym (same_proc_is t.proc p (left-true _ _ h)), sym (equal t.number k (right-true (same_proc t.proc p) _ h)), settling, f))))
            (λ h. beside op settling h (ap (λ z. if z then Some t else ended_by p k so_far) h) (found-call p k so_far))

    -- the note at which it has its entry
    pub fault-was : (x : Place) (op : Op) → x ≡ t.begun → items_of w so_far x (Note.Began t.proc op) ≡ []
    fault-was x op at = ap (begun_item x) (subst (λ y. ended_at t.proc y so_far ≡ None) (sym at) is_new.by_place)

    pub fault-is : (x : Place) (op : Op) → x ≡ t.begun → is_fault t.reply ≡ true → items_of v now x (Note.Began t.proc op) ≡ entry_at x t ∷ []
    fault-is x op at f =
        let h : (same_proc t.proc t.proc && same_place t.begun x) ≡ true = ap (λ z. z && same_place t.begun x) (same_proc-itself t.proc) ∙ subst (λ y. same_place t.begun y ≡ true) (sym at) (same_place-refl t.begun) in
        ap (begun_item x) (ap (λ z. if z then Some t else ended_at t.proc x so_far) h) ∙ ap (λ z. fault_item z x t) f

    pub answer-was : (x : Place) (ask : Ask) (answer : Answer) (op : Op) → settled_op x.node ask ≡ Some op → items_of w so_far x (Note.Decided t.proc t.number ask answer) ≡ act_item x t.begun t.proc op (change_reply answer)
    answer-was x ask answer op of =
        ap (λ o. decided_item x t.proc o answer (ended_by t.proc t.number so_far) (doing_of w t.proc)) of
        ∙ (ap (λ o. settled_item x t.proc op answer o (doing_of w t.proc)) is_new.by_number
        ∙ (ap (open_item x t.proc op answer) was ∙ ap (λ y. act_item x y t.proc op (change_reply answer)) (sym begun)))

    pub answer-is : (x : Place) (ask : Ask) (answer : Answer) (op : Op) → settled_op x.node ask ≡ Some op → is_fault t.reply ≡ false → items_of v now x (Note.Decided t.proc t.number ask answer) ≡ entry_at x t ∷ []
    answer-is x ask answer op of f =
        let h : (same_proc t.proc t.proc && (t.number == t.number)) ≡ true = ap (λ z. z && (t.number == t.number)) (same_proc-itself t.proc) ∙ eq-eqb t.number t.number refl in
        ap (λ o. decided_item x t.proc o answer (ended_by t.proc t.number now) (doing_of v t.proc)) of
        ∙ (ap (λ o. settled_item x t.proc op answer o (doing_of v t.proc)) (ap (λ z. if z then Some t else ended_by t.proc t.number so_far) h) ∙ ap (λ z. told_item z x op answer t) f)
