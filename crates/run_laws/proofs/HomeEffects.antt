-- What a history says that homes did is what they decided, in the same order.
use Rattle.std.proofs.Common.{◌≡◌, ℕ, Bool, true, false, List, [], ◌∷◌, ◌++◌, Option, Some, None, inl, inr, refl, sym, ap, subst, ◌∙◌, append_assoc}
use Rattle.std.specs.Prelude.{◌==◌, ◌&&◌, if◌then◌else◌}
use Rattle.std.proofs.lemmas.Bool.{eq-eqb}
use Rattle.std.proofs.lemmas.List.Elements.{filter-append}
use Rattle.std.proofs.lemmas.Option.{same_Some}
use Rattle.uid_names.proofs.ListLemmas.{by_cases}
use Rattle.uid_names.proofs.Orders.{same_proc_is, same_proc-itself}
use Rattle.uid_names.specs.Names.{ProcName, same_proc}
use Rattle.uid_names.specs.declared.ids.Place.{Place}
use Rattle.uid_names.proofs.Passed.{left-true, right-true, equal}
use Rattle.dom_history.specs.declared.op.Op.{Op}
use Rattle.dom_history.specs.declared.op.Op.TheVariants as ops
use Rattle.dom_history.specs.declared.op.Reply.{Reply}
use Rattle.dom_history.specs.declared.op.Reply.TheVariants as replies
use Rattle.dom_history.specs.StoreEffects.{StoreEffect, store_effect, store_effects}
use Rattle.dom_history.specs.Histories.{Item, SomeOf, deeds, deed_of}
use Rattle.ring_messages.specs.Bodies.{Ask, Answer}
use Rattle.node_runs.specs.Setups.{Setup, IsSetup}
use Rattle.node_runs.specs.NodeStates.{OpenOp, proc_of}
use Rattle.node_runs.specs.Notes.{Told, Note}
use Rattle.node_runs.specs.NodesKeep.{IsTimely}
use Rattle.node_runs.specs.Runs.{World, Noted, Choice, numbered, world_after}
use Rattle.node_runs.specs.RunHistories.{is_fault, settled_op, change_reply, act_item, all_told, fault_item, begun_item, told_item, open_item, settled_item, decided_item, doing_of, ended_at, ended_by, items_of, items_from}
use Rattle.node_runs.specs.CallsKeep.{AsksThis, EachOf}
use Rattle.node_runs.specs.DecidedCalls.{IsDecided, IsOther, IsFirst, AreDecidedOnce}
use Rattle.node_runs.proofs.Receiving.{EachOf-more}
use Rattle.node_runs.proofs.SettingUp.{setup-procs}
use Rattle.node_runs.proofs.Decisions.{decisions-are}
use Rattle.run_laws.specs.DecidedReplies.{proc_at}
use Rattle.run_laws.specs.LastCalls.{IsOpenNumber, IsOpenOrTold}
use Rattle.run_laws.specs.Progress.{IsSettling}
use Rattle.run_laws.proofs.Slots.{settles}
use Rattle.run_laws.proofs.Lasting.{last-calls-are, calls-of-procs}
use Rattle.run_laws.proofs.HearingRuns.{same-ask}
use Rattle.run_laws.specs.ToldAnswers.{TellsReply, IsReleaseFault, IsFaultOf, IsLockRefusal, IsLocalReply, IsAtDesk, IsToldBy, IsTold}
use Rattle.run_laws.proofs.ToldAnswers.{told-are}
use Rattle.run_laws.specs.DecidedEffects.{is_of_home, home_effects, effect_if, noted_effect, decided_effects}

-- the effects of items, as far as homes decide on them
abbrev pub item_home_effects : List Item → List StoreEffect
item_home_effects items = home_effects (store_effects (deeds items))

home_effects-append : (xs ys : List Item) → item_home_effects (xs ++ ys) ≡ item_home_effects xs ++ item_home_effects ys
home_effects-append [] ys = refl
home_effects-append (i ∷ xs) ys =
    let d = deed_of i in
    filter-append is_of_home (store_effect d.proc d.op d.reply) (store_effects (deeds (xs ++ ys)))
    ∙ ap (λ es. home_effects (store_effect d.proc d.op d.reply) ++ es) (home_effects-append xs ys)
    ∙ sym (append_assoc (home_effects (store_effect d.proc d.op d.reply)) (item_home_effects xs) (item_home_effects ys))
    ∙ ap (λ es. es ++ item_home_effects ys) (sym (filter-append is_of_home (store_effect d.proc d.op d.reply) (store_effects (deeds xs))))

-- an operation that a home settles
abbrev IsHomeOp : Op → Type 0
IsHomeOp (ops.New home kind room) = Unit {0}
IsHomeOp (ops.Lock u m) = Unit {0}
IsHomeOp (ops.Unlock u) = Unit {0}
IsHomeOp (ops.Delete u) = Unit {0}
IsHomeOp (ops.List home after) = Unit {0}
IsHomeOp op = ⊥

settled-home : (home : ℕ) (ask : Ask) (op : Op) → settled_op home ask ≡ Some op → IsHomeOp op
settled-home home (Ask.PageIn u k) op e = absurd (cc)
settled-home home (Ask.PageOut u k grant base bytes) op e = absurd (cc)
settled-home home (Ask.AttrOut u n grant base) op e = absurd (cc)
settled-home home (Ask.Lock u m) op e = subst IsHomeOp (same_Some (ops.Lock u m) op e) tt
settled-home home (Ask.Unlock u) op e = subst IsHomeOp (same_Some (ops.Unlock u) op e) tt
settled-home home (Ask.Remove u) op e = subst IsHomeOp (same_Some (ops.Delete u) op e) tt
settled-home home (Ask.Make kind room) op e = subst IsHomeOp (same_Some (ops.New home kind room) op e) tt
settled-home home (Ask.ListLocks after) op e = subst IsHomeOp (same_Some (ops.List home after) op e) tt

module _ (p : ProcName) where
  home-op : (op : Op) → IsHomeOp op → (r : Reply) → home_effects (store_effect p op r ++ []) ≡ store_effect p op r
  home-op (ops.New home kind room) is (replies.Made u) = refl
  home-op (ops.New home kind room) is r = refl
  home-op (ops.Lock u m) is replies.Fine = refl
  home-op (ops.Lock u m) is r = refl
  home-op (ops.Unlock u) is replies.Fine = refl
  home-op (ops.Unlock u) is r = refl
  home-op (ops.Delete u) is replies.Fine = refl
  home-op (ops.Delete u) is r = refl
  home-op (ops.List home after) is r = refl
  home-op op is r = absurd is

  -- an act
  act-effect : (x begun : Place) (op : Op) → IsHomeOp op → (o : Option Reply) → item_home_effects (act_item x begun p op o) ≡ effect_if p (Some op) o
  act-effect x begun op is None = refl
  act-effect x begun op is (Some r) = home-op op is r

  -- a link fault does nothing to the store
  fault-none : (op : Op) (r : Reply) → is_fault r ≡ true → home_effects (store_effect p op r ++ []) ≡ []
  fault-none op replies.Kept is = none op
    where
      none : (op : Op) → home_effects (store_effect p op replies.Kept ++ []) ≡ []
      none (ops.New home kind room) = refl
      none (ops.Lock u m) = refl
      none (ops.Unlock u) = refl
      none (ops.Delete u) = refl
      none (ops.Store spot bytes) = refl
      none (ops.Map u) = refl
      none (ops.Unmap u) = refl
      none op = refl
  fault-none op replies.Doubt is = none op
    where
      none : (op : Op) → home_effects (store_effect p op replies.Doubt ++ []) ≡ []
      none (ops.New home kind room) = refl
      none (ops.Lock u m) = refl
      none (ops.Unlock u) = refl
      none (ops.Delete u) = refl
      none (ops.Store spot bytes) = refl
      none (ops.Map u) = refl
      none (ops.Unmap u) = refl
      none op = refl
  fault-none op replies.LinkFault is = none op
    where
      none : (op : Op) → home_effects (store_effect p op replies.LinkFault ++ []) ≡ []
      none (ops.New home kind room) = refl
      none (ops.Lock u m) = refl
      none (ops.Unlock u) = refl
      none (ops.Delete u) = refl
      none (ops.Store spot bytes) = refl
      none (ops.Map u) = refl
      none (ops.Unmap u) = refl
      none op = refl
  fault-none op r is = absurd (cc)

  -- what a desk answers changes nothing at homes
  lock-quiet : (u : _) (m : _) (r : Reply) → IsLockRefusal r → home_effects (store_effect p (ops.Lock u m) r ++ []) ≡ []
  lock-quiet u m replies.AlreadyHeld is = refl
  lock-quiet u m replies.Unsettled is = refl
  lock-quiet u m replies.TooMany is = refl
  lock-quiet u m replies.NoObject is = refl
  lock-quiet u m r is = absurd is

  desk-quiet : (op : Op) (r : Reply) → IsLocalReply op r → home_effects (store_effect p op r ++ []) ≡ []
  desk-quiet (ops.New home kind room) r is = ap (λ x. home_effects (store_effect p (ops.New home kind room) x ++ [])) is
  desk-quiet (ops.List home after) r is = refl
  desk-quiet (ops.Lock u m) r is = lock-quiet u m r is
  desk-quiet (ops.Unlock u) r is = ap (λ x. home_effects (store_effect p (ops.Unlock u) x ++ [])) is
  desk-quiet (ops.Delete u) r (inl is) = ap (λ x. home_effects (store_effect p (ops.Delete u) x ++ [])) is
  desk-quiet (ops.Delete u) r (inr is) = ap (λ x. home_effects (store_effect p (ops.Delete u) x ++ [])) is
  desk-quiet (ops.Load spot count) r is = refl
  desk-quiet (ops.Store spot bytes) replies.Fine is = refl
  desk-quiet (ops.Store spot bytes) r is = refl
  desk-quiet (ops.Length u) r is = refl
  desk-quiet (ops.Map u) (replies.At address true) is = refl
  desk-quiet (ops.Map u) (replies.At address false) is = refl
  desk-quiet (ops.Map u) r is = refl
  desk-quiet (ops.Unmap u) replies.Fine is = refl
  desk-quiet (ops.Unmap u) r is = refl

  -- what a process was told of a decision
  told-effect : (op : Op) (r : Reply) (answer : Answer) → TellsReply op r answer → home_effects (store_effect p op r ++ []) ≡ effect_if p (Some op) (change_reply answer)
  told-effect (ops.New home kind room) r (Answer.Made u) tells = ap (λ x. home_effects (store_effect p (ops.New home kind room) x ++ [])) tells
  told-effect (ops.New home kind room) r Answer.NoSpace tells = ap (λ x. home_effects (store_effect p (ops.New home kind room) x ++ [])) tells
  told-effect (ops.New home kind room) r answer tells = absurd tells
  told-effect (ops.List home after) r (Answer.Listed rows more) tells = refl
  told-effect (ops.List home after) r answer tells = absurd tells
  told-effect (ops.Lock u m) r (Answer.Granted grant stamp k room n) tells = ap (λ x. home_effects (store_effect p (ops.Lock u m) x ++ [])) tells
  told-effect (ops.Lock u m) r (Answer.Conflict q held) tells = ap (λ x. home_effects (store_effect p (ops.Lock u m) x ++ [])) tells
  told-effect (ops.Lock u m) r Answer.NoObject tells = ap (λ x. home_effects (store_effect p (ops.Lock u m) x ++ [])) tells
  told-effect (ops.Lock u m) r answer tells = absurd tells
  told-effect (ops.Unlock u) r Answer.Done tells = ap (λ x. home_effects (store_effect p (ops.Unlock u) x ++ [])) tells
  told-effect (ops.Unlock u) r answer tells = absurd tells
  told-effect (ops.Delete u) r Answer.Done tells = ap (λ x. home_effects (store_effect p (ops.Delete u) x ++ [])) tells
  told-effect (ops.Delete u) r answer tells = absurd tells
  told-effect op r answer tells = absurd tells

-- a fault's reply is one
release-faulty : (ask : Ask) (r : Reply) → IsReleaseFault ask r → is_fault r ≡ true
release-faulty (Ask.PageOut u k grant base bytes) r is = ap is_fault is
release-faulty (Ask.AttrOut u n grant base) r is = ap is_fault is
release-faulty (Ask.Unlock u) r is = ap is_fault is
release-faulty (Ask.Remove u) r is = ap is_fault is
release-faulty (Ask.PageIn u k) r is = absurd is
release-faulty (Ask.Lock u m) r is = absurd is
release-faulty (Ask.Make kind room) r is = absurd is
release-faulty (Ask.ListLocks after) r is = absurd is

fault-faulty : (op : Op) (ask : Ask) (r : Reply) → IsFaultOf op ask r → is_fault r ≡ true
fault-faulty (ops.New home kind room) ask r is = ap is_fault is
fault-faulty (ops.List home after) ask r is = ap is_fault is
fault-faulty (ops.Load spot count) ask r is = ap is_fault is
fault-faulty (ops.Store spot bytes) ask r is = ap is_fault is
fault-faulty (ops.Lock u m) ask r is = ap is_fault is
fault-faulty (ops.Unlock u) ask r is = release-faulty ask r is
fault-faulty (ops.Delete u) ask r is = release-faulty ask r is
fault-faulty (ops.Length u) ask r is = absurd is
fault-faulty (ops.Map u) ask r is = absurd is
fault-faulty (ops.Unmap u) ask r is = absurd is

-- each call is decided once: the decision that told of it is the one
abbrev ThenTold : Told → Note → Type 0
ThenTold t (Note.Decided q k ask answer) = q ≡ t.proc → k ≡ t.number → TellsReply t.op t.reply answer
ThenTold t note = Unit {0}

module _ (t : Told) where
  other-then : (q : ProcName) (k : ℕ) → q ≡ t.proc → k ≡ t.number → (note : Note) → IsOther q k note → ThenTold t note
  other-then q k same_q same_k Note.Nothing other = tt
  other-then q k same_q same_k (Note.Began r op) other = tt
  other-then q k same_q same_k (Note.Did r phase op reply) other = tt
  other-then q k same_q same_k (Note.Ended u) other = tt
  other-then q k same_q same_k (Note.Decided r i ask answer) other = λ named numbered_so. absurd (other (named ∙ sym same_q) (numbered_so ∙ sym same_k))

  this-then : (note : Note) (older : List Noted) → IsToldBy t note → IsFirst note older → ThenTold t note × EachOf (λ (j : Noted). ThenTold t j.note) older
  this-then Note.Nothing older is first = absurd is
  this-then (Note.Began r op) older is first = absurd is
  this-then (Note.Did r phase op reply) older is first = absurd is
  this-then (Note.Ended u) older is first = absurd is
  this-then (Note.Decided q k ask answer) older is first = (
    λ named numbered_so. is.2,
    EachOf-more (λ (j : Noted). IsOther q k j.note) (λ (j : Noted). ThenTold t j.note) older (λ j other. other-then q k is.0 is.1 j.note other) first,
  )

  not-later : (q : ProcName) (k : ℕ) → q ≡ t.proc → k ≡ t.number → (note : Note) → IsToldBy t note → IsOther q k note → ⊥
  not-later q k same_q same_k Note.Nothing is other = is
  not-later q k same_q same_k (Note.Began r op) is other = is
  not-later q k same_q same_k (Note.Did r phase op reply) is other = is
  not-later q k same_q same_k (Note.Ended u) is other = is
  not-later q k same_q same_k (Note.Decided r i ask answer) is other = other (is.0 ∙ sym same_q) (is.1 ∙ sym same_k)

  none-later : (q : ProcName) (k : ℕ) → q ≡ t.proc → k ≡ t.number → (older : List Noted) → SomeOf (λ (j : Noted). IsToldBy t j.note) older → EachOf (λ (j : Noted). IsOther q k j.note) older → ⊥
  none-later q k same_q same_k [] some others = some
  none-later q k same_q same_k (j ∷ older) (inl is) others = not-later q k same_q same_k j.note is others.0
  none-later q k same_q same_k (j ∷ older) (inr some) others = none-later q k same_q same_k older some others.1

  behind-then : (note : Note) (older : List Noted) → SomeOf (λ (j : Noted). IsToldBy t j.note) older → IsFirst note older → ThenTold t note
  behind-then Note.Nothing older some first = tt
  behind-then (Note.Began r op) older some first = tt
  behind-then (Note.Did r phase op reply) older some first = tt
  behind-then (Note.Ended u) older some first = tt
  behind-then (Note.Decided q k ask answer) older some first = λ named numbered_so. absurd (none-later q k named numbered_so older some first)

  once-told : (notes : List Noted) → AreDecidedOnce notes → SomeOf (λ (j : Noted). IsToldBy t j.note) notes → EachOf (λ (j : Noted). ThenTold t j.note) notes
  once-told [] once some = tt
  once-told (j ∷ older) once (inl is) = this-then j.note older is once.0
  once-told (j ∷ older) once (inr some) = (behind-then j.note older some once.0, once-told older once.1 some)

each-all : {A T : Type 0} (P : T → A → Type 0) (xs : List A) → ((t : T) → EachOf (P t) xs) → EachOf (λ x. (t : T) → P t x) xs
each-all P [] all = tt
each-all P (x ∷ xs) all = (λ t. (all t).0, each-all P xs (λ t. (all t).1))

each-three : {A : Type 0} (P Q R S : A → Type 0) (xs : List A) → ((x : A) → P x → Q x → R x → S x) → EachOf P xs → EachOf Q xs → EachOf R xs → EachOf S xs
each-three P Q R S [] so ps qs rs = tt
each-three P Q R S (x ∷ xs) so ps qs rs = (so x ps.0 qs.0 rs.0, each-three P Q R S xs so ps.1 qs.1 rs.1)

-- what is found of a call among those that ended operations
data FoundCall (w : World) (p : ProcName) (number : ℕ) (so_far : List Told) : Type 0 where
  found : (t : Told) → ended_by p number so_far ≡ Some t → t.proc ≡ p → t.number ≡ number → IsTold w t → FoundCall w p number so_far
  absent : ended_by p number so_far ≡ None → (SomeOf (λ (t : Told). (t.proc ≡ p) × (t.number ≡ number)) so_far → ⊥) → FoundCall w p number so_far

find-call : (w : World) (p : ProcName) (number : ℕ) (so_far : List Told) → EachOf (IsTold w) so_far → FoundCall w p number so_far
find-call w p number [] told = absent refl (λ none. none)
find-call w p number (t ∷ so_far) told = by_cases (same_proc t.proc p && (t.number == number)) (FoundCall w p number (t ∷ so_far))
    (λ h. found t (ap (λ b. if b then Some t else ended_by p number so_far) h) (same_proc_is t.proc p (left-true _ _ h)) (equal t.number number (right-true (same_proc t.proc p) _ h)) told.0)
    (λ h. elim (find-call w p number so_far told.1) [
      | found u is named numbered_so tells ↦ found u (ap (λ b. if b then Some t else ended_by p number so_far) h ∙ is) named numbered_so tells
      | absent is none ↦ absent (ap (λ b. if b then Some t else ended_by p number so_far) h ∙ is) (λ some. elim some [
        | inl here ↦
            (let e : (same_proc t.proc p && (t.number == number)) ≡ true = ap (λ b. b && (t.number == number)) (subst (λ q. same_proc t.proc q ≡ true) here.0 (same_proc-itself t.proc)) ∙ eq-eqb t.number number here.1 in
            absurd (let f : true ≡ false = sym e ∙ h in cc))
        | inr there ↦ none there
      ])
    ])

-- a call asks one home
pub same-home : (o : _) (a b : ℕ) (x y : Ask) → AsksThis o a x → AsksThis o b y → a ≡ b
same-home None a b x y is other = absurd is
same-home (Some c) a b x y is other = sym is.0 ∙ other.0

module _ (s : Setup) (setup : IsSetup s) (cs : List Choice) (w : World) (e : world_after s cs ≡ Some w) (timely : IsTimely w) where
  abbrev so_far : List Told
  so_far = all_told w.trace

  begun-effect : (x : Place) (o : Option Told) → item_home_effects (begun_item x o) ≡ []
  begun-effect x None = refl
  begun-effect x (Some t) = by (is_fault t.reply) refl
    where
      by : (b : Bool) → is_fault t.reply ≡ b → item_home_effects (fault_item b x t) ≡ []
      by true is = fault-none t.proc t.op t.reply is
      by false is = refl

  module _ (x : Place) (p : ProcName) (number : ℕ) (ask : Ask) (answer : Answer) (op : Op) (settling : IsSettling ask) (of : settled_op x.node ask ≡ Some op) (decided : IsDecided w x (Note.Decided p number ask answer))
      (so : (t : Told) → SomeOf (λ (j : Noted). IsToldBy t j.note) w.trace → ThenTold t (Note.Decided p number ask answer)) where
    abbrev Right : List Item → Type 0
    Right items = item_home_effects items ≡ effect_if p (Some op) (change_reply answer)

    told-right : (t : Told) → IsTold w t → t.proc ≡ p → t.number ≡ number → (b : Bool) → is_fault t.reply ≡ b → Right (told_item b x op answer t)
    told-right t is proc same true fault = act-effect t.proc x t.begun op (settled-home x.node ask op of) (change_reply answer) ∙ ap (λ q. effect_if q (Some op) (change_reply answer)) proc
    told-right t is proc same false fault = elim is.by [
      | inl faulty ↦ absurd (let e : true ≡ false = sym (fault-faulty t.op is.ask t.reply faulty) ∙ fault in cc)
      | inr some ↦
          (let call = subst (λ k. AsksThis (numbered k (w.calls t.proc.node t.proc.number)) is.home is.ask) same (is.call) in
          let own = subst (λ (q : ProcName). AsksThis (numbered number (w.calls q.node q.number)) is.home is.ask) proc call in
          let same_ask : is.ask ≡ ask = same-ask (numbered number (w.calls p.node p.number)) is.home x.node is.ask ask own decided.1 in
          let same_home : is.home ≡ x.node = same-home (numbered number (w.calls p.node p.number)) is.home x.node is.ask ask own decided.1 in
          let same_op : t.op ≡ op = same_Some t.op op (sym (is.op (subst IsSettling (sym same_ask) settling)) ∙ (ap (λ h. settled_op h is.ask) same_home ∙ (ap (settled_op x.node) same_ask ∙ of))) in
          told-effect t.proc t.op t.reply answer (so t some (sym proc) (sym same)) ∙ (ap (λ o. effect_if t.proc (Some o) (change_reply answer)) same_op ∙ ap (λ q. effect_if q (Some op) (change_reply answer)) proc))
    ]

    open-right : (o : Option OpenOp) → IsOpenNumber number o → Right (open_item x p op answer o)
    open-right None is = absurd is
    open-right (Some o) is = act-effect p x o.began.begun op (settled-home x.node ask op of) (change_reply answer)

    settled-right : EachOf (IsTold w) so_far → IsOpenOrTold p number (proc_of (w.nodes p.node) p.number) so_far → Right (settled_item x p op answer (ended_by p number so_far) (doing_of w p))
    settled-right told last = elim (find-call w p number so_far told) [
      | found t is named same tells ↦ subst (λ o. Right (settled_item x p op answer o (doing_of w p))) (sym is) (told-right t tells named same (is_fault t.reply) refl)
      | absent is none ↦ subst (λ o. Right (settled_item x p op answer o (doing_of w p))) (sym is) (open-right (doing_of w p) (elim last [ inl here ↦ here | inr gone ↦ absurd (none gone) ]))
    ]

  abbrev IsRight : Noted → Type 0
  IsRight j = item_home_effects (items_of w so_far j.place j.note) ≡ noted_effect j.place.node j.note

  note-right : (x : Place) (note : Note) → IsDecided w x note → IsAtDesk note → ((t : Told) → SomeOf (λ (j : Noted). IsToldBy t j.note) w.trace → ThenTold t note) → item_home_effects (items_of w so_far x note) ≡ noted_effect x.node note
  note-right x Note.Nothing decided desk so = refl
  note-right x (Note.Began p op) decided desk so = begun-effect x (ended_at p x so_far)
  note-right x (Note.Did p phase op reply) decided desk so = desk-quiet p op reply desk
  note-right x (Note.Ended t) decided desk so = refl
  note-right x (Note.Decided p number ask answer) decided desk so = elim (settles x.node ask) [
    | inl none ↦ subst (λ o. item_home_effects (decided_item x p o answer (ended_by p number so_far) (doing_of w p)) ≡ effect_if p o (change_reply answer)) (sym none) refl
    | inr some ↦ subst (λ o. item_home_effects (decided_item x p o answer (ended_by p number so_far) (doing_of w p)) ≡ effect_if p o (change_reply answer)) (sym some.1.1)
        (settled-right x p number ask answer some.1.0 some.0 some.1.1 decided so (told-are s setup cs w e timely).told
        (subst (λ q. IsOpenOrTold q number (proc_of (w.nodes p.node) p.number) so_far) name (last-calls-are s setup cs w e timely p.node p.number (calls-of-procs s setup cs w e timely p.node p.number number x.node ask decided.1) number x.node ask decided.1 some.0)))
  ]
    where
      name : proc_at p.node p.number ≡ p
      name = same_proc_is (proc_at p.node p.number) p (same_proc-itself p)

  pub notes-right : EachOf IsRight w.trace
  notes-right =
      let decisions = decisions-are s (setup-procs s setup) cs w e in
      each-three (λ (j : Noted). IsDecided w j.place j.note) (λ (j : Noted). IsAtDesk j.note) (λ (j : Noted). (a : (t : Told) × SomeOf (λ (i : Noted). IsToldBy t i.note) w.trace) → ThenTold a.0 j.note) IsRight w.trace
      (λ j decided desk so. note-right j.place j.note decided desk (λ t some. so (t, some)))
      decisions.each (told-are s setup cs w e timely).desks (each-all (λ (a : (t : Told) × SomeOf (λ (i : Noted). IsToldBy t i.note) w.trace) (j : Noted). ThenTold a.0 j.note) w.trace (λ a. once-told a.0 w.trace decisions.once a.1))

  pub effects-right : (notes : List Noted) → EachOf IsRight notes → item_home_effects (items_from w so_far notes) ≡ decided_effects notes
  effects-right [] right = refl
  effects-right (j ∷ older) right =
      home_effects-append (items_of w so_far j.place j.note) (items_from w so_far older)
      ∙ ap (λ es. es ++ item_home_effects (items_from w so_far older)) right.0
      ∙ ap (λ es. noted_effect j.place.node j.note ++ es) (effects-right older right.1)
