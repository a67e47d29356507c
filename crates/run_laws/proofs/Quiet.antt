-- An event at which nothing of an object is written keeps contents of it, by what it does to each desk.
use Rattle.std.proofs.Common.{◌≡◌, ℕ, ◌≤◌, Bool, true, false, List, Option, Some, None, ◌⊎◌, inl, inr, refl, sym, ap, subst, ◌∙◌, arith}
use Rattle.std.specs.Prelude.{max}
use Rattle.std.specs.Option.{option_map}
use Rattle.std.proofs.lemmas.Option.{same_Some}
use Rattle.uid_names.specs.Names.{ProcName, ObjectName}
use Rattle.uid_names.specs.declared.mode.Mode.{Mode}
use Rattle.version_stamps.specs.Stamps.{stamp_of as seen_of}
use Rattle.dom_history.specs.Objects.{is_node}
use Rattle.page_server.specs.Decisions.{is_granted}
use Rattle.page_cache.specs.Caches.{Resident, page_at}
use Rattle.ring_messages.specs.Bodies.{Ask, Answer}
use Rattle.fault_handler.specs.declared.lengths.Known.{Known}
use Rattle.fault_handler.specs.Lengths.{known_of, changed_in, changed_length}
use Rattle.fault_handler.specs.Desks.{DeskState, base_of}
use Rattle.fault_handler.specs.Invariant.{IsProc}
use Rattle.node_runs.specs.Setups.{Setup}
use Rattle.node_runs.specs.NodeStates.{Asked, Await, BegunOp, OpenOp, proc_of}
use Rattle.node_runs.specs.Dones.{asking}
use Rattle.run_laws.specs.DeskSteps.{IsSameAwait, IsSameDoing}
use Rattle.node_runs.specs.Runs.{World}
use Rattle.node_runs.specs.CallsKeep.{IsCallAt}
use Rattle.run_laws.specs.DecidedReplies.{proc_at, WasAnswered}
use Rattle.run_laws.specs.OpenCalls.{HasSent, Carries, CarriesOpen, AreCarried}
use Rattle.run_laws.specs.LiveLocks.{row_at, locks_of, served_of}
use Rattle.run_laws.specs.Items.{Item, Value, page_value, known_value, desk_value, is_dirty_at, Write, write_of}
use Rattle.run_laws.specs.Contents.{content, since}
use Rattle.run_laws.specs.Stamps.{home_at, stamp_at, IsThere, IsStampOf}
use Rattle.run_laws.specs.Writes.{HasRoom, MayStore, IsStillSent, IsUnchanged, IsAcknowledged}
use Rattle.run_laws.specs.DeskContents.{IsKeptSince, AreContents}
use Rattle.run_laws.proofs.WriteCalls.{AreGiven}

-- what a write of a page or of the length asks
pub page-written : (ask : Ask) (u : ObjectName) (k : ℕ) (v : Value) (grant base : ℕ) → write_of ask ≡ Some (record { uid = u; item = Item.Page k; value = v; grant = grant; base = base }) → (bytes : List ℕ) × (ask ≡ Ask.PageOut u k grant base bytes) × (v ≡ Value.Bytes bytes)
page-written (Ask.PageOut w j g b bytes) u k v grant base is =
    let same : ◌≡◌ {A = Write} (record { uid = w; item = Item.Page j; value = Value.Bytes bytes; grant = g; base = b }) (record { uid = u; item = Item.Page k; value = v; grant = grant; base = base }) = same_Some _ _ is in
    let a : w ≡ u = ap (λ (y : Write). y.uid) same in
    let i : j ≡ k = item-page j k (ap (λ (y : Write). y.item) same) in
    let c : g ≡ grant = ap (λ (y : Write). y.grant) same in
    let d : b ≡ base = ap (λ (y : Write). y.base) same in
    (bytes, ap (λ y. Ask.PageOut y j g b bytes) a ∙ (ap (λ y. Ask.PageOut u y g b bytes) i ∙ (ap (λ y. Ask.PageOut u k y b bytes) c ∙ ap (λ y. Ask.PageOut u k grant y bytes) d)), sym (ap (λ (y : Write). y.value) same))
  where
    item-page : (x y : ℕ) → Item.Page x ≡ Item.Page y → x ≡ y
    item-page x y e = cc
page-written (Ask.AttrOut w n g b) u k v grant base is = absurd (let e : Item.Size ≡ Item.Page k = ap (λ (y : Write). y.item) (same_Some _ _ is) in cc)
page-written (Ask.PageIn w j) u k v grant base is = absurd (cc)
page-written (Ask.Lock w m) u k v grant base is = absurd (cc)
page-written (Ask.Unlock w) u k v grant base is = absurd (cc)
page-written (Ask.Remove w) u k v grant base is = absurd (cc)
page-written (Ask.Make kind room) u k v grant base is = absurd (cc)
page-written (Ask.ListLocks from) u k v grant base is = absurd (cc)

pub changed-known : (o : Option Known) (n : ℕ) → changed_length o ≡ Some n → option_map known_value o ≡ Some (Value.Length n)
changed-known None n is = absurd (cc)
changed-known (Some k) n is = by k.changed is
  where
    by : (b : Bool) → changed_in b k.length ≡ Some n → Some (known_value k) ≡ Some (Value.Length n)
    by true is = ap (λ l. Some (Value.Length l)) (same_Some k.length n is)
    by false is = absurd (cc)

-- the desk still shows what the home took
pub ack-shown : (w : World) (a p : ℕ) (u : ObjectName) (x : Item) (v : Value) (t : ℕ) → AreCarried (w.nodes a) → IsAcknowledged w a p u x v t → desk_value (w.nodes a).desk u x ≡ Some v
ack-shown w a p u (Item.Page k) v t carried ack =
    let out = page-written ack.open_call.ask u k v ack.grant ack.base ack.writes in
    let carries : Carries (w.nodes a).desk p ack.open_call.ask = subst (CarriesOpen (w.nodes a).desk p) ack.doing (carried p ack.owner) in
    by (page_at (w.nodes a).desk.cache.pages u k) refl ack.unchanged (subst (Carries (w.nodes a).desk p) out.1 carries).page ∙ ap (λ y. Some y) (sym out.2)
  where
    by : (o : Option Resident) → page_at (w.nodes a).desk.cache.pages u k ≡ o → IsStillSent o → {bytes : List ℕ} → HasSent bytes o → option_map page_value (page_at (w.nodes a).desk.cache.pages u k) ≡ Some (Value.Bytes bytes)
    by None there sent has = absurd sent
    by (Some r) there sent has = ap (option_map page_value) there ∙ ap (λ bs. Some (Value.Bytes bs)) (has.same sent)
ack-shown w a p u Item.Size (Value.Length n) t carried ack = changed-known (known_of u (w.nodes a).desk.known) n ack.unchanged
ack-shown w a p u Item.Size (Value.Bytes bytes) t carried ack = absurd ack.unchanged

-- what the home took of an open write, at a stamp that is seen then
pub record IsSettledAt (old after : World) (a : ℕ) (u : ObjectName) (x : Item) : Type 0 where
  pub proc : ℕ
  pub value : Value
  pub stamp : ℕ
  pub ack : IsAcknowledged old a proc u x value stamp
  pub seen : stamp ≤ base_of (after.nodes a).desk.seen u

-- a write that is asked for now: of what is dirty, as it is
pub record IsSentNow (after : World) (a : ℕ) (written : Write) : Type 0 where
  pub dirty : is_dirty_at (after.nodes a).desk written.uid written.item ≡ true
  pub value : desk_value (after.nodes a).desk written.uid written.item ≡ Some written.value

-- what an event does to a desk, of an object that is there
pub record DeskStep (old after : World) (a : ℕ) (u : ObjectName) : Type 0 where
  pub clean : (x : Item) → is_dirty_at (after.nodes a).desk u x ≡ false → (is_dirty_at (old.nodes a).desk u x ≡ false) ⊎ IsSettledAt old after a u x
  pub seen : base_of (old.nodes a).desk.seen u ≤ base_of (after.nodes a).desk.seen u
  pub acked : (p : ℕ) (x : Item) (v : Value) (t : ℕ) → IsAcknowledged after a p u x v t → IsAcknowledged old a p u x v t
  pub calls : (q number home : ℕ) (ask : Ask) (written : Write) → IsProc q → IsCallAt (after.calls a q) number home ask → write_of ask ≡ Some written → IsCallAt (old.calls a q) number home ask ⊎ IsSentNow after a written
  pub shown : (x : Item) (v : Value) (t : ℕ) → desk_value (after.nodes a).desk u x ≡ Some v → is_dirty_at (after.nodes a).desk u x ≡ false → seen_of u (after.nodes a).desk.seen ≡ Some t → v ≡ content old.trace u t x

-- nothing of the object is written at its home: what was granted before is granted still, or not, and what is granted now was told the stamp
pub record IsQuietFor (old after : World) (u : ObjectName) : Type 0 where
  pub content : (t : ℕ) (x : Item) → content after.trace u t x ≡ content old.trace u t x
  pub stamp : stamp_at after u ≡ stamp_at old u
  pub there : IsThere after u → IsThere old u
  pub room : (x : Item) (v : Value) → HasRoom (home_at after u) u x v → HasRoom (home_at old u) u x v
  pub rows : (p : ProcName) (m : Mode) (grant : ℕ) → row_at (locks_of after) p u ≡ Some (m, grant) → ((row_at (locks_of old) p u ≡ Some (m, grant)) × (since after.trace u grant ≡ since old.trace u grant)) ⊎ (since after.trace u grant ≡ stamp_at after u)
  pub granted : (grant a : ℕ) → grant ≤ (locks_of old u.home).last → is_granted (locks_of after u.home) grant u a ≡ true → is_granted (locks_of old u.home) grant u a ≡ true
  pub served : (p : ProcName) → served_of old p u.home ≤ served_of after p u.home

-- the four of one object
pub record AreContentsOf (s : Setup) (w : World) (u : ObjectName) : Type 0 where
  pub acknowledged : (a p : ℕ) → is_node s.opening a ≡ true → (x : Item) (v : Value) (t : ℕ) → IsThere w u → IsAcknowledged w a p u x v t → IsKeptSince w a u x v t
  pub harmless : (a p : ℕ) → is_node s.opening a ≡ true → (x : Item) (v : Value) → IsThere w u → is_dirty_at (w.nodes a).desk u x ≡ false → MayStore w a p u x v → v ≡ content w.trace u (stamp_at w u) x
  pub quiet : (a p : ℕ) → is_node s.opening a ≡ true → IsProc p → (x : Item) (m : Mode) (grant : ℕ) → IsThere w u → row_at (locks_of w) (proc_at a p) u ≡ Some (m, grant) → is_dirty_at (w.nodes a).desk u x ≡ false
      → (t : ℕ) → max (since w.trace u grant) (base_of (w.nodes a).desk.seen u) ≤ t → t ≤ stamp_at w u → content w.trace u t x ≡ content w.trace u (stamp_at w u) x
  pub as_seen : (a : ℕ) → is_node s.opening a ≡ true → (x : Item) (v : Value) (t : ℕ) → IsThere w u → desk_value (w.nodes a).desk u x ≡ Some v → is_dirty_at (w.nodes a).desk u x ≡ false → seen_of u (w.nodes a).desk.seen ≡ Some t → v ≡ content w.trace u t x

pub contents-of : (s : Setup) (w : World) → ((u : ObjectName) → AreContentsOf s w u) → AreContents s w
contents-of s w each = record {
  acknowledged = λ a p node u x v t there ack. (each u).acknowledged a p node x v t there ack;
  harmless = λ a p node u x v there clean m. (each u).harmless a p node x v there clean m;
  quiet = λ a p node proc u x m grant there row clean t above below. (each u).quiet a p node proc x m grant there row clean t above below;
  as_seen = λ a node u x v t there shows clean seen. (each u).as_seen a node x v t there shows clean seen;
}

module _ (s : Setup) (old after : World) (u : ObjectName) (step : IsQuietFor old after u) (desks : IsThere old u → (a : ℕ) → is_node s.opening a ≡ true → DeskStep old after a u) (carried : (a : ℕ) → is_node s.opening a ≡ true → AreCarried (after.nodes a)) (given : AreGiven s old) (were : AreContents s old)
    (stamps : (b q : ℕ) (w : ObjectName) (y : Item) (z : Value) (t : ℕ) → IsAcknowledged old b q w y z t → IsStampOf old w t) where
  may-was : (a q : ℕ) → is_node s.opening a ≡ true → (x : Item) (v : Value) (m : MayStore after a q u x v) → IsCallAt (old.calls a q) m.number u.home m.ask → MayStore old a q u x v
  may-was a q node x v m call = record {
    owner = m.owner;
    number = m.number;
    ask = m.ask;
    call = call;
    undecided = let e = m.undecided in let f = step.served (proc_at a q) in omega (arith, e, f);
    grant = m.grant;
    writes = m.writes ∙ ap (λ b. Some (let y : Write = record { uid = u; item = x; value = v; grant = m.grant; base = b } in y)) step.stamp;
    room = step.room x v m.room;
    granted = step.granted m.grant a (given a q node m.owner m.number u.home m.ask (record { uid = u; item = x; value = v; grant = m.grant; base = stamp_at after u }) call m.writes) m.granted;
  }

  -- a write that may be taken might be before, or is of what is dirty
  may-then : IsThere after u → (a q : ℕ) → is_node s.opening a ≡ true → (x : Item) (v : Value) → MayStore after a q u x v → MayStore old a q u x v ⊎ ((is_dirty_at (after.nodes a).desk u x ≡ true) × (desk_value (after.nodes a).desk u x ≡ Some v))
  may-then there a q node x v m = elim ((desks (step.there there) a node).calls q m.number u.home m.ask (record { uid = u; item = x; value = v; grant = m.grant; base = stamp_at after u }) m.owner m.call m.writes) [
    | inl call ↦ inl (may-was a q node x v m call)
    | inr sent ↦ inr (sent.dirty, sent.value)
  ]

  stays-then : (x : Item) (v : Value) (t : ℕ) → ((i : ℕ) → t ≤ i → i ≤ stamp_at old u → content old.trace u i x ≡ v) → (i : ℕ) → t ≤ i → i ≤ stamp_at after u → content after.trace u i x ≡ v
  stays-then x v t stays i above below = step.content i x ∙ stays i above (let e = step.stamp in omega (arith, e, below))

  -- from its stamp on an object holds what its home took
  settled-now : (a : ℕ) → is_node s.opening a ≡ true → (x : Item) → IsThere after u → (settled : IsSettledAt old after a u x) → (i : ℕ) → settled.stamp ≤ i → i ≤ stamp_at after u → content after.trace u i x ≡ settled.value
  settled-now a node x there settled = stays-then x settled.value settled.stamp (were.acknowledged a settled.proc node u x settled.value settled.stamp (step.there there) settled.ack).stays

  settled-most : (a : ℕ) (x : Item) → IsThere after u → (settled : IsSettledAt old after a u x) → settled.stamp ≤ stamp_at after u
  settled-most a x there settled = let e = (stamps a settled.proc u x settled.value settled.stamp settled.ack).most (step.there there) in let f = step.stamp in omega (arith, e, f)

  at-stamp : (x : Item) → content after.trace u (stamp_at after u) x ≡ content old.trace u (stamp_at old u) x
  at-stamp x = step.content (stamp_at after u) x ∙ ap (λ i. content old.trace u i x) step.stamp

  pub quiet-contents : AreContentsOf s after u
  quiet-contents = record {
    acknowledged = λ a p node x v t there ack.
        let kept = were.acknowledged a p node u x v t (step.there there) ((desks (step.there there) a node).acked p x v t ack) in
        record {
          stays = stays-then x v t kept.stays;
          alike = λ q other m. elim (may-then there a q node x other m) [
            | inl before ↦ kept.alike q other before
            | inr sent ↦ same_Some other v (sym sent.1 ∙ ack-shown after a p u x v t (carried a node) ack)
          ];
        };
    harmless = λ a p node x v there clean m. elim (may-then there a p node x v m) [
      | inr sent ↦ absurd (let e : true ≡ false = sym sent.0 ∙ clean in cc)
      | inl before ↦ elim ((desks (step.there there) a node).clean x clean) [
        | inl was ↦ were.harmless a p node u x v (step.there there) was before ∙ sym (at-stamp x)
        | inr settled ↦ (were.acknowledged a settled.proc node u x settled.value settled.stamp (step.there there) settled.ack).alike p v before ∙ sym (settled-now a node x there settled (stamp_at after u) (settled-most a x there settled) (omega arith))
      ]
    ];
    quiet = λ a p node proc x m grant there row clean t above below. elim ((desks (step.there there) a node).clean x clean) [
      | inl was ↦ elim (step.rows (proc_at a p) m grant row) [
        | inl before ↦
            (let e = before.1 in
            let f = (desks (step.there there) a node).seen in
            let g = step.stamp in
            step.content t x ∙ (were.quiet a p node proc u x m grant (step.there there) before.0 was t (omega (arith, above, e, f)) (omega (arith, below, g)) ∙ sym (at-stamp x)))
        | inr now ↦ ap (λ i. content after.trace u i x) (omega (arith, above, below, now))
      ]
      | inr settled ↦
          (let e = settled.seen in
          settled-now a node x there settled t (omega (arith, above, e)) below ∙ sym (settled-now a node x there settled (stamp_at after u) (settled-most a x there settled) (omega arith)))
    ];
    as_seen = λ a node x v t there shows clean seen. (desks (step.there there) a node).shown x v t shows clean seen ∙ sym (step.content t x);
  }

-- a desk that stays, at a node whose processes await what they did
pub record IsDeskStill (old after : World) (a : ℕ) : Type 0 where
  pub desk : (after.nodes a).desk ≡ (old.nodes a).desk
  pub doing : (q : ℕ) → IsProc q → IsSameDoing (proc_of (old.nodes a) q).doing (proc_of (after.nodes a) q).doing
  pub calls : (q : ℕ) → after.calls a q ≡ old.calls a q

-- what a process awaits, where it awaits the same
pub same-asking : (o : Option OpenOp) (b : BegunOp) (k : Asked) → IsSameDoing o (asking b k) → (l : Asked) × (o ≡ asking b l) × (k.ask ≡ l.ask) × (k.waiting.number ≡ l.waiting.number)
same-asking None b k same = absurd same
same-asking (Some r) b k same = by r.awaits refl same.1
  where
    by : (w : Await) → r.awaits ≡ w → IsSameAwait w (Await.Answer k) → (l : Asked) × (Some r ≡ asking b l) × (k.ask ≡ l.ask) × (k.waiting.number ≡ l.waiting.number)
    by (Await.Page u i) is alike = absurd alike
    by (Await.Answer l) is alike = (l, ap (λ x. Some (let y : OpenOp = record { began = r.began; awaits = x } in y)) is ∙ ap (λ x. asking x l) (sym same.0), alike.1, alike.2)

-- an open write that was taken, where the process awaits the same
pub ack-same : (old after : World) (a p : ℕ) → IsProc p → IsSameDoing (proc_of (old.nodes a) p).doing (proc_of (after.nodes a) p).doing → (u : ObjectName) (x : Item) (v : Value) (t : ℕ) → (ack : IsAcknowledged after a p u x v t)
    → WasAnswered old.trace u.home (proc_at a p) ack.open_call.waiting.number (Answer.Stored t) → IsUnchanged (old.nodes a).desk u x v → IsAcknowledged old a p u x v t
ack-same old after a p proc same u x v t ack answered unchanged =
    let was = same-asking (proc_of (old.nodes a) p).doing ack.began ack.open_call (subst (IsSameDoing (proc_of (old.nodes a) p).doing) ack.doing same) in
    record {
      owner = proc;
      began = ack.began;
      open_call = was.0;
      doing = was.1;
      grant = ack.grant;
      base = ack.base;
      writes = ap write_of (sym was.2) ∙ ack.writes;
      answered = subst (λ i. WasAnswered old.trace u.home (proc_at a p) i (Answer.Stored t)) was.3 answered;
      unchanged = unchanged;
    }

pub still-step : (s : Setup) (old after : World) → AreContents s old → (a : ℕ) → is_node s.opening a ≡ true → IsDeskStill old after a → (u : ObjectName) → IsThere old u
    → ((p : ℕ) (x : Item) (v : Value) (t : ℕ) → (ack : IsAcknowledged after a p u x v t) → WasAnswered old.trace u.home (proc_at a p) ack.open_call.waiting.number (Answer.Stored t)) → DeskStep old after a u
still-step s old after were a node is u there answered = record {
  clean = λ x clean. inl (subst (λ d. is_dirty_at d u x ≡ false) is.desk clean);
  seen = let e = ap (λ (d : DeskState). base_of d.seen u) is.desk in omega (arith, e);
  acked = λ p x v t ack. ack-same old after a p ack.owner (is.doing p ack.owner) u x v t ack (answered p x v t ack) (subst (λ d. IsUnchanged d u x v) is.desk ack.unchanged);
  calls = λ q number home ask written proc made writes. inl (subst (λ cs. IsCallAt cs number home ask) (is.calls q) made);
  shown = λ x v t shows clean seen. were.as_seen a node u x v t there (subst (λ d. desk_value d u x ≡ Some v) is.desk shows) (subst (λ d. is_dirty_at d u x ≡ false) is.desk clean) (subst (λ (d : DeskState). seen_of u d.seen ≡ Some t) is.desk seen);
}
