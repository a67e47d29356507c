-- What an event that moves a desk for one process does to what the desk has of an object.
use Rattle.std.proofs.Common.{◌≡◌, ℕ, ◌≤◌, Bool, true, false, List, [], Option, Some, ◌⊎◌, inl, inr, sym, ap, subst, ◌∙◌, arith}
use Rattle.std.specs.Prelude.{◌&&◌, if◌then◌else◌, max, unwrap_or}
use Rattle.std.proofs.lemmas.Bool.{cases_eq}
use Rattle.std.proofs.lemmas.Option.{same_Some}
use Rattle.lock_validate.proofs.States.{free-unkept}
use Rattle.uid_names.specs.Names.{ObjectName, same_uid}
use Rattle.uid_names.specs.declared.mode.Mode.{Mode}
use Rattle.uid_names.proofs.ListLemmas.{by_cases}
use Rattle.uid_names.proofs.Orders.{same_uid_is}
use Rattle.uid_names.proofs.Somes.{there_is}
use Rattle.page_cache.specs.Caches.{page_at}
use Rattle.version_stamps.specs.Stamps.{stamp_of as seen_of, with_stamp, raised}
use Rattle.ring_messages.specs.Bodies.{Answer}
use Rattle.fault_handler.specs.declared.tasks.Task.{Task}
use Rattle.fault_handler.specs.Entries.{entry_of, keeps, keeps_writing}
use Rattle.fault_handler.specs.Transits.{going}
use Rattle.fault_handler.specs.Desks.{DeskState, entry_at, moving_of, any_keeps, base_of}
use Rattle.fault_handler.specs.Outcomes.{Turn}
use Rattle.fault_handler.specs.PageReplies.{PageAnswer}
use Rattle.fault_handler.specs.LockCalls.{LockCall, LockAnswer, lock_answer, open_call}
use Rattle.fault_handler.specs.Ready.{CallStands, IsReadyAt}
use Rattle.fault_handler.specs.Invariant.{IsProc, FitsWay, FitsTransit, IsDesk}
use Rattle.fault_handler.proofs.Fours.{any-at, any-of}
use Rattle.fault_handler.proofs.TransitKeeps.{keeps_writing-keeps}
use Rattle.lock_validate.specs.Causes.{Cause, MayCome}
use Rattle.lock_validate.specs.Left.{IsGranted, Leaves}
use Rattle.lock_validate.specs.Told.{told_stamp}
use Rattle.lock_validate.specs.DeskMoves.{DeskMoves}
use Rattle.lock_validate.specs.Turns.{Says}
use Rattle.lock_validate.specs.Refusals.{Refuses}
use Rattle.lock_validate.specs.Loading.{IsTaskIn}
use Rattle.lock_validate.specs.Releasing.{releasing_in}
use Rattle.lock_validate.proofs.Beside.{moves-beside}
use Rattle.lock_validate.proofs.PageSaid.{page-said}
use Rattle.run_laws.specs.Items.{Item, Value, is_dirty_at}
use Rattle.run_laws.proofs.Seen.{set-stamp}
use Rattle.run_laws.proofs.ItemSteps.{Cleans, ItemStep, IsPlain, step-clean, moves-clean}
use Rattle.run_laws.proofs.Shown.{low_of, raised-up, raised-low, moves-up, moves-seen, Shows, Fits, once-shows, moves-shows, IsKeptFrom, step-kept, moves-kept}
use Rattle.run_laws.proofs.Raising.{CameTo}
use Rattle.run_laws.proofs.SettledContents.{page-settled, length-settled}

-- the object of such an answer
abbrev settled_object : ObjectName → LockAnswer → ObjectName
settled_object other (LockAnswer.PageSettled a b c d) = a
settled_object other (LockAnswer.LengthSettled a b c d f) = a
settled_object other (LockAnswer.Granted a b c d f g) = a
settled_object other _ = other

-- the call that such an answer is of
page-call : (call : LockCall) (x : Answer) (w : ObjectName) (delete taken : Bool) (stamp : ℕ) → lock_answer call x ≡ Some (LockAnswer.PageSettled w delete taken stamp) → (k : ℕ) × (del : Bool) × (call ≡ LockCall.PageOut w k del)
page-call (LockCall.PageOut v k del) (Answer.Stored s) w delete taken stamp says = (k, del, ap (λ y. LockCall.PageOut y k del) (ap (settled_object v) (same_Some (LockAnswer.PageSettled v del true s) (LockAnswer.PageSettled w delete taken stamp) says)))
page-call (LockCall.PageOut v k del) (Answer.Stale s) w delete taken stamp says = (k, del, ap (λ y. LockCall.PageOut y k del) (ap (settled_object v) (same_Some (LockAnswer.PageSettled v del false s) (LockAnswer.PageSettled w delete taken stamp) says)))
page-call (LockCall.Lock v m) (Answer.Granted g s kind r l) w delete taken stamp says = absurd (cc)
page-call (LockCall.Lock v m) (Answer.Conflict q held) w delete taken stamp says = absurd (cc)
page-call (LockCall.Lock v m) Answer.NoObject w delete taken stamp says = absurd (cc)
page-call (LockCall.AttrOut v l del) (Answer.Stored s) w delete taken stamp says = absurd (cc)
page-call (LockCall.AttrOut v l del) (Answer.Stale s) w delete taken stamp says = absurd (cc)
page-call (LockCall.Unlock v) Answer.Done w delete taken stamp says = absurd (cc)
page-call (LockCall.Remove v) Answer.Done w delete taken stamp says = absurd (cc)
page-call call x w delete taken stamp says = absurd (cc)

length-call : (call : LockCall) (x : Answer) (w : ObjectName) (n : ℕ) (delete taken : Bool) (stamp : ℕ) → lock_answer call x ≡ Some (LockAnswer.LengthSettled w n delete taken stamp) → (l : ℕ) × (del : Bool) × (call ≡ LockCall.AttrOut w l del)
length-call (LockCall.AttrOut v l del) (Answer.Stored s) w n delete taken stamp says = (l, del, ap (λ y. LockCall.AttrOut y l del) (ap (settled_object v) (same_Some (LockAnswer.LengthSettled v l del true s) (LockAnswer.LengthSettled w n delete taken stamp) says)))
length-call (LockCall.AttrOut v l del) (Answer.Stale s) w n delete taken stamp says = (l, del, ap (λ y. LockCall.AttrOut y l del) (ap (settled_object v) (same_Some (LockAnswer.LengthSettled v l del false s) (LockAnswer.LengthSettled w n delete taken stamp) says)))
length-call (LockCall.Lock v m) (Answer.Granted g s kind r l) w n delete taken stamp says = absurd (cc)
length-call (LockCall.Lock v m) (Answer.Conflict q held) w n delete taken stamp says = absurd (cc)
length-call (LockCall.Lock v m) Answer.NoObject w n delete taken stamp says = absurd (cc)
length-call (LockCall.PageOut v k del) (Answer.Stored s) w n delete taken stamp says = absurd (cc)
length-call (LockCall.PageOut v k del) (Answer.Stale s) w n delete taken stamp says = absurd (cc)
length-call (LockCall.Unlock v) Answer.Done w n delete taken stamp says = absurd (cc)
length-call (LockCall.Remove v) Answer.Done w n delete taken stamp says = absurd (cc)
length-call call x w n delete taken stamp says = absurd (cc)

lock-call : (call : LockCall) (x : Answer) (w : ObjectName) (k : Mode) (grant stamp room n : ℕ) → lock_answer call x ≡ Some (LockAnswer.Granted w k grant stamp room n) → (m : Mode) × (call ≡ LockCall.Lock w m)
lock-call (LockCall.Lock v m) (Answer.Granted g s kind r l) w k grant stamp room n says = (m, ap (λ y. LockCall.Lock y m) (ap (settled_object v) (same_Some (LockAnswer.Granted v m g s r l) (LockAnswer.Granted w k grant stamp room n) says)))
lock-call (LockCall.Lock v m) (Answer.Conflict q held) w k grant stamp room n says = absurd (cc)
lock-call (LockCall.Lock v m) Answer.NoObject w k grant stamp room n says = absurd (cc)
lock-call (LockCall.PageOut v i del) (Answer.Stored s) w k grant stamp room n says = absurd (cc)
lock-call (LockCall.PageOut v i del) (Answer.Stale s) w k grant stamp room n says = absurd (cc)
lock-call (LockCall.AttrOut v l del) (Answer.Stored s) w k grant stamp room n says = absurd (cc)
lock-call (LockCall.AttrOut v l del) (Answer.Stale s) w k grant stamp room n says = absurd (cc)
lock-call (LockCall.Unlock v) Answer.Done w k grant stamp room n says = absurd (cc)
lock-call (LockCall.Remove v) Answer.Done w k grant stamp room n says = absurd (cc)
lock-call call x w k grant stamp room n says = absurd (cc)

abbrev pub granted_uid : ObjectName → Cause → ObjectName
granted_uid other (Cause.AnswerCame a) = settled_object other a
granted_uid other _ = other

-- what a grant leaves
abbrev pub IsGrantLeft : DeskState → ℕ → DeskState → Cause → Type 0
IsGrantLeft d p e (Cause.AnswerCame (LockAnswer.Granted u m grant stamp room n)) = IsGranted d p e u m grant stamp room n
IsGrantLeft d p e c = Unit {0}

module _ (d : DeskState) (p : ℕ) (e : DeskState) where
  refused-left : (c : Cause) (reply : _) → Refuses d p c reply → IsGrantLeft d p e c
  refused-left c reply (Refuses.load_unmapped spot count none) = tt
  refused-left c reply refused = tt

  task-left : (c : Cause) (task : Task) → IsTaskIn d p c task → IsGrantLeft d p e c
  task-left (Cause.AnswerCame a) task is = absurd is
  task-left c task is = tt

  releasing-left : (c : Cause) (delete : Bool) (u : ObjectName) → releasing_in c ≡ Some (delete, u) → IsGrantLeft d p e c
  releasing-left (Cause.AnswerCame (LockAnswer.Granted v m grant stamp room n)) delete u given = absurd (cc)
  releasing-left c delete u given = tt

  answer-left : (a : LockAnswer) → Leaves d p e a → IsGrantLeft d p e (Cause.AnswerCame a)
  answer-left (LockAnswer.Granted u m grant stamp room n) left = left
  answer-left a left = tt

  pub said-left : (c : Cause) (turn : Turn) → Says d p e c turn → IsGrantLeft d p e c
  said-left c turn (Says.refuses cause reply refused same) = refused-left cause reply refused
  said-left c turn (Says.loads cause task count r given work there) = task-left cause task given
  said-left c turn (Says.stores cause task bytes r given work there long) = task-left cause task given
  said-left c turn (Says.answers a reply is leaves) = answer-left a leaves
  said-left c turn (Says.waits cause task given absent fetched) = task-left cause task given
  said-left c turn (Says.waits_to_release cause delete u k releasing transit) = releasing-left cause delete u releasing.given
  said-left c turn (Says.asks_page cause task given fetches) = task-left cause task given
  said-left c turn (Says.sends_room cause task r given room) = task-left cause task given
  said-left c turn (Says.sends_page cause delete u k r given opened sends) = releasing-left cause delete u given
  said-left c turn (Says.sends_length cause delete u n given opened changed) = releasing-left cause delete u given
  said-left c turn (Says.gives_up cause delete u given opened may settled) = releasing-left cause delete u given
  said-left c turn says = tt

-- one call of a desk, of one object
module _ (d : DeskState) (desk : IsDesk d) (p : ℕ) (proc : IsProc p) (e : DeskState) (u : ObjectName) where
  -- what was sent before a release is settled at once
  abbrev AtOnce : Cause → Type 0
  AtOnce c = ((x : Item) → ItemStep c d p d e u x) × (base_of d.seen u ≤ base_of e.seen u) × (((s : ℕ) → told_stamp c ≡ Some (u, s) → ⊥) → seen_of u e.seen ≡ seen_of u d.seen)

  raised-other : (w : ObjectName) (stamp : ℕ) → ((s : ℕ) → ◌≡◌ {A = Option (ObjectName × ℕ)} (Some (w, stamp)) (Some (u, s)) → ⊥) → same_uid u w ≡ false
  raised-other w stamp untold = by_cases (same_uid u w) (same_uid u w ≡ false) (λ same. absurd (untold stamp (ap (λ y. let z : Option (ObjectName × ℕ) = Some (y, stamp) in z) (sym (same_uid_is u w same))))) (λ h. h)

  raised-then : (w : ObjectName) (stamp : ℕ) → e.seen ≡ with_stamp (record { uid = w; stamp = raised stamp (seen_of w d.seen) }) d.seen → base_of d.seen u ≤ base_of e.seen u
  raised-then w stamp seen = let f = ap (λ ss. unwrap_or (seen_of u ss) 0) seen in let r = raised-up u w stamp d.seen in omega (arith, f, r)

  raised-same : (w : ObjectName) (stamp : ℕ) → e.seen ≡ with_stamp (record { uid = w; stamp = raised stamp (seen_of w d.seen) }) d.seen → ((s : ℕ) → ◌≡◌ {A = Option (ObjectName × ℕ)} (Some (w, stamp)) (Some (u, s)) → ⊥) → seen_of u e.seen ≡ seen_of u d.seen
  raised-same w stamp seen untold = ap (seen_of u) seen ∙ (set-stamp u w (raised stamp (seen_of w d.seen)) d.seen ∙ ap (λ b. if b then Some (raised stamp (seen_of w d.seen)) else seen_of u d.seen) (raised-other w stamp untold))

  way : (c : Cause) → MayCome d p c → CameTo d p c e → IsPlain c ⊎ AtOnce c
  way (Cause.AnswerCame (LockAnswer.PageSettled w delete taken stamp)) may came =
      let call = page-call may.call may.answer w delete taken stamp may.says in
      let stands : CallStands d p (LockCall.PageOut w call.0 call.1) = subst (λ y. IsReadyAt d p (Some (open_call y))) call.2 (subst (IsReadyAt d p) may.opened may.ready) in
      let fits : FitsWay false d.cache.pages d.entries p w call.0 = subst (FitsTransit d.cache.pages d.entries p) stands.1 (desk.moved.each p proc) in
      let there = there_is (page_at d.cache.pages w call.0) fits.0 in
      inr ((λ x. page-settled d p u w call.0 delete taken stamp stands.1 there.0 there.1 e came x), raised-then w stamp came.seen, raised-same w stamp came.seen)
  way (Cause.AnswerCame (LockAnswer.LengthSettled w n delete taken stamp)) may came = inr ((λ x. length-settled d p u w n delete taken stamp e came x), raised-then w stamp came.seen, raised-same w stamp came.seen)
  way c may came = inl tt

  raised-of : (c : Cause) → CameTo d p c e → low_of c u ≤ base_of e.seen u
  raised-of (Cause.PageCame (PageAnswer.Taken task r stamp)) came = let f = ap (λ ss. unwrap_or (seen_of u ss) 0) came in let r = raised-low u r.uid stamp d.seen in omega (arith, f, r)
  raised-of (Cause.AnswerCame (LockAnswer.PageSettled w delete taken stamp)) came = let f = ap (λ ss. unwrap_or (seen_of u ss) 0) came.seen in let r = raised-low u w stamp d.seen in omega (arith, f, r)
  raised-of (Cause.AnswerCame (LockAnswer.LengthSettled w n delete taken stamp)) came = let f = ap (λ ss. unwrap_or (seen_of u ss) 0) came.seen in let r = raised-low u w stamp d.seen in omega (arith, f, r)
  raised-of c came = omega arith

  told-on : (w : ObjectName) (stamp s : ℕ) → ◌≡◌ {A = Option (ObjectName × ℕ)} (Some (w, stamp)) (Some (u, s)) → any_keeps d.entries w ≡ true → any_keeps d.entries u ≡ true
  told-on w stamp s told kept = subst (λ v. any_keeps d.entries v ≡ true) (ap (λ (z : ObjectName × ℕ). z.0) (let f : ◌≡◌ {A = ObjectName × ℕ} (w, stamp) (u, s) = same_Some (w, stamp) (u, s) told in f)) kept

  going-kept : (w : ObjectName) (k : ℕ) → moving_of d p ≡ going w k → any_keeps d.entries w ≡ true
  going-kept w k goes = let fits : FitsWay false d.cache.pages d.entries p w k = subst (FitsTransit d.cache.pages d.entries p) goes (desk.moved.each p proc) in fits.1

  writes-kept : (w : ObjectName) → keeps_writing (entry_at d.entries p w) ≡ true → any_keeps d.entries w ≡ true
  writes-kept w writes = any-at (λ r. keeps (entry_at d.entries r w)) p proc (keeps_writing-keeps (entry_at d.entries p w) writes)

  -- what is told of, but by a grant, is kept
  told-kept : (c : Cause) → MayCome d p c → (s : ℕ) → told_stamp c ≡ Some (u, s) → ((k : Mode) (grant stamp room n : ℕ) → c ≡ Cause.AnswerCame (LockAnswer.Granted u k grant stamp room n) → ⊥) → any_keeps d.entries u ≡ true
  told-kept (Cause.PageCame (PageAnswer.Came task stamp bytes)) may s told other =
      let said = page-said d p desk proc (PageAnswer.Came task stamp bytes) may in
      told-on task.uid stamp s told (any-at (λ r. keeps (entry_at d.entries r task.uid)) p proc said.allowed.kept)
  told-kept (Cause.PageCame (PageAnswer.Taken task r stamp)) may s told other = let said = page-said d p desk proc (PageAnswer.Taken task r stamp) may in told-on r.uid stamp s told (going-kept r.uid r.page said.goes)
  told-kept (Cause.PageCame (PageAnswer.NotTaken task r stamp)) may s told other = let said = page-said d p desk proc (PageAnswer.NotTaken task r stamp) may in told-on r.uid stamp s told (going-kept r.uid r.page said.goes)
  told-kept (Cause.AnswerCame (LockAnswer.PageSettled w delete taken stamp)) may s told other =
      let call = page-call may.call may.answer w delete taken stamp may.says in
      let stands : CallStands d p (LockCall.PageOut w call.0 call.1) = subst (λ y. IsReadyAt d p (Some (open_call y))) call.2 (subst (IsReadyAt d p) may.opened may.ready) in
      told-on w stamp s told (writes-kept w stands.0.writes)
  told-kept (Cause.AnswerCame (LockAnswer.LengthSettled w n delete taken stamp)) may s told other =
      let call = length-call may.call may.answer w n delete taken stamp may.says in
      let stands : CallStands d p (LockCall.AttrOut w call.0 call.1) = subst (λ y. IsReadyAt d p (Some (open_call y))) call.2 (subst (IsReadyAt d p) may.opened may.ready) in
      told-on w stamp s told (writes-kept w stands.0.writes)
  told-kept (Cause.AnswerCame (LockAnswer.Granted w k grant stamp room n)) may s told other =
      absurd (other k grant stamp room n (ap (λ v. Cause.AnswerCame (LockAnswer.Granted v k grant stamp room n)) (ap (λ (z : ObjectName × ℕ). z.0) (let f : ◌≡◌ {A = ObjectName × ℕ} (w, stamp) (u, s) = same_Some (w, stamp) (u, s) told in f))))
  told-kept (Cause.AnswerCame (LockAnswer.Refused q held)) may s told other = absurd (cc)
  told-kept (Cause.AnswerCame (LockAnswer.Gone w)) may s told other = absurd (cc)
  told-kept (Cause.AnswerCame (LockAnswer.Released w)) may s told other = absurd (cc)
  told-kept (Cause.AnswerCame (LockAnswer.Removed w)) may s told other = absurd (cc)
  told-kept (Cause.Accesses op) may s told other = absurd (cc)
  told-kept (Cause.Locks w k) may s told other = absurd (cc)
  told-kept (Cause.Releases delete w) may s told other = absurd (cc)
  told-kept (Cause.AccessFailed t) may s told other = absurd (cc)
  told-kept (Cause.CallFailed call) may s told other = absurd (cc)

  -- a lock is granted to a process that did not keep the object
  granted-unkept : (c : Cause) → MayCome d p c → (k : Mode) (grant stamp room n : ℕ) → c ≡ Cause.AnswerCame (LockAnswer.Granted u k grant stamp room n) → keeps (entry_at d.entries p u) ≡ false
  granted-unkept (Cause.AnswerCame (LockAnswer.Granted w j g t r l)) may k grant stamp room n is =
      let call = lock-call may.call may.answer w j g t r l may.says in
      let stands : CallStands d p (LockCall.Lock w call.0) = subst (λ y. IsReadyAt d p (Some (open_call y))) call.1 (subst (IsReadyAt d p) may.opened may.ready) in
      let same : w ≡ u = ap (λ x. granted_uid w x) is in
      subst (λ v. keeps (entry_at d.entries p v) ≡ false) same (free-unkept (entry_at d.entries p w) stands.free)
  granted-unkept (Cause.AnswerCame (LockAnswer.Refused q held)) may k grant stamp room n is = absurd (cc)
  granted-unkept (Cause.AnswerCame (LockAnswer.Gone w)) may k grant stamp room n is = absurd (cc)
  granted-unkept (Cause.AnswerCame (LockAnswer.PageSettled w delete taken t)) may k grant stamp room n is = absurd (cc)
  granted-unkept (Cause.AnswerCame (LockAnswer.LengthSettled w l delete taken t)) may k grant stamp room n is = absurd (cc)
  granted-unkept (Cause.AnswerCame (LockAnswer.Released w)) may k grant stamp room n is = absurd (cc)
  granted-unkept (Cause.AnswerCame (LockAnswer.Removed w)) may k grant stamp room n is = absurd (cc)
  granted-unkept (Cause.PageCame a) may k grant stamp room n is = absurd (cc)
  granted-unkept (Cause.Accesses op) may k grant stamp room n is = absurd (cc)
  granted-unkept (Cause.Locks w j) may k grant stamp room n is = absurd (cc)
  granted-unkept (Cause.Releases delete w) may k grant stamp room n is = absurd (cc)
  granted-unkept (Cause.AccessFailed t) may k grant stamp room n is = absurd (cc)
  granted-unkept (Cause.CallFailed call) may k grant stamp room n is = absurd (cc)

  module _ (c : Cause) (turn : Turn) (may : MayCome d p c) (dropped : List (ObjectName × ℕ)) (made : DeskMoves c turn p d e dropped) (came : CameTo d p c e) (unremoved : c ≡ Cause.AnswerCame (LockAnswer.Removed u) → ⊥) where
    -- what is clean was clean, or its home took it
    pub clean-then : (x : Item) → is_dirty_at e u x ≡ false → (is_dirty_at d u x ≡ false) ⊎ ((v : Value) × Cleans c d p u x v)
    clean-then x clean = elim (way c may came) [
      | inl plain ↦ moves-clean c turn p proc plain u x d desk e dropped made clean
      | inr once ↦ step-clean c d p d e u x (once.0 x) clean
    ]

    pub seen-then : base_of d.seen u ≤ base_of e.seen u
    seen-then = elim (way c may came) [
      | inl plain ↦ moves-up c turn p u unremoved d e dropped made
      | inr once ↦ once.1
    ]

    pub low-then : low_of c u ≤ base_of e.seen u
    low-then = raised-of c came

    -- a process of the node keeps the object
    module _ (held : ℕ → Item → Value) (most : ℕ) (kept : any_keeps d.entries u ≡ true) (fits : Fits held most u c d p (low_of c u)) (shows : (x : Item) → Shows held most u d (base_of d.seen u) x) where
      unlearned : (f : DeskState) (before : List (ObjectName × ℕ)) → DeskMoves c turn p d f before → (k : Mode) (grant stamp room n : ℕ) → c ≡ Cause.AnswerCame (LockAnswer.Granted u k grant stamp room n) → any_keeps f.entries u ≡ false → ⊥
      unlearned f before moved_so k grant stamp room n is none =
          let q = any-of (λ r. keeps (entry_at d.entries r u)) kept in
          elim (cases_eq q.0 p) [
            | inl same ↦ absurd (let a : keeps (entry_at d.entries p u) ≡ true = subst (λ r. keeps (entry_at d.entries r u) ≡ true) same q.2 in let f : true ≡ false = sym a ∙ granted-unkept c may k grant stamp room n is in cc)
            | inr beside ↦ absurd (
                let a : keeps (entry_at f.entries q.0 u) ≡ true = ap (λ es. keeps (entry_of u es)) (moves-beside c turn p q.0 proc q.1 beside d f before moved_so).entries ∙ q.2 in
                let g : true ≡ false = sym (any-at (λ r. keeps (entry_at f.entries r u)) q.0 q.1 a) ∙ none in cc)
          ]

      pub kept-shows : (x : Item) → Shows held most u e (max (base_of e.seen u) (low_of c u)) x
      kept-shows x = elim (way c may came) [
        | inl plain ↦ moves-shows held most u c turn p proc plain unremoved d desk (low_of c u) fits unlearned x (shows x) e dropped made
        | inr once ↦ once-shows held most u c d p (low_of c u) fits e x (once.0 x) (unlearned d [] DeskMoves.none) once.1 (shows x)
      ]

    -- none does, and no grant tells of it
    module _ (none : any_keeps d.entries u ≡ false) (ungranted : (k : Mode) (grant stamp room n : ℕ) → c ≡ Cause.AnswerCame (LockAnswer.Granted u k grant stamp room n) → ⊥) (cleans-told : (x : Item) (v : Value) → Cleans c d p u x v → (s : ℕ) × (told_stamp c ≡ Some (u, s))) where
      untold : (s : ℕ) → told_stamp c ≡ Some (u, s) → ⊥
      untold s told = absurd (let f : true ≡ false = sym (told-kept c may s told ungranted) ∙ none in cc)

      uncleaned : (x : Item) (v : Value) → Cleans c d p u x v → ⊥
      uncleaned x v cleans = let t = cleans-told x v cleans in untold t.0 t.1

      unarrived : (task : Task) (stamp : ℕ) (bytes : List ℕ) → c ≡ Cause.PageCame (PageAnswer.Came task stamp bytes) → u ≡ task.uid → ⊥
      unarrived task stamp bytes is on = untold stamp (ap told_stamp is ∙ ap (λ v. let z : Option (ObjectName × ℕ) = Some (v, stamp) in z) (sym on))

      pub unkept-same : (x : Item) → IsKeptFrom d e u x
      unkept-same x = elim (way c may came) [
        | inl plain ↦ moves-kept c d p u uncleaned unarrived turn proc plain desk x (λ f before moved_so k grant stamp room n is size fresh. ungranted k grant stamp room n is) e dropped made
        | inr once ↦ step-kept c d p u uncleaned unarrived d e x (once.0 x) (λ k grant stamp room n is size fresh. ungranted k grant stamp room n is)
      ]

      pub unkept-seen : seen_of u e.seen ≡ seen_of u d.seen
      unkept-seen = elim (way c may came) [
        | inl plain ↦ moves-seen c turn p u unremoved untold d e dropped made
        | inr once ↦ once.2 untold
      ]
