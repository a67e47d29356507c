-- What a desk shows of an object, against what that held at its stamps, while a cause moves the desk.
use Rattle.std.proofs.Common.{◌≡◌, ℕ, ◌≤◌, Bool, true, false, List, [], Option, Some, None, refl, sym, ap, subst, ◌∙◌, arith}
use Rattle.std.specs.Prelude.{if◌then◌else◌, max, unwrap_or}
use Rattle.std.proofs.lemmas.Bool.Decides.{nat_tests}
use Rattle.std.proofs.lemmas.Option.{same_Some}
use Rattle.uid_names.specs.Names.{ObjectName, same_uid}
use Rattle.uid_names.specs.declared.mode.Mode.{Mode}
use Rattle.uid_names.proofs.ListLemmas.{by_cases}
use Rattle.uid_names.proofs.Orders.{same_uid_is}
use Rattle.version_stamps.specs.declared.stamps.Stamp.{Stamp}
use Rattle.version_stamps.specs.Stamps.{stamp_of, with_stamp, raised}
use Rattle.version_stamps.proofs.LookUps.{stamp_of-without_stamp}
use Rattle.fault_handler.specs.declared.tasks.Task.{Task}
use Rattle.fault_handler.specs.Tasks.{page_of}
use Rattle.fault_handler.specs.Desks.{DeskState, any_keeps, base_of}
use Rattle.fault_handler.specs.PageReplies.{PageAnswer}
use Rattle.fault_handler.specs.LockCalls.{LockAnswer}
use Rattle.fault_handler.specs.Outcomes.{Turn}
use Rattle.fault_handler.specs.Invariant.{IsProc, IsDesk}
use Rattle.lock_validate.specs.Answers.{is_fresh}
use Rattle.lock_validate.specs.Causes.{Cause}
use Rattle.lock_validate.specs.Told.{told_stamp}
use Rattle.lock_validate.specs.DeskMoves.{Change, DeskMoves}
use Rattle.lock_validate.proofs.DeskStays.{moves-desk}
use Rattle.run_laws.specs.Items.{Item, Value, desk_value, is_dirty_at}
use Rattle.run_laws.proofs.Seen.{raised-both, set-stamp}
use Rattle.run_laws.proofs.ItemSteps.{Cleans, ItemStep, alike, cleaned, arrived, learned, IsPlain, change-item}

-- the stamp from which on the home has what it took
abbrev low_if : Bool → ℕ → ℕ
low_if true stamp = stamp
low_if false stamp = 0

abbrev pub low_of : Cause → ObjectName → ℕ
low_of (Cause.PageCame (PageAnswer.Taken task r stamp)) u = low_if (same_uid r.uid u) stamp
low_of (Cause.AnswerCame (LockAnswer.PageSettled w delete taken stamp)) u = low_if (same_uid w u) stamp
low_of (Cause.AnswerCame (LockAnswer.LengthSettled w n delete taken stamp)) u = low_if (same_uid w u) stamp
low_of c u = 0

low-told : (w u : ObjectName) (stamp s : ℕ) → w ≡ u → ◌≡◌ {A = Option (ObjectName × ℕ)} (Some (w, stamp)) (Some (u, s)) → low_if (same_uid w u) stamp ≡ s
low-told w u stamp s same told =
    ap (λ b. low_if b stamp) (subst (λ v. same_uid w v ≡ true) same (grind (arith, nat_tests))) ∙ ap (λ (z : ObjectName × ℕ). z.1) (let e : ◌≡◌ {A = ObjectName × ℕ} (w, stamp) (u, s) = same_Some (w, stamp) (u, s) told in e)

pub cleans-low : (c : Cause) (d : DeskState) (p : ℕ) (u : ObjectName) (x : Item) (v : Value) (s : ℕ) → Cleans c d p u x v → told_stamp c ≡ Some (u, s) → low_of c u ≡ s
cleans-low (Cause.PageCame (PageAnswer.Taken task r stamp)) d p u (Item.Page k) v s cleans told = low-told r.uid u stamp s cleans.0 told
cleans-low (Cause.AnswerCame (LockAnswer.PageSettled w delete true stamp)) d p u (Item.Page k) v s cleans told = low-told w u stamp s cleans.0 told
cleans-low (Cause.AnswerCame (LockAnswer.LengthSettled w n delete true stamp)) d p u Item.Size v s cleans told = low-told w u stamp s cleans.0 told
cleans-low c d p u x v s cleans told = absurd cleans

pub raised-up : (u v : ObjectName) (stamp : ℕ) (seen : List Stamp) → unwrap_or (stamp_of u seen) 0 ≤ unwrap_or (stamp_of u (with_stamp (record { uid = v; stamp = raised stamp (stamp_of v seen) }) seen)) 0
raised-up u v stamp seen = by_cases (same_uid u v) (unwrap_or (stamp_of u seen) 0 ≤ unwrap_or (stamp_of u (with_stamp (record { uid = v; stamp = raised stamp (stamp_of v seen) }) seen)) 0)
    (λ same.
    let e = ap (λ o. unwrap_or o 0) (set-stamp u v (raised stamp (stamp_of v seen)) seen ∙ ap (λ b. if b then Some (raised stamp (stamp_of v seen)) else stamp_of u seen) same) in
    let r = (raised-both stamp (stamp_of v seen)).0 in
    let h = ap (λ w. unwrap_or (stamp_of w seen) 0) (same_uid_is u v same) in
    omega (arith, e, r, h))
    (λ differs.
    let e = ap (λ o. unwrap_or o 0) (set-stamp u v (raised stamp (stamp_of v seen)) seen ∙ ap (λ b. if b then Some (raised stamp (stamp_of v seen)) else stamp_of u seen) differs) in
    omega (arith, e))

pub raised-low : (u v : ObjectName) (stamp : ℕ) (seen : List Stamp) → low_if (same_uid v u) stamp ≤ unwrap_or (stamp_of u (with_stamp (record { uid = v; stamp = raised stamp (stamp_of v seen) }) seen)) 0
raised-low u v stamp seen = by (same_uid v u) refl
  where
    by : (b : Bool) → same_uid v u ≡ b → low_if b stamp ≤ unwrap_or (stamp_of u (with_stamp (record { uid = v; stamp = raised stamp (stamp_of v seen) }) seen)) 0
    by false differs = omega arith
    by true same =
        let turned : same_uid u v ≡ true = subst (λ w. same_uid w v ≡ true) (same_uid_is v u same) (grind (arith, nat_tests)) in
        let e = ap (λ o. unwrap_or o 0) (set-stamp u v (raised stamp (stamp_of v seen)) seen ∙ ap (λ b. if b then Some (raised stamp (stamp_of v seen)) else stamp_of u seen) turned) in
        let r = (raised-both stamp (stamp_of v seen)).1 in
        omega (arith, e, r)

module _ (c : Cause) (turn : Turn) (p : ℕ) (u : ObjectName) (unremoved : c ≡ Cause.AnswerCame (LockAnswer.Removed u) → ⊥) where
  not-forgotten : (v : ObjectName) → c ≡ Cause.AnswerCame (LockAnswer.Removed v) → same_uid u v ≡ false
  not-forgotten v given = by_cases (same_uid u v) (same_uid u v ≡ false) (λ same. absurd (unremoved (subst (λ w. c ≡ Cause.AnswerCame (LockAnswer.Removed w)) (sym (same_uid_is u v same)) given))) (λ h. h)

  -- the seen stamp of an object that was not removed never falls
  seen-up : (d e : DeskState) (dropped : List (ObjectName × ℕ)) → Change c turn p d e dropped → base_of d.seen u ≤ base_of e.seen u
  seen-up d e dropped (Change.raises v stamp told least known current) = raised-up u v stamp d.seen
  seen-up d e dropped (Change.forgets v given none absent) = let f = ap (λ o. unwrap_or o 0) (stamp_of-without_stamp v d.seen u ∙ ap (λ b. if b then None else stamp_of u d.seen) (not-forgotten v given)) in omega (arith, f)
  seen-up d e dropped change = omega arith

  pub moves-up : (d e : DeskState) (dropped : List (ObjectName × ℕ)) → DeskMoves c turn p d e dropped → base_of d.seen u ≤ base_of e.seen u
  moves-up d e dropped DeskMoves.none = omega arith
  moves-up d e dropped (DeskMoves.next {e = f} before change) = let a = moves-up d f dropped before in let b = seen-up f e [] change in omega (arith, a, b)
  moves-up d e dropped (DeskMoves.dropping {e = f} before change) = let a = moves-up d f [] before in let b = seen-up f e dropped change in omega (arith, a, b)

  -- one of which nothing is told stays
  module _ (untold : (s : ℕ) → told_stamp c ≡ Some (u, s) → ⊥) where
    seen-same : (d e : DeskState) (dropped : List (ObjectName × ℕ)) → Change c turn p d e dropped → stamp_of u e.seen ≡ stamp_of u d.seen
    seen-same d e dropped (Change.raises v stamp told least known current) =
        let differs : same_uid u v ≡ false = by_cases (same_uid u v) (same_uid u v ≡ false) (λ same. absurd (untold stamp (told ∙ ap (λ w. Some (w, stamp)) (sym (same_uid_is u v same))))) (λ h. h) in
        set-stamp u v (raised stamp (stamp_of v d.seen)) d.seen ∙ ap (λ b. if b then Some (raised stamp (stamp_of v d.seen)) else stamp_of u d.seen) differs
    seen-same d e dropped (Change.forgets v given none absent) = stamp_of-without_stamp v d.seen u ∙ ap (λ b. if b then None else stamp_of u d.seen) (not-forgotten v given)
    seen-same d e dropped change = refl

    pub moves-seen : (d e : DeskState) (dropped : List (ObjectName × ℕ)) → DeskMoves c turn p d e dropped → stamp_of u e.seen ≡ stamp_of u d.seen
    moves-seen d e dropped DeskMoves.none = refl
    moves-seen d e dropped (DeskMoves.next {e = f} before change) = seen-same f e [] change ∙ moves-seen d f dropped before
    moves-seen d e dropped (DeskMoves.dropping {e = f} before change) = seen-same f e dropped change ∙ moves-seen d f [] before

-- what is clean and there shows what the object held, from a stamp on
module _ (held : ℕ → Item → Value) (most : ℕ) (u : ObjectName) where
  abbrev pub Shows : DeskState → ℕ → Item → Type 0
  Shows d low x = (v : Value) → is_dirty_at d u x ≡ false → desk_value d u x ≡ Some v → (t : ℕ) → low ≤ t → t ≤ most → v ≡ held t x

  module _ (c : Cause) (start : DeskState) (p : ℕ) (low : ℕ) where
    pub record Fits : Type 0 where
      pub cleans : (x : Item) (v : Value) → Cleans c start p u x v → (t : ℕ) → low ≤ t → t ≤ most → v ≡ held t x
      pub arrives : (task : Task) (stamp : ℕ) (bytes : List ℕ) → c ≡ Cause.PageCame (PageAnswer.Came task stamp bytes) → u ≡ task.uid → base_of start.seen u ≤ stamp → (t : ℕ) → stamp ≤ t → t ≤ most → Value.Bytes bytes ≡ held t (Item.Page (page_of task))

    step-shows : Fits → (d e : DeskState) (x : Item) → ItemStep c start p d e u x → ((m : Mode) (grant stamp room n : ℕ) → c ≡ Cause.AnswerCame (LockAnswer.Granted u m grant stamp room n) → any_keeps d.entries u ≡ false → ⊥)
        → base_of start.seen u ≤ base_of d.seen u → base_of d.seen u ≤ base_of e.seen u → Shows d (max (base_of d.seen u) low) x → Shows e (max (base_of e.seen u) low) x
    step-shows fits d e x (alike was) unlearned up higher shows v clean shown t above below = let is = was clean in shows v is.was (is.value v shown) t (omega (arith, above, higher)) below
    step-shows fits d e x (cleaned w is same) unlearned up higher shows v clean shown t above below = same v clean shown ∙ fits.cleans x w is t (omega (arith, above)) below
    step-shows fits d e x (arrived task stamp bytes given on page was now seen) unlearned up higher shows v clean shown t above below =
        let base : base_of e.seen u ≡ stamp = ap (λ o. unwrap_or o 0) seen in
        same_Some v (Value.Bytes bytes) (sym shown ∙ now) ∙ (fits.arrives task stamp bytes given on (omega (arith, up, higher, base)) t (omega (arith, above, base)) below ∙ ap (held t) (sym page))
    step-shows fits d e x (learned m grant stamp room n given size fresh none was) unlearned up higher shows v clean shown t above below = absurd (unlearned m grant stamp room n given none)

    -- a step from the start, to a desk that has seen that stamp
    pub once-shows : Fits → (e : DeskState) (x : Item) → ItemStep c start p start e u x → ((m : Mode) (grant stamp room n : ℕ) → c ≡ Cause.AnswerCame (LockAnswer.Granted u m grant stamp room n) → any_keeps start.entries u ≡ false → ⊥)
        → base_of start.seen u ≤ base_of e.seen u → Shows start (base_of start.seen u) x → Shows e (max (base_of e.seen u) low) x
    once-shows fits e x step unlearned higher shows = step-shows fits start e x step unlearned (omega arith) higher (λ v clean shown t above below. shows v clean shown t (omega (arith, above)) below)

  -- where a desk moves by changes
  module _ (c : Cause) (turn : Turn) (p : ℕ) (proc : IsProc p) (plain : IsPlain c) (unremoved : c ≡ Cause.AnswerCame (LockAnswer.Removed u) → ⊥) (d : DeskState) (desk : IsDesk d) where
    pub moves-shows : (low : ℕ) → Fits c d p low
        → ((f : DeskState) (dropped : List (ObjectName × ℕ)) → DeskMoves c turn p d f dropped → (m : Mode) (grant stamp room n : ℕ) → c ≡ Cause.AnswerCame (LockAnswer.Granted u m grant stamp room n) → any_keeps f.entries u ≡ false → ⊥)
        → (x : Item) → Shows d (base_of d.seen u) x → (e : DeskState) (dropped : List (ObjectName × ℕ)) → DeskMoves c turn p d e dropped → Shows e (max (base_of e.seen u) low) x
    moves-shows low fits unlearned x shows e dropped DeskMoves.none = λ v clean shown t above below. shows v clean shown t (omega (arith, above)) below
    moves-shows low fits unlearned x shows e dropped (DeskMoves.next {e = f} before change) =
        step-shows c d p low fits f e x (change-item c d p u turn plain f e x [] (moves-desk c turn p proc d f dropped desk before) change) (unlearned f dropped before)
        (moves-up c turn p u unremoved d f dropped before) (seen-up c turn p u unremoved f e [] change) (moves-shows low fits unlearned x shows f dropped before)
    moves-shows low fits unlearned x shows e dropped (DeskMoves.dropping {e = f} before change) =
        step-shows c d p low fits f e x (change-item c d p u turn plain f e x dropped (moves-desk c turn p proc d f [] desk before) change) (unlearned f [] before)
        (moves-up c turn p u unremoved d f [] before) (seen-up c turn p u unremoved f e dropped change) (moves-shows low fits unlearned x shows f [] before)

-- nothing comes to be shown of an item that its home did not take, that did not come, and that no grant told anew
abbrev pub IsKeptFrom : DeskState → DeskState → ObjectName → Item → Type 0
IsKeptFrom d e u x = (v : Value) → is_dirty_at e u x ≡ false → desk_value e u x ≡ Some v → (is_dirty_at d u x ≡ false) × (desk_value d u x ≡ Some v)

module _ (c : Cause) (start : DeskState) (p : ℕ) (u : ObjectName) (uncleaned : (x : Item) (v : Value) → Cleans c start p u x v → ⊥) (unarrived : (task : Task) (stamp : ℕ) (bytes : List ℕ) → c ≡ Cause.PageCame (PageAnswer.Came task stamp bytes) → u ≡ task.uid → ⊥) where
  pub step-kept : (d e : DeskState) (x : Item) → ItemStep c start p d e u x
      → ((m : Mode) (grant stamp room n : ℕ) → c ≡ Cause.AnswerCame (LockAnswer.Granted u m grant stamp room n) → x ≡ Item.Size → is_fresh stamp (stamp_of u d.seen) ≡ true → ⊥) → IsKeptFrom d e u x
  step-kept d e x (alike was) unlearned v clean shown = let is = was clean in (is.was, is.value v shown)
  step-kept d e x (cleaned w is same) unlearned v clean shown = absurd (uncleaned x w is)
  step-kept d e x (arrived task stamp bytes given on page was now seen) unlearned v clean shown = absurd (unarrived task stamp bytes given on)
  step-kept d e x (learned m grant stamp room n given size fresh none was) unlearned v clean shown = absurd (unlearned m grant stamp room n given size fresh)

  module _ (turn : Turn) (proc : IsProc p) (plain : IsPlain c) (desk : IsDesk start) (x : Item)
      (unlearned : (f : DeskState) (dropped : List (ObjectName × ℕ)) → DeskMoves c turn p start f dropped → (m : Mode) (grant stamp room n : ℕ) → c ≡ Cause.AnswerCame (LockAnswer.Granted u m grant stamp room n) → x ≡ Item.Size → is_fresh stamp (stamp_of u f.seen) ≡ true → ⊥) where
    pub moves-kept : (e : DeskState) (dropped : List (ObjectName × ℕ)) → DeskMoves c turn p start e dropped → IsKeptFrom start e u x
    moves-kept e dropped DeskMoves.none v clean shown = (clean, shown)
    moves-kept e dropped (DeskMoves.next {e = f} before change) v clean shown =
        let is = step-kept f e x (change-item c start p u turn plain f e x [] (moves-desk c turn p proc start f dropped desk before) change) (unlearned f dropped before) v clean shown in
        moves-kept f dropped before v is.0 is.1
    moves-kept e dropped (DeskMoves.dropping {e = f} before change) v clean shown =
        let is = step-kept f e x (change-item c start p u turn plain f e x dropped (moves-desk c turn p proc start f [] desk before) change) (unlearned f [] before) v clean shown in
        moves-kept f [] before v is.0 is.1
