-- What a desk's moves make of the stamps that it has seen.
use Rattle.std.proofs.Common.{◌≡◌, ℕ, ◌≤◌, ◌⊎◌, Bool, true, false, List, [], Option, Some, None, IfSome, inl, inr, sym, ap, subst, ◌∙◌, arith}
use Rattle.std.specs.Prelude.{max, unwrap_or, if◌then◌else◌}
use Rattle.std.proofs.lemmas.Bool.{cases_eq}
use Rattle.uid_names.specs.Names.{ObjectName, same_uid}
use Rattle.uid_names.proofs.ListLemmas.{by_cases}
use Rattle.uid_names.proofs.Orders.{same_uid_is}
use Rattle.dom_history.specs.declared.op.Reply.{Reply}
use Rattle.version_stamps.specs.declared.stamps.Stamp.{Stamp}
use Rattle.version_stamps.specs.Stamps.{stamp_of, with_stamp, raised}
use Rattle.version_stamps.proofs.LookUps.{stamp_of-with_stamp, stamp_of-without_stamp}
use Rattle.fault_handler.specs.declared.entries.LockEntry.{LockEntry}
use Rattle.fault_handler.specs.declared.tasks.Task.{Task}
use Rattle.fault_handler.specs.Entries.{entry_of, keeps}
use Rattle.fault_handler.specs.Desks.{DeskState, entry_at, any_keeps, base_of}
use Rattle.fault_handler.specs.Outcomes.{Turn}
use Rattle.fault_handler.specs.LockCalls.{LockAnswer}
use Rattle.fault_handler.specs.Invariant.{IsProc, IsDesk}
use Rattle.fault_handler.proofs.Fours.{any-at}
use Rattle.lock_validate.specs.Causes.{Cause}
use Rattle.lock_validate.specs.Loading.{IsTaskIn}
use Rattle.lock_validate.specs.Releasing.{releasing_in}
use Rattle.lock_validate.specs.Refusals.{Refuses}
use Rattle.lock_validate.specs.Left.{Leaves}
use Rattle.lock_validate.specs.Told.{told_stamp}
use Rattle.lock_validate.specs.DeskMoves.{Change, DeskMoves}
use Rattle.lock_validate.specs.Turns.{Says}
use Rattle.lock_validate.proofs.Beside.{moves-beside}
use Rattle.lock_validate.proofs.DeskStays.{moves-desk}
use Rattle.run_laws.proofs.EntryMoves.{EntryThen, as_before, freed, noted, got, moves-entry}

-- the stamp that is seen of u, once one of v was set
pub set-stamp : (u v : ObjectName) (stamp : ℕ) (seen : List Stamp) → stamp_of u (with_stamp (record { uid = v; stamp = stamp }) seen) ≡ (if same_uid u v then Some stamp else stamp_of u seen)
set-stamp u v stamp seen = stamp_of-with_stamp (record { uid = v; stamp = stamp }) seen u

-- what holds of each stamp that was told and was seen holds of each that is seen
module _ (P : ObjectName → ℕ → Type 0) (greater : (u : ObjectName) (a b : ℕ) → P u a → P u b → P u (max a b)) where
  abbrev pub AreSeen : DeskState → Type 0
  AreSeen d = (u : ObjectName) → IfSome (stamp_of u d.seen) (P u)

  raised-is : (u : ObjectName) (stamp : ℕ) (o : Option ℕ) → P u stamp → IfSome o (P u) → P u (raised stamp o)
  raised-is u stamp None is was = is
  raised-is u stamp (Some known) is was = greater u known stamp was is

  module _ (c : Cause) (turn : Turn) (p : ℕ) (told : IfSome (told_stamp c) (λ z. P z.0 z.1)) where
    change-seen : (d e : DeskState) (dropped : List (ObjectName × ℕ)) → Change c turn p d e dropped → AreSeen d → AreSeen e
    change-seen d e dropped (Change.raises v stamp given least known current) seen u = by_cases (same_uid u v) (IfSome (stamp_of u (with_stamp (record { uid = v; stamp = raised stamp (stamp_of v d.seen) }) d.seen)) (P u))
        (λ same.
        subst (λ o. IfSome o (P u)) (sym (set-stamp u v (raised stamp (stamp_of v d.seen)) d.seen ∙ ap (λ b. if b then Some (raised stamp (stamp_of v d.seen)) else stamp_of u d.seen) same))
        (subst (λ w. P w (raised stamp (stamp_of v d.seen))) (sym (same_uid_is u v same)) (raised-is v stamp (stamp_of v d.seen) (subst (λ o. IfSome o (λ (z : ObjectName × ℕ). P z.0 z.1)) given told) (seen v))))
        (λ differs. subst (λ o. IfSome o (P u)) (sym (set-stamp u v (raised stamp (stamp_of v d.seen)) d.seen ∙ ap (λ b. if b then Some (raised stamp (stamp_of v d.seen)) else stamp_of u d.seen) differs)) (seen u))
    change-seen d e dropped (Change.forgets v given none absent) seen u = subst (λ o. IfSome o (P u)) (sym (stamp_of-without_stamp v d.seen u)) (by (same_uid u v) (seen u))
      where
        by : (b : Bool) → IfSome (stamp_of u d.seen) (P u) → IfSome (if b then None else stamp_of u d.seen) (P u)
        by true is = tt
        by false is = is
    change-seen d e dropped change seen u = seen u

    pub moves-seen : (d e : DeskState) (dropped : List (ObjectName × ℕ)) → DeskMoves c turn p d e dropped → AreSeen d → AreSeen e
    moves-seen d e dropped DeskMoves.none seen = seen
    moves-seen d e dropped (DeskMoves.next {e = f} before change) seen = change-seen f e [] change (moves-seen d f dropped before seen)
    moves-seen d e dropped (DeskMoves.dropping {e = f} before change) seen = change-seen f e dropped change (moves-seen d f [] before seen)

pub raised-both : (stamp : ℕ) (o : Option ℕ) → (unwrap_or o 0 ≤ raised stamp o) × (stamp ≤ raised stamp o)
raised-both stamp None = (omega arith, omega arith)
raised-both stamp (Some known) = (omega arith, omega arith)

unkept-each : (entries : List (List LockEntry)) (u : ObjectName) → any_keeps entries u ≡ false → (q : ℕ) → IsProc q → keeps (entry_at entries q u) ≡ false
unkept-each entries u none q owner = by_cases (keeps (entry_at entries q u)) (keeps (entry_at entries q u) ≡ false)
    (λ is. absurd (let e : true ≡ false = sym (any-at (λ r. keeps (entry_at entries r u)) q owner is) ∙ none in cc))
    (λ is. is)

-- the seen stamp of an object that is kept then did not fall
module _ (c : Cause) (turn : Turn) (p : ℕ) (proc : IsProc p) (u : ObjectName) (d : DeskState) where
  abbrev IsGone : DeskState → Type 0
  IsGone f = (c ≡ Cause.AnswerCame (LockAnswer.Removed u)) × ((q : ℕ) → IsProc q → keeps (entry_at f.entries q u) ≡ false)

  abbrev IsUp : DeskState → Type 0
  IsUp f = base_of d.seen u ≤ base_of f.seen u

  up-change : (f e : DeskState) (dropped : List (ObjectName × ℕ)) → Change c turn p f e dropped → IsUp f → IsUp e ⊎ IsGone e
  up-change f e dropped (Change.raises v stamp given least known current) up = inl (by_cases (same_uid u v) (base_of d.seen u ≤ unwrap_or (stamp_of u (with_stamp (record { uid = v; stamp = raised stamp (stamp_of v f.seen) }) f.seen)) 0)
      (λ same.
      let e = ap (λ o. unwrap_or o 0) (set-stamp u v (raised stamp (stamp_of v f.seen)) f.seen ∙ ap (λ b. if b then Some (raised stamp (stamp_of v f.seen)) else stamp_of u f.seen) same) in
      let r = (raised-both stamp (stamp_of v f.seen)).0 in
      let h = ap (λ w. unwrap_or (stamp_of w f.seen) 0) (same_uid_is u v same) in
      omega (arith, e, r, h, up))
      (λ differs.
      let e = ap (λ o. unwrap_or o 0) (set-stamp u v (raised stamp (stamp_of v f.seen)) f.seen ∙ ap (λ b. if b then Some (raised stamp (stamp_of v f.seen)) else stamp_of u f.seen) differs) in
      omega (arith, e, up)))
  up-change f e dropped (Change.forgets v given none absent) up = by_cases (same_uid u v) (IsUp e ⊎ IsGone e)
      (λ same.
      let is : v ≡ u = sym (same_uid_is u v same) in
      inr (subst (λ w. c ≡ Cause.AnswerCame (LockAnswer.Removed w)) is given, λ q owner. unkept-each f.entries u (subst (λ w. any_keeps f.entries w ≡ false) is none) q owner))
      (λ differs. inl (let e = ap (λ o. unwrap_or o 0) (stamp_of-without_stamp v f.seen u ∙ ap (λ b. if b then None else stamp_of u f.seen) differs) in omega (arith, e, up)))
  up-change f e dropped change up = inl up

  gone-then : (old new : Option LockEntry) → c ≡ Cause.AnswerCame (LockAnswer.Removed u) → EntryThen c turn u old new → keeps old ≡ false → keeps new ≡ false
  gone-then old new is (as_before same) none = ap keeps same ∙ none
  gone-then old new is (freed never held) none = never
  gone-then old new is (noted delete given asks kept may never) none = never
  gone-then old new is (got m grant stamp room n given now) none = absurd (let e = sym is ∙ given in cc)

  gone-change : (f e : DeskState) (dropped : List (ObjectName × ℕ)) → IsDesk f → Change c turn p f e dropped → IsGone f → IsGone e
  gone-change f e dropped desk change gone = (
    gone.0,
    λ q owner. elim (cases_eq q p) [
      | inl there ↦ subst (λ r. keeps (entry_at e.entries r u) ≡ false) (sym there)
          (gone-then (entry_at f.entries p u) (entry_at e.entries p u) gone.0 (moves-entry c turn p proc u f e dropped desk (DeskMoves.dropping DeskMoves.none change)) (gone.1 p proc))
      | inr beside ↦ ap (λ es. keeps (entry_of u es)) (moves-beside c turn p q proc owner beside f e dropped (DeskMoves.dropping DeskMoves.none change)).entries ∙ gone.1 q owner
    ],
  )

  change-up : (f e : DeskState) (dropped : List (ObjectName × ℕ)) → IsDesk f → Change c turn p f e dropped → IsUp f ⊎ IsGone f → IsUp e ⊎ IsGone e
  change-up f e dropped desk change (inl up) = up-change f e dropped change up
  change-up f e dropped desk change (inr gone) = inr (gone-change f e dropped desk change gone)

  module _ (desk : IsDesk d) where
    moves-up : (e : DeskState) (dropped : List (ObjectName × ℕ)) → DeskMoves c turn p d e dropped → IsUp e ⊎ IsGone e
    moves-up e dropped DeskMoves.none = inl (omega arith)
    moves-up e dropped (DeskMoves.next {e = f} before change) = change-up f e [] (moves-desk c turn p proc d f dropped desk before) change (moves-up f dropped before)
    moves-up e dropped (DeskMoves.dropping {e = f} before change) = change-up f e dropped (moves-desk c turn p proc d f [] desk before) change (moves-up f [] before)

    pub kept-up : (e : DeskState) (dropped : List (ObjectName × ℕ)) → DeskMoves c turn p d e dropped → (q : ℕ) → IsProc q → keeps (entry_at e.entries q u) ≡ true → base_of d.seen u ≤ base_of e.seen u
    kept-up e dropped made q owner kept = elim (moves-up e dropped made) [
      | inl up ↦ up
      | inr gone ↦ absurd (let h : true ≡ false = sym kept ∙ gone.1 q owner in cc)
    ]

-- the stamp that a grant tells is seen then, or a greater one
abbrev pub IsSeenBy : DeskState → Cause → Type 0
IsSeenBy e (Cause.AnswerCame (LockAnswer.Granted u m grant stamp room n)) = stamp ≤ base_of e.seen u
IsSeenBy e c = Unit {0}

module _ (d : DeskState) (p : ℕ) (e : DeskState) where
  refused-seen : (c : Cause) (reply : Reply) → Refuses d p c reply → IsSeenBy e c
  refused-seen c reply (Refuses.load_unmapped spot count none) = tt
  refused-seen c reply refused = tt

  task-seen : (c : Cause) (task : Task) → IsTaskIn d p c task → IsSeenBy e c
  task-seen (Cause.AnswerCame a) task is = absurd is
  task-seen c task is = tt

  releasing-seen : (c : Cause) (delete : Bool) (u : ObjectName) → releasing_in c ≡ Some (delete, u) → IsSeenBy e c
  releasing-seen (Cause.AnswerCame (LockAnswer.Granted v m grant stamp room n)) delete u given = absurd (cc)
  releasing-seen c delete u given = tt

  left-seen : (a : LockAnswer) → Leaves d p e a → IsSeenBy e (Cause.AnswerCame a)
  left-seen (LockAnswer.Granted u m grant stamp room n) left =
      let f = ap (λ o. unwrap_or o 0) left.seen in let r = (raised-both stamp (stamp_of u d.seen)).1 in omega (arith, f, r)
  left-seen a left = tt

  pub said-seen : (c : Cause) (turn : Turn) → Says d p e c turn → IsSeenBy e c
  said-seen c turn (Says.refuses cause reply refused same) = refused-seen cause reply refused
  said-seen c turn (Says.loads cause task count r given work there) = task-seen cause task given
  said-seen c turn (Says.stores cause task bytes r given work there long) = task-seen cause task given
  said-seen c turn (Says.answers a reply is leaves) = left-seen a leaves
  said-seen c turn (Says.waits cause task given absent fetched) = task-seen cause task given
  said-seen c turn (Says.waits_to_release cause delete u k releasing transit) = releasing-seen cause delete u releasing.given
  said-seen c turn (Says.asks_page cause task given fetches) = task-seen cause task given
  said-seen c turn (Says.sends_room cause task r given room) = task-seen cause task given
  said-seen c turn (Says.sends_page cause delete u k r given opened sends) = releasing-seen cause delete u given
  said-seen c turn (Says.sends_length cause delete u n given opened changed) = releasing-seen cause delete u given
  said-seen c turn (Says.gives_up cause delete u given opened may settled) = releasing-seen cause delete u given
  said-seen c turn says = tt
