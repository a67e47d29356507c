-- The pages that an event drops say how room was made, and each way in which it may be made has its dropped pages.
use Rattle.std.proofs.Common.{◌≡◌, ℕ, Bool, true, false, List, [], ◌∷◌, Option, Some, None, refl, sym, ap, subst, ◌∙◌, arith}
use Rattle.std.specs.Prelude.{◌==◌, ◌&&◌}
use Rattle.std.specs.Option.{option_map}
use Rattle.std.proofs.lemmas.Bool.Decides.{nat_tests}
use Rattle.std.proofs.lemmas.Option.{same_Some}
use Rattle.uid_names.specs.Names.{ObjectName, same_uid}
use Rattle.page_cache.specs.Caches.{Resident}
use Rattle.page_cache.specs.Victims.{oldest}
use Rattle.fault_handler.specs.Desks.{DeskState}
use Rattle.fault_handler.specs.declared.tasks.Task.{Task}
use Rattle.fault_handler.specs.Outcomes.{Moved}
use Rattle.fault_handler.specs.Victims.{Victim, is_idle_clean, is_idle_dirty, is_idle_page, MayMakeRoom}
use Rattle.fault_handler.specs.Accesses.{Accessed, Always, room_made}
use Rattle.node_runs.specs.Rooms.{same_pages, drops_if, sent_home, victim_by, moved_if, moved_by, MayMove}
use Rattle.uid_names.proofs.Orders.{same_uid_is}
use Rattle.uid_names.proofs.Passed.{left-true, right-true, equal}
use Rattle.uid_names.proofs.Somes.{map-some}

same_page-refl : (x : ObjectName × ℕ) → (same_uid x.0 x.0 && (x.1 == x.1)) ≡ true
same_page-refl x = grind (arith, nat_tests)

pub same_pages-refl : (pages : List (ObjectName × ℕ)) → same_pages pages pages ≡ true
same_pages-refl [] = refl
same_pages-refl (x ∷ pages) = ap (λ b. b && same_pages pages pages) (same_page-refl x) ∙ same_pages-refl pages

same_page-is : (x y : ObjectName × ℕ) → (same_uid x.0 y.0 && (x.1 == y.1)) ≡ true → y ≡ x
same_page-is x y h = let u : y.0 ≡ x.0 = sym (same_uid_is x.0 y.0 (left-true (same_uid x.0 y.0) (x.1 == y.1) h)) in let k : y.1 ≡ x.1 = sym (equal x.1 y.1 (right-true (same_uid x.0 y.0) (x.1 == y.1) h)) in λ i. (u i, k i)

pub same_pages-is : (xs ys : List (ObjectName × ℕ)) → same_pages xs ys ≡ true → ys ≡ xs
same_pages-is [] [] h = refl
same_pages-is [] (y ∷ ys) h = absurd (cc)
same_pages-is (x ∷ xs) [] h = absurd (cc)
same_pages-is (x ∷ xs) (y ∷ ys) h =
    let one = same_page-is x y (left-true (same_uid x.0 y.0 && (x.1 == y.1)) (same_pages xs ys) h) in
    let rest = same_pages-is xs ys (right-true (same_uid x.0 y.0 && (x.1 == y.1)) (same_pages xs ys) h) in
    λ i. one i ∷ rest i

module _ (d : DeskState) (v : Victim) where
  by-drop : (b : Bool) (u : ObjectName) (k : ℕ) → is_idle_page d u k ≡ b → drops_if b u k ≡ Some v → MayMakeRoom d v
  by-drop true u k idle e = subst (MayMakeRoom d) (same_Some (Victim.Drops u k) v e) idle
  by-drop false u k idle e = absurd (cc)

  by-send : (clean dirty : Option Resident) → oldest (is_idle_clean d.moving) d.cache.pages ≡ clean → oldest (is_idle_dirty d.moving) d.cache.pages ≡ dirty → sent_home clean dirty ≡ Some v → MayMakeRoom d v
  by-send None None a b e = absurd (cc)
  by-send None (Some r) a b e = subst (MayMakeRoom d) (same_Some (Victim.SendsHome r) v e) (a, b)
  by-send (Some r) dirty a b e = absurd (cc)

  -- what the dropped pages say may be
  pub victim_by-may : (dropped : List (ObjectName × ℕ)) → victim_by d dropped ≡ Some v → MayMakeRoom d v
  victim_by-may [] e = by-send (oldest (is_idle_clean d.moving) d.cache.pages) (oldest (is_idle_dirty d.moving) d.cache.pages) refl refl e
  victim_by-may (x ∷ []) e = by-drop (is_idle_page d x.0 x.1) x.0 x.1 refl e
  victim_by-may (x ∷ (y ∷ more)) e = absurd (cc)

  module _ (p : ℕ) (task : Task) where
    drop-same : (b : Bool) (x : ObjectName × ℕ) → drops_if b x.0 x.1 ≡ Some v → same_pages (x ∷ []) (room_made d p task v).dropped ≡ true
    drop-same true x e = subst (λ (w : Victim). same_pages (x ∷ []) (room_made d p task w).dropped ≡ true) (same_Some (Victim.Drops x.0 x.1) v e) (same_pages-refl (x ∷ []))
    drop-same false x e = absurd (cc)

    send-same : (clean dirty : Option Resident) → sent_home clean dirty ≡ Some v → same_pages [] (room_made d p task v).dropped ≡ true
    send-same None None e = absurd (cc)
    send-same None (Some r) e = subst (λ (w : Victim). same_pages [] (room_made d p task w).dropped ≡ true) (same_Some (Victim.SendsHome r) v e) refl
    send-same (Some r) dirty e = absurd (cc)

    -- they are dropped then
    victim_by-same : (dropped : List (ObjectName × ℕ)) → victim_by d dropped ≡ Some v → same_pages dropped (room_made d p task v).dropped ≡ true
    victim_by-same [] e = send-same (oldest (is_idle_clean d.moving) d.cache.pages) (oldest (is_idle_dirty d.moving) d.cache.pages) e
    victim_by-same (x ∷ []) e = drop-same (is_idle_page d x.0 x.1) x e
    victim_by-same (x ∷ (y ∷ more)) e = absurd (cc)

-- each way in which room may be made is that of the pages that it drops
victim_by-named : (d : DeskState) (p : ℕ) (task : Task) (v : Victim) → MayMakeRoom d v → victim_by d (room_made d p task v).dropped ≡ Some v
victim_by-named d p task (Victim.Drops u k) may = ap (λ b. drops_if b u k) may
victim_by-named d p task (Victim.SendsHome r) may = ap (λ o. sent_home o (oldest (is_idle_dirty d.moving) d.cache.pages)) may.0 ∙ ap (λ o. sent_home None o) may.1

moved_if-is : (b : Bool) (settled m : Moved) → moved_if b settled ≡ Some m → (b ≡ true) × (m ≡ settled)
moved_if-is true settled m e = (refl, sym (same_Some settled m e))
moved_if-is false settled m e = absurd (cc)

-- what comes out where these pages are dropped may come out, and drops them
pub moved_by-may : (p : ℕ) (dropped : List (ObjectName × ℕ)) (a : Accessed) (m : Moved) → moved_by p dropped a ≡ Some m → MayMove p a m × (same_pages dropped m.dropped ≡ true)
moved_by-may p dropped (Accessed.Settled settled) m e =
    let is = moved_if-is (same_pages dropped settled.dropped) settled m e in
    (is.1, ap (λ (x : Moved). same_pages dropped x.dropped) is.1 ∙ is.0)
moved_by-may p dropped (Accessed.NeedsRoom d task) m e =
    let is = map-some (room_made d p task) (victim_by d dropped) m e in
    ((is.0, victim_by-may d is.0 dropped is.1, is.2), ap (λ (x : Moved). same_pages dropped x.dropped) is.2 ∙ victim_by-same d is.0 p task dropped is.1)

-- what may come out does where its pages are dropped
pub may-moved_by : (p : ℕ) (a : Accessed) (m : Moved) → MayMove p a m → moved_by p m.dropped a ≡ Some m
may-moved_by p (Accessed.Settled settled) m is =
    ap (λ (x : Moved). moved_if (same_pages x.dropped settled.dropped) settled) is ∙ ap (λ b. moved_if b settled) (same_pages-refl settled.dropped) ∙ ap (λ (x : Moved). Some x) (sym is)
may-moved_by p (Accessed.NeedsRoom d task) m (v, may, is) =
    ap (λ (x : Moved). option_map (room_made d p task) (victim_by d x.dropped)) is
    ∙ ap (λ o. option_map (room_made d p task) o) (victim_by-named d p task v may)
    ∙ ap (λ (x : Moved). Some x) (sym is)

-- what always holds of what an access comes to holds of each way in which it may come out
pub always-may : (p : ℕ) (P : Moved → Type 0) (a : Accessed) (m : Moved) → Always p P a → MayMove p a m → P m
always-may p P (Accessed.Settled settled) m holds is = subst P (sym is) holds
always-may p P (Accessed.NeedsRoom d task) m holds (v, may, is) = subst P (sym is) (holds v may)
