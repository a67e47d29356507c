-- What holds of each page that is resident, and of each that comes, holds of each that is dropped.
use Rattle.std.proofs.Common.{◌≡◌, ℕ, Bool, true, false, List, [], ◌∷◌, map, Option, Some, None, IfSome, refl, subst}
use Rattle.std.specs.Prelude.{nat_lt, filter, if◌then◌else◌}
use Rattle.uid_names.specs.Names.{ObjectName}
use Rattle.uid_names.proofs.Orders.{same_uid_is}
use Rattle.page_cache.specs.Caches.{Resident, is_of, is_page, page_at}
use Rattle.page_cache.specs.Numbers.{numbers, placed, resident_pages, rising}
use Rattle.fault_handler.specs.Desks.{DeskState}
use Rattle.fault_handler.specs.Outcomes.{Turn}
use Rattle.fault_handler.specs.PageReplies.{PageAnswer}
use Rattle.fault_handler.specs.Tasks.{page_of, IsTask}
use Rattle.fault_handler.specs.Victims.{is_idle_one}
use Rattle.fault_handler.specs.declared.tasks.Task.{Task}
use Rattle.fault_handler.proofs.PageLists.{found-page, found-uid}
use Rattle.lock_validate.specs.Causes.{Cause}
use Rattle.lock_validate.specs.DeskMoves.{Change, DeskMoves}
use Rattle.node_runs.specs.CallsKeep.{EachOf}
use Rattle.lock_validate.proofs.EachPage.{each-find, moves-pages}

module _ (Q : ObjectName → ℕ → Type 0) where
  abbrev Of : Resident → Type 0
  Of r = Q r.uid r.page

  abbrev pub AreSuch : List (ObjectName × ℕ) → Type 0
  AreSuch pages = EachOf (λ (x : ObjectName × ℕ). Q x.0 x.1) pages

  -- the pages of an object, by their numbers
  each-placed : (u : ObjectName) (k : ℕ) (ks : List ℕ) → Q u k → EachOf (Q u) ks → EachOf (Q u) (placed k ks)
  each-placed u k [] is each = (is, tt)
  each-placed u k (j ∷ ks) is each = by (nat_lt j k) (each-placed u k ks is each.1)
    where
      by : (b : Bool) → EachOf (Q u) (placed k ks) → EachOf (Q u) (if b then j ∷ placed k ks else k ∷ j ∷ ks)
      by true rest = (each.0, rest)
      by false rest = (is, each)

  each-rising : (u : ObjectName) (ks : List ℕ) → EachOf (Q u) ks → EachOf (Q u) (rising ks)
  each-rising u [] each = tt
  each-rising u (k ∷ ks) each = each-placed u k (rising ks) each.0 (each-rising u ks each.1)

  each-number : (u : ObjectName) (pages : List Resident) → EachOf Of pages → EachOf (Q u) (numbers (is_of u) pages)
  each-number u [] each = tt
  each-number u (r ∷ pages) each = by (is_of u r) (λ same. subst (λ v. Q v r.page) (same_uid_is r.uid u same) each.0) (each-number u pages each.1)
    where
      by : (b : Bool) → (b ≡ true → Q u r.page) → EachOf (Q u) (numbers (is_of u) pages) → EachOf (Q u) (map (λ (x : Resident). x.page) (if b then r ∷ filter (is_of u) pages else filter (is_of u) pages))
      by true is rest = (is refl, rest)
      by false is rest = rest

  each-of-object : (u : ObjectName) (ks : List ℕ) → EachOf (Q u) ks → AreSuch (map (λ k. (u, k)) ks)
  each-of-object u [] each = tt
  each-of-object u (k ∷ ks) each = (each.0, each-of-object u ks each.1)

  -- a page that may be dropped is resident
  idle-such : (d : DeskState) (u : ObjectName) (k : ℕ) (o : Option Resident) → page_at d.cache.pages u k ≡ o → is_idle_one d.moving o ≡ true → EachOf Of d.cache.pages → Q u k
  idle-such d u k None found idle each = absurd (cc)
  idle-such d u k (Some r) found idle each =
      subst (λ v. Q v k) (found-uid d.cache.pages u k r found) (subst (Q r.uid) (found-page d.cache.pages u k r found) (subst (λ (o : Option Resident). IfSome o Of) found (each-find Q (is_page u k) d.cache.pages each)))

  module _ (c : Cause) (turn : Turn) (p : ℕ) (comes : (d : DeskState) (task : Task) (stamp : ℕ) (bytes : List ℕ) → c ≡ Cause.PageCame (PageAnswer.Came task stamp bytes) → IsTask task → Q task.uid (page_of task)) where
    change-drops : (d e : DeskState) (dropped : List (ObjectName × ℕ)) → Change c turn p d e dropped → EachOf Of d.cache.pages → AreSuch dropped
    change-drops d e dropped (Change.drops task u k does missing full may asks) each = (idle-such d u k (page_at d.cache.pages u k) refl may each, tt)
    change-drops d e dropped (Change.drops_all u a given object may none) each = each-of-object u (resident_pages d.cache.pages u) (each-rising u (numbers (is_of u) d.cache.pages) (each-number u d.cache.pages each))
    change-drops d e dropped change each = tt

    pub moves-drop : (d e : DeskState) (dropped : List (ObjectName × ℕ)) → DeskMoves c turn p d e dropped → EachOf Of d.cache.pages → AreSuch dropped
    moves-drop d e dropped DeskMoves.none each = tt
    moves-drop d e dropped (DeskMoves.next {e = f} before change) each = moves-drop d f dropped before each
    moves-drop d e dropped (DeskMoves.dropping {e = f} before change) each = change-drops f e dropped change (moves-pages Q c turn p comes d f [] before each)
