-- Whether a run is recent, as a test, which computes on worked journals.
use Rattle.std.proofs.Common.{◌≡◌, Bool, true, false, List, [], ◌∷◌, Option, Some, None, refl, ap, ◌∙◌}
use Rattle.std.specs.Prelude.{◌&&◌, IfSome}
use Rattle.std.specs.List.{AllByRecursion, list_all}
use Rattle.std.proofs.lemmas.List.Sums.{AllPass-from_list_all, list_all-from_AllPass}
use Rattle.uid_names.proofs.Passed.{left-true, right-true}
use Rattle.dom_history.specs.declared.event.Sent.{Sent}
use Rattle.dom_history.specs.Events.{Happening}
use Rattle.page_cache.specs.Caches.{Resident}
use Rattle.page_cache.specs.Victims.{name_of}
use Rattle.fault_handler.specs.Desks.{DeskState}
use Rattle.node_runs.specs.Setups.{Setup}
use Rattle.node_runs.specs.Runs.{World, world_of}
use Rattle.recent_runs.specs.Uses.{PageName, uses, is_used_before}
use Rattle.recent_runs.specs.Recent.{candidates, IsUsedLongestAgo, IsRecentEvent, IsRecent}

module _ (used : List PageName) (d : DeskState) where
  abbrev is_later : PageName → Resident → Bool
  is_later x r = is_used_before used x (name_of r)

  abbrev pub are_oldest : List PageName → Bool
  are_oldest dropped = list_all (λ x. list_all (is_later x) (candidates d)) dropped

  oldest-are : (dropped : List PageName) → are_oldest dropped ≡ true → AllByRecursion (IsUsedLongestAgo used d) dropped
  oldest-are [] passes = tt
  oldest-are (x ∷ dropped) passes = (AllPass-from_list_all (is_later x) (candidates d) (left-true _ _ passes), oldest-are dropped (right-true (list_all (is_later x) (candidates d)) _ passes))

  are-oldest : (dropped : List PageName) → AllByRecursion (IsUsedLongestAgo used d) dropped → are_oldest dropped ≡ true
  are-oldest [] each = refl
  are-oldest (x ∷ dropped) each = ap (λ b. b && are_oldest dropped) (list_all-from_AllPass (is_later x) (candidates d) each.0) ∙ are-oldest dropped each.1

  abbrev pub room_passes : List PageName → Option Sent → Bool
  room_passes dropped None = true
  room_passes dropped (Some sent) = are_oldest dropped

  pub passed-room : (dropped : List PageName) (sent : Option Sent) → room_passes dropped sent ≡ true → IfSome sent (λ sent. AllByRecursion (IsUsedLongestAgo used d) dropped)
  passed-room dropped None passes = tt
  passed-room dropped (Some sent) passes = oldest-are dropped passes

  pub room-passes : (dropped : List PageName) (sent : Option Sent) → IfSome sent (λ sent. AllByRecursion (IsUsedLongestAgo used d) dropped) → room_passes dropped sent ≡ true
  room-passes dropped None each = refl
  room-passes dropped (Some sent) each = are-oldest dropped each

module _ (s : Setup) where
  abbrev pub event_passes : List Happening → Happening → Option World → Bool
  event_passes older e None = false
  event_passes older e (Some w) = room_passes (uses s e.place.node older) (w.nodes e.place.node).desk e.effects.dropped e.effects.sent

  abbrev pub passes : List Happening → Bool
  passes [] = true
  passes (e ∷ older) = event_passes older e (world_of s (e ∷ older)) && passes older

  passed-event : (older : List Happening) (e : Happening) (o : Option World) → world_of s (e ∷ older) ≡ o → event_passes older e o ≡ true → IsRecentEvent s older e
  passed-event older e None leads passes = absurd (cc)
  passed-event older e (Some w) leads passes =
      record { world = w; leads = leads; oldest = passed-room (uses s e.place.node older) (w.nodes e.place.node).desk e.effects.dropped e.effects.sent passes }

  event-passes : (older : List Happening) (e : Happening) → IsRecentEvent s older e → event_passes older e (world_of s (e ∷ older)) ≡ true
  event-passes older e is = ap (event_passes older e) is.leads ∙ room-passes (uses s e.place.node older) (is.world.nodes e.place.node).desk e.effects.dropped e.effects.sent is.oldest

  pub passed-recent : (es : List Happening) → passes es ≡ true → IsRecent s es
  passed-recent [] pass = tt
  passed-recent (e ∷ older) pass = (passed-event older e (world_of s (e ∷ older)) refl (left-true _ _ pass), passed-recent older (right-true (event_passes older e (world_of s (e ∷ older))) _ pass))

  pub recent-passes : (es : List Happening) → IsRecent s es → passes es ≡ true
  recent-passes [] is = refl
  recent-passes (e ∷ older) is = ap (λ b. b && passes older) (event-passes older e is.0) ∙ recent-passes older is.1
