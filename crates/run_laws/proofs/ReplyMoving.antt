-- The events of a run: the move of its node's desk at each, and the event that left a note.
use Rattle.std.proofs.Common.{◌≡◌, List, [], ◌∷◌, ◌++◌, Some, sym, ap, ◌∙◌}
use Rattle.node_runs.specs.Setups.{Setup, IsSetup}
use Rattle.node_runs.specs.NodesKeep.{IsTimely}
use Rattle.node_runs.specs.Runs.{World, Noted, Choice, then_next, next_if, receiving, after_step, world_if, world_after}
use Rattle.node_runs.proofs.SettingUp.{setup-procs}
use Rattle.node_runs.proofs.Worlds.{place_at}
use Rattle.run_laws.proofs.HearingRuns.{IsKeptNext, every-kept-run}

-- the event that left this note, after these
pub record IsEventOf (s : Setup) (older : List Noted) (j : Noted) : Type 0 where
  pub before : List Choice
  pub old : World
  pub choice : Choice
  pub new : World
  pub has : world_after s before ≡ Some old
  pub now : world_after s (choice ∷ before) ≡ Some new
  pub was : IsTimely old
  pub is : IsTimely new
  pub next : IsKeptNext s old choice new
  pub trace : old.trace ≡ older
  pub note : record { place = place_at choice next.is.step; note = next.is.step.note } ≡ j

module _ (s : Setup) (cs : List Choice) (old : World) (c : Choice) (new : World) (has : world_after s cs ≡ Some old) (next : IsKeptNext s old c new) where
  -- the event leads to the new world
  leads : world_after s (c ∷ cs) ≡ Some new
  leads =
      ap (λ o. then_next s o c) has
      ∙ ap (λ b. next_if b s old c) next.is.node
      ∙ ap (receiving s old c) next.is.comes
      ∙ ap (after_step old c) next.is.steps
      ∙ ap (λ b. world_if b old (place_at c next.is.step) c.what next.is.step) next.is.above
      ∙ ap (λ w. Some w) (sym next.is.world)

module _ (s : Setup) (setup : IsSetup s) (j : Noted) (older : List Noted) where
  -- the note of a trace was left by an event before
  abbrev IsLeft : World → Type 0
  IsLeft w = IsTimely w → (newer : List Noted) → w.trace ≡ newer ++ j ∷ older → IsEventOf s older j

  none-first : (newer : List Noted) → [] ≡ newer ++ j ∷ older → ⊥
  none-first [] same = cc
  none-first (n ∷ newer) same = cc

  left-later : (cs : List Choice) (old : World) (c : Choice) (new : World) → world_after s cs ≡ Some old → IsTimely old → IsKeptNext s old c new → IsLeft old → IsLeft new
  left-later cs old c new has was next before timely newer parts = by newer (ap (λ (x : World). x.trace) (sym next.is.world) ∙ parts)
    where
      by : (newer : List Noted) → record { place = place_at c next.is.step; note = next.is.step.note } ∷ old.trace ≡ newer ++ j ∷ older → IsEventOf s older j
      by [] same = record { before = cs; old = old; choice = c; new = new; has = has; now = leads s cs old c new has next; was = was; is = timely; next = next; trace = cc; note = cc }
      by (n ∷ newer) same = before was newer (cc)

  pub event-of : (cs : List Choice) (w : World) → world_after s cs ≡ Some w → IsTimely w → (newer : List Noted) → w.trace ≡ newer ++ j ∷ older → IsEventOf s older j
  event-of cs w e timely = every-kept-run s setup (setup-procs s setup) IsLeft (λ timely newer same. absurd (none-first newer same)) left-later cs w e timely timely
