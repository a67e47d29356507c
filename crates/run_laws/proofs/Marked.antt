-- Frames that are lost or late, by the numbers that they say and by their places on their links.
use Rattle.std.proofs.Common.{◌≡◌, ℕ, ◌+◌, Bool, true, false, List, [], ◌∷◌, length, Option, Some, None, IfSome, refl, sym, ap, ◌∙◌, length-append, arith}
use Rattle.std.specs.Prelude.{filter}
use Rattle.std.proofs.lemmas.List.Sums.{length-filter}
use Rattle.dom_history.specs.declared.event.Sent.{Sent}
use Rattle.dom_history.specs.declared.plan.FateRow.{FateRow}
use Rattle.dom_history.specs.Events.{Happening}
use Rattle.dom_history.specs.Plans.{fate_of}
use Rattle.node_runs.specs.Deliveries.{is_gone}
use Rattle.world_runs.specs.Sendings.{frames_on}
use Rattle.world_runs.specs.Gone.{FrameName, frame_if, gone_by, gone_in}
use Rattle.world_runs.proofs.Faults.{one-more}
use Rattle.world_runs.proofs.Telling.{one_if}
use Rattle.run_laws.specs.LinkFaults.{marked}
use Rattle.run_laws.specs.Accounts.{is_marked_frame, is_marked, marked as marked_by_number}
use Rattle.run_laws.specs.NextNumbers.{SayNextNumbers}

one-gone : (b : Bool) (f : FrameName) → length (frame_if b f) ≡ one_if b
one-gone true f = refl
one-gone false f = refl

module _ (plan : List FateRow) where
  gone-here : (from : ℕ) (x : Option Sent) (older : List Happening) → IfSome x (λ sent. sent.index ≡ frames_on from sent.to older + 1)
      → length (gone_by plan from x older) ≡ one_if (is_marked_frame plan from x)
  gone-here from None older says = refl
  gone-here from (Some x) older says =
      one-gone (is_gone (fate_of plan from x.to (frames_on from x.to older + 1))) (from, x.to, frames_on from x.to older + 1)
      ∙ ap (λ (k : ℕ). one_if (is_gone (fate_of plan from x.to k))) (sym says)

  marked-filtered : (es : List Happening) → SayNextNumbers es → length (filter (is_marked plan) es) ≡ length (gone_in plan es)
  marked-filtered [] says = refl
  marked-filtered (e ∷ older) says =
      let here = gone-here e.place.node e.effects.sent older says.0 in
      let rest = marked-filtered older says.1 in
      let more = one-more (is_marked plan e) e (filter (is_marked plan) older) in
      let both = length-append (gone_in plan older) (gone_by plan e.place.node e.effects.sent older) in
      omega (arith, here, rest, more, both)

  pub marked-same : (es : List Happening) → SayNextNumbers es → marked_by_number plan es ≡ marked plan es
  marked-same es says = sym (length-filter (is_marked plan) es) ∙ marked-filtered es says
