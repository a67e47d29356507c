-- A link on which this was sent has its entries.
use Rattle.std.proofs.Common.{ℕ, List, [], ◌∷◌, refl, arith}
use Rattle.dom_history.specs.declared.plan.Fate.{Fate}
use Rattle.world_runs.specs.Sendings.{Sending}
use Rattle.world_runs.specs.Links.{empty_link, link_after}
use Rattle.world_runs.proofs.Linking.{IsLinkOf, frame-sent, mark-sent}

pub all-of : (fate : ℕ → Fate) (ss : List Sending) → IsLinkOf fate ss 0 (link_after fate ss empty_link)
all-of fate [] = record { frames = refl; queue = refl; enough = omega arith; later = λ j above. refl }
all-of fate (Sending.Frame ∷ ss) = frame-sent fate ss 0 (link_after fate ss empty_link) (all-of fate ss)
all-of fate (Sending.Mark phase ∷ ss) = mark-sent fate ss 0 (link_after fate ss empty_link) phase (all-of fate ss)
