-- What an event sends on a link: a mark, or a frame, or nothing.
use Rattle.std.proofs.Common.{◌≡◌, ◌≢◌, ℕ, Bool, true, false, Some, None, List, [], ◌∷◌, ◌++◌, refl, ap, ◌∙◌}
use Rattle.std.specs.Prelude.{◌==◌, not}
use Rattle.std.proofs.lemmas.Bool.{eq-eqb, ne_eqb}
use Rattle.dom_history.specs.declared.event.What.{What}
use Rattle.dom_history.specs.declared.event.What.TheVariants.{Begin, Go, Take, Notice, Ready, Mark}
use Rattle.dom_history.specs.declared.event.Sent.{Sent}
use Rattle.dom_history.specs.Events.{Happening}
use Rattle.node_runs.specs.Outcomes.{Stepped}
use Rattle.world_runs.specs.Sendings.{Sending, sending_if, frame_to, mark_to, sent_if, sent_by}
use Rattle.node_core.specs.Receivings.{mark_in}

-- what an event of a node sends on a link
module _ (n tick : ℕ) (what : What) (s : Stepped) where
  abbrev pub event : Happening
  event = record { place = record { tick = tick; node = n }; what = what; effects = s.effects }

  unmarked-to : (from to : ℕ) (what : What) → mark_in what ≡ None → mark_to from to what ≡ []
  unmarked-to from to (Begin p) h = refl
  unmarked-to from to (Go p) h = refl
  unmarked-to from to (Take a k) h = refl
  unmarked-to from to (Notice p a b k) h = refl
  unmarked-to from to (Ready phase) h = absurd (cc)
  unmarked-to from to (Mark a k) h = refl

  pub sent-away : (from to : ℕ) → n ≢ from → sent_by from to event ≡ []
  sent-away from to differs = ap (λ (b : Bool). sent_if b from to event) (ne_eqb n from differs)

  sent-here : (to : ℕ) (xs ys : List Sending) → mark_to n to what ≡ xs → frame_to to s.effects.sent ≡ ys → sent_by n to event ≡ xs ++ ys
  sent-here to xs ys marks frames =
      ap (λ (b : Bool). sent_if b n to event) (eq-eqb n n refl)
      ∙ ap (λ (zs : List Sending). zs ++ frame_to to s.effects.sent) marks
      ∙ ap (λ (zs : List Sending). xs ++ zs) frames

  nowhere-to : (b : Bool) (from to : ℕ) → mark_in what ≡ None → s.effects.sent ≡ None → sent_if b from to event ≡ []
  nowhere-to true from to unmarked none =
      ap (λ (zs : List Sending). zs ++ frame_to to s.effects.sent) (unmarked-to from to what unmarked) ∙ ap (frame_to to) none
  nowhere-to false from to unmarked none = refl

  pub sent-nowhere : (from to : ℕ) → mark_in what ≡ None → s.effects.sent ≡ None → sent_by from to event ≡ []
  sent-nowhere from to = nowhere-to (n == from) from to

  pub sent-frame : (to : ℕ) (x : Sent) → mark_in what ≡ None → s.effects.sent ≡ Some x → x.to ≡ to → sent_by n to event ≡ Sending.Frame ∷ []
  sent-frame to x unmarked is there =
      sent-here to [] (Sending.Frame ∷ []) (unmarked-to n to what unmarked)
      (ap (frame_to to) is ∙ ap (λ (b : Bool). sending_if b Sending.Frame) (eq-eqb x.to to there))

  pub sent-elsewhere : (to : ℕ) (x : Sent) → mark_in what ≡ None → s.effects.sent ≡ Some x → x.to ≢ to → sent_by n to event ≡ []
  sent-elsewhere to x unmarked is away =
      sent-here to [] [] (unmarked-to n to what unmarked)
      (ap (frame_to to) is ∙ ap (λ (b : Bool). sending_if b Sending.Frame) (ne_eqb x.to to away))

  pub sent-mark : (to phase : ℕ) → what ≡ Ready phase → s.effects.sent ≡ None → n ≢ to → sent_by n to event ≡ Sending.Mark phase ∷ []
  sent-mark to phase is none differs =
      sent-here to (Sending.Mark phase ∷ []) []
      (ap (mark_to n to) is ∙ ap (λ (b : Bool). sending_if (not b) (Sending.Mark phase)) (ne_eqb n to differs)) (ap (frame_to to) none)

  pub sent-own_mark : (to phase : ℕ) → what ≡ Ready phase → s.effects.sent ≡ None → n ≡ to → sent_by n to event ≡ []
  sent-own_mark to phase is none same =
      sent-here to [] []
      (ap (mark_to n to) is ∙ ap (λ (b : Bool). sending_if (not b) (Sending.Mark phase)) (eq-eqb n to same)) (ap (frame_to to) none)
