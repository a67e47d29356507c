-- A machine whose states are what is left of a dialogue says what the dialogue says after all that it heard.
use Rattle.std.proofs.Common.{◌≡◌, Option, Some, None, List, [], ◌∷◌, refl, ap, ◌∙◌, sym, subst, arith}
use Rattle.dom_history.specs.declared.op.Op.{Op}
use Rattle.dom_history.specs.declared.op.Reply.{Reply}
use Rattle.naming_tree.specs.declared.step.NameResult.{NameResult}
use Rattle.naming_tree.specs.declared.step.Step.TheVariants.{Do}
use Rattle.naming_tree.specs.Dialogues.{Dialogue, Ends, told, says, FitsSaid, FitsHeard}
use Rattle.naming_tree.specs.Dialogues as dialogue
use Rattle.naming_tree.specs.Turns.{does, Turn, Goes, Comes, state_of, step_of, stood_after, stood_says, machine_after, machine_says, FitsAsked}

-- a reply that fits what a dialogue says may be told to a machine that asks that
pub fits_asked : (d : Dialogue) (asks : Option Op) (reply : Reply) → does asks ≡ Some (says d) → FitsSaid (says d) reply → FitsAsked asks (Some reply)
fits_asked d None reply e fits = absurd (grind (arith, e))
fits_asked d (Some op) reply e fits =
    let same : says d ≡ Do op = grind (arith, e) in
    subst (λ step. FitsSaid step reply) same fits

module _ {S : Type 0} (asks : S → Option Op) (after : S → Option Reply → Turn S) (left : S → Dialogue) (Live : S → Type 0) where
  -- the turn leads to what is left of a dialogue
  abbrev pub IsAt : Turn S → Dialogue → Type 0
  IsAt (Goes s) d = Live s × (left s ≡ d)
  IsAt (Comes result) d = Ends result ≡ d

  -- each state says what its dialogue says, and goes on as that does
  pub record Tells : Type 0 where
    pub asked : (s : S) → Live s → does (asks s) ≡ Some (says (left s))
    pub on : (s : S) (reply : Reply) → Live s → FitsSaid (says (left s)) reply → IsAt (after s (Some reply)) (told (left s) reply)

  -- the turn to one reply more
  abbrev next_turn : Turn S → Reply → Turn S
  next_turn (Goes s) reply = after s (Some reply)
  next_turn (Comes result) reply = Comes result

  abbrev turn_at : S → List Reply → Turn S
  turn_at made [] = after made None
  turn_at made (reply ∷ heard) = next_turn (turn_at made heard) reply

  no_more : (result : NameResult) (d : Dialogue) (reply : Reply) → Ends result ≡ d → FitsSaid (says d) reply → ⊥
  no_more result d reply e fits = subst (λ x. FitsSaid (says x) reply) (sym e) fits

  next_at : Tells → (turn : Turn S) (d : Dialogue) (reply : Reply) → IsAt turn d → FitsSaid (says d) reply → IsAt (next_turn turn reply) (told d reply)
  next_at h (Goes s) d reply at fits =
      subst (λ x. FitsSaid (says x) reply → IsAt (after s (Some reply)) (told x reply)) at.1 (λ f. h.on s reply at.0 f) fits
  next_at h (Comes result) d reply at fits = absurd (no_more result d reply at fits)

  stays_at : Tells → (made : S) (d : Dialogue) (heard : List Reply) → IsAt (after made None) d → FitsHeard d heard → IsAt (turn_at made heard) (dialogue.after d heard)
  stays_at h made d [] begins fits = begins
  stays_at h made d (reply ∷ heard) begins fits = next_at h (turn_at made heard) (dialogue.after d heard) reply (stays_at h made d heard begins fits.0) fits.1

  stood : (turn : Turn S) (reply : Reply) → stood_after after (state_of turn) (Some reply) ≡ state_of (next_turn turn reply)
  stood (Goes s) reply = refl
  stood (Comes result) reply = refl

  machine_at : (made : S) (heard : List Reply) → machine_after after (Some made) heard ≡ state_of (turn_at made heard)
  machine_at made [] = refl
  machine_at made (reply ∷ heard) = ap (λ (s : Option S). stood_after after s (Some reply)) (machine_at made heard) ∙ stood (turn_at made heard) reply

  step_at : Tells → (turn : Turn S) (d : Dialogue) → IsAt turn d → step_of asks turn ≡ Some (says d)
  step_at h (Goes s) d at = h.asked s at.0 ∙ ap (λ (x : Dialogue). Some (says x)) at.1
  step_at h (Comes result) d at = ap (λ (x : Dialogue). Some (says x)) at

  says_next : (turn : Turn S) (d : Dialogue) (reply : Reply) → IsAt turn d → FitsSaid (says d) reply → stood_says asks after (state_of turn) (Some reply) ≡ step_of asks (next_turn turn reply)
  says_next (Goes s) d reply at fits = refl
  says_next (Comes result) d reply at fits = absurd (no_more result d reply at fits)

  -- so it says what the dialogue says
  pub says_all : Tells → (made : S) (d : Dialogue) (heard : List Reply) → IsAt (after made None) d → FitsHeard d heard → machine_says asks after (Some made) heard ≡ Some (says (dialogue.after d heard))
  says_all h made d [] begins fits = step_at h (after made None) d begins
  says_all h made d (reply ∷ heard) begins fits =
      let at = stays_at h made d heard begins fits.0 in
      ap (λ (s : Option S). stood_says asks after s (Some reply)) (machine_at made heard)
      ∙ says_next (turn_at made heard) (dialogue.after d heard) reply at fits.1
      ∙ step_at h (next_turn (turn_at made heard) reply) (told (dialogue.after d heard) reply) (next_at h (turn_at made heard) (dialogue.after d heard) reply at fits.1)
