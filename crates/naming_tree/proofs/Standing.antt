-- A machine that keeps what is left of its dialogue says what the dialogue says after all that it heard.
use Rattle.std.proofs.Common.{◌≡◌, Option, Some, None, List, [], ◌∷◌, refl, ap, ◌∙◌, sym, subst, arith}
use Rattle.dom_history.specs.declared.op.Op.{Op}
use Rattle.dom_history.specs.declared.op.Reply.{Reply}
use Rattle.dom_history.specs.Fitting.{Fits}
use Rattle.naming_tree.specs.declared.step.Step.{Step}
use Rattle.naming_tree.specs.declared.step.Step.TheVariants.{Do}
use Rattle.naming_tree.specs.Dialogues.{DialogueOf, Ends, Asks, told, after, says, FitsSaid, FitsHeard}
use Rattle.naming_tree.specs.Standing.{MayHear, told_last, said_to, unless_over, left_after, machine_left, machine_says}

module _ {R : Type 0} where
  next_left : (d : DialogueOf R) (reply : Reply) → FitsSaid (says d) reply → left_after (unless_over d) (Some reply) ≡ unless_over (told d reply)
  next_left (Ends result) reply fits = absurd fits
  next_left (Asks op further) reply fits = refl

  next_said : (d : DialogueOf R) (reply : Reply) → FitsSaid (says d) reply → said_to (unless_over d) (Some reply) ≡ Some (says (told d reply))
  next_said (Ends result) reply fits = absurd fits
  next_said (Asks op further) reply fits = refl

  -- it stands where its dialogue does
  pub machine_stands : (d : DialogueOf R) (heard : List Reply) → FitsHeard d heard → machine_left d heard ≡ unless_over (after d heard)
  machine_stands d [] fits = refl
  machine_stands d (reply ∷ heard) fits =
      ap (λ m. left_after m (Some reply)) (machine_stands d heard fits.0) ∙ next_left (after d heard) reply fits.1

  pub machine_heard : (d : DialogueOf R) (heard : List Reply) → FitsHeard d heard → machine_says d heard ≡ Some (says (after d heard))
  machine_heard d [] fits = refl
  machine_heard d (reply ∷ heard) fits =
      ap (λ m. said_to m (Some reply)) (machine_stands d heard fits.0) ∙ next_said (after d heard) reply fits.1

  -- one that asks is not over
  pub asks_on : (d : DialogueOf R) (op : Op) → says d ≡ Do op → unless_over d ≡ Some d
  asks_on (Ends result) op e = absurd (grind (arith, e))
  asks_on (Asks other further) op e = refl

  abbrev IsSaid : Step R → Step R → Type 0
  IsSaid step said = Some step ≡ Some said

  said_op : (op other : Op) (reply : Reply) → IsSaid (Do other) (Do op) → Fits other reply → Fits op reply
  said_op op other reply e fits =
      let same : other ≡ op = grind (arith, e) in
      subst (λ o. Fits o reply) same fits

  ready_at : (d : DialogueOf R) (op : Op) (reply : Reply) → Some (Do op) ≡ Some (says d) → Fits op reply → MayHear (unless_over d) (Some reply)
  ready_at (Ends result) op reply e fits = absurd (grind (arith, e))
  ready_at (Asks other further) op reply e fits = said_op other op reply e fits

  -- one that said an operation may be told each reply that fits it
  pub ready : (m new : Option (DialogueOf R)) (last : Option Reply) (op : Op) (reply : Reply) → new ≡ left_after m last → Some (Do op) ≡ said_to m last → Fits op reply → MayHear new (Some reply)
  ready None new last op reply n e fits = absurd (grind (arith, e))
  ready (Some d) new last op reply n e fits = subst (λ m. MayHear m (Some reply)) (sym n) (ready_at (told_last d last) op reply e fits)

  pub ready_next : (m : Option (DialogueOf R)) (last : Option Reply) (op : Op) (reply : Reply) → Some (Do op) ≡ said_to m last → Fits op reply → MayHear (left_after m last) (Some reply)
  ready_next m last op reply e fits = ready m (left_after m last) last op reply refl e fits
