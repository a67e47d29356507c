-- A machine that said an operation may be told each reply that fits it.
use Rattle.std.proofs.Common.{◌≡◌, Option, Some, None, refl, subst, sym, arith}
use Rattle.dom_history.specs.declared.op.Op.{Op}
use Rattle.dom_history.specs.declared.op.Reply.{Reply}
use Rattle.dom_history.specs.Fitting.{Fits}
use Rattle.naming_tree.specs.declared.step.Step.TheVariants.{Do}
use Rattle.naming_tree.specs.Turns.{does, Turn, Goes, Comes, step_of, state_of, stood_after, stood_says, FitsAsked, IsReady}

module _ {S : Type 0} (asks : S → Option Op) where
  asked_so : (asked : Option Op) (op : Op) (reply : Reply) → Some (Do op) ≡ does asked → Fits op reply → FitsAsked asked (Some reply)
  asked_so None op reply e fits = absurd (grind (arith, e))
  asked_so (Some other) op reply e fits =
      let same : op ≡ other = grind (arith, e) in
      subst (λ o. Fits o reply) same fits

  by_turn : (turn : Turn S) (op : Op) (reply : Reply) → Some (Do op) ≡ step_of asks turn → Fits op reply → IsReady asks (state_of turn) (Some reply)
  by_turn (Goes s) op reply e fits = record { still = refl; fits = asked_so (asks s) op reply e fits }
  by_turn (Comes result) op reply e fits = absurd (grind (arith, e))

  by_stood : (after : S → Option Reply → Turn S) (m : Option S) (last : Option Reply) (op : Op) (reply : Reply) → Some (Do op) ≡ stood_says asks after m last → Fits op reply → IsReady asks (stood_after after m last) (Some reply)
  by_stood after None last op reply e fits = absurd (grind (arith, e))
  by_stood after (Some s) last op reply e fits = by_turn (after s last) op reply e fits

  pub ready : (after : S → Option Reply → Turn S) (m new : Option S) (last : Option Reply) (op : Op) (reply : Reply) → new ≡ stood_after after m last → Some (Do op) ≡ stood_says asks after m last → Fits op reply → IsReady asks new (Some reply)
  ready after m new last op reply n e fits = subst (λ s. IsReady asks s (Some reply)) (sym n) (by_stood after m last op reply e fits)
