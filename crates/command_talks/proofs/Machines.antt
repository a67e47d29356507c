-- The machines of names and of streams stand where their dialogues do.
use Rattle.std.proofs.Common.{◌≡◌, Option, Some, None, List, [], ◌∷◌, refl, ap, ◌∙◌, sym, subst, arith}
use Rattle.dom_history.specs.declared.op.Op.{Op}
use Rattle.dom_history.specs.declared.op.Reply.{Reply}
use Rattle.naming_tree.specs.declared.step.Step.TheVariants.{Do}
use Rattle.naming_tree.specs.Dialogues.{asked}
use Rattle.naming_tree.specs.Dialogues as names
use Rattle.naming_tree.specs.Sayings.{SaysAs}
use Rattle.naming_tree.specs.Standing.{left_after, said_to, told_last, unless_over}
use Rattle.naming_tree.specs.Turns.{does, Turn, Goes, Comes, state_of, step_of, stood_after, stood_says, machine_after}
use Rattle.mapped_streams.specs.declared.streaming.Streaming.{Streaming}
use Rattle.mapped_streams.specs.Dialogues as streams
use Rattle.mapped_streams.specs.States.{left, rest, IsStreaming}
use Rattle.mapped_streams.specs.Turns.{stood_after as stream_after}
use Rattle.mapped_streams.proofs.Turning.{IsOn, on_next}
use Rattle.command_talks.specs.FileTalks.{asked_at, op_left, stream_asks}

module _ {S : Type 0} (asks : S → Option Op) (go : S → Option Reply → Turn S) where
  -- a machine asks, where it stands, what it said
  said_op : (found : Option Op) (op : Op) → does found ≡ Some (Do op) → found ≡ Some op
  said_op None op e = cc
  said_op (Some x) op e = let same : x ≡ op = cc in ap Some same

  asked_then : (turn : Turn S) (op : Op) → step_of asks turn ≡ Some (Do op) → asked_at asks (state_of turn) ≡ Some op
  asked_then (Goes state) op e = said_op (asks state) op e
  asked_then (Comes result) op e = cc

  pub asked_stood : (m : Option S) (last : Option Reply) (op : Op) → stood_says asks go m last ≡ Some (Do op) → asked_at asks (stood_after go m last) ≡ Some op
  asked_stood None last op e = cc
  asked_stood (Some state) last op e = asked_then (go state last) op e

-- a machine that has heard what fitted stands where its dialogue does
pub record NameOn {S : Type 0} (asks : S → Option Op) (go : S → Option Reply → Turn S) (m : Option S) (d : names.Dialogue) : Type 0 where
  pub made : Option S
  pub whole : names.Dialogue
  pub heard : List Reply
  pub tells : SaysAs asks go made whole
  pub fits : names.FitsHeard whole heard
  pub there : m ≡ machine_after go made heard
  pub on : d ≡ names.after whole heard

module _ {S : Type 0} (asks : S → Option Op) (go : S → Option Reply → Turn S) where
  pub name_begun : (made : Option S) (whole : names.Dialogue) → SaysAs asks go made whole → (stood_says asks go made None ≡ Some (names.says whole)) × NameOn asks go (stood_after go made None) whole
  name_begun made whole tells = (tells [] tt, record { made = made; whole = whole; heard = []; tells = tells; fits = tt; there = refl; on = refl })

  pub name_told : (m : Option S) (d : names.Dialogue) (reply : Reply) → NameOn asks go m d → names.FitsSaid (names.says d) reply
      → (stood_says asks go m (Some reply) ≡ Some (names.says (names.told d reply))) × NameOn asks go (stood_after go m (Some reply)) (names.told d reply)
  name_told m d reply h fits =
      let more : names.FitsHeard h.whole (reply ∷ h.heard) = (h.fits, subst (λ (x : names.Dialogue). names.FitsSaid (names.says x) reply) h.on fits) in (
        ap (λ x. stood_says asks go x (Some reply)) h.there ∙ (h.tells (reply ∷ h.heard) more ∙ ap (λ (x : names.Dialogue). Some (names.says (names.told x reply))) (sym h.on)),
        record {
          made = h.made;
          whole = h.whole;
          heard = reply ∷ h.heard;
          tells = h.tells;
          fits = more;
          there = ap (λ x. stood_after go x (Some reply)) h.there;
          on = ap (λ (x : names.Dialogue). names.told x reply) h.on;
        },
      )

  asked_heard : (made : Option S) (whole : names.Dialogue) (heard : List Reply) (op : Op) → SaysAs asks go made whole → names.FitsHeard whole heard → names.says (names.after whole heard) ≡ Do op
      → asked_at asks (machine_after go made heard) ≡ Some op
  asked_heard made whole [] op tells fits said = asked_stood asks go made None op (tells [] fits ∙ ap Some said)
  asked_heard made whole (reply ∷ heard) op tells fits said = asked_stood asks go (machine_after go made heard) (Some reply) op (tells (reply ∷ heard) fits ∙ ap Some said)

  -- and asks what that asks
  pub name_asked : (m : Option S) (d : names.Dialogue) (op : Op) → NameOn asks go m d → names.says d ≡ Do op → asked_at asks m ≡ Some op
  name_asked m d op h said = ap (asked_at asks) h.there ∙ asked_heard h.made h.whole h.heard op h.tells h.fits (ap names.says (sym h.on) ∙ said)

-- what is left of a dialogue asks what was said last
module _ {R : Type 0} where
  left_asks : (d : names.DialogueOf R) (op : Op) → Some (Do op) ≡ Some (names.says d) → op_left (unless_over d) ≡ Some op
  left_asks (names.Ends result) op e = absurd (grind (arith, e))
  left_asks (names.Asks other further) op e = let same : other ≡ op = grind (arith, e) in ap Some same

  pub left_asking : (r : Option (names.DialogueOf R)) (last : Option Reply) (op : Op) → Some (Do op) ≡ said_to r last → op_left (left_after r last) ≡ Some op
  left_asking None last op e = absurd (grind (arith, e))
  left_asking (Some d) last op e = left_asks (told_last d last) op e

-- a stream stands where its dialogue does
pub stream_begun : (s : Streaming) → IsStreaming s → (streams.said_to (rest (Some s)) None ≡ Some (names.says (left s))) × IsOn (stream_after (Some s) None) (left s)
stream_begun s h = (refl, (h, refl))

stream_says : (m : Option Streaming) (d : streams.Dialogue) (reply : Reply) → IsOn m d → names.FitsSaid (names.says d) reply → streams.said_to (rest m) (Some reply) ≡ Some (names.says (names.told d reply))
stream_says None d reply h fits = absurd (subst (λ (x : streams.Dialogue). names.FitsSaid (names.says x) reply) h.1 fits)
stream_says (Some s) d reply h fits = ap (λ (x : streams.Dialogue). Some (names.says (names.told x reply))) h.1

pub stream_told_on : (m : Option Streaming) (d : streams.Dialogue) (reply : Reply) → IsOn m d → names.FitsSaid (names.says d) reply
    → (streams.said_to (rest m) (Some reply) ≡ Some (names.says (names.told d reply))) × IsOn (stream_after m (Some reply)) (names.told d reply)
stream_told_on m d reply h fits = (stream_says m d reply h fits, on_next m d reply h fits)

pub stream_asked : (m : Option Streaming) (op : Op) (further : Reply → streams.Dialogue) → IsOn m (names.Asks op further) → stream_asks m ≡ Some op
stream_asked None op further h = cc
stream_asked (Some s) op further h = ap asked h.1
