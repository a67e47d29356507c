-- What an event sends: a mark, or a frame, or nothing; and what of it comes to the end of a link.
use Rattle.std.proofs.Common.{◌≡◌, ◌≢◌, ℕ, ◌+◌, Bool, true, false, cond, Option, Some, None, IfSome, List, [], ◌∷◌, ◌++◌, length, map, inl, inr, refl, sym, ap, subst, ◌∙◌, arith}
use Rattle.std.specs.Prelude.{◌==◌, not}
use Rattle.std.proofs.lemmas.Bool.{cases_eq, eq-eqb, ne_eqb}
use Rattle.dom_history.specs.declared.event.What.{What}
use Rattle.dom_history.specs.declared.event.What.TheVariants.{Begin, Go, Take, Notice, Ready, Mark}
use Rattle.dom_history.specs.declared.event.Sent.{Sent}
use Rattle.dom_history.specs.Events.{Happening}
use Rattle.ring_messages.specs.Frames.{Message}
use Rattle.node_runs.specs.Incomings.{Incoming}
use Rattle.node_runs.specs.Outcomes.{Stepped}
use Rattle.node_runs.specs.Runs.{World}
use Rattle.world_runs.specs.Sendings.{Sending, sending_if, frame_to, mark_to, sent_if, sent_by}
use Rattle.world_runs.proofs.Alike.{added, frames-added}
use Rattle.local_runs.specs.LocalRuns.{own_event, own_world}
use Rattle.node_core.specs.Receivings.{mark_in, indexed, emitted_by}
use Rattle.node_core.proofs.Sends.{Sends, nothing, mark, frame}
use Rattle.wire_links.specs.Carrying.{Posting, sending_of, frames_of}
use Rattle.node_posts.specs.Sending.{posting_if, frame_posted, posted_by, posted}

unmarked-to : (from to : ℕ) (what : What) → mark_in what ≡ None → mark_to from to what ≡ []
unmarked-to from to (Begin p) h = refl
unmarked-to from to (Go p) h = refl
unmarked-to from to (Take a k) h = refl
unmarked-to from to (Notice p a b k) h = refl
unmarked-to from to (Ready phase) h = absurd (cc)
unmarked-to from to (Mark a k) h = refl

-- the frame of an event that sends one is emitted with its number
pub emits-frame : (what : What) (st : Stepped) (m : Message) (x : Sent) → st.frame ≡ Some m → st.effects.sent ≡ Some x → (emitted_by what st).frame ≡ Some (x.index, m)
emits-frame what st m x is sent = ap (λ (f : Option Message). indexed f st.effects.sent) is ∙ ap (indexed (Some m)) sent

pub emits-none : (what : What) (st : Stepped) → st.frame ≡ None → (emitted_by what st).frame ≡ None
emits-none what st none = ap (λ (f : Option Message). indexed f st.effects.sent) none

module _ (n tick : ℕ) (what : What) (incoming : Incoming) (st : Stepped) (at : st.node.tick ≡ tick) where
  abbrev e : Happening
  e = (own_event n what incoming st).event

  sent-here : (to : ℕ) (xs ys : List Sending) → mark_to n to what ≡ xs → frame_to to st.effects.sent ≡ ys → sent_by n to e ≡ xs ++ ys
  sent-here to xs ys marks frames =
      ap (λ (b : Bool). sent_if b n to e) (eq-eqb n n refl)
      ∙ ap (λ (zs : List Sending). zs ++ frame_to to st.effects.sent) marks
      ∙ ap (λ (zs : List Sending). xs ++ zs) frames

  -- what comes to the end of a link, by what the event sends
  pub posted-none : (to : ℕ) → mark_in what ≡ None → st.frame ≡ None → posted tick to (emitted_by what st) ≡ []
  posted-none to unmarked none =
      ap (λ (k : Option ℕ). posted_by tick to k (emitted_by what st).frame) unmarked ∙ ap (frame_posted to) (emits-none what st none)

  pub posted-mark : (to phase : ℕ) → what ≡ Ready phase → posted tick to (emitted_by what st) ≡ Posting.Mark phase tick ∷ []
  posted-mark to phase is = ap (λ (k : Option ℕ). posted_by tick to k (emitted_by what st).frame) (ap mark_in is)

  pub posted-frame : (to : ℕ) (m : Message) (x : Sent) → mark_in what ≡ None → st.frame ≡ Some m → st.effects.sent ≡ Some x
      → posted tick to (emitted_by what st) ≡ posting_if (to == m.to) m
  posted-frame to m x unmarked is sent =
      ap (λ (k : Option ℕ). posted_by tick to k (emitted_by what st).frame) unmarked ∙ ap (frame_posted to) (emits-frame what st m x is sent)

  -- it is what the event sent
  sent-if : (b c : Bool) (m : Message) → b ≡ c → map sending_of (posting_if b m) ≡ sending_if c Sending.Frame
  sent-if true true m same = refl
  sent-if true false m same = absurd (cc)
  sent-if false true m same = absurd (cc)
  sent-if false false m same = refl

  flip : (a b : ℕ) → (a == b) ≡ (b == a)
  flip a b = elim (cases_eq a b) [
    | inl same ↦ eq-eqb a b same ∙ sym (eq-eqb b a (sym same))
    | inr differs ↦ ne_eqb a b differs ∙ sym (ne_eqb b a (λ h. differs (sym h)))
  ]

  pub posted-sent : (to : ℕ) → to ≢ n → Sends n what st → map sending_of (posted tick to (emitted_by what st)) ≡ sent_by n to e
  posted-sent to differs (nothing unmarked none nowhere) =
      ap (map sending_of) (posted-none to unmarked none)
      ∙ sym (sent-here to [] [] (unmarked-to n to what unmarked) (ap (frame_to to) nowhere))
  posted-sent to differs (mark phase is none nowhere) =
      ap (map sending_of) (posted-mark to phase is)
      ∙ sym (sent-here to (Sending.Mark phase ∷ []) []
      (ap (mark_to n to) is ∙ ap (λ (b : Bool). sending_if (not b) (Sending.Mark phase)) (ne_eqb n to (λ h. differs (sym h)))) (ap (frame_to to) nowhere))
  posted-sent to differs (frame m x unmarked is sent from goes) =
      ap (map sending_of) (posted-frame to m x unmarked is sent)
      ∙ sent-if (to == m.to) (x.to == to) m (flip to m.to ∙ ap (λ (k : ℕ). k == to) (sym goes))
      ∙ sym (sent-here to [] (sending_if (x.to == to) Sending.Frame) (unmarked-to n to what unmarked) (ap (frame_to to) sent))

  -- and its frames are those that the node sent there
  frames-if : (b : Bool) (m : Message) (xs : List Posting) → frames_of (posting_if b m ++ xs) ≡ cond b (m ∷ frames_of xs) (frames_of xs)
  frames-if true m xs = refl
  frames-if false m xs = refl

  added-here : (to : ℕ) (m : Message) (xs : List Message) → added n (Some m) n to xs ≡ cond (to == m.to) (m ∷ xs) xs
  added-here to m xs = ap (λ (b : Bool). cond b (cond (to == m.to) (m ∷ xs) xs) xs) (eq-eqb n n refl)

  pub posted-frames : (w : World) (to : ℕ) (xs : List Posting) → Sends n what st → frames_of xs ≡ w.frames n to
      → frames_of (posted tick to (emitted_by what st) ++ xs) ≡ (own_world n w what st).frames n to
  posted-frames w to xs (nothing unmarked none nowhere) same =
      ap (λ (ys : List Posting). frames_of (ys ++ xs)) (posted-none to unmarked none) ∙ same
      ∙ sym (frames-added w n st.frame n to ∙ ap (λ (f : Option Message). added n f n to (w.frames n to)) none)
  posted-frames w to xs (mark phase is none nowhere) same =
      ap (λ (ys : List Posting). frames_of (ys ++ xs)) (posted-mark to phase is) ∙ same
      ∙ sym (frames-added w n st.frame n to ∙ ap (λ (f : Option Message). added n f n to (w.frames n to)) none)
  posted-frames w to xs (frame m x unmarked is sent from goes) same =
      ap (λ (ys : List Posting). frames_of (ys ++ xs)) (posted-frame to m x unmarked is sent)
      ∙ (frames-if (to == m.to) m xs
      ∙ (ap (λ (ms : List Message). cond (to == m.to) (m ∷ ms) ms) same
      ∙ sym (frames-added w n st.frame n to ∙ (ap (λ (f : Option Message). added n f n to (w.frames n to)) is ∙ added-here to m (w.frames n to)))))

  -- what it sends to its own node
  pub sent-own-none : mark_in what ≡ None → st.effects.sent ≡ None → sent_by n n e ≡ []
  sent-own-none unmarked nowhere = sent-here n [] [] (unmarked-to n n what unmarked) (ap (frame_to n) nowhere)

  pub sent-own-mark : (phase : ℕ) → what ≡ Ready phase → st.effects.sent ≡ None → sent_by n n e ≡ []
  sent-own-mark phase is nowhere =
      sent-here n [] [] (ap (mark_to n n) is ∙ ap (λ (b : Bool). sending_if (not b) (Sending.Mark phase)) (eq-eqb n n refl)) (ap (frame_to n) nowhere)

  pub sent-own-frame : (m : Message) (x : Sent) → mark_in what ≡ None → st.effects.sent ≡ Some x → x.to ≡ m.to → sent_by n n e ≡ sending_if (m.to == n) Sending.Frame
  sent-own-frame m x unmarked sent goes =
      sent-here n [] (sending_if (x.to == n) Sending.Frame) (unmarked-to n n what unmarked) (ap (frame_to n) sent)
      ∙ ap (λ (k : ℕ). sending_if (k == n) Sending.Frame) goes

  -- the frames that it sent on a link from it
  pub frames-none : (w : World) (to : ℕ) → st.frame ≡ None → (own_world n w what st).frames n to ≡ w.frames n to
  frames-none w to none = frames-added w n st.frame n to ∙ ap (λ (f : Option Message). added n f n to (w.frames n to)) none

  pub frames-some : (w : World) (to : ℕ) (m : Message) → st.frame ≡ Some m → (own_world n w what st).frames n to ≡ cond (to == m.to) (m ∷ w.frames n to) (w.frames n to)
  frames-some w to m is = frames-added w n st.frame n to ∙ (ap (λ (f : Option Message). added n f n to (w.frames n to)) is ∙ added-here to m (w.frames n to))
