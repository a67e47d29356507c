-- What is kept of each link, behind an event.
use Rattle.std.proofs.Common.{◌≡◌, ℕ, ◌≤◌, Bool, true, false, Option, Some, None, List, ◌∷◌, length, inl, inr, refl, sym, ap, subst, ◌∙◌, arith}
use Rattle.std.specs.Prelude.{◌==◌, ◌&&◌, ◌||◌, not}
use Rattle.std.specs.Option.{option_map}
use Rattle.std.proofs.lemmas.Bool.{cases_eq, not-false}
use Rattle.std.proofs.lemmas.Bool.Decides.{nat_tests}
use Rattle.uid_names.proofs.Passed.{equal, left-true, right-true}
use Rattle.dom_history.specs.declared.event.What.{What}
use Rattle.dom_history.specs.declared.event.Sent.{Sent}
use Rattle.ring_messages.specs.Bodies.{is_request}
use Rattle.ring_messages.specs.Frames.{Message}
use Rattle.node_runs.specs.Incomings.{Incoming}
use Rattle.node_runs.specs.Runs.{World, numbered, frames_after}
use Rattle.node_runs.proofs.Calls.{put-same, put-other}
use Rattle.world_runs.specs.Gone.{was_told}
use Rattle.world_runs.proofs.Sent.{IsSent as IsSentBy}
use Rattle.node_core.specs.Nodes.{Noted}
use Rattle.node_core.specs.Receivings.{indexed}
use Rattle.run_journals.specs.OverFrames.{is_over}
use Rattle.journal_check.specs.Kept.{Kept, IsKeptBy, IsKeptOf, is_served, is_heard, head_of}
use Rattle.journal_check.specs.Changes.{IsTold, IsSent, IsServed, IsHeard, tells, heard_if, served_if, sent_if}
use Rattle.journal_check.specs.declared.frames.Live.{Live}
use Rattle.journal_check.proofs.KeptMoves.{kept-over, kept-less, kept-told, kept-sent}

-- the same frames were told, so said
pub kept-named : (told other : ℕ → Bool) (frames : List Message) (IsOver : Message → Type 0) (k : Kept) → ((i : ℕ) → told i ≡ other i) → IsKeptBy told frames IsOver k → IsKeptBy other frames IsOver k
kept-named told other frames IsOver k same is = record {
  count = is.count;
  heads = λ index. is.heads index ∙ ap (λ (b : Bool). option_map (λ m. head_of m b) (numbered index frames)) (same index);
  told_are = λ index sure. is.told_are index (same index ∙ sure);
  live = is.live;
  over = is.over;
}

module _ (w v : World) (n from to : ℕ) (what : What) (k a b d new : Kept) (kept : IsKeptOf w from to k) where
  -- 1. no frame whose call was over is open again
  abbrev pub IsOverNow : Message → Type 0
  IsOverNow m = is_over (v.nodes to) m ≡ true

  pub step-over-now : ((index : ℕ) (m : Message) → numbered index (w.frames from to) ≡ Some m → is_over (w.nodes to) m ≡ true → IsOverNow m)
      → IsKeptBy (λ index. was_told w.done (from, to, index)) (w.frames from to) IsOverNow k
  step-over-now stays = kept-over (λ index. was_told w.done (from, to, index)) (w.frames from to) (λ m. is_over (w.nodes to) m ≡ true) k kept IsOverNow stays

  -- 2. a frame is told
  pub step-told : IsKeptBy (λ index. was_told w.done (from, to, index)) (w.frames from to) IsOverNow k → IsTold what from to k a → ((index : ℕ) → tells what (from, to, index) ≡ true → index ≤ length (w.frames from to))
      → ((index : ℕ) → was_told v.done (from, to, index) ≡ (tells what (from, to, index) || was_told w.done (from, to, index))) → IsKeptBy (λ index. was_told v.done (from, to, index)) (w.frames from to) IsOverNow a
  step-told is told there done =
      kept-named (λ index. tells what (from, to, index) || was_told w.done (from, to, index)) (λ index. was_told v.done (from, to, index)) (w.frames from to) IsOverNow a (λ index. sym (done index))
      (kept-told (λ index. was_told w.done (from, to, index)) (w.frames from to) IsOverNow k is (λ index. tells what (from, to, index)) a told.count told.heads told.live there)

  -- 3. a frame is sent
  frames-here : (m : Message) → from ≡ n → to ≡ m.to → frames_after w n (Some m) from to ≡ m ∷ w.frames from to
  frames-here m sender receiver =
      ap (λ (f : ℕ → List Message). f to) (put-same w.frames n from _ sender) ∙ (put-same (w.frames n) m.to to _ receiver
      ∙ ap (λ (ms : List Message). m ∷ ms) (ap (w.frames n) (sym receiver) ∙ ap (λ a. w.frames a to) (sym sender)))

  frames-else : (m : Message) → m.from ≡ n → ((m.from == from) && (m.to == to)) ≡ false → frames_after w n (Some m) from to ≡ w.frames from to
  frames-else m sender other = elim (cases_eq from n) [
    | inr differs ↦ ap (λ (f : ℕ → List Message). f to) (put-other w.frames n from _ differs)
    | inl same ↦
        ap (λ (f : ℕ → List Message). f to) (put-same w.frames n from _ same)
        ∙ (put-other (w.frames n) m.to to _ (λ there. let both : true ≡ false = sym (let test : ((m.from == from) && (m.to == to)) ≡ true = grind (arith, nat_tests, sender, same, there) in test) ∙ other in absurd (cc))
        ∙ ap (λ a. w.frames a to) (sym same))
  ]

  pub step-sent : (tick : ℕ) (f : Option Message) (x : Option Sent) → IsSentBy tick f x → ((m : Message) → f ≡ Some m → m.from ≡ n) → v.frames from to ≡ frames_after w n f from to
      → IsKeptBy (λ index. was_told v.done (from, to, index)) (w.frames from to) IsOverNow a → IsSent (indexed f x) from to a b → IsKeptBy (λ index. was_told v.done (from, to, index)) (v.frames from to) IsOverNow b
  step-sent tick None x sends sender frames is sent =
      subst (IsKeptBy (λ index. was_told v.done (from, to, index)) (v.frames from to) IsOverNow) (sym sent)
      (subst (λ (ms : List Message). IsKeptBy (λ index. was_told v.done (from, to, index)) ms IsOverNow a) (sym frames) is)
  step-sent tick (Some m) None sends sender frames is sent = absurd sends
  step-sent tick (Some m) (Some x) sends sender frames is sent = by ((m.from == from) && (m.to == to)) refl
    where
      of-frames : (ms : List Message) (y : Kept) → frames_after w n (Some m) from to ≡ ms → IsKeptBy (λ index. was_told v.done (from, to, index)) ms IsOverNow y → b ≡ y
          → IsKeptBy (λ index. was_told v.done (from, to, index)) (v.frames from to) IsOverNow b
      of-frames ms y same holds is_y =
          subst (IsKeptBy (λ index. was_told v.done (from, to, index)) (v.frames from to) IsOverNow) (sym is_y)
          (subst (λ (zs : List Message). IsKeptBy (λ index. was_told v.done (from, to, index)) zs IsOverNow y) (sym (frames ∙ same)) holds)

      by : (test : Bool) → ((m.from == from) && (m.to == to)) ≡ test → IsKeptBy (λ index. was_told v.done (from, to, index)) (v.frames from to) IsOverNow b
      by true here =
          let first : from ≡ n = sym (equal m.from from (left-true (m.from == from) (m.to == to) here)) ∙ sender m refl in
          let second : to ≡ m.to = sym (equal m.to to (right-true (m.from == from) (m.to == to) here)) in
          of-frames (m ∷ w.frames from to) (sent_if true m a) (frames-here m first second)
          (kept-sent (λ index. was_told v.done (from, to, index)) (w.frames from to) IsOverNow a is m) (sent ∙ ap (λ t. sent_if t m a) here)
      by false other =
          of-frames (w.frames from to) a (frames-else m (sender m refl) other) is (sent ∙ ap (λ t. sent_if t m a) other)

  -- 4. requests go that a home has decided
  pub step-served : (i : Incoming) → IsKeptBy (λ index. was_told v.done (from, to, index)) (v.frames from to) IsOverNow b → IsServed i from to b d
      → ((m : Message) → i ≡ Incoming.Frame m → (is_request m.body && ((m.from == from) && (m.to == to))) ≡ true
      → (l : Live) → numbered l.index (v.frames from to) ≡ Some l.frame → is_served m.proc m.number l.frame ≡ true → IsOverNow l.frame) → IsKeptBy (λ index. was_told v.done (from, to, index)) (v.frames from to) IsOverNow d
  step-served Incoming.Nothing is served over = subst (IsKeptBy (λ index. was_told v.done (from, to, index)) (v.frames from to) IsOverNow) (sym served) is
  step-served (Incoming.Gone number tick) is served over = subst (IsKeptBy (λ index. was_told v.done (from, to, index)) (v.frames from to) IsOverNow) (sym served) is
  step-served (Incoming.Mark tick) is served over = subst (IsKeptBy (λ index. was_told v.done (from, to, index)) (v.frames from to) IsOverNow) (sym served) is
  step-served (Incoming.Frame m) is served over = by (is_request m.body && ((m.from == from) && (m.to == to))) refl
    where
      by : (t : Bool) → (is_request m.body && ((m.from == from) && (m.to == to))) ≡ t → IsKeptBy (λ index. was_told v.done (from, to, index)) (v.frames from to) IsOverNow d
      by false other = subst (IsKeptBy (λ index. was_told v.done (from, to, index)) (v.frames from to) IsOverNow) (sym (served ∙ ap (λ t. served_if t m b) other)) is
      by true here =
          subst (IsKeptBy (λ index. was_told v.done (from, to, index)) (v.frames from to) IsOverNow) (sym (served ∙ ap (λ t. served_if t m b) here))
          (kept-less (λ index. was_told v.done (from, to, index)) (v.frames from to) IsOverNow b is (λ l. not (is_served m.proc m.number l.frame)) (λ l right goes. over m refl here l right (not-false (is_served m.proc m.number l.frame) goes)))

  -- 5. and answers whose call is open no more
  pub step-heard : {P : Type 0} (x : Noted P) → IsKeptBy (λ index. was_told v.done (from, to, index)) (v.frames from to) IsOverNow d → IsHeard x n from to d new
      → ((l : Live) → numbered l.index (v.frames from to) ≡ Some l.frame → (to == n) ≡ true → is_heard x l.index l.frame ≡ true → IsOverNow l.frame) → IsKeptOf v from to new
  step-heard x is heard over = by (to == n) refl
    where
      by : (t : Bool) → (to == n) ≡ t → IsKeptOf v from to new
      by false other = subst (IsKeptBy (λ index. was_told v.done (from, to, index)) (v.frames from to) IsOverNow) (sym (heard ∙ ap (λ t. heard_if t x d) other)) is
      by true here =
          subst (IsKeptBy (λ index. was_told v.done (from, to, index)) (v.frames from to) IsOverNow) (sym (heard ∙ ap (λ t. heard_if t x d) here))
          (kept-less (λ index. was_told v.done (from, to, index)) (v.frames from to) IsOverNow d is (λ l. not (is_heard x l.index l.frame)) (λ l right goes. over l right here (not-false (is_heard x l.index l.frame) goes)))
