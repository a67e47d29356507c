-- What an event adds to a world, link by link; and that events of two nodes may change places.
use Rattle.std.proofs.Common.{◌≡◌, ◌≢◌, ℕ, Bool, true, false, cond, List, ◌∷◌, Option, Some, None, inl, inr, refl, sym, ap, ◌∙◌}
use Rattle.std.specs.Prelude.{◌⊎◌, ◌==◌, ◌&&◌}
use Rattle.std.proofs.lemmas.Bool.{cases_eq, eq-eqb, ne_eqb}
use Rattle.uid_names.specs.declared.ids.Place.{Place}
use Rattle.uid_names.proofs.Passed.{left-true, equal}
use Rattle.dom_history.specs.declared.event.What.{What}
use Rattle.dom_history.specs.declared.event.What.TheVariants.{Begin, Go, Take, Notice, Ready, Mark}
use Rattle.ring_messages.specs.Frames.{Message}
use Rattle.node_runs.specs.NodeStates.{Asked, NodeState}
use Rattle.node_runs.specs.Outcomes.{Stepped}
use Rattle.node_runs.specs.Runs.{World, SentMark, put, mark_of, frames_after, calls_after, world_with}
use Rattle.node_runs.proofs.Calls.{put-same, put-other}
use Rattle.world_runs.specs.ByPlace.{IsLike}

-- the frames of a link after an event
abbrev pub added : ℕ → Option Message → ℕ → ℕ → List Message → List Message
added n None from to xs = xs
added n (Some m) from to xs = cond (from == n) (cond (to == m.to) (m ∷ xs) xs) xs

pub frames-added : (w : World) (n : ℕ) (f : Option Message) (from to : ℕ) → frames_after w n f from to ≡ added n f from to (w.frames from to)
frames-added w n None from to = refl
frames-added w n (Some m) from to = elim (cases_eq from n) as (λ d. frames_after w n (Some m) from to ≡ added n (Some m) from to (w.frames from to)) [
  | inr differs ↦
      ap (λ (f : ℕ → List Message). f to) (put-other w.frames n from _ differs)
      ∙ sym (ap (λ b. cond b (cond (to == m.to) (m ∷ w.frames from to) (w.frames from to)) (w.frames from to)) (ne_eqb from n differs))
  | inl same ↦
      ap (λ (f : ℕ → List Message). f to) (put-same w.frames n from _ same)
      ∙ (beside (cases_eq to m.to)
      ∙ ap (λ a. cond (to == m.to) (m ∷ w.frames a to) (w.frames a to)) (sym same)
      ∙ sym (ap (λ b. cond b (cond (to == m.to) (m ∷ w.frames from to) (w.frames from to)) (w.frames from to)) (eq-eqb from n same)))
]
  where
    beside : (to ≡ m.to) ⊎ (to ≡ m.to → ⊥) → put (w.frames n) m.to (m ∷ w.frames n m.to) to ≡ cond (to == m.to) (m ∷ w.frames n to) (w.frames n to)
    beside (inl there) =
        put-same (w.frames n) m.to to _ there ∙ ap (λ b. m ∷ w.frames n b) (sym there)
        ∙ sym (ap (λ b. cond b (m ∷ w.frames n to) (w.frames n to)) (eq-eqb to m.to there))
    beside (inr away) = put-other (w.frames n) m.to to _ away ∙ sym (ap (λ b. cond b (m ∷ w.frames n to) (w.frames n to)) (ne_eqb to m.to away))

-- the calls of a process after an event
abbrev pub called : ℕ → Option (ℕ × Asked) → ℕ → ℕ → List Asked → List Asked
called n None a p xs = xs
called n (Some made) a p xs = cond (a == n) (cond (p == made.0) (made.1 ∷ xs) xs) xs

pub calls-called : (w : World) (n : ℕ) (c : Option (ℕ × Asked)) (a p : ℕ) → calls_after w n c a p ≡ called n c a p (w.calls a p)
calls-called w n None a p = refl
calls-called w n (Some made) a p = elim (cases_eq a n) as (λ d. calls_after w n (Some made) a p ≡ called n (Some made) a p (w.calls a p)) [
  | inr differs ↦
      ap (λ (f : ℕ → List Asked). f p) (put-other w.calls n a _ differs)
      ∙ sym (ap (λ b. cond b (cond (p == made.0) (made.1 ∷ w.calls a p) (w.calls a p)) (w.calls a p)) (ne_eqb a n differs))
  | inl same ↦
      ap (λ (f : ℕ → List Asked). f p) (put-same w.calls n a _ same)
      ∙ (beside (cases_eq p made.0)
      ∙ ap (λ b. cond (p == made.0) (made.1 ∷ w.calls b p) (w.calls b p)) (sym same)
      ∙ sym (ap (λ b. cond b (cond (p == made.0) (made.1 ∷ w.calls a p) (w.calls a p)) (w.calls a p)) (eq-eqb a n same)))
]
  where
    beside : (p ≡ made.0) ⊎ (p ≡ made.0 → ⊥) → put (w.calls n) made.0 (made.1 ∷ w.calls n made.0) p ≡ cond (p == made.0) (made.1 ∷ w.calls n p) (w.calls n p)
    beside (inl there) =
        put-same (w.calls n) made.0 p _ there ∙ ap (λ b. made.1 ∷ w.calls n b) (sym there)
        ∙ sym (ap (λ b. cond b (made.1 ∷ w.calls n p) (w.calls n p)) (eq-eqb p made.0 there))
    beside (inr away) = put-other (w.calls n) made.0 p _ away ∙ sym (ap (λ b. cond b (made.1 ∷ w.calls n p) (w.calls n p)) (ne_eqb p made.0 away))

-- the mark of a node and a phase after an event
abbrev pub marked_by : ℕ → ℕ → What → ℕ → ℕ → Option SentMark → Option SentMark
marked_by n tick (Ready k) from phase o = cond ((n == from) && (k == phase)) (Some (record { node = n; phase = k; tick = tick })) o
marked_by n tick _ from phase o = o

pub marks-marked : (w : World) (place : Place) (what : What) (step : Stepped) (from phase : ℕ) → mark_of (world_with w place what step) from phase ≡ marked_by place.node place.tick what from phase (mark_of w from phase)
marks-marked w place (Begin p) step from phase = refl
marks-marked w place (Go p) step from phase = refl
marks-marked w place (Take a k) step from phase = refl
marks-marked w place (Notice p a b k) step from phase = refl
marks-marked w place (Ready k) step from phase = refl
marks-marked w place (Mark a k) step from phase = refl

pub like-same : (w : World) → IsLike w w
like-same w = record { nodes = λ n. refl; frames = λ from to. refl; marks = λ from phase. refl; calls = λ n p. refl }

pub like-then : (u w v : World) → IsLike u w → IsLike w v → IsLike u v
like-then u w v a b = record {
  nodes = λ n. a.nodes n ∙ b.nodes n;
  frames = λ from to. a.frames from to ∙ b.frames from to;
  marks = λ from phase. a.marks from phase ∙ b.marks from phase;
  calls = λ n p. a.calls n p ∙ b.calls n p;
}

pub like-back : (w v : World) → IsLike w v → IsLike v w
like-back w v a = record {
  nodes = λ n. sym (a.nodes n);
  frames = λ from to. sym (a.frames from to);
  marks = λ from phase. sym (a.marks from phase);
  calls = λ n p. sym (a.calls n p);
}

-- the same event in two worlds that are alike
pub like-with : (w v : World) → IsLike w v → (place : Place) (what : What) (step : Stepped) → IsLike (world_with w place what step) (world_with v place what step)
like-with w v like place what step = record {
  nodes = λ n. ap (λ y. cond (n == place.node) step.node y) (like.nodes n);
  frames = λ from to. frames-added w place.node step.frame from to ∙ ap (added place.node step.frame from to) (like.frames from to) ∙ sym (frames-added v place.node step.frame from to);
  marks = λ from phase. marks-marked w place what step from phase ∙ ap (marked_by place.node place.tick what from phase) (like.marks from phase) ∙ sym (marks-marked v place what step from phase);
  calls = λ n p. calls-called w place.node step.call n p ∙ ap (called place.node step.call n p) (like.calls n p) ∙ sym (calls-called v place.node step.call n p);
}

-- two changes of which at most one is made may change places
pub either : {A : Type 0} (b c : Bool) (F G : A → A) (x : A) → (b ≡ true → c ≡ true → ⊥) → cond b (F (cond c (G x) x)) (cond c (G x) x) ≡ cond c (G (cond b (F x) x)) (cond b (F x) x)
either true true F G x apart = absurd (apart refl refl)
either true false F G x apart = refl
either false true F G x apart = refl
either false false F G x apart = refl

pub not-both : (a n k : ℕ) → n ≢ k → (a == n) ≡ true → (a == k) ≡ true → ⊥
not-both a n k differs h i = differs (sym (equal a n h) ∙ equal a k i)

added-apart : (n k : ℕ) → n ≢ k → (f g : Option Message) (from to : ℕ) (xs : List Message) → added n f from to (added k g from to xs) ≡ added k g from to (added n f from to xs)
added-apart n k differs None g from to xs = refl
added-apart n k differs (Some x) None from to xs = refl
added-apart n k differs (Some x) (Some y) from to xs =
    either (from == n) (from == k) (λ (a : List Message). cond (to == x.to) (x ∷ a) a) (λ (a : List Message). cond (to == y.to) (y ∷ a) a) xs (not-both from n k differs)

called-apart : (n k : ℕ) → n ≢ k → (c d : Option (ℕ × Asked)) (a p : ℕ) (xs : List Asked) → called n c a p (called k d a p xs) ≡ called k d a p (called n c a p xs)
called-apart n k differs None d a p xs = refl
called-apart n k differs (Some x) None a p xs = refl
called-apart n k differs (Some x) (Some y) a p xs =
    either (a == n) (a == k) (λ (c : List Asked). cond (p == x.0) (x.1 ∷ c) c) (λ (c : List Asked). cond (p == y.0) (y.1 ∷ c) c) xs (not-both a n k differs)

marked-apart : (n t k u : ℕ) → n ≢ k → (what also : What) (from phase : ℕ) (o : Option SentMark) → marked_by n t what from phase (marked_by k u also from phase o) ≡ marked_by k u also from phase (marked_by n t what from phase o)
marked-apart n t k u differs (Begin p) also from phase o = refl
marked-apart n t k u differs (Go p) also from phase o = refl
marked-apart n t k u differs (Take a i) also from phase o = refl
marked-apart n t k u differs (Notice p a b i) also from phase o = refl
marked-apart n t k u differs (Mark a i) also from phase o = refl
marked-apart n t k u differs (Ready i) (Begin p) from phase o = refl
marked-apart n t k u differs (Ready i) (Go p) from phase o = refl
marked-apart n t k u differs (Ready i) (Take a j) from phase o = refl
marked-apart n t k u differs (Ready i) (Notice p a b j) from phase o = refl
marked-apart n t k u differs (Ready i) (Mark a j) from phase o = refl
marked-apart n t k u differs (Ready i) (Ready j) from phase o =
    either ((n == from) && (i == phase)) ((k == from) && (j == phase)) (λ (x : Option SentMark). Some (record { node = n; phase = i; tick = t })) (λ (x : Option SentMark). Some (record { node = k; phase = j; tick = u })) o
    (λ h e. differs (equal n from (left-true _ _ h) ∙ sym (equal k from (left-true _ _ e))))

-- events of two nodes lead to the same in either order
pub like-apart : (w : World) (place also : Place) (what next : What) (step later : Stepped) → place.node ≢ also.node
    → IsLike (world_with (world_with w place what step) also next later) (world_with (world_with w also next later) place what step)
like-apart w place also what next step later differs = record {
  nodes = λ n. either (n == also.node) (n == place.node) (λ (x : NodeState). later.node) (λ (x : NodeState). step.node) (w.nodes n) (not-both n also.node place.node (λ e. differs (sym e)));
  frames = λ from to.
      let one = world_with w place what step in
      let other = world_with w also next later in
      frames-added one also.node later.frame from to
      ∙ ap (added also.node later.frame from to) (frames-added w place.node step.frame from to)
      ∙ added-apart also.node place.node (λ e. differs (sym e)) later.frame step.frame from to (w.frames from to)
      ∙ sym (ap (added place.node step.frame from to) (frames-added w also.node later.frame from to))
      ∙ sym (frames-added other place.node step.frame from to);
  marks = λ from phase.
      marks-marked (world_with w place what step) also next later from phase
      ∙ ap (marked_by also.node also.tick next from phase) (marks-marked w place what step from phase)
      ∙ marked-apart also.node also.tick place.node place.tick (λ e. differs (sym e)) next what from phase (mark_of w from phase)
      ∙ sym (ap (marked_by place.node place.tick what from phase) (marks-marked w also next later from phase))
      ∙ sym (marks-marked (world_with w also next later) place what step from phase);
  calls = λ n p.
      calls-called (world_with w place what step) also.node later.call n p
      ∙ ap (called also.node later.call n p) (calls-called w place.node step.call n p)
      ∙ called-apart also.node place.node (λ e. differs (sym e)) later.call step.call n p (w.calls n p)
      ∙ sym (ap (called place.node step.call n p) (calls-called w also.node later.call n p))
      ∙ sym (calls-called (world_with w also next later) place.node step.call n p);
}
