-- Each copy carries the frame of its number.
use Rattle.std.proofs.Common.{◌≡◌, ℕ, ◌+◌, Bool, cond, List, [], ◌∷◌, ◌++◌, map, drop, length, Some, get_or, refl, sym, ap, ◌∙◌, eq-eqb, add-one}
use Rattle.std.specs.Prelude.{◌==◌, not, filter, All}
use Rattle.std.proofs.lemmas.List.Elements.{All-nil, All-cons, All-append, All-filter, All-map, All-drop, All-push}
use Rattle.dom_history.specs.declared.plan.Fate.{Fate}
use Rattle.dom_history.specs.declared.plan.Fate.TheVariants.{Pass, Lose, Twice, Late}
use Rattle.node_runs.specs.Deliveries.{in_place}
use Rattle.node_runs.specs.Runs.{numbered}
use Rattle.world_runs.specs.Links as links
use Rattle.world_runs.proofs.Receiving.{numbered-within, numbered-older}
use Rattle.ring_links.specs.declared.entry.Waiting.{Waiting}
use Rattle.ring_links.specs.declared.entry.Waiting.TheVariants.{Copy, Mark}
use Rattle.ring_links.specs.declared.entry.Entry.{Entry}
use Rattle.ring_links.specs.declared.link.Later.{Later}
use Rattle.ring_links.specs.Carried.{Carrying, copy_of, mark_of, later_copy, falling, frame_sent, mark_sent, IsFrameOf, CarriesFrames}

module _ {A : Type 0} where
  abbrev IsEntryOf : List A → Entry A → Type 0
  IsEntryOf sent e = IsFrameOf sent e.received e.waiting

  abbrev IsLaterOf : List A → Later A → Type 0
  IsLaterOf sent c = numbered c.index sent ≡ Some c.received

  -- what came before stays what it is
  still : (x : A) (sent : List A) (k : ℕ) (y : A) → numbered k sent ≡ Some y → numbered k (x ∷ sent) ≡ Some y
  still x sent k y e = numbered-older k x sent (numbered-within k sent y e) ∙ e

  still-frame : (x : A) (sent : List A) (y : A) (w : Waiting) → IsFrameOf sent y w → IsFrameOf (x ∷ sent) y w
  still-frame x sent y (Copy index) e = still x sent index y e
  still-frame x sent y (Mark phase) e = e

  still-entries : (x : A) (sent : List A) (es : List (Entry A)) → All (IsEntryOf sent) es → All (IsEntryOf (x ∷ sent)) es
  still-entries x sent es all = λ i d at. let y = get_or es i d in still-frame x sent y.received y.waiting (all i d at)

  still-later : (x : A) (sent : List A) (cs : List (Later A)) → All (IsLaterOf sent) cs → All (IsLaterOf (x ∷ sent)) cs
  still-later x sent cs all = λ i d at. let y = get_or cs i d in still x sent y.index y.received (all i d at)

  -- the last frame is the one of its number
  last : (x : A) (sent : List A) (k : ℕ) → length sent + 1 ≡ k → numbered k (x ∷ sent) ≡ Some x
  last x sent k same = ap (λ (b : Bool). cond b (Some x) (numbered k sent)) (ap (λ (n : ℕ). k == n) same ∙ eq-eqb k k refl)

  module _ (x : A) (sent : List A) (k : ℕ) (same : length sent + 1 ≡ k) where
    own-copies : (fate : Fate) → All (IsEntryOf (x ∷ sent)) (map (copy_of x) (in_place k fate))
    own-copies Pass = All-cons (IsEntryOf (x ∷ sent)) (copy_of x k) [] (last x sent k same) (All-nil (IsEntryOf (x ∷ sent)))
    own-copies Lose = All-nil (IsEntryOf (x ∷ sent))
    own-copies (Twice n) = All-cons (IsEntryOf (x ∷ sent)) (copy_of x k) [] (last x sent k same) (All-nil (IsEntryOf (x ∷ sent)))
    own-copies (Late n) = All-nil (IsEntryOf (x ∷ sent))

    own-later : (fate : Fate) → All (IsLaterOf (x ∷ sent)) (map (later_copy x) (links.later_of k fate))
    own-later Pass = All-nil (IsLaterOf (x ∷ sent))
    own-later Lose = All-nil (IsLaterOf (x ∷ sent))
    own-later (Twice n) = All-cons (IsLaterOf (x ∷ sent)) (later_copy x (record { index = k; behind = k + n })) [] (last x sent k same) (All-nil (IsLaterOf (x ∷ sent)))
    own-later (Late n) = All-cons (IsLaterOf (x ∷ sent)) (later_copy x (record { index = k; behind = k + n })) [] (last x sent k same) (All-nil (IsLaterOf (x ∷ sent)))

  pub frame-carried : (fate : Fate) (x : A) (sent : List A) (l : Carrying A) → CarriesFrames sent l → CarriesFrames (x ∷ sent) (frame_sent fate x l)
  frame-carried fate x sent l carries =
      let j = l.frames + 1 in
      let same : length sent + 1 ≡ j = ap (λ (n : ℕ). n + 1) carries.frames in
      let later = l.later ++ map (later_copy x) (links.later_of j fate) in
      let all =
      All-append (IsLaterOf (x ∷ sent)) l.later (map (later_copy x) (links.later_of j fate)) (still-later x sent l.later carries.later) (own-later x sent j same fate) in
      record {
        frames = sym (add-one (length sent)) ∙ same;
        queue =
            All-append (IsEntryOf (x ∷ sent)) l.queue (map (copy_of x) (in_place j fate) ++ falling j later) (still-entries x sent l.queue carries.queue)
            (All-append (IsEntryOf (x ∷ sent)) (map (copy_of x) (in_place j fate)) (falling j later) (own-copies x sent j same fate)
            (All-map (IsEntryOf (x ∷ sent)) (λ (c : Later A). copy_of c.received c.index) (filter (λ (c : Later A). c.behind == j) later)
            (All-filter (λ (c : Later A). c.behind == j) (IsLaterOf (x ∷ sent)) later all)));
        later = All-filter (λ (c : Later A). not (c.behind == j)) (IsLaterOf (x ∷ sent)) later all;
      }

  pub mark-carried : (phase : ℕ) (x : A) (sent : List A) (l : Carrying A) → CarriesFrames sent l → CarriesFrames sent (mark_sent phase x l)
  mark-carried phase x sent l carries = record {
    frames = carries.frames;
    queue = All-push (IsEntryOf sent) l.queue (mark_of x phase) carries.queue tt;
    later = carries.later;
  }

  pub less-carried : (n : ℕ) (sent : List A) (l : Carrying A) → CarriesFrames sent l → CarriesFrames sent (record l { queue = drop n l.queue })
  less-carried n sent l carries = record {
    frames = carries.frames;
    queue = All-drop (IsEntryOf sent) n l.queue carries.queue;
    later = carries.later;
  }
