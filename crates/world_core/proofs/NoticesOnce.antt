-- No frame is lost or late twice, so a node has one notice of it at most, and without that one it has the others.
use Rattle.std.proofs.Common.{◌≡◌, ℕ, zero, suc, ◌+◌, ◌≤◌, Bool, true, false, cond, Option, Some, None, List, [], ◌∷◌, ◌++◌, map, inl, inr, refl, sym, ap, subst, ◌∙◌, arith}
use Rattle.std.specs.Prelude.{◌==◌, not, ◌&&◌, ◌||◌, filter, flat_map, slice_get, remove, All}
use Rattle.std.specs.List.{list_any}
use Rattle.std.proofs.lemmas.Bool.{eq-eqb}
use Rattle.std.proofs.lemmas.List.Concat.{flat_map-append}
use Rattle.std.proofs.lemmas.List.Elements.{All-append, All-take, All-drop}
use Rattle.dom_history.specs.declared.event.What.{What}
use Rattle.dom_history.specs.declared.event.What.TheVariants as events
use Rattle.dom_history.specs.declared.event.Sent.{Sent}
use Rattle.dom_history.specs.declared.plan.FateRow.{FateRow}
use Rattle.dom_history.specs.Events.{Happening}
use Rattle.dom_history.specs.Plans.{fate_of}
use Rattle.ring_messages.specs.Frames.{Message, caller_of}
use Rattle.node_runs.specs.Setups.{Setup}
use Rattle.node_runs.specs.Deliveries.{is_gone, noticed_by}
use Rattle.node_runs.specs.Runs.{World, numbered}
use Rattle.world_runs.specs.Sendings.{frames_on}
use Rattle.world_runs.specs.Gone.{FrameName, same_frame, frame_if, gone_by, gone_in, was_told, notice_if, notice_of, notices_at}
use Rattle.world_runs.specs.OpenNotices.{open_notices, tells_of, is_done_by}
use Rattle.world_runs.specs.Turns.{is_enabled}
use Rattle.world_runs.proofs.Among.{Among}
use Rattle.world_runs.proofs.Noticing.{IsWithin, gone-within}
use Rattle.world_runs.proofs.Telling.{one_if, times, AreOnce, times-append, same-frame, frame-is}
use Rattle.ring_links.specs.declared.notice.Notice.{Notice}
use Rattle.ring_links.specs.Notices.{notice_what}

-- a frame is named as often, or less often, where items are left out
fewer-one : (f g : FrameName) (b : Bool) (xs ys : List FrameName) → times f xs ≤ times f ys → times f (cond b (g ∷ xs) xs) ≤ one_if (same_frame f g) + times f ys
fewer-one f g true xs ys less = omega (arith, less)
fewer-one f g false xs ys less = omega (arith, less)

fewer : (f : FrameName) (p : FrameName → Bool) (xs : List FrameName) → times f (filter p xs) ≤ times f xs
fewer f p [] = omega arith
fewer f p (g ∷ xs) = fewer-one f g (p g) (filter p xs) xs (fewer f p xs)

times-apart : (f : FrameName) (xs : List FrameName) → ((g : FrameName) → Among g xs → same_frame f g ≡ false) → times f xs ≡ 0
times-apart f [] each = refl
times-apart f (g ∷ xs) each =
    let one = ap one_if (each g (inl refl)) in
    let rest = times-apart f xs (λ h is. each h (inr is)) in
    omega (arith, one, rest)

-- the frame that is sent next is none of those that were sent
later-apart : (es : List Happening) (f h : FrameName) (b : Bool) → same_frame f h ≡ b → f.2 ≡ frames_on f.0 f.1 es + 1 → IsWithin es h → b ≡ false
later-apart es f h true is next within =
    absurd (let low : f.2 ≤ frames_on f.0 f.1 es = subst (IsWithin es) (sym (frame-is f h is)) within in omega (arith, low, next))
later-apart es f h false is next within = refl

-- each frame that is lost or late is named once
module _ (plan : List FateRow) where
  with-next : (from to : ℕ) (older : List Happening) (f : FrameName) (b c : Bool) → same_frame f (from, to, frames_on from to older + 1) ≡ c → times f (gone_in plan older) ≤ 1
      → times f (gone_in plan older) + times f (frame_if b (from, to, frames_on from to older + 1)) ≤ 1
  with-next from to older f false c is before = omega (arith, before)
  with-next from to older f true false is before = let one = ap one_if is in omega (arith, before, one)
  with-next from to older f true true is before =
      let g : FrameName = (from, to, frames_on from to older + 1) in
      let next : f.2 ≡ frames_on f.0 f.1 older + 1 = subst (λ (h : FrameName). h.2 ≡ frames_on h.0 h.1 older + 1) (sym (frame-is f g is)) refl in
      let none = times-apart f (gone_in plan older) (λ h among. later-apart older f h (same_frame f h) refl next (gone-within plan older h among)) in
      let one = ap one_if is in
      omega (arith, none, one)

  with-sent : (from : ℕ) (sent : Option Sent) (older : List Happening) (f : FrameName) → times f (gone_in plan older) ≤ 1 → times f (gone_in plan older) + times f (gone_by plan from sent older) ≤ 1
  with-sent from None older f before = omega (arith, before)
  with-sent from (Some x) older f before =
      with-next from x.to older f (is_gone (fate_of plan from x.to (frames_on from x.to older + 1))) (same_frame f (from, x.to, frames_on from x.to older + 1)) refl before

  gone-once : (es : List Happening) → AreOnce (gone_in plan es)
  gone-once [] f = omega arith
  gone-once (e ∷ older) f =
      let both = times-append f (gone_in plan older) (gone_by plan e.place.node e.effects.sent older) in
      let more = with-sent e.place.node e.effects.sent older f (gone-once older f) in
      omega (arith, both, more)

-- the frames that events tell
abbrev names : List What → List FrameName
names xs = flat_map noticed_by xs

names-one : (f : FrameName) (x : What) (b : Bool) (xs ys : List What) → times f (names xs) ≤ times f (names ys) → times f (names (cond b (x ∷ xs) xs)) ≤ times f (noticed_by x ++ names ys)
names-one f x true xs ys less =
    let a = times-append f (noticed_by x) (names xs) in let b = times-append f (noticed_by x) (names ys) in omega (arith, a, b, less)
names-one f x false xs ys less = let b = times-append f (noticed_by x) (names ys) in omega (arith, b, less)

names-fewer : (f : FrameName) (p : What → Bool) (xs : List What) → times f (names (filter p xs)) ≤ times f (names xs)
names-fewer f p [] = omega arith
names-fewer f p (x ∷ xs) = names-one f x (p x) (filter p xs) xs (names-fewer f p xs)

notice-once : (n : ℕ) (f g : FrameName) (o : Option Message) → times f (names (notice_of n g o)) ≤ one_if (same_frame f g)
notice-once n f g None = omega arith
notice-once n f g (Some m) = by-node ((caller_of m).node == n)
  where
    by-node : (b : Bool) → times f (names (notice_if b (events.Notice m.proc g.0 g.1 g.2))) ≤ one_if (same_frame f g)
    by-node true = omega arith
    by-node false = omega arith

notices-once : (n : ℕ) (o : FrameName → Option Message) (f : FrameName) (gs : List FrameName) → times f (names (flat_map (λ g. notice_of n g (o g)) gs)) ≤ times f gs
notices-once n o f [] = omega arith
notices-once n o f (g ∷ gs) =
    let apart = ap (times f) (flat_map-append noticed_by (notice_of n g (o g)) (flat_map (λ h. notice_of n h (o h)) gs)) in
    let both = times-append f (names (notice_of n g (o g))) (names (flat_map (λ h. notice_of n h (o h)) gs)) in
    let one = notice-once n f g (o g) in
    let rest = notices-once n o f gs in
    omega (arith, apart, both, one, rest)

-- and so is each open notice of a node
open-once : (s : Setup) (plan : List FateRow) (w : World) (n : ℕ) → AreOnce (names (open_notices s plan w n))
open-once s plan w n f =
    let untold = λ (g : FrameName). not (was_told w.done g) in
    let of-open = names-fewer f (is_enabled s w n) (notices_at plan w n) in
    let of-all = notices-once n (λ g. numbered g.2 (w.frames g.0 g.1)) f (filter untold (gone_in plan w.done)) in
    let of-untold = fewer f untold (gone_in plan w.done) in
    let of-gone = gone-once plan w.done f in
    omega (arith, of-open, of-all, of-untold, of-gone)

-- the frame that a notice tells
abbrev name_of : Notice → FrameName
name_of y = (y.from, y.to, y.index)

map-names : (ys : List Notice) → names (map notice_what ys) ≡ map name_of ys
map-names [] = refl
map-names (y ∷ ys) = ap (λ (fs : List FrameName). name_of y ∷ fs) (map-names ys)

-- events of a list stay but for one notice
module _ (keeps : What → Bool) (y : Notice) (is : (z : Notice) → keeps (notice_what z) ≡ not (same_frame (name_of z) (name_of y))) where
  same-counts : (z : Notice) (b : Bool) → same_frame (name_of z) (name_of y) ≡ b → b ≡ true → one_if (same_frame (name_of y) (name_of z)) ≡ 1
  same-counts z true same h =
      let one : name_of z ≡ name_of y = frame-is (name_of z) (name_of y) same in
      ap one_if (subst (λ (f : FrameName). same_frame (name_of y) f ≡ true) (sym one) (same-frame (name_of y)))
  same-counts z false same h = absurd (cc)

  kept-one : (z : Notice) (b : Bool) (xs : List What) → same_frame (name_of z) (name_of y) ≡ b → (b ≡ true → ⊥) → cond (keeps (notice_what z)) (notice_what z ∷ xs) xs ≡ notice_what z ∷ xs
  kept-one z true xs same not-same = absurd (not-same refl)
  kept-one z false xs same not-same = ap (λ (b : Bool). cond b (notice_what z ∷ xs) xs) (is z ∙ ap not same)

  none-goes : (zs : List Notice) → times (name_of y) (map name_of zs) ≡ 0 → filter keeps (map notice_what zs) ≡ map notice_what zs
  none-goes [] none = refl
  none-goes (z ∷ zs) none =
      let rest = none-goes zs (omega (arith, none)) in
      kept-one z (same_frame (name_of z) (name_of y)) (filter keeps (map notice_what zs)) refl
      (λ h. absurd (let one = same-counts z (same_frame (name_of z) (name_of y)) refl h in omega (arith, none, one)))
      ∙ ap (λ (xs : List What). notice_what z ∷ xs) rest

  present : (zs : List Notice) (i : ℕ) → slice_get zs i ≡ Some y → 1 ≤ times (name_of y) (map name_of zs)
  present [] i e = absurd (cc)
  present (z ∷ zs) zero e =
      let same : z ≡ y = cc in
      let one = ap (λ (x : Notice). one_if (same_frame (name_of y) (name_of x))) same in
      let own = ap one_if (same-frame (name_of y)) in
      omega (arith, one, own)
  present (z ∷ zs) (suc i) e = let rest = present zs i e in omega (arith, rest)

  one-goes : (zs : List Notice) (i : ℕ) → slice_get zs i ≡ Some y → AreOnce (map name_of zs) → map notice_what (remove zs i) ≡ filter keeps (map notice_what zs)
  one-goes [] i e once = absurd (cc)
  one-goes (z ∷ zs) zero e once =
      let same : z ≡ y = cc in
      let own : same_frame (name_of z) (name_of y) ≡ true = subst (λ (x : Notice). same_frame (name_of x) (name_of y) ≡ true) (sym same) (same-frame (name_of y)) in
      let first = same-counts z true own refl in
      let most = once (name_of y) in
      sym (ap (λ (b : Bool). cond b (notice_what z ∷ filter keeps (map notice_what zs)) (filter keeps (map notice_what zs))) (is z ∙ ap not own)
      ∙ none-goes zs (omega (arith, first, most)))
  one-goes (z ∷ zs) (suc i) e once =
      let there = present zs i e in
      let most = once (name_of y) in
      ap (λ (xs : List What). notice_what z ∷ xs) (one-goes zs i e (λ f. let all = once f in omega (arith, all)))
      ∙ sym (kept-one z (same_frame (name_of z) (name_of y)) (filter keeps (map notice_what zs)) refl
      (λ h. absurd (let one = same-counts z (same_frame (name_of z) (name_of y)) refl h in omega (arith, there, most, one))))

or-false : (b : Bool) → (b || false) ≡ b
or-false true = refl
or-false false = refl

-- a node that took the notice at a place has the others
pub notice-goes : (s : Setup) (plan : List FateRow) (w : World) (n : ℕ) (e : Happening) (ys : List Notice) (i : ℕ) (y : Notice) → map notice_what ys ≡ open_notices s plan w n → slice_get ys i ≡ Some y
    → e.place.node ≡ n → e.what ≡ notice_what y → map notice_what (remove ys i) ≡ filter (λ x. not (is_done_by n e x)) (map notice_what ys)
notice-goes s plan w n e ys i y are there node what =
    one-goes (λ x. not (is_done_by n e x)) y
    (λ z. ap (λ (b : Bool). not (b && list_any (tells_of (notice_what z)) (noticed_by e.what))) (eq-eqb e.place.node n node)
    ∙ ap (λ (x : What). not (list_any (tells_of (notice_what z)) (noticed_by x))) what
    ∙ ap not (or-false (same_frame (name_of z) (name_of y))))
    ys i there (subst AreOnce (map-names ys) (subst (λ (xs : List What). AreOnce (names xs)) (sym are) (open-once s plan w n)))

pub all-but-one : {A : Type 0} (T : A → Type 0) (xs : List A) (i : ℕ) → All T xs → All T (remove xs i)
all-but-one T xs i all = All-append T _ _ (All-take T i xs all) (All-drop T (suc i) xs all)
