-- Each lost or late frame is told once.
use Rattle.std.proofs.Common.{◌≡◌, ◌≢◌, ℕ, zero, suc, ◌+◌, ◌<◌, ◌≤◌, Bool, true, false, List, [], ◌∷◌, ◌++◌, length, Option, Some, None, inl, inr, refl, sym, ap, subst, ◌∙◌, arith}
use Rattle.std.specs.Prelude.{◌==◌, ◌&&◌, IsTrue, All, AllPairs, slice_index_or}
use Rattle.std.specs.List.{list_any, AllByRecursion}
use Rattle.std.proofs.lemmas.Bool.{eq-eqb, or_parts}
use Rattle.std.proofs.lemmas.List.Elements.{All-from_recursion}
use Rattle.uid_names.proofs.ListLemmas.{by_cases}
use Rattle.uid_names.proofs.Passed.{left-true, right-true, equal}
use Rattle.dom_history.specs.declared.event.What.{What}
use Rattle.dom_history.specs.declared.event.What.TheVariants.{Begin, Go, Take, Notice, Ready, Mark}
use Rattle.dom_history.specs.declared.event.Sent.{Sent}
use Rattle.dom_history.specs.declared.plan.FateRow.{FateRow}
use Rattle.dom_history.specs.Events.{Happening}
use Rattle.dom_history.specs.Histories.{place_lt}
use Rattle.dom_history.specs.Plans.{fate_of}
use Rattle.node_runs.specs.Deliveries.{is_gone, noticed_by, noticed_in}
use Rattle.node_runs.specs.Runs.{World}
use Rattle.world_runs.specs.ByPlace.{behind_if, put_in_place, by_place}
use Rattle.world_runs.specs.Sendings.{frames_on}
use Rattle.world_runs.specs.Gone.{FrameName, same_frame, frame_if, gone_by, gone_in, was_told}
use Rattle.world_runs.proofs.Among.{Among, among-append}
use Rattle.world_runs.proofs.Coming.{IsDue}

abbrev pub one_if : Bool → ℕ
one_if true = 1
one_if false = 0

-- how often a frame is named
abbrev pub times : FrameName → List FrameName → ℕ
times f [] = 0
times f (g ∷ more) = one_if (same_frame f g) + times f more

pub times-append : (f : FrameName) (xs ys : List FrameName) → times f (xs ++ ys) ≡ times f xs + times f ys
times-append f [] ys = omega arith
times-append f (g ∷ xs) ys = let e = times-append f xs ys in omega (arith, e)

-- events by place tell of each frame as often
times-in : (f : FrameName) (e : Happening) (es : List Happening) → times f (noticed_in (put_in_place e es)) ≡ times f (noticed_by e.what) + times f (noticed_in es)
times-in f e [] = times-append f (noticed_by e.what) []
times-in f e (x ∷ older) = either (place_lt x.place e.place) (times-in f e older)
  where
    either : (b : Bool) → times f (noticed_in (put_in_place e older)) ≡ times f (noticed_by e.what) + times f (noticed_in older)
        → times f (noticed_in (behind_if b e x older (put_in_place e older))) ≡ times f (noticed_by e.what) + times f (noticed_in (x ∷ older))
    either true before = times-append f (noticed_by e.what) (noticed_in (x ∷ older))
    either false before =
        let a = times-append f (noticed_by x.what) (noticed_in (put_in_place e older)) in
        let b = times-append f (noticed_by x.what) (noticed_in older) in
        omega (arith, a, b, before)

pub times-by_place : (f : FrameName) (es : List Happening) → times f (noticed_in (by_place es)) ≡ times f (noticed_in es)
times-by_place f [] = refl
times-by_place f (e ∷ older) =
    let a = times-in f e (by_place older) in
    let b = times-by_place f older in
    let c = times-append f (noticed_by e.what) (noticed_in older) in
    omega (arith, a, b, c)

-- a frame is itself
pub same-frame : (f : FrameName) → same_frame f f ≡ true
same-frame f = ap (λ b. b && ((f.1 == f.1) && (f.2 == f.2))) (eq-eqb f.0 f.0 refl) ∙ ap (λ b. b && (f.2 == f.2)) (eq-eqb f.1 f.1 refl) ∙ eq-eqb f.2 f.2 refl

pub frame-is : (f g : FrameName) → same_frame f g ≡ true → f ≡ g
frame-is f g h =
    let a = equal f.0 g.0 (left-true _ _ h) in
    let rest = right-true (f.0 == g.0) _ h in
    let b = equal f.1 g.1 (left-true _ _ rest) in
    let c = equal f.2 g.2 (right-true (f.1 == g.1) _ rest) in
    let first : f ≡ (g.0, f.1, f.2) = ap (λ k. let x : FrameName = (k, f.1, f.2) in x) a in
    let second : (g.0, f.1, f.2) ≡ (g.0, g.1, f.2) = ap (λ k. let x : FrameName = (g.0, k, f.2) in x) b in
    let third : (g.0, g.1, f.2) ≡ g = ap (λ k. let x : FrameName = (g.0, g.1, k) in x) c in
    first ∙ (second ∙ third)

-- one that is named nowhere differs from each
times-none : (f : FrameName) (xs : List FrameName) → times f xs ≡ 0 → AllByRecursion (λ g. f ≢ g) xs
times-none f [] none = tt
times-none f (g ∷ xs) none = (
  λ e. absurd (let same : same_frame f g ≡ true = subst (λ x. same_frame f x ≡ true) e (same-frame f) in let one = ap one_if same in omega (arith, one, none)),
  times-none f xs (omega (arith, none)),
)

any-none : (f : FrameName) (xs : List FrameName) → list_any (same_frame f) xs ≡ false → times f xs ≡ 0
any-none f [] h = refl
any-none f (g ∷ xs) h =
    let both = or_parts (same_frame f g) (list_any (same_frame f) xs) h in
    let one = ap one_if both.0 in
    let rest = any-none f xs both.1 in
    omega (arith, one, rest)

-- each frame is named once at most
abbrev pub AreOnce : List FrameName → Type 0
AreOnce xs = (f : FrameName) → times f xs ≤ 1

once-tail : (g : FrameName) (xs : List FrameName) → AreOnce (g ∷ xs) → AreOnce xs
once-tail g xs once f = let e = once f in omega (arith, e)

once-head : (g : FrameName) (xs : List FrameName) → AreOnce (g ∷ xs) → times g xs ≡ 0
once-head g xs once = let e = once g in let one = ap one_if (same-frame g) in omega (arith, e, one)

index-of : {A : Type 0} (P : A → Type 0) (xs : List A) → AllByRecursion P xs → (j : ℕ) (d : A) → j < length xs → P (slice_index_or xs j d)
index-of P xs all j d within = All-from_recursion P xs all j d within

pub once-pairs : (xs : List FrameName) → AreOnce xs → AllPairs (λ f g. f ≢ g) xs
once-pairs [] once i j d low high = absurd (omega (arith, high))
once-pairs (g ∷ xs) once zero zero d low high = absurd (omega (arith, low))
once-pairs (g ∷ xs) once zero (suc j) d low high = index-of (λ f. g ≢ f) xs (times-none g xs (once-head g xs once)) j d (omega (arith, high))
once-pairs (g ∷ xs) once (suc i) zero d low high = absurd (omega (arith, low))
once-pairs (g ∷ xs) once (suc i) (suc j) d low high = once-pairs xs (once-tail g xs once) i j d (omega (arith, low)) (omega (arith, high))

-- what is told was lost or is late
pub gone-if : (b : Bool) (f g : FrameName) → Among f (frame_if b g) → (b ≡ true) × (f ≡ g)
gone-if true f g (inl e) = (refl, e)
gone-if true f g (inr is) = absurd is
gone-if false f g is = absurd is

abbrev pub IsGone : List FateRow → FrameName → Type 0
IsGone plan f = IsTrue (is_gone (fate_of plan f.0 f.1 f.2))

gone-one : (plan : List FateRow) (from : ℕ) (x : Option Sent) (older : List Happening) (f : FrameName) → Among f (gone_by plan from x older) → IsGone plan f
gone-one plan from None older f is = absurd is
gone-one plan from (Some sent) older f is =
    let found = gone-if (is_gone (fate_of plan from sent.to (frames_on from sent.to older + 1))) f (from, sent.to, frames_on from sent.to older + 1) is in
    subst (IsGone plan) (sym found.1) found.0

pub gone-are : (plan : List FateRow) (es : List Happening) (f : FrameName) → Among f (gone_in plan es) → IsGone plan f
gone-are plan [] f is = absurd is
gone-are plan (e ∷ older) f is = elim (among-append f (gone_in plan older) (gone_by plan e.place.node e.effects.sent older) is) [
  | inl before ↦ gone-are plan older f before
  | inr now ↦ gone-one plan e.place.node e.effects.sent older f now
]

-- what was told by events: each frame once, and lost or late
pub record AreTold (plan : List FateRow) (es : List Happening) : Type 0 where
  pub once : AreOnce (noticed_in es)
  pub gone : AllByRecursion (IsGone plan) (noticed_in es)

told-more : (plan : List FateRow) (f : FrameName) (es : List Happening) → AreTold plan es → Among f (gone_in plan es) → was_told es f ≡ false → AreOnce (f ∷ noticed_in es)
told-more plan f es told gone untold g = by_cases (same_frame g f) (times g (f ∷ noticed_in es) ≤ 1)
    (λ h.
    let same = frame-is g f h in
    let none : times g (noticed_in es) ≡ 0 = subst (λ x. times x (noticed_in es) ≡ 0) (sym same) (any-none f (noticed_in es) untold) in
    let one = ap one_if h in omega (arith, none, one))
    (λ h. let before = told.once g in let one = ap one_if h in omega (arith, before, one))

abbrev AreToldIn : List FateRow → List FrameName → Type 0
AreToldIn plan xs = AreOnce xs × AllByRecursion (IsGone plan) xs

told-by : (plan : List FateRow) (w : World) (n : ℕ) (what : What) → IsDue plan w n what → AreTold plan w.done → AreToldIn plan (noticed_by what ++ noticed_in w.done)
told-by plan w n (Begin p) due told = (told.once, told.gone)
told-by plan w n (Go p) due told = (told.once, told.gone)
told-by plan w n (Take from index) due told = (told.once, told.gone)
told-by plan w n (Notice p from to index) due told = (told-more plan (from, to, index) w.done told due.0 due.1, (gone-are plan w.done (from, to, index) due.0, told.gone))
told-by plan w n (Ready phase) due told = (told.once, told.gone)
told-by plan w n (Mark from phase) due told = (told.once, told.gone)

pub told-kept : (plan : List FateRow) (w : World) (n : ℕ) (e : Happening) → IsDue plan w n e.what → AreTold plan w.done → AreTold plan (e ∷ w.done)
told-kept plan w n e due told = let after = told-by plan w n e.what due told in record { once = after.0; gone = after.1 }

-- the same by place
pub all-append : (P : FrameName → Type 0) (xs ys : List FrameName) → AllByRecursion P xs → AllByRecursion P ys → AllByRecursion P (xs ++ ys)
all-append P [] ys here there = there
all-append P (x ∷ xs) ys here there = (here.0, all-append P xs ys here.1 there)

pub all-left : (P : FrameName → Type 0) (xs ys : List FrameName) → AllByRecursion P (xs ++ ys) → AllByRecursion P xs
all-left P [] ys all = tt
all-left P (x ∷ xs) ys all = (all.0, all-left P xs ys all.1)

pub all-right : (P : FrameName → Type 0) (xs ys : List FrameName) → AllByRecursion P (xs ++ ys) → AllByRecursion P ys
all-right P [] ys all = all
all-right P (x ∷ xs) ys all = all-right P xs ys all.1

all-in : (P : FrameName → Type 0) (e : Happening) (es : List Happening) → AllByRecursion P (noticed_by e.what) → AllByRecursion P (noticed_in es) → AllByRecursion P (noticed_in (put_in_place e es))
all-in P e [] here there = all-append P (noticed_by e.what) [] here tt
all-in P e (x ∷ older) here there = either (place_lt x.place e.place) (all-in P e older here (all-right P (noticed_by x.what) (noticed_in older) there))
  where
    either : (b : Bool) → AllByRecursion P (noticed_in (put_in_place e older)) → AllByRecursion P (noticed_in (behind_if b e x older (put_in_place e older)))
    either true before = all-append P (noticed_by e.what) (noticed_in (x ∷ older)) here there
    either false before = all-append P (noticed_by x.what) (noticed_in (put_in_place e older)) (all-left P (noticed_by x.what) (noticed_in older) there) before

all-by_place : (P : FrameName → Type 0) (es : List Happening) → AllByRecursion P (noticed_in es) → AllByRecursion P (noticed_in (by_place es))
all-by_place P [] all = tt
all-by_place P (e ∷ older) all =
    all-in P e (by_place older) (all-left P (noticed_by e.what) (noticed_in older) all) (all-by_place P older (all-right P (noticed_by e.what) (noticed_in older) all))

pub told-by_place : (plan : List FateRow) (es : List Happening) → AreTold plan es → AreTold plan (by_place es)
told-by_place plan es told = record {
  once = λ f. let e = times-by_place f es in let o = told.once f in omega (arith, e, o);
  gone = all-by_place (IsGone plan) es told.gone;
}

pub told-all : (plan : List FateRow) (es : List Happening) → AreTold plan es → All (IsGone plan) (noticed_in es)
told-all plan es told = All-from_recursion (IsGone plan) (noticed_in es) told.gone
