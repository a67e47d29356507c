-- In a run by a plan as many frames were lost or are late as were told.
use Rattle.std.proofs.Common.{◌≡◌, ◌≢◌, ℕ, ◌+◌, ◌*◌, ◌≤◌, zero, suc, Bool, true, false, cond, List, [], ◌∷◌, ◌++◌, length, map, Option, Some, None, inl, inr, refl, sym, ap, subst, ◌∙◌, arith}
use Rattle.std.specs.Prelude.{◌==◌, AllPairs, All, find}
use Rattle.std.specs.List.{AllByRecursion}
use Rattle.std.specs.Option.{option_map}
use Rattle.std.proofs.lemmas.Bool.{cases_eq, cases_lt, ne_eqb}
use Rattle.std.proofs.lemmas.Bool.Decides.{nat_tests}
use Rattle.std.proofs.lemmas.List.Elements.{recursion_from_All}
use Rattle.std.proofs.lemmas.Option.{same_Some}
use Rattle.uid_names.proofs.ListLemmas.{by_cases}
use Rattle.dom_history.specs.declared.event.What.{What}
use Rattle.dom_history.specs.declared.event.What.TheVariants.{Begin, Go, Take, Notice, Ready, Mark}
use Rattle.dom_history.specs.declared.event.Sent.{Sent}
use Rattle.dom_history.specs.declared.plan.FateRow.{FateRow}
use Rattle.dom_history.specs.Events.{Happening}
use Rattle.dom_history.specs.Plans.{is_of_frame, fate_in, fate_or_pass, fate_of}
use Rattle.ring_messages.specs.Frames.{Message}
use Rattle.node_runs.specs.Setups.{Setup, IsSetup, given}
use Rattle.node_runs.specs.NodesKeep.{IsTimely}
use Rattle.node_runs.specs.Runs.{World, Choice, choice_of, numbered, world_after, world_of, IsRun}
use Rattle.node_runs.specs.Deliveries.{is_gone, noticed_by, noticed_in, IsPlanned}
use Rattle.node_runs.specs.CallsKeep.{EachOf}
use Rattle.node_runs.proofs.Worlds.{IsNext, place_at, every-run}
use Rattle.world_runs.specs.Sendings.{frame_to, frames_in, frames_on}
use Rattle.world_runs.specs.Gone.{FrameName, frame_if, gone_by, gone_in}
use Rattle.world_runs.specs.Faults.{faults_in}
use Rattle.world_runs.proofs.Sent.{step-sent}
use Rattle.world_runs.proofs.Alike.{frames-added}
use Rattle.world_runs.proofs.Receiving.{numbered-within}
use Rattle.world_runs.proofs.Among.{Among, among-left, among-right}
use Rattle.world_runs.proofs.Taking.{frames-counted, one-frame}
use Rattle.world_runs.proofs.Telling.{IsGone}
use Rattle.world_runs.proofs.Numbering.{own-frames, other-frames}
use Rattle.world_runs.proofs.Faults.{FoundAt, runs-fault, eight-times}

-- the frames of a run are counted by its events
pub record AreSent (w : World) : Type 0 where
  pub frames : (from to : ℕ) → length (w.frames from to) ≡ frames_on from to w.done

sent-later : (s : Setup) (old : World) (c : Choice) (new : World) → IsNext s old c new → AreSent old → AreSent new
sent-later s old c new is before =
    let it : Happening = record { place = place_at c is.step; what = c.what; effects = is.step.effects } in
    record {
      frames = λ from to.
          ap (λ (w : World). length (w.frames from to)) is.world
          ∙ ap (λ (xs : List Message). length xs) (frames-added old c.node is.step.frame from to)
          ∙ frames-counted is.step.node.tick c.node from to is.step.frame it old.done (old.frames from to) refl
          (step-sent (given s c.node) (old.nodes c.node) c.what is.incoming c.dropped is.step is.steps) (before.frames from to)
          ∙ sym (ap (λ (w : World). frames_on from to w.done) is.world);
    }

pub runs-sent : (s : Setup) (cs : List Choice) (w : World) → world_after s cs ≡ Some w → AreSent w
runs-sent s = every-run s AreSent (record { frames = λ from to. refl }) (sent-later s)

-- a number that has an item is not 0
numbered-low : {A : Type 0} (k : ℕ) (xs : List A) (x : A) → numbered k xs ≡ Some x → 1 ≤ k
numbered-low k [] x found = absurd (cc)
numbered-low k (y ∷ older) x found =
    by_cases (k == length older + 1) (1 ≤ k)
    (λ h. grind (arith, nat_tests, h))
    (λ h. numbered-low k older x (subst (λ b. cond b (Some y) (numbered k older) ≡ Some x) h found))

-- a frame that was sent and has such a fate is one of those that were lost or are late
in-frame : (b : Bool) (f : FrameName) → b ≡ true → Among f (frame_if b f)
in-frame true f h = inl refl
in-frame false f h = absurd (cc)

module _ (plan : List FateRow) where
  sent-now : (from : ℕ) (x : Option Sent) (older : List Happening) (b k : ℕ) → is_gone (fate_of plan from b k) ≡ true → k ≡ frames_on from b older + 1 → frames_in (frame_to b x) + frames_on from b older ≡ k → Among (from, b, k) (gone_by plan from x older)
  sent-now from None older b k gone next all = absurd (let z : 0 + frames_on from b older ≡ k = all in omega (arith, next, z))
  sent-now from (Some x) older b k gone next all = elim (cases_eq x.to b) [
    | inr differs ↦
        absurd (let none : frames_in (frame_to b (Some x)) ≡ 0 = one-frame (x.to == b) ∙ ap (λ (c : Bool). let i : ℕ = cond c 1 0 in i) (ne_eqb x.to b differs) in omega (arith, all, none, next))
    | inl same ↦
        subst (λ a. Among (from, b, k) (frame_if (is_gone (fate_of plan from a (frames_on from a older + 1))) (from, a, frames_on from a older + 1))) (sym same)
        (subst (λ i. Among (from, b, k) (frame_if (is_gone (fate_of plan from b i)) (from, b, i))) next (in-frame (is_gone (fate_of plan from b k)) (from, b, k) gone))
  ]

  pub gone-among : (es : List Happening) (a b k : ℕ) → 1 ≤ k → k ≤ frames_on a b es → is_gone (fate_of plan a b k) ≡ true → Among (a, b, k) (gone_in plan es)
  gone-among [] a b k low high gone = absurd (let h : k ≤ 0 = high in omega (arith, low, h))
  gone-among (e ∷ older) a b k low high gone = elim (cases_lt (frames_on a b older) k) [
    | inr before ↦ among-left (a, b, k) (gone_in plan older) (gone_by plan e.place.node e.effects.sent older) (gone-among older a b k low before gone)
    | inl after ↦ among-right (a, b, k) (gone_in plan older) (gone_by plan e.place.node e.effects.sent older) (elim (cases_eq e.place.node a) [
      | inr differs ↦ absurd (let h = other-frames a b e older differs in omega (arith, h, high, after))
      | inl same ↦
          (let all = own-frames a b e older same in
          let most : frames_in (frame_to b e.effects.sent) ≤ 1 = at-most e.effects.sent in
          let next : k ≡ frames_on a b older + 1 = omega (arith, all, most, high, after) in
          subst (λ n. Among (a, b, k) (gone_by plan n e.effects.sent older)) (sym same) (sent-now a e.effects.sent older b k gone next (omega (arith, all, most, high, after))))
    ])
  ]
    where
      at-most : (x : Option Sent) → frames_in (frame_to b x) ≤ 1
      at-most None = omega arith
      at-most (Some x) = let e = one-frame (x.to == b) in let f = cond-most (x.to == b) in omega (arith, e, f)
        where
          cond-most : (c : Bool) → cond c 1 0 ≤ 1
          cond-most true = omega arith
          cond-most false = omega arith

  -- the frames that were told were sent
  told-among : (w : World) → AreSent w → (es : List Happening) → EachOf (λ e. FoundAt w e.what) es → AllByRecursion (IsGone plan) (noticed_in es) → AllByRecursion (λ f. Among f (gone_in plan w.done)) (noticed_in es)
  told-among w sent [] found gone = tt
  told-among w sent (e ∷ es) found gone = by_what e.what found.0 (told-among w sent es found.1 (rest e.what gone)) gone
    where
      rest : (what : What) → AllByRecursion (IsGone plan) (noticed_by what ++ noticed_in es) → AllByRecursion (IsGone plan) (noticed_in es)
      rest (Begin p) all = all
      rest (Go p) all = all
      rest (Take from index) all = all
      rest (Notice p from to index) all = all.1
      rest (Ready phase) all = all
      rest (Mark from phase) all = all

      by_what : (what : What) → FoundAt w what → AllByRecursion (λ f. Among f (gone_in plan w.done)) (noticed_in es) → AllByRecursion (IsGone plan) (noticed_by what ++ noticed_in es)
          → AllByRecursion (λ f. Among f (gone_in plan w.done)) (noticed_by what ++ noticed_in es)
      by_what (Begin p) f all h = all
      by_what (Go p) f all h = all
      by_what (Take from index) f all h = all
      by_what (Notice p from to index) (m, is) all h = (
        gone-among w.done from to index (numbered-low index (w.frames from to) m is) (let a = numbered-within index (w.frames from to) m is in let b = sent.frames from to in omega (arith, a, b)) h.0,
        all,
      )
      by_what (Ready phase) f all h = all
      by_what (Mark from phase) f all h = all

-- items that differ, each among others, are no more than these
abbrev Rest : {A : Type 0} → A → List A → Type 0
Rest {A} x ys = (zs : List A) × (length ys ≡ length zs + 1) × ((z : A) → Among z ys → (x ≢ z) → Among z zs)

rest-first : {A : Type 0} (x y : A) (ys : List A) → x ≡ y → (z : A) → Among z (y ∷ ys) → (x ≢ z) → Among z ys
rest-first x y ys e z (inl f) differs = absurd (differs (e ∙ sym f))
rest-first x y ys e z (inr is) differs = is

rest-later : {A : Type 0} (x y : A) (ys zs : List A) → ((z : A) → Among z ys → (x ≢ z) → Among z zs) → (z : A) → Among z (y ∷ ys) → (x ≢ z) → Among z (y ∷ zs)
rest-later x y ys zs each z (inl f) differs = inl f
rest-later x y ys zs each z (inr among) differs = inr (each z among differs)

without : {A : Type 0} (x : A) (ys : List A) → Among x ys → Rest x ys
without x [] is = absurd is
without x (y ∷ ys) (inl e) = (ys, omega arith, rest-first x y ys e)
without x (y ∷ ys) (inr is) = let found = without x ys is in let many = found.1 in (y ∷ found.0, omega (arith, many), rest-later x y ys found.0 found.2)

all-two : {A : Type 0} (P Q R : A → Type 0) → ((x : A) → P x → Q x → R x) → (xs : List A) → AllByRecursion P xs → AllByRecursion Q xs → AllByRecursion R xs
all-two P Q R f [] ps qs = tt
all-two P Q R f (x ∷ xs) ps qs = (f x ps.0 qs.0, all-two P Q R f xs ps.1 qs.1)

abbrev AreDifferent : List FrameName → Type 0
AreDifferent [] = Unit {0}
AreDifferent (x ∷ xs) = AllByRecursion (λ z. x ≢ z) xs × AreDifferent xs

as-many : (xs ys : List FrameName) → AreDifferent xs → AllByRecursion (λ x. Among x ys) xs → length xs ≤ length ys
as-many [] ys differ among = omega arith
as-many (x ∷ xs) ys differ among =
    let found = without x ys among.0 in
    let rest = as-many xs found.0 differ.1 (all-two (λ z. Among z ys) (λ z. x ≢ z) (λ z. Among z found.0) (λ z is differs. found.2 z is differs) xs among.1 differ.0) in
    let many = found.1 in omega (arith, rest, many)

different : (xs : List FrameName) → AllPairs (λ f g. f ≢ g) xs → AreDifferent xs
different [] pairs = tt
different (x ∷ xs) pairs = (
  recursion_from_All (λ z. x ≢ z) xs (λ j d within. pairs zero (suc j) d (omega arith) (omega (arith, within))),
  different xs (λ i j d low high. pairs (suc i) (suc j) d (omega (arith, low)) (omega (arith, high))),
)

-- the events of a run
pub done-is : (s : Setup) (es : List Happening) (w : World) → IsRun s es → world_of s es ≡ Some w → w.done ≡ es
done-is s es w run is = same_Some w.done es (sym (ap (λ (o : Option World). option_map (λ (x : World). x.done) o) is) ∙ run)

-- eight times as many notices as link faults, at least
pub many-notices : (s : Setup) → IsSetup s → (es : List Happening) (w : World) → IsRun s es → world_of s es ≡ Some w → IsTimely w → 8 * length (faults_in w.trace) ≤ length (noticed_in es)
many-notices s setup es w run is timely =
    let eight = eight-times w (runs-fault s setup (map choice_of es) w is timely) in
    let equals = ap (λ (xs : List Happening). length (noticed_in xs)) (done-is s es w run is) in
    omega (arith, eight, equals)

-- by a plan no more notices than frames that are lost or late
pub few-notices : (s : Setup) → IsSetup s → (plan : List FateRow) (es : List Happening) (w : World) → IsPlanned s plan es → world_of s es ≡ Some w → IsTimely w → length (noticed_in es) ≤ length (gone_in plan es)
few-notices s setup plan es w planned is timely =
    let done = done-is s es w planned.run is in
    let faults = runs-fault s setup (map choice_of es) w is timely in
    let sent = runs-sent s (map choice_of es) w is in
    let gone = subst (λ (xs : List Happening). AllByRecursion (IsGone plan) (noticed_in xs)) (sym done) (recursion_from_All (IsGone plan) (noticed_in es) planned.gone) in
    let once = subst (λ (xs : List Happening). AreDifferent (noticed_in xs)) (sym done) (different (noticed_in es) planned.once) in
    subst (λ (xs : List Happening). length (noticed_in xs) ≤ length (gone_in plan xs)) done
    (as-many (noticed_in w.done) (gone_in plan w.done) once (told-among plan w sent w.done faults.found gone))

pub few-faults : (s : Setup) → IsSetup s → (plan : List FateRow) (es : List Happening) (w : World) → IsPlanned s plan es → world_of s es ≡ Some w → IsTimely w → 8 * length (faults_in w.trace) ≤ length (gone_in plan es)
few-faults s setup plan es w planned is timely =
    let many = many-notices s setup es w planned.run is timely in
    let few = few-notices s setup plan es w planned is timely in
    omega (arith, many, few)

-- a plan by which no frame is lost or late
module _ (plan : List FateRow) (none : All (λ row. is_gone row.fate ≡ false) plan) where
  found-none : (rows : List FateRow) → AllByRecursion (λ row. is_gone row.fate ≡ false) rows → (test : FateRow → Bool) → is_gone (fate_or_pass (fate_in (find test rows))) ≡ false
  found-none [] all test = refl
  found-none (row ∷ rows) all test = by_test (test row) (found-none rows all.1 test)
    where
      by_test : (b : Bool) → is_gone (fate_or_pass (fate_in (find test rows))) ≡ false → is_gone (fate_or_pass (fate_in (cond b (Some row) (find test rows)))) ≡ false
      by_test true rest = all.0
      by_test false rest = rest

  never-gone : (from to index : ℕ) → is_gone (fate_of plan from to index) ≡ false
  never-gone from to index = found-none plan (recursion_from_All (λ row. is_gone row.fate ≡ false) plan none) (is_of_frame from to index)

  none-by : (from : ℕ) (x : Option Sent) (older : List Happening) → gone_by plan from x older ≡ []
  none-by from None older = refl
  none-by from (Some x) older = ap (λ b. frame_if b (from, x.to, frames_on from x.to older + 1)) (never-gone from x.to (frames_on from x.to older + 1))

  none-gone : (es : List Happening) → gone_in plan es ≡ []
  none-gone [] = refl
  none-gone (e ∷ older) = ap (λ (fs : List FrameName). fs ++ gone_by plan e.place.node e.effects.sent older) (none-gone older) ∙ none-by e.place.node e.effects.sent older

  no-items : {A : Type 0} (xs : List A) → 8 * length xs ≤ 0 → xs ≡ []
  no-items [] few = refl
  no-items (x ∷ xs) few = absurd (omega (arith, few))

  pub no-faults : (s : Setup) → IsSetup s → (es : List Happening) (w : World) → IsPlanned s plan es → world_of s es ≡ Some w → IsTimely w → faults_in w.trace ≡ []
  no-faults s setup es w planned is timely =
      let few = few-faults s setup plan es w planned is timely in
      let equals = ap (λ (fs : List FrameName). length fs) (none-gone es) in
      no-items (faults_in w.trace) (omega (arith, few, equals))
