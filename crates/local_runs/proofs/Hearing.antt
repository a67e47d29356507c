-- What came out of a ring was taken whole, since no frame there is of another link or version, and no mark stands twice.
use Rattle.std.proofs.Common.{◌≡◌, ℕ, ◌+◌, ◌≤◌, List, [], ◌∷◌, ◌++◌, map, Some, inl, inr, refl, sym, ap, ◌∙◌, append-nil, arith}
use Rattle.std.specs.Prelude.{◌==◌}
use Rattle.std.proofs.lemmas.Bool.{eq-eqb}
use Rattle.dom_history.specs.declared.plan.Fate.{Fate}
use Rattle.ring_messages.specs.Frames.{Message}
use Rattle.ring_messages.specs.Spelling.{spelling}
use Rattle.ring_messages.specs.Spelled.{IsFrame, Spells}
use Rattle.node_runs.specs.Runs.{numbered}
use Rattle.world_runs.specs.Waiting.{Entry, due, entries}
use Rattle.world_runs.specs.Sendings.{frames_in}
use Rattle.ring_links.specs.declared.entry.Waiting.{Waiting}
use Rattle.ring_links.specs.declared.entry.Waiting.TheVariants as waiting
use Rattle.ring_links.specs.Carried.{plain_name, IsFrameOf}
use Rattle.wire_links.specs.declared.carried.Parcel.{Parcel}
use Rattle.wire_links.specs.declared.carried.Parcel.TheVariants as parcel
use Rattle.wire_links.specs.declared.carried.Carried.{Carried}
use Rattle.wire_links.specs.declared.carried.Carried.TheVariants as carried
use Rattle.wire_links.specs.Carrying.{Posting, sending_of, frames_of, parcels_of, names_of, IsMarkIn}
use Rattle.local_runs.specs.Posts.{IsIn, count_if, IsPassedBy, IsHeard}
use Rattle.local_runs.proofs.Marks.{marks_posted}
use Rattle.local_runs.proofs.Members.{in-append, in-last, names-append, numbered-map}

abbrev pub times_marked : ℕ → List Entry → ℕ
times_marked phase [] = 0
times_marked phase (Entry.Copy index ∷ es) = times_marked phase es
times_marked phase (Entry.Mark at ∷ es) = count_if (phase == at) + times_marked phase es

marked-append : (phase : ℕ) (xs ys : List Entry) → times_marked phase (xs ++ ys) ≡ times_marked phase xs + times_marked phase ys
marked-append phase [] ys = omega arith
marked-append phase (Entry.Copy index ∷ xs) ys = marked-append phase xs ys
marked-append phase (Entry.Mark at ∷ xs) ys = let e = marked-append phase xs ys in omega (arith, e)

pub marks-prefix : (phase : ℕ) (xs ys : List Carried) → times_marked phase (names_of xs) ≤ times_marked phase (names_of (xs ++ ys))
marks-prefix phase xs ys =
    let a = ap (times_marked phase) (names-append xs ys) in
    let b = marked-append phase (names_of xs) (names_of ys) in
    omega (arith, a, b)

no-marks : (phase : ℕ) (ks : List ℕ) → times_marked phase (map Entry.Copy ks) ≡ 0
no-marks phase [] = refl
no-marks phase (k ∷ ks) = no-marks phase ks

pub marks-put : (phase : ℕ) (fate : ℕ → Fate) (xs : List Posting) → times_marked phase (entries fate (map sending_of xs)) ≡ marks_posted phase xs
marks-put phase fate [] = refl
marks-put phase fate (Posting.Frame m ∷ xs) =
    let ss = map sending_of xs in
    let a = marked-append phase (entries fate ss) (map Entry.Copy (due fate (frames_in ss))) in
    let b = no-marks phase (due fate (frames_in ss)) in
    let c = marks-put phase fate xs in
    omega (arith, a, b, c)
marks-put phase fate (Posting.Mark at tick ∷ xs) =
    let a = marked-append phase (entries fate (map sending_of xs)) (Entry.Mark at ∷ []) in
    let c = marks-put phase fate xs in
    omega (arith, a, c)

-- a copy has a frame of the link, a mark its tick
abbrev pub IsGoodEntry : ℕ → ℕ → ℕ → Waiting → Parcel → Type 0
IsGoodEntry wire from n (waiting.Copy index) received = (m : Message) × (received ≡ parcel.Frame (spelling m)) × (m.from ≡ from) × (m.to ≡ n) × IsFrame m × (m.version ≡ wire)
IsGoodEntry wire from n (waiting.Mark phase) received = (tick : ℕ) × (received ≡ parcel.Mark tick)

abbrev pub IsGood : ℕ → ℕ → ℕ → Carried → Type 0
IsGood wire from n (carried.Gone proc number index tick) = Unit {0}
IsGood wire from n (carried.Put e) = IsGoodEntry wire from n e.waiting e.received

module _ (wire from n : ℕ) (xs : List Posting) (links : (k : ℕ) (m : Message) → numbered k (frames_of xs) ≡ Some m → (m.from ≡ from) × (m.to ≡ n) × IsFrame m × (m.version ≡ wire)) where
  pub good-entry : (w : Waiting) (r : Parcel) → IsFrameOf (parcels_of xs) r w → IsMarkIn xs r w → IsGoodEntry wire from n w r
  good-entry (waiting.Copy index) r at is =
      let found = numbered-map (λ (m : Message). parcel.Frame (spelling m)) index (frames_of xs) r at in
      let link = links index found.0 found.1 in
      (found.0, sym found.2, link.0, link.1, link.2, link.3)
  good-entry (waiting.Mark phase) r at is = (is.0, is.2)

is-marked : (phase : ℕ) (es : List Entry) → IsIn (Entry.Mark phase) es → 1 ≤ times_marked phase es
is-marked phase [] is = absurd is
is-marked phase (Entry.Copy index ∷ es) (inl e) = absurd (cc)
is-marked phase (Entry.Copy index ∷ es) (inr is) = is-marked phase es is
is-marked phase (Entry.Mark at ∷ es) (inl e) =
    let same : phase ≡ at = cc in
    let one = ap count_if (eq-eqb phase at same) in
    omega (arith, one)
is-marked phase (Entry.Mark at ∷ es) (inr is) = let e = is-marked phase es is in omega (arith, e)

bytes-same : (a b : List ℕ) → parcel.Frame a ≡ parcel.Frame b → a ≡ b
bytes-same a b e = cc

module _ (wire from n : ℕ) (one : (m k : Message) (bytes : List ℕ) → Spells m bytes → Spells k bytes → m ≡ k) where
  not-passed : (es : List Entry) (w : Waiting) (r : Parcel) → IsPassedBy wire from n es w r → IsGoodEntry wire from n w r
      → ((phase : ℕ) → times_marked phase (es ++ plain_name w ∷ []) ≤ 1) → ⊥
  not-passed es (waiting.Copy index) (parcel.Frame bytes) (m, spells, other) (k, same, at, to, is, version) few =
      let e : m ≡ k = one m k bytes spells (record { frame = is; text = bytes-same bytes (spelling k) same }) in
      other (ap (λ (f : Message). f.from) e ∙ at) (ap (λ (f : Message). f.to) e ∙ to) (ap (λ (f : Message). f.version) e ∙ version)
  not-passed es (waiting.Copy index) (parcel.Mark tick) passed (k, same, at, to, is, version) few = absurd (cc)
  not-passed es (waiting.Mark phase) (parcel.Frame bytes) passed (tick, same) few = absurd (cc)
  not-passed es (waiting.Mark phase) (parcel.Mark at) passed (tick, same) few =
      let a = is-marked phase es passed in
      let b = marked-append phase es (Entry.Mark phase ∷ []) in
      let c = few phase in
      let d = ap count_if (eq-eqb phase phase refl) in
      absurd (omega (arith, a, b, c, d))

  abbrev AreGood : List Carried → Type 0
  AreGood xs = (c : Carried) → IsIn c xs → IsGood wire from n c

  abbrev AreFew : List Carried → Type 0
  AreFew xs = (phase : ℕ) → times_marked phase (names_of xs) ≤ 1

  fewer : (xs ys : List Carried) → AreFew (xs ++ ys) → AreFew xs
  fewer xs ys few phase = let a = marks-prefix phase xs ys in let b = few phase in omega (arith, a, b)

  pub all-heard : (xs : List Carried) (es : List Entry) → IsHeard wire from n xs es → AreGood xs → AreFew xs → es ≡ names_of xs
  all-heard _ _ IsHeard.nothing good few = refl
  all-heard _ _ (IsHeard.frame {xs = xs} {es = es} index bytes before) good few =
      let last = carried.Put (record { waiting = waiting.Copy index; received = parcel.Frame bytes }) ∷ [] in
      ap (λ (ys : List Entry). ys ++ Entry.Copy index ∷ []) (all-heard xs es before (λ c is. good c (in-append c xs last is)) (fewer xs last few))
      ∙ sym (names-append xs last)
  all-heard _ _ (IsHeard.mark {xs = xs} {es = es} phase tick before) good few =
      let last = carried.Put (record { waiting = waiting.Mark phase; received = parcel.Mark tick }) ∷ [] in
      ap (λ (ys : List Entry). ys ++ Entry.Mark phase ∷ []) (all-heard xs es before (λ c is. good c (in-append c xs last is)) (fewer xs last few))
      ∙ sym (names-append xs last)
  all-heard _ _ (IsHeard.passed {xs = xs} {es = es} (carried.Gone proc number index tick) before passed) good few =
      let last = carried.Gone proc number index tick ∷ [] in
      all-heard xs es before (λ c is. good c (in-append c xs last is)) (fewer xs last few)
      ∙ (sym (append-nil (names_of xs)) ∙ sym (names-append xs last))
  all-heard _ _ (IsHeard.passed {xs = xs} {es = es} (carried.Put e) before passed) good few =
      let last = carried.Put e ∷ [] in
      let same : es ≡ names_of xs = all-heard xs es before (λ c is. good c (in-append c xs last is)) (fewer xs last few) in
      let all : names_of (xs ++ last) ≡ es ++ plain_name e.waiting ∷ [] = names-append xs last ∙ ap (λ (ys : List Entry). ys ++ plain_name e.waiting ∷ []) (sym same) in
      absurd (not-passed es e.waiting e.received passed (good (carried.Put e) (in-last (carried.Put e) xs))
      (λ phase. let a = few phase in let b = ap (times_marked phase) all in omega (arith, a, b)))
