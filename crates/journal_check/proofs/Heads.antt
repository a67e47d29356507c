-- The heads of frames, and the frames that live, by their numbers.
use Rattle.std.proofs.Common.{◌≡◌, ◌≢◌, ℕ, zero, suc, ◌+◌, ◌-◌, ◌<◌, ◌≤◌, Bool, true, false, Option, Some, None, List, [], ◌∷◌, ◌++◌, length, drop, drop-cons, add-one, inl, inr, refl, sym, ap, ◌∙◌, arith}
use Rattle.std.specs.Prelude.{◌==◌, slice_get, slice_index_or, slice_set, filter, All, IsSome, if◌then◌else◌}
use Rattle.std.proofs.lemmas.Bool.{cases_eq}
use Rattle.std.proofs.lemmas.Bool.Decides.{nat_tests}
use Rattle.std.proofs.lemmas.Option.{same_Some, slice_get_past}
use Rattle.uid_names.proofs.ListLemmas.{by_cases, set-there, set-else, end-there}
use Rattle.ring_messages.specs.Frames.{Message}
use Rattle.node_runs.specs.Runs.{numbered}
use Rattle.journal_check.proofs.LinkPlaces.{read-at}
use Rattle.journal_check.specs.Kept.{head_at, live_at, told_if}
use Rattle.journal_check.specs.declared.frames.Head.{Head}
use Rattle.journal_check.specs.declared.frames.Live.{Live}

-- the items before the last one
end-else : {A : Type 0} (xs : List A) (y : A) (k : ℕ) → k ≢ length xs → slice_get (xs ++ y ∷ []) k ≡ slice_get xs k
end-else [] y zero differs = absurd (differs refl)
end-else [] y (suc k) differs = refl
end-else (x ∷ xs) y zero differs = refl
end-else (x ∷ xs) y (suc k) differs = end-else xs y k (λ same. differs (ap suc same))

pub head-end : (k : ℕ) (hs : List Head) (h : Head) → head_at k (hs ++ h ∷ []) ≡ (if k == length hs + 1 then Some h else head_at k hs)
head-end zero hs h =
    let other : (zero == length hs + 1) ≡ false = grind (arith, nat_tests) in
    sym (ap (λ b. if b then Some h else head_at zero hs) other)
head-end (suc k) hs h = elim (cases_eq k (length hs)) [
  | inl same ↦
      let here : (suc k == length hs + 1) ≡ true = grind (arith, nat_tests, same) in
      ap (slice_get (hs ++ h ∷ [])) same ∙ end-there hs h ∙ sym (ap (λ b. if b then Some h else slice_get hs k) here)
  | inr differs ↦
      let other : (suc k == length hs + 1) ≡ false = grind (arith, nat_tests, differs) in
      end-else hs h k differs ∙ sym (ap (λ b. if b then Some h else slice_get hs k) other)
]

pub head-within : (k : ℕ) (hs : List Head) (h : Head) → head_at k hs ≡ Some h → k ≤ length hs
head-within zero hs h is = omega arith
head-within (suc k) hs h is = by_cases (k == k) (suc k ≤ length hs) (λ _. within hs k is) (λ _. within hs k is)
  where
    within : (xs : List Head) (i : ℕ) → slice_get xs i ≡ Some h → suc i ≤ length xs
    within [] i e = absurd (cc)
    within (x ∷ xs) zero e = omega arith
    within (x ∷ xs) (suc i) e = let rest = within xs i e in omega (arith, rest)

-- the head of a number, as it is read; and the numbers that have none
pub head-read : (k : ℕ) (hs : List Head) (h : Head) → 1 ≤ k → k ≤ length hs → h ≡ slice_index_or hs (k - 1) h → head_at k hs ≡ Some h
head-read zero hs h some low is = absurd (omega (arith, some))
head-read (suc k) hs h some low is = read-at hs (suc k - 1) k h (omega (arith, low)) is (omega arith)

pub head-past : (k : ℕ) (hs : List Head) → length hs < k → head_at k hs ≡ None
head-past zero hs past = refl
head-past (suc k) hs past = slice_get_past hs k (omega (arith, past))

pub head-first : (k : ℕ) (hs : List Head) → k ≡ 0 → head_at k hs ≡ None
head-first k hs is = ap (λ i. head_at i hs) is

pub head-some : (k : ℕ) (hs : List Head) → IsSome (head_at k hs) → (1 ≤ k) × (k ≤ length hs)
head-some zero hs there = absurd (cc)
head-some (suc k) hs there = by (head_at (suc k) hs) refl there
  where
    by : (o : Option Head) → head_at (suc k) hs ≡ o → IsSome o → (1 ≤ suc k) × (suc k ≤ length hs)
    by None is none = absurd (cc)
    by (Some h) is some = (omega arith, head-within (suc k) hs h is)

-- one of them was told
abbrev pub told_head : Head → Head
told_head h = record h { told = true }

pub head-told : (hs : List Head) (index i : ℕ) (h : Head) → 1 ≤ index → index ≤ length hs → h ≡ slice_index_or hs (index - 1) h
    → head_at i (slice_set hs (index - 1) (told_head h)) ≡ told_if (i == index) (head_at i hs)
head-told hs index zero h some low is = by (zero == index)
  where
    by : (b : Bool) → (let none : Option Head = None in none ≡ told_if b none)
    by true = refl
    by false = refl
head-told hs index (suc j) h some low is = elim (cases_eq j (index - 1)) [
  | inl same ↦
      let here : (suc j == index) ≡ true = grind (arith, nat_tests, same, some) in
      let within : index - 1 < length hs = omega (arith, some, low) in
      ap (slice_get (slice_set hs (index - 1) (told_head h))) same
      ∙ (set-there hs (index - 1) (told_head h) within
      ∙ sym (ap (λ b. told_if b (slice_get hs j)) here ∙ ap (told_if true) (read-at hs (index - 1) j h within is (sym same))))
  | inr differs ↦
      let away : (suc j == index) ≡ false = grind (arith, nat_tests, differs, some) in
      set-else hs (index - 1) j (told_head h) differs ∙ sym (ap (λ b. told_if b (slice_get hs j)) away)
]

-- the number of a frame that was sent
pub numbered-low : {A : Type 0} (ys : List A) (i : ℕ) (y : A) → numbered i ys ≡ Some y → i ≤ length ys
numbered-low [] i y e = absurd (cc)
numbered-low (z ∷ ys) i y e =
    let low : i ≤ length ys + 1 = by_cases (i == length ys + 1) (i ≤ length ys + 1)
    (λ here. grind (arith, nat_tests, here))
    (λ away. let rest = numbered-low ys i y (sym (ap (λ b. if b then Some z else numbered i ys) away) ∙ e) in omega (arith, rest)) in
    omega (arith, low)

-- one frame more
pub numbered-more : (k : ℕ) (m : Message) (ms : List Message) (x : Message) → numbered k ms ≡ Some x → numbered k (m ∷ ms) ≡ Some x
numbered-more k m ms x is = elim (cases_eq k (length ms + 1)) [
  | inl same ↦ absurd (let low = numbered-low ms k x is in omega (arith, low, same))
  | inr differs ↦
      let other : (k == length ms + 1) ≡ false = grind (arith, nat_tests, differs) in
      ap (λ b. if b then Some m else numbered k ms) other ∙ is
]

pub numbered-last : (m : Message) (ms : List Message) → numbered (length ms + 1) (m ∷ ms) ≡ Some m
numbered-last m ms =
    let here : (length ms + 1 == length ms + 1) ≡ true = grind (arith, nat_tests) in
    ap (λ b. if b then Some m else numbered (length ms + 1) ms) here

-- what lives
abbrev pub first_if : Bool → Live → Option Message → Option Message
first_if true l rest = Some l.frame
first_if false l rest = rest

pub live-first : (k : ℕ) (l : Live) (ls : List Live) → live_at k (l ∷ ls) ≡ first_if (l.index == k) l (live_at k ls)
live-first k l ls = by_cases (l.index == k) (live_at k (l ∷ ls) ≡ first_if (l.index == k) l (live_at k ls))
    (λ here. rw here refl)
    (λ away. rw away refl)

pub live-drop : (k i : ℕ) (ls : List Live) (l : Live) → i < length ls → l ≡ slice_index_or ls i l → live_at k (drop i ls) ≡ first_if (l.index == k) l (live_at k (drop (i + 1) ls))
live-drop k i ls l low is =
    let own : drop i ls ≡ l ∷ drop (i + 1) ls =
    drop-cons ls i l low ∙ (ap (λ (x : Live). x ∷ drop (suc i) ls) (sym is) ∙ ap (λ n. l ∷ drop n ls) (sym (add-one i))) in
    ap (live_at k) own ∙ live-first k l (drop (i + 1) ls)

-- a frame that lives is the one of its number
pub live-right : (frames : List Message) (k : ℕ) (ls : List Live) (m : Message) → All (λ l. numbered l.index frames ≡ Some l.frame) ls → live_at k ls ≡ Some m → numbered k frames ≡ Some m
live-right frames k [] m right is = absurd (cc)
live-right frames k (l ∷ ls) m right is = by_cases (l.index == k) (numbered k frames ≡ Some m)
    (λ here.
    let same : l.index ≡ k = grind (arith, nat_tests, here) in
    let found : Some l.frame ≡ Some m = sym (live-first k l ls ∙ ap (λ b. first_if b l (live_at k ls)) here) ∙ is in
    ap (λ i. numbered i frames) (sym same) ∙ (right 0 l (omega arith) ∙ found))
    (λ away. live-right frames k ls m (λ i d low. right (suc i) d (omega (arith, low))) (sym (live-first k l ls ∙ ap (λ b. first_if b l (live_at k ls)) away) ∙ is))

-- a frame that went with others
pub record IsGone (keep : Live → Bool) (frames : List Message) (m : Message) : Type 0 where
  pub live : Live
  pub right : numbered live.index frames ≡ Some live.frame
  pub frame : live.frame ≡ m
  pub went : keep live ≡ false

filter-stays : (keep : Live → Bool) (l : Live) (ls : List Live) → keep l ≡ true → filter keep (l ∷ ls) ≡ l ∷ filter keep ls
filter-stays keep l ls stays = rw stays refl

filter-goes : (keep : Live → Bool) (l : Live) (ls : List Live) → keep l ≡ false → filter keep (l ∷ ls) ≡ filter keep ls
filter-goes keep l ls goes = rw goes refl

pub live-gone : (keep : Live → Bool) (frames : List Message) (k : ℕ) (ls : List Live) (m : Message) → All (λ l. numbered l.index frames ≡ Some l.frame) ls → live_at k (filter keep ls) ≡ None → live_at k ls ≡ Some m
    → IsGone keep frames m
live-gone keep frames k [] m right none is = absurd (cc)
live-gone keep frames k (l ∷ ls) m right none is =
    by (λ away gone. live-gone keep frames k ls m (λ i d low. right (suc i) d (omega (arith, low))) gone (sym (live-first k l ls ∙ ap (λ b. first_if b l (live_at k ls)) away) ∙ is)) (l.index == k) (keep l) refl refl
  where
    by : ((l.index == k) ≡ false → live_at k (filter keep ls) ≡ None → IsGone keep frames m) → (here stays : Bool) → (l.index == k) ≡ here → keep l ≡ stays → IsGone keep frames m
    by rest true false same test = record {
      live = l;
      right = right 0 l (omega arith);
      frame = same_Some l.frame m (sym (live-first k l ls ∙ ap (λ b. first_if b l (live_at k ls)) same) ∙ is);
      went = test;
    }
    by rest true true same test =
        absurd (let found : Some l.frame ≡ None = sym (ap (live_at k) (filter-stays keep l ls test) ∙ live-first k l (filter keep ls) ∙ ap (λ b. first_if b l (live_at k (filter keep ls))) same) ∙ none in cc)
    by rest false true same test =
        rest same (sym (ap (live_at k) (filter-stays keep l ls test) ∙ live-first k l (filter keep ls) ∙ ap (λ b. first_if b l (live_at k (filter keep ls))) same) ∙ none)
    by rest false false same test = rest same (sym (ap (live_at k) (filter-goes keep l ls test)) ∙ none)

-- one frame more that lives
pub live-end : (k : ℕ) (ls : List Live) (x : Live) → live_at k (ls ++ x ∷ []) ≡ None → (live_at k ls ≡ None) × ((x.index == k) ≡ false)
live-end k [] x none = (refl, by (x.index == k) refl)
  where
    by : (b : Bool) → (x.index == k) ≡ b → (x.index == k) ≡ false
    by true same = absurd (let found : Some x.frame ≡ None = sym (live-first k x [] ∙ ap (λ c. first_if c x None) same) ∙ none in cc)
    by false other = other
live-end k (l ∷ ls) x none = by (live-end k ls x) (l.index == k) refl
  where
    by : (live_at k (ls ++ x ∷ []) ≡ None → (live_at k ls ≡ None) × ((x.index == k) ≡ false)) → (b : Bool) → (l.index == k) ≡ b → (live_at k (l ∷ ls) ≡ None) × ((x.index == k) ≡ false)
    by rest true same = absurd (let found : Some l.frame ≡ None = sym (live-first k l (ls ++ x ∷ []) ∙ ap (λ c. first_if c l (live_at k (ls ++ x ∷ []))) same) ∙ none in cc)
    by rest false other =
        let both = rest (sym (live-first k l (ls ++ x ∷ []) ∙ ap (λ c. first_if c l (live_at k (ls ++ x ∷ []))) other) ∙ none) in
        (live-first k l ls ∙ ap (λ c. first_if c l (live_at k ls)) other ∙ both.0, both.1)
