-- What waits on a link after an event, and what becomes of a frame on its way.
use Rattle.std.proofs.Common.{◌≡◌, ℕ, ◌+◌, Bool, true, false, List, [], ◌∷◌, ◌++◌, length, map, drop, inl, inr, refl, sym, ap, subst, ◌∙◌, append_assoc, append-nil}
use Rattle.std.specs.Prelude.{◌⊎◌, ◌==◌, ◌&&◌, ◌||◌}
use Rattle.std.specs.List.{list_any}
use Rattle.std.proofs.lemmas.List.Folds.{list_any-append}
use Rattle.std.proofs.Math.Seq.{drop-append_seam}
use Rattle.uid_names.proofs.Passed.{left-true, right-true, equal}
use Rattle.dom_history.specs.declared.event.What.{What}
use Rattle.dom_history.specs.declared.event.What.TheVariants.{Begin, Go, Take, Notice, Ready, Mark}
use Rattle.dom_history.specs.declared.plan.Fate.{Fate}
use Rattle.dom_history.specs.declared.plan.Fate.TheVariants.{Pass, Lose, Twice, Late}
use Rattle.dom_history.specs.declared.plan.FateRow.{FateRow}
use Rattle.dom_history.specs.Events.{Happening}
use Rattle.dom_history.specs.Histories.{SomeOf}
use Rattle.dom_history.specs.Plans.{fate_of}
use Rattle.node_runs.specs.Deliveries.{in_place, copies, is_gone, noticed_by, noticed_in}
use Rattle.node_runs.specs.Runs.{World}
use Rattle.world_runs.specs.Gone.{FrameName, same_frame, gone_by, gone_in, was_told}
use Rattle.world_runs.specs.Sendings.{Sending, sent_by, sendings, frames_in}
use Rattle.world_runs.specs.Waiting.{Entry, due, put_by, entries, entry_if, entry_by, entries_taken, entries_put, waiting}
use Rattle.world_runs.proofs.Among.{Among, among-append, among-left}
use Rattle.world_runs.proofs.Taking.{AreInOrder}
use Rattle.world_runs.proofs.Telling.{frame-is}
use Rattle.run_laws.specs.OpenFrames.{IsWaiting, IsUntold}

pub some-among : {A : Type 0} (x : A) (xs : List A) → SomeOf (λ (y : A). x ≡ y) xs → Among x xs
some-among x [] is = is
some-among x (y ∷ ys) (inl e) = inl e
some-among x (y ∷ ys) (inr is) = inr (some-among x ys is)

pub among-some : {A : Type 0} (x : A) (xs : List A) → Among x xs → SomeOf (λ (y : A). x ≡ y) xs
among-some x [] is = is
among-some x (y ∷ ys) (inl e) = inl e
among-some x (y ∷ ys) (inr is) = inr (among-some x ys is)

map-among : {A B : Type 0} (f : A → B) (x : A) (xs : List A) → Among x xs → Among (f x) (map f xs)
map-among f x [] is = absurd is
map-among f x (y ∷ ys) (inl e) = inl (ap f e)
map-among f x (y ∷ ys) (inr is) = inr (map-among f x ys is)

-- what these put behind those, the last first
abbrev pub behind : (ℕ → Fate) → List Sending → List Sending → List Entry
behind fate [] older = []
behind fate (x ∷ xs) older = behind fate xs older ++ put_by fate (frames_in (xs ++ older)) x

entries-behind : (fate : ℕ → Fate) (xs older : List Sending) → entries fate (xs ++ older) ≡ entries fate older ++ behind fate xs older
entries-behind fate [] older = sym (append-nil (entries fate older))
entries-behind fate (x ∷ xs) older =
    let last = put_by fate (frames_in (xs ++ older)) x in
    ap (λ (es : List Entry). es ++ last) (entries-behind fate xs older) ∙ append_assoc (entries fate older) (behind fate xs older) last

-- the oldest entry goes if the event takes it, and what the event sends is put behind
pub waits-next : (plan : List FateRow) (from to : ℕ) (e : Happening) (es : List Happening) → AreInOrder plan from to es → (rest : List Entry)
    → waiting plan from to es ≡ entry_by from to e.place.node e.what ++ rest → waiting plan from to (e ∷ es) ≡ rest ++ behind (fate_of plan from to) (sent_by from to e) (sendings from to es)
waits-next plan from to e es is rest oldest =
    let put = behind (fate_of plan from to) (sent_by from to e) (sendings from to es) in
    let taken = entries_taken from to es in
    let here = entry_by from to e.place.node e.what in
    let all : entries_put plan from to (e ∷ es) ≡ (taken ++ here) ++ (rest ++ put) =
    entries-behind (fate_of plan from to) (sent_by from to e) (sendings from to es)
    ∙ ap (λ (xs : List Entry). xs ++ put) (is.parts ∙ ap (λ (xs : List Entry). taken ++ xs) oldest)
    ∙ ap (λ (xs : List Entry). xs ++ put) (sym (append_assoc taken here rest))
    ∙ append_assoc (taken ++ here) rest put in
    ap (drop (length (taken ++ here))) all ∙ drop-append_seam (taken ++ here) (rest ++ put)

-- a frame that is sent is put behind, or it is lost or late
put-or-gone : (k : ℕ) (fate : Fate) → Among k (in_place k fate) ⊎ (is_gone fate ≡ true)
put-or-gone k Pass = inl (inl refl)
put-or-gone k Lose = inr refl
put-or-gone k (Twice n) = inl (inl refl)
put-or-gone k (Late n) = inr refl

behind-more : (fate : ℕ → Fate) (x : Entry) (xs ys older : List Sending) → Among x (behind fate ys older) → Among x (behind fate (xs ++ ys) older)
behind-more fate x [] ys older is = is
behind-more fate x (y ∷ xs) ys older is = among-left x (behind fate (xs ++ ys) older) (put_by fate (frames_in ((xs ++ ys) ++ older)) y) (behind-more fate x xs ys older is)

pub sent-behind : (fate : ℕ → Fate) (xs older : List Sending) → let k = frames_in older + 1 in Among (Entry.Copy k) (behind fate (xs ++ Sending.Frame ∷ []) older) ⊎ (is_gone (fate k) ≡ true)
sent-behind fate xs older = elim (put-or-gone (frames_in older + 1) (fate (frames_in older + 1))) [
  | inl is ↦ inl (behind-more fate (Entry.Copy (frames_in older + 1)) xs (Sending.Frame ∷ []) older
      (map-among Entry.Copy (frames_in older + 1) (due fate (frames_in older))
      (among-left (frames_in older + 1) (in_place (frames_in older + 1) (fate (frames_in older + 1))) (copies fate (frames_in older + 1) (frames_in older + 1)) is)))
  | inr is ↦ inr is
]

-- a copy that an event takes
taken-if : (b : Bool) (i k : ℕ) → Among (Entry.Copy i) (entry_if b (Entry.Copy k)) → (b ≡ true) × (i ≡ k)
taken-if true i k (inl e) = (refl, cc)
taken-if true i k (inr is) = absurd is
taken-if false i k is = absurd is

no-mark : (b : Bool) (i phase : ℕ) → Among (Entry.Copy i) (entry_if b (Entry.Mark phase)) → ⊥
no-mark true i phase (inl e) = absurd (cc)
no-mark true i phase (inr is) = is
no-mark false i phase is = is

taken-here : (from to n i : ℕ) (what : What) → Among (Entry.Copy i) (entry_by from to n what) → (what ≡ Take from i) × (n ≡ to)
taken-here from to n i (Begin p) is = absurd is
taken-here from to n i (Go p) is = absurd is
taken-here from to n i (Take a k) is =
    let both = taken-if ((a == from) && (n == to)) i k is in
    (ap (λ j. Take j k) (equal a from (left-true (a == from) (n == to) both.0)) ∙ ap (λ j. Take from j) (sym both.1), equal n to (right-true (a == from) (n == to) both.0))
taken-here from to n i (Notice p a b k) is = absurd is
taken-here from to n i (Ready phase) is = absurd is
taken-here from to n i (Mark a phase) is = absurd (no-mark ((a == from) && (n == to)) i phase is)

-- a frame that an event tells
pub only-one : (b : Bool) → (b || false) ≡ true → b ≡ true
only-one true h = refl
only-one false h = absurd (cc)

told-here : (f : FrameName) (what : What) → list_any (same_frame f) (noticed_by what) ≡ true → (q : ℕ) × (what ≡ Notice q f.0 f.1 f.2)
told-here f (Begin p) is = absurd (cc)
told-here f (Go p) is = absurd (cc)
told-here f (Take a k) is = absurd (cc)
told-here f (Notice p a b k) is = (p, sym (ap (λ (h : FrameName). Notice p h.0 h.1 h.2) (frame-is f (a, b, k) (only-one (same_frame f (a, b, k)) is))))
told-here f (Ready phase) is = absurd (cc)
told-here f (Mark a phase) is = absurd (cc)

-- a frame on its way stays so, or it is taken, or told
pub data Next (plan : List FateRow) (new : World) (n : ℕ) (what : What) (f : FrameName) : Type 0 where
  stays : IsWaiting plan new f ⊎ IsUntold plan new f → Next plan new n what f
  takes : what ≡ Take f.0 f.2 → n ≡ f.1 → Next plan new n what f
  tells : (q : ℕ) → what ≡ Notice q f.0 f.1 f.2 → Next plan new n what f

module _ (plan : List FateRow) (old new : World) (e : Happening) (done : new.done ≡ e ∷ old.done) (f : FrameName) where
  pub waiting-next : AreInOrder plan f.0 f.1 old.done → (rest : List Entry) → waiting plan f.0 f.1 old.done ≡ entry_by f.0 f.1 e.place.node e.what ++ rest
      → IsWaiting plan old f → Next plan new e.place.node e.what f
  waiting-next order rest oldest is = elim (among-append (Entry.Copy f.2) (entry_by f.0 f.1 e.place.node e.what) rest (subst (Among (Entry.Copy f.2)) oldest (some-among (Entry.Copy f.2) (waiting plan f.0 f.1 old.done) is))) [
    | inl taken ↦ (let both = taken-here f.0 f.1 e.place.node f.2 e.what taken in takes both.0 both.1)
    | inr more ↦ (let put = behind (fate_of plan f.0 f.1) (sent_by f.0 f.1 e) (sendings f.0 f.1 old.done) in
        stays (inl (subst (λ (es : List Happening). SomeOf (λ (x : Entry). Entry.Copy f.2 ≡ x) (waiting plan f.0 f.1 es)) (sym done)
        (subst (SomeOf (λ (x : Entry). Entry.Copy f.2 ≡ x)) (sym (waits-next plan f.0 f.1 e old.done order rest oldest))
        (among-some (Entry.Copy f.2) (rest ++ put) (among-left (Entry.Copy f.2) rest put more))))))
  ]

  pub untold-next : IsUntold plan old f → Next plan new e.place.node e.what f
  untold-next is = by (list_any (same_frame f) (noticed_by e.what)) refl
    where
      by : (b : Bool) → list_any (same_frame f) (noticed_by e.what) ≡ b → Next plan new e.place.node e.what f
      by true here = let told = told-here f e.what here in tells told.0 told.1
      by false here =
          stays (inr (subst (λ (es : List Happening). SomeOf (λ (g : FrameName). f ≡ g) (gone_in plan es) × (was_told es f ≡ false)) (sym done) (
            among-some f (gone_in plan old.done ++ gone_by plan e.place.node e.effects.sent old.done)
                (among-left f (gone_in plan old.done) (gone_by plan e.place.node e.effects.sent old.done) (some-among f (gone_in plan old.done) is.0)),
            list_any-append (same_frame f) (noticed_by e.what) (noticed_in old.done) ∙ ap (λ b. b || was_told old.done f) here ∙ is.1,
          )))
