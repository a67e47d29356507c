-- What an event receives is the same in two worlds in which the same was sent, as far as it matters.
use Rattle.std.proofs.Common.{◌≡◌, ℕ, ◌+◌, ◌<◌, ◌≤◌, Bool, true, false, cond, List, [], ◌∷◌, length, Option, Some, None, IfSome, refl, sym, ap, subst, ◌∙◌, arith}
use Rattle.std.specs.Prelude.{◌==◌, ◌&&◌}
use Rattle.std.proofs.lemmas.Bool.Decides.{nat_tests}
use Rattle.std.proofs.lemmas.Option.{same_Some}
use Rattle.uid_names.proofs.ListLemmas.{by_cases}
use Rattle.uid_names.specs.Names.{ProcName, same_proc}
use Rattle.dom_history.specs.declared.event.What.{What}
use Rattle.dom_history.specs.declared.event.What.TheVariants.{Begin, Go, Take, Notice, Ready, Mark}
use Rattle.ring_messages.specs.Frames.{Message, caller_of}
use Rattle.node_runs.specs.Incomings.{Incoming, tick_of}
use Rattle.node_runs.specs.Runs.{World, SentMark, numbered, taken, told_if, told_of, marked, mark_of, incoming_of}
use Rattle.world_runs.specs.ByPlace.{IsLike}
use Rattle.world_runs.proofs.Alike.{added, marked_by}

-- what is found there at a tick that is fine, is found here
abbrev IsFound : {A : Type 0} → (ℕ → Type 0) → (A → ℕ) → Option A → Option A → Type 0
IsFound {A} Fine tick there here = (x : A) → there ≡ Some x → Fine (tick x) → here ≡ Some x

module _ (Fine : ℕ → Type 0) where
  fine-tick : (i incoming : Incoming) → Some i ≡ Some incoming → Fine (tick_of incoming) → Fine (tick_of i)
  fine-tick i incoming e fine = subst (λ (x : Incoming). Fine (tick_of x)) (sym (same_Some i incoming e)) fine

  taken-as : (there here : Option Message) → IsFound Fine (λ m. m.tick) there here → (i : Incoming) → taken there ≡ Some i → Fine (tick_of i) → taken here ≡ Some i
  taken-as None here same i e fine = absurd (cc)
  taken-as (Some m) here same i e fine = ap taken (same m refl (fine-tick (Incoming.Frame m) i e fine)) ∙ e

  told-if-as : (b : Bool) (m : Message) (i : Incoming) → told_if b m ≡ Some i → Fine (tick_of i) → Fine m.tick
  told-if-as true m i e fine = fine-tick (Incoming.Gone m.number m.tick) i e fine
  told-if-as false m i e fine = absurd (cc)

  told-as : (p : ProcName) (there here : Option Message) → IsFound Fine (λ m. m.tick) there here → (i : Incoming) → told_of p there ≡ Some i → Fine (tick_of i) → told_of p here ≡ Some i
  told-as p None here same i e fine = absurd (cc)
  told-as p (Some m) here same i e fine = ap (told_of p) (same m refl (told-if-as (same_proc (caller_of m) p) m i e fine)) ∙ e

  marked-as : (there here : Option SentMark) → IsFound Fine (λ m. m.tick) there here → (i : Incoming) → marked there ≡ Some i → Fine (tick_of i) → marked here ≡ Some i
  marked-as None here same i e fine = absurd (cc)
  marked-as (Some m) here same i e fine = ap marked (same m refl (fine-tick (Incoming.Mark m.tick) i e fine)) ∙ e

  module _ (w v : World)
      (frames : (from to k : ℕ) → IsFound Fine (λ (m : Message). m.tick) (numbered k (w.frames from to)) (numbered k (v.frames from to)))
      (marks : (from phase : ℕ) → IsFound Fine (λ (m : SentMark). m.tick) (mark_of w from phase) (mark_of v from phase)) where
    pub incoming-as : (n : ℕ) (what : What) (i : Incoming) → incoming_of w n what ≡ Some i → Fine (tick_of i) → incoming_of v n what ≡ Some i
    incoming-as n (Begin p) i e fine = e
    incoming-as n (Go p) i e fine = e
    incoming-as n (Take from k) i e fine = taken-as (numbered k (w.frames from n)) (numbered k (v.frames from n)) (frames from n k) i e fine
    incoming-as n (Notice p from to k) i e fine = told-as (record { node = n; number = p }) (numbered k (w.frames from to)) (numbered k (v.frames from to)) (frames from to k) i e fine
    incoming-as n (Ready phase) i e fine = e
    incoming-as n (Mark from phase) i e fine = marked-as (mark_of w from phase) (mark_of v from phase) (marks from phase) i e fine

abbrev pub Always : ℕ → Type 0
Always t = Unit {0}

-- in worlds that are alike all is received alike
pub incoming-like : (w v : World) → IsLike w v → (n : ℕ) (what : What) (i : Incoming) → incoming_of w n what ≡ Some i → incoming_of v n what ≡ Some i
incoming-like w v like n what i e =
    incoming-as Always w v
    (λ from to k m found fine. ap (λ (xs : List Message). numbered k xs) (sym (like.frames from to)) ∙ found)
    (λ from phase m found fine. sym (like.marks from phase) ∙ found) n what i e tt

-- a number that has an item is within the list, and keeps it
pub numbered-within : {A : Type 0} (k : ℕ) (xs : List A) (x : A) → numbered k xs ≡ Some x → k ≤ length xs
numbered-within k [] x found = absurd (cc)
numbered-within k (y ∷ older) x found =
    by_cases (k == length older + 1) (k ≤ length (y ∷ older))
    (λ h. grind (arith, nat_tests, h))
    (λ h. let e = numbered-within k older x (subst (λ b. cond b (Some y) (numbered k older) ≡ Some x) h found) in omega (arith, e))

pub numbered-older : {A : Type 0} (k : ℕ) (y : A) (xs : List A) → k ≤ length xs → numbered k (y ∷ xs) ≡ numbered k xs
numbered-older k y xs within =
    by_cases (k == length xs + 1) (numbered k (y ∷ xs) ≡ numbered k xs)
    (λ h. absurd (let e : k ≡ length xs + 1 = grind (arith, nat_tests, h) in omega (arith, e, within)))
    (λ h. ap (λ b. cond b (Some y) (numbered k xs)) h)

-- a frame that was sent before this tick was there before the event of that tick
module _ (t k : ℕ) (m : Message) (early : m.tick < t) where
  newest-back : (x : Message) (xs : List Message) (b : Bool) → x.tick ≡ t → (k == length xs + 1) ≡ b → numbered k (x ∷ xs) ≡ Some m → numbered k xs ≡ Some m
  newest-back x xs true late is found =
      let same : x ≡ m = same_Some x m (sym (ap (λ b. cond b (Some x) (numbered k xs)) is) ∙ found) in
      let tick : x.tick ≡ m.tick = ap (λ (y : Message). y.tick) same in absurd (omega arith)
  newest-back x xs false late is found = sym (ap (λ b. cond b (Some x) (numbered k xs)) is) ∙ found

  beside-back : (b c : Bool) (x : Message) (xs : List Message) → x.tick ≡ t → numbered k (cond b (cond c (x ∷ xs) xs) xs) ≡ Some m → numbered k xs ≡ Some m
  beside-back true true x xs late found = newest-back x xs (k == length xs + 1) late refl found
  beside-back true false x xs late found = found
  beside-back false c x xs late found = found

  pub frame-back : (n : ℕ) (f : Option Message) (from to : ℕ) (xs : List Message) → IfSome f (λ x. x.tick ≡ t) → numbered k (added n f from to xs) ≡ Some m → numbered k xs ≡ Some m
  frame-back n None from to xs late found = found
  frame-back n (Some x) from to xs late found = beside-back (from == n) (to == x.to) x xs late found

-- and a frame that was there stays
beside-forth : (b c : Bool) (k : ℕ) (m x : Message) (xs : List Message) → numbered k xs ≡ Some m → numbered k (cond b (cond c (x ∷ xs) xs) xs) ≡ Some m
beside-forth true true k m x xs found = numbered-older k x xs (numbered-within k xs m found) ∙ found
beside-forth true false k m x xs found = found
beside-forth false c k m x xs found = found

pub frame-forth : (k n : ℕ) (m : Message) (f : Option Message) (from to : ℕ) (xs : List Message) → numbered k xs ≡ Some m → numbered k (added n f from to xs) ≡ Some m
frame-forth k n m None from to xs found = found
frame-forth k n m (Some x) from to xs found = beside-forth (from == n) (to == x.to) k m x xs found

-- the same of a mark
module _ (n t from phase : ℕ) (m : SentMark) where
  if-back : (b : Bool) (k : ℕ) (o : Option SentMark) → m.tick < t → cond b (Some (record { node = n; phase = k; tick = t })) o ≡ Some m → o ≡ Some m
  if-back true k o early found = absurd (let e : t ≡ m.tick = ap (λ (x : SentMark). x.tick) (same_Some (record { node = n; phase = k; tick = t }) m found) in omega (arith, e))
  if-back false k o early found = found

  pub mark-back : (what : What) (o : Option SentMark) → m.tick < t → marked_by n t what from phase o ≡ Some m → o ≡ Some m
  mark-back (Begin p) o early found = found
  mark-back (Go p) o early found = found
  mark-back (Take a k) o early found = found
  mark-back (Notice p a b k) o early found = found
  mark-back (Mark a k) o early found = found
  mark-back (Ready k) o early found = if-back ((n == from) && (k == phase)) k o early found

  -- the event sends no such mark
  abbrev pub IsOther : What → Type 0
  IsOther (Ready k) = ((n == from) && (k == phase)) ≡ false
  IsOther _ = Unit {0}

  pub mark-forth : (what : What) (o : Option SentMark) → IsOther what → o ≡ Some m → marked_by n t what from phase o ≡ Some m
  mark-forth (Begin p) o other found = found
  mark-forth (Go p) o other found = found
  mark-forth (Take a k) o other found = found
  mark-forth (Notice p a b k) o other found = found
  mark-forth (Mark a k) o other found = found
  mark-forth (Ready k) o other found = ap (λ b. cond b (Some (record { node = n; phase = k; tick = t })) o) other ∙ found
