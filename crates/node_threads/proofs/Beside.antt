-- Ends of links that stay, and what is known of both ends of one.
use Rattle.std.proofs.Common.{◌≡◌, ◌≢◌, ℕ, zero, suc, ◌+◌, ◌<◌, ◌≤◌, List, [], ◌∷◌, ◌++◌, length, map, get_or, set, Some, inl, inr, refl, sym, ap, subst, ◌∙◌, arith}
use Rattle.std.specs.Prelude.{slice_get}
use Rattle.std.specs.List.{AllZip}
use Rattle.std.specs.declared.vec.Vec.{Vec}
use Rattle.std.proofs.lemmas.Bool.{cases_eq, cases_lt}
use Rattle.std.proofs.lemmas.Option.{slice_get_within, slice_get_read, get_or_from_slice_get}
use mathlib.Core.List.{IsPrefix}
use Rattle.wire_links.specs.declared.carried.Carried.{Carried}
use Rattle.wire_links.specs.declared.wire.WireIn.{WireIn}
use Rattle.wire_links.specs.declared.wire.WireOut.{WireOut}
use Rattle.wire_links.specs.Wires.{pushed, taken, known, AreEnds}
use Rattle.node_posts.specs.declared.post.Post.{Post}
use Rattle.node_posts.specs.Ends.{place_of}
use Rattle.node_posts.specs.Starts.{AreRings}
use Rattle.node_posts.proofs.Zips.{all-same, all-then, all-set, all-from, all-length}
use Rattle.node_posts.proofs.Going.{same-in, then-in, same-out, then-out}
use Rattle.ended_nodes.proofs.Elements.{map_at}
use Rattle.node_threads.specs.Joined.{OfEnds, IsFifo, StaysOut, StaysIn, StayOuts, StayIns, AllStayOuts, AllStayIns, OfLink, OfLinks, AreBeside}

-- one item changed, which was read before
pub set-stays : {A : Type 0} (R : A → A → Type 0) → ((x : A) → R x x) → (xs : List A) (i : ℕ) (x y : A) → i < length xs → x ≡ get_or xs i x → R x y → AllZip R xs (set xs i y)
set-stays R each xs i x y within is holds = all-set R each xs i y x within (subst (λ v. R v y) is holds)

pub stays-out : (o : WireOut) → StaysOut o o
stays-out o = record { same = same-out o; pushed_is = refl }

pub stays-in : (i : WireIn) → StaysIn i i
stays-in i = record { same = same-in i; taken_is = refl }

pub stays-out-then : (a b c : WireOut) → StaysOut a b → StaysOut b c → StaysOut a c
stays-out-then a b c x y = record { same = then-out a b c x.same y.same; pushed_is = y.pushed_is ∙ x.pushed_is }

pub stays-in-then : (a b c : WireIn) → StaysIn a b → StaysIn b c → StaysIn a c
stays-in-then a b c x y = record { same = then-in a b c x.same y.same; taken_is = y.taken_is ∙ x.taken_is }

pub outs-stay : (xs : List WireOut) → StayOuts xs xs
outs-stay xs = all-same StaysOut stays-out xs

pub ins-stay : (xs : List WireIn) → StayIns xs xs
ins-stay xs = all-same StaysIn stays-in xs

pub outs-stay-then : (xs ys zs : List WireOut) → StayOuts xs ys → StayOuts ys zs → StayOuts xs zs
outs-stay-then xs ys zs a b = all-then StaysOut stays-out-then xs ys zs a b

pub ins-stay-then : (xs ys zs : List WireIn) → StayIns xs ys → StayIns ys zs → StayIns xs zs
ins-stay-then xs ys zs a b = all-then StaysIn stays-in-then xs ys zs a b

module _ {Z : Type 0} where
  pub all-outs-stay : (xs : List (Vec WireOut Z)) → AllStayOuts xs xs
  all-outs-stay xs = all-same (λ x y. StayOuts x.items y.items) (λ x. outs-stay x.items) xs

  pub all-ins-stay : (xs : List (Vec WireIn Z)) → AllStayIns xs xs
  all-ins-stay xs = all-same (λ x y. StayIns x.items y.items) (λ x. ins-stay x.items) xs

  pub all-outs-stay-then : (xs ys zs : List (Vec WireOut Z)) → AllStayOuts xs ys → AllStayOuts ys zs → AllStayOuts xs zs
  all-outs-stay-then xs ys zs a b = all-then (λ x y. StayOuts x.items y.items) (λ x y z. outs-stay-then x.items y.items z.items) xs ys zs a b

  pub all-ins-stay-then : (xs ys zs : List (Vec WireIn Z)) → AllStayIns xs ys → AllStayIns ys zs → AllStayIns xs zs
  all-ins-stay-then xs ys zs a b = all-then (λ x y. StayIns x.items y.items) (λ x y z. ins-stay-then x.items y.items z.items) xs ys zs a b

  -- as many nodes have them
  pub outs-many : (xs ys : List (Vec WireOut Z)) → AllStayOuts xs ys → length ys ≡ length xs
  outs-many xs ys are = all-length (λ (x y : Vec WireOut Z). StayOuts x.items y.items) xs ys are

  pub ins-many : (xs ys : List (Vec WireIn Z)) → AllStayIns xs ys → length ys ≡ length xs
  ins-many xs ys are = all-length (λ (x y : Vec WireIn Z). StayIns x.items y.items) xs ys are

  -- those of one node changed, which were read before
  pub outs-set : (xs : List (Vec WireOut Z)) (i : ℕ) (x y : Vec WireOut Z) → i < length xs → x ≡ get_or xs i x → StayOuts x.items y.items → AllStayOuts xs (set xs i y)
  outs-set xs i x y within is stay = set-stays (λ (v w : Vec WireOut Z). StayOuts v.items w.items) (λ v. outs-stay v.items) xs i x y within is stay

  pub ins-set : (xs : List (Vec WireIn Z)) (i : ℕ) (x y : Vec WireIn Z) → i < length xs → x ≡ get_or xs i x → StayIns x.items y.items → AllStayIns xs (set xs i y)
  ins-set xs i x y within is stay = set-stays (λ (v w : Vec WireIn Z). StayIns v.items w.items) (λ v. ins-stay v.items) xs i x y within is stay

-- an item of the first list, and that of the second at its place
pub record IsMet {A : Type 0} (R : A → A → Type 0) (i : ℕ) (ys : List A) (x : A) : Type 0 where
  pub now : A
  pub there : slice_get ys i ≡ Some now
  pub is : R x now

pub all-onto : {A : Type 0} (R : A → A → Type 0) (xs ys : List A) (i : ℕ) (x : A) → AllZip R xs ys → slice_get xs i ≡ Some x → IsMet R i ys x
all-onto R [] ys i x are there = absurd (cc)
all-onto R (a ∷ xs) [] i x are there = absurd are
all-onto R (a ∷ xs) (b ∷ ys) zero x are there = let e : a ≡ x = cc in record { now = b; there = refl; is = subst (λ v. R v b) e are.0 }
all-onto R (a ∷ xs) (b ∷ ys) (suc i) x are there = let found = all-onto R xs ys i x are.1 there in record { now = found.now; there = found.there; is = found.is }

-- what holds of ends that stayed holds of them as they were
module _ {Z : Type 0} (T : WireOut → WireIn → Type 0) (back : (a b : WireOut) (c d : WireIn) → StaysOut a b → StaysIn c d → T b d → T a c) where
  pub link-back : (a b : ℕ) (outs now-outs : List (Vec WireOut Z)) (ins now-ins : List (Vec WireIn Z)) → AllStayOuts outs now-outs → AllStayIns ins now-ins → OfLink T a b now-outs now-ins → OfLink T a b outs ins
  link-back a b outs now-outs ins now-ins out-stay in-stay holds x y at-x at-y o i at-o at-i =
      let met-x = all-onto (λ (v w : Vec WireOut Z). StayOuts v.items w.items) outs now-outs a x out-stay at-x in
      let met-y = all-onto (λ (v w : Vec WireIn Z). StayIns v.items w.items) ins now-ins b y in-stay at-y in
      let met-o = all-onto StaysOut x.items met-x.now.items (place_of (a + 1) (b + 1)) o met-x.is at-o in
      let met-i = all-onto StaysIn y.items met-y.now.items (place_of (b + 1) (a + 1)) i met-y.is at-i in
      back o met-o.now i met-i.now met-o.is met-i.is (holds met-x.now met-y.now met-x.there met-y.there met-o.now met-i.now met-o.there met-i.there)

pub fifo-back : (a b : WireOut) (c d : WireIn) → StaysOut a b → StaysIn c d → IsFifo b d → IsFifo a c
fifo-back a b c d out into is =
    subst (λ (xs : List Carried). IsPrefix xs (pushed a)) into.taken_is (subst (λ (xs : List Carried). IsPrefix (taken d) xs) out.pushed_is is)

-- what holds of ends holds of them as they stay
module _ {Z : Type 0} (T : WireOut → WireIn → Type 0) (forth : (a b : WireOut) (c d : WireIn) → StaysOut a b → StaysIn c d → T a c → T b d) where
  pub link-forth : (a b : ℕ) (outs now-outs : List (Vec WireOut Z)) (ins now-ins : List (Vec WireIn Z)) → AllStayOuts outs now-outs → AllStayIns ins now-ins → OfLink T a b outs ins → OfLink T a b now-outs now-ins
  link-forth a b outs now-outs ins now-ins out-stay in-stay holds x y at-x at-y o i at-o at-i =
      let was-x = all-from (λ (v w : Vec WireOut Z). StayOuts v.items w.items) outs now-outs a x out-stay at-x in
      let was-y = all-from (λ (v w : Vec WireIn Z). StayIns v.items w.items) ins now-ins b y in-stay at-y in
      let was-o = all-from StaysOut was-x.was.items x.items (place_of (a + 1) (b + 1)) o was-x.is at-o in
      let was-i = all-from StaysIn was-y.was.items y.items (place_of (b + 1) (a + 1)) i was-y.is at-i in
      forth was-o.was o was-i.was i was-o.is was-i.is (holds was-x.was was-y.was was-x.there was-y.there was-o.was was-i.was was-o.there was-i.there)

pub ends-forth : (a b : WireOut) (c d : WireIn) → StaysOut a b → StaysIn c d → AreEnds a c → AreEnds b d
ends-forth a b c d out into is = let x = out.same in let y = into.same in search (x, y, is)

pub links-forth : {Z : Type 0} (outs now-outs : List (Vec WireOut Z)) (ins now-ins : List (Vec WireIn Z)) → AllStayOuts outs now-outs → AllStayIns ins now-ins → OfLinks AreEnds outs ins → OfLinks AreEnds now-outs now-ins
links-forth outs now-outs ins now-ins out-stay in-stay are a b differ = link-forth AreEnds ends-forth a b outs now-outs ins now-ins out-stay in-stay (are a b differ)

-- one link more was looked at: what holds of ends now holds of them as they were first
module _ {Z : Type 0} (outs now-outs : List (Vec WireOut Z)) (ins now-ins : List (Vec WireIn Z)) (out-stay : AllStayOuts outs now-outs) (in-stay : AllStayIns ins now-ins) where
  first-link : (a b : ℕ) → OfLink IsFifo a b now-outs now-ins → OfLink IsFifo a b outs ins
  first-link a b is = link-back IsFifo fifo-back a b outs now-outs ins now-ins out-stay in-stay is

  pub more-to : (a to : ℕ) → ((b : ℕ) → b < to → a ≢ b → OfLink IsFifo a b outs ins) → (a ≢ to → OfLink IsFifo a to now-outs now-ins)
      → (b : ℕ) → b < to + 1 → a ≢ b → OfLink IsFifo a b outs ins
  more-to a to before here b below differ = elim (cases_eq b to) [
    | inl same ↦ first-link a b (subst (λ (v : ℕ). a ≢ v → OfLink IsFifo a v now-outs now-ins) (sym same) here differ)
    | inr other ↦ before b (omega (arith, below, other)) differ
  ]

  pub more-from : (many from : ℕ) → ((a b : ℕ) → a < from → b < many → a ≢ b → OfLink IsFifo a b outs ins) → ((b : ℕ) → b < many → from ≢ b → OfLink IsFifo from b now-outs now-ins)
      → (a b : ℕ) → a < from + 1 → b < many → a ≢ b → OfLink IsFifo a b outs ins
  more-from many from before here a b below within differ = elim (cases_eq a from) [
    | inl same ↦ first-link a b (subst (λ (v : ℕ). v ≢ b → OfLink IsFifo v b now-outs now-ins) (sym same) (here b within) differ)
    | inr other ↦ before a b (omega (arith, below, other)) within differ
  ]

-- past the last node there is no link
pub no-link-from : {Z : Type 0} (T : WireOut → WireIn → Type 0) (a b : ℕ) (outs : List (Vec WireOut Z)) (ins : List (Vec WireIn Z)) → (a < length outs → ⊥) → OfLink T a b outs ins
no-link-from T a b outs ins none x y at-x at-y o i at-o at-i = absurd (none (slice_get_within outs a x at-x))

pub no-link-to : {Z : Type 0} (T : WireOut → WireIn → Type 0) (a b : ℕ) (outs : List (Vec WireOut Z)) (ins : List (Vec WireIn Z)) → (b < length ins → ⊥) → OfLink T a b outs ins
no-link-to T a b outs ins none x y at-x at-y o i at-o at-i = absurd (none (slice_get_within ins b y at-y))

pub every-link : {Z : Type 0} (outs : List (Vec WireOut Z)) (ins : List (Vec WireIn Z)) (till : ℕ) → length outs ≤ till → ((a b : ℕ) → a < till → b < length ins → a ≢ b → OfLink IsFifo a b outs ins) → OfLinks IsFifo outs ins
every-link outs ins till all each a b differ = elim (cases_lt a till) [
  | inl low ↦ elim (cases_lt b (length ins)) [
    | inl within ↦ each a b low within differ
    | inr past ↦ no-link-to IsFifo a b outs ins (λ f. omega (arith, f, past))
  ]
  | inr high ↦ no-link-from IsFifo a b outs ins (λ f. omega (arith, f, high, all))
]

-- with both ends in one hand
pub beside-fact : (outs : List WireOut) (at : ℕ) (ins : List WireIn) (other : ℕ) (o on : WireOut) (i in-now : WireIn) → o ≡ get_or outs at o → i ≡ get_or ins other i
    → taken in-now ++ known in-now ≡ pushed on → taken in-now ≡ taken i → pushed on ≡ pushed o → OfEnds IsFifo outs at ins other
beside-fact outs at ins other o on i in-now at-o at-i fifo took gone v w at-v at-w =
    let same-o : o ≡ v = at-o ∙ get_or_from_slice_get outs at v o at-v in
    let same-i : i ≡ w = at-i ∙ get_or_from_slice_get ins other w i at-w in (
      known in-now,
      ap (λ (xs : List Carried). xs ++ known in-now) (sym (took ∙ ap taken same-i)) ∙ (fifo ∙ (gone ∙ ap pushed same-o)),
    )

-- there are no such ends
pub no-ends-out : (T : WireOut → WireIn → Type 0) (outs : List WireOut) (at : ℕ) (ins : List WireIn) (other : ℕ) → (at < length outs → ⊥) → OfEnds T outs at ins other
no-ends-out T outs at ins other none o i at-o at-i = absurd (none (slice_get_within outs at o at-o))

pub no-ends-in : (T : WireOut → WireIn → Type 0) (outs : List WireOut) (at : ℕ) (ins : List WireIn) (other : ℕ) → (other < length ins → ⊥) → OfEnds T outs at ins other
no-ends-in T outs at ins other none o i at-o at-i = absurd (none (slice_get_within ins other i at-i))

-- the ends at these places, which were read, are those of a link
module _ {Z : Type 0} (T : WireOut → WireIn → Type 0) (a b : ℕ) (outs : List (Vec WireOut Z)) (ins : List (Vec WireIn Z)) (x : Vec WireOut Z) (y : Vec WireIn Z) (at other : ℕ)
    (is-x : x ≡ get_or outs a x) (is-y : y ≡ get_or ins b y) (is-at : at ≡ place_of (a + 1) (b + 1)) (is-other : other ≡ place_of (b + 1) (a + 1)) where
  pub link-of-ends : OfEnds T x.items at y.items other → OfLink T a b outs ins
  link-of-ends holds v w at-v at-w =
      let same-x : x ≡ v = is-x ∙ get_or_from_slice_get outs a v x at-v in
      let same-y : y ≡ w = is-y ∙ get_or_from_slice_get ins b w y at-w in
      subst (λ (u : Vec WireOut Z). OfEnds T u.items (place_of (a + 1) (b + 1)) w.items (place_of (b + 1) (a + 1))) same-x
      (subst (λ (u : Vec WireIn Z). OfEnds T x.items (place_of (a + 1) (b + 1)) u.items (place_of (b + 1) (a + 1))) same-y
      (subst (λ (n : ℕ). OfEnds T x.items n y.items (place_of (b + 1) (a + 1))) is-at (subst (λ (n : ℕ). OfEnds T x.items at y.items n) is-other holds)))

  pub ends-of-link : a < length outs → b < length ins → OfLink T a b outs ins → OfEnds T x.items at y.items other
  ends-of-link a-within b-within holds =
      subst (λ (n : ℕ). OfEnds T x.items at y.items n) (sym is-other)
      (subst (λ (n : ℕ). OfEnds T x.items n y.items (place_of (b + 1) (a + 1))) (sym is-at)
      (holds x y (slice_get_read outs (length outs) a x refl a-within is-x) (slice_get_read ins (length ins) b y refl b-within is-y)))

module _ {P G : Type 0} where
  -- the rings between posts are those of their ends
  pub rings-of : {Z : Type 0} (posts : List (Post P G)) (ends-out : Post P G → Vec WireOut Z) (ends-in : Post P G → Vec WireIn Z) → ((x : Post P G) → (ends-out x).items ≡ x.outs.items) → ((x : Post P G) → (ends-in x).items ≡ x.ins.items)
      → AreRings posts → OfLinks AreEnds (map ends-out posts) (map ends-in posts)
  rings-of {Z} posts ends-out ends-in out-is in-is rings a b differ x y at-x at-y o i at-o at-i =
      let found-x = map_at ends-out posts a x at-x in
      let found-y = map_at ends-in posts b y at-y in
      rings a b found-x.0 found-y.0 differ found-x.1 found-y.1 o i
      (subst (λ (os : List WireOut). slice_get os (place_of (a + 1) (b + 1)) ≡ Some o) (ap (λ (v : Vec WireOut Z). v.items) found-x.2 ∙ out-is found-x.0) at-o)
      (subst (λ (is : List WireIn). slice_get is (place_of (b + 1) (a + 1)) ≡ Some i) (ap (λ (v : Vec WireIn Z). v.items) found-y.2 ∙ in-is found-y.0) at-i)

  -- and what is known of both ends of each link is known of the posts
  pub beside-of : {Z : Type 0} (posts : List (Post P G)) (ends-out : Post P G → Vec WireOut Z) (ends-in : Post P G → Vec WireIn Z) → ((x : Post P G) → (ends-out x).items ≡ x.outs.items) → ((x : Post P G) → (ends-in x).items ≡ x.ins.items)
      → OfLinks IsFifo (map ends-out posts) (map ends-in posts) → AreBeside posts
  beside-of posts ends-out ends-in out-is in-is are a b x y differ at-x at-y o i at-o at-i =
      are a b differ (ends-out x) (ends-in y) (at-map ends-out posts a x at-x) (at-map ends-in posts b y at-y) o i
      (subst (λ (os : List WireOut). slice_get os (place_of (a + 1) (b + 1)) ≡ Some o) (sym (out-is x)) at-o)
      (subst (λ (is : List WireIn). slice_get is (place_of (b + 1) (a + 1)) ≡ Some i) (sym (in-is y)) at-i)
    where
      at-map : {A B : Type 0} (f : A → B) (xs : List A) (k : ℕ) (y : A) → slice_get xs k ≡ Some y → slice_get (map f xs) k ≡ Some (f y)
      at-map f [] k y e = absurd (cc)
      at-map f (z ∷ xs) zero y e = let same : z ≡ y = cc in ap (λ v. Some (f v)) same
      at-map f (z ∷ xs) (suc k) y e = at-map f xs k y e
