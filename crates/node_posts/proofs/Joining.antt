-- One post after the other is joined with a new one.
use Rattle.std.proofs.Common.{◌≡◌, ◌≢◌, ℕ, zero, suc, ◌+◌, ◌<◌, ◌≤◌, List, [], ◌∷◌, ◌++◌, length, map, set, Some, None, inl, inr, refl, sym, ap, subst, ◌∙◌, arith, length-append}
use Rattle.std.proofs.lemmas.List.{length-set}
use Rattle.std.specs.Prelude.{◌-◌, ◌⊎◌, nat_lt, slice_get}
use Rattle.std.proofs.lemmas.Bool.Decides.{nat_tests}
use Rattle.std.proofs.lemmas.Option.{slice_get_within, same_Some}
use Rattle.uid_names.proofs.ListLemmas.{get-within, by_cases}
use Rattle.dom_history.specs.declared.plan.FateRow.{FateRow}
use Rattle.ring_links.specs.Carried.{empty_link}
use Rattle.node_core.specs.Nodes.{Noted}
use Rattle.ended_nodes.proofs.Elements.{behind}
use Rattle.wire_links.specs.declared.wire.WireIn.{WireIn}
use Rattle.wire_links.specs.declared.wire.WireOut.{WireOut}
use Rattle.wire_links.specs.Wires.{AreEnds, taken}
use Rattle.node_posts.specs.declared.post.Post.{Post}
use Rattle.node_posts.specs.Ends.{other_at, place_of}
use Rattle.node_posts.specs.Posts.{IsOut}
use Rattle.node_posts.specs.Starts.{IsNewLink, IsAlone, HasEnds, IsJoined, IsFirst, AreJoined, AreJoinedWith, IsRing}
use Rattle.node_posts.proofs.Placing.{other-low, other-high, place-low, place-high}

-- an item of a list that has one more at its end
pub data IsOfMore {A : Type 0} (xs : List A) (y : A) (k : ℕ) (x : A) : Type 0 where
  before : slice_get xs k ≡ Some x → k < length xs → IsOfMore xs y k x
  last : k ≡ length xs → x ≡ y → IsOfMore xs y k x

pub of-more : {A : Type 0} (xs : List A) (y : A) (k : ℕ) (x : A) → slice_get (xs ++ y ∷ []) k ≡ Some x → IsOfMore xs y k x
of-more [] y zero x there = last refl (sym (same_Some y x there))
of-more [] y (suc k) x there = absurd (cc)
of-more (z ∷ xs) y zero x there = before there (omega arith)
of-more (z ∷ xs) y (suc k) x there = one-more (of-more xs y k x there)
  where
    one-more : IsOfMore xs y k x → IsOfMore (z ∷ xs) y (suc k) x
    one-more (before found within) = before found (omega (arith, within))
    one-more (last at same) = last (ap suc at) same

module _ {P G : Type 0} (plan : List FateRow) (n : ℕ) where
  -- the post at a place was joined with the new one, whose ends there are these
  pub record IsJoinedAt (k : ℕ) (old new post : Post P G) : Type 0 where
    pub out : WireOut
    pub into : WireIn
    pub back : WireOut
    pub from : WireIn
    pub ends : HasEnds out from old new
    pub own_in : slice_get post.ins.items k ≡ Some into
    pub own_out : slice_get post.outs.items k ≡ Some back
    pub there : IsNewLink plan (k + 1) n out into
    pub here : IsNewLink plan n (k + 1) back from

  -- so many were
  pub record AreJoining (node : Noted P) (olds : List (Post P G)) (i : ℕ) (news : List (Post P G)) (post : Post P G) : Type 0 where
    pub many : length news ≡ length olds
    pub rest : (k : ℕ) → i ≤ k → slice_get news k ≡ slice_get olds k
    pub done : (k : ℕ) (x y : Post P G) → k < i → slice_get olds k ≡ Some x → slice_get news k ≡ Some y → IsJoinedAt k x y post
    pub node_is : post.node ≡ node
    pub own : post.own ≡ empty_link
    pub notices : post.notices.items ≡ []
    pub fault : post.fault ≡ None
    pub ins_many : length post.ins.items ≡ i
    pub outs_many : length post.outs.items ≡ i

nat_order : (a b : ℕ) → (a < b) ⊎ (b ≤ a)
nat_order a b = by_cases (nat_lt a b) ((a < b) ⊎ (b ≤ a)) (λ h. inl (grind (arith, nat_tests, h))) (λ h. inr (grind (arith, nat_tests, h)))

-- an item that stands in a list stands there with more at its end
get-before : {A : Type 0} (xs : List A) (y : A) (k : ℕ) (x : A) → slice_get xs k ≡ Some x → slice_get (xs ++ y ∷ []) k ≡ Some x
get-before [] y k x there = absurd (cc)
get-before (z ∷ xs) y zero x there = there
get-before (z ∷ xs) y (suc k) x there = get-before xs y k x there

-- what stands in front of the last item
front-of : {A : Type 0} (xs : List A) (y : A) (k : ℕ) (x : A) → slice_get (xs ++ y ∷ []) k ≡ Some x → k < length xs → slice_get xs k ≡ Some x
front-of [] y k x there within = absurd (omega (arith, within))
front-of (z ∷ xs) y zero x there within = there
front-of (z ∷ xs) y (suc k) x there within = front-of xs y k x there (omega (arith, within))

last-of-more : {A : Type 0} (xs : List A) (y : A) (k : ℕ) (x : A) → slice_get (xs ++ y ∷ []) k ≡ Some x → k ≡ length xs → x ≡ y
last-of-more xs y k x there at = same_Some x y (sym there ∙ (ap (slice_get (xs ++ y ∷ [])) at ∙ behind xs y []))

-- all were: the posts with the new one are joined
module _ {P G : Type 0} (plan : List FateRow) (node : Noted P) (olds news : List (Post P G)) (post : Post P G) (number : node.log.node ≡ length olds + 1) (joined : AreJoined plan olds)
    (is : AreJoining plan (length olds + 1) node olds (length olds) news post) where
  abbrev m : ℕ
  m = length olds

  abbrev n : ℕ
  n = m + 1

  record IsOld (k : ℕ) (y : Post P G) : Type 0 where
    pub was : Post P G
    pub there : slice_get olds k ≡ Some was
    pub first : IsFirst plan (m - 1) k was
    pub at : IsJoinedAt plan n k was y post

  old-at : (k : ℕ) (y : Post P G) → slice_get news k ≡ Some y → IsOld k y
  old-at k y there =
      let within : k < m = (let a = slice_get_within news k y there in let b = is.many in omega (arith, a, b)) in
      let found = get-within olds k within in
      record { was = found.0; there = found.1; first = joined.each k found.0 found.1; at = is.done k found.0 y within found.1 there }

  -- the ends of a post that was there
  old-first : (k : ℕ) (y : Post P G) → slice_get news k ≡ Some y → IsFirst plan m k y
  old-first k y there =
      let old = old-at k y there in
      let x = old.was in
      let some : k < m = (let a = slice_get_within news k y there in let b = is.many in omega (arith, a, b)) in
      let outs = length-append x.outs.items (old.at.out ∷ []) in
      let ins = length-append x.ins.items (old.at.from ∷ []) in
      let outs_are = ap (λ (xs : List WireOut). length xs) old.at.ends.outs in
      let ins_are = ap (λ (xs : List WireIn). length xs) old.at.ends.ins in
      let a = old.first.outs_many in
      let b = old.first.ins_many in
      record {
        number = ap (λ (v : Noted P). v.log.node) old.at.ends.node ∙ old.first.number;
        own = old.at.ends.own ∙ old.first.own;
        notices = old.at.ends.notices ∙ old.first.notices;
        fault = old.at.ends.fault ∙ old.first.fault;
        outs_many = omega (arith, outs, outs_are, a, some);
        ins_many = omega (arith, ins, ins_are, b, some);
        outs = λ at o e. by-out at o (of-more x.outs.items old.at.out at o (subst (λ (xs : List WireOut). slice_get xs at ≡ Some o) old.at.ends.outs e));
        ins = λ at i e. by-in at i (of-more x.ins.items old.at.from at i (subst (λ (xs : List WireIn). slice_get xs at ≡ Some i) old.at.ends.ins e));
      }
    where
      by-out : (at : ℕ) (o : WireOut) → IsOfMore (old-at k y there).was.outs.items (old-at k y there).at.out at o → IsOut plan (k + 1) (other_at (k + 1) at) [] o
      by-out at o (before found within) = (old-at k y there).first.outs at o found
      by-out at o (last here same) =
          let old = old-at k y there in
          let many = old.first.outs_many in
          let some : k < m = (let a = slice_get_within news k y there in let b = is.many in omega (arith, a, b)) in
          let to : other_at (k + 1) at ≡ n = other-high (k + 1) at (omega (arith, here, many, some)) ∙ omega (arith, here, many, some) in
          subst (λ (j : ℕ). IsOut plan (k + 1) j [] o) (sym to) (subst (IsOut plan (k + 1) n []) (sym same) (record { link = old.at.there.link; wire = old.at.there.unused.wire }))

      by-in : (at : ℕ) (i : WireIn) → IsOfMore (old-at k y there).was.ins.items (old-at k y there).at.from at i → taken i ≡ []
      by-in at i (before found within) = (old-at k y there).first.ins at i found
      by-in at i (last here same) = ap taken same ∙ (old-at k y there).at.here.unused.come_out

  -- those of the new one
  new-out : (at : ℕ) (o : WireOut) → slice_get post.outs.items at ≡ Some o → IsOut plan n (other_at n at) [] o
  new-out at o there =
      let within : at < m = (let a = slice_get_within post.outs.items at o there in let b = is.outs_many in omega (arith, a, b)) in
      let found = get-within news at (let b = is.many in omega (arith, within, b)) in
      let old = old-at at found.0 found.1 in
      let same : old.at.back ≡ o = same_Some old.at.back o (sym old.at.own_out ∙ there) in
      let to : other_at n at ≡ at + 1 = other-low n at (omega (arith, within)) in
      subst (λ (j : ℕ). IsOut plan n j [] o) (sym to) (subst (IsOut plan n (at + 1) []) same (record { link = old.at.here.link; wire = old.at.here.unused.wire }))

  new-in : (at : ℕ) (i : WireIn) → slice_get post.ins.items at ≡ Some i → taken i ≡ []
  new-in at i there =
      let within : at < m = (let a = slice_get_within post.ins.items at i there in let b = is.ins_many in omega (arith, a, b)) in
      let found = get-within news at (let b = is.many in omega (arith, within, b)) in
      let old = old-at at found.0 found.1 in
      let same : old.at.into ≡ i = same_Some old.at.into i (sym old.at.own_in ∙ there) in
      ap taken (sym same) ∙ old.at.there.unused.come_out

  new-first : IsFirst plan m m post
  new-first = record {
    number = ap (λ (v : Noted P). v.log.node) is.node_is ∙ number;
    own = is.own;
    notices = is.notices;
    fault = is.fault;
    outs_many = is.outs_many;
    ins_many = is.ins_many;
    outs = new-out;
    ins = new-in;
  }

  all-many : length (news ++ post ∷ []) - 1 ≡ m
  all-many = let a = length-append news (post ∷ []) in let b = is.many in omega (arith, a, b)

  each : (k : ℕ) (y : Post P G) → IsOfMore news post k y → IsFirst plan m k y
  each k y (before there within) = old-first k y there
  each k y (last at same) =
      subst (IsFirst plan m k) (sym same) (subst (λ (j : ℕ). IsFirst plan m j post) (sym (at ∙ is.many)) new-first)

  -- the rings
  old-ring : (a b : ℕ) (x y : Post P G) → a ≢ b → slice_get news a ≡ Some x → slice_get news b ≡ Some y → IsRing (a + 1) (b + 1) x y
  old-ring a b x y differs first second o i out into =
      let p = old-at a x first in
      let q = old-at b y second in
      let low : a < m = (let c = slice_get_within news a x first in let d = is.many in omega (arith, c, d)) in
      let also : b < m = (let c = slice_get_within news b y second in let d = is.many in omega (arith, c, d)) in
      joined.rings a b p.was q.was differs p.there q.there o i
      (front-of p.was.outs.items p.at.out (place_of (a + 1) (b + 1)) o (subst (λ (xs : List WireOut). slice_get xs (place_of (a + 1) (b + 1)) ≡ Some o) p.at.ends.outs out)
      (let many = p.first.outs_many in place-below a b differs low also (length p.was.outs.items) many))
      (front-of q.was.ins.items q.at.from (place_of (b + 1) (a + 1)) i (subst (λ (xs : List WireIn). slice_get xs (place_of (b + 1) (a + 1)) ≡ Some i) q.at.ends.ins into)
      (let many = q.first.ins_many in place-below b a (λ h. differs (sym h)) also low (length q.was.ins.items) many))
    where
      place-below : (a b : ℕ) → a ≢ b → a < m → b < m → (many : ℕ) → many ≡ m - 1 → place_of (a + 1) (b + 1) < many
      place-below a b differs low also many same = elim (nat_order b a) [
        | inl below ↦ (let e = place-low (a + 1) (b + 1) (omega (arith, below)) in omega (arith, e, low, also, same, below))
        | inr above ↦ (let e = place-high (a + 1) (b + 1) (omega (arith, above)) in omega (arith, e, low, also, same, above, differs))
      ]

  to-new : (a : ℕ) (x : Post P G) → slice_get news a ≡ Some x → IsRing (a + 1) n x post
  to-new a x first o i out into =
      let p = old-at a x first in
      let low : a < m = (let c = slice_get_within news a x first in let d = is.many in omega (arith, c, d)) in
      let at : place_of (a + 1) n ≡ length p.was.outs.items = (let e = place-high (a + 1) n (omega (arith, low)) in let many = p.first.outs_many in omega (arith, e, low, many)) in
      let there : place_of n (a + 1) ≡ a = (let e = place-low n (a + 1) (omega (arith, low)) in omega (arith, e)) in
      let same_out : o ≡ p.at.out = last-of-more p.was.outs.items p.at.out (place_of (a + 1) n) o (subst (λ (xs : List WireOut). slice_get xs (place_of (a + 1) n) ≡ Some o) p.at.ends.outs out) at in
      let same_in : i ≡ p.at.into = same_Some i p.at.into (sym into ∙ (ap (slice_get post.ins.items) there ∙ p.at.own_in)) in
      subst (λ (v : WireOut). AreEnds v i) (sym same_out) (subst (AreEnds p.at.out) (sym same_in) p.at.there.ends)

  from-new : (b : ℕ) (y : Post P G) → slice_get news b ≡ Some y → IsRing n (b + 1) post y
  from-new b y second o i out into =
      let q = old-at b y second in
      let low : b < m = (let c = slice_get_within news b y second in let d = is.many in omega (arith, c, d)) in
      let at : place_of (b + 1) n ≡ length q.was.ins.items = (let e = place-high (b + 1) n (omega (arith, low)) in let many = q.first.ins_many in omega (arith, e, low, many)) in
      let there : place_of n (b + 1) ≡ b = (let e = place-low n (b + 1) (omega (arith, low)) in omega (arith, e)) in
      let same_in : i ≡ q.at.from = last-of-more q.was.ins.items q.at.from (place_of (b + 1) n) i (subst (λ (xs : List WireIn). slice_get xs (place_of (b + 1) n) ≡ Some i) q.at.ends.ins into) at in
      let same_out : o ≡ q.at.back = same_Some o q.at.back (sym out ∙ (ap (slice_get post.outs.items) there ∙ q.at.own_out)) in
      subst (λ (v : WireOut). AreEnds v i) (sym same_out) (subst (AreEnds q.at.back) (sym same_in) q.at.here.ends)

  ring : (a b : ℕ) (x y : Post P G) → a ≢ b → IsOfMore news post a x → IsOfMore news post b y → IsRing (a + 1) (b + 1) x y
  ring a b x y differs (before first low) (before second also) = old-ring a b x y differs first second
  ring a b x y differs (before first low) (last at same) =
      subst (λ (j : ℕ). IsRing (a + 1) (j + 1) x y) (sym (at ∙ is.many)) (subst (IsRing (a + 1) n x) (sym same) (to-new a x first))
  ring a b x y differs (last at same) (before second also) =
      subst (λ (j : ℕ). IsRing (j + 1) (b + 1) x y) (sym (at ∙ is.many)) (subst (λ (v : Post P G). IsRing n (b + 1) v y) (sym same) (from-new b y second))
  ring a b x y differs (last at same) (last also too) = absurd (differs (at ∙ sym also))

  pub joined-next : AreJoined plan (news ++ post ∷ [])
  joined-next = record {
    each = λ k y there. subst (λ (j : ℕ). IsFirst plan j k y) (sym all-many) (each k y (of-more news post k y there));
    rings = λ a b x y differs first second. ring a b x y differs (of-more news post a x first) (of-more news post b y second);
  }

-- one post after the other is joined with the new one
same-item : {A : Type 0} (xs : List A) (i k : ℕ) (y : A) → k ≢ i → slice_get (set xs i y) k ≡ slice_get xs k
same-item [] i k y differs = refl
same-item (x ∷ xs) zero zero y differs = absurd (differs refl)
same-item (x ∷ xs) zero (suc k) y differs = refl
same-item (x ∷ xs) (suc i) zero y differs = refl
same-item (x ∷ xs) (suc i) (suc k) y differs = same-item xs i k y (λ h. differs (ap suc h))

new-item : {A : Type 0} (xs : List A) (i : ℕ) (y : A) → i < length xs → slice_get (set xs i y) i ≡ Some y
new-item [] i y within = absurd (omega (arith, within))
new-item (x ∷ xs) zero y within = refl
new-item (x ∷ xs) (suc i) y within = new-item xs i y (omega (arith, within))

module _ {P G : Type 0} (plan : List FateRow) where
  pub join-none : (node : Noted P) (olds : List (Post P G)) (post : Post P G) → IsAlone node post → AreJoining plan (length olds + 1) node olds 0 olds post
  join-none node olds post is = record {
    many = refl;
    rest = λ k past. refl;
    done = λ k x y low. absurd (omega (arith, low));
    node_is = is.node_is;
    own = is.own;
    notices = is.notices;
    fault = is.fault;
    ins_many = ap (λ (xs : List WireIn). length xs) is.ins;
    outs_many = ap (λ (xs : List WireOut). length xs) is.outs;
  }

  module _ (node : Noted P) (olds : List (Post P G)) (number : node.log.node ≡ length olds + 1) (joined : AreJoined plan olds) (i : ℕ) (news : List (Post P G)) (post : Post P G)
      (is : AreJoining plan (length olds + 1) node olds i news post) (x : Post P G) (there : slice_get news i ≡ Some x) where
    turn-old : slice_get olds i ≡ Some x
    turn-old = sym (is.rest i (omega arith)) ∙ there

    turn-number : x.node.log.node ≡ i + 1
    turn-number = (joined.each i x turn-old).number

    own-number : post.node.log.node ≡ length olds + 1
    own-number = ap (λ (v : Noted P). v.log.node) is.node_is ∙ number

    -- it is another node
    pub turn-apart : x.node.log.node ≢ post.node.log.node
    turn-apart same = let a = slice_get_within olds i x turn-old in let b = turn-number in let c = own-number in absurd (omega (arith, a, b, c, same))

    module _ (y next : Post P G) (turn : IsJoined plan x post y next) where
      turned : (was now : Post P G) → slice_get olds i ≡ Some was → slice_get (set news i y) i ≡ Some now → IsJoinedAt plan (length olds + 1) i was now next
      turned was now old new =
          let first : x ≡ was = same_Some x was (sym turn-old ∙ old) in
          let second : y ≡ now = same_Some y now (sym (new-item news i y (slice_get_within news i x there)) ∙ new) in
          record {
            out = turn.out;
            into = turn.into;
            back = turn.back;
            from = turn.from;
            ends = subst (λ (v : Post P G). HasEnds turn.out turn.from v now) first (subst (HasEnds turn.out turn.from x) second turn.first);
            own_in =
                subst (λ (vs : List WireIn). slice_get vs i ≡ Some turn.into) (sym turn.second.ins)
                (ap (slice_get (post.ins.items ++ turn.into ∷ [])) (sym is.ins_many) ∙ behind post.ins.items turn.into []);
            own_out =
                subst (λ (vs : List WireOut). slice_get vs i ≡ Some turn.back) (sym turn.second.outs)
                (ap (slice_get (post.outs.items ++ turn.back ∷ [])) (sym is.outs_many) ∙ behind post.outs.items turn.back []);
            there = subst (λ (k : ℕ). IsNewLink plan k (length olds + 1) turn.out turn.into) turn-number (subst (λ (k : ℕ). IsNewLink plan x.node.log.node k turn.out turn.into) own-number turn.there);
            here = subst (λ (k : ℕ). IsNewLink plan (length olds + 1) k turn.back turn.from) turn-number (subst (λ (k : ℕ). IsNewLink plan k x.node.log.node turn.back turn.from) own-number turn.here);
          }

      before-it : (k : ℕ) (was now : Post P G) → k < i → slice_get olds k ≡ Some was → slice_get (set news i y) k ≡ Some now → IsJoinedAt plan (length olds + 1) k was now next
      before-it k was now low old new =
          let d = is.done k was now low old (sym (same-item news i k y (λ h. absurd (omega (arith, low, h)))) ∙ new) in
          record {
            out = d.out;
            into = d.into;
            back = d.back;
            from = d.from;
            ends = d.ends;
            own_in = subst (λ (vs : List WireIn). slice_get vs k ≡ Some d.into) (sym turn.second.ins) (get-before post.ins.items turn.into k d.into d.own_in);
            own_out = subst (λ (vs : List WireOut). slice_get vs k ≡ Some d.back) (sym turn.second.outs) (get-before post.outs.items turn.back k d.back d.own_out);
            there = d.there;
            here = d.here;
          }

      joined-at : (k : ℕ) (was now : Post P G) → k < i + 1 → slice_get olds k ≡ Some was → slice_get (set news i y) k ≡ Some now → IsJoinedAt plan (length olds + 1) k was now next
      joined-at k was now low old new = elim (nat_order k i) [
        | inl below ↦ before-it k was now below old new
        | inr above ↦
            (let same : i ≡ k = omega (arith, low, above) in
            subst (λ (j : ℕ). slice_get olds j ≡ Some was → slice_get (set news i y) j ≡ Some now → IsJoinedAt plan (length olds + 1) j was now next) same (turned was now) old new)
      ]

      pub join-more : AreJoining plan (length olds + 1) node olds (i + 1) (set news i y) next
      join-more = record {
        many = length-set news i y ∙ is.many;
        rest = λ k past. same-item news i k y (λ h. absurd (omega (arith, past, h))) ∙ is.rest k (omega (arith, past));
        done = joined-at;
        node_is = turn.second.node ∙ is.node_is;
        own = turn.second.own ∙ is.own;
        notices = turn.second.notices ∙ is.notices;
        fault = turn.second.fault ∙ is.fault;
        ins_many =
            (let a = ap (λ (vs : List WireIn). length vs) turn.second.ins in
            let b = length-append post.ins.items (turn.into ∷ []) in
            let c = is.ins_many in
            omega (arith, a, b, c));
        outs_many =
            (let a = ap (λ (vs : List WireOut). length vs) turn.second.outs in
            let b = length-append post.outs.items (turn.back ∷ []) in
            let c = is.outs_many in
            omega (arith, a, b, c));
      }

-- the nodes of the others are theirs
same-nodes : {P G : Type 0} (xs ys : List (Post P G)) → length xs ≡ length ys → ((k : ℕ) (x y : Post P G) → slice_get xs k ≡ Some x → slice_get ys k ≡ Some y → x.node ≡ y.node)
    → map (λ x. x.node) xs ≡ map (λ y. y.node) ys
same-nodes [] [] same each = refl
same-nodes [] (y ∷ ys) same each = absurd (omega (arith, same))
same-nodes (x ∷ xs) [] same each = absurd (omega (arith, same))
same-nodes {P} {G} (x ∷ xs) (y ∷ ys) same each =
    ap (λ (v : Noted P). v ∷ map (λ (z : Post P G). z.node) xs) (each 0 x y refl refl)
    ∙ ap (λ (vs : List (Noted P)). y.node ∷ vs) (same-nodes xs ys (omega (arith, same)) (λ k. each (suc k)))

pub joined-with : {P G : Type 0} (plan : List FateRow) (node : Noted P) (olds news : List (Post P G)) (post : Post P G) → node.log.node ≡ length olds + 1 → AreJoined plan olds
    → AreJoining plan (length olds + 1) node olds (length olds) news post → AreJoinedWith plan node olds news post
joined-with plan node olds news post number joined is = record {
  joined = joined-next plan node olds news post number joined is;
  node_is = is.node_is;
  nodes =
      same-nodes news olds is.many
      (λ k y x there old. (is.done k x y (let a = slice_get_within olds k x old in omega (arith, a)) old there).ends.node);
}
