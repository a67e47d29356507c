-- Posts that are served together.
use Rattle.std.proofs.Common.{◌≡◌, ℕ, zero, suc, Bool, true, false, List, [], ◌∷◌, get_or, Option, Some, None, refl, sym, ap, subst, ◌∙◌}
use Rattle.std.specs.Prelude.{◌&&◌, ◌||◌, is_some, IsSome, IsNone, IsTrue, All, slice_get}
use Rattle.std.specs.List.{AllZip}
use Rattle.std.proofs.lemmas.Option.{slice_get_within, slice_get-get_or}
use Rattle.dom_history.specs.declared.op.Reply.{Reply}
use Rattle.dom_history.specs.declared.op.Want.{Want}
use Rattle.node_core.specs.declared.fault.RunFault.{RunFault}
use Rattle.node_posts.specs.declared.post.Post.{Post}
use Rattle.node_posts.specs.Ended.{has_ended}
use Rattle.node_posts.specs.Posts.{HasRun, GoesOn}
use Rattle.node_posts.proofs.Zips.{all-same, all-then, all-from}
use Rattle.node_posts.proofs.Going.{goes-same, goes-then, run-goes}
use Rattle.node_threads.specs.Groups.{fault_or, any_fault, first_fault, all_ended}

module _ {P G : Type 0} (wants : P → Want) (becomes : P → Option Reply → P) (limit : ℕ) where
  abbrev pub AllGo : List (Post P G) → List (Post P G) → Type 0
  AllGo olds news = AllZip (GoesOn wants becomes limit) olds news

  pub all-goes-same : (xs : List (Post P G)) → AllGo xs xs
  all-goes-same xs = all-same (GoesOn wants becomes limit) (goes-same wants becomes limit) xs

  pub all-goes-then : (xs ys zs : List (Post P G)) → AllGo xs ys → AllGo ys zs → AllGo xs zs
  all-goes-then xs ys zs a b = all-then (GoesOn wants becomes limit) (goes-then wants becomes limit) xs ys zs a b

  -- each is still of a run
  pub all-run : (xs ys : List (Post P G)) → AllGo xs ys → All (HasRun wants becomes limit) xs → All (HasRun wants becomes limit) ys
  all-run xs ys goes all k d within =
      let y = get_or ys k d in
      let found = all-from (GoesOn wants becomes limit) xs ys k y goes (slice_get-get_or ys k d within) in
      run-goes wants becomes limit found.was y (at xs k found.was found.there all) found.is
    where
      at : (zs : List (Post P G)) (i : ℕ) (z : Post P G) → slice_get zs i ≡ Some z → All (HasRun wants becomes limit) zs → HasRun wants becomes limit z
      at zs i z is every =
          let within = slice_get_within zs i z is in
          let same : Some (get_or zs i z) ≡ Some z = sym (slice_get-get_or zs i z within) ∙ is in
          let e : get_or zs i z ≡ z = cc in
          subst (HasRun wants becomes limit) e (every i z within)

-- where there is none, none is found set
pub none-set : {A : Type 0} (o : Option A) (set : Bool) → set ≡ true → (IsTrue set → IsSome o) → IsNone o → ⊥
none-set (Some x) set is some none = absurd (cc)
none-set None true is some none = let found = some refl in absurd (cc)
none-set None false is some none = absurd (cc)

module _ {P G : Type 0} where
  -- a fault of one is the first one, or there is a first one
  pub no-first : (posts : List (Post P G)) → first_fault posts ≡ None → (k : ℕ) (x : Post P G) → slice_get posts k ≡ Some x → x.fault ≡ None
  no-first [] none k x is = absurd (cc)
  no-first (y ∷ posts) none zero x is = let e : y ≡ x = cc in ap (λ (z : Post P G). z.fault) (sym e) ∙ head y.fault none
    where
      head : (f : Option RunFault) → fault_or f (first_fault posts) ≡ None → f ≡ None
      head None e = refl
      head (Some fault) e = absurd (cc)
  no-first (y ∷ posts) none (suc k) x is = no-first posts (rest y.fault none) k x is
    where
      rest : (f : Option RunFault) → fault_or f (first_fault posts) ≡ None → first_fault posts ≡ None
      rest None e = e
      rest (Some fault) e = absurd (cc)

  -- the first fault is that of one
  pub record IsFirst (posts : List (Post P G)) (fault : RunFault) : Type 0 where
    pub at : ℕ
    pub post : Post P G
    pub there : slice_get posts at ≡ Some post
    pub is : post.fault ≡ Some fault

  first-by : (y : Post P G) (posts : List (Post P G)) (fault : RunFault) → (first_fault posts ≡ Some fault → IsFirst posts fault)
      → (f : Option RunFault) → y.fault ≡ f → fault_or f (first_fault posts) ≡ Some fault → IsFirst (y ∷ posts) fault
  first-by y posts fault found None e later = let is = found later in record { at = suc is.at; post = is.post; there = is.there; is = is.is }
  first-by y posts fault found (Some other) e first = record { at = 0; post = y; there = refl; is = e ∙ first }

  pub first-is : (posts : List (Post P G)) (fault : RunFault) → first_fault posts ≡ Some fault → IsFirst posts fault
  first-is [] fault is = absurd (cc)
  first-is (y ∷ posts) fault is = first-by y posts fault (λ later. first-is posts fault later) y.fault refl is

  no-any-by : (xs : List (Post P G)) → (first_fault xs ≡ None → any_fault xs ≡ false) → (f : Option RunFault) → fault_or f (first_fault xs) ≡ None → (is_some f || any_fault xs) ≡ false
  no-any-by xs rest None later = rest later
  no-any-by xs rest (Some fault) later = absurd (cc)

  -- where there is no first fault there is none
  pub no-any : (xs : List (Post P G)) → first_fault xs ≡ None → any_fault xs ≡ false
  no-any [] e = refl
  no-any (y ∷ xs) e = no-any-by xs (λ later. no-any xs later) y.fault e

  -- where no fault came, each has ended
  pub each-ended : (posts : List (Post P G)) → (any_fault posts || all_ended posts) ≡ true → first_fault posts ≡ None → (k : ℕ) (x : Post P G) → slice_get posts k ≡ Some x → has_ended x ≡ true
  each-ended posts either none = all-at posts (no-fault (any_fault posts) (all_ended posts) (no-any posts none) either)
    where
      no-fault : (a b : Bool) → a ≡ false → (a || b) ≡ true → b ≡ true
      no-fault false b e or = or
      no-fault true b e or = absurd (cc)

      all-at : (xs : List (Post P G)) → all_ended xs ≡ true → (k : ℕ) (x : Post P G) → slice_get xs k ≡ Some x → has_ended x ≡ true
      all-at [] all k x is = absurd (cc)
      all-at (y ∷ xs) all zero x is = let e : y ≡ x = cc in subst (λ (z : Post P G). has_ended z ≡ true) e (head (has_ended y) (all_ended xs) all)
        where
          head : (a b : Bool) → (a && b) ≡ true → a ≡ true
          head true b h = refl
          head false b h = absurd (cc)
      all-at (y ∷ xs) all (suc k) x is = all-at xs (tail (has_ended y) (all_ended xs) all) k x is
        where
          tail : (a b : Bool) → (a && b) ≡ true → b ≡ true
          tail true b h = h
          tail false b h = absurd (cc)
