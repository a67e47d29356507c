-- The programs of nodes that are by number.
use Rattle.std.proofs.Common.{◌≡◌, ◌≢◌, ℕ, zero, suc, ◌+◌, Bool, true, Option, Some, None, List, [], ◌∷◌, refl, sym, ap, subst, ◌∙◌, arith}
use Rattle.std.specs.Prelude.{slice_get, IsSome, is_some}
use Rattle.std.specs.Option.{option_map}
use Rattle.std.proofs.lemmas.Bool.{eq-eqb, ne_eqb, false≢true}
use Rattle.uid_names.specs.Names.{ProcName}
use Rattle.node_core.specs.Nodes.{Noted, program_of}
use Rattle.ended_nodes.specs.Ended.{own_if, own_of, or_else, program_at}
use Rattle.ended_nodes.proofs.Programs.{else-none}

module _ {P : Type 0} where
  not-own : (x : Noted P) (p : ProcName) → x.log.node ≢ p.node → own_of x p ≡ None
  not-own x p differs = ap (λ (b : Bool). own_if b (program_of x p.number)) (ne_eqb x.log.node p.node differs)

  is-own : (x : Noted P) (p : ProcName) → x.log.node ≡ p.node → own_of x p ≡ program_of x p.number
  is-own x p same = ap (λ (b : Bool). own_if b (program_of x p.number)) (eq-eqb x.log.node p.node same)

  pub none-at : (xs : List (Noted P)) (p : ProcName) → ((k : ℕ) (x : Noted P) → slice_get xs k ≡ Some x → x.log.node ≢ p.node) → program_at xs p ≡ None
  none-at [] p others = refl
  none-at (x ∷ xs) p others = ap (λ (o : Option P). or_else o (program_at xs p)) (not-own x p (others 0 x refl)) ∙ none-at xs p (λ k y e. others (suc k) y e)

  -- nodes are numbered on from the first one
  pub at-node : (xs : List (Noted P)) (first : ℕ) → ((k : ℕ) (x : Noted P) → slice_get xs k ≡ Some x → x.log.node ≡ first + k)
      → (k : ℕ) (x : Noted P) (p : ProcName) → slice_get xs k ≡ Some x → p.node ≡ first + k → program_at xs p ≡ program_of x p.number
  at-node [] first numbered k x p e is = absurd (cc)
  at-node (y ∷ xs) first numbered zero x p e is =
      let same : y ≡ x = cc in
      let here = numbered 0 y refl in
      let none = none-at xs p (λ j z f. λ equals. (let there = numbered (suc j) z f in absurd (omega (arith, there, equals, is)))) in
      ap (λ (o : Option P). or_else (own_of y p) o) none ∙ (else-none (own_of y p) ∙ (is-own y p (omega (arith, here, is)) ∙ ap (λ (z : Noted P). program_of z p.number) same))
  at-node (y ∷ xs) first numbered (suc k) x p e is =
      let here = numbered 0 y refl in
      ap (λ (o : Option P). or_else o (program_at xs p)) (not-own y p (λ equals. absurd (omega (arith, here, equals, is))))
      ∙ at-node xs (suc first) (λ j z f. (let there = numbered (suc j) z f in omega (arith, there))) k x p e (omega (arith, is))

-- what came of something came of what is there
pub made-is : {P Q : Type 0} (f : P → Q) (o : Option P) (r : Option Q) → r ≡ option_map f o → IsSome r → is_some o ≡ true
made-is f None r e some = absurd (false≢true (subst IsSome e some))
made-is f (Some y) r e some = refl
