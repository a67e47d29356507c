-- The programs of a node, put under the names of its processes.
use Rattle.std.proofs.Common.{◌≡◌, ℕ, zero, suc, Bool, true, false, cond, Option, Some, None, List, [], ◌∷◌, ◌++◌, map, refl, sym, ap, subst, ◌∙◌}
use Rattle.std.specs.Prelude.{◌==◌, ◌&&◌, slice_get, All, IsSome, is_some}
use Rattle.std.specs.Option.{option_map}
use Rattle.std.specs.List.{find}
use Rattle.std.proofs.lemmas.Bool.{eq-eqb}
use Rattle.uid_names.specs.Names.{ProcName, IsProcNumber, same_proc}
use Rattle.node_core.specs.Nodes.{Noted, program_of}
use Rattle.node_core.specs.Programs.{program_by, program_in}
use Rattle.ended_nodes.specs.Ended.{named, with_name, own_if, own_of, or_else, program_at, AreNumbered}
use Rattle.ended_nodes.proofs.Elements.{all_at}

module _ {P : Type 0} where
  one-named : (b c : Bool) (e : ProcName × P) (r : Option (ProcName × P)) (others : Option P) → option_map (λ (x : ProcName × P). x.1) r ≡ own_if b others
      → option_map (λ (x : ProcName × P). x.1) (cond (b && c) (Some e) r) ≡ own_if b (program_by c e.1 others)
  one-named true true e r others is = refl
  one-named true false e r others is = is
  one-named false c e r others is = is

  none-own : (b : Bool) → None ≡ own_if {P = P} b None
  none-own true = refl
  none-own false = refl

  named-own : (node : ℕ) (own : List (ℕ × P)) (p : ProcName) → named (map (with_name node) own) p ≡ own_if (node == p.node) (program_in own p.number)
  named-own node [] p = none-own (node == p.node)
  named-own node (e ∷ es) p =
      one-named (node == p.node) (e.0 == p.number) (with_name node e) (find (λ (x : ProcName × P). same_proc x.0 p) (map (with_name node) es)) (program_in es p.number) (named-own node es p)

  one-first : (b : Bool) (e : ProcName × P) (r q : Option (ProcName × P)) (others : Option P) → option_map (λ (x : ProcName × P). x.1) r ≡ or_else (option_map (λ (x : ProcName × P). x.1) q) others
      → option_map (λ (x : ProcName × P). x.1) (cond b (Some e) r) ≡ or_else (option_map (λ (x : ProcName × P). x.1) (cond b (Some e) q)) others
  one-first true e r q others is = refl
  one-first false e r q others is = is

  named-append : (xs ys : List (ProcName × P)) (p : ProcName) → named (xs ++ ys) p ≡ or_else (named xs p) (named ys p)
  named-append [] ys p = refl
  named-append (x ∷ xs) ys p =
      one-first (same_proc x.0 p) x (find (λ (e : ProcName × P). same_proc e.0 p) (xs ++ ys)) (find (λ (e : ProcName × P). same_proc e.0 p) xs) (named ys p) (named-append xs ys p)

  -- the programs after those of a node
  pub named-more : (old : List (ProcName × P)) (x : Noted P) (node : ℕ) (own : List (ℕ × P)) → node ≡ x.log.node → ((p : ℕ) → program_in own p ≡ program_of x p)
      → (p : ProcName) → named (old ++ map (with_name node) own) p ≡ or_else (named old p) (own_of x p)
  named-more old x node own same are p =
      named-append old (map (with_name node) own) p
      ∙ ap (or_else (named old p)) (named-own node own p ∙ ap (λ (k : ℕ). own_if (k == p.node) (program_in own p.number)) same ∙ ap (own_if (x.log.node == p.node)) (are p.number))

  some-by : (b : Bool) (y : P) (others : Option P) → is_some others ≡ true → is_some (program_by b y others) ≡ true
  some-by true y others is = refl
  some-by false y others is = is

  here-by : (b : Bool) (y : P) (others : Option P) → b ≡ true → is_some (program_by b y others) ≡ true
  here-by true y others is = refl
  here-by false y others is = absurd (cc)

  in-list : (es : List (ℕ × P)) (k : ℕ) (e : ℕ × P) → slice_get es k ≡ Some e → is_some (program_in es e.0) ≡ true
  in-list [] k e is = absurd (cc)
  in-list (d ∷ es) zero e is = let same : d ≡ e = cc in here-by (d.0 == e.0) d.1 (program_in es e.0) (eq-eqb d.0 e.0 (ap (λ (x : ℕ × P). x.0) same))
  in-list (d ∷ es) (suc k) e is = some-by (d.0 == e.0) d.1 (program_in es e.0) (in-list es k e is)

  -- each has the number of a process
  pub all-numbered : (x : Noted P) (own : List (ℕ × P)) → AreNumbered x → ((p : ℕ) → program_in own p ≡ program_of x p) → All (λ (e : ℕ × P). IsProcNumber e.0) own
  all-numbered x own numbered are =
      all_at (λ (e : ℕ × P). IsProcNumber e.0) own (λ k e is. numbered e.0 (subst IsSome (are e.0) (in-list own k e is)))

  else-assoc : (a b c : Option P) → or_else (or_else a b) c ≡ or_else a (or_else b c)
  else-assoc None b c = refl
  else-assoc (Some y) b c = refl

  pub else-none : (a : Option P) → or_else a None ≡ a
  else-none None = refl
  else-none (Some y) = refl

  -- the program of a process, by one node more
  pub at-more : (xs : List (Noted P)) (x : Noted P) (p : ProcName) → program_at (xs ++ x ∷ []) p ≡ or_else (program_at xs p) (own_of x p)
  at-more [] x p = else-none (own_of x p)
  at-more (y ∷ xs) x p = ap (or_else (own_of y p)) (at-more xs x p) ∙ sym (else-assoc (own_of y p) (program_at xs p) (own_of x p))
