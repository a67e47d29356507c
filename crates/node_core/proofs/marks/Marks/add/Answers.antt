use Rattle.std.proofs.Common.{◌≡◌, ℕ, ◌==◌, Bool, true, false, ◌&&◌, ◌||◌, List, rules, cond, sym, ◌∙◌, ap, refl}
use Rattle.std.specs.Ordering.{nat_cmp, ordering_then}
use Rattle.std.specs.BTreeMap.{is_at}
use Rattle.std.specs.List.{list_any}
use Rattle.node_core.specs.Marks.{is_taken}
use Rattle.node_core.proofs.marks.Marks.add.Goals as goal

-- a look-up by a mark's node and phase
at-mark : (n f phase k : ℕ) → is_at (λ (y : ℕ × ℕ). ordering_then (nat_cmp n y.0) (nat_cmp phase y.1)) (f, k) ≡ ((n == f) && (phase == k))
at-mark n f phase k = search rules

any-mark : (f k : ℕ) (ms : List (ℕ × ℕ)) → list_any (is_at (λ (y : ℕ × ℕ). ordering_then (nat_cmp f y.0) (nat_cmp k y.1))) ms ≡ is_taken ms f k
any-mark f k ms = search rules

cond-or : (b c : Bool) → cond b true c ≡ (b || c)
cond-or true c = refl
cond-or false c = refl

pub returns-clause-taken : goal.returns-clause-taken
returns-clause-taken c f k =
    sym (any-mark f k c.insert.new.self.keys) ∙ c.in_ok-insert.ensures.updates.0 (f, k)
    ∙ ap (λ b. cond b true (list_any (is_at (λ (y : ℕ × ℕ). ordering_then (nat_cmp f y.0) (nat_cmp k y.1))) c.self.inside.taken.keys)) (at-mark c.number.result f c.args.phase k)
    ∙ ap (λ n. cond ((n == f) && (c.args.phase == k)) true (list_any (is_at (λ (y : ℕ × ℕ). ordering_then (nat_cmp f y.0) (nat_cmp k y.1))) c.self.inside.taken.keys)) c.number.ensures.value
    ∙ cond-or ((c.args.from == f) && (c.args.phase == k)) _
    ∙ ap (λ b. ((c.args.from == f) && (c.args.phase == k)) || b) (any-mark f k c.self.inside.taken.keys)
    ∙ ap (λ ms. ((c.args.from == f) && (c.args.phase == k)) || is_taken ms f k) c.self.view_is
