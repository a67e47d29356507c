-- What all counters loaded last.
use Rattle.std.proofs.Common.{◌≡◌, ℕ, ◌+◌, ◌<◌, ◌≤◌, Bool, true, false, Some, List, [], ◌∷◌, length, take, get_or, subst}
use Rattle.std.specs.Prelude.{All, IfSome, if◌then◌else◌}
use Rattle.std.specs.Option.{option_map}
use Rattle.std.specs.List.{find}
use Rattle.std.proofs.lemmas.List.{take_all}
use Rattle.std.proofs.lemmas.List.Elements.{All-head, All-tail, All-more}
use Rattle.uid_names.specs.Names.{ProcName, same_proc}
use Rattle.ended_nodes.specs.Ended.{named}
use Rattle.count_up.specs.declared.counter.Counter.{Counter}
use Rattle.count_up.specs.Counters.{seen_by}
use Rattle.count_up.specs.Sums.{HaveSeen}

module _ {P : Type 0} (Q : P → Type 0) where
  -- what holds of each program holds of the one of a name
  pub named_each : (programs : List (ProcName × P)) (p : ProcName) → All (λ e. Q e.1) programs → IfSome (named programs p) Q
  named_each [] p all = tt
  named_each (e ∷ es) p all = by_name (same_proc e.0 p) (named_each es p (All-tail (λ x. Q x.1) e es all))
    where
      by_name : (b : Bool) → IfSome (named es p) Q → IfSome (option_map (λ (x : ProcName × P). x.1) (if b then Some e else find (λ (x : ProcName × P). same_proc x.0 p) es)) Q
      by_name true rest = All-head (λ x. Q x.1) e es all
      by_name false rest = rest

-- one more of them loaded this number last
pub seen_more : (sum : ℕ) (xs : List (ProcName × Counter)) (i : ℕ) (x : ProcName × Counter) → i < length xs → HaveSeen sum (take i xs) → x ≡ get_or xs i x → seen_by x.1 ≡ Some sum
    → HaveSeen sum (take (i + 1) xs)
seen_more sum xs i x below seen is this = All-more (λ e. seen_by e.1 ≡ Some sum) xs i x below seen (subst (λ y. seen_by y.1 ≡ Some sum) is this)

-- so all did
pub seen_all : (sum : ℕ) (xs : List (ProcName × Counter)) (i : ℕ) → length xs ≤ i → HaveSeen sum (take i xs) → HaveSeen sum xs
seen_all sum xs i past seen = subst (HaveSeen sum) (take_all i xs past) seen
