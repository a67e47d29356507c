-- What holds of each of a list: of both, at one of them, behind others.
use Rattle.std.proofs.Common.{◌≡◌, List, [], ◌∷◌, ◌++◌, inl, inr, subst}
use Rattle.dom_history.specs.Histories.{SomeOf}
use Rattle.node_runs.specs.CallsKeep.{EachOf}

-- what follows from two things that hold of each holds of each
pub EachOf-both : {A : Type 0} (P Q R : A → Type 0) (xs : List A) → ((x : A) → P x → Q x → R x) → EachOf P xs → EachOf Q xs → EachOf R xs
EachOf-both P Q R [] both each other = tt
EachOf-both P Q R (x ∷ xs) both each other = (both x each.0 other.0, EachOf-both P Q R xs both each.1 other.1)

-- it holds of one that is there
pub EachOf-at : {A : Type 0} (P : A → Type 0) (x : A) (xs : List A) → EachOf P xs → SomeOf (λ y. y ≡ x) xs → P x
EachOf-at P x [] each some = absurd some
EachOf-at P x (y ∷ ys) each (inl same) = subst P same each.0
EachOf-at P x (y ∷ ys) each (inr some) = EachOf-at P x ys each.1 some

-- and of those behind
pub EachOf-behind : {A : Type 0} (P : A → Type 0) (xs ys : List A) → EachOf P (xs ++ ys) → EachOf P ys
EachOf-behind P [] ys each = each
EachOf-behind P (x ∷ xs) ys each = EachOf-behind P xs ys each.1
