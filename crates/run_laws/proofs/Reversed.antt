-- As many pass a test from the last one on as from the first one on.
use Rattle.std.proofs.Common.{◌≡◌, ℕ, ◌+◌, Bool, cond, List, [], ◌∷◌, reverse, refl, sym, ap, ◌∙◌}
use Rattle.std.specs.Prelude.{count_by}
use Rattle.std.proofs.lemmas.List.{reverse-append}
use Rattle.std.proofs.lemmas.List.Sums.{length-filter}
use Rattle.uid_names.proofs.ListLemmas.{count_by-cons, count_by-push}
use Rattle.dom_history.specs.Events.{Happening}
use Rattle.run_laws.specs.LinkFaults.{is_fault_end, link_faults, notices}
use Rattle.run_laws.specs.Accounts.{is_notice}
use Rattle.run_laws.proofs.Counted.{notices-counted}

module _ {X : Type 0} (p : X → Bool) where
  pub count_by-reverse : (xs : List X) → count_by p (reverse xs) ≡ count_by p xs
  count_by-reverse [] = refl
  count_by-reverse (x ∷ xs) =
      ap (λ (ys : List X). count_by p ys) (reverse-append (x ∷ []) xs)
      ∙ (count_by-push p (reverse xs) x
      ∙ (count_by-cons p x (reverse xs)
      ∙ (ap (λ (k : ℕ). cond (p x) 1 0 + k) (count_by-reverse xs)
      ∙ sym (count_by-cons p x xs))))

pub faults-reverse : (es : List Happening) → link_faults (reverse es) ≡ link_faults es
faults-reverse es =
    let ends : Happening → Bool = λ e. is_fault_end e.effects.ended in
    length-filter ends (reverse es) ∙ (count_by-reverse ends es ∙ sym (length-filter ends es))

pub notices-reverse : (es : List Happening) → notices (reverse es) ≡ notices es
notices-reverse es = sym (notices-counted (reverse es)) ∙ (count_by-reverse (λ (e : Happening). is_notice e.what) es ∙ notices-counted es)
