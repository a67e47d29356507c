-- Rights, by their letters.
use Rattle.std.proofs.Common.{◌≡◌, ◌≢◌, ℕ, Bool, true, false, Option, Some, List, MatchOption, refl}
use Rattle.std.specs.Prelude.{bytes_eq}
use Rattle.std.proofs.lemmas.Slice.Eq.{bytes_eq-Decides}
use Rattle.uid_names.proofs.Finds.{find-passes}
use Rattle.uid_names.proofs.TextTables.{looked_up}
use Rattle.acl_rules.specs.RightTexts.{all_rights, rights_of, rights_text, rights_with}
use Rattle.acl_rules.specs.declared.rights.Rights.{Rights}

-- rights that are written are read again
pub rights-again : (x : Rights) → rights_of (rights_text x) ≡ Some x
rights-again x = each x.r x.w x.n x.a
  where
    each : (r w n a : Bool) → rights_of (rights_text (rights_with r w n a)) ≡ Some (rights_with r w n a)
    each false false false false = refl
    each true false false false = refl
    each false true false false = refl
    each true true false false = refl
    each false false true false = refl
    each true false true false = refl
    each false true true false = refl
    each true true true false = refl
    each false false false true = refl
    each true false false true = refl
    each false true false true = refl
    each true true false true = refl
    each false false true true = refl
    each true false true true = refl
    each false true true true = refl
    each true true true true = refl

-- what is found by looking up
pub rights_found : (r : Option Rights) (word : List ℕ) → MatchOption r ((x : Rights) → word ≢ rights_text x) (λ x. word ≡ rights_text x) → r ≡ rights_of word
rights_found r word h = looked_up rights_text all_rights rights-again r word h

-- what is read is written so
pub rights_written : (word : List ℕ) (x : Rights) → rights_of word ≡ Some x → rights_text x ≡ word
rights_written word x e = (bytes_eq-Decides (rights_text x) word).0 (find-passes (λ y. bytes_eq (rights_text y) word) all_rights x e)
