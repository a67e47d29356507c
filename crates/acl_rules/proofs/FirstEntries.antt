-- The first entry for a subject decides.
use Rattle.std.proofs.Common.{◌≡◌, ℕ, ◌+◌, Bool, true, cond, Option, Some, None, List, [], ◌∷◌, ◌++◌, length, refl, ap, ◌∙◌, arith}
use Rattle.acl_rules.specs.Decisions.{AreForOthers, IsDecidedBy, IsFirstFor, decided, decision, first_from, is_for}
use Rattle.acl_rules.specs.declared.deciding.Decision.TheVariants.{Denied}
use Rattle.acl_rules.specs.declared.entry.Entry.{Entry}
use Rattle.acl_rules.specs.declared.rights.Rights.{Rights}

-- an entry's rights, behind so many entries
abbrev found_at : Rights → ℕ → Option (ℕ × Rights)
found_at x k = Some (k, x)

module _ (person project : List ℕ) where
  -- entries for others are passed by
  first_behind : (i : ℕ) (front behind : List Entry) (e : Entry) → AreForOthers person project front → is_for person project e ≡ true → first_from i person project (front ++ e ∷ behind) ≡ Some (i + length front, e.rights)
  first_behind i [] behind e others is =
      let found : ℕ × Rights = (i, e.rights) in
      let here : i ≡ i + length {A = Entry} [] = omega arith in
      ap (λ (t : Bool). cond t (Some found) (first_from (i + 1) person project behind)) is ∙ ap (found_at e.rights) here
  first_behind i (x ∷ front) behind e others is =
      let found : ℕ × Rights = (i, x.rights) in
      let next : (i + 1) + length front ≡ i + length (x ∷ front) = omega arith in
      ap (λ (t : Bool). cond t (Some found) (first_from (i + 1) person project (front ++ e ∷ behind))) others.0
      ∙ first_behind (i + 1) front behind e others.1 is
      ∙ ap (found_at e.rights) next

  none_from : (i : ℕ) (entries : List Entry) → AreForOthers person project entries → first_from i person project entries ≡ None
  none_from i [] others = refl
  none_from i (x ∷ entries) others =
      let found : ℕ × Rights = (i, x.rights) in
      ap (λ (t : Bool). cond t (Some found) (first_from (i + 1) person project entries)) others.0 ∙ none_from (i + 1) entries others.1

  pub first_decides : (front behind : List Entry) (e : Entry) → IsFirstFor person project front e → IsDecidedBy person project front e behind
  first_decides front behind e is need =
      let here : 0 + length front ≡ length front = omega arith in
      ap (decision need) (first_behind 0 front behind e is.others is.own ∙ ap (found_at e.rights) here)

  pub none_denies : (entries : List Entry) (need : Rights) → AreForOthers person project entries → decided entries person project need ≡ Denied 0
  none_denies entries need others = ap (decision need) (none_from 0 entries others)
