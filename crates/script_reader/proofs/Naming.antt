-- A set of variables, seen as the list of its names.
use Rattle.std.proofs.Common.{◌≡◌, ◌⊎◌, ◌↔◌, ℕ, Bool, true, false, ◌||◌, Ordering, List, [], ◌∷◌, map, IsTrue, Contains, sym, refl, ◌∙◌, ap, subst, inl, inr, ⊎_elim, arith}
use Rattle.std.specs.Global.{Vec}
use Rattle.std.specs.List.{list_any}
use Rattle.std.specs.Ordering.{nat_cmp, is_eq, match_ordering}
use Rattle.std.specs.declared.cmp.Ordering.TheVariants.{Less, Equal, Greater}
use Rattle.std.specs.BTreeMap.{is_at}
use Rattle.std.specs.BTreeSet.{insert_key}
use Rattle.std.specs.Cmp.Lexicographic.{slice_cmp}
use Rattle.std.proofs.lemmas.Bool.{false≢true}
use Rattle.std.proofs.lemmas.Map.Text.{is_eq-slice_cmp}
use Rattle.std.proofs.lemmas.Slice.Eq.{bytes_eq-Decides}
use Rattle.std.proofs.lemmas.List.Elements.{Contains-append_left, Contains-append_right, Contains-append_cases, Contains-push, Contains-push_cases}
use Rattle.script_reader.specs.Walk.Index.{HasAlso}

-- the names of keys
abbrev pub names_of : List (Vec ℕ) → List (List ℕ)
names_of keys = map (λ key. key.items) keys

-- the order of keys
abbrev pub key_cmp : Vec ℕ → Vec ℕ → Ordering
key_cmp x y = slice_cmp nat_cmp x.items y.items

-- what stands in a list with one more in front
Contains-cons : (x : List ℕ) (xs : List (List ℕ)) (q : List ℕ) → Contains (x ∷ xs) q ↔ ((x ≡ q) ⊎ Contains xs q)
Contains-cons x xs q = (
  λ h. ⊎_elim
      (λ first. inl (⊎_elim (λ none. absurd (omega (arith, none.1))) (λ same. same) (Contains-push_cases [] x q first)))
      inr
      (Contains-append_cases (x ∷ []) xs q h),
  ⊎_elim
      (λ same. subst (λ y. Contains (x ∷ xs) y) same (Contains-append_left (x ∷ []) xs x (Contains-push [] x)))
      (Contains-append_right (x ∷ []) xs q),
)

-- a test of two that each decide a fact
or_decides : (a b : Bool) (P Q : Type 0) → IsTrue a ↔ P → IsTrue b ↔ Q → IsTrue (a || b) ↔ (P ⊎ Q)
or_decides true b P Q h k = (λ _. inl (h.0 refl), λ _. refl)
or_decides false b P Q h k = (λ yes. inr (k.0 yes), ⊎_elim (λ p. absurd (false≢true (h.1 p))) k.1)

-- a query finds the name that it is
query_finds : (q name : List ℕ) → IsTrue (is_eq (slice_cmp nat_cmp q name)) ↔ (name ≡ q)
query_finds q name =
    let same = bytes_eq-Decides q name in
    (λ yes. sym (same.0 (sym (is_eq-slice_cmp q name) ∙ yes)), λ is. is_eq-slice_cmp q name ∙ same.1 (sym is))

-- a query finds a key exactly where its name stands in the list
pub finds_name : (keys : List (Vec ℕ)) (q : List ℕ) → IsTrue (list_any (is_at (λ key. slice_cmp nat_cmp q key.items)) keys) ↔ Contains (names_of keys) q
finds_name [] q = (λ yes. absurd (false≢true yes), λ none. absurd (omega (arith, none.1)))
finds_name (key ∷ keys) q =
    let either = or_decides (is_eq (slice_cmp nat_cmp q key.items)) (list_any (is_at (λ other. slice_cmp nat_cmp q other.items)) keys) (key.items ≡ q) (Contains (names_of keys) q) (query_finds q key.items) (finds_name keys q) in
    let cons = Contains-cons key.items (names_of keys) q in
    (λ yes. cons.1 (either.0 yes), λ h. either.1 (cons.0 h))

-- a key is put before another, is there already, or goes behind it
HasAlso-placed : (x key : Vec ℕ) (xs : List (Vec ℕ)) (o : Ordering) → key_cmp key x ≡ o → HasAlso (names_of xs) (names_of (insert_key key_cmp xs key)) key.items
    → HasAlso (names_of (x ∷ xs)) (names_of (match_ordering o (key ∷ x ∷ xs) (x ∷ xs) (x ∷ insert_key key_cmp xs key))) key.items
HasAlso-placed x key xs Less e rest = λ q.
    let cons = Contains-cons key.items (names_of (x ∷ xs)) q in
    (λ h. ⊎_elim inr inl (cons.0 h), λ h. cons.1 (⊎_elim inr inl h))
HasAlso-placed x key xs Equal e rest = λ q.
    let same = (query_finds key.items x.items).0 (ap is_eq e) in
    (inl, ⊎_elim (λ h. h) (λ is. (Contains-cons x.items (names_of xs) q).1 (inl (same ∙ is))))
HasAlso-placed x key xs Greater e rest = λ q.
    let old = Contains-cons x.items (names_of xs) q in
    let new = Contains-cons x.items (names_of (insert_key key_cmp xs key)) q in (
      λ h. ⊎_elim (λ is. inl (old.1 (inl is))) (λ behind. ⊎_elim (λ was. inl (old.1 (inr was))) inr ((rest q).0 behind)) (new.0 h),
      ⊎_elim (λ h. ⊎_elim (λ is. new.1 (inl is)) (λ was. new.1 (inr ((rest q).1 (inl was)))) (old.0 h)) (λ is. new.1 (inr ((rest q).1 (inr is)))),
    )

-- what a key adds
pub HasAlso-insert_key : (keys : List (Vec ℕ)) (key : Vec ℕ) → HasAlso (names_of keys) (names_of (insert_key key_cmp keys key)) key.items
HasAlso-insert_key [] key = λ q.
    let cons = Contains-cons key.items [] q in
    (λ h. ⊎_elim inr inl (cons.0 h), λ h. cons.1 (⊎_elim inr inl h))
HasAlso-insert_key (x ∷ xs) key = HasAlso-placed x key xs (key_cmp key x) refl (HasAlso-insert_key xs key)
