-- Declared variables with their objects: in lists by their names, and in the order of their lines.
use Rattle.std.proofs.Common.{◌≡◌, ◌≢◌, ◌<◌, ◌+◌, ℕ, Bool, true, false, Option, Some, None, List, [], ◌∷◌, ◌++◌, drop, length, get_or, set, refl, sym, ◌∙◌, ap, eq-eqb}
use Rattle.std.specs.Prelude.{◌==◌, ◌||◌, if◌then◌else◌, is_some, bytes_eq}
use Rattle.std.proofs.lemmas.Bool.{eqb-true, false≢true}
use Rattle.std.proofs.lemmas.Grind.{get_or-set_at}
use Rattle.std.proofs.lemmas.List.{drop_more, get_or-set_other}
use Rattle.uid_names.specs.Names.{ObjectName}
use Rattle.script_reader.specs.Variables.{declared_object, is_declared}
use Rattle.script_reader.specs.Walk.Index.{DeclaresAlso, HoldsDeclared, list_of, listed_object}
use Rattle.script_reader.specs.declared.script.VarRow.{VarRow}
use Rattle.script_reader.proofs.Decisions.{bytes_eq-refl, bytes_eq-true}

-- a variable is declared where it has an object
pub is_some-declared : (objects : List VarRow) (var : List ℕ) → is_some (declared_object objects var) ≡ is_declared objects var
is_some-declared [] var = refl
is_some-declared (row ∷ objects) var =
    elim (bytes_eq row.var var) as (λ t. is_some (if t then Some row.uid else declared_object objects var) ≡ (t || is_declared objects var)) [
      | true ↦ refl
      | false ↦ is_some-declared objects var
    ]

neither : (a b : Bool) → (a || b) ≡ false → (a ≡ false) × (b ≡ false)
neither true b h = absurd cc
neither false b h = (refl, h)

-- the object of a variable, once another is declared behind the rest
declared-push : (objects : List VarRow) (row : VarRow) (q : List ℕ) → is_declared objects row.var ≡ false → declared_object (objects ++ row ∷ []) q ≡ (if bytes_eq row.var q then Some row.uid else declared_object objects q)
declared-push [] row q new = refl
declared-push (x ∷ objects) row q new =
    let apart = neither (bytes_eq x.var row.var) (is_declared objects row.var) new in
    by_first (bytes_eq x.var q) refl apart.0 (declared-push objects row q apart.1) where
      another : bytes_eq x.var row.var ≡ false → bytes_eq x.var q ≡ true → (t : Bool) → bytes_eq row.var q ≡ t → t ≡ false
      another differs is true e = absurd (false≢true (sym differs ∙ bytes_eq-refl x.var row.var (bytes_eq-true x.var q is ∙ sym (bytes_eq-true row.var q e))))
      another differs is false e = refl

      by_first : (t : Bool) → bytes_eq x.var q ≡ t → bytes_eq x.var row.var ≡ false → declared_object (objects ++ row ∷ []) q ≡ (if bytes_eq row.var q then Some row.uid else declared_object objects q)
          → (if t then Some x.uid else declared_object (objects ++ row ∷ []) q) ≡ (if bytes_eq row.var q then Some row.uid else (if t then Some x.uid else declared_object objects q))
      by_first true is differs rest = rw (another differs is (bytes_eq row.var q) refl) refl
      by_first false is differs rest = rest

-- the object of a variable among the rows from a place on
pub declared_on : (rows : List VarRow) (i : ℕ) (var : List ℕ) (d : VarRow) → i < length rows → declared_object (drop i rows) var ≡ (if bytes_eq (get_or rows i d).var var then Some (get_or rows i d).uid else declared_object (drop (i + 1) rows) var)
declared_on rows i var d within = ap (λ rest. declared_object rest var) (drop_more rows i d within)

no_object : (o : Option ObjectName) → is_some o ≡ false → o ≡ None
no_object None none = refl
no_object (Some uid) none = absurd cc

pub undeclared : (objects : List VarRow) (var : List ℕ) → is_declared objects var ≡ false → declared_object objects var ≡ None
undeclared objects var new = no_object (declared_object objects var) (is_some-declared objects var ∙ new)

-- a row more in the list of its variable
pub listed-push : (lists : List (List VarRow)) (i : ℕ) (old : List VarRow) (row : VarRow) → i < length lists → i ≡ list_of row.var → get_or lists i [] ≡ old → listed_object lists row.var ≡ None → DeclaresAlso lists (set lists i (old ++ row ∷ [])) row.var row.uid
listed-push lists i old row within same was none q = by_list (list_of q == i) refl where
  own : old ≡ get_or lists (list_of row.var) []
  own = sym was ∙ ap (λ k. get_or lists k []) same

  fresh : is_declared old row.var ≡ false
  fresh = sym (is_some-declared old row.var) ∙ (ap (λ rows. is_some (declared_object rows row.var)) own ∙ ap is_some none)

  another : list_of q ≢ i → (t : Bool) → bytes_eq row.var q ≡ t → listed_object lists q ≡ (if t then Some row.uid else listed_object lists q)
  another apart true is = absurd (apart (ap list_of (sym (bytes_eq-true row.var q is)) ∙ sym same))
  another apart false is = refl

  by_list : (t : Bool) → (list_of q == i) ≡ t → listed_object (set lists i (old ++ row ∷ [])) q ≡ (if bytes_eq row.var q then Some row.uid else listed_object lists q)
  by_list true e =
      let here : list_of q ≡ i = eqb-true (list_of q) i e in
      ap (λ rows. declared_object rows q) (get_or-set_at lists i (list_of q) (old ++ row ∷ []) [] here within)
      ∙ (declared-push old row q fresh
      ∙ ap (λ rows. if bytes_eq row.var q then Some row.uid else declared_object rows q) (sym (ap (λ k. get_or lists k []) here ∙ was)))
  by_list false e =
      let apart : list_of q ≢ i = λ is. false≢true (sym e ∙ eq-eqb (list_of q) i is) in
      ap (λ rows. declared_object rows q) (get_or-set_other lists i (list_of q) (old ++ row ∷ []) [] apart)
      ∙ another apart (bytes_eq row.var q) refl

-- a declared object more
pub HoldsDeclared-push : (old new : List (List VarRow)) (objects : List VarRow) (row : VarRow) → HoldsDeclared old objects → DeclaresAlso old new row.var row.uid → is_declared objects row.var ≡ false → HoldsDeclared new (objects ++ row ∷ [])
HoldsDeclared-push old new objects row h also fresh q =
    also q ∙ (ap (λ o. if bytes_eq row.var q then Some row.uid else o) (h q) ∙ sym (declared-push objects row q fresh))
