-- What a map from the bytes of variables holds, as contracts see it.
use mathlib.Core.Path.{fun_ext}
use Rattle.std.proofs.Common.{◌≡◌, ℕ, Option, Some, None, List, [], ◌∷◌, refl, ◌∙◌, ap, cond, map, Ordering, Less, Equal, Greater}
use Rattle.std.specs.BTreeMap.{insert_entry}
use Rattle.std.specs.Map.{lookup}
use Rattle.std.specs.FinMap.Entries.{find, put, find-put, by_order}
use Rattle.std.specs.Ordering.{is_eq, nat_cmp, match_ordering}
use Rattle.std.specs.Cmp.Lexicographic.{slice_cmp, nat_list_eq_equiv}
use Rattle.std.proofs.lemmas.Cmp.{nat_list_cmp_total}
use Rattle.std.proofs.lemmas.Map.Text.{is_eq-slice_cmp}
use Rattle.uid_names.specs.Names.{ObjectName}
use Rattle.aegis_shell.specs.Bound.{bind}
use Rattle.aegis_shell.specs.Bindings.{Rows, object_at, rebound}
use Rattle.aegis_shell.specs.Outcomes.{bind_if}
use Rattle.aegis_shell.specs.States.{rebind_if}

-- the bytes of each key beside its value
abbrev pub by_text : {K X : Type 0} → (K → List ℕ) → List (K × X) → List (List ℕ × X)
by_text text es = map (λ e. (text e.0, e.1)) es

-- a look-up in the order of the keys' bytes
pub lookup-by_text : {K X : Type 0} (text : K → List ℕ) (var : List ℕ) (es : List (K × X)) → lookup (λ k. is_eq (slice_cmp nat_cmp var (text k))) es ≡ find (slice_cmp nat_cmp) var (by_text text es)
lookup-by_text text var [] = refl
lookup-by_text text var (e ∷ es) = ap (λ o. cond (is_eq (slice_cmp nat_cmp var (text e.0))) (Some e.1) o) (lookup-by_text text var es)

by_text-chosen : {K X : Type 0} (text : K → List ℕ) (o : Ordering) (a b c : List (K × X)) → by_text text (match_ordering o a b c) ≡ by_order o (by_text text a) (by_text text b) (by_text text c)
by_text-chosen text Less a b c = refl
by_text-chosen text Equal a b c = refl
by_text-chosen text Greater a b c = refl

-- an entry in its place in the order of the keys' bytes
pub by_text-insert : {K X : Type 0} (text : K → List ℕ) (es : List (K × X)) (key : K) (x : X) → by_text text (insert_entry (λ a b. slice_cmp nat_cmp (text a) (text b)) es key x) ≡ put (slice_cmp nat_cmp) (text key) x (by_text text es)
by_text-insert text [] key x = refl
by_text-insert text (e ∷ es) key x =
    by_text-chosen text (slice_cmp nat_cmp (text key) (text e.0)) _ _ _
    ∙ ap (λ rest. by_order (slice_cmp nat_cmp (text key) (text e.0)) ((text key, x) ∷ by_text text (e ∷ es)) ((text e.0, x) ∷ by_text text es) ((text e.0, e.1) ∷ rest)) (by_text-insert text es key x)

-- a variable that stands for another object
object_rebound : (var : List ℕ) (u : ObjectName) (rows : Rows) → object_at (rebound var u rows) ≡ bind var u (object_at rows)
object_rebound var u rows = fun_ext (λ other.
    find-put (slice_cmp nat_cmp) nat_list_cmp_total other var u rows
    ∙ ap (λ b. cond b (Some u) (object_at rows other)) (is_eq-slice_cmp other var ∙ nat_list_eq_equiv.symm other var))

-- the variables behind a command that binds one, or none
pub object_after : (bound : Option (List ℕ × ObjectName)) (rows : Rows) → object_at (rebind_if bound rows) ≡ bind_if bound (object_at rows)
object_after None rows = refl
object_after (Some (var, u)) rows = object_rebound var u rows
