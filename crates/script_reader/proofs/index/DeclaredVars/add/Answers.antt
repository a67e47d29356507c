use Rattle.std.proofs.Common.{◌≡◌, ◌<◌, ◌++◌, ◌∷◌, ℕ, List, [], None, length, get_or, set, ap, sym, subst, ◌∙◌, arith}
use Rattle.std.specs.Prelude.{OnOk, Result}
use Rattle.std.proofs.lemmas.List.{get_or_default}
use Rattle.std.proofs.lemmas.Result.{on_ok_weaker}
use Rattle.script_reader.specs.Walk.Index.{DeclaresAlso, list_of, listed_object}
use Rattle.script_reader.specs.declared.script.VarRow.{VarRow}
use Rattle.script_reader.proofs.Declaring.{listed-push}
use Rattle.script_reader.proofs.index.DeclaredVars.add.Goals as goal

-- what was added to one list
own : (E : Type 0) (lists : List (List VarRow)) (i : ℕ) (old new : List VarRow) (row : VarRow) (r : Result (Unit {0}) E) → i < length lists → i ≡ list_of row.var → old ≡ get_or lists i old → listed_object lists row.var ≡ None → OnOk r (new ≡ old ++ row ∷ [])
    → OnOk r (DeclaresAlso lists (set lists i new) row.var row.uid)
own E lists i old new row r within same is none h =
    let was : get_or lists i [] ≡ old = get_or_default lists i [] old within ∙ sym is in
    on_ok_weaker r (λ e. subst (λ rows. DeclaresAlso lists (set lists i rows) row.var row.uid) (sym e) (listed-push lists i old row within same was none)) h

pub returns-clause-ok : goal.returns-clause-ok
returns-clause-ok c =
    let lists = c.self.inside.lists.items in
    let name = c.in_ok-name.name in
    let row : VarRow = record { var = name; uid = c.args.uid } in
    let same : c.list_of.result ≡ list_of name = c.list_of.ensures.value ∙ ap list_of (sym c.in_ok-name.ensures) in
    let none : listed_object lists name ≡ None = ap (listed_object lists) c.in_ok-name.ensures ∙ (ap (λ l. listed_object l c.args.var.now) c.self.view_is ∙ c.requires.new) in
    rw (← c.self.view_is, ← c.in_ok-name.ensures) (own _ lists c.list_of.result c.index_mut-list.result.now c.push.new.self row c.push.result (omega (arith, c.self.invariant, c.list_of.ensures.bound)) same c.index_mut-list.ensures.value none c.push.ensures.ok)
