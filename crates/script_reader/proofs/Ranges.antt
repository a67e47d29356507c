-- What the tests of a line leave.
use Rattle.std.proofs.Common.{◌≡◌, ◌≢◌, ◌≤◌, ◌+◌, ℕ, suc, Bool, true, false, List, [], ◌∷◌, length, get_or, Option, Some, None, refl, ap, sym, subst, ◌∙◌, arith}
use Rattle.std.specs.Prelude.{◌&&◌, cond, nat_lt, not, is_some, unwrap_or, if◌then◌else◌, IfSome}
use Rattle.std.specs.Prelude.{bytes_eq}
use Rattle.std.specs.List.{position_or_len}
use Rattle.std.proofs.lemmas.Bool.{false≢true}
use Rattle.script_reader.specs.Numbers.{is_fate}
use Rattle.script_reader.specs.Walk.Formed.{IsFateFound, IsLate}
use Rattle.script_reader.specs.Walk.Found.{IsNodeOf}
use Rattle.script_reader.specs.NodeNames.{is_node_name, node_number, place_of}
use Rattle.script_reader.specs.After.{fate_said}
use Rattle.script_reader.specs.Sayings.{SaidFate, Lose, Twice, Late}
use Rattle.script_reader.specs.Fates.{IsGivenFate}
use Rattle.script_reader.specs.declared.script.NodeRow.{NodeRow}
use Rattle.script_reader.proofs.Arguing.{found_is}
use Rattle.script_reader.proofs.Decisions.{bytes_eq-refl, bytes_eq-true}

-- a test that refuses where one of two fails
pub both_true : (a b : Bool) → not (a && b) ≡ false → (a ≡ true) × (b ≡ true)
both_true true true h = (refl, refl)
both_true true false h = absurd cc
both_true false b h = absurd cc

-- a node that was found
pub node_is : (nodes : List NodeRow) (name : List ℕ) (found : Option ℕ) (node : ℕ) → IsNodeOf nodes name found → found ≡ Some node → (node ≡ node_number nodes name) × (1 ≤ node) × (node ≤ length nodes)
node_is nodes name found node h e = (subst (λ f. IfSome f (λ n. n ≡ node_number nodes name)) e h.value, subst (λ f. IfSome f (λ n. 1 ≤ n)) e h.least, subst (λ f. IfSome f (λ n. n ≤ length nodes)) e h.within)

-- a fate whose number was found is one that a script can give
pub fate_is : (fate : SaidFate) → IsFateFound fate → is_fate fate ≡ true → IsGivenFate (fate_said fate)
fate_is Lose h some = tt
fate_is (Twice late) h some = found_is IsLate late h some
fate_is (Late late) h some = found_is IsLate late h some

-- the row at a place has the name
at_place : (p : NodeRow → Bool) (rows : List NodeRow) (d : NodeRow) → nat_lt (position_or_len p rows) (length rows) ≡ true → p (get_or rows (position_or_len p rows) d) ≡ true
at_place p [] d h = absurd cc
at_place p (row ∷ rows) d h =
    elim (p row) as (λ t. p row ≡ t → nat_lt (cond (not t) (1 + position_or_len p rows) 0) (length (row ∷ rows)) ≡ true → p (get_or (row ∷ rows) (cond (not t) (1 + position_or_len p rows) 0) d) ≡ true) [
      | true ↦ λ e lt. e
      | false ↦ λ e lt.
          let next : 1 + position_or_len p rows ≡ suc (position_or_len p rows) = omega arith in
          let within : nat_lt (position_or_len p rows) (length rows) ≡ true = grind arith in
          ap (λ k. p (get_or (row ∷ rows) k d)) next ∙ at_place p rows d within
    ] refl h

placed : (t : Bool) (n : ℕ) → is_some (if t then Some n else None) ≡ true → t ≡ true
placed true n h = refl
placed false n h = absurd cc

placed_at : (t : Bool) (n : ℕ) → t ≡ true → unwrap_or (if t then Some n else None) 0 ≡ n
placed_at t n e = rw e refl

found_name : (rows : List NodeRow) (name : List ℕ) (d : NodeRow) → is_node_name rows name ≡ true → (get_or rows (unwrap_or (place_of rows name) 0) d).name ≡ name
found_name rows name d h =
    let p : NodeRow → Bool = λ row. bytes_eq row.name name in
    let yes = placed (nat_lt (position_or_len p rows) (length rows)) (position_or_len p rows) h in
    let at = placed_at (nat_lt (position_or_len p rows) (length rows)) (position_or_len p rows) yes in
    ap (λ k. (get_or rows k d).name) at ∙ bytes_eq-true (get_or rows (position_or_len p rows) d).name name (at_place p rows d yes)

-- nodes of two names are two
pub nodes_apart : (rows : List NodeRow) (from to : List ℕ) → bytes_eq from to ≡ false → is_node_name rows from ≡ true → is_node_name rows to ≡ true → node_number rows from ≢ node_number rows to
nodes_apart rows from to two h k same =
    let d : NodeRow = record { name = []; frames = 0 } in
    let place : unwrap_or (place_of rows from) 0 ≡ unwrap_or (place_of rows to) 0 = omega (arith, same) in
    let one : from ≡ to = sym (found_name rows from d h) ∙ (ap (λ n. (get_or rows n d).name) place ∙ found_name rows to d k) in
    false≢true (sym two ∙ bytes_eq-refl from to one)
