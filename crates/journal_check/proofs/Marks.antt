-- The marks that were sent, from the last one on.
use Rattle.std.proofs.Common.{◌≡◌, ℕ, suc, ◌+◌, ◌-◌, ◌<◌, ◌≤◌, Bool, true, false, cond, Some, None, List, ◌∷◌, length, map, drop, get_or, drop-cons, add-one, sym, ap, ◌∙◌, arith}
use Rattle.std.specs.Prelude.{◌==◌, ◌&&◌, reverse, slice_index_or}
use Rattle.std.specs.List.{find}
use Rattle.std.proofs.Math.ListN.{drop_of_length-le}
use Rattle.std.proofs.lemmas.List.{get_or-map, get_or-reverse, length-map, length-reverse}
use Rattle.node_runs.specs.Runs as runs
use Rattle.journal_check.specs.Passes.{mark_seen}
use Rattle.journal_check.specs.declared.pass.SentMark.{SentMark}

-- what is looked for
abbrev pub is_this_mark : ℕ → ℕ → runs.SentMark → Bool
is_this_mark from phase m = (m.node == from) && (m.phase == phase)

-- the marks as the definitions have them
abbrev pub seen_all : List SentMark → List runs.SentMark
seen_all marks = map mark_seen (reverse marks)

seen-many : (marks : List SentMark) → length (seen_all marks) ≡ length marks
seen-many marks = length-map (reverse marks) mark_seen ∙ length-reverse marks

-- the next one
pub mark-next : (marks : List SentMark) (i : ℕ) (m : SentMark) → i < length marks → m ≡ slice_index_or marks (length marks - 1 - i) m → drop i (seen_all marks) ≡ mark_seen m ∷ drop (i + 1) (seen_all marks)
mark-next marks i m low is =
    let ys = seen_all marks in
    let many = seen-many marks in
    let back = length-reverse marks in
    let here : get_or ys i (mark_seen m) ≡ mark_seen m =
    get_or-map mark_seen (reverse marks) i m (mark_seen m) (omega (arith, low, back)) ∙ ap mark_seen (get_or-reverse marks i m low ∙ sym is) in
    drop-cons ys i (mark_seen m) (omega (arith, low, many))
    ∙ (ap (λ (x : runs.SentMark). x ∷ drop (suc i) ys) here ∙ ap (λ n. mark_seen m ∷ drop n ys) (sym (add-one i)))

module _ (from phase : ℕ) (marks : List SentMark) where
  -- it is found, or the look goes on
  pub mark-found : (i : ℕ) (m : SentMark) → i < length marks → m ≡ slice_index_or marks (length marks - 1 - i) m → is_this_mark from phase (mark_seen m) ≡ true
      → find (is_this_mark from phase) (drop i (seen_all marks)) ≡ Some (mark_seen m)
  mark-found i m low is test =
      ap (find (is_this_mark from phase)) (mark-next marks i m low is) ∙ ap (λ b. cond b (Some (mark_seen m)) (find (is_this_mark from phase) (drop (i + 1) (seen_all marks)))) test

  pub mark-passed : (i : ℕ) (m : SentMark) → i < length marks → m ≡ slice_index_or marks (length marks - 1 - i) m → is_this_mark from phase (mark_seen m) ≡ false
      → find (is_this_mark from phase) (drop i (seen_all marks)) ≡ find (is_this_mark from phase) (drop (i + 1) (seen_all marks))
  mark-passed i m low is test =
      ap (find (is_this_mark from phase)) (mark-next marks i m low is) ∙ ap (λ b. cond b (Some (mark_seen m)) (find (is_this_mark from phase) (drop (i + 1) (seen_all marks)))) test

  pub mark-none : (i : ℕ) → length marks ≤ i → find (is_this_mark from phase) (drop i (seen_all marks)) ≡ None
  mark-none i far = let many = seen-many marks in ap (find (is_this_mark from phase)) (drop_of_length-le (seen_all marks) (omega (arith, far, many)))
