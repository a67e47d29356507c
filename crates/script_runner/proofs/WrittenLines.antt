-- What was written of a report so far, with one part more.
use Rattle.std.proofs.Common.{◌≡◌, ℕ, ◌+◌, ◌<◌, List, [], ◌∷◌, ◌++◌, take, map, length, slice_index_or, ap, ◌∙◌, sym, append_assoc, append-nil, add-one, arith}
use Rattle.std.proofs.Math.Seq.{take-suc}
use Rattle.std.proofs.lemmas.List.{length-take, map_more}
use Rattle.script_runner.specs.declared.run.AnswerRow.{AnswerRow}
use Rattle.node_texts.specs.Texts.{process_text}
use Rattle.script_runs.specs.Reports.{ProcAnswers, report_line, report_lines, lines_of}
use Rattle.script_runner.specs.Reports.{answers_in}

report_lines-push : (process : List ℕ) (n : ℕ) (answers : List (List ℕ)) (a : List ℕ) → report_lines process n (answers ++ a ∷ []) ≡ report_lines process n answers ++ report_line process (n + length answers) a
report_lines-push process n [] a = append-nil (report_line process n a) ∙ ap (λ k. report_line process k a) (omega arith)
report_lines-push process n (x ∷ answers) a =
    ap (λ r. report_line process n x ++ r) (report_lines-push process (n + 1) answers a)
    ∙ (sym (append_assoc (report_line process n x) (report_lines process (n + 1) answers) (report_line process (n + 1 + length answers) a))
    ∙ ap (λ k. (report_line process n x ++ report_lines process (n + 1) answers) ++ report_line process k a) (omega arith))

-- one line more
pub report_lines-more : (process : List ℕ) (answers : List (List ℕ)) (i : ℕ) (d : List ℕ) → i < length answers → report_lines process 1 (take (i + 1) answers) ≡ report_lines process 1 (take i answers) ++ report_line process (i + 1) (slice_index_or answers i d)
report_lines-more process answers i d h =
    let count : length (take i answers) ≡ i = omega (arith, length-take i answers) in
    ap (report_lines process 1) (ap (λ n. take n answers) (add-one i) ∙ take-suc answers i d h)
    ∙ (report_lines-push process 1 (take i answers) (slice_index_or answers i d)
    ∙ ap (λ k. report_lines process 1 (take i answers) ++ report_line process k (slice_index_or answers i d)) (omega arith))

lines_of-push : (names : List (List ℕ)) (all : List ProcAnswers) (a : ProcAnswers) → lines_of names (all ++ a ∷ []) ≡ lines_of names all ++ report_lines (process_text names a.proc) 1 a.answers
lines_of-push names [] a = append-nil (report_lines (process_text names a.proc) 1 a.answers)
lines_of-push names (x ∷ all) a =
    ap (λ r. report_lines (process_text names x.proc) 1 x.answers ++ r) (lines_of-push names all a)
    ∙ sym (append_assoc (report_lines (process_text names x.proc) 1 x.answers) (lines_of names all) (report_lines (process_text names a.proc) 1 a.answers))

-- the lines of one process more
lines_of-more : (names : List (List ℕ)) (rows : List AnswerRow) (i : ℕ) (d : AnswerRow) → i < length rows → lines_of names (map answers_in (take (i + 1) rows)) ≡ lines_of names (map answers_in (take i rows)) ++ report_lines (process_text names (slice_index_or rows i d).proc) 1 (slice_index_or rows i d).answers
lines_of-more names rows i d h = ap (lines_of names) (map_more answers_in rows i d h) ∙ lines_of-push names (map answers_in (take i rows)) (answers_in (slice_index_or rows i d))

-- what was written, with one line more
pub put_line-more : (to process : List ℕ) (answers : List (List ℕ)) (i : ℕ) (answer written after : List ℕ) → i < length answers → answer ≡ slice_index_or answers i answer → written ≡ to ++ report_lines process 1 (take i answers) → after ≡ written ++ report_line process (i + 1) answer → after ≡ to ++ report_lines process 1 (take (i + 1) answers)
put_line-more to process answers i answer written after h is so_far more =
    more ∙ (ap (λ w. w ++ report_line process (i + 1) answer) so_far
    ∙ (append_assoc to (report_lines process 1 (take i answers)) (report_line process (i + 1) answer)
    ∙ ap (λ r. to ++ r) (ap (λ a. report_lines process 1 (take i answers) ++ report_line process (i + 1) a) is ∙ sym (report_lines-more process answers i answer h))))

-- what was written, with the lines of one process more
pub put_lines-more : (names : List (List ℕ)) (rows : List AnswerRow) (i : ℕ) (row : AnswerRow) (written after : List ℕ) → i < length rows → row ≡ slice_index_or rows i row → written ≡ lines_of names (map answers_in (take i rows)) → after ≡ written ++ report_lines (process_text names row.proc) 1 row.answers → after ≡ lines_of names (map answers_in (take (i + 1) rows))
put_lines-more names rows i row written after h is so_far more =
    more ∙ (ap (λ w. w ++ report_lines (process_text names row.proc) 1 row.answers) so_far
    ∙ (ap (λ r. lines_of names (map answers_in (take i rows)) ++ report_lines (process_text names r.proc) 1 r.answers) is ∙ sym (lines_of-more names rows i row h)))
