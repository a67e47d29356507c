-- The lines of a text, by the first LF, and the entries that they are of.
use Rattle.std.proofs.Common.{◌≡◌, ℕ, ◌==◌, Bool, true, false, cond, Option, Some, None, List, [], ◌∷◌, ◌++◌, length, refl, ap, ◌∙◌, sym, append_assoc, append-nil, arith}
use Rattle.dom_text.specs.Cuts.{cut_at, with_front}
use Rattle.dir_records.specs.Wholes.{before, in_front}
use Rattle.acl_rules.specs.Entries.{entry_of}
use Rattle.acl_rules.specs.Lists.{onto_line, lines_of, entries_among, entries_in}
use Rattle.acl_rules.specs.declared.entry.Entry.{Entry}

-- the lines of a text that is cut so; without a cut there is none, or what is not ended
abbrev uncut_lines : List ℕ → Option (List (List ℕ))
uncut_lines [] = Some []
uncut_lines (b ∷ rest) = None

abbrev cut_lines : List ℕ → Option (List ℕ × List ℕ) → Option (List (List ℕ))
cut_lines text None = uncut_lines text
cut_lines text (Some (front, back)) = before (Some front) (lines_of back)

onto_uncut : (b : ℕ) (rest : List ℕ) → onto_line b (uncut_lines rest) ≡ uncut_lines (b ∷ rest)
onto_uncut b [] = refl
onto_uncut b (c ∷ rest) = refl

onto_front : (b : ℕ) (front : List ℕ) (lines : Option (List (List ℕ))) → onto_line b (before (Some front) lines) ≡ before (Some (b ∷ front)) lines
onto_front b front None = refl
onto_front b front (Some lines) = refl

onto : (b : ℕ) (rest : List ℕ) (parts : Option (List ℕ × List ℕ)) → onto_line b (cut_lines rest parts) ≡ cut_lines (b ∷ rest) (with_front b parts)
onto b rest None = onto_uncut b rest
onto b rest (Some (front, back)) = onto_front b front (lines_of back)

-- they are those of the first cut
lines_cut : (text : List ℕ) → lines_of text ≡ cut_lines text (cut_at 10 text)
unfolding lines_of cut_at
lines_cut [] = refl
lines_cut (b ∷ rest) = by_test (b == 10) (ap (onto_line b) (lines_cut rest) ∙ onto b rest (cut_at 10 rest)) where
  by_test : (t : Bool) → onto_line b (lines_of rest) ≡ cut_lines (b ∷ rest) (with_front b (cut_at 10 rest))
      → cond t (before (Some []) (lines_of rest)) (onto_line b (lines_of rest)) ≡ cut_lines (b ∷ rest) (cond t (Some ([], rest)) (with_front b (cut_at 10 rest)))
  by_test true other = refl
  by_test false other = other

none_before : (o : Option Entry) → before o None ≡ None
none_before None = refl
none_before (Some e) = refl

among : (line : List ℕ) (lines : Option (List (List ℕ))) → entries_among (before (Some line) lines) ≡ before (entry_of line) (entries_among lines)
among line None = sym (none_before (entry_of line))
among line (Some lines) = refl

-- the entries of a text are those of its first line, and of the text behind it
pub first_line : (text line back : List ℕ) → cut_at 10 text ≡ Some (line, back) → entries_in text ≡ before (entry_of line) (entries_in back)
first_line text line back e = ap entries_among (lines_cut text ∙ ap (cut_lines text) e) ∙ among line (lines_of back)

pub no_lines : entries_in [] ≡ Some []
unfolding lines_of
no_lines = refl

onto_entries : (entries : List Entry) (e : Entry) (rest : Option (List Entry)) → in_front entries (before (Some e) rest) ≡ in_front (entries ++ e ∷ []) rest
onto_entries entries e None = refl
onto_entries entries e (Some rest) = ap (λ (l : List Entry). Some l) (sym (append_assoc entries (e ∷ []) rest))

-- one entry more, behind those that were read
pub entry_on : (text rest line back : List ℕ) (entries new : List Entry) (e : Entry) → entries_in text ≡ in_front entries (entries_in rest) → cut_at 10 rest ≡ Some (line, back) → Some e ≡ entry_of line → new ≡ entries ++ e ∷ []
    → entries_in text ≡ in_front new (entries_in back)
entry_on text rest line back entries new e so cut is more =
    so ∙ ap (in_front entries) (first_line rest line back cut ∙ ap (λ (o : Option Entry). before o (entries_in back)) (sym is))
    ∙ onto_entries entries e (entries_in back) ∙ ap (λ (l : List Entry). in_front l (entries_in back)) (sym more)

-- a line that is of none
pub entry_bad : (text rest line back : List ℕ) (entries : List Entry) → entries_in text ≡ in_front entries (entries_in rest) → cut_at 10 rest ≡ Some (line, back) → None ≡ entry_of line → entries_in text ≡ None
entry_bad text rest line back entries so cut is = so ∙ ap (in_front entries) (first_line rest line back cut ∙ ap (λ (o : Option Entry). before o (entries_in back)) (sym is))

-- all was read
pub all_read : (text rest : List ℕ) (entries : List Entry) → entries_in text ≡ in_front entries (entries_in rest) → length rest ≡ 0 → entries_in text ≡ Some entries
all_read text [] entries so over = so ∙ ap (in_front entries) no_lines ∙ ap (λ (l : List Entry). Some l) (append-nil entries)
all_read text (b ∷ rest) entries so over = absurd (omega (arith, over))

-- the last line is not ended
pub not_ended : (text rest more : List ℕ) (b : ℕ) (entries : List Entry) → entries_in text ≡ in_front entries (entries_in rest) → cut_at 10 rest ≡ None → rest ≡ b ∷ more → entries_in text ≡ None
not_ended text rest more b entries so cut some =
    so ∙ ap (λ o. in_front entries (entries_among o)) (lines_cut rest ∙ (ap (cut_lines rest) cut ∙ ap uncut_lines some))
