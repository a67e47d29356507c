-- The text of a list is the one that is written of it.
use Rattle.std.proofs.Common.{◌≡◌, ◌≤◌, ℕ, ◌==◌, Bool, true, false, cond, Option, Some, None, List, [], ◌∷◌, ◌++◌, length, refl, ap, sym, subst, arith}
use Rattle.std.specs.Prelude.{nat_le, bytes_eq, codes, IfSome}
use Rattle.std.specs.List.{AllByRecursion}
use Rattle.std.proofs.lemmas.Bool.Decides.{nat_tests}
use Rattle.std.proofs.lemmas.Option.{none-some, same_Some}
use Rattle.std.proofs.lemmas.Slice.Eq.{bytes_eq-Decides}
use Rattle.uid_names.proofs.Passed.{equal}
use Rattle.dom_text.specs.Cuts.{cut_at, with_front}
use Rattle.dom_text.specs.NameWords.{is_name}
use Rattle.dir_records.specs.Wholes.{before}
use Rattle.acl_rules.specs.Entries.{IsEntry, IsWho, entry_of, entry_with, line_of, who_of, who_text, with_letters, with_rights, with_subject}
use Rattle.acl_rules.specs.Lists.{IsList, entries_among, entries_in, entries_of, if_few, lines_of, list_of, list_text, onto_line}
use Rattle.acl_rules.specs.RightTexts.{rights_of, rights_text}
use Rattle.acl_rules.specs.declared.entry.Entry.{Entry}
use Rattle.acl_rules.specs.declared.entry.TheConstants.{MOST_ENTRIES}
use Rattle.acl_rules.specs.declared.entry.Who.{Who}
use Rattle.acl_rules.specs.declared.entry.Who.TheVariants.{Each, Named}
use Rattle.acl_rules.specs.declared.read.TheConstants.{LIST_BYTES}
use Rattle.acl_rules.specs.declared.rights.Rights.{Rights}
use Rattle.acl_rules.proofs.RightsRead.{rights_written}

-- the parts of a text that was cut make the text
abbrev AreParts : ℕ → List ℕ → List ℕ × List ℕ → Type 0
AreParts c text parts = text ≡ parts.0 ++ c ∷ parts.1

onto-parts : (c b : ℕ) (rest : List ℕ) (o : Option (List ℕ × List ℕ)) → IfSome o (AreParts c rest) → IfSome (with_front b o) (AreParts c (b ∷ rest))
onto-parts c b rest None h = tt
onto-parts c b rest (Some parts) h = ap (λ (t : List ℕ). b ∷ t) h

cut-parts : (c : ℕ) (text : List ℕ) → IfSome (cut_at c text) (AreParts c text)
unfolding cut_at
cut-parts c [] = tt
cut-parts c (b ∷ rest) = by_test (b == c) refl (onto-parts c b rest (cut_at c rest) (cut-parts c rest))
  where
    by_test : (t : Bool) → (b == c) ≡ t → IfSome (with_front b (cut_at c rest)) (AreParts c (b ∷ rest)) → IfSome (cond t (Some ([], rest)) (with_front b (cut_at c rest))) (AreParts c (b ∷ rest))
    by_test true e other = ap (λ (x : ℕ). x ∷ rest) (equal b c e)
    by_test false e other = other

-- whom a word stands for is written so
abbrev IsWhoOf : List ℕ → Who → Type 0
IsWhoOf word who = IsWho who × (who_text who ≡ word)

who-of : (word : List ℕ) → IfSome (who_of word) (IsWhoOf word)
who-of word = by_each (bytes_eq word (codes "%")) refl
  where
    by_name : (t : Bool) → is_name word ≡ t → IfSome (cond t (Some (Named word)) None) (IsWhoOf word)
    by_name true e = (e, refl)
    by_name false e = tt

    by_each : (t : Bool) → bytes_eq word (codes "%") ≡ t → IfSome (cond t (Some Each) (cond (is_name word) (Some (Named word)) None)) (IsWhoOf word)
    by_each true e = (tt, sym ((bytes_eq-Decides word (codes "%")).0 e))
    by_each false e = by_name (is_name word) refl

-- and so is the entry of a line
abbrev IsEntryOf : List ℕ → Entry → Type 0
IsEntryOf line e = IsEntry e × (line_of e ≡ line)

entry-by_who : (person project letters : List ℕ) (x : Rights) (o p : Option Who) → IfSome o (IsWhoOf person) → IfSome p (IsWhoOf project) → rights_text x ≡ letters → IfSome (entry_with o p x) (IsEntryOf ((person ++ 46 ∷ project) ++ 32 ∷ letters))
entry-by_who person project letters x None p h k e = tt
entry-by_who person project letters x (Some o) None h k e = tt
entry-by_who person project letters x (Some o) (Some p) h k e = (record { person = h.0; project = k.0 }, rw (h.1, k.1, e) refl)

entry-by_rights : (person project letters : List ℕ) (o : Option Rights) → rights_of letters ≡ o → IfSome (with_rights person project o) (IsEntryOf ((person ++ 46 ∷ project) ++ 32 ∷ letters))
entry-by_rights person project letters None e = tt
entry-by_rights person project letters (Some x) e = entry-by_who person project letters x (who_of person) (who_of project) (who-of person) (who-of project) (rights_written letters x e)

entry-by_subject : (subject letters : List ℕ) (o : Option (List ℕ × List ℕ)) → IfSome o (AreParts 46 subject) → IfSome (with_subject letters o) (IsEntryOf (subject ++ 32 ∷ letters))
entry-by_subject subject letters None h = tt
entry-by_subject subject letters (Some parts) h =
    subst (λ (s : List ℕ). IfSome (with_rights parts.0 parts.1 (rights_of letters)) (IsEntryOf (s ++ 32 ∷ letters))) (sym h) (entry-by_rights parts.0 parts.1 letters (rights_of letters) refl)

entry-by_letters : (line : List ℕ) (o : Option (List ℕ × List ℕ)) → IfSome o (AreParts 32 line) → IfSome (with_letters o) (IsEntryOf line)
entry-by_letters line None h = tt
entry-by_letters line (Some parts) h =
    subst (λ (l : List ℕ). IfSome (with_letters (Some parts)) (IsEntryOf l)) (sym h) (entry-by_subject parts.0 parts.1 (cut_at 46 parts.0) (cut-parts 46 parts.0))

entry-of : (line : List ℕ) → IfSome (entry_of line) (IsEntryOf line)
entry-of line = entry-by_letters line (cut_at 32 line) (cut-parts 32 line)

-- lines, each ended
abbrev ended : List (List ℕ) → List ℕ
ended [] = []
ended (line ∷ lines) = line ++ 10 ∷ ended lines

abbrev AreLines : List ℕ → List (List ℕ) → Type 0
AreLines text lines = ended lines ≡ text

empty-first : (rest : List ℕ) (o : Option (List (List ℕ))) → IfSome o (AreLines rest) → IfSome (before (Some []) o) (AreLines (10 ∷ rest))
empty-first rest None h = tt
empty-first rest (Some lines) h = ap (λ (t : List ℕ). 10 ∷ t) h

byte-first : (b : ℕ) (rest : List ℕ) (o : Option (List (List ℕ))) → IfSome o (AreLines rest) → IfSome (onto_line b o) (AreLines (b ∷ rest))
byte-first b rest None h = tt
byte-first b rest (Some []) h = tt
byte-first b rest (Some (line ∷ lines)) h = ap (λ (t : List ℕ). b ∷ t) h

lines-ended : (text : List ℕ) → IfSome (lines_of text) (AreLines text)
unfolding lines_of
lines-ended [] = refl
lines-ended (b ∷ rest) = by_test (b == 10) refl (lines-ended rest)
  where
    by_test : (t : Bool) → (b == 10) ≡ t → IfSome (lines_of rest) (AreLines rest) → IfSome (cond t (before (Some []) (lines_of rest)) (onto_line b (lines_of rest))) (AreLines (b ∷ rest))
    by_test true e behind =
        subst (λ (x : ℕ). IfSome (before (Some []) (lines_of rest)) (AreLines (x ∷ rest))) (sym (equal b 10 e)) (empty-first rest (lines_of rest) behind)
    by_test false e behind = byte-first b rest (lines_of rest) behind

-- the entries of a text are written so
abbrev AreEntriesOf : List ℕ → List Entry → Type 0
AreEntriesOf text entries = AllByRecursion IsEntry entries × (list_text entries ≡ text)

entries-by_first : (line : List ℕ) (lines : List (List ℕ)) (o : Option Entry) (rest : Option (List Entry)) → IfSome o (IsEntryOf line) → IfSome rest (AreEntriesOf (ended lines)) → IfSome (before o rest) (AreEntriesOf (line ++ 10 ∷ ended lines))
entries-by_first line lines None rest h k = tt
entries-by_first line lines (Some e) None h k = tt
entries-by_first line lines (Some e) (Some entries) h k = ((h.0, k.0), rw (h.1, k.1) refl)

entries-of : (lines : List (List ℕ)) → IfSome (entries_of lines) (AreEntriesOf (ended lines))
entries-of [] = (tt, refl)
entries-of (line ∷ lines) = entries-by_first line lines (entry_of line) (entries_of lines) (entry-of line) (entries-of lines)

entries-by_lines : (text : List ℕ) (o : Option (List (List ℕ))) → IfSome o (AreLines text) → IfSome (entries_among o) (AreEntriesOf text)
entries-by_lines text None h = tt
entries-by_lines text (Some lines) h = subst (λ (t : List ℕ). IfSome (entries_of lines) (AreEntriesOf t)) h (entries-of lines)

-- and so is a list
list-by_few : (text : List ℕ) (o : Option (List Entry)) (entries : List Entry) → IfSome o (AreEntriesOf text) → if_few o ≡ Some entries → IsList entries × (list_text entries ≡ text)
list-by_few text None entries h e = absurd (none-some entries e)
list-by_few text (Some found) entries h e = by_test (nat_le (length found) MOST_ENTRIES) refl e
  where
    by_test : (t : Bool) → nat_le (length found) MOST_ENTRIES ≡ t → cond t (Some found) None ≡ Some entries → IsList entries × (list_text entries ≡ text)
    by_test true passed is =
        let few : length found ≤ MOST_ENTRIES = grind (arith, nat_tests, passed) in
        subst (λ (l : List Entry). IsList l × (list_text l ≡ text)) (same_Some found entries is) (record { each = h.0; few = few }, h.1)
    by_test false passed is = absurd (none-some entries is)

list-written : (text : List ℕ) (entries : List Entry) → list_of text ≡ Some entries → IsList entries × (list_text entries ≡ text)
list-written text entries e = by_test (nat_le (length text) LIST_BYTES) e
  where
    by_test : (t : Bool) → cond t (if_few (entries_in text)) None ≡ Some entries → IsList entries × (list_text entries ≡ text)
    by_test true is = list-by_few text (entries_in text) entries (entries-by_lines text (lines_of text) (lines-ended text)) is
    by_test false is = absurd (none-some entries is)

pub is_list : (text : List ℕ) (entries : List Entry) → list_of text ≡ Some entries → IsList entries
is_list text entries e = (list-written text entries e).0

pub one_text : (text : List ℕ) (entries : List Entry) → list_of text ≡ Some entries → list_text entries ≡ text
one_text text entries e = (list-written text entries e).1
