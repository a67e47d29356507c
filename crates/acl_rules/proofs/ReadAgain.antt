-- A list that is written is read again.
use Rattle.std.proofs.Common.{◌≡◌, ◌≢◌, ◌≤◌, ℕ, ◌*◌, Bool, true, false, cond, Some, None, List, [], ◌∷◌, ◌++◌, length, refl, ap, sym, ◌∙◌, arith, rules}
use Rattle.std.specs.Prelude.{◌&&◌, nat_le, bytes_eq, codes}
use Rattle.std.specs.List.{AllByRecursion, list_all}
use Rattle.std.proofs.lemmas.Bool.{and_parts, false≢true}
use Rattle.std.proofs.lemmas.List.{length-append}
use Rattle.std.proofs.lemmas.List.Elements.{All-append, All-cons, All-nil}
use Rattle.uid_names.proofs.Passed.{le-passes}
use Rattle.uid_names.specs.NameTexts.{is_name_byte}
use Rattle.dom_text.specs.Cuts.{Lacks}
use Rattle.dom_text.proofs.Cutting.{cut_at-found}
use Rattle.dom_text.specs.NameWords.{is_name}
use Rattle.dir_records.specs.Wholes.{before}
use Rattle.acl_rules.specs.Entries.{IsEntry, IsWho, entry_of, line_of, who_of, who_text, with_letters, with_rights, with_subject, entry_with}
use Rattle.acl_rules.specs.Lists.{IsList, entries_in, if_few, list_of, list_text}
use Rattle.acl_rules.specs.RightTexts.{letter_if, or_dash, rights_text}
use Rattle.acl_rules.specs.declared.entry.Entry.{Entry}
use Rattle.acl_rules.specs.declared.entry.TheConstants.{MOST_ENTRIES}
use Rattle.acl_rules.specs.declared.entry.Who.{Who}
use Rattle.acl_rules.specs.declared.entry.Who.TheVariants.{Each, Named}
use Rattle.acl_rules.specs.declared.read.TheConstants.{LIST_BYTES}
use Rattle.acl_rules.specs.declared.rights.Rights.{Rights}
use Rattle.acl_rules.proofs.Reading.{first_line, no_lines}
use Rattle.acl_rules.proofs.RightsRead.{rights-again}

-- the bytes of a name: none of them is one that doesn't pass the test
lacks : (c : ℕ) → is_name_byte c ≡ false → (text : List ℕ) → list_all is_name_byte text ≡ true → Lacks c text
lacks c never [] h = All-nil (λ b. b ≢ c)
lacks c never (b ∷ text) h =
    let parts = and_parts (is_name_byte b) (list_all is_name_byte text) h in
    let other : b ≢ c = λ e. false≢true (sym never ∙ ap is_name_byte (sym e) ∙ parts.0) in
    All-cons (λ b. b ≢ c) b text other (lacks c never text parts.1)

record IsWord (name : List ℕ) : Type 0 where
  some : nat_le 1 (length name) ≡ true
  few : nat_le (length name) 32 ≡ true
  bytes : list_all is_name_byte name ≡ true

word-is : (name : List ℕ) → is_name name ≡ true → IsWord name
word-is name is =
    let whole = and_parts (nat_le 1 (length name)) (nat_le (length name) 32 && list_all is_name_byte name) is in
    let rest = and_parts (nat_le (length name) 32) (list_all is_name_byte name) whole.1 in
    record { some = whole.0; few = rest.0; bytes = rest.1 }

single : (c b : ℕ) → b ≢ c → Lacks c (b ∷ [])
single c b other = All-cons (λ x. x ≢ c) b [] other (All-nil (λ x. x ≢ c))

who-lacks : (c : ℕ) → is_name_byte c ≡ false → 37 ≢ c → (who : Who) → IsWho who → Lacks c (who_text who)
who-lacks c never other Each is = single c 37 other
who-lacks c never other (Named name) is = lacks c never name (word-is name is).bytes

-- `%` is no name
not_percent : (name : List ℕ) → list_all is_name_byte name ≡ true → bytes_eq name (codes "%") ≡ false
not_percent [] h = refl
not_percent (b ∷ []) h = by_test (bytes_eq (b ∷ []) (codes "%")) refl
  where
    by_test : (t : Bool) → bytes_eq (b ∷ []) (codes "%") ≡ t → t ≡ false
    by_test false e = refl
    by_test true e = absurd (grind (arith, e, h))
not_percent (b ∷ (c ∷ name)) h = by_test (bytes_eq (b ∷ (c ∷ name)) (codes "%")) refl
  where
    by_test : (t : Bool) → bytes_eq (b ∷ (c ∷ name)) (codes "%") ≡ t → t ≡ false
    by_test false e = refl
    by_test true e = absurd (grind (arith, e))

who-again : (who : Who) → IsWho who → who_of (who_text who) ≡ Some who
who-again Each is = refl
who-again (Named name) is = rw (not_percent name (word-is name is).bytes, is) refl

subject-lacks : (c : ℕ) → is_name_byte c ≡ false → 37 ≢ c → 46 ≢ c → (e : Entry) → IsEntry e → Lacks c (who_text e.person ++ 46 ∷ who_text e.project)
subject-lacks c never percent dot e is =
    All-append (λ b. b ≢ c) (who_text e.person) (46 ∷ who_text e.project) (who-lacks c never percent e.person is.person)
    (All-cons (λ b. b ≢ c) 46 (who_text e.project) dot (who-lacks c never percent e.project is.project))

-- the line of an entry is read again
entry-again : (e : Entry) → IsEntry e → entry_of (line_of e) ≡ Some e
entry-again e is =
    let subject : List ℕ = who_text e.person ++ 46 ∷ who_text e.project in
    let letters = rights_text e.rights in
    ap with_letters (cut_at-found 32 subject letters (subject-lacks 32 refl (λ h. grind (arith, h)) (λ h. grind (arith, h)) e is))
    ∙ ap (with_subject letters) (cut_at-found 46 (who_text e.person) (who_text e.project) (who-lacks 46 refl (λ h. grind (arith, h)) e.person is.person))
    ∙ ap (with_rights (who_text e.person) (who_text e.project)) (rights-again e.rights)
    ∙ ap (λ o. entry_with o (who_of (who_text e.project)) e.rights) (who-again e.person is.person)
    ∙ ap (λ o. entry_with (Some e.person) o e.rights) (who-again e.project is.project)

-- letters are no LF
letter-lacks : (t : Bool) (letter : ℕ) → letter ≢ 10 → Lacks 10 (letter_if t letter)
letter-lacks true letter other = single 10 letter other
letter-lacks false letter other = All-nil (λ b. b ≢ 10)

dash-lacks : (letters : List ℕ) → Lacks 10 letters → Lacks 10 (or_dash letters)
dash-lacks [] h = single 10 45 (λ e. grind (arith, e))
dash-lacks (b ∷ letters) h = h

letters-lack : (x : Rights) → Lacks 10 (rights_text x)
letters-lack x =
    let names = All-append (λ b. b ≢ 10) (letter_if x.n 110) (letter_if x.a 97) (letter-lacks x.n 110 (λ e. grind (arith, e))) (letter-lacks x.a 97 (λ e. grind (arith, e))) in
    let behind = All-append (λ b. b ≢ 10) (letter_if x.w 119) (letter_if x.n 110 ++ letter_if x.a 97) (letter-lacks x.w 119 (λ e. grind (arith, e))) names in
    dash-lacks (letter_if x.r 114 ++ (letter_if x.w 119 ++ (letter_if x.n 110 ++ letter_if x.a 97)))
    (All-append (λ b. b ≢ 10) (letter_if x.r 114) (letter_if x.w 119 ++ (letter_if x.n 110 ++ letter_if x.a 97)) (letter-lacks x.r 114 (λ e. grind (arith, e))) behind)

line-lacks : (e : Entry) → IsEntry e → Lacks 10 (line_of e)
line-lacks e is =
    All-append (λ b. b ≢ 10) (who_text e.person ++ 46 ∷ who_text e.project) (32 ∷ rights_text e.rights)
    (subject-lacks 10 refl (λ h. grind (arith, h)) (λ h. grind (arith, h)) e is) (All-cons (λ b. b ≢ 10) 32 (rights_text e.rights) (λ h. grind (arith, h)) (letters-lack e.rights))

-- so is each line
entries-again : (entries : List Entry) → AllByRecursion IsEntry entries → entries_in (list_text entries) ≡ Some entries
entries-again [] are = no_lines
entries-again (e ∷ entries) are =
    first_line (list_text (e ∷ entries)) (line_of e) (list_text entries) (cut_at-found 10 (line_of e) (list_text entries) (line-lacks e are.0))
    ∙ ap (λ o. before o (entries_in (list_text entries))) (entry-again e are.0)
    ∙ ap (before (Some e)) (entries-again entries are.1)

-- a line has at most 70 bytes
who-short : (who : Who) → IsWho who → length (who_text who) ≤ 32
who-short Each is = omega arith
who-short (Named name) is = search (rules, (word-is name is).few)

letter-short : (t : Bool) (letter : ℕ) → length (letter_if t letter) ≤ 1
letter-short true letter = omega arith
letter-short false letter = omega arith

dash-short : (letters : List ℕ) → length letters ≤ 4 → length (or_dash letters) ≤ 4
dash-short [] h = omega arith
dash-short (b ∷ letters) h = h

letters-short : (x : Rights) → length (rights_text x) ≤ 4
letters-short x =
    let names = length-append (letter_if x.n 110) (letter_if x.a 97) in
    let behind = length-append (letter_if x.w 119) (letter_if x.n 110 ++ letter_if x.a 97) in
    let all = length-append (letter_if x.r 114) (letter_if x.w 119 ++ (letter_if x.n 110 ++ letter_if x.a 97)) in
    let r = letter-short x.r 114 in
    let w = letter-short x.w 119 in
    let n = letter-short x.n 110 in
    let a = letter-short x.a 97 in
    dash-short (letter_if x.r 114 ++ (letter_if x.w 119 ++ (letter_if x.n 110 ++ letter_if x.a 97))) (omega (arith, names, behind, all, r, w, n, a))

line-short : (e : Entry) → IsEntry e → length (line_of e) ≤ 70
line-short e is =
    let subject : List ℕ = who_text e.person ++ 46 ∷ who_text e.project in
    let whole = length-append subject (32 ∷ rights_text e.rights) in
    let parts = length-append (who_text e.person) (46 ∷ who_text e.project) in
    let person = who-short e.person is.person in
    let project = who-short e.project is.project in
    let letters = letters-short e.rights in
    omega (arith, whole, parts, person, project, letters)

text-short-by : (entries : List Entry) → AllByRecursion IsEntry entries → length (list_text entries) ≤ 71 * length entries
text-short-by [] are = omega arith
text-short-by (e ∷ entries) are =
    let whole = length-append (line_of e) (10 ∷ list_text entries) in
    let first = line-short e are.0 in
    let rest = text-short-by entries are.1 in
    omega (arith, whole, first, rest)

pub text_short : (entries : List Entry) → IsList entries → length (list_text entries) ≤ 71 * length entries
text_short entries is = text-short-by entries is.each

pub list_read : (entries : List Entry) → IsList entries → list_of (list_text entries) ≡ Some entries
list_read entries is =
    let short = text_short entries is in
    let few = is.few in
    let fits : length (list_text entries) ≤ LIST_BYTES = omega (arith, short, few) in
    ap (λ (t : Bool). cond t (if_few (entries_in (list_text entries))) None) (le-passes (length (list_text entries)) LIST_BYTES fits)
    ∙ ap if_few (entries-again entries is.each)
    ∙ ap (λ (t : Bool). cond t (Some entries) None) (le-passes (length entries) MOST_ENTRIES few)
