-- Lines that are read one by one.
use Rattle.std.proofs.Common.{◌≡◌, ◌≢◌, ◌<◌, ◌+◌, ◌-◌, take, drop, ℕ, Bool, true, false, List, [], ◌∷◌, ◌++◌, length, Option, Some, None, Ok, Err, MatchOption, refl, ap, sym, ◌∙◌, arith}
use Rattle.std.specs.Prelude.{◌==◌, ◌||◌, if◌then◌else◌, nat_lt}
use Rattle.std.proofs.lemmas.List.{length-take, nil_from_length}
use Rattle.std.proofs.lemmas.Bool.{false≢true, eqb-true, ne_eqb}
use Rattle.std.proofs.lemmas.List.Elements.{All-head, All-tail}
use Rattle.dom_text.specs.declared.token.Token.{Token}
use Rattle.dom_text.specs.declared.token.Token.TheVariants.{Word as WordToken, Text as TextToken}
use Rattle.dom_text.specs.Cuts.{Lacks, cut_at}
use Rattle.script_reader.specs.Grammar.{AreGood, IsFirstBad, before_lines, raw_lines, without_cr}
use Rattle.script_reader.specs.Walk.Formed.{HasForm, IsFormed}
use Rattle.script_reader.specs.Judging.{has_begun, judged, judged_process, judged_tokens}
use Rattle.script_reader.specs.Sayings.{Saying, Wire, Node, Object, Fault, Phase, Access, Subject, Does}
use Rattle.script_reader.specs.Scripts.{Content}
use Rattle.script_reader.specs.Walk.Seen.{BeginsWithNoWord, seen, seen_line}
use Rattle.script_reader.specs.Words.{ProcessWord, line_word_of, line_word_text, line_words, process_word, verb_of, verb_text, verbs}
use Rattle.script_reader.specs.declared.cause.Cause.{Cause}
use Rattle.script_reader.specs.declared.cause.Cause.TheVariants.{Word}
use Rattle.script_reader.specs.declared.line.Line.{Line}
use Rattle.script_reader.specs.declared.script.CommandRow.{CommandRow}
use Rattle.script_reader.specs.declared.words.LineWord.{LineWord}
use Rattle.script_reader.specs.declared.words.LineWord.TheVariants.{Wire as WireWord, Node as NodeWord, Object as ObjectWord, Fault as FaultWord, Phase as PhaseWord, Access as AccessWord, Subject as SubjectWord}
use Rattle.script_reader.specs.declared.words.Verb.{Verb}
use Rattle.script_reader.specs.declared.words.Verb.TheVariants.{New as NewVerb, Lock as LockVerb, Unlock as UnlockVerb, Delete as DeleteVerb, Load as LoadVerb, Store as StoreVerb, Length as LengthVerb, Map as MapVerb, Unmap as UnmapVerb, Loadat as LoadatVerb, Storeat as StoreatVerb, Bind as BindVerb, Crf as CrfVerb, Crd as CrdVerb, Crl as CrlVerb, Dlf as DlfVerb, Catf as CatfVerb, Lnf as LnfVerb, Apf as ApfVerb, Cpf as CpfVerb, Crm as CrmVerb, Putm as PutmVerb, Takem as TakemVerb, Ld as LdVerb, Wd as WdVerb, Llkob as LlkobVerb}
use Rattle.uid_names.proofs.TextTables.{looked_up}

-- a good line in front
pub good_step : (s t : Content) (line : List ℕ) (lines : List (List ℕ)) (end : Content) → judged s (without_cr line) ≡ Ok t → AreGood t lines end → AreGood s (line ∷ lines) end
good_step s t line lines end e h = rw e h

pub bad_step : (k : ℕ) (s t : Content) (line : List ℕ) (lines : List (List ℕ)) (n : ℕ) (cause : Cause) → judged s (without_cr line) ≡ Ok t → IsFirstBad (k + 1) t lines n cause → IsFirstBad k s (line ∷ lines) n cause
bad_step k s t line lines n cause e h = rw e h

-- a bad one in front
pub bad_here : (k : ℕ) (s : Content) (line : List ℕ) (lines : List (List ℕ)) (cause : Cause) → judged s (without_cr line) ≡ Err cause → IsFirstBad k s (line ∷ lines) k cause
bad_here k s line lines cause e = rw e (refl, refl)

-- bytes are cut into lines at the first LF
pub lines-cut : (front back : List ℕ) → Lacks 10 front → raw_lines (front ++ 10 ∷ back) ≡ front ∷ raw_lines back
lines-cut [] back h = refl
lines-cut (b ∷ front) back h =
    rw (ne_eqb b 10 (All-head (λ b. b ≢ 10) b front h)) (ap (before_lines b) (lines-cut front back (All-tail (λ b. b ≢ 10) b front h)))

-- the last line may lack its LF
pub lines-uncut : (b : ℕ) (line : List ℕ) → Lacks 10 (b ∷ line) → raw_lines (b ∷ line) ≡ (b ∷ line) ∷ []
lines-uncut b [] h = rw (ne_eqb b 10 (All-head (λ b. b ≢ 10) b [] h)) refl
lines-uncut b (c ∷ line) h =
    rw (ne_eqb b 10 (All-head (λ b. b ≢ 10) b (c ∷ line) h)) (ap (before_lines b) (lines-uncut c line (All-tail (λ b. b ≢ 10) b (c ∷ line) h)))

-- a line that ends in a CR
pub cr-cut : (line : List ℕ) → without_cr (line ++ 13 ∷ []) ≡ line
cr-cut [] = refl
cr-cut (b ∷ []) = refl
cr-cut (b ∷ c ∷ line) = ap (λ t. b ∷ t) (cr-cut (c ∷ line))

-- one that doesn't
pub no_cr : (line : List ℕ) → ((front : List ℕ) → line ≢ front ++ 13 ∷ []) → without_cr line ≡ line
no_cr [] h = refl
no_cr (b ∷ []) h = by_test (b == 13) refl where
  by_test : (t : Bool) → (b == 13) ≡ t → (if t then [] else b ∷ []) ≡ b ∷ []
  by_test true e = absurd (h [] (ap (λ x. x ∷ []) (eqb-true b 13 e)))
  by_test false e = refl
no_cr (b ∷ c ∷ line) h = ap (λ t. b ∷ t) (no_cr (c ∷ line) (λ front e. h (b ∷ front) (ap (λ t. b ∷ t) e)))

-- bytes without an LF are one line
pub lines-alone : (bytes : List ℕ) → Lacks 10 bytes → 0 < length bytes → raw_lines bytes ≡ bytes ∷ []
lines-alone [] h some = absurd (omega (arith, some))
lines-alone (b ∷ bytes) h some = lines-uncut b bytes h

-- nothing stands behind the end
pub behind_the_end : (xs : List ℕ) → take (length xs - length xs) (drop (length xs) xs) ≡ []
behind_the_end xs = nil_from_length (take (length xs - length xs) (drop (length xs) xs)) (omega (arith, length-take (length xs - length xs) (drop (length xs) xs)))

-- tokens that begin with no word are no line
pub no_word : (s : Content) (tokens : List Token) → BeginsWithNoWord tokens → 0 < length tokens → judged_tokens s tokens ≡ Err Word
no_word s [] h some = absurd (omega (arith, some))
no_word s (WordToken word ∷ rest) h some = absurd h
no_word s (TextToken text ∷ rest) h some = refl

-- a word of the tables is found, and no other
line_word-again : (w : LineWord) → line_word_of (line_word_text w) ≡ Some w
line_word-again WireWord = refl
line_word-again NodeWord = refl
line_word-again ObjectWord = refl
line_word-again FaultWord = refl
line_word-again PhaseWord = refl
line_word-again AccessWord = refl
line_word-again SubjectWord = refl

pub no_line_word : (word : List ℕ) → ((w : LineWord) → word ≢ line_word_text w) → line_word_of word ≡ None
no_line_word word h = sym (looked_up line_word_text line_words line_word-again None word h)

-- no line word names a process
no_process : (w : LineWord) → process_word (line_word_text w) ≡ None
unfolding cut_at
no_process WireWord = refl
no_process NodeWord = refl
no_process ObjectWord = refl
no_process FaultWord = refl
no_process PhaseWord = refl
no_process AccessWord = refl
no_process SubjectWord = refl

none_is_some : (p : ProcessWord) → None ≢ Some p
none_is_some p e = cc

-- so what names a process is no line word
pub begins_command : (word : List ℕ) (p : ProcessWord) → process_word word ≡ Some p → line_word_of word ≡ None
begins_command word p h = no_line_word word (λ w is. none_is_some p (sym (ap process_word is ∙ no_process w) ∙ h))

pub verb-again : (v : Verb) → verb_of (verb_text v) ≡ Some v
verb-again NewVerb = refl
verb-again LockVerb = refl
verb-again UnlockVerb = refl
verb-again DeleteVerb = refl
verb-again LoadVerb = refl
verb-again StoreVerb = refl
verb-again LengthVerb = refl
verb-again MapVerb = refl
verb-again UnmapVerb = refl
verb-again LoadatVerb = refl
verb-again StoreatVerb = refl
verb-again BindVerb = refl
verb-again CrfVerb = refl
verb-again CrdVerb = refl
verb-again CrlVerb = refl
verb-again DlfVerb = refl
verb-again CatfVerb = refl
verb-again LnfVerb = refl
verb-again ApfVerb = refl
verb-again CpfVerb = refl
verb-again CrmVerb = refl
verb-again PutmVerb = refl
verb-again TakemVerb = refl
verb-again LdVerb = refl
verb-again WdVerb = refl
verb-again LlkobVerb = refl

pub no_verb : (word : List ℕ) → ((v : Verb) → word ≢ verb_text v) → verb_of word ≡ None
no_verb word h = sym (looked_up verb_text verbs verb-again None word h)

pub verb_found : (word : List ℕ) (v : Verb) → word ≡ verb_text v → verb_of word ≡ Some v
verb_found word v is = ap verb_of is ∙ verb-again v

-- tokens behind a process that begin with no word are no command
pub no_verb_word : (s : Content) (process : ProcessWord) (tokens : List Token) → BeginsWithNoWord tokens → judged_process s (Some process) tokens ≡ Err Word
no_verb_word s process [] h = refl
no_verb_word s process (WordToken word ∷ rest) h = absurd h
no_verb_word s process (TextToken text ∷ rest) h = refl

-- a form that was found, seen as the definitions have it
pub form_is : (found : Option Line) (form : Option Saying) → MatchOption found (form ≡ None) (λ line. form ≡ Some (seen line)) → form ≡ seen_line found
form_is None form h = h
form_is (Some line) form h = h

no_commands : (phases : ℕ) (commands : List CommandRow) → (nat_lt 1 phases || nat_lt 0 (length commands)) ≡ false → commands ≡ []
no_commands phases [] h = refl
no_commands phases (c ∷ commands) h = absurd (false≢true (grind arith))

-- before phases and commands all is in its place
pub in_place : (s : Content) → has_begun s ≡ false → (said : Saying) → HasForm said → IsFormed s said
in_place s h (Wire version) form = form
in_place s h (Node name frames) form = form
in_place s h (Object var room home) form = (no_commands s.phases s.commands h, form)
in_place s h (Fault from to index fate) form = form
in_place s h Phase form = tt
in_place s h Access form = tt
in_place s h (Subject process person project) form = form
in_place s h (Does process verb arguments) form = form
