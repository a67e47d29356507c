-- One thing alone is said of bytes that are checked.
use Rattle.std.proofs.Common.{◌≡◌, ◌⊎◌, ◌∙◌, ◌≤◌, ◌^◌, ◌+◌, ℕ, Option, Some, None, List, length, inl, inr, refl, sym, ap, subst, arith}
use Rattle.std.specs.Prelude.{take, drop, unwrap_or}
use Rattle.std.proofs.lemmas.List.{length-drop}
use Rattle.dom_history.specs.Events.{Happening}
use Rattle.node_runs.specs.Runs.{World}
use Rattle.script_reader.specs.declared.cause.Cause.{Cause as BadCause}
use Rattle.script_reader.specs.Grammar.{IsScript, IsBad, raw_lines}
use Rattle.script_reader.specs.Scripts.{Content}
use Rattle.script_runs.specs.Histories.{script_history}
use Rattle.script_runs.specs.Reports.{report_of}
use Rattle.journal_check.specs.declared.verdict.TheConstants.{JOURNAL_BYTES}
use Rattle.journal_check.specs.Journals.{Cause, CanRun, IsAccepted, IsAcceptedOf, IsNo}
use Rattle.journal_check.specs.Verdicts.{cause_text}
use Rattle.script_runner.specs.Checking.{yes_text, IsVerdict, SaysOfScript, RefusesScript, IsSaidOfFew, IsSaid}
use Rattle.script_runner.specs.Domain.{line_text, refusal}
use Rattle.script_runner.specs.Parted.{parting, bytes_before}
use Rattle.script_runner.proofs.Sourced.{AreNeverBoth, AreOneContent}

-- laws of scripts and journals
pub record OneReading : Type 0 where
  pub content : AreOneContent
  pub fault : (bytes : List ℕ) (m n : ℕ) (c d : BadCause) → IsBad bytes m c → IsBad bytes n d → (m ≡ n) × (c ≡ d)
  pub never_both : AreNeverBoth
  pub can : (bytes : List ℕ) (s : Content) → IsScript bytes s → CanRun s
  pub never : (s : Content) (bytes : List ℕ) (line : ℕ) (cause : Cause) → CanRun s → IsAccepted s bytes → IsNo s bytes line cause → ⊥
  pub one : (s : Content) (bytes : List ℕ) (m n : ℕ) (c d : Cause) → CanRun s → length bytes ≤ 2 ^ 40 → IsNo s bytes m c → IsNo s bytes n d → (m ≡ n) × (c ≡ d)
  pub one_run : (s : Content) (bytes : List ℕ) (es fs : List Happening) (w v : World) → CanRun s → IsAcceptedOf s bytes es w → IsAcceptedOf s bytes fs v → es ≡ fs

-- the status and the text are the same
abbrev pub AreSame : ℕ → ℕ → List ℕ → List ℕ → Type 0
AreSame m n x y = (m ≡ n) × (x ≡ y)

same-by : (m n k : ℕ) (x y p q : List ℕ) → m ≡ k → n ≡ k → x ≡ p → y ≡ q → p ≡ q → AreSame m n x y
same-by m n k x y p q first second left right is = (first ∙ sym second, left ∙ (is ∙ sym right))

module _ (laws : OneReading) where
  -- a journal has one verdict
  one_verdict : (s : Content) (journal : List ℕ) (m n : ℕ) (x y : List ℕ) → CanRun s → length journal ≤ JOURNAL_BYTES → IsVerdict s journal m x → IsVerdict s journal n y → AreSame m n x y
  one_verdict s journal m n x y can few (inl first) (inl second) =
      same-by m n 0 x y _ _ first.status_is second.status_is first.text_is second.text_is
      (ap (λ (es : List Happening). yes_text (length es) (report_of s (script_history s es))) (laws.one_run s journal first.events second.events first.world second.world can first.is second.is))
  one_verdict s journal m n x y can few (inl first) (inr second) =
      absurd (laws.never s journal second.line second.cause can (record { events = first.events; world = first.world; is = first.is }) second.no)
  one_verdict s journal m n x y can few (inr first) (inl second) =
      absurd (laws.never s journal first.line first.cause can (record { events = second.events; world = second.world; is = second.is }) first.no)
  one_verdict s journal m n x y can few (inr first) (inr second) =
      let same = laws.one s journal first.line second.line first.cause second.cause can (omega (arith, few)) first.no second.no in
      same-by m n 9 x y _ _ first.status_is second.status_is first.text_is second.text_is
      (ap (λ (line : ℕ). line_text line (cause_text first.cause)) same.0 ∙ ap (λ (cause : Cause). line_text second.line (cause_text cause)) same.1)

  -- so has a script with a journal, and the script is good or bad
  of_parts : (front behind : List ℕ) (m n : ℕ) (x y : List ℕ) → length behind ≤ JOURNAL_BYTES → SaysOfScript front behind m x ⊎ RefusesScript front m x → SaysOfScript front behind n y ⊎ RefusesScript front n y → AreSame m n x y
  of_parts front behind m n x y few (inl first) (inl second) =
      let same = laws.content front second.script first.script second.form first.form in
      one_verdict first.script behind m n x y (laws.can front first.script first.form) few first.verdict (subst (λ (s : Content). IsVerdict s behind n y) same second.verdict)
  of_parts front behind m n x y few (inl first) (inr second) = absurd (laws.never_both front first.script second.line second.cause first.form second.bad)
  of_parts front behind m n x y few (inr first) (inl second) = absurd (laws.never_both front second.script first.line first.cause second.form first.bad)
  of_parts front behind m n x y few (inr first) (inr second) =
      let same = laws.fault front first.line second.line first.cause second.cause first.bad second.bad in
      same-by m n 3 x y _ _ first.status_is second.status_is first.text_is second.text_is
      (ap (λ (line : ℕ). refusal line first.cause) same.0 ∙ ap (λ (cause : BadCause). refusal second.line cause) same.1)

  -- bytes are parted in one way, or not at all
  one_place : (found : Option ℕ) (m n : ℕ) → found ≡ Some m → found ≡ Some n → m ≡ n
  one_place found m n first second = ap (λ (o : Option ℕ). unwrap_or o 0) (sym first ∙ second)

  nowhere : (found : Option ℕ) (m : ℕ) → found ≡ Some m → found ≡ None → ⊥
  nowhere found m there none = let both : Some m ≡ None = sym there ∙ none in absurd (cc)

  of_few : (bytes : List ℕ) (m n : ℕ) (x y : List ℕ) → length bytes ≤ JOURNAL_BYTES → IsSaidOfFew bytes m x → IsSaidOfFew bytes n y → AreSame m n x y
  of_few bytes m n x y few (inl first) (inl second) =
      let at = one_place (bytes_before (raw_lines bytes)) second.parted.at first.parted.at second.parted.found first.parted.found in
      let front : second.front ≡ first.front = second.parted.front_is ∙ (ap (λ (k : ℕ). take k bytes) at ∙ sym first.parted.front_is) in
      let behind : second.behind ≡ first.behind = second.parted.behind_is ∙ (ap (λ (k : ℕ). drop (k + length parting + 1) bytes) at ∙ sym first.parted.behind_is) in
      let many = ap length first.parted.behind_is in
      let rest = length-drop (first.parted.at + length parting + 1) bytes in
      of_parts first.front first.behind m n x y (omega (arith, few, many, rest)) first.said
      (subst (λ (b : List ℕ). SaysOfScript first.front b n y ⊎ RefusesScript first.front n y) behind
      (subst (λ (f : List ℕ). SaysOfScript f second.behind n y ⊎ RefusesScript f n y) front second.said))
  of_few bytes m n x y few (inl first) (inr second) = absurd (nowhere (bytes_before (raw_lines bytes)) first.parted.at first.parted.found second.lacks)
  of_few bytes m n x y few (inr first) (inl second) = absurd (nowhere (bytes_before (raw_lines bytes)) second.parted.at second.parted.found first.lacks)
  of_few bytes m n x y few (inr first) (inr second) = same-by m n 9 x y _ _ first.status_is second.status_is first.text_is second.text_is refl

  -- one status and one text
  pub one_said : (bytes : List ℕ) (m n : ℕ) (x y : List ℕ) → IsSaid bytes m x → IsSaid bytes n y → AreSame m n x y
  one_said bytes m n x y (inl first) (inl second) = same-by m n 3 x y _ _ first.status_is second.status_is first.text_is second.text_is refl
  one_said bytes m n x y (inl first) (inr second) = let long = first.long in let few = second.0 in absurd (omega (arith, long, few))
  one_said bytes m n x y (inr first) (inl second) = let long = second.long in let few = first.0 in absurd (omega (arith, long, few))
  one_said bytes m n x y (inr first) (inr second) = of_few bytes m n x y first.0 first.1 second.1
