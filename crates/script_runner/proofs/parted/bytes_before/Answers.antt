use Rattle.std.proofs.Common.{◌≡◌, ◌∙◌, ◌+◌, ℕ, true, false, List, ◌∷◌, length, sym, ap, arith}
use Rattle.std.specs.Prelude.{bytes_eq, option_map}
use Rattle.std.proofs.lemmas.List.{length-append}
use Rattle.script_reader.specs.Grammar.{raw_lines}
use Rattle.script_runner.specs.Parted.{parting, bytes_before}
use Rattle.script_runner.proofs.Parting.{found-first, found-here, found-behind, found-last, found-nowhere}
use Rattle.script_runner.proofs.parted.bytes_before.Goals as goal

pub returns-then-eq-clause-place : goal.returns-then-eq-clause-place
returns-then-eq-clause-place c =
    let line = c.in-Some.line.now in
    let is : bytes_eq line parting ≡ true = ap (bytes_eq line) (sym c.as_slice.ensures) ∙ sym c.eq.ensures ∙ c.if-eq.true in
    sym (c.loop-line.invariant.0 ∙ found-first c.loop-line.at (bytes_before (raw_lines c.loop-line.rest.now))
    (ap (λ (t : List ℕ). bytes_before (raw_lines t)) c.in-Some.ensures.parts.whole ∙ found-here line c.in-Some.behind.now c.in-Some.ensures.parts.first is))

pub loop-line-preserved : goal.loop-line-preserved
loop-line-preserved c =
    let at = c.loop-line.at in
    let line = c.in-Some.line.now in
    let behind = c.in-Some.behind.now in
    let whole = c.in-Some.ensures.parts.whole in
    let other : bytes_eq line parting ≡ false = ap (bytes_eq line) (sym c.as_slice.ensures) ∙ sym c.eq.ensures ∙ c.if-eq.false in
    let many = ap length whole in
    let both = length-append line (10 ∷ behind) in
    let all = c.loop-line.invariant.1 in (
      c.loop-line.invariant.0 ∙ (ap (λ (t : List ℕ). option_map (λ k. at + k) (bytes_before (raw_lines t))) whole ∙ found-behind at line behind c.in-Some.ensures.parts.first other),
      omega (arith, many, both, all),
    )

pub returns-then-eq-2-clause-place : goal.returns-then-eq-2-clause-place
returns-then-eq-2-clause-place c =
    let rest = c.loop-line.rest.now in
    let is : bytes_eq rest parting ≡ true = ap (bytes_eq rest) (sym c.as_slice-2.ensures) ∙ sym c.eq-2.ensures ∙ c.if-eq-2.true in
    sym (c.loop-line.invariant.0 ∙ found-first c.loop-line.at (bytes_before (raw_lines rest)) (found-last rest c.in_default.ensures.parts is))

pub returns-clause-place : goal.returns-clause-place
returns-clause-place c =
    let rest = c.loop-line.rest.now in
    let other : bytes_eq rest parting ≡ false = ap (bytes_eq rest) (sym c.as_slice-2.ensures) ∙ sym c.eq-2.ensures ∙ c.if-eq-2.false in
    sym (c.loop-line.invariant.0 ∙ ap (option_map (λ k. c.loop-line.at + k)) (found-nowhere rest c.in_default.ensures.parts other))
