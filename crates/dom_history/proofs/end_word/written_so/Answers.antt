use Rattle.std.proofs.Common.{ℕ, List, ap, sym, ◌∙◌}
use Rattle.std.specs.Prelude.{bytes_eq}
use Rattle.dom_history.specs.EndWords.{word_text}
use Rattle.uid_names.proofs.WrittenTables.{written_here, written_on, written_out}
use Rattle.dom_history.proofs.end_word.written_so.Goals as goal

pub returns-then-eq : goal.returns-then-eq
returns-then-eq c =
    written_here word_text c.args.ends.now c.args.word.now c.loop-end.end-index c.loop-end.invariant _ c.loop-end-test.true
    (ap (λ (t : List ℕ). bytes_eq t c.args.word.now) (sym c.word.ensures ∙ sym c.as_bytes.ensures.value) ∙ sym c.eq.ensures ∙ c.if-eq.true)

pub loop-end-preserved : goal.loop-end-preserved
loop-end-preserved c =
    written_on word_text c.args.ends.now c.args.word.now c.loop-end.end-index c.loop-end.invariant _ c.loop-end-test.true
    (ap (λ (t : List ℕ). bytes_eq t c.args.word.now) (sym c.word.ensures ∙ sym c.as_bytes.ensures.value) ∙ sym c.eq.ensures ∙ c.if-eq.false)

pub returns : goal.returns
returns c = written_out word_text c.args.ends.now c.args.word.now c.loop-end.end-index c.loop-end.invariant c.loop-end-test.false
