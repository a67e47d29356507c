use Rattle.std.proofs.Common.{ℕ, List, ap, sym, ◌∙◌}
use Rattle.std.specs.Prelude.{bytes_eq}
use Rattle.script_reader.specs.Words.{verb_text}
use Rattle.uid_names.proofs.WrittenTables.{written_here, written_on, written_out}
use Rattle.script_reader.proofs.words.verb_of.Goals as goal

pub returns-then-eq : goal.returns-then-eq
returns-then-eq c =
    written_here verb_text c.args.verbs.now c.args.word.now c.loop-verb.verb-index c.loop-verb.invariant _ c.loop-verb-test.true
    (ap (λ (t : List ℕ). bytes_eq t c.args.word.now) (sym c.text.ensures) ∙ sym c.eq.ensures ∙ c.if-eq.true)

pub loop-verb-preserved : goal.loop-verb-preserved
loop-verb-preserved c =
    written_on verb_text c.args.verbs.now c.args.word.now c.loop-verb.verb-index c.loop-verb.invariant _ c.loop-verb-test.true
    (ap (λ (t : List ℕ). bytes_eq t c.args.word.now) (sym c.text.ensures) ∙ sym c.eq.ensures ∙ c.if-eq.false)

pub returns : goal.returns
returns c = written_out verb_text c.args.verbs.now c.args.word.now c.loop-verb.verb-index c.loop-verb.invariant c.loop-verb-test.false
