use Rattle.std.proofs.Common.{ℕ, List, ap, sym, ◌∙◌}
use Rattle.std.specs.Prelude.{bytes_eq}
use Rattle.uid_names.specs.FrameKinds.{kind_name}
use Rattle.uid_names.proofs.WrittenTables.{written_here, written_on, written_out}
use Rattle.uid_names.proofs.frame_kind.named.Goals as goal

pub returns-then-eq : goal.returns-then-eq
returns-then-eq c =
    written_here kind_name c.args.kinds.now c.args.name.now c.loop-kind.kind-index c.loop-kind.invariant _ c.loop-kind-test.true
    (ap (λ (t : List ℕ). bytes_eq t c.args.name.now) (sym c.name.ensures ∙ sym c.as_bytes.ensures.value) ∙ sym c.eq.ensures ∙ c.if-eq.true)

pub loop-kind-preserved : goal.loop-kind-preserved
loop-kind-preserved c =
    written_on kind_name c.args.kinds.now c.args.name.now c.loop-kind.kind-index c.loop-kind.invariant _ c.loop-kind-test.true
    (ap (λ (t : List ℕ). bytes_eq t c.args.name.now) (sym c.name.ensures ∙ sym c.as_bytes.ensures.value) ∙ sym c.eq.ensures ∙ c.if-eq.false)

pub returns : goal.returns
returns c = written_out kind_name c.args.kinds.now c.args.name.now c.loop-kind.kind-index c.loop-kind.invariant c.loop-kind-test.false
