use Rattle.std.proofs.Common.{◌≡◌, arith, subst, sym, map}
use Rattle.dom_history.specs.NodeTexts.{AreNodeNames}
use Rattle.aegis_shell.proofs.Parts.{node_names}
use Rattle.explored_runs.specs.Sought.{IsFound}
use Rattle.explored_runs.proofs.Halves.{none-yet, none-append, found_here}
use Rattle.explored_runs.proofs.finding.find.Goals as goal

pub names_of-requires : goal.names_of-requires
names_of-requires g c = subst (λ rows. AreNodeNames (map (λ n. n.name) rows)) (sym c.nodes.ensures.value) (node_names c.args.script.now c.nodes.ensures.content)

pub loop-next-init : goal.loop-next-init
loop-next-init g c = (none-yet c.args.script.now c.args.words.now c.args.first, omega arith, omega arith)

pub returns-in-Some : goal.returns-in-Some
returns-in-Some g c =
    let s = c.args.script.now in
    let words = c.args.words.now in
    let so_far = c.loop-next.invariant in
    found_here s words c.args.first c.loop-next.next c.batch_end-to.result c.args.end c.in-Some.found so_far.1 c.batch_end-to.ensures.within so_far.0
    (subst (IsFound s words c.loop-next.next c.batch_end-to.result) c.in-Some.is c.in_ok-sought.ensures)

pub loop-next-preserved : goal.loop-next-preserved
loop-next-preserved g c =
    let s = c.args.script.now in
    let words = c.args.words.now in
    let so_far = c.loop-next.invariant in (
      none-append s words c.args.first c.loop-next.next c.batch_end-to.result so_far.0 (subst (IsFound s words c.loop-next.next c.batch_end-to.result) c.in_default.is c.in_ok-sought.ensures),
      omega arith,
      omega arith,
    )

pub loop-next-preserved-in-Some-notes : goal.loop-next-preserved-in-Some-notes
loop-next-preserved-in-Some-notes g c =
    let s = c.args.script.now in
    let words = c.args.words.now in
    let so_far = c.loop-next.invariant in (
      none-append s words c.args.first c.loop-next.next c.batch_end-to.result so_far.0 (subst (IsFound s words c.loop-next.next c.batch_end-to.result) c.in_default.is c.in_ok-sought.ensures),
      omega arith,
      omega arith,
    )
