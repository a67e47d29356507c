use Rattle.std.proofs.Common.{length, map, ap, sym, subst, arith}
use Rattle.dom_history.specs.NodeTexts.{AreNodeNames}
use Rattle.script_reader.specs.Variables.{declared_object}
use Rattle.aegis_shell.specs.Ranges.{AreJobs}
use Rattle.aegis_shell.proofs.Parts.{node_names, jobs_ranged, jobs_few}
use Rattle.aegis_shell.proofs.work.Work.new.Goals as goal

pub names-requires : goal.names-requires
names-requires c = subst (λ nodes. AreNodeNames (map (λ n. n.name) nodes)) (sym c.nodes.ensures.value) (node_names c.args.script.now c.nodes.ensures.content)

pub invariant_of-result : goal.invariant_of-result
invariant_of-result c =
    let script = c.args.script.now in
    let jobs = c.in_ok-jobs.ensures in (
      subst AreJobs (sym jobs) (jobs_ranged script (declared_object script.objects) c.args.proc c.nodes.ensures.content),
      (let few = jobs_few script (declared_object script.objects) c.args.proc c.nodes.ensures.content in
          let same = ap length jobs in
          omega arith),
    )
