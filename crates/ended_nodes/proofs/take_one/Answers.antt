use Rattle.std.proofs.Common.{List, ap, ◌∙◌}
use Rattle.uid_names.specs.Names.{ProcName}
use Rattle.dom_history.specs.declared.event.NodeLog.{NodeLog}
use Rattle.ended_nodes.specs.Ended.{named}
use Rattle.ended_nodes.proofs.Programs.{named-more, all-numbered}
use Rattle.ended_nodes.proofs.take_one.Goals as goal

pub put_programs-requires : goal.put_programs-requires
put_programs-requires g c = all-numbered c.args.node c.into_parts-log.result.1.items c.requires c.into_parts-log.ensures.programs

pub returns-clause-programs : goal.returns-clause-programs
returns-clause-programs g c = λ p.
    ap (λ (xs : List (ProcName × g.row.P.Denot)). named xs p) c.in_ok-put_programs.ensures
    ∙ named-more c.args.programs.now.items c.args.node c.into_parts-log.result.0.node c.into_parts-log.result.1.items (ap (λ (l : NodeLog). l.node) c.into_parts-log.ensures.log) c.into_parts-log.ensures.programs p
