use Rattle.std.proofs.Common.{◌≡◌, [], Option, None, IfSome, ap, subst}
use Rattle.std.proofs.lemmas.List.Elements.{All-nil}
use Rattle.dom_history.specs.declared.op.Reply.{Reply}
use Rattle.dom_history.specs.Ranges.{IsNamedReply}
use Rattle.node_core.specs.Outcomes.{Told}
use Rattle.node_core.proofs.Beginning.{asked-first, on-told}
use Rattle.node_core.proofs.machine.Machine.ask_first.Goals as goal

pub tell_program-requires-clause-wanted : goal.tell_program-requires-clause-wanted
tell_program-requires-clause-wanted g c p = c.requires.kept.given.wants p [] tt (All-nil (λ (told : Option Reply). IfSome told IsNamedReply))

pub returns : goal.returns
returns g c =
    let old = c.args.self.now in
    let new = c.tell_program.new.self in
    let number : c.proc-proc.result.number ≡ c.args.number = ap (λ x. x.number) c.proc-proc.ensures in
    on-told c.tell_program.result
    (λ told. asked-first g.P.Program.spent g.P.Program.wants g.P.Program.becomes old new c.args.number c.requires.proc c.requires.kept c.requires.first
    (subst (λ k. Told g.P.Program.spent g.P.Program.wants g.P.Program.becomes old new k 1 None) number told))
    c.tell_program.ensures
