use Rattle.std.proofs.Common.{◌≡◌, ℕ, List, ◌++◌, false, ap, ◌∙◌, sym, subst}
use Rattle.std.specs.Prelude.{codes}
use Rattle.aegis_shell.specs.Operations.{ops_of}
use Rattle.command_talks.specs.Commands.{talks}
use Rattle.aegis_shell.specs.Plans.{makes}
use Rattle.aegis_shell.specs.States.{Comes, begins, begins_by}
use Rattle.command_talks.specs.declared.outcome.Outcome.TheVariants.{Written}
use Rattle.script_reader.specs.declared.command.Command.{Command}
use Rattle.aegis_shell.proofs.Beginnings.{told_begins, plain_begins}
use Rattle.aegis_shell.proofs.Calls.{leads_same, leads_by, listing, list_asks, list_begins}
use Rattle.aegis_shell.proofs.begin.begin_alone.Goals as goal

pub returns-in_ok-text-in-Wd-clause-turn : goal.returns-in_ok-text-in-Wd-clause-turn
returns-in_ok-text-in-Wd-clause-turn c =
    let part = c.args.work.now in
    let working = c.args.working.now in
    let alone = subst (λ (command : Command). talks command ≡ false) c.in-Wd.is c.requires.alone in
    ap (λ text. Comes (Written text)) (c.in_ok-text-in-Wd.ensures ∙ ap (λ (text : List ℕ). codes "ok " ++ text) c.bytes.ensures)
    ∙ (told_begins part working c.args.object c.in-Wd.path alone
    ∙ ap (begins part working c.args.object) (sym c.in-Wd.is))

pub returns-in-Llkob-clause-turn : goal.returns-in-Llkob-clause-turn
returns-in-Llkob-clause-turn c =
    let same = list_begins c.args.work.now c.args.working.now c.args.object c.args.command.now c.in-Llkob.node c.in-Llkob.is in
    leads_by c.list.result (listing c.in-Llkob.node) (begins c.args.work.now c.args.working.now c.args.object c.args.command.now) c.list.ensures.turn same

pub returns-in-Llkob-clause-asks : goal.returns-in-Llkob-clause-asks
returns-in-Llkob-clause-asks c =
    list_asks (ops_of c.args.work.now.node c.args.command.now c.args.object) c.in-Llkob.node c.list.result c.list.ensures.turn c.list.ensures.range

pub operate-requires : goal.operate-requires
operate-requires c = c.requires.range

pub returns-in_default : goal.returns-in_default
returns-in_default c =
    let part = c.args.work.now in
    let working = c.args.working.now in
    let uid = c.args.object in
    let command = c.args.command.now in
    record {
      turn = leads_same c.operate.result (begins_by part working command (makes (ops_of part.node command uid))) (begins part working uid command) c.operate.ensures.turn
          (plain_begins part working uid command c.requires.alone c.in_default.not-Wd c.in_default.not-Llkob);
      asks = c.operate.ensures.asks;
    }
