use Rattle.std.proofs.Common.{Option, None, ap, ◌∙◌, sym, subst}
use Rattle.naming_tree.specs.declared.site.Site.{Site}
use Rattle.command_talks.specs.Commands.{talk_for}
use Rattle.aegis_shell.specs.AnswerTexts.{path_too_long}
use Rattle.aegis_shell.specs.Operations.{ops_of}
use Rattle.aegis_shell.specs.States.{begins, talk_goes}
use Rattle.command_talks.specs.Talks.{MayBeTold}
use Rattle.command_talks.specs.declared.outcome.Outcome.TheVariants.{Written}
use Rattle.aegis_shell.specs.declared.stage.Turn.TheVariants as turns
use Rattle.command_talks.specs.declared.check.Subject.{Subject}
use Rattle.command_talks.specs.declared.talk.Talk.{Talk}
use Rattle.command_talks.proofs.Begun.{ranged_begun}
use Rattle.aegis_shell.proofs.Beginnings.{talk_begins, long_begins}
use Rattle.aegis_shell.proofs.Calls.{leads_same, leads_by, asks_any, ends_asking}
use Rattle.aegis_shell.proofs.begin.begin.Goals as goal

pub machine_for-requires : goal.machine_for-requires
machine_for-requires c = c.requires

pub returns-then-branch : goal.returns-then-branch
returns-then-branch c =
    let part = c.args.work.now in
    let command = c.args.command.now in
    let long = sym c.in_ok-is_too_long.ensures ∙ c.if-branch.true in
    record {
      turn = leads_by c.written.result (turns.Comes (Written path_too_long)) (begins part c.args.working.now c.args.object command) c.written.ensures
          (long_begins part c.args.working.now c.args.object command long);
      asks = ends_asking (ops_of part.node command c.args.object) c.written.result path_too_long c.written.ensures;
    }

pub turn_of-requires : goal.turn_of-requires
turn_of-requires c =
    let command = c.args.command.now in
    let found = rw c.in-Some.is at c.in_ok-machine.ensures in
    subst (λ (t : Talk). MayBeTold t None) (sym found.1) (ranged_begun c.guard.result.now c.site.result.now c.args.working.now.dir command found.0 c.requires)

pub returns-in-Some : goal.returns-in-Some
returns-in-Some c =
    let part = c.args.work.now in
    let working = c.args.working.now in
    let command = c.args.command.now in
    let found = rw c.in-Some.is at c.in_ok-machine.ensures in
    let short = sym c.in_ok-is_too_long.ensures ∙ c.if-branch.false in
    record {
      turn = leads_same c.turn_of.result (talk_goes c.in-Some.machine None) (begins part working c.args.object command) c.turn_of.ensures.turn
          (ap (λ (t : Talk). talk_goes t None) (found.1 ∙ (ap (λ (who : Option Subject). talk_for who c.site.result.now working.dir command) c.guard.ensures ∙ ap (λ (s : Site). talk_for part.guard s working.dir command) c.site.ensures)) ∙ talk_begins part working c.args.object command found.0 short c.requires);
      asks = asks_any (ops_of part.node command c.args.object) c.turn_of.result c.turn_of.ensures.asks;
    }

pub begin_alone-requires-clause-range : goal.begin_alone-requires-clause-range
begin_alone-requires-clause-range c = c.requires

pub begin_alone-requires-clause-alone : goal.begin_alone-requires-clause-alone
begin_alone-requires-clause-alone c = rw c.in-None.is at c.in_ok-machine.ensures

pub returns-in-None : goal.returns-in-None
returns-in-None c = record { turn = c.begin_alone.ensures.turn; asks = c.begin_alone.ensures.asks }
