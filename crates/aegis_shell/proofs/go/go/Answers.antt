use Rattle.std.proofs.Common.{Some, List, ap, ◌∙◌, sym, subst}
use Rattle.uid_names.specs.declared.lock_row.LockRow.{LockRow}
use Rattle.dom_history.specs.declared.op.Reply.{Reply}
use Rattle.dom_history.specs.declared.op.Reply.TheVariants.{Locks}
use Rattle.aegis_shell.specs.AnswerTexts.{is_done}
use Rattle.aegis_shell.specs.Operations.{ops_of, second_of}
use Rattle.aegis_shell.specs.States.{Comes, goes_on, on_first, on_list, talk_goes}
use Rattle.aegis_shell.specs.Turns.{FitsStage}
use Rattle.command_talks.specs.declared.outcome.Outcome.TheVariants.{Replied}
use Rattle.aegis_shell.specs.declared.stage.Stage.{Stage}
use Rattle.aegis_shell.specs.declared.stage.Turn.TheVariants as turns
use Rattle.aegis_shell.proofs.Beginnings.{talk_hears}
use Rattle.aegis_shell.proofs.Calls.{leads_same, leads_by, asks_any, replies_asking, other_ends}
use Rattle.command_talks.proofs.Readies.{talk_told}
use Rattle.aegis_shell.proofs.go.go.Goals as goal

pub unreachable-requires : goal.unreachable-requires
unreachable-requires c =
    let part = c.args.work.now in
    let list = ops_of part.node c.args.command.now c.args.object in
    absurd (subst (λ (s : Stage). FitsStage list s c.args.reply.now) c.in-Between.is c.requires.fits)

pub go_first-requires : goal.go_first-requires
go_first-requires c = c.requires.range

pub returns-in-First : goal.returns-in-First
returns-in-First c =
    let part = c.args.work.now in
    let list = ops_of part.node c.args.command.now c.args.object in
    let reply = c.args.reply.now in
    record {
      turn = leads_same c.go_first.result (on_first (is_done reply) (second_of list) (Some reply)) (goes_on part.names list c.args.stage (Some reply)) c.go_first.ensures.turn
          (ap (λ (s : Stage). goes_on part.names list s (Some reply)) (sym c.in-First.is));
      asks = c.go_first.ensures.asks;
    }

pub returns-in_ok-reply-in-Second-clause-turn : goal.returns-in_ok-reply-in-Second-clause-turn
returns-in_ok-reply-in-Second-clause-turn c =
    let part = c.args.work.now in
    let list = ops_of part.node c.args.command.now c.args.object in
    ap (λ (r : Reply). Comes (Replied r)) c.in_ok-reply-in-Second.ensures ∙ ap (λ (s : Stage). goes_on part.names list s (Some c.args.reply.now)) (sym c.in-Second.is)

pub turn_of-requires : goal.turn_of-requires
turn_of-requires c =
    let list = ops_of c.args.work.now.node c.args.command.now c.args.object in
    talk_told c.in-Talks.talk c.args.reply.now (subst (λ (s : Stage). FitsStage list s c.args.reply.now) c.in-Talks.is c.requires.fits)

pub returns-in-Talks : goal.returns-in-Talks
returns-in-Talks c =
    let part = c.args.work.now in
    let list = ops_of part.node c.args.command.now c.args.object in
    let reply = c.args.reply.now in
    let fits = subst (λ (s : Stage). FitsStage list s reply) c.in-Talks.is c.requires.fits in
    record {
      turn = leads_same c.turn_of.result (talk_goes c.in-Talks.talk (Some reply)) (goes_on part.names list c.args.stage (Some reply)) c.turn_of.ensures.turn
          (talk_hears c.in-Talks.talk reply fits ∙ ap (λ (s : Stage). goes_on part.names list s (Some reply)) (sym c.in-Talks.is));
      asks = asks_any list c.turn_of.result c.turn_of.ensures.asks;
    }

pub returns-in-Locks : goal.returns-in-Locks
returns-in-Locks c =
    let part = c.args.work.now in
    let list = ops_of part.node c.args.command.now c.args.object in
    let told = on_list part.names c.in-Lists.home c.in-Lists.text in
    record {
      turn = leads_same c.go_list.result (told (Some (Locks c.items.result.now c.in-Locks.more))) (goes_on part.names list c.args.stage (Some c.args.reply.now)) c.go_list.ensures.turn
          (ap (λ (rows : List LockRow). told (Some (Locks rows c.in-Locks.more))) c.items.ensures
          ∙ (ap (λ (r : Reply). told (Some r)) (sym c.in-Locks.is)
          ∙ ap (λ (s : Stage). goes_on part.names list s (Some c.args.reply.now)) (sym c.in-Lists.is)));
      asks = asks_any list c.go_list.result c.go_list.ensures.asks;
    }

pub returns-in_default : goal.returns-in_default
returns-in_default c =
    let part = c.args.work.now in
    let list = ops_of part.node c.args.command.now c.args.object in
    let reply = c.args.reply.now in
    record {
      turn = leads_by c.ended.result (turns.Comes (Replied reply)) (goes_on part.names list c.args.stage (Some reply)) c.ended.ensures
          (other_ends part.names c.in-Lists.home c.in-Lists.text reply c.in_default.not-Locks ∙ ap (λ (s : Stage). goes_on part.names list s (Some reply)) (sym c.in-Lists.is));
      asks = replies_asking list c.ended.result reply c.ended.ensures;
    }
