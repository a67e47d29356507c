use Rattle.std.proofs.Common.{◌≡◌, Option, Some, ap, ◌∙◌, sym}
use Rattle.std.specs.Option.{option_copied}
use Rattle.std.proofs.lemmas.Result.{IfOk-weaker}
use Rattle.command_talks.specs.Dialogues.{TalkStep}
use Rattle.command_talks.specs.FileTurns.{led}
use Rattle.command_talks.specs.Talks.{led_in, of_file, talk_in, turn_by, turn_in}
use Rattle.command_talks.specs.declared.come.Come.{Come}
use Rattle.command_talks.specs.declared.file_talk.FileTalk.{FileTalk}
use Rattle.command_talks.specs.declared.file_talk.FileTurn.TheVariants.{Goes}
use Rattle.command_talks.proofs.Streams.{said_comes, said_goes}
use Rattle.command_talks.proofs.turning.file_step.Goals as goal

pub returns-in-Some-Do-clause-turn : goal.returns-in-Some-Do-clause-turn
returns-in-Some-Do-clause-turn c =
    let machine = c.in-Some.machine in
    let op = c.in-Some-Do.op in
    let last = option_copied c.args.last in
    ap (λ (m : FileTalk). of_file (Some (Goes m op))) c.in_ok-op.ensures.after
    ∙ (ap of_file (said_goes machine last op (sym (sym c.in_ok-op.ensures.says ∙ (c.in-Some-Do.is ∙ ap Some c.in-Some-Do.field-0-is))))
    ∙ sym (ap (λ (at : Option FileTalk). turn_in at last) c.in-Some.is))

pub returns-in-Some-Over-clause-turn : goal.returns-in-Some-Over-clause-turn
returns-in-Some-Over-clause-turn c =
    let machine = c.in-Some.machine in
    let come = c.in-Some-Over.come in
    let last = option_copied c.args.last in
    IfOk-weaker c.lead_on.result (λ (step : TalkStep). Some (turn_by step (talk_in c.lead_on.new.talk)) ≡ led_in (Some c.tell.new.self) _) (λ (step : TalkStep). Some (turn_by step (talk_in c.lead_on.new.talk)) ≡ turn_in c.args.talk.now last)
    (λ step is. is
    ∙ (ap (λ (r : Come). of_file (led c.tell.new.self r)) c.in-Some-Over.come-is
    ∙ (ap (λ (m : FileTalk). of_file (led m come)) c.in_ok-op.ensures.after
    ∙ (ap of_file (said_comes machine last come (sym (sym c.in_ok-op.ensures.says ∙ (c.in-Some-Over.is ∙ ap Some c.in-Some-Over.field-0-is))))
    ∙ sym (ap (λ (at : Option FileTalk). turn_in at last) c.in-Some.is))))) c.lead_on.ensures.turn
