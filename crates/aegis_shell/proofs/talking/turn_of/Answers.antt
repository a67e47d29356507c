use Rattle.std.proofs.Common.{Some, ap, ◌∙◌, sym, subst}
use Rattle.std.specs.Option.{option_copied}
use Rattle.command_talks.specs.Talks.{turn_by, talk_turn, AsksThere}
use Rattle.command_talks.specs.Dialogues.{TalkStep}
use Rattle.aegis_shell.specs.States.{on_turn}
use Rattle.aegis_shell.proofs.Beginnings.{leads_on}
use Rattle.aegis_shell.proofs.talking.turn_of.Goals as goal

pub next-requires : goal.next-requires
next-requires c = c.requires

pub returns-in-Do-clause-turn : goal.returns-in-Do-clause-turn
returns-in-Do-clause-turn c =
    leads_on c.next.new.self c.in-Do.op (talk_turn c.args.talk (option_copied c.args.last))
    (sym (ap (λ (step : TalkStep). Some (turn_by step c.next.new.self)) c.in-Do.is) ∙ c.in_ok-op.ensures.turn) (subst (λ (step : TalkStep). AsksThere (turn_by step c.next.new.self)) c.in-Do.is c.in_ok-op.ensures.asks).1

pub returns-in-Do-clause-asks : goal.returns-in-Do-clause-asks
returns-in-Do-clause-asks c = λ list. subst (λ (step : TalkStep). AsksThere (turn_by step c.next.new.self)) c.in-Do.is c.in_ok-op.ensures.asks

pub returns-in-Over-clause-turn : goal.returns-in-Over-clause-turn
returns-in-Over-clause-turn c = ap on_turn (sym (ap (λ (step : TalkStep). Some (turn_by step c.next.new.self)) c.in-Over.is) ∙ c.in_ok-op.ensures.turn)

pub returns-in-Over-clause-asks : goal.returns-in-Over-clause-asks
returns-in-Over-clause-asks c = λ list. tt
