use Rattle.std.proofs.Common.{◌≡◌, Some, ap, ◌∙◌, sym}
use Rattle.std.proofs.lemmas.Result.{IfOk-weaker}
use Rattle.command_talks.specs.FileTalks.{begin_fill, map_turn}
use Rattle.command_talks.specs.Sources.{Sourced}
use Rattle.command_talks.specs.declared.file_talk.FileTurn.{FileTurn}
use Rattle.command_talks.proofs.copying.mapped.Goals as goal

pub returns-in-At-clause-turn : goal.returns-in-At-clause-turn
returns-in-At-clause-turn c =
    let source = c.args.source in
    let target = c.args.target in
    IfOk-weaker c.begin_filling.result (λ (turn : FileTurn). Some turn ≡ begin_fill c.mapped.result target) (λ (turn : FileTurn). Some turn ≡ map_turn source target c.args.reply.now)
    (λ turn is. is ∙ (ap (λ (s : Sourced). begin_fill s target) c.mapped.ensures ∙ sym (ap (map_turn source target) c.in-At.is))) c.begin_filling.ensures.turn
