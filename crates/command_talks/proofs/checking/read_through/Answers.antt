use Rattle.std.proofs.Common.{◌≡◌, Option, Some, ap, ◌∙◌, sym, subst}
use Rattle.std.specs.Option.{option_copied}
use Rattle.std.proofs.lemmas.Result.{IfOk-weaker}
use Rattle.naming_tree.specs.Dialogues.{IsStep}
use Rattle.mapped_streams.specs.States.{rest}
use Rattle.mapped_streams.specs.declared.streaming.Streaming.{Streaming}
use Rattle.command_talks.specs.FileTalks.{text_turn, file_turn, op_left}
use Rattle.command_talks.specs.declared.file_talk.FileTalk.TheVariants.{ReadsList}
use Rattle.command_talks.specs.declared.file_talk.FileTurn.{FileTurn}
use Rattle.command_talks.specs.declared.file_talk.FileTurn.TheVariants.{Goes}
use Rattle.command_talks.proofs.CheckReads.{check_comes, check_goes}
use Rattle.command_talks.proofs.Machines.{left_asking}
use Rattle.command_talks.proofs.checking.read_through.Goals as goal

pub returns-in-Do-clause-turn : goal.returns-in-Do-clause-turn
returns-in-Do-clause-turn c =
    ap (λ (m : Option Streaming). Some (Goes (ReadsList m c.args.pending) c.in-Do.op)) c.in_ok-op.ensures.after
    ∙ check_goes (λ m. ReadsList m c.args.pending) (text_turn c.args.pending) c.args.stream (option_copied c.args.last) c.in-Do.op (sym (ap Some c.in-Do.is) ∙ c.in_ok-op.ensures.step)

pub returns-in-Do-clause-asks : goal.returns-in-Do-clause-asks
returns-in-Do-clause-asks c = (
  ap op_left c.in_ok-op.ensures.left ∙ left_asking (rest c.args.stream) (option_copied c.args.last) c.in-Do.op (sym (ap Some c.in-Do.is) ∙ c.in_ok-op.ensures.step),
  subst IsStep c.in-Do.is c.in_ok-op.ensures.range,
)

pub returns-in-Over-clause-turn : goal.returns-in-Over-clause-turn
returns-in-Over-clause-turn c =
    let come = c.in-Over.come in
    IfOk-weaker c.on_text.result (λ (turn : FileTurn). Some turn ≡ text_turn c.args.pending come) (λ (turn : FileTurn). Some turn ≡ file_turn (ReadsList c.args.stream c.args.pending) (option_copied c.args.last))
    (λ turn is. is ∙ check_comes (λ m. ReadsList m c.args.pending) (text_turn c.args.pending) c.args.stream (option_copied c.args.last) come (sym (ap Some c.in-Over.is) ∙ c.in_ok-op.ensures.step)) c.on_text.ensures.turn

pub returns-in-Over-clause-asks : goal.returns-in-Over-clause-asks
returns-in-Over-clause-asks c = c.on_text.ensures.asks
