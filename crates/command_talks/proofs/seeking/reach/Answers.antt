use Rattle.std.proofs.Common.{◌≡◌, Option, Some, ap, ◌∙◌, sym, subst}
use Rattle.std.specs.Option.{option_copied}
use Rattle.std.proofs.lemmas.Result.{IfOk-weaker}
use Rattle.naming_tree.specs.Dialogues.{IsStep}
use Rattle.naming_tree.specs.ByPaths.{by_path_after, by_path_asks}
use Rattle.naming_tree.specs.declared.by_path.ByPath.{ByPath}
use Rattle.command_talks.specs.FileTalks.{asked_at, file_turn, guarded_turn}
use Rattle.command_talks.specs.declared.file_talk.FileTalk.TheVariants.{Reaches}
use Rattle.command_talks.specs.declared.file_talk.FileTurn.TheVariants.{Goes}
use Rattle.command_talks.specs.declared.file_talk.FileTurn.{FileTurn}
use Rattle.command_talks.proofs.Copies.{named_goes, named_comes}
use Rattle.command_talks.proofs.Machines.{asked_stood}
use Rattle.command_talks.proofs.seeking.reach.Goals as goal

pub returns-in-Do-clause-turn : goal.returns-in-Do-clause-turn
returns-in-Do-clause-turn c =
    ap (λ (w : Option ByPath). Some (Goes (Reaches w c.args.errand c.args.guard) c.in-Do.op)) c.in_ok-op.ensures.after
    ∙ named_goes by_path_asks by_path_after (λ w. Reaches w c.args.errand c.args.guard) (guarded_turn c.args.guard c.args.errand) c.args.walk (option_copied c.args.last) c.in-Do.op (sym (ap Some c.in-Do.is) ∙ c.in_ok-op.ensures.step)

pub returns-in-Do-clause-asks : goal.returns-in-Do-clause-asks
returns-in-Do-clause-asks c = (
  ap (asked_at by_path_asks) c.in_ok-op.ensures.after ∙ asked_stood by_path_asks by_path_after c.args.walk (option_copied c.args.last) c.in-Do.op (sym (sym (ap Some c.in-Do.is) ∙ c.in_ok-op.ensures.step)),
  subst IsStep c.in-Do.is c.in_ok-op.ensures.range,
)

pub returns-in-Over-clause-turn : goal.returns-in-Over-clause-turn
returns-in-Over-clause-turn c =
    let come = c.in-Over.come in
    IfOk-weaker c.guarded.result (λ (turn : FileTurn). Some turn ≡ guarded_turn c.args.guard c.args.errand come) (λ (turn : FileTurn). Some turn ≡ file_turn (Reaches c.args.walk c.args.errand c.args.guard) (option_copied c.args.last))
    (λ turn is. is ∙ named_comes by_path_asks by_path_after (λ w. Reaches w c.args.errand c.args.guard) (guarded_turn c.args.guard c.args.errand) c.args.walk (option_copied c.args.last) come (sym (ap Some c.in-Over.is) ∙ c.in_ok-op.ensures.step)) c.guarded.ensures.turn

pub returns-in-Over-clause-asks : goal.returns-in-Over-clause-asks
returns-in-Over-clause-asks c = c.guarded.ensures.asks
