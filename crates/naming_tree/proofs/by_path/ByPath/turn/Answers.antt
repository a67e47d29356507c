use Rattle.std.proofs.Common.{◌≡◌, false, Option, Some, None, refl, sym, ap, subst, ◌∙◌}
use Rattle.std.specs.Prelude.{is_some}
use Rattle.std.specs.Option.{option_copied}
use Rattle.dom_history.specs.declared.op.Op.{Op}
use Rattle.dom_history.specs.declared.op.Reply.{Reply}
use Rattle.naming_tree.specs.declared.step.NameResult.{NameResult}
use Rattle.naming_tree.specs.declared.walking.Walking.{Walking}
use Rattle.naming_tree.specs.declared.task.Task.{Task}
use Rattle.naming_tree.specs.Turns.{FitsAsked}
use Rattle.naming_tree.specs.Tasks.{task_asks}
use Rattle.naming_tree.specs.ByPaths.{asks_at, by_path_asks}
use Rattle.naming_tree.proofs.by_path.ByPath.turn.Goals as goal

-- a path whose walk is over asks what its task asks
asks-task : (alone : Option NameResult) (walking : Option Walking) (task : Task) → is_some alone ≡ false → is_some walking ≡ false → asks_at alone walking task ≡ task_asks task
asks-task None None task none over = refl
asks-task None (Some w) task none over = absurd cc
asks-task (Some result) walking task none over = absurd cc

pub hear-requires-clause-fits : goal.hear-requires-clause-fits
hear-requires-clause-fits c =
    let b = c.args.self.now in
    let asks = asks-task b.alone b.walking b.task (sym c.is_some.ensures ∙ c.if-is_some.false) (sym c.is_some-2.ensures ∙ c.if-is_some-2.false) in
    subst (λ (asked : Option Op). FitsAsked asked (Some c.in-Some.reply.now)) asks
    (subst (λ (last : Option Reply). FitsAsked (by_path_asks b) last) (ap option_copied c.in-Some.is) c.requires.fits)
