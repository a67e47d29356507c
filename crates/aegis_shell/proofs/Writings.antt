-- A command whose answer is written already binds nothing and enters nothing.
use Rattle.std.proofs.Common.{◌≡◌, ℕ, Option, Some, None, List, [], ◌∷◌, ◌++◌, refl, ap, ◌∙◌, sym}
use Rattle.uid_names.specs.Names.{ObjectName}
use Rattle.script_reader.specs.declared.command.Command.{Command}
use Rattle.script_reader.specs.declared.command.Command.TheVariants.{New, Bind, Wd}
use Rattle.command_talks.specs.declared.outcome.Outcome.TheVariants.{Written}
use Rattle.aegis_shell.specs.declared.stage.Stage.TheVariants.{Between}
use Rattle.aegis_shell.specs.declared.working.Working.{Working}
use Rattle.aegis_shell.specs.Bindings.{Rows}
use Rattle.aegis_shell.specs.Outcomes.{bound_by, working_after}
use Rattle.aegis_shell.specs.States.{State, finished, rebind_if}
use Rattle.aegis_shell.specs.Work.{Part}

binds_none : (command : Command) (text : List ℕ) → bound_by command (Written text) ≡ None
binds_none (New var room home) text = refl
binds_none (Bind var path) text = refl
binds_none command text = refl

enters_none : (part : Part) (working : Working) (command : Command) (text : List ℕ) → working_after part working command (Written text) ≡ working
enters_none part working (Wd (Some path)) text = refl
enters_none part working (Wd None) text = refl
enters_none part working command text = refl

pub written_ends : (part : Part) (at : State) (command : Command) (text : List ℕ)
    → record { phase = at.phase; bound = at.bound; working = at.working; stage = Between; answers = at.answers ++ text ∷ [] } ≡ finished part at command (Written text)
written_ends part at command text =
    sym
    (ap (λ (found : Option (List ℕ × ObjectName)). record { phase = at.phase; bound = rebind_if found at.bound; working = working_after part at.working command (Written text); stage = Between; answers = at.answers ++ text ∷ [] }) (binds_none command text)
    ∙ ap (λ (w : Working). record { phase = at.phase; bound = at.bound; working = w; stage = Between; answers = at.answers ++ text ∷ [] }) (enters_none part at.working command text))
