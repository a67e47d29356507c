-- A shell goes by all that it heard.
use mathlib.Core.Path.{fun_ext}
use Rattle.std.proofs.Common.{◌≡◌, true, false, Option, [], ◌∷◌, ◌++◌, reverse, refl, ap, ◌∙◌, sym, subst, append_assoc, append-nil}
use Rattle.std.proofs.lemmas.Grind.{reverse_onto}
use Rattle.uid_names.specs.Names.{ProcName}
use Rattle.dom_history.specs.declared.op.Reply.{Reply}
use Rattle.dom_history.specs.Follows.{Heard}
use Rattle.dom_history.specs.Programs.{program_after, asked_by}
use Rattle.script_reader.specs.Scripts.{Content}
use Rattle.aegis_shell.specs.Standing.{first_standing}
use Rattle.aegis_shell.specs.Work.{Part, part_of}
use Rattle.aegis_shell.specs.Asking.{Told, Reached, reach, reached, ask, answers}
use Rattle.aegis_shell.specs.States.{State, beginning, settled, step, want_of}
use Rattle.aegis_shell.specs.Shells.{shell_of, shell_after, shell_wants, shell_answers}
use Rattle.aegis_shell.proofs.Onwards.{Stands, begins_so, steps, reaches}

-- where a process stands that heard this
abbrev stands_at : Part → Heard → State
stands_at part [] = settled part (beginning part)
stands_at part (told ∷ heard) = step part (stands_at part heard) told

-- how far a process comes with what it is told behind all that it heard
abbrev from_start : Part → Heard → Told → Reached
from_start part heard future = reach part 1 (first_standing part) part.jobs (reverse heard ++ future)

told_next : (part : Part) (told : Option Reply) (heard : Heard) (future : Told) → from_start part (told ∷ heard) future ≡ from_start part heard (told ∷ future)
told_next part told heard future =
    ap (reach part 1 (first_standing part) part.jobs) (ap (λ (t : Told). t ++ future) (reverse_onto heard told []) ∙ append_assoc (reverse heard) (told ∷ []) future)

-- it goes on from there
stands : (part : Part) (heard : Heard) → Stands part (stands_at part heard) (from_start part heard)
stands part [] = begins_so part (beginning part) (from_start part []) refl (λ future. refl)
stands part (told ∷ heard) =
    subst (λ (whole : Told → Reached). Stands part (stands_at part (told ∷ heard)) whole) (sym (fun_ext (told_next part told heard)))
    (steps part (stands_at part heard) told (from_start part heard) (stands part heard))

-- and has reached this
reached_there : (part : Part) (heard : Heard) → reached part heard ≡ record { want = want_of part (stands_at part heard); answers = (stands_at part heard).answers }
reached_there part heard = ap (reach part 1 (first_standing part) part.jobs) (sym (append-nil (reverse heard))) ∙ reaches part (stands_at part heard) (from_start part heard) (stands part heard)

module _ (s : Content) (p : ProcName) where
  -- a shell that heard this
  after-heard : (heard : Heard) → program_after shell_after (shell_of s p) heard ≡ record { part = part_of s p; begun = true; at = stands_at (part_of s p) heard; spent = false }
  after-heard [] = refl
  after-heard (told ∷ heard) = rw (after-heard heard) refl

  -- asks what its process asks
  pub shell_asks : (heard : Heard) → asked_by shell_wants shell_after (shell_of s p) heard ≡ ask s p heard
  shell_asks heard = ap shell_wants (after-heard heard) ∙ sym (ap (λ (r : Reached). r.want) (reached_there (part_of s p) heard))

  -- and has its answers
  pub shell_answers_are : (heard : Heard) → shell_answers (program_after shell_after (shell_of s p) heard) ≡ answers s p heard
  shell_answers_are heard = ap shell_answers (after-heard heard) ∙ sym (ap (λ (r : Reached). r.answers) (reached_there (part_of s p) heard))
