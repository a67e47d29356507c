-- A process that asks for an operation has a command without an answer.
use Rattle.std.proofs.Common.{◌≡◌, ℕ, suc, ◌-◌, ◌<◌, List, [], ◌∷◌, length, reverse, Option, Some, None, refl, sym, ◌∙◌, arith}
use Rattle.std.specs.Prelude.{max}
use Rattle.uid_names.specs.Names.{ProcName}
use Rattle.dom_history.specs.declared.op.Op.{Op}
use Rattle.dom_history.specs.declared.op.Want.TheVariants.{Do, Done}
use Rattle.dom_history.specs.Follows.{Heard}
use Rattle.script_reader.specs.declared.command.Command.{Command}
use Rattle.script_reader.specs.Scripts.{Content}
use Rattle.aegis_shell.specs.Work.{Job, Part, part_of, jobs_of}
use Rattle.aegis_shell.specs.Standing.{Standing, first_standing}
use Rattle.aegis_shell.specs.Outcomes.{standing_after}
use Rattle.aegis_shell.specs.Asking.{Told, Reached, Course, Asks, Ends, ask, answers, behind_phases, on_course, on_phases, course_of, reach}

-- it lacks an answer where it is not done
abbrev Lacks : ℕ → Reached → Type 0
Lacks count r = (r.want ≡ Done → ⊥) → length r.answers < count

module _ (part : Part) (command : Command) (at : Standing) (further : Standing → Told → Reached) (count : ℕ) (lacks : (st : Standing) (t : Told) → Lacks count (further st t)) where
  course-lacks : (course : Course) → Lacks (suc count) (on_course part command at further course)
  course-lacks (Asks op) undone = omega arith
  course-lacks (Ends outcome rest) undone = let f = lacks (standing_after part command outcome at) rest undone in omega (arith, f)

phases-lack : (further : Told → Reached) (count : ℕ) (behind : Option Told) → ((t : Told) → Lacks (suc count) (further t)) → Lacks (suc count) (on_phases further behind)
phases-lack further count None lacks undone = omega arith
phases-lack further count (Some told) lacks undone = lacks told undone

reach-lacks : (part : Part) (phase : ℕ) (at : Standing) (jobs : List Job) (told : Told) → Lacks (length jobs) (reach part phase at jobs told)
reach-lacks part phase at [] told undone = absurd (undone refl)
reach-lacks part phase at (job ∷ jobs) told undone =
    let further = λ (st : Standing) (t : Told). reach part (max phase job.phase) st jobs t in
    phases-lack (λ t. on_course part job.command at further (course_of part at job t)) (length jobs) (behind_phases (job.phase - phase) told)
    (λ t. course-lacks part job.command at further (length jobs) (λ st u. reach-lacks part (max phase job.phase) st jobs u) (course_of part at job t)) undone

pub asks-lacks : (s : Content) (p : ProcName) (heard : Heard) (op : Op) → ask s p heard ≡ Do op → length (answers s p heard) < length (jobs_of s p)
asks-lacks s p heard op asks = reach-lacks (part_of s p) 1 (first_standing (part_of s p)) (jobs_of s p) (reverse heard) (λ done. let f : Do op ≡ Done = sym asks ∙ done in cc)
