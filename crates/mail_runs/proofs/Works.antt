-- The works of a script's commands are in their ranges, and a history of a script has what the proofs ask of it.
use Rattle.std.proofs.Common.{◌≡◌, [], subst}
use Rattle.std.proofs.lemmas.List.Elements.{All-weaker}
use Rattle.uid_names.specs.Names.{ProcName}
use Rattle.dom_history.specs.Histories.{History}
use Rattle.dom_history.specs.Legal.{AreLegal}
use Rattle.script_reader.specs.declared.command.Command.{Command}
use Rattle.script_reader.specs.declared.command.Command.TheVariants.{Putm, Takem}
use Rattle.script_reader.specs.Scripts.{Content, IsContent}
use Rattle.script_reader.specs.Variables.{declared_object}
use Rattle.command_talks.specs.Ranges.{IsRanged}
use Rattle.aegis_shell.specs.Ranges.{IsJob}
use Rattle.aegis_shell.specs.Work.{Job, jobs_of, part_of}
use Rattle.aegis_shell.proofs.Parts.{jobs_ranged}
use Rattle.mail_runs.specs.Histories.{IsOfScript}
use Rattle.mail_runs.proofs.Sessions.{work_of, AreWorks, IfWork}

command_works : (command : Command) → IsRanged command → IfWork (work_of command)
command_works (Putm path text) range = record { some = range.1.0.0; few = range.1.0.1 }
command_works (Takem path) range = tt
command_works _ range = tt

pub all_works : (s : Content) → IsContent s → (p : ProcName) → AreWorks (part_of s p).jobs
all_works s content p =
    All-weaker IsJob (λ (job : Job). IfWork (work_of job.command)) (λ job is. command_works job.command is.command) (jobs_of s p) (jobs_ranged s (declared_object s.objects) p content)

-- nothing is open at its end
pub legal_closed : (s : Content) (h : History) → IsOfScript s h → AreLegal s.opening [] h.items
legal_closed s h is = subst (λ pending. AreLegal s.opening pending h.items) is.ended.nothing_open is.legal.legal
