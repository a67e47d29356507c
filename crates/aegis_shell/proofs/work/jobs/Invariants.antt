use Rattle.std.proofs.Common.{◌≡◌, take, map}
use Rattle.script_reader.specs.Variables.{declared_object}
use Rattle.script_reader.specs.Places.{places_of}
use Rattle.aegis_shell.specs.Work.{job_of}
use Rattle.aegis_shell.proofs.Parts.{rows_at}
use Rattle.aegis_shell.proofs.work.jobs.Given as goal

abbrev pub invariant-loop-place : goal.invariant-loop-place
invariant-loop-place l = l.jobs.items ≡ map (job_of (declared_object l.script.objects)) (rows_at l.script.commands (take l.place-index (places_of 0 l.fn.proc l.script.commands)))
