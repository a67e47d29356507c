use Rattle.std.proofs.Common.{is_some, ap, sym, ◌∙◌}
use Rattle.node_runs.proofs.SettingUp.{given-procs}
use Rattle.node_core.specs.Programs.{program_in}
use Rattle.node_core.specs.Machines.{given_of}
use Rattle.node_core.proofs.FirstPrograms.{has-program}
use Rattle.node_core.proofs.machine.Machine.has_program.Goals as goal

pub returns-clause-value : goal.returns-clause-value
returns-clause-value g c = c.has_program.ensures ∙ ap (λ es. is_some (program_in es c.args.p)) c.as_slice.ensures.value ∙ sym (has-program c.args.self.now.programs.items c.args.p)

pub returns-clause-proc : goal.returns-clause-proc
returns-clause-proc g c is =
    given-procs (given_of c.args.self.now) c.requires c.args.p
    (has-program c.args.self.now.programs.items c.args.p ∙ sym (ap (λ es. is_some (program_in es c.args.p)) c.as_slice.ensures.value) ∙ sym c.has_program.ensures ∙ is)
