use Rattle.mapped_streams.specs.Dialogues.{MayHear}
use Rattle.mapped_streams.specs.States.{rest}
use Rattle.plain_machines.proofs.streams.serve.Given as goal

abbrev pub invariant-calls : goal.invariant-calls
invariant-calls l = MayHear (rest l.machine) l.last
