use Rattle.std.proofs.Common.{length, ap, sym, subst, ◌∙◌}
use Rattle.std.proofs.lemmas.Result.{on_ok_weaker}
use Rattle.script_reader.specs.Scripts.{Content}
use Rattle.script_maker.specs.Walk.Begun.{HasBegun}
use Rattle.script_maker.proofs.Generating.{begun_more, one_command, work_in_range, work_spoken}
use Rattle.script_maker.proofs.generator.add_work.Goals as goal

pub add_command-requires-clause-range : goal.add_command-requires-clause-range
add_command-requires-clause-range c = work_in_range (length c.args.draft.now.nodes) c.args.object c.args.command c.requires.object c.requires.work

pub add_command-requires-clause-spoken : goal.add_command-requires-clause-spoken
add_command-requires-clause-spoken c =
    work_spoken c.args.draft.now.objects c.args.draft.now.commands c.args.proc c.args.object c.args.command c.requires.begun.objects c.requires.object c.requires.work

pub returns-clause-begun : goal.returns-clause-begun
returns-clause-begun c =
    on_ok_weaker c.add_command.result (λ said. subst HasBegun (sym said) (begun_more c.args.draft.now c.args.proc c.args.command c.requires.begun)) c.add_command.ensures.ok

pub returns-clause-one_more : goal.returns-clause-one_more
returns-clause-one_more c =
    on_ok_weaker c.add_command.result (λ said. ap (λ (s : Content). length s.commands) said ∙ one_command c.args.draft.now c.args.proc c.args.command) c.add_command.ensures.ok
