use Rattle.std.proofs.Common.{subst}
use Rattle.script_runner.specs.Outside.{over, AddsOrFails}
use Rattle.script_runner.proofs.CheckPromises.{said_promised}
use Rattle.script_runner.proofs.OneSaid.{OneReading}
use Rattle.script_runner.proofs.checking.check_source.Goals as goal

pub returns-in-Ok : goal.returns-in-Ok
returns-in-Ok g c =
    let source = over g.S.Source.left g.S.Source.faults c.args.source.now c.said_of_source.new.source in
    let out = over g.O.Sink.held g.O.Sink.faults c.args.out.now c.write_text.new.out in
    let laws : OneReading = record {
      content = c.scripts_have_one_reading.ensures.content;
      fault = c.scripts_have_one_reading.ensures.fault;
      never_both = c.scripts_have_one_reading.ensures.never_both;
      can = c.a_script_can_be_run.ensures;
      never = c.a_journal_has_one_verdict.ensures.never_both;
      one = c.a_journal_has_one_verdict.ensures.one;
      one_run = c.a_journal_has_one_verdict.ensures.one_run;
    } in
    said_promised source out laws c.in-Ok.said.status c.in-Ok.said.text c.write_text.result c.in-Ok.ensures.said
    (subst (λ text. AddsOrFails out text c.in-Ok.said.status c.write_text.result) c.bytes.ensures c.write_text.ensures.either)
    c.in-Ok.ensures.taken c.in-Ok.ensures.count c.write_text.ensures.count
