use Rattle.std.proofs.Common.{refl, inl, inr, subst, ap, Err, arith}
use Rattle.script_runner.specs.Outside.{from_to, over, AddsOrFails}
use Rattle.script_runner.specs.DueTexts.{IsDueFor}
use Rattle.script_runner.proofs.Promising.{WritesRun, run_statuses, text_statuses, end_statuses, run_kept, refusal_kept, read_fault_kept, end_kept}
use Rattle.script_runner.proofs.domain.run_asked.Goals as goal

pub returns-in-Ok-Run : goal.returns-in-Ok-Run
returns-in-Ok-Run g c =
    let script = over g.S.Source.left g.S.Source.faults c.args.script.now c.asked_due.new.script in
    let out = over g.O.Sink.held g.O.Sink.faults c.args.out.now c.write_run.new.out in
    let journal = over g.J.Sink.held g.J.Sink.faults c.args.journal.now c.write_run.new.journal in
    let left = from_to (g.S.Source.left c.args.script.now) (g.S.Source.left c.asked_due.new.script) in
    let writes : WritesRun out journal c.bytes.result.now c.in-Ok-Run.lines c.write_run.result = record {
      status_is = c.write_run.ensures.status;
      told = c.write_run.ensures.told;
      fault = c.write_run.ensures.fault;
      text_cut = c.write_run.ensures.text_cut;
      no_journal = c.write_run.ensures.no_journal;
      nothing_told = c.write_run.ensures.nothing_told;
      written = c.write_run.ensures.written;
      journal_fault = c.write_run.ensures.journal_fault;
      lines_cut = c.write_run.ensures.lines_cut;
      out_count = c.write_run.ensures.out_count;
      journal_count = c.write_run.ensures.journal_count;
    } in
    record {
      statuses = run_statuses script out journal c.bytes.result.now c.in-Ok-Run.lines c.write_run.result writes c.in-Ok-Run.ensures.taken c.in-Ok-Run.ensures.count;
      kept = run_kept script out journal c.scripts_have_one_reading.ensures.content c.args.asked c.in-Ok-Run.text c.in-Ok-Run.lines c.write_run.result
          (subst (IsDueFor c.args.asked left) c.in-Ok-Run.field-0-is c.in-Ok-Run.ensures.due) c.in-Ok-Run.ensures.unread
          (subst (λ text. WritesRun out journal text c.in-Ok-Run.lines c.write_run.result) c.bytes.ensures writes);
    }

pub returns-in-Ok-Refusal : goal.returns-in-Ok-Refusal
returns-in-Ok-Refusal g c =
    let script = over g.S.Source.left g.S.Source.faults c.args.script.now c.asked_due.new.script in
    let out = over g.O.Sink.held g.O.Sink.faults c.args.out.now c.write_text.new.out in
    let journal = over g.J.Sink.held g.J.Sink.faults c.args.journal.now c.args.journal.now in
    let left = from_to (g.S.Source.left c.args.script.now) (g.S.Source.left c.asked_due.new.script) in
    let written : AddsOrFails out c.in-Ok-Refusal.text 3 c.write_text.result =
    subst (λ text. AddsOrFails out text 3 c.write_text.result) c.bytes-in-Ok-Refusal.ensures c.write_text.ensures.either in
    record {
      statuses = text_statuses script out journal c.in-Ok-Refusal.text 3 c.write_text.result refl refl (λ five. absurd (omega (arith, five))) written refl c.in-Ok-Refusal.ensures.taken c.in-Ok-Refusal.ensures.count c.write_text.ensures.count;
      kept = refusal_kept script out journal c.args.asked c.in-Ok-Refusal.text c.write_text.result c.scripts_have_one_reading.ensures.never_both
          (subst (IsDueFor c.args.asked left) c.in-Ok-Refusal.field-0-is c.in-Ok-Refusal.ensures.due) written;
    }

pub returns-in-Err-ReadFault : goal.returns-in-Err-ReadFault
returns-in-Err-ReadFault g c =
    let script = over g.S.Source.left g.S.Source.faults c.args.script.now c.asked_due.new.script in
    let out = over g.O.Sink.held g.O.Sink.faults c.args.out.now c.args.out.now in
    let journal = over g.J.Sink.held g.J.Sink.faults c.args.journal.now c.args.journal.now in
    let fails = c.in-Err-ReadFault.ensures.read_fault (ap Err c.in-Err-ReadFault.field-0-is) in
    record {
      statuses = end_statuses script out journal 4 refl refl (λ _. fails) refl refl c.in-Err-ReadFault.ensures.taken c.in-Err-ReadFault.ensures.count;
      kept = read_fault_kept script out journal c.args.asked (c.in-Err-ReadFault.ensures.read (ap Err c.in-Err-ReadFault.field-0-is)) fails;
    }

pub returns-in-Err-NoMemory : goal.returns-in-Err-NoMemory
returns-in-Err-NoMemory g c =
    let script = over g.S.Source.left g.S.Source.faults c.args.script.now c.asked_due.new.script in
    let out = over g.O.Sink.held g.O.Sink.faults c.args.out.now c.args.out.now in
    let journal = over g.J.Sink.held g.J.Sink.faults c.args.journal.now c.args.journal.now in
    record {
      statuses = end_statuses script out journal 7 refl refl (λ four. absurd (omega (arith, four))) refl refl c.in-Err-NoMemory.ensures.taken c.in-Err-NoMemory.ensures.count;
      kept = end_kept script out journal c.scripts_have_one_reading.ensures.content c.args.asked 7 (inl refl) refl (λ eight. absurd (omega (arith, eight))) c.in-Err-NoMemory.ensures.unread;
    }

pub returns-in-Err-TickLimit : goal.returns-in-Err-TickLimit
returns-in-Err-TickLimit g c =
    let script = over g.S.Source.left g.S.Source.faults c.args.script.now c.asked_due.new.script in
    let out = over g.O.Sink.held g.O.Sink.faults c.args.out.now c.args.out.now in
    let journal = over g.J.Sink.held g.J.Sink.faults c.args.journal.now c.args.journal.now in
    record {
      statuses = end_statuses script out journal 8 refl refl (λ four. absurd (omega (arith, four))) refl refl c.in-Err-TickLimit.ensures.taken c.in-Err-TickLimit.ensures.count;
      kept = end_kept script out journal c.scripts_have_one_reading.ensures.content c.args.asked 8 (inr refl) refl (λ _. c.in-Err-TickLimit.ensures.limit (ap Err c.in-Err-TickLimit.field-0-is)) c.in-Err-TickLimit.ensures.unread;
    }
