use Rattle.std.proofs.lemmas.Result.{on_ok_weaker}
use Rattle.script_maker.proofs.Adding.{first_done}
use Rattle.script_maker.proofs.generator.add_first_work.Goals as goal

pub returns : goal.returns
returns c =
    on_ok_weaker c.add_work-5.result (first_done c.args.draft.now c.add_work.new.draft c.add_work-2.new.draft c.add_work-3.new.draft c.add_work-4.new.draft c.add_work-5.new.draft c.process-proc.result c.args.now.now c.args.at c.object-object.result c.offset-offset.result c.number.result c.in_ok-lock.field-0 c.in_ok-stored.stored c.in_ok-load.field-0 c.in_ok-length_of.field-0 c.in_ok-unlock.field-0
    c.process-proc.ensures c.object-object.ensures.value c.offset-offset.ensures.value c.number.ensures
    c.in_ok-lock.ensures c.in_ok-stored.ensures c.in_ok-load.ensures c.in_ok-length_of.ensures c.in_ok-unlock.ensures
    c.in_ok-add_work.ensures.said c.in_ok-add_work-2.ensures.said c.in_ok-add_work-3.ensures.said c.in_ok-add_work-4.ensures.said) c.add_work-5.ensures.said
