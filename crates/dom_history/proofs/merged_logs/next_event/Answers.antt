use Rattle.std.proofs.Common.{List, get_or, ◌∙◌, sym, ap}
use Rattle.std.specs.Prelude.{slice_get}
use Rattle.dom_history.specs.Events.{Happening}
use Rattle.dom_history.proofs.OrderedLogs.{next_at_is}
use Rattle.dom_history.proofs.merged_logs.next_event.Goals as goal

pub returns : goal.returns
returns c =
    c.event_at.ensures
    ∙ ap (λ (es : List Happening). slice_get es (get_or c.args.came.now c.args.i 0)) c.items.ensures
    ∙ sym (next_at_is c.args.logs.now c.args.came.now c.args.i c.index-logs-i.result c.requires.log c.requires.count)
