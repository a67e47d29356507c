use Rattle.std.proofs.Common.{◌++◌, [], ◌∷◌, List, ap, ◌∙◌}
use Rattle.std.specs.Prelude.{flat_map}
use Rattle.std.proofs.lemmas.Result.{on_ok_weaker}
use Rattle.dom_history.specs.declared.event.What.TheVariants.{Ready}
use Rattle.fault_handler.specs.Desks.{procs}
use Rattle.node_core.specs.Nodes.{state_of}
use Rattle.ring_links.specs.declared.notice.Notice.{Notice}
use Rattle.world_core.specs.declared.station.LinkFrom.{LinkFrom}
use Rattle.world_core.specs.Stations.{comings, start, starts_of, noticed, oldest}
use Rattle.world_core.proofs.Comings.{put_all}
use Rattle.world_core.proofs.station.Station.relist.Goals as goal

pub returns-clause-enabled : goal.returns-clause-enabled
returns-clause-enabled g c =
    let x = c.keep_open.new.self in
    let starts = c.put_starts.new.list.items in
    let notices = c.put_notices.new.list.items in
    let links = c.put_links.new.list.items in
    on_ok_weaker c.put_ready.result
    (put_all x.node c.clear.new.self.items starts notices links c.put_ready.new.list.items
    (flat_map starts_of procs) (noticed 0 x.notices.items) (oldest 0 x.ins.items) (start (Ready (state_of x.node).phase) ∷ [])
    c.clear.ensures.items c.in_ok-put_starts.ensures
    (c.in_ok-put_notices.ensures ∙ ap (λ (xs : List Notice). starts ++ comings x.node (noticed 0 xs)) c.as_slice.ensures.value)
    (c.in_ok-put_links.ensures ∙ ap (λ (ls : List LinkFrom). notices ++ comings x.node (oldest 0 ls)) c.as_slice-2.ensures.value))
    c.put_ready.ensures
