use Rattle.std.proofs.Common.{List, Option, IfSome, sym, ap, subst, ◌∙◌}
use Rattle.std.specs.Prelude.{slice_get}
use Rattle.std.specs.Option.{option_copied}
use Rattle.node_runs.specs.Incomings.{Incoming}
use Rattle.ring_links.specs.declared.notice.Notice.{Notice}
use Rattle.ring_links.specs.Notices.{notice_incoming}
use Rattle.node_core.specs.Nodes.{Does}
use Rattle.world_core.proofs.station.Station.hear.Goals as goal

pub returns-clause-does : goal.returns-clause-does
returns-clause-does g c =
    let old = c.args.self.now.node in
    let new = c.step.new.self in
    let emitted = c.in_ok-emitted-in-Some.emitted in
    let found = ap (λ (xs : List Notice). slice_get xs c.args.at) (sym c.as_slice.ensures.value) ∙ sym c.find.ensures ∙ ap option_copied c.in-Some.is in
    subst (λ (r : Option Notice). IfSome r (λ x. Does g.P.Program.wants g.P.Program.becomes c.args.what (notice_incoming x) old new emitted)) (sym found)
    (subst (λ (i : Incoming). Does g.P.Program.wants g.P.Program.becomes c.args.what i old new emitted) c.incoming_of.ensures c.in_ok-emitted-in-Some.ensures.happens)
