use Rattle.std.proofs.Common.{◌∙◌, ap}
use Rattle.std.specs.Prelude.{insert}
use Rattle.uid_names.proofs.InOrder.{insert-place}
use Rattle.ring_links.specs.Later.{falls_before}
use Rattle.ring_links.proofs.Owning.{falls-trans}
use Rattle.ring_links.proofs.link.put_later.Goals as goal

pub returns-clause-ok : goal.returns-clause-ok
returns-clause-ok g c =
    c.in_ok-insert.ensures.items
    ∙ ap (λ n. insert c.args.later.now.items n c.args.copy) c.count_before-place.ensures.place
    ∙ insert-place falls_before falls-trans c.args.copy c.args.later.now.items
