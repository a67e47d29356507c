use Rattle.std.proofs.Common.{rules}
use Rattle.std.proofs.lemmas.Slice.Eq.{slice_eq-Decides}
use Rattle.event_views.proofs.differing.are_same_pages.Goals as goal

pub returns : goal.returns
returns c = slice_eq-Decides (λ x y. search rules) c.args.a.now c.args.b.now c.eq.result c.eq.ensures
