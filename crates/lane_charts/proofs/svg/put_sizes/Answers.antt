use Rattle.std.proofs.Common.{◌∙◌, append_assoc}
use Rattle.std.proofs.lemmas.Result.{on_ok_weaker}
use Rattle.lane_charts.specs.Pictures.{sizes}
use Rattle.lane_charts.proofs.svg.put_sizes.Goals as goal

pub returns : goal.returns
unfolding sizes
returns c =
    on_ok_weaker c.put_attribute-2.result
    (λ h. h ∙ simp (c.in_ok-put_attribute.ensures, c.in_ok-extend-2.ensures.ok, c.in_ok-put_point.ensures, c.in_ok-extend.ensures.ok, append_assoc))
    c.put_attribute-2.ensures
