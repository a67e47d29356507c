use Rattle.std.proofs.Common.{◌∙◌, append_assoc}
use Rattle.std.proofs.lemmas.Result.{on_ok_weaker}
use Rattle.lane_charts.specs.Pictures.{described}
use Rattle.lane_charts.proofs.svg.put_description.Goals as goal

pub returns : goal.returns
unfolding described
returns c =
    on_ok_weaker c.extend-4.result
    (λ h. h ∙ simp (c.in_ok-put_decimal-3.ensures.ok, c.in_ok-extend-3.ensures.ok, c.in_ok-put_decimal-2.ensures.ok, c.in_ok-extend-2.ensures.ok, c.in_ok-put_decimal.ensures.ok, c.in_ok-extend.ensures.ok, c.lanes.ensures.value, c.rows.ensures.value, c.arrows.ensures.value, append_assoc))
    c.extend-4.ensures.ok
