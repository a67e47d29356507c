use Rattle.std.proofs.Common.{◌∙◌, append_assoc}
use Rattle.std.proofs.lemmas.Result.{on_ok_weaker}
use Rattle.lane_charts.specs.Pictures.{lane_line}
use Rattle.lane_charts.proofs.svg.put_lane_line.Goals as goal

pub returns : goal.returns
unfolding lane_line
returns c =
    on_ok_weaker c.extend-3.result
    (λ h. h ∙ simp (c.in_ok-put_decimal.ensures.ok, c.in_ok-extend-2.ensures.ok, c.in_ok-put_point.ensures, c.in_ok-extend.ensures.ok, c.lane_x.ensures.value, append_assoc))
    c.extend-3.ensures.ok
