use Rattle.std.proofs.Common.{◌∙◌, append_assoc}
use Rattle.std.proofs.lemmas.Result.{on_ok_weaker}
use Rattle.lane_charts.specs.Pictures.{opening}
use Rattle.lane_charts.proofs.svg.put_opening.Goals as goal

pub returns : goal.returns
unfolding opening
returns c =
    on_ok_weaker c.extend-4.result
    (λ h. h ∙ simp (c.in_ok-put_description.ensures, c.in_ok-extend-3.ensures.ok, c.in_ok-put_title.ensures, c.in_ok-extend-2.ensures.ok, c.in_ok-put_sizes.ensures, c.in_ok-extend.ensures.ok, c.lanes.ensures.value, c.width.ensures, c.count.ensures.value, c.title.ensures, append_assoc))
    c.extend-4.ensures.ok
