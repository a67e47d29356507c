use Rattle.std.proofs.Common.{◌∙◌, append_assoc}
use Rattle.std.proofs.lemmas.Result.{on_ok_weaker}
use Rattle.lane_charts.specs.Pictures.{row_group}
use Rattle.lane_charts.proofs.svg.put_row.Goals as goal

pub returns : goal.returns
unfolding row_group
returns c =
    on_ok_weaker c.extend-3.result
    (λ h. h ∙ simp (c.in_ok-put_arrows.ensures, c.in_ok-extend-2.ensures.ok, c.in_ok-put_row_head.ensures, c.in_ok-extend.ensures.ok, c.in_ok-put_names_if.ensures, c.line-line.ensures.value, c.is_headed.ensures, c.lanes.ensures.value, c.lanes-2.ensures.value, append_assoc))
    c.extend-3.ensures.ok
