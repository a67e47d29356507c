use Rattle.std.proofs.Common.{◌∙◌, append_assoc}
use Rattle.std.proofs.lemmas.Result.{on_ok_weaker}
use Rattle.lane_charts.specs.Pictures.{picture_head}
use Rattle.lane_charts.proofs.svg.put_head.Goals as goal

pub returns : goal.returns
unfolding picture_head
returns c =
    on_ok_weaker c.put_names.result
    (λ h. h ∙ simp (c.in_ok-extend.ensures.ok, c.in_ok-put_words.ensures, c.in_ok-put_lane_lines.ensures, c.in_ok-put_opening.ensures, c.lanes-lanes.ensures.value, c.count.ensures.value, c.fitting.ensures, c.title.ensures, c.right_end.ensures.value, append_assoc))
    c.put_names.ensures
