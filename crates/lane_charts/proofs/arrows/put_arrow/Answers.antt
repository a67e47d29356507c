use Rattle.std.proofs.Common.{◌∙◌, append_assoc}
use Rattle.std.proofs.lemmas.Result.{on_ok_weaker}
use Rattle.lane_charts.specs.Pictures.{arrow_group}
use Rattle.lane_charts.proofs.arrows.put_arrow.Goals as goal

pub returns : goal.returns
unfolding arrow_group
returns c =
    on_ok_weaker c.extend.result
    (λ h. h ∙ simp (c.in_ok-put_note.ensures, c.in_ok-put_path.ensures, c.in_ok-put_tie.ensures, c.in_ok-put_title.ensures, c.in_ok-put_open.ensures, c.bytes.ensures, c.bytes-2.ensures, c.lanes-lanes.ensures.value, append_assoc))
    c.extend.ensures.ok
