use Rattle.std.proofs.Common.{◌∙◌, append_assoc}
use Rattle.std.proofs.lemmas.Result.{on_ok_weaker}
use Rattle.lane_charts.specs.Pictures.{arrow_open}
use Rattle.lane_charts.proofs.arrows.put_open.Goals as goal

pub returns : goal.returns
unfolding arrow_open
returns c =
    on_ok_weaker c.extend-4.result
    (λ h. h ∙ simp (c.in_ok-extend-3.ensures.ok, c.in_ok-extend-2.ensures.ok, c.in_ok-extend.ensures.ok, c.class_of.ensures, c.copy_class_of.ensures, append_assoc))
    c.extend-4.ensures.ok
