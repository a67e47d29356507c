use Rattle.std.proofs.Common.{◌∙◌, append_assoc}
use Rattle.std.proofs.lemmas.Result.{on_ok_weaker}
use Rattle.lane_charts.specs.Pictures.{row_head}
use Rattle.lane_charts.proofs.svg.put_row_head.Goals as goal

pub returns : goal.returns
unfolding row_head
returns c =
    on_ok_weaker c.put_words.result
    (λ h. h ∙ simp (c.in_ok-put_tick.ensures, c.in_ok-put_dot.ensures, c.in_ok-put_across_if.ensures, c.in_ok-put_row_title.ensures, c.lane_x.ensures.value, c.words_x-x.ensures, c.fitting.ensures, c.bytes.ensures, c.right_end.ensures.value, append_assoc))
    c.put_words.ensures
