use Rattle.std.proofs.Common.{◌∙◌, append_assoc}
use Rattle.std.proofs.lemmas.Result.{on_ok_weaker}
use Rattle.lane_charts.specs.Markup.{words}
use Rattle.lane_charts.proofs.markup.put_words.Goals as goal

pub returns : goal.returns
unfolding words
returns c =
    on_ok_weaker c.extend-5.result
    (λ h. h ∙ simp (c.in_ok-put_escaped.ensures, c.in_ok-extend-4.ensures.ok, c.in_ok-put_attribute-2.ensures, c.in_ok-put_attribute.ensures, c.in_ok-extend-3.ensures.ok, c.in_ok-extend-2.ensures.ok, c.in_ok-extend.ensures.ok, append_assoc))
    c.extend-5.ensures.ok
