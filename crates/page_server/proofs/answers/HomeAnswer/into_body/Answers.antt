use Rattle.std.proofs.Common.{ap, sym, ◌∙◌}
use Rattle.ring_messages.specs.Bodies.{body_of_answer}
use Rattle.page_server.proofs.answers.HomeAnswer.into_body.Goals as goal

pub returns : goal.returns
returns c = record {
  value = sym c.self.invariant.answers ∙ ap body_of_answer c.self.view_is;
  ranges = c.self.invariant.ranges;
}
