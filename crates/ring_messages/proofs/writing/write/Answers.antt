use Rattle.std.proofs.Common.{◌∙◌, ◌++◌, ap, List, ℕ}
use Rattle.ring_messages.specs.Spelling.{body_bytes, header, head_of}
use Rattle.ring_messages.proofs.writing.write.Goals as goal

pub returns : goal.returns
returns c =
    let behind = λ (r : List ℕ). r ++ body_bytes c.args.frame.now.version c.args.frame.now.body in
    let head = header (head_of c.args.frame.now) in
    record {
      spelled = record {
        frame = record {
          from = c.in_ok-put_header.ensures.head.from;
          to = c.in_ok-put_header.ensures.head.to;
          number_high = c.in_ok-put_header.ensures.head.number_high;
          tick_high = c.in_ok-put_header.ensures.head.tick_high;
          typed = c.in_ok-put_body.ensures.typed;
          in_range = c.in_ok-put_header.ensures.ranges;
        };
        text = c.in_ok-put_body.ensures.text ∙ ap behind (c.in_ok-put_header.ensures.text ∙ ap (λ (r : List ℕ). r ++ head) c.in_ok-out.ensures);
      };
    }
