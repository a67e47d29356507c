use Rattle.std.proofs.Common.{false, refl, ap, ◌∙◌}
use Rattle.ring_messages.specs.Bodies.{is_request}
use Rattle.journal_check.specs.declared.frames.Head.{Head}
use Rattle.journal_check.proofs.Sending.{head-made, head-ranges}
use Rattle.journal_check.proofs.frames.sent_head.Goals as goal

pub returns : goal.returns
returns c =
    let h : Head = record { number = c.number.result; tick = c.tick.result; proc = c.proc.result; version = c.version.result; asks = c.is_request.result; told = false } in
    let is = head-made c.args.frame.now h c.number.ensures.value c.tick.ensures.value c.proc.ensures.value c.version.ensures.value (c.is_request.ensures ∙ ap is_request c.body.ensures.value) refl in
    record { value = is; ranges = head-ranges c.args.frame.now c.number.ensures.ranges h is }
