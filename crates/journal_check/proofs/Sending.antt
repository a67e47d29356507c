-- The head of a frame that is sent, and the heads that are kept.
use Rattle.std.proofs.Common.{◌≡◌, true, false, sym, ap, subst, ◌∙◌}
use Rattle.ring_messages.specs.Bodies.{is_request}
use Rattle.ring_messages.specs.Frames.{Message, IsInRange}
use Rattle.journal_check.specs.Kept.{IsHead, head_of}
use Rattle.journal_check.specs.declared.frames.Head.{Head}

-- the head that is made of a frame's parts
pub head-made : (m : Message) (h : Head) → h.number ≡ m.number → h.tick ≡ m.tick → h.proc ≡ m.proc → h.version ≡ m.version → h.asks ≡ is_request m.body → h.told ≡ false → h ≡ head_of m false
head-made m h number tick proc version asks told =
    ap (λ k. let x : Head = record h { number = k } in x) number
    ∙ (ap (λ k. let x : Head = record h { number = m.number; tick = k } in x) tick
    ∙ (ap (λ k. let x : Head = record h { number = m.number; tick = m.tick; proc = k } in x) proc
    ∙ (ap (λ k. let x : Head = record h { number = m.number; tick = m.tick; proc = m.proc; version = k } in x) version
    ∙ (ap (λ b. let x : Head = record h { number = m.number; tick = m.tick; proc = m.proc; version = m.version; asks = b } in x) asks
    ∙ ap (λ b. let x : Head = record { number = m.number; tick = m.tick; proc = m.proc; version = m.version; asks = is_request m.body; told = b } in x) told))))

-- it keeps the ranges of the frame
pub head-ranges : (m : Message) → IsInRange m → (h : Head) → h ≡ head_of m false → IsHead h
head-ranges m ranges h is = subst IsHead (sym is) (record { proc_low = ranges.proc_low; proc_high = ranges.proc_high; number = ranges.number; tick = ranges.tick; version = ranges.version })

-- one that was told keeps its ranges
pub told-ranges : (h : Head) → IsHead h → IsHead (record h { told = true })
told-ranges h is = record { proc_low = is.proc_low; proc_high = is.proc_high; number = is.number; tick = is.tick; version = is.version }
