-- What is put first is taken first.
use Rattle.std.proofs.Common.{◌≡◌, ◌<◌, ◌+◌, ◌-◌, ◌^◌, ℕ, Some, List, ◌∷◌, length, subst, arith}
use Rattle.uid_names.specs.Names.{ObjectName}
use Rattle.uid_names.specs.Openings.{Start}
use Rattle.dom_history.specs.StoreEffects.{StoreEffect}
use Rattle.mail_box.specs.Boxes.{message_bytes, text_in, IsText}
use Rattle.mail_box.specs.Contents.{message_of, Holds}
use Rattle.mail_box.specs.Queues.{stored, PutsLast, TakesFirst}
use Rattle.mail_box.specs.declared.boxes.Head.{Head}
use Rattle.mail_box.proofs.Holding.{message_keeps, message_there, put_holds, take_holds}

pub puts_last : (opening : Start) (past : List StoreEffect) (u : ObjectName) → PutsLast opening past u
puts_last opening past u h texts text box place message numbers =
    put_holds opening (stored message (message_bytes text)) numbers.proc numbers.spot u h texts text
    (message_keeps opening past message.proc message.spot u h texts text box place.free place.is message.there)
    (message_there opening past message.proc message.spot u h texts text box place.free place.is message.there) place.free place.room numbers.there

-- the first stands at its number
at_first : (n : ℕ) → n + 0 ≡ n
at_first n = omega arith

pub takes_first : (opening : Start) (past : List StoreEffect) (u : ObjectName) → TakesFirst opening past u
takes_first opening past u h text texts box = record {
  loaded = subst (λ n. text_in (message_of opening past u n) ≡ Some text) (at_first h.taken) (box.each 0 (omega arith)).reads;
  left = λ numbers. take_holds opening past numbers.proc numbers.spot u h text texts box numbers.there;
}
