-- How a machine that has opened a directory comes to its end, reply by reply.
use Rattle.std.specs.Prelude.{Bool, true, false, Option, Some, None}
use Rattle.dom_history.specs.declared.op.Reply.{Reply}
use Rattle.naming_tree.specs.declared.session.Opened.{Opened}
use Rattle.naming_tree.specs.declared.session.Held.{Held}
use Rattle.naming_tree.specs.declared.ending.Ending.{Ending}
use Rattle.naming_tree.specs.declared.step.NameResult.{NameResult}
use Rattle.naming_tree.specs.declared.step.NameResult.TheVariants.{Store}
use Rattle.naming_tree.specs.Entering.{held_of, closing_after}
use Rattle.naming_tree.specs.Readings.{nothing_held, give_up, shut}

-- it has not come to it
abbrev pub no_ending : Ending
no_ending = record { closing = nothing_held; result = None }

-- what is held is closed behind a refusal, which is the result
abbrev pub refused_with : Option Held → Reply → Ending
refused_with held reply = record { closing = give_up held reply; result = None }

-- what is open is closed, and the result stays
abbrev pub decided : Opened → NameResult → Ending
decided o result = record { closing = record { held = Some (held_of o); counts = false; refused = None }; result = Some result }

-- it is closed, and the result stays unless that is refused
abbrev pub completed : Opened → NameResult → Ending
completed o result = record { closing = shut o; result = Some result }

abbrev pub ending_after : Ending → Reply → Ending
ending_after e reply = record { closing = closing_after e.closing reply; result = e.result }

-- the result, once all is closed: the refusal that counted, if there was one
abbrev pub result_at : Option Held → Option Reply → Option NameResult → Option NameResult
result_at (Some held) refused result = None
result_at None (Some reply) result = Some (Store reply)
result_at None None result = result

abbrev pub result_of : Ending → Option NameResult
result_of e = result_at e.closing.held e.closing.refused e.result

-- it will have a result, and counts refusals only up to the first
abbrev pub IsEndingBy : Bool → Option Reply → Option NameResult → Type 0
IsEndingBy true (Some reply) result = ⊥
IsEndingBy false (Some reply) result = Unit {0}
IsEndingBy counts None (Some result) = Unit {0}
IsEndingBy counts None None = ⊥

abbrev pub IsEnding : Ending → Type 0
IsEnding e = IsEndingBy e.closing.counts e.closing.refused e.result
