-- What a call answers where want of memory may stand in the way.
use Rattle.std.specs.Prelude.{◌≡◌, Option, Some, None, Result, Ok, Err}
use Rattle.dom_text.specs.declared.line.TextFault.{TextFault}
use Rattle.dom_text.specs.declared.line.TextFault.TheVariants.{Byte, Quote, NoMemory}

-- an answer is the one that is due; there is none where memory ran out
abbrev pub Gives : {V : Type 0} → Option V → V → Type 0
Gives None due = Unit {0}
Gives (Some answer) due = due ≡ answer

-- what a fault answers to a reader of texts
abbrev pub text_refusal : {A : Type 0} → TextFault → Option (Result A TextFault)
text_refusal Byte = Some (Err Byte)
text_refusal Quote = Some (Err Quote)
text_refusal NoMemory = None

-- what a call that reads texts answers
abbrev pub text_answer : {A : Type 0} → Result A TextFault → Option (Result A TextFault)
text_answer (Ok x) = Some (Ok x)
text_answer (Err fault) = text_refusal fault
