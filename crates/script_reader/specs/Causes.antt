-- How a cause is written in a refusal.
use Rattle.std.specs.Prelude.{ℕ, List, codes}
use Rattle.script_reader.specs.declared.cause.Cause.{Cause}
use Rattle.script_reader.specs.declared.cause.Cause.TheVariants.{TooLong, Byte, Quote, Word, Place, Form, Number, Name, Unknown, Repeat, Limit, NoNode}

abbrev pub cause_text : Cause → List ℕ
cause_text TooLong = codes "too long"
cause_text Byte = codes "byte"
cause_text Quote = codes "quote"
cause_text Word = codes "word"
cause_text Place = codes "place"
cause_text Form = codes "form"
cause_text Number = codes "number"
cause_text Name = codes "name"
cause_text Unknown = codes "unknown"
cause_text Repeat = codes "repeat"
cause_text Limit = codes "limit"
cause_text NoNode = codes "no node"
