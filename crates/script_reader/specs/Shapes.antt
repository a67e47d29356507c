-- The arguments of each command, in order.
use Rattle.std.specs.Prelude.{List}
use Rattle.script_reader.specs.Verbs.{verb_row}
use Rattle.script_reader.specs.declared.words.Verb.{Verb}
use Rattle.script_reader.specs.declared.words.Kind.{Kind}

abbrev pub shape_of : Verb → List Kind
shape_of verb = (verb_row verb).shape
