use Rattle.std.proofs.Common.{◌≡◌, drop}
use Rattle.std.specs.List.{list_all}
use Rattle.script_reader.specs.NamesAsked.{has_name}
use Rattle.script_reader.specs.Walk.Seen.{seen_arguments}
use Rattle.script_reader.proofs.arguments.have_names.Given as goal

abbrev pub invariant-loop-argument : goal.invariant-loop-argument
invariant-loop-argument l = list_all has_name (seen_arguments l.arguments) ≡ list_all has_name (seen_arguments (drop l.argument-index l.arguments))
