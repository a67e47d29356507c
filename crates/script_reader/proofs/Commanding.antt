-- A command whose process, numbers and names were found good.
use Rattle.std.proofs.Common.{◌≡◌, Bool, true, List, Ok, Err, length, refl}
use Rattle.std.specs.Prelude.{◌&&◌, nat_le, not, is_some, if◌then◌else◌}
use Rattle.std.specs.List.{list_all}
use Rattle.script_reader.specs.After.{after}
use Rattle.script_reader.specs.Arguments.{Said}
use Rattle.script_reader.specs.Judging.{judged_saying}
use Rattle.script_reader.specs.NamesAsked.{has_name}
use Rattle.script_reader.specs.NodeNames.{is_node_name}
use Rattle.script_reader.specs.Numbers.{has_number}
use Rattle.script_reader.specs.Repeats.{is_fresh}
use Rattle.script_reader.specs.Sayings.{Does}
use Rattle.script_reader.specs.Scripts.{Content, wire_of}
use Rattle.script_reader.specs.UnknownNames.{is_known, proc_of}
use Rattle.script_reader.specs.Words.{ProcessWord}
use Rattle.script_reader.specs.declared.cause.Cause.TheVariants.{Unknown, Repeat, Limit}
use Rattle.script_reader.specs.declared.words.Verb.{Verb}

-- what the tests that are left say of it
pub judged_behind_names : (s : Content) (process : ProcessWord) (verb : Verb) (arguments : List Said) (known fresh past : Bool) → (is_some process.number && list_all (has_number (wire_of s)) arguments) ≡ true → list_all has_name arguments ≡ true
    → is_node_name s.nodes process.node ≡ true → list_all (is_known s (proc_of s.nodes process)) arguments ≡ known → list_all (is_fresh s) arguments ≡ fresh → nat_le 20000 (length s.commands) ≡ past
    → judged_saying s (Does process verb arguments) ≡ (if not known then Err Unknown else if not fresh then Err Repeat else if past then Err Limit else Ok (after s (Does process verb arguments)))
judged_behind_names s process verb arguments known fresh past numbers names node k f p = rw (numbers, names, node, k, f, p) refl
