use Rattle.std.proofs.Common.{rules}
use Rattle.std.specs.Prelude.{◌↔◌, IsTrue, All}
use Rattle.script_reader.specs.Numbers.{has_number}
use Rattle.script_reader.specs.Walk.Seen.{seen_argument}
use Rattle.script_reader.proofs.Arguing.{all_seen}
use Rattle.script_reader.proofs.arguments.have_numbers.Goals as goal

pub returns : goal.returns
returns c =
    let all : IsTrue c.all.result ↔ All (λ a. IsTrue (has_number c.args.wire (seen_argument a))) c.args.arguments.now = search rules in
    all_seen (has_number c.args.wire) c.args.arguments.now c.all.result all
