use Rattle.std.proofs.Common.{rules}
use Rattle.std.specs.Prelude.{◌↔◌, IsTrue, All}
use Rattle.script_reader.specs.Repeats.{is_fresh}
use Rattle.script_reader.specs.Walk.Seen.{seen_argument}
use Rattle.script_reader.proofs.Arguing.{all_seen}
use Rattle.script_reader.proofs.draft.Draft.are_fresh.Goals as goal

pub returns : goal.returns
returns c =
    let all : IsTrue c.all.result ↔ All (λ a. IsTrue ((is_fresh c.args.self.now) (seen_argument a))) c.args.arguments.now = search rules in
    all_seen (is_fresh c.args.self.now) c.args.arguments.now c.all.result all
