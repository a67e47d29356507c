use Rattle.std.proofs.Common.{rules}
use Rattle.std.specs.Prelude.{◌↔◌, IsTrue, All}
use Rattle.script_reader.specs.UnknownNames.{is_known}
use Rattle.script_reader.specs.Walk.Seen.{seen_argument}
use Rattle.script_reader.proofs.Arguing.{all_seen}
use Rattle.script_reader.proofs.draft.Draft.are_known.Goals as goal

pub returns : goal.returns
returns c =
    let all : IsTrue c.all.result ↔ All (λ a. IsTrue ((is_known c.args.self.now c.args.proc) (seen_argument a))) c.args.arguments.now = search rules in
    all_seen (is_known c.args.self.now c.args.proc) c.args.arguments.now c.all.result all
