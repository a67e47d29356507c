use Rattle.std.proofs.Common.{rules, ◌≡◌, ◌<◌, All, length, sym, subst}
use Rattle.script_reader.specs.Places.{places_of}
use Rattle.script_reader.proofs.Placing.{places_bounded}
use Rattle.script_reader.proofs.script.Script.places_of.Goals as goal

pub returns-clause-bound : goal.returns-clause-bound
returns-clause-bound c =
    let commands = c.args.self.now.commands in
    let value : c.of.result.now ≡ places_of 0 c.args.proc commands = search rules in
    subst (λ places. All (λ place. place < length commands) places) (sym value) (places_bounded c.args.proc commands)
