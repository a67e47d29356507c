use Rattle.std.proofs.Common.{rules, ◌≡◌, ◌≤◌, ◌<◌, ◌++◌, ◌∷◌, [], length, sym, subst}
use Rattle.dom_history.specs.Ranges.{IsProcName}
use Rattle.script_reader.specs.Commands.{IsCommand}
use Rattle.script_reader.specs.Variables.{IsSpoken}
use Rattle.script_reader.proofs.Drafting.{held-command}
use Rattle.script_reader.proofs.draft.Draft.add_command.Goals as goal

pub invariant_of-self-2 : goal.invariant_of-self-2
invariant_of-self-2 c =
    let d = c.self.inside in
    let command = c.args.command in
    let view = sym c.self.view_is in
    let pushed : c.push_reserved.new.self.items ≡ d.commands.items ++ record { proc = c.args.proc; phase = d.phases; command = command } ∷ [] = search rules in
    let node : c.args.proc.node ≤ length d.nodes.items = subst (λ t. c.args.proc.node ≤ length t.nodes) view c.requires.node in
    let is : IsProcName c.args.proc = search rules in
    let range : IsCommand (length d.nodes.items) command = subst (λ t. IsCommand (length t.nodes) command) view c.requires.range in
    let spoken : IsSpoken d.objects.items d.commands.items c.args.proc command = subst (λ t. IsSpoken t.objects t.commands c.args.proc command) view c.requires.spoken in
    let room : length d.commands.items < 20000 = subst (λ t. length t.commands < 20000) view c.requires.room in
    held-command d c.push_reserved.new.self c.note_command.new.named c.args.proc command c.self.invariant pushed (c.in_ok-note_command.ensures.ok d.commands.items d.phases c.self.invariant.named) is node range spoken room
