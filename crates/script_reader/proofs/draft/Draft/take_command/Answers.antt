use Rattle.std.proofs.Common.{rules, ◌≡◌, true, false, Ok, length, refl, ap, sym, subst, ◌∙◌}
use Rattle.std.specs.Prelude.{◌&&◌, nat_le, is_some, unwrap_or}
use Rattle.std.specs.List.{list_all}
use Rattle.script_reader.specs.After.{after, with_command}
use Rattle.script_reader.specs.Commands.{IsCommand}
use Rattle.script_reader.specs.NamesAsked.{has_name}
use Rattle.script_reader.specs.NodeNames.{is_node_name}
use Rattle.script_reader.specs.Numbers.{has_number}
use Rattle.script_reader.specs.Repeats.{is_fresh}
use Rattle.script_reader.specs.Sayings.{Does}
use Rattle.script_reader.specs.Scripts.{wire_of}
use Rattle.script_reader.specs.UnknownNames.{is_known, proc_of}
use Rattle.script_reader.specs.Walk.Seen.{seen_arguments}
use Rattle.script_reader.specs.Words.{ProcessWord}
use Rattle.script_reader.proofs.Arguing.{command_is, command_spoken, nodes_known}
use Rattle.script_reader.proofs.Commanding.{judged_behind_names}
use Rattle.script_reader.proofs.Ranges.{node_is}
use Rattle.std.proofs.lemmas.Bool.{and_parts}
use Rattle.script_reader.proofs.draft.Draft.take_command.Goals as goal

pub returns-then-not-are_known : goal.returns-then-not-are_known
returns-then-not-are_known c =
    let s = c.args.self.now in
    let arguments = seen_arguments c.args.arguments.now in
    let process : ProcessWord = record { node = c.args.node.now; number = c.args.number } in
    let numbers : (is_some c.args.number && list_all (has_number (wire_of s)) arguments) ≡ true = search rules in
    let names : list_all has_name arguments ≡ true = search rules in
    let is = node_is s.nodes c.args.node.now c.node_named.result c.in-Some.node c.node_named.ensures c.in-Some.is in
    let node : is_node_name s.nodes c.args.node.now ≡ true = sym c.node_named.ensures.found_if ∙ ap is_some c.in-Some.is in
    let proc : c.proc_of-proc.result ≡ proc_of s.nodes process = c.proc_of-proc.ensures ∙ ap (λ n. record { node = n; number = unwrap_or c.args.number 0 }) is.0 in
    let unknown : list_all (is_known s (proc_of s.nodes process)) arguments ≡ false = ap (λ p. list_all (is_known s p) arguments) (sym proc) ∙ search rules in
    judged_behind_names s process c.args.verb arguments false _ _ numbers names node unknown refl refl

pub returns-then-not-are_fresh : goal.returns-then-not-are_fresh
returns-then-not-are_fresh c =
    let s = c.args.self.now in
    let arguments = seen_arguments c.args.arguments.now in
    let process : ProcessWord = record { node = c.args.node.now; number = c.args.number } in
    let numbers : (is_some c.args.number && list_all (has_number (wire_of s)) arguments) ≡ true = search rules in
    let names : list_all has_name arguments ≡ true = search rules in
    let is = node_is s.nodes c.args.node.now c.node_named.result c.in-Some.node c.node_named.ensures c.in-Some.is in
    let node : is_node_name s.nodes c.args.node.now ≡ true = sym c.node_named.ensures.found_if ∙ ap is_some c.in-Some.is in
    let proc : c.proc_of-proc.result ≡ proc_of s.nodes process = c.proc_of-proc.ensures ∙ ap (λ n. record { node = n; number = unwrap_or c.args.number 0 }) is.0 in
    let known : list_all (is_known s (proc_of s.nodes process)) arguments ≡ true = ap (λ p. list_all (is_known s p) arguments) (sym proc) ∙ search rules in
    let stale : list_all (is_fresh s) arguments ≡ false = search rules in
    judged_behind_names s process c.args.verb arguments true false _ numbers names node known stale refl

pub returns-then-len-ge-MAX_COMMANDS : goal.returns-then-len-ge-MAX_COMMANDS
returns-then-len-ge-MAX_COMMANDS c =
    let s = c.args.self.now in
    let arguments = seen_arguments c.args.arguments.now in
    let process : ProcessWord = record { node = c.args.node.now; number = c.args.number } in
    let numbers : (is_some c.args.number && list_all (has_number (wire_of s)) arguments) ≡ true = search rules in
    let names : list_all has_name arguments ≡ true = search rules in
    let is = node_is s.nodes c.args.node.now c.node_named.result c.in-Some.node c.node_named.ensures c.in-Some.is in
    let node : is_node_name s.nodes c.args.node.now ≡ true = sym c.node_named.ensures.found_if ∙ ap is_some c.in-Some.is in
    let proc : c.proc_of-proc.result ≡ proc_of s.nodes process = c.proc_of-proc.ensures ∙ ap (λ n. record { node = n; number = unwrap_or c.args.number 0 }) is.0 in
    let known : list_all (is_known s (proc_of s.nodes process)) arguments ≡ true = ap (λ p. list_all (is_known s p) arguments) (sym proc) ∙ search rules in
    let fresh : list_all (is_fresh s) arguments ≡ true = search rules in
    let past : nat_le 20000 (length s.commands) ≡ true = search rules in
    judged_behind_names s process c.args.verb arguments true true true numbers names node known fresh past

pub returns : goal.returns
returns c =
    let s = c.args.self.now in
    let arguments = seen_arguments c.args.arguments.now in
    let process : ProcessWord = record { node = c.args.node.now; number = c.args.number } in
    let numbers : (is_some c.args.number && list_all (has_number (wire_of s)) arguments) ≡ true = search rules in
    let names : list_all has_name arguments ≡ true = search rules in
    let is = node_is s.nodes c.args.node.now c.node_named.result c.in-Some.node c.node_named.ensures c.in-Some.is in
    let node : is_node_name s.nodes c.args.node.now ≡ true = sym c.node_named.ensures.found_if ∙ ap is_some c.in-Some.is in
    let proc : c.proc_of-proc.result ≡ proc_of s.nodes process = c.proc_of-proc.ensures ∙ ap (λ n. record { node = n; number = unwrap_or c.args.number 0 }) is.0 in
    let known : list_all (is_known s (proc_of s.nodes process)) arguments ≡ true = ap (λ p. list_all (is_known s p) arguments) (sym proc) ∙ search rules in
    let fresh : list_all (is_fresh s) arguments ≡ true = search rules in
    let within : nat_le 20000 (length s.commands) ≡ false = search rules in
    let done : c.add_command.new.self ≡ after s (Does process c.args.verb arguments) =
    c.in_ok-add_command.ensures.ok
    ∙ (ap (λ p. with_command s p c.in_ok-command.command) proc
    ∙ ap (with_command s (proc_of s.nodes process)) c.in_ok-command.ensures) in
    judged_behind_names s process c.args.verb arguments true true false numbers names node known fresh within ∙ ap Ok (sym done)

pub add_command-requires-clause-range : goal.add_command-requires-clause-range
add_command-requires-clause-range c =
    let s = c.args.self.now in
    let arguments = seen_arguments c.args.arguments.now in
    let process : ProcessWord = record { node = c.args.node.now; number = c.args.number } in
    let numbers : (is_some c.args.number && list_all (has_number (wire_of s)) arguments) ≡ true = search rules in
    let names : list_all has_name arguments ≡ true = search rules in
    let is = node_is s.nodes c.args.node.now c.node_named.result c.in-Some.node c.node_named.ensures c.in-Some.is in
    let node : is_node_name s.nodes c.args.node.now ≡ true = sym c.node_named.ensures.found_if ∙ ap is_some c.in-Some.is in
    let proc : c.proc_of-proc.result ≡ proc_of s.nodes process = c.proc_of-proc.ensures ∙ ap (λ n. record { node = n; number = unwrap_or c.args.number 0 }) is.0 in
    let known : list_all (is_known s (proc_of s.nodes process)) arguments ≡ true = ap (λ p. list_all (is_known s p) arguments) (sym proc) ∙ search rules in
    let parts = and_parts (is_some c.args.number) (list_all (has_number (wire_of s)) arguments) numbers in
    subst (IsCommand (length s.nodes)) (sym c.in_ok-command.ensures) (command_is (wire_of s) s.nodes c.args.verb arguments c.requires.formed parts.1 names (nodes_known s (proc_of s.nodes process) arguments known))

pub add_command-requires-clause-spoken : goal.add_command-requires-clause-spoken
add_command-requires-clause-spoken c =
    let s = c.args.self.now in
    let arguments = seen_arguments c.args.arguments.now in
    let process : ProcessWord = record { node = c.args.node.now; number = c.args.number } in
    let numbers : (is_some c.args.number && list_all (has_number (wire_of s)) arguments) ≡ true = search rules in
    let names : list_all has_name arguments ≡ true = search rules in
    let is = node_is s.nodes c.args.node.now c.node_named.result c.in-Some.node c.node_named.ensures c.in-Some.is in
    let node : is_node_name s.nodes c.args.node.now ≡ true = sym c.node_named.ensures.found_if ∙ ap is_some c.in-Some.is in
    let proc : c.proc_of-proc.result ≡ proc_of s.nodes process = c.proc_of-proc.ensures ∙ ap (λ n. record { node = n; number = unwrap_or c.args.number 0 }) is.0 in
    let known : list_all (is_known s (proc_of s.nodes process)) arguments ≡ true = ap (λ p. list_all (is_known s p) arguments) (sym proc) ∙ search rules in
    let fresh : list_all (is_fresh s) arguments ≡ true = search rules in
    rw (proc, c.in_ok-command.ensures) (command_spoken s (proc_of s.nodes process) c.args.verb arguments c.requires.formed.kinds_are known fresh)
