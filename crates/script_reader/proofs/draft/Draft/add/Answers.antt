use Rattle.std.proofs.Common.{rules, ◌≡◌, ◌≤◌, ℕ, false, Option, Some, None, refl, sym, subst}
use Rattle.std.specs.Prelude.{◌&&◌, is_some}
use Rattle.std.proofs.lemmas.Bool.{and_parts, not-false}
use Rattle.script_reader.specs.Numbers.{has_room, is_fate, is_no_number}
use Rattle.uid_names.specs.Wires.{wire_room}
use Rattle.script_reader.specs.Scripts.{wire_of}
use Rattle.script_reader.specs.NamesAsked.{is_no_name}
use Rattle.script_reader.specs.NodeNames.{is_node_name}
use Rattle.script_reader.specs.Repeats.{is_repeated}
use Rattle.script_reader.specs.UnknownNames.{is_unknown, proc_of}
use Rattle.script_reader.specs.Words.{ProcessWord, is_name}
use Rattle.script_reader.specs.Walk.Formed.{IsFormed}
use Rattle.script_reader.specs.Walk.Found.{AreNodesOf}
use Rattle.script_reader.specs.Walk.Seen.{seen, seen_fate}
use Rattle.script_reader.proofs.Arguing.{to_low}
use Rattle.script_reader.proofs.Ranges.{both_true, fate_is, node_is, nodes_apart}
use Rattle.script_reader.proofs.draft.Draft.add.Goals as goal

pub add_fate-requires-clause-apart : goal.add_fate-requires-clause-apart
add_fate-requires-clause-apart c =
    let s = c.args.self.now in
    let from = c.in-Fault.from.now in
    let to = c.in-Fault.to.now in
    let two = subst (λ l. IsFormed s (seen l)) c.in-Fault.is c.requires.formed in
    let known = both_true (is_node_name s.nodes from) (is_node_name s.nodes to) (subst (λ l. is_unknown s (seen l) ≡ false) c.in-Fault.is c.requires.known) in
    let found = subst (λ l. AreNodesOf s.nodes (seen l) c.args.nodes.now) c.in-Fault.is c.requires.found in
    let one = node_is s.nodes from c.args.nodes.now.first c.known-from.result found.0 c.known-from.ensures in
    let other = node_is s.nodes to c.args.nodes.now.second c.known-to.result found.1 c.known-to.ensures in
    rw (one.0, other.0) (nodes_apart s.nodes from to two.0 known.0 known.1)

pub add_fate-requires-clause-fate : goal.add_fate-requires-clause-fate
add_fate-requires-clause-fate c =
    let formed = subst (λ l. IsFormed c.args.self.now (seen l)) c.in-Fault.is c.requires.formed in
    let good = both_true (is_some c.in-Fault.index) (is_fate (seen_fate c.in-Fault.fate)) (subst (λ l. is_no_number (wire_of c.args.self.now) (seen l) ≡ false) c.in-Fault.is c.requires.numbers) in
    rw c.fate_of.ensures (fate_is (seen_fate c.in-Fault.fate) formed.1.1 good.1)

-- the process of a subject
pub add_subject-requires-clause-person : goal.add_subject-requires-clause-person
add_subject-requires-clause-person c =
    let node = c.in-Subject.node.now in
    let rest = is_name c.in-Subject.person.now && is_name c.in-Subject.project.now in
    let names = both_true (is_name node) rest (subst (λ l. is_no_name (seen l) ≡ false) c.in-Subject.is c.requires.names) in
    (and_parts (is_name c.in-Subject.person.now) (is_name c.in-Subject.project.now) names.1).0

pub add_subject-requires-clause-project : goal.add_subject-requires-clause-project
add_subject-requires-clause-project c =
    let node = c.in-Subject.node.now in
    let rest = is_name c.in-Subject.person.now && is_name c.in-Subject.project.now in
    let names = both_true (is_name node) rest (subst (λ l. is_no_name (seen l) ≡ false) c.in-Subject.is c.requires.names) in
    (and_parts (is_name c.in-Subject.person.now) (is_name c.in-Subject.project.now) names.1).1

pub add_subject-requires-clause-new : goal.add_subject-requires-clause-new
add_subject-requires-clause-new c =
    let s = c.args.self.now in
    let process : ProcessWord = record { node = c.in-Subject.node.now; number = c.in-Subject.number } in
    let new = subst (λ l. is_repeated s (seen l) ≡ false) c.in-Subject.is c.requires.new in
    let proc : c.proc_of-owner.result ≡ proc_of s.nodes process = search rules in
    rw proc new

-- none is there
none_there : (o : Option ℕ) → is_some o ≡ false → o ≡ None
none_there None none = refl
none_there (Some n) none = absurd cc

pub add_wire-requires-clause-new : goal.add_wire-requires-clause-new
add_wire-requires-clause-new c = none_there c.args.self.now.said_wire (subst (λ l. is_repeated c.args.self.now (seen l) ≡ false) c.in-Wire.is c.requires.new)

pub add_object-requires-clause-low : goal.add_object-requires-clause-low
add_object-requires-clause-low c =
    let s = c.args.self.now in
    let good = not-false (has_room (wire_of s) c.in-Object.room) (subst (λ l. is_no_number (wire_of s) (seen l) ≡ false) c.in-Object.is c.requires.numbers) in
    subst (λ n. n ≤ wire_room (wire_of s)) (sym c.unwrap_or-in-Object.ensures) (to_low (wire_room (wire_of s)) c.in-Object.room good)

pub returns-in-Object : goal.returns-in-Object
returns-in-Object c =
    let found = subst (λ l. AreNodesOf c.args.self.now.nodes (seen l) c.args.nodes.now) c.in-Object.is c.requires.found in
    let home = node_is c.args.self.now.nodes c.in-Object.home.now c.args.nodes.now.first c.known-home.result found c.known-home.ensures in
    rw (c.in-Object.is, ← c.unwrap_or-in-Object.ensures, ← home.0) c.add_object.ensures.ok
