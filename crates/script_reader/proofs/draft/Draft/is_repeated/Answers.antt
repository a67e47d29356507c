use Rattle.std.proofs.Common.{rules, ◌≡◌, ◌∙◌, ap, subst}
use Rattle.std.specs.Prelude.{unwrap_or}
use Rattle.uid_names.specs.Names.{ProcName}
use Rattle.dom_history.specs.Plans.{is_set}
use Rattle.script_reader.specs.NodeNames.{node_number}
use Rattle.script_reader.specs.Subjects.{has_subject}
use Rattle.script_reader.specs.Walk.Found.{AreNodesOf}
use Rattle.script_reader.specs.UnknownNames.{proc_of}
use Rattle.script_reader.specs.Words.{ProcessWord}
use Rattle.script_reader.specs.Walk.Seen.{seen}
use Rattle.script_reader.proofs.Ranges.{node_is}
use Rattle.script_reader.proofs.draft.Draft.is_repeated.Goals as goal

pub returns-in-Fault : goal.returns-in-Fault
returns-in-Fault c =
    let nodes = c.args.self.now.nodes in
    let found = subst (λ l. AreNodesOf nodes (seen l) c.args.nodes.now) c.in-Fault.is c.requires.found in
    let from = node_is nodes c.in-Fault.from.now c.args.nodes.now.first c.known-from.result found.0 c.known-from.ensures in
    let to = node_is nodes c.in-Fault.to.now c.args.nodes.now.second c.known-to.result found.1 c.known-to.ensures in
    rw (c.in-Fault.is, c.is_set.ensures, from.0, to.0, c.unwrap_or.ensures)
    (ap (λ s. is_set s.plan (node_number c.args.self.now.nodes c.in-Fault.from.now) (node_number c.args.self.now.nodes c.in-Fault.to.now) (unwrap_or c.in-Fault.index 0)) c.self.view_is)

pub returns-in-Subject : goal.returns-in-Subject
returns-in-Subject c =
    let process : ProcessWord = record { node = c.in-Subject.node.now; number = c.in-Subject.number } in
    let proc : c.proc_of-owner.result ≡ proc_of c.args.self.now.nodes process = search rules in
    rw c.in-Subject.is (c.has_subject.ensures ∙ ap (λ (p : ProcName). has_subject c.args.self.now.subjects p) proc)
