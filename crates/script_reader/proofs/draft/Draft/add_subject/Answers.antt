use Rattle.std.proofs.Common.{rules, ◌≡◌, ◌≤◌, false, true, length, ap, sym, subst, ◌∙◌}
use Rattle.dom_history.specs.Ranges.{IsProcName}
use Rattle.script_reader.specs.Subjects.{IsSubjectRow, has_subject}
use Rattle.script_reader.specs.Words.{is_name}
use Rattle.script_reader.specs.declared.script.SubjectRow.{SubjectRow}
use Rattle.script_reader.proofs.Drafting.{held-subject}
use Rattle.script_reader.proofs.Kept.{name_text}
use Rattle.script_reader.proofs.draft.Draft.add_subject.Goals as goal

pub invariant_of-self-2 : goal.invariant_of-self-2
invariant_of-self-2 c =
    let d = c.self.inside in
    let view = sym c.self.view_is in
    let person = c.in_ok-person.person in
    let project = c.in_ok-project.project in
    let row : SubjectRow = record { proc = c.args.proc; person = person; project = project } in
    let is : IsProcName c.args.proc = search rules in
    let node : c.args.proc.node ≤ length d.nodes.items = subst (λ t. c.args.proc.node ≤ length t.nodes) view c.requires.node in
    let one : is_name person ≡ true = ap is_name c.in_ok-person.ensures ∙ c.requires.person in
    let other : is_name project ≡ true = ap is_name c.in_ok-project.ensures ∙ c.requires.project in
    let of_node : IsSubjectRow (length d.nodes.items) row = record { proc = is; node = node; person = name_text person one; project = name_text project other } in
    let new : has_subject d.subjects.items c.args.proc ≡ false = subst (λ t. has_subject t.subjects c.args.proc ≡ false) view c.requires.new in
    held-subject d c.push.new.self row c.self.invariant c.in_ok-push.ensures.items of_node new
