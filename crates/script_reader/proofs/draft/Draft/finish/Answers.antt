use Rattle.std.proofs.Common.{rules, ◌≡◌, ◌≤◌, length, sym, subst}
use Rattle.script_reader.specs.Walk.Drafts.{content_of}
use Rattle.script_reader.specs.Scripts.{IsContent}
use Rattle.script_reader.proofs.Begun.{can_begin}
use Rattle.script_reader.proofs.Drafting.{greatest_of}
use Rattle.script_reader.proofs.draft.Draft.finish.Goals as goal

pub new-requires-clause-content : goal.new-requires-clause-content
new-requires-clause-content c =
    let d = c.self.inside in
    let some : 1 ≤ length d.nodes.items = subst (λ t. 1 ≤ length t.nodes) (sym c.self.view_is) c.requires in
    let kept : IsContent (content_of d) = record { draft = c.self.invariant.draft; some_node = some; begins = can_begin (length d.nodes.items) (greatest_of d) d.starts.items c.self.invariant.starts } in
    let opening : c.in_ok-opening.opening ≡ (content_of d).opening = search rules in
    rw opening kept
