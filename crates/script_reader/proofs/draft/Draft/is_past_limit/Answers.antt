use Rattle.std.proofs.Common.{◌≡◌, ◌+◌, slice_index_or, ap, subst, ◌∙◌}
use Rattle.std.specs.Prelude.{nat_lt, unwrap_or}
use Rattle.uid_names.specs.declared.limits.TheConstants.{VOLUME_ROOM}
use Rattle.script_reader.specs.NodeNames.{node_number}
use Rattle.script_reader.specs.Limits.{pages_at}
use Rattle.script_reader.specs.Walk.Found.{AreNodesOf}
use Rattle.script_reader.specs.Walk.Seen.{seen}
use Rattle.script_reader.proofs.Ranges.{node_is}
use Rattle.script_reader.proofs.Drafting.{pages_is}
use Rattle.script_reader.proofs.draft.Draft.is_past_limit.Goals as goal

pub returns-in-Object : goal.returns-in-Object
returns-in-Object c =
    let d = c.self.inside in
    let home = c.known.result in
    let found = subst (λ l. AreNodesOf c.args.self.now.nodes (seen l) c.args.nodes.now) c.in-Object.is c.requires.found in
    let named = node_is c.args.self.now.nodes c.in-Object.home.now c.args.nodes.now.first home found c.known.ensures in
    let tally = pages_is d home c.home_index-home.result c.self.invariant c.home_index-home.ensures.least c.home_index-home.ensures.greatest c.home_index-home.ensures.value in
    let objects : d.starts.items ≡ c.args.self.now.opening.objects = ap (λ s. s.opening.objects) c.self.view_is in
    let pages : slice_index_or d.pages c.home_index-home.result 0 ≡ pages_at (node_number c.args.self.now.nodes c.in-Object.home.now) c.args.self.now.opening.objects =
    tally ∙ (ap (pages_at home) objects ∙ ap (λ h. pages_at h c.args.self.now.opening.objects) named.0) in
    rw (c.in-Object.is, c.unwrap_or.ensures) (ap (λ p. nat_lt VOLUME_ROOM (p + unwrap_or c.in-Object.room 0)) pages)
