use Rattle.std.proofs.Common.{ap, ◌∙◌, sym}
use Rattle.std.specs.Prelude.{is_some}
use Rattle.page_store.proofs.HousedLemmas.{IsKept-placed}
use Rattle.page_store.proofs.block_pages.BlockPages.kept.Goals as goal

pub returns : goal.returns
returns c =
    let both = IsKept-placed c.self.inside.places c.self.inside.blocks.blocks.items c.args.counter c.args.page in
    let is = c.is_some.ensures ∙ ap is_some c.of.ensures in
    rw (← c.self.view_is) (λ told. both.1 (sym is ∙ told), λ kept. is ∙ both.0 kept)
