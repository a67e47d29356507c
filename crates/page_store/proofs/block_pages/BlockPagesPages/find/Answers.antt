use Rattle.std.proofs.Common.{◌∙◌, sym, ap}
use Rattle.page_store.specs.Volumes.{page_of}
use Rattle.page_store.proofs.HousedLemmas.{page_of-placed, page_of-absent}
use Rattle.page_store.proofs.block_pages.BlockPagesPages.find.Goals as goal

pub returns-in-Some : goal.returns-in-Some
returns-in-Some c =
    ap (λ v. page_of v c.args.counter c.args.page) (sym c.self.view_is)
    ∙ sym (page_of-placed c.self.inside.places c.self.inside.blocks.blocks.items c.args.counter c.args.page c.in-Some.place c.page.result.now (sym c.of.ensures ∙ c.in-Some.is) c.page.ensures)

pub returns-in-None : goal.returns-in-None
returns-in-None c =
    ap (λ v. page_of v c.args.counter c.args.page) (sym c.self.view_is)
    ∙ sym (page_of-absent c.self.inside.places c.self.inside.blocks.blocks.items c.args.counter c.args.page (sym c.of.ensures ∙ c.in-None.is))
