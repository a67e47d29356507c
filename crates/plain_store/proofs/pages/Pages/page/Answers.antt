use Rattle.plain_store.proofs.pages.Pages.page.Goals as goal

pub returns : goal.returns
returns c = cc
