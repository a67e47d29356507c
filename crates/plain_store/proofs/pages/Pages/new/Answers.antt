use Rattle.std.proofs.Common.{◌%◌, ◌<◌, arith}
use Rattle.std.proofs.lemmas.List.{get_or-replicate}
use Rattle.uid_names.specs.declared.limits.TheConstants.{PAGE_BYTES}
use Rattle.plain_store.proofs.pages.Pages.new.Goals as goal

pub returns : goal.returns
returns c = λ u o. rw c.new.ensures.empty (let within : o % PAGE_BYTES < PAGE_BYTES = omega arith in get_or-replicate PAGE_BYTES (o % PAGE_BYTES) 0 0 within)
