use Rattle.std.proofs.Common.{◌≡◌, ◌∙◌, rules}
use Rattle.std.specs.Prelude.{count_by}
use Rattle.dom_history.specs.Events.{Happening}
use Rattle.run_laws.specs.Accounts.{is_notice}
use Rattle.run_laws.proofs.Counted.{notices-counted}
use Rattle.world_core.proofs.accounting.notices.Goals as goal

pub returns : goal.returns
returns c =
    let counted : _ ≡ count_by (λ (e : Happening). is_notice e.what) c.args.events.now = search rules in
    counted ∙ notices-counted c.args.events.now
