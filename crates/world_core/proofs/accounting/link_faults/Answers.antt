use Rattle.std.proofs.Common.{◌≡◌, ◌∙◌, sym, rules}
use Rattle.std.specs.Prelude.{count_by}
use Rattle.std.proofs.lemmas.List.Sums.{length-filter}
use Rattle.dom_history.specs.Events.{Happening}
use Rattle.run_laws.specs.Accounts.{is_fault_end}
use Rattle.world_core.proofs.accounting.link_faults.Goals as goal

pub returns : goal.returns
returns c =
    let counted : _ ≡ count_by (λ (e : Happening). is_fault_end e.effects.ended) c.args.events.now = search rules in
    counted ∙ sym (length-filter (λ (e : Happening). is_fault_end e.effects.ended) c.args.events.now)
