use Rattle.std.proofs.Common.{Option, sym, subst}
use Rattle.std.specs.Option.{option_copied}
use Rattle.naming_tree.specs.ListsAt.{listing_after, listing_asks}
use Rattle.naming_tree.specs.declared.listing.Listing.{Listing}
use Rattle.command_talks.specs.FileTalks.{asked_at}
use Rattle.command_talks.specs.FileTurns.{AsksOne}
use Rattle.command_talks.proofs.Streams.{name_asks}
use Rattle.command_talks.proofs.telling.tell_list.Goals as goal

pub returns-clause-asks : goal.returns-clause-asks
returns-clause-asks c =
    subst (λ (m : Option Listing). AsksOne (asked_at listing_asks m) c.of_name.result) (sym c.in_ok-next.ensures.after)
    (name_asks listing_asks listing_after c.args.list.now (option_copied c.args.last) c.in_ok-next.field-0 c.of_name.result c.in_ok-next.ensures.step c.in_ok-next.ensures.range c.of_name.ensures)
