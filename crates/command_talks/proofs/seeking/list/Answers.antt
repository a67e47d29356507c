use Rattle.std.proofs.Common.{Option, Some, ap, ◌∙◌, sym, subst}
use Rattle.std.specs.Option.{option_copied}
use Rattle.naming_tree.specs.Dialogues.{IsStep}
use Rattle.naming_tree.specs.ListsAt.{listing_after, listing_asks}
use Rattle.naming_tree.specs.declared.listing.Listing.{Listing}
use Rattle.command_talks.specs.FileTalks.{asked_at, came_turn}
use Rattle.command_talks.specs.declared.file_talk.FileTalk.TheVariants.{Lists}
use Rattle.command_talks.specs.declared.file_talk.FileTurn.TheVariants.{Goes}
use Rattle.command_talks.proofs.Copies.{named_goes, named_comes}
use Rattle.command_talks.proofs.Machines.{asked_stood}
use Rattle.command_talks.proofs.seeking.list.Goals as goal

pub returns-in-Do-clause-turn : goal.returns-in-Do-clause-turn
returns-in-Do-clause-turn c =
    ap (λ (w : Option Listing). Some (Goes (Lists w) c.in-Do.op)) c.in_ok-op.ensures.after
    ∙ named_goes listing_asks listing_after (λ w. Lists w) came_turn c.args.machine (option_copied c.args.last) c.in-Do.op (sym (ap Some c.in-Do.is) ∙ c.in_ok-op.ensures.step)

pub returns-in-Do-clause-asks : goal.returns-in-Do-clause-asks
returns-in-Do-clause-asks c = (
  ap (asked_at listing_asks) c.in_ok-op.ensures.after ∙ asked_stood listing_asks listing_after c.args.machine (option_copied c.args.last) c.in-Do.op (sym (sym (ap Some c.in-Do.is) ∙ c.in_ok-op.ensures.step)),
  subst IsStep c.in-Do.is c.in_ok-op.ensures.range,
)

pub returns-in-Over-clause-turn : goal.returns-in-Over-clause-turn
returns-in-Over-clause-turn c = named_comes listing_asks listing_after (λ w. Lists w) came_turn c.args.machine (option_copied c.args.last) c.in-Over.come (sym (ap Some c.in-Over.is) ∙ c.in_ok-op.ensures.step)

pub returns-in-Over-clause-asks : goal.returns-in-Over-clause-asks
returns-in-Over-clause-asks c = tt
