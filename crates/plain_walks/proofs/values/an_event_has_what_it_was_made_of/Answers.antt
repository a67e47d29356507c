use Rattle.std.proofs.Common.{rules}
use Rattle.uid_names.specs.declared.frame_kind.FrameKind.TheVariants.{Lock}
use Rattle.plain_walks.proofs.values.an_event_has_what_it_was_made_of.Goals as goal

pub new-event-requires-clause-effects : goal.new-event-requires-clause-effects
new-event-requires-clause-effects g c = record { rising = search rules; kind = (Lock, search rules); proc = tt }
