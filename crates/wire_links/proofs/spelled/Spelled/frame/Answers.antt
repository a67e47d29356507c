use Rattle.std.proofs.Common.{subst}
use Rattle.ring_messages.specs.Spelled.{Spells}
use Rattle.wire_links.proofs.Spelling.{spelt_tick}
use Rattle.wire_links.proofs.spelled.Spelled.frame.Goals as goal

pub returns-in-Ok-clause-tick : goal.returns-in-Ok-clause-tick
returns-in-Ok-clause-tick c =
    spelt_tick c.self.inside.bytes c.in-Ok.frame c.self.invariant (subst (Spells c.in-Ok.frame) c.bytes.ensures c.in-Ok.ensures.found) c.frames_have_one_spelling.ensures.one
