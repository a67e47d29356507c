use Rattle.object_store.proofs.HomeLemmas.{next-blank}
use Rattle.object_store.proofs.Closings.{made, pushed}
use Rattle.object_store.proofs.homes.Home.make.Goals as goal

pub invariant_of-self-2 : goal.invariant_of-self-2
invariant_of-self-2 g c =
    let added = pushed c.push.result c.push.new.self.items _ _ c.push.ensures.items c.if-is_err.ensures.value in
    made _ c.args.kind c.args.room c.self.inside.taken c.fresh.result c.push.new.self.items c.self.invariant.0 c.self.invariant.1 c.requires.room.0 c.requires.room.1
    c.if-self-room-gt-VOLUME_ROOM.false c.fresh.ensures added

pub returns-clause-kept : goal.returns-clause-kept
returns-clause-kept g c = (invariant_of-self-2 g c).0

pub returns-clause-blank : goal.returns-clause-blank
returns-clause-blank g c page = rw c.from_parts.ensures (next-blank _ page c.self.invariant.0)
