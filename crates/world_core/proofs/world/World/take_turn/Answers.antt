use Rattle.std.proofs.Common.{◌<◌, ℕ, Option, Some, IfSome, false, refl, sym, ap, subst, ◌∙◌, arith}
use Rattle.std.specs.Prelude.{◌-◌}
use Rattle.std.specs.Vec.{with_item}
use Rattle.std.proofs.lemmas.Option.{slice_get-get_or}
use Rattle.node_runs.specs.Incomings.{tick_of}
use Rattle.ring_messages.specs.Frames.{caller_of}
use Rattle.world_core.specs.Stations.{Candidate}
use Rattle.world_core.proofs.Counting.{counts-few}
use Rattle.world_core.proofs.Marked.{set_many}
use Rattle.world_core.proofs.Picked.{picked, picked-done}
use Rattle.world_core.proofs.Sendable.{links-there, links-few}
use Rattle.world_core.proofs.TakingTurns.{none-enabled}
use Rattle.world_core.proofs.Turned.{sends-to-nodes, turned}
use Rattle.world_core.proofs.world.World.take_turn.Goals as goal

pub enabled-count-requires : goal.enabled-count-requires
enabled-count-requires g c =
    counts-few g.P.Program.wants g.P.Program.becomes c.requires.stands.0 c.requires.stands.1 c.args.self.now c.requires.stands.2 c.requires.stands.3

pub returns-then-count-eq0-clause-turn : goal.returns-then-count-eq0-clause-turn
returns-then-count-eq0-clause-turn g c =
    λ made s w stands. none-enabled g.P.Program.wants g.P.Program.becomes made s c.args.self.now w stands (sym c.enabled-count.ensures ∙ c.if-count-eq0.true)

pub happen-requires-clause-listed : goal.happen-requires-clause-listed
happen-requires-clause-listed g c =
    let it = picked g.P.Program.wants g.P.Program.becomes c.requires.stands.0 c.requires.stands.1 c.args.self.now c.requires.stands.2 c.requires.stands.3 c.requires.below
    c.args.choice c.enabled-count.result c.in-Some.at c.in-Some.place c.index_mut.result.now c.enabled-count.ensures (c.in-Some.ensures {u = tt}) c.index_mut.ensures.value in
    it.listed

pub happen-requires-clause-within : goal.happen-requires-clause-within
happen-requires-clause-within g c =
    let it = picked g.P.Program.wants g.P.Program.becomes c.requires.stands.0 c.requires.stands.1 c.args.self.now c.requires.stands.2 c.requires.stands.3 c.requires.below
    c.args.choice c.enabled-count.result c.in-Some.at c.in-Some.place c.index_mut.result.now c.enabled-count.ensures (c.in-Some.ensures {u = tt}) c.index_mut.ensures.value in
    it.within

pub happen-requires-clause-early : goal.happen-requires-clause-early
happen-requires-clause-early g c =
    let it = picked g.P.Program.wants g.P.Program.becomes c.requires.stands.0 c.requires.stands.1 c.args.self.now c.requires.stands.2 c.requires.stands.3 c.requires.below
    c.args.choice c.enabled-count.result c.in-Some.at c.in-Some.place c.index_mut.result.now c.enabled-count.ensures (c.in-Some.ensures {u = tt}) c.index_mut.ensures.value in
    subst (λ (o : Option Candidate). IfSome o (λ k. tick_of k.incoming < 1099511627776)) (sym it.chosen.there) it.chosen.early

pub send-requires-clause-links : goal.send-requires-clause-links
send-requires-clause-links g c =
    let it = picked g.P.Program.wants g.P.Program.becomes c.requires.stands.0 c.requires.stands.1 c.args.self.now c.requires.stands.2 c.requires.stands.3 c.requires.below
    c.args.choice c.enabled-count.result c.in-Some.at c.in-Some.place c.index_mut.result.now c.enabled-count.ensures (c.in-Some.ensures {u = tt}) c.index_mut.ensures.value in
    let done = picked-done g.P.Program.wants g.P.Program.becomes c.requires.stands.0 c.requires.stands.1 c.args.self.now c.requires.stands.2
    c.args.choice c.in-Some.at c.in-Some.place c.index_mut.result.now c.happen.new.self c.in_ok-emitted.emitted it c.in_ok-emitted.ensures in
    links-there g.P.Program.wants g.P.Program.becomes c.requires.stands.0 c.requires.stands.1 c.args.self.now c.requires.stands.2 c.requires.stands.3
    c.in-Some.at c.index_mut.result.now c.happen.new.self it.there it.chosen.candidate.coming.source done.ins

pub send-requires-clause-few : goal.send-requires-clause-few
send-requires-clause-few g c =
    let it = picked g.P.Program.wants g.P.Program.becomes c.requires.stands.0 c.requires.stands.1 c.args.self.now c.requires.stands.2 c.requires.stands.3 c.requires.below
    c.args.choice c.enabled-count.result c.in-Some.at c.in-Some.place c.index_mut.result.now c.enabled-count.ensures (c.in-Some.ensures {u = tt}) c.index_mut.ensures.value in
    let done = picked-done g.P.Program.wants g.P.Program.becomes c.requires.stands.0 c.requires.stands.1 c.args.self.now c.requires.stands.2
    c.args.choice c.in-Some.at c.in-Some.place c.index_mut.result.now c.happen.new.self c.in_ok-emitted.emitted it c.in_ok-emitted.ensures in
    links-few g.P.Program.wants g.P.Program.becomes c.requires.stands.0 c.requires.stands.1 c.args.self.now c.requires.stands.2 c.requires.stands.3
    c.in-Some.at c.index_mut.result.now c.happen.new.self it.there it.chosen.candidate.coming.source done.ins

pub send-requires-clause-nodes : goal.send-requires-clause-nodes
send-requires-clause-nodes g c =
    let it = picked g.P.Program.wants g.P.Program.becomes c.requires.stands.0 c.requires.stands.1 c.args.self.now c.requires.stands.2 c.requires.stands.3 c.requires.below
    c.args.choice c.enabled-count.result c.in-Some.at c.in-Some.place c.index_mut.result.now c.enabled-count.ensures (c.in-Some.ensures {u = tt}) c.index_mut.ensures.value in
    let done = picked-done g.P.Program.wants g.P.Program.becomes c.requires.stands.0 c.requires.stands.1 c.args.self.now c.requires.stands.2
    c.args.choice c.in-Some.at c.in-Some.place c.index_mut.result.now c.happen.new.self c.in_ok-emitted.emitted it c.in_ok-emitted.ensures in
    subst (λ (k : ℕ). IfSome c.in_ok-emitted.emitted.frame (λ sent. (sent.1.to - 1 < k) × ((caller_of sent.1).node - 1 < k))) (sym (set_many c.args.self.now.stations.items c.in-Some.at c.happen.new.self))
    (sends-to-nodes g.P.Program.wants g.P.Program.becomes c.requires.stands.0 c.requires.stands.1 c.args.self.now c.requires.stands.2 c.requires.stands.3
    c.args.choice c.in-Some.at c.in-Some.place c.index_mut.result.now it.there it.chosen c.happen.new.self c.in_ok-emitted.emitted done)

pub returns-clause-turn : goal.returns-clause-turn
returns-clause-turn g c = λ made s w stands.
    (let self = c.args.self.now in
    let x = c.index_mut.result.now in
    let at = c.in-Some.at in
    let place = c.in-Some.place in
    let mid = c.happen.new.self in
    let sent = c.send.new.self.stations.items in
    let it = picked g.P.Program.wants g.P.Program.becomes made s self w stands c.requires.below
    c.args.choice c.enabled-count.result at place x c.enabled-count.ensures (c.in-Some.ensures {u = tt}) c.index_mut.ensures.value in
    let done = picked-done g.P.Program.wants g.P.Program.becomes made s self w c.args.choice at place x mid c.in_ok-emitted.emitted it c.in_ok-emitted.ensures in
    let reached = c.index_mut-2.result.now in
    let listed = c.relist.new.self in
    let many = c.in_ok-send.ensures.others.many ∙ set_many self.stations.items at mid in
    let inside = it.inside in
    let reached-at = slice_get-get_or sent at reached (omega (arith, inside, many)) ∙ ap Some (sym c.index_mut-2.ensures.value) in
    turned g.P.Program.wants g.P.Program.becomes made s self w stands c.args.choice at place x it.there it.chosen mid c.in_ok-emitted.emitted done sent reached listed many
    c.in_ok-send.ensures.sent reached-at c.in_ok-relist.ensures.notices c.in_ok-relist.ensures.enabled c.in_ok-relist.ensures.others
    (record { stations = with_item c.send.new.self.stations at listed; plan = c.send.new.self.plan; spent = false }) c.in_ok-send.ensures.others.plan refl refl)
