use Rattle.std.proofs.Common.{◌≡◌, ◌+◌, ◌-◌, Option, true, ap, sym, subst, ◌∙◌, arith}
use Rattle.std.specs.Prelude.{◌&&◌, IfSome, max}
use Rattle.fault_handler.specs.Desks.{IsNode}
use Rattle.node_core.specs.Nodes.{Noted, is_enabled, state_of}
use Rattle.node_core.specs.Receivings.{seen}
use Rattle.node_runs.specs.Setups.{given}
use Rattle.journal_check.proofs.LinkPlaces.{read-at}
use Rattle.journal_check.proofs.Coming.{may-is, own-node}
use Rattle.journal_check.proofs.Happened.{node-low}
use Rattle.journal_check.proofs.pass.Pass.may.Goals as goal

pub overflow_add-tick : goal.overflow_add-tick
overflow_add-tick g c =
    let r = c.requires.stands in
    let s = r.1 in
    let w = r.2 in
    let stands = r.3 in
    let n = c.args.node in
    let node = subst (λ k. IsNode k n) stands.nodes.count c.requires.node in
    let own = own-node g.P.Program.wants g.P.Program.becomes r.0 s c.args.self.now w stands n c.place_of-at.result c.index-own.result.now node c.place_of-at.ensures.value c.index-own.ensures in
    let low = node-low s stands.setup w stands.leads r.4 n node in
    let same = own.alike.tick in
    let here = c.tick.ensures in
    let there = c.tick-2.ensures in
    let most = c.max-tick.ensures in
    let came = c.requires.tick in
    omega (arith, low, same, here, there, most, came)

pub returns-then-may-clause-follows : goal.returns-then-may-clause-follows
returns-then-may-clause-follows g c = λ made s w stands.
    let n = c.args.node in
    let node = subst (λ k. IsNode k n) stands.nodes.count c.requires.node in
    let x = c.index-own.result.now in
    let own = own-node g.P.Program.wants g.P.Program.becomes made s c.args.self.now w stands n c.place_of-at.result x node c.place_of-at.ensures.value c.index-own.ensures in
    let may = c.enabled-may.ensures.stands (made n) (given s n) (w.nodes n) own in
    let above = c.is_above-above.ensures w.done stands.last in
    let tick = ap (λ k. k + 1) (c.max-tick.ensures ∙ (ap (λ k. max k c.tick-2.result) c.tick.ensures ∙ ap (max (state_of x).tick) c.tick-2.ensures)) in
    ap (λ b. b && c.is_above-above.result) (sym c.if-may.true)
    ∙ may-is g.P.Program.wants g.P.Program.becomes made s c.args.self.now w stands n x own c.args.what.now (seen c.args.received.now) _ c.enabled-may.result c.is_above-above.result tick may above

pub returns-else-may-clause-follows : goal.returns-else-may-clause-follows
returns-else-may-clause-follows g c = λ made s w stands.
    let n = c.args.node in
    let node = subst (λ k. IsNode k n) stands.nodes.count c.requires.node in
    let x = c.index-own.result.now in
    let own = own-node g.P.Program.wants g.P.Program.becomes made s c.args.self.now w stands n c.place_of-at.result x node c.place_of-at.ensures.value c.index-own.ensures in
    let may = c.enabled-may.ensures.stands (made n) (given s n) (w.nodes n) own in
    let above = c.is_above-above.ensures w.done stands.last in
    let tick = ap (λ k. k + 1) (c.max-tick.ensures ∙ (ap (λ k. max k c.tick-2.result) c.tick.ensures ∙ ap (max (state_of x).tick) c.tick-2.ensures)) in
    c.if-may.false
    ∙ ap (λ b. b && c.is_above-above.result) (sym c.if-may.false)
    ∙ may-is g.P.Program.wants g.P.Program.becomes made s c.args.self.now w stands n x own c.args.what.now (seen c.args.received.now) _ c.enabled-may.result c.is_above-above.result tick may above

pub returns-then-may-clause-enabled : goal.returns-then-may-clause-enabled
returns-then-may-clause-enabled g c = λ sure.
    let nodes = c.args.self.now.nodes.items in
    let n = c.args.node in
    let low = c.requires.node.0 in
    let high = c.requires.node.1 in
    let at = c.place_of-at.ensures.value in
    let there = read-at nodes c.place_of-at.result (n - 1) c.index-own.result.now (omega (arith, low, high, at)) c.index-own.ensures at in
    subst (λ (o : Option (Noted g.row.P.Denot)). IfSome o (λ x. is_enabled x c.args.what.now (seen c.args.received.now) ≡ true)) (sym there) (sym c.enabled-may.ensures.value ∙ c.if-may.true)
