use Rattle.std.proofs.Common.{Option, IfSome, ℕ, ◌<◌, subst}
use Rattle.std.specs.Prelude.{◌^◌}
use Rattle.dom_history.specs.declared.event.What.{What}
use Rattle.node_runs.specs.Incomings.{tick_of}
use Rattle.node_core.specs.declared.setup.Incoming as code
use Rattle.node_core.specs.Receivings.{seen}
use Rattle.node_posts.specs.Reading.{IsEventFor}
use Rattle.node_posts.proofs.Keeping.{come-may, come-either}
use Rattle.node_posts.proofs.post.Post.come.Goals as goal

pub event-requires-clause-may : goal.event-requires-clause-may
event-requires-clause-may g c =
    let from = c.args.from in
    let x = c.args.carried.now in
    let read = subst (λ (o : Option (What × code.Incoming)). IfSome o (λ e. IsEventFor from c.number.result x e.0 (seen e.1))) c.in-Some.is c.in-Ok.ensures.event in
    let event = subst (λ (k : ℕ). IsEventFor from k x c.in-Some.what (seen c.in-Some.incoming)) c.number.ensures read in
    come-may g.P.Program.wants g.P.Program.becomes c.args.last_tick c.args.self.now from x c.in-Some.what (seen c.in-Some.incoming) event c.requires.may

pub returns-in-Some : goal.returns-in-Some
returns-in-Some g c =
    let from = c.args.from in
    let x = c.args.carried.now in
    let read = subst (λ (o : Option (What × code.Incoming)). IfSome o (λ e. IsEventFor from c.number.result x e.0 (seen e.1))) c.in-Some.is c.in-Ok.ensures.event in
    let event = subst (λ (k : ℕ). IsEventFor from k x c.in-Some.what (seen c.in-Some.incoming)) c.number.ensures read in
    let early = subst (λ (o : Option (What × code.Incoming)). IfSome o (λ e. tick_of (seen e.1) < 2 ^ 40)) c.in-Some.is c.in-Ok.ensures.early in
    come-either g.P.Program.wants g.P.Program.becomes c.args.last_tick c.args.self.now c.event.new.self from x c.in-Some.what (seen c.in-Some.incoming) c.event.result event early
    c.event.ensures.done c.event.ensures.refused c.event.ensures.nothing
