use Rattle.std.proofs.Common.{◌≡◌, ◌+◌, ◌<◌, Some, length, get_or, set, map, sym, ap, subst, ◌∙◌}
use Rattle.dom_history.specs.declared.op.Want.TheVariants.{Do}
use Rattle.ring_messages.specs.Bodies.{body_of_ask}
use Rattle.node_runs.specs.NodeStates.{ProcState, first_proc, proc_of, with_proc}
use Rattle.node_runs.specs.Outcomes.{next_call, request}
use Rattle.node_core.specs.Processes.{proc_seen, with_call}
use Rattle.node_core.specs.Machines.{state_of}
use Rattle.node_core.proofs.Seen.{put-seen, wants-kept, want-here, seen-at}
use Rattle.node_core.proofs.Leading.{led-sent, same-frame}
use Rattle.node_core.proofs.machine.Machine.asks.Goals as goal

pub returns : goal.returns
returns g c given op stage number wire wanted =
    let m = c.args.self.now in
    let p = c.args.proc.number in
    let i = c.index_of.result in
    let d = c.index-self-index_of.result in
    let ask = c.args.request in
    let inside : i < length m.procs = subst (λ n. i < n) (sym c.requires.at.four) c.index_of.ensures.bound in
    let own = want-here m.procs i p d (Do op) c.index_of.ensures.value inside wanted in
    let called = λ (r : ProcState). with_call r op c.args.begun c.args.home ask in
    let put = put-seen m.procs i p d c.call.new.self called c.index_of.ensures.value inside (c.in_ok-number.ensures.state op own) in
    let kept = wants-kept m.procs i d c.call.new.self c.call.ensures.want in
    let here : proc_of (state_of m) p ≡ proc_seen (get_or m.procs i d) = ap (λ k. get_or (map proc_seen m.procs) k first_proc) (sym c.index_of.ensures.value) ∙ seen-at m.procs i d inside in
    let call = next_call (proc_of (state_of m) p) c.args.home ask in
    let frame : c.new-frame.result ≡ request given (state_of m) p call =
    c.new-frame.ensures
    ∙ same-frame c.wire-version.result given.wire c.node-from.result given.number c.args.home c.number.result p c.in_ok-number.number call.waiting.number m.tick c.into_body-body.result (body_of_ask ask) (c.wire-version.ensures.value ∙ sym wire) (c.node-from.ensures ∙ sym number) c.number.ensures.value
    (c.in_ok-number.ensures.number ∙ ap (λ (r : ProcState). r.last + 1) (sym here)) c.into_body-body.ensures in
    led-sent g.P.Program.spent g.P.Program.wants g.P.Program.becomes m c.sends.new.self (set m.procs i c.call.new.self) c.sends.new.done c.new-frame.result (request given (state_of m) p call)
    (with_proc (state_of m) p (called (proc_of (state_of m) p)))
    c.args.dropped (Some (p, call)) _ c.requires.at kept (ap (λ ps. record (state_of m) { procs = ps }) put) frame c.sends.ensures
