use Rattle.std.proofs.Common.{◌-◌, ◌<◌, Some, length, get_or, refl, sym, ap, subst}
use Rattle.dom_history.specs.declared.op.Want.TheVariants.{Do, Phase}
use Rattle.node_runs.specs.NodeStates.{Await}
use Rattle.node_core.specs.Machines.{state_of}
use Rattle.node_core.proofs.Seen.{put-seen, wants-kept, want-here}
use Rattle.node_core.proofs.Leading.{led-still}
use Rattle.node_core.proofs.machine.Machine.waits.Goals as goal

pub returns : goal.returns
returns g c given op stage number wire wanted =
    let m = c.args.self.now in
    let p = c.args.proc.number in
    let i = c.index_of.result in
    let d = c.index-self-index_of.result in
    let inside : i < length m.procs = subst (λ n. i < n) (sym c.requires.at.four) c.index_of.ensures.bound in
    let own = want-here m.procs i p d (Do op) c.index_of.ensures.value inside wanted in
    let seen = c.wait.ensures.state op own in
    let put = put-seen m.procs i p d c.wait.new.self (λ r. record r { doing = Some (record { began = record { op = op; begun = c.args.begun }; awaits = Await.Page c.args.uid c.args.page }) }) c.index_of.ensures.value inside seen in
    let kept = wants-kept m.procs i d c.wait.new.self c.wait.ensures.want in
    led-still g.P.Program.spent g.P.Program.wants g.P.Program.becomes m _ c.quiet.new.done _ c.requires.at refl (λ r. ap (λ ws. get_or ws (r - 1) Phase) kept)
    (ap (λ ps. record (state_of m) { procs = ps }) (sym put)) (ap (λ d. d.frame) c.quiet.ensures) (ap (λ d. d.effects) c.quiet.ensures) refl refl refl c.requires.at.earlier
