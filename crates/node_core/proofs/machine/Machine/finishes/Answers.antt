use Rattle.std.proofs.Common.{◌+◌, ◌-◌, ◌<◌, None, length, get_or, sym, subst, refl, ap, ◌∙◌}
use Rattle.dom_history.specs.declared.op.Want.TheVariants.{Phase}
use Rattle.node_runs.specs.NodeStates.{ProcState}
use Rattle.node_runs.specs.Doings.{finishes}
use Rattle.node_core.specs.Machines.{given_of, state_of}
use Rattle.node_core.proofs.Seen.{put-seen, wants-kept}
use Rattle.node_core.proofs.Leading.{led-still, led-some}
use Rattle.node_core.proofs.machine.Machine.finishes.Goals as goal

pub returns : goal.returns
returns g c =
    let m = c.args.self.now in
    let p = c.args.proc.number in
    let i = c.index_of.result in
    let d = c.index-self-index_of.result in
    let inside : i < length m.procs = subst (λ n. i < n) (sym c.requires.before.within.four) c.index_of.ensures.bound in
    let put = put-seen m.procs i p d (record (get_or m.procs i d) { phase = m.phases + 1 }) (λ (r : ProcState). record r { phase = m.phases + 1 }) c.index_of.ensures.value inside refl in
    let kept = wants-kept m.procs i d (record (get_or m.procs i d) { phase = m.phases + 1 }) refl in
    led-some g.P.Program.spent g.P.Program.wants g.P.Program.becomes m _ c.quiet.new.done (finishes (given_of m) (state_of m) p)
    (led-still g.P.Program.spent g.P.Program.wants g.P.Program.becomes m _ c.quiet.new.done (finishes (given_of m) (state_of m) p) c.requires.before.within refl (λ r. ap (λ ws. get_or ws (r - 1) Phase) kept)
    (ap (λ ps. record (state_of m) { procs = ps }) (sym put)) (ap (λ d. d.frame) c.quiet.ensures) (ap (λ d. d.effects) c.quiet.ensures ∙ ap (λ ds. record { dropped = ds; sent = None; ended = None }) c.new.ensures)
    refl refl refl c.requires.before.within.earlier)
