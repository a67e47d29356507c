use Rattle.std.proofs.Common.{◌≡◌, ℕ, ◌≤◌, ◌<◌, length, get_or, map, ◌∷◌, Option, Some, None, refl, sym, ap, subst, ◌∙◌}
use Rattle.uid_names.specs.Names.{IsProcNumber}
use Rattle.dom_history.specs.declared.end_word.EndWord.{EndWord}
use Rattle.dom_history.specs.declared.event.Effects.{Effects}
use Rattle.dom_history.specs.declared.event.Sent.{Sent}
use Rattle.node_runs.specs.NodeStates.{ProcState, first_proc, proc_of}
use Rattle.node_core.specs.declared.machine.Machine.{Machine}
use Rattle.node_core.specs.declared.turns.Done.{Done}
use Rattle.node_core.specs.Processes.{proc_seen}
use Rattle.node_core.specs.Machines.{state_of}
use Rattle.node_core.proofs.Seen.{seen-silent, seen-at}
use Rattle.node_core.proofs.Leading.{led-told}
use Rattle.node_core.proofs.machine.Machine.ends.Goals as goal

pub returns : goal.returns
returns g c begun given op stage number wire wanted =
    let m = c.args.self.now in
    let p = c.args.proc.number in
    let told = c.in_ok-tell.ensures in
    let proc : IsProcNumber p = subst IsProcNumber c.number.ensures.value (c.number.ensures.least, c.number.ensures.greatest) in
    let q = proc_of (state_of m) p in
    let i = c.index_of.result in
    let d = c.index-self-index_of.result in
    let inside : i < length m.procs = subst (λ n. i < n) (sym c.requires.at.four) c.index_of.ensures.bound in
    let here : q ≡ proc_seen (get_or m.procs i d) = ap (λ k. get_or (map proc_seen m.procs) k first_proc) (sym c.index_of.ensures.value) ∙ seen-at m.procs i d inside in
    let phase = (get_or m.procs i d).phase in
    let effects : (n : ℕ) (word : EndWord) → Effects = λ n word. record { dropped = c.args.dropped; sent = None; ended = Some (n, word) } in
    let sending : (s : Option Sent) → Effects = λ s. record { dropped = c.args.dropped; sent = s; ended = Some (c.number.result, c.of-word.result) } in
    led-told g.P.Program.spent g.P.Program.wants g.P.Program.becomes m c.tell.new.self _ _ p (Some c.args.reply)
    (record q { doing = None; phase = phase }) (record q { doing = None; heard = Some c.args.reply ∷ q.heard })
    c.requires.at proc told.state refl (record { doing = refl; last = refl; phase = sym (ap (λ (r : ProcState). r.phase) here) })
    (ap (λ hs. Some c.args.reply ∷ hs) (seen-silent m.procs p))
    told.program told.others told.told told.wanted told.numbers (ap (λ (x : Done). x.frame) c.requires.fresh)
    (ap (λ (x : Done). sending x.effects.sent) c.requires.fresh ∙ ap (λ n. effects n c.of-word.result) c.number.ensures.value ∙ ap (effects p) c.of-word.ensures)
    (ap (λ (x : Machine g.row.P.Denot g.row.G.Denot). x.greatest) told.same) (ap (λ (x : Machine g.row.P.Denot g.row.G.Denot). x.phases) told.same) (ap (λ (x : Machine g.row.P.Denot g.row.G.Denot). x.server.wire) told.same)
    (subst (λ (x : Machine g.row.P.Denot g.row.G.Denot). x.server.tick ≤ x.tick) (sym told.same) c.requires.at.earlier)
