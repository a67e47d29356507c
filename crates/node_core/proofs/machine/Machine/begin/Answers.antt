use Rattle.std.proofs.Common.{◌≡◌, ◌<◌, length, sym, subst, refl, ◌∙◌}
use Rattle.std.specs.Option.{ForSome}
use Rattle.std.proofs.lemmas.Result.{IfOk-weaker}
use Rattle.uid_names.specs.declared.ids.Place.{Place}
use Rattle.uid_names.proofs.Passed.{left-true}
use Rattle.dom_history.specs.declared.op.Want.{Want}
use Rattle.dom_history.specs.declared.op.Want.TheVariants.{Do, Phase, Done}
use Rattle.dom_history.specs.Ranges.{IsWant}
use Rattle.node_runs.specs.Incomings.{has_program}
use Rattle.node_runs.specs.Doings.{begins}
use Rattle.node_runs.specs.Operations.{begun}
use Rattle.node_runs.specs.Outcomes.{Stage}
use Rattle.node_runs.specs.Steps.{stepped_as_named}
use Rattle.node_runs.proofs.Forgetting.{idle-when_nothing_is_open}
use Rattle.node_core.specs.Processes.{IsWanted, want_at}
use Rattle.node_core.specs.Machines.{given_of, state_of}
use Rattle.node_core.specs.Outcomes.{Led, Moves}
use Rattle.node_core.proofs.Seen.{want-is}
use Rattle.node_core.proofs.Turning.{does-moves}
use Rattle.node_core.proofs.Enabling.{nothing-open, program-there}
use Rattle.node_core.proofs.machine.Machine.begin.Goals as goal

pub begins-requires-clause-program : goal.begins-requires-clause-program
begins-requires-clause-program g c =
    program-there c.args.self.now.programs.items (given_of c.args.self.now) c.args.proc.number refl (left-true (has_program (given_of c.args.self.now) c.args.proc.number) _ c.requires.enabled)

pub begins-requires-clause-wanted : goal.begins-requires-clause-wanted
begins-requires-clause-wanted g c =
    let m = c.args.self.now in
    let p = c.args.proc.number in
    let i = c.index_of.result in
    let d = c.index-self-index_of.result in
    let inside : i < length m.procs = subst (λ n. i < n) (sym c.requires.before.within.four) c.index_of.ensures.bound in
    let own : want_at m.procs p ≡ Do c.in-Do.field-0 = want-is m.procs i p d c.index_of.ensures.value inside ∙ c.in-Do.is in
    subst IsWanted (sym own) (subst IsWant own (c.requires.before.within.wanted p))

pub begins-requires-clause-idle : goal.begins-requires-clause-idle
begins-requires-clause-idle g c =
    let m = c.args.self.now in
    let p = c.args.proc.number in
    idle-when_nothing_is_open (given_of m) (state_of m) c.requires.before.node p c.index_of.ensures.process (nothing-open (given_of m) (state_of m) p c.requires.enabled)

pub begins-requires-clause-low : goal.begins-requires-clause-low
begins-requires-clause-low g c = c.requires.before.node.within.desk

pub begins-requires-clause-rooms : goal.begins-requires-clause-rooms
begins-requires-clause-rooms g c = c.requires.before.given.wire.rooms

pub returns-in-Do : goal.returns-in-Do
returns-in-Do g c =
    let m = c.args.self.now in
    let p = c.args.proc.number in
    let i = c.index_of.result in
    let d = c.index-self-index_of.result in
    let inside : i < length m.procs = subst (λ n. i < n) (sym c.requires.before.within.four) c.index_of.ensures.bound in
    let op = c.in-Do.field-0 in
    let own : want_at m.procs p ≡ Do op = want-is m.procs i p d c.index_of.ensures.value inside ∙ c.in-Do.is in
    IfOk-weaker c.begins.result _ _
    (λ ok moves.
    subst (λ (w : Want). ForSome (stepped_as_named (given_of m) (state_of m) (begins (given_of m) (state_of m) p w)) (λ s. Led g.P.Program.spent g.P.Program.wants g.P.Program.becomes m c.begins.new.self c.begins.new.done s)) (sym own)
    (does-moves g.P.Program.spent g.P.Program.wants g.P.Program.becomes m c.begins.new.self c.begins.new.done p (record { tick = m.tick; node = m.desk.node }) op Stage.Starts (begun (given_of m).opening m.desk p op) own
    (subst (λ (x : Place). Moves g.P.Program.spent g.P.Program.wants g.P.Program.becomes m c.begins.new.self c.begins.new.done p x (begun (given_of m).opening m.desk p op)) c.place.ensures (moves op own))))
    c.begins.ensures

pub returns-in-Phase : goal.returns-in-Phase
returns-in-Phase g c =
    let m = c.args.self.now in
    let p = c.args.proc.number in
    let i = c.index_of.result in
    let d = c.index-self-index_of.result in
    let inside : i < length m.procs = subst (λ n. i < n) (sym c.requires.before.within.four) c.index_of.ensures.bound in
    let own : want_at m.procs p ≡ Phase = want-is m.procs i p d c.index_of.ensures.value inside ∙ c.in-Phase.is in
    IfOk-weaker c.pauses.result _ _
    (λ ok does. subst (λ (w : Want). ForSome (stepped_as_named (given_of m) (state_of m) (begins (given_of m) (state_of m) p w)) (λ s. Led g.P.Program.spent g.P.Program.wants g.P.Program.becomes m c.pauses.new.self c.pauses.new.done s)) (sym own) does)
    c.pauses.ensures

pub returns-in-Done : goal.returns-in-Done
returns-in-Done g c =
    let m = c.args.self.now in
    let p = c.args.proc.number in
    let i = c.index_of.result in
    let d = c.index-self-index_of.result in
    let inside : i < length m.procs = subst (λ n. i < n) (sym c.requires.before.within.four) c.index_of.ensures.bound in
    let own : want_at m.procs p ≡ Done = want-is m.procs i p d c.index_of.ensures.value inside ∙ c.in-Done.is in
    subst (λ (w : Want). ForSome (stepped_as_named (given_of m) (state_of m) (begins (given_of m) (state_of m) p w)) (λ s. Led g.P.Program.spent g.P.Program.wants g.P.Program.becomes m c.finishes.new.self c.finishes.new.done s)) (sym own) c.finishes.ensures
