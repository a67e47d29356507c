use Rattle.std.proofs.Common.{◌≡◌, ℕ, ◌+◌, true, false, ◌&&◌, drop, List, sym, ap, subst, ◌∙◌, arith}
use Rattle.std.specs.Prelude.{All}
use Rattle.std.proofs.Math.ListN.{drop_of_length-le}
use Rattle.uid_names.specs.Names.{ProcName}
use Rattle.std.specs.List.{list_all}
use Rattle.fault_handler.specs.Invariant.{IsProc}
use Rattle.node_runs.specs.NodeStates.{is_at_end}
use Rattle.node_core.specs.Programs.{numbers_in}
use Rattle.node_core.specs.Machines.{state_of}
use Rattle.node_core.proofs.FirstPrograms.{item-front}
use Rattle.node_core.proofs.Rising.{each-number}
use Rattle.node_core.proofs.machine.Machine.are_at_end.Goals as goal

pub loop-program-init : goal.loop-program-init
loop-program-init g c = record {
  same = c.deref-program-items.ensures.value;
  most = omega arith;
  ends = ap (λ es. list_all (is_at_end (state_of c.args.self.now)) (numbers_in es)) (sym c.deref-program-items.ensures.value);
}

pub proc-requires : goal.proc-requires
proc-requires g c =
    let items = c.deref-program-items.result.now in
    each-number items (subst (λ (es : List (ℕ × g.row.P.Denot)). All IsProc (numbers_in es)) (sym c.deref-program-items.ensures.value) c.requires.each) c.loop-program.program-index c.program-item.result c.loop-program-test.true c.program-item.is

pub returns-then-not-is_at_end : goal.returns-then-not-is_at_end
returns-then-not-is_at_end g c =
    let items = c.deref-program-items.result.now in
    let i = c.loop-program.program-index in
    let x = c.program-item.result in
    let ends = is_at_end (state_of c.args.self.now) in
    let number : c.proc.result.number ≡ x.0 = ap (λ (r : ProcName). r.number) c.proc.ensures in
    let here : ends x.0 ≡ false = sym (ap ends number) ∙ sym c.if-not-is_at_end.ensures in
    sym (c.loop-program.invariant.ends ∙ ap (λ (es : List (ℕ × g.row.P.Denot)). list_all ends (numbers_in es)) (item-front items i x c.loop-program-test.true c.program-item.is) ∙ ap (λ b. b && list_all ends (numbers_in (drop (i + 1) items))) here)

pub loop-program-preserved : goal.loop-program-preserved
loop-program-preserved g c =
    let items = c.deref-program-items.result.now in
    let i = c.loop-program.program-index in
    let x = c.program-item.result in
    let ends = is_at_end (state_of c.args.self.now) in
    let number : c.proc.result.number ≡ x.0 = ap (λ (r : ProcName). r.number) c.proc.ensures in
    let here : ends x.0 ≡ true = sym (ap ends number) ∙ sym c.if-not-is_at_end.ensures in
    record {
      same = c.loop-program.invariant.same;
      most = omega arith;
      ends = c.loop-program.invariant.ends ∙ ap (λ (es : List (ℕ × g.row.P.Denot)). list_all ends (numbers_in es)) (item-front items i x c.loop-program-test.true c.program-item.is) ∙ ap (λ b. b && list_all ends (numbers_in (drop (i + 1) items))) here;
    }

pub returns : goal.returns
returns g c =
    let items = c.deref-program-items.result.now in
    let ends = is_at_end (state_of c.args.self.now) in
    sym (c.loop-program.invariant.ends ∙ ap (λ (es : List (ℕ × g.row.P.Denot)). list_all ends (numbers_in es)) (drop_of_length-le items c.loop-program-test.false))
