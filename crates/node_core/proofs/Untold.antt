-- A machine that an event led to, where no program was told anything.
use Rattle.std.proofs.Common.{◌≡◌, ℕ, ◌≤◌, Bool, [], Option, sym, ap, subst, ◌∙◌}
use Rattle.dom_history.specs.declared.op.Reply.{Reply}
use Rattle.dom_history.specs.declared.op.Want.{Want}
use Rattle.dom_history.specs.Ranges.{IsWant}
use Rattle.node_runs.specs.NodeStates.{proc_of}
use Rattle.node_runs.specs.Outcomes.{Stepped}
use Rattle.node_runs.specs.Alikes.{AreAlike}
use Rattle.node_core.specs.declared.machine.Machine.{Machine}
use Rattle.node_core.specs.declared.turns.Done.{Done}
use Rattle.node_core.specs.Processes.{want_at}
use Rattle.node_core.specs.Programs.{program_in, numbers_in}
use Rattle.node_core.specs.Nodes.{AreTold}
use Rattle.node_core.specs.Machines.{state_of, IsAtEvent}
use Rattle.node_core.specs.Outcomes.{Led}
use Rattle.node_core.specs.Receivings.{frame_of}
use Rattle.node_core.proofs.Leading.{told-nothing}

module _ {P G : Type 0} (spent : P → Bool) (wants : P → Want) (becomes : P → Option Reply → P) where
  -- it has the programs and processes of the old one, and no process of the definition hears anything
  pub led-untold : (old new : Machine P G) (done : Done) (s : Stepped) → IsAtEvent spent wants old
      → new.programs ≡ old.programs → new.procs ≡ old.procs → new.greatest ≡ old.greatest → new.phases ≡ old.phases → new.server.wire ≡ old.server.wire → new.server.tick ≤ new.tick
      → AreAlike (state_of new) s.node → ((p : ℕ) → (proc_of s.node p).heard ≡ []) → done.frame ≡ frame_of s → done.effects ≡ s.effects
      → Led spent wants becomes old new done s
  led-untold old new done s within programs procs greatest phases wire served alike heard frame effects = record {
    alike = alike;
    programs = λ p proc. ap (λ x. program_in x.items p) programs ∙ told-nothing becomes (program_in old.programs.items p) (proc_of s.node p).heard (heard p);
    told = subst (λ x. AreTold spent wants x.items new.procs) (sym programs) (subst (AreTold spent wants old.programs.items) (sym procs) within.told);
    wanted = λ p. subst (λ x. IsWant (want_at x p)) (sym procs) (within.wanted p);
    frame = frame;
    effects = effects;
    numbers = ap (λ x. numbers_in x.items) programs;
    same_greatest = greatest;
    same_phases = phases;
    same_wire = wire;
    served = served;
  }
