-- What is enabled at a node is enabled in what it stands for.
use Rattle.std.proofs.Common.{◌≡◌, ℕ, Bool, true, false, Option, [], ◌∷◌, refl, sym, ap, ◌∙◌}
use Rattle.std.specs.Prelude.{◌==◌, not, ◌&&◌, ◌||◌, is_some}
use Rattle.uid_names.proofs.Somes.{map-there}
use Rattle.dom_history.specs.declared.op.Reply.{Reply}
use Rattle.dom_history.specs.declared.op.Want.{Want}
use Rattle.dom_history.specs.declared.event.What.{What}
use Rattle.node_runs.specs.Setups.{Given}
use Rattle.node_runs.specs.NodeStates.{NodeState}
use Rattle.node_runs.specs.Incomings.{Incoming, has_program, enabled}
use Rattle.node_runs.proofs.AlikeSteps.{enabled-alike}
use Rattle.node_core.specs.Programs.{program_by}
use Rattle.node_core.specs.Processes.{want_at}
use Rattle.node_core.specs.Nodes.{Noted, given_of, state_of, is_enabled, Stands}
use Rattle.node_core.proofs.FirstPrograms.{has-program}

some-by : {P : Type 0} (b c : Bool) (y : P) (others : Option P) → c ≡ is_some others → (b || c) ≡ is_some (program_by b y others)
some-by true c y others same = refl
some-by false c y others same = same

module _ {P : Type 0} (wants : P → Want) (becomes : P → Option Reply → P) (made : ℕ → Option P) (g : Given) (x : Noted P) (n : NodeState) (stands : Stands wants becomes made g x n) where
  -- the same but for what the programs want
  abbrev asking : Given
  asking = record g { asks = λ p heard. want_at x.inner.procs p }

  same-programs : (p : ℕ) → has_program (given_of x) p ≡ has_program g p
  same-programs p =
      has-program x.inner.programs p
      ∙ ap is_some (stands.told p)
      ∙ map-there _ (made p)
      ∙ sym (stands.programs p)

  pub enabled-stands : (what : What) (incoming : Incoming) → is_enabled x what incoming ≡ enabled g n what incoming
  enabled-stands what incoming =
      ap (λ (b : Bool). not b && enabled (given_of x) (state_of x) what incoming) stands.whole
      ∙ enabled-alike (given_of x) asking (state_of x) n what incoming (record {
        number = sym stands.number;
        nodes = sym stands.nodes;
        greatest = sym stands.greatest;
        wire = sym stands.wire;
        phases = sym stands.phases;
        programs = same-programs;
        asks = λ p has. refl;
      }) stands.alike
