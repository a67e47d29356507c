-- A node that stands for what a run of it alone led to.
use Rattle.std.specs.Prelude.{◌≡◌, ℕ, true, Option, List, reverse}
use Rattle.dom_history.specs.declared.op.Reply.{Reply}
use Rattle.dom_history.specs.declared.op.Want.{Want}
use Rattle.dom_history.specs.Objects.{is_node}
use Rattle.node_runs.specs.Setups.{Setup, IsSetup, given}
use Rattle.node_runs.specs.Runs.{World}
use Rattle.node_core.specs.Nodes.{Noted, Stands}
use Rattle.local_runs.specs.LocalRuns.{Own, events_in, IsLocalRun, AreIncomings}
use Rattle.local_runs.specs.NamedRuns.{AreNamedAlone}

module _ {P : Type 0} (wants : P → Want) (becomes : P → Option Reply → P) where
  -- the node stands for the state to which these events alone led, in which room was made as its cache names it, and its journal has them
  pub record IsOwn (made : ℕ → Option P) (s : Setup) (n : ℕ) (own : List Own) (w : World) (x : Noted P) : Type 0 where
    pub setup : IsSetup s
    pub node : is_node s.opening n ≡ true
    pub run : IsLocalRun s n own w
    pub incomings : AreIncomings own
    pub named : AreNamedAlone s n own
    pub stands : Stands wants becomes made (given s n) x (w.nodes n)
    pub log : x.log ≡ record { node = n; events = reverse (events_in own) }
