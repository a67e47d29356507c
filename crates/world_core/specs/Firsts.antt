-- Nodes to which nothing was sent.
use Rattle.std.specs.Prelude.{◌≡◌, ℕ, zero, suc, List, [], ◌∷◌, ◌++◌}
use Rattle.ring_links.specs.Carried.{empty_link}
use Rattle.node_core.specs.Nodes.{Noted}
use Rattle.world_core.specs.declared.station.LinkFrom.{LinkFrom}
use Rattle.world_core.specs.declared.station.Station.{Station}
use Rattle.world_core.specs.Listed.{IsListed}

-- the links from so many nodes, by number, on which nothing was sent
abbrev pub first_links : ℕ → List LinkFrom
first_links zero = []
first_links (suc n) = first_links n ++ record { from = suc n; link = empty_link } ∷ []

-- a node of so many
pub record IsFirst {P G : Type 0} (nodes : ℕ) (made : Noted P) (x : Station P G) : Type 0 where
  pub node : x.node ≡ made
  pub notices : x.notices.items ≡ []
  pub ins : x.ins.items ≡ first_links nodes
  pub listed : IsListed x
