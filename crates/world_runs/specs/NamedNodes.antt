-- The nodes that an event names.
use Rattle.std.specs.Prelude.{ℕ, IfSome}
use Rattle.dom_history.specs.declared.event.What.{What}
use Rattle.dom_history.specs.declared.event.What.TheVariants.{Begin, Go, Take, Notice, Ready, Mark}
use Rattle.dom_history.specs.Events.{Happening}
use Rattle.fault_handler.specs.Desks.{IsNode}

-- what happens names these nodes alone
abbrev pub NamesNodesIn : ℕ → What → Type 0
NamesNodesIn nodes (Begin p) = Unit {0}
NamesNodesIn nodes (Go p) = Unit {0}
NamesNodesIn nodes (Take from index) = IsNode nodes from
NamesNodesIn nodes (Notice p from to index) = IsNode nodes from × IsNode nodes to
NamesNodesIn nodes (Ready phase) = Unit {0}
NamesNodesIn nodes (Mark from phase) = IsNode nodes from

-- an event names no node but one of so many
pub record NamesNodes (nodes : ℕ) (e : Happening) : Type 0 where
  pub place : IsNode nodes e.place.node
  pub what : NamesNodesIn nodes e.what
  pub sent : IfSome e.effects.sent (λ sent. IsNode nodes sent.to)
