-- What the oldest entry of a link brings, where the link is that at a place.
use Rattle.std.proofs.Common.{◌≡◌, ℕ, Option, Some, None, IfSome, List, sym, subst}
use Rattle.std.specs.Prelude.{IsSomeAnd, slice_get}
use Rattle.uid_names.proofs.Somes.{take-some}
use Rattle.node_runs.specs.Incomings.{Incoming}
use Rattle.node_core.specs.declared.setup.Incoming as code
use Rattle.node_core.specs.Receivings.{seen}
use Rattle.ring_links.specs.declared.entry.Entry.{Entry}
use Rattle.world_core.specs.declared.station.LinkFrom.{LinkFrom}
use Rattle.world_core.specs.OldestEntries.{IfOldestAt, IsOldestAt}

module _ (Q : Incoming → Type 0) (at : ℕ) (ins : List LinkFrom) (l : LinkFrom) (there : slice_get ins at ≡ Some l) where
  -- it holds of what the oldest entry brings
  pub oldest-holds : (e : Entry code.Incoming) → slice_get l.link.queue 0 ≡ Some e → IsOldestAt at ins Q → Q (seen e.received)
  oldest-holds e first is =
      subst (λ (o : Option (Entry code.Incoming)). IsSomeAnd o (λ k. Q (seen k.received))) first
      (take-some (λ (k : LinkFrom). IsSomeAnd (slice_get k.link.queue 0) (λ e. Q (seen e.received))) (slice_get ins at) l there is)

  pub oldest-none : slice_get l.link.queue 0 ≡ None → IsOldestAt at ins Q → ⊥
  oldest-none none is =
      subst (λ (o : Option (Entry code.Incoming)). IsSomeAnd o (λ k. Q (seen k.received))) none
      (take-some (λ (k : LinkFrom). IsSomeAnd (slice_get k.link.queue 0) (λ e. Q (seen e.received))) (slice_get ins at) l there is)

  pub oldest-has : (e : Entry code.Incoming) → slice_get l.link.queue 0 ≡ Some e → Q (seen e.received) → IfOldestAt at ins Q
  oldest-has e first holds =
      subst (λ (o : Option LinkFrom). IfSome o (λ k. IfSome (slice_get k.link.queue 0) (λ e. Q (seen e.received)))) (sym there)
      (subst (λ (o : Option (Entry code.Incoming)). IfSome o (λ k. Q (seen k.received))) (sym first) holds)
