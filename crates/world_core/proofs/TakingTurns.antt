-- A turn of a world.
use Rattle.std.proofs.Common.{◌≡◌, ◌≢◌, ℕ, Bool, true, false, Option, List, [], ◌∷◌, ◌++◌, refl, sym, ap, ◌∙◌}
use Rattle.std.specs.Prelude.{sum, reverse, ◌==◌}
use Rattle.std.proofs.lemmas.List.{reverse-append}
use Rattle.uid_names.proofs.Passed.{equal}
use Rattle.dom_history.specs.Events.{Happening}
use Rattle.world_runs.specs.ByPlace.{events_of}
use Rattle.dom_history.specs.declared.op.Reply.{Reply}
use Rattle.dom_history.specs.declared.op.Want.{Want}
use Rattle.node_runs.specs.Setups.{Setup}
use Rattle.node_runs.specs.Runs as runs
use Rattle.world_runs.specs.Turns.{enabled_events}
use Rattle.world_runs.proofs.Sorting.{own-first}
use Rattle.world_core.specs.declared.world.World.{World}
use Rattle.world_core.specs.Stands.{Stands}
use Rattle.world_core.specs.Places.{enabled_counts}
use Rattle.world_core.proofs.Choosing.{all-places}
use Rattle.ended_nodes.proofs.Elements.{no_items}

-- where no event is listed, none is enabled
pub none-enabled : {P G : Type 0} (wants : P → Want) (becomes : P → Option Reply → P) (made : ℕ → ℕ → Option P) (s : Setup) (x : World P G) (w : runs.World)
    → Stands wants becomes made s x w → sum (enabled_counts x.stations.items) ≡ 0 → (enabled_events s x.plan w ≡ []) × Stands wants becomes made s x w
none-enabled wants becomes made s x w stands none =
    (no_items (enabled_events s x.plan w) (sym (all-places wants becomes made s x w stands.setup.start.nodes_high stands) ∙ none), stands)

node-other : (n m : ℕ) → n ≢ m → (n == m) ≡ false
node-other n m differs = by-value (n == m) refl
  where
    by-value : (b : Bool) → (n == m) ≡ b → (n == m) ≡ false
    by-value false is = is
    by-value true is = absurd (differs (equal n m is))

-- the journal of the node that did one more event
pub own-log : (n : ℕ) (e : Happening) (es : List Happening) → e.place.node ≡ n → reverse (events_of n es) ++ e ∷ [] ≡ reverse (events_of n (e ∷ es))
own-log n e es is = sym (ap reverse (own-first n e es is) ∙ reverse-append (e ∷ []) (events_of n es))
