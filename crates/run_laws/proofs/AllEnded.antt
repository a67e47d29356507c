-- Where all nodes have ended, no event is enabled.
use Rattle.std.proofs.Common.{◌≡◌, ℕ, true, false, List, [], ◌∷◌, ◌++◌, map, Option, Some, None, inl, inr, refl, ap, ◌∙◌}
use Rattle.std.specs.Prelude.{not, ◌&&◌, filter, flat_map}
use Rattle.dom_history.specs.declared.event.What.{What}
use Rattle.dom_history.specs.declared.plan.FateRow.{FateRow}
use Rattle.dom_history.specs.Objects.{is_node}
use Rattle.node_runs.specs.Setups.{Setup, Given, given}
use Rattle.node_runs.specs.NodeStates.{NodeState, is_ended}
use Rattle.node_runs.specs.Incomings.{Incoming, may_happen}
use Rattle.node_runs.specs.Doings.{node_numbers}
use Rattle.node_runs.specs.Runs.{World, HasEnded, incoming_of}
use Rattle.world_runs.specs.Turns.{Act, coming_to, is_enabled_by, is_enabled, enabled_at, enabled_events}
use Rattle.world_runs.proofs.Among.{Among, among-filter}
use Rattle.run_laws.proofs.Stuck.{filter-none}

ended-not : (g : Given) (n : NodeState) (what : What) (o : Option Incoming) → is_ended g n ≡ true → is_enabled_by g n what o ≡ false
ended-not g n what None is = refl
ended-not g n what (Some incoming) is = ap (λ b. not b && may_happen g n what incoming) is

flat-none : {A B : Type 0} (f : A → List B) (xs : List A) → ((x : A) → Among x xs → f x ≡ []) → flat_map f xs ≡ []
flat-none f [] each = refl
flat-none f (x ∷ xs) each = ap (λ ys. ys ++ flat_map f xs) (each x (inl refl)) ∙ flat-none f xs (λ y is. each y (inr is))

pub none-enabled : (s : Setup) (plan : List FateRow) (w : World) → HasEnded s w → enabled_events s plan w ≡ []
none-enabled s plan w ended = flat-none (enabled_at s plan w) (filter (is_node s.opening) node_numbers) at
  where
    at : (n : ℕ) → Among n (filter (is_node s.opening) node_numbers) → enabled_at s plan w n ≡ []
    at n is =
        let over = ended n (among-filter (is_node s.opening) n node_numbers is).1 in
        ap (map (λ (what : What). let a : Act = record { node = n; what = what } in a))
        (filter-none (is_enabled s w n) (coming_to plan w n) (λ what among. ended-not (given s n) (w.nodes n) what (incoming_of w n what) over))
