-- The logs of a world's nodes are their events of what was done, and merged they are these by place.
use Rattle.std.proofs.Common.{◌≡◌, ◌≢◌, ℕ, suc, ◌+◌, ◌-◌, ◌<◌, ◌≤◌, true, Option, Some, List, [], ◌∷◌, map, length, get_or, reverse, inl, inr, refl, sym, ap, subst, ◌∙◌, arith}
use Rattle.std.specs.Prelude.{◌^◌, slice_get, All}
use Rattle.std.proofs.lemmas.Bool.{cases_eq, cases_lt}
use Rattle.std.proofs.lemmas.List.{reverse-reverse}
use Rattle.std.proofs.lemmas.List.Elements.{All-nil, All-cons, All-head, All-tail}
use Rattle.std.proofs.lemmas.Option.{slice_get-get_or, slice_get_within}
use Rattle.uid_names.specs.declared.ids.Place.{Place}
use Rattle.uid_names.proofs.ListLemmas.{get-within}
use Rattle.dom_history.specs.declared.op.Reply.{Reply}
use Rattle.dom_history.specs.declared.op.Want.{Want}
use Rattle.dom_history.specs.declared.event.NodeLog.{NodeLog}
use Rattle.dom_history.specs.Events.{Happening}
use Rattle.dom_history.specs.Histories.{place_lt}
use Rattle.dom_history.proofs.Places.{place_lt-trans}
use Rattle.fault_handler.specs.Desks.{IsNode}
use Rattle.node_runs.specs.Setups.{Setup}
use Rattle.node_runs.specs.Runs.{is_above, AreRising, choice_of}
use Rattle.node_runs.specs.Runs as runs
use Rattle.node_runs.proofs.Worlds.{places-rise}
use Rattle.world_runs.specs.ByPlace.{by_place, events_of}
use Rattle.world_runs.specs.Draws.{EndsIn}
use Rattle.world_runs.specs.NamedNodes.{NamesNodes}
use Rattle.world_runs.proofs.Merging.{turns-merge}
use Rattle.world_runs.proofs.Sorting.{sorted-one, own-first, other-first}
use Rattle.world_runs.proofs.NamedNodes.{picked-names}
use Rattle.world_runs.proofs.TurnedLists.{own-reverse}
use Rattle.ring_links.specs.Merged.{IsLog, AreLogs, AreMerged}
use Rattle.world_core.specs.declared.station.Station.{Station}
use Rattle.world_core.specs.declared.world.World.{World}
use Rattle.world_core.specs.Stands.{Stands}
use Rattle.ended_nodes.proofs.Elements.{map_at, all_at, at_all}

above-rest : (p : Place) (e : Happening) (es : List Happening) → place_lt e.place p ≡ true → is_above e.place es ≡ true → is_above p es ≡ true
above-rest p e [] h i = refl
above-rest p e (x ∷ es) h i = place_lt-trans x.place e.place p i h

above-own : (n : ℕ) (p : Place) (es : List Happening) → is_above p es ≡ true → AreRising es → is_above p (events_of n es) ≡ true
above-own n p [] above rising = refl
above-own n p (e ∷ es) above rising = elim (cases_eq e.place.node n) [
  | inl same ↦ ap (is_above p) (own-first n e es same) ∙ above
  | inr differs ↦ ap (is_above p) (other-first n e es differs) ∙ above-own n p es (above-rest p e es above rising.0) rising.1
]

rising-own : (n : ℕ) (es : List Happening) → AreRising es → AreRising (events_of n es)
rising-own n [] rising = tt
rising-own n (e ∷ es) rising = elim (cases_eq e.place.node n) [
  | inl same ↦ subst (λ (xs : List Happening). AreRising xs) (sym (own-first n e es same)) (above-own n e.place es rising.0 rising.1, rising-own n es rising.1)
  | inr differs ↦ subst (λ (xs : List Happening). AreRising xs) (sym (other-first n e es differs)) (rising-own n es rising.1)
]

own-all : (n : ℕ) (es : List Happening) → All (λ e. e.place.node ≡ n) (events_of n es)
own-all n [] = All-nil (λ (e : Happening). e.place.node ≡ n)
own-all n (x ∷ es) = elim (cases_eq x.place.node n) [
  | inl same ↦
      subst (λ (xs : List Happening). All (λ e. e.place.node ≡ n) xs) (sym (own-first n x es same)) (All-cons (λ (e : Happening). e.place.node ≡ n) x (events_of n es) same (own-all n es))
  | inr differs ↦ subst (λ (xs : List Happening). All (λ e. e.place.node ≡ n) xs) (sym (other-first n x es differs)) (own-all n es)
]

-- events of other nodes alone
none-own : (n nodes : ℕ) (es : List Happening) → All (NamesNodes nodes) es → (IsNode nodes n → ⊥) → events_of n es ≡ []
none-own n nodes [] names not = refl
none-own n nodes (e ∷ es) names not = elim (cases_eq e.place.node n) [
  | inl same ↦ absurd (not (subst (IsNode nodes) same (All-head (NamesNodes nodes) e es names).place))
  | inr differs ↦ other-first n e es differs ∙ none-own n nodes es (All-tail (NamesNodes nodes) e es names) not
]

abbrev pub log_of : runs.World → ℕ → NodeLog
log_of w n = record { node = n; events = reverse (events_of n w.done) }

module _ {P G : Type 0} (wants : P → Want) (becomes : P → Option Reply → P) (made : ℕ → ℕ → Option P) (s : Setup) (x : World P G) (w : runs.World) (stands : Stands wants becomes made s x w) where
  abbrev pub logs : List NodeLog
  logs = map (λ (y : Station P G). y.node.log) x.stations.items

  pub log-at : (k : ℕ) (l : NodeLog) → slice_get logs k ≡ Some l → l ≡ log_of w (k + 1)
  log-at k l e = let found = map_at (λ (y : Station P G). y.node.log) x.stations.items k l e in found.2 ∙ (stands.station k found.0 found.1).log

  rises : AreRising (by_place w.done)
  rises =
      let m = (turns-merge s stands.setup x.plan stands.choices w stands.turns).merged stands.timely in
      subst (λ (es : List Happening). AreRising es) m.done (places-rise s (map choice_of (by_place w.done)) m.world m.run)

  own : (n : ℕ) → events_of n (by_place w.done) ≡ events_of n w.done
  own n = ((turns-merge s stands.setup x.plan stands.choices w stands.turns).merged stands.timely).own n

  is-log : (n : ℕ) → IsLog (log_of w n)
  is-log n = record {
    own = subst (λ (xs : List Happening). All (λ e. e.place.node ≡ n) xs) (own-reverse n w.done) (own-all n (reverse w.done));
    rising = subst (λ (xs : List Happening). AreRising xs) (own n ∙ sym (reverse-reverse (events_of n w.done))) (rising-own n (by_place w.done) rises);
  }

  pub are-logs : AreLogs logs
  are-logs = record {
    each = all_at IsLog logs (λ k l e. subst IsLog (sym (log-at k l e)) (is-log (k + 1)));
    apart = λ i j d before within.
        let one = ap (λ (l : NodeLog). l.node) (log-at i (get_or logs i d) (slice_get-get_or logs i d (omega (arith, before, within)))) in
        let two = ap (λ (l : NodeLog). l.node) (log-at j (get_or logs j d) (slice_get-get_or logs j d within)) in
        λ same. absurd (omega (arith, one, two, same, before));
  }

  module _ (seed last : ℕ) (most : last ≤ 2 ^ 40) (ends : EndsIn s x.plan seed last w) (events : List Happening) (merged : AreMerged logs events) where
    own-events : (n k : ℕ) → n ≡ k + 1 → k < length logs → events_of n events ≡ reverse (events_of n w.done)
    own-events n k is within =
        let l = get-within logs k within in
        let same : l.0 ≡ log_of w n = log-at k l.0 l.1 ∙ ap (log_of w) (sym is) in
        subst (λ (m : NodeLog). events_of m.node events ≡ m.events) same (at_all (λ (m : NodeLog). events_of m.node events ≡ m.events) logs k l.0 merged.own l.1)

    many : length logs ≡ s.opening.nodes
    many = length-logs x.stations.items ∙ stands.count
      where
        length-logs : (ys : List (Station P G)) → length (map (λ (y : Station P G). y.node.log) ys) ≡ length ys
        length-logs [] = refl
        length-logs (y ∷ ys) = ap suc (length-logs ys)

    others : (n : ℕ) → (IsNode s.opening.nodes n → ⊥) → events_of n events ≡ []
    others n not = merged.only n (all_at (λ (l : NodeLog). l.node ≢ n) logs (λ k l e same.
        not (let is = ap (λ (m : NodeLog). m.node) (log-at k l e) in let within = slice_get_within logs k l e in let count = many in (omega (arith, is, same), omega (arith, is, same, within, count)))))

    same-own : (n : ℕ) → events_of n (reverse events) ≡ events_of n (by_place w.done)
    same-own n = elim (cases_lt 0 n) [
      | inl low ↦ elim (cases_lt s.opening.nodes n) [
        | inl above ↦ outside (λ is. absurd (let high = is.1 in omega (arith, above, high)))
        | inr high ↦
            own-reverse n events ∙ (ap reverse (own-events n (n - 1) (omega (arith, low)) (let count = many in omega (arith, low, high, count)))
            ∙ (reverse-reverse (events_of n w.done) ∙ sym (own n)))
      ]
      | inr none ↦ outside (λ is. absurd (let low = is.0 in omega (arith, none, low)))
    ]
      where
        outside : (IsNode s.opening.nodes n → ⊥) → events_of n (reverse events) ≡ events_of n (by_place w.done)
        outside not =
            own-reverse n events ∙ (ap reverse (others n not)
            ∙ sym (none-own n s.opening.nodes (by_place w.done) (picked-names s stands.setup x.plan seed last most (by_place w.done) (record { world = w; ends = ends; events = refl })) not))

    pub merged-is : events ≡ reverse (by_place w.done)
    merged-is = sym (reverse-reverse events) ∙ ap reverse (sorted-one (reverse events) (by_place w.done) merged.rising rises same-own)
