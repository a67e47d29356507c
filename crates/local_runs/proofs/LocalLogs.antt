-- The logs of runs of nodes alone are logs that may be merged.
use Rattle.std.proofs.Common.{◌≡◌, ℕ, true, List, [], ◌∷◌, get_or, reverse, sym, ap, subst}
use Rattle.std.specs.Prelude.{All}
use Rattle.std.specs.List.{AllByRecursion}
use Rattle.std.proofs.lemmas.List.{reverse-reverse}
use Rattle.std.proofs.lemmas.List.Elements.{All-from_recursion}
use Rattle.uid_names.proofs.ListLemmas.{All-reverse}
use Rattle.uid_names.specs.declared.ids.Place.{Place}
use Rattle.dom_history.specs.Events.{Happening}
use Rattle.dom_history.specs.declared.event.NodeLog.{NodeLog}
use Rattle.node_runs.specs.Setups.{Setup}
use Rattle.node_runs.specs.Runs.{World, choice_of, is_above, AreRising}
use Rattle.node_runs.proofs.Worlds.{place_at}
use Rattle.ring_links.specs.Merged.{IsLog, AreLogs}
use Rattle.local_runs.specs.LocalRuns.{Own, events_in, IsLocalRun, AreLocalRuns}
use Rattle.local_runs.proofs.Alone.{last-of}
use Rattle.local_runs.specs.Logs.{AreLogsOf}
use Rattle.local_runs.specs.Merges.{AreApart}

pub own-node : (n : ℕ) (own : List Own) → AllByRecursion (λ x. x.event.place.node ≡ n) own → AllByRecursion (λ (e : Happening). e.place.node ≡ n) (events_in own)
own-node n [] all = tt
own-node n (x ∷ own) all = (all.0, own-node n own all.1)

-- the events of a node alone rise
pub own-rising : (s : Setup) (n : ℕ) (own : List Own) (w : World) → IsLocalRun s n own w → AreRising (events_in own)
own-rising s n [] w is = tt
own-rising s n (x ∷ older) w is =
    let after = last-of s n x older w is in
    let place : place_at (choice_of x.event) after.next.step ≡ x.event.place = ap (λ (e : Happening). e.place) after.event in
    let above : is_above (place_at (choice_of x.event) after.next.step) (events_in older) ≡ true =
    subst (λ (es : List Happening). is_above (place_at (choice_of x.event) after.next.step) es ≡ true) after.run.done after.next.above in
    (subst (λ (p : Place). is_above p (events_in older) ≡ true) place above, own-rising s n older after.before after.run)

own-log : (s : Setup) (own : List Own) (w : World) (log : NodeLog) → IsLocalRun s log.node own w → log.events ≡ reverse (events_in own) → IsLog log
own-log s own w log is same = record {
  own = subst (All (λ (e : Happening). e.place.node ≡ log.node)) (sym same)
      (All-reverse (λ (e : Happening). e.place.node ≡ log.node) (events_in own) (All-from_recursion (λ (e : Happening). e.place.node ≡ log.node) (events_in own) (own-node log.node own is.node)));
  rising = subst (λ (es : List Happening). AreRising (reverse es)) (sym same) (subst AreRising (sym (reverse-reverse (events_in own))) (own-rising s log.node own w is));
}

pub logs-merge : (s : Setup) (owns : ℕ → List Own) (ws : ℕ → World) (logs : List NodeLog) → AreLocalRuns s owns ws → AreLogsOf owns logs → AreApart logs → AreLogs logs
logs-merge s owns ws logs are of apart = record {
  each = λ k d below. let log = get_or logs k d in own-log s (owns log.node) (ws log.node) log (are.run log.node) (of.each k d below);
  apart = apart;
}
