-- Merged logs are the merge of local runs.
use Rattle.std.proofs.Common.{◌≡◌, ◌≢◌, ℕ, List, [], ◌∷◌, reverse, inl, inr, sym, ap, subst, ◌∙◌}
use Rattle.std.specs.List.{AllByRecursion}
use Rattle.std.proofs.lemmas.Bool.{cases_eq}
use Rattle.std.proofs.lemmas.List.{reverse-reverse}
use Rattle.std.proofs.lemmas.List.Elements.{All-from_recursion, recursion_from_All}
use Rattle.dom_history.specs.Events.{Happening}
use Rattle.dom_history.specs.declared.event.NodeLog.{NodeLog}
use Rattle.world_runs.specs.ByPlace.{events_of}
use Rattle.world_runs.proofs.TurnedLists.{own-reverse}
use Rattle.ring_links.specs.Merged.{AreMerged}
use Rattle.local_runs.specs.LocalRuns.{Own, events_in, IsMergeOf}
use Rattle.local_runs.specs.Logs.{AreLogsOf}

-- a log of this node, or none
by-logs : (n : ℕ) (P : Type 0) (logs : List NodeLog) (Q : NodeLog → Type 0) → AllByRecursion Q logs → ((log : NodeLog) → Q log → log.node ≡ n → P) → (AllByRecursion (λ log. log.node ≢ n) logs → P) → P
by-logs n P [] Q all here none = none tt
by-logs n P (log ∷ logs) Q all here none = elim (cases_eq log.node n) [
  | inl same ↦ here log all.0 same
  | inr differs ↦ by-logs n P logs Q all.1 here (λ rest. none (differs, rest))
]

both : (P Q : NodeLog → Type 0) (logs : List NodeLog) → AllByRecursion P logs → AllByRecursion Q logs → AllByRecursion (λ log. P log × Q log) logs
both P Q [] ps qs = tt
both P Q (log ∷ logs) ps qs = ((ps.0, qs.0), both P Q logs ps.1 qs.1)

module _ (owns : ℕ → List Own) (logs : List NodeLog) (events : List Happening) (are : AreLogsOf owns logs) (is : AreMerged logs events) where
  own-of : (n : ℕ) → events_of n events ≡ reverse (events_in (owns n))
  own-of n =
      by-logs n (events_of n events ≡ reverse (events_in (owns n))) logs (λ log. (events_of log.node events ≡ log.events) × (log.events ≡ reverse (events_in (owns log.node))))
      (both (λ (log : NodeLog). events_of log.node events ≡ log.events) (λ (log : NodeLog). log.events ≡ reverse (events_in (owns log.node))) logs
      (recursion_from_All (λ (log : NodeLog). events_of log.node events ≡ log.events) logs is.own)
      (recursion_from_All (λ (log : NodeLog). log.events ≡ reverse (events_in (owns log.node))) logs are.each))
      (λ log q same. subst (λ m. events_of m events ≡ reverse (events_in (owns m))) same (q.0 ∙ q.1))
      (λ none. let away = All-from_recursion (λ (log : NodeLog). log.node ≢ n) logs none in
      is.only n away ∙ sym (ap (λ (own : List Own). reverse (events_in own)) (are.only n away)))

  pub merge-of : IsMergeOf owns (reverse events)
  merge-of = record { rising = is.rising; own = λ n. own-reverse n events ∙ ap reverse (own-of n) ∙ reverse-reverse (events_in (owns n)) }
