-- The journal of a run.
use Rattle.std.proofs.Common.{◌≡◌, ℕ, ◌-◌, ◌≤◌, true, List, [], ◌∷◌, length, Option, Some, None, IfSome, refl, sym, ap, subst, ◌∙◌, arith}
use Rattle.std.specs.Prelude.{◌^◌, reverse, IsSome}
use Rattle.std.specs.List.{AllByRecursion}
use Rattle.std.proofs.lemmas.List.{reverse-reverse}
use Rattle.std.proofs.lemmas.List.Elements.{All-from_recursion}
use Rattle.uid_names.specs.Names.{ObjectName}
use Rattle.uid_names.proofs.ListLemmas.{get-within}
use Rattle.dom_history.specs.Events.{Happening, IsEvent}
use Rattle.dom_history.specs.declared.event.What.{What}
use Rattle.dom_history.specs.declared.event.What.TheVariants.{Begin, Go, Take, Notice, Ready, Mark}
use Rattle.dom_history.specs.declared.event.Sent.{Sent}
use Rattle.fault_handler.specs.Desks.{IsNode as IsNodeOfMany}
use Rattle.journal_text.proofs.Events.{last-push, rise-push}
use Rattle.journal_text.specs.Written.{IsAbove, IsNode, IsPage, IsSent, IsWhatOf, IsWritten, RiseFrom, last_from}
use Rattle.node_runs.specs.CallsKeep.{EachOf}
use Rattle.node_runs.specs.Runs.{AreRising, is_above}
use Rattle.page_cache.proofs.PageLemmas.{reverse-cons}
use Rattle.world_runs.specs.NamedNodes.{NamesNodes, NamesNodesIn}
use Rattle.run_journals.proofs.Drops.{AreSuch}
use Rattle.run_journals.proofs.PageNames.{Named}
use Rattle.run_journals.proofs.Spelling.{HasCounts, IsSpelt}

module _ (names : List (List ℕ)) (nodes : ℕ) (few : nodes ≤ 8) (enough : nodes ≤ length names) where
  node-written : (n : ℕ) → IsNodeOfMany nodes n → IsNode names n
  node-written n node =
      let low = node.0 in
      let high = node.1 in
      let there = get-within names (n - 1) (omega (arith, low, high, enough)) in
      record { low = low; high = omega (arith, high, few); named = subst (λ (o : Option (List ℕ)). IsSome o) (sym there.1) refl }

  what-written : (what : What) → NamesNodesIn nodes what → HasCounts what → IsWhatOf names what
  what-written (Begin p) node count = tt
  what-written (Go p) node count = tt
  what-written (Take from index) node count = (node-written from node, omega (arith, count))
  what-written (Notice p from to index) node count = (node-written from node.0, (node-written to node.1, omega (arith, count)))
  what-written (Ready phase) node count = omega (arith, count)
  what-written (Mark from phase) node count = (node-written from node, omega (arith, count))

  pages-written : (pages : List (ObjectName × ℕ)) → AreSuch Named pages → AllByRecursion IsPage pages
  pages-written [] are = tt
  pages-written (page ∷ pages) are = (are.0, pages-written pages are.1)

  sent-written : (o : Option Sent) → IfSome o (λ x. IsNodeOfMany nodes x.to) → IfSome o (λ x. (x.index ≤ 2 ^ 40) × (x.number ≤ 2 ^ 40)) → IfSome o (IsSent names)
  sent-written None node low = tt
  sent-written (Some x) node low = let index = low.0 in let number = low.1 in record { to = node-written x.to node; index = omega (arith, index); number = omega (arith, number) }

  event-written : (e : Happening) → NamesNodes nodes e → IsEvent e → IsSpelt e → IsWritten names e
  event-written e node event is = let tick = is.tick in record {
    tick = omega (arith, tick);
    node = node-written e.place.node node.place;
    what = what-written e.what node.what is.what;
    effects = record { dropped = All-from_recursion IsPage e.effects.dropped (pages-written e.effects.dropped is.dropped); sent = sent-written e.effects.sent node.sent is.sent };
    event = event;
  }

  pub events-written : (es : List Happening) → AllByRecursion (NamesNodes nodes) es → EachOf IsEvent es → EachOf IsSpelt es → AllByRecursion (IsWritten names) es
  events-written [] node event is = tt
  events-written (e ∷ es) node event is = (event-written e node.0 event.0 is.0, events-written es node.1 event.1 is.1)

-- places that rise, the last one first
last-reverse : (e : Happening) (es : List Happening) → last_from None (reverse (e ∷ es)) ≡ Some e.place
last-reverse e es = ap (last_from None) (reverse-cons e es) ∙ last-push None (reverse es) e

pub reverse-rises : (es : List Happening) → AreRising es → RiseFrom None (reverse es)
reverse-rises [] rising = tt
reverse-rises (e ∷ es) rising = subst (RiseFrom None) (sym (reverse-cons e es)) (rise-push None (reverse es) e (reverse-rises es rising.1) (above es rising.0))
  where
    above : (es : List Happening) → is_above e.place es ≡ true → IsAbove (last_from None (reverse es)) e.place
    above [] h = tt
    above (x ∷ es) h = subst (λ o. IsAbove o e.place) (sym (last-reverse x es)) h

pub same-reverse : (es fs : List Happening) → reverse es ≡ reverse fs → es ≡ fs
same-reverse es fs same = sym (reverse-reverse es) ∙ ap reverse same ∙ reverse-reverse fs
