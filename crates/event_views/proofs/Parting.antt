-- How far two runs are the same.
use Rattle.std.proofs.Common.{◌≡◌, ◌≢◌, ◌∙◌, ℕ, ◌+◌, ◌<◌, ◌≤◌, None, List, [], ◌∷◌, ◌++◌, length, take, map, get_or, sym, ap, subst, inl, inr, arith}
use Rattle.std.specs.Prelude.{slice_get}
use Rattle.std.proofs.lemmas.List.{take_more, take-map, map-append, length-map}
use Rattle.std.proofs.lemmas.Option.{slice_get_cases, slice_get_past}
use Rattle.dom_history.specs.Events.{Happening}
use Rattle.event_views.specs.Runs.{events_of}
use Rattle.event_views.specs.declared.run.EventView.{EventView}

-- an event more
one-more : (views : List EventView) (at : ℕ) (v : EventView) → at < length views → v ≡ get_or views at v
    → take (at + 1) (events_of views) ≡ take at (events_of views) ++ v.event ∷ []
one-more views at v low is =
    let event : EventView → Happening = λ (x : EventView). x.event in
    take-map event (at + 1) views
    ∙ (ap (map event) (take_more views at v low ∙ ap (λ (x : EventView). take at views ++ x ∷ []) (sym is))
    ∙ (map-append event (take at views) (v ∷ []) ∙ ap (λ (es : List Happening). es ++ v.event ∷ []) (sym (take-map event at views))))

-- where both go on with the same event, one more is the same
pub same-more : (first second : List EventView) (at : ℕ) (a b : EventView) → at < length first → a ≡ get_or first at a → at < length second → b ≡ get_or second at b → a.event ≡ b.event
    → take at (events_of first) ≡ take at (events_of second)
    → (at + 1 ≤ length second) × (take (at + 1) (events_of first) ≡ take (at + 1) (events_of second))
same-more first second at a b low is within there same taken = (
  omega (arith, within),
  one-more first at a low is
      ∙ (ap (λ (es : List Happening). es ++ a.event ∷ []) taken
      ∙ (ap (λ (e : Happening). take at (events_of second) ++ e ∷ []) same ∙ sym (one-more second at b within there))),
)

-- behind the last event of one the other has one more
some-there : (events : List Happening) (n : ℕ) → n < length events → slice_get events n ≢ None
some-there events n low none = elim (slice_get_cases events n).1 [ inl h ↦ let some = h.2 in absurd (cc) | inr h ↦ let past = h.0 in absurd (omega (arith, past, low)) ]

pub ends-apart : (first second : List EventView) (at : ℕ) → length first ≤ at → at ≤ length first → take at (events_of first) ≡ take at (events_of second) → length first < length second
    → (take (length first) (events_of first) ≡ take (length first) (events_of second)) × (slice_get (events_of first) (length first) ≢ slice_get (events_of second) (length first))
ends-apart first second at high low taken fewer =
    let event : EventView → Happening = λ (x : EventView). x.event in
    let same : at ≡ length first = omega (arith, high, low) in
    let many-first = length-map first event in
    let many-second = length-map second event in (
      subst (λ n. take n (events_of first) ≡ take n (events_of second)) same taken,
      λ equal. some-there (events_of second) (length first) (omega (arith, fewer, many-second)) (sym equal ∙ slice_get_past (events_of first) (length first) (omega (arith, many-first))),
    )
