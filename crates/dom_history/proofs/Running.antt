-- The history of what one store answers is legal.
use Rattle.std.proofs.Common.{◌≡◌, ◌<◌, ◌+◌, ℕ, List, [], ◌∷◌, length, refl, ap, arith, rules, inl}
use Rattle.std.specs.Prelude.{IsTrue, All}
use Rattle.std.proofs.lemmas.Bool.Decides.{nat_tests}
use Rattle.std.proofs.lemmas.List.Elements.{All-cons}
use Rattle.uid_names.specs.Openings.{Start}
use Rattle.dom_history.specs.declared.deed.Deed.{Deed}
use Rattle.dom_history.specs.Histories.{deeds, told, entries, place_of, place_lt, IsRising}
use Rattle.dom_history.specs.Legal.{AreLegal, IsLegal}
use Rattle.dom_history.specs.Runs.{AreAnswered, items_at, history_at}

-- what was decided is what was done
deeds-items_at : (node : ℕ) (done : List Deed) → deeds (items_at node done) ≡ done
deeds-items_at node [] = refl
deeds-items_at node (d ∷ past) = ap (λ ds. d ∷ ds) (deeds-items_at node past)

-- and so is what the processes were told
told-items_at : (node : ℕ) (done : List Deed) → told (entries (items_at node done)) ≡ done
told-items_at node [] = refl
told-items_at node (d ∷ past) = ap (λ ds. d ∷ ds) (told-items_at node past)

-- a smaller tick comes before
pub tick_lt : (a n node : ℕ) → a < n → IsTrue (place_lt (record { tick = a; node = node }) (record { tick = n; node = node }))
tick_lt a n node h = grind (arith, nat_tests)

-- the items of n deeds have ticks up to n
items_at-below : (node n : ℕ) (done : List Deed) → length done < n → All (λ j. IsTrue (place_lt (place_of j) (record { tick = n; node = node }))) (items_at node done)
items_at-below node n [] h = search rules
items_at-below node n (d ∷ past) h =
    All-cons (λ j. IsTrue (place_lt (place_of j) (record { tick = n; node = node }))) _ (items_at node past)
    (tick_lt (length past + 1) n node (omega arith))
    (items_at-below node n past (omega arith))

-- the ticks rise
items_at-rising : (node : ℕ) (done : List Deed) → IsRising (items_at node done)
items_at-rising node [] = tt
items_at-rising node (d ∷ past) = (items_at-below node (length past + 1) past (omega arith), items_at-rising node past)

-- each reply is that of one store
items_at-legal : (opening : Start) (node : ℕ) (done : List Deed) → AreAnswered opening done → AreLegal opening [] (items_at node done)
items_at-legal opening node [] h = tt
items_at-legal opening node (d ∷ past) h = (inl (rw (deeds-items_at node past, told-items_at node past) h.0), items_at-legal opening node past h.1)

-- the history of what one store answers is legal
pub history_at-legal : (opening : Start) (node : ℕ) (done : List Deed) → AreAnswered opening done → IsLegal opening (history_at node done)
history_at-legal opening node done h = record {
  rising = items_at-rising node done;
  one_open = search rules;
  opens_apart = search rules;
  items_apart = search rules;
  open_last = search rules;
  legal = items_at-legal opening node done h;
}
