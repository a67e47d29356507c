-- Merging goes on: the event that comes first of all comes next.
use Rattle.std.proofs.Common.{◌≡◌, ◌≢◌, ℕ, zero, suc, ◌+◌, ◌<◌, ◌≤◌, Bool, true, false, cond, Option, Some, None, IfSome, List, [], ◌∷◌, ◌++◌, length, take, set, get_or, reverse, ◌⊎◌, inl, inr, refl, sym, ap, subst, ◌∙◌, arith}
use Rattle.std.specs.Prelude.{◌==◌, slice_get, All}
use Rattle.std.proofs.lemmas.Bool.{eq-eqb, ne_eqb, cases_eq, cases_order}
use Rattle.std.proofs.lemmas.Bool.Decides.{nat_tests}
use Rattle.std.proofs.lemmas.List.{reverse-append, take_more, get_or-set_same, get_or-set_other, length-set, append-nil, take_all}
use Rattle.std.proofs.lemmas.List.Elements.{filter-append}
use Rattle.std.proofs.lemmas.Option.{slice_get_within, get_or_from_slice_get}
use Rattle.uid_names.specs.declared.ids.Place.{Place}
use Rattle.dom_history.specs.Events.{Happening}
use Rattle.dom_history.specs.Histories.{place_lt}
use Rattle.dom_history.specs.MergedLogs.{next_at}
use Rattle.dom_history.specs.declared.event.NodeLog.{NodeLog}
use Rattle.node_runs.specs.Runs.{AreRising, is_above}
use Rattle.world_runs.specs.ByPlace.{events_of}
use Rattle.ring_links.specs.Merged.{AreLogs, AreMerged, IsFirst}
use Rattle.ring_links.proofs.Coming.{next_at_is, next_at_within}

-- so many events of each log are merged, and each next one stands above them
pub record IsMerging (logs : List NodeLog) (came : List ℕ) (events : List Happening) : Type 0 where
  pub same : length came ≡ length logs
  pub own : (j : ℕ) (d : NodeLog) → j < length logs → events_of (get_or logs j d).node events ≡ take (get_or came j 0) (get_or logs j d).events
  pub above : (j : ℕ) (e : Happening) → next_at logs came j ≡ Some e → is_above e.place (reverse events) ≡ true
  pub rising : AreRising (reverse events)
  pub only : (n : ℕ) → All (λ log. log.node ≢ n) logs → events_of n events ≡ []

place-turn : (a b : Place) → place_lt b a ≡ false → a.node ≢ b.node → place_lt a b ≡ true
place-turn a b h differs = grind (arith, nat_tests, h, differs)

own-event : (n : ℕ) (e : Happening) → e.place.node ≡ n → events_of n (e ∷ []) ≡ e ∷ []
own-event n e same = ap (λ (b : Bool). cond b (e ∷ []) []) (eq-eqb e.place.node n same)

other-event : (n : ℕ) (e : Happening) → e.place.node ≢ n → events_of n (e ∷ []) ≡ []
other-event n e differs = ap (λ (b : Bool). cond b (e ∷ []) []) (ne_eqb e.place.node n differs)

one-more : (n : ℕ) (es : List Happening) (e : Happening) → events_of n (es ++ e ∷ []) ≡ events_of n es ++ events_of n (e ∷ [])
one-more n es e = filter-append (λ (x : Happening). x.place.node == n) es (e ∷ [])

-- in a rising list each event stands above the one before it
rising-part : (newer older : List Happening) → AreRising (newer ++ older) → AreRising older
rising-part [] older rising = rising
rising-part (x ∷ newer) older rising = rising-part newer older rising.1

rising-front : (newer older : List Happening) → AreRising (newer ++ older) → AreRising newer
rising-front [] older rising = tt
rising-front (x ∷ []) older rising = (refl, tt)
rising-front (x ∷ y ∷ newer) older rising = (rising.0, rising-front (y ∷ newer) older rising.1)

shifted : (c : ℕ) → suc c + 1 ≡ suc (c + 1)
shifted c = omega arith

rising-next : (xs : List Happening) (c : ℕ) (e f : Happening) → AreRising (reverse xs) → slice_get xs c ≡ Some e → slice_get xs (c + 1) ≡ Some f → place_lt e.place f.place ≡ true
rising-next [] c e f rising here next = absurd (cc)
rising-next (x ∷ []) zero e f rising here next = absurd (cc)
rising-next (x ∷ y ∷ rest) zero e f rising here next =
    let last = rising-part (reverse rest) (y ∷ x ∷ []) (subst AreRising (reverse-append (x ∷ y ∷ []) rest) rising) in
    let first : x ≡ e = cc in
    let second : y ≡ f = cc in
    subst (λ (z : Happening). place_lt z.place f.place ≡ true) first (subst (λ (z : Happening). place_lt x.place z.place ≡ true) second last.0)
rising-next (x ∷ xs) (suc c) e f rising here next = rising-next xs c e f (rising-front (reverse xs) (x ∷ []) (subst AreRising (reverse-append (x ∷ []) xs) rising)) here (subst (λ k. slice_get (x ∷ xs) k ≡ Some f) (shifted c) next)

module _ (logs : List NodeLog) (came : List ℕ) (events : List Happening) (are : AreLogs logs) (is : IsMerging logs came events) (i : ℕ) (e : Happening)
    (next : next_at logs came i ≡ Some e) (least : (j : ℕ) (other : Happening) → next_at logs came j ≡ Some other → place_lt other.place e.place ≡ false) where
  abbrev c : ℕ
  c = get_or came i 0

  abbrev came-then : List ℕ
  came-then = set came i (c + 1)

  within : i < length logs
  within = next_at_within logs came i e next

  here : (d : NodeLog) → slice_get (get_or logs i d).events c ≡ Some e
  here d = sym (next_at_is logs came i d is.same within) ∙ next

  -- an event of a log is of its node
  of-node : (j : ℕ) (d : NodeLog) (k : ℕ) (x : Happening) → j < length logs → slice_get (get_or logs j d).events k ≡ Some x → x.place.node ≡ (get_or logs j d).node
  of-node j d k x inside found =
      subst (λ (y : Happening). y.place.node ≡ (get_or logs j d).node) (get_or_from_slice_get (get_or logs j d).events k x e found)
      ((are.each j d inside).own k e (slice_get_within (get_or logs j d).events k x found))

  node-here : (d : NodeLog) → e.place.node ≡ (get_or logs i d).node
  node-here d = of-node i d c e within (here d)

  apart : (j : ℕ) (d : NodeLog) → j < length logs → j ≢ i → e.place.node ≢ (get_or logs j d).node
  apart j d inside differs same = of-order (cases_order j i)
    where
      of-order : (j ≡ i) ⊎ ((j < i) ⊎ (i < j)) → ⊥
      of-order (inl h) = differs h
      of-order (inr (inl h)) = are.apart j i d h within (sym same ∙ node-here d)
      of-order (inr (inr h)) = are.apart i j d h inside (sym (node-here d) ∙ same)

  c-then : get_or came-then i 0 ≡ c + 1
  c-then = get_or-set_same came i (c + 1) 0 (let same = is.same in let inside = within in omega (arith, same, inside))

  own-then : (j : ℕ) (d : NodeLog) → j < length logs → events_of (get_or logs j d).node (events ++ e ∷ []) ≡ take (get_or came-then j 0) (get_or logs j d).events
  own-then j d inside = of-case (cases_eq j i)
    where
      of-case : (j ≡ i) ⊎ (j ≡ i → ⊥) → events_of (get_or logs j d).node (events ++ e ∷ []) ≡ take (get_or came-then j 0) (get_or logs j d).events
      of-case (inl same) = subst (λ k. events_of (get_or logs k d).node (events ++ e ∷ []) ≡ take (get_or came-then k 0) (get_or logs k d).events) (sym same)
          (let log = get_or logs i d in
          one-more log.node events e
          ∙ ap (λ (es : List Happening). es ++ events_of log.node (e ∷ [])) (is.own i d within)
          ∙ ap (λ (es : List Happening). take c log.events ++ es) (own-event log.node e (node-here d))
          ∙ ap (λ (x : Happening). take c log.events ++ x ∷ []) (sym (get_or_from_slice_get log.events c e e (here d)))
          ∙ sym (take_more log.events c e (slice_get_within log.events c e (here d)))
          ∙ ap (λ k. take k log.events) (sym c-then))
      of-case (inr differs) =
          let log = get_or logs j d in
          one-more log.node events e
          ∙ ap (λ (es : List Happening). events_of log.node events ++ es) (other-event log.node e (apart j d inside differs))
          ∙ append-nil (events_of log.node events)
          ∙ is.own j d inside
          ∙ ap (λ k. take k log.events) (sym (get_or-set_other came i j (c + 1) 0 differs))

  above-then : (j : ℕ) (f : Happening) → next_at logs came-then j ≡ Some f → place_lt e.place f.place ≡ true
  above-then j f coming = of-case (cases_eq j i)
    where
      same-then : length came-then ≡ length logs
      same-then = length-set came i (c + 1) ∙ is.same

      inside : j < length logs
      inside = next_at_within logs came-then j f coming

      d : NodeLog
      d = record { node = 0; events = [] }

      of-case : (j ≡ i) ⊎ (j ≡ i → ⊥) → place_lt e.place f.place ≡ true
      of-case (inl same) =
          let there : slice_get (get_or logs i d).events (c + 1) ≡ Some f =
          ap (λ k. slice_get (get_or logs i d).events k) (sym c-then) ∙ sym (next_at_is logs came-then i d same-then within) ∙ subst (λ k. next_at logs came-then k ≡ Some f) same coming in
          rising-next (get_or logs i d).events c e f (are.each i d within).rising (here d) there
      of-case (inr differs) =
          let there : slice_get (get_or logs j d).events (get_or came j 0) ≡ Some f =
          ap (λ k. slice_get (get_or logs j d).events k) (sym (get_or-set_other came i j (c + 1) 0 differs)) ∙ sym (next_at_is logs came-then j d same-then inside) ∙ coming in
          let before : next_at logs came j ≡ Some f = next_at_is logs came j d is.same inside ∙ there in
          place-turn e.place f.place (least j f before) (λ same. apart j d inside differs (same ∙ of-node j d (get_or came j 0) f inside there))

  turned : reverse (events ++ e ∷ []) ≡ e ∷ reverse events
  turned = reverse-append events (e ∷ [])

  pub merging-next : IsMerging logs came-then (events ++ e ∷ [])
  merging-next = record {
    same = length-set came i (c + 1) ∙ is.same;
    own = own-then;
    above = λ j f coming. subst (λ (es : List Happening). is_above f.place es ≡ true) (sym turned) (above-then j f coming);
    rising = subst AreRising (sym turned) (is.above i e next, is.rising);
    only = λ n all.
        one-more n events e
        ∙ ap (λ (es : List Happening). es ++ events_of n (e ∷ [])) (is.only n all)
        ∙ other-event n e (λ same. let d : NodeLog = record { node = 0; events = [] } in all i d within (sym (node-here d) ∙ same));
  }

slice_get_end : (xs : List Happening) (k : ℕ) → slice_get xs k ≡ None → length xs ≤ k
slice_get_end [] k none = omega arith
slice_get_end (x ∷ xs) zero none = absurd (cc)
slice_get_end (x ∷ xs) (suc k) none = let past = slice_get_end xs k none in omega (arith, past)

-- where no event comes next, all are merged
merged-own : (logs : List NodeLog) (came : List ℕ) (events : List Happening) → IsMerging logs came events → ((j : ℕ) → next_at logs came j ≡ None)
    → (j : ℕ) (d : NodeLog) → j < length logs → events_of (get_or logs j d).node events ≡ (get_or logs j d).events
merged-own logs came events is none j d inside =
    let past = slice_get_end (get_or logs j d).events (get_or came j 0) (sym (next_at_is logs came j d is.same inside) ∙ none j) in
    is.own j d inside ∙ take_all (get_or came j 0) (get_or logs j d).events past

pub merged : (logs : List NodeLog) (came : List ℕ) (events : List Happening) → IsMerging logs came events → ((j : ℕ) → next_at logs came j ≡ None) → AreMerged logs events
merged logs came events is none = record { rising = is.rising; own = merged-own logs came events is none; only = is.only }

-- the beginning
zeros : (came : List ℕ) → All (λ n. n ≡ 0) came → (j : ℕ) → get_or came j 0 ≡ 0
zeros [] all j = refl
zeros (n ∷ came) all zero = all 0 0 (omega arith)
zeros (n ∷ came) all (suc j) = zeros came (λ k d inside. all (suc k) d (omega (arith, inside))) j

pub merging-first : (logs : List NodeLog) (came : List ℕ) → length came ≡ length logs → All (λ n. n ≡ 0) came → IsMerging logs came []
merging-first logs came same all = record {
  same = same;
  own = λ j d inside. ap (λ k. take k (get_or logs j d).events) (sym (zeros came all j));
  above = λ j e coming. refl;
  rising = tt;
  only = λ n others. refl;
}

-- the event that comes first of all is merged
pub merging-step : (logs : List NodeLog) (came came-next : List ℕ) (events events-next : List Happening) (i : ℕ) → AreLogs logs → IsMerging logs came events → IsFirst logs came i
    → came-next ≡ set came i (get_or came i 0 + 1) → IfSome (next_at logs came i) (λ e. events-next ≡ events ++ e ∷ []) → IsMerging logs came-next events-next
merging-step logs came came-next events events-next i are is first more added =
    let one : events-next ≡ events ++ first.event ∷ [] = subst (λ (r : Option Happening). IfSome r (λ e. events-next ≡ events ++ e ∷ [])) first.next added in
    subst (λ (cs : List ℕ). IsMerging logs cs events-next) (sym more)
    (subst (λ (es : List Happening). IsMerging logs (set came i (get_or came i 0 + 1)) es) (sym one) (merging-next logs came events are is i first.event first.next first.least))
