-- What a draft holds beside its content, after one more object or command.
use Rattle.std.proofs.Common.{◌≡◌, ◌≢◌, ◌≤◌, ◌<◌, ◌+◌, ◌-◌, ◌↔◌, ◌⊎◌, inl, inr, ⊎_elim, ℕ, zero, suc, Bool, true, false, IsTrue, All, Contains, List, [], ◌∷◌, ◌++◌, length, get_or, set, refl, ap, sym, subst, ◌∙◌, append-nil, length-append, arith}
use Rattle.std.specs.Prelude.{◌&&◌, ◌||◌, ◌==◌, if◌then◌else◌, replicate, sum_by}
use Rattle.std.specs.Prelude.{bytes_eq}
use Rattle.std.proofs.lemmas.Bool.{false≢true, eqb-true, eqb-false, ne_eqb}
use Rattle.std.proofs.lemmas.List.{get_or-replicate, get_or-set_other, length-set}
use Rattle.std.proofs.lemmas.Grind.{get_or-set_at}
use Rattle.std.proofs.lemmas.List.Elements.{All-push, All-head, All-tail, All-weaker, filter-append}
use Rattle.std.proofs.lemmas.List.Folds.{list_any-append}
use Rattle.std.proofs.lemmas.List.Quantifiers.{all_pairs_push}
use Rattle.std.proofs.lemmas.List.Sums.{sum_by-append, sum_by-cons}
use Rattle.uid_names.specs.Names.{ProcName, ObjectName, place_of_process, same_proc, same_uid}
use Rattle.uid_names.proofs.Orders.{same_proc_is, same_proc-itself, proc_by_parts}
use Rattle.uid_names.specs.Openings.{IsDeclarable}
use Rattle.uid_names.specs.declared.opening.Object.{Object}
use Rattle.uid_names.specs.declared.limits.TheConstants.{ENTRY_ROOM, MAX_NODES, VOLUME_ROOM}
use Rattle.uid_names.specs.declared.mode.ObjKind.TheVariants.{File}
use Rattle.uid_names.specs.Beginnings.{at_home, AreNumbered}
use Rattle.script_reader.specs.Walk.Drafts.{HoldsTallies}
use Rattle.script_reader.specs.Walk.Starts.{AreStarts}
use Rattle.dom_history.specs.Ranges.{IsProcName}
use Rattle.script_reader.specs.Walk.Named.{HoldsNamed}
use Rattle.script_reader.specs.Walk.Index.{HasAlso}
use Rattle.script_reader.specs.Limits.{pages_at}
use Rattle.script_reader.specs.After.{next_uid}
use Rattle.script_reader.specs.Variables.{is_named, makes}
use Rattle.script_reader.specs.declared.script.CommandRow.{CommandRow}
use Rattle.script_reader.proofs.Decisions.{bytes_eq-refl, bytes_eq-true}

-- a test of a list and of one more decides that the list has it, or that it is this
also_decides : (P Q R : Type 0) (a b : Bool) → P ↔ (Q ⊎ R) → Q ↔ IsTrue a → R ↔ IsTrue b → P ↔ IsTrue (a || (b || false))
also_decides P Q R true b h k l = (λ p. refl, λ yes. h.1 (inl (k.1 refl)))
also_decides P Q R false true h k l = (λ p. refl, λ yes. h.1 (inr (l.1 refl)))
also_decides P Q R false false h k l = (λ p. ⊎_elim k.0 l.0 (h.0 p), λ no. absurd (false≢true no))

-- the processes have places of their own
pub one_place : (p q : ProcName) → IsProcName p → IsProcName q → place_of_process p ≡ place_of_process q → p ≡ q
one_place p q h k e =
    let node : p.node ≡ q.node = omega (arith, h.node.0, k.node.0, h.number.0, k.number.0, h.number.1, k.number.1, e) in
    let number : p.number ≡ q.number = omega (arith, h.node.0, k.node.0, h.number.0, k.number.0, h.number.1, k.number.1, e, node) in
    proc_by_parts p q node number

-- a command that names no variable more
pub named-other : (sets : List (List (List ℕ))) (commands : List CommandRow) (row : CommandRow) → HoldsNamed sets commands → ((var : List ℕ) → makes var row.command ≡ false) → HoldsNamed sets (commands ++ row ∷ [])
named-other sets commands row h other proc is var =
    let none : (same_proc row.proc proc && makes var row.command) ≡ false = both (same_proc row.proc proc) (makes var row.command) (other var) in
    let same : is_named (commands ++ row ∷ []) proc var ≡ is_named commands proc var =
    list_any-append (λ r. same_proc r.proc proc && makes var r.command) commands (row ∷ []) ∙ (ap (λ t. is_named commands proc var || (t || false)) none ∙ or-false (is_named commands proc var)) in
    subst (λ t. Contains (get_or sets (place_of_process proc) []) var ↔ IsTrue t) (sym same) (h proc is var) where
      both : (a b : Bool) → b ≡ false → (a && b) ≡ false
      both true b e = e
      both false b e = refl

      or-false : (a : Bool) → (a || (false || false)) ≡ a
      or-false true = refl
      or-false false = refl

-- a `new`: its process's set has one variable more
pub named-new : (old new : List (List (List ℕ))) (commands : List CommandRow) (row : CommandRow) (name : List ℕ) → HoldsNamed old commands → IsProcName row.proc → ((var : List ℕ) → makes var row.command ≡ bytes_eq name var)
    → HasAlso (get_or old (place_of_process row.proc) []) (get_or new (place_of_process row.proc) []) name → ((slot : ℕ) → slot ≢ place_of_process row.proc → get_or new slot [] ≡ get_or old slot []) → HoldsNamed new (commands ++ row ∷ [])
named-new old new commands row name h is made own others proc good var =
    rw (list_any-append (λ r. same_proc r.proc proc && makes var r.command) commands (row ∷ [])) (by_proc (same_proc row.proc proc) refl) where
      by_proc : (t : Bool) → same_proc row.proc proc ≡ t → Contains (get_or new (place_of_process proc) []) var ↔ IsTrue (is_named commands proc var || ((t && makes var row.command) || false))
      by_proc true e =
          let same = same_proc_is row.proc proc e in
          let slot : place_of_process row.proc ≡ place_of_process proc = ap place_of_process same in
          let also : HasAlso (get_or old (place_of_process proc) []) (get_or new (place_of_process proc) []) name = subst (λ k. HasAlso (get_or old k []) (get_or new k []) name) slot own in
          rw (made var) (also_decides (Contains (get_or new (place_of_process proc) []) var) (Contains (get_or old (place_of_process proc) []) var) (name ≡ var) (is_named commands proc var) (bytes_eq name var) (also var) (h proc good var) (bytes_eq-refl name var, bytes_eq-true name var))
      by_proc false e =
          let other : place_of_process proc ≢ place_of_process row.proc = λ slot. false≢true (sym e ∙ ap (λ p. same_proc row.proc p) (one_place proc row.proc good is slot) ∙ same_proc-itself row.proc) in
          rw (others (place_of_process proc) other) (also_decides (Contains (get_or old (place_of_process proc) []) var) (Contains (get_or old (place_of_process proc) []) var) ⊥ (is_named commands proc var) false (inl, ⊎_elim (λ x. x) (λ no. absurd no)) (h proc good var) (λ no. absurd no, λ no. absurd (false≢true no)))

-- the objects of a home, with one more
home-push : (home : ℕ) (starts : List Object) (o : Object) → at_home home (starts ++ o ∷ []) ≡ at_home home starts ++ (if o.uid.home == home then o ∷ [] else [])
home-push home starts o = filter-append (λ x. x.uid.home == home) starts (o ∷ [])

pages-push : (home : ℕ) (starts : List Object) (o : Object) → pages_at home (starts ++ o ∷ []) ≡ (if o.uid.home == home then pages_at home starts + o.room else pages_at home starts)
pages-push home starts o = rw (home-push home starts o, sum_by-append (λ x. x.room) (at_home home starts) (if o.uid.home == home then o ∷ [] else [])) (by_home (o.uid.home == home)) where
  by_home : (t : Bool) → ENTRY_ROOM + (sum_by (λ x. x.room) (at_home home starts) + sum_by (λ x. x.room) (if t then o ∷ [] else [])) ≡ (if t then pages_at home starts + o.room else pages_at home starts)
  by_home true = omega arith
  by_home false = omega arith

numbered-push : (n : ℕ) (xs : List Object) (o : Object) → AreNumbered n xs → o.uid.counter ≡ length xs + n → AreNumbered n (xs ++ o ∷ [])
numbered-push n [] o h e = (omega (arith, e), tt)
numbered-push n (x ∷ xs) o h e = (h.0, numbered-push (n + 1) xs o h.1 (omega (arith, e)))

-- the counters of a home are below the next one
below : (home n : ℕ) (starts : List Object) → AreNumbered n (at_home home starts) → (k : ℕ) (d : Object) → k < length starts → (get_or starts k d).uid.home ≡ home → (get_or starts k d).uid.counter < length (at_home home starts) + n
below home n [] h k d lt at = absurd (omega (arith, lt))
below home n (x ∷ starts) h zero d lt at =
    elim (x.uid.home == home) as (λ t. (x.uid.home == home) ≡ t → AreNumbered n (if t then x ∷ at_home home starts else at_home home starts) → x.uid.counter < length (if t then x ∷ at_home home starts else at_home home starts) + n) [
      | true ↦ λ e numbered. omega (arith, numbered.0)
      | false ↦ λ e numbered. absurd (eqb-false x.uid.home home e at)
    ] refl h
below home n (x ∷ starts) h (suc k) d lt at =
    elim (x.uid.home == home) as (λ t. AreNumbered n (if t then x ∷ at_home home starts else at_home home starts) → (get_or starts k d).uid.counter < length (if t then x ∷ at_home home starts else at_home home starts) + n) [
      | true ↦ λ numbered. let b = below home (n + 1) starts numbered.1 k d (omega (arith, lt)) at in omega (arith, b)
      | false ↦ λ numbered. below home n starts numbered k d (omega (arith, lt)) at
    ] h

-- a name whose counter is below another's, if they have one home
other_uid : (u : ObjectName) (m home : ℕ) → (u.home ≡ home → u.counter < m) → same_uid u (record { counter = m; home = home }) ≡ false
other_uid u m home h = by_home (u.home == home) refl where
  and-false : (a : Bool) → (a && false) ≡ false
  and-false true = refl
  and-false false = refl

  by_home : (t : Bool) → (u.home == home) ≡ t → ((u.counter == m) && t) ≡ false
  by_home true e =
      let lt : u.counter < m = h (eqb-true u.home home e) in
      let ne : u.counter ≡ m → ⊥ = λ same. omega (arith, lt, same) in
      rw (ne_eqb u.counter m ne) refl
  by_home false e = and-false (u.counter == m)

-- an object more
pub AreStarts-push : (nodes greatest : ℕ) (starts : List Object) (home room : ℕ) → AreStarts nodes greatest starts → home ≤ nodes → 1 ≤ room → room ≤ greatest → pages_at home starts + room ≤ VOLUME_ROOM → AreStarts nodes greatest (starts ++ record { uid = next_uid starts home; kind = File; room = room } ∷ [])
AreStarts-push nodes greatest starts home room h at low high fits =
    let object : Object = record { uid = next_uid starts home; kind = File; room = room } in record {
      declarable = All-push (IsDeclarable nodes greatest) starts object h.declarable (record { counter = omega arith; home = at; room_low = low; room_high = high });
      apart = all_pairs_push (λ a b. same_uid a.uid b.uid ≡ false) starts object h.apart (λ k d lt. other_uid (get_or starts k d).uid (length (at_home home starts) + 2) home (below home 2 starts (h.counters home) k d lt));
      counters = λ other. rw (home-push other starts object) (numbered other (home == other) refl);
      volume = λ other. rw (pages-push other starts object) (paged other (home == other) refl);
    } where
      numbered : (other : ℕ) (t : Bool) → (home == other) ≡ t → AreNumbered 2 (at_home other starts ++ (if t then record { uid = next_uid starts home; kind = File; room = room } ∷ [] else []))
      numbered other true e =
          let same : home ≡ other = eqb-true home other e in
          numbered-push 2 (at_home other starts) (record { uid = next_uid starts home; kind = File; room = room }) (h.counters other) (ap (λ x. length (at_home x starts) + 2) same)
      numbered other false e = subst (λ xs. AreNumbered 2 xs) (sym (append-nil (at_home other starts))) (h.counters other)

      paged : (other : ℕ) (t : Bool) → (home == other) ≡ t → (if t then pages_at other starts + room else pages_at other starts) ≤ VOLUME_ROOM
      paged other true e = subst (λ x. pages_at x starts + room ≤ VOLUME_ROOM) (eqb-true home other e) fits
      paged other false e = h.volume other

-- more nodes, or a greater room
pub AreStarts-wider : (m n low high : ℕ) (starts : List Object) → m ≤ n → low ≤ high → AreStarts m low starts → AreStarts n high starts
AreStarts-wider m n low high starts le rooms h = record {
  declarable = All-weaker (IsDeclarable m low) (IsDeclarable n high) (λ o is. record { counter = is.counter; home = omega (arith, is.home, le); room_low = is.room_low; room_high = omega (arith, is.room_high, rooms) }) starts h.declarable;
  apart = h.apart;
  counters = h.counters;
  volume = h.volume;
}

length-home : (home : ℕ) (starts : List Object) (o : Object) → length (at_home home (starts ++ o ∷ [])) ≡ (if o.uid.home == home then length (at_home home starts) + 1 else length (at_home home starts))
length-home home starts o = rw (home-push home starts o, length-append (at_home home starts) (if o.uid.home == home then o ∷ [] else [])) (by_home (o.uid.home == home)) where
  by_home : (t : Bool) → length (at_home home starts) + length (if t then o ∷ [] else []) ≡ (if t then length (at_home home starts) + 1 else length (at_home home starts))
  by_home true = refl
  by_home false = omega arith

-- the tallies after one more object at a home, whose place is i
pub HoldsTallies-push : (counts pages : List ℕ) (starts : List Object) (o : Object) (i : ℕ) → HoldsTallies counts pages starts → 1 ≤ o.uid.home → o.uid.home ≤ MAX_NODES → i ≡ o.uid.home - 1
    → HoldsTallies (set counts i (get_or counts i 0 + 1)) (set pages i (get_or pages i 0 + o.room)) (starts ++ o ∷ [])
HoldsTallies-push counts pages starts o i h low high at = record {
  homes_counted = length-set counts i (get_or counts i 0 + 1) ∙ h.homes_counted;
  homes_paged = length-set pages i (get_or pages i 0 + o.room) ∙ h.homes_paged;
  counts_are = λ home least most. rw (length-home home starts o) (counted home least most (o.uid.home == home) refl);
  pages_are = λ home least most. rw (pages-push home starts o) (paged home least most (o.uid.home == home) refl);
} where
  counted : (home : ℕ) → 1 ≤ home → home ≤ MAX_NODES → (t : Bool) → (o.uid.home == home) ≡ t → get_or (set counts i (get_or counts i 0 + 1)) (home - 1) 0 ≡ (if t then length (at_home home starts) + 1 else length (at_home home starts))
  counted home least most true e =
      let same : o.uid.home ≡ home = eqb-true o.uid.home home e in
      let place : home - 1 ≡ i = omega arith in
      get_or-set_at counts i (home - 1) (get_or counts i 0 + 1) 0 place (omega (arith, h.homes_counted)) ∙ ap (λ n. n + 1) (ap (λ k. get_or counts k 0) (sym place) ∙ h.counts_are home least most)
  counted home least most false e =
      let other : o.uid.home ≢ home = eqb-false o.uid.home home e in
      let apart : home - 1 ≢ i = λ same. other (omega arith) in
      get_or-set_other counts i (home - 1) (get_or counts i 0 + 1) 0 apart ∙ h.counts_are home least most

  paged : (home : ℕ) → 1 ≤ home → home ≤ MAX_NODES → (t : Bool) → (o.uid.home == home) ≡ t → get_or (set pages i (get_or pages i 0 + o.room)) (home - 1) 0 ≡ (if t then pages_at home starts + o.room else pages_at home starts)
  paged home least most true e =
      let same : o.uid.home ≡ home = eqb-true o.uid.home home e in
      let place : home - 1 ≡ i = omega arith in
      get_or-set_at pages i (home - 1) (get_or pages i 0 + o.room) 0 place (omega (arith, h.homes_paged)) ∙ ap (λ n. n + o.room) (ap (λ k. get_or pages k 0) (sym place) ∙ h.pages_are home least most)
  paged home least most false e =
      let other : o.uid.home ≢ home = eqb-false o.uid.home home e in
      let apart : home - 1 ≢ i = λ same. other (omega arith) in
      get_or-set_other pages i (home - 1) (get_or pages i 0 + o.room) 0 apart ∙ h.pages_are home least most

-- no object is declared
pub tallies-none : HoldsTallies (replicate 8 0) (replicate 8 ENTRY_ROOM) []
tallies-none = record {
  homes_counted = refl;
  homes_paged = refl;
  counts_are = λ home least most. get_or-replicate 8 (home - 1) 0 0 (omega arith);
  pages_are = λ home least most. get_or-replicate 8 (home - 1) ENTRY_ROOM 0 (omega arith);
}

one_more_small : (x : Object) (xs : List Object) → 1 ≤ x.room → length xs ≤ sum_by (λ o. o.room) xs → length (x ∷ xs) ≤ sum_by (λ o. o.room) (x ∷ xs)
one_more_small x xs low few =
    let sum : sum_by (λ o. o.room) (x ∷ xs) ≡ x.room + sum_by (λ o. o.room) xs = sum_by-cons (λ o. o.room) x xs in
    omega (arith, sum, low, few)

-- what a home's objects number is bounded by what they take
pub few_objects : (n greatest : ℕ) (starts : List Object) (home : ℕ) → All (IsDeclarable n greatest) starts → length (at_home home starts) ≤ sum_by (λ o. o.room) (at_home home starts)
few_objects n greatest [] home h = omega arith
few_objects n greatest (x ∷ starts) home h =
    let first = All-head (IsDeclarable n greatest) x starts h in
    let rest = few_objects n greatest starts home (All-tail (IsDeclarable n greatest) x starts h) in
    elim (x.uid.home == home) as (λ t. length (if t then x ∷ at_home home starts else at_home home starts) ≤ sum_by (λ o. o.room) (if t then x ∷ at_home home starts else at_home home starts)) [
      | true ↦ one_more_small x (at_home home starts) first.room_low rest
      | false ↦ rest
    ]
