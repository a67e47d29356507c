-- The least line of all links and notices, by the lines of the orders.
use Rattle.std.proofs.Common.{◌≡◌, ◌⊎◌, ℕ, zero, suc, ◌+◌, ◌-◌, ◌*◌, ◌/◌, ◌%◌, ◌<◌, ◌≤◌, Bool, true, false, Option, Some, None, IfSome, List, [], ◌∷◌, ◌++◌, length, map, inl, inr, refl, sym, ap, subst, ◌∙◌, arith}
use Rattle.std.specs.Prelude.{◌==◌, ◌&&◌, nat_le, if◌then◌else◌, slice_get, All}
use Rattle.std.proofs.lemmas.Bool.Decides.{nat_tests}
use Rattle.std.proofs.Math.Nat.{div-lt_iff_lt-mul, mod-lt}
use Rattle.std.proofs.lemmas.Nat.{div-add-mod'}
use Rattle.std.proofs.lemmas.Option.{same_Some, slice_get-map, slice_get_within}
use Rattle.std.specs.Option.{option_map}
use Rattle.uid_names.proofs.ListLemmas.{get-within}
use Rattle.uid_names.proofs.Passed.{equal, left-true, right-true}
use Rattle.dom_history.specs.declared.event.What.{What}
use Rattle.dom_history.specs.declared.event.What.TheVariants.{Begin, Go, Take, Notice, Ready, Mark}
use Rattle.dom_history.specs.declared.plan.Fate.{Fate}
use Rattle.dom_history.specs.declared.plan.FateRow.{FateRow}
use Rattle.dom_history.specs.Events.{Happening}
use Rattle.dom_history.specs.Plans.{fate_of}
use Rattle.fault_handler.specs.Desks.{IsNode}
use Rattle.node_runs.specs.Deliveries.{copy_if, deliveries, taken_on}
use Rattle.world_runs.specs.NamedNodes.{NamesNodes, NamesNodesIn}
use Rattle.run_journals.specs.Matching.{Taken, at_line, takes_with_lines, AreMatched}
use Rattle.run_journals.specs.Places.{sent_in, delivered_on}
use Rattle.journal_check.specs.Links.{link_place, at_link}
use Rattle.journal_check.specs.Orders.{IsOrder, IsOrderAs, IsFirstFault, fault_in, line_or, taken_of}
use Rattle.journal_check.specs.Judged.{ArePlaces, IsLeastFault, least_of, stale_line}
use Rattle.journal_check.specs.declared.order.Early.{Early}
use Rattle.journal_check.specs.declared.order.Order.{Order}
use Rattle.journal_check.specs.declared.places.Places.{Places}
use Rattle.journal_check.proofs.LinkPlaces.{link-within}
use Rattle.journal_check.proofs.Least.{IsLeast, least-line, least-none, two-none}

-- the least of a line and of others, where there are any
abbrev pub least_all : Option ℕ → List (Option ℕ) → Option ℕ
least_all o [] = o
least_all o (x ∷ xs) = least_all (least_of o x) xs

-- a line is the least of them
pub record IsLeastAll (o : Option ℕ) (xs : List (Option ℕ)) (line : ℕ) : Type 0 where
  pub which : (o ≡ Some line) ⊎ ((k : ℕ) × (slice_get xs k ≡ Some (Some line)))
  pub first : (v : ℕ) → o ≡ Some v → line ≤ v
  pub others : (k v : ℕ) → slice_get xs k ≡ Some (Some v) → line ≤ v

pub record AreNone (o : Option ℕ) (xs : List (Option ℕ)) : Type 0 where
  pub first : o ≡ None
  pub others : (k v : ℕ) → slice_get xs k ≡ Some (Some v) → ⊥

-- of two
record IsLeastTwo (o x : Option ℕ) (line : ℕ) : Type 0 where
  which : (o ≡ Some line) ⊎ (x ≡ Some line)
  first : (v : ℕ) → o ≡ Some v → line ≤ v
  other : (v : ℕ) → x ≡ Some v → line ≤ v

two-least : (o x : Option ℕ) (line : ℕ) → least_of o x ≡ Some line → IsLeastTwo o x line
two-least None x line is = record { which = inr is; first = λ v e. absurd (cc); other = λ v e. let same = same_Some line v (sym is ∙ e) in omega (arith, same) }
two-least (Some a) None line is = record { which = inl is; first = λ v e. let same = same_Some line v (sym is ∙ e) in omega (arith, same); other = λ v e. absurd (cc) }
two-least (Some a) (Some b) line is = by (nat_le a b) refl is
  where
    by : (t : Bool) → nat_le a b ≡ t → (if t then Some a else Some b) ≡ Some line → IsLeastTwo (Some a) (Some b) line
    by true low e = record {
      which = inl e;
      first = λ v f. let same = same_Some line v (sym e ∙ f) in omega (arith, same);
      other = λ v f. let one = same_Some a line e in let two = same_Some b v f in let l : a ≤ b = grind (arith, nat_tests, low) in omega (arith, one, two, l);
    }
    by false high e = record {
      which = inr e;
      first = λ v f. let one = same_Some b line e in let two = same_Some a v f in let l : b ≤ a = grind (arith, nat_tests, high) in omega (arith, one, two, l);
      other = λ v f. let same = same_Some line v (sym e ∙ f) in omega (arith, same);
    }

pub all-none : (o : Option ℕ) (xs : List (Option ℕ)) → least_all o xs ≡ None → AreNone o xs
all-none o [] is = record { first = is; others = λ k v e. cc }
all-none o (x ∷ xs) is =
    let rest = all-none (least_of o x) xs is in
    let both = two-none o x rest.first in
    record { first = both.0; others = λ k v e. at rest both.1 k v e }
  where
    at : AreNone (least_of o x) xs → x ≡ None → (k v : ℕ) → slice_get (x ∷ xs) k ≡ Some (Some v) → ⊥
    at rest none zero v e = let both : None ≡ Some v = sym none ∙ same_Some x (Some v) e in cc
    at rest none (suc k) v e = rest.others k v e

pub all-least : (o : Option ℕ) (xs : List (Option ℕ)) (line : ℕ) → least_all o xs ≡ Some line → IsLeastAll o xs line
all-least o [] line is = record { which = inl is; first = λ v e. let same = same_Some line v (sym is ∙ e) in omega (arith, same); others = λ k v e. absurd (cc) }
all-least o (x ∷ xs) line is = whole (all-least (least_of o x) xs line is)
  where
    low-first : IsLeastAll (least_of o x) xs line → (t : Option ℕ) → least_of o x ≡ t → (v : ℕ) → (o ≡ Some v) ⊎ (x ≡ Some v) → line ≤ v
    low-first rest None none v (inl e) = absurd (let both : None ≡ Some v = sym (two-none o x none).0 ∙ e in cc)
    low-first rest None none v (inr e) = absurd (let both : None ≡ Some v = sym (two-none o x none).1 ∙ e in cc)
    low-first rest (Some m) there v (inl e) = let a = (two-least o x m there).first v e in let b = rest.first m there in omega (arith, a, b)
    low-first rest (Some m) there v (inr e) = let a = (two-least o x m there).other v e in let b = rest.first m there in omega (arith, a, b)

    which-one : (least_of o x ≡ Some line) ⊎ ((k : ℕ) × (slice_get xs k ≡ Some (Some line))) → (o ≡ Some line) ⊎ ((k : ℕ) × (slice_get (x ∷ xs) k ≡ Some (Some line)))
    which-one (inr (k, e)) = inr (suc k, e)
    which-one (inl e) = of (two-least o x line e).which
      where
        of : (o ≡ Some line) ⊎ (x ≡ Some line) → (o ≡ Some line) ⊎ ((k : ℕ) × (slice_get (x ∷ xs) k ≡ Some (Some line)))
        of (inl f) = inl f
        of (inr f) = inr (0, ap (λ (y : Option ℕ). Some y) f)

    whole : IsLeastAll (least_of o x) xs line → IsLeastAll o (x ∷ xs) line
    whole rest = record {
      which = which-one rest.which;
      first = λ v e. low-first rest (least_of o x) refl v (inl e);
      others = λ k v e. at k v e;
    }
      where
        at : (k v : ℕ) → slice_get (x ∷ xs) k ≡ Some (Some v) → line ≤ v
        at zero v e = low-first rest (least_of o x) refl v (inr (same_Some x (Some v) e))
        at (suc k) v e = rest.others k v e

-- an order tells the first fault of its link
pub fault-first : (fates : ℕ → Fate) (count : ℕ) (taken : List Taken) (o : Order) → IsOrder fates count taken o → IsFirstFault (deliveries fates count) taken (fault_in o)
fault-first fates count taken o is = by o.fault o.early.items refl is.order
  where
    by : (fault : Option ℕ) (early : List Early) → o.early.items ≡ early → IsOrderAs fault (deliveries fates count) taken o.waiting o.early.items → IsFirstFault (deliveries fates count) taken (line_or fault (slice_get early 0))
    by (Some line) early same a = inl a
    by None [] same m = (m.waiting, subst (λ (ts : List Early). AreMatched (deliveries fates count) taken m.waiting (map taken_of ts)) same m.matched)
    by None (e ∷ early) same m = inr (taken_of e, map taken_of early, refl, none-waits m.matched.one_side)
      where
        matched : AreMatched (deliveries fates count) taken m.waiting (taken_of e ∷ map taken_of early)
        matched = subst (λ (ts : List Early). AreMatched (deliveries fates count) taken m.waiting (map taken_of ts)) same m.matched

        none-waits : (m.waiting ≡ []) ⊎ (map taken_of o.early.items ≡ []) → AreMatched (deliveries fates count) taken [] (taken_of e ∷ map taken_of early)
        none-waits (inl none) = subst (λ (ks : List ℕ). AreMatched (deliveries fates count) taken ks (taken_of e ∷ map taken_of early)) none matched
        none-waits (inr none) = absurd (let both : taken_of e ∷ map taken_of early ≡ [] = sym (ap (map taken_of) same) ∙ none in cc)

-- what is no link between nodes has no takes
takes-none : (nodes from to : ℕ) (es : List Happening) → All (NamesNodes nodes) es → (IsNode nodes from × IsNode nodes to → ⊥) → takes_with_lines from to es ≡ []
takes-none nodes from to [] named none = refl
takes-none nodes from to (e ∷ older) named none =
    ap (λ (ts : List Taken). ts ++ map (at_line (length older + 1)) (taken_on from to e.place.node e.what)) (takes-none nodes from to older (λ i d low. named (suc i) d (omega (arith, low))) none)
    ∙ ap (map (at_line (length older + 1))) (nothing e.what (named 0 e (omega arith)).what)
  where
    here : IsNode nodes e.place.node
    here = (named 0 e (omega arith)).place

    nothing : (what : What) → NamesNodesIn nodes what → taken_on from to e.place.node what ≡ []
    nothing (Begin p) is = refl
    nothing (Go p) is = refl
    nothing (Take a k) is = by ((a == from) && (e.place.node == to)) refl
      where
        by : (t : Bool) → ((a == from) && (e.place.node == to)) ≡ t → copy_if t k ≡ []
        by false other = refl
        by true same =
            absurd (none (
              subst (IsNode nodes) (equal a from (left-true (a == from) (e.place.node == to) same)) is,
              subst (IsNode nodes) (equal e.place.node to (right-true (a == from) (e.place.node == to) same)) here,
            ))
    nothing (Notice p a b k) is = refl
    nothing (Ready phase) is = refl
    nothing (Mark a phase) is = refl

-- the fault of each link
abbrev fault_if : Bool → Option Order → Option ℕ
fault_if true None = None
fault_if true (Some o) = fault_in o
fault_if false o = None

module _ (plan : List FateRow) (es : List Happening) (p : Places) (are : ArePlaces plan p.nodes es p) where
  abbrev fault : ℕ → ℕ → Option ℕ
  fault from to = fault_if ((nat_le 1 from && nat_le from p.nodes) && (nat_le 1 to && nat_le to p.nodes)) (at_link p.nodes from to p.orders.items)

  nodes-of : (from to : ℕ) → ((nat_le 1 from && nat_le from p.nodes) && (nat_le 1 to && nat_le to p.nodes)) ≡ true → IsNode p.nodes from × IsNode p.nodes to
  nodes-of from to test = ((grind (arith, nat_tests, test), grind (arith, nat_tests, test)), (grind (arith, nat_tests, test), grind (arith, nat_tests, test)))

  faults : (from to : ℕ) → IsFirstFault (delivered_on plan (sent_in es) from to) (takes_with_lines from to es) (fault from to)
  faults from to = by ((nat_le 1 from && nat_le from p.nodes) && (nat_le 1 to && nat_le to p.nodes)) refl
    where
      of-order : (o : Option Order) → IfSome o (IsOrder (fate_of p.plan.now from to) (sent_in es from to) (takes_with_lines from to es)) → (IsNode p.nodes from × IsNode p.nodes to) → at_link p.nodes from to p.orders.items ≡ o
          → IsFirstFault (delivered_on plan (sent_in es) from to) (takes_with_lines from to es) (fault_if true o)
      of-order None is nodes none =
          absurd (let there = get-within p.orders.items (link_place p.nodes from to) (let low = link-within p.nodes from to nodes.0 nodes.1 in let c = are.keeps.count in omega (arith, low, c)) in
          let both : None ≡ Some there.0 = sym none ∙ there.1 in cc)
      of-order (Some o) is nodes there =
          subst (λ (f : List FateRow). IsFirstFault (deliveries (fate_of f from to) (sent_in es from to)) (takes_with_lines from to es) (fault_in o)) are.plan_is
          (fault-first (fate_of p.plan.now from to) (sent_in es from to) (takes_with_lines from to es) o is)

      by : (t : Bool) → ((nat_le 1 from && nat_le from p.nodes) && (nat_le 1 to && nat_le to p.nodes)) ≡ t
          → IsFirstFault (delivered_on plan (sent_in es) from to) (takes_with_lines from to es) (fault_if t (at_link p.nodes from to p.orders.items))
      by true test =
          let nodes = nodes-of from to test in
          of-order (at_link p.nodes from to p.orders.items) (are.keeps.order from to nodes.0 nodes.1) nodes refl
      by false test =
          let none : takes_with_lines from to es ≡ [] = takes-none p.nodes from to es are.named (λ nodes.
          let low0 = nodes.0.0 in let high0 = nodes.0.1 in let low1 = nodes.1.0 in let high1 = nodes.1.1 in
          let both : true ≡ false = sym (let all : ((nat_le 1 from && nat_le from p.nodes) && (nat_le 1 to && nat_le to p.nodes)) ≡ true = grind (arith, nat_tests, low0, high0, low1, high1) in all) ∙ test in
          absurd (cc)) in
          (delivered_on plan (sent_in es) from to, record { common = []; delivered_are = refl; taken_are = none; one_side = inr refl })

  -- the link at a place
  record IsLinkAt (k : ℕ) : Type 0 where
    from : ℕ
    to : ℕ
    sends : IsNode p.nodes from
    receives : IsNode p.nodes to
    at : link_place p.nodes from to ≡ k

  link-at : (k : ℕ) → k < p.nodes * p.nodes → IsLinkAt k
  link-at k low = record {
    from = k / p.nodes + 1;
    to = k % p.nodes + 1;
    sends = (omega arith, omega (arith, row));
    receives = (omega arith, omega (arith, column));
    at = ap (λ x. x * p.nodes + (k % p.nodes + 1 - 1)) one ∙ (ap (λ y. k / p.nodes * p.nodes + y) two ∙ div-add-mod' k p.nodes);
  }
    where
      some : (n : ℕ) → k < n * n → 0 < n
      some zero below = absurd (let none : zero * zero ≡ 0 = refl in omega (arith, below, none))
      some (suc n) below = omega arith

      row : k / p.nodes < p.nodes
      row = (div-lt_iff_lt-mul {k = p.nodes} {x = k} {y = p.nodes} (some p.nodes low)).1 low

      column : k % p.nodes < p.nodes
      column = mod-lt k (some p.nodes low)

      one : k / p.nodes + 1 - 1 ≡ k / p.nodes
      one = omega arith

      two : k % p.nodes + 1 - 1 ≡ k % p.nodes
      two = omega arith

  fault-at : (from to : ℕ) → IsNode p.nodes from → IsNode p.nodes to → (o : Order) → at_link p.nodes from to p.orders.items ≡ Some o → fault from to ≡ fault_in o
  fault-at from to sends receives o there =
      let low0 = sends.0 in let high0 = sends.1 in let low1 = receives.0 in let high1 = receives.1 in
      let test : ((nat_le 1 from && nat_le from p.nodes) && (nat_le 1 to && nat_le to p.nodes)) ≡ true = grind (arith, nat_tests, low0, high0, low1, high1) in
      ap (λ t. fault_if t (at_link p.nodes from to p.orders.items)) test ∙ ap (fault_if true) there

  -- the fault of a link stands at its place
  fault-place : (from to line : ℕ) → fault from to ≡ Some line → slice_get (map fault_in p.orders.items) (link_place p.nodes from to) ≡ Some (Some line)
  fault-place from to line is = slice_get-map fault_in p.orders.items (link_place p.nodes from to) ∙ by ((nat_le 1 from && nat_le from p.nodes) && (nat_le 1 to && nat_le to p.nodes)) (at_link p.nodes from to p.orders.items) is
    where
      by : (t : Bool) (o : Option Order) → fault_if t o ≡ Some line → option_map fault_in o ≡ Some (Some line)
      by true (Some o) e = ap (λ (x : Option ℕ). Some x) e
      by true None e = absurd (cc)
      by false (Some o) e = absurd (cc)
      by false None e = absurd (cc)

  is-least : (result : Option ℕ) → least_all p.notice (map fault_in p.orders.items) ≡ result → IsLeast result fault (stale_line plan es)
  is-least None is =
      let none = all-none p.notice (map fault_in p.orders.items) is in
      (λ from to. never from to none (fault from to) refl, sym are.keeps.notice_is ∙ none.first)
    where
      never : (from to : ℕ) → AreNone p.notice (map fault_in p.orders.items) → (o : Option ℕ) → fault from to ≡ o → fault from to ≡ None
      never from to none None same = same
      never from to none (Some line) same = absurd (none.others (link_place p.nodes from to) line (fault-place from to line same))
  is-least (Some line) is =
      let least = all-least p.notice (map fault_in p.orders.items) line is in
      (which least.which, λ from to k e. least.others (link_place p.nodes from to) k (fault-place from to k e), λ k e. least.first k (are.keeps.notice_is ∙ e))
    where
      order-of : (k : ℕ) (o : Option Order) → slice_get p.orders.items k ≡ o → option_map fault_in o ≡ Some (Some line) → (from : ℕ) × (to : ℕ) × (fault from to ≡ Some line)
      order-of k None there e = absurd (cc)
      order-of k (Some o) there e =
          let c = are.keeps.count in
          let within = slice_get_within p.orders.items k o there in
          let link = link-at k (omega (arith, c, within)) in
          (link.from, link.to, fault-at link.from link.to link.sends link.receives o (ap (slice_get p.orders.items) link.at ∙ there) ∙ same_Some (fault_in o) (Some line) e)

      which : (p.notice ≡ Some line) ⊎ ((k : ℕ) × (slice_get (map fault_in p.orders.items) k ≡ Some (Some line))) → ((from : ℕ) × (to : ℕ) × (fault from to ≡ Some line)) ⊎ (stale_line plan es ≡ Some line)
      which (inl told) = inr (sym are.keeps.notice_is ∙ told)
      which (inr (k, e)) = inl (order-of k (slice_get p.orders.items k) refl (sym (slice_get-map fault_in p.orders.items k) ∙ e))

  -- so it is the line of the first event that has no place
  pub least-fault : (result : Option ℕ) → least_all p.notice (map fault_in p.orders.items) ≡ result → IsLeastFault plan es result
  least-fault None is = least-none plan (sent_in es) es fault faults (is-least None is)
  least-fault (Some line) is =
      let f = least-line plan (sent_in es) es fault faults line (is-least (Some line) is) in
      (f.newer, f.event, f.older, f.are, f.line_is, f.good, f.bad)
