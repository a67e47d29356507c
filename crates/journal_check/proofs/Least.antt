-- The first event that has no place stands at the least of the lines that links and notices tell.
use Rattle.std.proofs.Common.{◌≡◌, ◌⊎◌, ℕ, ◌+◌, ◌≤◌, Bool, true, false, Option, Some, None, List, [], ◌∷◌, ◌++◌, length, map, inl, inr, refl, sym, ap, subst, ◌∙◌, arith}
use Rattle.std.specs.Prelude.{◌==◌, ◌&&◌, not, nat_le, slice_get, if◌then◌else◌}
use Rattle.std.proofs.lemmas.Bool.{not-true}
use Rattle.std.proofs.lemmas.Bool.Decides.{nat_tests}
use Rattle.std.proofs.lemmas.List.{append-nil, append_assoc, length-append, map-append}
use Rattle.std.proofs.lemmas.Option.{same_Some}
use Rattle.uid_names.proofs.Passed.{equal, left-true, right-true}
use Rattle.dom_history.specs.declared.event.What.{What}
use Rattle.dom_history.specs.declared.event.What.TheVariants.{Begin, Go, Take, Notice, Ready, Mark}
use Rattle.dom_history.specs.declared.plan.FateRow.{FateRow}
use Rattle.dom_history.specs.Events.{Happening}
use Rattle.node_runs.specs.Deliveries.{copy_if, is_prefix, taken_on, takes_on}
use Rattle.run_journals.specs.Places.{Counts, delivered_on, is_this, is_next, is_news, has_place, keeps_plan, AllKeepPlan}
use Rattle.run_journals.specs.Matching.{Taken, at_line, takes_with_lines, AreMatched}
use Rattle.world_runs.proofs.Among.{cons-heads, cons-tails}
use Rattle.world_runs.proofs.Taking.{prefix-of}
use Rattle.run_journals.proofs.Planned.{take-kept}
use Rattle.journal_check.proofs.MatchMoves.{index_of}
use Rattle.run_journals.proofs.Prefixes.{prefix-before}
use Rattle.journal_check.specs.Judged.{least_of, is_stale, line_if, stale_line}
use Rattle.journal_check.specs.Orders.{IsFaultAt, IsFirstFault}

-- where there is no lesser of two lines there is none of them
pub two-none : (o x : Option ℕ) → least_of o x ≡ None → (o ≡ None) × (x ≡ None)
two-none None x is = (refl, is)
two-none (Some a) None is = absurd (cc)
two-none (Some a) (Some b) is = absurd (by (nat_le a b) is)
  where
    by : (t : Bool) → (if t then Some a else Some b) ≡ None → ⊥
    by true e = cc
    by false e = cc

indices-at : (line : ℕ) (ks : List ℕ) → map index_of (map (at_line line) ks) ≡ ks
indices-at line [] = refl
indices-at line (k ∷ ks) = ap (λ (xs : List ℕ). k ∷ xs) (indices-at line ks)

-- without their lines they are what was taken
pub indices-taken : (from to : ℕ) (es : List Happening) → map index_of (takes_with_lines from to es) ≡ takes_on from to es
indices-taken from to [] = refl
indices-taken from to (e ∷ older) =
    map-append index_of (takes_with_lines from to older) (map (at_line (length older + 1)) (taken_on from to e.place.node e.what))
    ∙ ap (λ (xs : List ℕ). xs ++ map index_of (map (at_line (length older + 1)) (taken_on from to e.place.node e.what))) (indices-taken from to older)
    ∙ ap (λ (xs : List ℕ). takes_on from to older ++ xs) (indices-at (length older + 1) (taken_on from to e.place.node e.what))

-- where all frames of a link were taken in their places
pub first-where-matched : (from to : ℕ) (es : List Happening) (delivered waiting : List ℕ) → AreMatched delivered (takes_with_lines from to es) waiting [] → is_prefix (takes_on from to es) delivered ≡ true
first-where-matched from to es delivered waiting m =
    let taken : takes_on from to es ≡ map index_of m.common = sym (indices-taken from to es) ∙ ap (map index_of) (m.taken_are ∙ append-nil m.common) in
    ap (λ (xs : List ℕ). is_prefix xs delivered) taken
    ∙ (ap (is_prefix (map index_of m.common)) m.delivered_are ∙ prefix-of (map index_of m.common) waiting)

-- the event at which a frame of a link was taken, by its line
pub record IsTakenBy (from to : ℕ) (es : List Happening) (common : List Taken) (index line : ℕ) : Type 0 where
  pub newer : List Happening
  pub event : Happening
  pub older : List Happening
  pub are : es ≡ newer ++ event ∷ older
  pub line_is : line ≡ length older + 1
  pub node : event.place.node ≡ to
  pub what : event.what ≡ Take from index
  pub before : takes_with_lines from to older ≡ common

-- the last of two lists that are put together
no-tail : (cs : List Taken) (y : Taken) (rest : List Taken) → [] ≡ cs ++ y ∷ rest → ⊥
no-tail [] y rest e = absurd (cc)
no-tail (c ∷ cs) y rest e = absurd (cc)

last-or-before : (xs common rest : List Taken) (x y : Taken) → xs ++ x ∷ [] ≡ common ++ y ∷ rest → ((xs ≡ common) × (x ≡ y)) ⊎ ((more : List Taken) × (xs ≡ common ++ y ∷ more))
last-or-before [] [] rest x y same = inl (refl, cons-heads x y [] rest same)
last-or-before [] (c ∷ common) rest x y same = absurd (no-tail common y rest (cons-tails x c [] (common ++ y ∷ rest) same))
last-or-before (a ∷ xs) [] rest x y same = inr (xs, ap (λ (z : Taken). z ∷ xs) (cons-heads a y (xs ++ x ∷ []) rest same))
last-or-before (a ∷ xs) (c ∷ common) rest x y same =
    let heads = cons-heads a c (xs ++ x ∷ []) (common ++ y ∷ rest) same in
    by heads (last-or-before xs common rest x y (cons-tails a c (xs ++ x ∷ []) (common ++ y ∷ rest) same))
  where
    by : a ≡ c → ((xs ≡ common) × (x ≡ y)) ⊎ ((more : List Taken) × (xs ≡ common ++ y ∷ more)) → ((a ∷ xs ≡ c ∷ common) × (x ≡ y)) ⊎ ((more : List Taken) × (a ∷ xs ≡ (c ∷ common) ++ y ∷ more))
    by heads (inl both) = inl (ap (λ (z : Taken). z ∷ xs) heads ∙ ap (λ (zs : List Taken). c ∷ zs) both.0, both.1)
    by heads (inr on) = inr (on.0, ap (λ (z : Taken). z ∷ xs) heads ∙ ap (λ (zs : List Taken). c ∷ zs) on.1)

module _ (from to index line : ℕ) (common : List Taken) where
  -- one event more behind those among which it is
  further : (e : Happening) (older : List Happening) → IsTakenBy from to older common index line → IsTakenBy from to (e ∷ older) common index line
  further e older is = record {
    newer = e ∷ is.newer;
    event = is.event;
    older = is.older;
    are = ap (λ (es : List Happening). e ∷ es) is.are;
    line_is = is.line_is;
    node = is.node;
    what = is.what;
    before = is.before;
  }

  -- the event itself took it
  here : (e : Happening) (older : List Happening) → e.place.node ≡ to → e.what ≡ Take from index → line ≡ length older + 1 → takes_with_lines from to older ≡ common → IsTakenBy from to (e ∷ older) common index line
  here e older node what line_is before = record { newer = []; event = e; older = older; are = refl; line_is = line_is; node = node; what = what; before = before }

module _ (from to : ℕ) where
  -- what was taken with these before it was taken by one event
  pub found : (es : List Happening) (common rest : List Taken) (index line : ℕ) → takes_with_lines from to es ≡ common ++ at_line line index ∷ rest → IsTakenBy from to es common index line
  found [] common rest index line same = absurd (no-tail common (at_line line index) rest same)
  found (e ∷ older) common rest index line same = by (λ more is. found older common more index line is) e.what refl
    where
      IsFoundBefore : Type 0
      IsFoundBefore = (more : List Taken) → takes_with_lines from to older ≡ common ++ at_line line index ∷ more → IsTakenBy from to older common index line

      nothing : IsFoundBefore → takes_with_lines from to older ++ [] ≡ common ++ at_line line index ∷ rest → IsTakenBy from to (e ∷ older) common index line
      nothing before is = further from to index line common e older (before rest (sym (append-nil (takes_with_lines from to older)) ∙ is))

      one : IsFoundBefore → (sender i : ℕ) (b : Bool) → e.what ≡ Take sender i → ((sender == from) && (e.place.node == to)) ≡ b
          → takes_with_lines from to older ++ map (at_line (length older + 1)) (copy_if b i) ≡ common ++ at_line line index ∷ rest → IsTakenBy from to (e ∷ older) common index line
      one before sender i false what test is = nothing before is
      one before sender i true what test is = split (last-or-before (takes_with_lines from to older) common rest (at_line (length older + 1) i) (at_line line index) is)
        where
          split : ((takes_with_lines from to older ≡ common) × (at_line (length older + 1) i ≡ at_line line index)) ⊎ ((more : List Taken) × (takes_with_lines from to older ≡ common ++ at_line line index ∷ more))
              → IsTakenBy from to (e ∷ older) common index line
          split (inl both) =
              let sender_is : sender ≡ from = equal sender from (left-true (sender == from) (e.place.node == to) test) in
              let node_is : e.place.node ≡ to = equal e.place.node to (right-true (sender == from) (e.place.node == to) test) in
              here from to index line common e older node_is
              (what ∙ ap (λ (k : ℕ). Take k i) sender_is ∙ ap (λ (t : Taken). Take from t.index) both.1) (sym (ap (λ (t : Taken). t.line) both.1)) both.0
          split (inr on) = further from to index line common e older (before on.0 on.1)

      as-what : (what : What) → e.what ≡ what → takes_with_lines from to older ++ map (at_line (length older + 1)) (taken_on from to e.place.node what) ≡ common ++ at_line line index ∷ rest
      as-what what is = subst (λ (x : What). takes_with_lines from to older ++ map (at_line (length older + 1)) (taken_on from to e.place.node x) ≡ common ++ at_line line index ∷ rest) is same

      by : IsFoundBefore → (what : What) → e.what ≡ what → IsTakenBy from to (e ∷ older) common index line
      by before (Begin p) is = nothing before (as-what (Begin p) is)
      by before (Go p) is = nothing before (as-what (Go p) is)
      by before (Take sender i) is = one before sender i ((sender == from) && (e.place.node == to)) is refl (as-what (Take sender i) is)
      by before (Notice p a b i) is = nothing before (as-what (Notice p a b i) is)
      by before (Ready phase) is = nothing before (as-what (Ready phase) is)
      by before (Mark a phase) is = nothing before (as-what (Mark a phase) is)

  -- newer events only add to what was taken
  takes-more : (newer older : List Happening) → (more : List ℕ) × (takes_on from to (newer ++ older) ≡ takes_on from to older ++ more)
  takes-more [] older = ([], sym (append-nil (takes_on from to older)))
  takes-more (e ∷ newer) older =
      let rest = takes-more newer older in (
        rest.0 ++ taken_on from to e.place.node e.what,
        ap (λ (xs : List ℕ). xs ++ taken_on from to e.place.node e.what) rest.1 ∙ append_assoc (takes_on from to older) rest.0 (taken_on from to e.place.node e.what),
      )

  pub first-before : (newer older : List Happening) (delivered : List ℕ) → is_prefix (takes_on from to (newer ++ older)) delivered ≡ true → is_prefix (takes_on from to older) delivered ≡ true
  first-before newer older delivered is =
      let more = takes-more newer older in
      prefix-before (takes_on from to older) more.0 delivered (subst (λ (xs : List ℕ). is_prefix xs delivered ≡ true) more.1 is)

-- what stands behind a front
slice-at : (xs : List ℕ) (y : ℕ) (ys : List ℕ) → slice_get (xs ++ y ∷ ys) (length xs) ≡ Some y
slice-at [] y ys = refl
slice-at (x ∷ xs) y ys = slice-at xs y ys

slice-end : (xs : List ℕ) → slice_get xs (length xs) ≡ None
slice-end [] = refl
slice-end (x ∷ xs) = slice-end xs

-- of two ends of one list the longer goes on from the shorter
ends : (newer a other b : List Happening) → newer ++ a ≡ other ++ b → length a ≤ length b → (more : List Happening) × (b ≡ more ++ a)
ends newer a [] b same low = (newer, sym same)
ends [] a (x ∷ other) b same low =
    absurd (let l = ap length same in let m : length ((x ∷ other) ++ b) ≡ length (x ∷ other) + length b = length-append (x ∷ other) b in omega (arith, l, m, low))
ends (x ∷ newer) a (y ∷ other) b same low = ends newer a other b (cons-tails x y (newer ++ a) (other ++ b) same) low

-- the first line that tells of a frame that is not news
pub record IsStaleAt (plan : List FateRow) (es : List Happening) (line : ℕ) : Type 0 where
  pub newer : List Happening
  pub event : Happening
  pub older : List Happening
  pub are : es ≡ newer ++ event ∷ older
  pub line_is : line ≡ length older + 1
  pub stale : is_stale plan older event.what ≡ true

module _ (plan : List FateRow) where
  -- no line is above those before
  stale-low : (es : List Happening) (line : ℕ) → stale_line plan es ≡ Some line → line ≤ length es
  stale-low [] line is = absurd (cc)
  stale-low (e ∷ older) line is = by (λ k old. stale-low older k old) (stale_line plan older) (is_stale plan older e.what) refl is
    where
      by : ((k : ℕ) → stale_line plan older ≡ Some k → k ≤ length older) → (o : Option ℕ) (b : Bool) → stale_line plan older ≡ o → least_of o (line_if b (length older + 1)) ≡ Some line → line ≤ length (e ∷ older)
      by before None false old is = absurd (cc)
      by before None true old is = let e = same_Some (length older + 1) line is in omega (arith, e)
      by before (Some k) false old is = let e = same_Some k line is in let low = before k old in omega (arith, e, low)
      by before (Some k) true old is =
          let low = before k old in
          let less : nat_le k (length older + 1) ≡ true = grind (arith, nat_tests, low) in
          let e = same_Some k line (sym (ap (λ c. if c then Some k else Some (length older + 1)) less) ∙ is) in
          omega (arith, e, low)

  pub stale-found : (es : List Happening) (line : ℕ) → stale_line plan es ≡ Some line → IsStaleAt plan es line
  stale-found [] line is = absurd (cc)
  stale-found (e ∷ older) line is = by (λ k old. stale-found older k old) (stale_line plan older) (is_stale plan older e.what) refl refl is
    where
      on : IsStaleAt plan older line → IsStaleAt plan (e ∷ older) line
      on at = record { newer = e ∷ at.newer; event = at.event; older = at.older; are = ap (λ (xs : List Happening). e ∷ xs) at.are; line_is = at.line_is; stale = at.stale }

      by : ((k : ℕ) → stale_line plan older ≡ Some k → IsStaleAt plan older k) → (o : Option ℕ) (b : Bool) → stale_line plan older ≡ o → is_stale plan older e.what ≡ b → least_of o (line_if b (length older + 1)) ≡ Some line
          → IsStaleAt plan (e ∷ older) line
      by before None false old test is = absurd (cc)
      by before None true old test is = record { newer = []; event = e; older = older; are = refl; line_is = sym (same_Some (length older + 1) line is); stale = test }
      by before (Some k) false old test is = on (before line (old ∙ is))
      by before (Some k) true old test is =
          let low = stale-low older k old in
          let less : nat_le k (length older + 1) ≡ true = grind (arith, nat_tests, low) in
          let same = same_Some k line (sym (ap (λ c. if c then Some k else Some (length older + 1)) less) ∙ is) in
          on (before line (old ∙ ap (λ (n : ℕ). Some n) same))

  -- where no line tells of such a frame none before does, and no event
  not-stale : (b : Bool) (line : ℕ) → line_if b line ≡ None → b ≡ false
  not-stale true line is = absurd (cc)
  not-stale false line is = refl

  -- each event has its place where frames of each link were taken in their places and no line tells of what is not news
  module _ (sent : Counts) where
    place-of : (node : ℕ) (what : What) (older : List Happening) → ((from to : ℕ) → is_prefix (takes_on from to older ++ taken_on from to node what) (delivered_on plan sent from to) ≡ true)
        → is_stale plan older what ≡ false → has_place plan sent older node what ≡ true
    place-of node (Begin p) older first fresh = refl
    place-of node (Go p) older first fresh = refl
    place-of node (Take sender index) older first fresh = take-kept plan sent node sender index older (first sender node)
    place-of node (Notice p a b index) older first fresh = by (is_news plan older a b index) fresh
      where
        by : (t : Bool) → not t ≡ false → t ≡ true
        by true is = refl
        by false is = absurd (cc)
    place-of node (Ready phase) older first fresh = refl
    place-of node (Mark a phase) older first fresh = refl

    pub all-placed : (es : List Happening) → ((from to : ℕ) → is_prefix (takes_on from to es) (delivered_on plan sent from to) ≡ true) → stale_line plan es ≡ None → AllKeepPlan plan sent es
    all-placed [] first none = tt
    all-placed (e ∷ older) first none =
        let both = two-none (stale_line plan older) (line_if (is_stale plan older e.what) (length older + 1)) none in (
          place-of e.place.node e.what older first (not-stale (is_stale plan older e.what) (length older + 1) both.1),
          all-placed older (λ from to. first-before from to (e ∷ []) older (delivered_on plan sent from to) (first from to)) both.0,
        )

  -- a line that tells of such a frame stays the first one
  stale-more : (newer older : List Happening) (k : ℕ) → stale_line plan older ≡ Some k → stale_line plan (newer ++ older) ≡ Some k
  stale-more [] older k is = is
  stale-more (e ∷ newer) older k is =
      let before = stale-more newer older k is in
      let low = stale-low (newer ++ older) k before in
      ap (λ (o : Option ℕ). least_of o (line_if (is_stale plan (newer ++ older) e.what) (length (newer ++ older) + 1))) before ∙ by (is_stale plan (newer ++ older) e.what) (length (newer ++ older) + 1) (omega (arith, low))
    where
      by : (b : Bool) (line : ℕ) → k ≤ line → least_of (Some k) (line_if b line) ≡ Some k
      by false line low = refl
      by true line low = let less : nat_le k line ≡ true = grind (arith, nat_tests, low) in ap (λ c. if c then Some k else Some line) less

-- the least of the lines that links and notices tell
abbrev pub IsLeast : Option ℕ → (ℕ → ℕ → Option ℕ) → Option ℕ → Type 0
IsLeast None fault stale = ((from to : ℕ) → fault from to ≡ None) × (stale ≡ None)
IsLeast (Some line) fault stale =
    (((from : ℕ) × (to : ℕ) × (fault from to ≡ Some line)) ⊎ (stale ≡ Some line)) × ((from to k : ℕ) → fault from to ≡ Some k → line ≤ k) × ((k : ℕ) → stale ≡ Some k → line ≤ k)

module _ (plan : List FateRow) (sent : Counts) (es : List Happening) (fault : ℕ → ℕ → Option ℕ)
    (faults : (from to : ℕ) → IsFirstFault (delivered_on plan sent from to) (takes_with_lines from to es) (fault from to)) where
  abbrev delivered : ℕ → ℕ → List ℕ
  delivered from to = delivered_on plan sent from to

  -- the event that took a frame out of its place
  record IsBadTake (from to line : ℕ) : Type 0 where
    common : List Taken
    index : ℕ
    behind : List ℕ
    takes : IsTakenBy from to es common index line
    delivered_are : delivered from to ≡ map index_of common ++ behind
    bad : is_this index (slice_get (map index_of common ++ behind) (length (map index_of common))) ≡ false

  bad-take : (from to line : ℕ) → IsFaultAt (delivered from to) (takes_with_lines from to es) line → IsBadTake from to line
  bad-take from to line (inl a) = record {
    common = a.common;
    index = a.index;
    behind = a.other ∷ a.more;
    takes = found from to es a.common a.rest a.index line a.taken_are;
    delivered_are = a.delivered_are;
    bad = ap (is_this a.index) (slice-at (map index_of a.common) a.other a.more) ∙ differ a.index a.other a.differ;
  }
    where
      differ : (m n : ℕ) → (m ≡ n → ⊥) → (m == n) ≡ false
      differ m n apart = grind (arith, nat_tests, apart)
  bad-take from to line (inr (first, more, line_is, m)) = record {
    common = m.common;
    index = first.index;
    behind = [];
    takes = found from to es m.common more first.index line (m.taken_are ∙ ap (λ (k : ℕ). m.common ++ at_line k first.index ∷ more) line_is);
    delivered_are = m.delivered_are;
    bad = ap (λ (xs : List ℕ). is_this first.index (slice_get xs (length (map index_of m.common)))) (append-nil (map index_of m.common))
        ∙ ap (is_this first.index) (slice-end (map index_of m.common));
  }

  module _ (from to line : ℕ) (t : IsBadTake from to line) where
    taken-before : takes_on from to t.takes.older ≡ map index_of t.common
    taken-before = sym (indices-taken from to t.takes.older) ∙ ap (map index_of) t.takes.before

    first-there : is_prefix (takes_on from to t.takes.older) (delivered from to) ≡ true
    first-there =
        ap (λ (xs : List ℕ). is_prefix xs (delivered from to)) taken-before
        ∙ (ap (is_prefix (map index_of t.common)) t.delivered_are ∙ prefix-of (map index_of t.common) t.behind)

    bad-there : keeps_plan plan sent t.takes.older t.takes.event ≡ false
    bad-there =
        ap (has_place plan sent t.takes.older t.takes.event.place.node) t.takes.what
        ∙ (ap (λ (n : ℕ). is_next plan sent t.takes.older from n t.index) t.takes.node
        ∙ (ap (λ (xs : List ℕ). is_this t.index (slice_get (delivered from to) (length xs))) taken-before
        ∙ (ap (λ (ys : List ℕ). is_this t.index (slice_get ys (length (map index_of t.common)))) t.delivered_are ∙ t.bad)))

  -- before that line frames were taken in their places on each link
  first-until : (from to line : ℕ) (newer older : List Happening) → es ≡ newer ++ older → line ≡ length older + 1 → ((k : ℕ) → fault from to ≡ Some k → line ≤ k)
      → is_prefix (takes_on from to older) (delivered from to) ≡ true
  first-until from to line newer older are line_is least = by (fault from to) refl (faults from to)
    where
      by : (o : Option ℕ) → fault from to ≡ o → IsFirstFault (delivered from to) (takes_with_lines from to es) o → is_prefix (takes_on from to older) (delivered from to) ≡ true
      by None is (waiting, m) =
          first-before from to newer older (delivered from to)
          (subst (λ (xs : List Happening). is_prefix (takes_on from to xs) (delivered from to) ≡ true) are (first-where-matched from to es (delivered from to) waiting m))
      by (Some k) is f =
          let t = bad-take from to k f in
          let low = least k is in
          let later = t.takes.line_is in
          let whole : newer ++ older ≡ (t.takes.newer ++ t.takes.event ∷ []) ++ t.takes.older = sym are ∙ (t.takes.are ∙ sym (append_assoc t.takes.newer (t.takes.event ∷ []) t.takes.older)) in
          let more = ends newer older (t.takes.newer ++ t.takes.event ∷ []) t.takes.older whole (omega (arith, low, later, line_is)) in
          first-before from to more.0 older (delivered from to) (subst (λ (xs : List Happening). is_prefix (takes_on from to xs) (delivered from to) ≡ true) more.1 (first-there from to k t))

  -- so each event before it has its place
  kept-until : (line : ℕ) (newer : List Happening) (e : Happening) (older : List Happening) → es ≡ newer ++ e ∷ older → line ≡ length older + 1
      → ((from to k : ℕ) → fault from to ≡ Some k → line ≤ k) → ((k : ℕ) → stale_line plan es ≡ Some k → line ≤ k) → AllKeepPlan plan sent older
  kept-until line newer e older are line_is links notices =
      let whole : es ≡ (newer ++ e ∷ []) ++ older = are ∙ sym (append_assoc newer (e ∷ []) older) in
      all-placed plan sent older (λ from to. first-until from to line (newer ++ e ∷ []) older whole line_is (links from to)) (none (stale_line plan older) refl whole)
    where
      none : (o : Option ℕ) → stale_line plan older ≡ o → es ≡ (newer ++ e ∷ []) ++ older → stale_line plan older ≡ None
      none None is whole = is
      none (Some k) is whole =
          absurd (let low = stale-low plan older k is in let high = notices k (ap (stale_line plan) whole ∙ stale-more plan (newer ++ e ∷ []) older k is) in omega (arith, low, high, line_is))

  -- the first event that has no place
  pub record IsFirstWithout (line : ℕ) : Type 0 where
    pub newer : List Happening
    pub event : Happening
    pub older : List Happening
    pub are : es ≡ newer ++ event ∷ older
    pub line_is : line ≡ length older + 1
    pub good : AllKeepPlan plan sent older
    pub bad : keeps_plan plan sent older event ≡ false

  pub least-line : (line : ℕ) → IsLeast (Some line) fault (stale_line plan es) → IsFirstWithout line
  least-line line (which, links, notices) = by which
    where
      by : ((from : ℕ) × (to : ℕ) × (fault from to ≡ Some line)) ⊎ (stale_line plan es ≡ Some line) → IsFirstWithout line
      by (inl (from, to, is)) =
          let t = bad-take from to line (subst (λ (o : Option ℕ). IsFirstFault (delivered from to) (takes_with_lines from to es) o) is (faults from to)) in
          record {
            newer = t.takes.newer;
            event = t.takes.event;
            older = t.takes.older;
            are = t.takes.are;
            line_is = t.takes.line_is;
            good = kept-until line t.takes.newer t.takes.event t.takes.older t.takes.are t.takes.line_is links notices;
            bad = bad-there from to line t;
          }
      by (inr is) =
          let t = stale-found plan es line is in
          record {
            newer = t.newer;
            event = t.event;
            older = t.older;
            are = t.are;
            line_is = t.line_is;
            good = kept-until line t.newer t.event t.older t.are t.line_is links notices;
            bad = stale-bad t.older t.event.place.node t.event.what t.stale;
          }
        where
          stale-bad : (older : List Happening) (node : ℕ) (what : What) → is_stale plan older what ≡ true → has_place plan sent older node what ≡ false
          stale-bad older node (Notice p a b index) stale = not-true (is_news plan older a b index) stale
          stale-bad older node (Begin p) stale = absurd (cc)
          stale-bad older node (Go p) stale = absurd (cc)
          stale-bad older node (Take a index) stale = absurd (cc)
          stale-bad older node (Ready phase) stale = absurd (cc)
          stale-bad older node (Mark a phase) stale = absurd (cc)

  -- or each has its place
  pub least-none : IsLeast None fault (stale_line plan es) → AllKeepPlan plan sent es
  least-none (links, notices) = all-placed plan sent es (λ from to. by from to (fault from to) (links from to) (faults from to)) notices
    where
      by : (from to : ℕ) (o : Option ℕ) → o ≡ None → IsFirstFault (delivered from to) (takes_with_lines from to es) o → is_prefix (takes_on from to es) (delivered from to) ≡ true
      by from to None is (waiting, m) = first-where-matched from to es (delivered from to) waiting m
      by from to (Some k) is f = absurd (cc)
