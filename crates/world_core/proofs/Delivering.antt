-- A frame or a mark comes to a link: what it changes of the listed events.
use Rattle.std.proofs.Common.{◌≡◌, ℕ, zero, suc, ◌+◌, ◌<◌, ◌≤◌, Bool, true, false, cond, Some, List, [], ◌∷◌, ◌++◌, map, take, drop, length, refl, sym, ap, subst, ◌∙◌, arith}
use Rattle.std.specs.Prelude.{filter, flat_map, slice_get, slice_set, All, is_some, nat_lt}
use Rattle.std.proofs.lemmas.List.{append_assoc, take-append-drop, take-set, drop-set-lt}
use Rattle.std.proofs.lemmas.List.Elements.{All-nil, All-cons, All-append, All-head, All-tail}
use Rattle.std.proofs.Math.Seq.{take-append_seam, drop-append_seam}
use Rattle.std.proofs.lemmas.Option.{slice_get_within}
use Rattle.uid_names.proofs.ListLemmas.{set-there}
use Rattle.dom_history.specs.declared.event.What.TheVariants.{Begin, Go, Ready}
use Rattle.dom_history.specs.declared.plan.Fate.{Fate}
use Rattle.ring_messages.specs.Frames.{Message}
use Rattle.fault_handler.specs.Desks.{procs}
use Rattle.ring_links.specs.declared.entry.Entry.{Entry}
use Rattle.ring_links.specs.Carried.{Carrying}
use Rattle.node_core.specs.declared.setup.Incoming as code
use Rattle.node_core.specs.Nodes.{Noted, state_of}
use Rattle.world_core.specs.declared.coming.Coming.{Coming}
use Rattle.ring_links.specs.declared.notice.Notice.{Notice}
use Rattle.world_core.specs.declared.station.LinkFrom.{LinkFrom}
use Rattle.world_core.specs.declared.station.Station.{Station}
use Rattle.world_core.specs.Stations.{Candidate, start, starts_of, notice_at, noticed, oldest_of, oldest, passes, comings, candidates}
use Rattle.world_core.specs.Sending.{link_with, delivered_to, delivered, mark_with, marked_to, marked}
use Rattle.world_core.specs.Listed.{IsListed}
use Rattle.world_core.specs.Before.{is_before, count_if, count_before, before_link, behind_link}
use Rattle.world_core.proofs.Comings.{comings_append}

-- nothing is put
pub put_nothing : (k : ℕ) (xs : List Coming) → take k xs ++ ([] ++ drop k xs) ≡ xs
put_nothing k xs = take-append-drop k xs

-- the oldest entries of links: those before one, its own, those behind it
pub split : (ls : List LinkFrom) (k i j : ℕ) (l : LinkFrom) → j ≡ i + k → slice_get ls k ≡ Some l
    → oldest i ls ≡ oldest i (take k ls) ++ (oldest_of j l.from l.link.queue ++ oldest (j + 1) (drop (suc k) ls))
split [] k i j l at there = absurd (cc)
split (x ∷ ls) zero i j l at there =
    let same : x ≡ l = cc in
    let here : i ≡ j = omega (arith, at) in
    ap (λ (y : LinkFrom). oldest_of i y.from y.link.queue ++ oldest (i + 1) ls) same
    ∙ ap (λ (n : ℕ). oldest_of n l.from l.link.queue ++ oldest (n + 1) ls) here
split (x ∷ ls) (suc k) i j l at there =
    ap (λ (cs : List Candidate). oldest_of i x.from x.link.queue ++ cs) (split ls k (i + 1) j l (omega (arith, at)) there)
    ∙ sym (append_assoc (oldest_of i x.from x.link.queue) (oldest (i + 1) (take k ls)) (oldest_of j l.from l.link.queue ++ oldest (j + 1) (drop (suc k) ls)))

-- the same, where another link is put there
pub split-set : (ls : List LinkFrom) (k : ℕ) (l : LinkFrom) → k < length ls
    → oldest 0 (slice_set ls k l) ≡ oldest 0 (take k ls) ++ (oldest_of k l.from l.link.queue ++ oldest (k + 1) (drop (suc k) ls))
split-set ls k l within =
    split (slice_set ls k l) k 0 k l (omega arith) (set-there ls k l within)
    ∙ ap (λ (xs : List LinkFrom). oldest 0 xs ++ (oldest_of k l.from l.link.queue ++ oldest (k + 1) (drop (suc k) (slice_set ls k l)))) (take-set ls k l)
    ∙ ap (λ (xs : List LinkFrom). oldest 0 (take k ls) ++ (oldest_of k l.from l.link.queue ++ oldest (k + 1) xs)) (drop-set-lt (suc k) ls k l (omega arith))

-- what comes behind the oldest entry changes nothing of it
head-same : (i from : ℕ) (q more : List (Entry code.Incoming)) → is_some (slice_get q 0) ≡ true → oldest_of i from (q ++ more) ≡ oldest_of i from q
head-same i from [] more there = absurd (cc)
head-same i from (e ∷ q) more there = refl

-- nothing waits
none-waits : (i from : ℕ) (q : List (Entry code.Incoming)) → is_some (slice_get q 0) ≡ false → oldest_of i from q ≡ []
none-waits i from [] none = refl
none-waits i from (e ∷ q) none = absurd (cc)

-- candidates in two parts
regroup : (S N A B R : List Candidate) → S ++ (N ++ ((A ++ B) ++ R)) ≡ (S ++ (N ++ A)) ++ (B ++ R)
regroup S N A B R =
    ap (λ (cs : List Candidate). S ++ (N ++ cs)) (append_assoc A B R)
    ∙ ap (λ (cs : List Candidate). S ++ cs) (sym (append_assoc N A (B ++ R)))
    ∙ sym (append_assoc S (N ++ A) (B ++ R))

-- each comes before, or none does
abbrev Are : ℕ → Bool → List Candidate → Type 0
Are at b cs = All (λ c. is_before at c.coming ≡ b) cs

module _ (at : ℕ) where
  starts-before : (ps : List ℕ) → Are at true (flat_map starts_of ps)
  starts-before [] = All-nil (λ (c : Candidate). is_before at c.coming ≡ true)
  starts-before (p ∷ ps) =
      All-append (λ (c : Candidate). is_before at c.coming ≡ true) (starts_of p) (flat_map starts_of ps)
      (All-cons (λ (c : Candidate). is_before at c.coming ≡ true) (start (Begin p)) (start (Go p) ∷ []) refl
      (All-cons (λ (c : Candidate). is_before at c.coming ≡ true) (start (Go p)) [] refl (All-nil (λ (c : Candidate). is_before at c.coming ≡ true))))
      (starts-before ps)

  notices-before : (i : ℕ) (notices : List Notice) → Are at true (noticed i notices)
  notices-before i [] = All-nil (λ (c : Candidate). is_before at c.coming ≡ true)
  notices-before i (x ∷ more) = All-cons (λ (c : Candidate). is_before at c.coming ≡ true) (notice_at i x) (noticed (i + 1) more) refl (notices-before (i + 1) more)

  one-link : (b : Bool) (i from : ℕ) (q : List (Entry code.Incoming)) → nat_lt i at ≡ b → Are at b (oldest_of i from q)
  one-link b i from [] is = All-nil (λ (c : Candidate). is_before at c.coming ≡ b)
  one-link b i from (e ∷ q) is = All-cons (λ (c : Candidate). is_before at c.coming ≡ b) _ [] is (All-nil (λ (c : Candidate). is_before at c.coming ≡ b))

  links-before : (i : ℕ) (ls : List LinkFrom) → i + length ls ≤ at → Are at true (oldest i ls)
  links-before i [] few = All-nil (λ (c : Candidate). is_before at c.coming ≡ true)
  links-before i (l ∷ ls) few =
      All-append (λ (c : Candidate). is_before at c.coming ≡ true) (oldest_of i l.from l.link.queue) (oldest (i + 1) ls)
      (one-link true i l.from l.link.queue (let low : i < at = omega (arith, few) in grind (arith, low))) (links-before (i + 1) ls (omega (arith, few)))

  links-behind : (i : ℕ) (ls : List LinkFrom) → at < i → Are at false (oldest i ls)
  links-behind i [] above = All-nil (λ (c : Candidate). is_before at c.coming ≡ false)
  links-behind i (l ∷ ls) above =
      All-append (λ (c : Candidate). is_before at c.coming ≡ false) (oldest_of i l.from l.link.queue) (oldest (i + 1) ls)
      (one-link false i l.from l.link.queue (let low : at ≤ i = omega (arith, above) in grind (arith, low))) (links-behind (i + 1) ls (omega (arith, above)))

  module _ {P : Type 0} (node : Noted P) where
    count-one : (c : Candidate) (kept rest : List Coming) (b : Bool) → is_before at c.coming ≡ true → count_before at (kept ++ rest) ≡ length kept + count_before at rest
        → count_before at (cond b (c.coming ∷ kept) kept ++ rest) ≡ length (cond b (c.coming ∷ kept) kept) + count_before at rest
    count-one c kept rest true is same = ap (λ (b : Bool). count_if b (count_before at (kept ++ rest))) is ∙ omega (arith, same)
    count-one c kept rest false is same = same

    map-one : (c : Candidate) (kept : List Candidate) (b : Bool) → map (λ (d : Candidate). d.coming) (cond b (c ∷ kept) kept) ≡ cond b (c.coming ∷ map (λ (d : Candidate). d.coming) kept) (map (λ (d : Candidate). d.coming) kept)
    map-one c kept true = refl
    map-one c kept false = refl

    counted : (cs : List Candidate) (rest : List Coming) → Are at true cs → count_before at (comings node cs ++ rest) ≡ length (comings node cs) + count_before at rest
    counted [] rest all = let n = count_before at rest in let e : n ≡ 0 + n = omega arith in e
    counted (c ∷ cs) rest all =
        subst (λ (xs : List Coming). count_before at (xs ++ rest) ≡ length xs + count_before at rest) (sym (map-one c (filter (passes node) cs) (passes node c)))
        (count-one c (comings node cs) rest (passes node c) (All-head (λ (d : Candidate). is_before at d.coming ≡ true) c cs all)
        (counted cs rest (All-tail (λ (d : Candidate). is_before at d.coming ≡ true) c cs all)))

    none-one : (c : Candidate) (kept : List Coming) (b : Bool) → is_before at c.coming ≡ false → count_before at kept ≡ 0 → count_before at (cond b (c.coming ∷ kept) kept) ≡ 0
    none-one c kept true is same = ap (λ (b : Bool). count_if b (count_before at kept)) is
    none-one c kept false is same = same

    none-counted : (cs : List Candidate) → Are at false cs → count_before at (comings node cs) ≡ 0
    none-counted [] all = refl
    none-counted (c ∷ cs) all =
        subst (λ (xs : List Coming). count_before at xs ≡ 0) (sym (map-one c (filter (passes node) cs) (passes node c)))
        (none-one c (comings node cs) (passes node c) (All-head (λ (d : Candidate). is_before at d.coming ≡ false) c cs all)
        (none-counted cs (All-tail (λ (d : Candidate). is_before at d.coming ≡ false) c cs all)))

-- a loop over listed events
pub count-start : (at : ℕ) (list : List Coming) → count_before at list ≡ 0 + count_before at (drop 0 list)
count-start at list = let n = count_before at list in let e : n ≡ 0 + n = omega arith in e

pub count-step : (at : ℕ) (list : List Coming) (i : ℕ) (c : Coming) → i < length list → drop i list ≡ c ∷ drop (i + 1) list → is_before at c ≡ true → count_before at list ≡ i + count_before at (drop i list)
    → count_before at list ≡ i + 1 + count_before at (drop (i + 1) list)
count-step at list i c within front is so =
    let one : count_before at (drop i list) ≡ count_before at (drop (i + 1) list) + 1 =
    ap (count_before at) front ∙ ap (λ (b : Bool). count_if b (count_before at (drop (i + 1) list))) is in
    omega (arith, so, one)

pub count-stop : (at : ℕ) (list : List Coming) (i : ℕ) (c : Coming) → drop i list ≡ c ∷ drop (i + 1) list → is_before at c ≡ false → count_before at list ≡ i + count_before at (drop i list) → count_before at list ≡ i
count-stop at list i c front is so =
    let none : count_before at (drop i list) ≡ 0 = ap (count_before at) front ∙ ap (λ (b : Bool). count_if b (count_before at (drop (i + 1) list))) is in
    omega (arith, so, none)

module _ {P G : Type 0} (at : ℕ) (x : Station P G) where
  -- so many listed events come before the link's
  pub before-many : at < length x.ins.items → x.enabled.items ≡ comings x.node (before_link at x) ++ comings x.node (behind_link at x)
      → count_before at x.enabled.items ≡ length (comings x.node (before_link at x))
  before-many within listed =
      let few : length (take at x.ins.items) ≤ at = taken-few at x.ins.items in
      let first = counted at x.node (before_link at x) (comings x.node (behind_link at x))
      (All-append (λ (c : Candidate). is_before at c.coming ≡ true) (flat_map starts_of procs) (noticed 0 x.notices.items ++ oldest 0 (take at x.ins.items)) (starts-before at procs)
      (All-append (λ (c : Candidate). is_before at c.coming ≡ true) (noticed 0 x.notices.items) (oldest 0 (take at x.ins.items)) (notices-before at 0 x.notices.items)
      (links-before at 0 (take at x.ins.items) (omega (arith, few))))) in
      let last = none-counted at x.node (behind_link at x)
      (All-append (λ (c : Candidate). is_before at c.coming ≡ false) (oldest (at + 1) (drop (suc at) x.ins.items)) (start (Ready (state_of x.node).phase) ∷ [])
      (links-behind at (at + 1) (drop (suc at) x.ins.items) (omega arith))
      (All-cons (λ (c : Candidate). is_before at c.coming ≡ false) (start (Ready (state_of x.node).phase)) [] refl (All-nil (λ (c : Candidate). is_before at c.coming ≡ false)))) in
      ap (count_before at) listed ∙ omega (arith, first, last)
    where
      taken-few : {A : Type 0} (k : ℕ) (xs : List A) → length (take k xs) ≤ k
      taken-few zero xs = omega arith
      taken-few (suc k) [] = omega arith
      taken-few (suc k) (y ∷ ys) = let less = taken-few k ys in omega (arith, less)

  -- with the link's oldest entry there, all are listed
  pub listed-there : (l : LinkFrom) (place : ℕ) (new : List Coming) → slice_get x.ins.items at ≡ Some l → x.enabled.items ≡ comings x.node (before_link at x) ++ comings x.node (behind_link at x)
      → place ≡ count_before at x.enabled.items
      → new ≡ take place x.enabled.items ++ (comings x.node (oldest_of at l.from l.link.queue) ++ drop place x.enabled.items)
      → new ≡ comings x.node (candidates x.node x.notices.items x.ins.items)
  listed-there l place new there listed counts are =
      let node = x.node in
      let X = comings node (before_link at x) in
      let Y = comings node (behind_link at x) in
      let O = oldest_of at l.from l.link.queue in
      let A = oldest 0 (take at x.ins.items) in
      let B = oldest (at + 1) (drop (suc at) x.ins.items) in
      let N = noticed 0 x.notices.items in
      let S = flat_map starts_of procs in
      let R = start (Ready (state_of node).phase) ∷ [] in
      let many : place ≡ length X = counts ∙ before-many (slice_get_within x.ins.items at l there) listed in
      let left : take place x.enabled.items ≡ X = ap (λ (k : ℕ). take k x.enabled.items) many ∙ ap (take (length X)) listed ∙ take-append_seam X Y in
      let right : drop place x.enabled.items ≡ Y = ap (λ (k : ℕ). drop k x.enabled.items) many ∙ ap (drop (length X)) listed ∙ drop-append_seam X Y in
      are
      ∙ ap (λ (cs : List Coming). cs ++ (comings node O ++ drop place x.enabled.items)) left
      ∙ ap (λ (cs : List Coming). X ++ (comings node O ++ cs)) right
      ∙ ap (λ (cs : List Coming). X ++ cs) (sym (comings_append node O (B ++ R)))
      ∙ sym (comings_append node (S ++ (N ++ A)) (O ++ (B ++ R)))
      ∙ ap (λ (cs : List Candidate). comings node ((S ++ (N ++ A)) ++ cs)) (sym (append_assoc O B R))
      ∙ ap (comings node) (sym (regroup S N A (O ++ B) R))
      ∙ ap (λ (cs : List Candidate). comings node (S ++ (N ++ (cs ++ R)))) (sym (split x.ins.items at 0 at l (omega arith) there))

-- what came to the link at a place
pub marked-there : (at phase tick : ℕ) (ins : List LinkFrom) (l : LinkFrom) → slice_get ins at ≡ Some l → slice_set ins at (mark_with phase tick l) ≡ marked at phase tick ins
marked-there at phase tick ins l there = sym (ap (marked_to at phase tick ins) there)

pub delivered-there : (at : ℕ) (fate : Fate) (m : Message) (ins : List LinkFrom) (l : LinkFrom) → slice_get ins at ≡ Some l → slice_set ins at (link_with fate m l) ≡ delivered at fate m ins
delivered-there at fate m ins l there = sym (ap (delivered_to at fate m ins) there)

-- more comes to the link at a place, of a node whose list is right
module _ {P G : Type 0} (at : ℕ) (changed : Carrying code.Incoming) (more : List (Entry code.Incoming)) (x y : Station P G) (l : LinkFrom) (there : slice_get x.ins.items at ≡ Some l) (behind : changed.queue ≡ l.link.queue ++ more)
    (node : y.node ≡ x.node) (notices : y.notices ≡ x.notices) (enabled : y.enabled ≡ x.enabled) (ins : y.ins.items ≡ slice_set x.ins.items at (record l { link = changed })) (listed : IsListed x) where
  within : at < length x.ins.items
  within = slice_get_within x.ins.items at l there

  abbrev A : List Candidate
  A = oldest 0 (take at x.ins.items)

  abbrev B : List Candidate
  B = oldest (at + 1) (drop (suc at) x.ins.items)

  abbrev listing : Noted P → List Notice → List Candidate → List Coming
  listing k ns cs = comings k (flat_map starts_of procs ++ (noticed 0 ns ++ (cs ++ start (Ready (state_of k).phase) ∷ [])))

  -- where something waits there, the list is the same
  pub still-listed : is_some (slice_get l.link.queue 0) ≡ true → IsListed y
  still-listed waits =
      let same : oldest 0 y.ins.items ≡ oldest 0 x.ins.items =
      ap (oldest 0) ins ∙ split-set x.ins.items at (record l { link = changed }) within
      ∙ ap (λ (q : List (Entry code.Incoming)). A ++ (oldest_of at l.from q ++ B)) behind
      ∙ ap (λ (cs : List Candidate). A ++ (cs ++ B)) (head-same at l.from l.link.queue more waits)
      ∙ sym (split x.ins.items at 0 at l (omega arith) there) in
      ap (λ v. v.items) enabled ∙ listed
      ∙ ap (λ (k : Noted P). listing k x.notices.items (oldest 0 x.ins.items)) (sym node)
      ∙ ap (λ v. listing y.node v.items (oldest 0 x.ins.items)) (sym notices)
      ∙ ap (listing y.node y.notices.items) (sym same)

  -- where nothing waited, the list has what comes before the link's oldest entry and what comes behind it
  pub listed-without : is_some (slice_get l.link.queue 0) ≡ false → y.enabled.items ≡ comings y.node (before_link at y) ++ comings y.node (behind_link at y)
  listed-without none =
      let both : oldest 0 x.ins.items ≡ A ++ B =
      split x.ins.items at 0 at l (omega arith) there ∙ ap (λ (cs : List Candidate). A ++ (cs ++ B)) (none-waits at l.from l.link.queue none) in
      let front : take at y.ins.items ≡ take at x.ins.items = ap (take at) ins ∙ take-set x.ins.items at (record l { link = changed }) in
      let back : drop (suc at) y.ins.items ≡ drop (suc at) x.ins.items = ap (drop (suc at)) ins ∙ drop-set-lt (suc at) x.ins.items at (record l { link = changed }) (omega arith) in
      let S = flat_map starts_of procs in
      let N = noticed 0 y.notices.items in
      let R = start (Ready (state_of y.node).phase) ∷ [] in
      ap (λ v. v.items) enabled ∙ listed
      ∙ ap (λ (k : Noted P). listing k x.notices.items (oldest 0 x.ins.items)) (sym node)
      ∙ ap (λ v. listing y.node v.items (oldest 0 x.ins.items)) (sym notices)
      ∙ ap (listing y.node y.notices.items) both
      ∙ ap (comings y.node) (regroup S N A B R)
      ∙ comings_append y.node (S ++ (N ++ A)) (B ++ R)
      ∙ ap (λ (ls : List LinkFrom). comings y.node (S ++ (N ++ oldest 0 ls)) ++ comings y.node (B ++ R)) (sym front)
      ∙ ap (λ (ls : List LinkFrom). comings y.node (before_link at y) ++ comings y.node (oldest (at + 1) ls ++ R)) (sym back)
