-- The events that a node lists are those that are enabled there, in their order.
use Rattle.std.proofs.Common.{◌≡◌, ℕ, zero, suc, ◌+◌, ◌<◌, ◌≤◌, Bool, true, false, cond, Option, Some, None, List, [], ◌∷◌, ◌++◌, map, drop, length, refl, sym, ap, subst, ◌∙◌, arith}
use Rattle.std.specs.Prelude.{◌==◌, filter, flat_map, slice_get, All, ◌-◌}
use Rattle.std.specs.Option.{option_map}
use Rattle.std.proofs.lemmas.List.{append_assoc, append-nil, length-map}
use Rattle.std.proofs.lemmas.List.Elements.{filter-append, All-nil, All-cons}
use Rattle.dom_history.specs.declared.op.Reply.{Reply}
use Rattle.dom_history.specs.declared.op.Want.{Want}
use Rattle.dom_history.specs.declared.event.What.{What}
use Rattle.dom_history.specs.declared.event.What.TheVariants.{Begin, Go, Ready}
use Rattle.dom_history.specs.declared.plan.FateRow.{FateRow}
use Rattle.ring_messages.specs.Frames.{Message}
use Rattle.fault_handler.specs.Desks.{procs}
use Rattle.node_runs.specs.Setups.{Setup, given}
use Rattle.node_runs.specs.Doings.{node_numbers}
use Rattle.node_runs.specs.Runs.{World, SentMark, numbered, taken, marked, mark_of, incoming_of}
use Rattle.ring_links.specs.declared.entry.Waiting.{Waiting}
use Rattle.ring_links.specs.declared.entry.Waiting.TheVariants.{Copy, Mark}
use Rattle.ring_links.specs.declared.entry.Entry.{Entry}
use Rattle.ring_links.specs.Carried.{IsFrameOf, plain_name}
use Rattle.node_core.specs.declared.setup.Incoming as code
use Rattle.node_core.specs.declared.setup.Incoming.TheVariants as received
use Rattle.node_core.specs.Receivings.{seen}
use Rattle.node_core.specs.Nodes.{Noted, state_of}
use Rattle.world_runs.specs.Waiting as waits
use Rattle.dom_history.specs.declared.plan.Fate.TheVariants as Fate
use Rattle.dom_history.specs.Plans.{fate_of}
use Rattle.world_runs.specs.Sendings.{Sending}
use Rattle.world_runs.specs.Links as links
use Rattle.world_runs.specs.Links.{link_of}
use Rattle.world_runs.specs.Gone.{notices_at}
use Rattle.world_runs.specs.Turns as turns
use Rattle.ring_links.specs.declared.notice.Notice.{Notice}
use Rattle.world_core.specs.declared.station.LinkFrom.{LinkFrom}
use Rattle.world_core.specs.declared.station.Station.{Station}
use Rattle.ring_links.specs.Notices.{notice_what}
use Rattle.world_core.specs.Stations.{Candidate, start, starts_of, notice_at, noticed, what_of, oldest_of, oldest, passes, candidates}
use Rattle.world_core.specs.Stands.{act_of, IsMarkOf, IsLink, IsNoticeOf, IsStation}
use Rattle.world_core.proofs.Standing.{enabled-stands}

abbrev what_in : Candidate → What
what_in c = c.coming.what

-- each candidate is what the world has for its event
pub data AreOf (w : World) (n : ℕ) : List Candidate → List What → Type 0 where
  empty : AreOf w n [] []
  more : (c : Candidate) (cs : List Candidate) (xs : List What) → incoming_of w n c.coming.what ≡ Some c.incoming → AreOf w n cs xs → AreOf w n (c ∷ cs) (c.coming.what ∷ xs)

are-append : (w : World) (n : ℕ) (cs ds : List Candidate) (xs ys : List What) → AreOf w n cs xs → AreOf w n ds ys → AreOf w n (cs ++ ds) (xs ++ ys)
are-append w n [] ds [] ys empty bs = bs
are-append w n [] ds (_ ∷ xs) ys is bs = elim is [ ]
are-append w n (c ∷ cs) ds [] ys is bs = elim is [ ]
are-append w n (c ∷ cs) ds (_ ∷ xs) ys (more _ _ _ e rest) bs = more c (cs ++ ds) (xs ++ ys) e (are-append w n cs ds xs ys rest bs)

pub are-received : (w : World) (n : ℕ) (cs : List Candidate) (xs : List What) → AreOf w n cs xs → All (λ c. incoming_of w n c.coming.what ≡ Some c.incoming) cs
are-received w n [] [] empty = All-nil (λ c. incoming_of w n c.coming.what ≡ Some c.incoming)
are-received w n [] (_ ∷ xs) is = elim is [ ]
are-received w n (c ∷ cs) [] is = elim is [ ]
are-received w n (c ∷ cs) (_ ∷ xs) (more _ _ _ e rest) =
    All-cons (λ d. incoming_of w n d.coming.what ≡ Some d.incoming) c cs e (are-received w n cs xs rest)

module _ {P : Type 0} (node : Noted P) (E : What → Bool) (w : World) (n : ℕ) (same : (c : Candidate) → incoming_of w n c.coming.what ≡ Some c.incoming → passes node c ≡ E c.coming.what) where
  listed-one : (c : Candidate) (kept : List Candidate) (kept-whats : List What) (b d : Bool) → b ≡ d → map what_in kept ≡ kept-whats
      → map what_in (cond b (c ∷ kept) kept) ≡ cond d (c.coming.what ∷ kept-whats) kept-whats
  listed-one c kept kept-whats true true e h = ap (λ (xs : List What). c.coming.what ∷ xs) h
  listed-one c kept kept-whats false false e h = h
  listed-one c kept kept-whats true false e h = absurd (cc)
  listed-one c kept kept-whats false true e h = absurd (cc)

  listed-of : (cs : List Candidate) (xs : List What) → AreOf w n cs xs → map what_in (filter (passes node) cs) ≡ filter E xs
  listed-of [] [] empty = refl
  listed-of [] (_ ∷ xs) is = elim is [ ]
  listed-of (c ∷ cs) [] is = elim is [ ]
  listed-of (c ∷ cs) (_ ∷ xs) (more _ _ _ e rest) = listed-one c (filter (passes node) cs) (filter E xs) (passes node c) (E c.coming.what) (same c e) (listed-of cs xs rest)

starts-are : (w : World) (n : ℕ) (ps : List ℕ) → AreOf w n (flat_map starts_of ps) (flat_map turns.starts_of ps)
starts-are w n [] = empty
starts-are w n (p ∷ ps) =
    are-append w n (starts_of p) (flat_map starts_of ps) (turns.starts_of p) (flat_map turns.starts_of ps)
    (more (start (Begin p)) (start (Go p) ∷ []) (Go p ∷ []) refl (more (start (Go p)) [] [] refl empty)) (starts-are w n ps)

notices-are : (w : World) (n i : ℕ) (notices : List Notice) → All (IsNoticeOf w n) notices → AreOf w n (noticed i notices) (map notice_what notices)
notices-are w n i [] all = empty
notices-are w n i (x ∷ more-notices) all =
    more (notice_at i x) (noticed (i + 1) more-notices) (map notice_what more-notices) (all 0 x (omega arith))
    (notices-are w n (i + 1) more-notices (λ k d inside. all (suc k) d (omega (arith, inside))))

-- what an entry carries is what the world has for it
pick : {A B : Type 0} (f : A → B) (b : Bool) (x : A) (r : Option A) → cond b (Some (f x)) (option_map f r) ≡ option_map f (cond b (Some x) r)
pick f true x r = refl
pick f false x r = refl

numbered-map : {A B : Type 0} (f : A → B) (k : ℕ) (xs : List A) → numbered k (map f xs) ≡ option_map f (numbered k xs)
numbered-map f k [] = refl
numbered-map f k (x ∷ xs) =
    ap (λ (m : ℕ). cond (k == m + 1) (Some (f x)) (numbered k (map f xs))) (length-map xs f)
    ∙ ap (λ (r : Option _). cond (k == length xs + 1) (Some (f x)) r) (numbered-map f k xs)
    ∙ pick f (k == length xs + 1) x (numbered k xs)

frame-taken : (q : Option Message) (r : code.Incoming) → option_map received.Frame q ≡ Some r → taken q ≡ Some (seen r)
frame-taken None r e = absurd (cc)
frame-taken (Some m) r e = let same : received.Frame m ≡ r = cc in ap (λ (y : code.Incoming). Some (seen y)) same

mark-taken : (q : Option SentMark) (r : code.Incoming) → option_map (λ m. received.Mark m.tick) q ≡ Some r → marked q ≡ Some (seen r)
mark-taken None r e = absurd (cc)
mark-taken (Some m) r e = let same : received.Mark m.tick ≡ r = cc in ap (λ (y : code.Incoming). Some (seen y)) same

entry-is : (w : World) (from n : ℕ) (r : code.Incoming) (x : Waiting) → IsFrameOf (map received.Frame (w.frames from n)) r x → IsMarkOf w from r x → incoming_of w n (what_of from x) ≡ Some (seen r)
entry-is w from n r (Copy index) frame mark = frame-taken (numbered index (w.frames from n)) r (sym (numbered-map received.Frame index (w.frames from n)) ∙ frame)
entry-is w from n r (Mark phase) frame mark = mark-taken (mark_of w from phase) r mark

oldest-name : (from : ℕ) (x : Waiting) (rest : List waits.Entry) → turns.oldest from (plain_name x ∷ rest) ≡ what_of from x ∷ []
oldest-name from (Copy index) rest = refl
oldest-name from (Mark phase) rest = refl

one-is : (w : World) (n i from : ℕ) (queue : List (Entry code.Incoming)) → All (λ e. IsFrameOf (map received.Frame (w.frames from n)) e.received e.waiting) queue → All (λ e. IsMarkOf w from e.received e.waiting) queue
    → AreOf w n (oldest_of i from queue) (turns.oldest from (map (λ e. plain_name e.waiting) queue))
one-is w n i from [] frames marks = empty
one-is w n i from (e ∷ queue) frames marks =
    subst (AreOf w n (oldest_of i from (e ∷ queue))) (sym (oldest-name from e.waiting (map (λ d. plain_name d.waiting) queue)))
    (more _ [] [] (entry-is w from n e.received e.waiting (frames 0 e (omega arith)) (marks 0 e (omega arith))) empty)

-- numbers from one on
abbrev pub count_up : ℕ → ℕ → List ℕ
count_up k zero = []
count_up k (suc m) = k ∷ count_up (k + 1) m

pub count-parts : (k a b : ℕ) → count_up k (a + b) ≡ count_up k a ++ count_up (k + a) b
count-parts k zero b = ap (count_up k) (nothing-more b) ∙ ap (λ j. count_up j b) (sym (no-more-than k))
  where
    nothing-more : (b : ℕ) → 0 + b ≡ b
    nothing-more b = omega arith

    no-more-than : (k : ℕ) → k + 0 ≡ k
    no-more-than k = omega arith
count-parts k (suc a) b =
    ap (λ m. count_up k m) (shifted a b) ∙ ap (λ (ks : List ℕ). k ∷ ks) (count-parts (k + 1) a b ∙ ap (λ j. count_up (k + 1) a ++ count_up j b) (further k a))
  where
    shifted : (a b : ℕ) → suc a + b ≡ suc (a + b)
    shifted a b = omega arith

    further : (k a : ℕ) → k + 1 + a ≡ k + suc a
    further k a = omega arith

nil-dropped : (k : ℕ) (xs : List waits.Entry) → xs ≡ [] → drop k xs ≡ []
nil-dropped k [] is = nil-at k
  where
    nil-at : (k : ℕ) → drop k (waits.entries (λ _. Fate.Pass) []) ≡ []
    nil-at zero = refl
    nil-at (suc k) = refl
nil-dropped k (x ∷ xs) is = absurd (cc)

flat-append : {A B : Type 0} (f : A → List B) (xs ys : List A) → flat_map f (xs ++ ys) ≡ flat_map f xs ++ flat_map f ys
flat-append f [] ys = refl
flat-append f (x ∷ xs) ys = ap (λ (bs : List _). f x ++ bs) (flat-append f xs ys) ∙ sym (append_assoc (f x) (flat_map f xs) (flat_map f ys))

flat-none : {B : Type 0} (f : ℕ → List B) (least k m : ℕ) → ((j : ℕ) → least < j → f j ≡ []) → least < k → flat_map f (count_up k m) ≡ []
flat-none f least k zero quiet above = refl
flat-none f least k (suc m) quiet above =
    ap (λ (bs : List _). bs ++ flat_map f (count_up (k + 1) m)) (quiet k above) ∙ flat-none f least (k + 1) m quiet (omega (arith, above))

-- a filter of a filter
twice-one : (E : What → Bool) (x : What) (kept : List What) (b : Bool) → E x ≡ b → filter E kept ≡ kept → filter E (cond b (x ∷ kept) kept) ≡ cond b (x ∷ kept) kept
twice-one E x kept true is same = ap (λ (b : Bool). cond b (x ∷ filter E kept) (filter E kept)) is ∙ ap (λ (xs : List What). x ∷ xs) same
twice-one E x kept false is same = same

twice : (E : What → Bool) (xs : List What) → filter E (filter E xs) ≡ filter E xs
twice E [] = refl
twice E (x ∷ xs) = twice-one E x (filter E xs) (E x) refl (twice E xs)

acts-are : (n : ℕ) (cs : List Candidate) → map (act_of n) (map (λ c. c.coming) cs) ≡ map (λ what. record { node = n; what = what }) (map what_in cs)
acts-are n [] = refl
acts-are n (c ∷ cs) = ap (λ (acts : List turns.Act). act_of n c.coming ∷ acts) (acts-are n cs)

module _ {P G : Type 0} (wants : P → Want) (becomes : P → Option Reply → P) (made : ℕ → ℕ → Option P) (s : Setup) (plan : List FateRow) (w : World) (n : ℕ) (x : Station P G)
    (few : s.opening.nodes ≤ 8) (waiting-is : (from : ℕ) → (link_of plan from n w.done).queue ≡ waits.waiting plan from n w.done) (is : IsStation wants becomes made s plan w n x) where
  abbrev coming-from : ℕ → List What
  coming-from from = turns.oldest from (waits.waiting plan from n w.done)

  abbrev E : What → Bool
  E = turns.is_enabled s w n

  passes-same : (c : Candidate) → incoming_of w n c.coming.what ≡ Some c.incoming → passes x.node c ≡ E c.coming.what
  passes-same c e =
      enabled-stands wants becomes (made n) (given s n) x.node (w.nodes n) is.node c.coming.what c.incoming
      ∙ ap (turns.is_enabled_by (given s n) (w.nodes n) c.coming.what) (sym e)

  link-is : (i from : ℕ) (l : LinkFrom) → IsLink plan w from n l → AreOf w n (oldest_of i l.from l.link.queue) (coming-from from)
  link-is i from l link =
      subst (λ (xs : List What). AreOf w n (oldest_of i l.from l.link.queue) xs)
      (ap (turns.oldest from) (ap (λ (k : links.Link). k.queue) link.waits ∙ waiting-is from))
      (subst (λ k. AreOf w n (oldest_of i k l.link.queue) (turns.oldest from (map (λ e. plain_name e.waiting) l.link.queue))) (sym link.from_is)
      (one-is w n i from l.link.queue link.frames.queue link.marks))

  links-are : (i : ℕ) (ls : List LinkFrom) → ((j : ℕ) (l : LinkFrom) → slice_get ls j ≡ Some l → IsLink plan w (i + j + 1) n l) → AreOf w n (oldest i ls) (flat_map coming-from (count_up (i + 1) (length ls)))
  links-are i [] each = empty
  links-are i (l ∷ ls) each =
      are-append w n (oldest_of i l.from l.link.queue) (oldest (i + 1) ls) (coming-from (i + 1)) (flat_map coming-from (count_up (i + 1 + 1) (length ls)))
      (link-is i (i + 1) l (subst (λ k. IsLink plan w k n l) (omega arith) (each 0 l refl)))
      (links-are (i + 1) ls (λ j m there. subst (λ k. IsLink plan w k n m) (omega arith) (each (suc j) m there)))

  no-more : (from : ℕ) → s.opening.nodes < from → coming-from from ≡ []
  no-more from above =
      ap (turns.oldest from)
      (ap (λ (ss : List Sending). drop (length (waits.entries_taken from n w.done)) (waits.entries (fate_of plan from n) ss)) (is.silent from above)
      ∙ nil-dropped (length (waits.entries_taken from n w.done)) [] refl)

  takes-are : AreOf w n (oldest 0 x.ins.items) (turns.takes_at plan w n)
  takes-are =
      let ours = links-are 0 x.ins.items (λ j l there. subst (λ k. IsLink plan w k n l) (omega arith) (is.link j l there)) in
      let N = s.opening.nodes in
      let eight : N + (8 - N) ≡ 8 = omega (arith, few) in
      let rest = flat-none coming-from N (1 + N) (8 - N) no-more (omega arith) in
      let all : flat_map coming-from (count_up 1 N) ≡ flat_map coming-from node_numbers =
      sym (append-nil (flat_map coming-from (count_up 1 N)))
      ∙ ap (λ (xs : List What). flat_map coming-from (count_up 1 N) ++ xs) (sym rest)
      ∙ sym (flat-append coming-from (count_up 1 N) (count_up (1 + N) (8 - N)))
      ∙ ap (flat_map coming-from) (sym (count-parts 1 N (8 - N)) ∙ ap (count_up 1) eight) in
      subst (λ (xs : List What). AreOf w n (oldest 0 x.ins.items) xs) (ap (λ k. flat_map coming-from (count_up 1 k)) is.links ∙ all) ours

  ready-is : AreOf w n (start (Ready (state_of x.node).phase) ∷ []) (Ready (w.nodes n).phase ∷ [])
  ready-is = subst (λ k. AreOf w n (start (Ready (state_of x.node).phase) ∷ []) (Ready k ∷ [])) is.node.alike.phase (more (start (Ready (state_of x.node).phase)) [] [] refl empty)

  abbrev pub mid : List What
  mid = flat_map turns.starts_of procs ++ (map notice_what x.notices.items ++ (turns.takes_at plan w n ++ Ready (w.nodes n).phase ∷ []))

  pub all-are : AreOf w n (candidates x.node x.notices.items x.ins.items) mid
  all-are =
      are-append w n (flat_map starts_of procs) _ (flat_map turns.starts_of procs) _ (starts-are w n procs)
      (are-append w n (noticed 0 x.notices.items) _ (map notice_what x.notices.items) _ (notices-are w n 0 x.notices.items is.told)
      (are-append w n (oldest 0 x.ins.items) _ (turns.takes_at plan w n) _ takes-are ready-is))

  -- of the notices those whose call is open
  open-ones : filter E (map notice_what x.notices.items) ≡ filter E (notices_at plan w n)
  open-ones = ap (filter E) is.notices ∙ twice E (notices_at plan w n)

  same-coming : filter E mid ≡ filter E (turns.coming_to plan w n)
  same-coming =
      let starts = flat_map turns.starts_of procs in
      let rest = turns.takes_at plan w n ++ Ready (w.nodes n).phase ∷ [] in
      filter-append E starts (map notice_what x.notices.items ++ rest)
      ∙ ap (λ (xs : List What). filter E starts ++ xs)
      (filter-append E (map notice_what x.notices.items) rest ∙ ap (λ (xs : List What). xs ++ filter E rest) open-ones ∙ sym (filter-append E (notices_at plan w n) rest))
      ∙ sym (filter-append E starts (notices_at plan w n ++ rest))

  pub listed-enabled : map (act_of n) x.enabled.items ≡ turns.enabled_at s plan w n
  listed-enabled =
      let cs = candidates x.node x.notices.items x.ins.items in
      ap (map (act_of n)) is.listed
      ∙ acts-are n (filter (passes x.node) cs)
      ∙ ap (map (λ what. record { node = n; what = what })) (listed-of x.node E w n passes-same cs mid all-are ∙ same-coming)
