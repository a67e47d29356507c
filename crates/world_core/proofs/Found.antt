-- Where an enabled event finds what it receives.
use Rattle.std.proofs.Common.{◌≡◌, ℕ, ◌+◌, Bool, true, false, cond, Some, List, [], ◌∷◌, ◌++◌, length, refl, sym, ap, subst, ◌∙◌}
use Rattle.std.specs.Prelude.{filter, flat_map, slice_get, All}
use Rattle.std.proofs.lemmas.List.{append_assoc}
use Rattle.std.proofs.lemmas.List.Elements.{All-nil, All-cons, All-append, All-filter}
use Rattle.uid_names.proofs.ListLemmas.{length-push}
use Rattle.fault_handler.specs.Desks.{procs}
use Rattle.dom_history.specs.declared.event.What.TheVariants.{Begin, Go, Ready}
use Rattle.dom_history.specs.declared.event.What.{What}
use Rattle.node_runs.specs.Incomings.{Incoming}
use Rattle.ring_links.specs.declared.entry.Entry.{Entry}
use Rattle.node_core.specs.declared.setup.Incoming as code
use Rattle.node_core.specs.Receivings.{seen}
use Rattle.node_core.specs.Nodes.{Noted, state_of}
use Rattle.world_core.specs.declared.coming.Source as source
use Rattle.world_core.specs.declared.coming.Source.TheVariants as sources
use Rattle.ring_links.specs.declared.notice.Notice.{Notice}
use Rattle.world_core.specs.declared.station.LinkFrom.{LinkFrom}
use Rattle.ring_links.specs.Notices.{notice_incoming}
use Rattle.world_core.specs.Stations.{Candidate, start, starts_of, notice_at, noticed, oldest_of, oldest, passes, candidates}
use Rattle.ended_nodes.proofs.Elements.{behind, at_all}

-- the oldest entry of a link
pub record IsOldest (ins : List LinkFrom) (i : ℕ) (incoming : Incoming) : Type 0 where
  pub link : LinkFrom
  pub entry : Entry code.Incoming
  pub there : slice_get ins i ≡ Some link
  pub first : slice_get link.link.queue 0 ≡ Some entry
  pub received : incoming ≡ seen entry.received

pub record IsNotice (notices : List Notice) (i : ℕ) (incoming : Incoming) : Type 0 where
  pub notice : Notice
  pub there : slice_get notices i ≡ Some notice
  pub received : incoming ≡ notice_incoming notice

abbrev pub IsFoundAt : List Notice → List LinkFrom → Incoming → source.Source → Type 0
IsFoundAt notices ins incoming sources.Nothing = incoming ≡ Incoming.Nothing
IsFoundAt notices ins incoming (sources.Notice i) = IsNotice notices i incoming
IsFoundAt notices ins incoming (sources.Link i) = IsOldest ins i incoming

abbrev pub IsFound : List Notice → List LinkFrom → Candidate → Type 0
IsFound notices ins c = IsFoundAt notices ins c.incoming c.coming.source

module _ (notices : List Notice) (ins : List LinkFrom) where
  abbrev Found : Candidate → Type 0
  Found = IsFound notices ins

  found-noticed : (before more : List Notice) → before ++ more ≡ notices → All Found (noticed (length before) more)
  found-noticed before [] all = All-nil Found
  found-noticed before (x ∷ more) all =
      All-cons Found (notice_at (length before) x) (noticed (length before + 1) more)
      (record { notice = x; there = ap (λ (xs : List Notice). slice_get xs (length before)) (sym all) ∙ behind before x more; received = refl })
      (subst (λ k. All Found (noticed k more)) (length-push before x) (found-noticed (before ++ x ∷ []) more (append_assoc before (x ∷ []) more ∙ all)))

  found-one : (i : ℕ) (l : LinkFrom) (queue : List (Entry code.Incoming)) → slice_get ins i ≡ Some l → l.link.queue ≡ queue → All Found (oldest_of i l.from queue)
  found-one i l [] there is = All-nil Found
  found-one i l (e ∷ more) there is =
      All-cons Found _ [] (record { link = l; entry = e; there = there; first = ap (λ (es : List (Entry code.Incoming)). slice_get es 0) is; received = refl }) (All-nil Found)

  found-oldest : (before more : List LinkFrom) → before ++ more ≡ ins → All Found (oldest (length before) more)
  found-oldest before [] all = All-nil Found
  found-oldest before (l ∷ more) all =
      All-append Found (oldest_of (length before) l.from l.link.queue) (oldest (length before + 1) more)
      (found-one (length before) l l.link.queue (ap (λ (ls : List LinkFrom). slice_get ls (length before)) (sym all) ∙ behind before l more) refl)
      (subst (λ k. All Found (oldest k more)) (length-push before l) (found-oldest (before ++ l ∷ []) more (append_assoc before (l ∷ []) more ∙ all)))

  found-start : (what : What) (cs : List Candidate) → All Found cs → All Found (start what ∷ cs)
  found-start what cs all = All-cons Found (start what) cs refl all

  found-starts : (ps : List ℕ) → All Found (flat_map starts_of ps)
  found-starts [] = All-nil Found
  found-starts (p ∷ ps) =
      All-append Found (starts_of p) (flat_map starts_of ps)
      (found-start (Begin p) (start (Go p) ∷ []) (found-start (Go p) [] (All-nil Found))) (found-starts ps)

  found-all : {P : Type 0} (node : Noted P) → All Found (candidates node notices ins)
  found-all node =
      All-append Found (flat_map starts_of procs) (noticed 0 notices ++ (oldest 0 ins ++ start (Ready (state_of node).phase) ∷ []))
      (found-starts procs)
      (All-append Found (noticed 0 notices) (oldest 0 ins ++ start (Ready (state_of node).phase) ∷ []) (found-noticed [] notices refl)
      (All-append Found (oldest 0 ins) (start (Ready (state_of node).phase) ∷ []) (found-oldest [] ins refl) (found-start (Ready (state_of node).phase) [] (All-nil Found))))

-- what passes a test, and is one of these
passing-one : {A : Type 0} (p : A → Bool) (x : A) (kept : List A) (b : Bool) → p x ≡ b → All (λ y. p y ≡ true) kept → All (λ y. p y ≡ true) (cond b (x ∷ kept) kept)
passing-one p x kept true is all = All-cons (λ y. p y ≡ true) x kept is all
passing-one p x kept false is all = all

passing : {A : Type 0} (p : A → Bool) (xs : List A) → All (λ x. p x ≡ true) (filter p xs)
passing p [] = All-nil (λ x. p x ≡ true)
passing p (x ∷ xs) = passing-one p x (filter p xs) (p x) refl (passing p xs)

module _ {P : Type 0} (node : Noted P) (notices : List Notice) (ins : List LinkFrom) (place : ℕ) (c : Candidate) (there : slice_get (filter (passes node) (candidates node notices ins)) place ≡ Some c) where
  pub passes-there : passes node c ≡ true
  passes-there = at_all (λ x. passes node x ≡ true) (filter (passes node) (candidates node notices ins)) place c (passing (passes node) (candidates node notices ins)) there

  pub found-there : IsFound notices ins c
  found-there = at_all (IsFound notices ins) (filter (passes node) (candidates node notices ins)) place c
      (All-filter (passes node) (IsFound notices ins) (candidates node notices ins) (found-all notices ins node)) there

  pub each-there : (Q : Candidate → Type 0) → All Q (candidates node notices ins) → Q c
  each-there Q all = at_all Q (filter (passes node) (candidates node notices ins)) place c (All-filter (passes node) Q (candidates node notices ins) all) there
