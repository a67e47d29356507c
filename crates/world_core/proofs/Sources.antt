-- Which event an enabled one is, by where it finds what it receives.
use Rattle.std.proofs.Common.{◌≡◌, ℕ, suc, ◌+◌, Some, List, [], ◌∷◌, ◌++◌, refl, ap, ◌∙◌, arith}
use Rattle.std.specs.Prelude.{flat_map, slice_get, All}
use Rattle.std.proofs.lemmas.List.Elements.{All-nil, All-cons, All-append}
use Rattle.fault_handler.specs.Desks.{procs}
use Rattle.dom_history.specs.declared.event.What.{What}
use Rattle.dom_history.specs.declared.event.What.TheVariants as events
use Rattle.ring_links.specs.declared.entry.Waiting.{Waiting}
use Rattle.ring_links.specs.declared.entry.Entry.{Entry}
use Rattle.node_core.specs.declared.setup.Incoming as code
use Rattle.node_core.specs.Nodes.{Noted, state_of}
use Rattle.world_core.specs.declared.coming.Source as source
use Rattle.world_core.specs.declared.coming.Source.TheVariants as sources
use Rattle.ring_links.specs.declared.notice.Notice.{Notice}
use Rattle.world_core.specs.declared.station.LinkFrom.{LinkFrom}
use Rattle.world_core.specs.declared.station.Station.{Station}
use Rattle.ring_links.specs.Notices.{notice_what}
use Rattle.world_core.specs.Stations.{Candidate, start, starts_of, notice_at, noticed, what_of, oldest_of, oldest, candidates}
use Rattle.world_core.specs.Listed.{event_at}
use Rattle.world_core.proofs.Found.{each-there}

-- a notice at a place, and its event
pub record IsNoticed (notices : List Notice) (i : ℕ) (what : What) : Type 0 where
  pub notice : Notice
  pub there : slice_get notices i ≡ Some notice
  pub event : what ≡ notice_what notice

-- the link at a place, and the event that takes an entry of it
pub record IsTaken (ins : List LinkFrom) (i : ℕ) (what : What) : Type 0 where
  pub link : LinkFrom
  pub waiting : Waiting
  pub there : slice_get ins i ≡ Some link
  pub event : what ≡ what_of link.from waiting

-- an event that receives nothing
pub data IsStart : What → Type 0 where
  begins : (p : ℕ) → IsStart (events.Begin p)
  goes_on : (p : ℕ) → IsStart (events.Go p)
  is_ready : (phase : ℕ) → IsStart (events.Ready phase)

abbrev pub IsFrom : List Notice → List LinkFrom → What → source.Source → Type 0
IsFrom notices ins what sources.Nothing = IsStart what
IsFrom notices ins what (sources.Notice i) = IsNoticed notices i what
IsFrom notices ins what (sources.Link i) = IsTaken ins i what

module _ (notices : List Notice) (ins : List LinkFrom) where
  abbrev From : Candidate → Type 0
  From c = IsFrom notices ins c.coming.what c.coming.source

  from-noticed : (i : ℕ) (more : List Notice) → ((k j : ℕ) (x : Notice) → slice_get more k ≡ Some x → j ≡ i + k → slice_get notices j ≡ Some x) → All From (noticed i more)
  from-noticed i [] each = All-nil From
  from-noticed i (x ∷ more) each =
      All-cons From (notice_at i x) (noticed (i + 1) more)
      (record { notice = x; there = each 0 i x refl (omega arith); event = refl })
      (from-noticed (i + 1) more (λ k j y e is. each (suc k) j y e (omega (arith, is))))

  from-one : (i : ℕ) (l : LinkFrom) (queue : List (Entry code.Incoming)) → slice_get ins i ≡ Some l → All From (oldest_of i l.from queue)
  from-one i l [] there = All-nil From
  from-one i l (e ∷ more) there = All-cons From _ [] (record { link = l; waiting = e.waiting; there = there; event = refl }) (All-nil From)

  from-oldest : (i : ℕ) (more : List LinkFrom) → ((k j : ℕ) (l : LinkFrom) → slice_get more k ≡ Some l → j ≡ i + k → slice_get ins j ≡ Some l) → All From (oldest i more)
  from-oldest i [] each = All-nil From
  from-oldest i (l ∷ more) each =
      All-append From (oldest_of i l.from l.link.queue) (oldest (i + 1) more)
      (from-one i l l.link.queue (each 0 i l refl (omega arith)))
      (from-oldest (i + 1) more (λ k j y e is. each (suc k) j y e (omega (arith, is))))

  from-starts : (ps : List ℕ) → All From (flat_map starts_of ps)
  from-starts [] = All-nil From
  from-starts (p ∷ ps) =
      All-append From (starts_of p) (flat_map starts_of ps)
      (All-cons From (start (events.Begin p)) (start (events.Go p) ∷ []) (begins p) (All-cons From (start (events.Go p)) [] (goes_on p) (All-nil From)))
      (from-starts ps)

  from-all : {P : Type 0} (node : Noted P) → All From (candidates node notices ins)
  from-all node =
      let ready : List Candidate = start (events.Ready (state_of node).phase) ∷ [] in
      All-append From (flat_map starts_of procs) (noticed 0 notices ++ (oldest 0 ins ++ ready))
      (from-starts procs)
      (All-append From (noticed 0 notices) (oldest 0 ins ++ ready)
      (from-noticed 0 notices (λ k j x e is. same-place notices k j x e (omega (arith, is))))
      (All-append From (oldest 0 ins) ready
      (from-oldest 0 ins (λ k j x e is. same-place ins k j x e (omega (arith, is))))
      (All-cons From (start (events.Ready (state_of node).phase)) [] (is_ready (state_of node).phase) (All-nil From))))
    where
      same-place : {A : Type 0} (xs : List A) (k j : ℕ) (x : A) → slice_get xs k ≡ Some x → j ≡ k → slice_get xs j ≡ Some x
      same-place xs k j x e is = ap (slice_get xs) is ∙ e

pub event-from : {P G : Type 0} (x : Station P G) (place : ℕ) (c : Candidate) → event_at x place ≡ Some c → IsFrom x.notices.items x.ins.items c.coming.what c.coming.source
event-from x place c there =
    each-there x.node x.notices.items x.ins.items place c there (λ d. IsFrom x.notices.items x.ins.items d.coming.what d.coming.source) (from-all x.notices.items x.ins.items x.node)
