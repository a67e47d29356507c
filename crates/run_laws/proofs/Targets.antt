-- In every run a spot of a process names the same place at its desk and in the store.
use Rattle.std.proofs.Common.{◌≡◌, ℕ, ◌+◌, ◌*◌, Bool, true, false, List, [], ◌∷◌, ◌++◌, Option, Some, None, inl, inr, refl, sym, ap, subst, ◌∙◌, arith}
use Rattle.std.specs.Prelude.{not, if◌then◌else◌, is_some, find, filter, AllPairs, IsTrue, IsSome}
use Rattle.std.specs.Option.{option_map}
use Rattle.std.specs.List.{AllByRecursion}
use Rattle.std.proofs.lemmas.List.{append-nil}
use Rattle.std.proofs.lemmas.Bool.{cases_eq}
use Rattle.std.proofs.lemmas.Bool.Decides.{nat_tests}
use Rattle.std.proofs.lemmas.List.Elements.{filter-append, recursion_from_All}
use Rattle.uid_names.proofs.ListLemmas.{by_cases}
use Rattle.uid_names.proofs.InOrder.{AllPairs-head, AllPairs-tail}
use Rattle.uid_names.specs.Names.{ProcName, ObjectName, same_uid}
use Rattle.uid_names.specs.Openings.{Start}
use Rattle.uid_names.specs.Segments.{Stretch, segments, lies_in as lies_within}
use Rattle.uid_names.specs.declared.opening.Object.{Object}
use Rattle.uid_names.specs.declared.segment.TheConstants.{SEGMENT_SIZE}
use Rattle.uid_names.specs.declared.mode.Mode.{Mode}
use Rattle.uid_names.proofs.Orders.{same_proc-itself}
use Rattle.uid_names.proofs.Passed.{left-true}
use Rattle.dom_history.specs.declared.op.Spot.TheVariants.{Of, Addr}
use Rattle.dom_history.specs.declared.deed.LockState.{LockState}
use Rattle.dom_history.specs.declared.deed.LockState.TheVariants.{Free, Held, Taking, Releasing, Deleting}
use Rattle.dom_history.specs.StoreEffects.{StoreEffect, Makes, TakesLock, FreesLock, Deletes, Writes, Maps, Unmaps}
use Rattle.dom_history.specs.Locks.{is_free, is_held}
use Rattle.dom_history.specs.Objects.{made, is_node, room_or_none, room_of}
use Rattle.dom_history.specs.Mappings.{Mapping as Noted_mapping, mappings, stretch_of, target_in}
use Rattle.object_store.specs.Objects.{room_of as room_in}
use Rattle.object_store.specs.HomeStates.{attr_of}
use Rattle.address_map.specs.declared.mapping.Mapping.{Mapping}
use Rattle.address_map.specs.Mappings.{address_of, is_of, lies_in, mapping_at, without_mapping, target_in as desk_target}
use Rattle.address_map.specs.Runs.{is_apart}
use Rattle.fault_handler.specs.declared.entries.LockEntry.{LockEntry}
use Rattle.fault_handler.specs.declared.lengths.Known.{Known}
use Rattle.fault_handler.specs.Entries.{entry_of, keeps}
use Rattle.fault_handler.specs.Lengths.{known_of, room_of as known_room}
use Rattle.fault_handler.specs.Desks.{DeskState, IsNode, entries_of, entry_at, maps_of, state_of}
use Rattle.fault_handler.specs.Invariant.{IsProc}
use Rattle.fault_handler.proofs.Fours.{by_proc}
use Rattle.lock_validate.proofs.Facts.{known-kept, node-there}
use Rattle.node_runs.specs.Setups.{Setup, IsSetup, given}
use Rattle.node_runs.specs.NodeStates.{NodeState, first_node}
use Rattle.node_runs.specs.Replays.{Held as Held_home, held_by}
use Rattle.node_runs.specs.SentFrames.{IsFrame, IsIncoming}
use Rattle.node_runs.specs.NodesKeep.{IsNodeOf, IsTimely}
use Rattle.node_runs.specs.Runs.{World, Choice, world_after}
use Rattle.node_runs.specs.CallsKeep.{EachOf}
use Rattle.node_runs.proofs.Receiving.{EachOf-more, incoming-is}
use Rattle.node_runs.proofs.Calls.{put-same, put-other}
use Rattle.node_runs.proofs.Running.{run-keeps}
use Rattle.node_runs.proofs.Nodes.{node-with}
use Rattle.node_runs.proofs.Replaying.{replays-are}
use Rattle.node_runs.proofs.SettingUp.{setup-gives, setup-procs}
use Rattle.run_laws.specs.DecidedReplies.{proc_at}
use Rattle.run_laws.proofs.HearingRuns.{IsKeptNext, every-kept-run, event, event-did}
use Rattle.run_laws.specs.DeskSteps.{NodeMove}
use Rattle.run_laws.proofs.DeskSteps.{step-desk}
use Rattle.run_laws.specs.HistoryHomes.{held_then}
use Rattle.run_laws.specs.KnownRooms.{IsKnownRight}
use Rattle.run_laws.specs.StandingLocks.{IsKeeping}
use Rattle.run_laws.proofs.KnownRooms.{known-are}
use Rattle.run_laws.proofs.Standing.{standing-are}
use Rattle.run_laws.specs.NotedEffects.{note_effects, noted_past}
use Rattle.run_laws.proofs.NotedDeeds.{other-node}
use Rattle.run_laws.proofs.NotedRooms.{found-more, was-made, rooms-always}
use Rattle.run_laws.specs.Targets.{target_at, AreTargetsTold}
use Rattle.run_laws.proofs.Each.{each-push, each-filter}
use Rattle.run_laws.proofs.MapMoves.{MapsThen, as_before, one_more, one_less, maps-then, away-leaves}

-- a mapping of a desk, as the store has it
abbrev pub noted_as : Mapping → Noted_mapping
noted_as m = record { uid = m.uid; address = address_of m }

-- those of a desk have the newest last
abbrev pub backward : List Mapping → List Noted_mapping
backward [] = []
backward (m ∷ ms) = backward ms ++ noted_as m ∷ []

backward-push : (ms : List Mapping) (m : Mapping) → backward (ms ++ m ∷ []) ≡ noted_as m ∷ backward ms
backward-push [] m = refl
backward-push (x ∷ ms) m = ap (λ ys. ys ++ noted_as x ∷ []) (backward-push ms m)

abbrev is_other : ObjectName → Noted_mapping → Bool
is_other u m = not (same_uid u m.uid)

backward-without : (u : ObjectName) (ms : List Mapping) → backward (without_mapping u ms) ≡ filter (is_other u) (backward ms)
backward-without u [] = refl
backward-without u (m ∷ ms) = by_cases (same_uid u m.uid) (backward (without_mapping u (m ∷ ms)) ≡ filter (is_other u) (backward ms ++ noted_as m ∷ []))
    (λ h. ap (λ b. backward (if not b then m ∷ without_mapping u ms else without_mapping u ms)) h ∙ (backward-without u ms
    ∙ (sym (append-nil (filter (is_other u) (backward ms))) ∙ (ap (λ b. filter (is_other u) (backward ms) ++ (if not b then noted_as m ∷ [] else [])) (sym h) ∙ sym (filter-append (is_other u) (backward ms) (noted_as m ∷ []))))))
    (λ h. ap (λ b. backward (if not b then m ∷ without_mapping u ms else without_mapping u ms)) h ∙ (ap (λ ys. ys ++ noted_as m ∷ []) (backward-without u ms)
    ∙ (ap (λ b. filter (is_other u) (backward ms) ++ (if not b then noted_as m ∷ [] else [])) (sym h) ∙ sym (filter-append (is_other u) (backward ms) (noted_as m ∷ [])))))

-- an object that was made, of these segments
module _ (opening : Start) where
  abbrev found_in : List StoreEffect → ObjectName → Option Object
  found_in past u = find (λ o. same_uid o.uid u) (made opening past)

  pub record IsRight (past : List StoreEffect) (m : Mapping) : Type 0 where
    pub made : is_some (found_in past m.uid) ≡ true
    pub count : m.segments ≡ segments (room_of opening past m.uid)

  -- it stays so
  still-found : (u : ObjectName) (past effects : List StoreEffect) → is_some (found_in past u) ≡ true → found_in (effects ++ past) u ≡ found_in past u
  still-found u past [] is = refl
  still-found u past (Makes o ∷ effects) is = let before = still-found u past effects is in found-more u (made opening (effects ++ past)) (o ∷ []) (ap is_some before ∙ is) ∙ before
  still-found u past (TakesLock q v m ∷ effects) is = still-found u past effects is
  still-found u past (FreesLock q v ∷ effects) is = still-found u past effects is
  still-found u past (Deletes q v ∷ effects) is = still-found u past effects is
  still-found u past (Writes q spot bytes ∷ effects) is = still-found u past effects is
  still-found u past (Maps q v address ∷ effects) is = still-found u past effects is
  still-found u past (Unmaps q v ∷ effects) is = still-found u past effects is

  still-right : (past effects : List StoreEffect) (m : Mapping) → IsRight past m → IsRight (effects ++ past) m
  still-right past effects m is =
      let found = still-found m.uid past effects is.made in
      record { made = ap is_some found ∙ is.made; count = is.count ∙ ap (λ o. segments (room_or_none o)) (sym found) }

  module _ (past : List StoreEffect) (a : ℕ) where
    abbrev lies : Noted_mapping → Bool
    lies m = lies_within a (stretch_of opening past m)

    sum-of : (x y : ℕ) → x * SEGMENT_SIZE + y * SEGMENT_SIZE ≡ (x + y) * SEGMENT_SIZE
    sum-of x y = omega arith

    same-lies : (m : Mapping) → IsRight past m → lies (noted_as m) ≡ lies_in a m
    same-lies m is =
        ap (λ high. lies_within a (let s : Stretch = record { low = address_of m; high = high } in s))
        (ap (λ k. address_of m + k * SEGMENT_SIZE) (sym is.count) ∙ sum-of m.first m.segments)

    -- no address lies in two mappings that are apart
    apart-lies : (m n : Mapping) → is_apart n.segments n.first m ≡ true → lies_in a m ≡ true → lies_in a n ≡ false
    apart-lies m n apart is = by_cases (lies_in a n) (lies_in a n ≡ false) (λ h. absurd (both m n apart is h)) (λ h. h)
      where
        both : (m n : Mapping) → is_apart n.segments n.first m ≡ true → lies_in a m ≡ true → lies_in a n ≡ true → ⊥
        both m n apart e f = grind (arith, nat_tests, apart, e, f)

    none-after : (m : Mapping) (ms : List Mapping) → lies_in a m ≡ true → EachOf (λ (n : Mapping). is_apart n.segments n.first m ≡ true) ms → mapping_at a ms ≡ None
    none-after m [] is each = refl
    none-after m (n ∷ ms) is each = ap (λ b. if b then Some n else mapping_at a ms) (apart-lies m n each.0 is) ∙ none-after m ms is each.1

    found-last : (ys : List Noted_mapping) (y : Noted_mapping) → find lies (ys ++ y ∷ []) ≡ (if is_some (find lies ys) then find lies ys else (if lies y then Some y else None))
    found-last [] y = refl
    found-last (x ∷ ys) y = by_cases (lies x) (find lies ((x ∷ ys) ++ y ∷ []) ≡ (if is_some (find lies (x ∷ ys)) then find lies (x ∷ ys) else (if lies y then Some y else None)))
        (λ h. ap (λ b. if b then Some x else find lies (ys ++ y ∷ [])) h ∙ sym (ap (λ (o : Option Noted_mapping). if is_some o then o else (if lies y then Some y else None)) (ap (λ b. if b then Some x else find lies ys) h)))
        (λ h. ap (λ b. if b then Some x else find lies (ys ++ y ∷ [])) h ∙ (found-last ys y ∙ sym (ap (λ (o : Option Noted_mapping). if is_some o then o else (if lies y then Some y else None)) (ap (λ b. if b then Some x else find lies ys) h))))

    abbrev AreApart : List Mapping → Type 0
    AreApart [] = Unit {0}
    AreApart (m ∷ ms) = EachOf (λ (n : Mapping). is_apart n.segments n.first m ≡ true) ms × AreApart ms

    -- of mappings that are apart the first and the last in which it lies are one
    found-backward : (ms : List Mapping) → EachOf (IsRight past) ms → AreApart ms → find lies (backward ms) ≡ option_map noted_as (mapping_at a ms)
    found-backward [] right apart = refl
    found-backward (m ∷ ms) right apart =
        let rest = found-backward ms right.1 apart.1 in
        let here = same-lies m right.0 in
        found-last (backward ms) (noted_as m) ∙ by_cases (lies_in a m) ((if is_some (find lies (backward ms)) then find lies (backward ms) else (if lies (noted_as m) then Some (noted_as m) else None)) ≡ option_map noted_as (mapping_at a (m ∷ ms)))
        (λ h.
        let none : find lies (backward ms) ≡ None = rest ∙ ap (option_map noted_as) (none-after m ms h apart.0) in
        ap (λ (o : Option Noted_mapping). if is_some o then o else (if lies (noted_as m) then Some (noted_as m) else None)) none
        ∙ (ap (λ b. if b then Some (noted_as m) else None) (here ∙ h) ∙ sym (ap (λ b. option_map noted_as (if b then Some m else mapping_at a ms)) h)))
        (λ h.
        ap (λ b. if is_some (find lies (backward ms)) then find lies (backward ms) else (if b then Some (noted_as m) else None)) (here ∙ h)
        ∙ (whole (find lies (backward ms)) ∙ (rest ∙ sym (ap (λ b. option_map noted_as (if b then Some m else mapping_at a ms)) h))))
      where
        whole : (o : Option Noted_mapping) → (if is_some o then o else None) ≡ o
        whole None = refl
        whole (Some x) = refl

    apart-each : (ms : List Mapping) → AllPairs (λ m n. IsTrue (is_apart n.segments n.first m)) ms → AreApart ms
    apart-each [] pairs = tt
    apart-each (m ∷ ms) pairs = (
      each (λ n. IsTrue (is_apart n.segments n.first m)) ms (recursion_from_All (λ n. IsTrue (is_apart n.segments n.first m)) ms (AllPairs-head (λ m n. IsTrue (is_apart n.segments n.first m)) m ms pairs)),
      apart-each ms (AllPairs-tail (λ m n. IsTrue (is_apart n.segments n.first m)) m ms pairs),
    )
      where
        each : (P : Mapping → Type 0) (ms : List Mapping) → AllByRecursion P ms → EachOf P ms
        each P [] is = tt
        each P (m ∷ ms) is = (is.0, each P ms is.1)

    same-target : (o : Option Mapping) → target_in a (option_map noted_as o) ≡ option_map target_at (desk_target a o)
    same-target None = refl
    same-target (Some m) = refl

-- the mappings of a process in the store and at its desk
pub record IsMapped (opening : Start) (past : List StoreEffect) (P : ProcName) (d : DeskState) (p : ℕ) : Type 0 where
  pub maps : mappings P past ≡ backward (maps_of d p)
  pub right : EachOf (IsRight opening past) (maps_of d p)

module _ (opening : Start) (past : List StoreEffect) (P : ProcName) (d e : DeskState) (p : ℕ) (effects : List StoreEffect) (is : IsMapped opening past P d p)
    (fresh : (u : ObjectName) → is_held (state_of d p u) ≡ true → keeps (entry_at d.entries p u) ≡ true → (is_some (found_in opening past u) ≡ true) × (room_of opening past u ≡ known_room (known_of u d.known))) where
  right-then : EachOf (IsRight opening (effects ++ past)) (maps_of d p)
  right-then = EachOf-more (IsRight opening past) (IsRight opening (effects ++ past)) (maps_of d p) (λ m was. still-right opening past effects m was) is.right

  mapped-then : MapsThen P p d e effects → IsMapped opening (effects ++ past) P e p
  mapped-then (as_before maps leaves) = record { maps = leaves past ∙ (is.maps ∙ ap backward (sym maps)); right = subst (EachOf (IsRight opening (effects ++ past))) (sym maps) right-then }
  mapped-then (one_more u first maps does held kept) =
      let new : Mapping = record { uid = u; first = first; segments = segments (known_room (known_of u d.known)) } in
      let is_fresh = fresh u held kept in
      let right : IsRight opening past new = record { made = is_fresh.0; count = ap segments (sym is_fresh.1) } in
      record {
        maps = ap (λ es. mappings P (es ++ past)) does
            ∙ (ap (λ b. if b then noted_as new ∷ mappings P past else mappings P past) (same_proc-itself P)
            ∙ (ap (λ ms. noted_as new ∷ ms) is.maps ∙ (sym (backward-push (maps_of d p) new) ∙ ap backward (sym maps))));
        right = subst (EachOf (IsRight opening (effects ++ past))) (sym maps) (each-push (IsRight opening (effects ++ past)) (maps_of d p) new right-then (still-right opening past effects new right));
      }
  mapped-then (one_less u maps does) = record {
    maps = ap (λ es. mappings P (es ++ past)) does
        ∙ (ap (λ b. if b then filter (is_other u) (mappings P past) else mappings P past) (same_proc-itself P)
        ∙ (ap (filter (is_other u)) is.maps ∙ (sym (backward-without u (maps_of d p)) ∙ ap backward (sym maps))));
    right = subst (EachOf (IsRight opening (effects ++ past))) (sym maps) (each-filter (IsRight opening (effects ++ past)) (λ m. not (is_of u m)) (maps_of d p) right-then);
  }

-- in every run
abbrev pub AreMapped : Setup → World → Type 0
AreMapped s w = (n p : ℕ) → is_node s.opening n ≡ true → IsProc p → IsMapped s.opening (noted_past w.trace) (proc_at n p) (w.nodes n).desk p

-- what a process keeps has its room
module _ (s : Setup) (setup : IsSetup s) (cs : List Choice) (w : World) (e : world_after s cs ≡ Some w) (timely : IsTimely w) (n p : ℕ) (node : is_node s.opening n ≡ true) (proc : IsProc p) (u : ObjectName) where
  abbrev d : DeskState
  d = (w.nodes n).desk

  node-kept : IsNodeOf (given s n) (w.nodes n)
  node-kept = ((run-keeps s setup cs w e).kept timely).nodes n node

  held-state : (x : LockState) → is_held x ≡ true → (m : Mode) × (x ≡ Held m)
  held-state (Held m) is = (m, refl)
  held-state Free is = absurd (cc)
  held-state (Taking m) is = absurd (cc)
  held-state (Releasing m) is = absurd (cc)
  held-state Deleting is = absurd (cc)

  keeping : (o : Option LockEntry) → entry_of u (entries_of d p) ≡ o → keeps o ≡ true → (m : Mode) × ((grant : ℕ) × IsKeeping w n p u m grant)
  keeping None found kept = absurd (cc)
  keeping (Some x) found kept =
      let held = held-state x.state (left-true (is_held x.state) (not x.released) kept) in
      (held.0, (x.grant, record { owner = proc; entry = x; found = found; kept = kept; state = held.1; number = refl }))

  not-free : (x : LockState) → is_held x ≡ true → is_free x ≡ false
  not-free (Held m) is = refl
  not-free Free is = absurd (cc)
  not-free (Taking m) is = absurd (cc)
  not-free (Releasing m) is = absurd (cc)
  not-free Deleting is = absurd (cc)

  home-node : is_held (state_of d p u) ≡ true → is_node s.opening u.home ≡ true
  home-node held =
      let there : IsNode s.opening.nodes u.home = subst (λ k. IsNode k u.home) node-kept.own.nodes (node-there d p u node-kept.desk proc (not-free (state_of d p u) held)) in
      let low = there.0 in
      let high = there.1 in
      grind (arith, nat_tests, low, high)

  known-so : (o : Option Known) → IsSome o → IsKnownRight (w.nodes u.home).side.home u o → is_some (attr_of (w.nodes u.home).side.home u) ≡ true → room_in (attr_of (w.nodes u.home).side.home u) ≡ known_room o
  known-so None some right there = absurd (cc)
  known-so (Some k) some right there = right.room there

  pub kept-room : is_held (state_of d p u) ≡ true → keeps (entry_at d.entries p u) ≡ true → (is_some (found_in s.opening (noted_past w.trace) u) ≡ true) × (room_of s.opening (noted_past w.trace) u ≡ known_room (known_of u d.known))
  kept-room held kept =
      let keeps_it = keeping (entry_at d.entries p u) refl kept in
      let there : is_some (attr_of (w.nodes u.home).side.home u) ≡ true = (standing-are s setup cs w e timely).there n p u keeps_it.0 keeps_it.1.0 keeps_it.1.1 in
      let home_now : held_by (w.nodes u.home).side ≡ held_then s u.home w.trace = (replays-are s cs w e).homes u.home in
      let there_then : is_some (attr_of (held_then s u.home w.trace).home u) ≡ true = subst (λ (h : Held_home). is_some (attr_of h.home u) ≡ true) home_now there in
      let at = home-node held in (
        left-true (is_some (found_in s.opening (noted_past w.trace) u)) _ (was-made s setup cs w e timely u at [] w.trace refl ∙ there_then),
        rooms-always s setup cs w e timely [] w.trace refl u at there_then
            ∙ (ap (λ (h : Held_home). room_in (attr_of h.home u)) (sym home_now) ∙ known-so (known_of u d.known) (known-kept d p node-kept.desk proc u kept) (known-are s setup cs w e timely n node u) there),
      )

module _ (s : Setup) (setup : IsSetup s) (cs : List Choice) (old : World) (e : world_after s cs ≡ Some old) (timely : IsTimely old) (c : Choice) (new : World) (next : IsKeptNext s old c new) (mapped : AreMapped s old) where
  open event s old c new next use {g, n, step, after}

  frame : IsIncoming next.is.incoming
  frame = incoming-is IsIncoming tt (λ number tick. tt) (λ tick. tt) IsFrame (λ x is. is) old c.node (λ from. next.kept.frames from c.node) c.what next.is.incoming next.is.comes

  move : NodeMove g n next.is.incoming step
  move = step-desk g (old.nodes c.node) c.what next.is.incoming c.dropped step (setup-gives s setup c.node next.is.node) (next.kept.nodes c.node next.is.node) frame next.is.steps

  node-now : IsNodeOf g n
  node-now = let is = next.kept.nodes c.node next.is.node in node-with g (old.nodes c.node) n is refl refl is.side is.home is.within.side

  abbrev past : List StoreEffect
  past = noted_past old.trace

  abbrev effects : List StoreEffect
  effects = note_effects c.node step.note

  mapped-after : AreMapped s after
  mapped-after a q node proc = elim (cases_eq a c.node) [
    | inl here ↦ subst (λ b. IsMapped s.opening (effects ++ past) (proc_at b q) (after.nodes b).desk q) (sym here)
        (subst (λ (x : NodeState). IsMapped s.opening (effects ++ past) (proc_at c.node q) x.desk q) (sym (put-same old.nodes c.node c.node step.node refl))
        (mapped-then s.opening past (proc_at c.node q) n.desk step.node.desk q effects (mapped c.node q next.is.node proc) (λ u held kept. kept-room s setup cs old e timely c.node q next.is.node proc u held kept)
        (maps-then g n next.is.incoming step node-now c.what frame (event-did s old c new next) move q proc)))
    | inr away ↦ subst (λ (x : NodeState). IsMapped s.opening (effects ++ past) (proc_at a q) x.desk q) (sym (put-other old.nodes c.node a step.node away))
        (mapped-then s.opening past (proc_at a q) (old.nodes a).desk (old.nodes a).desk q effects (mapped a q node proc) (λ u held kept. kept-room s setup cs old e timely a q node proc u held kept)
        (as_before refl (away-leaves (proc_at a q) g n next.is.incoming step (λ p. other-node c.node a q p (λ e. away (sym e))) move)))
  ]

  mapped-later : AreMapped s new
  mapped-later = subst (AreMapped s) (sym next.is.world) mapped-after

pub mapped-are : (s : Setup) → IsSetup s → (cs : List Choice) (w : World) → world_after s cs ≡ Some w → IsTimely w → AreMapped s w
mapped-are s setup = every-kept-run s setup (setup-procs s setup) (AreMapped s)
    (λ n p node. by_proc (λ p. IsMapped s.opening [] (proc_at n p) (first_node (given s n)).desk p) (record { maps = refl; right = tt }) (record { maps = refl; right = tt }) (record { maps = refl; right = tt }) (record { maps = refl; right = tt }) p)
    (λ cs old c new e timely next mapped. mapped-later s setup cs old e timely c new next mapped)

pub targets-told : (s : Setup) → IsSetup s → (cs : List Choice) (w : World) → world_after s cs ≡ Some w → IsTimely w → AreTargetsTold s w
targets-told s setup cs w e timely n p node proc (Of u o) = refl
targets-told s setup cs w e timely n p node proc (Addr a) =
    let is = mapped-are s setup cs w e timely n p node proc in
    let d = (w.nodes n).desk in
    let desk = (((run-keeps s setup cs w e).kept timely).nodes n node).desk in
    let past = noted_past w.trace in
    ap (λ ms. target_in a (find (lies s.opening past a) ms)) is.maps
    ∙ (ap (target_in a) (found-backward s.opening past a (maps_of d p) is.right (apart-each s.opening past a (maps_of d p) (desk.maps p proc).apart))
    ∙ same-target s.opening past a (mapping_at a (maps_of d p)))
