-- In every run what a desk has of a process's locks and mappings, and of the objects that it keeps, is what one store has.
use Rattle.std.proofs.Common.{◌≡◌, ℕ, ◌+◌, ◌*◌, true, List, [], ◌∷◌, ◌++◌, map, Option, Some, None, refl, sym, ap, ◌∙◌, arith}
use Rattle.std.specs.Prelude.{IsSome}
use Rattle.std.specs.Option.{option_map}
use Rattle.std.proofs.lemmas.List.{map-append}
use Rattle.uid_names.specs.Names.{ProcName, ObjectName}
use Rattle.uid_names.specs.Openings.{Start}
use Rattle.uid_names.specs.Segments.{Stretch}
use Rattle.uid_names.specs.declared.segment.TheConstants.{SEGMENT_SIZE}
use Rattle.uid_names.specs.declared.limits.TheConstants.{PAGE_BYTES}
use Rattle.uid_names.proofs.Passed.{left-true}
use Rattle.dom_history.specs.Objects.{is_node}
use Rattle.dom_history.specs.StoreEffects.{StoreEffect, own}
use Rattle.dom_history.specs.Mappings as store
use Rattle.dom_history.specs.Locks.{is_held}
use Rattle.dom_history.specs.Bytes.{bytes_from, length_of}
use Rattle.dom_history.specs.Replies.{Before}
use Rattle.page_cache.specs.Caches.{Resident, page_at}
use Rattle.address_map.specs.declared.mapping.Mapping.{Mapping}
use Rattle.address_map.specs.Mappings.{address_of, stretch_of as desk_stretch}
use Rattle.fault_handler.specs.declared.lengths.Known.{Known}
use Rattle.fault_handler.specs.Entries.{keeps}
use Rattle.fault_handler.specs.Lengths as known
use Rattle.fault_handler.specs.Lengths.{known_of}
use Rattle.fault_handler.specs.Desks.{DeskState, maps_of, entry_at, state_of}
use Rattle.fault_handler.specs.Invariant.{IsProc, IsDesk}
use Rattle.node_runs.specs.Setups.{Setup, IsSetup}
use Rattle.node_runs.specs.NodesKeep.{IsTimely}
use Rattle.node_runs.specs.Runs.{World, Choice, world_after}
use Rattle.node_runs.specs.CallsKeep.{EachOf}
use Rattle.node_runs.proofs.Running.{AreKept, run-keeps}
use Rattle.run_laws.specs.DecidedReplies.{proc_at}
use Rattle.run_laws.specs.NotedEffects.{noted_past}
use Rattle.run_laws.specs.NotedDeeds.{noted_deeds}
use Rattle.run_laws.specs.States.{AreStatesTold}
use Rattle.run_laws.specs.Targets.{AreTargetsTold}
use Rattle.run_laws.proofs.Targets.{backward, IsRight, IsMapped, kept-room}
use Rattle.run_laws.specs.Items.{Item, Value, page_value, known_value}
use Rattle.run_laws.specs.Stores.{AreReadsRight}
use Rattle.run_laws.proofs.Keepers.{keeper}
use Rattle.run_laws.proofs.StoresMoved.{bytes-are, length-is}
use Rattle.run_laws.proofs.DeskTurns.{IsLike}
use Rattle.run_laws.proofs.MapTurns.{noted, turned, AreLike}
use Rattle.run_laws.proofs.Elsewhere.{no-object}

-- what stood before an operation of a process at a world
abbrev pub before_at : Setup → World → ℕ → ℕ → Before
before_at s w n p = record { opening = s.opening; past = noted_past w.trace; told = own (proc_at n p) (noted_deeds w.trace) }

module _ (s : Setup) (setup : IsSetup s) (cs : List Choice) (w : World) (e : world_after s cs ≡ Some w) (timely : IsTimely w) (reads : AreReadsRight s w) (n : ℕ) (node : is_node s.opening n ≡ true) (p : ℕ) (proc : IsProc p) where
  abbrev d : DeskState
  d = (w.nodes n).desk

  kept : AreKept s w
  kept = (run-keeps s setup cs w e).kept timely

  desk : IsDesk d
  desk = (kept.nodes n node).desk

  -- a page that a process keeps has the bytes of the store
  pub pages-are : (u : ObjectName) (k : ℕ) (r : Resident) → keeps (entry_at d.entries p u) ≡ true → page_at d.cache.pages u k ≡ Some r → r.bytes ≡ bytes_from s.opening (noted_past w.trace) u (PAGE_BYTES * k) PAGE_BYTES
  pages-are u k r keeps_it found =
      let own = keeper w n p proc u keeps_it in
      bytes-are r.bytes (bytes_from s.opening (noted_past w.trace) u (PAGE_BYTES * k) PAGE_BYTES) (reads n p node u own.mode own.grant own.keeping (Item.Page k) (Value.Bytes r.bytes) (ap (option_map page_value) found))

  module _ (u : ObjectName) (keeps_it : keeps (entry_at d.entries p u) ≡ true) where
    length-known : (o : Option Known) → known_of u d.known ≡ o → IsSome o → length_of s.opening (noted_past w.trace) u ≡ known.length_of o
    length-known None found is = absurd (cc)
    length-known (Some k) found is =
        let own = keeper w n p proc u keeps_it in
        sym (length-is k.length (length_of s.opening (noted_past w.trace) u) (reads n p node u own.mode own.grant own.keeping Item.Size (Value.Length k.length) (ap (option_map known_value) found)))

    held : is_held (state_of d p u) ≡ true
    held = left-true (is_held (state_of d p u)) _ keeps_it

  pub like-is : AreStatesTold s w → AreTargetsTold s w → IsLike (before_at s w n p) (proc_at n p) d p
  like-is states targets = record {
    states = states.states n p node proc;
    counts = states.counts n p node proc;
    targets = targets n p node proc;
    nodes = (kept.nodes n node).own.nodes;
    absent = no-object s setup cs w e timely;
    lengths = λ u keeps_it. length-known u keeps_it (known_of u d.known) refl (desk.known.both u (desk.known.kept p proc u keeps_it));
    rooms = λ u keeps_it. (kept-room s setup cs w e timely n p node proc u (held u keeps_it) keeps_it).1;
    pages = pages-are;
  }

-- and the list of its mappings is that of the store
module _ (opening : Start) (past : List StoreEffect) where
  backward-turned : (ms : List Mapping) → backward ms ≡ turned noted ms
  backward-turned [] = refl
  backward-turned (m ∷ ms) = ap (λ ys. ys ++ noted m ∷ []) (backward-turned ms)

  stretch-same : (m : Mapping) → IsRight opening past m → store.stretch_of opening past (noted m) ≡ desk_stretch m
  stretch-same m is =
      ap (λ high. let x : Stretch = record { low = address_of m; high = high } in x)
      (ap (λ k. address_of m + k * SEGMENT_SIZE) (sym is.count) ∙ (let e : m.first * SEGMENT_SIZE + m.segments * SEGMENT_SIZE ≡ (m.first + m.segments) * SEGMENT_SIZE = omega arith in e))

  stretches-same : (ms : List Mapping) → EachOf (IsRight opening past) ms → map (store.stretch_of opening past) (turned noted ms) ≡ turned desk_stretch ms
  stretches-same [] each = refl
  stretches-same (m ∷ ms) each =
      map-append (store.stretch_of opening past) (turned noted ms) (noted m ∷ [])
      ∙ (ap (λ ys. ys ++ store.stretch_of opening past (noted m) ∷ []) (stretches-same ms each.1) ∙ ap (λ y. turned desk_stretch ms ++ y ∷ []) (stretch-same m each.0))

  pub maps-like : (name : ProcName) (d : DeskState) (p : ℕ) → IsMapped opening past name d p → AreLike opening past name (maps_of d p)
  maps-like name d p is =
      let same : store.mappings name past ≡ turned noted (maps_of d p) = is.maps ∙ backward-turned (maps_of d p) in
      record { same = same; stretches = ap (map (store.stretch_of opening past)) same ∙ stretches-same (maps_of d p) is.right }
