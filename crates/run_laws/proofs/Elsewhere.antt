-- Where a name is no node's: no object is there, and no lock.
use Rattle.std.proofs.Common.{◌≡◌, ℕ, zero, suc, ◌+◌, ◌≤◌, ◌<◌, Bool, true, false, List, [], ◌∷◌, ◌++◌, Option, Some, None, inl, inr, refl, sym, ap, subst, ◌∙◌, arith}
use Rattle.std.specs.Prelude.{◌==◌, ◌&&◌, not, nat_le, if◌then◌else◌, is_some, find, All}
use Rattle.std.proofs.lemmas.Bool.{cases_eq}
use Rattle.std.proofs.lemmas.Bool.Decides.{nat_tests}
use Rattle.std.proofs.lemmas.List.Elements.{All-head, All-tail}
use Rattle.uid_names.specs.Names.{ProcName, ObjectName, IsName, same_uid}
use Rattle.uid_names.specs.Openings.{Start, IsDeclarable}
use Rattle.uid_names.specs.Beginnings.{entry_directory}
use Rattle.uid_names.specs.declared.opening.Object.{Object}
use Rattle.uid_names.specs.declared.limits.TheConstants.{VOLUME_ROOM}
use Rattle.uid_names.specs.declared.mode.Mode.{Mode}
use Rattle.uid_names.specs.declared.mode.ObjKind.{ObjKind}
use Rattle.uid_names.proofs.ListLemmas.{by_cases}
use Rattle.dom_history.specs.StoreEffects.{StoreEffect}
use Rattle.dom_history.specs.Locks.{rows}
use Rattle.dom_history.specs.Objects.{is_node, is_present, made, is_deleted, entry_directories}
use Rattle.dom_history.proofs.KeptObjects.{find-present}
use Rattle.object_store.specs.declared.attributes.Attr.{Attr}
use Rattle.object_store.specs.Objects.{rooms}
use Rattle.object_store.specs.HomeStates.{attr_of}
use Rattle.lock_manager.specs.Grants.{rows_of, grant_of, conflict_of}
use Rattle.ring_messages.specs.Bodies.{Ask}
use Rattle.page_server.specs.Decisions.{decide, lock_answer, remove_answer, make_answer, may_remove}
use Rattle.node_runs.specs.Setups.{Setup, IsSetup}
use Rattle.node_runs.specs.NodesKeep.{IsTimely}
use Rattle.node_runs.specs.Notes.{Note}
use Rattle.node_runs.specs.Runs.{World, Noted, Choice, world_after}
use Rattle.node_runs.specs.RunHistories.{settled_op, change_reply}
use Rattle.node_runs.specs.CallsKeep.{EachOf}
use Rattle.node_runs.specs.Replays.{Held, first_held, after_if, IsAnswered, AreAnswered}
use Rattle.node_runs.proofs.Replaying.{replays-are}
use Rattle.node_runs.proofs.SettingUp.{setup-procs}
use Rattle.run_laws.proofs.HearingRuns.{every-kept-run}
use Rattle.run_laws.specs.DecidedEffects.{home_effects, effect_if, noted_effect, decided_effects}
use Rattle.run_laws.specs.HistoryHomes.{held_then, past_then, AreHomesThen}
use Rattle.run_laws.proofs.HistoryHomes.{homes-always}
use Rattle.run_laws.proofs.Presence.{made-home}
use Rattle.run_laws.specs.NotedEffects.{noted_past}
use Rattle.run_laws.proofs.NotedEffects.{effects-noted}
use Rattle.run_laws.proofs.PresentRooms.{node-then}

-- each note of a run is of a node
abbrev AreOfNodes : Setup → World → Type 0
AreOfNodes s w = EachOf (λ (j : Noted). is_node s.opening j.place.node ≡ true) w.trace

of-nodes : (s : Setup) → IsSetup s → (cs : List Choice) (w : World) → world_after s cs ≡ Some w → IsTimely w → AreOfNodes s w
of-nodes s setup = every-kept-run s setup (setup-procs s setup) (AreOfNodes s) tt (λ cs old c new e timely next before. subst (AreOfNodes s) (sym next.is.world) (next.is.node, before))

-- objects whose homes are not above the last node
module _ (opening : Start) where
  abbrev AreNear : List Object → Type 0
  AreNear xs = EachOf (λ (o : Object). o.uid.home ≤ opening.nodes) xs

  near-both : (xs ys : List Object) → AreNear xs → AreNear ys → AreNear (xs ++ ys)
  near-both [] ys a b = b
  near-both (x ∷ xs) ys a b = (a.0, near-both xs ys a.1 b)

  directories-near : (k : ℕ) → k ≤ opening.nodes → AreNear (entry_directories k)
  directories-near zero low = tt
  directories-near (suc k) low = near-both (entry_directories k) (entry_directory (suc k) ∷ []) (directories-near k (omega (arith, low))) (low, tt)

  declared-near : (xs : List Object) → All (IsDeclarable opening.nodes opening.greatest) xs → AreNear xs
  declared-near [] are = tt
  declared-near (x ∷ xs) are = ((All-head (IsDeclarable opening.nodes opening.greatest) x xs are).home, declared-near xs (All-tail (IsDeclarable opening.nodes opening.greatest) x xs are))

  none-far : (u : ObjectName) → opening.nodes < u.home → (xs : List Object) → AreNear xs → is_some (find (λ o. same_uid o.uid u) xs) ≡ false
  none-far u far [] near = refl
  none-far u far (x ∷ xs) near = by_cases (same_uid x.uid u) (is_some (find (λ o. same_uid o.uid u) (x ∷ xs)) ≡ false)
      (λ h. absurd (let same : x.uid.home ≡ u.home = grind (arith, nat_tests, h) in let low = near.0 in let no : ⊥ = omega (arith, same, low, far) in no))
      (λ h. ap (λ b. is_some (if b then Some x else find (λ (o : Object). same_uid o.uid u) xs)) h ∙ none-far u far xs near.1)

  module _ (past : List StoreEffect) (near : AreNear (made opening past)) where
    abbrev Near : List StoreEffect → Type 0
    Near effects = AreNear (made opening (effects ++ past))

    lock-near : (q : ProcName) (home : ℕ) (v : ObjectName) (m : Mode) (attr : Option Attr) (conflict : Option (ProcName × Mode)) (grant : ℕ) → Near (effect_if q (settled_op home (Ask.Lock v m)) (change_reply (lock_answer attr conflict grant)))
    lock-near q home v m None conflict grant = near
    lock-near q home v m (Some attr) (Some (holder, held)) grant = near
    lock-near q home v m (Some attr) None grant = near

    remove-near : (q : ProcName) (home : ℕ) (v : ObjectName) (there held : Bool) → Near (effect_if q (settled_op home (Ask.Remove v)) (change_reply (remove_answer there held)))
    remove-near q home v true true = near
    remove-near q home v true false = near
    remove-near q home v false held = near

    make-near : (q : ProcName) (home : ℕ) (kind : ObjKind) (room : ℕ) (fits : Bool) (v : ObjectName) → v.home ≤ opening.nodes → Near (effect_if q (settled_op home (Ask.Make kind room)) (change_reply (make_answer fits v)))
    make-near q home kind room true v low = near-both (made opening past) (record { uid = v; kind = kind; room = room } ∷ []) near (low, tt)
    make-near q home kind room false v low = near

    decided-near : (h : Held) (home : ℕ) → h.home.node ≤ opening.nodes → (q : ProcName) (ask : Ask) → Near (effect_if q (settled_op home ask) (change_reply (decide h.home h.locks q ask).answer))
    decided-near h home low q (Ask.PageIn v k) = near
    decided-near h home low q (Ask.PageOut v k grant base bytes) = near
    decided-near h home low q (Ask.AttrOut v n grant base) = near
    decided-near h home low q (Ask.Lock v m) = lock-near q home v m (attr_of h.home v) (conflict_of q v m h.locks.grants) (h.locks.last + 1)
    decided-near h home low q (Ask.Unlock v) = near
    decided-near h home low q (Ask.Remove v) = remove-near q home v (is_some (attr_of h.home v)) (may_remove (grant_of q v h.locks.grants))
    decided-near h home low q (Ask.Make kind room) = make-near q home kind room (nat_le (rooms h.home.objects + room) VOLUME_ROOM) (record { counter = h.home.greatest + 1; home = h.home.node }) low
    decided-near h home low q (Ask.ListLocks after) = near

    note-near : (h : Held) (home : ℕ) → h.home.node ≤ opening.nodes → (note : Note) → IsAnswered h note → Near (noted_effect home note)
    note-near h home low Note.Nothing is = near
    note-near h home low (Note.Began q op) is = near
    note-near h home low (Note.Did q phase op reply) is = near
    note-near h home low (Note.Ended t) is = near
    note-near h home low (Note.Decided q number ask answer) is = subst (λ a. Near (effect_if q (settled_op home ask) (change_reply a))) (sym is) (decided-near h home low q ask)

module _ (s : Setup) (setup : IsSetup s) where
  low-node : (n : ℕ) → is_node s.opening n ≡ true → n ≤ s.opening.nodes
  low-node n node = grind (arith, nat_tests, node)

  made-near : (notes : List Noted) → AreAnswered s notes → EachOf (λ (j : Noted). is_node s.opening j.place.node ≡ true) notes → AreNear s.opening (made s.opening (decided_effects notes))
  made-near [] are nodes = near-both s.opening (entry_directories s.opening.nodes) s.opening.objects (directories-near s.opening s.opening.nodes (omega arith)) (declared-near s.opening s.opening.objects setup.start.objects)
  made-near (j ∷ older) are nodes =
      let low = low-node j.place.node nodes.0 in
      let same = node-then s j.place.node older in
      note-near s.opening (decided_effects older) (made-near older are.1 nodes.1) (held_then s j.place.node older) j.place.node (omega (arith, low, same)) j.note are.0

  -- a home that is none has no note
  held-first : (home : ℕ) → is_node s.opening home ≡ false → (notes : List Noted) → EachOf (λ (j : Noted). is_node s.opening j.place.node ≡ true) notes → held_then s home notes ≡ first_held s home
  held-first home none [] nodes = refl
  held-first home none (j ∷ older) nodes =
      let apart : (j.place.node == home) ≡ false = elim (cases_eq j.place.node home) [
        | inl same ↦ absurd (let e : true ≡ false = sym nodes.0 ∙ (ap (is_node s.opening) same ∙ none) in cc)
        | inr differs ↦ grind (arith, nat_tests, differs)
      ] in
      ap (λ b. after_if b (held_then s home older) j.note) apart ∙ held-first home none older nodes.1

  module _ (cs : List Choice) (w : World) (e : world_after s cs ≡ Some w) (timely : IsTimely w) where
    homes : AreHomesThen s w w.trace
    homes = homes-always s setup cs w e timely [] w.trace refl

    noted : past_then w w.trace ≡ noted_past w.trace
    noted = effects-noted s setup cs w e timely [] w.trace refl

    pub no-rows : (home : ℕ) → is_node s.opening home ≡ false → rows home (noted_past w.trace) ≡ []
    no-rows home none = ap (rows home) (sym noted) ∙ (homes.rows home ∙ ap (λ (h : Held). rows_of h.locks.grants) (held-first home none w.trace (of-nodes s setup cs w e timely)))

    pub no-object : (u : ObjectName) → IsName u → is_node s.opening u.home ≡ false → is_present s.opening (noted_past w.trace) u ≡ false
    no-object u name none =
        let past = noted_past w.trace in
        let low = name.home_low in
        let far : s.opening.nodes < u.home = grind (arith, nat_tests, none, low) in
        let same : made s.opening past ≡ made s.opening (decided_effects w.trace) = sym (made-home s.opening past) ∙ ap (made s.opening) (ap home_effects (sym noted) ∙ homes.decided) in
        let near = subst (AreNear s.opening) (sym same) (made-near w.trace (replays-are s cs w e).answers (of-nodes s setup cs w e timely)) in
        find-present (λ v. is_deleted v past) (made s.opening past) u ∙ ap (λ b. b && not (is_deleted u past)) (none-far s.opening u far (made s.opening past) near)
