-- Where a row of an object stands whose process does not keep it, the home has what that process stored; and all, where nobody else holds it shared,
-- as where the process's own mode is not.
use Rattle.std.proofs.Common.{◌≡◌, ℕ, ◌*◌, ◌≤◌, true, false, List, [], Option, Some, None, inl, inr, refl, sym, ap, subst, ◌∙◌}
use Rattle.std.specs.Prelude.{is_some, find, slice_index}
use Rattle.std.specs.Option.{option_map}
use Rattle.std.proofs.lemmas.Option.{same_Some}
use Rattle.uid_names.specs.Names.{ProcName, ObjectName, same_proc}
use Rattle.uid_names.specs.Modes.{mode_shared, modes_clash}
use Rattle.uid_names.specs.Rows.{same_row}
use Rattle.uid_names.specs.declared.limits.TheConstants.{PAGE_BYTES}
use Rattle.uid_names.specs.declared.mode.Mode.{Mode}
use Rattle.uid_names.proofs.Codes.{shared-writes, writes-together}
use Rattle.uid_names.proofs.ListLemmas.{by_cases}
use Rattle.uid_names.proofs.Orders.{same_proc_is}
use Rattle.dom_history.specs.Bytes.{bytes_from, end_of}
use Rattle.dom_history.specs.Locks.{IsAlone, holds, mode_in, rows}
use Rattle.dom_history.specs.Objects.{is_node}
use Rattle.dom_history.proofs.Tables.{holds-rows}
use Rattle.page_store.specs.Volumes.{page_of}
use Rattle.object_store.specs.HomeStates.{attr_of}
use Rattle.object_store.specs.declared.attributes.Attr.{Attr}
use Rattle.lock_manager.specs.Grants.{grant_of, held_in, rows_of}
use Rattle.lock_manager.specs.declared.grants.Grant.{Grant}
use Rattle.lock_manager.proofs.Conflicts.{holders-compatible}
use Rattle.fault_handler.specs.Desks.{entry_at}
use Rattle.fault_handler.specs.Entries.{keeps}
use Rattle.fault_handler.specs.Invariant.{IsProc}
use Rattle.node_runs.specs.HomesHave.{HasObject}
use Rattle.node_runs.specs.NodesKeep.{IsTimely, IsNodeOf}
use Rattle.node_runs.specs.Replays.{Held}
use Rattle.node_runs.specs.Runs.{World, Choice, world_after}
use Rattle.node_runs.specs.Setups.{Setup, IsSetup, given}
use Rattle.node_runs.proofs.Replaying.{replays-are}
use Rattle.run_laws.specs.DecidedReplies.{proc_at}
use Rattle.run_laws.proofs.HistoryHomes.{homes-always}
use Rattle.run_laws.proofs.HomeWords.{find-row}
use Rattle.run_laws.specs.LiveLocks.{row_at, locks_of}
use Rattle.run_laws.proofs.Standing.{table-now, row-there, keeping-row, held-grant}
use Rattle.run_laws.specs.NotedEffects.{noted_past}
use Rattle.run_laws.proofs.NotedEffects.{effects-noted}
use Rattle.run_laws.specs.Items.{Item, Value, attr_length, is_dirty_at}
use Rattle.run_laws.specs.Stamps.{IsThere, home_at}
use Rattle.run_laws.specs.Stores.{AreStores, IsCleanEverywhere}
use Rattle.run_laws.proofs.Keepers.{Writer, writer, dirty-any}
use Rattle.run_laws.proofs.StoresMoved.{bytes-are, length-is}
use Rattle.run_laws.proofs.StoredBytes.{get-bytes}
use Rattle.run_laws.specs.Left.{AreLeft, IsUnkept}

-- the mode of a grant that was found, by its row
row-mode : (o : Option Grant) → mode_in (option_map (λ (g : Grant). g.row) o) ≡ option_map (λ (z : Mode × ℕ). z.0) (held_in o)
row-mode None = refl
row-mode (Some g) = refl

module _ (s : Setup) (setup : IsSetup s) (cs : List Choice) (w : World) (e : world_after s cs ≡ Some w) (timely : IsTimely w) where
  -- what a process holds, by the history, its row says
  held-row : (q : ProcName) (u : ObjectName) → holds q u (noted_past w.trace) ≡ option_map (λ (z : Mode × ℕ). z.0) (row_at (locks_of w) q u)
  held-row q u =
      let always = homes-always s setup cs w e timely [] w.trace refl in
      let grants : List Grant = (locks_of w u.home).grants in
      let rows_are : rows u.home (noted_past w.trace) ≡ rows_of grants =
      ap (rows u.home) (sym (effects-noted s setup cs w e timely [] w.trace refl)) ∙ (always.rows u.home ∙ ap (λ (h : Held). rows_of h.locks.grants) (sym ((replays-are s cs w e).homes u.home))) in
      holds-rows q u (noted_past w.trace) ∙ (ap (λ rs. mode_in (find (same_row q u) rs)) rows_are ∙ (ap mode_in (find-row (same_row q u) grants) ∙ row-mode (grant_of q u grants)))

  -- so one with a row holds the object
  row-holds : (q : ProcName) (u : ObjectName) (m : Mode) (grant : ℕ) → row_at (locks_of w) q u ≡ Some (m, grant) → holds q u (noted_past w.trace) ≡ Some m
  row-holds q u m grant row = held-row q u ∙ ap (option_map (λ (z : Mode × ℕ). z.0)) row

  -- and one that holds it has a grant
  holds-grant : (q : ProcName) (u : ObjectName) (m : Mode) → holds q u (noted_past w.trace) ≡ Some m → (g : Grant) × (grant_of q u (locks_of w u.home).grants ≡ Some g) × (g.row.mode ≡ m)
  holds-grant q u m held = by (grant_of q u (locks_of w u.home).grants) refl (sym (held-row q u) ∙ held)
    where
      by : (o : Option Grant) → grant_of q u (locks_of w u.home).grants ≡ o → option_map (λ (z : Mode × ℕ). z.0) (held_in (grant_of q u (locks_of w u.home).grants)) ≡ Some m
          → (g : Grant) × (grant_of q u (locks_of w u.home).grants ≡ Some g) × (g.row.mode ≡ m)
      by None at is = absurd (let h : None ≡ Some m = sym (ap (λ o. option_map (λ (z : Mode × ℕ). z.0) (held_in o)) at) ∙ is in cc)
      by (Some g) at is = (g, at, same_Some g.row.mode m (sym (ap (λ o. option_map (λ (z : Mode × ℕ). z.0) (held_in o)) at) ∙ is))

  -- one whose mode is not shared is alone
  pub alone-unshared : (p : ProcName) (u : ObjectName) (m : Mode) → holds p u (noted_past w.trace) ≡ Some m → mode_shared m ≡ false → IsAlone p u (noted_past w.trace)
  alone-unshared p u m held unshared q k other held_too = by_cases (mode_shared k) (mode_shared k ≡ false)
      (λ shared.
      let one = holds-grant p u m held in
      let two = holds-grant q u k held_too in
      let free : modes_clash p m q k ≡ false =
      subst (λ y. modes_clash p m q y ≡ false) two.2 (subst (λ y. modes_clash p y q two.0.row.mode ≡ false) one.2
      (holders-compatible p q u (locks_of w u.home).grants one.0 two.0 (table-now s setup cs w e timely u.home).compatible one.1 two.1 other)) in
      let both = writes-together p m q k (shared-writes k shared) free in
      absurd (let h : true ≡ false = sym both.0 ∙ unshared in cc))
      (λ h. h)

  module _ (nodes : (n : ℕ) → is_node s.opening n ≡ true → IsNodeOf (given s n) (w.nodes n)) (p : ProcName) (u : ObjectName) (m : Mode) (grant : ℕ) (row : row_at (locks_of w) p u ≡ Some (m, grant)) (unkept : IsUnkept w p u) where
    -- where nobody else holds it shared nobody writes it
    unwritten : IsAlone p u (noted_past w.trace) → (a : ℕ) → Writer w a u → ⊥
    unwritten alone a x = by_cases (same_proc p (proc_at a x.proc)) ⊥
        (λ same. absurd (
        let kept : keeps (entry_at (w.nodes a).desk.entries x.proc u) ≡ true = ap keeps x.keeping.found ∙ x.keeping.kept in
        let h : true ≡ false = sym kept ∙ subst (λ (r : ProcName). keeps (entry_at (w.nodes r.node).desk.entries r.number u) ≡ false) (same_proc_is p (proc_at a x.proc) same) unkept in cc))
        (λ other.
        let row_of : row_at (locks_of w) (proc_at a x.proc) u ≡ Some (x.mode, x.grant) = keeping-row s setup cs w e timely a x.proc u x.mode x.grant x.keeping in
        let one = held-grant (grant_of p u (locks_of w u.home).grants) m grant row in
        let two = held-grant (grant_of (proc_at a x.proc) u (locks_of w u.home).grants) x.mode x.grant row_of in
        let free : modes_clash p m (proc_at a x.proc) x.mode ≡ false =
        subst (λ k. modes_clash p m (proc_at a x.proc) k ≡ false) two.2 (subst (λ k. modes_clash p k (proc_at a x.proc) two.0.row.mode ≡ false) one.2
        (holders-compatible p (proc_at a x.proc) u (locks_of w u.home).grants one.0 two.0 (table-now s setup cs w e timely u.home).compatible one.1 two.1 other)) in
        let both = writes-together p m (proc_at a x.proc) x.mode x.writes free in
        absurd (let h : true ≡ false = sym both.1.0 ∙ alone (proc_at a x.proc) x.mode other (row-holds (proc_at a x.proc) u x.mode x.grant row_of) in cc))

    clean : IsAlone p u (noted_past w.trace) → (x : Item) → IsCleanEverywhere s w u x
    clean alone x a node = by_cases (is_dirty_at (w.nodes a).desk u x) (is_dirty_at (w.nodes a).desk u x ≡ false)
        (λ dirty. absurd (unwritten alone a (writer w a u (dirty-any (w.nodes a).desk (nodes a node).desk u x dirty)))) (λ h. h)

    there : IsThere w u
    there = row-there s setup cs w e timely p u (m, grant) row

    pub home-has : is_node s.opening p.node ≡ true → IsProc p.number → AreLeft s w → AreStores s w → is_node s.opening u.home ≡ true → HasObject s.opening (noted_past w.trace) (home_at w u) u p (attr_of (home_at w u) u)
    home-has node proc left stores home = by (attr_of (home_at w u) u) refl
      where
        by : (o : Option Attr) → attr_of (home_at w u) u ≡ o → HasObject s.opening (noted_past w.trace) (home_at w u) u p o
        by None none = absurd (let h : false ≡ true = ap is_some (sym none) ∙ there in cc)
        by (Some attr) is = record {
          bytes = λ k i few low so. elim so [
            | inl mine ↦ (left p node proc u (Item.Page k) home there unkept).home i low mine
            | inr alone ↦
                (let page : page_of (home_at w u).pages u.counter k ≡ bytes_from s.opening (noted_past w.trace) u (PAGE_BYTES * k) PAGE_BYTES = bytes-are _ _ (stores.clean u (Item.Page k) home there (clean alone (Item.Page k))) in
                ap (λ bs. slice_index bs i) page ∙ get-bytes s.opening (noted_past w.trace) u (PAGE_BYTES * k) PAGE_BYTES i low)
          ];
          length = λ alone. length-is _ _ (ap (λ o. Value.Length (attr_length o)) (sym is) ∙ stores.clean u Item.Size home there (clean alone Item.Size));
          least = subst (λ o. end_of s.opening (noted_past w.trace) p u ≤ attr_length o) is (left p node proc u Item.Size home there unkept).home;
        }
