-- What a process that keeps an object reads at its node is what one store has.
use Rattle.std.proofs.Common.{◌≡◌, ℕ, ◌≤◌, true, false, List, Some, IfSome, sym, ap, subst, ◌∙◌, arith}
use Rattle.std.specs.Prelude.{◌&&◌, nat_le, unwrap_or}
use Rattle.std.proofs.lemmas.Bool.Decides.{nat_tests}
use Rattle.std.proofs.lemmas.Option.{same_Some}
use Rattle.uid_names.specs.Names.{ObjectName}
use Rattle.uid_names.specs.declared.mode.Mode.{Mode}
use Rattle.uid_names.proofs.ListLemmas.{by_cases}
use Rattle.uid_names.proofs.Somes.{there_is}
use Rattle.version_stamps.specs.Stamps.{stamp_of as seen_of}
use Rattle.dom_history.specs.Objects.{is_node}
use Rattle.fault_handler.specs.Desks.{DeskState, IsNode, entry_at, base_of}
use Rattle.fault_handler.specs.Entries.{keeps}
use Rattle.fault_handler.specs.Invariant.{IsDesk}
use Rattle.fault_handler.proofs.Accessing.{home-kept}
use Rattle.node_runs.specs.Setups.{Setup, IsSetup, given}
use Rattle.node_runs.specs.NodesKeep.{IsTimely, IsNodeOf}
use Rattle.node_runs.specs.Runs.{World, Choice, world_after}
use Rattle.run_laws.specs.DecidedReplies.{proc_at}
use Rattle.run_laws.specs.LiveLocks.{row_at, locks_of}
use Rattle.run_laws.specs.StandingLocks.{IsKeeping}
use Rattle.run_laws.proofs.Standing.{keeping-row, standing-are}
use Rattle.run_laws.specs.Items.{Item, Value, desk_value, is_dirty_at, home_value}
use Rattle.run_laws.specs.Contents.{content, since}
use Rattle.run_laws.specs.Stamps.{AreStamped, IsStampOf, IsThere, home_at, stamp_at}
use Rattle.run_laws.specs.DeskContents.{AreContents}
use Rattle.run_laws.specs.Stores.{AreStores, AreReadsRight, IsCleanEverywhere, stored_value}
use Rattle.run_laws.proofs.Keepers.{writer, dirty-any, writes-alone}

pub node-test : (opening home nodes : ℕ) → nodes ≡ opening → IsNode nodes home → (nat_le 1 home && nat_le home opening) ≡ true
node-test opening home nodes same is = let a = is.0 in let b = is.1 in grind (arith, nat_tests, a, b, same)

module _ (s : Setup) (setup : IsSetup s) (cs : List Choice) (w : World) (e : world_after s cs ≡ Some w) (timely : IsTimely w) (nodes : (n : ℕ) → is_node s.opening n ≡ true → IsNodeOf (given s n) (w.nodes n))
    (contents : AreContents s w) (stamped : AreStamped s w) where
  module _ (n p : ℕ) (node : is_node s.opening n ≡ true) (u : ObjectName) (m : Mode) (grant : ℕ) (keeping : IsKeeping w n p u m grant) where
    abbrev d : DeskState
    d = (w.nodes n).desk

    desk : IsDesk d
    desk = (nodes n node).desk

    kept : keeps (entry_at d.entries p u) ≡ true
    kept = ap keeps keeping.found ∙ keeping.kept

    pub kept-there : IsThere w u
    kept-there = (standing-are s setup cs w e timely).there n p u m grant keeping

    pub kept-home : is_node s.opening u.home ≡ true
    kept-home = node-test s.opening.nodes u.home d.nodes (nodes n node).own.nodes (home-kept d p u desk keeping.owner kept)

    row : row_at (locks_of w) (proc_at n p) u ≡ Some (m, grant)
    row = keeping-row s setup cs w e timely n p u m grant keeping

    -- of what is clean, every stamp from the seen one to the object's holds what the home has
    pub clean-since : (x : Item) → is_dirty_at d u x ≡ false → (t : ℕ) → base_of d.seen u ≤ t → t ≤ stamp_at w u → content w.trace u t x ≡ home_value (home_at w u) u x
    clean-since x clean t least most =
        let low : since w.trace u grant ≤ base_of d.seen u = stamped.kept n p node u m grant keeping in
        contents.quiet n p node keeping.owner u x m grant kept-there row clean t (omega (arith, low, least)) most ∙ sym (stamped.homes u kept-home kept-there x)

    -- a clean item of an object that is kept is the home's
    pub clean-home : (x : Item) (v : Value) → desk_value d u x ≡ Some v → is_dirty_at d u x ≡ false → v ≡ home_value (home_at w u) u x
    clean-home x v is clean =
        let seen = there_is (seen_of u d.seen) (desk.known.kept p keeping.owner u kept) in
        let base : base_of d.seen u ≡ seen.0 = ap (λ o. unwrap_or o 0) seen.1 in
        let most : seen.0 ≤ stamp_at w u = (subst (λ o. IfSome o (IsStampOf w u)) seen.1 (stamped.seen n node u)).most kept-there in
        contents.as_seen n node u x v seen.0 kept-there is clean seen.1 ∙ clean-since x clean seen.0 (omega (arith, base)) most

    pub clean-everywhere : (x : Item) → is_dirty_at d u x ≡ false → IsCleanEverywhere s w u x
    clean-everywhere x clean a there = by_cases (is_dirty_at (w.nodes a).desk u x) (is_dirty_at (w.nodes a).desk u x ≡ false)
        (λ dirty.
        let same : a ≡ n = writes-alone s setup cs w e timely n p u m grant keeping a (writer w a u (dirty-any (w.nodes a).desk (nodes a there).desk u x dirty)) in
        ap (λ i. is_dirty_at (w.nodes i).desk u x) same ∙ clean)
        (λ h. h)

    pub keeper-reads : AreStores s w → (x : Item) (v : Value) → desk_value d u x ≡ Some v → v ≡ stored_value s w u x
    keeper-reads stores x v is = by_cases (is_dirty_at d u x) (v ≡ stored_value s w u x)
        (λ dirty. same_Some v (stored_value s w u x) (sym is ∙ stores.dirty n node u x kept-there dirty))
        (λ clean. clean-home x v is clean ∙ stores.clean u x kept-home kept-there (clean-everywhere x clean))

  pub reads-right : AreStores s w → AreReadsRight s w
  reads-right stores n p node u m grant keeping x v is = keeper-reads n p node u m grant keeping stores x v is
