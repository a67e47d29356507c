-- What the posts that threads hand back have run.
use Rattle.std.proofs.Common.{◌≡◌, ℕ, ◌+◌, ◌-◌, ◌<◌, ◌≤◌, Bool, true, false, Option, Some, None, List, [], length, map, get_or, reverse, inl, inr, refl, sym, ap, subst, ◌∙◌, arith}
use Rattle.std.specs.Prelude.{◌^◌, ◌⊎◌, ◌&&◌, ◌||◌, not, slice_get, All}
use Rattle.std.specs.List.{list_any}
use Rattle.std.proofs.lemmas.Bool.{cases_lt}
use Rattle.std.proofs.lemmas.Bool.Decides.{nat_tests}
use Rattle.std.proofs.lemmas.List.{length-map}
use Rattle.std.proofs.lemmas.Option.{same_Some, slice_get_within, slice_get-get_or}
use Rattle.uid_names.specs.Names.{ProcName}
use Rattle.uid_names.proofs.ListLemmas.{get-within}
use Rattle.dom_history.specs.declared.op.Reply.{Reply}
use Rattle.dom_history.specs.declared.op.Want.{Want}
use Rattle.dom_history.specs.declared.event.NodeLog.{NodeLog}
use Rattle.dom_history.specs.declared.plan.FateRow.{FateRow}
use Rattle.dom_history.specs.Events.{Happening}
use Rattle.dom_history.specs.Plans.{IsPlan}
use Rattle.dom_history.specs.Objects.{is_node}
use Rattle.node_runs.specs.Setups.{Setup, given}
use Rattle.node_runs.specs.NodeStates.{is_ended}
use Rattle.node_runs.specs.Deliveries.{IsPlanned}
use Rattle.node_runs.specs.Runs.{World}
use Rattle.node_core.specs.declared.fault.RunFault.{RunFault}
use Rattle.node_core.specs.declared.fault.RunFault.TheVariants as faults
use Rattle.node_core.specs.Nodes.{Noted, given_of, state_of}
use Rattle.wire_links.specs.declared.wire.WireIn.{WireIn}
use Rattle.wire_links.specs.declared.wire.WireOut.{WireOut}
use Rattle.wire_links.specs.Wires.{AreEnds, SameIn, SameOut}
use Rattle.local_runs.specs.LocalRuns.{Own, events_in, AreLocalRuns, AreDelivered, IsMergeOf, LeadTogether}
use Rattle.local_runs.specs.NamedRuns.{AreNamedAlone}
use Rattle.local_runs.specs.Logs.{AreLogsOf}
use Rattle.local_runs.specs.Merges.{AreApart}
use Rattle.local_runs.specs.Posts.{Serving, idle, Numbered, post_of, own_of, world_at, AreServed}
use Rattle.local_runs.specs.JoinedMerges.{OfServedPosts}
use Rattle.node_posts.specs.declared.post.Post.{Post}
use Rattle.node_posts.specs.Ends.{place_of}
use Rattle.node_posts.specs.Ended.{holds_mark}
use Rattle.node_posts.specs.Posts.{IsKnown, IsLastTick, IsPost, IsKept, HasRun, GoesOn}
use Rattle.node_posts.specs.Starts.{ArePosts, AreRings}
use Rattle.node_posts.proofs.Zips.{all-from, all-length}
use Rattle.node_posts.proofs.Going.{whole-known, stands-ended}
use Rattle.ended_nodes.specs.Ended.{named, program_at, AreNumbered}
use Rattle.ended_nodes.proofs.Elements.{map_at, all_at}
use Rattle.node_threads.specs.Groups.{any_fault, all_ended, first_fault}
use Rattle.node_threads.specs.Joined.{AreBeside}
use Rattle.node_threads.specs.Ran.{AreEndedRuns, HaveRun, ReachesTick}
use Rattle.node_threads.specs.Merges.{EndWhereMerged}
use Rattle.node_threads.proofs.Groups.{AllGo, first-is, no-first, each-ended}
use Rattle.node_threads.proofs.Chosen.{numbered_posts, post-at, no-post, are-served}
use Rattle.node_threads.proofs.Ending.{are-ended, are-numbered}

ring-stays : (o p : WireOut) (i j : WireIn) → SameOut o p → SameIn i j → AreEnds o i → AreEnds p j
ring-stays o p i j out into is = search (out, into, is)

module _ {P G : Type 0} (wants : P → Want) (becomes : P → Option Reply → P) (limit : ℕ) (olds news : List (Post P G)) (goes : AllGo wants becomes limit olds news) where
  -- the ends are of the same rings
  pub rings-go : AreRings olds → AreRings news
  rings-go rings a b x y differ at-x at-y o i at-o at-i =
      let was-x = all-from (GoesOn wants becomes limit) olds news a x goes at-x in
      let was-y = all-from (GoesOn wants becomes limit) olds news b y goes at-y in
      let was-o = all-from SameOut was-x.was.outs.items x.outs.items (place_of (a + 1) (b + 1)) o was-x.is.outs at-o in
      let was-i = all-from SameIn was-y.was.ins.items y.ins.items (place_of (b + 1) (a + 1)) i was-y.is.ins at-i in
      ring-stays was-o.was o was-i.was i was-o.is was-i.is (rings a b was-x.was was-y.was differ was-x.there was-y.there was-o.was was-i.was was-o.there was-i.there)

  module _ (made : ℕ → ℕ → Option P) (s : Setup) (plan : List FateRow) (are : ArePosts wants becomes limit made s plan olds) where
    pub count : length news ≡ s.opening.nodes
    count = all-length (GoesOn wants becomes limit) olds news goes ∙ are.count

    pub kept : (k : ℕ) (x : Post P G) → slice_get news k ≡ Some x → IsKept wants becomes limit (made (k + 1)) s plan (k + 1) x
    kept k x is =
        let was = all-from (GoesOn wants becomes limit) olds news k x goes is in
        was.is.kept (made (k + 1)) s plan (k + 1) (are.kept k was.was was.there)

    -- it has an end of a link from and to each other node
    pub ends : (k : ℕ) (x : Post P G) → slice_get news k ≡ Some x → (length x.ins.items + 1 ≡ s.opening.nodes) × (length x.outs.items + 1 ≡ s.opening.nodes)
    ends k x is =
        let was = all-from (GoesOn wants becomes limit) olds news k x goes is in
        let first = ((are.kept k was.was was.there).whole (are.fault k was.was was.there)).1 in (
          ap (λ (n : ℕ). n + 1) (all-length SameIn was.was.ins.items x.ins.items was.is.ins) ∙ first.ins.many,
          ap (λ (n : ℕ). n + 1) (all-length SameOut was.was.outs.items x.outs.items was.is.outs) ∙ first.outs.many,
        )

    pub plan-kept : (k : ℕ) (x : Post P G) → slice_get news k ≡ Some x → IsPlan plan
    plan-kept k x is =
        let was = all-from (GoesOn wants becomes limit) olds news k x goes is in
        ((are.kept k was.was was.there).whole (are.fault k was.was was.there)).1.plan_kept

    -- what is known of each, be there a fault or not
    abbrev logged-by : (k : ℕ) (o : Option (Post P G)) → slice_get news k ≡ o → Serving
    logged-by k None e = idle s
    logged-by k (Some x) e = (kept k x e).logged.post

    abbrev logged : ℕ → Serving
    logged k = logged-by k (slice_get news k) refl

    record IsLoggedAs (k : ℕ) (p : Serving) (x : Post P G) : Type 0 where
      known : IsKnown s plan (k + 1) p x
      last : IsLastTick limit (k + 1) p x.fault

    is-logged : (k : ℕ) (x : Post P G) → slice_get news k ≡ Some x → IsLoggedAs k (logged k) x
    is-logged k x is = by-get (slice_get news k) refl is
      where
        by-get : (o : Option (Post P G)) (e : slice_get news k ≡ o) → o ≡ Some x → IsLoggedAs k (logged-by k o e) x
        by-get None e f = absurd (cc)
        by-get (Some y) e f =
            subst (λ (z : Post P G). IsLoggedAs k ((kept k y e).logged.post) z) (same_Some y x f) (record { known = (kept k y e).logged.known; last = (kept k y e).logged.last })

    module _ (beside : AreBeside news) where
      abbrev logged_posts : List Numbered
      logged_posts = numbered_posts s logged s.opening.nodes

      logged-served : AreServed s plan logged_posts
      logged-served = are-served s plan news count logged (λ k x is. (is-logged k x is).known) ends beside

      -- where the fault of a node is of the last tick, it came to that in a run by the plan
      pub reaches : ((t : Setup) (rows : List FateRow) (posts : List Numbered) → AreServed t rows posts → AreLocalRuns t (own_of t posts) (world_at t posts))
          → OfServedPosts (λ t rows posts es. IsPlanned t rows es)
          → ((t : Setup) (rows : List FateRow) (posts : List Numbered) (es : List Happening) → AreServed t rows posts → IsMergeOf (own_of t posts) es → LeadTogether t (world_at t posts) es)
          → ((t : Setup) (owns : ℕ → List Own) (ws : ℕ → World) → AreLocalRuns t owns ws → (es : List Happening) × IsMergeOf owns es)
          → (n : ℕ) → first_fault news ≡ Some (faults.TickLimit n) → ReachesTick s plan limit n
      reaches runs planned leads merges n fault =
          let first = first-is news (faults.TickLimit n) fault in
          let held = is-logged first.at first.post first.there in
          let last = subst (λ (f : Option RunFault). IsLastTick limit (first.at + 1) (logged first.at) f) first.is held.last in
          let within : first.at < s.opening.nodes = let inside = slice_get_within news first.at first.post first.there in let size = count in omega (arith, inside, size) in
          let merge = merges s (own_of s logged_posts) (world_at s logged_posts) (runs s plan logged_posts logged-served) in
          let led = leads s plan logged_posts merge.0 logged-served merge.1 in
          let here : (world_at s logged_posts (first.at + 1)).nodes (first.at + 1) ≡ ((logged first.at).world.nodes (first.at + 1)) = ap (λ (p : Serving). p.world.nodes (first.at + 1)) (post-at s logged s.opening.nodes first.at within) in
          let at : (led.0.nodes (first.at + 1)).tick ≡ ((logged first.at).world.nodes (first.at + 1)).tick = ap (λ m. m.tick) (led.3.nodes (first.at + 1) ∙ here) in
          record {
            events = merge.0;
            world = led.0;
            planned = planned s plan logged_posts merge.0 logged-served (plan-kept first.at first.post first.there) merge.1;
            leads = led.1;
            late = subst (λ (m : ℕ). limit ≤ (led.0.nodes m).tick) (sym last.0) (let low = last.1 in omega (arith, low, at));
          }

      -- where no fault came, all is known of each
      module _ (most : limit ≤ 2 ^ 40) (none : first_fault news ≡ None) (either : (any_fault news || all_ended news) ≡ true) where
        pub faultless : (k : ℕ) (x : Post P G) → slice_get news k ≡ Some x → x.fault ≡ None
        faultless k x is = no-first news none k x is

        abbrev pub whole-by : (k : ℕ) (o : Option (Post P G)) → slice_get news k ≡ o → Serving
        whole-by k None e = idle s
        whole-by k (Some x) e = ((kept k x e).whole (faultless k x e)).0

        abbrev pub whole : ℕ → Serving
        whole k = whole-by k (slice_get news k) refl

        is-whole : (k : ℕ) (x : Post P G) → slice_get news k ≡ Some x → IsPost wants becomes (made (k + 1)) s plan (k + 1) (whole k) x
        is-whole k x is = by-get (slice_get news k) refl is
          where
            by-get : (o : Option (Post P G)) (e : slice_get news k ≡ o) → o ≡ Some x → IsPost wants becomes (made (k + 1)) s plan (k + 1) (whole-by k o e) x
            by-get None e f = absurd (cc)
            by-get (Some y) e f =
                subst (λ (z : Post P G). IsPost wants becomes (made (k + 1)) s plan (k + 1) (((kept k y e).whole (faultless k y e)).0) z) (same_Some y x f) ((kept k y e).whole (faultless k y e)).1

        whole-is-known : (k : ℕ) (x : Post P G) → slice_get news k ≡ Some x → IsKnown s plan (k + 1) (whole k) x
        whole-is-known k x is =
            whole-known wants becomes (made (k + 1)) s plan (k + 1) (whole k) x (is-whole k x is) (let low = (kept k x is).low (faultless k x is) in omega (arith, low, most))

        abbrev pub whole_posts : List Numbered
        whole_posts = numbered_posts s whole s.opening.nodes

        pub whole-served : AreServed s plan whole_posts
        whole-served = are-served s plan news count whole whole-is-known ends beside

        abbrev there : (k : ℕ) → k < s.opening.nodes → (x : Post P G) × (slice_get news k ≡ Some x)
        there k within = get-within news k (let size = count in omega (arith, within, size))

        node-or : (n : ℕ) → ((k : ℕ) × (n ≡ k + 1) × (k < s.opening.nodes)) ⊎ (1 ≤ n → n ≤ s.opening.nodes → ⊥)
        node-or n = elim (cases_lt 0 n) [
          | inl low ↦ elim (cases_lt s.opening.nodes n) [
            | inl above ↦ inr (λ l h. absurd (omega (arith, above, h)))
            | inr high ↦ inl (n - 1, omega (arith, low), omega (arith, low, high))
          ]
          | inr zero_is ↦ inr (λ l h. absurd (omega (arith, zero_is, l)))
        ]

        -- what holds of each node's serving, and of one that did nothing, holds of all
        each-of : (T : ℕ → Serving → Type 0) → ((k : ℕ) (x : Post P G) → slice_get news k ≡ Some x → T (k + 1) (whole k)) → ((n : ℕ) → (1 ≤ n → n ≤ s.opening.nodes → ⊥) → T n (idle s)) → (n : ℕ) → T n (post_of s whole_posts n)
        each-of T each rest n = elim (node-or n) [
          | inl (k, is, within) ↦
              let x = there k within in
              subst (λ (m : ℕ). T m (post_of s whole_posts m)) (sym is)
              (subst (λ (p : Serving). T (k + 1) p) (sym (post-at s whole s.opening.nodes k within)) (each k x.0 x.1))
          | inr none_is ↦ subst (λ (p : Serving). T n p) (sym (no-post s whole s.opening.nodes n none_is)) (rest n none_is)
        ]

        abbrev pub logs : List NodeLog
        logs = map (λ (y : Noted P). y.log) (map (λ (x : Post P G). x.node) news)

        log-at : (k : ℕ) (l : NodeLog) → slice_get logs k ≡ Some l → (k < s.opening.nodes) × (l ≡ record { node = k + 1; events = reverse (events_in (whole k).own) })
        log-at k l e =
            let found = map_at (λ (y : Noted P). y.log) (map (λ (x : Post P G). x.node) news) k l e in
            let post = map_at (λ (x : Post P G). x.node) news k found.0 found.1 in
            let inside = slice_get_within news k post.0 post.1 in
            let size = count in
            (omega (arith, inside, size), found.2 ∙ (ap (λ (y : Noted P). y.log) post.2 ∙ (is-whole k post.0 post.1).node.log))

        logs-many : length logs ≡ s.opening.nodes
        logs-many = length-map (map (λ (x : Post P G). x.node) news) (λ (y : Noted P). y.log) ∙ (length-map news (λ (x : Post P G). x.node) ∙ count)

        log-node : (k : ℕ) (d : NodeLog) → k < length logs → (get_or logs k d).node ≡ k + 1
        log-node k d within = ap (λ (l : NodeLog). l.node) (log-at k (get_or logs k d) (slice_get-get_or logs k d within)).1

        logs-of : AreLogsOf (own_of s whole_posts) logs
        logs-of = record {
          each = λ k d within.
              (let l = get_or logs k d in
              let at = log-at k (get_or logs k d) (slice_get-get_or logs k d within) in
              let own : own_of s whole_posts (k + 1) ≡ (whole k).own = ap (λ (p : Serving). p.own) (post-at s whole s.opening.nodes k at.0) in
              ap (λ (m : NodeLog). m.events) at.1 ∙ sym (ap (λ (n : ℕ). reverse (events_in (own_of s whole_posts n))) (log-node k d within) ∙ ap (λ (xs : List Own). reverse (events_in xs)) own));
          only = λ n away. elim (node-or n) [
            | inl (k, is, within) ↦
                let inside : k < length logs = let size = logs-many in omega (arith, within, size) in
                let d : NodeLog = record { node = 0; events = [] } in
                absurd (away k d inside (log-node k d inside ∙ sym is))
            | inr none_is ↦ ap (λ (p : Serving). p.own) (no-post s whole s.opening.nodes n none_is)
          ];
        }

        logs-apart : AreApart logs
        logs-apart i j d before within same =
            let a = log-node i d (omega (arith, before, within)) in
            let b = log-node j d within in
            absurd (omega (arith, a, b, same, before))

        node-ended : (k : ℕ) (x : Post P G) → slice_get news k ≡ Some x → is_ended (given s (k + 1)) ((whole k).world.nodes (k + 1)) ≡ true
        node-ended k x is =
            sym (stands-ended wants becomes (made (k + 1)) s (k + 1) (whole k).own (whole k).world x.node (is-whole k x is).node)
            ∙ first-of (is_ended (given_of x.node) (state_of x.node)) (not (list_any holds_mark x.outs.items)) (each-ended news either none k x is)
          where
            first-of : (a b : Bool) → (a && b) ≡ true → a ≡ true
            first-of true b h = refl
            first-of false b h = absurd (cc)

        pub ended-runs : AreLocalRuns s (own_of s whole_posts) (world_at s whole_posts) → AreDelivered plan (own_of s whole_posts) → AreEndedRuns s plan logs (own_of s whole_posts) (world_at s whole_posts)
        ended-runs runs delivered = record {
          runs = runs;
          delivered = delivered;
          named_alone = each-of (λ n p. AreNamedAlone s n p.own) (λ k x is. (is-whole k x is).node.named) (λ n none_is. tt);
          logs_of = logs-of;
          apart = logs-apart;
          timely = each-of (λ n p. (p.world.nodes n).tick ≤ 2 ^ 40) (λ k x is. (whole-is-known k x is).timely) (λ n none_is. omega arith);
          ended = each-of (λ n p. is_node s.opening n ≡ true → is_ended (given s n) (p.world.nodes n) ≡ true) (λ k x is node. node-ended k x is) (λ n none_is node. absurd (none_is (grind (arith, nat_tests, node)) (grind (arith, nat_tests, node))));
        }

        pub have-run : AreLocalRuns s (own_of s whole_posts) (world_at s whole_posts) → AreDelivered plan (own_of s whole_posts)
            → EndWhereMerged → (own-logs : List NodeLog) (programs : List (ProcName × P)) → own-logs ≡ logs → ((p : ProcName) → named programs p ≡ program_at (map (λ (x : Post P G). x.node) news) p)
            → HaveRun wants becomes made s plan own-logs programs
        have-run runs delivered merged own-logs programs same are-programs =
            let ended = subst (λ (ls : List NodeLog). AreEndedRuns s plan ls (own_of s whole_posts) (world_at s whole_posts)) (sym same) (ended-runs runs delivered) in
            record {
              owns = own_of s whole_posts;
              worlds = world_at s whole_posts;
              runs = ended;
              programs_are = are-ended wants becomes made s plan news count whole is-whole programs are-programs;
              merged = λ setup kept. merged s plan own-logs (own_of s whole_posts) (world_at s whole_posts) setup kept ended;
            }

        -- so threads came to the end
        pub ran-is : ((t : Setup) (rows : List FateRow) (posts : List Numbered) → AreServed t rows posts → AreLocalRuns t (own_of t posts) (world_at t posts))
            → ((t : Setup) (rows : List FateRow) (posts : List Numbered) → AreServed t rows posts → AreDelivered rows (own_of t posts))
            → EndWhereMerged → (own-logs : List NodeLog) (programs : List (ProcName × P)) → own-logs ≡ logs → ((p : ProcName) → named programs p ≡ program_at (map (λ (x : Post P G). x.node) news) p)
            → HaveRun wants becomes made s plan own-logs programs
        ran-is runs delivered merged own-logs programs same are-programs =
            have-run (runs s plan whole_posts whole-served) (delivered s plan whole_posts whole-served) merged own-logs programs same are-programs

        -- each program is that of a process
        pub numbered-nodes : All AreNumbered (map (λ (x : Post P G). x.node) news)
        numbered-nodes = are-numbered wants becomes made s plan news count whole is-whole

-- the posts at the start are of a run
pub posts-run : {P G : Type 0} (wants : P → Want) (becomes : P → Option Reply → P) (limit : ℕ) (made : ℕ → ℕ → Option P) (s : Setup) (plan : List FateRow) (xs : List (Post P G)) → ArePosts wants becomes limit made s plan xs
    → All (HasRun wants becomes limit) xs
posts-run wants becomes limit made s plan xs are = all_at (HasRun wants becomes limit) xs
    (λ k x is. record { made = made (k + 1); setup = s; plan = plan; number = k + 1; is = are.kept k x is })
