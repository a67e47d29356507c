use denote.Param.Send.{Quiet-if}
use mir.Syntax.{of_param}
use Rattle.std.proofs.Common.{rules, ◌++◌, ◌≤◌, sym, subst, [], ◌∷◌, None}
use Rattle.std.proofs.iter.Next.{Yields-more}
use Rattle.std.specs.Prelude.{◌^◌}
use Rattle.std.specs.Vec.Iter.{into_iter_steps}
use Rattle.node_posts.specs.Posts.{HasRun, GoesOn}
use Rattle.node_threads.specs.Slots.{AreSlots, IsChild}
use Rattle.ended_nodes.proofs.Elements.{at_all, all_at, all_taken, taken-one}
use Rattle.node_posts.proofs.Going.{goes-then, run-goes}
use Rattle.node_threads.proofs.Slots.{slots-started, slots-kept, slots-served, kept-all, ok-joined}
use Rattle.node_threads.proofs.threads.fn.serve_all.scope.Goals as goal

pub spawn_with-start-requires-clause-runs : goal.spawn_with-start-requires-clause-runs
spawn_with-start-requires-clause-runs g c κs within =
    let x = c.in-Some.post in
    let xs = c.loop-post.yielded in
    let more = Yields-more into_iter_steps c.into_iter-post-iterator.result xs c.loop-post.post-iterator x c.next.new.self c.loop-post.yielded_by c.in-Some.ensures.steps in
    let has = at_all (HasRun g.P.Program.wants g.P.Program.becomes c.captures.last_tick) c.captures.posts.items _ x c.requires.run
    (taken-one c.into_iter-post-iterator.result xs x c.next.new.self c.captures.posts.items more c.into_iter-post-iterator.ensures.into_iter_gives.0) in (
      (c.requires.last, has),
      (
        record { owned = c.requires.crosses.0.owned; leaving = λ k. Quiet-if (k (of_param 0)) _ _ (λ x w. tt) (λ x w. tt) },
        record { owned = c.requires.crosses.1.owned; leaving = λ k. Quiet-if (k (of_param 1)) _ _ (λ x w. tt) (λ x w. tt) },
        search (c.requires.crosses.2),
        search (c.requires.crosses.3),
      ),
    )

pub loop-post-preserved-in-Continue-branch-3 : goal.loop-post-preserved-in-Continue-branch-3
loop-post-preserved-in-Continue-branch-3 g c =
    subst (λ slots. AreSlots (IsChild c.captures.last_tick) (GoesOn g.P.Program.wants g.P.Program.becomes c.captures.last_tick) slots c.loop-post.refused.items (c.loop-post.yielded ++ c.in-Some.post ∷ [])) (sym c.in_ok-push_back-in-Ok.ensures.items)
    (slots-started (IsChild c.captures.last_tick) (GoesOn g.P.Program.wants g.P.Program.becomes c.captures.last_tick) c.loop-post.slots.items c.loop-post.refused.items c.loop-post.yielded c.in-Ok.child c.in-Some.post c.loop-post.invariant (search rules))

pub spawn_with-requires-after_bounds : goal.spawn_with-requires-after_bounds
spawn_with-requires-after_bounds g c κs within =
    let x = c.in-Some.post in
    let xs = c.loop-post.yielded in
    let more = Yields-more into_iter_steps c.into_iter-post-iterator.result xs c.loop-post.post-iterator x c.next.new.self c.loop-post.yielded_by c.in-Some.ensures.steps in
    let has = at_all (HasRun g.P.Program.wants g.P.Program.becomes c.captures.last_tick) c.captures.posts.items _ x c.requires.run
    (taken-one c.into_iter-post-iterator.result xs x c.next.new.self c.captures.posts.items more c.into_iter-post-iterator.ensures.into_iter_gives.0) in
    subst (λ v. (v.6 ≤ 2 ^ 40) × HasRun g.P.Program.wants g.P.Program.becomes v.6 v.2) (sym c.in-Err.ensures.err) (c.requires.last, has)

pub loop-post-preserved : goal.loop-post-preserved
loop-post-preserved g c =
    let goes = subst (λ v. GoesOn g.P.Program.wants g.P.Program.becomes v.6 v.2 c.spawn_with.result) c.in-Err.ensures.err c.spawn_with.ensures in
    subst (λ slots. AreSlots (IsChild c.captures.last_tick) (GoesOn g.P.Program.wants g.P.Program.becomes c.captures.last_tick) slots c.push.new.self.items (c.loop-post.yielded ++ c.in-Some.post ∷ [])) (sym c.in_ok-push_back-in-Err.ensures.items)
    (subst (λ kept. AreSlots (IsChild c.captures.last_tick) (GoesOn g.P.Program.wants g.P.Program.becomes c.captures.last_tick) (c.loop-post.slots.items ++ None ∷ []) kept (c.loop-post.yielded ++ c.in-Some.post ∷ [])) (sym c.in_ok-push-in-Err.ensures.items)
    (slots-kept (IsChild c.captures.last_tick) (GoesOn g.P.Program.wants g.P.Program.becomes c.captures.last_tick) c.loop-post.slots.items c.loop-post.refused.items c.loop-post.yielded c.spawn_with.result c.in-Some.post c.loop-post.invariant goes))

pub serve_group-here-requires-clause-run : goal.serve_group-here-requires-clause-run
serve_group-here-requires-clause-run g c κs within =
    let all = all_taken c.into_iter-post-iterator.result c.loop-post.yielded c.loop-post.post-iterator c.captures.posts.items c.loop-post.yielded_by c.into_iter-post-iterator.ensures.into_iter_gives.0 c.in-None.ensures.steps.0 in
    all_at (HasRun g.P.Program.wants g.P.Program.becomes c.captures.last_tick) c.loop-post.refused.items
    (kept-all (IsChild c.captures.last_tick) (GoesOn g.P.Program.wants g.P.Program.becomes c.captures.last_tick) (HasRun g.P.Program.wants g.P.Program.becomes c.captures.last_tick)
    (run-goes g.P.Program.wants g.P.Program.becomes c.captures.last_tick) c.loop-post.slots.items c.loop-post.refused.items c.captures.posts.items
    (subst (AreSlots (IsChild c.captures.last_tick) (GoesOn g.P.Program.wants g.P.Program.becomes c.captures.last_tick) c.loop-post.slots.items c.loop-post.refused.items) all c.loop-post.invariant)
    (λ k x e. at_all (HasRun g.P.Program.wants g.P.Program.becomes c.captures.last_tick) c.captures.posts.items k x c.requires.run e))

pub join_all-requires : goal.join_all-requires
join_all-requires g c =
    let all = all_taken c.into_iter-post-iterator.result c.loop-post.yielded c.loop-post.post-iterator c.captures.posts.items c.loop-post.yielded_by c.into_iter-post-iterator.ensures.into_iter_gives.0 c.in-None.ensures.steps.0 in
    record {
      slots = (
        c.captures.posts.items,
        subst (λ here. AreSlots (IsChild c.captures.last_tick) (GoesOn g.P.Program.wants g.P.Program.becomes c.captures.last_tick) c.loop-post.slots.items here c.captures.posts.items) (sym c.from_vec.ensures.items)
            (slots-served (IsChild c.captures.last_tick) (GoesOn g.P.Program.wants g.P.Program.becomes c.captures.last_tick) (goes-then g.P.Program.wants g.P.Program.becomes c.captures.last_tick) c.loop-post.slots.items c.loop-post.refused.items c.serve_group-here.result.items c.captures.posts.items
            (subst (AreSlots (IsChild c.captures.last_tick) (GoesOn g.P.Program.wants g.P.Program.becomes c.captures.last_tick) c.loop-post.slots.items c.loop-post.refused.items) all c.loop-post.invariant)
            c.serve_group-here.ensures.goes),
      );
    }

pub returns : goal.returns
returns g c =
    let all = all_taken c.into_iter-post-iterator.result c.loop-post.yielded c.loop-post.post-iterator c.captures.posts.items c.loop-post.yielded_by c.into_iter-post-iterator.ensures.into_iter_gives.0 c.in-None.ensures.steps.0 in
    let slots = subst (λ here. AreSlots (IsChild c.captures.last_tick) (GoesOn g.P.Program.wants g.P.Program.becomes c.captures.last_tick) c.loop-post.slots.items here c.captures.posts.items) (sym c.from_vec.ensures.items)
    (slots-served (IsChild c.captures.last_tick) (GoesOn g.P.Program.wants g.P.Program.becomes c.captures.last_tick) (goes-then g.P.Program.wants g.P.Program.becomes c.captures.last_tick) c.loop-post.slots.items c.loop-post.refused.items c.serve_group-here.result.items c.captures.posts.items
    (subst (AreSlots (IsChild c.captures.last_tick) (GoesOn g.P.Program.wants g.P.Program.becomes c.captures.last_tick) c.loop-post.slots.items c.loop-post.refused.items) all c.loop-post.invariant)
    c.serve_group-here.ensures.goes) in
    ok-joined (IsChild c.captures.last_tick) (GoesOn g.P.Program.wants g.P.Program.becomes c.captures.last_tick) c.loop-post.slots.items c.from_vec.result.items c.captures.posts.items (λ served. served.items) c.join_all.result slots c.join_all.ensures
