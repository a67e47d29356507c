use Rattle.std.proofs.Common.{ℕ, sym, ap, subst, ◌∙◌, ◌∷◌, None}
use Rattle.node_posts.specs.declared.post.Post.{Post}
use Rattle.node_posts.specs.Posts.{GoesOn}
use Rattle.node_threads.specs.Slots.{IsChild}
use Rattle.node_threads.proofs.Slots.{IsJoined, own-rest, joined-first, joined-child, joined-here, joined-none, joined-all}
use Rattle.node_threads.proofs.threads.join_all.Goals as goal

pub loop-slot-init : goal.loop-slot-init
loop-slot-init g c posts are =
    subst (λ served. IsJoined (IsChild c.args.last_tick) (GoesOn g.P.Program.wants g.P.Program.becomes c.args.last_tick) c.args.slots.items c.args.here.items served posts) (sym c.in_ok-served.ensures.items)
    (joined-first (IsChild c.args.last_tick) (GoesOn g.P.Program.wants g.P.Program.becomes c.args.last_tick) c.args.slots.items c.args.here.items posts are)

-- no post is left
pub returns-in_default : goal.returns-in_default
returns-in_default g c posts are =
    let none = own-rest c.loop-slot.left.items (c.in_default.ensures.items ∙ c.in_default.ensures.rest) in
    joined-all (IsChild c.args.last_tick) (GoesOn g.P.Program.wants g.P.Program.becomes c.args.last_tick) c.loop-slot.kept.items c.loop-slot.served.items posts
    (subst (λ left. IsJoined (IsChild c.args.last_tick) (GoesOn g.P.Program.wants g.P.Program.becomes c.args.last_tick) left c.loop-slot.kept.items c.loop-slot.served.items posts) none (c.loop-slot.invariant posts are))

-- the thread's promise is kept
pub loop-slot-preserved-in-Continue-branch-2 : goal.loop-slot-preserved-in-Continue-branch-2
loop-slot-preserved-in-Continue-branch-2 g c posts are =
    let first = c.in-Some.ensures.items ∙ ap (λ s. s ∷ c.pop_front.new.self.items) c.in-Some-slot.is in
    let joined = subst (λ left. IsJoined (IsChild c.args.last_tick) (GoesOn g.P.Program.wants g.P.Program.becomes c.args.last_tick) left c.loop-slot.kept.items c.loop-slot.served.items posts) first (c.loop-slot.invariant posts are) in
    subst (λ served. IsJoined (IsChild c.args.last_tick) (GoesOn g.P.Program.wants g.P.Program.becomes c.args.last_tick) c.pop_front.new.self.items c.loop-slot.kept.items served posts) (sym c.in_ok-push-in-Some-slot.ensures.items)
    (joined-child (IsChild c.args.last_tick) (GoesOn g.P.Program.wants g.P.Program.becomes c.args.last_tick) c.pop_front.new.self.items c.loop-slot.kept.items c.loop-slot.served.items posts c.in-Some-slot.child c.join.result joined
    (λ x is. subst (λ (n : ℕ). GoesOn g.P.Program.wants g.P.Program.becomes n x c.join.result) is.1
    (subst (λ (y : Post g.row.P.Denot g.row.G.Denot). GoesOn g.P.Program.wants g.P.Program.becomes c.in-Some-slot.child.promise.1 y c.join.result) is.0 c.join.ensures)))

-- it was served here
pub loop-slot-preserved : goal.loop-slot-preserved
loop-slot-preserved g c posts are =
    let first = c.in-Some.ensures.items ∙ ap (λ s. s ∷ c.pop_front.new.self.items) c.in-None.is in
    let joined = subst (λ left. IsJoined (IsChild c.args.last_tick) (GoesOn g.P.Program.wants g.P.Program.becomes c.args.last_tick) left c.loop-slot.kept.items c.loop-slot.served.items posts) first (c.loop-slot.invariant posts are) in
    subst (λ served. IsJoined (IsChild c.args.last_tick) (GoesOn g.P.Program.wants g.P.Program.becomes c.args.last_tick) c.pop_front.new.self.items c.pop_front-in-None.new.self.items served posts) (sym c.in_ok-push-in-Some-pop_front.ensures.items)
    (joined-here (IsChild c.args.last_tick) (GoesOn g.P.Program.wants g.P.Program.becomes c.args.last_tick) c.pop_front.new.self.items c.pop_front-in-None.new.self.items c.loop-slot.served.items posts c.in-Some-pop_front.post
    (subst (λ kept. IsJoined (IsChild c.args.last_tick) (GoesOn g.P.Program.wants g.P.Program.becomes c.args.last_tick) (None ∷ c.pop_front.new.self.items) kept c.loop-slot.served.items posts) c.in-Some-pop_front.ensures.items joined))

-- each that has no thread is kept
pub unreachable-requires : goal.unreachable-requires
unreachable-requires g c =
    let first = c.in-Some.ensures.items ∙ ap (λ s. s ∷ c.pop_front.new.self.items) c.in-None.is in
    let none = own-rest c.loop-slot.kept.items (c.in-None-pop_front.ensures.items ∙ c.in-None-pop_front.ensures.rest) in
    let joined = subst (λ left. IsJoined (IsChild c.args.last_tick) (GoesOn g.P.Program.wants g.P.Program.becomes c.args.last_tick) left c.loop-slot.kept.items c.loop-slot.served.items c.requires.slots.0) first (c.loop-slot.invariant c.requires.slots.0 c.requires.slots.1) in
    joined-none (IsChild c.args.last_tick) (GoesOn g.P.Program.wants g.P.Program.becomes c.args.last_tick) c.pop_front.new.self.items c.loop-slot.served.items c.requires.slots.0
    (subst (λ kept. IsJoined (IsChild c.args.last_tick) (GoesOn g.P.Program.wants g.P.Program.becomes c.args.last_tick) (None ∷ c.pop_front.new.self.items) kept c.loop-slot.served.items c.requires.slots.0) none joined)
