-- Posts at the start are kept.
use Rattle.std.proofs.Common.{◌≡◌, ℕ, zero, suc, ◌+◌, ◌<◌, ◌≤◌, true, List, [], ◌∷◌, ◌++◌, length, map, Option, Some, refl, sym, ap, subst, ◌∙◌, arith}
use Rattle.std.specs.Prelude.{◌-◌, slice_get}
use Rattle.std.proofs.lemmas.Bool.Decides.{nat_tests}
use Rattle.std.proofs.lemmas.List.Elements.{All-nil}
use Rattle.std.proofs.lemmas.Option.{slice_get_within, same_Some}
use Rattle.std.proofs.lemmas.List.{length-map, map-append}
use Rattle.dom_history.specs.declared.op.Reply.{Reply}
use Rattle.dom_history.specs.declared.op.Want.{Want}
use Rattle.dom_history.specs.declared.event.NodeLog.{NodeLog}
use Rattle.dom_history.specs.declared.plan.FateRow.{FateRow}
use Rattle.dom_history.specs.Objects.{is_node}
use Rattle.dom_history.specs.Plans.{IsPlan}
use Rattle.node_runs.specs.Setups.{Setup}
use Rattle.node_runs.specs.Runs.{first_world, numbered}
use Rattle.ring_links.specs.declared.entry.Entry as link-entry
use Rattle.ring_links.specs.declared.link.Later.{Later}
use Rattle.ring_links.specs.Carried as links
use Rattle.node_core.specs.declared.setup.Incoming as code
use Rattle.node_core.specs.Nodes.{Noted, state_of}
use Rattle.local_runs.specs.Posts.{idle}
use Rattle.local_runs.proofs.Joining.{idle-served}
use Rattle.node_posts.specs.declared.post.Post.{Post}
use Rattle.node_posts.specs.Owns.{IsOwn}
use Rattle.node_posts.specs.Posts.{IsOwnLink, AreNotices, IsPost, IsKept, IsLastTick}
use Rattle.node_posts.specs.Starts.{AreNodes, ArePosts, IsFirst, AreJoined, AreJoinedWith}
use Rattle.node_posts.proofs.Going.{whole-known}

module _ {P G : Type 0} (wants : P → Want) (becomes : P → Option Reply → P) (limit : ℕ) (least : 1 ≤ limit) (made : ℕ → ℕ → Option P) (s : Setup) (plan : List FateRow) (kept : IsPlan plan)
    (xs : List (Noted P)) (nodes : AreNodes wants becomes made s xs) (ys : List (Post P G)) (same : map (λ y. y.node) ys ≡ xs) (joined : AreJoined plan ys) where
  many : length ys ≡ s.opening.nodes
  many = sym (length-map ys (λ (y : Post P G). y.node)) ∙ (ap (λ (ns : List (Noted P)). length ns) same ∙ nodes.count)

  node-at : (k : ℕ) (y : Post P G) → slice_get ys k ≡ Some y → slice_get xs k ≡ Some y.node
  node-at k y there = subst (λ (ns : List (Noted P)). slice_get ns k ≡ Some y.node) same (mapped k ys there)
    where
      mapped : (i : ℕ) (zs : List (Post P G)) → slice_get zs i ≡ Some y → slice_get (map (λ z. z.node) zs) i ≡ Some y.node
      mapped i [] there = absurd (cc)
      mapped zero (z ∷ zs) there = ap (λ (w : Post P G). Some w.node) (same_Some z y there)
      mapped (suc i) (z ∷ zs) there = mapped i zs there

  module _ (k : ℕ) (y : Post P G) (there : slice_get ys k ≡ Some y) where
    abbrev n : ℕ
    n = k + 1

    first : IsFirst plan (length ys - 1) k y
    first = joined.each k y there

    within : k < length ys
    within = slice_get_within ys k y there

    is-node : is_node s.opening n ≡ true
    is-node = let a = within in let b = many in grind (arith, nat_tests, a, b)

    own : IsOwn wants becomes (made n) s n [] (first_world s) y.node
    own = record {
      setup = nodes.setup;
      node = is-node;
      run = record { node = tt; run = refl; done = refl };
      incomings = tt;
      named = tt;
      stands = nodes.node k y.node (node-at k y there);
      log = nodes.log k y.node (node-at k y there);
    }

    counts : (length ys - 1) + 1 ≡ s.opening.nodes
    counts = let a = within in let b = many in omega (arith, a, b)

    empty-link : IsOwnLink s.wire n (first_world s) links.empty_link
    empty-link = record {
      carries = record { frames = refl; queue = All-nil (λ (e : link-entry.Entry code.Incoming). links.IsFrameOf [] e.received e.waiting); later = All-nil (λ (c : Later code.Incoming). numbered c.index [] ≡ Some c.received) };
      later = refl;
      frames = tt;
    }

    post : IsPost wants becomes (made n) s plan n (idle s) y
    post = record {
      node = own;
      plan_kept = kept;
      served = idle-served s plan n;
      ins = record { many = ap (λ (i : ℕ). i + 1) first.ins_many ∙ counts; each = λ at i e. first.ins at i e; none = λ from out. refl };
      outs = record { many = ap (λ (i : ℕ). i + 1) first.outs_many ∙ counts; each = λ at o e. first.outs at o e };
      own = subst (IsOwnLink s.wire n (first_world s)) (sym first.own) empty-link;
      own_rest = ap (λ (l : links.Carrying code.Incoming). map (λ (e : link-entry.Entry code.Incoming). links.plain_name e.waiting) l.queue) (sym first.own);
      notices = subst (AreNotices s.opening.nodes plan n (idle s)) (sym first.notices) (record { each = tt; once = λ f at. omega arith });
    }

    low : (state_of y.node).tick < limit
    low = let a = own.stands.alike.tick in omega (arith, a, least)

    pub first-kept : IsKept wants becomes limit (made n) s plan n y
    first-kept = record {
      logged = record {
        post = idle s;
        known = whole-known wants becomes (made n) s plan n (idle s) y post (let a = own.stands.alike.tick in omega (arith, a));
        last = subst (IsLastTick limit n (idle s)) (sym first.fault) tt;
      };
      low = λ none. low;
      whole = λ none. (idle s, post);
    }

  pub posts-are : ArePosts wants becomes limit made s plan ys
  posts-are = record {
    count = many;
    fault = λ k y there. (joined.each k y there).fault;
    kept = λ k y there. first-kept k y there;
  }

-- none are joined yet
pub none-joined : {P G : Type 0} (plan : List FateRow) → AreJoined {P = P} {G = G} plan []
none-joined plan = record { each = λ k x there. absurd (cc); rings = λ a b x y differs first second. absurd (cc) }

-- the number of the next node
pub next-number : {P G : Type 0} (wants : P → Want) (becomes : P → Option Reply → P) (made : ℕ → ℕ → Option P) (s : Setup) (xs : List (Noted P)) → AreNodes wants becomes made s xs
    → (ys : List (Post P G)) (zs : List (Noted P)) (x : Noted P) → map (λ y. y.node) ys ≡ zs → slice_get xs (length zs) ≡ Some x → x.log.node ≡ length ys + 1
next-number {P} {G} wants becomes made s xs nodes ys zs x same there =
    let a = ap (λ (ns : List (Noted P)). length ns) same in
    let b = length-map ys (λ (y : Post P G). y.node) in
    let c = ap (λ (l : NodeLog). l.node) (nodes.log (length zs) x there) in
    omega (arith, a, b, c)

-- its post is joined with the others
pub more-joined : {P G : Type 0} (plan : List FateRow) (node : Noted P) (olds news : List (Post P G)) (post : Post P G) (zs : List (Noted P)) → map (λ y. y.node) olds ≡ zs → AreJoinedWith plan node olds news post
    → AreJoined plan (news ++ post ∷ []) × (map (λ y. y.node) (news ++ post ∷ []) ≡ zs ++ node ∷ [])
more-joined {P} {G} plan node olds news post zs same is = (
  is.joined,
  map-append (λ (y : Post P G). y.node) news (post ∷ [])
      ∙ (ap (λ (vs : List (Noted P)). vs ++ post.node ∷ []) (is.nodes ∙ same) ∙ ap (λ (v : Noted P). zs ++ v ∷ []) is.node_is),
)
