use Rattle.std.proofs.Common.{◌≡◌, ℕ, ◌+◌, ◌<◌, Some, length, arith, rules, sym, ap, subst, ◌∙◌}
use Rattle.std.specs.Prelude.{slice_get}
use Rattle.std.proofs.lemmas.Option.{slice_get-get_or}
use Rattle.node_posts.proofs.Joining.{AreJoining, join-none, joined-with, turn-apart, join-more}
use Rattle.node_posts.proofs.making.joined.Goals as goal

pub loop-at-init : goal.loop-at-init
loop-at-init g c = join-none c.args.plan.now c.args.node c.args.posts.now.items c.alone-post.result c.alone-post.ensures

pub join-requires : goal.join-requires
join-requires g c =
    let news = c.loop-at.posts.items in
    let x = c.index_mut.result.now in
    let within : c.loop-at.at < length c.loop-at.posts.items = search rules in
    let there : slice_get news c.loop-at.at ≡ Some x = slice_get-get_or news c.loop-at.at x within ∙ ap Some (sym c.index_mut.ensures.value) in
    turn-apart c.args.plan.now c.args.node c.args.posts.now.items c.requires.next c.requires.joined c.loop-at.at news c.loop-at.post c.loop-at.invariant x there

pub loop-at-preserved : goal.loop-at-preserved
loop-at-preserved g c =
    let news = c.loop-at.posts.items in
    let x = c.index_mut.result.now in
    let within : c.loop-at.at < length c.loop-at.posts.items = search rules in
    let there : slice_get news c.loop-at.at ≡ Some x = slice_get-get_or news c.loop-at.at x within ∙ ap Some (sym c.index_mut.ensures.value) in
    join-more c.args.plan.now c.args.node c.args.posts.now.items c.requires.next c.requires.joined c.loop-at.at news c.loop-at.post c.loop-at.invariant x there
    c.join.new.a c.join.new.b c.in_ok-join.ensures

pub returns : goal.returns
returns g c =
    let olds = c.args.posts.now.items in
    let low = c.loop-at.auto.at-end in
    let past = c.loop-at-test.false in
    let many : c.len-at-end.result ≡ length c.args.posts.now.items = c.len-at-end.ensures ∙ c.args.posts.now.ok.0 in
    let all : c.loop-at.at ≡ length c.args.posts.now.items = omega (arith, low, past, many) in
    joined-with c.args.plan.now c.args.node olds c.loop-at.posts.items c.loop-at.post c.requires.next c.requires.joined
    (subst (λ (i : ℕ). AreJoining c.args.plan.now (length olds + 1) c.args.node olds i c.loop-at.posts.items c.loop-at.post) all c.loop-at.invariant)
