use Rattle.std.proofs.Common.{◌≡◌, ◌≢◌, ◌≤◌, ℕ, refl, ap, ◌∙◌, rules, arith}
use Rattle.std.proofs.lemmas.Result.{on_ok_weaker}
use Rattle.node_posts.specs.Ends.{place_of}
use Rattle.node_posts.proofs.Going.{unpushed-none}
use Rattle.node_posts.proofs.Posting.{own-sent, out-sent-at, ok-both}
use Rattle.node_posts.proofs.post.Post.send_frame.Goals as goal

pub returns-then-number-clause-sent : goal.returns-then-number-clause-sent
returns-then-number-clause-sent g c = λ index.
    (let here : c.args.frame.to ≡ c.args.self.now.node.log.node = search rules in
    on_ok_weaker c.send.result (λ own.
    own-sent c.args.self.now.node.log.node c.args.self.now.node.inner.tick index c.args.frame c.args.self.now _ here refl own refl) c.send.ensures.sent)

pub returns-then-number-clause-beside : goal.returns-then-number-clause-beside
returns-then-number-clause-beside g c = record { ins = refl; outs = unpushed-none c.args.self.now.outs.items }

pub returns-clause-sent : goal.returns-clause-sent
returns-clause-sent g c = λ index.
    (let n = c.args.self.now.node.log.node in
    let away : c.args.frame.to ≢ c.args.self.now.node.log.node = search rules in
    let place : c.place_among.result ≡ place_of c.args.self.now.node.log.node c.args.frame.to =
    c.place_among.ensures ∙ (ap (λ (k : ℕ). place_of k c.to-2.result) c.number-number.ensures ∙ ap (place_of n) c.to-2.ensures.value) in
    let least : 1 ≤ c.args.self.now.node.log.node = omega arith in
    let some : 1 ≤ c.args.frame.to = omega arith in
    ok-both c.send_out.result (λ outs notices.
    out-sent-at n c.args.self.now.node.inner.tick index c.args.frame c.args.self.now c.send_out.new.self c.place_among.result place least some away outs c.send_out.ensures.own notices)
    c.send_out.ensures.outs c.send_out.ensures.notices)
