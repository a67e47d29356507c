use Rattle.std.proofs.Common.{◌≡◌, List, ◌++◌, refl, ap, ◌∙◌}
use Rattle.std.specs.Prelude.{◌==◌}
use Rattle.std.proofs.lemmas.Result.{on_ok_weaker}
use Rattle.ring_links.specs.declared.notice.Notice.{Notice}
use Rattle.node_posts.specs.Sending.{AreOutsAfter, AreUnpushed, posting_if}
use Rattle.node_posts.proofs.Posting.{sent-at, unpushed-at, told-at}
use Rattle.node_posts.proofs.post.Post.send_out.Goals as goal

pub returns-in_err-told-clause-beside : goal.returns-in_err-told-clause-beside
returns-in_err-told-clause-beside g c = record {
  ins = refl;
  outs =
      unpushed-at c.args.self.now.outs.items c.args.at c.send.new.self c.index_mut.result.now c.requires.within c.index_mut.ensures.value
      c.send.ensures.same c.send.ensures.pushed;
}

pub returns-clause-outs : goal.returns-clause-outs
returns-clause-outs g c =
    let sent : AreOutsAfter (λ k. posting_if (k == c.args.at) c.args.frame.now) c.args.self.now.outs.items c.notice.new.self.outs.items =
    rw c.notice.ensures.ends.1
    (sent-at c.args.self.now.outs.items c.args.at c.send.new.self c.index_mut.result.now c.requires.within c.index_mut.ensures.value c.args.frame.now
    c.in_ok-told.ensures.sent) in
    on_ok_weaker c.notice.result (λ h. sent) c.notice.ensures.notices

pub returns-clause-notices : goal.returns-clause-notices
returns-clause-notices g c =
    on_ok_weaker c.notice.result (λ h.
    h ∙ ap (λ (ys : List Notice). c.args.self.now.notices.items ++ ys)
    (told-at c.args.self.now.outs.items c.args.at c.send.new.self c.index_mut.result.now c.requires.within c.index_mut.ensures.value c.args.frame.now
    c.in_ok-told.told c.in_ok-told.ensures.told)) c.notice.ensures.notices

pub returns-clause-beside : goal.returns-clause-beside
returns-clause-beside g c = record {
  ins = rw c.notice.ensures.ends.0 refl;
  outs = rw c.notice.ensures.ends.1
      (unpushed-at c.args.self.now.outs.items c.args.at c.send.new.self c.index_mut.result.now c.requires.within c.index_mut.ensures.value
      c.send.ensures.same c.send.ensures.pushed);
}
