use Rattle.std.proofs.Common.{◌≡◌, ◌*◌, ◌++◌, ◌∷◌, [], List, replicate, None, refl, ap, ◌∙◌, arith}
use Rattle.journal_check.specs.Kept.{Kept}
use Rattle.journal_check.proofs.Beginning.{no_frames, one-link-more, stands-first}
use Rattle.journal_check.proofs.pass.Pass.new.Goals as goal

pub loop-link-preserved : goal.loop-link-preserved
loop-link-preserved g c =
    c.in_ok-push.ensures.items
    ∙ (ap (λ (ks : List Kept). ks ++ c.new.result ∷ []) c.loop-link.invariant
    ∙ (ap (λ (k : Kept). replicate c.loop-link._link no_frames ++ k ∷ []) c.new.ensures ∙ one-link-more c.loop-link._link no_frames))

pub returns : goal.returns
returns g c = λ made s setup nodes.
    let far = c.loop-link-test.false in
    let near = c.loop-link.auto._link-end in
    let many : c.loop-link._link ≡ c.len-count.result * c.len-count.result = omega (arith, far, near) in
    let frames = c.loop-link.invariant ∙ (ap (λ k. replicate k no_frames) many ∙ ap (λ k. replicate (k * k) no_frames) (c.len-count.ensures ∙ c.args.nodes.ok.0)) in
    stands-first g.P.Program.wants g.P.Program.becomes made s (record { nodes = c.args.nodes; frames = c.loop-link.frames; marks = c.new-2.result; last = None }) setup nodes frames c.new-2.ensures.items refl
