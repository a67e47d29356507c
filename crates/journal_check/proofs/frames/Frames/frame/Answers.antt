use Rattle.std.proofs.Common.{◌≡◌, ◌+◌, true, false, drop, ap, sym, ◌∙◌, arith}
use Rattle.std.specs.Prelude.{◌==◌}
use Rattle.std.proofs.Math.ListN.{drop_of_length-le}
use Rattle.std.proofs.lemmas.Bool.Decides.{nat_tests}
use Rattle.journal_check.specs.Kept.{Kept, live_at}
use Rattle.journal_check.proofs.Heads.{first_if, live-drop}
use Rattle.journal_check.proofs.frames.Frames.frame.Goals as goal

pub returns-then-live-index : goal.returns-then-live-index
returns-then-live-index c =
    let ls = c.deref-live-items.result.now in
    let i = c.loop-live.live-index in
    let l = c.live-item.result in
    let whole : live_at c.args.index ls ≡ live_at c.args.index c.args.self.now.live = ap (live_at c.args.index) c.deref-live-items.ensures.value ∙ ap (λ (k : Kept). live_at c.args.index k.live) c.self.view_is in
    let test = c.if-live-index.true in
    let here : (l.index == c.args.index) ≡ true = grind (arith, nat_tests, test) in
    sym (sym whole ∙ (c.loop-live.invariant ∙ (live-drop c.args.index i ls l c.loop-live-test.true c.live-item.is ∙ ap (λ b. first_if b l (live_at c.args.index (drop (i + 1) ls))) here)))

pub loop-live-preserved : goal.loop-live-preserved
loop-live-preserved c =
    let ls = c.deref-live-items.result.now in
    let i = c.loop-live.live-index in
    let l = c.live-item.result in
    let test = c.if-live-index.false in
    let away : (l.index == c.args.index) ≡ false = grind (arith, nat_tests, test) in
    c.loop-live.invariant ∙ (live-drop c.args.index i ls l c.loop-live-test.true c.live-item.is ∙ ap (λ b. first_if b l (live_at c.args.index (drop (i + 1) ls))) away)

pub returns : goal.returns
returns c =
    let ls = c.deref-live-items.result.now in
    let whole : live_at c.args.index ls ≡ live_at c.args.index c.args.self.now.live = ap (live_at c.args.index) c.deref-live-items.ensures.value ∙ ap (λ (k : Kept). live_at c.args.index k.live) c.self.view_is in
    sym (sym whole ∙ (c.loop-live.invariant ∙ ap (live_at c.args.index) (drop_of_length-le ls c.loop-live-test.false)))
