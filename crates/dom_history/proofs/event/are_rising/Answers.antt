use Rattle.std.proofs.Common.{◌≡◌, false, refl, arith, ◌∙◌, sym}
use Rattle.dom_history.specs.Events.{page_lt}
use Rattle.dom_history.proofs.PageOrder.{rising-from_adjacent, not_rising}
use Rattle.dom_history.proofs.event.are_rising.Goals as goal

pub returns-then-not-is_page_below : goal.returns-then-not-is_page_below
returns-then-not-is_page_below c = (
  λ t. absurd cc,
  λ rise.
      let fails : page_lt c.index-pages-i.result c.index-pages-i-in-loop-i.result ≡ false = sym c.is_page_below.ensures ∙ c.if-not-is_page_below.true in
      absurd (not_rising c.args.pages.now c.loop-i.i _ _ c.loop-i.auto.i c.loop-i-test.true c.index-pages-i.is c.index-pages-i-in-loop-i.is fails rise),
)

pub returns : goal.returns
returns c = (λ t. rising-from_adjacent c.args.pages.now c.loop-i.i (omega (arith, c.loop-i-test.false)) c.loop-i.invariant, λ rise. refl)
