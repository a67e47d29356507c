use Rattle.std.proofs.Common.{◌≡◌, ◌∙◌, ◌<◌, ◌++◌, List, ℕ, Bor, length, append-nil, sym, ap, subst, arith}
use Rattle.std.specs.Prelude.{All}
use Rattle.std.proofs.lemmas.List.{drop_all, length-map}
use Rattle.lane_charts.specs.Places.{is_key, places_of}
use Rattle.lane_charts.proofs.Keyed.{listed-within}
use Rattle.event_views.specs.declared.run.EventView.{EventView}
use Rattle.event_charts.specs.ChartsOfRuns.{takers, takes}
use Rattle.event_charts.specs.LentViews.{lent_views}
use Rattle.event_charts.specs.Slots.{picked, slot_of, slot_of_taken, slots_for}
use Rattle.event_charts.proofs.Slots.{listed, picked-all, slot-of-taker, takers-within}
use Rattle.event_charts.proofs.charts.takers.Goals as goal

pub takes_at-requires : goal.takes_at-requires
takes_at-requires c =
    let views = lent_views c.args.shown.now in
    let long = length-map c.args.shown.now (λ (v : Bor EventView). v.now) in
    let slots = c.slot_count.ensures.value ∙ ap slots_for (sym long) in
    let low = subst (λ n. c.slot-slot.result < n) slots c.slot-slot.ensures.bound in
    let list = listed c.args.by_slots.now views c.slot-slot.result c.of-places.result.now c.requires low c.of-places.ensures in
    let within = listed-within (λ (v : EventView). is_key c.slot-slot.result (slot_of_taken (slots_for (length views)) v)) views c.of-places.result.now list in
    omega (arith, long, within c.loop-at.at-index 0 c.loop-at-test.true)

pub returns-clause-places : goal.returns-clause-places
returns-clause-places c =
    let views = lent_views c.args.shown.now in
    let sent = c.args.sent.now in
    let long = length-map c.args.shown.now (λ (v : Bor EventView). v.now) in
    let slots = c.slot_count.ensures.value ∙ ap slots_for (sym long) in
    let low = subst (λ n. c.slot-slot.result < n) slots c.slot-slot.ensures.bound in
    let list = listed c.args.by_slots.now views c.slot-slot.result c.of-places.result.now c.requires low c.of-places.ensures in
    let slot = c.slot-slot.ensures.value ∙ ap (λ n. slot_of n c.args.from sent.to sent.index) slots in
    let test = λ (s : ℕ) (v : EventView). is_key s (slot_of_taken (slots_for (length views)) v) in
    let rows = c.loop-at.rows.items in
    let left = λ (ps : List ℕ). rows ++ picked (takes c.args.from sent) views ps in
    (sym (append-nil rows) ∙ (ap left (sym (drop_all c.loop-at.at-index c.of-places.result.now c.loop-at-test.false)) ∙ c.loop-at.invariant))
    ∙ picked-all c.args.from sent (test (slot_of (slots_for (length views)) c.args.from sent.to sent.index)) (slot-of-taker (slots_for (length views)) c.args.from sent) views c.of-places.result.now
    (subst (λ s. c.of-places.result.now ≡ places_of (test s) 0 views) slot list)

pub returns-clause-bound : goal.returns-clause-bound
returns-clause-bound c =
    let views = lent_views c.args.shown.now in
    let long = length-map c.args.shown.now (λ (v : Bor EventView). v.now) in
    subst (All (λ row. row < length c.args.shown.now)) (sym (returns-clause-places c))
    (subst (λ n. All (λ row. row < n) (takers 0 c.args.from c.args.sent.now views)) long (takers-within 0 (length views) c.args.from c.args.sent.now views (omega arith)))
