use Rattle.std.proofs.Common.{◌∙◌, subst, arith}
use Rattle.std.specs.Prelude.{◌^◌}
use Rattle.std.proofs.lemmas.Result.{IfOk-weaker}
use Rattle.world_core.specs.Stands.{IsRunOf}
use Rattle.count_up.specs.Counters.{want_of, counter_after}
use Rattle.count_up.specs.Counting.{made_counter, counting}
use Rattle.count_up.specs.Sums.{HaveSeen}
use Rattle.count_up.proofs.Counted.{counts_up}
use Rattle.count_up.proofs.Ending.{by_turns_ended}
use Rattle.count_up.proofs.runs.by_turns.Goals as goal

pub new-requires-2 : goal.new-requires-2
new-requires-2 c = record { nodes = (made_counter c.args.rounds, counting c.args.rounds, c.in_ok-nodes.ensures) }

pub run_merged-requires-clause-stands : goal.run_merged-requires-clause-stands
run_merged-requires-clause-stands c =
    (made_counter c.args.rounds, counting c.args.rounds, c.in_ok-world.ensures.stands (made_counter c.args.rounds) (counting c.args.rounds) c.in_ok-nodes.ensures)

pub returns-clause-run : goal.returns-clause-run
returns-clause-run c =
    let rounds = c.args.rounds in
    let events = c.in_ok-counters.field-0-0.events in
    let counters = c.in_ok-counters.counters.items in
    let ran = c.in_ok-counters.ensures.run (made_counter rounds) (counting rounds) (c.in_ok-world.ensures.stands (made_counter rounds) (counting rounds) c.in_ok-nodes.ensures) in
    let own = subst (λ plan. IsRunOf want_of counter_after (made_counter rounds) (counting rounds) plan c.args.turns (2 ^ 40) events counters) (c.in_ok-world.ensures.plan ∙ c.new.ensures) ran in
    IfOk-weaker c.seen_by_all.result _ _
    (λ sum seen. by_turns_ended rounds sum c.args.turns (2 ^ 40) events counters own (subst (HaveSeen sum) c.as_slice.ensures.value seen)) c.seen_by_all.ensures

pub returns-clause-sum : goal.returns-clause-sum
returns-clause-sum c =
    let rounds = c.args.rounds in
    let events = c.in_ok-counters.field-0-0.events in
    let counters = c.in_ok-counters.counters.items in
    let ran = c.in_ok-counters.ensures.run (made_counter rounds) (counting rounds) (c.in_ok-world.ensures.stands (made_counter rounds) (counting rounds) c.in_ok-nodes.ensures) in
    let own = subst (λ plan. IsRunOf want_of counter_after (made_counter rounds) (counting rounds) plan c.args.turns (2 ^ 40) events counters) (c.in_ok-world.ensures.plan ∙ c.new.ensures) ran in
    IfOk-weaker c.seen_by_all.result _ _
    (λ sum seen some.
    counts_up c.an_ended_run_ends_its_programs.ensures.history rounds sum (λ is. absurd (omega (arith, is, some))) (omega (arith, c.ranges.rounds.fits))
    (by_turns_ended rounds sum c.args.turns (2 ^ 40) events counters own (subst (HaveSeen sum) c.as_slice.ensures.value seen))) c.seen_by_all.ensures
