use Rattle.std.proofs.Common.{◌≡◌, ◌∙◌, ℕ, ◌+◌, refl, sym}
use Rattle.std.specs.Prelude.{find}
use Rattle.uid_names.specs.Segments.{is_free_run, starts_from}
use Rattle.uid_names.proofs.Runs.{find-starts_step, find-starts_end}
use Rattle.plain_store.specs.KeptMaps.{stretches_of}
use Rattle.plain_store.proofs.maps.lowest_run.Goals as goal

-- the run that is free is the lowest, since no lower one was
pub returns-then-is_free_run-clause-lowest : goal.returns-then-is_free_run-clause-lowest
returns-then-is_free_run-clause-lowest c =
    let test = λ (first : ℕ). is_free_run c.args.count first (stretches_of c.args.p c.args.maps.now) in
    sym (sym c.loop-first.invariant ∙ (find-starts_step test c.loop-first.first c.loop-first-test.true ∙ rw (← c.if-is_free_run.ensures) refl))

-- a run that is not free is passed over
pub loop-first-preserved : goal.loop-first-preserved
loop-first-preserved c =
    let test = λ (first : ℕ). is_free_run c.args.count first (stretches_of c.args.p c.args.maps.now) in
    let step : find test (starts_from c.loop-first.first) ≡ find test (starts_from (c.loop-first.first + 1)) = find-starts_step test c.loop-first.first c.loop-first-test.true ∙ rw (← c.if-is_free_run.ensures) refl in
    sym step ∙ c.loop-first.invariant

-- no run is free
pub returns-clause-lowest : goal.returns-clause-lowest
returns-clause-lowest c =
    let test = λ (first : ℕ). is_free_run c.args.count first (stretches_of c.args.p c.args.maps.now) in
    sym (sym c.loop-first.invariant ∙ find-starts_end test c.loop-first.first c.loop-first-test.false)
