use Rattle.std.proofs.Common.{length, map, take, ap, ◌∙◌, sym, ◌++◌, ◌∷◌, [], ◌≤◌}
use Rattle.std.proofs.lemmas.List.{take_all}
use Rattle.script_reader.specs.Variables.{declared_object}
use Rattle.script_reader.specs.Places.{places_of}
use Rattle.aegis_shell.specs.Work.{job_of}
use Rattle.aegis_shell.proofs.Parts.{rows_at, jobs-more, own_rows}
use Rattle.aegis_shell.proofs.work.jobs.Goals as goal

pub loop-place-preserved : goal.loop-place-preserved
loop-place-preserved c =
    let script = c.args.script.now in
    let f = job_of (declared_object script.objects) in
    let places = places_of 0 c.args.proc script.commands in
    let i = c.loop-place.place-index in
    let within = rw c.places_of-places.ensures.value at c.loop-place-test.true in
    let inside = rw c.places_of-places.ensures.value at c.places_of-places.ensures.bound in
    let row_is = rw (c.commands-rows.ensures.value, c.places_of-places.ensures.value) at c.index-rows-place.is in
    c.in_ok-push.ensures.items
    ∙ (ap (λ list. list ++ c.job_from.result ∷ []) c.loop-place.invariant
    ∙ (ap (λ job. map f (rows_at script.commands (take i places)) ++ job ∷ []) c.job_from.ensures
    ∙ sym (jobs-more f script.commands places i 0 c.index-rows-place.result within (inside i 0 within) row_is)))

pub returns : goal.returns
returns c =
    let script = c.args.script.now in
    let f = job_of (declared_object script.objects) in
    let places = places_of 0 c.args.proc script.commands in
    let all : length places ≤ c.loop-place.place-index = rw c.places_of-places.ensures.value at c.loop-place-test.false in
    c.loop-place.invariant
    ∙ (ap (λ list. map f (rows_at script.commands list)) (take_all c.loop-place.place-index places all)
    ∙ ap (map f) (own_rows c.args.proc script.commands))
