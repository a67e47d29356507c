use Rattle.std.proofs.Common.{Some, None, refl}
use Rattle.script_runs.specs.Setups.{setup_of}
use Rattle.journal_check.proofs.Judging.{accepted-in, end-refused, own-places, plan-refused, told-fault}
use Rattle.journal_check.proofs.verdict.judge.Goals as goal

pub returns-in-Some : goal.returns-in-Some
returns-in-Some g c = λ made s bytes all.
    let wants = g.P.Program.wants in
    let becomes = g.P.Program.becomes in
    let own = own-places wants becomes made s bytes c.args.events c.args.pass.now c.args.places.now all in
    plan-refused wants becomes made s bytes c.args.events c.args.pass.now c.args.places.now all c.in-Some.line
    (told-fault wants becomes made s bytes c.args.events c.args.pass.now c.args.places.now all (Some c.in-Some.line) (c.in-Some.ensures all.events own))

pub returns-then-not-ended : goal.returns-then-not-ended
returns-then-not-ended g c = λ made s bytes all.
    let wants = g.P.Program.wants in
    let becomes = g.P.Program.becomes in
    let own = own-places wants becomes made s bytes c.args.events c.args.pass.now c.args.places.now all in
    end-refused wants becomes made s bytes c.args.events c.args.pass.now c.args.places.now all c.requires.few
    c.a_run_is_planned_where_each_event_has_its_place.ensures.planned
    (told-fault wants becomes made s bytes c.args.events c.args.pass.now c.args.places.now all None (c.in_default.ensures all.events own))
    (λ ended. let no = (c.if-not-ended.ensures made (setup_of s) all.happened.world all.happened.stands).1 ended in absurd (cc))

pub returns : goal.returns
returns g c = λ made s bytes all.
    let wants = g.P.Program.wants in
    let becomes = g.P.Program.becomes in
    let own = own-places wants becomes made s bytes c.args.events c.args.pass.now c.args.places.now all in
    accepted-in wants becomes made s bytes c.args.events c.args.pass.now c.args.places.now all c.requires.few
    c.a_run_is_planned_where_each_event_has_its_place.ensures.planned
    (told-fault wants becomes made s bytes c.args.events c.args.pass.now c.args.places.now all None (c.in_default.ensures all.events own))
    c.an_accepted_journal_is_of_one_store.ensures.few
    ((c.if-not-ended.ensures made (setup_of s) all.happened.world all.happened.stands).0 refl)
