use Rattle.std.proofs.Common.{◌≡◌, ◌∷◌, [], ◌++◌, true, rules, ◌∙◌, sym, ap}
use Rattle.dir_records.specs.Components.{is_component}
use Rattle.dir_records.specs.Wholes.{in_front}
use Rattle.dir_records.specs.Paths.{pieces, names_of}
use Rattle.dir_records.proofs.Pieces.{name_read}
use Rattle.dir_records.proofs.path.names_in.Goals as goal

pub loop-front-preserved : goal.loop-front-preserved
loop-front-preserved c =
    let form : is_component c.in-Some.front.now ≡ true = search rules in
    let same : c.in-Some-read.name ≡ c.in-Some.front.now = search rules in
    let after : c.loop-front.names ++ c.in-Some.front.now ∷ [] ≡ c.push.new.self = rw (← same) (sym c.in_ok-push.ensures.ok) in
    c.loop-front.invariant ∙ name_read c.loop-front.rest.now c.in-Some.front.now c.in-Some.back.now c.loop-front.names c.in-Some.ensures.value form
    ∙ ap (λ names. in_front names (names_of (pieces c.in-Some.back.now))) after
