use Rattle.std.proofs.Common.{◌≡◌, ◌++◌, ◌∷◌, [], Option, map, sym, ap, ◌∙◌}
use Rattle.std.specs.Prelude.{option_to_list}
use Rattle.std.proofs.lemmas.List.{append-nil}
use Rattle.dom_history.specs.declared.event.What.{What}
use Rattle.world_core.specs.declared.coming.Source.TheVariants.{Nothing}
use Rattle.world_core.specs.Stations.{start, starts_of, comings}
use Rattle.world_core.proofs.Comings.{put_started}
use Rattle.fault_handler.proofs.Outcomes.{OnOk-more}
use Rattle.world_core.proofs.station.put_process.Goals as goal

pub returns-in-Some : goal.returns-in-Some
returns-in-Some g c =
    let old = c.args.list.now.items in
    OnOk-more c.push.result (λ _. c.push.new.list.items ≡ old ++ record { what = c.in-Some.what; source = Nothing } ∷ [])
    (c.push.new.list.items ≡ old ++ comings c.args.node.now (starts_of c.args.p))
    (λ _ put. put_started c.args.node.now old c.push.new.list.items c.args.p c.start.result c.start.ensures.value
    (put ∙ ap (λ (o : Option What). old ++ map (λ (what : What). (start what).coming) (option_to_list o)) (sym c.in-Some.is))) c.push.ensures

pub returns-in-None : goal.returns-in-None
returns-in-None g c =
    let old = c.args.list.now.items in
    put_started c.args.node.now old old c.args.p c.start.result c.start.ensures.value
    (sym (append-nil old) ∙ ap (λ (o : Option What). old ++ map (λ (what : What). (start what).coming) (option_to_list o)) (sym c.in-None.is))
