use Rattle.std.proofs.Common.{◌≡◌, ℕ, ◌+◌, ◌*◌, ◌≤◌, List, [], ◌∷◌, ◌++◌, length, sym, ap, ◌∙◌, append_assoc, arith}
use Rattle.std.proofs.lemmas.List.Elements.{All-nil, All-cons, All-append}
use Rattle.uid_names.specs.Names.{ObjectName}
use Rattle.dom_history.specs.Events.{Happening}
use Rattle.dom_history.specs.declared.event.Effects.{Effects}
use Rattle.journal_text.specs.Lines.{line}
use Rattle.journal_text.proofs.lines.longest_of.Goals as goal

pub loop-event-preserved : goal.loop-event-preserved
loop-event-preserved c =
    let e = c.in-Some.event.now in
    let read = c.loop-event.invariant.0 in
    let most = c.max-dropped.result in
    let is = c.max-dropped.ensures in
    let old-fits : c.loop-event.dropped ≤ most = grind (arith, is) in
    let new-fits : length c.items.result.now ≤ most = grind (arith, is) in
    let same : length c.items.result.now ≡ length e.effects.dropped = ap (λ (pages : List (ObjectName × ℕ)). length pages) (c.items.ensures ∙ ap (λ (f : Effects). f.dropped) c.effects.ensures.value) in
    let here : length (line c.args.names.now e) ≤ 300 + 44 * length e.effects.dropped = c.line_is_short.ensures in
    let short : length (line c.args.names.now e) ≤ 300 + 44 * most = omega (arith, here, same, new-fits) in
    let bound = λ (x : Happening). length (line c.args.names.now x) ≤ 300 + 44 * most in (
      read ++ e ∷ [],
      append_assoc read (e ∷ []) c.next.new.self ∙ ap (λ (es : List Happening). read ++ es) (sym c.in-Some.ensures) ∙ c.loop-event.invariant.1,
      All-append bound read (e ∷ []) (λ k d inside. let fits = c.loop-event.invariant.2 k d inside in omega (arith, fits, old-fits)) (All-cons bound e [] short (All-nil bound)),
    )
