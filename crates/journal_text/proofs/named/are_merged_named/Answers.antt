use Rattle.std.proofs.Common.{refl, sym, subst}
use Rattle.std.specs.Prelude.{All}
use Rattle.std.proofs.lemmas.List.Elements.{All-head, All-tail, All-cons}
use Rattle.journal_text.specs.Lines.{Names}
use Rattle.journal_text.proofs.named.are_merged_named.Goals as goal

pub returns-then-not-names_event : goal.returns-then-not-names_event
returns-then-not-names_event c =
    let named = Names c.args.names.now in (
      λ is. absurd cc,
      λ all.
          let here = All-head named c.in-Some.event.now c.next.new.self (subst (All named) c.in-Some.ensures (c.loop-event.invariant.1 all)) in
          let no = c.if-not-names_event.ensures.1 here in
          absurd (cc),
    )

pub loop-event-preserved : goal.loop-event-preserved
loop-event-preserved c =
    let named = Names c.args.names.now in (
      λ all. c.loop-event.invariant.0 (subst (All named) (sym c.in-Some.ensures) (All-cons named c.in-Some.event.now c.next.new.self (c.if-not-names_event.ensures.0 refl) all)),
      λ all. All-tail named c.in-Some.event.now c.next.new.self (subst (All named) c.in-Some.ensures (c.loop-event.invariant.1 all)),
    )
