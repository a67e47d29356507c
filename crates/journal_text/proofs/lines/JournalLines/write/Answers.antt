use Rattle.std.proofs.Common.{◌≡◌, ℕ, ◌≤◌, Option, List, [], ◌++◌, length, sym, ap, subst, ◌∙◌, arith}
use Rattle.std.specs.Prelude.{All, OnErr}
use Rattle.std.specs.Io.KnownBytes.{append_known}
use Rattle.std.proofs.lemmas.List.Elements.{All-head, All-tail}
use Rattle.dom_history.specs.Events.{Happening}
use Rattle.dom_io.specs.Known.{AppendsPrefix}
use Rattle.journal_text.specs.Buffers.{Filled}
use Rattle.journal_text.specs.Lines.{line, journal, Names}
use Rattle.journal_text.proofs.Pieces.{none-written, written-more, prefix-of, one-line, on-err, on-err-by}
use Rattle.journal_text.proofs.lines.JournalLines.write.Goals as goal

pub loop-event-init : goal.loop-event-init
loop-event-init g c = ([], none-written (g.J.Sink.held c.args.journal.now), c.self.view_is, omega arith, c.self.invariant.0, c.self.invariant.1.0, c.self.invariant.1.1)

pub returns-in_err-make_room-clause-prefix : goal.returns-in_err-make_room-clause-prefix
returns-in_err-make_room-clause-prefix g c =
    let inv = c.loop-event.invariant in
    let held = g.J.Sink.held in
    on-err c.from_residual.result (AppendsPrefix (held c.args.journal.now) (held c.make_room.new.sink) c.args.self)
    (prefix-of (held c.args.journal.now) (held c.loop-event.journal) (held c.make_room.new.sink) inv.0 c.loop-event.piece.text (journal c.self.inside.names.now c.loop-event.left) c.args.self
    inv.1 inv.2 c.in_err-make_room.ensures.prefix)

pub write_event-requires-clause-named : goal.write_event-requires-clause-named
write_event-requires-clause-named g c =
    let named = Names c.self.inside.names.now in
    All-head named c.in-Some.event.now c.next.new.self (subst (All named) c.in-Some.ensures c.loop-event.invariant.4)

pub write_event-requires-clause-room : goal.write_event-requires-clause-room
write_event-requires-clause-room g c =
    let short = λ (e : Happening). length (line c.self.inside.names.now e) ≤ c.self.inside.longest in
    let here = All-head short c.in-Some.event.now c.next.new.self (subst (All short) c.in-Some.ensures c.loop-event.invariant.5) in
    let room = c.in_ok-make_room.ensures.room in
    omega (arith, here, room)

pub loop-event-preserved : goal.loop-event-preserved
loop-event-preserved g c =
    let inv = c.loop-event.invariant in
    let held = g.J.Sink.held in
    let names = c.self.inside.names.now in
    let e = c.in-Some.event.now in
    let left = c.next.new.self in
    let piece = c.make_room.new.piece.text in
    let more = c.in_ok-make_room.ensures.written in
    let named = Names names in
    let short = λ (x : Happening). length (line names x) ≤ c.self.inside.longest in
    let text : c.write_event.new.to.text ≡ piece ++ line names e = ap (λ (b : Filled). b.text) c.write_event.ensures in
    let room : c.write_event.new.to.room ≡ c.loop-event.piece.room = ap (λ (b : Filled). b.room) c.write_event.ensures ∙ c.in_ok-make_room.ensures.same in (
      inv.0 ++ more.0,
      more.1 ∙ ap (λ (known : Option (List ℕ)). append_known known more.0) inv.1 ∙ written-more (held c.args.journal.now) inv.0 more.0,
      ap (λ (p : List ℕ). (inv.0 ++ more.0) ++ (p ++ journal names left)) text
          ∙ one-line inv.0 more.0 piece (line names e) (journal names left)
          ∙ ap (λ (p : List ℕ). inv.0 ++ (p ++ (line names e ++ journal names left))) more.2
          ∙ ap (λ (es : List Happening). inv.0 ++ (c.loop-event.piece.text ++ journal names es)) (sym c.in-Some.ensures)
          ∙ inv.2,
      (let first = inv.3 in let then = c.make_room.ensures.count in omega (arith, first, then)),
      All-tail named e left (subst (All named) c.in-Some.ensures inv.4),
      All-tail short e left (subst (All short) c.in-Some.ensures inv.5),
      (let longest = inv.6 in omega (arith, longest, room)),
    )

pub returns-clause-prefix : goal.returns-clause-prefix
returns-clause-prefix g c =
    let inv = c.loop-event.invariant in
    let held = g.J.Sink.held in
    on-err-by c.write_all.result
    (prefix-of (held c.args.journal.now) (held c.loop-event.journal) (held c.write_all.new.sink) inv.0 c.loop-event.piece.text (journal c.self.inside.names.now c.loop-event.left) c.args.self inv.1 inv.2)
    (subst (λ (p : List ℕ). OnErr c.write_all.result (AppendsPrefix (held c.loop-event.journal) (held c.write_all.new.sink) p)) c.bytes.ensures c.write_all.ensures.prefix)
