use Rattle.std.proofs.Common.{rules, ◌≡◌, ◌<◌, ◌++◌, ◌∷◌, [], All, None, Some, List, length, ap, sym, subst, ◌∙◌, arith, length-append}
use Rattle.std.proofs.lemmas.List.Elements.{All-append, All-cons, All-nil}
use Rattle.dom_history.specs.Events.{Happening}
use Rattle.journal_text.specs.Lines.{line, journal}
use Rattle.journal_text.specs.Written.{IsWritten, IsAbove, RiseFrom, last_from}
use Rattle.journal_text.proofs.Events.{journal-push, rise-push, last-push}
use Rattle.journal_text.proofs.reading.read_journal.Goals as goal

pub loop-rest-preserved : goal.loop-rest-preserved
loop-rest-preserved c =
    let names = c.args.names.now in
    let old = c.loop-rest.events in
    let e = c.in-Some.event in
    let rest = c.loop-rest.rest.now in
    let behind = c.in-Some.behind.now in
    let I = c.loop-rest.invariant in
    let new : c.push.new.self ≡ old ++ e ∷ [] = search rules in
    let first : rest ≡ line names e ++ behind = rw c.in-Some.is at c.in_ok-event.ensures.text in
    let written : IsWritten names e = rw c.in-Some.is at c.in_ok-event.ensures.written in
    let above : IsAbove c.loop-rest.before e.place = rw c.in-Some.is at c.in_ok-event.ensures.above in
    let shorter : length behind < length rest = rw c.in-Some.is at c.in_ok-event.ensures.shorter in
    let all : All (IsWritten names) (old ++ e ∷ []) = All-append (IsWritten names) old (e ∷ []) I.written (All-cons (IsWritten names) e [] written (All-nil (IsWritten names))) in
    let rising : RiseFrom None (old ++ e ∷ []) = rise-push None old e I.rising (subst (λ b. IsAbove b e.place) I.before above) in
    record {
      text = journal-push names old e c.args.bytes.now rest behind I.text first ∙ ap (λ (es : List Happening). journal names es ++ behind) (sym new);
      written = subst (All (IsWritten names)) (sym new) all;
      rising = subst (RiseFrom None) (sym new) rising;
      before = ap (λ p. Some p) c.place.ensures ∙ sym (last-push None old e) ∙ ap (last_from None) (sym new);
      count = omega (arith, I.count, ap length new, length-append old (e ∷ []));
      bound = omega (arith, I.bound, shorter);
    }
