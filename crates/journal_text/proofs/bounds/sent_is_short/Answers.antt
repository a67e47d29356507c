use Rattle.std.proofs.Common.{◌≤◌, ◌++◌, codes, decimal, length, sym, subst, length-append, arith}
use Rattle.std.specs.Prelude.{IfSome, Option}
use Rattle.dom_history.specs.Events.{IsKindNumber}
use Rattle.dom_history.specs.declared.event.Sent.{Sent}
use Rattle.journal_text.specs.Lines.{numbered_text, sent_text, kind_text}
use Rattle.journal_text.proofs.Short.{numbered_short, kind_short}
use Rattle.journal_text.proofs.bounds.sent_is_short.Goals as goal

pub returns-in-Some : goal.returns-in-Some
returns-in-Some c =
    let names = c.args.names.now in
    let s = c.in-Some.sent in
    let kind = kind_short s.kind (subst (λ (o : Option Sent). IfSome o (λ x. IsKindNumber x.kind)) c.in-Some.is c.requires.kind) in
    let link = numbered_short names s.to s.index c.requires.names c.number_is_short.ensures in
    let digits = c.number_is_short-in-Some.ensures in
    let whole = length-append (codes "; send ") (numbered_text names s.to s.index ++ (codes " " ++ (kind_text s.kind ++ (codes " " ++ decimal s.number)))) in
    let second = length-append (numbered_text names s.to s.index) (codes " " ++ (kind_text s.kind ++ (codes " " ++ decimal s.number))) in
    let third = length-append (codes " ") (kind_text s.kind ++ (codes " " ++ decimal s.number)) in
    let fourth = length-append (kind_text s.kind) (codes " " ++ decimal s.number) in
    let last = length-append (codes " ") (decimal s.number) in
    subst (λ (o : Option Sent). length (sent_text names o) ≤ 91) (sym c.in-Some.is) (omega (arith, kind, link, digits, whole, second, third, fourth, last))
