use Rattle.std.proofs.Common.{◌≡◌, ℕ, ◌==◌, true, false, rules, get_or, refl, ap, sym, subst, ◌∙◌}
use Rattle.std.proofs.lemmas.Result.{IfOk-weaker}
use Rattle.uid_names.proofs.ListLemmas.{by_cases}
use Rattle.uid_names.specs.Wires.{wire_room}
use Rattle.uid_names.proofs.Passed.{equal}
use Rattle.ring_messages.specs.Ranges.{LiesWithin}
use Rattle.node_core.proofs.Taking.{program-there, range-there, call-there, none-led, page-led, other-led, heard-led}
use Rattle.node_core.proofs.machine.Machine.hears.Goals as goal

fits-same : (a n b : ℕ) → a ≡ n → a ≡ b → (n == b) ≡ true
fits-same a n b is same = let e : n ≡ b = sym is ∙ same in search rules

fits-other : (a n b : ℕ) → a ≡ n → (a ≡ b → ⊥) → (n == b) ≡ false
fits-other a n b is differs = by_cases (n == b) ((n == b) ≡ false) (λ h. absurd (differs (is ∙ equal n b h))) (λ h. h)

pub hears_body-requires-clause-program : goal.hears_body-requires-clause-program
hears_body-requires-clause-program g c =
    program-there g.P.Program.spent g.P.Program.wants g.P.Program.becomes c.args.self.now c.requires.before c.index_of.result c.caller-proc.result.number (get_or c.args.self.now.procs c.index_of.result c.index-self-index_of.result) c.index-self-index_of.result
    c.index_of.ensures.process c.index_of.ensures.bound c.index_of.ensures.value refl c.in-Some.field-0 (sym c.doing.ensures ∙ c.in-Some.is)

pub hears_body-requires-clause-wanted : goal.hears_body-requires-clause-wanted
hears_body-requires-clause-wanted g c =
    range-there g.P.Program.spent g.P.Program.wants g.P.Program.becomes c.args.self.now c.requires.before c.index_of.result c.caller-proc.result.number (get_or c.args.self.now.procs c.index_of.result c.index-self-index_of.result) c.index-self-index_of.result
    c.index_of.ensures.process c.index_of.ensures.bound c.index_of.ensures.value refl c.in-Some.field-0 (sym c.doing.ensures ∙ c.in-Some.is)

pub hears_body-requires-clause-call : goal.hears_body-requires-clause-call
hears_body-requires-clause-call g c =
    call-there g.P.Program.spent g.P.Program.wants g.P.Program.becomes c.args.self.now c.requires.before c.index_of.result c.caller-proc.result.number (get_or c.args.self.now.procs c.index_of.result c.index-self-index_of.result) c.index-self-index_of.result
    c.index_of.ensures.process c.index_of.ensures.bound c.index_of.ensures.value refl c.in-Some.field-0 (sym c.doing.ensures ∙ c.in-Some.is)
    c.in-Answer.call c.in-Answer.is

pub hears_body-requires-clause-within : goal.hears_body-requires-clause-within
hears_body-requires-clause-within g c =
    let m = c.args.self.now in
    subst (LiesWithin (wire_room m.server.wire)) (sym c.body.ensures.value) (subst (λ v. LiesWithin (wire_room v) c.args.frame.now.body) c.requires.version c.requires.frame.range.within)

pub hears_body-requires-clause-low : goal.hears_body-requires-clause-low
hears_body-requires-clause-low g c = c.requires.before.node.within.desk

pub returns-in_default : goal.returns-in_default
returns-in_default g c =
    none-led g.P.Program.spent g.P.Program.wants g.P.Program.becomes c.args.self.now c.requires.before c.index_of.result c.caller-proc.result.number (get_or c.args.self.now.procs c.index_of.result c.index-self-index_of.result) c.index-self-index_of.result
    c.index_of.ensures.process c.index_of.ensures.bound c.index_of.ensures.value refl c.args.frame.now (ap (λ q. q.number) c.caller-proc.ensures)
    c.quiet.new.done c.new.result c.quiet.ensures c.new.ensures (sym c.doing.ensures ∙ c.in_default.is)

pub returns-in_default-awaits : goal.returns-in_default-awaits
returns-in_default-awaits g c =
    page-led g.P.Program.spent g.P.Program.wants g.P.Program.becomes c.args.self.now c.requires.before c.index_of.result c.caller-proc.result.number (get_or c.args.self.now.procs c.index_of.result c.index-self-index_of.result) c.index-self-index_of.result
    c.index_of.ensures.process c.index_of.ensures.bound c.index_of.ensures.value refl c.args.frame.now (ap (λ q. q.number) c.caller-proc.ensures)
    c.in-Some.field-0 (sym c.doing.ensures ∙ c.in-Some.is)
    c.quiet-in_default-awaits.new.done c.new-in_default-awaits.result c.quiet-in_default-awaits.ensures c.new-in_default-awaits.ensures
    c.in_default-awaits.field-0 c.in_default-awaits.field-1 c.in_default-awaits.is

pub returns-then-not-fits : goal.returns-then-not-fits
returns-then-not-fits g c =
    other-led g.P.Program.spent g.P.Program.wants g.P.Program.becomes c.args.self.now c.requires.before c.index_of.result c.caller-proc.result.number (get_or c.args.self.now.procs c.index_of.result c.index-self-index_of.result) c.index-self-index_of.result
    c.index_of.ensures.process c.index_of.ensures.bound c.index_of.ensures.value refl c.args.frame.now (ap (λ q. q.number) c.caller-proc.ensures)
    c.in-Some.field-0 (sym c.doing.ensures ∙ c.in-Some.is) c.in-Answer.call c.in-Answer.is
    c.quiet-then-not-fits.new.done c.new-then-not-fits.result c.quiet-then-not-fits.ensures c.new-then-not-fits.ensures
    (fits-other c.number.result c.args.frame.now.number c.in-Answer.call.asking.number c.number.ensures.value (λ same. let e : false ≡ true = sym c.if-not-fits.true ∙ c.fits.ensures.1 same in absurd (cc)))

pub returns : goal.returns
returns g c =
    IfOk-weaker c.hears_body.result _ _ (λ ok heard.
    heard-led g.P.Program.spent g.P.Program.wants g.P.Program.becomes c.args.self.now c.requires.before c.index_of.result c.caller-proc.result.number (get_or c.args.self.now.procs c.index_of.result c.index-self-index_of.result) c.index-self-index_of.result
    c.index_of.ensures.process c.index_of.ensures.bound c.index_of.ensures.value refl c.args.frame.now (ap (λ q. q.number) c.caller-proc.ensures)
    c.in-Some.field-0 (sym c.doing.ensures ∙ c.in-Some.is) c.in-Answer.call c.in-Answer.is
    c.hears_body.new.self c.hears_body.new.done c.body.result.now c.body.ensures.value
    (fits-same c.number.result c.args.frame.now.number c.in-Answer.call.asking.number c.number.ensures.value (c.fits.ensures.0 c.if-not-fits.false)) heard)
    c.hears_body.ensures
