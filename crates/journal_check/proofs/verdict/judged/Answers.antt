use Rattle.std.proofs.Common.{ℕ, List, [], length, ap, sym, subst, ◌∙◌, arith}
use Rattle.std.specs.Prelude.{reverse}
use Rattle.dom_history.specs.Events.{Happening}
use Rattle.dom_history.specs.declared.plan.FateRow.{FateRow}
use Rattle.journal_text.specs.Written.{IsJournal}
use Rattle.script_runs.specs.Reports.{names_of}
use Rattle.script_runs.specs.Setups.{setup_of}
use Rattle.journal_check.specs.Judged.{ArePlaces}
use Rattle.journal_check.specs.Passing.{HaveHappened}
use Rattle.journal_check.specs.declared.verdict.CheckFault.TheVariants.{NoMemory}
use Rattle.journal_check.proofs.Verdicts.{all-happened, few-events, few-nodes, none-happened, stopped-refused, unread-refused, verdict-refused}
use Rattle.journal_check.proofs.verdict.judged.Goals as goal

pub overflow_cast-count : goal.overflow_cast-count
overflow_cast-count g c =
    let r = c.requires.given in
    let few = few-nodes g.P.Program.wants g.P.Program.becomes r.0 r.1 c.args.nodes.items c.args.plan.now c.args.names.now r.2 in
    let same = c.len-count.ensures ∙ c.args.nodes.ok.0 in
    omega (arith, few, same)

pub new-requires : goal.new-requires
new-requires g c =
    let r = c.requires.given in
    record { nodes = few-nodes g.P.Program.wants g.P.Program.becomes r.0 r.1 c.args.nodes.items c.args.plan.now c.args.names.now r.2 }

pub new-requires-2 : goal.new-requires-2
new-requires-2 g c =
    let r = c.requires.given in
    let few = few-nodes g.P.Program.wants g.P.Program.becomes r.0 r.1 c.args.nodes.items c.args.plan.now c.args.names.now r.2 in
    let same = c.len-count.ensures ∙ c.args.nodes.ok.0 in
    record { few = omega (arith, few, same) }

pub happen-requires-clause-happened : goal.happen-requires-clause-happened
happen-requires-clause-happened g c =
    let r = c.requires.given in
    let s = r.1 in
    let given = r.2 in
    let setup = c.scripts_set_nodes_up.ensures s given.can.content given.can.start in
    let stands = c.in_ok-pass.ensures r.0 (setup_of s) setup given.nodes_are in
    let are = subst (λ k. ArePlaces s.plan k [] c.in_ok-places.places) (c.len-count.ensures ∙ (c.args.nodes.ok.0 ∙ given.nodes_are.count))
    (subst (λ (f : List FateRow). ArePlaces f c.len-count.result [] c.in_ok-places.places) given.plan_is c.in_ok-places.ensures) in
    (r.0, s, none-happened g.P.Program.wants g.P.Program.becomes r.0 s c.in_ok-pass.pass c.in_ok-places.places stands are)

pub happen-requires-clause-few : goal.happen-requires-clause-few
happen-requires-clause-few g c =
    let few = few-events c.args.names.now c.args.journal.now c.in_ok-events.events c.in_ok-events.ensures.ok c.requires.few in
    let same = ap (λ (es : List Happening). length es) c.items.ensures in
    omega (arith, few, same)

pub judge-requires : goal.judge-requires
judge-requires g c =
    let few = few-events c.args.names.now c.args.journal.now c.in_ok-events.events c.in_ok-events.ensures.ok c.requires.few in
    let same = ap (λ (es : List Happening). length es) c.items-2.ensures in
    record { few = omega (arith, few, same) }

pub returns-in_err-events : goal.returns-in_err-events
returns-in_err-events g c = λ made s given.
    verdict-refused g.P.Program.wants g.P.Program.becomes made s c.args.journal.now c.from_residual.result c.in_err-events.field-0.0 c.from_residual.ensures.1
    (unread-refused s c.args.names.now c.args.journal.now c.in_err-events.field-0.0 given.names_are c.in_err-events.ensures.err)

pub returns-in_err-pass : goal.returns-in_err-pass
returns-in_err-pass g c = λ made s given.
    verdict-refused g.P.Program.wants g.P.Program.becomes made s c.args.journal.now c.from_residual-in_err-pass.result NoMemory c.from_residual-in_err-pass.ensures.1 tt

pub returns-in_err-places : goal.returns-in_err-places
returns-in_err-places g c = λ made s given.
    verdict-refused g.P.Program.wants g.P.Program.becomes made s c.args.journal.now c.from_residual-in_err-places.result NoMemory c.from_residual-in_err-places.ensures.1 tt

pub returns-in_err-happen : goal.returns-in_err-happen
returns-in_err-happen g c = λ made s given.
    let setup = c.scripts_set_nodes_up.ensures s given.can.content given.can.start in
    let stands = c.in_ok-pass.ensures made (setup_of s) setup given.nodes_are in
    let are = subst (λ k. ArePlaces s.plan k [] c.in_ok-places.places) (c.len-count.ensures ∙ (c.args.nodes.ok.0 ∙ given.nodes_are.count))
    (subst (λ (f : List FateRow). ArePlaces f c.len-count.result [] c.in_ok-places.places) given.plan_is c.in_ok-places.ensures) in
    let first = none-happened g.P.Program.wants g.P.Program.becomes made s c.in_ok-pass.pass c.in_ok-places.places stands are in
    let journal = subst (λ (ns : List (List ℕ)). IsJournal ns c.args.journal.now c.in_ok-events.events) given.names_are c.in_ok-events.ensures.ok in
    verdict-refused g.P.Program.wants g.P.Program.becomes made s c.args.journal.now c.from_residual-in_err-happen.result c.in_err-happen.field-0.0 c.from_residual-in_err-happen.ensures.1
    (stopped-refused s c.args.journal.now c.items.result.now c.in_err-happen.field-0.0 (subst (IsJournal (names_of s) c.args.journal.now) (sym c.items.ensures) journal) (c.in_err-happen.ensures made s first))

pub returns-in_err-judge : goal.returns-in_err-judge
returns-in_err-judge g c = λ made s given.
    let setup = c.scripts_set_nodes_up.ensures s given.can.content given.can.start in
    let stands = c.in_ok-pass.ensures made (setup_of s) setup given.nodes_are in
    let are = subst (λ k. ArePlaces s.plan k [] c.in_ok-places.places) (c.len-count.ensures ∙ (c.args.nodes.ok.0 ∙ given.nodes_are.count))
    (subst (λ (f : List FateRow). ArePlaces f c.len-count.result [] c.in_ok-places.places) given.plan_is c.in_ok-places.ensures) in
    let first = none-happened g.P.Program.wants g.P.Program.becomes made s c.in_ok-pass.pass c.in_ok-places.places stands are in
    let journal = subst (λ (ns : List (List ℕ)). IsJournal ns c.args.journal.now c.in_ok-events.events) given.names_are c.in_ok-events.ensures.ok in
    let many = ap (λ (es : List Happening). length es) c.items-2.ensures in
    let happened = subst (λ (es : List Happening). HaveHappened g.P.Program.wants g.P.Program.becomes made s (reverse es) c.happen.new.pass c.happen.new.places) c.items.ensures (c.in_ok-happen.ensures made s first) in
    verdict-refused g.P.Program.wants g.P.Program.becomes made s c.args.journal.now c.from_residual-in_err-judge.result c.in_err-judge.field-0.0 c.from_residual-in_err-judge.ensures.1
    (c.in_err-judge.ensures made s c.args.journal.now
    (all-happened g.P.Program.wants g.P.Program.becomes made s c.args.journal.now c.in_ok-events.events (length c.items-2.result.now) c.happen.new.pass c.happen.new.places c.args.nodes.items c.args.plan.now c.args.names.now given journal many happened))

pub returns : goal.returns
returns g c = λ made s given.
    let setup = c.scripts_set_nodes_up.ensures s given.can.content given.can.start in
    let stands = c.in_ok-pass.ensures made (setup_of s) setup given.nodes_are in
    let are = subst (λ k. ArePlaces s.plan k [] c.in_ok-places.places) (c.len-count.ensures ∙ (c.args.nodes.ok.0 ∙ given.nodes_are.count))
    (subst (λ (f : List FateRow). ArePlaces f c.len-count.result [] c.in_ok-places.places) given.plan_is c.in_ok-places.ensures) in
    let first = none-happened g.P.Program.wants g.P.Program.becomes made s c.in_ok-pass.pass c.in_ok-places.places stands are in
    let journal = subst (λ (ns : List (List ℕ)). IsJournal ns c.args.journal.now c.in_ok-events.events) given.names_are c.in_ok-events.ensures.ok in
    let many = ap (λ (es : List Happening). length es) c.items-2.ensures in
    let happened = subst (λ (es : List Happening). HaveHappened g.P.Program.wants g.P.Program.becomes made s (reverse es) c.happen.new.pass c.happen.new.places) c.items.ensures (c.in_ok-happen.ensures made s first) in
    c.in_ok-judge.ensures made s c.args.journal.now
    (all-happened g.P.Program.wants g.P.Program.becomes made s c.args.journal.now c.in_ok-events.events (length c.items-2.result.now) c.happen.new.pass c.happen.new.places c.args.nodes.items c.args.plan.now c.args.names.now given journal many happened)
