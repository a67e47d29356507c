use Rattle.std.proofs.Common.{◌≡◌, ◌∙◌, List, sym, ap, subst, nat_lt, length, OnOk, Some, None}
use Rattle.std.specs.List.{position}
use Rattle.run_outcomes.specs.declared.tally.KeptOutcome.{KeptOutcome}
use Rattle.run_outcomes.specs.declared.tally.TheConstants.{KEPT_OUTCOMES}
use Rattle.run_outcomes.specs.Outcomes.{same_outcome}
use Rattle.run_outcomes.specs.Tallies.{Tallied, row_tallied, row_tallied_by}
use Rattle.run_outcomes.proofs.Added.{is_kept-nowhere, more-there}
use Rattle.run_outcomes.proofs.tally.Tally.add_row.Goals as goal

pub returns-in_default-clause-ok : goal.returns-in_default-clause-ok
returns-in_default-clause-ok c =
    let t = c.args.self.now in
    let rows_are : c.deref.result.now ≡ t.rows = c.deref.ensures.value ∙ ap (λ (x : Tallied). x.rows) c.self.view_is in
    let place = subst (λ (r : List KeptOutcome). position (λ k. same_outcome k.outcome c.args.more.outcome) r ≡ None) rows_are (subst (λ o. position (λ (k : KeptOutcome). same_outcome k.outcome o) c.deref.result.now ≡ None) c.items.ensures (sym c.place_of.ensures ∙ c.in_default.is)) in
    let nowhere = is_kept-nowhere c.args.more.outcome t.rows place in
    subst (λ b. OnOk c.add_other_row.result (c.add_other_row.new.self ≡ row_tallied_by b (nat_lt (length t.rows) KEPT_OUTCOMES) c.args.more t)) (sym nowhere) c.add_other_row.ensures.ok

pub returns-clause-ok : goal.returns-clause-ok
returns-clause-ok c =
    let rows = c.self.inside.rows.items in
    let t : Tallied = record { rows = rows; rest = c.self.inside.rest; added = c.self.inside.added } in
    let place = subst (λ (r : List KeptOutcome). position (λ k. same_outcome k.outcome c.args.more.outcome) r ≡ Some c.in-Some.at) c.deref.ensures.value (subst (λ o. position (λ (k : KeptOutcome). same_outcome k.outcome o) c.deref.result.now ≡ Some c.in-Some.at) c.items.ensures (sym c.place_of.ensures ∙ c.in-Some.is)) in
    more-there c.args.more t c.in-Some.at c.index_mut.result.now c.note_row.new.row place c.index_mut.ensures.value c.note_row.ensures
    ∙ ap (row_tallied c.args.more) c.self.view_is
