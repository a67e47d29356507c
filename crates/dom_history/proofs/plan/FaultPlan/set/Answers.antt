use Rattle.std.proofs.Common.{◌≡◌, List, [], ◌∷◌, ◌++◌, ap, ◌∙◌, sym, subst, false, cond}
use Rattle.std.specs.Prelude.{Some}
use Rattle.dom_history.specs.declared.plan.FateRow.{FateRow}
use Rattle.dom_history.specs.Plans.{is_set}
use Rattle.dom_history.specs.KeptFates.{same_frame, HoldsPlan}
use Rattle.dom_history.proofs.SetFates.{set_fate-push, IsPlan-push}
use Rattle.dom_history.proofs.plan.FaultPlan.set.Goals as goal

pub invariant_of-self-2 : goal.invariant_of-self-2
invariant_of-self-2 c =
    let row : FateRow = record { from = c.args.from; to = c.args.to; index = c.args.index; fate = c.args.fate } in
    let old : List FateRow = c.self.inside.rows.items in
    let unset : is_set old c.args.from c.args.to c.args.index ≡ false = ap (λ (p : List FateRow). is_set p c.args.from c.args.to c.args.index) c.self.view_is ∙ c.requires.unset in
    let pushed : old ++ row ∷ [] ≡ c.push.new.self.items = ap (λ (p : List FateRow). p ++ row ∷ []) (sym c.reserve.ensures.items) ∙ sym c.in-Ok.ensures.items in
    subst (λ (rows : List FateRow). HoldsPlan rows c.insert.new.self) pushed (record {
      rows = IsPlan-push old row c.self.invariant.rows c.requires.apart unset;
      held = λ from to index. c.in_ok-insert.ensures.updates.0 (from, to, index)
          ∙ ap (cond (same_frame (row.from, row.to, row.index) (from, to, index)) (Some row.fate)) (c.self.invariant.held from to index)
          ∙ set_fate-push old row from to index unset;
    })
