use Rattle.std.proofs.Common.{◌≡◌, ◌∙◌, true, arith}
use Rattle.std.proofs.lemmas.Bool.Decides.{nat_tests}
use Rattle.dom_history.specs.Plans.{is_of_link}
use Rattle.dom_history.proofs.LinkRows.{inserted}
use Rattle.dom_history.proofs.plan.take_in.Goals as goal

pub returns-clause-ok : goal.returns-clause-ok
returns-clause-ok c =
    let on : is_of_link c.args.from c.args.to c.args.row ≡ true = grind (
      arith,
      nat_tests,
      c.if-number.false,
      c.number.ensures.value,
      c.number-2.ensures.value,
      c.if-number-2.false,
      c.number-else-number.ensures.value,
      c.number-else-number-2.ensures.value,
    ) in
    rw on (c.in_ok-insert.ensures.items ∙ rw (c.place_of-at.ensures.place, c.deref.ensures.value) (inserted c.args.row c.args.link.now.items))
