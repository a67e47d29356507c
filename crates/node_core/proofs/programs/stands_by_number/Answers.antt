use Rattle.std.proofs.Common.{◌≡◌, ℕ, ◌-◌, get_or, ap, ◌∙◌, arith, rules}
use Rattle.node_core.proofs.FirstPrograms.{program-there}
use Rattle.node_core.proofs.programs.stands_by_number.Goals as goal

pub returns : goal.returns
returns g c same =
    let xs = c.args.programs.now in
    let i = c.from-number.result - 1 in
    let e = c.index-programs-number.result in
    let number : (get_or xs i e).0 ≡ c.args.proc = search (rules, same) in
    let low = c.if-number-lt1.false in
    let high = c.if-programs-number.false in
    program-there xs c.args.proc i e (omega (arith, low, high)) c.index-programs-number.is (ap (λ (x : ℕ × g.row.P.Denot). x.0) c.index-programs-number.is ∙ number)
