use Rattle.std.proofs.Common.{◌≡◌, ◌+◌, ◌-◌, ◌/◌, ◌≤◌, sym, subst, arith, rules}
use Rattle.std.proofs.lemmas.Grind.{common_steps}
use Rattle.explored_runs.specs.Sought.{IsFound}
use Rattle.explored_runs.proofs.Halves.{found-append}
use Rattle.explored_runs.proofs.numbers.+fn-found_of_numbers-join+arg3+found_of_numbers.Goals as goal

pub returns : goal.returns
returns g t c =
    let s = c.args.script.now in
    let words = c.args.words.now in
    let from = c.args.from in
    let to = c.args.to in
    let middle = c.args.from + (c.args.to - c.args.from) / c.args.threads in
    let low : from ≤ middle = first_of (omega arith, grind (arith, common_steps)) in
    let high : middle ≤ to = first_of (search rules, grind (arith, common_steps)) in
    let one : IsFound s words from middle c.in_ok-first.first = first_of (search rules, grind (arith, common_steps)) in
    let other : IsFound s words middle to c.in_ok-second.second = first_of (search rules, grind (arith, common_steps)) in
    subst (IsFound s words from to) (sym c.or.ensures) (found-append s words from middle to c.in_ok-first.first c.in_ok-second.second low high one other)
