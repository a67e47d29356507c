use Rattle.std.proofs.Common.{◌≡◌, ◌+◌, ◌-◌, ◌/◌, ◌++◌, List, sym, subst, arith, rules}
use Rattle.std.proofs.lemmas.Grind.{common_steps}
use Rattle.explored_counts.specs.declared.seen.Explored.{Explored}
use Rattle.explored_runs.specs.Explored.{AreParts}
use Rattle.explored_runs.proofs.Lists.{parts-append}
use Rattle.explored_runs.proofs.numbers.+explored_of_numbers+fn-explored_of_numbers-join+arg3.Goals as goal

pub returns : goal.returns
returns g t c =
    let s = c.args.script.now in
    let from = c.args.from in
    let to = c.args.to in
    let middle = c.args.from + (c.args.to - c.args.from) / c.args.threads in
    let one = c.in_ok-parts.parts.items in
    let other = c.in_ok-rest.rest.items in
    let first_are : AreParts s from middle one = first_of (search rules, grind (arith, common_steps)) in
    let second_are : AreParts s middle to other = first_of (search rules, grind (arith, common_steps)) in
    let items : c.append.new.self.items ≡ one ++ other = first_of (search (rules, c.in_ok-append.ensures.items), grind (arith, common_steps)) in
    subst (λ (xs : List Explored). AreParts s from to xs) (sym items) (parts-append s from middle to one other first_are second_are)
