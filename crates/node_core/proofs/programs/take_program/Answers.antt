use Rattle.std.proofs.Common.{ℕ, ◌<◌, length, List, Some, sym, ap, subst, ◌∙◌}
use Rattle.std.specs.Option.{option_map}
use Rattle.node_core.specs.Programs.{program_in, IsFirstAt}
use Rattle.node_core.proofs.FirstPrograms.{first-program, first-number, remove-others}
use Rattle.node_core.proofs.programs.take_program.Goals as goal

pub returns-in-Some-clause-one : goal.returns-in-Some-clause-one
returns-in-Some-clause-one g c =
    let es = c.args.programs.now.items in
    let p = c.args.proc in
    let i = c.in-Some.i in
    let x = c.remove.result in
    let first : IsFirstAt es p i = subst (λ (ys : List (ℕ × g.row.P.Denot)). IsFirstAt ys p i) c.as_slice.ensures.value c.in-Some.ensures.there in
    let inside : i < length es = subst (λ (ys : List (ℕ × g.row.P.Denot)). i < length ys) c.as_slice.ensures.value c.in-Some.ensures.bound in
    ap (λ k. Some (k, x.1)) (first-number es p i x first inside c.remove.ensures.value) ∙ sym (ap (option_map (λ y. (p, y))) (first-program es p i x first inside c.remove.ensures.value))

pub returns-in-Some-clause-others : goal.returns-in-Some-clause-others
returns-in-Some-clause-others g c q differs =
    let es = c.args.programs.now.items in
    let p = c.args.proc in
    let i = c.in-Some.i in
    let first : IsFirstAt es p i = subst (λ (ys : List (ℕ × g.row.P.Denot)). IsFirstAt ys p i) c.as_slice.ensures.value c.in-Some.ensures.there in
    ap (λ ys. program_in ys q) c.remove.ensures.items ∙ remove-others es p i first q differs
