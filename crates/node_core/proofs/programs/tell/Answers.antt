use Rattle.std.proofs.Common.{◌≡◌, ℕ, ◌<◌, false, Some, IfSome, option_copied, length, subst, sym, ap, ◌∙◌, List}
use Rattle.std.specs.Option.{option_map}
use Rattle.node_core.specs.Programs.{IsFirstAt}
use Rattle.node_core.proofs.FirstPrograms.{first-program, first-number, set-program, set-others, set-numbers}
use Rattle.node_core.proofs.programs.tell.Goals as goal

pub next-requires-clause-whole : goal.next-requires-clause-whole
next-requires-clause-whole g c =
    let es = c.args.programs.now.items in
    let there = subst (λ (xs : List (ℕ × g.row.P.Denot)). IsFirstAt xs c.args.proc c.in-Some.i) c.as_slice.ensures.value c.in-Some.ensures.there in
    let bound = subst (λ (xs : List (ℕ × g.row.P.Denot)). c.in-Some.i < length xs) c.as_slice.ensures.value c.in-Some.ensures.bound in
    let is = first-program es c.args.proc c.in-Some.i c.index_mut.result.now there bound c.index_mut.ensures.value in
    rw is at c.requires.whole

pub next-requires-clause-fits : goal.next-requires-clause-fits
next-requires-clause-fits g c =
    let es = c.args.programs.now.items in
    let there = subst (λ (xs : List (ℕ × g.row.P.Denot)). IsFirstAt xs c.args.proc c.in-Some.i) c.as_slice.ensures.value c.in-Some.ensures.there in
    let bound = subst (λ (xs : List (ℕ × g.row.P.Denot)). c.in-Some.i < length xs) c.as_slice.ensures.value c.in-Some.ensures.bound in
    let is = first-program es c.args.proc c.in-Some.i c.index_mut.result.now there bound c.index_mut.ensures.value in
    rw is at c.requires.fits

pub returns-clause-program : goal.returns-clause-program
returns-clause-program g c =
    let es = c.args.programs.now.items in
    let there = subst (λ (xs : List (ℕ × g.row.P.Denot)). IsFirstAt xs c.args.proc c.in-Some.i) c.as_slice.ensures.value c.in-Some.ensures.there in
    let bound = subst (λ (xs : List (ℕ × g.row.P.Denot)). c.in-Some.i < length xs) c.as_slice.ensures.value c.in-Some.ensures.bound in
    let is = first-program es c.args.proc c.in-Some.i c.index_mut.result.now there bound c.index_mut.ensures.value in
    let number = first-number es c.args.proc c.in-Some.i c.index_mut.result.now there bound c.index_mut.ensures.value in
    set-program es c.args.proc c.in-Some.i c.index_mut.result.now.0 c.next.new.self there bound number
    ∙ ap (λ x. Some x) c.in_ok-want-in-Some.ensures.after
    ∙ sym (ap (option_map (λ x. g.P.Program.becomes x (option_copied c.args.last))) is)

pub returns-clause-others : goal.returns-clause-others
returns-clause-others g c =
    let es = c.args.programs.now.items in
    let there = subst (λ (xs : List (ℕ × g.row.P.Denot)). IsFirstAt xs c.args.proc c.in-Some.i) c.as_slice.ensures.value c.in-Some.ensures.there in
    let bound = subst (λ (xs : List (ℕ × g.row.P.Denot)). c.in-Some.i < length xs) c.as_slice.ensures.value c.in-Some.ensures.bound in
    let number = first-number es c.args.proc c.in-Some.i c.index_mut.result.now there bound c.index_mut.ensures.value in
    set-others es c.args.proc c.in-Some.i c.index_mut.result.now.0 c.next.new.self there number

pub returns-clause-numbers : goal.returns-clause-numbers
returns-clause-numbers g c =
    let es = c.args.programs.now.items in
    let there = subst (λ (xs : List (ℕ × g.row.P.Denot)). IsFirstAt xs c.args.proc c.in-Some.i) c.as_slice.ensures.value c.in-Some.ensures.there in
    let bound = subst (λ (xs : List (ℕ × g.row.P.Denot)). c.in-Some.i < length xs) c.as_slice.ensures.value c.in-Some.ensures.bound in
    let number = first-number es c.args.proc c.in-Some.i c.index_mut.result.now there bound c.index_mut.ensures.value in
    set-numbers es c.args.proc c.in-Some.i c.index_mut.result.now.0 c.next.new.self there number

pub returns-clause-whole : goal.returns-clause-whole
returns-clause-whole g c =
    let es = c.args.programs.now.items in
    let there = subst (λ (xs : List (ℕ × g.row.P.Denot)). IsFirstAt xs c.args.proc c.in-Some.i) c.as_slice.ensures.value c.in-Some.ensures.there in
    let bound = subst (λ (xs : List (ℕ × g.row.P.Denot)). c.in-Some.i < length xs) c.as_slice.ensures.value c.in-Some.ensures.bound in
    let number = first-number es c.args.proc c.in-Some.i c.index_mut.result.now there bound c.index_mut.ensures.value in
    let is = set-program es c.args.proc c.in-Some.i c.index_mut.result.now.0 c.next.new.self there bound number in
    subst (λ o. IfSome o (λ x. g.P.Program.spent x ≡ false)) (sym is) c.in_ok-want-in-Some.ensures.whole

pub returns-clause-want : goal.returns-clause-want
returns-clause-want g c =
    let es = c.args.programs.now.items in
    let there = subst (λ (xs : List (ℕ × g.row.P.Denot)). IsFirstAt xs c.args.proc c.in-Some.i) c.as_slice.ensures.value c.in-Some.ensures.there in
    let bound = subst (λ (xs : List (ℕ × g.row.P.Denot)). c.in-Some.i < length xs) c.as_slice.ensures.value c.in-Some.ensures.bound in
    let number = first-number es c.args.proc c.in-Some.i c.index_mut.result.now there bound c.index_mut.ensures.value in
    let is = set-program es c.args.proc c.in-Some.i c.index_mut.result.now.0 c.next.new.self there bound number in
    subst (λ o. IfSome o (λ x. g.P.Program.wants x ≡ c.in_ok-want-in-Some.field-0)) (sym is) (ap g.P.Program.wants c.in_ok-want-in-Some.ensures.after ∙ sym c.in_ok-want-in-Some.ensures.want)
