use Rattle.std.proofs.Common.{◌≡◌, ◌≢◌, ℕ, ◌+◌, ◌==◌, false, suc, subst, sym, ◌∙◌, ap, arith, rules, drop}
use Rattle.node_core.specs.Programs.{program_by, program_in, IsFirstAt}
use Rattle.node_core.proofs.FirstPrograms.{item-front}
use Rattle.node_core.proofs.programs.place_of.Goals as goal

pub returns-then-programs-i-clause-there : goal.returns-then-programs-i-clause-there
returns-then-programs-i-clause-there g c =
    let xs = c.args.programs.now in
    let p = c.args.proc in
    let i = c.loop-i.i in
    let number = ap (λ (x : ℕ × g.row.P.Denot). x.0) c.index-programs-i.is in
    let here : IsFirstAt (drop i xs) p 0 = subst (λ ys. IsFirstAt ys p 0) (sym (item-front xs i c.index-programs-i.result c.loop-i-test.true c.index-programs-i.is)) (number ∙ c.if-programs-i.true) in
    let at : i + 0 ≡ i = omega arith in
    subst (λ k. IsFirstAt xs p k) at (c.loop-i.invariant.behind 0 here)

pub loop-i-preserved : goal.loop-i-preserved
loop-i-preserved g c =
    let xs = c.args.programs.now in
    let p = c.args.proc in
    let i = c.loop-i.i in
    let x = c.index-programs-i.result in
    let front = item-front xs i x c.loop-i-test.true c.index-programs-i.is in
    let number = ap (λ (y : ℕ × g.row.P.Denot). y.0) c.index-programs-i.is in
    let unlike : x.0 ≢ p = λ e. c.if-programs-i.false (sym number ∙ e) in
    let other : (x.0 == p) ≡ false = search (rules, unlike) in
    record {
      behind = λ k f.
          let e : i + suc k ≡ i + 1 + k = omega arith in
          subst (λ j. IsFirstAt xs p j) e (c.loop-i.invariant.behind (suc k) (subst (λ ys. IsFirstAt ys p (suc k)) (sym front) (unlike, f)));
      same = c.loop-i.invariant.same ∙ ap (λ ys. program_in ys p) front ∙ ap (λ b. program_by b x.1 (program_in (drop (i + 1) xs) p)) other;
      most = omega arith;
    }
