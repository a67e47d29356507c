use Rattle.std.proofs.Common.{◌≡◌, sym, subst}
use Rattle.std.specs.Prelude.{All, true}
use Rattle.node_core.specs.Nodes.{Noted, given_of, state_of}
use Rattle.node_runs.specs.NodeStates.{is_ended}
use Rattle.journal_check.proofs.Coming.{all-ended}
use Rattle.journal_check.proofs.pass.Pass.ended.Goals as goal

pub returns : goal.returns
returns g c = λ made s w stands.
    let all = all-ended g.P.Program.wants g.P.Program.becomes made s c.args.self.now w stands in
    let own = c.have_ended.ensures in
    let same = c.deref.ensures.value in (
      λ sure. all.0 (subst (All (λ (x : Noted g.row.P.Denot). is_ended (given_of x) (state_of x) ≡ true)) same (own.0 sure)),
      λ ended. own.1 (subst (All (λ (x : Noted g.row.P.Denot). is_ended (given_of x) (state_of x) ≡ true)) (sym same) (all.1 ended)),
    )
