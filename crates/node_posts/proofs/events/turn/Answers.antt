use Rattle.std.proofs.Common.{rules, ◌≡◌, sym, ◌∙◌}
use Rattle.node_runs.specs.Setups.{given}
use Rattle.node_core.specs.Receivings.{seen}
use Rattle.node_posts.proofs.Stepping.{own-steps}
use Rattle.node_posts.proofs.events.turn.Goals as goal

pub returns-clause-did : goal.returns-clause-did
returns-clause-did g c = λ made s n own w is.
    own-steps g.P.Program.wants g.P.Program.becomes made s n own w c.args.node.now is _ c.args.what (seen c.args.incoming.now) c.in_ok-emitted.emitted c.known.ensures
    (sym (c.enabled.ensures.stands made (given s n) (w.nodes n) is.stands) ∙ c.if-not-enabled.false)
    c.emitted_known.ensures
    (c.in_ok-emitted.ensures.happens made (given s n) (w.nodes n) is.stands)

pub returns-then-not-enabled-clause-refused : goal.returns-then-not-enabled-clause-refused
returns-then-not-enabled-clause-refused g c = λ made h m stands. sym (c.enabled.ensures.stands made h m stands) ∙ c.if-not-enabled.true
