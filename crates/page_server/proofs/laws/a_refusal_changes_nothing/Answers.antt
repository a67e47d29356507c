use Rattle.page_server.proofs.Unchanged.{refused-side, others-served}
use Rattle.page_server.proofs.laws.a_refusal_changes_nothing.Goals as goal

pub returns : goal.returns
returns c = record { refused = refused-side; others = others-served }
