use Rattle.dom_history.proofs.Running.{history_at-legal}
use Rattle.dom_history.proofs.laws.answered_deeds_are_legal.Goals as goal

pub returns : goal.returns
returns c = history_at-legal
