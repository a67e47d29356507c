use Rattle.local_runs.proofs.Local.{local-recent}
use Rattle.local_runs.proofs.recent.named_local_runs_are_recent.Goals as goal

pub returns : goal.returns
returns c = λ s setup owns ws es are merge named w run timely. local-recent s setup owns ws es are merge named w run timely
