use Rattle.lock_validate.proofs.Beside.{IsReady-untouched, IsIdle-untouched}
use Rattle.lock_validate.proofs.laws.what_is_untouched_stands.Goals as goal

pub returns : goal.returns
returns c = record { ready = IsReady-untouched; idle = IsIdle-untouched }
