use Rattle.uid_names.proofs.Declared.{IsStart-added}
use Rattle.uid_names.proofs.opening.Opening.add.Goals as goal

pub invariant_of-self-2 : goal.invariant_of-self-2
invariant_of-self-2 c =
    rw c.in_ok-push.ensures.items
    (IsStart-added _ _ _ c.self.view_is c.self.invariant c.requires.counter c.requires.home c.requires.room c.requires.absent)
