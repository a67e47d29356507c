use Rattle.std.proofs.Common.{◌≡◌, ◌++◌, map, take}
use Rattle.lock_validate.proofs.answers.tell.Given as goal

abbrev pub invariant-loop-page : goal.invariant-loop-page
invariant-loop-page l = l.dropped ≡ l.initial.dropped ++ map (λ k. (l.uid, k)) (take l.page-index l.pages)
