-- The links that were made so far, on which nothing was sent.
use Rattle.std.proofs.Common.{◌≡◌, replicate, []}
use Rattle.journal_check.proofs.pass.Pass.new.Given as goal

abbrev pub invariant-loop-link : goal.invariant-loop-link
invariant-loop-link g l = l.frames.items ≡ replicate l._link (record { heads = []; live = [] })
