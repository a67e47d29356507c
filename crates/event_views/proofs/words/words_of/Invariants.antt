use Rattle.std.proofs.Common.{◌≡◌, ◌++◌, length}
use Rattle.event_views.specs.CommandWords.{words_of}
use Rattle.event_views.proofs.words.words_of.Given as goal

abbrev pub invariant-loop-rest : goal.invariant-loop-rest
invariant-loop-rest l = l.words ++ words_of l.process l.rest ≡ words_of l.process l.source

abbrev pub decreases-loop-rest : goal.decreases-loop-rest
decreases-loop-rest l = length l.rest
