use Rattle.std.proofs.Common.{◌≡◌, length}
use Rattle.event_views.specs.LineWords.{are_found, words_in}
use Rattle.event_views.proofs.finding.has_words.Given as goal

abbrev pub invariant-loop-word : goal.invariant-loop-word
invariant-loop-word l = are_found (words_in l.line) l.words ≡ are_found (words_in l.rest) l.left

abbrev pub decreases-loop-word : goal.decreases-loop-word
decreases-loop-word l = length l.rest
