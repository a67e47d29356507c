-- What was written, what is in the piece, and what is left.
use Rattle.std.proofs.Common.{◌≡◌, ◌++◌, ℕ, ◌≤◌, length, List}
use Rattle.std.specs.Prelude.{All}
use Rattle.std.specs.Io.KnownBytes.{append_known}
use Rattle.journal_text.specs.Lines.{line, journal, Names}
use Rattle.journal_text.proofs.lines.JournalLines.write.Given as goal

abbrev pub invariant-loop-event : goal.invariant-loop-event
invariant-loop-event g l =
    (written : List ℕ)
    × (g.J.Sink.held l.journal ≡ append_known (g.J.Sink.held l.fn.journal) written)
    × (written ++ (l.piece.text ++ journal l.names l.left) ≡ l.fn.self)
    × (g.J.Sink.faults l.fn.journal ≤ g.J.Sink.faults l.journal)
    × All (Names l.names) l.left
    × All (λ e. length (line l.names e) ≤ l.longest) l.left
    × (l.longest ≤ l.piece.room)

abbrev pub decreases-loop-event : goal.decreases-loop-event
decreases-loop-event g l = length l.left
