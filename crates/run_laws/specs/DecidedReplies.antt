-- Each reply on a link is the answer of a decision of its sender.
use Rattle.std.specs.Prelude.{◌≡◌, ℕ, None, IfSome, List}
use Rattle.uid_names.specs.Names.{ProcName}
use Rattle.dom_history.specs.Histories.{SomeOf}
use Rattle.call_once.specs.Calls.{call_of}
use Rattle.ring_messages.specs.Bodies.{Answer, ask_of, body_of_answer}
use Rattle.ring_messages.specs.Frames.{Message}
use Rattle.node_runs.specs.Notes.{Note}
use Rattle.node_runs.specs.Runs.{Noted, World}
use Rattle.node_runs.specs.CallsKeep.{EachOf}

abbrev pub proc_at : ℕ → ℕ → ProcName
proc_at n p = record { node = n; number = p }

-- a decision on the call of this number
abbrev pub IsDecisionOf : ProcName → ℕ → Note → Type 0
IsDecisionOf p number (Note.Decided q k ask answer) = (q ≡ p) × (k ≡ number)
IsDecisionOf p number note = ⊥

-- the call was decided
abbrev pub WasDecided : List Noted → ProcName → ℕ → Type 0
WasDecided notes p number = SomeOf (λ (j : Noted). IsDecisionOf p number j.note) notes

-- a decision on it that gave this answer
abbrev pub IsAnswerOf : ProcName → ℕ → Answer → Note → Type 0
IsAnswerOf p number answer (Note.Decided q k ask given) = (q ≡ p) × (k ≡ number) × (given ≡ answer)
IsAnswerOf p number answer note = ⊥

-- this home gave it
abbrev pub IsAnswerAt : ℕ → ProcName → ℕ → Answer → Noted → Type 0
IsAnswerAt home p number answer j = (j.place.node ≡ home) × IsAnswerOf p number answer j.note

abbrev pub WasAnswered : List Noted → ℕ → ProcName → ℕ → Answer → Type 0
WasAnswered notes home p number answer = SomeOf (IsAnswerAt home p number answer) notes

-- a frame that asks nothing carries the answer that its sender decided, of a call of a process of the node that it is
-- sent to
abbrev pub IsReplyOf : List Noted → ℕ → ℕ → Message → Type 0
IsReplyOf notes from to m = ask_of m.body ≡ None → (answer : Answer) × (m.body ≡ body_of_answer answer) × WasAnswered notes from (proc_at to m.proc) m.number answer

pub record AreReplies (w : World) : Type 0 where
  -- what a home keeps as its last answer to a process
  pub kept : (n : ℕ) (p : ProcName) → IfSome (call_of p (w.nodes n).side.served) (λ call. WasAnswered w.trace n p call.number call.body)
  pub frames : (from to : ℕ) → EachOf (IsReplyOf w.trace from to) (w.frames from to)
