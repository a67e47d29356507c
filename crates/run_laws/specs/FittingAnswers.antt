-- Which answers a request can have at all, and that each answer of a run is one.
use Rattle.std.specs.Prelude.{◌≡◌, ℕ, Option, Some, None, IfSome}
use Rattle.uid_names.specs.Names.{ProcName}
use Rattle.call_once.specs.Calls.{call_of}
use Rattle.ring_messages.specs.Bodies.{Ask, Answer, ask_of, body_of_answer}
use Rattle.ring_messages.specs.Frames.{Message}
use Rattle.node_runs.specs.NodeStates.{Asked}
use Rattle.node_runs.specs.Notes.{Note}
use Rattle.node_runs.specs.Runs.{Noted, World, numbered}
use Rattle.node_runs.specs.CallsKeep.{EachOf}
use Rattle.run_laws.specs.DecidedReplies.{proc_at}

abbrev pub AnswersPageIn : Answer → Type 0
AnswersPageIn (Answer.Page stamp bytes) = Unit {0}
AnswersPageIn Answer.NoObject = Unit {0}
AnswersPageIn _ = ⊥

-- of a page or a length
abbrev pub AnswersWrite : Answer → Type 0
AnswersWrite (Answer.Stored stamp) = Unit {0}
AnswersWrite (Answer.Stale stamp) = Unit {0}
AnswersWrite Answer.NoGrant = Unit {0}
AnswersWrite Answer.NoObject = Unit {0}
AnswersWrite _ = ⊥

abbrev pub AnswersLock : Answer → Type 0
AnswersLock (Answer.Granted grant stamp kind room n) = Unit {0}
AnswersLock (Answer.Conflict p m) = Unit {0}
AnswersLock Answer.NoObject = Unit {0}
AnswersLock _ = ⊥

abbrev pub AnswersUnlock : Answer → Type 0
AnswersUnlock Answer.Done = Unit {0}
AnswersUnlock _ = ⊥

abbrev pub AnswersRemove : Answer → Type 0
AnswersRemove Answer.Done = Unit {0}
AnswersRemove Answer.NoGrant = Unit {0}
AnswersRemove Answer.NoObject = Unit {0}
AnswersRemove _ = ⊥

abbrev pub AnswersMake : Answer → Type 0
AnswersMake (Answer.Made u) = Unit {0}
AnswersMake Answer.NoSpace = Unit {0}
AnswersMake _ = ⊥

abbrev pub AnswersList : Answer → Type 0
AnswersList (Answer.Listed rows more) = Unit {0}
AnswersList _ = ⊥

-- the request can have this answer
abbrev pub CanAnswer : Ask → Answer → Type 0
CanAnswer (Ask.PageIn u k) answer = AnswersPageIn answer
CanAnswer (Ask.PageOut u k grant base bytes) answer = AnswersWrite answer
CanAnswer (Ask.AttrOut u n grant base) answer = AnswersWrite answer
CanAnswer (Ask.Lock u m) answer = AnswersLock answer
CanAnswer (Ask.Unlock u) answer = AnswersUnlock answer
CanAnswer (Ask.Remove u) answer = AnswersRemove answer
CanAnswer (Ask.Make kind room) answer = AnswersMake answer
CanAnswer (Ask.ListLocks after) answer = AnswersList answer

-- what a home decided is an answer that the request can have
abbrev pub IsFittingNote : Note → Type 0
IsFittingNote (Note.Decided p number ask answer) = CanAnswer ask answer
IsFittingNote note = Unit {0}

-- a call was made to this home that can have this answer
abbrev pub AnswersThis : Option Asked → ℕ → Answer → Type 0
AnswersThis None home answer = ⊥
AnswersThis (Some c) home answer = (c.home ≡ home) × CanAnswer c.ask answer

-- the call of this number of the process
abbrev pub AnswersCall : World → ℕ → ProcName → ℕ → Answer → Type 0
AnswersCall w home p number answer = AnswersThis (numbered number (w.calls p.node p.number)) home answer

-- a frame that asks nothing answers a call of a process of the node that it is sent to
abbrev pub IsFittingReply : World → ℕ → ℕ → Message → Type 0
IsFittingReply w from to m = ask_of m.body ≡ None → (answer : Answer) × (m.body ≡ body_of_answer answer) × AnswersCall w from (proc_at to m.proc) m.number answer

pub record AreFittingAnswers (w : World) : Type 0 where
  pub decided : EachOf (λ (j : Noted). IsFittingNote j.note) w.trace
  -- what a home keeps as its last answer to a process
  pub kept : (n : ℕ) (p : ProcName) → IfSome (call_of p (w.nodes n).side.served) (λ call. AnswersCall w n p call.number call.body)
  pub frames : (from to : ℕ) → EachOf (IsFittingReply w from to) (w.frames from to)
