-- In every run each answer is one that its call can have.
use Rattle.std.proofs.Common.{◌≡◌, ℕ, Bool, true, false, List, [], ◌∷◌, Option, Some, None, IfSome, inl, inr, sym, subst}
use Rattle.uid_names.specs.Names.{ProcName}
use Rattle.uid_names.specs.declared.ids.Place.{Place}
use Rattle.uid_names.specs.declared.mode.Mode.{Mode}
use Rattle.object_store.specs.declared.attributes.Attr.{Attr}
use Rattle.object_store.specs.HomeStates.{HomeState, attr_of}
use Rattle.object_store.specs.Rules.{has_page, has_length, stamp_of}
use Rattle.page_store.specs.Volumes.{page_of}
use Rattle.lock_manager.specs.Grants.{grant_of, conflict_of}
use Rattle.lock_manager.specs.Tables.{Table}
use Rattle.call_once.specs.Calls.{Call, call_of}
use Rattle.ring_messages.specs.Bodies.{Ask, Answer}
use Rattle.ring_messages.specs.Frames.{Message}
use Rattle.page_server.specs.Decisions.{page_answer, write_answer, lock_answer, remove_answer, make_answer, is_granted, may_remove, decide}
use Rattle.node_runs.specs.Setups.{Setup}
use Rattle.node_runs.specs.NodeStates.{Asked}
use Rattle.node_runs.specs.Notes.{Note}
use Rattle.node_runs.specs.Runs.{Noted, World, Choice, numbered, world_after}
use Rattle.node_runs.specs.CallsKeep.{HasProcs, AsksThis, EachOf}
use Rattle.node_runs.specs.DecidedCalls.{IsDecided}
use Rattle.node_runs.specs.Replays.{Held, first_held, replay, IsAnswered, AreAnswered}
use Rattle.node_runs.proofs.Receiving.{EachOf-more}
use Rattle.node_runs.proofs.Decisions.{decisions-are}
use Rattle.node_runs.proofs.Replaying.{replays-are}
use Rattle.run_laws.specs.DecidedReplies.{proc_at, IsAnswerOf, WasAnswered, IsReplyOf, AreReplies}
use Rattle.run_laws.proofs.Replies.{replies-are}
use Rattle.run_laws.specs.FittingAnswers.{AnswersPageIn, AnswersWrite, AnswersLock, AnswersRemove, AnswersMake, CanAnswer, IsFittingNote, AnswersThis, AnswersCall, IsFittingReply, AreFittingAnswers}

page-fits : (b : Bool) (stamp : ℕ) (bytes : List ℕ) → AnswersPageIn (page_answer b stamp bytes)
page-fits true stamp bytes = tt
page-fits false stamp bytes = tt

write-fits : (there granted current : Bool) (stamp : ℕ) → AnswersWrite (write_answer there granted current stamp)
write-fits false granted current stamp = tt
write-fits true false current stamp = tt
write-fits true true false stamp = tt
write-fits true true true stamp = tt

lock-fits : (attr : Option Attr) (conflict : Option (ProcName × Mode)) (grant : ℕ) → AnswersLock (lock_answer attr conflict grant)
lock-fits None conflict grant = tt
lock-fits (Some attr) (Some row) grant = tt
lock-fits (Some attr) None grant = tt

remove-fits : (there held : Bool) → AnswersRemove (remove_answer there held)
remove-fits false held = tt
remove-fits true false = tt
remove-fits true true = tt

make-fits : (b : Bool) (u : _) → AnswersMake (make_answer b u)
make-fits true u = tt
make-fits false u = tt

-- what a home decides on a request is an answer that it can have
decide-fits : (home : HomeState) (locks : Table) (p : ProcName) (ask : Ask) → CanAnswer ask (decide home locks p ask).answer
decide-fits home locks p (Ask.PageIn u k) = page-fits (has_page (attr_of home u) k) (stamp_of (attr_of home u)) (page_of home.pages u.counter k)
decide-fits home locks p (Ask.PageOut u k grant base bytes) = write-fits (has_page (attr_of home u) k) (is_granted locks grant u p.node) _ (stamp_of (attr_of home u))
decide-fits home locks p (Ask.AttrOut u n grant base) = write-fits (has_length (attr_of home u) n) (is_granted locks grant u p.node) _ (stamp_of (attr_of home u))
decide-fits home locks p (Ask.Lock u m) = lock-fits (attr_of home u) (conflict_of p u m locks.grants) _
decide-fits home locks p (Ask.Unlock u) = tt
decide-fits home locks p (Ask.Remove u) = remove-fits _ (may_remove (grant_of p u locks.grants))
decide-fits home locks p (Ask.Make kind room) = make-fits _ _
decide-fits home locks p (Ask.ListLocks after) = tt

note-fits : (h : Held) (note : Note) → IsAnswered h note → IsFittingNote note
note-fits h Note.Nothing is = tt
note-fits h (Note.Began p op) is = tt
note-fits h (Note.Did p phase op reply) is = tt
note-fits h (Note.Ended t) is = tt
note-fits h (Note.Decided p number ask answer) is = subst (CanAnswer ask) (sym is) (decide-fits h.home h.locks p ask)

notes-fit : (s : Setup) (notes : List Noted) → AreAnswered s notes → EachOf (λ (j : Noted). IsFittingNote j.note) notes
notes-fit s [] are = tt
notes-fit s (m ∷ older) are = (note-fits (replay (first_held s m.place.node) m.place.node older) m.note are.0, notes-fit s older are.1)

this-fits : (o : Option Asked) (home : ℕ) (ask : Ask) (answer : Answer) → AsksThis o home ask → CanAnswer ask answer → AnswersThis o home answer
this-fits None home ask answer asks fits = absurd asks
this-fits (Some c) home ask answer asks fits = (asks.0, subst (λ a. CanAnswer a answer) (sym asks.1) fits)

module _ (w : World) where
  decision-fits : (home : ℕ) (p : ProcName) (number : ℕ) (answer : Answer) (x : Place) (note : Note) → x.node ≡ home → IsDecided w x note → IsFittingNote note → IsAnswerOf p number answer note → AnswersCall w home p number answer
  decision-fits home p number answer x Note.Nothing at decided fits is = absurd is
  decision-fits home p number answer x (Note.Began q op) at decided fits is = absurd is
  decision-fits home p number answer x (Note.Did q phase op reply) at decided fits is = absurd is
  decision-fits home p number answer x (Note.Ended t) at decided fits is = absurd is
  decision-fits home p number answer x (Note.Decided q k ask given) at decided fits is =
      this-fits (numbered number (w.calls p.node p.number)) home ask answer
      (subst (λ h. AsksThis (numbered number (w.calls p.node p.number)) h ask) at
      (subst (λ (r : ProcName). AsksThis (numbered number (w.calls r.node r.number)) x.node ask) is.0 (subst (λ i. AsksThis (numbered i (w.calls q.node q.number)) x.node ask) is.1 decided.1)))
      (subst (CanAnswer ask) is.2 fits)

  answered-fits : (home : ℕ) (p : ProcName) (number : ℕ) (answer : Answer) (notes : List Noted) → EachOf (λ (j : Noted). IsDecided w j.place j.note) notes → EachOf (λ (j : Noted). IsFittingNote j.note) notes → WasAnswered notes home p number answer
      → AnswersCall w home p number answer
  answered-fits home p number answer [] decided fits some = absurd some
  answered-fits home p number answer (m ∷ older) decided fits (inl is) = decision-fits home p number answer m.place m.note is.0 decided.0 fits.0 is.1
  answered-fits home p number answer (m ∷ older) decided fits (inr some) = answered-fits home p number answer older decided.1 fits.1 some

  module _ (decisions : EachOf (λ (j : Noted). IsDecided w j.place j.note) w.trace) (fits : EachOf (λ (j : Noted). IsFittingNote j.note) w.trace) (replies : AreReplies w) where
    kept-fits : (n : ℕ) (p : ProcName) (o : Option (Call Answer)) → IfSome o (λ call. WasAnswered w.trace n p call.number call.body) → IfSome o (λ call. AnswersCall w n p call.number call.body)
    kept-fits n p None was = tt
    kept-fits n p (Some call) was = answered-fits n p call.number call.body w.trace decisions fits was

    reply-fits : (from to : ℕ) (m : Message) → IsReplyOf w.trace from to m → IsFittingReply w from to m
    reply-fits from to m is none = let was = is none in (was.0, was.1, answered-fits from (proc_at to m.proc) m.number was.0 w.trace decisions fits was.2)

    all-fit : AreFittingAnswers w
    all-fit = record {
      decided = fits;
      kept = λ n p. kept-fits n p (call_of p (w.nodes n).side.served) (replies.kept n p);
      frames = λ from to. EachOf-more (IsReplyOf w.trace from to) (IsFittingReply w from to) (w.frames from to) (reply-fits from to) (replies.frames from to);
    }

-- in every run
pub answers-fit : (s : Setup) → HasProcs s → (cs : List Choice) (w : World) → world_after s cs ≡ Some w → AreFittingAnswers w
answers-fit s procs cs w e = all-fit w (decisions-are s procs cs w e).each (notes-fit s w.trace (replays-are s cs w e).answers) (replies-are s cs w e)
