-- An event ends an operation by a link fault exactly where its note says so.
use Rattle.std.proofs.Common.{◌≡◌, ℕ, Bool, true, false, List, [], ◌∷◌, ◌++◌, length, Some, refl, sym, ap, ◌∙◌, length-append, arith}
use Rattle.std.specs.Prelude.{◌+◌, filter, if◌then◌else◌}
use Rattle.uid_names.specs.Names.{ProcName}
use Rattle.dom_history.specs.declared.event.What.{What}
use Rattle.dom_history.specs.declared.op.Reply.{Reply}
use Rattle.dom_history.specs.declared.op.Reply.TheVariants as replies
use Rattle.dom_history.specs.EndWords.{word_of}
use Rattle.dom_history.specs.Events.{Happening}
use Rattle.call_once.specs.Calls.{looked, last_of}
use Rattle.call_once.specs.declared.served.Looked.{Looked}
use Rattle.call_once.specs.declared.served.Looked.TheVariants.{Fresh, Again, Old}
use Rattle.ring_messages.specs.Bodies.{Ask, Answer}
use Rattle.ring_messages.specs.Frames.{caller_of}
use Rattle.fault_handler.specs.Outcomes.{Turn}
use Rattle.node_runs.specs.Setups.{Setup, Given, given}
use Rattle.node_runs.specs.NodeStates.{BegunOp, NodeState}
use Rattle.node_runs.specs.Incomings.{Incoming}
use Rattle.node_runs.specs.Notes.{Note}
use Rattle.node_runs.specs.Outcomes.{Stepped, Stage, turned}
use Rattle.node_runs.specs.Doings.{begun_at, stage_of, served_note}
use Rattle.node_runs.specs.Dones.{Did, paused, finished, began, resumed, served, passed_over, heard, ignored, resent, gave_up, got_ready, marked}
use Rattle.node_runs.specs.RunHistories.{is_fault}
use Rattle.node_runs.specs.CallsKeep.{EachOf}
use Rattle.node_runs.specs.Runs.{World, Noted, Choice, world_after}
use Rattle.node_runs.proofs.Worlds.{IsNext, place_at, every-run}
use Rattle.world_runs.specs.Faults.{CallName, call_if, fault_by, faults_in, IsFaultlessNote}
use Rattle.world_runs.proofs.TimelyRuns.{next-did}
use Rattle.run_laws.specs.LinkFaults.{is_fault_word, is_fault_end, link_faults}

-- the word of a link fault's reply, and of no other, is a link fault's
word-fault : (reply : Reply) → is_fault_word (word_of reply) ≡ is_fault reply
word-fault (replies.Made u) = refl
word-fault replies.Fine = refl
word-fault (replies.Bytes bytes) = refl
word-fault (replies.Size n) = refl
word-fault (replies.At address fresh) = refl
word-fault (replies.Locks rows more) = refl
word-fault (replies.Conflict p m) = refl
word-fault replies.NoObject = refl
word-fault replies.AlreadyHeld = refl
word-fault replies.NotHeld = refl
word-fault replies.Unsettled = refl
word-fault replies.TooMany = refl
word-fault replies.NoLock = refl
word-fault replies.WrongMode = refl
word-fault replies.PastRoom = refl
word-fault replies.PastEnd = refl
word-fault replies.NoSpace = refl
word-fault replies.Kept = refl
word-fault replies.Doubt = refl
word-fault replies.LinkFault = refl
word-fault replies.TooManyMaps = refl
word-fault replies.NoSegment = refl
word-fault replies.NotMapped = refl

-- the note says that a link fault ended an operation
abbrev ends_by_fault : Note → Bool
ends_by_fault Note.Nothing = false
ends_by_fault (Note.Began p op) = false
ends_by_fault (Note.Did p phase op reply) = is_fault reply
ends_by_fault (Note.Ended t) = is_fault t.reply
ends_by_fault (Note.Decided p number ask answer) = false

abbrev IsTold : Stepped → Type 0
IsTold s = is_fault_end s.effects.ended ≡ ends_by_fault s.note

turned-told : (g : Given) (n : NodeState) (p : ℕ) (o : BegunOp) (stage : Stage) (turn : Turn) → IsTold (turned g n p o stage turn)
turned-told g n p o Stage.Starts (Turn.Ends reply) = word-fault reply
turned-told g n p o Stage.Resumes (Turn.Ends reply) = word-fault reply
turned-told g n p o (Stage.Settles number) (Turn.Ends reply) = word-fault reply
turned-told g n p o Stage.Starts (Turn.Asks home ask) = refl
turned-told g n p o Stage.Resumes (Turn.Asks home ask) = refl
turned-told g n p o (Stage.Settles number) (Turn.Asks home ask) = refl
turned-told g n p o Stage.Starts (Turn.Waits u k) = refl
turned-told g n p o Stage.Resumes (Turn.Waits u k) = refl
turned-told g n p o (Stage.Settles number) (Turn.Waits u k) = refl

served-told : (how : Looked) (p : ProcName) (number : ℕ) (ask : Ask) (answer : Answer) → false ≡ ends_by_fault (served_note how p number ask answer)
served-told Fresh p number ask answer = refl
served-told Again p number ask answer = refl
served-told Old p number ask answer = refl

did-told : (g : Given) (n : NodeState) (what : What) (incoming : Incoming) (s : Stepped) → Did g n what incoming s → IsTold s
did-told g n what incoming s (paused p has none wants) = refl
did-told g n what incoming s (finished p has none wants) = refl
did-told g n what incoming s (began p op to has none wants may) = turned-told g (record n { desk = to.desk }) p (begun_at g n op) Stage.Starts to.turn
did-told g n what incoming s (resumed p o u k accessed to has doing come goes may) = turned-told g (record n { desk = to.desk }) p o Stage.Resumes to.turn
did-told g n what incoming s (served from index m ask answer sender receiver asked serves) = served-told (looked m.number (last_of (caller_of m) n.side.served)) (caller_of m) m.number ask answer
did-told g n what incoming s (passed_over from index m ask sender receiver asked serves) = refl
did-told g n what incoming s (heard from index m o c said to sender receiver asked doing equals says may) = turned-told g (record n { desk = to.desk }) m.proc o (stage_of m.number said) to.turn
did-told g n what incoming s (ignored from index m sender receiver asked) = refl
did-told g n what incoming s (resent p from to index number tick o c has doing equals answer) = refl
did-told g n what incoming s (gave_up p from to index number tick o c into has doing equals answer fails) = turned-told g (record n { desk = into.desk }) p o (Stage.Settles c.waiting.number) into.turn
did-told g n what incoming s (got_ready phase may) = refl
did-told g n what incoming s (marked from phase tick may) = refl

-- as many events as notes
abbrev noted_faults : List Noted → ℕ
noted_faults notes = length (filter (λ (m : Noted). ends_by_fault m.note) notes)

both-more : {A B : Type 0} (b c : Bool) (x : A) (y : B) (xs : List A) (ys : List B) → b ≡ c → length xs ≡ length ys → length (if b then x ∷ xs else xs) ≡ length (if c then y ∷ ys else ys)
both-more true true x y xs ys same rest = omega (arith, rest)
both-more true false x y xs ys same rest = absurd (cc)
both-more false true x y xs ys same rest = absurd (cc)
both-more false false x y xs ys same rest = rest

pub record AreTold (w : World) : Type 0 where
  pub told : link_faults w.done ≡ noted_faults w.trace

next-told : (s : Setup) (old : World) (c : Choice) (new : World) → IsNext s old c new → AreTold old → AreTold new
next-told s old c new is before =
    let it : Happening = record { place = place_at c is.step; what = c.what; effects = is.step.effects } in
    let noted : Noted = record { place = place_at c is.step; note = is.step.note } in
    record {
      told = ap (λ (w : World). link_faults w.done) is.world
          ∙ both-more (is_fault_end is.step.effects.ended) (ends_by_fault is.step.note) it noted (filter (λ e. is_fault_end e.effects.ended) old.done) (filter (λ (m : Noted). ends_by_fault m.note) old.trace)
          (did-told (given s c.node) _ c.what is.incoming is.step (next-did s old c new is)) before.told
          ∙ sym (ap (λ (w : World). noted_faults w.trace) is.world);
    }

pub runs-told : (s : Setup) (cs : List Choice) (w : World) → world_after s cs ≡ Some w → AreTold w
runs-told s = every-run s AreTold (record { told = refl }) (next-told s)

-- and as notes calls that link faults ended
if-call : (b : Bool) (m : Noted) (c : CallName) (rest : List Noted) (calls : List CallName) → length rest ≡ length calls → length (if b then m ∷ rest else rest) ≡ length (call_if b c) + length calls
if-call true m c rest calls same = omega (arith, same)
if-call false m c rest calls same = omega (arith, same)

pub noted-calls : (notes : List Noted) → EachOf (λ (m : Noted). IsFaultlessNote m.note) notes → noted_faults notes ≡ length (faults_in notes)
noted-calls [] desk = refl
noted-calls (m ∷ older) desk = by_note m.note desk.0 (noted-calls older desk.1)
  where
    by_note : (note : Note) → IsFaultlessNote note → noted_faults older ≡ length (faults_in older)
        → length (if ends_by_fault note then m ∷ filter (λ (m : Noted). ends_by_fault m.note) older else filter (λ (m : Noted). ends_by_fault m.note) older) ≡ length (fault_by note ++ faults_in older)
    by_note Note.Nothing none rest = rest
    by_note (Note.Began p op) none rest = rest
    by_note (Note.Did p phase op reply) none rest = ap (λ b. length (if b then m ∷ filter (λ (m : Noted). ends_by_fault m.note) older else filter (λ (m : Noted). ends_by_fault m.note) older)) none ∙ rest
    by_note (Note.Ended t) none rest =
        let c : CallName = record { proc = t.proc; number = t.number } in
        if-call (is_fault t.reply) m c (filter (λ (m : Noted). ends_by_fault m.note) older) (faults_in older) rest ∙ sym (length-append (call_if (is_fault t.reply) c) (faults_in older))
    by_note (Note.Decided p number ask answer) none rest = rest
