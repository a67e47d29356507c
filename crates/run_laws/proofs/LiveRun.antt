-- In every run a lock that is kept has its row at its home, with its grant.
use Rattle.std.proofs.Common.{◌≡◌, ◌≢◌, ℕ, ◌≤◌, ◌<◌, Bool, true, false, List, [], ◌∷◌, length, Option, Some, None, IfSome, inl, inr, refl, sym, ap, subst, ◌∙◌, arith}
use Rattle.std.specs.Prelude.{◌&&◌, if◌then◌else◌}
use Rattle.std.proofs.lemmas.Bool.{cases_eq}
use Rattle.uid_names.specs.Names.{ProcName, ObjectName, same_uid}
use Rattle.uid_names.specs.Modes.{mode_removes}
use Rattle.uid_names.specs.declared.mode.Mode.{Mode}
use Rattle.uid_names.specs.declared.mode.ObjKind.{ObjKind}
use Rattle.uid_names.specs.declared.ids.Place.{Place}
use Rattle.uid_names.proofs.Orders.{same_uid-itself}
use Rattle.std.proofs.lemmas.Option.{same_Some}
use Rattle.dom_history.specs.declared.op.Op.{Op}
use Rattle.dom_history.specs.declared.op.Op.TheVariants as ops
use Rattle.dom_history.specs.declared.deed.LockState.{LockState}
use Rattle.dom_history.specs.declared.deed.LockState.TheVariants as states
use Rattle.dom_history.specs.Locks.{is_held}
use Rattle.dom_history.specs.Replies.{may_delete}
use Rattle.dom_history.specs.Histories.{SomeOf}
use Rattle.lock_manager.specs.Tables.{Table}
use Rattle.call_once.specs.Calls.{Call, call_of, last_of, number_in}
use Rattle.ring_messages.specs.Bodies.{Ask, Answer, ask_of}
use Rattle.ring_messages.specs.Frames.{Message, caller_of}
use Rattle.fault_handler.specs.declared.entries.LockEntry.{LockEntry}
use Rattle.fault_handler.specs.declared.open_call.OpenCall.TheVariants as calls
use Rattle.fault_handler.specs.Entries.{entry_of, state_in, is_released, keeps}
use Rattle.fault_handler.specs.Desks.{DeskState, entries_of, entry_at, state_of, open_call_of, task_of, moving_of}
use Rattle.fault_handler.specs.Outcomes.{Turn, Moved}
use Rattle.fault_handler.specs.LockCalls.{LockCall, LockAnswer, open_call, lock_answer}
use Rattle.fault_handler.specs.Invariant.{IsProc, KeepsAll}
use Rattle.fault_handler.specs.Ready.{IsReadyAt}
use Rattle.fault_handler.specs.Next.{IsCallOf, IsRequestOf}
use Rattle.fault_handler.proofs.Fours.{by_proc}
use Rattle.lock_validate.specs.Releases.{release_ask}
use Rattle.lock_validate.proofs.States.{free-unkept, released-unkept}
use Rattle.lock_validate.specs.Causes.{Cause, MayCome, IsOf}
use Rattle.lock_validate.specs.Releasing.{releasing_in}
use Rattle.lock_validate.specs.Turns.{Says}
use Rattle.lock_validate.proofs.Beside.{moves-beside}
use Rattle.node_runs.specs.Setups.{Setup, IsSetup, given}
use Rattle.node_runs.specs.NodeStates.{Asked, Await, BegunOp, OpenOp, NodeState, first_node, proc_of, name_of}
use Rattle.node_runs.specs.Incomings.{Incoming}
use Rattle.node_runs.specs.Notes.{Note}
use Rattle.node_runs.specs.Outcomes.{Stage, next_call}
use Rattle.node_runs.specs.Dones.{asking}
use Rattle.node_runs.specs.Agreements.{Agrees}
use Rattle.node_runs.specs.SentFrames.{IsFrame, IsIncoming}
use Rattle.node_runs.specs.NodesKeep.{IsNodeOf, IsTimely}
use Rattle.node_runs.specs.Runs.{World, Noted, Choice, first_world, put, numbered, calls_after, world_after}
use Rattle.node_runs.specs.CallsKeep.{IsCallAt, IsOnLink, IsOpenAt, EachOf}
use Rattle.node_runs.specs.DecidedCalls.{IsDecided, AreDecisions}
use Rattle.node_runs.proofs.Receiving.{EachOf-more, incoming-is, numbered-each}
use Rattle.node_runs.proofs.Calls.{put-same, put-other, numbered-within}
use Rattle.node_runs.proofs.Worlds.{place_at}
use Rattle.node_runs.proofs.Reaching.{step_of-keeps}
use Rattle.node_runs.proofs.Decisions.{IsNoDecision, HomeStep, apart, decides}
use Rattle.node_runs.proofs.SettingUp.{setup-gives, setup-procs}
use Rattle.run_laws.specs.DecidedReplies.{proc_at, IsAnswerOf, WasAnswered, AreReplies}
use Rattle.run_laws.specs.LastCalls.{IsOpenNumber}
use Rattle.run_laws.proofs.HearingRuns.{IsKeptNext, every-kept-run, event, event-home}
use Rattle.run_laws.proofs.Replies.{caller-at}
use Rattle.run_laws.specs.DeskSteps.{IsTaken, IsHomeAsk, IsHomeTurn, OpMove, apart as desk_apart, moves, doing_after, turn_note, turn_call, IsAt, NodeMove, still, moved}
use Rattle.run_laws.specs.AskedHomes.{IsAtHome, IsOpenAtHome, AreOpenAtHomes, AreCallsAtHomes}
use Rattle.run_laws.specs.OpenCalls.{Carries, CarriesOpen, AreCarried}
use Rattle.run_laws.specs.Released.{gives_up, is_being_released}
use Rattle.run_laws.proofs.DeskSteps.{home-asks, step-desk}
use Rattle.run_laws.proofs.AskedHomes.{opens-at-homes, calls-at-homes}
use Rattle.run_laws.proofs.OpenCalls.{step-carries, runs-carry}
use Rattle.run_laws.proofs.Released.{node-released}
use Rattle.run_laws.proofs.EndedOps.{op-request}
use Rattle.run_laws.proofs.ToldAnswers.{taken-decided}
use Rattle.run_laws.proofs.HistoryHomes.{asked-home}
use Rattle.run_laws.proofs.HomeEffects.{same-home}
use Rattle.run_laws.specs.LiveLocks.{IsAbout, row_at, IsLive, locks_of, served_of, AreLive}
use Rattle.run_laws.proofs.Live.{live-along, not-answered, live-decided, LockThen, as_before as lock_as_before, freed as lock_freed, got as lock_got, live-moved, live-asked}
use Rattle.run_laws.proofs.EntryMoves.{EntryThen, as_before, freed, noted, got, moves-entry}

-- what a home served of a process is a number of its calls
module _ (w : World) (decisions : AreDecisions w) (replies : AreReplies w) (p : ProcName) where
  number-of : (a number : ℕ) (x : Answer) (place : Place) (note : Note) → place.node ≡ a → IsAnswerOf p number x note → IsDecided w place note → (number ≤ served_of w p a) × ((ask : Ask) × IsCallAt (w.calls p.node p.number) number a ask)
  number-of a number x place Note.Nothing at is decided = absurd is
  number-of a number x place (Note.Began q op) at is decided = absurd is
  number-of a number x place (Note.Did q phase op reply) at is decided = absurd is
  number-of a number x place (Note.Ended t) at is decided = absurd is
  number-of a number x place (Note.Decided q k ask given) at is decided = (
    subst (λ b. number ≤ served_of w p b) at (subst (λ r. number ≤ last_of r (w.nodes place.node).side.served) is.0 (subst (λ i. i ≤ last_of q (w.nodes place.node).side.served) is.1 decided.0)),
    (ask, subst (λ b. IsCallAt (w.calls p.node p.number) number b ask) at (subst (λ (r : ProcName). IsCallAt (w.calls r.node r.number) number place.node ask) is.0 (subst (λ i. IsCallAt (w.calls q.node q.number) i place.node ask) is.1 decided.1))),
  )

  answered-is : (a number : ℕ) (x : Answer) (notes : List Noted) → WasAnswered notes a p number x → EachOf (λ (j : Noted). IsDecided w j.place j.note) notes → (number ≤ served_of w p a) × ((ask : Ask) × IsCallAt (w.calls p.node p.number) number a ask)
  answered-is a number x [] some each = absurd some
  answered-is a number x (j ∷ older) (inl is) each = number-of a number x j.place j.note is.0 is.1 each.0
  answered-is a number x (j ∷ older) (inr some) each = answered-is a number x older some each.1

  low : (a number : ℕ) (x : Answer) → WasAnswered w.trace a p number x → number ≤ served_of w p a
  low a number x some = (answered-is a number x w.trace some decisions.each).0

  below : (a : ℕ) → served_of w p a ≤ length (w.calls p.node p.number)
  below a = by (call_of p (w.nodes a).side.served) (replies.kept a p)
    where
      by : (o : Option (Call Answer)) → IfSome o (λ call. WasAnswered w.trace a p call.number call.body) → number_in o ≤ length (w.calls p.node p.number)
      by None was = omega arith
      by (Some call) was = let is = (answered-is a call.number call.body w.trace was decisions.each).1 in numbered-within call.number (w.calls p.node p.number) a is.0 is.1

-- the answer that grants a lock
granted-call : (call : LockCall) (x : Answer) (u : ObjectName) (m : Mode) (grant stamp room n : ℕ) → lock_answer call x ≡ Some (LockAnswer.Granted u m grant stamp room n) → (kind : ObjKind) × (call ≡ LockCall.Lock u m) × (x ≡ Answer.Granted grant stamp kind room n)
granted-call (LockCall.Lock v k) (Answer.Granted g s kind r l) u m grant stamp room n is = (kind, by.0, by.1)
  where
    same : LockAnswer.Granted v k g s r l ≡ LockAnswer.Granted u m grant stamp room n
    same = same_Some (LockAnswer.Granted v k g s r l) (LockAnswer.Granted u m grant stamp room n) is

    fields : LockAnswer → ObjectName × Mode × ℕ × ℕ × ℕ × ℕ
    fields (LockAnswer.Granted w x a b c d) = (w, x, a, b, c, d)
    fields other = (v, k, g, s, r, l)

    all : ◌≡◌ {A = ObjectName × Mode × ℕ × ℕ × ℕ × ℕ} (v, k, g, s, r, l) (u, m, grant, stamp, room, n)
    all = ap fields same

    by : (LockCall.Lock v k ≡ LockCall.Lock u m) × (Answer.Granted g s kind r l ≡ Answer.Granted grant stamp kind room n)
    by = (
      ap (λ (z : ObjectName × Mode × ℕ × ℕ × ℕ × ℕ). LockCall.Lock z.0 z.1) all,
      ap (λ (z : ObjectName × Mode × ℕ × ℕ × ℕ × ℕ). Answer.Granted z.2 z.3 kind z.4 z.5) all,
    )
granted-call (LockCall.Lock v k) (Answer.Conflict q held) u m grant stamp room n is = absurd (cc)
granted-call (LockCall.Lock v k) Answer.NoObject u m grant stamp room n is = absurd (cc)
granted-call (LockCall.PageOut v k delete) (Answer.Stored s) u m grant stamp room n is = absurd (cc)
granted-call (LockCall.PageOut v k delete) (Answer.Stale s) u m grant stamp room n is = absurd (cc)
granted-call (LockCall.AttrOut v l delete) (Answer.Stored s) u m grant stamp room n is = absurd (cc)
granted-call (LockCall.AttrOut v l delete) (Answer.Stale s) u m grant stamp room n is = absurd (cc)
granted-call (LockCall.Unlock v) Answer.Done u m grant stamp room n is = absurd (cc)
granted-call (LockCall.Remove v) Answer.Done u m grant stamp room n is = absurd (cc)
granted-call call x u m grant stamp room n is = absurd (cc)

delete-held : (st : LockState) → may_delete st ≡ true → is_held st ≡ true
delete-held (states.Held m) may = refl
delete-held states.Free may = absurd (cc)
delete-held (states.Taking m) may = absurd (cc)
delete-held (states.Releasing m) may = absurd (cc)
delete-held states.Deleting may = absurd (cc)

-- the entry of what may be deleted
delete-entry : (o : Option LockEntry) → may_delete (state_in o) ≡ true → (e : LockEntry) × (m : Mode) × (o ≡ Some e) × (e.state ≡ states.Held m) × (mode_removes m ≡ true)
delete-entry None may = absurd (cc)
delete-entry (Some e) may = by e.state refl may
  where
    by : (st : LockState) → e.state ≡ st → may_delete st ≡ true → (x : LockEntry) × (m : Mode) × (Some e ≡ Some x) × (x.state ≡ states.Held m) × (mode_removes m ≡ true)
    by (states.Held m) is may = (e, m, refl, is, may)
    by states.Free is may = absurd (cc)
    by (states.Taking m) is may = absurd (cc)
    by (states.Releasing m) is may = absurd (cc)
    by states.Deleting is may = absurd (cc)

-- where a release begins or goes on, its process keeps all that it holds
ready-keeps : (d : DeskState) (p : ℕ) (call : LockCall) (x : Answer) (a : LockAnswer) (delete : Bool) (u : ObjectName) → lock_answer call x ≡ Some a → releasing_in (Cause.AnswerCame a) ≡ Some (delete, u) → IsReadyAt d p (Some (open_call call)) → KeepsAll d.entries p
ready-keeps d p (LockCall.PageOut v k del) x a delete u says given ready = ready.0.others
ready-keeps d p (LockCall.AttrOut v n del) x a delete u says given ready = ready.0.others
ready-keeps d p (LockCall.Lock v m) (Answer.Granted grant stamp kind room n) a delete u says given ready = absurd (let e = ap (λ b. releasing_in (Cause.AnswerCame b)) (same_Some _ a says) ∙ given in cc)
ready-keeps d p (LockCall.Lock v m) (Answer.Conflict q held) a delete u says given ready = absurd (let e = ap (λ b. releasing_in (Cause.AnswerCame b)) (same_Some _ a says) ∙ given in cc)
ready-keeps d p (LockCall.Lock v m) Answer.NoObject a delete u says given ready = absurd (let e = ap (λ b. releasing_in (Cause.AnswerCame b)) (same_Some _ a says) ∙ given in cc)
ready-keeps d p (LockCall.Unlock v) Answer.Done a delete u says given ready = absurd (let e = ap (λ b. releasing_in (Cause.AnswerCame b)) (same_Some _ a says) ∙ given in cc)
ready-keeps d p (LockCall.Remove v) Answer.Done a delete u says given ready = absurd (let e = ap (λ b. releasing_in (Cause.AnswerCame b)) (same_Some _ a says) ∙ given in cc)
ready-keeps d p call x a delete u says given ready = absurd (cc)

releasing-keeps : (d : DeskState) (p : ℕ) (c : Cause) (may : MayCome d p c) (delete : Bool) (u : ObjectName) → releasing_in c ≡ Some (delete, u) → KeepsAll d.entries p
releasing-keeps d p (Cause.Releases del v) may delete u given = may.keeping
releasing-keeps d p (Cause.AnswerCame a) may delete u given = ready-keeps d p may.call may.answer a delete u may.says given (subst (IsReadyAt d p) may.opened may.ready)
releasing-keeps d p (Cause.Accesses access) may delete u given = absurd (cc)
releasing-keeps d p (Cause.Locks v m) may delete u given = absurd (cc)
releasing-keeps d p (Cause.PageCame a) may delete u given = absurd (cc)
releasing-keeps d p (Cause.AccessFailed t) may delete u given = absurd (cc)
releasing-keeps d p (Cause.CallFailed call) may delete u given = absurd (cc)

-- a removal is asked by such a cause alone
abbrev IsRemoveBy : Cause → Turn → Type 0
IsRemoveBy c (Turn.Asks home (Ask.Remove u)) = (delete : Bool) × (v : ObjectName) × (releasing_in c ≡ Some (delete, v))
IsRemoveBy c turn = Unit {0}

said-remove : (d e : DeskState) (p : ℕ) (c : Cause) (turn : Turn) → Says d p e c turn → IsRemoveBy c turn
said-remove d e p c turn (Says.asks_page cause task given fetches) = tt
said-remove d e p c turn (Says.sends_room cause task r given room) = tt
said-remove d e p c turn (Says.sends_page cause delete u k r given opened sends) = tt
said-remove d e p c turn (Says.sends_length cause delete u n given opened changed) = tt
said-remove d e p c turn (Says.asks_lock u m opened) = tt
said-remove d e p c turn (Says.gives_up cause true u given opened may settled) = (true, u, given)
said-remove d e p c turn (Says.gives_up cause false u given opened may settled) = tt
said-remove d e p c turn says = tt

-- what is noted at a desk's turn is no decision
pub end-none : (stage : Stage) (p : ProcName) (phase : ℕ) (o : BegunOp) (turn : Turn) → IsNoDecision (turn_note stage p phase o turn)
end-none Stage.Starts p phase o (Turn.Ends reply) = tt
end-none Stage.Resumes p phase o (Turn.Ends reply) = tt
end-none (Stage.Settles k) p phase o (Turn.Ends reply) = tt
end-none Stage.Starts p phase o (Turn.Asks home ask) = tt
end-none Stage.Resumes p phase o (Turn.Asks home ask) = tt
end-none (Stage.Settles k) p phase o (Turn.Asks home ask) = tt
end-none Stage.Starts p phase o (Turn.Waits u i) = tt
end-none Stage.Resumes p phase o (Turn.Waits u i) = tt
end-none (Stage.Settles k) p phase o (Turn.Waits u i) = tt

-- a request that is taken is of a call
module _ (s : Setup) (old : World) (c : Choice) (new : World) (next : IsKeptNext s old c new) where
  abbrev IsLinkCall : Message → Type 0
  IsLinkCall m = (ask : Ask) → ask_of m.body ≡ Some ask → IsCallAt (old.calls m.from m.proc) m.number c.node ask

  abbrev IsCallIn : Incoming → Type 0
  IsCallIn (Incoming.Frame m) = IsLinkCall m
  IsCallIn incoming = Unit {0}

  call-in : IsCallIn next.is.incoming
  call-in = incoming-is IsCallIn tt (λ number tick. tt) (λ tick. tt) IsLinkCall (λ m is. is) old c.node
      (λ from. EachOf-more (IsOnLink old.calls from c.node) IsLinkCall (old.frames from c.node) (λ m is ask asks. subst (λ a. IsCallAt (old.calls a m.proc) m.number c.node ask) (sym is.sender) (is.call ask asks)) (next.calls.frames from c.node)) c.what next.is.incoming next.is.comes

  pub link-call : (m : Message) → next.is.incoming ≡ Incoming.Frame m → (ask : Ask) → ask_of m.body ≡ Some ask → IsCallAt (old.calls m.from m.proc) m.number c.node ask
  link-call m frame ask asks = (subst IsCallIn frame call-in) ask asks

module _ (s : Setup) (setup : IsSetup s) (old : World) (c : Choice) (new : World) (next : IsKeptNext s old c new) (at : AreOpenAtHomes (old.nodes c.node)) (homes : AreCallsAtHomes old) (carried : AreCarried (old.nodes c.node)) (live : AreLive old) where
  open event s old c new next use {g, n, step, after, mark}

  is_incoming : IsIncoming next.is.incoming
  is_incoming = incoming-is IsIncoming tt (λ number tick. tt) (λ tick. tt) IsFrame (λ x is. is) old c.node (λ from. next.kept.frames from c.node) c.what next.is.incoming next.is.comes

  node_old : IsNodeOf g (old.nodes c.node)
  node_old = next.kept.nodes c.node next.is.node

  node_new : IsNodeOf g step.node
  node_new = (step_of-keeps g (old.nodes c.node) c.what next.is.incoming c.dropped step (setup-gives s setup c.node next.is.node) node_old is_incoming next.is.steps).node

  carried_new : AreCarried step.node
  carried_new = step-carries g (old.nodes c.node) c.what next.is.incoming c.dropped step (setup-gives s setup c.node next.is.node) node_old is_incoming carried next.is.steps

  nodes-here : after.nodes c.node ≡ step.node
  nodes-here = put-same old.nodes c.node c.node step.node refl

  -- of the homes
  module _ (P : ProcName) where
    abbrev Live : (ℕ → Table) → (ℕ → ℕ) → List Noted → List Asked → List LockEntry → Type 0
    Live locks served notes calls entries = IsLive locks served notes P calls entries

    served-up : (last_of P n.side.served ≤ last_of P step.node.side.served) → (a : ℕ) → served_of old P a ≤ served_of after P a
    served-up rises a = elim (cases_eq a c.node) [
      | inl here ↦ (let e = ap (λ (x : NodeState). last_of P x.side.served) (put-same old.nodes c.node a step.node here) in let f = ap (λ b. last_of P (old.nodes b).side.served) here in omega (arith, e, f, rises))
      | inr away ↦ (let e = ap (λ (x : NodeState). last_of P x.side.served) (put-other old.nodes c.node a step.node away) in omega (arith, e))
    ]

    locks-same : step.node.side.locks ≡ n.side.locks → (a : ℕ) → locks_of after a ≡ locks_of old a
    locks-same same a = elim (cases_eq a c.node) [
      | inl here ↦ ap (λ (x : NodeState). x.side.locks) (put-same old.nodes c.node a step.node here) ∙ (same ∙ ap (λ b. (old.nodes b).side.locks) (sym here))
      | inr away ↦ ap (λ (x : NodeState). x.side.locks) (put-other old.nodes c.node a step.node away)
    ]

  -- each process, after what the home of the node did
  home-live : HomeStep g n c.what next.is.incoming step → (a q : ℕ) → IsProc q → IsLive (locks_of after) (served_of after (proc_at a q)) after.trace (proc_at a q) (old.calls a q) (entries_of (old.nodes a).desk q)
  home-live (apart more same none) a q proc =
      live-along (locks_of old) (locks_of after) (served_of old (proc_at a q)) (served_of after (proc_at a q)) old.trace (mark ∷ old.trace) (proc_at a q) (old.calls a q) (entries_of (old.nodes a).desk q)
      (locks-same (proc_at a q) same.1) (served-up (proc_at a q) (more (proc_at a q))) (not-answered mark old.trace (proc_at a q) none) (live a q proc)
  home-live (decides from index m ask answer takes frame asks more above now note decision) a q proc =
      live-along (put (locks_of old) c.node step.node.side.locks) (locks_of after) (served_of after P) (served_of after P) (record { place = place_at c step; note = Note.Decided (caller_of m) m.number ask answer } ∷ old.trace) (mark ∷ old.trace) P (old.calls a q) (entries_of (old.nodes a).desk q)
      put-locks (λ b. omega arith) (λ b number x is. subst (λ (k : Note). WasAnswered (record { place = place_at c step; note = k } ∷ old.trace) b P number x) note is)
      (live-decided (locks_of old) (served_of old P) (served_of after P) old.trace P (old.calls a q) (entries_of (old.nodes a).desk q) (live a q proc)
      (place_at c step) n.side.home step.node.side.locks (caller_of m) m.number ask answer node_old.side.table
      decision.locks decision.told (served-up P (more P)) (λ same. subst (λ r. last_of r n.side.served < m.number) (sym same) above)
      (λ same. ap (λ (x : NodeState). last_of P x.side.served) nodes-here ∙ subst (λ r. last_of r step.node.side.served ≡ m.number) (sym same) now)
      (λ same. subst (λ (r : ProcName). IsCallAt (old.calls r.node r.number) m.number c.node ask) (sym (same ∙ caller-at m ask asks)) call)
      (asked-home (numbered m.number (old.calls m.from m.proc)) c.node ask (numbered-each (λ (k : Asked). IsAtHome k.home k.ask) m.number (old.calls m.from m.proc) (homes m.from m.proc)) call)
      (low old next.decisions next.replies P))
    where
      P : ProcName
      P = proc_at a q

      call : IsCallAt (old.calls m.from m.proc) m.number c.node ask
      call = link-call s old c new next m frame ask asks

      put-locks : (b : ℕ) → locks_of after b ≡ put (locks_of old) c.node step.node.side.locks b
      put-locks b = elim (cases_eq b c.node) [
        | inl here ↦ ap (λ (x : NodeState). x.side.locks) (put-same old.nodes c.node b step.node here) ∙ sym (put-same (locks_of old) c.node b step.node.side.locks here)
        | inr away ↦ ap (λ (x : NodeState). x.side.locks) (put-other old.nodes c.node b step.node away) ∙ sym (put-other (locks_of old) c.node b step.node.side.locks away)
      ]

  -- the operation of one process moves the desk
  module _ (p : ℕ) (proc : IsProc p) (o : BegunOp) (stage : Stage) (m : Moved) (is_at : IsAt (proc_of n p).doing o stage) (at_desk : step.node.desk ≡ m.desk) (doing : (proc_of step.node p).doing ≡ doing_after o (proc_of n p) m.turn)
      (call : step.call ≡ turn_call p (proc_of n p) m.turn) where
    abbrev P : ProcName
    P = proc_at c.node p

    abbrev mine : List Asked
    mine = old.calls c.node p

    -- a grant that was heard has its row
    module _ (u : ObjectName) (k : Mode) (grant stamp room len : ℕ) where
      abbrev HasRow : Type 0
      HasRow = (row_at (locks_of old) P u ≡ Some (k, grant)) × (served_of old P u.home ≡ length mine) × (to : ℕ) × IsCallAt mine (length mine) to (Ask.Lock u k) × (kind : ObjKind)
          × WasAnswered old.trace u.home P (length mine) (Answer.Granted grant stamp kind room len)

      row-by : (kind : ObjKind) (number : ℕ) (x : OpenOp) (a : Asked) → (proc_of n p).doing ≡ Some x → x.awaits ≡ Await.Answer a → a.waiting.number ≡ number → open_call_of n.desk p ≡ Some (calls.Lock u k) → IsCallOf x.began.op (task_of n.desk p) (Some (calls.Lock u k))
          → SomeOf (λ (j : Noted). IsAnswerOf P number (Answer.Granted grant stamp kind room len) j.note) old.trace → HasRow
      row-by kind number x a is awaits named opened of some =
          let here : (proc_of n p).doing ≡ asking x.began a = is ∙ ap (λ w. Some (let y : OpenOp = record { began = x.began; awaits = w } in y)) awaits in
          let agrees = subst (Agrees n.desk p (proc_of n p).last) here (node_old.agrees p proc) in
          let asks : a.ask ≡ Ask.Lock u k = lock-is a.ask (op-request n.desk p x.began.op a.ask (calls.Lock u k) opened of agrees.1.0) in
          let made = subst (IsOpenAt mine) here (next.calls.opened c.node p proc) in
          let home : a.home ≡ u.home = subst (IsAtHome a.home) asks (subst IsOpenAtHome here (at p proc)).0 in
          let last : number ≡ length mine = sym named ∙ (agrees.1.1.number ∙ next.calls.last c.node p proc) in
          let lock : IsCallAt mine (length mine) a.home (Ask.Lock u k) = subst (λ y. IsCallAt mine (length mine) a.home y) asks (subst (λ i. IsCallAt mine i a.home a.ask) (named ∙ last) made) in
          let answered : WasAnswered old.trace u.home P (length mine) (Answer.Granted grant stamp kind room len) = at-home (length mine) (Answer.Granted grant stamp kind room len) u.home (Ask.Lock u k) (subst (λ h. IsCallAt mine (length mine) h (Ask.Lock u k)) home lock) old.trace next.decisions.each
          (subst (λ i. SomeOf (λ (j : Noted). IsAnswerOf P i (Answer.Granted grant stamp kind room len) j.note) old.trace) last some) in
          let least = low old next.decisions next.replies P u.home (length mine) (Answer.Granted grant stamp kind room len) answered in
          let most = below old next.decisions next.replies P u.home in
          ((live c.node p proc).granted a.home u k grant stamp kind room len lock answered, omega (arith, least, most), a.home, lock, kind, answered)
        where
          lock-is : (ask : Ask) → IsRequestOf (moving_of n.desk p) (calls.Lock u k) ask → ask ≡ Ask.Lock u k
          lock-is (Ask.Lock v l) is = ap (λ w. Ask.Lock w l) is.0 ∙ ap (λ y. Ask.Lock u y) is.1
          lock-is (Ask.PageIn v i) is = absurd is
          lock-is (Ask.PageOut v i gr base bytes) is = absurd is
          lock-is (Ask.AttrOut v l gr base) is = absurd is
          lock-is (Ask.Unlock v) is = absurd is
          lock-is (Ask.Remove v) is = absurd is
          lock-is (Ask.Make kind room) is = absurd is
          lock-is (Ask.ListLocks after) is = absurd is

          note-home : (number : ℕ) (y : Answer) (home : ℕ) (ask : Ask) → IsCallAt mine number home ask → (j : Noted) → IsDecided old j.place j.note → IsAnswerOf P number y j.note → j.place.node ≡ home
          note-home number y home ask made j decided is =
              let at_place = (number-of old next.decisions next.replies P j.place.node number y j.place j.note refl is decided).1 in
              same-home (numbered number mine) j.place.node home at_place.0 ask at_place.1 made

          at-home : (number : ℕ) (y : Answer) (home : ℕ) (ask : Ask) → IsCallAt mine number home ask → (notes : List Noted) → EachOf (λ (j : Noted). IsDecided old j.place j.note) notes → SomeOf (λ (j : Noted). IsAnswerOf P number y j.note) notes → WasAnswered notes home P number y
          at-home number y home ask made [] each some = some
          at-home number y home ask made (j ∷ older) each (inl is) = inl (note-home number y home ask made j each.0 is, is)
          at-home number y home ask made (j ∷ older) each (inr some) = inr (at-home number y home ask made older each.1 some)

      row-doing : (kind : ObjKind) (number : ℕ) (open_op : Option OpenOp) → (proc_of n p).doing ≡ open_op → IsOpenNumber number open_op → IsAt open_op o stage → open_call_of n.desk p ≡ Some (calls.Lock u k) → IsCallOf o.op (task_of n.desk p) (Some (calls.Lock u k))
          → SomeOf (λ (j : Noted). IsAnswerOf P number (Answer.Granted grant stamp kind room len) j.note) old.trace → HasRow
      row-doing kind number None is named there opened of some = absurd named
      row-doing kind number (Some x) is named there opened of some = by x.awaits refl named
        where
          began : o ≡ x.began
          began = at-began stage there
            where
              at-began : (st : Stage) → IsAt (Some x) o st → o ≡ x.began
              at-began Stage.Starts there = absurd there
              at-began Stage.Resumes there = there
              at-began (Stage.Settles i) there = there.0

          by : (w : Await) → x.awaits ≡ w → IsOpenNumber number (Some (let y : OpenOp = record { began = x.began; awaits = w } in y)) → HasRow
          by (Await.Answer a) awaits named = row-by kind number x a is awaits named opened (subst (λ (b : BegunOp). IsCallOf b.op (task_of n.desk p) (Some (calls.Lock u k))) began of) some
          by (Await.Page v i) awaits named = absurd named

      pub got-row : (cause : Cause) (may : MayCome n.desk p cause) → IsOf n.desk p cause o.op → IsTaken next.is.incoming n.desk p (proc_of n p).doing cause may → cause ≡ Cause.AnswerCame (LockAnswer.Granted u k grant stamp room len) → HasRow
      got-row (Cause.AnswerCame a) may of taken is =
          let same : a ≡ LockAnswer.Granted u k grant stamp room len = cause-answer a (LockAnswer.Granted u k grant stamp room len) is in
          let found = granted-call may.call may.answer u k grant stamp room len (may.says ∙ ap Some same) in
          let opened : open_call_of n.desk p ≡ Some (calls.Lock u k) = may.opened ∙ ap (λ y. Some (open_call y)) found.1 in
          row-doing found.0 taken.frame.number (proc_of n p).doing refl taken.number is_at opened (subst (IsCallOf o.op (task_of n.desk p)) opened of)
          (subst (λ y. SomeOf (λ (j : Noted). IsAnswerOf P taken.frame.number y j.note) old.trace) found.2 (taken-decided s old c new next p (proc_of n p).doing may.answer taken))
        where
          cause-answer : (x y : LockAnswer) → Cause.AnswerCame x ≡ Cause.AnswerCame y → x ≡ y
          cause-answer x y e = cc
      got-row (Cause.Accesses access) may of taken is = absurd (cc)
      got-row (Cause.Locks v l) may of taken is = absurd (cc)
      got-row (Cause.Releases delete v) may of taken is = absurd (cc)
      got-row (Cause.PageCame a) may of taken is = absurd (cc)
      got-row (Cause.AccessFailed t) may of taken is = absurd (cc)
      got-row (Cause.CallFailed call) may of taken is = absurd (cc)

    abbrev EntryNow : ObjectName → Cause → Type 0
    EntryNow u cause = EntryThen cause m.turn u (entry_at n.desk.entries p u) (entry_at step.node.desk.entries p u)

    lock-then : (u : ObjectName) (cause : Cause) (may : MayCome n.desk p cause) → IsOf n.desk p cause o.op → IsTaken next.is.incoming n.desk p (proc_of n p).doing cause may → EntryNow u cause
        → LockThen (locks_of old) (served_of old P) P mine u (entry_of u (entries_of (old.nodes c.node).desk p)) (entry_of u (entries_of step.node.desk p))
    lock-then u cause may of taken (as_before same) = lock_as_before same
    lock-then u cause may of taken (freed never held) = lock_freed never
    lock-then u cause may of taken (noted delete given asks kept allowed never) = lock_freed never
    lock-then u cause may of taken (got k grant stamp room len is now) = let row = got-row u k grant stamp room len cause may of taken is in lock_got k grant row.0 row.1 now

    desk-then : OpMove g.opening next.is.incoming (proc_of n p).doing stage n.desk p o.op m → (u : ObjectName) → LockThen (locks_of old) (served_of old P) P mine u (entry_of u (entries_of (old.nodes c.node).desk p)) (entry_of u (entries_of step.node.desk p))
    desk-then (desk_apart desk turn) u = lock_as_before (ap (λ (d : DeskState). entry_at d.entries p u) (at_desk ∙ desk))
    desk-then (moves cause may of at_stage taken made) u =
        lock-then u cause may of taken (subst (λ (d : DeskState). EntryThen cause m.turn u (entry_at n.desk.entries p u) (entry_at d.entries p u)) (sym at_desk) (moves-entry cause m.turn p proc u n.desk m.desk m.dropped node_old.desk made.moves))

    -- what is asked about a lock is of none that is kept
    module _ (home : ℕ) (ask : Ask) (turn : m.turn ≡ Turn.Asks home ask) where
      asking_now : (proc_of step.node p).doing ≡ asking o (next_call (proc_of n p) home ask)
      asking_now = doing ∙ ap (doing_after o (proc_of n p)) turn

      carries : Carries step.node.desk p ask
      carries = subst (CarriesOpen step.node.desk p) asking_now (carried_new p proc)

      given_up : (u : ObjectName) → gives_up ask u ≡ true → is_held (state_of step.node.desk p u) ≡ true → is_released (entry_at step.node.desk.entries p u) ≡ true
      given_up u gives held = node-released g step.node node_new p proc u held ∙ (ap (λ x. is_being_released x u) asking_now ∙ gives)

      plain : (u : ObjectName) → IsAbout u ask → keeps (entry_of u (entries_of step.node.desk p)) ≡ false
      plain u about = by ask refl about
        where
          by : (x : Ask) → ask ≡ x → IsAbout u x → keeps (entry_of u (entries_of step.node.desk p)) ≡ false
          by (Ask.Lock v k) is about = subst (λ w. keeps (entry_at step.node.desk.entries p w) ≡ false) about (free-unkept (entry_at step.node.desk.entries p v) (subst (Carries step.node.desk p) is carries).1)
          by (Ask.Unlock v) is about = released-unkept (entry_at step.node.desk.entries p u) (given_up u (ap (λ x. gives_up x u) is ∙ (ap (λ w. same_uid w u) about ∙ same_uid-itself u)))
          by (Ask.Remove v) is about = released-unkept (entry_at step.node.desk.entries p u) (given_up u (ap (λ x. gives_up x u) is ∙ (ap (λ w. same_uid w u) about ∙ same_uid-itself u)))
          by (Ask.PageIn v k) is about = absurd about
          by (Ask.PageOut v k grant base bytes) is about = absurd about
          by (Ask.AttrOut v k grant base) is about = absurd about
          by (Ask.Make kind room) is about = absurd about
          by (Ask.ListLocks from) is about = absurd about

      abbrev IsRemoving : ObjectName → Type 0
      IsRemoving u = (k : Mode) × (grant : ℕ) × (mode_removes k ≡ true) × (row_at (locks_of old) P u ≡ Some (k, grant)) × ((i to : ℕ) (x : Ask) → IsCallAt mine i to x → IsAbout u x → served_of old P u.home < i → ⊥)

      -- what it removes it kept, in a mode that removes
      was-kept : (u : ObjectName) → keeps (entry_at n.desk.entries p u) ≡ true → may_delete (state_in (entry_at n.desk.entries p u)) ≡ true → IsRemoving u
      was-kept u kept may =
          let x = delete-entry (entry_at n.desk.entries p u) may in (
            x.1,
            x.0.grant,
            x.4,
            (live c.node p proc).row u x.0 x.1 x.2 (ap keeps (sym x.2) ∙ kept) x.3,
            λ i to y made about fresh. absurd (let z : true ≡ false = sym kept ∙ (live c.node p proc).late i to u y made about fresh in cc),
          )

      not-home : (op : Op) (u : ObjectName) → ask ≡ Ask.Remove u → IsHomeAsk op home ask → ⊥
      not-home op u is home_ask = by op home_ask
        where
          by : (op : Op) → IsHomeAsk op home ask → ⊥
          by (ops.New to kind room) asks = absurd (let e = sym is ∙ asks.1 in cc)
          by (ops.List to from) asks = absurd (let e = sym is ∙ asks.1 in cc)
          by (ops.Lock v k) asks = asks
          by (ops.Unlock v) asks = asks
          by (ops.Delete v) asks = asks
          by (ops.Load spot count) asks = asks
          by (ops.Store spot bytes) asks = asks
          by (ops.Length v) asks = asks
          by (ops.Map v) asks = asks
          by (ops.Unmap v) asks = asks

      removed-then : (u : ObjectName) → ask ≡ Ask.Remove u → (cause : Cause) (may : MayCome n.desk p cause) → Says n.desk p m.desk cause m.turn → EntryNow u cause → IsRemoving u
      removed-then u is cause may says (as_before same) = absurd (
          let by = subst (IsRemoveBy cause) (turn ∙ ap (Turn.Asks home) is) (said-remove n.desk m.desk p cause m.turn says) in
          let kept : keeps (entry_at n.desk.entries p u) ≡ true = releasing-keeps n.desk p cause may by.0 by.1 by.2 u (ap (λ e. is_held (state_in e)) (sym same) ∙ held_now) in
          let e : true ≡ false = sym kept ∙ (ap keeps (sym same) ∙ plain u (subst (IsAbout u) (sym is) refl)) in
          cc)
        where
          held_now : is_held (state_of step.node.desk p u) ≡ true
          held_now = delete-held (state_of step.node.desk p u) (subst (Carries step.node.desk p) is carries).1
      removed-then u is cause may says (freed never held) = absurd (let e : true ≡ false = sym (delete-held (state_of step.node.desk p u) (subst (Carries step.node.desk p) is carries).1) ∙ held in cc)
      removed-then u is cause may says (got k grant stamp room len given now) = absurd (let e : true ≡ false = sym (ap keeps now) ∙ plain u (subst (IsAbout u) (sym is) refl) in cc)
      removed-then u is cause may says (noted delete given asks kept allowed never) = was-kept u kept (allowed (deletes delete (ap asked (sym asks ∙ turn) ∙ is)))
        where
          asked : Turn → Ask
          asked (Turn.Asks to x) = x
          asked other = ask

          deletes : (b : Bool) → release_ask b u ≡ Ask.Remove u → b ≡ true
          deletes true e = refl
          deletes false e = absurd (cc)

      removes : OpMove g.opening next.is.incoming (proc_of n p).doing stage n.desk p o.op m → (u : ObjectName) → ask ≡ Ask.Remove u → IsRemoving u
      removes (desk_apart desk home_turn) u is = absurd (not-home o.op u is (home-asks g.opening next.is.incoming p (proc_of n p).doing stage o.op home ask (subst (IsHomeTurn g.opening next.is.incoming p (proc_of n p).doing stage o.op) turn home_turn)))
      removes (moves cause may of at_stage taken made) u is =
          removed-then u is cause may made.says (subst (λ (d : DeskState). EntryThen cause m.turn u (entry_at n.desk.entries p u) (entry_at d.entries p u)) (sym at_desk) (moves-entry cause m.turn p proc u n.desk m.desk m.dropped node_old.desk made.moves))

    calls-own : (k : Asked) → calls_after old c.node (Some (p, k)) c.node p ≡ k ∷ mine
    calls-own k = ap (λ f. f p) (put-same old.calls c.node c.node _ refl) ∙ put-same (old.calls c.node) p p _ refl

    calls-beside : (k : Asked) (q : ℕ) → q ≢ p → calls_after old c.node (Some (p, k)) c.node q ≡ old.calls c.node q
    calls-beside k q differs = ap (λ f. f q) (put-same old.calls c.node c.node _ refl) ∙ put-other (old.calls c.node) p q _ differs

    calls-elsewhere : (k : Asked) (a q : ℕ) → a ≢ c.node → calls_after old c.node (Some (p, k)) a q ≡ old.calls a q
    calls-elsewhere k a q differs = ap (λ f. f q) (put-other old.calls c.node a _ differs)

    -- the process that moves
    own-live : OpMove g.opening next.is.incoming (proc_of n p).doing stage n.desk p o.op m → IsLive (locks_of old) (served_of old P) old.trace P (calls_after old c.node step.call c.node p) (entries_of step.node.desk p)
    own-live made = subst (λ x. IsLive (locks_of old) (served_of old P) old.trace P (calls_after old c.node x c.node p) (entries_of step.node.desk p)) (sym call) (by m.turn refl)
      where
        moved_live : IsLive (locks_of old) (served_of old P) old.trace P mine (entries_of step.node.desk p)
        moved_live = live-moved (locks_of old) (served_of old P) old.trace P mine (entries_of (old.nodes c.node).desk p) (entries_of step.node.desk p) (live c.node p proc) (desk-then made)

        by : (turn : Turn) → m.turn ≡ turn → IsLive (locks_of old) (served_of old P) old.trace P (calls_after old c.node (turn_call p (proc_of n p) turn) c.node p) (entries_of step.node.desk p)
        by (Turn.Ends reply) is = moved_live
        by (Turn.Waits v i) is = moved_live
        by (Turn.Asks home ask) is =
            subst (λ xs. IsLive (locks_of old) (served_of old P) old.trace P xs (entries_of step.node.desk p)) (sym (calls-own (next_call (proc_of n p) home ask)))
            (live-asked (locks_of old) (served_of old P) old.trace P mine (entries_of step.node.desk p) moved_live (next_call (proc_of n p) home ask) (below old next.decisions next.replies P) (low old next.decisions next.replies P)
            (plain home ask is) (removes home ask is made))

    -- the others
    entries-beside : OpMove g.opening next.is.incoming (proc_of n p).doing stage n.desk p o.op m → (q : ℕ) → IsProc q → q ≢ p → entries_of step.node.desk q ≡ entries_of (old.nodes c.node).desk q
    entries-beside (desk_apart desk turn) q other differs = ap (λ d. entries_of d q) (at_desk ∙ desk)
    entries-beside (moves cause may of at_stage taken made) q other differs = ap (λ d. entries_of d q) at_desk ∙ (moves-beside cause m.turn p q proc other differs n.desk m.desk m.dropped made.moves).entries

    calls-same : (a q : ℕ) → (a ≡ c.node → q ≡ p → ⊥) → after.calls a q ≡ old.calls a q
    calls-same a q differs = ap (λ x. calls_after old c.node x a q) call ∙ by m.turn
      where
        by : (turn : Turn) → calls_after old c.node (turn_call p (proc_of n p) turn) a q ≡ old.calls a q
        by (Turn.Ends reply) = refl
        by (Turn.Waits v i) = refl
        by (Turn.Asks home ask) = elim (cases_eq a c.node) [
          | inr away ↦ calls-elsewhere (next_call (proc_of n p) home ask) a q away
          | inl here ↦ ap (λ b. calls_after old c.node (Some (p, next_call (proc_of n p) home ask)) b q) here ∙ (calls-beside (next_call (proc_of n p) home ask) q (λ there. differs here there) ∙ ap (λ b. old.calls b q) (sym here))
        ]

  entries-at : (a q : ℕ) → (a ≡ c.node → entries_of step.node.desk q ≡ entries_of (old.nodes c.node).desk q) → entries_of (after.nodes a).desk q ≡ entries_of (old.nodes a).desk q
  entries-at a q own = elim (cases_eq a c.node) [
    | inl here ↦ ap (λ (x : NodeState). entries_of x.desk q) (put-same old.nodes c.node a step.node here) ∙ (own here ∙ ap (λ b. entries_of (old.nodes b).desk q) (sym here))
    | inr away ↦ ap (λ (x : NodeState). entries_of x.desk q) (put-other old.nodes c.node a step.node away)
  ]

  abbrev LiveNow : ℕ → ℕ → List Asked → List LockEntry → Type 0
  LiveNow a q calls entries = IsLive (locks_of after) (served_of after (proc_at a q)) after.trace (proc_at a q) calls entries

  -- a live process of the old world, where the side stays and nothing is decided
  along : step.node.side ≡ n.side → IsNoDecision step.note → (a q : ℕ) (calls : List Asked) (entries : List LockEntry) → IsLive (locks_of old) (served_of old (proc_at a q)) old.trace (proc_at a q) calls entries → LiveNow a q calls entries
  along side none a q calls entries was =
      live-along (locks_of old) (locks_of after) (served_of old (proc_at a q)) (served_of after (proc_at a q)) old.trace (mark ∷ old.trace) (proc_at a q) calls entries
      (locks-same (proc_at a q) (ap (λ x. x.locks) side)) (served-up (proc_at a q) (let e = ap (λ x. last_of (proc_at a q) x.served) side in omega (arith, e))) (not-answered mark old.trace (proc_at a q) none) was

  step-live : NodeMove g n next.is.incoming step → HomeStep g n c.what next.is.incoming step → AreLive after
  step-live (still desk same quiet uncalled) home a q proc =
      subst (λ es. LiveNow a q (after.calls a q) es) (sym (entries-at a q (λ here. ap (λ d. entries_of d q) desk)))
      (subst (λ x. LiveNow a q (calls_after old c.node x a q) (entries_of (old.nodes a).desk q)) (sym uncalled) (home-live home a q proc))
  step-live (moved p o stage m proc is_at made at_desk doing others note call side) home a q other = elim (cases_eq a c.node) [
    | inr away ↦
        subst (λ es. LiveNow a q (after.calls a q) es) (sym (entries-at a q (λ here. absurd (away here))))
        (subst (λ xs. LiveNow a q xs (entries_of (old.nodes a).desk q)) (sym (calls-same p proc o stage m is_at at_desk doing call a q (λ here there. away here))) (along side none a q (old.calls a q) (entries_of (old.nodes a).desk q) (live a q other)))
    | inl here ↦ elim (cases_eq q p) [
      | inr beside ↦
          subst (λ es. LiveNow a q (after.calls a q) es) (sym (entries-at a q (λ at_node. entries-beside p proc o stage m is_at at_desk doing call made q other beside)))
          (subst (λ xs. LiveNow a q xs (entries_of (old.nodes a).desk q)) (sym (calls-same p proc o stage m is_at at_desk doing call a q (λ at_node there. beside there))) (along side none a q (old.calls a q) (entries_of (old.nodes a).desk q) (live a q other)))
      | inl there ↦
          subst (λ b. LiveNow b q (after.calls b q) (entries_of (after.nodes b).desk q)) (sym here)
          (subst (λ r. LiveNow c.node r (after.calls c.node r) (entries_of (after.nodes c.node).desk r)) (sym there)
          (subst (λ (x : NodeState). LiveNow c.node p (after.calls c.node p) (entries_of x.desk p)) (sym nodes-here)
          (along side none c.node p (after.calls c.node p) (entries_of step.node.desk p) (own-live p proc o stage m is_at at_desk doing call made))))
    ]
  ]
    where
      none : IsNoDecision step.note
      none = subst IsNoDecision (sym note) (end-none stage (name_of g p) (proc_of n p).phase o m.turn)

  pub live-later : AreLive new
  live-later = subst AreLive (sym next.is.world)
      (step-live (step-desk g (old.nodes c.node) c.what next.is.incoming c.dropped step (setup-gives s setup c.node next.is.node) node_old is_incoming next.is.steps)
      (event-home s old c new next))

module _ (s : Setup) (setup : IsSetup s) where
  live-first : AreLive (first_world s)
  live-first n = by_proc (λ p. IsLive (locks_of (first_world s)) (served_of (first_world s) (proc_at n p)) [] (proc_at n p) [] (entries_of (first_node (given s n)).desk p)) (none n 1) (none n 2) (none n 3) (none n 4)
    where
      none : (n p : ℕ) → IsLive (locks_of (first_world s)) (served_of (first_world s) (proc_at n p)) [] (proc_at n p) [] []
      none n p = record {
        row = λ u e m is keeping held. absurd (cc);
        late = λ k to u ask made about fresh. absurd made;
        granted = λ to u m grant stamp kind room len made answered. absurd made;
        leaving = λ to u made fresh. absurd made;
      }

  -- in every run
  pub live-are : (cs : List Choice) (w : World) → world_after s cs ≡ Some w → IsTimely w → AreLive w
  live-are = every-kept-run s setup (setup-procs s setup) AreLive live-first
      (λ cs old c new e timely next live. live-later s setup old c new next (opens-at-homes s setup cs old e timely c.node next.is.node) (calls-at-homes s setup cs old e timely) (runs-carry s setup cs old e timely c.node next.is.node) live)
