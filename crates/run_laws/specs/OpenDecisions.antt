-- What a home finds where it decides a call that its process still has open: what the call needs.
use Rattle.std.specs.Prelude.{◌≡◌, ℕ, true, is_some, Option, Some, None, List, [], ◌∷◌}
use Rattle.uid_names.specs.Names.{ProcName}
use Rattle.dom_history.specs.Objects.{is_node}
use Rattle.object_store.specs.HomeStates.{attr_of}
use Rattle.object_store.specs.Rules.{has_page, has_length}
use Rattle.lock_manager.specs.Grants.{grant_of}
use Rattle.ring_messages.specs.Bodies.{Ask, Answer}
use Rattle.page_server.specs.Decisions.{is_granted, may_remove}
use Rattle.fault_handler.specs.Invariant.{IsProc}
use Rattle.node_runs.specs.Setups.{Setup}
use Rattle.node_runs.specs.NodeStates.{Await, OpenOp, proc_of}
use Rattle.node_runs.specs.Notes.{Note}
use Rattle.node_runs.specs.Runs.{Noted, World}
use Rattle.node_runs.specs.CallsKeep.{EachOf}
use Rattle.node_runs.specs.Replays.{Held}
use Rattle.run_laws.specs.DecidedReplies.{proc_at}
use Rattle.run_laws.specs.HistoryHomes.{held_then}

-- the object is there, with room for the page or the length; the process's node holds the grant, or the process the lock of what it
-- removes
abbrev pub Finds : Held → ProcName → Ask → Type 0
Finds h p (Ask.PageIn u k) = has_page (attr_of h.home u) k ≡ true
Finds h p (Ask.PageOut u k grant base bytes) = (has_page (attr_of h.home u) k ≡ true) × (is_granted h.locks grant u p.node ≡ true)
Finds h p (Ask.AttrOut u n grant base) = (has_length (attr_of h.home u) n ≡ true) × (is_granted h.locks grant u p.node ≡ true)
Finds h p (Ask.Remove u) = (is_some (attr_of h.home u) ≡ true) × (may_remove (grant_of p u h.locks.grants) ≡ true)
Finds h p ask = Unit {0}

-- a decision on the call of this number found it so
abbrev pub IsFound : Held → ProcName → ℕ → Note → Type 0
IsFound h p number (Note.Decided q k ask answer) = q ≡ p → k ≡ number → Finds h p ask
IsFound h p number note = Unit {0}

-- each of these did, by the home as the notes before it left it
abbrev pub AreFound : Setup → ProcName → ℕ → List Noted → Type 0
AreFound s p number [] = Unit {0}
AreFound s p number (j ∷ older) = IsFound (held_then s j.place.node older) p number j.note × AreFound s p number older

abbrev pub IsAwaitFound : Setup → ProcName → List Noted → Await → Type 0
IsAwaitFound s p notes (Await.Answer c) = AreFound s p c.waiting.number notes
IsAwaitFound s p notes (Await.Page u k) = Unit {0}

abbrev pub IsOpenFound : Setup → ProcName → List Noted → Option OpenOp → Type 0
IsOpenFound s p notes None = Unit {0}
IsOpenFound s p notes (Some o) = IsAwaitFound s p notes o.awaits

-- each open call
abbrev pub AreOpenFound : Setup → World → Type 0
AreOpenFound s w = (n p : ℕ) → is_node s.opening n ≡ true → IsProc p → IsOpenFound s (proc_at n p) w.trace (proc_of (w.nodes n) p).doing

-- so this is how it is answered: with its page; by taken or not, for its base alone; by done
abbrev pub IsPageTold : Answer → Type 0
IsPageTold (Answer.Page stamp bytes) = Unit {0}
IsPageTold answer = ⊥

abbrev pub IsWriteTold : Answer → Type 0
IsWriteTold (Answer.Stored stamp) = Unit {0}
IsWriteTold (Answer.Stale stamp) = Unit {0}
IsWriteTold answer = ⊥

abbrev pub IsRight : Ask → Answer → Type 0
IsRight (Ask.PageIn u k) answer = IsPageTold answer
IsRight (Ask.PageOut u k grant base bytes) answer = IsWriteTold answer
IsRight (Ask.AttrOut u n grant base) answer = IsWriteTold answer
IsRight (Ask.Remove u) answer = answer ≡ Answer.Done
IsRight ask answer = Unit {0}

abbrev pub IsRightNote : ProcName → ℕ → Note → Type 0
IsRightNote p number (Note.Decided q k ask answer) = q ≡ p → k ≡ number → IsRight ask answer
IsRightNote p number note = Unit {0}

abbrev pub IsAwaitRight : ProcName → List Noted → Await → Type 0
IsAwaitRight p notes (Await.Answer c) = EachOf (λ (j : Noted). IsRightNote p c.waiting.number j.note) notes
IsAwaitRight p notes (Await.Page u k) = Unit {0}

abbrev pub IsOpenRight : ProcName → List Noted → Option OpenOp → Type 0
IsOpenRight p notes None = Unit {0}
IsOpenRight p notes (Some o) = IsAwaitRight p notes o.awaits

abbrev pub AreOpenRight : Setup → World → Type 0
AreOpenRight s w = (n p : ℕ) → is_node s.opening n ≡ true → IsProc p → IsOpenRight (proc_at n p) w.trace (proc_of (w.nodes n) p).doing
