-- What a desk's outcome leaves: each process agrees with the desk again.
use Rattle.std.proofs.Common.{◌≡◌, ◌≢◌, ℕ, ◌≤◌, Bool, true, false, [], Option, Some, None, refl, sym, ap, subst, ◌∙◌, arith}
use Rattle.std.specs.Prelude.{◌&&◌, nat_le, IsTrue}
use Rattle.std.specs.Option.{option_map}
use Rattle.std.proofs.lemmas.Bool.Decides.{nat_tests}
use Rattle.std.proofs.lemmas.Option.{same_Some}
use Rattle.uid_names.specs.Names.{ObjectName, ProcName}
use Rattle.uid_names.specs.Openings.{Start}
use Rattle.uid_names.specs.Rooms.{IsRoom}
use Rattle.uid_names.specs.Steps.{◌>>=◌}
use Rattle.uid_names.specs.declared.mode.ObjKind.{ObjKind}
use Rattle.uid_names.proofs.InOrder.{AllPairs-nil}
use Rattle.uid_names.proofs.Passed.{left-true, right-true}
use Rattle.uid_names.proofs.Somes.{bind-some, map-some}
use Rattle.dom_history.specs.declared.op.Op.{Op}
use Rattle.dom_history.specs.declared.op.Op.TheVariants as ops
use Rattle.dom_history.specs.declared.op.Reply.{Reply}
use Rattle.dom_history.specs.declared.op.Reply.TheVariants as replies
use Rattle.dom_history.specs.Events.{ArePagesRising, page_lt}
use Rattle.dom_history.specs.Fitting.{Fits}
use Rattle.dom_history.specs.Objects.{is_node}
use Rattle.dom_history.specs.Ranges.{IsOp, IsNamedReply}
use Rattle.dom_history.proofs.Fitting.{fits-locks}
use Rattle.ring_messages.specs.Bodies.{Ask, Answer, answer_of, body_of_answer}
use Rattle.ring_messages.specs.declared.body.Body.{Body}
use Rattle.ring_messages.specs.Ranges.{IsBody, LiesWithin}
use Rattle.fault_handler.specs.declared.open_call.OpenCall.{OpenCall}
use Rattle.fault_handler.specs.declared.open_call.OpenCall.TheVariants as calls
use Rattle.fault_handler.specs.declared.transits.Transit.{Transit}
use Rattle.fault_handler.specs.Desks.{DeskState, IsNode, open_call_of, task_of, moving_of}
use Rattle.fault_handler.specs.Outcomes.{Turn, Moved, ended}
use Rattle.fault_handler.specs.Accesses.{DeskOp, Accessed, Always, access_of}
use Rattle.fault_handler.specs.PageReplies.{PageAnswer, page_answer, page_came_of}
use Rattle.fault_handler.specs.LockCalls.{LockCall, LockAnswer, lock_call, lock_answer, open_call}
use Rattle.fault_handler.specs.Invariant.{IsProc, IsDesk}
use Rattle.fault_handler.specs.Conditions.{IsIdle, IsAccessing}
use Rattle.fault_handler.specs.Ready.{IsReady}
use Rattle.fault_handler.specs.Next.{FitsTurn, IsAsked, IsCallOf, IsNext}
use Rattle.fault_handler.proofs.Outcomes.{Holds}
use Rattle.fault_handler.proofs.Answering.{moves-one}
use Rattle.lock_validate.specs.Releases.{begin_unlock_of, begin_delete_of}
use Rattle.lock_validate.specs.Answers.{answer_came_of}
use Rattle.lock_validate.specs.Faults.{call_failed_of}
use Rattle.lock_validate.proofs.Standing.{lock_call-is, answer-is}
use Rattle.lock_validate.specs.Causes.{Cause, comes_of, MayCome, IsOf}
use Rattle.lock_validate.specs.Untouched.{IsUntouched, IsSameDesk}
use Rattle.lock_validate.specs.Bounded.{IsBounded, IsToldWithin, StaysWithin}
use Rattle.lock_validate.proofs.Bounded.{comes_of-bounded, grant-told}
use Rattle.lock_validate.proofs.Beside.{moves-beside, moves-same}
use Rattle.lock_validate.proofs.DeskStays.{moves-desk}
use Rattle.lock_validate.proofs.DroppedOrder.{moves-rise}
use Rattle.lock_validate.proofs.EachCall.{after-each}
use Rattle.lock_validate.proofs.Leaving.{IsLeft, comes_of-left}
use Rattle.node_runs.specs.Operations.{new_by, list_by, begun, gone_on, Said, said_to_new, said_to_list, said_to_lock, said_to_call, said_by, said_of, answered, access_failed, call_failed, failed}
use Rattle.node_runs.specs.Agreements.{IsCallOpen, IsCalling, IsWaiting}
use Rattle.node_runs.specs.SentFrames.{IsNamedBody}

-- what the desk is for a process whose operation came to this
abbrev pub AfterTurn : DeskState → ℕ → Op → Turn → Type 0
AfterTurn d p op (Turn.Ends reply) = IsIdle d p
AfterTurn d p op (Turn.Asks home ask) = IsCalling d p op ask
AfterTurn d p op (Turn.Waits u k) = IsWaiting d p op

-- a reply that tells of an object that was made names one
abbrev pub IsNamedTurn : Turn → Type 0
IsNamedTurn (Turn.Ends reply) = IsNamedReply reply
IsNamedTurn (Turn.Asks home ask) = Unit {0}
IsNamedTurn (Turn.Waits u k) = Unit {0}

-- it is a desk again, that of the same node, and what it keeps for the other processes stays; the dropped pages rise
pub record IsStill (d : DeskState) (p : ℕ) (m : Moved) : Type 0 where
  pub desk : IsDesk m.desk
  pub same : IsSameDesk d m.desk
  pub beside : (q : ℕ) → IsProc q → q ≢ p → IsUntouched d m.desk q
  pub rising : ArePagesRising m.dropped

pub record IsMoved (d : DeskState) (p : ℕ) (op : Op) (m : Moved) : Type 0 where
  pub still : IsStill d p m
  pub asks : IsAsked m.desk.nodes m.turn
  pub next : AfterTurn m.desk p op m.turn
  pub fits : FitsTurn op m.turn
  pub named : IsNamedTurn m.turn

-- an operation that a desk answers: none of those that only a home does
abbrev pub IsDeskOp : Op → Type 0
IsDeskOp (ops.New home kind room) = ⊥
IsDeskOp (ops.List home after) = ⊥
IsDeskOp op = Unit {0}

calling : (d : DeskState) (p : ℕ) (op : Op) (ask : Ask) → IsDeskOp op → IsCallOpen d p op ask → IsCalling d p op ask
calling d p (ops.New home kind room) ask is call = absurd is
calling d p (ops.List home after) ask is call = absurd is
calling d p (ops.Lock u m) ask is call = call
calling d p (ops.Unlock u) ask is call = call
calling d p (ops.Delete u) ask is call = call
calling d p (ops.Load spot count) ask is call = call
calling d p (ops.Store spot bytes) ask is call = call
calling d p (ops.Length u) ask is call = call
calling d p (ops.Map u) ask is call = call
calling d p (ops.Unmap u) ask is call = call

-- none of them tells of an object that was made
desk-named : (op : Op) (reply : Reply) → IsDeskOp op → Fits op reply → IsNamedReply reply
desk-named (ops.New home kind room) (replies.Made u) is fits = absurd is
desk-named (ops.List home after) (replies.Made u) is fits = absurd is
desk-named (ops.Lock v m) (replies.Made u) is fits = absurd cc
desk-named (ops.Unlock v) (replies.Made u) is fits = absurd cc
desk-named (ops.Delete v) (replies.Made u) is fits = absurd cc
desk-named (ops.Load spot count) (replies.Made u) is fits = absurd cc
desk-named (ops.Store spot bytes) (replies.Made u) is fits = absurd cc
desk-named (ops.Length v) (replies.Made u) is fits = absurd cc
desk-named (ops.Map v) (replies.Made u) is fits = absurd cc
desk-named (ops.Unmap v) (replies.Made u) is fits = absurd cc
desk-named op reply is fits = tt

turn-named : (op : Op) (turn : Turn) → IsDeskOp op → FitsTurn op turn → IsNamedTurn turn
turn-named op (Turn.Ends reply) is fits = desk-named op reply is fits
turn-named op (Turn.Asks home ask) is fits = tt
turn-named op (Turn.Waits u k) is fits = tt

after-turn : (d : DeskState) (p : ℕ) (op : Op) (turn : Turn) → IsDeskOp op → IsReady d p → IsNext d p op turn → AfterTurn d p op turn
after-turn d p op (Turn.Ends reply) is ready next = next
after-turn d p op (Turn.Asks home ask) is ready next = calling d p op ask is (record { opened = next.0; ready = ready; request = next.1 })
after-turn d p op (Turn.Waits u k) is ready next = record { idle = next.0; resumes = next.1 }

-- what is known after each call of a desk
still-each : (d : DeskState) (p : ℕ) (c : Cause) → IsDesk d → IsProc p → MayCome d p c → Always p (IsStill d p) (comes_of d p c)
still-each = after-each (λ (d : DeskState) (p : ℕ) (c : Cause) (m : Moved). IsStill d p m) (λ d p c m is proc made. record {
  desk = moves-desk c m.turn p proc d m.desk m.dropped is made.moves;
  same = moves-same c m.turn p d m.desk m.dropped made.moves;
  beside = λ q other differs. moves-beside c m.turn p q proc other differs d m.desk m.dropped made.moves;
  rising = moves-rise c m.turn p proc d m.desk m.dropped is made.moves;
})

left-moved : (d : DeskState) (p : ℕ) (op : Op) (m : Moved) → IsDeskOp op → IsLeft p op m → IsStill d p m → IsMoved d p op m
left-moved d p op m is left still = record { still = still; asks = left.asks; next = after-turn m.desk p op m.turn is left.ready left.next; fits = left.fits; named = turn-named op m.turn is left.fits }

both : (p : ℕ) (P Q R : Moved → Type 0) (a : Accessed) → ((m : Moved) → P m → Q m → R m) → Holds p P a → Always p Q a → Holds p R a
both p P Q R (Accessed.Settled m) follows holds always = follows m holds always
both p P Q R (Accessed.NeedsRoom d task) follows holds always = (holds.0, holds.1, λ victim may. follows _ (holds.2 victim may) (always victim may))

-- the desk has no part in it
pub untouched : (d : DeskState) (q : ℕ) → IsUntouched d d q
untouched d q = record { nodes = refl; entries = refl; maps = refl; call = refl; task = refl; moving = refl }

still-same : (d : DeskState) (p : ℕ) (turn : Turn) → IsDesk d → IsStill d p (record { desk = d; turn = turn; dropped = [] })
still-same d p turn is = record { desk = is; same = record { node = refl; nodes = refl; frames = refl }; beside = λ q other differs. untouched d q; rising = AllPairs-nil (λ a b. IsTrue (page_lt a b)) }

ended-moved : (d : DeskState) (p : ℕ) (op : Op) (reply : Reply) → IsDesk d → IsIdle d p → Fits op reply → IsNamedReply reply → IsMoved d p op (ended d reply)
ended-moved d p op reply is idle fits named = record { still = still-same d p (Turn.Ends reply) is; asks = tt; next = idle; fits = fits; named = named }

node-is : (opening : Start) (nodes home : ℕ) → nodes ≡ opening.nodes → is_node opening home ≡ true → IsNode nodes home
node-is opening nodes home same is = let e : (nat_le 1 home && nat_le home opening.nodes) ≡ true = is in (grind (arith, nat_tests, e), grind (arith, nat_tests, e, same))

new-moved : (d : DeskState) (p : ℕ) (opening : Start) (home : ℕ) (kind : ObjKind) (room : ℕ) (b : Bool) → d.nodes ≡ opening.nodes → (is_node opening home && nat_le room opening.greatest) ≡ b → IsRoom room → IsDesk d → IsIdle d p
    → IsMoved d p (ops.New home kind room) (new_by d home kind room b)
new-moved d p opening home kind room true nodes may range is idle = record {
  still = still-same d p (Turn.Asks home (Ask.Make kind room)) is;
  asks = (node-is opening d.nodes home nodes (left-true (is_node opening home) (nat_le room opening.greatest) may), range);
  next = (idle, refl);
  fits = tt;
  named = tt;
}
new-moved d p opening home kind room false nodes may range is idle = ended-moved d p (ops.New home kind room) replies.NoSpace is idle refl tt

list-moved : (d : DeskState) (p : ℕ) (opening : Start) (home : ℕ) (after : Option (ObjectName × ProcName)) (b : Bool) → d.nodes ≡ opening.nodes → is_node opening home ≡ b → IsDesk d → IsIdle d p
    → IsMoved d p (ops.List home after) (list_by d home after b)
list-moved d p opening home after true nodes may is idle = record {
  still = still-same d p (Turn.Asks home (Ask.ListLocks after)) is;
  asks = (node-is opening d.nodes home nodes may, tt);
  next = (idle, refl);
  fits = tt;
  named = tt;
}
list-moved d p opening home after false nodes may is idle = ended-moved d p (ops.List home after) (replies.Locks [] false) is idle refl tt

-- what an answer tells lies within a room where the answer does; a link fault tells nothing
abbrev TellsOf : Answer → Cause → Type 0
TellsOf x c = (room : ℕ) → LiesWithin room (body_of_answer x) → IsToldWithin room c

abbrev TellsNothing : Cause → Type 0
TellsNothing c = (room : ℕ) → IsToldWithin room c

module _ (d : DeskState) (p : ℕ) (is : IsDesk d) (proc : IsProc p) where
  -- whatever made the desk move for the operation
  cause-moved : (c : Cause) (op : Op) → IsDeskOp op → MayCome d p c → IsOf d p c op → Holds p (IsMoved d p op) (comes_of d p c)
  cause-moved c op desk may of =
      both p (IsLeft p op) (IsStill d p) (IsMoved d p op) (comes_of d p c) (λ m left still. left-moved d p op m desk left still) (comes_of-left d p is proc c op may of) (still-each d p c is proc may)

  -- an operation begins
  pub begun-moved : (opening : Start) (op : Op) → d.nodes ≡ opening.nodes → IsIdle d p → IsOp op → Holds p (IsMoved d p op) (begun opening d p op)
  begun-moved opening (ops.New home kind room) nodes idle range = new-moved d p opening home kind room (is_node opening home && nat_le room opening.greatest) nodes refl range.1 is idle
  begun-moved opening (ops.List home after) nodes idle range = list-moved d p opening home after (is_node opening home) nodes refl is idle
  begun-moved opening (ops.Lock u m) nodes idle range = cause-moved (Cause.Locks u m) (ops.Lock u m) tt idle refl
  begun-moved opening (ops.Unlock u) nodes idle range = cause-moved (Cause.Releases false u) (ops.Unlock u) tt idle refl
  begun-moved opening (ops.Delete u) nodes idle range = cause-moved (Cause.Releases true u) (ops.Delete u) tt idle refl
  begun-moved opening (ops.Load spot count) nodes idle range = cause-moved (Cause.Accesses (DeskOp.Loads spot count)) (ops.Load spot count) tt (idle, range) refl
  begun-moved opening (ops.Store spot bytes) nodes idle range = cause-moved (Cause.Accesses (DeskOp.Stores spot bytes)) (ops.Store spot bytes) tt (idle, range) refl
  begun-moved opening (ops.Length u) nodes idle range = cause-moved (Cause.Accesses (DeskOp.Measures u)) (ops.Length u) tt (idle, range) refl
  begun-moved opening (ops.Map u) nodes idle range = cause-moved (Cause.Accesses (DeskOp.Maps u)) (ops.Map u) tt (idle, range) refl
  begun-moved opening (ops.Unmap u) nodes idle range = cause-moved (Cause.Accesses (DeskOp.Unmaps u)) (ops.Unmap u) tt (idle, range) refl

  -- an operation goes on after a wait
  pub gone_on-moved : (op : Op) → IsOp op → IsWaiting d p op → (accessed : Accessed) × (gone_on d p op ≡ Some accessed) × Holds p (IsMoved d p op) accessed
  gone_on-moved (ops.Load spot count) range waits =
      (access_of d p (DeskOp.Loads spot count), refl, cause-moved (Cause.Accesses (DeskOp.Loads spot count)) (ops.Load spot count) tt (waits.idle, range) refl)
  gone_on-moved (ops.Store spot bytes) range waits =
      (access_of d p (DeskOp.Stores spot bytes), refl, cause-moved (Cause.Accesses (DeskOp.Stores spot bytes)) (ops.Store spot bytes) tt (waits.idle, range) refl)
  gone_on-moved (ops.Unlock u) range waits = (Accessed.Settled (begin_unlock_of d p u), refl, cause-moved (Cause.Releases false u) (ops.Unlock u) tt waits.idle refl)
  gone_on-moved (ops.Delete u) range waits = (Accessed.Settled (begin_delete_of d p u), refl, cause-moved (Cause.Releases true u) (ops.Delete u) tt waits.idle refl)
  gone_on-moved (ops.Lock u m) range waits = absurd waits.resumes
  gone_on-moved (ops.New home kind room) range waits = absurd waits.resumes
  gone_on-moved (ops.List home after) range waits = absurd waits.resumes
  gone_on-moved (ops.Length u) range waits = absurd waits.resumes
  gone_on-moved (ops.Map u) range waits = absurd waits.resumes
  gone_on-moved (ops.Unmap u) range waits = absurd waits.resumes

  -- an answer that says something came to a New or a List
  new-answered : (home : ℕ) (kind : ObjKind) (room : ℕ) (x : Answer) (said : Said) → IsIdle d p → IsNamedBody (body_of_answer x) → said_to_new x ≡ Some said → Holds p (IsMoved d p (ops.New home kind room)) (answered d p said)
  new-answered home kind room (Answer.Made u) said idle named says =
      subst (λ s. Holds p (IsMoved d p (ops.New home kind room)) (answered d p s)) (same_Some (Said.Replies (replies.Made u)) said says) (ended-moved d p (ops.New home kind room) (replies.Made u) is idle refl named)
  new-answered home kind room Answer.NoSpace said idle named says =
      subst (λ s. Holds p (IsMoved d p (ops.New home kind room)) (answered d p s)) (same_Some (Said.Replies replies.NoSpace) said says) (ended-moved d p (ops.New home kind room) replies.NoSpace is idle refl tt)
  new-answered home kind room x said idle named says = absurd (cc)

  list-answered : (home : ℕ) (after : Option (ObjectName × ProcName)) (x : Answer) (said : Said) → IsIdle d p → IsBody d.node (body_of_answer x) → said_to_list x ≡ Some said → Holds p (IsMoved d p (ops.List home after)) (answered d p said)
  list-answered home after (Answer.Listed rows more) said idle range says =
      subst (λ s. Holds p (IsMoved d p (ops.List home after)) (answered d p s)) (same_Some (Said.Replies (replies.Locks rows more)) said says) (ended-moved d p (ops.List home after) (replies.Locks rows more) is idle (fits-locks rows more range.0) tt)
  list-answered home after x said idle range says = absurd (cc)

  -- which call it is that is none of a lock, an unlock or a removal
  access-is : (call : OpenCall) → lock_call call ≡ None → call ≡ calls.Access
  access-is calls.Access none = refl
  access-is (calls.Lock u m) none = absurd (cc)
  access-is (calls.PageOut u k delete) none = absurd (cc)
  access-is (calls.AttrOut u n delete) none = absurd (cc)
  access-is (calls.Unlock u) none = absurd (cc)
  access-is (calls.Remove u) none = absurd (cc)

  module _ (op : Op) (ask : Ask) (desk : IsDeskOp op) (opens : IsCallOpen d p op ask) where
    accessing : (call : OpenCall) → open_call_of d p ≡ Some call → lock_call call ≡ None → IsAccessing d p
    accessing call there none = there ∙ ap (λ (c : OpenCall). Some c) (access-is call none)

    locking : (call : OpenCall) (c : LockCall) → open_call_of d p ≡ Some call → lock_call call ≡ Some c → open_call_of d p ≡ Some (open_call c)
    locking call c there found = there ∙ ap (λ (o : OpenCall). Some o) (lock_call-is call c found)

    -- an answer came to the desk's open call: what holds of each cause holds of what is said
    module _ (x : Answer) (range : IsBody d.node (body_of_answer x)) (R : Accessed → Type 0) (each : (c : Cause) → MayCome d p c → IsOf d p c op → TellsOf x c → R (comes_of d p c)) where
      page-answered : (a : PageAnswer) → IsAccessing d p → page_answer d p x ≡ Some a → R (page_came_of d p a)
      page-answered a access says = each (Cause.PageCame a) (record { accessing = access; answer = x; says = says; range = range }) opens.opened (λ room low. tt)

      lock-answered : (c : LockCall) (a : LockAnswer) → open_call_of d p ≡ Some (open_call c) → lock_answer c x ≡ Some a → R (Accessed.Settled (answer_came_of d p a))
      lock-answered c a there says =
          each (Cause.AnswerCame a) (record { ready = opens.ready; call = c; opened = there; answer = x; says = says; range = range }) opens.opened (λ room low. grant-told room c x a low says)

      by-lock : (call : OpenCall) (o : Option LockCall) (said : Said) → open_call_of d p ≡ Some call → lock_call call ≡ o → said_to_lock d p x o ≡ Some said → R (answered d p said)
      by-lock call None said there none says =
          let found = map-some Said.ToAccess (page_answer d p x) said says in
          subst (λ s. R (answered d p s)) (sym found.2) (page-answered found.0 (accessing call there none) found.1)
      by-lock call (Some c) said there is_c says =
          let found = map-some Said.ToLock (lock_answer c x) said says in
          subst (λ s. R (answered d p s)) (sym found.2) (lock-answered c found.0 (locking call c there is_c) found.1)

      call-answered : (said : Said) → (open_call_of d p >>= said_to_call d p x) ≡ Some said → R (answered d p said)
      call-answered said says =
          let found = bind-some (open_call_of d p) (said_to_call d p x) said says in
          by-lock found.0 (lock_call found.0) said found.1 refl found.2

    -- the desk's open call is given up
    module _ (R : Accessed → Type 0) (each : (c : Cause) → MayCome d p c → IsOf d p c op → TellsNothing c → R (comes_of d p c)) where
      access-given-up : (t : Transit) → IsAccessing d p → moving_of d p ≡ Some t → R (Accessed.Settled (access_failed d p t))
      access-given-up t access moves = each (Cause.AccessFailed t) (access, moves) opens.opened (λ room. tt)

      lock-given-up : (c : LockCall) → open_call_of d p ≡ Some (open_call c) → R (Accessed.Settled (call_failed_of d p c))
      lock-given-up c there = each (Cause.CallFailed c) (opens.ready, there) opens.opened (λ room. tt)

      by-transit : IsAccessing d p → (o : Option Transit) → moving_of d p ≡ o → (m : Moved) × (option_map (access_failed d p) o ≡ Some m) × R (Accessed.Settled m)
      by-transit access None none = absurd (moves-one d p is proc access none)
      by-transit access (Some t) moves = (access_failed d p t, refl, access-given-up t access moves)

      by-failing : (call : OpenCall) (o : Option LockCall) → open_call_of d p ≡ Some call → lock_call call ≡ o → (m : Moved) × (call_failed d p o ≡ Some m) × R (Accessed.Settled m)
      by-failing call None there none = by-transit (accessing call there none) (moving_of d p) refl
      by-failing call (Some c) there is_c = (call_failed_of d p c, refl, lock-given-up c (locking call c there is_c))

      call-given-up : (o : Option OpenCall) → open_call_of d p ≡ o → IsCallOf op (task_of d p) o → (m : Moved) × ((o >>= λ call. call_failed d p (lock_call call)) ≡ Some m) × R (Accessed.Settled m)
      call-given-up None there own = absurd own
      call-given-up (Some call) there own = by-failing call (lock_call call) there refl

      given-up : (m : Moved) × ((open_call_of d p >>= λ call. call_failed d p (lock_call call)) ≡ Some m) × R (Accessed.Settled m)
      given-up = call-given-up (open_call_of d p) refl opens.opened

  -- an answer that fits
  by-op : (op : Op) (ask : Ask) (x : Answer) (said : Said) → IsCalling d p op ask → IsBody d.node (body_of_answer x) → IsNamedBody (body_of_answer x)
      → said_by d p op x ≡ Some said → Holds p (IsMoved d p op) (answered d p said)
  by-op (ops.New home kind room) ask x said calls range named says = new-answered home kind room x said calls.0 named says
  by-op (ops.List home after) ask x said calls range named says = list-answered home after x said calls.0 range says
  by-op (ops.Lock u m) ask x said calls range named says = call-answered (ops.Lock u m) ask tt calls x range (Holds p (IsMoved d p (ops.Lock u m))) (λ c may of told. cause-moved c (ops.Lock u m) tt may of) said says
  by-op (ops.Unlock u) ask x said calls range named says = call-answered (ops.Unlock u) ask tt calls x range (Holds p (IsMoved d p (ops.Unlock u))) (λ c may of told. cause-moved c (ops.Unlock u) tt may of) said says
  by-op (ops.Delete u) ask x said calls range named says = call-answered (ops.Delete u) ask tt calls x range (Holds p (IsMoved d p (ops.Delete u))) (λ c may of told. cause-moved c (ops.Delete u) tt may of) said says
  by-op (ops.Load spot count) ask x said calls range named says = call-answered (ops.Load spot count) ask tt calls x range (Holds p (IsMoved d p (ops.Load spot count))) (λ c may of told. cause-moved c (ops.Load spot count) tt may of) said says
  by-op (ops.Store spot bytes) ask x said calls range named says = call-answered (ops.Store spot bytes) ask tt calls x range (Holds p (IsMoved d p (ops.Store spot bytes))) (λ c may of told. cause-moved c (ops.Store spot bytes) tt may of) said says
  by-op (ops.Length u) ask x said calls range named says = call-answered (ops.Length u) ask tt calls x range (Holds p (IsMoved d p (ops.Length u))) (λ c may of told. cause-moved c (ops.Length u) tt may of) said says
  by-op (ops.Map u) ask x said calls range named says = call-answered (ops.Map u) ask tt calls x range (Holds p (IsMoved d p (ops.Map u))) (λ c may of told. cause-moved c (ops.Map u) tt may of) said says
  by-op (ops.Unmap u) ask x said calls range named says = call-answered (ops.Unmap u) ask tt calls x range (Holds p (IsMoved d p (ops.Unmap u))) (λ c may of told. cause-moved c (ops.Unmap u) tt may of) said says

  pub answered-moved : (op : Op) (ask : Ask) (body : Body) (said : Said) → IsCalling d p op ask → IsBody d.node body → IsNamedBody body → said_of d p op body ≡ Some said → Holds p (IsMoved d p op) (answered d p said)
  answered-moved op ask body said calls range named says =
      let found = bind-some (answer_of body) (said_by d p op) said says in
      let same : body ≡ body_of_answer found.0 = answer-is body found.0 found.1 in
      by-op op ask found.0 said calls (subst (IsBody d.node) same range) (subst IsNamedBody same named) found.2

  -- a call that is given up
  pub failed-moved : (op : Op) (ask : Ask) → IsCalling d p op ask → (m : Moved) × (failed d p op ≡ Some m) × IsMoved d p op m
  failed-moved (ops.New home kind room) ask calls = (ended d replies.LinkFault, refl, ended-moved d p (ops.New home kind room) replies.LinkFault is calls.0 refl tt)
  failed-moved (ops.List home after) ask calls = (ended d replies.LinkFault, refl, ended-moved d p (ops.List home after) replies.LinkFault is calls.0 refl tt)
  failed-moved (ops.Lock u m) ask calls = given-up (ops.Lock u m) ask tt calls (Holds p (IsMoved d p (ops.Lock u m))) (λ c may of told. cause-moved c (ops.Lock u m) tt may of)
  failed-moved (ops.Unlock u) ask calls = given-up (ops.Unlock u) ask tt calls (Holds p (IsMoved d p (ops.Unlock u))) (λ c may of told. cause-moved c (ops.Unlock u) tt may of)
  failed-moved (ops.Delete u) ask calls = given-up (ops.Delete u) ask tt calls (Holds p (IsMoved d p (ops.Delete u))) (λ c may of told. cause-moved c (ops.Delete u) tt may of)
  failed-moved (ops.Load spot count) ask calls = given-up (ops.Load spot count) ask tt calls (Holds p (IsMoved d p (ops.Load spot count))) (λ c may of told. cause-moved c (ops.Load spot count) tt may of)
  failed-moved (ops.Store spot bytes) ask calls = given-up (ops.Store spot bytes) ask tt calls (Holds p (IsMoved d p (ops.Store spot bytes))) (λ c may of told. cause-moved c (ops.Store spot bytes) tt may of)
  failed-moved (ops.Length u) ask calls = given-up (ops.Length u) ask tt calls (Holds p (IsMoved d p (ops.Length u))) (λ c may of told. cause-moved c (ops.Length u) tt may of)
  failed-moved (ops.Map u) ask calls = given-up (ops.Map u) ask tt calls (Holds p (IsMoved d p (ops.Map u))) (λ c may of told. cause-moved c (ops.Map u) tt may of)
  failed-moved (ops.Unmap u) ask calls = given-up (ops.Unmap u) ask tt calls (Holds p (IsMoved d p (ops.Unmap u))) (λ c may of told. cause-moved c (ops.Unmap u) tt may of)

-- ---- what lies within a room

module _ (room : ℕ) (d : DeskState) (p : ℕ) (is : IsDesk d) (proc : IsProc p) (bounded : IsBounded room d) where
  -- the desk has no part in it
  ends-within : (reply : Reply) → StaysWithin room (ended d reply)
  ends-within reply = record { desk = bounded; asks = tt }

  cause-within : (c : Cause) → MayCome d p c → IsToldWithin room c → Always p (StaysWithin room) (comes_of d p c)
  cause-within c may told = comes_of-bounded room d p c is proc may bounded told

  -- an operation begins
  new-within : (opening : Start) (home : ℕ) (kind : ObjKind) (made : ℕ) (b : Bool) → opening.greatest ≤ room → (is_node opening home && nat_le made opening.greatest) ≡ b → StaysWithin room (new_by d home kind made b)
  new-within opening home kind made true low may =
      let fits = right-true (is_node opening home) (nat_le made opening.greatest) may in
      record { desk = bounded; asks = (let e : made ≤ room = grind (arith, nat_tests, fits, low) in e) }
  new-within opening home kind made false low may = ends-within replies.NoSpace

  list-within : (home : ℕ) (after : Option (ObjectName × ProcName)) (b : Bool) → StaysWithin room (list_by d home after b)
  list-within home after true = record { desk = bounded; asks = tt }
  list-within home after false = ends-within (replies.Locks [] false)

  pub begun-within : (opening : Start) (op : Op) → opening.greatest ≤ room → IsIdle d p → IsOp op → Always p (StaysWithin room) (begun opening d p op)
  begun-within opening (ops.New home kind made) low idle range = new-within opening home kind made (is_node opening home && nat_le made opening.greatest) low refl
  begun-within opening (ops.List home after) low idle range = list-within home after (is_node opening home)
  begun-within opening (ops.Lock u m) low idle range = cause-within (Cause.Locks u m) idle tt
  begun-within opening (ops.Unlock u) low idle range = cause-within (Cause.Releases false u) idle tt
  begun-within opening (ops.Delete u) low idle range = cause-within (Cause.Releases true u) idle tt
  begun-within opening (ops.Load spot count) low idle range = cause-within (Cause.Accesses (DeskOp.Loads spot count)) (idle, range) tt
  begun-within opening (ops.Store spot bytes) low idle range = cause-within (Cause.Accesses (DeskOp.Stores spot bytes)) (idle, range) tt
  begun-within opening (ops.Length u) low idle range = cause-within (Cause.Accesses (DeskOp.Measures u)) (idle, range) tt
  begun-within opening (ops.Map u) low idle range = cause-within (Cause.Accesses (DeskOp.Maps u)) (idle, range) tt
  begun-within opening (ops.Unmap u) low idle range = cause-within (Cause.Accesses (DeskOp.Unmaps u)) (idle, range) tt

  -- an operation goes on after a wait
  pub gone_on-within : (op : Op) (a : Accessed) → IsOp op → IsWaiting d p op → gone_on d p op ≡ Some a → Always p (StaysWithin room) a
  gone_on-within (ops.Load spot count) a range waits goes = subst (Always p (StaysWithin room)) (same_Some (access_of d p (DeskOp.Loads spot count)) a goes) (cause-within (Cause.Accesses (DeskOp.Loads spot count)) (waits.idle, range) tt)
  gone_on-within (ops.Store spot bytes) a range waits goes = subst (Always p (StaysWithin room)) (same_Some (access_of d p (DeskOp.Stores spot bytes)) a goes) (cause-within (Cause.Accesses (DeskOp.Stores spot bytes)) (waits.idle, range) tt)
  gone_on-within (ops.Unlock u) a range waits goes = subst (Always p (StaysWithin room)) (same_Some (Accessed.Settled (begin_unlock_of d p u)) a goes) (cause-within (Cause.Releases false u) waits.idle tt)
  gone_on-within (ops.Delete u) a range waits goes = subst (Always p (StaysWithin room)) (same_Some (Accessed.Settled (begin_delete_of d p u)) a goes) (cause-within (Cause.Releases true u) waits.idle tt)
  gone_on-within (ops.Lock u m) a range waits goes = absurd waits.resumes
  gone_on-within (ops.New home kind made) a range waits goes = absurd waits.resumes
  gone_on-within (ops.List home after) a range waits goes = absurd waits.resumes
  gone_on-within (ops.Length u) a range waits goes = absurd waits.resumes
  gone_on-within (ops.Map u) a range waits goes = absurd waits.resumes
  gone_on-within (ops.Unmap u) a range waits goes = absurd waits.resumes

  -- an answer that fits and lies within the room
  abbrev Within : Accessed → Type 0
  Within a = Always p (StaysWithin room) a

  replied-within : (x : Said) (reply : Reply) → Said.Replies reply ≡ x → Within (answered d p x)
  replied-within x reply same = subst (λ (y : Said). Within (answered d p y)) same (ends-within reply)

  new-said-within : (x : Answer) (said : Said) → said_to_new x ≡ Some said → Within (answered d p said)
  new-said-within (Answer.Made u) said says = replied-within said (replies.Made u) (same_Some (Said.Replies (replies.Made u)) said says)
  new-said-within Answer.NoSpace said says = replied-within said replies.NoSpace (same_Some (Said.Replies replies.NoSpace) said says)
  new-said-within x said says = absurd cc

  list-said-within : (x : Answer) (said : Said) → said_to_list x ≡ Some said → Within (answered d p said)
  list-said-within (Answer.Listed rows more) said says = replied-within said (replies.Locks rows more) (same_Some (Said.Replies (replies.Locks rows more)) said says)
  list-said-within x said says = absurd cc

  module _ (x : Answer) (range : IsBody d.node (body_of_answer x)) (low : LiesWithin room (body_of_answer x)) where
    called-within : (op : Op) (ask : Ask) → IsDeskOp op → IsCallOpen d p op ask → (said : Said) → (open_call_of d p >>= said_to_call d p x) ≡ Some said → Within (answered d p said)
    called-within op ask desk opens said says = call-answered d p is proc op ask desk opens x range Within (λ c may of told. cause-within c may (told room low)) said says

    op-within : (op : Op) (ask : Ask) (said : Said) → IsCalling d p op ask → said_by d p op x ≡ Some said → Within (answered d p said)
    op-within (ops.New home kind made) ask said calls says = new-said-within x said says
    op-within (ops.List home after) ask said calls says = list-said-within x said says
    op-within (ops.Lock u m) ask said calls says = called-within (ops.Lock u m) ask tt calls said says
    op-within (ops.Unlock u) ask said calls says = called-within (ops.Unlock u) ask tt calls said says
    op-within (ops.Delete u) ask said calls says = called-within (ops.Delete u) ask tt calls said says
    op-within (ops.Load spot count) ask said calls says = called-within (ops.Load spot count) ask tt calls said says
    op-within (ops.Store spot bytes) ask said calls says = called-within (ops.Store spot bytes) ask tt calls said says
    op-within (ops.Length u) ask said calls says = called-within (ops.Length u) ask tt calls said says
    op-within (ops.Map u) ask said calls says = called-within (ops.Map u) ask tt calls said says
    op-within (ops.Unmap u) ask said calls says = called-within (ops.Unmap u) ask tt calls said says

  pub answered-within : (op : Op) (ask : Ask) (body : Body) (said : Said) → IsCalling d p op ask → IsBody d.node body → LiesWithin room body → said_of d p op body ≡ Some said → Within (answered d p said)
  answered-within op ask body said calls range low says =
      let found = bind-some (answer_of body) (said_by d p op) said says in
      let same : body ≡ body_of_answer found.0 = answer-is body found.0 found.1 in
      op-within found.0 (subst (IsBody d.node) same range) (subst (LiesWithin room) same low) op ask said calls found.2

  -- a call that is given up
  failed-call : (op : Op) (ask : Ask) (m : Moved) → IsDeskOp op → IsCallOpen d p op ask → (open_call_of d p >>= λ call. call_failed d p (lock_call call)) ≡ Some m → StaysWithin room m
  failed-call op ask m desk opens fails =
      let found = given-up d p is proc op ask desk opens Within (λ c may of told. cause-within c may (told room)) in
      subst (StaysWithin room) (same_Some found.0 m (sym found.1 ∙ fails)) found.2

  pub failed-within : (op : Op) (ask : Ask) (m : Moved) → IsCalling d p op ask → failed d p op ≡ Some m → StaysWithin room m
  failed-within (ops.New home kind made) ask m calls fails = subst (StaysWithin room) (same_Some (ended d replies.LinkFault) m fails) (ends-within replies.LinkFault)
  failed-within (ops.List home after) ask m calls fails = subst (StaysWithin room) (same_Some (ended d replies.LinkFault) m fails) (ends-within replies.LinkFault)
  failed-within (ops.Lock u k) ask m calls fails = failed-call (ops.Lock u k) ask m tt calls fails
  failed-within (ops.Unlock u) ask m calls fails = failed-call (ops.Unlock u) ask m tt calls fails
  failed-within (ops.Delete u) ask m calls fails = failed-call (ops.Delete u) ask m tt calls fails
  failed-within (ops.Load spot count) ask m calls fails = failed-call (ops.Load spot count) ask m tt calls fails
  failed-within (ops.Store spot bytes) ask m calls fails = failed-call (ops.Store spot bytes) ask m tt calls fails
  failed-within (ops.Length u) ask m calls fails = failed-call (ops.Length u) ask m tt calls fails
  failed-within (ops.Map u) ask m calls fails = failed-call (ops.Map u) ask m tt calls fails
  failed-within (ops.Unmap u) ask m calls fails = failed-call (ops.Unmap u) ask m tt calls fails
