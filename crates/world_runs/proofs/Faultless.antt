-- No reply is that of a link fault but where a call is given up.
use Rattle.std.proofs.Common.{◌≡◌, ℕ, Bool, true, false, Option, Some, None, refl, sym, ap, subst, ◌∙◌}
use Rattle.std.specs.Prelude.{◌&&◌, nat_le, Result, Ok, Err}
use Rattle.std.proofs.lemmas.Option.{same_Some}
use Rattle.uid_names.specs.Names.{ObjectName, ProcName}
use Rattle.uid_names.specs.Openings.{Start}
use Rattle.uid_names.specs.Steps.{◌>>=◌}
use Rattle.uid_names.specs.declared.mode.ObjKind.{ObjKind}
use Rattle.uid_names.proofs.Somes.{bind-some, map-some}
use Rattle.dom_history.specs.declared.op.Op.{Op}
use Rattle.dom_history.specs.declared.op.Op.TheVariants as ops
use Rattle.dom_history.specs.declared.op.Reply.{Reply}
use Rattle.dom_history.specs.declared.op.Reply.TheVariants as replies
use Rattle.dom_history.specs.Objects.{is_node}
use Rattle.dom_history.specs.Ranges.{IsOp}
use Rattle.ring_messages.specs.Bodies.{Ask, Answer, answer_of, body_of_answer}
use Rattle.ring_messages.specs.declared.body.Body.{Body}
use Rattle.ring_messages.specs.Ranges.{IsBody}
use Rattle.address_map.specs.declared.map.MapRefusal.{MapRefusal}
use Rattle.address_map.specs.declared.map.MapRefusal.TheVariants as refusals
use Rattle.fault_handler.specs.declared.open_call.OpenCall.{OpenCall}
use Rattle.fault_handler.specs.declared.open_call.OpenCall.TheVariants as calls
use Rattle.fault_handler.specs.Desks.{DeskState, open_call_of}
use Rattle.fault_handler.specs.Outcomes.{Turn, Moved}
use Rattle.fault_handler.specs.Accesses.{DeskOp, Accessed, Always, map_reply}
use Rattle.fault_handler.specs.PageReplies.{page_answer}
use Rattle.fault_handler.specs.LockCalls.{LockCall, LockAnswer, lock_call, lock_answer, open_call}
use Rattle.fault_handler.specs.Invariant.{IsProc, IsDesk}
use Rattle.fault_handler.specs.Conditions.{IsIdle, IsAccessing}
use Rattle.lock_validate.proofs.Standing.{lock_call-is, answer-is}
use Rattle.lock_validate.specs.Causes.{Cause, comes_of, MayCome}
use Rattle.lock_validate.specs.Left.{answer_reply}
use Rattle.lock_validate.specs.Refusals.{Refuses}
use Rattle.lock_validate.specs.Turns.{Says, IsMade}
use Rattle.lock_validate.proofs.EachCall.{comes_of-made}
use Rattle.lock_validate.proofs.Facts.{Always-then}
use Rattle.node_runs.specs.RunHistories.{is_fault}
use Rattle.node_runs.specs.Operations.{new_by, list_by, begun, gone_on, Said, said_to_new, said_to_list, said_to_lock, said_to_call, said_by, said_of, answered}
use Rattle.node_runs.specs.Agreements.{IsCallOpen, IsCalling}

abbrev pub IsFaultlessTurn : Turn → Type 0
IsFaultlessTurn (Turn.Ends reply) = is_fault reply ≡ false
IsFaultlessTurn (Turn.Asks home ask) = Unit {0}
IsFaultlessTurn (Turn.Waits u k) = Unit {0}

abbrev pub IsFaultless : Moved → Type 0
IsFaultless m = IsFaultlessTurn m.turn

-- no call is given up
abbrev IsNoFailure : Cause → Type 0
IsNoFailure (Cause.AccessFailed t) = ⊥
IsNoFailure (Cause.CallFailed call) = ⊥
IsNoFailure c = Unit {0}

refuses-faultless : (d : DeskState) (p : ℕ) (c : Cause) (reply : Reply) → Refuses d p c reply → is_fault reply ≡ false
refuses-faultless d p c reply (Refuses.load_unmapped spot count a) = refl
refuses-faultless d p c reply (Refuses.load_unheld spot count u offset a b) = refl
refuses-faultless d p c reply (Refuses.load_past_end spot count u offset a b e) = refl
refuses-faultless d p c reply (Refuses.store_unmapped spot bytes a) = refl
refuses-faultless d p c reply (Refuses.store_unheld spot bytes u offset a b) = refl
refuses-faultless d p c reply (Refuses.store_mode spot bytes u offset a b e) = refl
refuses-faultless d p c reply (Refuses.store_past_room spot bytes u offset a b e f) = refl
refuses-faultless d p c reply (Refuses.length_unheld u a) = refl
refuses-faultless d p c reply (Refuses.map_unheld u a) = refl
refuses-faultless d p c reply (Refuses.unmap_none u a) = refl
refuses-faultless d p c reply (Refuses.lock_held u m a) = refl
refuses-faultless d p c reply (Refuses.lock_unsettled u m a b) = refl
refuses-faultless d p c reply (Refuses.lock_full u m a b) = refl
refuses-faultless d p c reply (Refuses.lock_elsewhere u m a b e) = refl
refuses-faultless d p c reply (Refuses.unlock_free u a) = refl
refuses-faultless d p c reply (Refuses.delete_unheld u a) = refl
refuses-faultless d p c reply (Refuses.delete_mode u a b) = refl

answer-faultless : (a : LockAnswer) (reply : Reply) → answer_reply a ≡ Some reply → is_fault reply ≡ false
answer-faultless (LockAnswer.Granted u m grant stamp room length) reply e = ap is_fault (sym (same_Some replies.Fine reply e))
answer-faultless (LockAnswer.Refused q held) reply e = ap is_fault (sym (same_Some (replies.Conflict q held) reply e))
answer-faultless (LockAnswer.Gone u) reply e = ap is_fault (sym (same_Some replies.NoObject reply e))
answer-faultless (LockAnswer.PageSettled u delete taken stamp) reply e = absurd (cc)
answer-faultless (LockAnswer.LengthSettled u length delete taken stamp) reply e = absurd (cc)
answer-faultless (LockAnswer.Released u) reply e = ap is_fault (sym (same_Some replies.Fine reply e))
answer-faultless (LockAnswer.Removed u) reply e = ap is_fault (sym (same_Some replies.Fine reply e))

map-faultless : (r : Result (ℕ × Bool) MapRefusal) → is_fault (map_reply r) ≡ false
map-faultless (Ok (address, fresh)) = refl
map-faultless (Err refusals.TooManyMaps) = refl
map-faultless (Err refusals.NoSegment) = refl

says-faultless : (d : DeskState) (p : ℕ) (e : DeskState) (c : Cause) (turn : Turn) → IsNoFailure c → Says d p e c turn → IsFaultlessTurn turn
says-faultless d p e c turn none (Says.refuses c2 reply refuses same) = refuses-faultless d p c reply refuses
says-faultless d p e c turn none (Says.loads c2 task count r is work page) = refl
says-faultless d p e c turn none (Says.stores c2 task bytes r is work page length) = refl
says-faultless d p e c turn none (Says.measures u held) = refl
says-faultless d p e c turn none (Says.maps u held) = map-faultless _
says-faultless d p e c turn none (Says.unmaps u mapped) = refl
says-faultless d p e c turn none (Says.answers a reply is leaves) = answer-faultless a reply is
says-faultless d p e c turn none (Says.access_fails t) = absurd none
says-faultless d p e c turn none (Says.call_fails call leaves) = absurd none
says-faultless d p e c turn none (Says.waits c2 task is page others) = tt
says-faultless d p e c turn none (Says.waits_to_release c2 delete u k is other) = tt
says-faultless d p e c turn none (Says.asks_page c2 task is fetches) = tt
says-faultless d p e c turn none (Says.sends_room c2 task r is makes) = tt
says-faultless d p e c turn none (Says.sends_page c2 delete u k r is opened sends) = tt
says-faultless d p e c turn none (Says.sends_length c2 delete u n is opened changed) = tt
says-faultless d p e c turn none (Says.asks_lock u m opened) = tt
says-faultless d p e c turn none (Says.gives_up c2 delete u is opened may settled) = tt

module _ (d : DeskState) (p : ℕ) (is : IsDesk d) (proc : IsProc p) where
  cause-faultless : (c : Cause) → IsNoFailure c → MayCome d p c → Always p IsFaultless (comes_of d p c)
  cause-faultless c none may = Always-then p (IsMade c p d) IsFaultless (λ m made. says-faultless d p m.desk c m.turn none made.says) (comes_of d p c) (comes_of-made d p c is proc may)

  new-faultless : (home : ℕ) (kind : ObjKind) (room : ℕ) (b : Bool) → IsFaultless (new_by d home kind room b)
  new-faultless home kind room true = tt
  new-faultless home kind room false = refl

  list-faultless : (home : ℕ) (after : Option (ObjectName × ProcName)) (b : Bool) → IsFaultless (list_by d home after b)
  list-faultless home after true = tt
  list-faultless home after false = refl

  -- an operation begins
  pub begun-faultless : (opening : Start) (op : Op) → IsIdle d p → IsOp op → Always p IsFaultless (begun opening d p op)
  begun-faultless opening (ops.New home kind room) idle range = new-faultless home kind room (is_node opening home && nat_le room opening.greatest)
  begun-faultless opening (ops.List home after) idle range = list-faultless home after (is_node opening home)
  begun-faultless opening (ops.Lock u m) idle range = cause-faultless (Cause.Locks u m) tt idle
  begun-faultless opening (ops.Unlock u) idle range = cause-faultless (Cause.Releases false u) tt idle
  begun-faultless opening (ops.Delete u) idle range = cause-faultless (Cause.Releases true u) tt idle
  begun-faultless opening (ops.Load spot count) idle range = cause-faultless (Cause.Accesses (DeskOp.Loads spot count)) tt (idle, range)
  begun-faultless opening (ops.Store spot bytes) idle range = cause-faultless (Cause.Accesses (DeskOp.Stores spot bytes)) tt (idle, range)
  begun-faultless opening (ops.Length u) idle range = cause-faultless (Cause.Accesses (DeskOp.Measures u)) tt (idle, range)
  begun-faultless opening (ops.Map u) idle range = cause-faultless (Cause.Accesses (DeskOp.Maps u)) tt (idle, range)
  begun-faultless opening (ops.Unmap u) idle range = cause-faultless (Cause.Accesses (DeskOp.Unmaps u)) tt (idle, range)

  -- it goes on after a wait
  same-accessed : (a b : Accessed) → Some a ≡ Some b → Always p IsFaultless a → Always p IsFaultless b
  same-accessed a b e = subst (Always p IsFaultless) (same_Some a b e)

  pub gone_on-faultless : (op : Op) → IsOp op → IsIdle d p → (accessed : Accessed) → gone_on d p op ≡ Some accessed → Always p IsFaultless accessed
  gone_on-faultless (ops.Load spot count) range idle accessed e = same-accessed _ accessed e (cause-faultless (Cause.Accesses (DeskOp.Loads spot count)) tt (idle, range))
  gone_on-faultless (ops.Store spot bytes) range idle accessed e = same-accessed _ accessed e (cause-faultless (Cause.Accesses (DeskOp.Stores spot bytes)) tt (idle, range))
  gone_on-faultless (ops.Unlock u) range idle accessed e = same-accessed _ accessed e (cause-faultless (Cause.Releases false u) tt idle)
  gone_on-faultless (ops.Delete u) range idle accessed e = same-accessed _ accessed e (cause-faultless (Cause.Releases true u) tt idle)
  gone_on-faultless (ops.Lock u m) range idle accessed e = absurd (cc)
  gone_on-faultless (ops.New home kind room) range idle accessed e = absurd (cc)
  gone_on-faultless (ops.List home after) range idle accessed e = absurd (cc)
  gone_on-faultless (ops.Length u) range idle accessed e = absurd (cc)
  gone_on-faultless (ops.Map u) range idle accessed e = absurd (cc)
  gone_on-faultless (ops.Unmap u) range idle accessed e = absurd (cc)

  -- an answer comes
  by-said : (said : Said) (x : Said) → Some x ≡ Some said → Always p IsFaultless (answered d p x) → Always p IsFaultless (answered d p said)
  by-said said x e = subst (λ (y : Said). Always p IsFaultless (answered d p y)) (same_Some x said e)

  new-answered : (x : Answer) (said : Said) → said_to_new x ≡ Some said → Always p IsFaultless (answered d p said)
  new-answered (Answer.Made u) said says = by-said said (Said.Replies (replies.Made u)) says refl
  new-answered Answer.NoSpace said says = by-said said (Said.Replies replies.NoSpace) says refl
  new-answered x said says = absurd (cc)

  list-answered : (x : Answer) (said : Said) → said_to_list x ≡ Some said → Always p IsFaultless (answered d p said)
  list-answered (Answer.Listed rows more) said says = by-said said (Said.Replies (replies.Locks rows more)) says refl
  list-answered x said says = absurd (cc)

  access-is : (call : OpenCall) → lock_call call ≡ None → call ≡ calls.Access
  access-is calls.Access none = refl
  access-is (calls.Lock u m) none = absurd (cc)
  access-is (calls.PageOut u k delete) none = absurd (cc)
  access-is (calls.AttrOut u n delete) none = absurd (cc)
  access-is (calls.Unlock u) none = absurd (cc)
  access-is (calls.Remove u) none = absurd (cc)

  module _ (op : Op) (ask : Ask) (opens : IsCallOpen d p op ask) (x : Answer) (range : IsBody d.node (body_of_answer x)) where
    by-lock : (call : OpenCall) (o : Option LockCall) (said : Said) → open_call_of d p ≡ Some call → lock_call call ≡ o → said_to_lock d p x o ≡ Some said → Always p IsFaultless (answered d p said)
    by-lock call None said there none says =
        let found = map-some Said.ToAccess (page_answer d p x) said says in
        let access : IsAccessing d p = there ∙ ap (λ (c : OpenCall). Some c) (access-is call none) in
        subst (λ (y : Said). Always p IsFaultless (answered d p y)) (sym found.2)
        (cause-faultless (Cause.PageCame found.0) tt (record { accessing = access; answer = x; says = found.1; range = range }))
    by-lock call (Some c) said there is_c says =
        let found = map-some Said.ToLock (lock_answer c x) said says in
        let locking : open_call_of d p ≡ Some (open_call c) = there ∙ ap (λ (o : OpenCall). Some o) (lock_call-is call c is_c) in
        subst (λ (y : Said). Always p IsFaultless (answered d p y)) (sym found.2)
        (cause-faultless (Cause.AnswerCame found.0) tt (record { ready = opens.ready; call = c; opened = locking; answer = x; says = found.1; range = range }))

    call-answered : (said : Said) → (open_call_of d p >>= said_to_call d p x) ≡ Some said → Always p IsFaultless (answered d p said)
    call-answered said says =
        let found = bind-some (open_call_of d p) (said_to_call d p x) said says in
        by-lock found.0 (lock_call found.0) said found.1 refl found.2

  by-op : (op : Op) (ask : Ask) (x : Answer) (said : Said) → IsCalling d p op ask → IsBody d.node (body_of_answer x) → said_by d p op x ≡ Some said → Always p IsFaultless (answered d p said)
  by-op (ops.New home kind room) ask x said calls range says = new-answered x said says
  by-op (ops.List home after) ask x said calls range says = list-answered x said says
  by-op (ops.Lock u m) ask x said calls range says = call-answered (ops.Lock u m) ask calls x range said says
  by-op (ops.Unlock u) ask x said calls range says = call-answered (ops.Unlock u) ask calls x range said says
  by-op (ops.Delete u) ask x said calls range says = call-answered (ops.Delete u) ask calls x range said says
  by-op (ops.Load spot count) ask x said calls range says = call-answered (ops.Load spot count) ask calls x range said says
  by-op (ops.Store spot bytes) ask x said calls range says = call-answered (ops.Store spot bytes) ask calls x range said says
  by-op (ops.Length u) ask x said calls range says = call-answered (ops.Length u) ask calls x range said says
  by-op (ops.Map u) ask x said calls range says = call-answered (ops.Map u) ask calls x range said says
  by-op (ops.Unmap u) ask x said calls range says = call-answered (ops.Unmap u) ask calls x range said says

  pub answered-faultless : (op : Op) (ask : Ask) (body : Body) (said : Said) → IsCalling d p op ask → IsBody d.node body → said_of d p op body ≡ Some said → Always p IsFaultless (answered d p said)
  answered-faultless op ask body said calls range says =
      let found = bind-some (answer_of body) (said_by d p op) said says in
      let same : body ≡ body_of_answer found.0 = answer-is body found.0 found.1 in
      by-op op ask found.0 said calls (subst (IsBody d.node) same range) found.2
