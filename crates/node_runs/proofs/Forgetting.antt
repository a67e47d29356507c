-- A node of which what its programs heard is forgotten is alike, and what each node keeps goes over to it. And what stands of
-- a desk where a call of it is made: what is open at the process says which.
use Rattle.std.proofs.Common.{◌≡◌, ℕ, ◌-◌, ◌≤◌, List, map, Option, Some, None, IfSome, refl, sym, ap, subst, ◌∙◌}
use Rattle.std.specs.Prelude.{slice_index_or}
use Rattle.std.proofs.Math.ListN.{get_or-map}
use Rattle.std.proofs.lemmas.List.{length-map}
use Rattle.std.proofs.lemmas.List.Elements.{All-nil}
use Rattle.uid_names.specs.declared.mode.ObjKind.{ObjKind}
use Rattle.uid_names.specs.Names.{ObjectName, ProcName}
use Rattle.uid_names.specs.Wires.{wire_room}
use Rattle.dom_history.specs.declared.op.Op.{Op}
use Rattle.dom_history.specs.declared.op.Op.TheVariants as ops
use Rattle.dom_history.specs.declared.op.Reply.{Reply}
use Rattle.dom_history.specs.Follows.{Heard}
use Rattle.dom_history.specs.Ranges.{IsOp, IsNamedReply, AreNamedReplies}
use Rattle.ring_messages.specs.Bodies.{Ask}
use Rattle.page_server.specs.Serving.{HomeSide}
use Rattle.page_server.specs.ServerStates.{IsSide, IsSideWithin, IsCountedTo}
use Rattle.fault_handler.specs.Desks.{DeskState, at, open_call_of, moving_of}
use Rattle.fault_handler.specs.Conditions.{IsIdle}
use Rattle.fault_handler.specs.Invariant.{IsProc, IsDesk}
use Rattle.fault_handler.specs.Ready.{IsReady}
use Rattle.fault_handler.specs.Next.{IsOpen, IsRequest, MayGoOn}
use Rattle.lock_validate.specs.Bounded.{IsBounded}
use Rattle.node_runs.specs.Setups.{Given}
use Rattle.node_runs.specs.NodeStates.{Asked, BegunOp, OpenOp, ProcState, NodeState, first_proc, proc_of}
use Rattle.node_runs.specs.Agreements.{IsCallOpen, IsCalling, IsOpenCall, Agrees}
use Rattle.node_runs.specs.Told.{AreFitting}
use Rattle.node_runs.specs.Following.{IsWanted, IsFollowed}
use Rattle.node_runs.specs.Dones.{asking, waiting}
use Rattle.node_runs.specs.NodesKeep.{IsOpenWithin, IsNodeWithin, IsOwnDesk, IsNodeOf, IsCounted}
use Rattle.node_runs.specs.Alikes.{AreAlikeProcs, AreAlike, forgetting, forgotten, HasHeardNothing, IsGivenAnew}
use Rattle.node_runs.proofs.Keeping.{IsDeskOp}

-- each node is alike to itself, and what is alike to one of two that are alike is so to the other
pub alike-itself : (n : NodeState) → AreAlike n n
alike-itself n = record { side = refl; desk = refl; procs = λ p. record { doing = refl; last = refl; phase = refl }; many = refl; emitted = refl; tick = refl; phase = refl; ready = refl; marks = λ from phase. refl }

pub alike-back : (n m : NodeState) → AreAlike n m → AreAlike m n
alike-back n m is = record {
  side = sym is.side;
  desk = sym is.desk;
  procs = λ p. record { doing = sym (is.procs p).doing; last = sym (is.procs p).last; phase = sym (is.procs p).phase };
  many = sym is.many;
  emitted = sym is.emitted;
  tick = sym is.tick;
  phase = sym is.phase;
  ready = sym is.ready;
  marks = λ from phase. sym (is.marks from phase);
}

pub alike-on : (n m x : NodeState) → AreAlike n m → AreAlike m x → AreAlike n x
alike-on n m x is next = record {
  side = is.side ∙ next.side;
  desk = is.desk ∙ next.desk;
  procs = λ p. record { doing = (is.procs p).doing ∙ (next.procs p).doing; last = (is.procs p).last ∙ (next.procs p).last; phase = (is.procs p).phase ∙ (next.procs p).phase };
  many = is.many ∙ next.many;
  emitted = is.emitted ∙ next.emitted;
  tick = is.tick ∙ next.tick;
  phase = is.phase ∙ next.phase;
  ready = is.ready ∙ next.ready;
  marks = λ from phase. is.marks from phase ∙ next.marks from phase;
}

-- what stands at a place of the forgotten
forgotten-at : (qs : List ProcState) (i : ℕ) → slice_index_or (map forgetting qs) i first_proc ≡ forgetting (slice_index_or qs i first_proc)
forgotten-at qs i = get_or-map forgetting qs i first_proc

pub forgotten-proc : (n : NodeState) (p : ℕ) → proc_of (forgotten n) p ≡ forgetting (proc_of n p)
forgotten-proc n p = forgotten-at n.procs (p - 1)

pub forgotten-heard : (n : NodeState) → HasHeardNothing (forgotten n)
forgotten-heard n p = ap (λ (q : ProcState). q.heard) (forgotten-proc n p)

pub forgotten-alike : (n : NodeState) → AreAlike n (forgotten n)
forgotten-alike n = record {
  side = refl;
  desk = refl;
  procs = λ p. subst (AreAlikeProcs (proc_of n p)) (sym (forgotten-proc n p)) (record { doing = refl; last = refl; phase = refl });
  many = sym (length-map n.procs forgetting);
  emitted = refl;
  tick = refl;
  phase = refl;
  ready = refl;
  marks = λ from phase. refl;
}

-- one that is alike, and whose programs heard nothing, keeps the same
module _ (g h : Given) (n m : NodeState) (alike : AreAlike n m) (silent : HasHeardNothing m) (anew : IsGivenAnew g h n) where
  own-anew : IsOwnDesk g n.desk → IsOwnDesk h m.desk
  own-anew own = subst (IsOwnDesk h) alike.desk (record { node = own.node ∙ sym anew.number; nodes = own.nodes ∙ sym anew.nodes; frames = own.frames ∙ sym anew.frames })

  agrees-anew : (p : ℕ) → Agrees n.desk p (proc_of n p).last (proc_of n p).doing → Agrees m.desk p (proc_of m p).last (proc_of m p).doing
  agrees-anew p is =
      subst (λ d. Agrees d p (proc_of m p).last (proc_of m p).doing) alike.desk
      (subst (λ o. Agrees n.desk p (proc_of m p).last o) (alike.procs p).doing (subst (λ k. Agrees n.desk p k (proc_of n p).doing) (alike.procs p).last is))

  -- an open operation is wanted, whatever its program heard
  wanted-anew : (p : ℕ) (heard : Heard) (o : Option OpenOp) → (proc_of n p).doing ≡ o → IsWanted (h.asks p heard) o
  wanted-anew p heard None is = tt
  wanted-anew p heard (Some o) is = anew.asks p o heard is

  followed-anew : (p : ℕ) → IsFollowed (h.asks p) (proc_of m p)
  followed-anew p = record {
    wanted = subst (IsWanted (h.asks p (proc_of m p).heard)) (alike.procs p).doing (wanted-anew p (proc_of m p).heard (proc_of n p).doing refl);
    fitting = subst (AreFitting (h.asks p)) (sym (silent p)) tt;
    named = subst AreNamedReplies (sym (silent p)) (All-nil (λ (t : Option Reply). IfSome t IsNamedReply));
  }

  -- all that it knows can be written in the same version
  within-anew : IsNodeWithin (wire_room g.wire) n → IsNodeWithin (wire_room h.wire) m
  within-anew is = subst (λ wire. IsNodeWithin (wire_room wire) m) (sym anew.wire) (record {
    desk = subst (IsBounded (wire_room g.wire)) alike.desk is.desk;
    side = subst (IsSideWithin (wire_room g.wire)) alike.side is.side;
    asked = λ p proc. subst (IsOpenWithin (wire_room g.wire)) (alike.procs p).doing (is.asked p proc);
  })

  pub node-anew : IsNodeOf g n → IsNodeOf h m
  node-anew is = record {
    side = subst IsSide alike.side is.side;
    home = subst (λ (s : HomeSide). s.home.node ≡ h.number) alike.side (is.home ∙ sym anew.number);
    own = own-anew is.own;
    desk = subst IsDesk alike.desk is.desk;
    four = sym alike.many ∙ is.four;
    agrees = λ p proc. agrees-anew p (is.agrees p proc);
    followed = λ p proc. followed-anew p;
    within = within-anew is.within;
  }

pub counted-alike : (n m : NodeState) → AreAlike n m → IsCounted n → IsCounted m
counted-alike n m alike is = record {
  emitted = λ to. subst (λ tick. at m.emitted to 0 ≤ tick) alike.tick (subst (λ es. at es to 0 ≤ n.tick) alike.emitted (is.emitted to));
  last = λ p proc. subst (λ tick. (proc_of m p).last ≤ tick) alike.tick (subst (λ last. last ≤ n.tick) (alike.procs p).last (is.last p proc));
  side = subst (λ tick. IsCountedTo tick m.side) alike.tick (subst (IsCountedTo n.tick) alike.side is.side);
}

pub node-forgotten : (g h : Given) (n : NodeState) → IsGivenAnew g h n → IsNodeOf g n → IsNodeOf h (forgotten n)
node-forgotten g h n anew is = node-anew g h n (forgotten n) (forgotten-alike n) (forgotten-heard n) anew is

pub counted-forgotten : (n : NodeState) → IsCounted n → IsCounted (forgotten n)
counted-forgotten n is = counted-alike n (forgotten n) (forgotten-alike n) is

-- an operation that a desk answers has its call there
pub open-calling : (d : DeskState) (p : ℕ) (op : Op) (ask : Ask) → IsDeskOp op → IsCalling d p op ask → IsCallOpen d p op ask
open-calling d p (ops.New home kind room) ask is calls = absurd is
open-calling d p (ops.List home after) ask is calls = absurd is
open-calling d p (ops.Lock u m) ask is calls = calls
open-calling d p (ops.Unlock u) ask is calls = calls
open-calling d p (ops.Delete u) ask is calls = calls
open-calling d p (ops.Load spot count) ask is calls = calls
open-calling d p (ops.Store spot bytes) ask is calls = calls
open-calling d p (ops.Length u) ask is calls = calls
open-calling d p (ops.Map u) ask is calls = calls
open-calling d p (ops.Unmap u) ask is calls = calls

-- what stands where a desk's call is made
module _ (g : Given) (n : NodeState) (is : IsNodeOf g n) (p : ℕ) (proc : IsProc p) where
  agrees-with : (o : Option OpenOp) → (proc_of n p).doing ≡ o → Agrees n.desk p (proc_of n p).last o
  agrees-with o same = subst (Agrees n.desk p (proc_of n p).last) same (is.agrees p proc)

  -- nothing is open: an operation may begin
  pub idle-when_nothing_is_open : (proc_of n p).doing ≡ None → IsIdle n.desk p
  idle-when_nothing_is_open none = agrees-with None none

  -- it waits for a page: the operation may go on
  module _ (o : BegunOp) (u : ObjectName) (k : ℕ) (waits : (proc_of n p).doing ≡ waiting o u k) where
    pub op-when_waiting : IsOp o.op
    op-when_waiting = (agrees-with (waiting o u k) waits).0

    pub idle-when_waiting : IsIdle n.desk p
    idle-when_waiting = (agrees-with (waiting o u k) waits).1.idle

    pub goes_on-when_waiting : MayGoOn n.desk p o.op
    goes_on-when_waiting = (agrees-with (waiting o u k) waits).1.resumes

  -- a call is open
  module _ (o : BegunOp) (c : Asked) (asks : (proc_of n p).doing ≡ asking o c) where
    pub op-when_asking : IsOp o.op
    op-when_asking = (agrees-with (asking o c) asks).0

    new-calling : (home : ℕ) (kind : ObjKind) (room : ℕ) → o.op ≡ ops.New home kind room → IsIdle n.desk p × (c.ask ≡ Ask.Make kind room)
    new-calling home kind room op = subst (λ x. IsCalling n.desk p x c.ask) op (agrees-with (asking o c) asks).1.0

    list-calling : (home : ℕ) (after : Option (ObjectName × ProcName)) → o.op ≡ ops.List home after → IsIdle n.desk p × (c.ask ≡ Ask.ListLocks after)
    list-calling home after op = subst (λ x. IsCalling n.desk p x c.ask) op (agrees-with (asking o c) asks).1.0

    -- its home is a node, which the request can reach; its number is the last, from 1; and it may be noticed once more
    pub open_call-when_asking : IsOpenCall n.desk.nodes (proc_of n p).last c
    open_call-when_asking = (agrees-with (asking o c) asks).1.1

    -- that of a New or a List: the desk has no part in it
    pub idle-when_new : (home : ℕ) (kind : ObjKind) (room : ℕ) → o.op ≡ ops.New home kind room → IsIdle n.desk p
    idle-when_new home kind room op = (new-calling home kind room op).0

    pub ask-when_new : (home : ℕ) (kind : ObjKind) (room : ℕ) → o.op ≡ ops.New home kind room → c.ask ≡ Ask.Make kind room
    ask-when_new home kind room op = (new-calling home kind room op).1

    pub idle-when_list : (home : ℕ) (after : Option (ObjectName × ProcName)) → o.op ≡ ops.List home after → IsIdle n.desk p
    idle-when_list home after op = (list-calling home after op).0

    pub ask-when_list : (home : ℕ) (after : Option (ObjectName × ProcName)) → o.op ≡ ops.List home after → c.ask ≡ Ask.ListLocks after
    ask-when_list home after op = (list-calling home after op).1

    -- that of another: it is open at the desk
    module _ (desk : IsDeskOp o.op) where
      call_open : IsCallOpen n.desk p o.op c.ask
      call_open = open-calling n.desk p o.op c.ask desk (agrees-with (asking o c) asks).1.0

      pub open-when_asking : IsOpen n.desk p o.op
      open-when_asking = call_open.opened

      pub ready-when_asking : IsReady n.desk p
      ready-when_asking = call_open.ready

      pub request-when_asking : IsRequest (moving_of n.desk p) (open_call_of n.desk p) c.ask
      request-when_asking = call_open.request
