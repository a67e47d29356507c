-- Every event leaves what each node keeps, and the frame that it sends is in its range.
use Rattle.std.proofs.Common.{◌≡◌, ◌≢◌, ℕ, ◌+◌, Bool, true, false, List, [], ◌∷◌, length, Option, Some, None, IfSome, refl, sym, ap, subst, ◌∙◌, arith}
use Rattle.std.specs.Prelude.{◌≤◌, ◌<◌, ◌==◌, ◌&&◌, IsTrue}
use Rattle.std.proofs.lemmas.Bool.Decides.{nat_tests}
use Rattle.std.proofs.lemmas.List.Elements.{All-cons}
use Rattle.std.proofs.lemmas.Option.{same_Some}
use Rattle.uid_names.proofs.InOrder.{AllPairs-nil}
use Rattle.dom_history.specs.Events.{ArePagesRising, page_lt, AreEffects}
use Rattle.dom_history.specs.Programs.{FitsWant}
use Rattle.uid_names.proofs.ListLemmas.{by_cases}
use Rattle.uid_names.specs.Names.{ObjectName}
use Rattle.uid_names.specs.Wires.{IsWire, wire_room}
use Rattle.dom_history.specs.declared.op.Op.{Op}
use Rattle.dom_history.specs.declared.op.Reply.{Reply}
use Rattle.dom_history.specs.declared.op.Want.{Want}
use Rattle.dom_history.specs.declared.op.Want.TheVariants.{Do}
use Rattle.dom_history.specs.declared.event.What.{What}
use Rattle.dom_history.specs.Follows.{Heard}
use Rattle.dom_history.specs.Ranges.{IsOp, IsWant, IsNamedReply, AreNamedReplies}
use Rattle.call_once.specs.declared.asking.TheConstants.{MOST_NOTICES}
use Rattle.call_once.specs.declared.asking.Noticed.TheVariants.{Resend, GiveUp}
use Rattle.call_once.specs.Notices.{noticed}
use Rattle.ring_messages.specs.declared.body.Body.{Body}
use Rattle.ring_messages.specs.Bodies.{Ask, Answer, ask_of, body_of_ask, body_of_answer, kind_of}
use Rattle.ring_messages.specs.Frames.{Message, IsInRange, caller_of}
use Rattle.ring_messages.specs.Ranges.{IsBody, LiesWithin}
use Rattle.ring_messages.proofs.Asking.{asked-body}
use Rattle.page_server.specs.Serving.{HomeSide, serve_of, reply_to}
use Rattle.page_server.specs.ServerStates.{IsSide, IsSideWithin}
use Rattle.page_server.proofs.Sides.{IsSide-served, told-carried}
use Rattle.page_server.proofs.Within.{within-served, told-within}
use Rattle.fault_handler.specs.Desks.{DeskState, at, put_at}
use Rattle.fault_handler.specs.Outcomes.{Turn, Moved}
use Rattle.fault_handler.specs.Accesses.{Accessed}
use Rattle.fault_handler.specs.Invariant.{IsProc, IsDesk}
use Rattle.fault_handler.proofs.Fours.{each-put, length-put}
use Rattle.fault_handler.proofs.Outcomes.{Holds, Holds-always}
use Rattle.lock_validate.specs.Untouched.{IsUntouched, IsSameDesk}
use Rattle.lock_validate.specs.Bounded.{IsBounded, AsksWithin, StaysWithin}
use Rattle.node_runs.specs.Setups.{Given, AreWants, FitsWire}
use Rattle.node_runs.specs.NodeStates.{Asked, Await, BegunOp, OpenOp, ProcState, NodeState, first_proc, proc_of}
use Rattle.node_runs.specs.Operations.{begun, gone_on, Said, said_of, answered, failed}
use Rattle.node_runs.specs.Incomings.{Incoming, has_program}
use Rattle.node_runs.specs.Outcomes.{Stepped, Stage, quiet, sending, turned, dropping, moved}
use Rattle.node_runs.specs.Notes.{Note}
use Rattle.node_runs.specs.Rooms.{MayMove}
use Rattle.node_runs.specs.Doings.{begun_at, stage_of, noticed_call, resends, others_marked, in_next_phase}
use Rattle.node_runs.specs.Dones.{Did, asking, waiting, paused, finished, began, resumed, served, passed_over, heard, ignored, resent, gave_up, got_ready, marked}
use Rattle.node_runs.specs.Agreements.{Agrees}
use Rattle.node_runs.specs.Told.{AreFitting}
use Rattle.node_runs.specs.Following.{IsWanted, IsFollowed}
use Rattle.node_runs.specs.SentFrames.{IsNamedBody, IsFrame, IsIncoming, IsOfWire}
use Rattle.node_runs.specs.NodesKeep.{IsOpenWithin, IsOwnDesk, IsNodeOf}
use Rattle.node_runs.proofs.MakingRoom.{always-may}
use Rattle.node_runs.proofs.Homes.{served-node}
use Rattle.node_runs.proofs.Untouching.{Agrees-untouched}
use Rattle.node_runs.proofs.Keeping.{IsMoved, untouched, begun-moved, gone_on-moved, answered-moved, failed-moved, begun-within, gone_on-within, answered-within, failed-within}

-- the node keeps it all, what it sends is in its range, and what the journal has of it is what events have
pub record Keeps (g : Given) (s : Stepped) : Type 0 where
  pub node : IsNodeOf g s.node
  pub frame : IfSome s.frame IsInRange
  pub effects : AreEffects s.effects

none-rise : ArePagesRising []
none-rise = AllPairs-nil (λ a b. IsTrue (page_lt a b))

quiet-effects : AreEffects (record { dropped = []; sent = None; ended = None })
quiet-effects = record { rising = none-rise; kind = tt; proc = tt }

-- one way in which it may come out
one-way : (p : ℕ) (P : Moved → Type 0) (a : Accessed) (to : Moved) → Holds p P a → MayMove p a to → P to
one-way p P a to holds may = always-may p P a to (Holds-always p P a holds) may

own-same : (g : Given) (d e : DeskState) → IsSameDesk d e → IsOwnDesk g d → IsOwnDesk g e
own-same g d e same own = record { node = same.node ∙ own.node; nodes = same.nodes ∙ own.nodes; frames = same.frames ∙ own.frames }

-- a program was told one thing more, which fits
more-told : (asks : Heard → Want) (q new : ProcState) (t : Option Reply) → IsFollowed asks q → new.heard ≡ t ∷ q.heard → new.doing ≡ None → FitsWant (asks q.heard) t → IfSome t IsNamedReply → IsFollowed asks new
more-told asks q new t is same none fits one = record {
  wanted = subst (IsWanted (asks new.heard)) (sym none) tt;
  fitting = subst (AreFitting asks) (sym same) (fits, is.fitting);
  named = subst AreNamedReplies (sym same) (All-cons (λ (x : Option Reply). IfSome x IsNamedReply) t q.heard one is.named);
}

-- what a process does is still what its program wants
still-wanted : (asks : Heard → Want) (q new : ProcState) → IsFollowed asks q → new.heard ≡ q.heard → IsWanted (asks q.heard) new.doing → IsFollowed asks new
still-wanted asks q new is same wanted = record {
  wanted = subst (λ h. IsWanted (asks h) new.doing) (sym same) wanted;
  fitting = subst (AreFitting asks) (sym same) is.fitting;
  named = subst AreNamedReplies (sym same) is.named;
}

-- a node at another tick, with another side of its home, phase or marks
pub node-with : (g : Given) (n m : NodeState) → IsNodeOf g n → m.desk ≡ n.desk → m.procs ≡ n.procs → IsSide m.side → m.side.home.node ≡ g.number → IsSideWithin (wire_room g.wire) m.side → IsNodeOf g m
node-with g n m is desk procs side home low = record {
  side = side;
  home = home;
  own = subst (IsOwnDesk g) (sym desk) is.own;
  desk = subst IsDesk (sym desk) is.desk;
  four = ap (λ (ps : List ProcState). length ps) procs ∙ is.four;
  agrees = λ p proc. subst (λ (ps : List ProcState). Agrees m.desk p (at ps p first_proc).last (at ps p first_proc).doing) (sym procs) (subst (λ (d : DeskState). Agrees d p (proc_of n p).last (proc_of n p).doing) (sym desk) (is.agrees p proc));
  followed = λ p proc. subst (λ (ps : List ProcState). IsFollowed (g.asks p) (at ps p first_proc)) (sym procs) (is.followed p proc);
  within = record {
    desk = subst (IsBounded (wire_room g.wire)) (sym desk) is.within.desk;
    side = low;
    asked = λ p proc. subst (λ (ps : List ProcState). IsOpenWithin (wire_room g.wire) (at ps p first_proc).doing) (sym procs) (is.within.asked p proc);
  };
}

module _ (g : Given) (version : IsWire g.wire) (n : NodeState) (is : IsNodeOf g n) (late : 1 ≤ n.tick) (p : ℕ) (proc : IsProc p) where
  -- one process does something else, on a desk on which nothing of the others changed
  put-keeps : (d : DeskState) (new : ProcState) (emitted : List ℕ) → IsOwnDesk g d → IsDesk d → ((q : ℕ) → IsProc q → q ≢ p → IsUntouched n.desk d q)
      → Agrees d p new.last new.doing → IsFollowed (g.asks p) new → IsBounded (wire_room g.wire) d → IsOpenWithin (wire_room g.wire) new.doing
      → IsNodeOf g (record n { desk = d; procs = put_at n.procs p new; emitted = emitted })
  put-keeps d new emitted own desk beside here followed bounded asked = record {
    side = is.side;
    home = is.home;
    own = own;
    desk = desk;
    four = length-put n.procs p new is.four;
    agrees = each-put (λ q x. Agrees d q x.last x.doing) n.procs p new first_proc is.four proc here
        (λ q other differs. Agrees-untouched n.desk d q (beside q other differs) (proc_of n q).last (proc_of n q).doing (is.agrees q other));
    followed = each-put (λ q x. IsFollowed (g.asks q) x) n.procs p new first_proc is.four proc followed (λ q other differs. is.followed q other);
    within = record {
      desk = bounded;
      side = is.within.side;
      asked = each-put (λ q x. IsOpenWithin (wire_room g.wire) x.doing) n.procs p new first_proc is.four proc asked (λ q other differs. is.within.asked q other);
    };
  }

  -- what the desk's outcome leaves
  turned-keeps : (o : BegunOp) (stage : Stage) (m : Moved) (turn : Turn) → IsOp o.op → g.asks p (proc_of n p).heard ≡ Do o.op → m.turn ≡ turn → IsMoved n.desk p o.op m → StaysWithin (wire_room g.wire) m
      → Keeps g (dropping m.dropped (turned g (record n { desk = m.desk }) p o stage turn))
  turned-keeps o stage m (Turn.Ends reply) range want same moved low =
      let done = subst (λ (t : Turn). IsMoved n.desk p o.op (record { desk = m.desk; turn = t; dropped = m.dropped })) same moved in record {
        node = put-keeps m.desk _ n.emitted (own-same g n.desk m.desk done.still.same is.own) done.still.desk done.still.beside done.next
            (more-told (g.asks p) (proc_of n p) _ (Some reply) (is.followed p proc) refl refl (subst (λ w. FitsWant w (Some reply)) (sym want) done.fits) done.named) low.desk tt;
        frame = tt;
        effects = record { rising = done.still.rising; kind = tt; proc = proc };
      }
  turned-keeps o stage m (Turn.Asks home ask) range want same moved low =
      let done = subst (λ (t : Turn). IsMoved n.desk p o.op (record { desk = m.desk; turn = t; dropped = m.dropped })) same moved in
      let asks : LiesWithin (wire_room g.wire) (body_of_ask ask) = subst (AsksWithin (wire_room g.wire)) same low.asks in record {
        node = put-keeps m.desk _ _ (own-same g n.desk m.desk done.still.same is.own) done.still.desk done.still.beside
            (range, (done.next, record { home = done.asks.0; body = done.asks.1; number = refl; least = omega arith; few = omega arith })) (still-wanted (g.asks p) (proc_of n p) _ (is.followed p proc) refl want) low.desk asks;
        frame = record { proc_low = proc.0; proc_high = proc.1; number = omega arith; tick = late; body = done.asks.1; version = version; within = asks };
        effects = record { rising = done.still.rising; kind = (kind_of (body_of_ask ask), refl); proc = tt };
      }
  turned-keeps o stage m (Turn.Waits u k) range want same moved low =
      let done = subst (λ (t : Turn). IsMoved n.desk p o.op (record { desk = m.desk; turn = t; dropped = m.dropped })) same moved in record {
        node = put-keeps m.desk _ n.emitted (own-same g n.desk m.desk done.still.same is.own) done.still.desk done.still.beside (range, done.next) (still-wanted (g.asks p) (proc_of n p) _ (is.followed p proc) refl want) low.desk tt;
        frame = tt;
        effects = record { rising = done.still.rising; kind = tt; proc = tt };
      }

  pub moved-keeps : (o : BegunOp) (stage : Stage) (m : Moved) → IsOp o.op → g.asks p (proc_of n p).heard ≡ Do o.op → IsMoved n.desk p o.op m → StaysWithin (wire_room g.wire) m → Keeps g (moved g n p o stage m)
  moved-keeps o stage m range want moved low = turned-keeps o stage m m.turn range want refl moved low

  -- a process that does nothing, or something, agrees so
  agrees-as : (o : Option OpenOp) → (proc_of n p).doing ≡ o → Agrees n.desk p (proc_of n p).last o
  agrees-as o same = subst (Agrees n.desk p (proc_of n p).last) same (is.agrees p proc)

  wants-as : (o : BegunOp) (a : Await) → (proc_of n p).doing ≡ Some (record { began = o; awaits = a }) → g.asks p (proc_of n p).heard ≡ Do o.op
  wants-as o a same = subst (IsWanted (g.asks p (proc_of n p).heard)) same (is.followed p proc).wanted

  began-keeps : (op : Op) (to : Moved) → AreWants g → g.opening.greatest ≤ wire_room g.wire → (proc_of n p).doing ≡ None → g.asks p (proc_of n p).heard ≡ Do op → MayMove p (begun g.opening n.desk p op) to → Keeps g (moved g n p (begun_at g n op) Stage.Starts to)
  began-keeps op to wants rooms none want may =
      let range : IsOp op = subst IsWant want (wants p (proc_of n p).heard (is.followed p proc).fitting (is.followed p proc).named) in
      moved-keeps (begun_at g n op) Stage.Starts to range want (one-way p (IsMoved n.desk p op) (begun g.opening n.desk p op) to (begun-moved n.desk p is.desk proc g.opening op is.own.nodes (agrees-as None none) range) may)
      (always-may p (StaysWithin (wire_room g.wire)) (begun g.opening n.desk p op) to (begun-within (wire_room g.wire) n.desk p is.desk proc is.within.desk g.opening op rooms (agrees-as None none) range) may)

  resumed-keeps : (o : BegunOp) (u : ObjectName) (k : ℕ) (accessed : Accessed) (to : Moved) → (proc_of n p).doing ≡ waiting o u k → gone_on n.desk p o.op ≡ Some accessed → MayMove p accessed to → Keeps g (moved g n p o Stage.Resumes to)
  resumed-keeps o u k accessed to doing goes may =
      let agrees = agrees-as (waiting o u k) doing in
      let found = gone_on-moved n.desk p is.desk proc o.op agrees.0 agrees.1 in
      let holds : Holds p (IsMoved n.desk p o.op) accessed = subst (Holds p (IsMoved n.desk p o.op)) (same_Some found.0 accessed (sym found.1 ∙ goes)) found.2 in
      moved-keeps o Stage.Resumes to agrees.0 (wants-as o (Await.Page u k) doing) (one-way p (IsMoved n.desk p o.op) accessed to holds may)
      (always-may p (StaysWithin (wire_room g.wire)) accessed to (gone_on-within (wire_room g.wire) n.desk p is.desk proc is.within.desk o.op accessed agrees.0 agrees.1 goes) may)

  heard-keeps : (o : BegunOp) (c : Asked) (stage : Stage) (body : Body) (said : Said) (to : Moved) → (proc_of n p).doing ≡ asking o c → IsBody n.desk.node body → LiesWithin (wire_room g.wire) body → IsNamedBody body
      → said_of n.desk p o.op body ≡ Some said → MayMove p (answered n.desk p said) to → Keeps g (moved g n p o stage to)
  heard-keeps o c stage body said to doing range low named says may =
      let agrees = agrees-as (asking o c) doing in
      moved-keeps o stage to agrees.0 (wants-as o (Await.Answer c) doing) (one-way p (IsMoved n.desk p o.op) (answered n.desk p said) to (answered-moved n.desk p is.desk proc o.op c.ask body said agrees.1.0 range named says) may)
      (always-may p (StaysWithin (wire_room g.wire)) (answered n.desk p said) to (answered-within (wire_room g.wire) n.desk p is.desk proc is.within.desk o.op c.ask body said agrees.1.0 range low says) may)

  resend-few : (k : ℕ) → k ≤ MOST_NOTICES → noticed k ≡ Resend → k < MOST_NOTICES
  resend-few k most same = by_cases (k == MOST_NOTICES) (k < MOST_NOTICES) (λ h. absurd (let e : GiveUp ≡ Resend = rw h at same in cc)) (λ h. grind (arith, nat_tests, most, h))

  resent-keeps : (o : BegunOp) (c : Asked) → (proc_of n p).doing ≡ asking o c → noticed (c.waiting.notices + 1) ≡ Resend → Keeps g (resends g n p o (noticed_call c))
  resent-keeps o c doing again =
      let agrees = agrees-as (asking o c) doing in
      let open_call = agrees.1.1 in
      let few = open_call.few in
      let number = open_call.number in
      let least = open_call.least in
      let asked : LiesWithin (wire_room g.wire) (body_of_ask c.ask) = subst (IsOpenWithin (wire_room g.wire)) doing (is.within.asked p proc) in record {
        node = put-keeps n.desk _ _ is.own is.desk (λ q other differs. untouched n.desk q)
            (agrees.0, (agrees.1.0, record { home = open_call.home; body = open_call.body; number = open_call.number; least = open_call.least; few = resend-few (c.waiting.notices + 1) (omega (arith, few)) again })) (still-wanted (g.asks p) (proc_of n p) _ (is.followed p proc) refl (wants-as o (Await.Answer c) doing)) is.within.desk asked;
        frame = record { proc_low = proc.0; proc_high = proc.1; number = omega (arith, number, least); tick = late; body = open_call.body; version = version; within = asked };
        effects = record { rising = none-rise; kind = (kind_of (body_of_ask c.ask), refl); proc = tt };
      }

  gave_up-keeps : (o : BegunOp) (c : Asked) (stage : Stage) (into : Moved) → (proc_of n p).doing ≡ asking o c → failed n.desk p o.op ≡ Some into → Keeps g (moved g n p o stage into)
  gave_up-keeps o c stage into doing fails =
      let agrees = agrees-as (asking o c) doing in
      let found = failed-moved n.desk p is.desk proc o.op c.ask agrees.1.0 in
      moved-keeps o stage into agrees.0 (wants-as o (Await.Answer c) doing) (subst (IsMoved n.desk p o.op) (same_Some found.0 into (sym found.1 ∙ fails)) found.2)
      (failed-within (wire_room g.wire) n.desk p is.desk proc is.within.desk o.op c.ask into agrees.1.0 fails)

-- a request
module _ (g : Given) (n : NodeState) (is : IsNodeOf g n) (late : 1 ≤ n.tick) (m : Message) (frame : IsFrame m) (version : m.version ≡ g.wire) (receiver : m.to ≡ g.number) (ask : Ask) (asks : ask_of m.body ≡ Some ask) where
  abbrev side : HomeSide
  side = (serve_of n.side (caller_of m) m.number ask).side

  side-kept : IsSide side
  side-kept =
      let body : IsBody m.to (body_of_ask ask) = subst (IsBody m.to) (asked-body m.body ask asks) frame.range.body in
      IsSide-served n.side (caller_of m) m.number ask is.side (subst (λ to. IsBody to (body_of_ask ask)) (receiver ∙ sym is.home) body)

  side-low : IsSideWithin (wire_room g.wire) side
  side-low =
      let low : LiesWithin (wire_room m.version) (body_of_ask ask) = subst (LiesWithin (wire_room m.version)) (asked-body m.body ask asks) frame.range.within in
      within-served (wire_room g.wire) n.side (caller_of m) m.number ask is.side is.within.side (subst (λ v. LiesWithin (wire_room v) (body_of_ask ask)) version low)

  side-node : side.home.node ≡ g.number
  side-node = served-node n.side (caller_of m) m.number ask ∙ is.home

  passed-keeps : Keeps g (quiet (record n { side = side }) Note.Nothing)
  passed-keeps = record { node = node-with g n (record n { side = side }) is refl refl side-kept side-node side-low; frame = tt; effects = quiet-effects }

  served-keeps : (answer : Answer) (note : Note) → (serve_of n.side (caller_of m) m.number ask).answer ≡ Some answer → Keeps g (sending (record n { side = side }) (reply_to m n.tick answer) None note)
  served-keeps answer note told = record {
    node = node-with g n _ is refl refl side-kept side-node side-low;
    frame = record {
      proc_low = frame.range.proc_low;
      proc_high = frame.range.proc_high;
      number = frame.range.number;
      tick = late;
      body = told-carried n.side (caller_of m) m.number ask answer is.side told m.from;
      version = frame.range.version;
      within = subst (λ v. LiesWithin (wire_room v) (body_of_answer answer)) (sym version) (told-within (wire_room g.wire) n.side (caller_of m) m.number ask answer is.side is.within.side told);
    };
    effects = record { rising = none-rise; kind = (kind_of (body_of_answer answer), refl); proc = tt };
  }

in_next_phase-keeps : (g : Given) (b : Bool) (n : NodeState) → IsNodeOf g n → IsNodeOf g (in_next_phase b n)
in_next_phase-keeps g true n is = node-with g n (record n { phase = n.phase + 1; ready = false }) is refl refl is.side is.home is.within.side
in_next_phase-keeps g false n is = is

module _ (g : Given) (wants : AreWants g) (wire : FitsWire g.wire g.opening) (procs : (p : ℕ) → has_program g p ≡ true → IsProc p) (n : NodeState) (is : IsNodeOf g n) (late : 1 ≤ n.tick) where
  pub did-keeps : (what : What) (incoming : Incoming) (s : Stepped) → IsIncoming incoming → IsOfWire g.wire incoming → Did g n what incoming s → Keeps g s
  did-keeps what incoming s frame version (paused p has none want) = record {
    node = put-keeps g wire.version n is late p (procs p has) n.desk _ n.emitted is.own is.desk (λ q other differs. untouched n.desk q) (is.agrees p (procs p has))
        (more-told (g.asks p) (proc_of n p) _ None (is.followed p (procs p has)) refl none (subst (λ w. FitsWant w None) (sym want) tt) tt) is.within.desk (is.within.asked p (procs p has));
    frame = tt;
    effects = quiet-effects;
  }
  did-keeps what incoming s frame version (finished p has none want) = record {
    node = put-keeps g wire.version n is late p (procs p has) n.desk _ n.emitted is.own is.desk (λ q other differs. untouched n.desk q) (is.agrees p (procs p has))
        (still-wanted (g.asks p) (proc_of n p) _ (is.followed p (procs p has)) refl (is.followed p (procs p has)).wanted) is.within.desk (is.within.asked p (procs p has));
    frame = tt;
    effects = quiet-effects;
  }
  did-keeps what incoming s frame version (began p op to has none want may) = began-keeps g wire.version n is late p (procs p has) op to wants wire.rooms none want may
  did-keeps what incoming s frame version (resumed p o u k accessed to has doing come goes may) = resumed-keeps g wire.version n is late p (procs p has) o u k accessed to doing goes may
  did-keeps what incoming s frame version (served from index m ask answer sender receiver asks told) = served-keeps g n is late m frame version receiver ask asks answer _ told
  did-keeps what incoming s frame version (passed_over from index m ask sender receiver asks told) = passed-keeps g n is late m frame version receiver ask asks
  did-keeps what incoming s frame version (heard from index m o c said to sender receiver asks doing same says may) =
      heard-keeps g wire.version n is late m.proc (frame.range.proc_low, frame.range.proc_high) o c (stage_of m.number said) m.body said to doing (subst (λ a. IsBody a m.body) (receiver ∙ sym is.own.node) frame.range.body) (subst (λ v. LiesWithin (wire_room v) m.body) version frame.range.within) frame.named says may
  did-keeps what incoming s frame version (ignored from index m sender receiver asks) = record { node = is; frame = tt; effects = quiet-effects }
  did-keeps what incoming s frame version (resent p from to index k tick o c has doing same again) = resent-keeps g wire.version n is late p (procs p has) o c doing again
  did-keeps what incoming s frame version (gave_up p from to index k tick o c into has doing same answer fails) = gave_up-keeps g wire.version n is late p (procs p has) o c (Stage.Settles c.waiting.number) into doing fails
  did-keeps what incoming s frame version (got_ready phase may) =
      let x = record n { ready = true } in record { node = in_next_phase-keeps g (x.ready && others_marked g x) x (node-with g n x is refl refl is.side is.home is.within.side); frame = tt; effects = quiet-effects }
  did-keeps what incoming s frame version (marked from phase tick may) =
      let x = record n { marks = (from, phase) ∷ n.marks } in record { node = in_next_phase-keeps g (x.ready && others_marked g x) x (node-with g n x is refl refl is.side is.home is.within.side); frame = tt; effects = quiet-effects }
