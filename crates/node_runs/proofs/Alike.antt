-- At nodes that are alike an event comes to the same. The second is written with all of the first but its processes and
-- marks, and so what it is given.
use Rattle.std.proofs.Common.{◌≡◌, ℕ, ◌+◌, ◌-◌, Bool, true, false, List, [], ◌∷◌, length, Option, Some, None, refl, sym, ap, subst, ◌∙◌}
use Rattle.std.specs.Prelude.{◌==◌, nat_le, nat_lt, not, ◌&&◌, ◌||◌, is_none}
use Rattle.std.specs.Option.{option_map}
use Rattle.std.proofs.lemmas.List.{length-set}
use Rattle.std.proofs.lemmas.Option.{same_Some}
use Rattle.uid_names.specs.Names.{ObjectName}
use Rattle.uid_names.specs.Openings.{Start}
use Rattle.uid_names.proofs.Passed.{left-true}
use Rattle.uid_names.proofs.Somes.{map-some}
use Rattle.dom_history.specs.declared.op.Op.{Op}
use Rattle.dom_history.specs.declared.op.Op.TheVariants as ops
use Rattle.dom_history.specs.declared.op.Reply.{Reply}
use Rattle.dom_history.specs.declared.op.Want.{Want}
use Rattle.dom_history.specs.declared.op.Want.TheVariants.{Do, Phase, Done}
use Rattle.dom_history.specs.declared.event.What.{What}
use Rattle.dom_history.specs.declared.event.What.TheVariants.{Begin, Go, Take, Notice, Ready, Mark}
use Rattle.dom_history.specs.declared.event.Effects.{Effects}
use Rattle.dom_history.specs.Objects.{is_node}
use Rattle.call_once.specs.Notices.{noticed}
use Rattle.call_once.specs.Calls.{looked, last_of}
use Rattle.call_once.specs.declared.asking.Noticed.{Noticed}
use Rattle.call_once.specs.declared.asking.Noticed.TheVariants.{Resend, GiveUp}
use Rattle.call_once.specs.declared.served.Looked.{Looked}
use Rattle.ring_messages.specs.Bodies.{Ask, Answer, ask_of}
use Rattle.ring_messages.specs.Frames.{Message, caller_of}
use Rattle.page_server.specs.Serving.{HomeSide, serve_of}
use Rattle.fault_handler.specs.Desks.{DeskState, at, put_at}
use Rattle.fault_handler.specs.Outcomes.{Turn, Moved}
use Rattle.fault_handler.specs.Accesses.{Accessed}
use Rattle.node_runs.specs.Setups.{Given}
use Rattle.node_runs.specs.NodeStates.{Asked, Await, BegunOp, OpenOp, ProcState, NodeState, first_proc, proc_of, emitted_to, name_of, is_at_end, is_marked}
use Rattle.node_runs.specs.Operations.{new_by, list_by, begun, gone_on, Said, said_of, failed}
use Rattle.node_runs.specs.Incomings.{Incoming, has_program, may_go, may_notice, may_happen}
use Rattle.node_runs.specs.Notes.{Note}
use Rattle.node_runs.specs.Outcomes.{Stepped, Stage, quiet, end_note, next_call, ends, asks, waits, turned, dropping, moved}
use Rattle.node_runs.specs.Rooms.{moved_as_named}
use Rattle.node_runs.specs.Doings.{Doing, begun_at, pauses, finishes, begins, goes_on, replies, serves, hears_said, hears_if, hears_at, hears, takes, noticed_call, resends, gives_up, notices_as, notices_at, notices, in_next_phase, node_numbers, others_marked, after_marks, event_of}
use Rattle.node_runs.specs.Steps.{stepped_as_named}
use Rattle.node_runs.specs.Alikes.{AreAlikeProcs, AreAlike, HeardMore, AreAlikeSteps}
use Rattle.node_runs.proofs.AlikeProcs.{AreToldAlike, told-nothing, put-both, all-same, all-alike}

-- an operation begins alike where there are as many nodes and objects may be as large
begun-same : (a b : Start) → a.nodes ≡ b.nodes → a.greatest ≡ b.greatest → (d : DeskState) (p : ℕ) (op : Op) → begun a d p op ≡ begun b d p op
begun-same a b nodes greatest d p (ops.New home kind room) =
    ap (λ k. Accessed.Settled (new_by d home kind room ((nat_le 1 home && nat_le home k) && nat_le room a.greatest))) nodes ∙ ap (λ k. Accessed.Settled (new_by d home kind room (is_node b home && nat_le room k))) greatest
begun-same a b nodes greatest d p (ops.List home after) = ap (λ k. Accessed.Settled (list_by d home after (nat_le 1 home && nat_le home k))) nodes
begun-same a b nodes greatest d p (ops.Lock u m) = refl
begun-same a b nodes greatest d p (ops.Unlock u) = refl
begun-same a b nodes greatest d p (ops.Delete u) = refl
begun-same a b nodes greatest d p (ops.Load spot count) = refl
begun-same a b nodes greatest d p (ops.Store spot bytes) = refl
begun-same a b nodes greatest d p (ops.Length u) = refl
begun-same a b nodes greatest d p (ops.Map u) = refl
begun-same a b nodes greatest d p (ops.Unmap u) = refl

-- what two events come to is alike; of one that is not there nothing is said
abbrev SameDoing : NodeState → NodeState → Doing → Doing → Type 0
SameDoing n m (Doing.Does s) event = (t : Stepped) × (event ≡ Doing.Does t) × AreAlikeSteps n m s t
SameDoing n m (Doing.Moves p o stage accessed) event = event ≡ Doing.Moves p o stage accessed

abbrev SameFound : NodeState → NodeState → Option Doing → Option Doing → Type 0
SameFound n m None found = Unit {0}
SameFound n m (Some event) found = (same : Doing) × (found ≡ Some same) × SameDoing n m event same

module _ (g other_given : Given) (n other : NodeState) (alike : (p : ℕ) → AreAlikeProcs (proc_of n p) (proc_of other p)) (long : length n.procs ≡ length other.procs)
    (marked : (from phase : ℕ) → is_marked n from phase ≡ is_marked other from phase) where
  abbrev h : Given
  h = record other_given { number = g.number; wire = g.wire; phases = g.phases }

  abbrev m : NodeState
  m = record n { procs = other.procs; marks = other.marks }

  -- one process of each is another
  put-alike : (p : ℕ) (x y : ProcState) → AreToldAlike (proc_of n p) x (proc_of m p) y → (j : ℕ) → AreToldAlike (proc_of n j) (at (put_at n.procs p x) j first_proc) (proc_of m j) (at (put_at m.procs p y) j first_proc)
  put-alike p x y told j = put-both AreToldAlike n.procs m.procs (p - 1) (j - 1) x y first_proc long (told-nothing (proc_of n j) (proc_of m j) (alike j)) told

  put-node : (d : DeskState) (emitted : List ℕ) (p : ℕ) (x y : ProcState) → AreToldAlike (proc_of n p) x (proc_of m p) y
      → AreAlike (record n { desk = d; procs = put_at n.procs p x; emitted = emitted }) (record m { desk = d; procs = put_at m.procs p y; emitted = emitted })
  put-node d emitted p x y told = record {
    side = refl;
    desk = refl;
    procs = λ j. (put-alike p x y told j).alike;
    many = length-set n.procs (p - 1) x ∙ long ∙ sym (length-set m.procs (p - 1) y);
    emitted = refl;
    tick = refl;
    phase = refl;
    ready = refl;
    marks = marked;
  }

  put-heard : (d : DeskState) (emitted : List ℕ) (p : ℕ) (x y : ProcState) → AreToldAlike (proc_of n p) x (proc_of m p) y
      → (j : ℕ) → HeardMore j n (record n { desk = d; procs = put_at n.procs p x; emitted = emitted }) m (record m { desk = d; procs = put_at m.procs p y; emitted = emitted })
  put-heard d emitted p x y told j = let t = put-alike p x y told j in record { told = t.told; here = t.here; there = t.there }

  -- a process that was told nothing, and does something else
  told-doing : (p : ℕ) (doing : Option OpenOp) → AreToldAlike (proc_of n p) (record (proc_of n p) { doing = doing }) (proc_of m p) (record (proc_of m p) { doing = doing })
  told-doing p doing = record { alike = record { doing = refl; last = (alike p).last; phase = (alike p).phase }; told = []; here = refl; there = refl }

  told-calls : (p : ℕ) (doing : Option OpenOp) (last : ℕ) → AreToldAlike (proc_of n p) (record (proc_of n p) { doing = doing; last = last }) (proc_of m p) (record (proc_of m p) { doing = doing; last = last })
  told-calls p doing last = record { alike = record { doing = refl; last = refl; phase = (alike p).phase }; told = []; here = refl; there = refl }

  told-reply : (p : ℕ) (reply : Reply)
      → AreToldAlike (proc_of n p) (record (proc_of n p) { doing = None; heard = Some reply ∷ (proc_of n p).heard }) (proc_of m p) (record (proc_of m p) { doing = None; heard = Some reply ∷ (proc_of m p).heard })
  told-reply p reply = record { alike = record { doing = refl; last = (alike p).last; phase = (alike p).phase }; told = Some reply ∷ []; here = refl; there = refl }

  told-phase : (p : ℕ) → AreToldAlike (proc_of n p) (record (proc_of n p) { heard = None ∷ (proc_of n p).heard; phase = (proc_of n p).phase + 1 })
      (proc_of m p) (record (proc_of m p) { heard = None ∷ (proc_of m p).heard; phase = (proc_of m p).phase + 1 })
  told-phase p = record { alike = record { doing = (alike p).doing; last = (alike p).last; phase = ap (λ k. k + 1) (alike p).phase }; told = None ∷ []; here = refl; there = refl }

  told-done : (p phase : ℕ) → AreToldAlike (proc_of n p) (record (proc_of n p) { phase = phase }) (proc_of m p) (record (proc_of m p) { phase = phase })
  told-done p phase = record { alike = record { doing = (alike p).doing; last = (alike p).last; phase = refl }; told = []; here = refl; there = refl }

  -- what a desk's outcome leaves
  ends-alike : (d : DeskState) (p : ℕ) (o : BegunOp) (stage : Stage) (reply : Reply) → AreAlikeSteps n m (ends g (record n { desk = d }) p o stage reply) (ends h (record m { desk = d }) p o stage reply)
  ends-alike d p o stage reply = record {
    node = put-node d n.emitted p _ _ (told-reply p reply);
    heard = put-heard d n.emitted p _ _ (told-reply p reply);
    frame = refl;
    call = refl;
    effects = refl;
    note = ap (λ k. end_note stage (name_of g p) k o reply) (alike p).phase;
  }

  call-alike : (d : DeskState) (p : ℕ) (o : BegunOp) (stage : Stage) (call : Asked) → AreAlikeSteps n m (asks g (record n { desk = d }) p o stage call) (asks h (record m { desk = d }) p o stage call)
  call-alike d p o stage call = record {
    node = put-node d (put_at n.emitted call.home (emitted_to n call.home + 1)) p _ _ (told-calls p (Some (record { began = o; awaits = Await.Answer call })) call.waiting.number);
    heard = put-heard d (put_at n.emitted call.home (emitted_to n call.home + 1)) p _ _ (told-calls p (Some (record { began = o; awaits = Await.Answer call })) call.waiting.number);
    frame = refl;
    call = refl;
    effects = refl;
    note = refl;
  }

  asks-alike : (d : DeskState) (p : ℕ) (o : BegunOp) (stage : Stage) (home : ℕ) (ask : Ask)
      → AreAlikeSteps n m (asks g (record n { desk = d }) p o stage (next_call (proc_of n p) home ask)) (asks h (record m { desk = d }) p o stage (next_call (proc_of m p) home ask))
  asks-alike d p o stage home ask =
      subst (λ k. AreAlikeSteps n m (asks g (record n { desk = d }) p o stage (next_call (proc_of n p) home ask)) (asks h (record m { desk = d }) p o stage (record { waiting = record { number = k + 1; notices = 0 }; home = home; ask = ask })))
      (alike p).last (call-alike d p o stage (next_call (proc_of n p) home ask))

  waits-alike : (d : DeskState) (p : ℕ) (o : BegunOp) (stage : Stage) (u : ObjectName) (k : ℕ) → AreAlikeSteps n m (waits g (record n { desk = d }) p o stage u k) (waits h (record m { desk = d }) p o stage u k)
  waits-alike d p o stage u k = record {
    node = put-node d n.emitted p _ _ (told-doing p (Some (record { began = o; awaits = Await.Page u k })));
    heard = put-heard d n.emitted p _ _ (told-doing p (Some (record { began = o; awaits = Await.Page u k })));
    frame = refl;
    call = refl;
    effects = refl;
    note = refl;
  }

  turned-alike : (d : DeskState) (p : ℕ) (o : BegunOp) (stage : Stage) (turn : Turn) → AreAlikeSteps n m (turned g (record n { desk = d }) p o stage turn) (turned h (record m { desk = d }) p o stage turn)
  turned-alike d p o stage (Turn.Ends reply) = ends-alike d p o stage reply
  turned-alike d p o stage (Turn.Asks home ask) = asks-alike d p o stage home ask
  turned-alike d p o stage (Turn.Waits u k) = waits-alike d p o stage u k

  dropping-alike : (dropped : List (ObjectName × ℕ)) (s t : Stepped) → AreAlikeSteps n m s t → AreAlikeSteps n m (dropping dropped s) (dropping dropped t)
  dropping-alike dropped s t is = record {
    node = is.node;
    heard = λ p. let x = is.heard p in record { told = x.told; here = x.here; there = x.there };
    frame = is.frame;
    call = is.call;
    effects = ap (λ (e : Effects). record e { dropped = dropped }) is.effects;
    note = is.note;
  }

  moved-alike : (p : ℕ) (o : BegunOp) (stage : Stage) (to : Moved) → AreAlikeSteps n m (moved g n p o stage to) (moved h m p o stage to)
  moved-alike p o stage to = dropping-alike to.dropped _ _ (turned-alike to.desk p o stage to.turn)

  -- no process changes
  still : (side : HomeSide) (emitted : List ℕ) → AreAlike (record n { side = side; emitted = emitted }) (record m { side = side; emitted = emitted })
  still side emitted = record { side = refl; desk = refl; procs = alike; many = long; emitted = refl; tick = refl; phase = refl; ready = refl; marks = marked }

  passed-alike : (side : HomeSide) → AreAlikeSteps n m (quiet (record n { side = side }) Note.Nothing) (quiet (record m { side = side }) Note.Nothing)
  passed-alike side = record { node = still side n.emitted; heard = λ p. record { told = []; here = refl; there = refl }; frame = refl; call = refl; effects = refl; note = refl }

  -- a process asks its program
  begins-alike : (nodes : g.opening.nodes ≡ h.opening.nodes) (greatest : g.opening.greatest ≡ h.opening.greatest) (p : ℕ) (w : Want) → SameDoing n m (begins g n p w) (begins h m p w)
  begins-alike nodes greatest p (Do op) = ap (λ a. Doing.Moves p (begun_at g n op) Stage.Starts a) (sym (begun-same g.opening h.opening nodes greatest n.desk p op))
  begins-alike nodes greatest p Phase =
      (pauses m p, refl, record { node = put-node n.desk n.emitted p _ _ (told-phase p); heard = put-heard n.desk n.emitted p _ _ (told-phase p); frame = refl; call = refl; effects = refl; note = refl })
  begins-alike nodes greatest p Done = (
    finishes h m p,
    refl,
    record { node = put-node n.desk n.emitted p _ _ (told-done p (g.phases + 1)); heard = put-heard n.desk n.emitted p _ _ (told-done p (g.phases + 1)); frame = refl; call = refl; effects = refl; note = refl },
  )

  -- it goes on after a wait
  gone-alike : (p : ℕ) (o : BegunOp) (found : Option Accessed) → SameFound n m (option_map (Doing.Moves p o Stage.Resumes) found) (option_map (Doing.Moves p o Stage.Resumes) found)
  gone-alike p o None = tt
  gone-alike p o (Some accessed) = (Doing.Moves p o Stage.Resumes accessed, refl, refl)

  goes-alike : (p : ℕ) (o : Option OpenOp) → SameFound n m (goes_on n p o) (goes_on m p o)
  goes-alike p None = tt
  goes-alike p (Some o) = gone-alike p o.began (gone_on n.desk p o.began.op)

  -- a frame is taken
  replies-alike : (side : HomeSide) (f : Message) (ask : Ask) (how : Looked) (a : Option Answer) → AreAlikeSteps n m (replies (record n { side = side }) f ask how a) (replies (record m { side = side }) f ask how a)
  replies-alike side f ask how None = passed-alike side
  replies-alike side f ask how (Some answer) =
      record { node = still side (put_at n.emitted f.from (emitted_to n f.from + 1)); heard = λ p. record { told = []; here = refl; there = refl }; frame = refl; call = refl; effects = refl; note = refl }

  serves-alike : (f : Message) (ask : Ask) → AreAlikeSteps n m (serves n f ask) (serves m f ask)
  serves-alike f ask = let s = serve_of n.side (caller_of f) f.number ask in replies-alike s.side f ask (looked f.number (last_of (caller_of f) n.side.served)) s.answer

  hears_said-alike : (f : Message) (o : BegunOp) (said : Option Said) → SameDoing n m (hears_said n f o said) (hears_said m f o said)
  hears_said-alike f o None = (quiet m Note.Nothing, refl, passed-alike n.side)
  hears_said-alike f o (Some said) = refl

  hears_if-alike : (b : Bool) (f : Message) (o : BegunOp) → SameDoing n m (hears_if b n f o) (hears_if b m f o)
  hears_if-alike true f o = hears_said-alike f o (said_of n.desk f.proc o.op f.body)
  hears_if-alike false f o = (quiet m Note.Nothing, refl, passed-alike n.side)

  hears_at-alike : (f : Message) (o : BegunOp) (a : Await) → SameDoing n m (hears_at n f o a) (hears_at m f o a)
  hears_at-alike f o (Await.Answer c) = hears_if-alike (f.number == c.waiting.number) f o
  hears_at-alike f o (Await.Page u k) = (quiet m Note.Nothing, refl, passed-alike n.side)

  hears-alike : (f : Message) (o : Option OpenOp) → SameDoing n m (hears n f o) (hears m f o)
  hears-alike f None = (quiet m Note.Nothing, refl, passed-alike n.side)
  hears-alike f (Some o) = hears_at-alike f o.began o.awaits

  takes-alike : (f : Message) (ask : Option Ask) → SameDoing n m (takes n f ask) (takes m f ask)
  takes-alike f (Some ask) = (serves m f ask, refl, serves-alike f ask)
  takes-alike f None = subst (λ o. SameDoing n m (hears n f (proc_of n f.proc).doing) (hears m f o)) (alike f.proc).doing (hears-alike f (proc_of n f.proc).doing)

  -- a frame was lost or is late
  gives_up-alike : (p : ℕ) (o : BegunOp) (number : ℕ) (found : Option Moved) → SameFound n m (option_map (gives_up n p o number) found) (option_map (gives_up m p o number) found)
  gives_up-alike p o number None = tt
  gives_up-alike p o number (Some to) = (gives_up m p o number to, refl, refl)

  resends-alike : (p : ℕ) (o : BegunOp) (c : Asked) → AreAlikeSteps n m (resends g n p o c) (resends h m p o c)
  resends-alike p o c = record {
    node = put-node n.desk (put_at n.emitted c.home (emitted_to n c.home + 1)) p _ _ (told-doing p (Some (record { began = o; awaits = Await.Answer c })));
    heard = put-heard n.desk (put_at n.emitted c.home (emitted_to n c.home + 1)) p _ _ (told-doing p (Some (record { began = o; awaits = Await.Answer c })));
    frame = refl;
    call = refl;
    effects = refl;
    note = refl;
  }

  notices_as-alike : (p : ℕ) (o : BegunOp) (c : Asked) (answer : Noticed) → SameFound n m (notices_as g n p o c answer) (notices_as h m p o c answer)
  notices_as-alike p o c Resend = (Doing.Does (resends h m p o c), refl, (resends h m p o c, refl, resends-alike p o c))
  notices_as-alike p o c GiveUp = gives_up-alike p o c.waiting.number (failed n.desk p o.op)

  notices_at-alike : (p : ℕ) (o : BegunOp) (a : Await) → SameFound n m (notices_at g n p o a) (notices_at h m p o a)
  notices_at-alike p o (Await.Answer c) = notices_as-alike p o (noticed_call c) (noticed (c.waiting.notices + 1))
  notices_at-alike p o (Await.Page u k) = tt

  notices-alike : (p : ℕ) (o : Option OpenOp) → SameFound n m (notices g n p o) (notices h m p o)
  notices-alike p None = tt
  notices-alike p (Some o) = notices_at-alike p o.began o.awaits

  -- a mark is sent or taken
  module _ (ready : Bool) (ns ms : List (ℕ × ℕ)) (same : (from phase : ℕ) → is_marked (record n { marks = ns }) from phase ≡ is_marked (record m { marks = ms }) from phase) where
    abbrev x : NodeState
    x = record n { ready = ready; marks = ns }

    abbrev y : NodeState
    y = record m { ready = ready; marks = ms }

    phase-alike : (b : Bool) → AreAlikeSteps n m (quiet (in_next_phase b x) Note.Nothing) (quiet (in_next_phase b y) Note.Nothing)
    phase-alike true = record {
      node = record { side = refl; desk = refl; procs = alike; many = long; emitted = refl; tick = refl; phase = refl; ready = refl; marks = same };
      heard = λ p. record { told = []; here = refl; there = refl };
      frame = refl;
      call = refl;
      effects = refl;
      note = refl;
    }
    phase-alike false = record {
      node = record { side = refl; desk = refl; procs = alike; many = long; emitted = refl; tick = refl; phase = refl; ready = refl; marks = same };
      heard = λ p. record { told = []; here = refl; there = refl };
      frame = refl;
      call = refl;
      effects = refl;
      note = refl;
    }

    others-alike : g.opening.nodes ≡ h.opening.nodes → others_marked g x ≡ others_marked h y
    others-alike nodes =
        all-same (λ k. not (nat_le k g.opening.nodes) || ((k == g.number) || is_marked x k n.phase)) (λ k. not (nat_le k h.opening.nodes) || ((k == g.number) || is_marked y k n.phase))
        (λ k. ap (λ e. not (nat_le k e) || ((k == g.number) || is_marked x k n.phase)) nodes ∙ ap (λ b. not (nat_le k h.opening.nodes) || ((k == g.number) || b)) (same k n.phase))
        node_numbers

    after-alike : g.opening.nodes ≡ h.opening.nodes → AreAlikeSteps n m (quiet (after_marks g x) Note.Nothing) (quiet (after_marks h y) Note.Nothing)
    after-alike nodes = subst (λ b. AreAlikeSteps n m (quiet (after_marks g x) Note.Nothing) (quiet (in_next_phase (ready && b) y) Note.Nothing)) (others-alike nodes) (phase-alike (ready && others_marked g x))

  module _ (nodes : g.opening.nodes ≡ h.opening.nodes) (greatest : g.opening.greatest ≡ h.opening.greatest) (programs : (p : ℕ) → has_program g p ≡ has_program h p)
      (asking : (p : ℕ) → has_program g p ≡ true → g.asks p (proc_of n p).heard ≡ h.asks p (proc_of m p).heard) where
    -- the event may happen at both or at neither
    pub happen-alike : (what : What) (incoming : Incoming) → may_happen g n what incoming ≡ may_happen h m what incoming
    happen-alike (Begin p) Incoming.Nothing =
        ap (λ b. b && (is_none (proc_of n p).doing && not (nat_lt n.phase (proc_of n p).phase))) (programs p)
        ∙ ap (λ o. has_program h p && (is_none o && not (nat_lt n.phase (proc_of n p).phase))) (alike p).doing
        ∙ ap (λ k. has_program h p && (is_none (proc_of m p).doing && not (nat_lt n.phase k))) (alike p).phase
    happen-alike (Begin p) (Incoming.Frame f) = refl
    happen-alike (Begin p) (Incoming.Gone number tick) = refl
    happen-alike (Begin p) (Incoming.Mark tick) = refl
    happen-alike (Go p) Incoming.Nothing = ap (λ b. b && may_go n.desk (proc_of n p).doing) (programs p) ∙ ap (λ o. has_program h p && may_go n.desk o) (alike p).doing
    happen-alike (Go p) (Incoming.Frame f) = refl
    happen-alike (Go p) (Incoming.Gone number tick) = refl
    happen-alike (Go p) (Incoming.Mark tick) = refl
    happen-alike (Take from index) (Incoming.Frame f) = refl
    happen-alike (Take from index) Incoming.Nothing = refl
    happen-alike (Take from index) (Incoming.Gone number tick) = refl
    happen-alike (Take from index) (Incoming.Mark tick) = refl
    happen-alike (Notice p from to index) (Incoming.Gone number tick) = ap (λ b. b && may_notice number (proc_of n p).doing) (programs p) ∙ ap (λ o. has_program h p && may_notice number o) (alike p).doing
    happen-alike (Notice p from to index) Incoming.Nothing = refl
    happen-alike (Notice p from to index) (Incoming.Frame f) = refl
    happen-alike (Notice p from to index) (Incoming.Mark tick) = refl
    happen-alike (Ready phase) Incoming.Nothing =
        ap (λ b. (phase == n.phase) && (not n.ready && b)) (all-alike (is_at_end n) (is_at_end m) g.programs h.programs (λ p. ap (λ k. nat_lt n.phase k) (alike p).phase) programs)
    happen-alike (Ready phase) (Incoming.Frame f) = refl
    happen-alike (Ready phase) (Incoming.Gone number tick) = refl
    happen-alike (Ready phase) (Incoming.Mark tick) = refl
    happen-alike (Mark from phase) (Incoming.Mark tick) = ap (λ b. not (from == g.number) && not b) (marked from phase)
    happen-alike (Mark from phase) Incoming.Nothing = refl
    happen-alike (Mark from phase) (Incoming.Frame f) = refl
    happen-alike (Mark from phase) (Incoming.Gone number t) = refl

    -- and comes to the same
    pub event-alike : (what : What) (incoming : Incoming) → may_happen g n what incoming ≡ true → SameFound n m (event_of g n what incoming) (event_of h m what incoming)
    event-alike (Begin p) Incoming.Nothing may = (
      begins h m p (h.asks p (proc_of m p).heard),
      refl,
      subst (λ w. SameDoing n m (begins g n p (g.asks p (proc_of n p).heard)) (begins h m p w)) (asking p (left-true (has_program g p) _ may)) (begins-alike nodes greatest p (g.asks p (proc_of n p).heard)),
    )
    event-alike (Begin p) (Incoming.Frame f) may = tt
    event-alike (Begin p) (Incoming.Gone number tick) may = tt
    event-alike (Begin p) (Incoming.Mark tick) may = tt
    event-alike (Go p) Incoming.Nothing may = subst (λ o. SameFound n m (goes_on n p (proc_of n p).doing) (goes_on m p o)) (alike p).doing (goes-alike p (proc_of n p).doing)
    event-alike (Go p) (Incoming.Frame f) may = tt
    event-alike (Go p) (Incoming.Gone number tick) may = tt
    event-alike (Go p) (Incoming.Mark tick) may = tt
    event-alike (Take from index) (Incoming.Frame f) may = (takes m f (ask_of f.body), refl, takes-alike f (ask_of f.body))
    event-alike (Take from index) Incoming.Nothing may = tt
    event-alike (Take from index) (Incoming.Gone number tick) may = tt
    event-alike (Take from index) (Incoming.Mark tick) may = tt
    event-alike (Notice p from to index) (Incoming.Gone number tick) may = subst (λ o. SameFound n m (notices g n p (proc_of n p).doing) (notices h m p o)) (alike p).doing (notices-alike p (proc_of n p).doing)
    event-alike (Notice p from to index) Incoming.Nothing may = tt
    event-alike (Notice p from to index) (Incoming.Frame f) may = tt
    event-alike (Notice p from to index) (Incoming.Mark tick) may = tt
    event-alike (Ready phase) Incoming.Nothing may = (Doing.Does _, refl, (_, refl, after-alike true n.marks m.marks marked nodes))
    event-alike (Ready phase) (Incoming.Frame f) may = tt
    event-alike (Ready phase) (Incoming.Gone number tick) may = tt
    event-alike (Ready phase) (Incoming.Mark tick) may = tt
    event-alike (Mark from phase) (Incoming.Mark tick) may =
        (Doing.Does _, refl, (_, refl, after-alike n.ready ((from, phase) ∷ n.marks) ((from, phase) ∷ m.marks) (λ a k. ap (λ b. ((from == a) && (phase == k)) || b) (marked a k)) nodes))
    event-alike (Mark from phase) Incoming.Nothing may = tt
    event-alike (Mark from phase) (Incoming.Frame f) may = tt
    event-alike (Mark from phase) (Incoming.Gone number t) may = tt

    named-alike : (event same : Doing) (s : Stepped) → SameDoing n m event same → stepped_as_named g n event ≡ Some s → (t : Stepped) × (stepped_as_named h m same ≡ Some t) × AreAlikeSteps n m s t
    named-alike (Doing.Does done) same s (t, is, steps) e = (t, ap (stepped_as_named h m) is, subst (λ x. AreAlikeSteps n m x t) (same_Some done s e) steps)
    named-alike (Doing.Moves p o stage accessed) same s is e =
        let found = map-some (moved g n p o stage) (moved_as_named p accessed) s e in (
          moved h m p o stage found.0,
          ap (stepped_as_named h m) is ∙ ap (λ x. option_map (moved h m p o stage) x) found.1,
          subst (λ x. AreAlikeSteps n m x (moved h m p o stage found.0)) (sym found.2) (moved-alike p o stage found.0),
        )

    -- where it comes out as the cache names it, so it does at the other
    pub found-alike : (found other_found : Option Doing) (event : Doing) (s : Stepped) → SameFound n m found other_found → found ≡ Some event → stepped_as_named g n event ≡ Some s
        → (same : Doing) × (t : Stepped) × (other_found ≡ Some same) × (stepped_as_named h m same ≡ Some t) × AreAlikeSteps n m s t
    found-alike None other_found event s is there e = absurd (cc)
    found-alike (Some found) other_found event s (same, is, alikes) there e =
        let out = named-alike found same s alikes (subst (λ x. stepped_as_named g n x ≡ Some s) (sym (same_Some found event there)) e) in
        (same, out.0, is, out.1, out.2)
