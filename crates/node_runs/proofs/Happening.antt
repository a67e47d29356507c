-- An enabled event of a node happens: however room is made, and also as its cache names it.
use Rattle.std.proofs.Common.{◌≡◌, ℕ, ◌+◌, Bool, true, false, Option, Some, None, IsSome, refl, sym, ap, subst, ◌∙◌}
use Rattle.std.specs.Prelude.{◌==◌, ◌&&◌, not, is_none}
use Rattle.std.specs.Option.{option_map}
use Rattle.uid_names.specs.Steps.{◌>>=◌}
use Rattle.uid_names.proofs.Passed.{left-true, right-true, equal}
use Rattle.uid_names.proofs.Somes.{none-is}
use Rattle.dom_history.specs.declared.op.Want.{Want}
use Rattle.dom_history.specs.declared.op.Want.TheVariants.{Do, Phase, Done}
use Rattle.dom_history.specs.declared.event.What.{What}
use Rattle.dom_history.specs.declared.event.What.TheVariants.{Begin, Go, Take, Notice, Ready, Mark}
use Rattle.dom_history.specs.Ranges.{IsWant}
use Rattle.call_once.specs.Notices.{noticed}
use Rattle.call_once.specs.declared.asking.Noticed.{Noticed}
use Rattle.call_once.specs.declared.asking.Noticed.TheVariants.{Resend, GiveUp}
use Rattle.ring_messages.specs.Bodies.{Ask, ask_of}
use Rattle.ring_messages.specs.Frames.{Message}
use Rattle.ring_messages.specs.Ranges.{IsBody}
use Rattle.fault_handler.specs.Outcomes.{Moved}
use Rattle.fault_handler.specs.Victims.{Victim, named_victim}
use Rattle.fault_handler.specs.Accesses.{Accessed, room_made}
use Rattle.fault_handler.specs.Invariant.{IsProc}
use Rattle.fault_handler.specs.Conditions.{IsIdle}
use Rattle.fault_handler.proofs.Choice.{named-may}
use Rattle.fault_handler.proofs.Outcomes.{Holds}
use Rattle.node_runs.specs.Setups.{Given, IsGiven}
use Rattle.node_runs.specs.NodeStates.{Asked, Await, BegunOp, OpenOp, NodeState, proc_of, is_ended}
use Rattle.node_runs.specs.Operations.{begun, Said, said_of, answered}
use Rattle.node_runs.specs.Incomings.{Incoming, has_program, has_come, may_go, is_call, may_notice, may_happen, enabled}
use Rattle.node_runs.specs.Outcomes.{Stepped, Stage, moved}
use Rattle.node_runs.specs.Rooms.{moved_as_named, MayMove}
use Rattle.node_runs.specs.Doings.{Doing, begins, goes_on, hears_said, hears_if, hears_at, hears, takes, gives_up, noticed_call, notices_as, notices_at, notices, event_of, ticked}
use Rattle.node_runs.specs.Steps.{stepped_as_named, step_of, named_step}
use Rattle.node_runs.specs.Agreements.{Agrees}
use Rattle.node_runs.specs.SentFrames.{IsFrame, IsIncoming}
use Rattle.node_runs.specs.NodesKeep.{IsNodeOf}
use Rattle.node_runs.proofs.Stepping.{Leaves, leaves-steps}
use Rattle.node_runs.proofs.Nodes.{node-with}
use Rattle.node_runs.proofs.SettingUp.{given-procs}
use Rattle.node_runs.proofs.Keeping.{IsMoved, begun-moved, gone_on-moved, answered-moved, failed-moved}

-- a way in which a desk's move may come out, that in which room is made as its cache names it
abbrev NamedWay : ℕ → Accessed → Type 0
NamedWay p accessed = (to : Moved) × (moved_as_named p accessed ≡ Some to) × MayMove p accessed to

named-way : (p : ℕ) (P : Moved → Type 0) (a : Accessed) → Holds p P a → NamedWay p a
named-way p P (Accessed.Settled m) holds = (m, refl, refl)
named-way p P (Accessed.NeedsRoom d task) holds = by_victim (named_victim d) refl holds.0
  where
    by_victim : (o : Option Victim) → named_victim d ≡ o → IsSome o → NamedWay p (Accessed.NeedsRoom d task)
    by_victim None none there = absurd (cc)
    by_victim (Some v) named there = (room_made d p task v, ap (λ o. option_map (room_made d p task) o) named, (v, named-may d v holds.1 named, refl))

abbrev HasWay : Doing → Type 0
HasWay (Doing.Does s) = Unit {0}
HasWay (Doing.Moves p o stage accessed) = NamedWay p accessed

-- there is such an event, and it has a way to come out
abbrev Happens : Option Doing → Type 0
Happens found = (event : Doing) × (found ≡ Some event) × HasWay event

module _ (g : Given) (given_is : IsGiven g) (n : NodeState) (is : IsNodeOf g n) where
  procs : (p : ℕ) → has_program g p ≡ true → IsProc p
  procs = given-procs g given_is.programs

  agrees-as : (p : ℕ) → IsProc p → (o : Option OpenOp) → (proc_of n p).doing ≡ o → Agrees n.desk p (proc_of n p).last o
  agrees-as p proc o same = subst (Agrees n.desk p (proc_of n p).last) same (is.agrees p proc)

  begins-happens : (p : ℕ) → IsProc p → (w : Want) → IsIdle n.desk p → IsWant w → HasWay (begins g n p w)
  begins-happens p proc (Do op) idle range = named-way p (IsMoved n.desk p op) (begun g.opening n.desk p op) (begun-moved n.desk p is.desk proc g.opening op is.own.nodes idle range)
  begins-happens p proc Phase idle range = tt
  begins-happens p proc Done idle range = tt

  goes-at : (p : ℕ) → IsProc p → (o : BegunOp) (a : Await) → has_come n.desk a ≡ true → Agrees n.desk p (proc_of n p).last (Some (record { began = o; awaits = a })) → Happens (goes_on n p (Some (record { began = o; awaits = a })))
  goes-at p proc o (Await.Answer c) come agrees = absurd (cc)
  goes-at p proc o (Await.Page u k) come agrees =
      let found = gone_on-moved n.desk p is.desk proc o.op agrees.0 agrees.1 in
      (Doing.Moves p o Stage.Resumes found.0, ap (λ x. option_map (Doing.Moves p o Stage.Resumes) x) found.1, named-way p (IsMoved n.desk p o.op) found.0 found.2)

  goes-happens : (p : ℕ) → IsProc p → (o : Option OpenOp) → may_go n.desk o ≡ true → Agrees n.desk p (proc_of n p).last o → Happens (goes_on n p o)
  goes-happens p proc None may agrees = absurd (cc)
  goes-happens p proc (Some o) may agrees = goes-at p proc o.began o.awaits may agrees

  module _ (m : Message) (frame : IsFrame m) (receiver : m.to ≡ g.number) where
    caller : IsProc m.proc
    caller = (frame.range.proc_low, frame.range.proc_high)

    range : IsBody n.desk.node m.body
    range = subst (λ a. IsBody a m.body) (receiver ∙ sym is.own.node) frame.range.body

    hears_said-happens : (o : BegunOp) (c : Asked) (said : Option Said) → Agrees n.desk m.proc (proc_of n m.proc).last (Some (record { began = o; awaits = Await.Answer c })) → said_of n.desk m.proc o.op m.body ≡ said → HasWay (hears_said n m o said)
    hears_said-happens o c None agrees says = tt
    hears_said-happens o c (Some said) agrees says =
        named-way m.proc (IsMoved n.desk m.proc o.op) (answered n.desk m.proc said) (answered-moved n.desk m.proc is.desk caller o.op c.ask m.body said agrees.1.0 range frame.named says)

    hears_if-happens : (b : Bool) (o : BegunOp) (c : Asked) → Agrees n.desk m.proc (proc_of n m.proc).last (Some (record { began = o; awaits = Await.Answer c })) → HasWay (hears_if b n m o)
    hears_if-happens false o c agrees = tt
    hears_if-happens true o c agrees = hears_said-happens o c (said_of n.desk m.proc o.op m.body) agrees refl

    hears_at-happens : (o : BegunOp) (a : Await) → Agrees n.desk m.proc (proc_of n m.proc).last (Some (record { began = o; awaits = a })) → HasWay (hears_at n m o a)
    hears_at-happens o (Await.Answer c) agrees = hears_if-happens (m.number == c.waiting.number) o c agrees
    hears_at-happens o (Await.Page u k) agrees = tt

    hears-happens : (o : Option OpenOp) → Agrees n.desk m.proc (proc_of n m.proc).last o → HasWay (hears n m o)
    hears-happens None agrees = tt
    hears-happens (Some o) agrees = hears_at-happens o.began o.awaits agrees

    takes-happens : (ask : Option Ask) → HasWay (takes n m ask)
    takes-happens (Some ask) = tt
    takes-happens None = hears-happens (proc_of n m.proc).doing (is.agrees m.proc caller)

  notices_as-happens : (p : ℕ) → IsProc p → (o : BegunOp) (c : Asked) (answer : Noticed) → Agrees n.desk p (proc_of n p).last (Some (record { began = o; awaits = Await.Answer c })) → Happens (notices_as g n p o (noticed_call c) answer)
  notices_as-happens p proc o c Resend agrees = (Doing.Does _, refl, tt)
  notices_as-happens p proc o c GiveUp agrees =
      let found = failed-moved n.desk p is.desk proc o.op c.ask agrees.1.0 in
      (gives_up n p o c.waiting.number found.0, ap (λ x. option_map (gives_up n p o c.waiting.number) x) found.1, (found.0, refl, refl))

  notices_at-happens : (p : ℕ) → IsProc p → (number : ℕ) (o : BegunOp) (a : Await) → is_call number a ≡ true → Agrees n.desk p (proc_of n p).last (Some (record { began = o; awaits = a })) → Happens (notices_at g n p o a)
  notices_at-happens p proc number o (Await.Answer c) same agrees = notices_as-happens p proc o c (noticed (c.waiting.notices + 1)) agrees
  notices_at-happens p proc number o (Await.Page u k) same agrees = absurd (cc)

  notices-happens : (p : ℕ) → IsProc p → (number : ℕ) (o : Option OpenOp) → may_notice number o ≡ true → Agrees n.desk p (proc_of n p).last o → Happens (notices g n p o)
  notices-happens p proc number None same agrees = absurd (cc)
  notices-happens p proc number (Some o) same agrees = notices_at-happens p proc number o.began o.awaits same agrees

  event_of-happens : (what : What) (incoming : Incoming) → IsIncoming incoming → may_happen g n what incoming ≡ true → Happens (event_of g n what incoming)
  event_of-happens (Begin p) Incoming.Nothing frame may =
      let proc = procs p (left-true (has_program g p) _ may) in
      let none = none-is (proc_of n p).doing (left-true (is_none (proc_of n p).doing) _ (right-true _ _ may)) in
      (begins g n p (g.asks p (proc_of n p).heard), refl, begins-happens p proc (g.asks p (proc_of n p).heard) (agrees-as p proc None none) (given_is.wants p (proc_of n p).heard (is.followed p proc).fitting (is.followed p proc).named))
  event_of-happens (Begin p) (Incoming.Frame m) frame may = absurd (cc)
  event_of-happens (Begin p) (Incoming.Gone number tick) frame may = absurd (cc)
  event_of-happens (Begin p) (Incoming.Mark tick) frame may = absurd (cc)
  event_of-happens (Go p) Incoming.Nothing frame may =
      let proc = procs p (left-true (has_program g p) _ may) in
      goes-happens p proc (proc_of n p).doing (right-true (has_program g p) (may_go n.desk (proc_of n p).doing) may) (is.agrees p proc)
  event_of-happens (Go p) (Incoming.Frame m) frame may = absurd (cc)
  event_of-happens (Go p) (Incoming.Gone number tick) frame may = absurd (cc)
  event_of-happens (Go p) (Incoming.Mark tick) frame may = absurd (cc)
  event_of-happens (Take from index) (Incoming.Frame m) frame may =
      let link = left-true ((m.from == from) && (m.to == g.number)) (m.version == g.wire) may in
      (takes n m (ask_of m.body), refl, takes-happens m frame (equal m.to g.number (right-true (m.from == from) (m.to == g.number) link)) (ask_of m.body))
  event_of-happens (Take from index) Incoming.Nothing frame may = absurd (cc)
  event_of-happens (Take from index) (Incoming.Gone number tick) frame may = absurd (cc)
  event_of-happens (Take from index) (Incoming.Mark tick) frame may = absurd (cc)
  event_of-happens (Notice p from to index) (Incoming.Gone number tick) frame may =
      let proc = procs p (left-true (has_program g p) _ may) in
      notices-happens p proc number (proc_of n p).doing (right-true (has_program g p) (may_notice number (proc_of n p).doing) may) (is.agrees p proc)
  event_of-happens (Notice p from to index) Incoming.Nothing frame may = absurd (cc)
  event_of-happens (Notice p from to index) (Incoming.Frame m) frame may = absurd (cc)
  event_of-happens (Notice p from to index) (Incoming.Mark tick) frame may = absurd (cc)
  event_of-happens (Ready phase) Incoming.Nothing frame may = (Doing.Does _, refl, tt)
  event_of-happens (Ready phase) (Incoming.Frame m) frame may = absurd (cc)
  event_of-happens (Ready phase) (Incoming.Gone number tick) frame may = absurd (cc)
  event_of-happens (Ready phase) (Incoming.Mark tick) frame may = absurd (cc)
  event_of-happens (Mark from phase) (Incoming.Mark tick) frame may = (Doing.Does _, refl, tt)
  event_of-happens (Mark from phase) Incoming.Nothing frame may = absurd (cc)
  event_of-happens (Mark from phase) (Incoming.Frame m) frame may = absurd (cc)
  event_of-happens (Mark from phase) (Incoming.Gone number t) frame may = absurd (cc)

-- what an event leaves where it comes out so
named-leaves : (g : Given) (n : NodeState) (event : Doing) → HasWay event → (s : Stepped) × (stepped_as_named g n event ≡ Some s) × Leaves g n event s
named-leaves g n (Doing.Does s) way = (s, refl, refl)
named-leaves g n (Doing.Moves p o stage accessed) (to, named, may) = (moved g n p o stage to, ap (λ x. option_map (moved g n p o stage) x) named, (to, may, refl))

pub enabled-happens : (g : Given) (n : NodeState) (what : What) (incoming : Incoming) → IsGiven g → IsNodeOf g n → IsIncoming incoming → enabled g n what incoming ≡ true
    → (s : Stepped) × (named_step g n what incoming ≡ Some s) × (step_of g n what incoming s.effects.dropped ≡ Some s)
enabled-happens g n what incoming given_is is frame may =
    let later = node-with g n (ticked n incoming) is refl refl is.side is.home is.within.side in
    let found = event_of-happens g given_is (ticked n incoming) later what incoming frame (right-true (not (is_ended g n)) (may_happen g n what incoming) may) in
    let out = named-leaves g (ticked n incoming) found.0 found.2 in
    (out.0, ap (λ x. x >>= stepped_as_named g (ticked n incoming)) found.1 ∙ out.1, leaves-steps g n what incoming found.0 out.0 may found.1 out.2)
