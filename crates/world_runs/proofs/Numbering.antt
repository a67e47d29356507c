-- Each frame that a node sends has the next number of its link, since its receiver is a node.
use Rattle.std.proofs.Common.{◌≡◌, ◌≢◌, ℕ, zero, suc, ◌+◌, ◌-◌, ◌≤◌, Bool, true, false, cond, List, ◌∷◌, length, Option, Some, None, IfSome, inl, inr, refl, sym, ap, subst, ◌∙◌, arith}
use Rattle.std.specs.Prelude.{◌==◌, replicate, slice_index_or}
use Rattle.std.proofs.lemmas.Bool.{cases_eq, eq-eqb, ne_eqb}
use Rattle.std.proofs.lemmas.Bool.Decides.{nat_tests}
use Rattle.std.proofs.lemmas.List.{get_or-set_same, get_or-set_other, length-set}
use Rattle.dom_history.specs.declared.event.What.{What}
use Rattle.dom_history.specs.declared.event.Sent.{Sent}
use Rattle.dom_history.specs.declared.plan.FateRow.{FateRow}
use Rattle.dom_history.specs.Events.{Happening}
use Rattle.dom_history.specs.Objects.{is_node}
use Rattle.ring_messages.specs.Frames.{Message, IsInRange}
use Rattle.fault_handler.specs.Desks.{DeskState, IsNode, at, put_at}
use Rattle.fault_handler.specs.Invariant.{IsProc}
use Rattle.fault_handler.specs.Outcomes.{Turn, Moved}
use Rattle.fault_handler.proofs.Fours.{at-put_same}
use Rattle.node_runs.specs.Setups.{Setup, Given, IsSetup, given}
use Rattle.node_runs.specs.NodeStates.{Asked, BegunOp, ProcState, NodeState, first_proc, proc_of, emitted_to}
use Rattle.node_runs.specs.Incomings.{Incoming, has_program}
use Rattle.node_runs.specs.Outcomes.{Stepped, Stage, turned, moved}
use Rattle.node_runs.specs.Doings.{begun_at, stage_of, noticed_call, ticked, in_next_phase}
use Rattle.node_runs.specs.Dones.{Did, asking, paused, finished, began, resumed, served, passed_over, heard, ignored, resent, gave_up, got_ready, marked}
use Rattle.node_runs.specs.Agreements.{Agrees}
use Rattle.node_runs.specs.NodesKeep.{IsNodeOf, IsTimely}
use Rattle.node_runs.specs.Runs.{World, first_world, put, frames_after}
use Rattle.node_runs.specs.CallsKeep.{EachOf}
use Rattle.node_runs.proofs.SettingUp.{given-procs, setup-gives}
use Rattle.node_runs.proofs.Doing.{step_of-did}
use Rattle.node_runs.proofs.Receiving.{incoming-is}
use Rattle.node_runs.proofs.Nodes.{Keeps}
use Rattle.node_runs.proofs.Reaching.{step_of-keeps}
use Rattle.node_runs.proofs.Calls.{put-same, put-other, frames-one}
use Rattle.world_runs.specs.Sendings.{frame_to, sent_by, sendings, frames_in, frames_on}
use Rattle.world_runs.specs.Turns.{after_turns}
use Rattle.world_runs.proofs.Sent.{IsSent, step-sent}
use Rattle.world_runs.proofs.Inserting.{event_at}
use Rattle.world_runs.proofs.TimelyTurns.{IsTimelyTurn, every-timely}
use Rattle.world_runs.proofs.Taking.{frames-append, one-frame, of-node}
use Rattle.world_runs.proofs.Happening.{nodes-kept, received-kept}

-- an event that sends a frame gives it the next number, and counts it
abbrev pub EmitsAt : NodeState → NodeState → Option Sent → Type 0
EmitsAt n after None = after.emitted ≡ n.emitted
EmitsAt n after (Some x) = (after.emitted ≡ put_at n.emitted x.to (emitted_to n x.to + 1)) × (x.index ≡ emitted_to n x.to + 1)

turned-emits : (g : Given) (n : NodeState) (p : ℕ) (o : BegunOp) (stage : Stage) (turn : Turn) → EmitsAt n (turned g n p o stage turn).node (turned g n p o stage turn).effects.sent
turned-emits g n p o stage (Turn.Ends reply) = refl
turned-emits g n p o stage (Turn.Asks home ask) = (refl, refl)
turned-emits g n p o stage (Turn.Waits u k) = refl

moved-emits : (g : Given) (n : NodeState) (p : ℕ) (o : BegunOp) (stage : Stage) (m : Moved) → EmitsAt n (moved g n p o stage m).node (moved g n p o stage m).effects.sent
moved-emits g n p o stage m = turned-emits g (record n { desk = m.desk }) p o stage m.turn

next-emits : (b : Bool) (n : NodeState) → (in_next_phase b n).emitted ≡ n.emitted
next-emits true n = refl
next-emits false n = refl

pub did-emits : (g : Given) (n : NodeState) (what : What) (incoming : Incoming) (s : Stepped) → Did g n what incoming s → EmitsAt n s.node s.effects.sent
did-emits g n what incoming s (paused p has none is) = refl
did-emits g n what incoming s (finished p has none is) = refl
did-emits g n what incoming s (began p op to has none is may) = moved-emits g n p (begun_at g n op) Stage.Starts to
did-emits g n what incoming s (resumed p o u k accessed to has is come goes may) = moved-emits g n p o Stage.Resumes to
did-emits g n what incoming s (served from index m ask answer sender receiver asks is) = (refl, refl)
did-emits g n what incoming s (passed_over from index m ask sender receiver asks is) = refl
did-emits g n what incoming s (heard from index m o c said to sender receiver asks is same fits may) = moved-emits g n m.proc o (stage_of m.number said) to
did-emits g n what incoming s (ignored from index m sender receiver asks) = refl
did-emits g n what incoming s (resent p from to index number tick o c has is same answer) = (refl, refl)
did-emits g n what incoming s (gave_up p from to index number tick o c into has is same answer fails) = moved-emits g n p o (Stage.Settles c.waiting.number) into
did-emits g n what incoming s (got_ready phase may) = next-emits _ _
did-emits g n what incoming s (marked from phase tick may) = next-emits _ _

-- a frame leads from this node to one of so many
abbrev pub Leads : ℕ → ℕ → Message → Type 0
Leads nodes n m = (m.from ≡ n) × IsNode nodes m.to

module _ (g : Given) where
  -- an open call is to a node
  open-home : (n : NodeState) → IsNodeOf g n → (p : ℕ) → IsProc p → (o : BegunOp) (c : Asked) → (proc_of n p).doing ≡ asking o c → IsNode g.opening.nodes c.home
  open-home n is p proc o c doing =
      let agrees : Agrees n.desk p (proc_of n p).last (asking o c) = subst (Agrees n.desk p (proc_of n p).last) doing (is.agrees p proc) in
      subst (λ k. IsNode k c.home) is.own.nodes (agrees.1.1).home

  module _ (n : NodeState) (four : length n.procs ≡ 4) where
    turned-leads : (p : ℕ) → IsProc p → (o : BegunOp) (stage : Stage) (d : DeskState) (turn : Turn) → IsNodeOf g (turned g (record n { desk = d }) p o stage turn).node
        → IfSome (turned g (record n { desk = d }) p o stage turn).frame (Leads g.opening.nodes g.number)
    turned-leads p proc o stage d (Turn.Ends reply) after = tt
    turned-leads p proc o stage d (Turn.Asks home ask) after = (refl, open-home _ after p proc o _ (ap (λ (q : ProcState). q.doing) (at-put_same n.procs p _ first_proc four proc)))
    turned-leads p proc o stage d (Turn.Waits u k) after = tt

    moved-leads : (p : ℕ) → IsProc p → (o : BegunOp) (stage : Stage) (m : Moved) → IsNodeOf g (moved g n p o stage m).node → IfSome (moved g n p o stage m).frame (Leads g.opening.nodes g.number)
    moved-leads p proc o stage m after = turned-leads p proc o stage m.desk m.turn after

    -- what is received, if it is a frame, is of a process and comes from a node
    abbrev pub IsFromNode : Incoming → Type 0
    IsFromNode (Incoming.Frame m) = IsProc m.proc × IsNode g.opening.nodes m.from
    IsFromNode incoming = Unit {0}

    did-leads : (procs : (p : ℕ) → has_program g p ≡ true → IsProc p) (what : What) (incoming : Incoming) (s : Stepped) → IsFromNode incoming → IsNodeOf g s.node → Did g n what incoming s
        → IfSome s.frame (Leads g.opening.nodes g.number)
    did-leads procs what incoming s frame after (paused p has none is) = tt
    did-leads procs what incoming s frame after (finished p has none is) = tt
    did-leads procs what incoming s frame after (began p op to has none is may) = moved-leads p (procs p has) (begun_at g n op) Stage.Starts to after
    did-leads procs what incoming s frame after (resumed p o u k accessed to has is come goes may) = moved-leads p (procs p has) o Stage.Resumes to after
    did-leads procs what incoming s frame after (served from index m ask answer sender receiver asks is) = (receiver, frame.1)
    did-leads procs what incoming s frame after (passed_over from index m ask sender receiver asks is) = tt
    did-leads procs what incoming s frame after (heard from index m o c said to sender receiver asks is same fits may) = moved-leads m.proc frame.0 o (stage_of m.number said) to after
    did-leads procs what incoming s frame after (ignored from index m sender receiver asks) = tt
    did-leads procs what incoming s frame after (resent p from to index number tick o c has is same answer) =
        (refl, open-home _ after p (procs p has) o (noticed_call c) (ap (λ (q : ProcState). q.doing) (at-put_same n.procs p _ first_proc four (procs p has))))
    did-leads procs what incoming s frame after (gave_up p from to index number tick o c into has is same answer fails) = moved-leads p (procs p has) o (Stage.Settles c.waiting.number) into after
    did-leads procs what incoming s frame after (got_ready phase may) = tt
    did-leads procs what incoming s frame after (marked from phase tick may) = tt

-- what was sent is counted by the nodes, and came from nodes
pub record AreNumbered (s : Setup) (w : World) : Type 0 where
  pub many : (n : ℕ) → length (w.nodes n).emitted ≡ 8
  pub counts : (n to : ℕ) → IsNode s.opening.nodes to → emitted_to (w.nodes n) to ≡ frames_on n to w.done
  pub between : (from to : ℕ) → EachOf (λ m. IsProc m.proc × IsNode s.opening.nodes m.from) (w.frames from to)

tests-node : (s : Setup) (n : ℕ) → is_node s.opening n ≡ true → IsNode s.opening.nodes n
tests-node s n h = (grind (arith, nat_tests, h), grind (arith, nat_tests, h))

at-put : (kept : List ℕ) (k to new : ℕ) → length kept ≡ 8 → (1 ≤ k) × (k ≤ 8) → (1 ≤ to) × (to ≤ 8) → at (put_at kept k new) to 0 ≡ cond (to == k) new (at kept to 0)
at-put kept k to new many (low, high) (least, most) = elim (cases_eq to k) as (λ d. at (put_at kept k new) to 0 ≡ cond (to == k) new (at kept to 0)) [
  | inl same ↦
      ap (λ (i : ℕ). at (put_at kept k new) i 0) same ∙ get_or-set_same kept (k - 1) new 0 (omega (arith, many, low, high))
      ∙ sym (ap (λ (b : Bool). cond b new (at kept to 0)) (eq-eqb to k same))
  | inr differs ↦
      get_or-set_other kept (k - 1) (to - 1) new 0 (λ e. differs (omega (arith, e, low, least)))
      ∙ sym (ap (λ (b : Bool). cond b new (at kept to 0)) (ne_eqb to k differs))
]

pub own-frames : (n to : ℕ) (e : Happening) (es : List Happening) → e.place.node ≡ n → frames_on n to (e ∷ es) ≡ frames_in (frame_to to e.effects.sent) + frames_on n to es
own-frames n to e es same =
    let a = frames-append (sent_by n to e) (sendings n to es) in
    let b : frames_in (sent_by n to e) ≡ frames_in (frame_to to e.effects.sent) =
    of-node (e.place.node == n) n to e ∙ ap (λ (c : Bool). cond c (frames_in (frame_to to e.effects.sent)) 0) (eq-eqb e.place.node n same) in
    omega (arith, a, b)

pub other-frames : (n to : ℕ) (e : Happening) (es : List Happening) → e.place.node ≢ n → frames_on n to (e ∷ es) ≡ frames_on n to es
other-frames n to e es differs =
    let a = frames-append (sent_by n to e) (sendings n to es) in
    let b : frames_in (sent_by n to e) ≡ 0 =
    of-node (e.place.node == n) n to e ∙ ap (λ (c : Bool). cond c (frames_in (frame_to to e.effects.sent)) 0) (ne_eqb e.place.node n differs) in
    omega (arith, a, b)

-- the count of one link after an event
pub counted-after : (nodes : ℕ) → nodes ≤ 8 → (n after : NodeState) (x : Option Sent) (to : ℕ) → length n.emitted ≡ 8 → IsNode nodes to → EmitsAt n after x → IfSome x (λ y. IsNode nodes y.to)
    → emitted_to after to ≡ frames_in (frame_to to x) + emitted_to n to
counted-after nodes few n after None to many node emits reaches = let e = ap (λ (xs : List ℕ). at xs to 0) emits in omega (arith, e)
counted-after nodes few n after (Some x) to many node emits reaches =
    let e = ap (λ (xs : List ℕ). at xs to 0) emits.0 in
    let put = at-put n.emitted x.to to (emitted_to n x.to + 1) many (reaches.0, omega (arith, reaches.1, few)) (node.0, omega (arith, node.1, few)) in
    elim (cases_eq to x.to) as (λ d. emitted_to after to ≡ frames_in (frame_to to (Some x)) + emitted_to n to) [
      | inl same ↦
          (let one : frames_in (frame_to to (Some x)) ≡ 1 = one-frame (x.to == to) ∙ ap (λ (b : Bool). let k : ℕ = cond b 1 0 in k) (eq-eqb x.to to (sym same)) in
          let now : emitted_to after to ≡ emitted_to n x.to + 1 = e ∙ put ∙ ap (λ (b : Bool). cond b (emitted_to n x.to + 1) (at n.emitted to 0)) (eq-eqb to x.to same) in
          let was = ap (λ (k : ℕ). emitted_to n k) same in
          omega (arith, one, now, was))
      | inr differs ↦
          (let none : frames_in (frame_to to (Some x)) ≡ 0 = one-frame (x.to == to) ∙ ap (λ (b : Bool). let k : ℕ = cond b 1 0 in k) (ne_eqb x.to to (λ h. differs (sym h))) in
          let now : emitted_to after to ≡ emitted_to n to = e ∙ put ∙ ap (λ (b : Bool). cond b (emitted_to n x.to + 1) (at n.emitted to 0)) (ne_eqb to x.to differs) in
          omega (arith, none, now))
    ]

-- eight links are counted
pub many-after : (n after : NodeState) (x : Option Sent) → length n.emitted ≡ 8 → EmitsAt n after x → length after.emitted ≡ 8
many-after n after None many emits = ap (λ (xs : List ℕ). length xs) emits ∙ many
many-after n after (Some x) many emits = ap (λ (xs : List ℕ). length xs) emits.0 ∙ rw length-set many

reaches : (nodes n t : ℕ) (f : Option Message) (x : Option Sent) → IsSent t f x → IfSome f (Leads nodes n) → IfSome x (λ y. IsNode nodes y.to)
reaches nodes n t None x sent leads = subst (λ (o : Option Sent). IfSome o (λ y. IsNode nodes y.to)) (sym sent) tt
reaches nodes n t (Some m) None sent leads = absurd sent
reaches nodes n t (Some m) (Some x) sent leads = subst (IsNode nodes) (sym sent.1) leads.1

-- so a frame that is sent says the next number of its link
pub next-index : (nodes : ℕ) (n after : NodeState) (k : ℕ) (es : List Happening) (x : Option Sent) → EmitsAt n after x → IfSome x (λ y. IsNode nodes y.to)
    → ((to : ℕ) → IsNode nodes to → emitted_to n to ≡ frames_on k to es) → IfSome x (λ y. y.index ≡ frames_on k y.to es + 1)
next-index nodes n after k es None emits node counts = tt
next-index nodes n after k es (Some x) emits node counts = let e = counts x.to node in let f = emits.1 in omega (arith, e, f)

all-same : (x k i : ℕ) → slice_index_or (replicate k x) i x ≡ x
all-same x zero i = refl
all-same x (suc k) zero = refl
all-same x (suc k) (suc i) = all-same x k i

module _ (s : Setup) (setup : IsSetup s) (plan : List FateRow) where
  pub first-numbered : AreNumbered s (first_world s)
  first-numbered = record { many = λ n. refl; counts = λ n to node. all-same 0 8 (to - 1); between = λ from to. tt }

  module _ (old new : World) (turn : IsTimelyTurn s plan old new) (before : AreNumbered s old) where
    abbrev n : ℕ
    n = turn.is.act.node

    abbrev it : Happening
    it = event_at n turn.is.act.what turn.is.step

    abbrev ticked_node : NodeState
    ticked_node = ticked (old.nodes n) turn.is.incoming

    pub did : Did (given s n) ticked_node turn.is.act.what turn.is.incoming turn.is.step
    did = step_of-did (given s n) (old.nodes n) turn.is.act.what turn.is.incoming turn.is.step.effects.dropped turn.is.step turn.steps

    emits : EmitsAt ticked_node turn.is.step.node turn.is.step.effects.sent
    emits = did-emits (given s n) ticked_node turn.is.act.what turn.is.incoming turn.is.step did

    sent : IsSent turn.is.step.node.tick turn.is.step.frame turn.is.step.effects.sent
    sent = step-sent (given s n) (old.nodes n) turn.is.act.what turn.is.incoming turn.is.step.effects.dropped turn.is.step turn.steps

    pub kept-node : IsNodeOf (given s n) (old.nodes n)
    kept-node = nodes-kept s setup old turn.merged turn.timely n turn.is.node

    pub keeps : Keeps (given s n) turn.is.step
    keeps =
        step_of-keeps (given s n) (old.nodes n) turn.is.act.what turn.is.incoming turn.is.step.effects.dropped turn.is.step (setup-gives s setup n turn.is.node) kept-node
        (received-kept s setup old turn.merged turn.timely n turn.is.act.what turn.is.incoming turn.is.receives) turn.steps

    comes-from : IsFromNode (given s n) ticked_node kept-node.four turn.is.incoming
    comes-from =
        incoming-is (IsFromNode (given s n) ticked_node kept-node.four) tt (λ number tick. tt) (λ tick. tt) (λ m. IsProc m.proc × IsNode s.opening.nodes m.from) (λ m is. is)
        old n (λ from. before.between from n) turn.is.act.what turn.is.incoming turn.is.receives

    leads : IfSome turn.is.step.frame (Leads s.opening.nodes n)
    leads = did-leads (given s n) ticked_node kept-node.four (given-procs (given s n) (setup-gives s setup n turn.is.node).programs) turn.is.act.what turn.is.incoming turn.is.step comes-from keeps.node did

    reached : IfSome turn.is.step.effects.sent (λ y. IsNode s.opening.nodes y.to)
    reached = reaches s.opening.nodes n turn.is.step.node.tick turn.is.step.frame turn.is.step.effects.sent sent leads

    -- the frame has the next number
    pub next-number : IfSome turn.is.step.effects.sent (λ x. x.index ≡ frames_on n x.to old.done + 1)
    next-number = next-index s.opening.nodes ticked_node turn.is.step.node n old.done turn.is.step.effects.sent emits reached (before.counts n)

    done-after : new.done ≡ it ∷ old.done
    done-after = ap (λ (w : World). w.done) turn.is.world

    pub node-is : (k : ℕ) → new.nodes k ≡ put old.nodes n turn.is.step.node k
    node-is k = ap (λ (w : World). w.nodes k) turn.is.world

    counts-after : (k to : ℕ) → IsNode s.opening.nodes to → emitted_to (new.nodes k) to ≡ frames_on k to (it ∷ old.done)
    counts-after k to node = elim (cases_eq k n) [
      | inl same ↦
          ap (λ (x : NodeState). emitted_to x to) (node-is k ∙ put-same old.nodes n k turn.is.step.node same)
          ∙ counted-after s.opening.nodes setup.start.nodes_high ticked_node turn.is.step.node turn.is.step.effects.sent to (before.many n) node emits reached
          ∙ ap (λ (i : ℕ). frames_in (frame_to to turn.is.step.effects.sent) + i) (before.counts n to node)
          ∙ sym (own-frames n to it old.done refl)
          ∙ ap (λ (i : ℕ). frames_on i to (it ∷ old.done)) (sym same)
      | inr differs ↦
          ap (λ (x : NodeState). emitted_to x to) (node-is k ∙ put-other old.nodes n k turn.is.step.node differs)
          ∙ before.counts k to node
          ∙ sym (other-frames k to it old.done (λ e. differs (sym e)))
    ]

    many-all : (k : ℕ) → length (new.nodes k).emitted ≡ 8
    many-all k = elim (cases_eq k n) [
      | inl same ↦
          ap (λ (x : NodeState). length x.emitted) (node-is k ∙ put-same old.nodes n k turn.is.step.node same)
          ∙ many-after ticked_node turn.is.step.node turn.is.step.effects.sent (before.many n) emits
      | inr differs ↦ ap (λ (x : NodeState). length x.emitted) (node-is k ∙ put-other old.nodes n k turn.is.step.node differs) ∙ before.many k
    ]

    between-after : (o : Option Message) → IfSome o IsInRange → IfSome o (Leads s.opening.nodes n) → (from to : ℕ) → EachOf (λ m. IsProc m.proc × IsNode s.opening.nodes m.from) (frames_after old n o from to)
    between-after None range goes = before.between
    between-after (Some m) range goes =
        frames-one old n m (λ from to x. IsProc x.proc × IsNode s.opening.nodes x.from)
        ((range.proc_low, range.proc_high), subst (IsNode s.opening.nodes) (sym goes.0) (tests-node s n turn.is.node)) before.between

    pub later-numbered : AreNumbered s new
    later-numbered = record {
      many = many-all;
      counts = λ k to node. counts-after k to node ∙ sym (ap (λ (es : List Happening). frames_on k to es) done-after);
      between = λ from to.
          subst (λ (w : World). EachOf (λ m. IsProc m.proc × IsNode s.opening.nodes m.from) (w.frames from to)) (sym turn.is.world)
          (between-after turn.is.step.frame keeps.frame leads from to);
    }

  pub turns-number : (cs : List ℕ) (w : World) → after_turns s plan cs ≡ Some w → IsTimely w → AreNumbered s w
  turns-number = every-timely s setup plan (AreNumbered s) first-numbered later-numbered
