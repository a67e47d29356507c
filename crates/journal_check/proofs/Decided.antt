-- What the pass receives decides an event as what was sent does.
use Rattle.std.proofs.Common.{◌≡◌, ℕ, Bool, true, false, Option, Some, None, inl, inr, refl, sym, ap, subst, ◌∙◌}
use Rattle.std.specs.Prelude.{is_some}
use Rattle.std.specs.Option.{option_map}
use Rattle.std.proofs.lemmas.Option.{same_Some}
use Rattle.uid_names.specs.Steps.{◌>>=◌}
use Rattle.dom_history.specs.declared.event.What.{What}
use Rattle.dom_history.specs.declared.event.What.TheVariants.{Begin, Go, Take, Notice, Ready, Mark}
use Rattle.dom_history.specs.Objects.{is_node}
use Rattle.ring_messages.specs.Bodies.{Ask, ask_of, is_request}
use Rattle.ring_messages.specs.Frames.{Message}
use Rattle.ring_messages.specs.declared.body.Body.{Body}
use Rattle.ring_messages.proofs.Asking.{asked-of, request-is}
use Rattle.node_runs.specs.Setups.{Setup, Given, given}
use Rattle.node_runs.specs.NodeStates.{NodeState}
use Rattle.node_runs.specs.Incomings.{Incoming, enabled, tick_of}
use Rattle.node_runs.specs.Outcomes.{Stepped}
use Rattle.node_runs.specs.Steps.{named_step}
use Rattle.node_runs.specs.Runs.{World, incoming_of, numbered, taken}
use Rattle.node_core.specs.Receivings.{seen}
use Rattle.node_core.specs.declared.setup.Incoming as code
use Rattle.run_journals.specs.Deciding.{step_if, decided_step, line_of, decided_by, decided_if, decided}
use Rattle.run_journals.specs.OverFrames.{bare_body}
use Rattle.run_journals.proofs.Over.{step-over}
use Rattle.journal_check.specs.Passes.{IsFrameFor, IsTakenOf, IsReceived}

-- a node does at an event with this what it does with that
pub record IsAlike (g : Given) (n : NodeState) (what : What) (i j : Incoming) : Type 0 where
  pub may : enabled g n what i ≡ enabled g n what j
  pub step : named_step g n what i ≡ named_step g n what j
  pub tick : tick_of i ≡ tick_of j

alike : (g : Given) (n : NodeState) (what : What) (i j : Incoming) → i ≡ j → IsAlike g n what i j
alike g n what i j same = record { may = ap (enabled g n what) same; step = ap (named_step g n what) same; tick = ap tick_of same }

-- frames of one head, or the same
abbrev pub IsOneHead : Incoming → Incoming → Type 0
IsOneHead (Incoming.Frame f) (Incoming.Frame m) = (f.from ≡ m.from) × (f.to ≡ m.to) × (f.proc ≡ m.proc) × (f.number ≡ m.number) × (is_request f.body ≡ is_request m.body)
IsOneHead i j = i ≡ j

one-head : (i : Incoming) → IsOneHead i i
one-head Incoming.Nothing = refl
one-head (Incoming.Frame m) = (refl, refl, refl, refl, refl)
one-head (Incoming.Gone number tick) = refl
one-head (Incoming.Mark tick) = refl

same-head : (i j : Incoming) → i ≡ j → IsOneHead i j
same-head i j same = subst (IsOneHead i) same (one-head i)

bare-request : (b : Body) → is_request (bare_body (ask_of b)) ≡ is_request b
bare-request b = by (ask_of b) refl
  where
    by : (o : Option Ask) → ask_of b ≡ o → is_request (bare_body o) ≡ is_request b
    by (Some ask) is = sym (request-is b ask is)
    by None is = sym (answers (is_request b) refl)
      where
        answers : (t : Bool) → is_request b ≡ t → is_request b ≡ false
        answers true asks = absurd (let there : is_some (ask_of b) ≡ true = asked-of b asks in let both : true ≡ false = sym there ∙ ap (λ (x : Option Ask). is_some x) is in cc)
        answers false other = other

-- what was sent for the event, and that what was received is as good
pub record IsComing (s : Setup) (w : World) (n : ℕ) (what : What) (i : Incoming) : Type 0 where
  pub incoming : Incoming
  pub comes : incoming_of w n what ≡ Some incoming
  pub alike_is : IsAlike (given s n) (w.nodes n) what i incoming
  pub head : IsOneHead i incoming

module _ (s : Setup) (w : World) (n : ℕ) where
  plain : (what : What) (i j : Incoming) → incoming_of w n what ≡ Some j → Some i ≡ Some j → IsComing s w n what i
  plain what i j comes same = record { incoming = j; comes = comes; alike_is = alike (given s n) (w.nodes n) what i j (same_Some i j same); head = same-head i j (same_Some i j same) }

  -- a frame that is taken
  frame-coming : (from index : ℕ) (m : Message) (i : Incoming) → numbered index (w.frames from n) ≡ Some m → IsFrameFor w n m i → IsComing s w n (Take from index) i
  frame-coming from index m (Incoming.Frame f) sent (inl same) = record {
    incoming = Incoming.Frame m;
    comes = ap taken sent;
    alike_is = alike (given s n) (w.nodes n) (Take from index) (Incoming.Frame f) (Incoming.Frame m) (ap Incoming.Frame same);
    head = same-head (Incoming.Frame f) (Incoming.Frame m) (ap Incoming.Frame same);
  }
  frame-coming from index m (Incoming.Frame f) sent (inr over) = record {
    incoming = Incoming.Frame m;
    comes = ap taken sent;
    alike_is = record {
      may = ap (λ (x : Message). enabled (given s n) (w.nodes n) (Take from index) (Incoming.Frame x)) over.0;
      step = ap (λ (x : Message). named_step (given s n) (w.nodes n) (Take from index) (Incoming.Frame x)) over.0 ∙ sym (step-over (given s n) (w.nodes n) from index m over.1);
      tick = ap (λ (x : Message). x.tick) over.0;
    };
    head = (ap (λ (x : Message). x.from) over.0, ap (λ (x : Message). x.to) over.0, ap (λ (x : Message). x.proc) over.0, ap (λ (x : Message). x.number) over.0, ap (λ (x : Message). is_request x.body) over.0 ∙ bare-request m.body);
  }
  frame-coming from index m Incoming.Nothing sent is = absurd is
  frame-coming from index m (Incoming.Gone number tick) sent is = absurd is
  frame-coming from index m (Incoming.Mark tick) sent is = absurd is

  taken-coming : (from index : ℕ) (o : Option Message) (i : code.Incoming) → numbered index (w.frames from n) ≡ o → IsTakenOf w n o (Some i) → IsComing s w n (Take from index) (seen i)
  taken-coming from index None i sent is = absurd is
  taken-coming from index (Some m) i sent is = frame-coming from index m (seen i) sent is

  pub received-coming : (what : What) (i : code.Incoming) (again : Bool) → IsReceived w n what (Some (i, again)) → IsComing s w n what (seen i)
  received-coming (Begin p) i again is = plain (Begin p) (seen i) Incoming.Nothing refl is
  received-coming (Go p) i again is = plain (Go p) (seen i) Incoming.Nothing refl is
  received-coming (Take from index) i again is = taken-coming from index (numbered index (w.frames from n)) i refl is
  received-coming (Notice p from to index) i again is = record { incoming = seen i; comes = sym is.0; alike_is = alike (given s n) (w.nodes n) (Notice p from to index) (seen i) (seen i) refl; head = one-head (seen i) }
  received-coming (Ready phase) i again is = plain (Ready phase) (seen i) Incoming.Nothing refl is
  received-coming (Mark from phase) i again is = record { incoming = seen i; comes = sym is; alike_is = alike (given s n) (w.nodes n) (Mark from phase) (seen i) (seen i) refl; head = one-head (seen i) }

  -- where nothing of the kind was sent nothing is received
  taken-none : (o : Option Message) → IsTakenOf w n o None → taken o ≡ None
  taken-none None is = refl
  taken-none (Some m) is = absurd is

  pub received-none : (what : What) → IsReceived w n what None → incoming_of w n what ≡ None
  received-none (Begin p) is = absurd (cc)
  received-none (Go p) is = absurd (cc)
  received-none (Take from index) is = taken-none (numbered index (w.frames from n)) is
  received-none (Notice p from to index) is = sym is.0
  received-none (Ready phase) is = absurd (cc)
  received-none (Mark from phase) is = sym is

  -- so what is received decides the event
  pub decided-received : (what : What) (i : Incoming) → is_node s.opening n ≡ true → IsComing s w n what i → decided s w n what ≡ option_map (line_of n what) (decided_step (given s n) (w.nodes n) what i)
  decided-received what i node is =
      ap (λ b. decided_if b s w n what) node
      ∙ (ap (λ (o : Option Incoming). o >>= decided_by s w n what) is.comes
      ∙ ap (option_map (line_of n what))
      (ap (λ b. step_if b (named_step (given s n) (w.nodes n) what is.incoming)) (sym is.alike_is.may)
      ∙ ap (step_if (enabled (given s n) (w.nodes n) what i)) (sym is.alike_is.step)))

  -- an event that is not enabled does not happen
  pub not-decided : (what : What) (i : Incoming) → is_node s.opening n ≡ true → IsComing s w n what i → enabled (given s n) (w.nodes n) what i ≡ false → decided s w n what ≡ None
  not-decided what i node is may =
      decided-received what i node is ∙ ap (λ b. option_map (line_of n what) (step_if b (named_step (given s n) (w.nodes n) what i))) may

  -- one that is enabled is what its step says
  pub is-decided : (what : What) (i : Incoming) (st : Stepped) → is_node s.opening n ≡ true → IsComing s w n what i → enabled (given s n) (w.nodes n) what i ≡ true
      → named_step (given s n) (w.nodes n) what i ≡ Some st → decided s w n what ≡ Some (line_of n what st)
  is-decided what i st node is may steps =
      decided-received what i node is
      ∙ ap (λ b. option_map (line_of n what) (step_if b (named_step (given s n) (w.nodes n) what i))) may
      ∙ ap (option_map (line_of n what)) steps

  -- and nothing happens at what is no node, or where nothing of the kind was sent
  pub no-node : (what : What) → is_node s.opening n ≡ false → decided s w n what ≡ None
  no-node what node = ap (λ b. decided_if b s w n what) node

  pub nothing-sent : (what : What) → IsReceived w n what None → decided s w n what ≡ None
  nothing-sent what is = by (is_node s.opening n)
    where
      by : (b : Bool) → decided_if b s w n what ≡ None
      by true = ap (λ (o : Option Incoming). o >>= decided_by s w n what) (received-none what is)
      by false = refl
