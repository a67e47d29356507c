-- What one event does to a post, whatever it comes from.
use Rattle.std.specs.Prelude.{◌≡◌, ◌≢◌, ℕ, ◌≤◌, ◌<◌, ◌^◌, ◌⊎◌, false, IfSome, Option, Some, None, List, ◌∷◌, ◌++◌, length}
use Rattle.dom_history.specs.declared.op.Reply.{Reply}
use Rattle.dom_history.specs.declared.op.Want.{Want}
use Rattle.dom_history.specs.declared.event.What.{What}
use Rattle.dom_history.specs.declared.event.What.TheVariants as events
use Rattle.dom_history.specs.declared.plan.FateRow.{FateRow}
use Rattle.ring_messages.specs.Spelled.{IsFrame}
use Rattle.node_runs.specs.Setups.{Setup, Given, given}
use Rattle.node_runs.specs.NodeStates.{NodeState}
use Rattle.node_runs.specs.Incomings.{Incoming, tick_of, enabled}
use Rattle.node_runs.specs.Outcomes.{Stepped}
use Rattle.node_runs.specs.Steps.{step_of}
use Rattle.node_runs.specs.Runs.{World}
use Rattle.local_runs.specs.LocalRuns.{Own, own_event, own_world}
use Rattle.node_core.specs.declared.setup.Emitted.{Emitted}
use Rattle.node_core.specs.declared.fault.RunFault.{RunFault}
use Rattle.node_core.specs.declared.fault.RunFault.TheVariants as faults
use Rattle.node_core.specs.Nodes.{Noted, Stands, state_of}
use Rattle.node_core.specs.Receivings.{emitted_by}
use Rattle.wire_links.specs.Carrying.{Posting, frames_of}
use Rattle.node_posts.specs.declared.post.Post.{Post}
use Rattle.node_posts.specs.Ends.{other_at}
use Rattle.node_posts.specs.Sending.{posted, AreOutsAfter, AreUnpushed, own_after, told_after}
use Rattle.node_posts.specs.Owns.{IsOwn}
use Rattle.wire_links.specs.declared.carried.Carried.{Carried}
use Rattle.node_posts.specs.Reading.{IsEventFor, IsOdd}
use Rattle.node_posts.specs.Posts.{AreOuts}

-- the event receives nothing
abbrev pub IsStart : What → Type 0
IsStart (events.Begin p) = Unit {0}
IsStart (events.Go p) = Unit {0}
IsStart (events.Ready phase) = Unit {0}
IsStart what = ⊥

-- an event that a node did which stood for this: it is a step, and the frame that it sends, if it sends one, can be spelled
pub record IsStep {P : Type 0} (wants : P → Want) (becomes : P → Option Reply → P) (made : ℕ → Option P) (s : Setup) (n : ℕ) (own : List Own) (w : World) (what : What) (incoming : Incoming) (st : Stepped) (new : Noted P) : Type 0 where
  pub node : IsOwn wants becomes made s n (own_event n what incoming st ∷ own) (own_world n w what st) new
  pub steps : step_of (given s n) (w.nodes n) what incoming st.effects.dropped ≡ Some st
  pub frame : IfSome (emitted_by what st).frame (λ sent. IsFrame sent.1)

-- so it is, whatever the node stood for
abbrev pub Steps : {P : Type 0} → (P → Want) → (P → Option Reply → P) → What → Incoming → Noted P → Noted P → Emitted → Type 0
Steps {P} wants becomes what incoming old new emitted =
    (made : ℕ → Option P) (s : Setup) (n : ℕ) (own : List Own) (w : World) → IsOwn wants becomes made s n own w old →
    (st : Stepped) × (emitted ≡ emitted_by what st) × IsStep wants becomes made s n own w what incoming st new

-- the event is enabled at no node for which this one stands
abbrev pub IsRefused : {P : Type 0} → (P → Want) → (P → Option Reply → P) → What → Incoming → Noted P → Type 0
IsRefused {P} wants becomes what incoming x = (made : ℕ → Option P) (g : Given) (m : NodeState) → Stands wants becomes made g x m → enabled g m what incoming ≡ false

module _ {P G : Type 0} where
  -- what an event of this tick emits came to the ends of its node
  pub record IsSentStep (n tick : ℕ) (emitted : Emitted) (old new : Post P G) : Type 0 where
    pub outs : AreOutsAfter (λ at. posted tick (other_at n at) emitted) old.outs.items new.outs.items
    pub own : new.own ≡ own_after n emitted old.own
    pub notices : new.notices.items ≡ old.notices.items ++ told_after n emitted old.outs.items

  -- nothing came out of a ring, and nothing was pushed
  pub record IsBeside (old new : Post P G) : Type 0 where
    pub ins : new.ins.items ≡ old.ins.items
    pub outs : AreUnpushed old.outs.items new.outs.items

  -- a fault of the last tick came where the node came to it
  abbrev pub IsCause : ℕ → RunFault → Post P G → Type 0
  IsCause limit (faults.TickLimit k) x = (k ≡ x.node.log.node) × (limit ≤ (state_of x.node).tick)
  IsCause limit faults.NoMemory x = Unit {0}

  module _ (wants : P → Want) (becomes : P → Option Reply → P) where
    -- the node, its link to itself and the ends from it have what it did and what was sent, whatever waits for it
    pub record IsSender (made : ℕ → Option P) (s : Setup) (plan : List FateRow) (n : ℕ) (own : List Own) (w : World) (outs : ℕ → List Posting) (x : Post P G) : Type 0 where
      pub node : IsOwn wants becomes made s n own w x.node
      pub outs_are : AreOuts s.opening.nodes plan n outs x.outs.items
      pub counted : (to : ℕ) → to ≢ n → frames_of (outs to) ≡ w.frames n to
      pub own_counted : x.own.frames ≡ length (w.frames n n)

    -- something may be done there, below the last tick, that names such nodes
    pub record MayDo (limit : ℕ) (names : ℕ → Type 0) (x : Post P G) : Type 0 where
      pub made : ℕ → Option P
      pub setup : Setup
      pub plan : List FateRow
      pub number : ℕ
      pub own : List Own
      pub world : World
      pub outs : ℕ → List Posting
      pub is : IsSender made setup plan number own world outs x
      pub low : (state_of x.node).tick < limit
      pub named : names setup.opening.nodes

    -- an event was done, and what it sends came to the ends
    pub record IsTurn (limit : ℕ) (what : What) (incoming : Incoming) (old new : Post P G) : Type 0 where
      pub beside : IsBeside old new
      pub low : (state_of new.node).tick < limit
      pub did : (made : ℕ → Option P) (s : Setup) (n : ℕ) (own : List Own) (w : World) → IsOwn wants becomes made s n own w old.node →
          (st : Stepped) × IsStep wants becomes made s n own w what incoming st new.node × IsSentStep n st.node.tick (emitted_by what st) old new

    -- it was done, and is in the journal, but not sent
    abbrev pub IsUnsent : What → Incoming → Post P G → Post P G → Type 0
    IsUnsent what incoming old new =
        (made : ℕ → Option P) (s : Setup) (n : ℕ) (own : List Own) (w : World) → IsOwn wants becomes made s n own w old.node →
        (st : Stepped) × IsStep wants becomes made s n own w what incoming st new.node

    -- the event ended in a fault: it was not done, for want of memory, or it was not sent
    pub record IsFailed (limit : ℕ) (what : What) (incoming : Incoming) (fault : RunFault) (old new : Post P G) : Type 0 where
      pub beside : IsBeside old new
      pub did : ((fault ≡ faults.NoMemory) × (new.node.log ≡ old.node.log)) ⊎ (IsUnsent what incoming old new × IsCause limit fault new)

    -- the event was done, and its fault is noted, if one came
    abbrev pub IsDone : ℕ → What → Incoming → Post P G → Post P G → Option RunFault → Type 0
    IsDone limit what incoming old new None = IsTurn limit what incoming old new
    IsDone limit what incoming old new (Some fault) = IsFailed limit what incoming fault old new

    -- what became of an entry that came out of the ring from a node: its event was done, or is not enabled, or it has none; or there was no
    -- memory to read it
    pub data Comes (limit from : ℕ) (x : Carried) (old new : Post P G) : Type 0 where
      done : (what : What) (incoming : Incoming) → IsEventFor from old.node.log.node x what incoming → tick_of incoming < 2 ^ 40 → IsDone limit what incoming old new new.fault → Comes limit from x old new
      dropped : (what : What) (incoming : Incoming) → IsEventFor from old.node.log.node x what incoming → IsRefused wants becomes what incoming old.node → new ≡ old → Comes limit from x old new
      odd : IsOdd x → new ≡ old → Comes limit from x old new
      unread : new ≡ record old { fault = Some faults.NoMemory } → Comes limit from x old new
