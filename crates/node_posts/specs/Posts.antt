-- What is known of a post, and what serving it keeps.
use Rattle.std.specs.Prelude.{◌≡◌, ℕ, ◌+◌, ◌<◌, ◌≤◌, ◌^◌, IsTrue, Option, Some, None, List, [], ◌++◌, map, length, reverse, slice_get}
use Rattle.std.specs.List.{AllZip, AllByRecursion}
use Rattle.dom_history.specs.declared.op.Reply.{Reply}
use Rattle.dom_history.specs.declared.op.Want.{Want}
use Rattle.dom_history.specs.declared.plan.FateRow.{FateRow}
use Rattle.dom_history.specs.Plans.{fate_of, IsPlan}
use Rattle.fault_handler.specs.Desks.{IsNode}
use Rattle.node_runs.specs.Setups.{Setup}
use Rattle.node_runs.specs.Incomings.{Incoming}
use Rattle.node_runs.specs.Runs.{World, numbered, told_of}
use Rattle.node_runs.specs.Deliveries.{is_gone, noticed_in}
use Rattle.world_runs.specs.Gone.{FrameName}
use Rattle.ring_links.specs.declared.entry.Waiting.{Waiting}
use Rattle.ring_links.specs.declared.entry.Waiting.TheVariants as waiting
use Rattle.ring_links.specs.declared.notice.Notice.{Notice}
use Rattle.ring_links.specs.Notices.{notice_incoming}
use Rattle.ring_links.specs.Carried.{Carrying, CarriesFrames, plain_name}
use Rattle.node_core.specs.declared.fault.RunFault.{RunFault}
use Rattle.node_core.specs.declared.fault.RunFault.TheVariants as faults
use Rattle.node_core.specs.declared.setup.Incoming as code
use Rattle.node_core.specs.declared.setup.Incoming.TheVariants as received
use Rattle.node_core.specs.Receivings.{seen}
use Rattle.node_core.specs.Nodes.{state_of}
use Rattle.local_runs.specs.LocalRuns.{events_in}
use Rattle.local_runs.specs.NamedRuns.{AreNamedAlone}
use Rattle.wire_links.specs.declared.carried.Carried.{Carried}
use Rattle.wire_links.specs.declared.wire.WireIn.{WireIn}
use Rattle.wire_links.specs.declared.wire.WireOut.{WireOut}
use Rattle.wire_links.specs.Carrying.{Posting, wire_after}
use Rattle.wire_links.specs.Wires.{wire_of, pushed, taken, IsOfLink, SameIn, SameOut}
use Rattle.local_runs.specs.Posts.{Serving, IsServed, times_named}
use Rattle.node_posts.specs.declared.post.Post.{Post}
use Rattle.node_posts.specs.Ends.{other_at}
use Rattle.node_posts.specs.Owns.{IsOwn}

-- the end from which a link leads has what was sent there, by the plan
pub record IsOut (plan : List FateRow) (from to : ℕ) (xs : List Posting) (o : WireOut) : Type 0 where
  pub link : IsOfLink plan from to o
  pub wire : wire_of o ≡ wire_after (fate_of plan from to) xs

-- so does each; and what was taken from each ring is what came out of it, and nothing came from what is no node
pub record AreOuts (nodes : ℕ) (plan : List FateRow) (n : ℕ) (outs : ℕ → List Posting) (ends : List WireOut) : Type 0 where
  pub many : length ends + 1 ≡ nodes
  pub each : (at : ℕ) (o : WireOut) → slice_get ends at ≡ Some o → IsOut plan n (other_at n at) (outs (other_at n at)) o

pub record AreIns (nodes n : ℕ) (ins : ℕ → List Carried) (ends : List WireIn) : Type 0 where
  pub many : length ends + 1 ≡ nodes
  pub each : (at : ℕ) (i : WireIn) → slice_get ends at ≡ Some i → taken i ≡ ins (other_at n at)
  pub none : (from : ℕ) → (IsNode nodes from → ⊥) → ins from ≡ []

-- a frame that a node sent to itself, of its version
abbrev pub IsOwnFrame : ℕ → ℕ → Waiting → Incoming → Type 0
IsOwnFrame wire n (waiting.Copy index) (Incoming.Frame m) = (m.from ≡ n) × (m.to ≡ n) × (m.tick < 2 ^ 40) × (m.version ≡ wire)
IsOwnFrame wire n w incoming = ⊥

-- a node's link to itself has the frames that it sent there, of which these wait
pub record IsOwnLink (wire n : ℕ) (w : World) (link : Carrying code.Incoming) : Type 0 where
  pub carries : CarriesFrames (map received.Frame (w.frames n n)) link
  pub later : link.later ≡ []
  pub frames : AllByRecursion (λ e. IsOwnFrame wire n e.waiting (seen e.received)) link.queue

-- a notice that waits is of a frame of the node that is lost or late
pub record IsNoticeHere (nodes : ℕ) (plan : List FateRow) (n : ℕ) (w : World) (x : Notice) : Type 0 where
  pub from : x.from ≡ n
  pub told : told_of (record { node = n; number = x.proc }) (numbered x.index (w.frames n x.to)) ≡ Some (notice_incoming x)
  pub gone : IsTrue (is_gone (fate_of plan n x.to x.index))
  pub early : x.tick < 2 ^ 40
  pub receiver : IsNode nodes x.to

abbrev pub frame_name : Notice → FrameName
frame_name x = (x.from, x.to, x.index)

-- so is each; and of each of its frames the node was told once, or will be, at most
pub record AreNotices (nodes : ℕ) (plan : List FateRow) (n : ℕ) (p : Serving) (xs : List Notice) : Type 0 where
  pub each : AllByRecursion (IsNoticeHere nodes plan n p.world) xs
  pub once : (f : FrameName) → f.0 ≡ n → times_named f (noticed_in (events_in p.own)) + times_named f (map frame_name xs) ≤ 1

-- what was pushed is a first part of what a wire of the plan puts of what was sent
pub record IsPushed (plan : List FateRow) (from to : ℕ) (xs : List Posting) (o : WireOut) : Type 0 where
  pub rest : List Carried
  pub put : (wire_after (fate_of plan from to) xs).put ≡ pushed o ++ rest

-- what came out is a first part of what was taken
pub record IsCome (ins : List Carried) (i : WireIn) : Type 0 where
  pub rest : List Carried
  pub came : taken i ≡ ins ++ rest

-- its fault, if it is of the last tick, is of this node, which came to that tick
abbrev pub IsLastTick : ℕ → ℕ → Serving → Option RunFault → Type 0
IsLastTick limit n p (Some (faults.TickLimit k)) = (k ≡ n) × (limit ≤ (p.world.nodes n).tick)
IsLastTick limit n p fault = Unit {0}

module _ {P G : Type 0} where
  -- whatever came: the post is served, its journal has what its node did, room was made as its cache names it, and what was pushed and taken
  -- is what it sent and received, of nodes alone
  pub record IsKnown (s : Setup) (plan : List FateRow) (n : ℕ) (p : Serving) (x : Post P G) : Type 0 where
    pub served : IsServed s plan n p
    pub named : AreNamedAlone s n p.own
    pub timely : (p.world.nodes n).tick ≤ 2 ^ 40
    pub log : x.node.log ≡ record { node = n; events = reverse (events_in p.own) }
    pub ins : (at : ℕ) (i : WireIn) → slice_get x.ins.items at ≡ Some i → IsCome (p.ins (other_at n at)) i
    pub none : (from : ℕ) → (IsNode s.opening.nodes from → ⊥) → p.ins from ≡ []
    pub outs : (at : ℕ) (o : WireOut) → slice_get x.outs.items at ≡ Some o → IsPushed plan n (other_at n at) (p.outs (other_at n at)) o

  -- what is known of it at a fault too
  pub record IsLogged (limit : ℕ) (s : Setup) (plan : List FateRow) (n : ℕ) (x : Post P G) : Type 0 where
    pub post : Serving
    pub known : IsKnown s plan n post x
    pub last : IsLastTick limit n post x.fault

  module _ (wants : P → Want) (becomes : P → Option Reply → P) where
    -- all that is known of a post without a fault: it has what its node did, what came out of its rings and what was sent
    pub record IsPost (made : ℕ → Option P) (s : Setup) (plan : List FateRow) (n : ℕ) (p : Serving) (x : Post P G) : Type 0 where
      pub node : IsOwn wants becomes made s n p.own p.world x.node
      pub plan_kept : IsPlan plan
      pub served : IsServed s plan n p
      pub ins : AreIns s.opening.nodes n p.ins x.ins.items
      pub outs : AreOuts s.opening.nodes plan n p.outs x.outs.items
      pub own : IsOwnLink s.wire n p.world x.own
      pub own_rest : served.own_rest ≡ map (λ e. plain_name e.waiting) x.own.queue
      pub notices : AreNotices s.opening.nodes plan n p x.notices.items

    abbrev pub IsWhole : (ℕ → Option P) → Setup → List FateRow → ℕ → Post P G → Type 0
    IsWhole made s plan n x = (p : Serving) × IsPost made s plan n p x

    -- what serving keeps of a post: where no fault came, all of it, and its tick is below the last one; and at a fault what is known then
    pub record IsKept (limit : ℕ) (made : ℕ → Option P) (s : Setup) (plan : List FateRow) (n : ℕ) (x : Post P G) : Type 0 where
      pub logged : IsLogged limit s plan n x
      pub low : x.fault ≡ None → (state_of x.node).tick < limit
      pub whole : x.fault ≡ None → IsWhole made s plan n x

    -- it is kept of some run
    pub record HasRun (limit : ℕ) (x : Post P G) : Type 0 where
      pub made : ℕ → Option P
      pub setup : Setup
      pub plan : List FateRow
      pub number : ℕ
      pub is : IsKept limit made setup plan number x

    -- serving goes on from one post to another: the ends are of the same rings, and what was kept is still
    pub record GoesOn (limit : ℕ) (old new : Post P G) : Type 0 where
      pub ins : AllZip SameIn old.ins.items new.ins.items
      pub outs : AllZip SameOut old.outs.items new.outs.items
      pub kept : (made : ℕ → Option P) (s : Setup) (plan : List FateRow) (n : ℕ) → IsKept limit made s plan n old → IsKept limit made s plan n new
