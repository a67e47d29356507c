-- Where no event is enabled, no call is open, so all nodes have ended.
use Rattle.std.proofs.Common.{◌≡◌, ℕ, true, List, [], ◌∷◌, Option, Some, None, inl, inr, refl, sym, subst, arith}
use Rattle.std.specs.Prelude.{nat_le, ◌&&◌}
use Rattle.std.proofs.lemmas.Bool.Decides.{nat_tests}
use Rattle.dom_history.specs.declared.plan.FateRow.{FateRow}
use Rattle.dom_history.specs.Histories.{SomeOf}
use Rattle.dom_history.specs.Objects.{is_node}
use Rattle.ring_messages.specs.Frames.{Message}
use Rattle.fault_handler.specs.Desks.{IsNode}
use Rattle.fault_handler.specs.Invariant.{IsProc}
use Rattle.node_runs.specs.Agreements.{IsDoing, Agrees}
use Rattle.node_runs.specs.Setups.{Setup, IsSetup}
use Rattle.node_runs.specs.NodeStates.{Asked, Await, BegunOp, OpenOp, proc_of}
use Rattle.node_runs.specs.NodesKeep.{IsTimely}
use Rattle.node_runs.specs.Dones.{asking}
use Rattle.node_runs.specs.Runs.{World, HasEnded, numbered}
use Rattle.node_runs.specs.CallsKeep.{EachOf}
use Rattle.run_laws.specs.DecidedReplies.{proc_at}
use Rattle.world_runs.specs.Gone.{FrameName, gone_in, was_told}
use Rattle.world_runs.specs.Turns.{enabled_events, after_turns}
use Rattle.world_runs.specs.Waiting.{Entry, waiting}
use Rattle.world_runs.proofs.Happening.{nodes-kept}
use Rattle.world_runs.proofs.Merging.{Merged, turns-merge}
use Rattle.run_laws.specs.FramesOfCalls.{IsOfCall}
use Rattle.run_laws.specs.OpenAsks.{HasCall, HasNoCall}
use Rattle.run_laws.specs.OpenFrames.{IsWaiting, IsUntold, HasFrame}
use Rattle.run_laws.proofs.CallFrames.{IsFrameOf, requests, replies}
use Rattle.run_laws.proofs.EndingRuns.{all-ended}
use Rattle.run_laws.proofs.NothingComing.{no-link}
use Rattle.run_laws.proofs.OpenFrames.{call-frame, frames-are}
use Rattle.run_laws.proofs.Stuck.{true-false}
use Rattle.run_laws.proofs.ToldFrames.{IsToldIfOf, all-told}

-- what holds of each frame of a list, holds of one of them
of-some : (P : FrameName → Type 0) (f : FrameName) (fs : List FrameName) → SomeOf (λ (g : FrameName). f ≡ g) fs → EachOf P fs → P f
of-some P f [] some each = absurd some
of-some P f (g ∷ fs) (inl same) each = subst P (sym same) each.0
of-some P f (g ∷ fs) (inr some) each = of-some P f fs some each.1

module _ (s : Setup) (setup : IsSetup s) (plan : List FateRow) (cs : List ℕ) (w : World) (e : after_turns s plan cs ≡ Some w) (timely : IsTimely w) (none : enabled_events s plan w ≡ []) where
  merged : Merged s w
  merged = (turns-merge s setup plan cs w e).merged timely

  module _ (n p : ℕ) (node : is_node s.opening n ≡ true) (proc : IsProc p) (o : BegunOp) (c : Asked) (doing : (proc_of (w.nodes n) p).doing ≡ asking o c) where
    abbrev opened : OpenOp
    opened = record { began = o; awaits = Await.Answer c }

    -- the home is a node
    home-is : is_node s.opening c.home ≡ true
    home-is =
        let is = nodes-kept s setup w merged timely n node in
        let d = (w.nodes n).desk in
        let last = (proc_of (w.nodes n) p).last in
        let agrees = subst (Agrees d p last) doing (is.agrees p proc) in
        let calling : IsDoing d p last o.op (Await.Answer c) = agrees.1 in
        let home : IsNode s.opening.nodes c.home = subst (λ i. IsNode i c.home) is.own.nodes calling.1.home in
        let low = home.0 in let high = home.1 in
        let h : (nat_le 1 c.home && nat_le c.home s.opening.nodes) ≡ true = grind (arith, nat_tests, low, high) in h

    -- nothing waits on its links
    waits-not : (f : FrameName) (m : Message) → IsFrameOf n c f.0 f.1 m → IsWaiting plan w f → ⊥
    waits-not f m is waits = subst (SomeOf (λ (x : Entry). Entry.Copy f.2 ≡ x)) (empty is) waits
      where
        between : is_node s.opening f.0 ≡ true → is_node s.opening f.1 ≡ true → waiting plan f.0 f.1 w.done ≡ []
        between = no-link s plan setup cs w e timely n p node proc opened doing none f.0 f.1

        empty : IsFrameOf n c f.0 f.1 m → waiting plan f.0 f.1 w.done ≡ []
        empty (requests from to asks) = between (subst (λ a. is_node s.opening a ≡ true) (sym from) node) (subst (λ a. is_node s.opening a ≡ true) (sym to) home-is)
        empty (replies answer to from asks body can right) = between (subst (λ a. is_node s.opening a ≡ true) (sym from) home-is) (subst (λ a. is_node s.opening a ≡ true) (sym to) node)

    -- and each lost frame was told
    told : (f : FrameName) → IsOfCall (proc_at n p) c.waiting.number (numbered f.2 (w.frames f.0 f.1)) → IsUntold plan w f → ⊥
    told f call is =
        let each = all-told s plan setup cs w e timely n p node proc opened doing c refl none in
        true-false (was_told w.done f) (of-some (IsToldIfOf w (proc_at n p) c.waiting.number) f (gone_in plan w.done) is.0 each call) is.1

    not-open : ⊥
    not-open = by (numbered had.frame.2 (w.frames had.frame.0 had.frame.1)) refl had.call
      where
        had : HasFrame plan w (proc_at n p) c.waiting.number
        had = frames-are s setup plan cs w e timely n p node proc o c doing

        by : (x : Option Message) → numbered had.frame.2 (w.frames had.frame.0 had.frame.1) ≡ x → IsOfCall (proc_at n p) c.waiting.number x → ⊥
        by None found call = call
        by (Some m) found call = elim had.way [
          | inl waits ↦ waits-not had.frame m (call-frame s setup plan w merged timely n p node proc o c doing had.frame m found call) waits
          | inr untold ↦ told had.frame had.call untold
        ]

  pub no-call : HasNoCall s w
  no-call n node p proc = by (proc_of (w.nodes n) p).doing refl
    where
      of-await : (o : BegunOp) (a : Await) → (proc_of (w.nodes n) p).doing ≡ Some (record { began = o; awaits = a }) → HasCall (Some (record { began = o; awaits = a })) → ⊥
      of-await o (Await.Answer c) doing has = not-open n p node proc o c doing
      of-await o (Await.Page u k) doing has = has

      by : (o : Option OpenOp) → (proc_of (w.nodes n) p).doing ≡ o → HasCall o → ⊥
      by None doing has = has
      by (Some o) doing has = of-await o.began o.awaits doing has

  pub none-stuck : HasEnded s w
  none-stuck = all-ended s setup plan cs w e timely none no-call
