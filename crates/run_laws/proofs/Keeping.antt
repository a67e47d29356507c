-- In every run contents are as they were seen.
use Rattle.std.proofs.Common.{◌≡◌, ℕ, ◌≤◌, ◌<◌, List, ◌∷◌, Some, None, inl, inr, refl, sym, ap, subst, ◌∙◌, arith}
use Rattle.std.proofs.lemmas.Bool.{cases_eq}
use Rattle.uid_names.specs.Names.{ProcName}
use Rattle.call_once.specs.Calls.{last_of}
use Rattle.ring_messages.specs.Bodies.{Ask, Answer, ask_of}
use Rattle.ring_messages.specs.Frames.{Message, caller_of}
use Rattle.fault_handler.specs.Invariant.{IsProc}
use Rattle.node_runs.specs.Setups.{Setup, IsSetup, given}
use Rattle.node_runs.specs.NodeStates.{NodeState, proc_of}
use Rattle.node_runs.specs.Incomings.{Incoming}
use Rattle.node_runs.specs.Notes.{Note}
use Rattle.node_runs.specs.SentFrames.{IsFrame, IsIncoming}
use Rattle.node_runs.specs.NodesKeep.{IsTimely}
use Rattle.node_runs.specs.Runs.{World, Choice, calls_after, world_after}
use Rattle.node_runs.specs.CallsKeep.{IsCallAt}
use Rattle.node_runs.proofs.Calls.{put-same, put-other}
use Rattle.node_runs.proofs.Worlds.{place_at}
use Rattle.node_runs.proofs.Decisions.{IsNoDecision, HomeStep, apart, decides, IsDecisionOn}
use Rattle.node_runs.proofs.SettingUp.{setup-procs}
use Rattle.run_laws.proofs.HearingRuns.{IsKeptNext, every-kept-run, event, event-incoming}
use Rattle.run_laws.proofs.Replies.{caller-at}
use Rattle.run_laws.specs.DeskSteps.{IsSameDoing, NodeMove, still, moved}
use Rattle.run_laws.proofs.DeskSteps.{same-doing}
use Rattle.run_laws.specs.LiveLocks.{served_of}
use Rattle.run_laws.proofs.LiveRun.{end-none, link-call}
use Rattle.run_laws.proofs.Stamping.{stamped-are}
use Rattle.run_laws.specs.DeskContents.{AreContents}
use Rattle.run_laws.proofs.WriteCalls.{node-move, home-step}
use Rattle.run_laws.proofs.Lawful.{IsLawful, lawful}
use Rattle.run_laws.proofs.Quiet.{contents-of, IsDeskStill}
use Rattle.run_laws.proofs.Decided.{IsDecidedStep, decided-contents}
use Rattle.run_laws.proofs.Steps.{quiet-move}

module _ (s : Setup) (setup : IsSetup s) (old : World) (c : Choice) (new : World) (next : IsKeptNext s old c new) where
  open event s old c new next use {n, step, after}

  module _ (law : IsLawful s old) (law_after : IsLawful s after) (were : AreContents s old) where
    served-more : ((p : ProcName) → last_of p n.side.served ≤ last_of p step.node.side.served) → (q : ProcName) (a : ℕ) → served_of old q a ≤ served_of after q a
    served-more more q a = elim (cases_eq a c.node) [
      | inl here ↦
          (let e = ap (λ (x : NodeState). last_of q x.side.served) (put-same old.nodes c.node a step.node here) in
          let f = ap (λ b. last_of q (old.nodes b).side.served) here in
          let k = more q in
          omega (arith, e, f, k))
      | inr away ↦ (let e = ap (λ (x : NodeState). last_of q x.side.served) (put-other old.nodes c.node a step.node away) in omega (arith, e))
    ]

    home-still : step.node.side.home ≡ n.side.home → (a : ℕ) → (after.nodes a).side.home ≡ (old.nodes a).side.home
    home-still same a = elim (cases_eq a c.node) [
      | inl here ↦ ap (λ (x : NodeState). x.side.home) (put-same old.nodes c.node a step.node here) ∙ (same ∙ ap (λ b. (old.nodes b).side.home) (sym here))
      | inr away ↦ ap (λ (x : NodeState). x.side.home) (put-other old.nodes c.node a step.node away)
    ]

    pub locks-still : step.node.side.locks ≡ n.side.locks → (a : ℕ) → (after.nodes a).side.locks ≡ (old.nodes a).side.locks
    locks-still same a = elim (cases_eq a c.node) [
      | inl here ↦ ap (λ (x : NodeState). x.side.locks) (put-same old.nodes c.node a step.node here) ∙ (same ∙ ap (λ b. (old.nodes b).side.locks) (sym here))
      | inr away ↦ ap (λ (x : NodeState). x.side.locks) (put-other old.nodes c.node a step.node away)
    ]

    -- a home decides, and the desks stay
    desks-still : step.node.desk ≡ n.desk → ((q : ℕ) → IsProc q → IsSameDoing (proc_of n q).doing (proc_of step.node q).doing) → step.call ≡ None → (a : ℕ) → IsDeskStill old after a
    desks-still desk same uncalled a = elim (cases_eq a c.node) [
      | inl here ↦ record {
        desk = ap (λ (x : NodeState). x.desk) (put-same old.nodes c.node a step.node here) ∙ (desk ∙ ap (λ b. (old.nodes b).desk) (sym here));
        doing = λ q owner. subst (λ (x : NodeState). IsSameDoing (proc_of (old.nodes a) q).doing (proc_of x q).doing) (sym (put-same old.nodes c.node a step.node here))
            (subst (λ b. IsSameDoing (proc_of (old.nodes b) q).doing (proc_of step.node q).doing) (sym here) (same q owner));
        calls = λ q. ap (λ x. calls_after old c.node x a q) uncalled;
      }
      | inr away ↦ record {
        desk = ap (λ (x : NodeState). x.desk) (put-other old.nodes c.node a step.node away);
        doing = λ q owner. subst (λ (x : NodeState). IsSameDoing (proc_of (old.nodes a) q).doing (proc_of x q).doing) (sym (put-other old.nodes c.node a step.node away)) (same-doing (proc_of (old.nodes a) q).doing);
        calls = λ q. ap (λ x. calls_after old c.node x a q) uncalled;
      }
    ]

    here-node : after.nodes c.node ≡ step.node
    here-node = put-same old.nodes c.node c.node step.node refl

    frame-is : (m : Message) → next.is.incoming ≡ Incoming.Frame m → IsFrame m
    frame-is m frame = subst IsIncoming frame (event-incoming s old c new next)

    decided-step : (m : Message) (ask : Ask) (answer : Answer) → next.is.incoming ≡ Incoming.Frame m → ask_of m.body ≡ Some ask → ((p : ProcName) → last_of p n.side.served ≤ last_of p step.node.side.served) → last_of (caller_of m) n.side.served < m.number
        → step.note ≡ Note.Decided (caller_of m) m.number ask answer → IsDecisionOn n step.node (caller_of m) ask answer → ((a : ℕ) → IsDeskStill old after a) → IsDecidedStep old after
    decided-step m ask answer frame asks more above note decision desks =
        let caller = caller-at m ask asks in
        let is = frame-is m frame in
        record {
          place = place_at c step;
          caller = caller_of m;
          owner = subst (λ (q : ProcName). IsProc q.number) (sym caller) (is.range.proc_low, is.range.proc_high);
          number = m.number;
          ask = ask;
          answer = answer;
          trace = ap (λ x. record { place = place_at c step; note = x } ∷ old.trace) note;
          call = subst (λ (q : ProcName). IsCallAt (old.calls q.node q.number) m.number c.node ask) (sym caller) (link-call s old c new next m frame ask asks);
          kept = (next.kept.nodes c.node next.is.node).side.home;
          home = ap (λ (x : NodeState). x.side.home) here-node ∙ decision.home;
          locks = ap (λ (x : NodeState). x.side.locks) here-node ∙ decision.locks;
          told = decision.told;
          away = λ a away. (ap (λ (x : NodeState). x.side.home) (put-other old.nodes c.node a step.node away), ap (λ (x : NodeState). x.side.locks) (put-other old.nodes c.node a step.node away));
          fresh = above;
          served = λ q a. served-more more q a;
          desks = desks;
        }

    by-home : HomeStep (given s c.node) n c.what next.is.incoming step → NodeMove (given s c.node) n next.is.incoming step → AreContents s after
    by-home (apart more same none) move = quiet-move s setup old c new next law law_after were none (home-still same.0) (locks-still same.1) (λ q a. served-more more q a) move
    by-home (decides from index m ask answer takes frame asks more above now note decision) (still desk same quiet uncalled) =
        contents-of s after (λ u. decided-contents s old after (decided-step m ask answer frame asks more above note decision (desks-still desk same uncalled)) law law_after were u)
    by-home (decides from index m ask answer takes frame asks more above now note decision) (moved p o stage to proc is_at made at_desk doing others moved_note call side) =
        absurd (subst IsNoDecision (sym moved_note ∙ note) (end-none stage _ (proc_of n p).phase o to.turn))

    pub contents-later : AreContents s after
    contents-later = by-home (home-step s setup old c new next) (node-move s setup old c new next)

-- in every run
abbrev IsContentsRun : Setup → World → Type 0
IsContentsRun s w = (cs : List Choice) → world_after s cs ≡ Some w → IsTimely w → AreContents s w

pub contents-are : (s : Setup) → IsSetup s → (cs : List Choice) (w : World) → world_after s cs ≡ Some w → IsTimely w → AreContents s w
contents-are s setup cs w e timely =
    every-kept-run s setup (setup-procs s setup) (IsContentsRun s)
    (λ cs e timely. record {
      acknowledged = λ a p node u x v t there ack. absurd ack.answered;
      harmless = λ a p node u x v there clean m. absurd m.call;
      quiet = λ a p node proc u x m grant there row clean t above below. absurd (cc);
      as_seen = λ a node u x v t there shows clean seen. absurd (cc);
    })
    (λ before old c new e timely next was after whole late. subst (AreContents s) (sym next.is.world)
    (contents-later s setup old c new next (lawful s setup before old e timely (stamped-are s setup before old e timely)) (subst (IsLawful s) next.is.world (lawful s setup after new whole late (stamped-are s setup after new whole late))) (was before e timely)))
    cs w e timely cs e timely
