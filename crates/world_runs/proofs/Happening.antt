-- Each enabled event can be done, and what an event receives stays.
use Rattle.std.proofs.Common.{◌≡◌, ℕ, ◌<◌, ◌≤◌, ◌%◌, true, List, [], ◌∷◌, length, map, Option, Some, None, refl, sym, ap, subst, ◌∙◌, arith}
use Rattle.std.specs.Prelude.{◌^◌}
use Rattle.dom_history.specs.declared.event.What.{What}
use Rattle.dom_history.specs.declared.plan.FateRow.{FateRow}
use Rattle.dom_history.specs.Objects.{is_node}
use Rattle.uid_names.specs.Steps.{◌>>=◌}
use Rattle.uid_names.proofs.ListLemmas.{get-within}
use Rattle.node_runs.specs.Setups.{Setup, IsSetup, given}
use Rattle.node_runs.specs.NodeStates.{NodeState}
use Rattle.node_runs.specs.Incomings.{Incoming}
use Rattle.node_runs.specs.SentFrames.{IsFrame, IsIncoming, AreFrames}
use Rattle.node_runs.specs.NodesKeep.{IsNodeOf, IsTimely}
use Rattle.node_runs.specs.Runs.{World, choice_of, numbered, incoming_of, mark_of, world_with}
use Rattle.node_runs.specs.CallsKeep.{EachOf}
use Rattle.node_runs.proofs.SettingUp.{setup-gives}
use Rattle.node_runs.proofs.Happening.{enabled-happens}
use Rattle.node_runs.proofs.Receiving.{incoming-is}
use Rattle.node_runs.proofs.Running.{AreKept, run-keeps}
use Rattle.world_runs.specs.ByPlace.{by_place}
use Rattle.world_runs.specs.Turns.{Act, is_enabled_by, enabled_events, does_with, happened, does, chosen, turn, after_turns}
use Rattle.world_runs.proofs.Alike.{frames-added, marks-marked}
use Rattle.world_runs.proofs.Among.{Among, among-get}
use Rattle.world_runs.proofs.Marking.{HasSent, AreMarked, marks-are, step-marking}
use Rattle.world_runs.proofs.Receiving.{Always, incoming-as, frame-forth, mark-forth}
use Rattle.world_runs.proofs.Inserting.{other-mark}
use Rattle.world_runs.proofs.Turning.{IsListed, listed-is, act_place}
use Rattle.world_runs.proofs.Merging.{Merged, turns-merge}
use Rattle.world_runs.proofs.TimelyTurns.{IsTimelyTurn}

module _ (s : Setup) (setup : IsSetup s) (w : World) (merged : Merged s w) (timely : IsTimely w) where
  kept : AreKept s merged.world
  kept = (run-keeps s setup (map choice_of (by_place w.done)) merged.world merged.run).kept (λ m. subst (λ (x : NodeState). x.tick ≤ 2 ^ 40) (merged.like.nodes m) (timely m))

  pub nodes-kept : (n : ℕ) → is_node s.opening n ≡ true → IsNodeOf (given s n) (w.nodes n)
  nodes-kept n node = subst (IsNodeOf (given s n)) (sym (merged.like.nodes n)) (kept.nodes n node)

  pub frames-kept : AreFrames w
  frames-kept from to = subst (EachOf IsFrame) (sym (merged.like.frames from to)) (kept.frames from to)

  pub received-kept : (n : ℕ) (what : What) (incoming : Incoming) → incoming_of w n what ≡ Some incoming → IsIncoming incoming
  received-kept n what incoming e = incoming-is IsIncoming tt (λ number tick. tt) (λ tick. tt) IsFrame (λ m frame. frame) w n (λ from. frames-kept from n) what incoming e

  -- an enabled event can be done
  by-incoming : (a : Act) (o : Option Incoming) → is_node s.opening a.node ≡ true → incoming_of w a.node a.what ≡ o → is_enabled_by (given s a.node) (w.nodes a.node) a.what o ≡ true → (v : World) × (does s w a ≡ Some v)
  by-incoming a None node comes may = absurd (cc)
  by-incoming a (Some i) node comes may =
      let found = enabled-happens (given s a.node) (w.nodes a.node) a.what i (setup-gives s setup a.node node) (nodes-kept a.node node) (received-kept a.node a.what i comes) may in (
        world_with w (act_place a found.0) a.what found.0,
        ap (λ (o : Option Incoming). o >>= does_with s w a) comes ∙ ap (happened w a) found.1,
      )

  pub listed-happens : (plan : List FateRow) (a : Act) → IsListed s plan w a → (v : World) × (does s w a ≡ Some v)
  listed-happens plan a is = by-incoming a (incoming_of w a.node a.what) is.node refl is.may

some-turn : (s : Setup) (plan : List FateRow) (w v : World) (choice : ℕ) (acts : List Act) (a : Act) → enabled_events s plan w ≡ acts → chosen acts choice ≡ Some a → does s w a ≡ Some v → turn s plan w choice ≡ Some v
some-turn s plan w v choice acts a is found done = ap (λ (xs : List Act). chosen xs choice >>= does s w) is ∙ ap (λ (o : Option Act). o >>= does s w) found ∙ done

pub none-some : {A : Type 0} (o : Option A) (x : A) → o ≡ None → o ≡ Some x → ⊥
none-some o x none some = absurd (cc)

module _ (s : Setup) (setup : IsSetup s) (plan : List FateRow) (w : World) (merged : Merged s w) (timely : IsTimely w) (choice : ℕ) where
  some-done : (acts : List Act) → enabled_events s plan w ≡ acts → (a : Act) → chosen acts choice ≡ Some a → turn s plan w choice ≡ None → ⊥
  some-done acts is a found none =
      let listed = listed-is s plan w a (subst (λ (xs : List Act). Among a xs) (sym is) (among-get acts (choice % length acts) a found)) in
      let done = listed-happens s setup w merged timely plan a listed in
      none-some (turn s plan w choice) done.0 none (some-turn s plan w done.0 choice acts a is found done.1)

  of-list : (acts : List Act) → enabled_events s plan w ≡ acts → turn s plan w choice ≡ None → acts ≡ []
  of-list [] is none = refl
  of-list (a ∷ more) is none =
      let found = get-within (a ∷ more) (choice % length (a ∷ more)) (omega arith) in
      absurd (some-done (a ∷ more) is found.0 found.1 none)

  -- nothing is done exactly where nothing is enabled
  pub turn-none : turn s plan w choice ≡ None → enabled_events s plan w ≡ []
  turn-none none = of-list (enabled_events s plan w) refl none

pub none-turn : (s : Setup) (plan : List FateRow) (w : World) (choice : ℕ) → enabled_events s plan w ≡ [] → turn s plan w choice ≡ None
none-turn s plan w choice is = ap (λ (acts : List Act). chosen acts choice >>= does s w) is

-- what an event receives, it receives after any other event too
module _ (s : Setup) (plan : List FateRow) (old new : World) (turn : IsTimelyTurn s plan old new) (are : AreMarked old) where
  pub received-stays : (n : ℕ) (what : What) (i : Incoming) → incoming_of old n what ≡ Some i → incoming_of new n what ≡ Some i
  received-stays n what i e =
      let is = turn.is in
      subst (λ (w : World). incoming_of w n what ≡ Some i) (sym is.world)
      (incoming-as Always old (world_with old (act_place is.act is.step) is.act.what is.step)
      (λ from to k m found fine. ap (numbered k) (frames-added old is.act.node is.step.frame from to) ∙ frame-forth k is.act.node m is.step.frame from to (old.frames from to) found)
      (λ from phase m found fine.
      marks-marked old (act_place is.act is.step) is.act.what is.step from phase
      ∙ mark-forth is.act.node is.step.node.tick from phase m is.act.what (mark_of old from phase)
      (other-mark old is.act.node from phase m is.act.what is.step are
      (step-marking (given s is.act.node) (old.nodes is.act.node) is.act.what is.incoming is.step.effects.dropped is.step turn.steps) found)
      found)
      n what i e tt)

-- the marks of worlds of turns
pub turns-marked : (s : Setup) → IsSetup s → (plan : List FateRow) (cs : List ℕ) (w : World) → after_turns s plan cs ≡ Some w → IsTimely w → AreMarked w
turns-marked s setup plan cs w e timely =
    let merged = (turns-merge s setup plan cs w e).merged timely in
    let are = marks-are s (map choice_of (by_place w.done)) merged.world merged.run in
    record { sent = λ from phase m found. subst (λ (n : NodeState). HasSent n phase) (sym (merged.like.nodes from)) (are.sent from phase m (sym (merged.like.marks from phase) ∙ found)) }
