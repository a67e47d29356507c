-- What a step is: an event that is enabled, and one of the ways in which it may come out, with the pages that it drops.
use Rattle.std.proofs.Common.{◌≡◌, ℕ, Bool, true, false, List, Some, refl, sym, ap, subst, ◌∙◌}
use Rattle.uid_names.specs.Names.{ObjectName}
use Rattle.uid_names.specs.Steps.{◌>>=◌}
use Rattle.uid_names.proofs.Somes.{bind-some, map-some}
use Rattle.std.specs.Option.{option_map}
use Rattle.std.proofs.lemmas.Option.{same_Some}
use Rattle.dom_history.specs.declared.event.What.{What}
use Rattle.fault_handler.specs.declared.tasks.Task.{Task}
use Rattle.fault_handler.specs.Desks.{DeskState}
use Rattle.fault_handler.specs.Outcomes.{Moved}
use Rattle.fault_handler.specs.Victims.{Victim, MayMakeRoom}
use Rattle.fault_handler.specs.Accesses.{Accessed, room_made}
use Rattle.node_runs.specs.Setups.{Given}
use Rattle.node_runs.specs.NodeStates.{BegunOp, NodeState}
use Rattle.node_runs.specs.Incomings.{Incoming, enabled}
use Rattle.node_runs.specs.Outcomes.{Stepped, Stage, moved}
use Rattle.node_runs.specs.Doings.{Doing, event_of, ticked}
use Rattle.node_runs.specs.Rooms.{same_pages, moved_by, MayMove}
use Rattle.node_runs.specs.Steps.{stepped_if, stepped_by, step_if, step_of}
use Rattle.node_runs.proofs.MakingRoom.{same_pages-refl, moved_by-may, may-moved_by}

-- what an event may leave
abbrev pub Leaves : Given → NodeState → Doing → Stepped → Type 0
Leaves g n (Doing.Does done) s = s ≡ done
Leaves g n (Doing.Moves p o stage accessed) s = (to : Moved) × MayMove p accessed to × (s ≡ moved g n p o stage to)

pub record IsStep (g : Given) (n : NodeState) (what : What) (incoming : Incoming) (dropped : List (ObjectName × ℕ)) (s : Stepped) : Type 0 where
  pub enabled : enabled g n what incoming ≡ true
  pub event : Doing
  pub comes : event_of g (ticked n incoming) what incoming ≡ Some event
  pub leaves : Leaves g (ticked n incoming) event s
  pub drops : same_pages dropped s.effects.dropped ≡ true

stepped_if-is : (b : Bool) (done s : Stepped) → stepped_if b done ≡ Some s → (b ≡ true) × (s ≡ done)
stepped_if-is true done s e = (refl, sym (same_Some done s e))
stepped_if-is false done s e = absurd (cc)

stepped_by-is : (g : Given) (n : NodeState) (dropped : List (ObjectName × ℕ)) (event : Doing) (s : Stepped) → stepped_by g n dropped event ≡ Some s
    → Leaves g n event s × (same_pages dropped s.effects.dropped ≡ true)
stepped_by-is g n dropped (Doing.Does done) s e =
    let is = stepped_if-is (same_pages dropped done.effects.dropped) done s e in
    (is.1, ap (λ (x : Stepped). same_pages dropped x.effects.dropped) is.1 ∙ is.0)
stepped_by-is g n dropped (Doing.Moves p o stage accessed) s e =
    let is = map-some (moved g n p o stage) (moved_by p dropped accessed) s e in
    let may = moved_by-may p dropped accessed is.0 is.1 in
    ((is.0, may.0, is.2), ap (λ (x : Stepped). same_pages dropped x.effects.dropped) is.2 ∙ may.1)

step_if-is : (b : Bool) (g : Given) (n : NodeState) (what : What) (incoming : Incoming) (dropped : List (ObjectName × ℕ)) (s : Stepped)
    → b ≡ enabled g n what incoming → step_if b g n what incoming dropped ≡ Some s → IsStep g n what incoming dropped s
step_if-is false g n what incoming dropped s b e = absurd (cc)
step_if-is true g n what incoming dropped s b e =
    let found = bind-some (event_of g (ticked n incoming) what incoming) (stepped_by g (ticked n incoming) dropped) s e in
    let is = stepped_by-is g (ticked n incoming) dropped found.0 s found.2 in
    record { enabled = sym b; event = found.0; comes = found.1; leaves = is.0; drops = is.1 }

pub step_of-is : (g : Given) (n : NodeState) (what : What) (incoming : Incoming) (dropped : List (ObjectName × ℕ)) (s : Stepped)
    → step_of g n what incoming dropped ≡ Some s → IsStep g n what incoming dropped s
step_of-is g n what incoming dropped s e = step_if-is (enabled g n what incoming) g n what incoming dropped s refl e

leaves-stepped : (g : Given) (n : NodeState) (event : Doing) (s : Stepped) → Leaves g n event s → stepped_by g n s.effects.dropped event ≡ Some s
leaves-stepped g n (Doing.Does done) s is =
    ap (λ (x : Stepped). stepped_if (same_pages x.effects.dropped done.effects.dropped) done) is
    ∙ ap (λ b. stepped_if b done) (same_pages-refl done.effects.dropped) ∙ ap (λ (x : Stepped). Some x) (sym is)
leaves-stepped g n (Doing.Moves p o stage accessed) s (to, may, is) =
    ap (λ (x : Stepped). option_map (moved g n p o stage) (moved_by p x.effects.dropped accessed)) is
    ∙ ap (λ o2. option_map (moved g n p o stage) o2) (may-moved_by p accessed to may) ∙ ap (λ (x : Stepped). Some x) (sym is)

-- an enabled event happens in each way in which it may come out, with the pages that it drops then
pub leaves-steps : (g : Given) (n : NodeState) (what : What) (incoming : Incoming) (event : Doing) (s : Stepped) → enabled g n what incoming ≡ true
    → event_of g (ticked n incoming) what incoming ≡ Some event → Leaves g (ticked n incoming) event s → step_of g n what incoming s.effects.dropped ≡ Some s
leaves-steps g n what incoming event s is comes leaves =
    ap (λ b. step_if b g n what incoming s.effects.dropped) is
    ∙ ap (λ o. o >>= stepped_by g (ticked n incoming) s.effects.dropped) comes
    ∙ leaves-stepped g (ticked n incoming) event s leaves

-- where room has to be made, it is made in each way in which it may, and in no other
pub room-steps : (g : Given) (n : NodeState) (what : What) (incoming : Incoming) (p : ℕ) (o : BegunOp) (stage : Stage) (d : DeskState) (task : Task) (victim : Victim) → enabled g n what incoming ≡ true
    → event_of g (ticked n incoming) what incoming ≡ Some (Doing.Moves p o stage (Accessed.NeedsRoom d task)) → MayMakeRoom d victim
    → step_of g n what incoming (room_made d p task victim).dropped ≡ Some (moved g (ticked n incoming) p o stage (room_made d p task victim))
room-steps g n what incoming p o stage d task victim is comes may =
    leaves-steps g n what incoming (Doing.Moves p o stage (Accessed.NeedsRoom d task)) (moved g (ticked n incoming) p o stage (room_made d p task victim)) is comes (room_made d p task victim, (victim, may, refl), refl)

pub steps-room : (g : Given) (n : NodeState) (what : What) (incoming : Incoming) (dropped : List (ObjectName × ℕ)) (s : Stepped) (p : ℕ) (o : BegunOp) (stage : Stage) (d : DeskState) (task : Task)
    → event_of g (ticked n incoming) what incoming ≡ Some (Doing.Moves p o stage (Accessed.NeedsRoom d task)) → step_of g n what incoming dropped ≡ Some s
    → (victim : Victim) × MayMakeRoom d victim × (s ≡ moved g (ticked n incoming) p o stage (room_made d p task victim))
steps-room g n what incoming dropped s p o stage d task comes e =
    let is = step_of-is g n what incoming dropped s e in
    let left : Leaves g (ticked n incoming) (Doing.Moves p o stage (Accessed.NeedsRoom d task)) s =
    subst (λ x. Leaves g (ticked n incoming) x s) (same_Some is.event (Doing.Moves p o stage (Accessed.NeedsRoom d task)) (sym is.comes ∙ comes)) is.leaves in
    (left.1.0, left.1.1, left.2 ∙ ap (moved g (ticked n incoming) p o stage) left.1.2)
