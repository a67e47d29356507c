-- What is known of an operation by what its desk says.
use Rattle.std.proofs.Common.{◌≡◌, ℕ, Bool, Option, Some, None, IsSome, refl, sym, ap, subst, ◌∙◌}
use Rattle.std.specs.Option.{option_map, ForSome}
use Rattle.std.proofs.lemmas.Option.{same_Some}
use Rattle.dom_history.specs.declared.op.Op.{Op}
use Rattle.dom_history.specs.declared.op.Reply.{Reply}
use Rattle.dom_history.specs.declared.op.Want.{Want}
use Rattle.dom_history.specs.declared.op.Want.TheVariants.{Do, Phase, Done}
use Rattle.dom_history.specs.Fitting.{Fits}
use Rattle.dom_history.specs.Programs.{FitsWant}
use Rattle.uid_names.specs.declared.ids.Place.{Place}
use Rattle.fault_handler.specs.declared.access.Access.{Access}
use Rattle.fault_handler.specs.declared.tasks.Task.{Task}
use Rattle.fault_handler.specs.Desks.{DeskState}
use Rattle.fault_handler.specs.Outcomes.{Moved, Outcome, outcome_of, Gives, as_access, seen_access}
use Rattle.fault_handler.specs.Victims.{Victim, named_victim}
use Rattle.uid_names.specs.Openings.{Start}
use Rattle.dom_history.specs.declared.op.Op.TheVariants as ops
use Rattle.fault_handler.specs.Accesses.{Accessed, DeskOp, desk_op, access_of, room_made, Comes}
use Rattle.lock_validate.specs.Releases.{begin_unlock_of, begin_delete_of}
use Rattle.node_runs.specs.Operations.{begun, gone_on}
use Rattle.node_runs.specs.Doings.{Doing, goes_on}
use Rattle.node_runs.specs.NodeStates.{OpenOp}
use Rattle.node_runs.specs.Steps.{stepped_as_named}
use Rattle.uid_names.specs.Steps.{◌>>=◌}
use Rattle.node_runs.proofs.Keeping.{IsMoved}
use Rattle.fault_handler.proofs.Outcomes.{access-seen, Holds, come}
use Rattle.lock_validate.specs.declared.step.Step.{Step}
use Rattle.lock_validate.specs.Steps.{as_step, seen_step}
use Rattle.lock_validate.proofs.Outcomes.{seen-as_step}
use Rattle.node_runs.specs.Setups.{Given}
use Rattle.node_runs.specs.NodeStates.{BegunOp}
use Rattle.node_runs.specs.Outcomes.{Stage, dropping, turned, moved}
use Rattle.node_runs.specs.Rooms.{moved_as_named}
use Rattle.node_core.specs.declared.machine.Machine.{Machine}
use Rattle.node_core.specs.declared.turns.Done as code
use Rattle.node_core.specs.Processes.{IsWanted, want_at}
use Rattle.node_core.specs.Machines.{given_of, state_of}
use Rattle.node_core.specs.Outcomes.{Led, Turns, Moves}

-- the operation that is wanted
pub wanted-op : (w : Want) → IsWanted w → (op : Op) × (w ≡ Do op)
wanted-op (Do op) is = (op, refl)
wanted-op Phase is = absurd is
wanted-op Done is = absurd is

pub do-same : (w : Want) (a b : Op) → w ≡ Do a → w ≡ Do b → a ≡ b
do-same w a b is as_well = cc

-- a reply that fits it may be told
pub fits-wanted : (w : Want) (reply : Reply) → IsWanted w → ((op : Op) → w ≡ Do op → Fits op reply) → FitsWant w (Some reply)
fits-wanted (Do op) reply is fits = fits op refl
fits-wanted Phase reply is fits = absurd is
fits-wanted Done reply is fits = absurd is

-- a step that is an outcome's tells it
pub step-seen : (desk : DeskState) (m : Moved) (step : Step) → Gives as_step desk m step → seen_step step ≡ Some (outcome_of m)
step-seen desk m step gives = ap seen_step gives.1 ∙ seen-as_step m.turn m.dropped

pub given-seen : (desk : DeskState) (m : Moved) (access : Access) → Gives as_access desk m access → seen_access access ≡ Some (outcome_of m)
given-seen desk m access gives = ap seen_access gives.1 ∙ access-seen m.turn m.dropped

-- what a desk answers begins there
pub begun-desk : (opening : Start) (d : DeskState) (p : ℕ) (op : Op) (o : DeskOp) → desk_op op ≡ Some o → begun opening d p op ≡ access_of d p o
begun-desk opening d p (ops.New home kind room) o is = absurd (cc)
begun-desk opening d p (ops.List home after) o is = absurd (cc)
begun-desk opening d p (ops.Lock u m) o is = absurd (cc)
begun-desk opening d p (ops.Unlock u) o is = absurd (cc)
begun-desk opening d p (ops.Delete u) o is = absurd (cc)
begun-desk opening d p (ops.Load spot count) o is = ap (access_of d p) (same_Some (DeskOp.Loads spot count) o is)
begun-desk opening d p (ops.Store spot bytes) o is = ap (access_of d p) (same_Some (DeskOp.Stores spot bytes) o is)
begun-desk opening d p (ops.Length u) o is = ap (access_of d p) (same_Some (DeskOp.Measures u) o is)
begun-desk opening d p (ops.Map u) o is = ap (access_of d p) (same_Some (DeskOp.Maps u) o is)
begun-desk opening d p (ops.Unmap u) o is = ap (access_of d p) (same_Some (DeskOp.Unmaps u) o is)

-- what an access comes to is seen
pub comes-seen : (d : DeskState) (p : ℕ) (op : Op) (desk : DeskState) (accessed : Accessed) (access : Access) → Holds p (IsMoved d p op) accessed → Comes p (λ m. Gives as_access desk m access) accessed → IsSome (seen_access access)
comes-seen d p op desk accessed access holds comes =
    come p (IsMoved d p op) (λ m. Gives as_access desk m access) (IsSome (seen_access access)) accessed holds comes
    (λ m moved gives. subst (λ (o : Option Outcome). IsSome o) (sym (given-seen desk m access gives)) refl)

-- what holds of each thing that is made of what is there
pub for-mapped : {A B : Type 0} (o : Option A) (f : A → B) (Q : B → Type 0) → ForSome o (λ x. Q (f x)) → ForSome (option_map f o) Q
for-mapped None f Q each y is = absurd (cc)
for-mapped (Some x) f Q each y is = subst Q (same_Some (f x) y is) (each x refl)

-- what goes on after a wait begins anew
pub gone-begun : (opening : Start) (d : DeskState) (p : ℕ) (op : Op) (a : Accessed) → gone_on d p op ≡ Some a → begun opening d p op ≡ a
gone-begun opening d p (ops.Load spot count) a is = same_Some (access_of d p (DeskOp.Loads spot count)) a is
gone-begun opening d p (ops.Store spot bytes) a is = same_Some (access_of d p (DeskOp.Stores spot bytes)) a is
gone-begun opening d p (ops.Unlock u) a is = same_Some (Accessed.Settled (begin_unlock_of d p u)) a is
gone-begun opening d p (ops.Delete u) a is = same_Some (Accessed.Settled (begin_delete_of d p u)) a is
gone-begun opening d p (ops.New home kind room) a is = absurd (cc)
gone-begun opening d p (ops.List home after) a is = absurd (cc)
gone-begun opening d p (ops.Lock u m) a is = absurd (cc)
gone-begun opening d p (ops.Length u) a is = absurd (cc)
gone-begun opening d p (ops.Map u) a is = absurd (cc)
gone-begun opening d p (ops.Unmap u) a is = absurd (cc)

module _ {P G : Type 0} (spent : P → Bool) (wants : P → Want) (becomes : P → Option Reply → P) where
  -- the desk moved, and it came to that
  pub moves-as : (old new : Machine P G) (done : code.Done) (p : ℕ) (begun : Place) (desk : DeskState) (m : Moved) → desk ≡ m.desk → desk.node ≡ old.desk.node
      → Turns spent wants becomes (record old { desk = desk }) new done p begun m.turn m.dropped
      → (g : Given) (op : Op) (stage : Stage) → g.number ≡ old.desk.node → g.wire ≡ old.server.wire → want_at old.procs p ≡ Do op
      → Led spent wants becomes old new done (moved g (state_of old) p (record { op = op; begun = begun }) stage m)
  moves-as old new done p begun desk m same node turns g op stage number wire wanted =
      subst (λ (d : DeskState). Led spent wants becomes old new done (dropping m.dropped (turned g (record (state_of old) { desk = d }) p (record { op = op; begun = begun }) stage m.turn))) same
      (turns g op stage (number ∙ sym node) wire wanted)

  pub moves-settled : (old new : Machine P G) (done : code.Done) (p : ℕ) (begun : Place) (desk : DeskState) (m : Moved) → desk ≡ m.desk → desk.node ≡ old.desk.node
      → Turns spent wants becomes (record old { desk = desk }) new done p begun m.turn m.dropped → Moves spent wants becomes old new done p begun (Accessed.Settled m)
  moves-settled old new done p begun desk m same node turns g op stage number wire wanted x is =
      subst (λ (y : Moved). Led spent wants becomes old new done (moved g (state_of old) p (record { op = op; begun = begun }) stage y)) (same_Some m x is)
      (moves-as old new done p begun desk m same node turns g op stage number wire wanted)

  -- a step of the desk is what it says
  pub moves-stepped : (old new : Machine P G) (done : code.Done) (p : ℕ) (begun : Place) (desk : DeskState) (m : Moved) (step : Step) (came : Outcome) → Gives as_step desk m step → seen_step step ≡ Some came → desk.node ≡ old.desk.node
      → Turns spent wants becomes (record old { desk = desk }) new done p begun came.turn came.dropped → Moves spent wants becomes old new done p begun (Accessed.Settled m)
  moves-stepped old new done p begun desk m step came gives seen node turns =
      moves-settled old new done p begun desk m gives.0 node
      (subst (λ (x : Outcome). Turns spent wants becomes (record old { desk = desk }) new done p begun x.turn x.dropped) (same_Some came (outcome_of m) (sym seen ∙ step-seen desk m step gives)) turns)

  -- an access comes to what its desk makes of it, with room made as its cache names it
  pub moves-accessed : (old new : Machine P G) (done : code.Done) (p : ℕ) (begun : Place) (desk : DeskState) (accessed : Accessed) (access : Access) (came : Outcome)
      → Comes p (λ m. Gives as_access desk m access) accessed → seen_access access ≡ Some came → desk.node ≡ old.desk.node
      → Turns spent wants becomes (record old { desk = desk }) new done p begun came.turn came.dropped → Moves spent wants becomes old new done p begun accessed
  moves-accessed old new done p begun desk accessed access came comes seen node turns = by_way accessed comes
    where
      turned_as : (m : Moved) → Gives as_access desk m access → Turns spent wants becomes (record old { desk = desk }) new done p begun m.turn m.dropped
      turned_as m gives =
          subst (λ (x : Outcome). Turns spent wants becomes (record old { desk = desk }) new done p begun x.turn x.dropped) (same_Some came (outcome_of m) (sym seen ∙ given-seen desk m access gives)) turns

      by_victim : (d : DeskState) (task : Task) (o : Option Victim) → ForSome o (λ victim. Gives as_access desk (room_made d p task victim) access)
          → (g : Given) (op : Op) (stage : Stage) → g.number ≡ old.desk.node → g.wire ≡ old.server.wire → want_at old.procs p ≡ Do op
          → ForSome (option_map (room_made d p task) o) (λ m. Led spent wants becomes old new done (moved g (state_of old) p (record { op = op; begun = begun }) stage m))
      by_victim d task None gives g op stage number wire wanted x is = absurd (cc)
      by_victim d task (Some victim) gives g op stage number wire wanted x is =
          let m = room_made d p task victim in
          let gave = gives victim refl in
          subst (λ (y : Moved). Led spent wants becomes old new done (moved g (state_of old) p (record { op = op; begun = begun }) stage y)) (same_Some m x is)
          (moves-as old new done p begun desk m gave.0 node (turned_as m gave) g op stage number wire wanted)

      by_way : (a : Accessed) → Comes p (λ m. Gives as_access desk m access) a → Moves spent wants becomes old new done p begun a
      by_way (Accessed.Settled m) gives = moves-settled old new done p begun desk m gives.0 node (turned_as m gives)
      by_way (Accessed.NeedsRoom d task) gives = by_victim d task (named_victim d) gives

  -- what it came to is the one event that there was
  pub does-moves : (old new : Machine P G) (done : code.Done) (p : ℕ) (begun : Place) (op : Op) (stage : Stage) (accessed : Accessed) → want_at old.procs p ≡ Do op → Moves spent wants becomes old new done p begun accessed
      → ForSome (stepped_as_named (given_of old) (state_of old) (Doing.Moves p (record { op = op; begun = begun }) stage accessed)) (λ s. Led spent wants becomes old new done s)
  does-moves old new done p begun op stage accessed wanted moves =
      for-mapped (moved_as_named p accessed) (moved (given_of old) (state_of old) p (record { op = op; begun = begun }) stage) (λ s. Led spent wants becomes old new done s)
      (moves (given_of old) op stage refl refl wanted)

  -- the same of one that goes on
  pub does-goes_on : (old new : Machine P G) (done : code.Done) (p : ℕ) (begun_there : Place) (op : Op) (o : OpenOp) → o.began ≡ record { op = op; begun = begun_there } → want_at old.procs p ≡ Do op
      → Moves spent wants becomes old new done p begun_there (begun (given_of old).opening old.desk p op)
      → ForSome (goes_on (state_of old) p (Some o) >>= stepped_as_named (given_of old) (state_of old)) (λ s. Led spent wants becomes old new done s)
  does-goes_on old new done p begun_there op o began wanted moves =
      subst (λ (x : BegunOp). ForSome (option_map (Doing.Moves p x Stage.Resumes) (gone_on old.desk p x.op) >>= stepped_as_named (given_of old) (state_of old)) (λ s. Led spent wants becomes old new done s)) (sym began)
      (by_gone (gone_on old.desk p op) refl)
    where
      by_gone : (a : Option Accessed) → gone_on old.desk p op ≡ a
          → ForSome (option_map (Doing.Moves p (record { op = op; begun = begun_there }) Stage.Resumes) a >>= stepped_as_named (given_of old) (state_of old)) (λ s. Led spent wants becomes old new done s)
      by_gone None is = λ s there. absurd (cc)
      by_gone (Some a) is =
          does-moves old new done p begun_there op Stage.Resumes a wanted
          (subst (λ (x : Accessed). Moves spent wants becomes old new done p begun_there x) (gone-begun (given_of old).opening old.desk p op a is) moves)
