-- The history of an ended run of a script: what its processes heard fits and names objects, and its items are few.
use Rattle.std.proofs.Common.{◌≡◌, ◌<◌, ◌≤◌, ◌+◌, ◌-◌, ◌*◌, ◌^◌, ◌∙◌, ℕ, zero, suc, Bool, true, false, Option, Some, None, List, [], ◌∷◌, ◌++◌, length, length-append, refl, sym, ap, subst, ◌⊎◌, arith}
use Rattle.std.specs.Prelude.{nat_le, ◌&&◌, ◌||◌, ◌==◌}
use Rattle.std.proofs.lemmas.Bool.Decides.{nat_tests}
use Rattle.std.proofs.lemmas.Option.{same_Some}
use Rattle.uid_names.specs.Names.{ProcName}
use Rattle.uid_names.specs.declared.ids.Place.{Place}
use Rattle.uid_names.proofs.Passed.{eqb-itself}
use Rattle.dom_history.specs.declared.op.Entry.{Entry}
use Rattle.dom_history.specs.declared.op.Op.{Op}
use Rattle.dom_history.specs.declared.op.Reply.{Reply}
use Rattle.dom_history.specs.declared.op.Want.{Want}
use Rattle.dom_history.specs.declared.op.Want.TheVariants.{Do, Phase, Done}
use Rattle.dom_history.specs.Follows.{Heard, Reaches, starts, answered, passed}
use Rattle.dom_history.specs.Histories.{place_lt}
use Rattle.dom_history.specs.Objects.{is_node}
use Rattle.ring_messages.specs.Bodies.{Answer}
use Rattle.node_runs.specs.CallsKeep.{EachOf}
use Rattle.node_runs.specs.Incomings.{Incoming}
use Rattle.node_runs.specs.NodesKeep.{IsTimely}
use Rattle.node_runs.specs.Notes.{Note, Told}
use Rattle.node_runs.specs.NodeStates.{OpenOp}
use Rattle.node_runs.specs.Outcomes.{Stepped}
use Rattle.node_runs.specs.RunHistories.{act_item, begun_item, change_reply, decided_item, fault_item, is_fault, items_from, items_of, open_item, settled_item, settled_op, told_item, doing_of, ended_at, ended_by}
use Rattle.node_runs.specs.Runs.{after_step, first_world, next_if, receiving, then_next, world_after, world_if, world_with, Choice, Noted, World}
use Rattle.node_runs.specs.Setups.{Setup, IsSetup}
use Rattle.run_laws.specs.Placed.{AreRisingNotes}
use Rattle.run_laws.specs.HeardOf.{heard_of, with_asked_phases}

-- a program that is done at the start hears nothing, and is answered nothing
hears_nothing : (ask : Heard → Want) → ask [] ≡ Done → {told : List Entry} {heard : Heard} {phase : ℕ} → Reaches ask told heard phase → (heard ≡ []) × (told ≡ [])
hears_nothing ask done starts = (refl, refl)
hears_nothing ask done (answered {past} {heard} {phase} e is asks same) = absurd (let f : Done ≡ Do e.op = sym done ∙ (ap ask (sym (hears_nothing ask done is).0) ∙ asks) in cc)
hears_nothing ask done (passed {past} {heard} {phase} is asks) = absurd (let f : Done ≡ Phase = sym done ∙ (ap ask (sym (hears_nothing ask done is).0) ∙ asks) in cc)

no_phases : (ask : Heard → Want) (k : ℕ) → ask [] ≡ Done → with_asked_phases ask k [] ≡ []
no_phases ask zero done = refl
no_phases ask (suc k) done = rw done refl

pub absent_hears : (ask : Heard → Want) (phases : ℕ) → ask [] ≡ Done → {told : List Entry} {heard : Heard} {phase : ℕ} → Reaches ask told heard phase → heard_of ask phases told ≡ []
absent_hears ask phases done is = ap (heard_of ask phases) (hears_nothing ask done is).1 ∙ no_phases ask phases done

-- an event adds one item at most
act_one : (x begun : Place) (p : ProcName) (op : Op) (reply : Option Reply) → length (act_item x begun p op reply) ≤ 1
act_one x begun p op None = omega arith
act_one x begun p op (Some reply) = omega arith

fault_one : (b : Bool) (x : Place) (t : Told) → length (fault_item b x t) ≤ 1
fault_one true x t = omega arith
fault_one false x t = omega arith

begun_one : (x : Place) (told : Option Told) → length (begun_item x told) ≤ 1
begun_one x None = omega arith
begun_one x (Some t) = fault_one (is_fault t.reply) x t

told_one : (b : Bool) (x : Place) (op : Op) (answer : Answer) (t : Told) → length (told_item b x op answer t) ≤ 1
told_one true x op answer t = act_one x t.begun t.proc op (change_reply answer)
told_one false x op answer t = omega arith

open_one : (x : Place) (p : ProcName) (op : Op) (answer : Answer) (doing : Option OpenOp) → length (open_item x p op answer doing) ≤ 1
open_one x p op answer None = omega arith
open_one x p op answer (Some o) = act_one x o.began.begun p op (change_reply answer)

settled_one : (x : Place) (p : ProcName) (op : Op) (answer : Answer) (told : Option Told) (doing : Option OpenOp) → length (settled_item x p op answer told doing) ≤ 1
settled_one x p op answer (Some t) doing = told_one (is_fault t.reply) x op answer t
settled_one x p op answer None doing = open_one x p op answer doing

decided_one : (x : Place) (p : ProcName) (op : Option Op) (answer : Answer) (told : Option Told) (doing : Option OpenOp) → length (decided_item x p op answer told doing) ≤ 1
decided_one x p None answer told doing = omega arith
decided_one x p (Some op) answer told doing = settled_one x p op answer told doing

one_item : (w : World) (told : List Told) (x : Place) (note : Note) → length (items_of w told x note) ≤ 1
one_item w told x Note.Nothing = omega arith
one_item w told x (Note.Began p op) = begun_one x (ended_at p x told)
one_item w told x (Note.Did p phase op reply) = omega arith
one_item w told x (Note.Ended t) = omega arith
one_item w told x (Note.Decided p number ask answer) = decided_one x p (settled_op x.node ask) answer (ended_by p number told) (doing_of w p)

pub items_few : (w : World) (told : List Told) (trace : List Noted) → length (items_from w told trace) ≤ length trace
items_few w told [] = omega arith
items_few w told (m ∷ older) =
    omega (arith, one_item w told m.place m.note, items_few w told older, length-append (items_of w told m.place m.note) (items_from w told older))

-- places rise by number
rank_rises : (x y : Place) → place_lt x y ≡ true → x.node ≤ 8 → x.tick * 16 + x.node < y.tick * 16 + y.node
rank_rises x y below low = grind (arith, nat_tests, below, low)

trace_few : (m : Noted) (older : List Noted) → AreRisingNotes (m ∷ older) → EachOf (λ (j : Noted). j.place.node ≤ 8) older → length older ≤ m.place.tick * 16 + m.place.node
trace_few m [] rising low = omega arith
trace_few m (k ∷ rest) rising low =
    let below = rank_rises k.place m.place rising.0.0 low.0 in
    omega (arith, below, trace_few k rest rising.1 low.1)

-- how one event leads to a world
pub record IsNext (s : Setup) (v : World) (c : Choice) (w : World) : Type 0 where
  pub stepped : Stepped
  pub node : is_node s.opening c.node ≡ true
  pub is : w ≡ world_with v (record { tick = stepped.node.tick; node = c.node }) c.what stepped

above_next : (b : Bool) (v : World) (x : Place) (c : Choice) (st : Stepped) (w : World) → world_if b v x c.what st ≡ Some w → w ≡ world_with v x c.what st
above_next true v x c st w is = sym (same_Some (world_with v x c.what st) w is)
above_next false v x c st w is = absurd (cc)

step_next : (s : Setup) (v : World) (c : Choice) (o : Option Stepped) (w : World) → is_node s.opening c.node ≡ true → after_step v c o ≡ Some w → IsNext s v c w
step_next s v c None w node is = absurd (cc)
step_next s v c (Some st) w node is = record { stepped = st; node = node; is = above_next _ v (record { tick = st.node.tick; node = c.node }) c st w is }

coming_next : (s : Setup) (v : World) (c : Choice) (o : Option Incoming) (w : World) → is_node s.opening c.node ≡ true → receiving s v c o ≡ Some w → IsNext s v c w
coming_next s v c None w node is = absurd (cc)
coming_next s v c (Some incoming) w node is = step_next s v c _ w node is

node_next : (s : Setup) (v : World) (c : Choice) (b : Bool) (w : World) → is_node s.opening c.node ≡ b → next_if b s v c ≡ Some w → IsNext s v c w
node_next s v c true w node is = coming_next s v c _ w node is
node_next s v c false w node is = absurd (cc)

-- the last event stands at the tick of its node, and all at nodes of the opening
abbrev IsTop : World → List Noted → Type 0
IsTop w [] = Unit {0}
IsTop w (m ∷ older) = m.place.tick ≡ (w.nodes m.place.node).tick

record IsTraced (w : World) : Type 0 where
  low : EachOf (λ (j : Noted). j.place.node ≤ 8) w.trace
  top : IsTop w w.trace

next_traced : (s : Setup) (v : World) (c : Choice) (w : World) → IsSetup s → IsTraced v → IsNext s v c w → IsTraced w
next_traced s v c w setup before is =
    let few = setup.start.nodes_high in
    let node : (nat_le 1 c.node && nat_le c.node s.opening.nodes) ≡ true = is.node in
    let low : c.node ≤ 8 = grind (arith, nat_tests, node, few) in
    let own : (c.node == c.node) ≡ true = eqb-itself c.node in
    subst IsTraced (sym is.is) (record { low = (low, before.low); top = rw own refl })

traced : (s : Setup) → IsSetup s → (cs : List Choice) (w : World) → world_after s cs ≡ Some w → IsTraced w
traced s setup [] w is = subst IsTraced (same_Some (first_world s) w is) (record { low = tt; top = tt })
traced s setup (c ∷ older) w is = by_world (world_after s older) refl (λ v e. traced s setup older v e) is
  where
    by_world : (o : Option World) → world_after s older ≡ o → ((v : World) → world_after s older ≡ Some v → IsTraced v) → then_next s o c ≡ Some w → IsTraced w
    by_world None e before is = absurd (cc)
    by_world (Some v) e before is = next_traced s v c w setup (before v e) (node_next s v c (is_node s.opening c.node) w refl is)

-- so its events are few
pub events_few : (s : Setup) → IsSetup s → (cs : List Choice) (w : World) → world_after s cs ≡ Some w → IsTimely w → AreRisingNotes w.trace → length w.trace < 2 ^ 64 - 1
events_few s setup cs w is timely rising = by_trace w.trace rising (traced s setup cs w is).low (traced s setup cs w is).top
  where
    by_trace : (trace : List Noted) → AreRisingNotes trace → EachOf (λ (j : Noted). j.place.node ≤ 8) trace → IsTop w trace → length trace < 2 ^ 64 - 1
    by_trace [] rising low top = omega arith
    by_trace (m ∷ older) rising low top =
        let tick : m.place.tick ≤ 2 ^ 40 = subst (λ n. n ≤ 2 ^ 40) (sym top) (timely m.place.node) in
        omega (arith, trace_few m older rising low.1, tick, low.0)
