-- The run in which a lock ends in doubt: its turns and its history, by computing.
use Rattle.std.proofs.Common.{◌≡◌, ◌≢◌, ℕ, zero, suc, ◌≤◌, ◌<◌, ◌==◌, Bool, true, false, cond, List, [], ◌∷◌, ◌++◌, map, Some, refl, sym, ap, ◌∙◌, arith}
use Rattle.std.specs.Prelude.{◌^◌, ◌&&◌, nat_le}
use Rattle.std.specs.Option.{option_map}
use Rattle.std.proofs.lemmas.Bool.Decides.{nat_tests}
use Rattle.std.proofs.lemmas.List.Elements.{All-cons, All-nil}
use Rattle.std.proofs.lemmas.List.Kept.{AllPairs-cons}
use Rattle.std.proofs.lemmas.Option.{same_Some}
use Rattle.uid_names.specs.Openings.{IsStart, IsDeclarable}
use Rattle.uid_names.specs.Beginnings.{CanHomeBegin}
use Rattle.uid_names.specs.declared.opening.Object.{Object}
use Rattle.uid_names.specs.declared.mode.ObjKind.TheVariants.{File}
use Rattle.uid_names.proofs.Somes.{map-some}
use Rattle.uid_names.proofs.Wires.{wire_room-least}
use Rattle.dom_history.specs.Follows.{Heard}
use Rattle.dom_history.specs.Plans.{is_set, IsPlan}
use Rattle.dom_history.specs.Ranges.{IsWant}
use Rattle.dom_history.proofs.SetFates.{IsPlan-push}
use Rattle.fault_handler.specs.Invariant.{IsProc}
use Rattle.node_runs.specs.FirstRun.{p}
use Rattle.node_runs.specs.SecondRun.{y}
use Rattle.node_runs.specs.Setups.{IsSetup, IsFrames, ArePrograms}
use Rattle.node_runs.specs.Deliveries.{IsPlanned}
use Rattle.node_runs.specs.NodeStates.{NodeState}
use Rattle.node_runs.specs.Runs.{World}
use Rattle.node_runs.specs.RunHistories.{history_of}
use Rattle.node_runs.proofs.Calls.{put-other}
use Rattle.world_runs.specs.ByPlace.{by_place}
use Rattle.world_runs.specs.Draws.{draws, turns, IsBelow}
use Rattle.world_runs.specs.Picked.{IsPicked}
use Rattle.world_runs.specs.SampleTurns.{events_by, enabled_after}
use Rattle.world_runs.specs.Turns.{enabled_events}
use Rattle.world_runs.proofs.Turning.{IsTurn, every-turn, node-after}
use Rattle.world_runs.proofs.Picking.{picked-planned}
use Rattle.node_runs.specs.DoubtfulRun as doubtful

-- what there is at the start
abbrev object : Object
object = record { uid = y; kind = File; room = 1 }

start : IsStart doubtful.setup.opening
start = record {
  nodes_low = omega arith;
  nodes_high = omega arith;
  greatest_low = omega arith;
  greatest_high = omega arith;
  objects =
      All-cons (IsDeclarable 2 1024) object [] (record { counter = omega arith; home = omega arith; room_low = omega arith; room_high = omega arith })
      (All-nil (IsDeclarable 2 1024));
  apart = (All-nil _, tt);
}

home-begins : (own : Bool) → CanHomeBegin (cond own (object ∷ []) [])
home-begins true = record { counters = (refl, tt); fits = omega arith }
home-begins false = record { counters = tt; fits = omega arith }

-- each node's frames and processes
frames : IsFrames 64
frames = record { few = omega arith; many = omega arith }

no-programs : ArePrograms []
no-programs = record { each = All-nil IsProc; once = λ i j d under below. absurd (omega (arith, below)) }

one-program : ArePrograms (1 ∷ [])
one-program = record {
  each = All-cons IsProc 1 [] (omega arith, omega arith) no-programs.each;
  once = AllPairs-cons (λ a b. a ≢ b) 1 [] (All-nil (λ b. 1 ≢ b)) no-programs.once;
}

wants : (heard : Heard) → IsWant (doubtful.setup.asks p heard)
wants [] = record { counter_low = omega arith; counter_high = omega arith; home_low = omega arith; home_high = omega arith }
wants (reply ∷ older) = tt

pub setup-is : IsSetup doubtful.setup
setup-is = record {
  start = start;
  begins = record { homes = λ home. home-begins (2 == home) };
  wire = record { version = (omega arith, omega arith); rooms = let least = wire_room-least 1 in omega (arith, least) };
  frames = All-cons IsFrames 64 (64 ∷ []) frames (All-cons IsFrames 64 [] frames (All-nil IsFrames));
  all_frames = refl;
  phases_low = omega arith;
  phases_high = omega arith;
  programs = All-cons ArePrograms (1 ∷ []) ([] ∷ []) one-program (All-cons ArePrograms [] [] no-programs (All-nil ArePrograms));
  all_programs = refl;
  wants = λ q heard fits named. wants heard;
}

-- the plan: frame by frame
no-rows : IsPlan []
no-rows = record { apart = All-nil (λ row. row.from ≢ row.to); once = λ i j d under below. absurd (omega (arith, below)) }

lost-too : (ks : List ℕ) (k : ℕ) → is_set (map doubtful.lost ks) 1 2 k ≡ false → IsPlan (map doubtful.lost ks) → IsPlan (map doubtful.lost ks ++ doubtful.lost k ∷ [])
lost-too ks k unset kept = IsPlan-push (map doubtful.lost ks) (doubtful.lost k) kept (omega arith) unset

plan-is : IsPlan doubtful.plan
plan-is =
    let four : IsPlan (map doubtful.lost (1 ∷ 2 ∷ 3 ∷ 4 ∷ [])) =
    lost-too (1 ∷ 2 ∷ 3 ∷ []) 4 refl (lost-too (1 ∷ 2 ∷ []) 3 refl (lost-too (1 ∷ []) 2 refl (lost-too [] 1 refl no-rows))) in
    let six : IsPlan (map doubtful.lost (1 ∷ 2 ∷ 3 ∷ 4 ∷ 5 ∷ 6 ∷ [])) = lost-too (1 ∷ 2 ∷ 3 ∷ 4 ∷ 5 ∷ []) 6 refl (lost-too (1 ∷ 2 ∷ 3 ∷ 4 ∷ []) 5 refl four) in
    lost-too (1 ∷ 2 ∷ 3 ∷ 4 ∷ 5 ∷ 6 ∷ 7 ∷ []) 8 refl (lost-too (1 ∷ 2 ∷ 3 ∷ 4 ∷ 5 ∷ 6 ∷ []) 7 refl six)

-- the turns of seed 0
does : events_by doubtful.setup doubtful.plan (draws 0 14) ≡ Some doubtful.events
does = refl

ends : enabled_after doubtful.setup doubtful.plan (draws 0 14) ≡ Some []
ends = refl

module _ (w : World) (comes : turns doubtful.setup doubtful.plan 0 14 ≡ Some w) where
  -- a number of no node has no tick
  no-tick : (n : ℕ) → (w.nodes (suc (suc (suc n)))).tick ≡ 0
  no-tick =
      every-turn doubtful.setup doubtful.plan (λ (v : World). (n : ℕ) → (v.nodes (suc (suc (suc n)))).tick ≡ 0) (λ n. refl) later (draws 0 14) w comes
    where
      later : (old new : World) → IsTurn doubtful.setup doubtful.plan old new → ((n : ℕ) → (old.nodes (suc (suc (suc n)))).tick ≡ 0) → (n : ℕ) → (new.nodes (suc (suc (suc n)))).tick ≡ 0
      later old new is before n =
          let node : (nat_le 1 is.act.node && nat_le is.act.node 2) ≡ true = is.node in
          let high : is.act.node ≤ 2 = grind (arith, nat_tests, node) in
          let differs : suc (suc (suc n)) ≢ is.act.node = λ same. absurd (omega (arith, high, same)) in
          ap (λ (x : NodeState). x.tick) (node-after doubtful.setup doubtful.plan old new is (suc (suc (suc n))) ∙ put-other old.nodes is.act.node (suc (suc (suc n))) is.step.node differs)
          ∙ before n

  tick-low : (n tick : ℕ) → option_map (λ (v : World). (v.nodes n).tick) (turns doubtful.setup doubtful.plan 0 14) ≡ Some tick → tick < 2 ^ 40 → (w.nodes n).tick < 2 ^ 40
  tick-low n tick is low =
      let same = same_Some (w.nodes n).tick tick (ap (option_map (λ (v : World). (v.nodes n).tick)) (sym comes) ∙ is) in
      omega (arith, same, low)

  below : IsBelow (2 ^ 40) w
  below zero = tick-low 0 0 refl (omega arith)
  below (suc zero) = tick-low 1 12 refl (omega arith)
  below (suc (suc zero)) = tick-low 2 13 refl (omega arith)
  below (suc (suc (suc n))) = let none = no-tick n in omega (arith, none)

  nothing : enabled_events doubtful.setup doubtful.plan w ≡ []
  nothing = same_Some (enabled_events doubtful.setup doubtful.plan w) [] (ap (option_map (enabled_events doubtful.setup doubtful.plan)) (sym comes) ∙ ends)

pub picked : IsPicked doubtful.setup doubtful.plan 0 (2 ^ 40) doubtful.events
picked =
    let found = map-some (λ (w : World). by_place w.done) (turns doubtful.setup doubtful.plan 0 14) doubtful.events does in
    record {
      world = found.0;
      ends = record { count = 14; comes = found.1; nothing = nothing found.0 found.1; below = below found.0 found.1 };
      events = found.2;
    }

pub planned : IsPlanned doubtful.setup doubtful.plan doubtful.events
planned = picked-planned doubtful.setup doubtful.plan 0 (2 ^ 40) setup-is (omega arith) doubtful.events picked plan-is

pub history : history_of doubtful.setup doubtful.events ≡ doubtful.expected
history = refl
