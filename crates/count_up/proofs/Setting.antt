-- The nodes that count are those of a set-up.
use Rattle.std.proofs.Common.{◌≡◌, ℕ, zero, suc, ◌+◌, ◌≤◌, ◌==◌, Bool, true, false, Some, None, Result, Ok, Err, List, [], ◌∷◌, refl, sym, ap, subst, arith}
use Rattle.std.specs.Prelude.{IfSome, IfOk, ◌≢◌, ◌||◌, if◌then◌else◌, is_some, slice_get}
use Rattle.std.specs.List.{list_any}
use Rattle.std.proofs.lemmas.List.Elements.{All-cons, All-nil}
use Rattle.std.proofs.lemmas.List.Kept.{AllPairs-cons}
use Rattle.uid_names.specs.Names.{IsProcNumber}
use Rattle.uid_names.specs.Openings.{Start, IsStart, IsDeclarable}
use Rattle.uid_names.specs.Beginnings.{CanHomeBegin, at_home}
use Rattle.uid_names.proofs.Wires.{wire_room-least}
use Rattle.dom_history.specs.Follows.{Heard}
use Rattle.dom_history.specs.Objects.{is_node}
use Rattle.dom_history.specs.Ranges.{IsWant}
use Rattle.fault_handler.specs.Desks.{IsNode}
use Rattle.node_runs.specs.NodeStates.{first_node}
use Rattle.node_runs.specs.Setups.{IsSetup, IsFrames, ArePrograms, given}
use Rattle.node_core.specs.declared.setup.NodeSetup.{NodeSetup}
use Rattle.node_core.specs.Programs.{program_in, program_by}
use Rattle.node_core.specs.Nodes.{Noted, Stands, IsGivenBy}
use Rattle.node_threads.specs.Starts as posts
use Rattle.world_core.specs.Stands.{AreNodes}
use Rattle.count_up.specs.declared.counter.Counter.{Counter}
use Rattle.count_up.specs.Counters.{first_counter, want_of, counter_after}
use Rattle.count_up.specs.Starting.{object, object_row, start}
use Rattle.count_up.specs.Counting.{team, made_if, made_counter, asks_of, counting, IsCounting}
use Rattle.count_up.proofs.Wanting.{asks_in_range}

-- what holds of nodes 1, 2 and 3 holds of each
pub by_three : (T : ℕ → Type 0) → T 1 → T 2 → T 3 → (n : ℕ) → 1 ≤ n → n ≤ 3 → T n
by_three T one two three zero low high = absurd (omega (arith, low))
by_three T one two three (suc zero) low high = one
by_three T one two three (suc (suc zero)) low high = two
by_three T one two three (suc (suc (suc zero))) low high = three
by_three T one two three (suc (suc (suc (suc n)))) low high = absurd (omega (arith, high))

-- each home can begin
pub begins_at : (home : ℕ) → CanHomeBegin (at_home home (object_row ∷ []))
begins_at home = by_home (1 == home)
  where
    by_home : (b : Bool) → CanHomeBegin (if b then object_row ∷ [] else [])
    by_home true = record { counters = (refl, tt); fits = omega arith }
    by_home false = record { counters = tt; fits = omega arith }

pub one_program : ArePrograms (1 ∷ [])
one_program = record {
  each = All-cons IsProcNumber 1 [] (omega arith, omega arith) (All-nil IsProcNumber);
  once = AllPairs-cons (λ p q. p ≢ q) 1 [] (All-nil (λ m. 1 ≢ m)) (λ i j d under below. absurd (omega (arith, below)));
}

-- what holds of the counter holds of each program of a team
pub team_each : (P : Counter → Type 0) (rounds p : ℕ) → P (first_counter object rounds) → IfSome (program_in (team rounds) p) P
team_each P rounds p is = by_number (1 == p)
  where
    by_number : (b : Bool) → IfSome (program_by b (first_counter object rounds) None) P
    by_number true = is
    by_number false = tt

made_in_range : (b : Bool) (rounds p : ℕ) (heard : Heard) → IsWant (asks_of (made_if b rounds p) heard)
made_in_range false rounds p heard = tt
made_in_range true rounds p heard = by_number (1 == p)
  where
    by_number : (b : Bool) → IsWant (asks_of (program_by b (first_counter object rounds) None) heard)
    by_number true = asks_in_range (first_counter object rounds) heard (record { counter_low = omega arith; counter_high = omega arith; home_low = omega arith; home_high = omega arith })
    by_number false = tt

eight_frames : IsFrames 8
eight_frames = record { few = omega arith; many = omega arith }

is_start : IsStart start
is_start = record {
  nodes_low = omega arith;
  nodes_high = omega arith;
  greatest_low = omega arith;
  greatest_high = omega arith;
  objects = All-cons (IsDeclarable 3 1) object_row [] (record { counter = omega arith; home = omega arith; room_low = omega arith; room_high = omega arith }) (All-nil (IsDeclarable 3 1));
  apart = (All-nil _, tt);
}

pub counting_is : (rounds : ℕ) → IsSetup (counting rounds)
counting_is rounds = record {
  start = is_start;
  begins = record { homes = begins_at };
  wire = record { version = (omega arith, omega arith); rooms = let least = wire_room-least 2 in omega (arith, least) };
  frames = All-cons IsFrames 8 (8 ∷ 8 ∷ []) eight_frames (All-cons IsFrames 8 (8 ∷ []) eight_frames (All-cons IsFrames 8 [] eight_frames (All-nil IsFrames)));
  all_frames = refl;
  phases_low = omega arith;
  phases_high = omega arith;
  programs = All-cons ArePrograms (1 ∷ []) ((1 ∷ []) ∷ (1 ∷ []) ∷ []) one_program (All-cons ArePrograms (1 ∷ []) ((1 ∷ []) ∷ []) one_program (All-cons ArePrograms (1 ∷ []) [] one_program (All-nil ArePrograms)));
  all_programs = refl;
  wants = λ p heard fits named. made_in_range (is_node start p.node) rounds p.number heard;
}

abbrev node_setup : ℕ → NodeSetup
node_setup n = record { node = n; nodes = 3; wire = 2; frames = 8; phases = 2 }

-- which processes have a program
has_one : (rounds p : ℕ) → list_any (λ q. q == p) (1 ∷ []) ≡ is_some (program_in (team rounds) p)
has_one rounds p = by_number (1 == p)
  where
    by_number : (b : Bool) → (b || false) ≡ is_some (program_by b (first_counter object rounds) None)
    by_number true = refl
    by_number false = refl

abbrev IsGivenAt : ℕ → ℕ → Type 0
IsGivenAt rounds n = IsGivenBy want_of counter_after (node_setup n) start (team rounds) (given (counting rounds) n)

-- a node is given what the set-up says
given_at : (rounds n : ℕ) → 1 ≤ n → n ≤ 3 → IsGivenAt rounds n
given_at rounds = by_three (IsGivenAt rounds) one two three
  where
    one : IsGivenAt rounds 1
    one = record { number = refl; opening = refl; wire = refl; frames = refl; phases = refl; programs = has_one rounds; asks = λ p y is heard. ap (λ o. asks_of o heard) is }

    two : IsGivenAt rounds 2
    two = record { number = refl; opening = refl; wire = refl; frames = refl; phases = refl; programs = has_one rounds; asks = λ p y is heard. ap (λ o. asks_of o heard) is }

    three : IsGivenAt rounds 3
    three = record { number = refl; opening = refl; wire = refl; frames = refl; phases = refl; programs = has_one rounds; asks = λ p y is heard. ap (λ o. asks_of o heard) is }

abbrev StandsMade : ℕ → ℕ → Noted Counter → Bool → Type 0
StandsMade rounds n x b = Stands want_of counter_after (made_if b rounds) (given (counting rounds) n) x (first_node (given (counting rounds) n))

of_node : (n : ℕ) → 1 ≤ n → n ≤ 3 → is_node start n ≡ true
of_node = by_three (λ n. is_node start n ≡ true) refl refl refl

-- process 1 of each node has a counter
pub made_one : (rounds n : ℕ) → IsNode 3 n → made_counter rounds n 1 ≡ Some (first_counter object rounds)
made_one rounds n node = ap (λ b. made_if b rounds 1) (of_node n node.0 node.1)

-- a node that was made of these is one that counts
pub node_made : {E : Type 0} (rounds n : ℕ) (opening : Start) (programs : List (ℕ × Counter)) (r : Result (Noted Counter) E)
    → 1 ≤ n → n ≤ 3 → opening ≡ start → programs ≡ team rounds
    → IfOk r (λ x. (g : _) → IsGivenBy want_of counter_after (node_setup n) opening programs g → Stands want_of counter_after (program_in programs) g x (first_node g))
    → IfOk r (λ x. x.log ≡ record { node = n; events = [] }) → IfOk r (IsCounting rounds n)
node_made rounds n opening programs (Err e) low high o is stands log = tt
node_made rounds n opening programs (Ok x) low high o is stands log = record {
  stands = subst (StandsMade rounds n x) (sym (of_node n low high)) (by_team programs (sym is) stands);
  log = log;
}
  where
    by_team : (xs : List (ℕ × Counter)) → team rounds ≡ xs → ((g : _) → IsGivenBy want_of counter_after (node_setup n) opening xs g → Stands want_of counter_after (program_in xs) g x (first_node g)) → StandsMade rounds n x true
    by_team xs same made =
        let ours = subst (λ (ys : List (ℕ × Counter)). (g : _) → IsGivenBy want_of counter_after (node_setup n) opening ys g → Stands want_of counter_after (program_in ys) g x (first_node g)) (sym same) made in
        let here = subst (λ (s : Start). IsGivenBy want_of counter_after (node_setup n) s (team rounds) (given (counting rounds) n)) (sym o) (given_at rounds n low high) in
        ours (given (counting rounds) n) here

abbrev IsAt : ℕ → ℕ → Noted Counter → Type 0
IsAt rounds i x = IsCounting rounds (i + 1) x

-- three of them are all
in_three : (rounds : ℕ) (a b c : Noted Counter) → IsCounting rounds 1 a → IsCounting rounds 2 b → IsCounting rounds 3 c → (i : ℕ) (x : Noted Counter) → slice_get (a ∷ b ∷ c ∷ []) i ≡ Some x → IsAt rounds i x
in_three rounds a b c is_a is_b is_c zero x at = subst (IsAt rounds 0) (cc at) is_a
in_three rounds a b c is_a is_b is_c (suc zero) x at = subst (IsAt rounds 1) (cc at) is_b
in_three rounds a b c is_a is_b is_c (suc (suc zero)) x at = subst (IsAt rounds 2) (cc at) is_c
in_three rounds a b c is_a is_b is_c (suc (suc (suc i))) x at = absurd (cc at)

pub three_nodes : (rounds : ℕ) (xs : List (Noted Counter)) (a b c : Noted Counter) → xs ≡ a ∷ b ∷ c ∷ [] → IsCounting rounds 1 a → IsCounting rounds 2 b → IsCounting rounds 3 c
    → AreNodes want_of counter_after (made_counter rounds) (counting rounds) xs
three_nodes rounds xs a b c is is_a is_b is_c = subst (AreNodes want_of counter_after (made_counter rounds) (counting rounds)) (sym is) (record {
  setup = counting_is rounds;
  count = refl;
  node = λ n x at. (in_three rounds a b c is_a is_b is_c n x at).stands;
  log = λ n x at. (in_three rounds a b c is_a is_b is_c n x at).log;
})

-- the same, as posts have them
pub as_posts : (rounds : ℕ) (xs : List (Noted Counter)) → AreNodes want_of counter_after (made_counter rounds) (counting rounds) xs
    → posts.AreNodes want_of counter_after (made_counter rounds) (counting rounds) xs
as_posts rounds xs are = record { setup = are.setup; count = are.count; node = are.node; log = are.log }
