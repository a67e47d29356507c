-- Nodes that were made with their programs are those of a set-up.
use Rattle.std.proofs.Common.{◌≡◌, ℕ, zero, suc, ◌+◌, ◌-◌, ◌==◌, Bool, true, false, Option, Some, None, List, [], ◌∷◌, length, map, slice_index_or, refl, sym, ◌∙◌, ap, subst, arith}
use Rattle.std.specs.Prelude.{All, IfSome, ◌||◌, ◌%◌, is_some, nat_lt, if◌then◌else◌}
use Rattle.std.specs.List.{list_any}
use Rattle.std.proofs.lemmas.List.{length-map}
use Rattle.std.proofs.lemmas.List.Elements.{All-head, All-tail, All-weaker, All-map}
use Rattle.uid_names.specs.Openings.{IsStart}
use Rattle.dom_history.specs.declared.op.Want.{Want}
use Rattle.dom_history.specs.declared.op.Want.TheVariants.{Done}
use Rattle.dom_history.specs.Follows.{Heard}
use Rattle.dom_history.specs.Programs.{program_after, asked_by}
use Rattle.dom_history.specs.Ranges.{IsWant}
use Rattle.script_reader.proofs.Kept.{IsWire-of, written-of}
use Rattle.script_reader.specs.declared.script.NodeRow.{NodeRow}
use Rattle.script_reader.specs.Scripts.{Content, IsContent, IsNode}
use Rattle.node_runs.specs.NodeStates.{first_node}
use Rattle.node_runs.specs.Setups.{IsSetup, IsFrames, ArePrograms, given}
use Rattle.node_core.specs.Programs.{program_in, program_by, numbers_in}
use Rattle.node_core.specs.Nodes.{Noted, Stands, IsGivenBy}
use Rattle.world_core.specs.Stands.{AreNodes}
use Rattle.node_threads.specs.Starts as posts
use Rattle.timed_work.proofs.Making.{found_in}
use Rattle.timed_work.specs.Rounds.{Round, round_wants, round_after, want_in, IsReady}
use Rattle.timed_work.specs.Teams.{IsTeam, AreMade, made_round, asks_of, setup_with, node_setup}

-- which processes have a program
numbers_found : (team : List (ℕ × Round)) (p : ℕ) → list_any (λ q. q == p) (numbers_in team) ≡ is_some (program_in team p)
numbers_found [] p = refl
numbers_found (e ∷ es) p = by_number (e.0 == p) (numbers_found es p)
  where
    by_number : (b : Bool) → list_any (λ q. q == p) (numbers_in es) ≡ is_some (program_in es p) → (b || list_any (λ q. q == p) (numbers_in es)) ≡ is_some (program_by b e.1 (program_in es p))
    by_number true rest = refl
    by_number false rest = rest

-- what a program wants is in its ranges, whatever it heard
in_list : (wants : List Want) (count asked : ℕ) → All IsWant wants → IsWant (want_in wants count asked)
in_list wants count zero all = tt
in_list wants count (suc i) all = by_below (nat_lt i count)
  where
    of_list : (xs : List Want) (k : ℕ) → All IsWant xs → IsWant (slice_index_or xs k Done)
    of_list [] k none = tt
    of_list (x ∷ xs) zero each = All-head IsWant x xs each
    of_list (x ∷ xs) (suc k) each = of_list xs k (All-tail IsWant x xs each)

    by_below : (b : Bool) → IsWant (if b then slice_index_or wants (i % length wants) Done else Done)
    by_below true = of_list wants (i % length wants) all
    by_below false = tt

keeps_list : (r : Round) (heard : Heard) → (program_after round_after r heard).wants ≡ r.wants
keeps_list r [] = refl
keeps_list r (told ∷ heard) = keeps_list r heard

asked_in_range : (r : Round) (heard : Heard) → All IsWant r.wants → IsWant (asked_by round_wants round_after r heard)
asked_in_range r heard all =
    let now = program_after round_after r heard in
    in_list now.wants now.count now.asked (subst (All IsWant) (sym (keeps_list r heard)) all)

team_wants : (team : List (ℕ × Round)) (p : ℕ) (heard : Heard) → All (λ e. IsReady e.1) team → IsWant (asks_of (program_in team p) heard)
team_wants team p heard ready = by_program (program_in team p) (found_in IsReady team p ready)
  where
    by_program : (o : Option Round) → IfSome o IsReady → IsWant (asks_of o heard)
    by_program None is = tt
    by_program (Some r) is = asked_in_range r heard is.wants

teams_want : (teams : List (List (ℕ × Round))) (i p : ℕ) (heard : Heard) → All IsTeam teams → IsWant (asks_of (program_in (slice_index_or teams i []) p) heard)
teams_want [] i p heard all = tt
teams_want (t ∷ ts) zero p heard all = team_wants t p heard (All-head IsTeam t ts all).ready
teams_want (t ∷ ts) (suc i) p heard all = teams_want ts i p heard (All-tail IsTeam t ts all)

numbers_of : (teams : List (List (ℕ × Round))) (i : ℕ) → slice_index_or (map numbers_in teams) i [] ≡ numbers_in (slice_index_or teams i [])
numbers_of [] i = refl
numbers_of (t ∷ ts) zero = refl
numbers_of (t ∷ ts) (suc i) = numbers_of ts i

module _ (s : Content) (content : IsContent s) (start : IsStart s.opening) (teams : List (List (ℕ × Round))) (xs : List (Noted Round)) (made : AreMade s teams xs) (all : length xs ≡ s.opening.nodes) where
  setup_is : IsSetup (setup_with s teams)
  setup_is = record {
    start = start;
    begins = content.begins;
    wire = record { version = IsWire-of s content.draft; rooms = written-of s content.draft };
    frames = All-map IsFrames (λ (n : NodeRow). n.frames) s.nodes (All-weaker IsNode (λ n. IsFrames n.frames) (λ n node. record { few = node.few; many = node.many }) s.nodes content.draft.nodes);
    all_frames = length-map s.nodes (λ n. n.frames) ∙ sym content.draft.opening_nodes;
    phases_low = content.draft.phase_low;
    phases_high = content.draft.phase_high;
    programs = All-map ArePrograms numbers_in teams (All-weaker IsTeam (λ t. ArePrograms (numbers_in t)) (λ t is. is.numbers) teams made.teams_are);
    all_programs = length-map teams numbers_in ∙ (sym made.count ∙ all);
    wants = λ p heard fits named. teams_want teams (p.node - 1) p.number heard made.teams_are;
  }

  -- a node is given what the set-up says
  given_by : (i : ℕ) → IsGivenBy round_wants round_after (node_setup s (i + 1)) s.opening (slice_index_or teams i []) (given (setup_with s teams) (i + 1))
  given_by i =
      let at : i + 1 - 1 ≡ i = omega arith in
      record {
        number = refl;
        opening = refl;
        wire = refl;
        frames = refl;
        phases = refl;
        programs = λ p.
            ap (list_any (λ q. q == p)) (ap (λ k. slice_index_or (map numbers_in teams) k []) at ∙ numbers_of teams i) ∙ numbers_found (slice_index_or teams i []) p;
        asks = λ p y is heard.
            ap (λ o. asks_of o heard) (ap (λ k. program_in (slice_index_or teams k []) p) at ∙ is);
      }

  pub are_nodes : AreNodes round_wants round_after (made_round teams) (setup_with s teams) xs
  are_nodes = record {
    setup = setup_is;
    count = all;
    node = λ n x is.
        let at : n + 1 - 1 ≡ n = omega arith in
        subst (λ k. Stands round_wants round_after (λ p. program_in (slice_index_or teams k []) p) (given (setup_with s teams) (n + 1)) x (first_node (given (setup_with s teams) (n + 1)))) (sym at)
        ((made.node n x is).stands (given (setup_with s teams) (n + 1)) (given_by n));
    log = λ n x is. (made.node n x is).log;
  }

  -- the same, as posts have them
  pub are_nodes_of_posts : posts.AreNodes round_wants round_after (made_round teams) (setup_with s teams) xs
  are_nodes_of_posts = record { setup = are_nodes.setup; count = are_nodes.count; node = are_nodes.node; log = are_nodes.log }
