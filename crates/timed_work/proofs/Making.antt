-- Nodes as they are made, with the programs of their processes.
use Rattle.std.proofs.Common.{◌≡◌, ℕ, ◌+◌, ◌-◌, ◌<◌, ◌==◌, Bool, true, false, Some, Result, Ok, Err, List, [], ◌∷◌, ◌++◌, length, map, slice_index_or, refl, sym, ◌∙◌, ap, subst}
use Rattle.std.specs.Prelude.{All, IfSome, IfOk, slice_get}
use Rattle.std.proofs.lemmas.List.{length_push, get_or_push, get_or_append_left}
use Rattle.std.proofs.lemmas.List.Elements.{All-cons, All-nil, All-head, All-tail, All-weaker, All-push}
use Rattle.std.proofs.lemmas.Option.{slice_get_within}
use Rattle.uid_names.specs.Openings.{Start}
use Rattle.dom_history.specs.declared.op.Want.TheVariants.{Phase}
use Rattle.script_reader.specs.declared.script.NodeRow.{NodeRow}
use Rattle.script_reader.specs.Scripts.{Content, wire_of}
use Rattle.node_runs.specs.Setups.{Given}
use Rattle.node_runs.specs.NodeStates.{first_node}
use Rattle.node_core.specs.declared.setup.NodeSetup.{NodeSetup}
use Rattle.node_core.specs.Programs.{program_in, program_by}
use Rattle.node_core.specs.Nodes.{Noted, Stands, IsGivenBy}
use Rattle.script_runner.proofs.FirstNodes.{push_each}
use Rattle.timed_work.proofs.FourPrograms.{four_programs}
use Rattle.timed_work.specs.Rounds.{Round, round_wants, round_after, want_in, IsReady}
use Rattle.timed_work.specs.Teams.{IsTeam, IsMade, AreMade, node_setup}

-- what holds of each program of a team holds of one that is found there
pub found_in : (P : Round → Type 0) (team : List (ℕ × Round)) (p : ℕ) → All (λ e. P e.1) team → IfSome (program_in team p) P
found_in P [] p all = tt
found_in P (e ∷ es) p all = by_number (e.0 == p) (found_in P es p (All-tail (λ x. P x.1) e es all))
  where
    by_number : (b : Bool) → IfSome (program_in es p) P → IfSome (program_by b e.1 (program_in es p)) P
    by_number true rest = All-head (λ x. P x.1) e es all
    by_number false rest = rest

-- four programs that are ready are a team
pub team_of_four : (team : List (ℕ × Round)) (a b c d : Round) → team ≡ (1, a) ∷ (2, b) ∷ (3, c) ∷ (4, d) ∷ [] → IsReady a → IsReady b → IsReady c → IsReady d → IsTeam team
team_of_four team a b c d is is_a is_b is_c is_d = subst IsTeam (sym is) (record {
  numbers = four_programs;
  ready = All-cons (λ (e : ℕ × Round). IsReady e.1) (1, a) ((2, b) ∷ (3, c) ∷ (4, d) ∷ []) is_a (All-cons (λ (e : ℕ × Round). IsReady e.1) (2, b) ((3, c) ∷ (4, d) ∷ []) is_b
      (All-cons (λ (e : ℕ × Round). IsReady e.1) (3, c) ((4, d) ∷ []) is_c (All-cons (λ (e : ℕ × Round). IsReady e.1) (4, d) [] is_d (All-nil (λ (e : ℕ × Round). IsReady e.1)))));
})

pub team_whole : (team : List (ℕ × Round)) (p : ℕ) → IsTeam team → IfSome (program_in team p) (λ r. r.spent ≡ false)
team_whole team p is = found_in (λ r. r.spent ≡ false) team p (All-weaker (λ e. IsReady e.1) (λ e. e.1.spent ≡ false) (λ e h. h.whole) team is.ready)

pub team_fresh : (team : List (ℕ × Round)) (p : ℕ) → IsTeam team → IfSome (program_in team p) (λ r. round_wants r ≡ Phase)
team_fresh team p is =
    found_in (λ r. round_wants r ≡ Phase) team p (All-weaker (λ e. IsReady e.1) (λ e. round_wants e.1 ≡ Phase) (λ e h. ap (want_in e.1.wants e.1.count) h.fresh) team is.ready)

abbrev setup_from : ℕ → ℕ → ℕ → ℕ → ℕ → NodeSetup
setup_from n nodes wire frames phases = record { node = n; nodes = nodes; wire = wire; frames = frames; phases = phases }

-- a node that was made of what a script declares, and of these programs
pub node_made : {E : Type 0} (s : Content) (n nodes wire frames phases : ℕ) (opening : Start) (team : List (ℕ × Round)) (r : Result (Noted Round) E)
    → nodes ≡ s.opening.nodes → wire ≡ wire_of s → frames ≡ slice_index_or (map (λ (row : NodeRow). row.frames) s.nodes) (n - 1) 0 → phases ≡ s.phases → opening ≡ s.opening → IsTeam team
    → IfOk r (λ x. (g : Given) → IsGivenBy round_wants round_after (setup_from n nodes wire frames phases) opening team g → Stands round_wants round_after (program_in team) g x (first_node g))
    → IfOk r (λ x. x.log ≡ record { node = n; events = [] }) → IfOk r (λ x. (t : List (ℕ × Round)) × IsTeam t × IsMade s n t x)
node_made s n nodes wire frames phases opening team (Err e) a v b c o is stands log = tt
node_made s n nodes wire frames phases opening team (Ok x) a v b c o is stands log =
    let same : node_setup s n ≡ setup_from n nodes wire frames phases =
    sym (ap (λ k. setup_from n k wire frames phases) a ∙ (ap (λ k. setup_from n s.opening.nodes k frames phases) v ∙ (ap (λ k. setup_from n s.opening.nodes (wire_of s) k phases) b ∙ ap (setup_from n s.opening.nodes (wire_of s) (slice_index_or (map (λ (row : NodeRow). row.frames) s.nodes) (n - 1) 0)) c))) in (
      team,
      is,
      record {
        stands = λ g by. stands g (subst (λ (start : Start). IsGivenBy round_wants round_after (setup_from n nodes wire frames phases) start team g) (sym o)
            (subst (λ (setup : NodeSetup). IsGivenBy round_wants round_after setup s.opening team g) same by));
        log = log;
      },
    )

pub none_made : (s : Content) → AreMade s [] []
none_made s = record { count = refl; teams_are = All-nil IsTeam; node = λ n x is. absurd (cc) }

-- one node more
pub more_made : (s : Content) (teams : List (List (ℕ × Round))) (xs : List (Noted Round)) (team : List (ℕ × Round)) (x : Noted Round) → AreMade s teams xs → IsTeam team → IsMade s (length xs + 1) team x → AreMade s (teams ++ team ∷ []) (xs ++ x ∷ [])
more_made s teams xs team x made is last = record {
  count = length_push xs x ∙ (ap (λ k. k + 1) made.count ∙ sym (length_push teams team));
  teams_are = All-push IsTeam teams team made.teams_are is;
  node = push_each (λ n y. IsMade s (n + 1) (slice_index_or (teams ++ team ∷ []) n []) y) xs x earlier here;
}
  where
    earlier : (n : ℕ) (y : Noted Round) → slice_get xs n ≡ Some y → IsMade s (n + 1) (slice_index_or (teams ++ team ∷ []) n []) y
    earlier n y at = subst (λ t. IsMade s (n + 1) t y) (sym (get_or_append_left teams (team ∷ []) [] n (within at))) (made.node n y at)
      where
        within : slice_get xs n ≡ Some y → n < length teams
        within e = subst (λ k. n < k) made.count (slice_get_within xs n y e)

    here : IsMade s (length xs + 1) (slice_index_or (teams ++ team ∷ []) (length xs) []) x
    here = subst (λ t. IsMade s (length xs + 1) t x) (sym (get_or_push teams team [] (length xs) (sym made.count))) last
