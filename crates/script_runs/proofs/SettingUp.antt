-- What a script gives its nodes is a set-up.
use Rattle.std.proofs.Common.{◌≡◌, ℕ, ◌≤◌, ◌==◌, Bool, true, false, List, [], ◌∷◌, length, take, map, refl, sym, ◌∙◌, ap, subst, arith, rules, reverse}
use Rattle.std.specs.Prelude.{All, AllPairs, IsTrue, filter, if◌then◌else◌, ◌≢◌, nat_le}
use Rattle.std.proofs.lemmas.Bool.Decides.{nat_tests}
use Rattle.std.proofs.lemmas.List.{length-map, length-take}
use Rattle.std.proofs.lemmas.List.Elements.{All-cons, All-nil, All-head, All-tail, All-weaker, All-map, All-filter}
use Rattle.std.proofs.lemmas.List.Kept.{AllPairs-cons}
use Rattle.uid_names.specs.Names.{ProcName, IsProcNumber, same_proc, proc_lt}
use Rattle.uid_names.specs.Openings.{IsStart}
use Rattle.dom_history.specs.Follows.{Heard}
use Rattle.dom_history.specs.Ranges.{IsWant, IsNodeNumber, AreNamedReplies}
use Rattle.script_reader.proofs.Kept.{IsWire-of, written-of}
use Rattle.script_reader.specs.declared.script.NodeRow.{NodeRow}
use Rattle.script_reader.specs.declared.script.CommandRow.{CommandRow}
use Rattle.script_reader.specs.Commands.{IsCommandRow}
use Rattle.script_reader.specs.Scripts.{Content, IsContent, IsNode}
use Rattle.script_reader.specs.Variables.{declared_object}
use Rattle.aegis_shell.specs.Work.{job_of, jobs_of}
use Rattle.aegis_shell.specs.Standing.{first_standing}
use Rattle.aegis_shell.specs.Asking.{ask, reach}
use Rattle.aegis_shell.specs.Work.{part_of}
use Rattle.node_runs.specs.Doings.{node_numbers}
use Rattle.node_runs.specs.Setups.{IsSetup, IsFrames, ArePrograms}
use Rattle.script_runs.specs.Processes.{processes_of}
use Rattle.script_runs.specs.Setups.{numbers_at, setup_of}
use Rattle.script_runs.proofs.ProcsWith.{Rise, pairs-head, pairs-tail, processes_of-rises, processes_of-All}

-- processes of one node that rise have different numbers
apart : (n : ℕ) (p q : ProcName) → p.node == n ≡ true → q.node == n ≡ true → IsTrue (proc_lt p q) → p.number ≡ q.number → ⊥
apart n p q here there below same =
    let rises : proc_lt p q ≡ true = search (rules, below) in
    absurd (grind (arith, nat_tests, here, there, rises, same))

others : (n : ℕ) (p : ProcName) (procs : List ProcName) → p.node == n ≡ true → All (λ q. IsTrue (proc_lt p q)) procs → All (λ m. p.number ≢ m) (numbers_at procs n)
others n p [] here above = All-nil (λ m. p.number ≢ m)
others n p (q ∷ procs) here above =
    by_node (q.node == n) refl (others n p procs here (All-tail (λ q. IsTrue (proc_lt p q)) q procs above))
  where
    by_node : (b : Bool) → q.node == n ≡ b → All (λ m. p.number ≢ m) (numbers_at procs n) → All (λ m. p.number ≢ m) (map (λ r. r.number) (if b then q ∷ filter (λ r. r.node == n) procs else filter (λ r. r.node == n) procs))
    by_node true there rest = All-cons (λ m. p.number ≢ m) q.number (numbers_at procs n) (apart n p q here there (All-head (λ q. IsTrue (proc_lt p q)) q procs above)) rest
    by_node false there rest = rest

once : (n : ℕ) (procs : List ProcName) → Rise procs → AllPairs (λ a b. a ≢ b) (numbers_at procs n)
once n [] rise = λ i j d under below. absurd (omega (arith, below))
once n (p ∷ procs) rise = by_node (p.node == n) refl (once n procs (pairs-tail p procs rise))
  where
    by_node : (b : Bool) → p.node == n ≡ b → AllPairs (λ a b. a ≢ b) (numbers_at procs n) → AllPairs (λ a b. a ≢ b) (map (λ r. r.number) (if b then p ∷ filter (λ r. r.node == n) procs else filter (λ r. r.node == n) procs))
    by_node true here rest = AllPairs-cons (λ a b. a ≢ b) p.number (numbers_at procs n) (others n p procs here (pairs-head p procs rise)) rest
    by_node false here rest = rest

-- the programs of a node
are_programs : (s : Content) → IsContent s → (n : ℕ) → ArePrograms (numbers_at (processes_of s.commands) n)
are_programs s content n = record {
  each = All-map IsProcNumber (λ (p : ProcName). p.number) (filter (λ p. p.node == n) (processes_of s.commands))
      (All-filter (λ p. p.node == n) (λ (p : ProcName). IsProcNumber p.number) (processes_of s.commands)
      (processes_of-All (λ p. IsProcNumber p.number) s.commands
      (All-weaker (IsCommandRow (length s.nodes) s.phases) (λ row. IsProcNumber row.proc.number) (λ row h. h.proc.number) s.commands content.draft.commands)));
  once = once n (processes_of s.commands) (processes_of-rises s.commands);
}

all_programs : (s : Content) → IsContent s → (ns : List ℕ) → All ArePrograms (map (numbers_at (processes_of s.commands)) ns)
all_programs s content [] = All-nil ArePrograms
all_programs s content (n ∷ ns) = All-cons ArePrograms (numbers_at (processes_of s.commands) n) (map (numbers_at (processes_of s.commands)) ns) (are_programs s content n) (all_programs s content ns)

-- a process of no node has nothing to do
no_jobs : (nodes phases : ℕ) (p : ProcName) (rows : List CommandRow) → (IsNodeNumber p.node → ⊥) → All (IsCommandRow nodes phases) rows → filter (λ row. same_proc row.proc p) rows ≡ []
no_jobs nodes phases p [] other all = refl
no_jobs nodes phases p (row ∷ rows) other all =
    by_same (same_proc row.proc p) refl (no_jobs nodes phases p rows other (All-tail (IsCommandRow nodes phases) row rows all))
  where
    by_same : (b : Bool) → same_proc row.proc p ≡ b → filter (λ r. same_proc r.proc p) rows ≡ [] → (if b then row ∷ filter (λ r. same_proc r.proc p) rows else filter (λ r. same_proc r.proc p) rows) ≡ []
    by_same true same rest =
        let here = (All-head (IsCommandRow nodes phases) row rows all).proc.node in
        let node : row.proc.node ≡ p.node = grind (arith, nat_tests, same) in
        absurd (other (subst IsNodeNumber node here))
    by_same false same rest = rest

-- what a script's processes ask in their ranges
abbrev pub AskInRange : Type 0
AskInRange = (s : Content) (p : ProcName) (heard : Heard) → IsContent s → IsNodeNumber p.node → AreNamedReplies heard → IsWant (ask s p heard)

asks_done : (s : Content) (p : ProcName) (heard : Heard) → jobs_of s p ≡ [] → IsWant (ask s p heard)
asks_done s p heard none = subst (λ jobs. IsWant (reach (part_of s p) 1 (first_standing (part_of s p)) jobs (reverse heard)).want) (sym none) tt

ranged : AskInRange → (s : Content) → IsContent s → (p : ProcName) (heard : Heard) → AreNamedReplies heard → IsWant (ask s p heard)
ranged law s content p heard named = by_low (nat_le 1 p.node) (nat_le p.node 8) refl refl
  where
    away : (IsNodeNumber p.node → ⊥) → IsWant (ask s p heard)
    away other = asks_done s p heard (ap (map (job_of (declared_object s.objects))) (no_jobs (length s.nodes) s.phases p s.commands other content.draft.commands))

    by_low : (b c : Bool) → nat_le 1 p.node ≡ b → nat_le p.node 8 ≡ c → IsWant (ask s p heard)
    by_low true true low high =
        let above : 1 ≤ p.node = grind (arith, nat_tests, low) in
        let below : p.node ≤ 8 = grind (arith, nat_tests, high) in
        law s p heard content (above, below) named
    by_low false c low high = away (λ is. let above = is.0 in absurd (grind (arith, nat_tests, low, above)))
    by_low true false low high = away (λ is. let below = is.1 in absurd (grind (arith, nat_tests, high, below)))

pub setup_is : AskInRange → (s : Content) → IsContent s → IsStart s.opening → IsSetup (setup_of s)
setup_is law s content start = record {
  start = start;
  begins = content.begins;
  wire = record { version = IsWire-of s content.draft; rooms = written-of s content.draft };
  frames = All-map IsFrames (λ (n : NodeRow). n.frames) s.nodes (All-weaker IsNode (λ n. IsFrames n.frames) (λ n node. record { few = node.few; many = node.many }) s.nodes content.draft.nodes);
  all_frames = length-map s.nodes (λ n. n.frames) ∙ sym content.draft.opening_nodes;
  phases_low = content.draft.phase_low;
  phases_high = content.draft.phase_high;
  programs = all_programs s content (take (length s.nodes) node_numbers);
  all_programs =
      length-map (take (length s.nodes) node_numbers) (numbers_at (processes_of s.commands))
      ∙ (omega (arith, length-take (length s.nodes) node_numbers, content.draft.few_nodes) ∙ sym content.draft.opening_nodes);
  wants = λ p heard fits named. ranged law s content p heard named;
}
