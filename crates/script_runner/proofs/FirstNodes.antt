-- The nodes of a script, as they are made.
use Rattle.std.proofs.Common.{◌≡◌, ℕ, zero, suc, ◌+◌, ◌-◌, ◌<◌, ◌≤◌, ◌==◌, Bool, true, false, Option, Some, None, Result, Ok, Err, List, [], ◌∷◌, ◌++◌, length, take, map, slice_index_or, refl, sym, ◌∙◌, ap, subst, arith}
use Rattle.std.specs.Prelude.{filter, if◌then◌else◌, is_some, ◌||◌, IfSome, IfOk, slice_get}
use Rattle.std.specs.List.{list_any}
use Rattle.std.proofs.lemmas.Bool.Decides.{nat_tests}
use Rattle.std.proofs.lemmas.List.{length-take, get_or-map, get_or-take}
use Rattle.std.proofs.lemmas.List.Elements.{All-get_or}
use Rattle.uid_names.specs.Names.{ProcName, same_proc}
use Rattle.uid_names.specs.Openings.{Start}
use Rattle.uid_names.proofs.Orders.{same_proc_is}
use Rattle.dom_history.specs.declared.op.Want.TheVariants.{Phase}
use Rattle.dom_history.specs.Follows.{Heard}
use Rattle.dom_history.specs.Programs.{asked_by}
use Rattle.script_reader.specs.declared.script.NodeRow.{NodeRow}
use Rattle.script_reader.specs.Scripts.{Content, wire_of, IsContent}
use Rattle.aegis_shell.specs.Asking.{ask}
use Rattle.aegis_shell.specs.Shells.{Shelled, shell_of, shell_wants, shell_after}
use Rattle.node_runs.specs.Doings.{node_numbers}
use Rattle.node_runs.specs.Setups.{Given, given, IsSetup, ArePrograms}
use Rattle.node_runs.specs.NodeStates.{first_node}
use Rattle.node_core.specs.declared.setup.NodeSetup.{NodeSetup}
use Rattle.node_core.specs.Programs.{program_in, program_by, numbers_in}
use Rattle.node_core.specs.Nodes.{Noted, Stands, IsGivenBy}
use Rattle.script_runs.specs.Processes.{processes_of}
use Rattle.script_runs.specs.Setups.{numbers_at, programs_of, setup_of}
use Rattle.script_runner.specs.Nodes.{shells_among, IsFirstNode}

-- processes of one node and one number are one
pub proc_is : (p q : ProcName) → p.node == q.node ≡ true → p.number == q.number ≡ true → p ≡ q
proc_is p q node number = let same : same_proc p q ≡ true = rw (node, number) refl in same_proc_is p q same

itself : (n : ℕ) → n == n ≡ true
itself n = grind (arith, nat_tests)

-- a shell, with the number of its process
abbrev pub shell_row : Content → ProcName → ℕ × Shelled
shell_row s p = (p.number, shell_of s p)

-- the first one that is there
own_shell : (s : Content) (p : ProcName) (procs : List ProcName) → program_in (shells_among s p.node (p ∷ procs)) p.number ≡ Some (shell_of s p)
own_shell s p procs = rw (itself p.node) (rw (itself p.number) refl)

-- the shell of each process among these is there
pub shell_found : (s : Content) (procs : List ProcName) (p : ProcName) (i : ℕ) (d : ProcName) → i < length procs → slice_index_or procs i d ≡ p → program_in (shells_among s p.node procs) p.number ≡ Some (shell_of s p)
shell_found s [] p i d below is = absurd (omega (arith, below))
shell_found s (q ∷ procs) p zero d below is = subst (λ (r : ProcName). program_in (shells_among s r.node (q ∷ procs)) r.number ≡ Some (shell_of s r)) is (own_shell s q procs)
shell_found s (q ∷ procs) p (suc i) d below is = put (q.node == p.node) (q.number == p.number) refl refl (shell_found s procs p i d (omega (arith, below)) is)
  where
    put : (b c : Bool) → q.node == p.node ≡ b → q.number == p.number ≡ c → program_in (shells_among s p.node procs) p.number ≡ Some (shell_of s p)
        → program_in (map (shell_row s) (if b then q ∷ filter (λ r. r.node == p.node) procs else filter (λ r. r.node == p.node) procs)) p.number ≡ Some (shell_of s p)
    put true true node number rest = rw number (ap (λ (r : ProcName). Some (shell_of s r)) (proc_is q p node number))
    put true false node number rest = rw number rest
    put false c node number rest = rest

-- a shell that is there is that of its process
pub shell_made : (s : Content) (n p : ℕ) (procs : List ProcName) (y : Shelled) → program_in (shells_among s n procs) p ≡ Some y → shell_of s (record { node = n; number = p }) ≡ y
shell_made s n p [] y is = absurd (cc)
shell_made s n p (q ∷ procs) y is = by_node (q.node == n) (q.number == p) refl refl (shell_made s n p procs y) is
  where
    this : ProcName
    this = record { node = n; number = p }

    by_node : (b c : Bool) → q.node == n ≡ b → q.number == p ≡ c → (program_in (shells_among s n procs) p ≡ Some y → shell_of s (record { node = n; number = p }) ≡ y)
        → program_in (map (shell_row s) (if b then q ∷ filter (λ r. r.node == n) procs else filter (λ r. r.node == n) procs)) p ≡ Some y → shell_of s (record { node = n; number = p }) ≡ y
    by_node true true node number further is =
        let first = rw number at is in
        let named : q ≡ record { node = n; number = p } = proc_is q (record { node = n; number = p }) node number in
        ap (shell_of s) (sym named) ∙ (cc first)
    by_node true false node number further is = further (rw number at is)
    by_node false c node number further is = further is

-- which processes have one
numbers_found : (s : Content) (procs : List ProcName) (p : ℕ) → list_any (λ q. q == p) (map (λ (r : ProcName). r.number) procs) ≡ is_some (program_in (map (shell_row s) procs) p)
numbers_found s [] p = refl
numbers_found s (q ∷ procs) p = by_number (q.number == p) (numbers_found s procs p)
  where
    by_number : (b : Bool) → list_any (λ q. q == p) (map (λ (r : ProcName). r.number) procs) ≡ is_some (program_in (map (shell_row s) procs) p)
        → (b || list_any (λ q. q == p) (map (λ (r : ProcName). r.number) procs)) ≡ is_some (program_by b (shell_of s q) (program_in (map (shell_row s) procs) p))
    by_number true rest = refl
    by_number false rest = rest

numbers_are : (s : Content) (procs : List ProcName) → numbers_in (map (shell_row s) procs) ≡ map (λ (r : ProcName). r.number) procs
numbers_are s [] = refl
numbers_are s (q ∷ procs) = ap (λ ns. q.number ∷ ns) (numbers_are s procs)

node_number : (i : ℕ) → i < 8 → slice_index_or node_numbers i 0 ≡ i + 1
node_number zero h = refl
node_number (suc zero) h = refl
node_number (suc (suc zero)) h = refl
node_number (suc (suc (suc zero))) h = refl
node_number (suc (suc (suc (suc zero)))) h = refl
node_number (suc (suc (suc (suc (suc zero))))) h = refl
node_number (suc (suc (suc (suc (suc (suc zero)))))) h = refl
node_number (suc (suc (suc (suc (suc (suc (suc zero))))))) h = refl
node_number (suc (suc (suc (suc (suc (suc (suc (suc i)))))))) h = absurd (omega (arith, h))

module _ (s : Content) (content : IsContent s) (n : ℕ) (low : 1 ≤ n) (high : n ≤ length s.nodes) where
  -- the processes of a node that have a program
  programs_at : slice_index_or (programs_of s) (n - 1) [] ≡ numbers_at (processes_of s.commands) n
  programs_at =
      let few : length s.nodes ≤ 8 = content.draft.few_nodes in
      let short : n - 1 < length (take (length s.nodes) node_numbers) = omega (arith, length-take (length s.nodes) node_numbers) in
      let is : slice_index_or (take (length s.nodes) node_numbers) (n - 1) 0 ≡ n = get_or-take (length s.nodes) node_numbers (n - 1) 0 (omega arith) ∙ (node_number (n - 1) (omega arith) ∙ omega arith) in
      get_or-map (numbers_at (processes_of s.commands)) (take (length s.nodes) node_numbers) (n - 1) 0 [] short
      ∙ ap (numbers_at (processes_of s.commands)) is

  pub are_programs : IsSetup (setup_of s) → ArePrograms (numbers_in (shells_among s n (processes_of s.commands)))
  are_programs setup =
      let count = setup.all_programs in
      let nodes = content.draft.opening_nodes in
      subst ArePrograms (programs_at ∙ sym (numbers_are s (filter (λ p. p.node == n) (processes_of s.commands))))
      (All-get_or ArePrograms (programs_of s) (n - 1) [] (omega (arith, count, nodes)) setup.programs)

  -- a node is given what its script says
  pub given_by : ((p : ProcName) (heard : Heard) → asked_by shell_wants shell_after (shell_of s p) heard ≡ ask s p heard)
      → (setup : NodeSetup) → setup.node ≡ n → setup.wire ≡ wire_of s → setup.frames ≡ slice_index_or (map (λ (r : NodeRow). r.frames) s.nodes) (n - 1) 0 → setup.phases ≡ s.phases
      → IsGivenBy shell_wants shell_after setup s.opening (shells_among s n (processes_of s.commands)) (given (setup_of s) n)
  given_by law setup node wire frames phases = record {
    number = sym node;
    opening = refl;
    wire = sym wire;
    frames = sym frames;
    phases = sym phases;
    programs = λ p. ap (list_any (λ q. q == p)) programs_at ∙ numbers_found s (filter (λ p. p.node == n) (processes_of s.commands)) p;
    asks = λ p y is heard.
        sym (law (record { node = n; number = p }) heard) ∙ ap (λ (shell : Shelled). asked_by shell_wants shell_after shell heard) (shell_made s n p (processes_of s.commands) y is);
  }

-- no shell found no memory before its first call, and each waits for its first phase
pub shells_whole : (s : Content) (n p : ℕ) (procs : List ProcName) → IfSome (program_in (shells_among s n procs) p) (λ y. y.spent ≡ false)
shells_whole s n p procs = by_shell (program_in (shells_among s n procs) p) refl
  where
    by_shell : (o : Option Shelled) → program_in (shells_among s n procs) p ≡ o → IfSome o (λ y. y.spent ≡ false)
    by_shell None is = tt
    by_shell (Some y) is = ap (λ (v : Shelled). v.spent) (sym (shell_made s n p procs y is))

pub shells_fresh : (s : Content) (n p : ℕ) (procs : List ProcName) → IfSome (program_in (shells_among s n procs) p) (λ y. shell_wants y ≡ Phase)
shells_fresh s n p procs = by_shell (program_in (shells_among s n procs) p) refl
  where
    by_shell : (o : Option Shelled) → program_in (shells_among s n procs) p ≡ o → IfSome o (λ y. shell_wants y ≡ Phase)
    by_shell None is = tt
    by_shell (Some y) is = ap shell_wants (sym (shell_made s n p procs y is))

-- the frames of a node are those of its row
pub frames_at : (s : Content) (n : ℕ) → 1 ≤ n → n ≤ length s.nodes → (nodes : List NodeRow) (i : ℕ) (first : NodeRow) → nodes ≡ s.nodes → i ≡ n - 1 → first ≡ slice_index_or nodes i first → first.frames ≡ slice_index_or (map (λ (r : NodeRow). r.frames) s.nodes) (n - 1) 0
frames_at s n low high nodes i first are at is =
    let short : n - 1 < length s.nodes = omega arith in
    ap (λ (r : NodeRow). r.frames) (is ∙ (ap (λ (rows : List NodeRow). slice_index_or rows i first) are ∙ ap (λ k. slice_index_or s.nodes k first) at))
    ∙ sym (get_or-map (λ (r : NodeRow). r.frames) s.nodes (n - 1) first 0 short)

-- a node that was made of what its script gives it
pub first_node_is : {E : Type 0} (s : Content) (n : ℕ) (setup : NodeSetup) (opening : Start) (shells : List (ℕ × Shelled)) (r : Result (Noted Shelled) E) → setup.node ≡ n → opening ≡ s.opening → shells ≡ shells_among s n (processes_of s.commands)
    → IsGivenBy shell_wants shell_after setup s.opening (shells_among s n (processes_of s.commands)) (given (setup_of s) n)
    → IfOk r (λ x. (g : Given) → IsGivenBy shell_wants shell_after setup opening shells g → Stands shell_wants shell_after (program_in shells) g x (first_node g))
    → IfOk r (λ x. x.log ≡ record { node = setup.node; events = [] }) → IfOk r (IsFirstNode s n)
first_node_is s n setup opening shells (Err e) node opens are gives stands log = tt
first_node_is s n setup opening shells (Ok x) node opens are gives stands log =
    let same : IsGivenBy shell_wants shell_after setup opening shells (given (setup_of s) n) =
    subst (λ (o : Start). IsGivenBy shell_wants shell_after setup o shells (given (setup_of s) n)) (sym opens)
    (subst (λ (all : List (ℕ × Shelled)). IsGivenBy shell_wants shell_after setup s.opening all (given (setup_of s) n)) (sym are) gives) in
    record {
      stands = subst (λ (all : List (ℕ × Shelled)). Stands shell_wants shell_after (program_in all) (given (setup_of s) n) x (first_node (given (setup_of s) n))) are (stands (given (setup_of s) n) same);
      log = subst (λ (k : ℕ). x.log ≡ record { node = k; events = [] }) node log;
    }

-- what holds of each element by its place holds with one more
pub push_each : {X : Type 0} (P : ℕ → X → Type 0) (xs : List X) (x : X) → ((n : ℕ) (y : X) → slice_get xs n ≡ Some y → P n y) → P (length xs) x → (n : ℕ) (y : X) → slice_get (xs ++ x ∷ []) n ≡ Some y → P n y
push_each P [] x each last zero y is = let same : x ≡ y = cc in subst (P 0) same last
push_each P [] x each last (suc n) y is = absurd (cc)
push_each P (z ∷ xs) x each last zero y is = each zero y is
push_each P (z ∷ xs) x each last (suc n) y is = push_each (λ k. P (suc k)) xs x (λ k w e. each (suc k) w e) last n y is
