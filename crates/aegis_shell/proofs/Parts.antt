-- A process's part of a script.
use Rattle.std.proofs.Common.{◌≡◌, ℕ, ◌+◌, ◌≤◌, ◌<◌, Bool, true, false, Option, Some, None, List, [], ◌∷◌, ◌++◌, length, take, drop, map, refl, ap, ◌∙◌, sym, subst, arith, add-one, append_assoc, append-nil, length-append, drop-cons, slice_index_or}
use Rattle.std.specs.Prelude.{filter, if◌then◌else◌}
use Rattle.std.proofs.Math.Seq.{take-suc, drop-append_seam}
use Rattle.std.proofs.lemmas.List.{length-map, get_or-map, map-append}
use Rattle.std.proofs.lemmas.List.Elements.{All-map, All-filter, All-weaker}
use Rattle.uid_names.specs.Names.{ProcName, same_proc}
use Rattle.uid_names.specs.NameTexts.{IsNameText}
use Rattle.uid_names.specs.declared.limits.TheConstants.{MAX_NODES}
use Rattle.uid_names.proofs.ListLemmas.{length-filter_le}
use Rattle.dom_history.specs.NodeTexts.{AreNodeNames}
use Rattle.script_reader.specs.declared.command.Command.{Command}
use Rattle.script_reader.specs.declared.script.NodeRow.{NodeRow}
use Rattle.script_reader.specs.declared.script.CommandRow.{CommandRow}
use Rattle.std.specs.List.{AllByRecursion}
use Rattle.script_reader.specs.Arguments.{Given, Home, HomeNode}
use Rattle.script_reader.specs.Commands.{IsHome, IsArgument, arguments_of, IsCommand, IsCommandRow}
use Rattle.script_reader.specs.Places.{places_of}
use Rattle.script_reader.specs.Scripts.{Content, IsContent, IsNode}
use Rattle.aegis_shell.specs.Bound.{Bound}
use Rattle.aegis_shell.specs.Work.{Job, job_of}
use Rattle.command_talks.specs.Ranges.{IsRanged}
use Rattle.aegis_shell.specs.Ranges.{IsJob, AreJobs}

-- the rows at these places
abbrev pub rows_at : List CommandRow → List ℕ → List CommandRow
rows_at rows [] = []
rows_at rows (place ∷ places) = take 1 (drop place rows) ++ rows_at rows places

rows_at-append : (rows : List CommandRow) (xs ys : List ℕ) → rows_at rows (xs ++ ys) ≡ rows_at rows xs ++ rows_at rows ys
rows_at-append rows [] ys = refl
rows_at-append rows (x ∷ xs) ys =
    ap (λ rest. take 1 (drop x rows) ++ rest) (rows_at-append rows xs ys)
    ∙ sym (append_assoc (take 1 (drop x rows)) (rows_at rows xs) (rows_at rows ys))

-- one place more
rows_at-more : (rows : List CommandRow) (places : List ℕ) (i d : ℕ) (row : CommandRow) → i < length places → slice_index_or places i d < length rows → row ≡ slice_index_or rows (slice_index_or places i d) row
    → rows_at rows (take (i + 1) places) ≡ rows_at rows (take i places) ++ row ∷ []
rows_at-more rows places i d row within inside row_is =
    let place = slice_index_or places i d in
    ap (rows_at rows) (ap (λ n. take n places) (add-one i) ∙ take-suc places i d within)
    ∙ (rows_at-append rows (take i places) (place ∷ [])
    ∙ ap (λ list. rows_at rows (take i places) ++ list) (append-nil (take 1 (drop place rows)) ∙ (ap (take 1) (drop-cons rows place row inside) ∙ ap (λ r. r ∷ []) (sym row_is))))

pub jobs-more : (f : CommandRow → Job) (rows : List CommandRow) (places : List ℕ) (i d : ℕ) (row : CommandRow) → i < length places → slice_index_or places i d < length rows → row ≡ slice_index_or rows (slice_index_or places i d) row
    → map f (rows_at rows (take (i + 1) places)) ≡ map f (rows_at rows (take i places)) ++ f row ∷ []
jobs-more f rows places i d row within inside row_is = ap (map f) (rows_at-more rows places i d row within inside row_is) ∙ map-append f (rows_at rows (take i places)) (row ∷ [])

-- those at the places of a process are the process's own
own_behind : (p : ProcName) (before rows : List CommandRow) (n : ℕ) → length before ≡ n → rows_at (before ++ rows) (places_of n p rows) ≡ filter (λ row. same_proc row.proc p) rows
own_behind p before [] n is = refl
own_behind p before (row ∷ rows) n is =
    let rest : rows_at (before ++ row ∷ rows) (places_of (n + 1) p rows) ≡ filter (λ row. same_proc row.proc p) rows =
    ap (λ list. rows_at list (places_of (n + 1) p rows)) (sym (append_assoc before (row ∷ []) rows))
    ∙ own_behind p (before ++ row ∷ []) rows (n + 1) (length-append before (row ∷ []) ∙ ap (λ k. k + 1) is)
    in
    let here : take 1 (drop n (before ++ row ∷ rows)) ≡ row ∷ [] = ap (λ k. take 1 (drop k (before ++ row ∷ rows))) (sym is) ∙ ap (take 1) (drop-append_seam before (row ∷ rows)) in
    by_test (same_proc row.proc p) here rest
  where
    by_test : (own : Bool) → take 1 (drop n (before ++ row ∷ rows)) ≡ row ∷ [] → rows_at (before ++ row ∷ rows) (places_of (n + 1) p rows) ≡ filter (λ row. same_proc row.proc p) rows
        → rows_at (before ++ row ∷ rows) (if own then n ∷ places_of (n + 1) p rows else places_of (n + 1) p rows)
        ≡ (if own then row ∷ filter (λ row. same_proc row.proc p) rows else filter (λ row. same_proc row.proc p) rows)
    by_test true here rest = ap (λ list. list ++ rows_at (before ++ row ∷ rows) (places_of (n + 1) p rows)) here ∙ ap (λ list. row ∷ list) rest
    by_test false here rest = rest

pub own_rows : (p : ProcName) (rows : List CommandRow) → rows_at rows (places_of 0 p rows) ≡ filter (λ row. same_proc row.proc p) rows
own_rows p rows = own_behind p [] rows 0 refl

-- the names of a script's nodes
pub node_names : (s : Content) → IsContent s → AreNodeNames (map (λ n. n.name) s.nodes)
node_names s content = record {
  some = subst (λ n. 1 ≤ n) (sym (length-map s.nodes (λ n. n.name))) content.some_node;
  few = subst (λ n. n ≤ 8) (sym (length-map s.nodes (λ n. n.name))) content.draft.few_nodes;
  texts = All-map IsNameText (λ (n : NodeRow). n.name) s.nodes (All-weaker IsNode (λ n. IsNameText n.name) (λ n node. node.name) s.nodes content.draft.nodes);
  once = λ i j d before within.
      let named : NodeRow = record { name = d; frames = 0 } in
      let short : j < length s.nodes = subst (λ n. j < n) (length-map s.nodes (λ n. n.name)) within in
      let earlier : i < length s.nodes = omega arith in
      let first = get_or-map (λ (n : NodeRow). n.name) s.nodes i named d earlier in
      let second = get_or-map (λ (n : NodeRow). n.name) s.nodes j named d short in
      λ same. content.draft.names_apart i j named before short (sym first ∙ (same ∙ second));
}

-- the ranges of a script's commands are those of jobs
home_wider : (nodes : ℕ) (home : Option ℕ) → nodes ≤ MAX_NODES → IsHome nodes home → IsHome MAX_NODES home
home_wider nodes None few h = tt
home_wider nodes (Some node) few h = (h.0, omega (arith, few, h.1))

argument_ranged : (nodes : ℕ) (a : Given) → nodes ≤ MAX_NODES → IsArgument nodes a → IsArgument MAX_NODES a
argument_ranged nodes (Home home) few h = home_wider nodes home few h
argument_ranged nodes (HomeNode node) few h = (h.0, omega (arith, few, h.1))
argument_ranged nodes _ few h = h

arguments_ranged : (nodes : ℕ) (list : List Given) → nodes ≤ MAX_NODES → AllByRecursion (IsArgument nodes) list → AllByRecursion (IsArgument MAX_NODES) list
arguments_ranged nodes [] few h = tt
arguments_ranged nodes (a ∷ list) few h = (argument_ranged nodes a few h.0, arguments_ranged nodes list few h.1)

ranged : (nodes : ℕ) (c : Command) → nodes ≤ MAX_NODES → IsCommand nodes c → IsRanged c
ranged nodes c few h = arguments_ranged nodes (arguments_of c) few h

job_ranged : (s : Content) (declared : Bound) (row : CommandRow) → length s.nodes ≤ MAX_NODES → s.phases ≤ 1000 → IsCommandRow (length s.nodes) s.phases row → IsJob (job_of declared row)
job_ranged s declared row few short h = record { phase = omega (arith, h.phase_high); command = ranged (length s.nodes) row.command few h.command }

-- the jobs of a process of a script
pub jobs_ranged : (s : Content) (declared : Bound) (p : ProcName) → IsContent s → AreJobs (map (job_of declared) (filter (λ row. same_proc row.proc p) s.commands))
jobs_ranged s declared p content =
    let own = λ (row : CommandRow). same_proc row.proc p in
    All-map IsJob (job_of declared) (filter own s.commands)
    (All-filter own (λ row. IsJob (job_of declared row)) s.commands
    (All-weaker (IsCommandRow (length s.nodes) s.phases) (λ row. IsJob (job_of declared row)) (λ row h. job_ranged s declared row content.draft.few_nodes content.draft.phase_high h) s.commands content.draft.commands))

-- no process has more jobs than the script has commands
pub jobs_few : (s : Content) (declared : Bound) (p : ProcName) → IsContent s → length (map (job_of declared) (filter (λ row. same_proc row.proc p) s.commands)) ≤ 20000
jobs_few s declared p content =
    let all = length-map (filter (λ row. same_proc row.proc p) s.commands) (job_of declared) in
    let few = length-filter_le (λ row. same_proc row.proc p) s.commands in
    omega (arith, content.draft.few_commands)
