-- The script of a seed: each piece of it may be said where it is, and leads to the next.
use Rattle.std.proofs.Common.{◌≡◌, ◌≤◌, ◌<◌, ◌+◌, ◌*◌, ◌/◌, ◌%◌, ◌≢◌, ℕ, zero, suc, Bool, true, false, get_or, set, List, [], ◌∷◌, ◌++◌, length, map, refl, ap, sym, subst, ◌∙◌, append-nil, append_assoc, add-one, length-append, arith, rules}
use Rattle.std.specs.Prelude.{◌==◌, not, nat_le, nat_lt, codes, decimal, flat_map}
use Rattle.std.specs.Fmt.{digits}
use Rattle.std.specs.List.{AllByRecursion, list_all, range_with_len}
use Rattle.std.proofs.lemmas.Bool.{eqb-true, not-true, and_parts}
use Rattle.std.proofs.lemmas.Grind.{get_or-set_at}
use Rattle.std.proofs.lemmas.List.{get_or-set_other, length-map}
use Rattle.std.proofs.lemmas.List.FromFn.{length-map-range_with_len, map-range_with_len_more}
use Rattle.uid_names.specs.Names.{ProcName}
use Rattle.uid_names.specs.NameTexts.{IsNameText}
use Rattle.uid_names.specs.Beginnings.{at_home}
use Rattle.uid_names.specs.Openings.{with_object}
use Rattle.uid_names.specs.declared.limits.TheConstants.{VOLUME_ROOM}
use Rattle.uid_names.specs.declared.mode.ObjKind.TheVariants.{File}
use Rattle.uid_names.proofs.Orders.{by_first}
use Rattle.script_reader.specs.After.{declared_at, next_uid, with_command, with_declared, with_node, with_nodes}
use Rattle.script_reader.specs.Arguments.{Given, Var, Offset, Count, Text, Mode}
use Rattle.script_reader.specs.Commands.{IsArgument, IsCommand, arguments_of}
use Rattle.drawn_numbers.specs.Draws.{next_state}
use Rattle.script_maker.specs.Generated.{begin_of, first_work, generated_commands, generated_node, generated_object, generated_var, later_work, object_name, object_uid, process_at, rows_by, rows_in, rows_of, state_behind, work_in}
use Rattle.script_reader.specs.Limits.{pages_at}
use Rattle.script_reader.specs.NodeNames.{is_node_name}
use Rattle.script_reader.specs.Scripts.{Content}
use Rattle.script_reader.specs.Variables.{IsSpoken, MaySpeakOf, is_declared, is_named}
use Rattle.script_maker.specs.Walk.Begun.{HasBegun, IsWork, IsWorkArgument, nodes_begun, objects_begun, phases_begun, with_rows}
use Rattle.script_reader.specs.Words.{is_name}
use Rattle.script_reader.specs.declared.command.Command.{Command}
use Rattle.script_reader.specs.declared.script.CommandRow.{CommandRow}
use Rattle.script_reader.specs.declared.script.VarRow.{VarRow}
use Rattle.script_reader.proofs.Kept.{name_text}

-- a test that so many numbers pass, from one on
passes_from : (p : ℕ → Bool) (a n i : ℕ) → list_all p (range_with_len a n) ≡ true → i < n → p (a + i) ≡ true
passes_from p a zero i h below = absurd (omega (arith, below))
passes_from p a (suc n) zero h below =
    let here : a ≡ a + 0 = omega arith in
    subst (λ k. p k ≡ true) here (and_parts (p a) (list_all p (range_with_len (a + 1) n)) h).0
passes_from p a (suc n) (suc i) h below =
    let next : (a + 1) + i ≡ a + suc i = omega arith in
    subst (λ k. p k ≡ true) next (passes_from p (a + 1) n i (and_parts (p a) (list_all p (range_with_len (a + 1) n)) h).1 (omega (arith, below)))

passes_below : (p : ℕ → Bool) (n i : ℕ) → list_all p (range_with_len 0 n) ≡ true → i < n → p i ≡ true
passes_below p n i h below =
    let from : 0 + i ≡ i = omega arith in
    subst (λ k. p k ≡ true) from (passes_from p 0 n i h below)

-- the nodes' names
abbrev pub node_name : ℕ → List ℕ
node_name n = codes "n" ++ decimal (n + 1)

node_names_are : list_all (λ n. is_name (node_name n)) (range_with_len 0 8) ≡ true
unfolding digits
node_names_are = refl

pub node_name_is : (n : ℕ) → n < 8 → is_name (node_name n) ≡ true
node_name_is n below = passes_below (λ n. is_name (node_name n)) 8 n node_names_are below

node_names_new : list_all (λ n. not (is_node_name (map generated_node (range_with_len 1 n)) (node_name n))) (range_with_len 0 8) ≡ true
unfolding digits
node_names_new = refl

pub node_name_new : (n : ℕ) → n < 8 → is_node_name (map generated_node (range_with_len 1 n)) (node_name n) ≡ false
node_name_new n below =
    not-true (is_node_name (map generated_node (range_with_len 1 n)) (node_name n)) (passes_below (λ n. not (is_node_name (map generated_node (range_with_len 1 n)) (node_name n))) 8 n node_names_new below)

-- the objects' names
object_names_are : list_all (λ i. is_name (object_name i)) (range_with_len 0 32) ≡ true
unfolding digits
object_names_are = refl

pub object_name_is : (i : ℕ) → i < 32 → is_name (object_name i) ≡ true
object_name_is i below = passes_below (λ i. is_name (object_name i)) 32 i object_names_are below

objects_new : list_all (λ i. not (is_declared (map generated_var (range_with_len 0 i)) (object_name i))) (range_with_len 0 32) ≡ true
unfolding digits
objects_new = refl

pub object_new : (i : ℕ) → i < 32 → is_declared (map generated_var (range_with_len 0 i)) (object_name i) ≡ false
object_new i below =
    not-true (is_declared (map generated_var (range_with_len 0 i)) (object_name i)) (passes_below (λ i. not (is_declared (map generated_var (range_with_len 0 i)) (object_name i))) 32 i objects_new below)

objects_declared : list_all (λ i. is_declared (map generated_var (range_with_len 0 32)) (object_name i)) (range_with_len 0 32) ≡ true
unfolding digits
objects_declared = refl

pub object_declared : (i : ℕ) → i < 32 → is_declared (map generated_var (range_with_len 0 32)) (object_name i) ≡ true
object_declared i below = passes_below (λ i. is_declared (map generated_var (range_with_len 0 32)) (object_name i)) 32 i objects_declared below

-- the volumes hold them
objects_fit : list_all (λ i. nat_le (pages_at (i % 8 + 1) (map generated_object (range_with_len 0 i)) + 4) VOLUME_ROOM) (range_with_len 0 32) ≡ true
objects_fit = refl

pub object_fits : (i : ℕ) → i < 32 → pages_at (i % 8 + 1) (map generated_object (range_with_len 0 i)) + 4 ≤ VOLUME_ROOM
object_fits i below =
    let passes = passes_below (λ i. nat_le (pages_at (i % 8 + 1) (map generated_object (range_with_len 0 i)) + 4) VOLUME_ROOM) 32 i objects_fit below in
    search (rules, passes)

-- each is the next of its home
objects_next : list_all (λ i. length (at_home (i % 8 + 1) (map generated_object (range_with_len 0 i))) + 2 == i / 8 + 2) (range_with_len 0 32) ≡ true
objects_next = refl

pub object_next : (i : ℕ) → i < 32 → next_uid (map generated_object (range_with_len 0 i)) (i % 8 + 1) ≡ object_uid i
object_next i below =
    let passes = passes_below (λ i. length (at_home (i % 8 + 1) (map generated_object (range_with_len 0 i))) + 2 == i / 8 + 2) 32 i objects_next below in
    ap (λ c. record { counter = c; home = i % 8 + 1 }) (eqb-true (length (at_home (i % 8 + 1) (map generated_object (range_with_len 0 i))) + 2) (i / 8 + 2) passes)

-- a command on an object is in its ranges
argument_in_range : (nodes : ℕ) (var : List ℕ) (a : Given) → IsNameText var → IsWorkArgument var a → IsArgument nodes a
argument_in_range nodes var (Var name) is w = subst IsNameText (sym w) is
argument_in_range nodes var (Offset bytes) is w = w
argument_in_range nodes var (Count bytes) is w = w
argument_in_range nodes var (Text text) is w = w
argument_in_range nodes var (Mode mode) is w = tt
argument_in_range nodes var _ is w = absurd w

arguments_in_range : (nodes : ℕ) (var : List ℕ) (list : List Given) → IsNameText var → AllByRecursion (IsWorkArgument var) list → AllByRecursion (IsArgument nodes) list
arguments_in_range nodes var [] is w = tt
arguments_in_range nodes var (a ∷ list) is w = (argument_in_range nodes var a is w.0, arguments_in_range nodes var list is w.1)

pub work_in_range : (nodes i : ℕ) (command : Command) → i < 32 → IsWork (object_name i) command → IsCommand nodes command
work_in_range nodes i command below w = arguments_in_range nodes (object_name i) (arguments_of command) (name_text (object_name i) (object_name_is i below)) w

argument_spoken : (objects : List VarRow) (before : List CommandRow) (proc : ProcName) (var : List ℕ) (a : Given) → is_declared objects var ≡ true → IsWorkArgument var a → MaySpeakOf objects before proc a
argument_spoken objects before proc var (Var name) known w = by_first (is_declared objects name) (is_named before proc name) (subst (λ v. is_declared objects v ≡ true) (sym w) known)
argument_spoken objects before proc var (Offset bytes) known w = tt
argument_spoken objects before proc var (Count bytes) known w = tt
argument_spoken objects before proc var (Text text) known w = tt
argument_spoken objects before proc var (Mode mode) known w = tt
argument_spoken objects before proc var _ known w = absurd w

arguments_spoken : (objects : List VarRow) (before : List CommandRow) (proc : ProcName) (var : List ℕ) (list : List Given) → is_declared objects var ≡ true → AllByRecursion (IsWorkArgument var) list → AllByRecursion (MaySpeakOf objects before proc) list
arguments_spoken objects before proc var [] known w = tt
arguments_spoken objects before proc var (a ∷ list) known w = (argument_spoken objects before proc var a known w.0, arguments_spoken objects before proc var list known w.1)

pub work_spoken : (objects : List VarRow) (before : List CommandRow) (proc : ProcName) (i : ℕ) (command : Command) → objects ≡ map generated_var (range_with_len 0 32) → i < 32 → IsWork (object_name i) command → IsSpoken objects before proc command
work_spoken objects before proc i command are below w =
    arguments_spoken objects before proc (object_name i) (arguments_of command) (subst (λ o. is_declared o (object_name i) ≡ true) (sym are) (object_declared i below)) w

-- five commands of a process
five : {X : Type 0} (xs : List X) (a b c d e : X) → ((((xs ++ a ∷ []) ++ b ∷ []) ++ c ∷ []) ++ d ∷ []) ++ e ∷ [] ≡ xs ++ (a ∷ b ∷ c ∷ d ∷ e ∷ [])
five xs a b c d e = simp append_assoc refl

pub five_rows : (s : Content) (proc : ProcName) (a b c d e : Command)
    → with_command (with_command (with_command (with_command (with_command s proc a) proc b) proc c) proc d) proc e ≡ with_rows s (map (λ x. record { proc = proc; phase = s.phases; command = x }) (a ∷ b ∷ c ∷ d ∷ e ∷ []))
five_rows s proc a b c d e =
    let row : Command → CommandRow = λ x. record { proc = proc; phase = s.phases; command = x } in
    ap (λ rows. record s { commands = rows }) (five s.commands (row a) (row b) (row c) (row d) (row e))

-- what stands behind the first numbers
flat_map_range : {A : Type 0} (f : ℕ → List A) (a n j : ℕ) → a + n ≡ j → flat_map f (range_with_len a (suc n)) ≡ flat_map f (range_with_len a n) ++ f j
flat_map_range f a zero j e =
    let same : a ≡ j = omega (arith, e) in
    append-nil (f a) ∙ ap f same
flat_map_range f a (suc n) j e =
    let next : (a + 1) + n ≡ j = omega (arith, e) in
    ap (λ rest. f a ++ rest) (flat_map_range f (a + 1) n j next) ∙ sym (append_assoc (f a) (flat_map f (range_with_len (a + 1) n)) (f j))

pub rows_of-none : (phase : ℕ) (work : ℕ → List Command) → rows_of phase work 0 ≡ []
unfolding rows_of
rows_of-none phase work = refl

pub rows_of-more : (phase : ℕ) (work : ℕ → List Command) (n : ℕ) → rows_of phase work (n + 1) ≡ rows_of phase work n ++ rows_by phase n (work n)
unfolding rows_of
rows_of-more phase work n =
    let first : 0 + n ≡ n = omega arith in
    ap (λ k. flat_map (λ q. rows_by phase q (work q)) (range_with_len 0 k)) (add-one n) ∙ flat_map_range (λ q. rows_by phase q (work q)) 0 n n first

pub commands-none : (seed : ℕ) → generated_commands seed 0 ≡ []
unfolding generated_commands
commands-none seed = refl

pub commands-first : (seed : ℕ) → generated_commands seed 1 ≡ rows_in seed 0
unfolding generated_commands
commands-first seed = append-nil (rows_in seed 0)

pub commands-more : (seed n : ℕ) → generated_commands seed (n + 1) ≡ generated_commands seed n ++ rows_in seed n
unfolding generated_commands
commands-more seed n =
    let first : 0 + n ≡ n = omega arith in
    ap (λ k. flat_map (rows_in seed) (range_with_len 0 k)) (add-one n) ∙ flat_map_range (rows_in seed) 0 n n first

-- draws
pub state_behind-none : (seed : ℕ) → state_behind seed 0 ≡ seed
unfolding state_behind
state_behind-none seed = refl

pub state_behind-more : (seed n : ℕ) → state_behind seed (n + 1) ≡ next_state (state_behind seed n)
unfolding state_behind
state_behind-more seed n = ap (state_behind seed) (add-one n)

pub state_behind-plus : (seed m n : ℕ) → state_behind seed (m + n) ≡ state_behind (state_behind seed m) n
unfolding state_behind
state_behind-plus seed m zero =
    let none : m + 0 ≡ m = omega arith in
    ap (state_behind seed) none
state_behind-plus seed m (suc n) =
    let more : m + suc n ≡ suc (m + n) = omega arith in
    ap (state_behind seed) more ∙ ap next_state (state_behind-plus seed m n)

pub first_draw : (begin state : ℕ) → state ≡ next_state begin → state ≡ state_behind begin 1
first_draw begin state e = e ∙ (ap next_state (sym (state_behind-none begin)) ∙ sym (state_behind-more begin 0))

-- the two draws of a process
pub draw_offset : (begin q state next : ℕ) → state ≡ state_behind begin (2 * q + 1) → next ≡ next_state state → next ≡ state_behind begin (suc (2 * q + 1))
draw_offset begin q state next at e = e ∙ (ap next_state at ∙ (sym (state_behind-more begin (2 * q + 1)) ∙ ap (state_behind begin) (add-one (2 * q + 1))))

pub draw_number : (begin q next last : ℕ) → next ≡ state_behind begin (suc (2 * q + 1)) → last ≡ next_state next → last ≡ state_behind begin (suc (2 * q + 2))
draw_number begin q next last at e =
    let same : suc (2 * q + 1) ≡ 2 * q + 2 = omega arith in
    e ∙ (ap next_state (at ∙ ap (state_behind begin) same) ∙ (sym (state_behind-more begin (2 * q + 2)) ∙ ap (state_behind begin) (add-one (2 * q + 2))))

pub draws_on : (begin q last : ℕ) → last ≡ state_behind begin (suc (2 * q + 2)) → last ≡ state_behind begin (2 * (q + 1) + 1)
draws_on begin q last at =
    let same : suc (2 * q + 2) ≡ 2 * (q + 1) + 1 = omega arith in
    at ∙ ap (state_behind begin) same

-- one item more is as it should be
pub one_more : (xs : List ℕ) (f : ℕ → ℕ) (q y : ℕ) → q < length xs → ((p : ℕ) → p < q → get_or xs p 0 ≡ f p) → y ≡ f q → (p : ℕ) → p < q + 1 → get_or (set xs q y) p 0 ≡ f p
one_more xs f q y within old new p below = by_test (nat_lt p q) refl where
  by_test : (t : Bool) → nat_lt p q ≡ t → get_or (set xs q y) p 0 ≡ f p
  by_test true e =
      let lt : p < q = search (rules, e) in
      let other : p ≢ q = omega (arith, lt) in
      get_or-set_other xs q p y 0 other ∙ old p lt
  by_test false e =
      let le : q ≤ p = search (rules, e) in
      let same : p ≡ q = omega (arith, le, below) in
      get_or-set_at xs q p y 0 same within ∙ (new ∙ ap f (sym same))

-- a command more leaves the nodes and the objects
pub begun_more : (s : Content) (proc : ProcName) (command : Command) → HasBegun s → HasBegun (with_command s proc command)
begun_more s proc command h = record { nodes = h.nodes; objects = h.objects }

pub one_command : (s : Content) (proc : ProcName) (command : Command) → length (with_command s proc command).commands ≡ length s.commands + 1
one_command s proc command = omega (arith, length-append s.commands (record { proc = proc; phase = s.phases; command = command } ∷ []))

-- five commands, one behind the other
pub five_done : (s t u v w x : Content) (proc : ProcName) (a b c d e : Command) → t ≡ with_command s proc a → u ≡ with_command t proc b → v ≡ with_command u proc c → w ≡ with_command v proc d → x ≡ with_command w proc e
    → x ≡ with_rows s (map (λ y. record { proc = proc; phase = s.phases; command = y }) (a ∷ b ∷ c ∷ d ∷ e ∷ []))
five_done s t u v w x proc a b c d e first second third fourth fifth =
    let to_u : u ≡ with_command (with_command s proc a) proc b = second ∙ ap (λ y. with_command y proc b) first in
    let to_v : v ≡ with_command (with_command (with_command s proc a) proc b) proc c = third ∙ ap (λ y. with_command y proc c) to_u in
    let to_w : w ≡ with_command (with_command (with_command (with_command s proc a) proc b) proc c) proc d = fourth ∙ ap (λ y. with_command y proc d) to_v in
    fifth ∙ (ap (λ y. with_command y proc e) to_w ∙ five_rows s proc a b c d e)

-- a process's commands behind those of the ones before it
pub rows_on : (s t u : Content) (work : ℕ → List Command) (q : ℕ) → t ≡ with_rows s (rows_of s.phases work q) → u ≡ with_rows t (rows_by t.phases q (work q)) → u ≡ with_rows s (rows_of s.phases work (q + 1))
rows_on s t u work q so_far now =
    now ∙ (ap (λ y. with_rows y (rows_by y.phases q (work q))) so_far
    ∙ ap (λ rows. record s { commands = rows }) (append_assoc s.commands (rows_of s.phases work q) (rows_by s.phases q (work q)) ∙ ap (λ rows. s.commands ++ rows) (sym (rows_of-more s.phases work q))))

pub rows_none : (s : Content) (work : ℕ → List Command) → s ≡ with_rows s (rows_of s.phases work 0)
rows_none s work = ap (λ rows. record s { commands = rows }) (sym (ap (λ rows. s.commands ++ rows) (rows_of-none s.phases work) ∙ append-nil s.commands))

-- a node more
pub node_more : (n : ℕ) → with_node (nodes_begun n) (node_name n) 8 ≡ nodes_begun (n + 1)
node_more n =
    let place : 1 + n ≡ n + 1 = omega arith in
    ap (with_nodes (nodes_begun n)) (sym (map-range_with_len_more generated_node 1 n (n + 1) place))
    ∙ ap (λ k. record (nodes_begun (n + 1)) { opening = record (nodes_begun (n + 1)).opening { nodes = k } }) (length-map-range_with_len generated_node 1 (n + 1))

pub nodes_few : (n : ℕ) → length (nodes_begun n).nodes ≡ n
nodes_few n = length-map-range_with_len generated_node 1 n

-- an object more
pub object_more : (i : ℕ) → i < 32 → with_declared (objects_begun i) (object_name i) (declared_at (objects_begun i) (i % 8 + 1) 4) ≡ objects_begun (i + 1)
object_more i below =
    let place : 0 + i ≡ i = omega arith in
    ap (λ u. record (objects_begun i) { opening = with_object (objects_begun i).opening (record { uid = u; kind = File; room = 4 }); objects = (objects_begun i).objects ++ record { var = object_name i; uid = u } ∷ [] }) (object_next i below)
    ∙ (ap (λ list. record (objects_begun i) { opening = record (objects_begun i).opening { objects = list }; objects = (objects_begun i).objects ++ generated_var i ∷ [] }) (sym (map-range_with_len_more generated_object 0 i i place))
    ∙ ap (λ list. record (objects_begun (i + 1)) { objects = list }) (sym (map-range_with_len_more generated_var 0 i i place)))

-- how many commands there are
by_five : (phase q : ℕ) (commands : List Command) → length commands ≡ 5 → length (rows_by phase q commands) ≡ 5
by_five phase q commands five = length-map commands (λ c. record { proc = process_at q; phase = phase; command = c }) ∙ five

rows_length : (phase : ℕ) (work : ℕ → List Command) (n : ℕ) → ((q : ℕ) → length (work q) ≡ 5) → length (rows_of phase work n) ≡ 5 * n
rows_length phase work zero each = ap length (rows_of-none phase work)
rows_length phase work (suc n) each =
    let before = rows_length phase work n each in
    let more = ap length (rows_of-more phase work n) in
    let joined = length-append (rows_of phase work n) (rows_by phase n (work n)) in
    let one = by_five phase n (work n) (each n) in
    ap (λ k. length (rows_of phase work k)) (sym (add-one n)) ∙ omega (arith, before, more, joined, one)

pub rows_few : (s t : Content) (work : ℕ → List Command) (q : ℕ) → ((p : ℕ) → length (work p) ≡ 5) → t ≡ with_rows s (rows_of s.phases work q) → q < 32 → length s.commands + 160 ≤ 20000 → length t.commands + 5 ≤ 20000
rows_few s t work q each is below few =
    let all = ap (λ (c : Content). length c.commands) is ∙ length-append s.commands (rows_of s.phases work q) in
    let rows = rows_length s.phases work q each in
    omega (arith, all, rows, below, few)

work_in-five : (seed phase q : ℕ) → length (work_in seed phase q) ≡ 5
work_in-five seed zero q = refl
work_in-five seed (suc phase) q = refl

commands_length : (seed n : ℕ) → length (generated_commands seed n) ≡ 160 * n
commands_length seed zero = ap length (commands-none seed)
commands_length seed (suc n) =
    let before = commands_length seed n in
    let more = ap length (commands-more seed n) in
    let joined = length-append (generated_commands seed n) (rows_in seed n) in
    let one = rows_length (n + 1) (work_in seed n) 32 (work_in-five seed n) in
    ap (λ k. length (generated_commands seed k)) (sym (add-one n)) ∙ omega (arith, before, more, joined, one)

pub phases_few : (s : Content) (seed n : ℕ) → s.commands ≡ (phases_begun seed n).commands → n < 24 → length s.commands + 160 ≤ 20000
phases_few s seed n is below =
    let all = ap length is ∙ commands_length seed (n + 1) in
    omega (arith, all, below)

-- nodes and objects stay
pub begun_rows : (s t : Content) (rows : List CommandRow) → t ≡ with_rows s rows → HasBegun s → HasBegun t
begun_rows s t rows is h = subst HasBegun (sym is) (record { nodes = h.nodes; objects = h.objects })

-- the first phase, and a phase more
pub phase_first : (seed : ℕ) → with_rows (objects_begun 32) (rows_of 1 (first_work seed) 32) ≡ phases_begun seed 0
phase_first seed =
    let begin : seed ≡ begin_of seed 0 = sym (state_behind-none seed) in
    ap (λ b. record (objects_begun 32) { commands = rows_of 1 (first_work b) 32 }) begin
    ∙ ap (λ rows. record (objects_begun 32) { commands = rows }) (sym (commands-first seed))

later_rows : (seed n : ℕ) → rows_of (n + 1 + 1) (later_work (begin_of seed n) (begin_of seed (n + 1))) 32 ≡ rows_in seed (n + 1)
later_rows seed n =
    ap (λ k. rows_of (n + 1 + 1) (later_work (begin_of seed n) (begin_of seed k)) 32) (add-one n)
    ∙ ap (λ k. rows_of (n + 1 + 1) (work_in seed k) 32) (sym (add-one n))

pub phase_more : (seed n : ℕ) (s t u : Content) (before now : ℕ) → s ≡ phases_begun seed n → t ≡ record s { phases = s.phases + 1 } → u ≡ with_rows t (rows_of t.phases (later_work before now) 32) → before ≡ begin_of seed n → now ≡ begin_of seed (n + 1) → u ≡ phases_begun seed (n + 1)
phase_more seed n s t u before now is begun done last this =
    let begun_at : t ≡ record (phases_begun seed n) { phases = n + 1 + 1 } = begun ∙ ap (λ (c : Content). record c { phases = c.phases + 1 }) is in
    done
    ∙ (ap (λ c. with_rows c (rows_of c.phases (later_work before now) 32)) begun_at
    ∙ (ap (λ b. with_rows (record (phases_begun seed n) { phases = n + 1 + 1 }) (rows_of (n + 1 + 1) (later_work b now) 32)) last
    ∙ (ap (λ b. with_rows (record (phases_begun seed n) { phases = n + 1 + 1 }) (rows_of (n + 1 + 1) (later_work (begin_of seed n) b) 32)) this
    ∙ ap (λ rows. record (objects_begun 32) { phases = n + 1 + 1; commands = rows }) (ap (λ rows. generated_commands seed (n + 1) ++ rows) (later_rows seed n) ∙ sym (commands-more seed (n + 1))))))

-- the draws of the next phase stand behind those of this one
pub begin_more : (seed n state : ℕ) → state ≡ begin_of seed n → state_behind state 65 ≡ begin_of seed (n + 1)
begin_more seed n state at =
    let place : 65 * n + 65 ≡ 65 * (n + 1) = omega arith in
    ap (λ s. state_behind s 65) at ∙ (sym (state_behind-plus seed (65 * n) 65) ∙ ap (state_behind seed) place)
