-- The script of a seed grows by what a function of the generator declares or adds.
use Rattle.std.proofs.Common.{◌≡◌, ◌≤◌, ◌<◌, ◌+◌, ◌%◌, ℕ, false, List, [], ◌∷◌, length, map, sym, subst, ap, ◌∙◌, arith}
use Rattle.uid_names.specs.Names.{ProcName}
use Rattle.uid_names.specs.declared.limits.TheConstants.{VOLUME_ROOM}
use Rattle.uid_names.specs.declared.mode.Mode.TheVariants.{Write}
use Rattle.script_reader.specs.After.{declared_at, with_command, with_declared, with_node}
use Rattle.script_maker.specs.Generated.{begin_of, eight_digits, first_work, last_offset, later_work, number_of, object_name, object_of, offset_of, process_at, rows_by, rows_of}
use Rattle.script_reader.specs.Limits.{pages_at}
use Rattle.script_reader.specs.NodeNames.{is_node_name}
use Rattle.script_reader.specs.Scripts.{Content}
use Rattle.script_reader.specs.Variables.{is_declared}
use Rattle.script_maker.specs.Walk.Begun.{nodes_begun, objects_begun, phases_begun, with_rows}
use Rattle.script_reader.specs.declared.command.Command.{Command}
use Rattle.script_reader.specs.declared.command.Command.TheVariants.{Lock, Unlock, Load, Store, Length}
use Rattle.script_maker.proofs.Generating.{five_done, node_more, node_name, node_name_new, nodes_few, object_fits, object_more, object_new, phase_first, phases_few, state_behind-none}

-- nodes
pub node_name_free : (s : Content) (n : ℕ) (name : List ℕ) → s ≡ nodes_begun n → name ≡ node_name n → n < 8 → is_node_name s.nodes name ≡ false
node_name_free s n name is named below =
    ap (λ (c : Content). is_node_name c.nodes name) is ∙ (ap (is_node_name (nodes_begun n).nodes) named ∙ node_name_new n below)

pub node_room : (s : Content) (n : ℕ) → s ≡ nodes_begun n → n < 8 → length s.nodes < 8
node_room s n is below =
    let all = ap (λ (c : Content). length c.nodes) is ∙ nodes_few n in
    omega (arith, all, below)

pub node_added : (s t : Content) (n : ℕ) (name : List ℕ) → s ≡ nodes_begun n → name ≡ node_name n → t ≡ with_node s name 8 → t ≡ nodes_begun (n + 1)
node_added s t n name is named added =
    added ∙ (ap (λ c. with_node c name 8) is ∙ (ap (λ x. with_node (nodes_begun n) x 8) named ∙ node_more n))

-- objects
pub object_name_free : (s : Content) (i : ℕ) (name : List ℕ) → s ≡ objects_begun i → name ≡ object_name i → i < 32 → is_declared s.objects name ≡ false
object_name_free s i name is named below =
    ap (λ (c : Content). is_declared c.objects name) is ∙ (ap (is_declared (objects_begun i).objects) named ∙ object_new i below)

pub object_room : (s : Content) (i home : ℕ) → s ≡ objects_begun i → home ≡ i % 8 + 1 → i < 32 → pages_at home s.opening.objects + 4 ≤ VOLUME_ROOM
object_room s i home is at below =
    subst (λ (c : Content). pages_at home c.opening.objects + 4 ≤ VOLUME_ROOM) (sym is) (subst (λ h. pages_at h (objects_begun i).opening.objects + 4 ≤ VOLUME_ROOM) (sym at) (object_fits i below))

pub object_added : (s t : Content) (i home : ℕ) (name : List ℕ) → s ≡ objects_begun i → name ≡ object_name i → home ≡ i % 8 + 1 → t ≡ with_declared s name (declared_at s home 4) → i < 32 → t ≡ objects_begun (i + 1)
object_added s t i home name is named at added below =
    added
    ∙ (ap (λ c. with_declared c name (declared_at c home 4)) is
    ∙ (ap (λ x. with_declared (objects_begun i) x (declared_at (objects_begun i) home 4)) named
    ∙ (ap (λ h. with_declared (objects_begun i) (object_name i) (declared_at (objects_begun i) h 4)) at ∙ object_more i below)))

-- a process's five commands
five_same : (a b c d e f g h i j : Command) → a ≡ f → b ≡ g → c ≡ h → d ≡ i → e ≡ j → a ∷ b ∷ c ∷ d ∷ e ∷ [] ≡ f ∷ g ∷ h ∷ i ∷ j ∷ []
five_same a b c d e f g h i j af bg ch di ej = cc

five_by : (s : Content) (proc : ProcName) (q : ℕ) (some others : List Command) → proc ≡ process_at q → some ≡ others → with_rows s (map (λ y. record { proc = proc; phase = s.phases; command = y }) some) ≡ with_rows s (rows_by s.phases q others)
five_by s proc q some others by same =
    ap (λ p. with_rows s (map (λ y. record { proc = p; phase = s.phases; command = y }) some)) by ∙ ap (λ list. with_rows s (rows_by s.phases q list)) same

stored_at : (command : Command) (object other offset place number digits : ℕ) → command ≡ Store (object_name object) offset (eight_digits number) → object ≡ other → offset ≡ place → number ≡ digits → command ≡ Store (object_name other) place (eight_digits digits)
stored_at command object other offset place number digits is same at says =
    is
    ∙ (ap (λ o. Store (object_name o) offset (eight_digits number)) same
    ∙ (ap (λ f. Store (object_name other) f (eight_digits number)) at ∙ ap (λ n. Store (object_name other) place (eight_digits n)) says))

loaded_at : (command : Command) (object other offset place : ℕ) → command ≡ Load (object_name object) offset 8 → object ≡ other → offset ≡ place → command ≡ Load (object_name other) place 8
loaded_at command object other offset place is same at = is ∙ (ap (λ o. Load (object_name o) offset 8) same ∙ ap (λ f. Load (object_name other) f 8) at)

pub first_done : (s t u v w x : Content) (proc : ProcName) (begin q object offset number : ℕ) (a b c d e : Command)
    → proc ≡ process_at q → object ≡ object_of begin q → offset ≡ offset_of begin q → number ≡ number_of begin q
    → a ≡ Lock (object_name object) Write → b ≡ Store (object_name object) offset (eight_digits number) → c ≡ Load (object_name object) offset 8 → d ≡ Length (object_name object) → e ≡ Unlock (object_name object)
    → t ≡ with_command s proc a → u ≡ with_command t proc b → v ≡ with_command u proc c → w ≡ with_command v proc d → x ≡ with_command w proc e
    → x ≡ with_rows s (rows_by s.phases q (first_work begin q))
first_done s t u v w x proc begin q object offset number a b c d e by on at says locks stores loads length_is unlocks first second third fourth fifth =
    let locked : a ≡ Lock (object_name (object_of begin q)) Write = locks ∙ ap (λ o. Lock (object_name o) Write) on in
    let stored = stored_at b object (object_of begin q) offset (offset_of begin q) number (number_of begin q) stores on at says in
    let loaded = loaded_at c object (object_of begin q) offset (offset_of begin q) loads on at in
    let told : d ≡ Length (object_name (object_of begin q)) = length_is ∙ ap (λ o. Length (object_name o)) on in
    let unlocked : e ≡ Unlock (object_name (object_of begin q)) = unlocks ∙ ap (λ o. Unlock (object_name o)) on in
    five_done s t u v w x proc a b c d e first second third fourth fifth
    ∙ five_by s proc q (a ∷ b ∷ c ∷ d ∷ e ∷ []) (first_work begin q) by (five_same a b c d e _ _ _ _ _ locked stored loaded told unlocked)

pub later_done : (s t u v w x : Content) (proc : ProcName) (before begin q object last offset number : ℕ) (a b c d e : Command)
    → proc ≡ process_at q → object ≡ object_of begin q → last ≡ last_offset before object → offset ≡ offset_of begin q → number ≡ number_of begin q
    → a ≡ Lock (object_name object) Write → b ≡ Load (object_name object) last 8 → c ≡ Store (object_name object) offset (eight_digits number) → d ≡ Load (object_name object) offset 8 → e ≡ Unlock (object_name object)
    → t ≡ with_command s proc a → u ≡ with_command t proc b → v ≡ with_command u proc c → w ≡ with_command v proc d → x ≡ with_command w proc e
    → x ≡ with_rows s (rows_by s.phases q (later_work before begin q))
later_done s t u v w x proc before begin q object last offset number a b c d e by on was at says locks begins stores loads unlocks first second third fourth fifth =
    let locked : a ≡ Lock (object_name (object_of begin q)) Write = locks ∙ ap (λ o. Lock (object_name o) Write) on in
    let begun = loaded_at b object (object_of begin q) last (last_offset before (object_of begin q)) begins on (was ∙ ap (last_offset before) on) in
    let stored = stored_at c object (object_of begin q) offset (offset_of begin q) number (number_of begin q) stores on at says in
    let loaded = loaded_at d object (object_of begin q) offset (offset_of begin q) loads on at in
    let unlocked : e ≡ Unlock (object_name (object_of begin q)) = unlocks ∙ ap (λ o. Unlock (object_name o)) on in
    five_done s t u v w x proc a b c d e first second third fourth fifth
    ∙ five_by s proc q (a ∷ b ∷ c ∷ d ∷ e ∷ []) (later_work before begin q) by (five_same a b c d e _ _ _ _ _ locked begun stored loaded unlocked)

-- phases
pub begin_first : (seed state : ℕ) → state ≡ seed → state ≡ begin_of seed 0
begin_first seed state is = is ∙ sym (state_behind-none seed)

pub phase_begun : (seed : ℕ) (s t : Content) (before : ℕ) → s ≡ objects_begun 32 → before ≡ seed → t ≡ with_rows s (rows_of s.phases (first_work before) 32) → t ≡ phases_begun seed 0
phase_begun seed s t before is at done =
    done
    ∙ (ap (λ c. with_rows c (rows_of c.phases (first_work before) 32)) is
    ∙ (ap (λ b. with_rows (objects_begun 32) (rows_of 1 (first_work b) 32)) at ∙ phase_first seed))

pub later_few : (s t : Content) (seed n : ℕ) → s ≡ phases_begun seed n → t ≡ record s { phases = s.phases + 1 } → n < 24 → length t.commands + 160 ≤ 20000
later_few s t seed n is begun below =
    phases_few t seed n (ap (λ (c : Content). c.commands) begun ∙ ap (λ (c : Content). c.commands) is) below
