-- Each kind of line leaves a draft.
use Rattle.std.proofs.Common.{◌≡◌, ◌≢◌, ◌≤◌, ◌<◌, ◌+◌, ℕ, zero, suc, Bool, true, false, List, [], ◌∷◌, ◌++◌, length, get_or, Option, Some, None, refl, ap, sym, subst, ◌∙◌, append-nil, append_assoc, arith, rules}
use Rattle.std.specs.Prelude.{nat_le, nat_lt, is_some, unwrap_or, IfSome, if◌then◌else◌}
use Rattle.std.specs.Prelude.{bytes_eq}
use Rattle.std.specs.List.{AllByRecursion, list_all, list_any, position_or_len}
use Rattle.std.proofs.lemmas.Bool.{false≢true}
use Rattle.std.proofs.lemmas.List.{map-append}
use Rattle.std.proofs.lemmas.List.Elements.{All-push, All-weaker}
use Rattle.std.proofs.lemmas.List.Quantifiers.{all_pairs_push}
use Rattle.std.proofs.lemmas.List.Sums.{AllPass-from_list_all}
use Rattle.uid_names.specs.Names.{ProcName, IsName, same_proc}
use Rattle.uid_names.specs.Wires.{IsWire, wire_room}
use Rattle.uid_names.specs.declared.limits.TheConstants.{MAX_NODES, MAX_PHASES}
use Rattle.uid_names.specs.NameTexts.{IsNameText, is_name_byte}
use Rattle.uid_names.proofs.ListLemmas.{length-push}
use Rattle.dom_history.specs.Plans.{IsPlan}
use Rattle.dom_history.specs.declared.plan.FateRow.{FateRow}
use Rattle.script_reader.specs.Scripts.{Content, wire_of, IsDraft, IsNode, IsObject}
use Rattle.script_reader.specs.Fates.{IsFateRow}
use Rattle.dom_history.specs.Ranges.{IsProcName}
use Rattle.script_reader.specs.Arguments.{Given, Var, NewVar, Room, Offset, Count, Address, Text, Message, Mode, Home, HomeNode, OptionalRoom, Path, OptionalPath}
use Rattle.script_reader.specs.Commands.{IsArgument, IsCommandRow, IsCommand, arguments_of}
use Rattle.script_reader.specs.Variables.{IsSpoken, AreSpoken, is_declared}
use Rattle.script_reader.specs.NodeNames.{is_node_name}
use Rattle.script_reader.specs.After.{declared_at, next_uid, with_access, with_command, with_declared, with_fate, with_node, with_wire, with_subject}
use Rattle.script_reader.specs.Subjects.{IsSubjectRow, has_subject}
use Rattle.script_reader.specs.Words.{is_name}
use Rattle.script_reader.specs.declared.command.Command.{Command}
use Rattle.script_reader.specs.declared.script.NodeRow.{NodeRow}
use Rattle.script_reader.specs.declared.script.VarRow.{VarRow}
use Rattle.script_reader.specs.declared.script.CommandRow.{CommandRow}
use Rattle.script_reader.specs.declared.script.SubjectRow.{SubjectRow}
use Rattle.script_reader.proofs.Decisions.{bytes_eq-refl}

-- what the test of a name decides
pub name_text : (word : List ℕ) → is_name word ≡ true → IsNameText word
name_text word h =
    let parts : (nat_le 1 (length word) ≡ true) × (nat_le (length word) 32 ≡ true) × (list_all is_name_byte word ≡ true) = grind arith in
    record { some = search (rules, parts.0); few = search (rules, parts.1); bytes = AllPass-from_list_all is_name_byte word parts.2 }

-- no row of the nodes has a name that none has
no_place : (p : NodeRow → Bool) (rows : List NodeRow) → nat_lt (position_or_len p rows) (length rows) ≡ false → (k : ℕ) (d : NodeRow) → k < length rows → p (get_or rows k d) ≡ false
no_place p [] h k d below = absurd (omega (arith, below))
no_place p (row ∷ rows) h zero d below = grind arith
no_place p (row ∷ rows) h (suc k) d below =
    let rest : nat_lt (position_or_len p rows) (length rows) ≡ false = grind arith in
    no_place p rows rest k d (omega (arith, below))

not_placed : (t : Bool) (n : ℕ) → is_some (if t then Some n else None) ≡ false → t ≡ false
not_placed true n h = absurd cc
not_placed false n h = refl

-- no node has a name that is none of a node
new_name : (rows : List NodeRow) (name : List ℕ) → is_node_name rows name ≡ false → (k : ℕ) (d : NodeRow) → k < length rows → (get_or rows k d).name ≢ name
new_name rows name h k d below same =
    let no = not_placed (nat_lt (position_or_len (λ row. bytes_eq row.name name) rows) (length rows)) (position_or_len (λ row. bytes_eq row.name name) rows) h in
    false≢true (sym (no_place (λ row. bytes_eq row.name name) rows no k d below) ∙ bytes_eq-refl (get_or rows k d).name name same)

-- no row has what no test finds
none_of : {X : Type 0} (p : X → Bool) (xs : List X) → list_any p xs ≡ false → (k : ℕ) (d : X) → k < length xs → p (get_or xs k d) ≡ false
none_of p [] h k d below = absurd (omega (arith, below))
none_of p (x ∷ xs) h zero d below = grind arith
none_of p (x ∷ xs) h (suc k) d below =
    let rest : list_any p xs ≡ false = grind arith in
    none_of p xs rest k d (omega (arith, below))

-- what holds at a command holds at any more of phases and of nodes
argument_wider : (m n : ℕ) → m ≤ n → (a : Given) → IsArgument m a → IsArgument n a
argument_wider m n le (Var name) h = h
argument_wider m n le (NewVar name) h = h
argument_wider m n le (Room pages) h = h
argument_wider m n le (Offset bytes) h = h
argument_wider m n le (Count bytes) h = h
argument_wider m n le (Address address) h = h
argument_wider m n le (Text text) h = h
argument_wider m n le (Message text) h = h
argument_wider m n le (Mode mode) h = h
argument_wider m n le (Home None) h = h
argument_wider m n le (Home (Some home)) h = (h.0, omega (arith, le, h.1))
argument_wider m n le (HomeNode node) h = (h.0, omega (arith, le, h.1))
argument_wider m n le (OptionalRoom pages) h = h
argument_wider m n le (Path path) h = h
argument_wider m n le (OptionalPath path) h = h

arguments_wider : (m n : ℕ) → m ≤ n → (arguments : List Given) → AllByRecursion (IsArgument m) arguments → AllByRecursion (IsArgument n) arguments
arguments_wider m n le [] h = tt
arguments_wider m n le (a ∷ rest) h = (argument_wider m n le a h.0, arguments_wider m n le rest h.1)

row_wider : (m n p q : ℕ) → m ≤ n → p ≤ q → (row : CommandRow) → IsCommandRow m p row → IsCommandRow n q row
row_wider m n p q nodes phases row h = record {
  proc = h.proc;
  node = omega (arith, h.node);
  phase_low = h.phase_low;
  phase_high = omega (arith, h.phase_high);
  command = arguments_wider m n nodes (arguments_of row.command) h.command;
}

-- a node more
pub IsDraft-node : (s : Content) (name : List ℕ) (frames : ℕ) → IsDraft s → is_name name ≡ true → 5 ≤ frames → frames ≤ 256 → is_node_name s.nodes name ≡ false → length s.nodes < MAX_NODES → IsDraft (with_node s name frames)
IsDraft-node s name frames h named few many new room =
    let more = length-push s.nodes (record { name = name; frames = frames }) in
    let wide : length s.nodes ≤ length (s.nodes ++ record { name = name; frames = frames } ∷ []) = omega (arith, more) in record {
      wire = h.wire;
      few_nodes = omega (arith, more);
      nodes = All-push IsNode s.nodes (record { name = name; frames = frames }) h.nodes (record { name = name_text name named; few = few; many = many });
      names_apart = all_pairs_push (λ a b. a.name ≢ b.name) s.nodes (record { name = name; frames = frames }) h.names_apart (new_name s.nodes name new);
      opening_nodes = refl;
      greatest = h.greatest;
      files = All-weaker (IsObject (length s.nodes)) (IsObject (length (s.nodes ++ record { name = name; frames = frames } ∷ []))) (λ o is. record { name = is.name; home = omega (arith, is.home, wide); kind = is.kind }) s.opening.objects h.files;
      vars = h.vars;
      vars_apart = h.vars_apart;
      vars_of = h.vars_of;
      plan = h.plan;
      fates = All-weaker (IsFateRow (length s.nodes)) (IsFateRow (length (s.nodes ++ record { name = name; frames = frames } ∷ []))) (λ row is. record { from = omega (arith, is.from, wide); to = omega (arith, is.to, wide); index_low = is.index_low; index_high = is.index_high; fate = is.fate }) s.plan h.fates;
      subjects = All-weaker (IsSubjectRow (length s.nodes)) (IsSubjectRow (length (s.nodes ++ record { name = name; frames = frames } ∷ []))) (λ row is. record { proc = is.proc; node = omega (arith, is.node, wide); person = is.person; project = is.project }) s.subjects h.subjects;
      subjects_apart = h.subjects_apart;
      phase_low = h.phase_low;
      phase_high = h.phase_high;
      few_commands = h.few_commands;
      commands = All-weaker (IsCommandRow (length s.nodes) s.phases) (IsCommandRow (length (s.nodes ++ record { name = name; frames = frames } ∷ [])) s.phases) (row_wider (length s.nodes) (length (s.nodes ++ record { name = name; frames = frames } ∷ [])) s.phases s.phases wide (omega arith)) s.commands h.commands;
      in_order = h.in_order;
      spoken = h.spoken;
    }

-- the version of a draft is one
said-wire : (o : Option ℕ) → IfSome o IsWire → IsWire (unwrap_or o 1)
said-wire None is = (omega arith, omega arith)
said-wire (Some wire) is = is

pub IsWire-of : (s : Content) → IsDraft s → IsWire (wire_of s)
IsWire-of s is = said-wire s.said_wire is.wire

-- and can write the greatest room
pub written-of : (s : Content) → IsDraft s → s.opening.greatest ≤ wire_room (wire_of s)
written-of s is = let greatest = is.greatest in omega (arith, greatest)

-- a version, where none was said
pub IsDraft-wire : (s : Content) (wire : ℕ) → IsDraft s → IsWire wire → IsDraft (with_wire s wire)
IsDraft-wire s wire h is = record {
  wire = is;
  few_nodes = h.few_nodes;
  nodes = h.nodes;
  names_apart = h.names_apart;
  opening_nodes = h.opening_nodes;
  greatest = refl;
  files = h.files;
  vars = h.vars;
  vars_apart = h.vars_apart;
  vars_of = h.vars_of;
  plan = h.plan;
  fates = h.fates;
  subjects = h.subjects;
  subjects_apart = h.subjects_apart;
  phase_low = h.phase_low;
  phase_high = h.phase_high;
  few_commands = h.few_commands;
  commands = h.commands;
  in_order = h.in_order;
  spoken = h.spoken;
}

-- a phase more
pub IsDraft-phase : (s : Content) → IsDraft s → s.phases < MAX_PHASES → IsDraft (record s { phases = s.phases + 1 })
IsDraft-phase s h room = record {
  wire = h.wire;
  few_nodes = h.few_nodes;
  nodes = h.nodes;
  names_apart = h.names_apart;
  opening_nodes = h.opening_nodes;
  greatest = h.greatest;
  files = h.files;
  vars = h.vars;
  vars_apart = h.vars_apart;
  vars_of = h.vars_of;
  plan = h.plan;
  fates = h.fates;
  subjects = h.subjects;
  subjects_apart = h.subjects_apart;
  phase_low = omega arith;
  phase_high = omega arith;
  few_commands = h.few_commands;
  commands = All-weaker (IsCommandRow (length s.nodes) s.phases) (IsCommandRow (length s.nodes) (s.phases + 1)) (row_wider (length s.nodes) (length s.nodes) s.phases (s.phases + 1) (omega arith) (omega arith)) s.commands h.commands;
  in_order = h.in_order;
  spoken = h.spoken;
}

-- an object more
pub IsDraft-object : (s : Content) (var : List ℕ) (home room : ℕ) → IsDraft s → is_name var ≡ true → IsName (next_uid s.opening.objects home) → home ≤ length s.nodes → is_declared s.objects var ≡ false → s.commands ≡ [] → IsDraft (with_declared s var (declared_at s home room))
IsDraft-object s var home room h named is at new none =
    let object = declared_at s home room in record {
      wire = h.wire;
      few_nodes = h.few_nodes;
      nodes = h.nodes;
      names_apart = h.names_apart;
      opening_nodes = h.opening_nodes;
      greatest = h.greatest;
      files = All-push (IsObject (length s.nodes)) s.opening.objects object h.files (record { name = is; home = at; kind = refl });
      vars = All-push (λ row. IsNameText row.var) s.objects (record { var = var; uid = object.uid }) h.vars (name_text var named);
      vars_apart = all_pairs_push (λ a b. a.var ≢ b.var) s.objects (record { var = var; uid = object.uid }) h.vars_apart (λ k d below same. false≢true (sym (none_of (λ row. bytes_eq row.var var) s.objects new k d below) ∙ bytes_eq-refl (get_or s.objects k d).var var same));
      vars_of = map-append (λ row. row.uid) s.objects (record { var = var; uid = object.uid } ∷ []) ∙ (ap (λ uids. uids ++ object.uid ∷ []) h.vars_of ∙ sym (map-append (λ o. o.uid) s.opening.objects (object ∷ [])));
      plan = h.plan;
      fates = h.fates;
      subjects = h.subjects;
      subjects_apart = h.subjects_apart;
      phase_low = h.phase_low;
      phase_high = h.phase_high;
      few_commands = h.few_commands;
      commands = h.commands;
      in_order = h.in_order;
      spoken = rw none tt;
    }

-- a fate more
pub IsDraft-fate : (s : Content) (row : FateRow) → IsDraft s → IsPlan (s.plan ++ row ∷ []) → IsFateRow (length s.nodes) row → IsDraft (with_fate s row.from row.to row.index row.fate)
IsDraft-fate s row h plan is = record {
  wire = h.wire;
  few_nodes = h.few_nodes;
  nodes = h.nodes;
  names_apart = h.names_apart;
  opening_nodes = h.opening_nodes;
  greatest = h.greatest;
  files = h.files;
  vars = h.vars;
  vars_apart = h.vars_apart;
  vars_of = h.vars_of;
  plan = plan;
  fates = All-push (IsFateRow (length s.nodes)) s.plan row h.fates is;
  subjects = h.subjects;
  subjects_apart = h.subjects_apart;
  phase_low = h.phase_low;
  phase_high = h.phase_high;
  few_commands = h.few_commands;
  commands = h.commands;
  in_order = h.in_order;
  spoken = h.spoken;
}

-- access lists in force
pub IsDraft-access : (s : Content) → IsDraft s → IsDraft (with_access s)
IsDraft-access s h = record {
  wire = h.wire;
  few_nodes = h.few_nodes;
  nodes = h.nodes;
  names_apart = h.names_apart;
  opening_nodes = h.opening_nodes;
  greatest = h.greatest;
  files = h.files;
  vars = h.vars;
  vars_apart = h.vars_apart;
  vars_of = h.vars_of;
  plan = h.plan;
  fates = h.fates;
  subjects = h.subjects;
  subjects_apart = h.subjects_apart;
  phase_low = h.phase_low;
  phase_high = h.phase_high;
  few_commands = h.few_commands;
  commands = h.commands;
  in_order = h.in_order;
  spoken = h.spoken;
}

-- the subject of a process more
pub IsDraft-subject : (s : Content) (row : SubjectRow) → IsDraft s → IsSubjectRow (length s.nodes) row → has_subject s.subjects row.proc ≡ false → IsDraft (with_subject s row.proc row.person row.project)
IsDraft-subject s row h is new = record {
  wire = h.wire;
  few_nodes = h.few_nodes;
  nodes = h.nodes;
  names_apart = h.names_apart;
  opening_nodes = h.opening_nodes;
  greatest = h.greatest;
  files = h.files;
  vars = h.vars;
  vars_apart = h.vars_apart;
  vars_of = h.vars_of;
  plan = h.plan;
  fates = h.fates;
  subjects = All-push (IsSubjectRow (length s.nodes)) s.subjects row h.subjects is;
  subjects_apart = all_pairs_push (λ a b. same_proc a.proc b.proc ≡ false) s.subjects row h.subjects_apart (none_of (λ other. same_proc other.proc row.proc) s.subjects new);
  phase_low = h.phase_low;
  phase_high = h.phase_high;
  few_commands = h.few_commands;
  commands = h.commands;
  in_order = h.in_order;
  spoken = h.spoken;
}

-- a command more speaks of what is known
AreSpoken-push : (objects : List VarRow) (before done : List CommandRow) (row : CommandRow) → AreSpoken objects before done → IsSpoken objects (before ++ done) row.proc row.command → AreSpoken objects before (done ++ row ∷ [])
AreSpoken-push objects before [] row h spoken = (subst (λ rows. IsSpoken objects rows row.proc row.command) (append-nil before) spoken, tt)
AreSpoken-push objects before (x ∷ done) row h spoken = (h.0, AreSpoken-push objects (before ++ x ∷ []) done row h.1 (subst (λ rows. IsSpoken objects rows row.proc row.command) (sym (append_assoc before (x ∷ []) done)) spoken))

pub IsDraft-command : (s : Content) (proc : ProcName) (command : Command) → IsDraft s → IsProcName proc → proc.node ≤ length s.nodes → IsCommand (length s.nodes) command → IsSpoken s.objects s.commands proc command → length s.commands < 20000 → IsDraft (with_command s proc command)
IsDraft-command s proc command h is node range spoken room =
    let row : CommandRow = record { proc = proc; phase = s.phases; command = command } in
    let more = length-push s.commands row in record {
      wire = h.wire;
      few_nodes = h.few_nodes;
      nodes = h.nodes;
      names_apart = h.names_apart;
      opening_nodes = h.opening_nodes;
      greatest = h.greatest;
      files = h.files;
      vars = h.vars;
      vars_apart = h.vars_apart;
      vars_of = h.vars_of;
      plan = h.plan;
      fates = h.fates;
      subjects = h.subjects;
      subjects_apart = h.subjects_apart;
      phase_low = h.phase_low;
      phase_high = h.phase_high;
      few_commands = omega (arith, more);
      commands = All-push (IsCommandRow (length s.nodes) s.phases) s.commands row h.commands (record { proc = is; node = node; phase_low = h.phase_low; phase_high = omega arith; command = range });
      in_order = all_pairs_push (λ a b. a.phase ≤ b.phase) s.commands row h.in_order (λ k d below. (h.commands k d below).phase_high);
      spoken = AreSpoken-push s.objects [] s.commands row h.spoken spoken;
    }
