-- What a script says, and what each script keeps.
use Rattle.std.specs.Prelude.{ℕ, ◌≡◌, ◌≢◌, ◌≤◌, Option, IfSome, unwrap_or, Bool, false, List, [], length, map, All, AllPairs}
use Rattle.uid_names.specs.Names.{IsName, same_proc}
use Rattle.uid_names.specs.NameTexts.{IsNameText}
use Rattle.uid_names.specs.Openings.{Start}
use Rattle.uid_names.specs.Wires.{IsWire, wire_room}
use Rattle.uid_names.specs.declared.opening.Object.{Object}
use Rattle.uid_names.specs.declared.mode.ObjKind.TheVariants.{File}
use Rattle.uid_names.specs.declared.limits.TheConstants.{MAX_NODES, MAX_PHASES}
use Rattle.uid_names.specs.Beginnings.{CanBegin}
use Rattle.dom_history.specs.Plans.{IsPlan}
use Rattle.dom_history.specs.declared.plan.FateRow.{FateRow}
use Rattle.script_reader.specs.Commands.{IsCommandRow}
use Rattle.script_reader.specs.Fates.{IsFateRow}
use Rattle.script_reader.specs.Subjects.{IsSubjectRow}
use Rattle.script_reader.specs.Variables.{AreSpoken}
use Rattle.script_reader.specs.declared.script.NodeRow.{NodeRow}
use Rattle.script_reader.specs.declared.script.VarRow.{VarRow}
use Rattle.script_reader.specs.declared.script.CommandRow.{CommandRow}
use Rattle.script_reader.specs.declared.script.SubjectRow.{SubjectRow}

-- what a script says: its version, if a line says one, its nodes by number, what there is at the start with the variables
-- of those objects, the fates of frames, whether access lists are in force and the subjects of processes, the number of phases,
-- and the commands in script order
pub record Content : Type 0 where
  pub said_wire : Option ℕ
  pub nodes : List NodeRow
  pub opening : Start
  pub objects : List VarRow
  pub plan : List FateRow
  pub access : Bool
  pub subjects : List SubjectRow
  pub phases : ℕ
  pub commands : List CommandRow

-- the version of its frames: 1 where no line says one
abbrev pub wire_of : Content → ℕ
wire_of s = unwrap_or s.said_wire 1

-- a node has a name and 5 to 256 page frames
pub record IsNode (row : NodeRow) : Type 0 where
  pub name : IsNameText row.name
  pub few : 5 ≤ row.frames
  pub many : row.frames ≤ 256

-- a declared object is a file at a node
pub record IsObject (nodes : ℕ) (object : Object) : Type 0 where
  pub name : IsName object.uid
  pub home : object.uid.home ≤ nodes
  pub kind : object.kind ≡ File

-- what the lines of a script declare and ask for, as far as they have come
pub record IsDraft (s : Content) : Type 0 where
  pub wire : IfSome s.said_wire IsWire
  pub few_nodes : length s.nodes ≤ MAX_NODES
  pub nodes : All IsNode s.nodes
  pub names_apart : AllPairs (λ a b. a.name ≢ b.name) s.nodes
  pub opening_nodes : s.opening.nodes ≡ length s.nodes
  pub greatest : s.opening.greatest ≡ wire_room (wire_of s)
  pub files : All (IsObject (length s.nodes)) s.opening.objects
  pub vars : All (λ row. IsNameText row.var) s.objects
  pub vars_apart : AllPairs (λ a b. a.var ≢ b.var) s.objects
  pub vars_of : map (λ row. row.uid) s.objects ≡ map (λ o. o.uid) s.opening.objects
  pub plan : IsPlan s.plan
  pub fates : All (IsFateRow (length s.nodes)) s.plan
  pub subjects : All (IsSubjectRow (length s.nodes)) s.subjects
  pub subjects_apart : AllPairs (λ a b. same_proc a.proc b.proc ≡ false) s.subjects
  pub phase_low : 1 ≤ s.phases
  pub phase_high : s.phases ≤ MAX_PHASES
  pub few_commands : length s.commands ≤ 20000
  pub commands : All (IsCommandRow (length s.nodes) s.phases) s.commands
  pub in_order : AllPairs (λ a b. a.phase ≤ b.phase) s.commands
  pub spoken : AreSpoken s.objects [] s.commands

-- what each script keeps: all of that, at least one node, and an opening with which a store can begin
pub record IsContent (s : Content) : Type 0 where
  pub draft : IsDraft s
  pub some_node : 1 ≤ length s.nodes
  pub begins : CanBegin s.opening
