-- A draft's fields after each kind of line: what they hold, and the content that they come to.
use Rattle.std.proofs.Common.{◌≡◌, ◌≤◌, ◌<◌, ◌+◌, ◌-◌, ℕ, true, false, List, [], ◌∷◌, ◌++◌, length, length-append, get_or, set, Some, None, ap, sym, subst, ◌∙◌, arith}
use Rattle.std.specs.Prelude.{unwrap_or}
use Rattle.std.specs.Global.{Vec}
use Rattle.uid_names.specs.Names.{IsName, ObjectName, ProcName}
use Rattle.uid_names.specs.Wires.{IsWire, wire_room}
use Rattle.uid_names.proofs.Wires.{wire_room-least, first-writes}
use Rattle.uid_names.specs.declared.limits.TheConstants.{FIRST_ROOM, MAX_NODES, MAX_PHASES, VOLUME_ROOM}
use Rattle.uid_names.specs.Rooms.{IsRoom}
use Rattle.uid_names.specs.declared.mode.ObjKind.TheVariants.{File}
use Rattle.uid_names.specs.declared.opening.Object.{Object}
use Rattle.uid_names.specs.Beginnings.{at_home}
use Rattle.dom_history.specs.Plans.{IsPlan}
use Rattle.dom_history.specs.declared.plan.FateRow.{FateRow}
use Rattle.script_reader.specs.Walk.Drafts.{content_of, HoldsDraft}
use Rattle.script_reader.specs.Walk.Named.{HoldsNamed}
use Rattle.script_reader.specs.Walk.Index.{DeclaresAlso}
use Rattle.script_reader.specs.NodeNames.{is_node_name}
use Rattle.script_reader.specs.Limits.{pages_at}
use Rattle.script_reader.specs.After.{declared_at, next_uid, with_node, with_nodes}
use Rattle.dom_history.specs.Ranges.{IsProcName}
use Rattle.script_reader.specs.Commands.{IsCommand}
use Rattle.script_reader.specs.Scripts.{IsDraft}
use Rattle.script_reader.specs.Fates.{IsFateRow}
use Rattle.script_reader.specs.Variables.{IsSpoken, is_declared}
use Rattle.script_reader.specs.Words.{is_name}
use Rattle.script_reader.specs.declared.command.Command.{Command}
use Rattle.script_reader.specs.declared.draft.Draft.TheInside.{Inside}
use Rattle.script_reader.specs.declared.script.NodeRow.{NodeRow}
use Rattle.script_reader.specs.declared.script.VarRow.{VarRow}
use Rattle.script_reader.specs.declared.script.CommandRow.{CommandRow}
use Rattle.script_reader.specs.Subjects.{IsSubjectRow, has_subject}
use Rattle.script_reader.specs.declared.script.SubjectRow.{SubjectRow}
use Rattle.script_reader.proofs.Kept.{IsDraft-wire, IsDraft-node, IsDraft-phase, IsDraft-object, IsDraft-fate, IsDraft-access, IsDraft-subject, IsDraft-command}
use Rattle.script_reader.proofs.Held.{AreStarts-push, AreStarts-wider, HoldsTallies-push, few_objects}
use Rattle.script_reader.proofs.Declaring.{HoldsDeclared-push}

-- the greatest room that a draft's version can write
abbrev pub greatest_of : Inside → ℕ
greatest_of d = wire_room (unwrap_or d.said_wire 1)

-- a node more
pub content-node : (d : Inside) (nodes : Vec NodeRow) (name : List ℕ) (frames : ℕ) → nodes.items ≡ d.nodes.items ++ record { name = name; frames = frames } ∷ [] → content_of (record d { nodes = nodes }) ≡ with_node (content_of d) name frames
content-node d nodes name frames e = ap (with_nodes (content_of d)) e

pub held-node : (d : Inside) (nodes : Vec NodeRow) (name : List ℕ) (frames : ℕ) → HoldsDraft d → nodes.items ≡ d.nodes.items ++ record { name = name; frames = frames } ∷ []
    → is_name name ≡ true → 5 ≤ frames → frames ≤ 256 → is_node_name d.nodes.items name ≡ false → length d.nodes.items < MAX_NODES → HoldsDraft (record d { nodes = nodes })
held-node d nodes name frames h e named few many new room =
    let more : length nodes.items ≡ length (d.nodes.items ++ record { name = name; frames = frames } ∷ []) = ap length e in
    let wide : length d.nodes.items ≤ length nodes.items = omega (arith, more, length-append d.nodes.items (record { name = name; frames = frames } ∷ [])) in record {
      draft = subst IsDraft (sym (content-node d nodes name frames e)) (IsDraft-node (content_of d) name frames h.draft named few many new room);
      starts = AreStarts-wider (length d.nodes.items) (length nodes.items) (greatest_of d) (greatest_of d) d.starts.items wide (omega arith) h.starts;
      declared = h.declared;
      named = h.named;
      tallies = h.tallies;
    }

-- a version, where none was said
pub held-wire : (d : Inside) (wire : ℕ) → HoldsDraft d → d.said_wire ≡ None → IsWire wire → HoldsDraft (record d { said_wire = Some wire })
held-wire d wire h none is =
    let first : greatest_of d ≡ FIRST_ROOM = ap (λ o. wire_room (unwrap_or o 1)) none ∙ first-writes in
    let least = wire_room-least wire in record {
      draft = IsDraft-wire (content_of d) wire h.draft is;
      starts = AreStarts-wider (length d.nodes.items) (length d.nodes.items) (greatest_of d) (wire_room wire) d.starts.items (omega arith) (omega (arith, first, least)) h.starts;
      declared = h.declared;
      named = h.named;
      tallies = h.tallies;
    }

-- a phase more
pub held-phase : (d : Inside) → HoldsDraft d → d.phases < MAX_PHASES → HoldsDraft (record d { phases = d.phases + 1 })
held-phase d h room = record { draft = IsDraft-phase (content_of d) h.draft room; starts = h.starts; declared = h.declared; named = h.named; tallies = h.tallies }

-- a fate more
pub held-fate : (d : Inside) (plan : List FateRow) (row : FateRow) → HoldsDraft d → plan ≡ d.plan ++ row ∷ [] → IsPlan plan → IsFateRow (length d.nodes.items) row → HoldsDraft (record d { plan = plan })
held-fate d plan row h e is fate = record {
  draft = rw e (IsDraft-fate (content_of d) row h.draft (subst IsPlan e is) fate);
  starts = h.starts;
  declared = h.declared;
  named = h.named;
  tallies = h.tallies;
}

-- access lists in force
pub held-access : (d : Inside) → HoldsDraft d → HoldsDraft (record d { access = true })
held-access d h = record { draft = IsDraft-access (content_of d) h.draft; starts = h.starts; declared = h.declared; named = h.named; tallies = h.tallies }

-- the subject of a process more
pub held-subject : (d : Inside) (subjects : Vec SubjectRow) (row : SubjectRow) → HoldsDraft d → subjects.items ≡ d.subjects.items ++ row ∷ [] → IsSubjectRow (length d.nodes.items) row → has_subject d.subjects.items row.proc ≡ false
    → HoldsDraft (record d { subjects = subjects })
held-subject d subjects row h e is new = record {
  draft = rw e (IsDraft-subject (content_of d) row h.draft is new);
  starts = h.starts;
  declared = h.declared;
  named = h.named;
  tallies = h.tallies;
}

-- the fields with an object more
abbrev pub with_object_fields : Inside → Vec Object → Vec VarRow → List (List VarRow) → ℕ → ℕ → Inside
with_object_fields d starts objects declared at room = record d {
  starts = starts;
  objects = objects;
  declared = declared;
  counts = set d.counts at (get_or d.counts at 0 + 1);
  pages = set d.pages at (get_or d.pages at 0 + room);
}

-- a command more
pub held-command : (d : Inside) (commands : Vec CommandRow) (sets : List (List (List ℕ))) (proc : ProcName) (command : Command) → HoldsDraft d → commands.items ≡ d.commands.items ++ record { proc = proc; phase = d.phases; command = command } ∷ []
    → HoldsNamed sets (d.commands.items ++ record { proc = proc; phase = d.phases; command = command } ∷ []) → IsProcName proc → proc.node ≤ length d.nodes.items → IsCommand (length d.nodes.items) command
    → IsSpoken d.objects.items d.commands.items proc command → length d.commands.items < 20000 → HoldsDraft (record d { commands = commands; named = sets })
held-command d commands sets proc command h e named is node range spoken room = record {
  draft = rw e (IsDraft-command (content_of d) proc command h.draft is node range spoken room);
  starts = h.starts;
  declared = h.declared;
  named = rw e named;
  tallies = h.tallies;
}

-- an object more
pub held-object : (d : Inside) (starts : Vec Object) (objects : Vec VarRow) (declared : List (List VarRow)) (var : List ℕ) (home room at : ℕ) (uid : ObjectName) → HoldsDraft d → uid ≡ next_uid d.starts.items home → IsName uid
    → starts.items ≡ d.starts.items ++ record { uid = uid; kind = File; room = room } ∷ [] → objects.items ≡ d.objects.items ++ record { var = var; uid = uid } ∷ [] → DeclaresAlso d.declared declared var uid
    → is_name var ≡ true → 1 ≤ home → home ≤ length d.nodes.items → at ≡ home - 1 → IsRoom room → room ≤ greatest_of d → is_declared d.objects.items var ≡ false → d.commands.items ≡ [] → pages_at home d.starts.items + room ≤ VOLUME_ROOM
    → HoldsDraft (with_object_fields d starts objects declared at room)
held-object d starts objects declared var home room at uid h u is es' eo' also named least most place range low new none fits =
    let few = h.draft.few_nodes in
    let es : starts.items ≡ d.starts.items ++ declared_at (content_of d) home room ∷ [] = es' ∙ ap (λ x. d.starts.items ++ record { uid = x; kind = File; room = room } ∷ []) u in
    let eo : objects.items ≡ d.objects.items ++ record { var = var; uid = next_uid d.starts.items home } ∷ [] = eo' ∙ ap (λ x. d.objects.items ++ record { var = var; uid = x } ∷ []) u in record {
      draft = rw (es, eo) (IsDraft-object (content_of d) var home room h.draft named (subst IsName u is) most new none);
      starts = rw es (AreStarts-push (length d.nodes.items) (greatest_of d) d.starts.items home room h.starts most range.0 low fits);
      declared = rw eo (HoldsDeclared-push d.declared declared d.objects.items (record { var = var; uid = next_uid d.starts.items home }) h.declared (subst (DeclaresAlso d.declared declared var) u also) new);
      named = h.named;
      tallies = rw es (HoldsTallies-push d.counts d.pages d.starts.items (declared_at (content_of d) home room) at h.tallies least (omega (arith, most, few)) place);
    }

-- what is noted of a home
pub count_is : (d : Inside) (home at : ℕ) → HoldsDraft d → 1 ≤ home → home ≤ MAX_NODES → at ≡ home - 1 → get_or d.counts at 0 ≡ length (at_home home d.starts.items)
count_is d home at h least most place = ap (λ k. get_or d.counts k 0) place ∙ h.tallies.counts_are home least most

pub pages_is : (d : Inside) (home at : ℕ) → HoldsDraft d → 1 ≤ home → home ≤ MAX_NODES → at ≡ home - 1 → get_or d.pages at 0 ≡ pages_at home d.starts.items
pages_is d home at h least most place = ap (λ k. get_or d.pages k 0) place ∙ h.tallies.pages_are home least most

pub count_small : (d : Inside) (home at : ℕ) → HoldsDraft d → 1 ≤ home → home ≤ MAX_NODES → at ≡ home - 1 → get_or d.counts at 0 ≤ VOLUME_ROOM
count_small d home at h least most place =
    let e = count_is d home at h least most place in
    let few = few_objects (length d.nodes.items) (greatest_of d) d.starts.items home h.starts.declarable in
    let volume = h.starts.volume home in
    omega (arith, e, few, volume)
