-- What a script holds beside its content, so that nobody goes over all rows.
use Rattle.std.specs.Prelude.{ℕ, Bool, Option, List}
use Rattle.uid_names.specs.Openings.{Start}
use Rattle.dom_history.specs.declared.plan.FateRow.{FateRow}
use Rattle.script_reader.specs.Scripts.{Content, IsContent}
use Rattle.script_reader.specs.Walk.Index.{HoldsDeclared}
use Rattle.script_reader.specs.Walk.Placed.{HoldsPlaces}
use Rattle.script_reader.specs.declared.script.Script.TheInside.{Inside}
use Rattle.script_reader.specs.declared.script.NodeRow.{NodeRow}
use Rattle.script_reader.specs.declared.script.VarRow.{VarRow}
use Rattle.script_reader.specs.declared.script.CommandRow.{CommandRow}
use Rattle.script_reader.specs.declared.script.SubjectRow.{SubjectRow}

-- the content of these parts
abbrev pub content_made : Option ℕ → List NodeRow → Start → List VarRow → List FateRow → Bool → List SubjectRow → ℕ → List CommandRow → Content
content_made said_wire nodes opening objects plan access subjects phases commands = record {
  said_wire = said_wire;
  nodes = nodes;
  opening = opening;
  objects = objects;
  plan = plan;
  access = access;
  subjects = subjects;
  phases = phases;
  commands = commands;
}

-- the content of a script
abbrev pub content_within : Inside → Content
content_within s = record { said_wire = s.said_wire; nodes = s.nodes.items; opening = s.opening; objects = s.objects.items; plan = s.plan; access = s.access; subjects = s.subjects.items; phases = s.phases; commands = s.commands.items }

pub record HoldsScript (s : Inside) : Type 0 where
  pub content : IsContent (content_within s)
  pub declared : HoldsDeclared s.declared s.objects.items
  pub places : HoldsPlaces s.places s.commands.items
