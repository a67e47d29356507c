-- What a draft holds beside its content, so that no test goes over all rows.
use Rattle.std.specs.Prelude.{ℕ, ◌≡◌, ◌-◌, ◌≤◌, unwrap_or, List, length, slice_index}
use Rattle.uid_names.specs.declared.limits.TheConstants.{MAX_NODES}
use Rattle.uid_names.specs.Wires.{wire_room}
use Rattle.uid_names.specs.declared.opening.Object.{Object}
use Rattle.uid_names.specs.Beginnings.{at_home}
use Rattle.script_reader.specs.Walk.Index.{HoldsDeclared}
use Rattle.script_reader.specs.Walk.Named.{HoldsNamed}
use Rattle.script_reader.specs.Walk.Starts.{AreStarts}
use Rattle.script_reader.specs.Limits.{pages_at}
use Rattle.script_reader.specs.Scripts.{Content, IsDraft}
use Rattle.script_reader.specs.declared.draft.Draft.TheInside.{Inside}

-- the content that a draft has come to
abbrev pub content_of : Inside → Content
content_of d = record {
  said_wire = d.said_wire;
  nodes = d.nodes.items;
  opening = record { nodes = length d.nodes.items; greatest = wire_room (unwrap_or d.said_wire 1); objects = d.starts.items };
  objects = d.objects.items;
  plan = d.plan;
  access = d.access;
  subjects = d.subjects.items;
  phases = d.phases;
  commands = d.commands.items;
}

-- how many objects are declared at each home, and how many pages they take with the entry directory
pub record HoldsTallies (counts pages : List ℕ) (starts : List Object) : Type 0 where
  pub homes_counted : length counts ≡ MAX_NODES
  pub homes_paged : length pages ≡ MAX_NODES
  pub counts_are : (home : ℕ) → 1 ≤ home → home ≤ MAX_NODES → slice_index counts (home - 1) ≡ length (at_home home starts)
  pub pages_are : (home : ℕ) → 1 ≤ home → home ≤ MAX_NODES → slice_index pages (home - 1) ≡ pages_at home starts

pub record HoldsDraft (d : Inside) : Type 0 where
  pub draft : IsDraft (content_of d)
  pub starts : AreStarts (length d.nodes.items) (wire_room (unwrap_or d.said_wire 1)) d.starts.items
  pub declared : HoldsDeclared d.declared d.objects.items
  pub named : HoldsNamed d.named d.commands.items
  pub tallies : HoldsTallies d.counts d.pages d.starts.items
