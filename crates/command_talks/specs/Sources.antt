-- The source of a copy, as far as it is open.
use Rattle.std.specs.Prelude.{ℕ, Bool, false, Option, List}
use Rattle.uid_names.specs.Names.{ObjectName}
use Rattle.dom_history.specs.declared.op.Op.{Op}
use Rattle.naming_tree.specs.declared.site.Site.{Site}
use Rattle.naming_tree.specs.Entering.{unmap_if}
use Rattle.naming_tree.specs.Sessions.{closers_if}
use Rattle.mapped_streams.specs.declared.mapped.Mapped.{Mapped}
use Rattle.command_talks.specs.declared.check.Subject.{Subject}

-- its object, how it is mapped, and whether it was this copy that mapped it
pub record Sourced : Type 0 where
  pub uid : ObjectName
  pub at : Mapped
  pub fresh : Bool

abbrev pub mapped_at : ℕ → ℕ → Mapped
mapped_at address length = record { address = address; length = length }

-- one of which nothing is known
abbrev pub source_of : ObjectName → Sourced
source_of u = record { uid = u; at = mapped_at 0 0; fresh = false }

-- its length is known
abbrev pub measured : Sourced → ℕ → Sourced
measured s n = record { uid = s.uid; at = mapped_at 0 n; fresh = false }

-- and where it is mapped
abbrev pub mapped : Sourced → ℕ → Bool → Sourced
mapped s address fresh = record { uid = s.uid; at = mapped_at address s.at.length; fresh = fresh }

-- its mapping was undone
abbrev pub unmapped : Sourced → Sourced
unmapped s = record { uid = s.uid; at = s.at; fresh = false }

-- the operations that close it
abbrev pub closers : Sourced → List Op
closers s = closers_if s.fresh s.uid

-- the first of them
abbrev pub close_op : Sourced → Op
close_op s = unmap_if s.fresh s.uid

-- where a copy goes: a path, for whom, and where its names are looked up
pub record Targeted : Type 0 where
  pub guard : Option Subject
  pub site : Site
  pub dir : ObjectName
  pub path : List ℕ
