-- How a home begins.
use Rattle.std.specs.Prelude.{ℕ, ◌+◌, List, ◌∷◌, length, map}
use Rattle.uid_names.specs.Beginnings.{entry_directory}
use Rattle.uid_names.specs.declared.opening.Object.{Object}
use Rattle.page_store.specs.Volumes.{no_pages}
use Rattle.object_store.specs.declared.attributes.ObjectRow.{ObjectRow}
use Rattle.object_store.specs.Objects.{fresh}
use Rattle.object_store.specs.HomeStates.{HomeState}

-- an object that is there from the start
abbrev pub opened : Object → ObjectRow
opened o = record { counter = o.uid.counter; attr = fresh o.kind o.room }

-- the rows of a node at the start: its entry directory, and the objects of the opening there
abbrev pub first_rows : ℕ → List Object → List ObjectRow
first_rows node own = map opened (entry_directory node ∷ own)

-- the home of a node at the start
abbrev pub first_home : ℕ → List Object → HomeState
first_home node own = record { node = node; objects = first_rows node own; greatest = length own + 1; pages = no_pages }
