-- What is so wherever a process reads an object whole in a history. Lists of items have the newest first.
use Rattle.std.specs.Prelude.{◌≡◌, ℕ, List, ◌++◌}
use Rattle.uid_names.specs.Names.{ObjectName, ProcName}
use Rattle.uid_names.specs.Openings.{Start}
use Rattle.dom_history.specs.Histories.{History, Item}
use Rattle.mapped_streams.specs.Streams.{read_all}
use Rattle.mapped_streams.specs.declared.step.StreamResult.TheVariants.{Bytes}
use Rattle.naming_tree.specs.Dialogues.{Ends}
use Rattle.read_laws.specs.Carrying.{CarriesOn, carried}
use Rattle.read_laws.specs.Loads.{LoadsTell, loaded}
use Rattle.read_laws.specs.OnePlace.{AreOfOnePlace}

-- each load tells it bytes of the object, as one store has them at the place of the load
abbrev pub AreReadAsStored : Start → History → Type 0
AreReadAsStored opening h = (p : ProcName) (u : ObjectName) (newer items older : List Item) → h.items ≡ newer ++ (items ++ older) → CarriesOn p (read_all u) items → LoadsTell opening p u older items

-- what it has read in the end is what its loads told, one behind the other
abbrev pub AreReadByLoads : History → Type 0
AreReadByLoads h =
    (p : ProcName) (u : ObjectName) (newer items older : List Item) (bytes : List ℕ) → h.items ≡ newer ++ (items ++ older) → CarriesOn p (read_all u) items → carried p (read_all u) items ≡ Ends (Bytes bytes)
    → loaded p items ≡ bytes

-- all its loads are of one place
abbrev pub AreReadAtOnePlace : Start → History → Type 0
AreReadAtOnePlace opening h = (p : ProcName) (u : ObjectName) (newer items older : List Item) → h.items ≡ newer ++ (items ++ older) → CarriesOn p (read_all u) items → AreOfOnePlace opening p u older items
