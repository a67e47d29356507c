-- Loads that tell what one store has at one place. Lists of items have the newest first.
use Rattle.std.specs.Prelude.{◌≡◌, ℕ, true, Some, List, [], ◌∷◌, ◌++◌}
use Rattle.uid_names.specs.Names.{ObjectName, ProcName, same_proc}
use Rattle.uid_names.specs.Openings.{Start}
use Rattle.dom_history.specs.declared.op.Op.TheVariants.{Load}
use Rattle.dom_history.specs.declared.op.Reply.TheVariants.{Bytes}
use Rattle.dom_history.specs.declared.op.Spot.{Spot}
use Rattle.dom_history.specs.Bytes.{bytes_from}
use Rattle.dom_history.specs.Histories.{Acted, Answered, Item}
use Rattle.dom_history.specs.Mappings.{target}
use Rattle.dom_history.specs.StoreEffects.{StoreEffect}
use Rattle.read_laws.specs.Loads.{done}

-- a spot of the process names an offset of the object, and these are n bytes of it as one store has them at that place
pub record IsLoadAt (opening : Start) (p : ProcName) (u : ObjectName) (place past : List StoreEffect) (spot : Spot) (n : ℕ) (bytes : List ℕ) : Type 0 where
  pub offset : ℕ
  pub named : target opening past p spot ≡ Some (record { uid = u; offset = offset })
  pub are : bytes ≡ bytes_from opening place u offset n

-- a load of the process that was answered with bytes told these
abbrev pub LoadTellsAt : Start → ProcName → ObjectName → List StoreEffect → List Item → Item → Type 0
LoadTellsAt opening p u place past (Answered e) = same_proc e.proc p ≡ true → (spot : Spot) (n : ℕ) (bytes : List ℕ) → e.op ≡ Load spot n → e.reply ≡ Bytes bytes → IsLoadAt opening p u place (done past) spot n bytes
LoadTellsAt opening p u place past (Acted a) = Unit {0}

-- so did each one among these items, which stand behind older ones
abbrev pub LoadsTellAt : Start → ProcName → ObjectName → List StoreEffect → List Item → List Item → Type 0
LoadsTellAt opening p u place older [] = Unit {0}
LoadsTellAt opening p u place older (i ∷ items) = LoadTellsAt opening p u place (items ++ older) i × LoadsTellAt opening p u place older items

-- all of them are of one place among these items
pub record AreOfOnePlace (opening : Start) (p : ProcName) (u : ObjectName) (older items : List Item) : Type 0 where
  pub later : List Item
  pub now : List Item
  pub split : items ≡ later ++ now
  pub tell : LoadsTellAt opening p u (done (now ++ older)) older items
