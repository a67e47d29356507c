-- What loads tell a process, and that it is what one store has. Lists of items have the newest first.
use Rattle.std.specs.Prelude.{◌≡◌, ◌≤◌, ◌+◌, ℕ, Bool, true, Some, List, [], ◌∷◌, ◌++◌}
use Rattle.uid_names.specs.Names.{ObjectName, ProcName, same_proc}
use Rattle.uid_names.specs.Openings.{Start}
use Rattle.dom_history.specs.declared.op.Op.{Op}
use Rattle.dom_history.specs.declared.op.Op.TheVariants.{Load}
use Rattle.dom_history.specs.declared.op.Reply.{Reply}
use Rattle.dom_history.specs.declared.op.Reply.TheVariants.{Bytes}
use Rattle.dom_history.specs.declared.op.Spot.{Spot}
use Rattle.dom_history.specs.Bytes.{bytes_from, length_of}
use Rattle.dom_history.specs.Histories.{Acted, Answered, Item, deeds}
use Rattle.dom_history.specs.Mappings.{target}
use Rattle.dom_history.specs.StoreEffects.{StoreEffect, store_effects}

-- what was done before a place, by the items behind it
abbrev pub done : List Item → List StoreEffect
done items = store_effects (deeds items)

-- a spot of the process names n bytes of the object, and these are they, as one store has them behind such effects
pub record IsLoadOf (opening : Start) (p : ProcName) (u : ObjectName) (past : List StoreEffect) (spot : Spot) (n : ℕ) (bytes : List ℕ) : Type 0 where
  pub offset : ℕ
  pub named : target opening past p spot ≡ Some (record { uid = u; offset = offset })
  pub within : offset + n ≤ length_of opening past u
  pub are : bytes ≡ bytes_from opening past u offset n

-- a load of the process that was answered with bytes is one of the object
abbrev pub LoadTells : Start → ProcName → ObjectName → List Item → Item → Type 0
LoadTells opening p u past (Answered e) = same_proc e.proc p ≡ true → (spot : Spot) (n : ℕ) (bytes : List ℕ) → e.op ≡ Load spot n → e.reply ≡ Bytes bytes → IsLoadOf opening p u (done past) spot n bytes
LoadTells opening p u past (Acted a) = Unit {0}

-- so is each one among these items, which stand behind older ones
abbrev pub LoadsTell : Start → ProcName → ObjectName → List Item → List Item → Type 0
LoadsTell opening p u older [] = Unit {0}
LoadsTell opening p u older (i ∷ items) = LoadTells opening p u (items ++ older) i × LoadsTell opening p u older items

-- the bytes that a load told
abbrev pub bytes_told : Bool → Op → Reply → List ℕ
bytes_told true (Load spot n) (Bytes bytes) = bytes
bytes_told own op reply = []

-- what the loads of the process among these items told, one behind the other
abbrev pub loaded : ProcName → List Item → List ℕ
loaded p [] = []
loaded p (Answered e ∷ items) = loaded p items ++ bytes_told (same_proc e.proc p) e.op e.reply
loaded p (Acted a ∷ items) = loaded p items
