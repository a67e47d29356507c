-- What nobody writes meanwhile. Lists of items have the newest first.
use Rattle.std.specs.Prelude.{◌≡◌, ℕ, List, ◌∷◌, ◌++◌}
use Rattle.uid_names.specs.Names.{ObjectName, ProcName}
use Rattle.uid_names.specs.Openings.{Start}
use Rattle.uid_names.specs.declared.mode.Mode.TheVariants.{Read}
use Rattle.dom_history.specs.declared.deed.LockState.TheVariants.{Held}
use Rattle.dom_history.specs.Bytes.{byte, length_of}
use Rattle.dom_history.specs.Histories.{History, Item, entries, told}
use Rattle.dom_history.specs.Locks.{state}
use Rattle.dom_history.specs.StoreEffects.{StoreEffect, own}
use Rattle.read_laws.specs.Loads.{done}

-- an object has the same bytes and the same length behind both
pub record HasSame (opening : Start) (u : ObjectName) (past later : List StoreEffect) : Type 0 where
  pub bytes : (o : ℕ) → byte opening later u o ≡ byte opening past u o
  pub length : length_of opening later u ≡ length_of opening past u

-- behind these items a process knows that it holds an object in Read
abbrev pub KnowsItReads : ProcName → ObjectName → List Item → Type 0
KnowsItReads p u items = state u (own p (told (entries items))) ≡ Held Read

-- wherever one does, the next item leaves the object as it is
abbrev pub StaysWhileRead : Start → History → Type 0
StaysWhileRead opening h = (newer older : List Item) (i : Item) (p : ProcName) (u : ObjectName) → h.items ≡ newer ++ i ∷ older → KnowsItReads p u older → HasSame opening u (done older) (done (i ∷ older))
