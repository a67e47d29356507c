-- What a decided operation does to the store. A refused one does nothing, nor does one that a link fault answered.
use Rattle.std.specs.Prelude.{ℕ, true, List, [], ◌∷◌, ◌++◌, filter}
use Rattle.uid_names.specs.Names.{ProcName, ObjectName, same_proc}
use Rattle.uid_names.specs.declared.mode.Mode.{Mode}
use Rattle.uid_names.specs.declared.opening.Object.{Object}
use Rattle.dom_history.specs.declared.op.Spot.{Spot}
use Rattle.dom_history.specs.declared.op.Op.{Op}
use Rattle.dom_history.specs.declared.op.Op.TheVariants.{New, Lock, Unlock, Delete, Store, Map, Unmap}
use Rattle.dom_history.specs.declared.op.Reply.{Reply}
use Rattle.dom_history.specs.declared.op.Reply.TheVariants.{Made, Fine, At}
use Rattle.dom_history.specs.declared.deed.Deed.{Deed}

pub data StoreEffect : Type 0 where
  Makes : (object : Object) → StoreEffect
  TakesLock : (proc : ProcName) (uid : ObjectName) (mode : Mode) → StoreEffect
  FreesLock : (proc : ProcName) (uid : ObjectName) → StoreEffect
  Deletes : (proc : ProcName) (uid : ObjectName) → StoreEffect
  Writes : (proc : ProcName) (spot : Spot) (bytes : List ℕ) → StoreEffect
  Maps : (proc : ProcName) (uid : ObjectName) (address : ℕ) → StoreEffect
  Unmaps : (proc : ProcName) (uid : ObjectName) → StoreEffect

-- an operation of p that was answered so
abbrev pub store_effect : ProcName → Op → Reply → List StoreEffect
store_effect p (New home kind room) (Made u) = Makes (record { uid = u; kind = kind; room = room }) ∷ []
store_effect p (Lock u m) Fine = TakesLock p u m ∷ []
store_effect p (Unlock u) Fine = FreesLock p u ∷ []
store_effect p (Delete u) Fine = Deletes p u ∷ []
store_effect p (Store spot bytes) Fine = Writes p spot bytes ∷ []
store_effect p (Map u) (At address true) = Maps p u address ∷ []
store_effect p (Unmap u) Fine = Unmaps p u ∷ []
store_effect p _ _ = []

-- the effects of deeds; both lists have the newest first
abbrev pub store_effects : List Deed → List StoreEffect
store_effects [] = []
store_effects (d ∷ past) = store_effect d.proc d.op d.reply ++ store_effects past

-- the deeds of one process
abbrev pub own : ProcName → List Deed → List Deed
own p past = filter (λ d. same_proc d.proc p) past
