-- What is left of the dialogue of a change at each of its stages.
use Rattle.std.proofs.Common.{ℕ, List, ◌∷◌}
use Rattle.uid_names.specs.Names.{ObjectName}
use Rattle.uid_names.specs.declared.mode.Mode.TheVariants.{Write}
use Rattle.dom_history.specs.declared.op.Op.TheVariants as ops
use Rattle.dom_history.specs.declared.op.Spot.TheVariants.{Of}
use Rattle.dir_records.specs.Records.{Slot}
use Rattle.dir_records.specs.Directories.{directory_of}
use Rattle.naming_tree.specs.declared.session.Opened.{Opened}
use Rattle.naming_tree.specs.declared.session.Entering.TheVariants as entering
use Rattle.naming_tree.specs.declared.step.NameResult.TheVariants.{BadDir}
use Rattle.naming_tree.specs.declared.placed.Placed.{Placed}
use Rattle.naming_tree.specs.declared.addition.Addition.{Addition}
use Rattle.naming_tree.specs.declared.adding.AddStage.{AddStage}
use Rattle.naming_tree.specs.declared.adding.AddStage.TheVariants.{Make, LockText, StoreText, UnlockText, StoreName}
use Rattle.naming_tree.specs.declared.removing.RemoveStage.{RemoveStage}
use Rattle.naming_tree.specs.declared.removing.RemoveStage.TheVariants.{Lock, Delete, Clear}
use Rattle.naming_tree.specs.declared.changing.Change.{Change}
use Rattle.naming_tree.specs.declared.changing.Change.TheVariants.{Add, Remove}
use Rattle.naming_tree.specs.declared.changing.Stage.{Stage}
use Rattle.naming_tree.specs.declared.changing.Stage.TheVariants.{Begin, Enter, Adds, Removes}
use Rattle.naming_tree.specs.declared.changing.Next.{Next}
use Rattle.naming_tree.specs.declared.changing.Next.TheVariants.{To, End}
use Rattle.naming_tree.specs.Additions.{naming, making, placing}
use Rattle.naming_tree.specs.Removals.{clearing, on_deleted, on_locked, finding}
use Rattle.naming_tree.specs.Changes.{on_directory}
use Rattle.naming_tree.specs.Dialogues.{Dialogue, Ends, Asks}
use Rattle.naming_tree.specs.Sessions.{fine, ask, closers}
use Rattle.naming_tree.specs.Adding.{text_of}
use Rattle.naming_tree.proofs.ReadingsLeft.{entering_left}
use Rattle.naming_tree.proofs.EndingsLeft.{ending_left}

-- of an addition
module _ (a : Addition) where
  abbrev pub name_left : Placed → Dialogue
  name_left p = naming a p.opened p.place p.uid

  abbrev pub unlock_left : Placed → Dialogue
  unlock_left p = ask fine (closers p.opened) (ops.Unlock p.uid) (λ _. name_left p)

  abbrev pub store_left : Placed → Dialogue
  store_left p = ask fine (ops.Unlock p.uid ∷ closers p.opened) (ops.Store (Of p.uid 0) (text_of a.text)) (λ _. unlock_left p)

  abbrev pub add_left : AddStage → Dialogue
  add_left (Make o place) = making a o place
  add_left (LockText p) = ask fine (closers p.opened) (ops.Lock p.uid Write) (λ _. store_left p)
  add_left (StoreText p) = store_left p
  add_left (UnlockText p) = unlock_left p
  add_left (StoreName p) = name_left p

-- of a removal
abbrev pub remove_left : RemoveStage → Dialogue
remove_left (Lock p) = Asks (ops.Lock p.uid Write) (on_locked p.uid p.opened p.place)
remove_left (Delete p) = Asks (ops.Delete p.uid) (on_deleted p.uid p.opened p.place)
remove_left (Clear p) = clearing p.opened p.place

-- the change in a directory that is loaded
abbrev pub change_in : Change → List Slot → Opened → Dialogue
change_in (Add a) = placing a
change_in (Remove name) = finding name

abbrev pub loaded_then : Change → Opened → List ℕ → Dialogue
loaded_then change o all = on_directory (change_in change) (directory_of all) o

-- stages of an addition are not reached by a removal
abbrev pub adds_left : Change → AddStage → Dialogue
adds_left (Add a) stage = add_left a stage
adds_left (Remove name) stage = Ends BadDir

-- of a change of a directory, whose bytes are these so far
module _ (parent : ObjectName) (change : Change) (bytes : List ℕ) where
  abbrev pub stage_left : Stage → Dialogue
  stage_left Begin = entering_left parent Write (loaded_then change) entering.Lock bytes
  stage_left (Enter stage) = entering_left parent Write (loaded_then change) stage bytes
  stage_left (Adds stage) = adds_left change stage
  stage_left (Removes stage) = remove_left stage

  -- behind a reply
  abbrev pub next_left : Next → Dialogue
  next_left (To stage) = stage_left stage
  next_left (End ending) = ending_left ending
