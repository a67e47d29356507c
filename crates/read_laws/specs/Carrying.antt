-- A dialogue that a process carries on between the items of a history. Lists of items have the newest first.
use Rattle.std.specs.Prelude.{◌≡◌, Bool, true, false, Some, List, [], ◌∷◌}
use Rattle.uid_names.specs.Names.{ProcName, same_proc}
use Rattle.dom_history.specs.declared.op.Reply.{Reply}
use Rattle.dom_history.specs.Histories.{Acted, Answered, Item}
use Rattle.naming_tree.specs.Dialogues.{DialogueOf, asked, told}

-- what is left of a dialogue that is told a reply, where it is its process's
abbrev pub told_if : {R : Type 0} → Bool → DialogueOf R → Reply → DialogueOf R
told_if true d reply = told d reply
told_if false d reply = d

-- and behind all entries of its process among these items
abbrev pub carried : {R : Type 0} → ProcName → DialogueOf R → List Item → DialogueOf R
carried p d [] = d
carried p d (Answered e ∷ items) = told_if (same_proc e.proc p) (carried p d items) e.reply
carried p d (Acted a ∷ items) = carried p d items

-- an entry of the process has the operation that the dialogue asks
abbrev pub IsAskedFor : {R : Type 0} → ProcName → DialogueOf R → Item → Type 0
IsAskedFor p d (Answered e) = same_proc e.proc p ≡ true → asked d ≡ Some e.op
IsAskedFor p d (Acted a) = Unit {0}

-- so has each one among these items
abbrev pub CarriesOn : {R : Type 0} → ProcName → DialogueOf R → List Item → Type 0
CarriesOn p d [] = Unit {0}
CarriesOn p d (i ∷ items) = IsAskedFor p (carried p d items) i × CarriesOn p d items
