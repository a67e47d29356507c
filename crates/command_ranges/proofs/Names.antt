-- What is asked of an object that a name leads to, or of a directory, is in the ranges of operations.
use Rattle.std.proofs.Common.{ℕ, ◌-◌, Option, Some, None, IfSome, List, [], ◌∷◌, ◌++◌, refl}
use Rattle.uid_names.specs.Names.{ObjectName, IsName}
use Rattle.uid_names.specs.declared.mode.Mode.{Mode}
use Rattle.uid_names.specs.declared.mode.Mode.TheVariants.{Read, Write}
use Rattle.dom_history.specs.Ranges.{IsOp}
use Rattle.dom_history.specs.declared.op.Op.{Op}
use Rattle.dom_history.specs.declared.op.Reply.{Reply}
use Rattle.dir_records.specs.Directories.{directory_of}
use Rattle.dir_records.specs.Records.{Slot}
use Rattle.naming_tree.specs.Changes.{changed, on_directory}
use Rattle.naming_tree.specs.Dialogues.{Dialogue}
use Rattle.naming_tree.specs.Entering.{IsOpened, page_load, pages}
use Rattle.naming_tree.specs.Sessions.{ask, bytes, closers, closing, entering, fine, loading, loads_from, opening, reading, shutting}
use Rattle.naming_tree.specs.declared.session.Opened.{Opened}
use Rattle.naming_tree.specs.declared.step.NameResult.{NameResult}
use Rattle.naming_tree.specs.declared.step.NameResult.TheVariants.{BadDir, Store}
use Rattle.aegis_shell.proofs.Ranged.{AreOps}
use Rattle.command_ranges.specs.Naming.{IsNamedResult}
use Rattle.command_ranges.specs.Telling.{AsksInRange, MayTell}
use Rattle.command_ranges.proofs.Answers.{Anything, any-told}
use Rattle.command_ranges.proofs.Asking.{ask-asks, closing-asks, fine-asks, opened-asks}
use Rattle.command_ranges.proofs.Ranges.{closers-ops, loads-ops, page-loaded}
use Rattle.command_ranges.proofs.Records.{AreNamedSlots, directory-named}

-- a dialogue of names asks in its ranges, and what it comes to has names
abbrev pub AsksNames : Dialogue → Type 0
AsksNames d = AsksInRange IsNamedResult d

pub closing-names : (held : List Op) (result : NameResult) → AreOps held → IsNamedResult result → AsksNames (closing held result)
closing-names held result ops is = closing-asks IsNamedResult held result ops is

pub ask-names : {A : Type 0} (answer : Reply → Option A) (IsTold : A → Type 0) (held : List Op) (op : Op) (further : A → Dialogue)
    → AreOps held → IsOp op → ((reply : Reply) → MayTell op reply → IfSome (answer reply) IsTold) → ((a : A) → IsTold a → AsksNames (further a)) → AsksNames (ask answer held op further)
ask-names answer IsTold held op further ops is told next = ask-asks IsNamedResult Store (λ reply. tt) answer IsTold held op further ops is told next

pub fine-names : (held : List Op) (op : Op) (further : Dialogue) → AreOps held → IsOp op → AsksNames further → AsksNames (ask fine held op (λ _. further))
fine-names held op further ops is next = fine-asks IsNamedResult Store (λ reply. tt) held op further ops is next

-- an object is opened, loaded and closed
opening-names : (u : ObjectName) (mode : Mode) (further : Opened → Dialogue) → IsName u → ((o : Opened) → IsName o.uid → IsOpened o → AsksNames (further o)) → AsksNames (opening u mode further)
opening-names u mode further is next =
    opened-asks IsNamedResult Store (λ reply. tt) u mode (λ n at. further (record { uid = u; length = n; address = at.0; fresh = at.1 })) is
    (λ n at long there. next (record { uid = u; length = n; address = at.0; fresh = at.1 }) is (record { long = long; at = there.0; below = there.1 }))

pub shutting-names : (held : List Op) (further : Dialogue) → AreOps held → AsksNames further → AsksNames (shutting held further)
shutting-names [] further ops next = next
shutting-names (op ∷ held) further ops next = fine-names held op (shutting held further) ops.1 ops.0 (shutting-names held further ops.1 next)

loading-names : (held ops : List Op) (so_far : List ℕ) (further : List ℕ → Dialogue) → AreOps held → AreOps ops → ((all : List ℕ) → AsksNames (further all)) → AsksNames (loading held ops so_far further)
loading-names held [] so_far further closes are next = next so_far
loading-names held (op ∷ ops) so_far further closes are next =
    ask-names bytes (Anything (List ℕ)) held op (λ more. loading held ops (so_far ++ more) further) closes are.0 (λ reply may. any-told (bytes reply))
    (λ more _. loading-names held ops (so_far ++ more) further closes are.1 next)

-- what closes an object that is open
pub opened-closes : (o : Opened) → IsName o.uid → AreOps (closers o)
opened-closes o named = closers-ops o.fresh o.uid named

entering-names : (u : ObjectName) (mode : Mode) (further : Opened → List ℕ → Dialogue) → IsName u → ((o : Opened) (all : List ℕ) → IsName o.uid → IsOpened o → AsksNames (further o all)) → AsksNames (entering u mode further)
entering-names u mode further is next =
    opening-names u mode (λ o. loading (closers o) (loads_from o 0) [] (λ all. further o all)) is (λ o named opened.
    loading-names (closers o) (loads_from o 0) [] (λ all. further o all) (opened-closes o named)
    (loads-ops (page_load o) o.length (λ page begins. page-loaded o.address o.length page opened.at begins) (pages o.length - 0) 0 refl)
    (λ all. next o all named opened))

pub reading-names : (u : ObjectName) (further : List ℕ → Dialogue) → IsName u → ((all : List ℕ) → AsksNames (further all)) → AsksNames (reading u further)
reading-names u further is next = entering-names u Read (λ o all. shutting (closers o) (further all)) is (λ o all named opened. shutting-names (closers o) (further all) (opened-closes o named) (next all))

-- a directory is changed
module _ (change : List Slot → Opened → Dialogue) (next : (slots : List Slot) (o : Opened) → AreNamedSlots slots → IsName o.uid → IsOpened o → AsksNames (change slots o)) where
  directory-changes : (found : Option (List Slot)) (o : Opened) → IfSome found AreNamedSlots → IsName o.uid → IsOpened o → AsksNames (on_directory change found o)
  directory-changes None o are named opened = closing-names (closers o) BadDir (opened-closes o named) tt
  directory-changes (Some slots) o are named opened = next slots o are named opened

  pub changed-names : (parent : ObjectName) → IsName parent → AsksNames (changed parent change)
  changed-names parent named = entering-names parent Write (λ o all. on_directory change (directory_of all) o) named (λ o all own opened. directory-changes (directory_of all) o (directory-named all) own opened)
