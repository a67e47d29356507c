-- A check between the items of a history comes to what its list says.
use Rattle.std.proofs.Common.{◌≡◌, ℕ, Bool, true, false, Option, Some, List, [], ◌∷◌, ◌++◌, refl, ap, ◌∙◌, sym, append_assoc}
use Rattle.std.proofs.lemmas.Option.{none-some}
use Rattle.uid_names.specs.Names.{ObjectName, ProcName, same_proc}
use Rattle.uid_names.specs.Openings.{Start}
use Rattle.uid_names.specs.declared.mode.ObjKind.{ObjKind}
use Rattle.dom_history.specs.declared.op.Op.{Op}
use Rattle.dom_history.specs.declared.op.Reply.{Reply}
use Rattle.dom_history.specs.Histories.{Acted, Answered, History, Item}
use Rattle.dom_history.specs.Legal.{IsLegal}
use Rattle.dir_records.specs.Records.{Slot}
use Rattle.dir_records.specs.declared.row.DirRow.{DirRow}
use Rattle.naming_tree.specs.Dialogues.{Asks, DialogueOf, Ends, asked, led_on, told}
use Rattle.naming_tree.specs.declared.step.NameResult.{NameResult}
use Rattle.mapped_streams.specs.Streams.{read_all}
use Rattle.mapped_streams.specs.declared.step.StreamResult.TheVariants.{Bytes}
use Rattle.command_talks.specs.Checks.{check_for, check_of, checked, checked_by, of_text, on_directory, on_kind, on_row, on_slots, on_text, on_verdict}
use Rattle.command_talks.specs.Dialogues.{Dialogue}
use Rattle.command_talks.specs.Files.{behind, fails_of}
use Rattle.command_talks.specs.declared.check.Check.{Check}
use Rattle.command_talks.specs.declared.check.Subject.{Subject}
use Rattle.command_talks.specs.declared.errand.Errand.{Errand}
use Rattle.command_talks.specs.declared.outcome.Outcome.{Outcome}
use Rattle.read_laws.specs.Carrying.{CarriesOn, carried, told_if}
use Rattle.read_laws.specs.Asked.{FindsList, GoesByStore, IsOfStore, ReadsList, ReadsWhole}

-- two dialogues in a row, while the first goes on
module _ {A B : Type 0} (p : ProcName) (further : A → DialogueOf B) where
  told-led : (d : DialogueOf A) (op : Op) (reply : Reply) → asked d ≡ Some op → told (led_on d further) reply ≡ led_on (told d reply) further
  told-led (Ends result) op reply asks = absurd (none-some op asks)
  told-led (Asks first next) op reply asks = refl

  told_if-led : (b : Bool) (d : DialogueOf A) (op : Op) (reply : Reply) → (b ≡ true → asked d ≡ Some op) → told_if b (led_on d further) reply ≡ led_on (told_if b d reply) further
  told_if-led true d op reply asks = told-led d op reply (asks refl)
  told_if-led false d op reply asks = refl

  carried-led : (d : DialogueOf A) (items : List Item) → CarriesOn p d items → carried p (led_on d further) items ≡ led_on (carried p d items) further
  carried-led d [] carries = refl
  carried-led d (Answered e ∷ items) carries =
      ap (λ (x : DialogueOf B). told_if (same_proc e.proc p) x e.reply) (carried-led d items carries.1) ∙ told_if-led (same_proc e.proc p) (carried p d items) e.op e.reply carries.0
  carried-led d (Acted a ∷ items) carries = carried-led d items carries.1

  -- behind the first, once it has come to its end
  carried-ends : (d : DialogueOf A) (items : List Item) (result : A) → CarriesOn p d items → carried p d items ≡ Ends result → carried p (led_on d further) items ≡ further result
  carried-ends d items result carries ends = carried-led d items carries ∙ ap (λ (x : DialogueOf A). led_on x further) ends

-- behind earlier items and later ones
pub carried-both : {A : Type 0} (p : ProcName) (d : DialogueOf A) (later earlier : List Item) → carried p d (later ++ earlier) ≡ carried p (carried p d earlier) later
carried-both p d [] earlier = refl
carried-both p d (Answered e ∷ later) earlier = ap (λ x. told_if (same_proc e.proc p) x e.reply) (carried-both p d later earlier)
carried-both p d (Acted a ∷ later) earlier = carried-both p d later earlier

module _ (p : ProcName) (who : Subject) (c : Check) (fails : Outcome → Dialogue) (further : Dialogue) where
  -- behind the directory its list is read
  pub carried-dir : (earlier : List Item) (row : DirRow) → FindsList p c.dir earlier row → carried p (checked who c fails further) earlier ≡ led_on (read_all row.uid) (on_text who c fails further)
  carried-dir earlier row finds =
      carried-ends p (on_directory who c fails further) (read_all c.dir) earlier (Bytes finds.bytes) finds.reads_dir.asks finds.reads_dir.ends
      ∙ ap (λ (found : Option (List Slot)). on_slots who c fails further found) finds.directory
      ∙ ap (λ (found : Option DirRow). on_row who c fails further found) finds.found
      ∙ ap (λ (kind : ObjKind). on_kind who c fails further kind row.uid) finds.is_file

  carried-list : (earlier later : List Item) (row : DirRow) (text : List ℕ) → ReadsList p c.dir earlier later row text → carried p (checked who c fails further) (later ++ earlier) ≡ on_verdict fails further (of_text who c text)
  carried-list earlier later row text reads =
      carried-both p (checked who c fails further) later earlier
      ∙ ap (λ (d : Dialogue). carried p d later) (carried-dir earlier row reads.finds)
      ∙ carried-ends p (on_text who c fails further) (read_all row.uid) later (Bytes text) reads.reads_list.asks reads.reads_list.ends

-- what is said of objects that are read whole
abbrev pub ReadsAreOfStore : Type 0
ReadsAreOfStore =
    (opening : Start) (h : History) (p : ProcName) (u : ObjectName) (newer items older : List Item) (bytes : List ℕ) → IsLegal opening h → h.items ≡ newer ++ (items ++ older) → ReadsWhole p u items bytes → IsOfStore opening p u older items bytes

pub decides : ReadsAreOfStore → (opening : Start) (h : History) (p : ProcName) (who : Subject) (errand : Errand) (come : NameResult) (c : Check) → IsLegal opening h → check_of errand come ≡ Some c → GoesByStore opening h p who errand come c
decides read opening h p who errand come c legal is newer later earlier older row text stand reads = record {
  comes = ap (λ (found : Option Check). carried p (checked_by (check_for (Some who) found) (fails_of errand) (behind errand come)) (later ++ earlier)) is
      ∙ carried-list p who c (fails_of errand) (behind errand come) earlier later row text reads;
  bytes = reads.finds.bytes;
  of_dir = read opening h p c.dir (newer ++ later) earlier older reads.finds.bytes legal (stand ∙ sym (append_assoc newer later (earlier ++ older))) reads.finds.reads_dir;
  of_list = read opening h p row.uid newer later (earlier ++ older) text legal stand reads.reads_list;
}
