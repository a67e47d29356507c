-- An addition keeps to stages that can be reached.
use Rattle.std.proofs.Common.{◌≡◌, ℕ, Bool, true, false, Option, Some, None, is_some, List, refl, arith}
use Rattle.std.specs.Prelude.{nat_lt}
use Rattle.std.proofs.lemmas.Bool.{false≢true}
use Rattle.dom_history.specs.declared.op.Reply.{Reply}
use Rattle.dom_history.specs.declared.op.Reply.TheVariants.{Made, Fine}
use Rattle.dir_records.specs.declared.row.DirRow.{DirRow}
use Rattle.dir_records.specs.declared.directory.TheConstants.{MOST_RECORDS}
use Rattle.dir_records.specs.Records.{Slot}
use Rattle.dir_records.specs.Directories.{row_named, first_free}
use Rattle.naming_tree.specs.declared.session.Opened.{Opened}
use Rattle.naming_tree.specs.declared.session.Held.{Held}
use Rattle.naming_tree.specs.declared.addition.Addition.{Addition}
use Rattle.naming_tree.specs.declared.adding.AddStage.{AddStage}
use Rattle.naming_tree.specs.declared.adding.AddStage.TheVariants.{Make, LockText, StoreText, UnlockText, StoreName}
use Rattle.naming_tree.specs.declared.changing.Change.{Change}
use Rattle.naming_tree.specs.declared.changing.Change.TheVariants.{Add}
use Rattle.naming_tree.specs.declared.changing.Stage.{Stage}
use Rattle.naming_tree.specs.declared.changing.Stage.TheVariants.{Begin}
use Rattle.naming_tree.specs.declared.changing.Next.{Next}
use Rattle.naming_tree.specs.declared.changing.Next.TheVariants.{To, End}
use Rattle.naming_tree.specs.declared.placed.Placed.{Placed}
use Rattle.naming_tree.specs.Entering.{held_of, IsOpened}
use Rattle.naming_tree.specs.Endings.{IsEnding}
use Rattle.naming_tree.specs.Placing.{held_with, IsPlaced, IsThere}
use Rattle.naming_tree.specs.Adding.{on_place, on_name, add_in, text_or_name, on_made, went_on, on_named, add_heard, IsAddStage, IsTexted}
use Rattle.naming_tree.specs.Changing.{IsStage}

-- a stage that has begun
abbrev pub Began : Stage → Type 0
Began Begin = ⊥
Began _ = Unit {0}

-- what comes of a reply is such a stage, and can be reached
abbrev pub IsNext : Change → Next → Type 0
IsNext change (To stage) = Began stage × IsStage change stage
IsNext change (End ending) = IsEnding ending

module _ (a : Addition) where
  place_next : (t : Bool) (o : Opened) (place : ℕ) → IsOpened o → nat_lt place MOST_RECORDS ≡ t → IsNext (Add a) (on_place t o place)
  place_next true o place h e = (tt, (h, grind arith))
  place_next false o place h e = tt

  name_next : (row : Option DirRow) (o : Opened) (place : ℕ) → IsOpened o → IsNext (Add a) (on_name row o place)
  name_next (Some row) o place h = tt
  name_next None o place h = place_next (nat_lt place MOST_RECORDS) o place h refl

  pub add_begins : (slots : List Slot) (o : Opened) → IsOpened o → IsNext (Add a) (add_in a slots o)
  add_begins slots o h = name_next (row_named a.name slots) o (first_free slots) h

  is_texted : (text : Option (List ℕ)) → is_some text ≡ true → IsTexted text
  is_texted None e = absurd (false≢true e)
  is_texted (Some text) e = tt

  text_next : (texted : Bool) (m : Placed) → is_some a.text ≡ texted → IsThere m → IsAddStage a (text_or_name texted m)
  text_next true m e h = (h, is_texted a.text e)
  text_next false m e h = h

  made_next : (o : Opened) (place : ℕ) (reply : Reply) → IsPlaced o place → IsNext (Add a) (on_made (is_some a.text) o place reply)
  made_next o place (Made u) h = (tt, text_next (is_some a.text) (record { opened = o; place = place; uid = u }) refl h)
  made_next o place reply h = tt

  on_next : (stage : AddStage) (held : Held) (reply : Reply) → IsAddStage a stage → IsNext (Add a) (went_on stage held reply)
  on_next stage held Fine h = (tt, h)
  on_next stage held reply h = tt

  named_next : (m : Placed) (reply : Reply) → IsNext (Add a) (on_named m reply)
  named_next m Fine = tt
  named_next m reply = tt

  pub add_next : (stage : AddStage) (reply : Reply) → IsAddStage a stage → IsNext (Add a) (add_heard (is_some a.text) stage reply)
  add_next (Make o place) reply h = made_next o place reply h
  add_next (LockText m) reply h = on_next (StoreText m) (held_of m.opened) reply h
  add_next (StoreText m) reply h = on_next (UnlockText m) (held_with m) reply h.0
  add_next (UnlockText m) reply h = on_next (StoreName m) (held_of m.opened) reply h
  add_next (StoreName m) reply h = named_next m reply
