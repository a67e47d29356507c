-- What a command does behind the walk along its path.
use Rattle.std.specs.Prelude.{ℕ, Option, Some, None, List}
use Rattle.uid_names.specs.Names.{ObjectName}
use Rattle.naming_tree.specs.declared.purpose.Purpose.{Purpose}
use Rattle.naming_tree.specs.declared.purpose.Purpose.TheVariants as purposes
use Rattle.naming_tree.specs.declared.site.Site.{Site}
use Rattle.command_talks.specs.Intentions.{Intended}
use Rattle.command_talks.specs.declared.check.Subject.{Subject}
use Rattle.command_talks.specs.declared.errand.Errand.{Errand}
use Rattle.command_talks.specs.declared.errand.Errand.TheVariants as errands

-- as a command says it: what its path leads to is bound or entered, or is listed, read, counted, appended to or copied, or it is a mailbox into
-- which a text is put, or out of which one is taken, or its last name is added or removed
pub data Deed : Type 0 where
  Binds : Deed
  Enters : Deed
  Lists : Deed
  Reads : Deed
  Counts : Deed
  Appends : (text : List ℕ) → Deed
  Puts : (text : List ℕ) → Deed
  Takes : Deed
  Copies : (target : List ℕ) → Deed
  Adds : (what : Intended) → Deed
  Removes : Deed

-- and where it is known for whom, and where names are looked up
abbrev pub errand_of : Option Subject → Site → ObjectName → Deed → Errand
errand_of guard site dir Binds = errands.Bind
errand_of guard site dir Enters = errands.Enter
errand_of guard site dir Lists = errands.List
errand_of guard site dir Reads = errands.Read
errand_of guard site dir Counts = errands.Count
errand_of guard site dir (Appends text) = errands.Append text
errand_of guard site dir (Puts text) = errands.Put text
errand_of guard site dir Takes = errands.Take
errand_of guard site dir (Copies target) = errands.Copy (record { guard = guard; site = site; dir = dir; path = target })
errand_of guard site dir (Adds what) = errands.Add what
errand_of guard site dir Removes = errands.Remove

-- what the directory of the path's last name is looked for; None where the path is walked along to its own end
abbrev pub purpose_of : Errand → Option Purpose
purpose_of (errands.Add what) = Some purposes.Adds
purpose_of errands.Remove = Some purposes.Drops
purpose_of (errands.Fill s) = Some purposes.Adds
purpose_of _ = None
