-- What each command with a dialogue asks is in the ranges of operations.
use Rattle.std.proofs.Common.{ℕ, true, Option, Some, None, List}
use Rattle.std.specs.Prelude.{unwrap_or}
use Rattle.uid_names.specs.Names.{ObjectName, IsName}
use Rattle.uid_names.specs.declared.mode.ObjKind.TheVariants as kinds
use Rattle.script_reader.specs.declared.command.Command.{Command}
use Rattle.script_reader.specs.declared.command.Command.TheVariants.{Apf, Bind, Catf, Cpf, Crd, Crf, Crl, Crm, Dlf, Ld, Lnf, Putm, Takem, Wd}
use Rattle.naming_tree.specs.declared.purpose.Purpose.{Purpose}
use Rattle.naming_tree.specs.declared.site.Site.{Site}
use Rattle.command_talks.specs.Commands.{dialogue_for}
use Rattle.command_talks.specs.Deeds.{purpose_of}
use Rattle.command_talks.specs.Files.{guarded, talk_along, walk_for}
use Rattle.command_talks.specs.Intentions.{object_for}
use Rattle.command_talks.specs.Ranges.{IsRanged}
use Rattle.command_talks.specs.declared.check.Subject.{Subject}
use Rattle.command_talks.specs.declared.errand.Errand.{Errand}
use Rattle.command_talks.specs.declared.errand.Errand.TheVariants as errands
use Rattle.command_talks.proofs.Begun.{room_or}
use Rattle.command_talks.proofs.Talking.{room_of_directory, room_of_link}
use Rattle.command_ranges.specs.Naming.{IsNamedOutcome, IsNamedResult}
use Rattle.command_ranges.specs.Talking.{IsSite}
use Rattle.command_ranges.proofs.Asking.{led-asks}
use Rattle.command_ranges.proofs.Files.{AsksTalks, IsRangedErrand, guarded-talks}
use Rattle.command_ranges.proofs.Names.{AsksNames}
use Rattle.command_ranges.proofs.Parents.{reach-names}
use Rattle.command_ranges.proofs.Walks.{walk-names}

module _ (guard : Option Subject) (site : Site) (is : IsSite site) (dir : ObjectName) (named : IsName dir) where
  walk-asks : (purpose : Option Purpose) (path : List ℕ) → AsksNames (walk_for purpose site dir path)
  walk-asks None path = walk-names site is path dir true named
  walk-asks (Some purpose) path = reach-names site is path dir purpose named

  errand-talks : (path : List ℕ) (errand : Errand) → IsRangedErrand errand → AsksTalks (talk_along guard site dir path errand)
  errand-talks path errand range =
      led-asks IsNamedResult IsNamedOutcome (walk_for (purpose_of errand) site dir path) (guarded guard errand) (walk-asks (purpose_of errand) path) (guarded-talks guard errand range)

  -- each command in its ranges
  pub command-talks : (command : Command) → IsRanged command → AsksTalks (dialogue_for guard site dir command)
  command-talks (Bind var path) range = errand-talks path errands.Bind tt
  command-talks (Crf path room) range = errand-talks path (errands.Add (object_for kinds.File (unwrap_or room 16) None)) (room_or room range.1.0, tt)
  command-talks (Crd path) range = errand-talks path (errands.Add (object_for kinds.Directory 8 None)) (room_of_directory, tt)
  command-talks (Crl path target) range = errand-talks path (errands.Add (object_for kinds.Link 1 (Some target))) (room_of_link, range.1.0)
  command-talks (Dlf path) range = errand-talks path errands.Remove tt
  command-talks (Catf path) range = errand-talks path errands.Read tt
  command-talks (Lnf path) range = errand-talks path errands.Count tt
  command-talks (Apf path text) range = errand-talks path (errands.Append text) range.1.0.1
  command-talks (Cpf path target) range = errand-talks path (errands.Copy (record { guard = guard; site = site; dir = dir; path = target })) (record { site = is; dir = named })
  command-talks (Crm path) range = errand-talks path (errands.Add (object_for kinds.Mail 8 None)) (room_of_directory, tt)
  command-talks (Putm path text) range = errand-talks path (errands.Put text) (record { some = range.1.0.0; few = range.1.0.1 })
  command-talks (Takem path) range = errand-talks path errands.Take tt
  command-talks (Ld path) range = errand-talks path errands.List tt
  command-talks (Wd (Some path)) range = errand-talks path errands.Enter tt
  command-talks _ range = tt
