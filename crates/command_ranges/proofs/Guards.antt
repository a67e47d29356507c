-- A dialogue that asks in its ranges goes as it goes without guards, and so does each command of a script.
use Rattle.std.proofs.Common.{◌≡◌, Bool, Option, Some, None, List, [], ◌∷◌, refl, ap, ◌∙◌, arith}
use Rattle.std.specs.Prelude.{All, cond}
use Rattle.std.specs.List.{AllByRecursion}
use Rattle.std.proofs.lemmas.List.{length-map}
use Rattle.std.proofs.lemmas.List.Elements.{All-weaker}
use Rattle.uid_names.specs.Names.{ObjectName, IsName, ProcName}
use Rattle.uid_names.specs.declared.lock_row.LockRow.{LockRow}
use Rattle.uid_names.specs.declared.mode.ObjKind.TheVariants as kinds
use Rattle.dom_history.specs.Ranges.{IsNodeNumber}
use Rattle.dom_history.specs.declared.op.Reply.TheVariants.{Fine, Made}
use Rattle.script_reader.specs.Scripts.{Content, IsContent}
use Rattle.script_reader.specs.Variables.{declared_object}
use Rattle.script_reader.specs.declared.command.Command.{Command}
use Rattle.script_reader.specs.declared.command.Command.TheVariants.{Bind, New, Wd}
use Rattle.naming_tree.specs.declared.step.NameResult.TheVariants.{Found}
use Rattle.naming_tree.specs.declared.step.Walked.TheVariants.{At}
use Rattle.command_talks.specs.Commands.{dialogue_for}
use Rattle.command_talks.specs.Dialogues.{Dialogue, Asks as Asking, Ends as Over}
use Rattle.command_talks.specs.Ranges.{IsRanged}
use Rattle.command_talks.specs.declared.check.Subject.{Subject}
use Rattle.command_talks.specs.declared.outcome.Outcome.{Outcome}
use Rattle.command_talks.specs.declared.outcome.Outcome.TheVariants.{Came, Replied}
use Rattle.command_talks.proofs.Begun.{ranged_sound}
use Rattle.naming_tree.specs.declared.site.Site.{Site}
use Rattle.aegis_shell.specs.Asking.{Asks, Ends, Told, converse, last_row, on_said}
use Rattle.aegis_shell.specs.Outcomes.{bound_by, working_after}
use Rattle.aegis_shell.specs.Ranges.{IsJob}
use Rattle.aegis_shell.specs.Standing.{site_of}
use Rattle.aegis_shell.specs.Work.{Job, Part, jobs_of, part_of}
use Rattle.aegis_shell.specs.declared.working.Working.{Working}
use Rattle.aegis_shell.proofs.Parts.{jobs_ranged}
use Rattle.aegis_shell.proofs.RangeTests.{named_binds, op_yes, row_yes}
use Rattle.aegis_shell.proofs.Stages.{in_range_some}
use Rattle.command_ranges.specs.Naming.{IsNamedOutcome, IsNamedRow, plainly_bound, plainly_last}
use Rattle.command_ranges.specs.Talking.{ComesNamed, FitsTold, GoesPlainly, IsSite, IsUnguarded, plainly}
use Rattle.command_ranges.specs.Telling.{AsksInRange}

-- no guard acts, and what a dialogue comes to has names
goes-same : (d : Dialogue) (told : Told) → AsksInRange IsNamedOutcome d → FitsTold d told → converse d told ≡ plainly d told
goes-same (Over outcome) told asks fits = refl
goes-same (Asking op further) [] asks fits = ap (λ (b : Bool). cond b (Asks op) (Ends (Replied Fine) [])) (op_yes op asks.0)
goes-same (Asking op further) (None ∷ told) asks fits = absurd fits
goes-same (Asking op further) (Some reply ∷ told) asks fits =
    in_range_some op further reply told (op_yes op asks.0)
    ∙ ap (λ (b : Bool). on_said b (Some reply) told (converse (further reply) told)) fits.0.0
    ∙ goes-same (further reply) told (asks.1 reply fits.0) fits.1

comes-named : (d : Dialogue) (told : Told) → AsksInRange IsNamedOutcome d → FitsTold d told → ComesNamed (plainly d told)
comes-named (Over outcome) told asks fits = asks
comes-named (Asking op further) [] asks fits = asks.0
comes-named (Asking op further) (None ∷ told) asks fits = absurd fits
comes-named (Asking op further) (Some reply ∷ told) asks fits = comes-named (further reply) told (asks.1 reply fits.0) fits.1

goes-plainly : (d : Dialogue) (told : Told) → AsksInRange IsNamedOutcome d → FitsTold d told → GoesPlainly d told
goes-plainly d told asks fits = record { same = goes-same d told asks fits; comes = comes-named d told asks fits }

-- so it is at a command of a script, where each command in its ranges asks in those of operations
abbrev pub CommandsAsk : Type 0
CommandsAsk = (who : Option Subject) (site : Site) (dir : ObjectName) (command : Command) → IsSite site → IsName dir → IsRanged command → AsksInRange IsNamedOutcome (dialogue_for who site dir command)

module _ (ask : CommandsAsk) (s : Content) (p : ProcName) (content : IsContent s) (own : IsNodeNumber p.node) where
  site-is : IsSite (site_of (part_of s p))
  site-is = let all = length-map s.nodes (λ n. n.name) in let few = content.draft.few_nodes in record { own = own; few = omega (arith, all, few) }

  job-unguarded : (job : Job) → IsJob job → IsUnguarded (part_of s p).guard (site_of (part_of s p)) job.command
  job-unguarded job is = record {
    sound = ranged_sound job.command is.command;
    plain = λ dir named told fits. goes-plainly (dialogue_for (part_of s p).guard (site_of (part_of s p)) dir job.command) told (ask (part_of s p).guard (site_of (part_of s p)) dir job.command site-is named is.command) fits;
  }

  pub jobs-unguarded : All (λ (job : Job). IsUnguarded (part_of s p).guard (site_of (part_of s p)) job.command) (jobs_of s p)
  jobs-unguarded = All-weaker IsJob (λ (job : Job). IsUnguarded (part_of s p).guard (site_of (part_of s p)) job.command) job-unguarded (jobs_of s p) (jobs_ranged s (declared_object s.objects) p content)

-- what has a name is bound, entered, and listed behind
pub bound-plainly : (command : Command) (outcome : Outcome) → IsNamedOutcome outcome → bound_by command outcome ≡ plainly_bound command outcome
bound-plainly (New var room home) (Replied (Made u)) is = named_binds var u is
bound-plainly (Bind var path) (Came (Found (At u kind within))) is = named_binds var u is.0
bound-plainly _ _ is = refl

pub entered-named : (part : Part) (working : Working) (command : Command) (outcome : Outcome) → IsName working.dir → IsNamedOutcome outcome → IsName (working_after part working command outcome).dir
entered-named part working (Wd (Some path)) (Came (Found (At u kinds.Directory within))) own is = is.0
entered-named part working _ _ own is = own

pub last-plainly : (rows : List LockRow) → AllByRecursion IsNamedRow rows → last_row rows ≡ plainly_last rows
last-plainly [] are = refl
last-plainly (row ∷ []) are = ap (λ (b : Bool). cond {A = Option (ObjectName × ProcName)} b (Some (row.uid, row.proc)) None) (row_yes row are.0.0 are.0.1)
last-plainly (row ∷ (next ∷ rows)) are = last-plainly (next ∷ rows) are.1
