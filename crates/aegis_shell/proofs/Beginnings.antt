-- What the code knows of how commands begin, and of machines that go on.
use Rattle.std.proofs.Common.{◌≡◌, ℕ, true, false, cond, Option, Some, None, List, [], ◌∷◌, ◌++◌, refl, ap, ◌∙◌, sym}
use Rattle.std.specs.Prelude.{◌≢◌, codes}
use Rattle.uid_names.specs.Names.{ObjectName}
use Rattle.dom_history.specs.Ranges.{IsOp}
use Rattle.dom_history.specs.declared.op.Op.{Op}
use Rattle.dom_history.specs.declared.op.Reply.{Reply}
use Rattle.dom_history.specs.declared.op.Reply.TheVariants.{Fine}
use Rattle.script_reader.specs.declared.command.Command.{Command}
use Rattle.script_reader.specs.declared.command.Command.TheVariants.{Wd, Llkob}
use Rattle.naming_tree.specs.Turns.{FitsAsked}
use Rattle.aegis_shell.specs.AnswerTexts.{not_bound, path_too_long}
use Rattle.aegis_shell.specs.Operations.{ops_of, first_of}
use Rattle.aegis_shell.specs.Plans.{Talks, Writes, makes, is_long, talk_plan, plan_of}
use Rattle.aegis_shell.specs.Standing.{site_of}
use Rattle.aegis_shell.specs.States.{Goes, Comes, on_turn, talk_goes, may_be, on_talk, begins, begins_by}
use Rattle.command_talks.specs.Commands.{talks, is_sound, talk_for}
use Rattle.command_talks.specs.Ranges.{IsRanged}
use Rattle.command_talks.specs.Talks.{Turn, Goes as Asks, talk_asks}
use Rattle.aegis_shell.specs.Work.{Part}
use Rattle.command_talks.specs.declared.outcome.Outcome.TheVariants.{Replied, Written}
use Rattle.aegis_shell.specs.declared.stage.Stage.TheVariants.{First, Talks as Talking}
use Rattle.command_talks.specs.declared.talk.Talk.{Talk}
use Rattle.aegis_shell.specs.declared.working.Working.{Working}
use Rattle.command_talks.proofs.Begun.{ranged_sound}
use Rattle.aegis_shell.proofs.Counts.{AreShort, ops_short}
use Rattle.aegis_shell.proofs.RangeTests.{op_yes}

-- a machine that goes on leads on, if what it asks is in its ranges
pub leads_on : (talk : Talk) (op : Op) (found : Option Turn) → Some (Asks talk op) ≡ found → IsOp op → Goes (Talking talk) ≡ on_turn found
leads_on talk op found is ranged = sym (ap (λ b. cond b (Goes (Talking talk)) (Comes (Replied Fine))) (op_yes op ranged)) ∙ ap on_turn is

-- one that is told what fits goes on
pub talk_hears : (talk : Talk) (reply : Reply) → FitsAsked (talk_asks talk) (Some reply) → talk_goes talk (Some reply) ≡ on_talk (may_be (talk_asks talk) (Some reply)) talk (Some reply)
talk_hears talk reply fits = by_asked (talk_asks talk) fits where
  by_asked : (asked : Option Op) → FitsAsked asked (Some reply) → talk_goes talk (Some reply) ≡ on_talk (may_be asked (Some reply)) talk (Some reply)
  by_asked None fits = absurd fits
  by_asked (Some op) fits = ap (λ b. on_talk b talk (Some reply)) (sym fits)

-- a command that has a dialogue is planned so
talked : (part : Part) (working : Working) (uid : Option ObjectName) (command : Command) → talks command ≡ true → is_long part working command ≡ false → is_sound command ≡ true → plan_of part working uid command ≡ Talks
talked part working uid (Wd None) t short sound = cc
talked part working uid (Llkob node) t short sound = cc
talked part working uid command t short sound =
    ap (λ b. cond b (cond (is_long part working command) (Writes path_too_long) (cond (is_sound command) Talks (Writes []))) (makes (ops_of part.node command uid))) t
    ∙ (ap (λ b. cond b (Writes path_too_long) (cond (is_sound command) Talks (Writes []))) short
    ∙ ap (λ b. cond b Talks (Writes [])) sound)

pub talk_begins : (part : Part) (working : Working) (uid : Option ObjectName) (command : Command) → talks command ≡ true → is_long part working command ≡ false → IsRanged command
    → talk_goes (talk_for part.guard (site_of part) working.dir command) None ≡ begins part working uid command
talk_begins part working uid command t short ranged = sym (ap (begins_by part working command) (talked part working uid command t short (ranged_sound command ranged)))

-- the one that tells the working directory
pub told_begins : (part : Part) (working : Working) (uid : Option ObjectName) (path : Option (List ℕ)) → talks (Wd path) ≡ false → Comes (Written (codes "ok " ++ working.text)) ≡ begins part working uid (Wd path)
told_begins part working uid None t = refl
told_begins part working uid (Some path) t = cc

-- one whose directory would have too long a text is answered so
pub long_begins : (part : Part) (working : Working) (uid : Option ObjectName) (command : Command) → is_long part working command ≡ true → Comes (Written path_too_long) ≡ begins part working uid command
long_begins part working uid (Wd (Some path)) long = sym (ap (λ b. begins_by part working (Wd (Some path)) (cond b (Writes path_too_long) (cond (is_sound (Wd (Some path))) Talks (Writes [])))) long)
long_begins part working uid (Wd None) long = cc
long_begins part working uid command long = cc

-- one that makes operations
pub plain_begins : (part : Part) (working : Working) (uid : Option ObjectName) (command : Command) → talks command ≡ false → ((path : Option (List ℕ)) → command ≢ Wd path) → ((node : ℕ) → command ≢ Llkob node)
    → begins_by part working command (makes (ops_of part.node command uid)) ≡ begins part working uid command
plain_begins part working uid (Wd path) t enters lists = absurd (enters path refl)
plain_begins part working uid (Llkob node) t enters lists = absurd (lists node refl)
plain_begins part working uid command t enters lists =
    sym (ap (λ b. begins_by part working command (cond b (talk_plan part working command) (makes (ops_of part.node command uid)))) t)

-- its first operation, or none where it lacks its object
pub makes_first : (part : Part) (working : Working) (command : Command) (list : Option (List Op)) (op : Op) → Some op ≡ first_of list → Goes First ≡ begins_by part working command (makes list)
makes_first part working command None op e = cc
makes_first part working command (Some []) op e = cc
makes_first part working command (Some (first ∷ rest)) op e = refl

lacks_first : (part : Part) (working : Working) (command : Command) (list : Option (List Op)) → AreShort list → None ≡ first_of list → Comes (Written not_bound) ≡ begins_by part working command (makes list)
lacks_first part working command None short e = refl
lacks_first part working command (Some []) short e = elim short [ ]
lacks_first part working command (Some (first ∷ rest)) short e = cc

pub lacks_object : (part : Part) (working : Working) (command : Command) (uid : Option ObjectName) → None ≡ first_of (ops_of part.node command uid) → Comes (Written not_bound) ≡ begins_by part working command (makes (ops_of part.node command uid))
lacks_object part working command uid e = lacks_first part working command (ops_of part.node command uid) (ops_short part.node command uid) e
