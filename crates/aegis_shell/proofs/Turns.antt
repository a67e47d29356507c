-- What the code knows at a turn of a process.
use Rattle.std.proofs.Common.{◌≡◌, ℕ, ◌+◌, ◌≤◌, ◌<◌, Bool, true, false, Option, Some, None, List, [], ◌∷◌, suc, length, drop, refl, ap, ◌∙◌, sym, subst, arith, length-append, length-drop, drop-cons, add-one, slice_index_or, cond}
use Rattle.std.specs.Prelude.{OnOk, Result, Ok, Err, nat_lt}
use Rattle.std.proofs.lemmas.List.{drop_all}
use Rattle.std.proofs.lemmas.List.Elements.{All-head, All-drop}
use Rattle.std.proofs.lemmas.Bool.Decides.{nat_tests}
use Rattle.dom_history.specs.declared.op.Op.{Op}
use Rattle.dom_history.specs.declared.op.Reply.{Reply}
use Rattle.dom_history.specs.declared.op.Want.TheVariants.{Do, Phase, Done}
use Rattle.dom_history.specs.Programs.{FitsWant}
use Rattle.naming_tree.specs.Turns.{FitsAsked}
use Rattle.command_talks.specs.declared.outcome.Outcome.{Outcome}
use Rattle.aegis_shell.specs.declared.stage.Stage.{Stage}
use Rattle.aegis_shell.specs.declared.stage.Stage.TheVariants.{Between, First, Second, Talks as Talking, Lists as Listing}
use Rattle.aegis_shell.specs.Outcomes.{outcome_text}
use Rattle.aegis_shell.specs.Work.{Job, Part}
use Rattle.aegis_shell.specs.Ranges.{IsJob, AreJobs}
use Rattle.aegis_shell.specs.States.{State, left, ops_at, object_at_job, Going, Goes, Comes, begins, goes_on, op_in, want_by, want_in, want_left, want_of, finished, at_stage, on_going, settle, settled, settled_at, next_phase, heard_at, hear}
use Rattle.aegis_shell.specs.Turns.{FitsStage}
use Rattle.aegis_shell.specs.Shells.{IsKept}
use Rattle.aegis_shell.proofs.Onwards.{next-left}

-- the jobs that are left begin with the next one
pub left-cons : (jobs : List Job) (n : ℕ) (job : Job) → n < length jobs → job ≡ slice_index_or jobs n job → drop n jobs ≡ job ∷ drop (n + 1) jobs
left-cons jobs n job within is =
    drop-cons jobs n job within
    ∙ (ap (λ j. j ∷ drop (suc n) jobs) (sym is) ∙ ap (λ k. job ∷ drop k jobs) (sym (add-one n)))

-- something is left where something may be told
told_some : (part : Part) (at : State) (jobs : List Job) (told : Option Reply) → FitsWant (want_left part at jobs) told → 1 ≤ length jobs
told_some part at [] told fits = absurd fits
told_some part at (job ∷ jobs) told fits = omega arith

pub told_within : (part : Part) (at : State) (told : Option Reply) → FitsWant (want_of part at) told → length at.answers < length part.jobs
told_within part at told fits = omega (arith, told_some part at (left part at) told fits, length-drop (length at.answers) part.jobs)

-- nothing is wanted where none is left
pub none_left : (part : Part) (at : State) → at.stage ≡ Between → length part.jobs ≤ length at.answers → (settled part at ≡ at) × (want_of part at ≡ Done)
none_left part at e all =
    let none = drop_all (length at.answers) part.jobs all in
    (ap (settled_at part at) e ∙ ap (settle part at) none, ap (want_left part at) none)

-- a reply is told within a command
no_reply : (early : Bool) (reply : Reply) → FitsWant (cond early Phase Done) (Some reply) → ⊥
no_reply true reply fits = fits
no_reply false reply fits = fits

asked_fits : (op : Option Op) (reply : Reply) → FitsWant (want_by op) (Some reply) → FitsAsked op (Some reply)
asked_fits None reply fits = absurd fits
asked_fits (Some op) reply fits = fits

no_phase : (op : Option Op) → FitsWant (want_by op) None → ⊥
no_phase None fits = fits
no_phase (Some op) fits = fits

module _ (part : Part) (at : State) (job : Job) (jobs : List Job) (is : left part at ≡ job ∷ jobs) where
  wants_here : (told : Option Reply) → FitsWant (want_of part at) told → FitsWant (want_in part at job at.stage) told
  wants_here told fits = subst (λ (list : List Job). FitsWant (want_left part at list) told) is fits

  fits_stage : (stage : Stage) (reply : Reply) → FitsWant (want_in part at job stage) (Some reply) → FitsStage (ops_at part at job) stage reply
  fits_stage Between reply fits = absurd (no_reply (nat_lt at.phase job.phase) reply fits)
  fits_stage First reply fits = asked_fits (op_in (ops_at part at job) First) reply fits
  fits_stage (Second first) reply fits = asked_fits (op_in (ops_at part at job) (Second first)) reply fits
  fits_stage (Talking talk) reply fits = asked_fits (op_in (ops_at part at job) (Talking talk)) reply fits
  fits_stage (Listing home last text) reply fits = asked_fits (op_in (ops_at part at job) (Listing home last text)) reply fits

  -- it fits the operation that is open
  pub fits_there : (reply : Reply) → FitsWant (want_of part at) (Some reply) → FitsStage (ops_at part at job) at.stage reply
  fits_there reply fits = fits_stage at.stage reply (wants_here (Some reply) fits)

  heard_in : (stage : Stage) (reply : Reply) → FitsWant (want_in part at job stage) (Some reply) → heard_at part at job stage (Some reply) ≡ on_going (goes_on part.names (ops_at part at job) stage (Some reply)) at (finished part at job.command)
  heard_in Between reply fits = absurd (no_reply (nat_lt at.phase job.phase) reply fits)
  heard_in First reply fits = refl
  heard_in (Second first) reply fits = refl
  heard_in (Talking talk) reply fits = refl
  heard_in (Listing home last text) reply fits = refl

  hears_there : (reply : Reply) → FitsWant (want_of part at) (Some reply) → hear part at (left part at) (Some reply) ≡ on_going (goes_on part.names (ops_at part at job) at.stage (Some reply)) at (finished part at job.command)
  hears_there reply fits = ap (λ (list : List Job). hear part at list (Some reply)) is ∙ heard_in at.stage reply (wants_here (Some reply) fits)

  -- it goes on within the command
  pub goes_there : (reply : Reply) (stage : Stage) → FitsWant (want_of part at) (Some reply) → goes_on part.names (ops_at part at job) at.stage (Some reply) ≡ Goes stage → at_stage at stage ≡ hear part at (left part at) (Some reply)
  goes_there reply stage fits goes = sym (hears_there reply fits ∙ ap (λ going. on_going going at (finished part at job.command)) goes)

  -- or ends it
  pub ends_there : (reply : Reply) (outcome : Outcome) → FitsWant (want_of part at) (Some reply) → goes_on part.names (ops_at part at job) at.stage (Some reply) ≡ Comes outcome → finished part at job.command outcome ≡ hear part at (left part at) (Some reply)
  ends_there reply outcome fits comes = sym (hears_there reply fits ∙ ap (λ going. on_going going at (finished part at job.command)) comes)

  wants_stage : (stage : Stage) (op : Op) → op_in (ops_at part at job) stage ≡ Some op → want_in part (at_stage at stage) job stage ≡ Do op
  wants_stage Between op asks = cc
  wants_stage First op asks = ap want_by asks
  wants_stage (Second first) op asks = ap want_by asks
  wants_stage (Talking talk) op asks = ap want_by asks
  wants_stage (Listing home last text) op asks = ap want_by asks

  -- and wants the operation of its stage
  pub wants_there : (stage : Stage) (op : Op) → op_in (ops_at part at job) stage ≡ Some op → want_of part (at_stage at stage) ≡ Do op
  wants_there stage op asks = ap (want_left part (at_stage at stage)) is ∙ wants_stage stage op asks

  stage_stays : (stage : Stage) (op : Op) → op_in (ops_at part at job) stage ≡ Some op → settled part (at_stage at stage) ≡ at_stage at stage
  stage_stays Between op asks = cc
  stage_stays First op asks = refl
  stage_stays (Second first) op asks = refl
  stage_stays (Talking talk) op asks = refl
  stage_stays (Listing home last text) op asks = refl

  -- before the next command
  settles_here : at.stage ≡ Between → settled part at ≡ settle part at (job ∷ jobs)
  settles_here e = ap (settled_at part at) e ∙ ap (settle part at) is

  -- its phase is waited for
  pub waits_there : at.stage ≡ Between → nat_lt at.phase job.phase ≡ true → (at ≡ settled part at) × (want_of part at ≡ Phase)
  waits_there e early = (
    sym (settles_here e ∙ ap (λ b. cond b at (on_going (begins part at.working (object_at_job at job) job.command) at (λ outcome. settle part (finished part at job.command outcome) jobs))) early),
    ap (want_left part at) is ∙ (ap (want_in part at job) e ∙ ap (λ b. cond b Phase Done) early),
  )

  begins_here : at.stage ≡ Between → nat_lt at.phase job.phase ≡ false → settled part at ≡ on_going (begins part at.working (object_at_job at job) job.command) at (λ outcome. settle part (finished part at job.command outcome) jobs)
  begins_here e come = settles_here e ∙ ap (λ b. cond b at (on_going (begins part at.working (object_at_job at job) job.command) at (λ outcome. settle part (finished part at job.command outcome) jobs))) come

  -- it begins with an operation
  pub begins_there : (stage : Stage) → at.stage ≡ Between → nat_lt at.phase job.phase ≡ false → begins part at.working (object_at_job at job) job.command ≡ Goes stage → at_stage at stage ≡ settled part at
  begins_there stage e come goes = sym (begins_here e come ∙ ap (λ going. on_going going at (λ outcome. settle part (finished part at job.command outcome) jobs)) goes)

  -- or is at its end
  pub ended_there : (outcome : Outcome) → at.stage ≡ Between → nat_lt at.phase job.phase ≡ false → begins part at.working (object_at_job at job) job.command ≡ Comes outcome → settled part (finished part at job.command outcome) ≡ settled part at
  ended_there outcome e come comes =
      ap (settle part (finished part at job.command outcome)) (ap (λ k. drop k part.jobs) (length-append at.answers (outcome_text part at.working job.command outcome ∷ [])) ∙ next-left part.jobs (length at.answers) job jobs is)
      ∙ sym (begins_here e come ∙ ap (λ going. on_going going at (λ outcome. settle part (finished part at job.command outcome) jobs)) comes)

-- a process that wants an operation stays where it is
asks_stays : (part : Part) (at : State) (jobs : List Job) (stage : Stage) (op : Op) → at.stage ≡ stage → want_left part at jobs ≡ Do op → settled_at part at stage ≡ at
asks_stays part at [] stage op e asks = cc
asks_stays part at (job ∷ jobs) Between op e asks = by_early (nat_lt at.phase job.phase) (ap (λ (s : Stage). want_in part at job s) (sym e) ∙ asks) where
  by_early : (early : Bool) → cond early Phase Done ≡ Do op → settled_at part at Between ≡ at
  by_early true asks = cc
  by_early false asks = cc
asks_stays part at (job ∷ jobs) First op e asks = refl
asks_stays part at (job ∷ jobs) (Second first) op e asks = refl
asks_stays part at (job ∷ jobs) (Talking talk) op e asks = refl
asks_stays part at (job ∷ jobs) (Listing home last text) op e asks = refl

pub asks-settled : (part : Part) (at : State) (op : Op) → want_of part at ≡ Do op → settled part at ≡ at
asks-settled part at op asks = asks_stays part at (left part at) at.stage op refl asks

-- a phase is passed before a command of a later one
early_phase : (early : Bool) → FitsWant (cond early Phase Done) None → early ≡ true
early_phase true fits = refl
early_phase false fits = absurd fits

phase_in : (part : Part) (at : State) (job : Job) (stage : Stage) → at.stage ≡ stage → FitsWant (want_in part at job stage) None → IsJob job → (heard_at part at job stage None ≡ next_phase at) × (at.stage ≡ Between) × (at.phase < 1000)
phase_in part at job Between e fits is =
    let early = early_phase (nat_lt at.phase job.phase) fits in
    let low : at.phase < job.phase = grind (arith, nat_tests) in
    (refl, e, omega (arith, low, is.phase))
phase_in part at job First e fits is = absurd (no_phase (op_in (ops_at part at job) First) fits)
phase_in part at job (Second first) e fits is = absurd (no_phase (op_in (ops_at part at job) (Second first)) fits)
phase_in part at job (Talking talk) e fits is = absurd (no_phase (op_in (ops_at part at job) (Talking talk)) fits)
phase_in part at job (Listing home last text) e fits is = absurd (no_phase (op_in (ops_at part at job) (Listing home last text)) fits)

phase_left : (part : Part) (at : State) (jobs : List Job) → FitsWant (want_left part at jobs) None → AreJobs jobs → (hear part at jobs None ≡ next_phase at) × (at.stage ≡ Between) × (at.phase < 1000)
phase_left part at [] fits ranges = absurd fits
phase_left part at (job ∷ jobs) fits ranges = phase_in part at job at.stage refl fits (All-head IsJob job jobs ranges)

pub passes-phase : (part : Part) (at : State) → FitsWant (want_of part at) None → AreJobs part.jobs → (hear part at (left part at) None ≡ next_phase at) × (at.stage ≡ Between) × (at.phase < 1000)
passes-phase part at fits ranges = phase_left part at (left part at) fits (All-drop IsJob (length at.answers) part.jobs ranges)

-- there are no more answers than commands
settle-few : (part : Part) (at : State) (jobs : List Job) → length (settle part at jobs).answers ≤ length at.answers + length jobs
settle-few part at [] = omega arith
settle-few part at (job ∷ jobs) =
    by_phase (nat_lt at.phase job.phase) (begins part at.working (object_at_job at job) job.command) (λ outcome. settle-few part (finished part at job.command outcome) jobs)
  where
    by_phase : (early : Bool) (going : Going)
        → ((outcome : Outcome) → length (settle part (finished part at job.command outcome) jobs).answers ≤ length (finished part at job.command outcome).answers + length jobs)
        → length (cond early at (on_going going at (λ outcome. settle part (finished part at job.command outcome) jobs))).answers ≤ length at.answers + length (job ∷ jobs)
    by_phase true going few = omega arith
    by_phase false (Goes stage) few = omega arith
    by_phase false (Comes outcome) few = omega (arith, few outcome, length-append at.answers (outcome_text part at.working job.command outcome ∷ []))

pub settled-few : (part : Part) (at : State) → length at.answers ≤ length part.jobs → length (settled part at).answers ≤ length part.jobs
settled-few part at few = by_stage at.stage where
  by_stage : (stage : Stage) → length (settled_at part at stage).answers ≤ length part.jobs
  by_stage Between = omega (arith, settle-few part at (left part at), length-drop (length at.answers) part.jobs)
  by_stage First = few
  by_stage (Second first) = few
  by_stage (Talking talk) = few
  by_stage (Listing home last text) = few

going-few : (part : Part) (at : State) (job : Job) (jobs : List Job) (going : Going) → length (on_going going at (finished part at job.command)).answers ≤ length at.answers + length (job ∷ jobs)
going-few part at job jobs (Goes stage) = omega arith
going-few part at job jobs (Comes outcome) = omega (arith, length-append at.answers (outcome_text part at.working job.command outcome ∷ []))

heard-few : (part : Part) (at : State) (jobs : List Job) (told : Option Reply) → length (hear part at jobs told).answers ≤ length at.answers + length jobs
heard-few part at [] told = omega arith
heard-few part at (job ∷ jobs) told = by_stage at.stage where
  by_stage : (stage : Stage) → length (heard_at part at job stage told).answers ≤ length at.answers + length (job ∷ jobs)
  by_stage Between = omega arith
  by_stage First = going-few part at job jobs (goes_on part.names (ops_at part at job) First told)
  by_stage (Second first) = going-few part at job jobs (goes_on part.names (ops_at part at job) (Second first) told)
  by_stage (Talking talk) = going-few part at job jobs (goes_on part.names (ops_at part at job) (Talking talk) told)
  by_stage (Listing home last text) = going-few part at job jobs (goes_on part.names (ops_at part at job) (Listing home last text) told)

pub hears-few : (part : Part) (at : State) (told : Option Reply) → length at.answers ≤ length part.jobs → length (hear part at (left part at) told).answers ≤ length part.jobs
hears-few part at told few = omega (arith, heard-few part at (left part at) told, length-drop (length at.answers) part.jobs)

-- the same of a call that may have found no memory
pub on_ok : {W E : Type 0} {P Q : Type 0} (r : Result W E) → OnOk r P → (P → Q) → OnOk r Q
on_ok (Ok w) p make = make p
on_ok (Err e) p make = tt

-- what a shell keeps
pub kept : (part : Part) (at new : State) → length at.answers ≤ length part.jobs → new ≡ at → IsKept part true new
kept part at new few is = record {
  within = subst (λ (s : State). length s.answers ≤ length part.jobs) (sym is) few;
  between = λ never. cc;
}
