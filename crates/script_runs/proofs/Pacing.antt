-- What a script gives its nodes is paced: a shell counts the phases that it passed, and waits for no phase but that of one of
-- its commands.
use Rattle.std.proofs.Common.{◌≡◌, ℕ, suc, ◌<◌, ◌≤◌, Bool, true, false, cond, Option, Some, None, List, [], ◌∷◌, length, refl, sym, ◌∙◌, ap, subst, arith}
use Rattle.std.specs.Prelude.{All, filter, nat_lt}
use Rattle.std.proofs.lemmas.Bool.Decides.{nat_tests}
use Rattle.std.proofs.lemmas.List.Elements.{All-head, All-weaker, All-map, All-filter, All-drop}
use Rattle.uid_names.specs.Names.{ProcName, same_proc}
use Rattle.dom_history.specs.declared.op.Op.{Op}
use Rattle.dom_history.specs.declared.op.Reply.{Reply}
use Rattle.dom_history.specs.declared.op.Entry.{Entry}
use Rattle.dom_history.specs.declared.op.Want.TheVariants.{Do, Phase, Done}
use Rattle.dom_history.specs.Follows.{Heard, Reaches, starts, answered, passed}
use Rattle.dom_history.specs.Programs.{program_after, asked_by}
use Rattle.script_reader.specs.declared.script.CommandRow.{CommandRow}
use Rattle.script_reader.specs.Commands.{IsCommandRow}
use Rattle.script_reader.specs.Scripts.{Content, IsContent}
use Rattle.script_reader.specs.Variables.{declared_object}
use Rattle.aegis_shell.specs.Work.{Job, Part, job_of, part_of, jobs_of}
use Rattle.aegis_shell.specs.Asking.{ask}
use Rattle.command_talks.specs.declared.outcome.Outcome.{Outcome}
use Rattle.aegis_shell.specs.declared.stage.Stage.{Stage}
use Rattle.aegis_shell.specs.declared.stage.Stage.TheVariants.{Between, First, Second, Talks as Talking, Lists as Listing}
use Rattle.aegis_shell.specs.States.{State, beginning, left, ops_at, object_at_job, op_in, Going, Goes, Comes, begins, goes_on, on_going, want_by, want_in, want_left, settle, settled_at, finished, heard_at, hear, step}
use Rattle.aegis_shell.specs.Shells.{Shelled, shell_of, state_after, shell_after, want_when, shell_wants}
use Rattle.run_laws.specs.Paced.{ArePaced}
use Rattle.script_runs.specs.Setups.{setup_of}
use Rattle.script_runs.proofs.Driven.{wants-nothing}

-- the phase stays where a command begins, goes on or ends
going-phase : (going : Going) (at : State) (end : Outcome → State) → ((outcome : Outcome) → (end outcome).phase ≡ at.phase) → (on_going going at end).phase ≡ at.phase
going-phase (Goes stage) at end same = refl
going-phase (Comes outcome) at end same = same outcome

unless-early : (early : Bool) (at further : State) → further.phase ≡ at.phase → (cond early at further).phase ≡ at.phase
unless-early true at further same = refl
unless-early false at further same = same

settle-phase : (part : Part) (at : State) (jobs : List Job) → (settle part at jobs).phase ≡ at.phase
settle-phase part at [] = refl
settle-phase part at (job ∷ jobs) =
    let going = begins part at.working (object_at_job at job) job.command in
    let further = λ (outcome : Outcome). settle part (finished part at job.command outcome) jobs in
    unless-early (nat_lt at.phase job.phase) at (on_going going at further)
    (going-phase going at further (λ outcome. settle-phase part (finished part at job.command outcome) jobs))

settled-phase : (part : Part) (at : State) (stage : Stage) → (settled_at part at stage).phase ≡ at.phase
settled-phase part at Between = settle-phase part at (left part at)
settled-phase part at First = refl
settled-phase part at (Second first) = refl
settled-phase part at (Talking talk) = refl
settled-phase part at (Listing home last text) = refl

-- a phase is waited for between commands alone, and an operation within one
pub no_phase : (op : Option Op) → want_by op ≡ Phase → ⊥
no_phase None wants = cc
no_phase (Some op) wants = cc

pub no_op : (early : Bool) (asked : Op) → cond early Phase Done ≡ Do asked → ⊥
no_op true asked wants = cc
no_op false asked wants = cc

-- it is the next one where the process waits for a phase, else the same
module _ (part : Part) (at : State) (told : Option Reply) where
  passes-at : (job : Job) (stage : Stage) → want_in part at job stage ≡ Phase → (heard_at part at job stage told).phase ≡ suc at.phase
  passes-at job Between wants = omega arith
  passes-at job First wants = absurd (no_phase (op_in (ops_at part at job) First) wants)
  passes-at job (Second first) wants = absurd (no_phase (op_in (ops_at part at job) (Second first)) wants)
  passes-at job (Talking talk) wants = absurd (no_phase (op_in (ops_at part at job) (Talking talk)) wants)
  passes-at job (Listing home last text) wants = absurd (no_phase (op_in (ops_at part at job) (Listing home last text)) wants)

  passes-left : (jobs : List Job) → want_left part at jobs ≡ Phase → (hear part at jobs told).phase ≡ suc at.phase
  passes-left [] wants = absurd (cc)
  passes-left (job ∷ jobs) wants = passes-at job at.stage wants

  replied-phase : (job : Job) (stage : Stage) → (on_going (goes_on part.names (ops_at part at job) stage told) at (finished part at job.command)).phase ≡ at.phase
  replied-phase job stage = going-phase (goes_on part.names (ops_at part at job) stage told) at (finished part at job.command) (λ outcome. refl)

  stays-at : (job : Job) (asked : Op) (stage : Stage) → want_in part at job stage ≡ Do asked → (heard_at part at job stage told).phase ≡ at.phase
  stays-at job asked Between wants = absurd (no_op (nat_lt at.phase job.phase) asked wants)
  stays-at job asked First wants = replied-phase job First
  stays-at job asked (Second first) wants = replied-phase job (Second first)
  stays-at job asked (Talking talk) wants = replied-phase job (Talking talk)
  stays-at job asked (Listing home last text) wants = replied-phase job (Listing home last text)

  stays-left : (jobs : List Job) (asked : Op) → want_left part at jobs ≡ Do asked → (hear part at jobs told).phase ≡ at.phase
  stays-left [] asked wants = absurd (cc)
  stays-left (job ∷ jobs) asked wants = stays-at job asked at.stage wants

  step-phase : (step part at told).phase ≡ (hear part at (left part at) told).phase
  step-phase = settled-phase part (hear part at (left part at) told) (hear part at (left part at) told).stage

-- a shell of a part that was called and has come to a phase
record ComesTo (part : Part) (phase : ℕ) (v : Shelled) : Type 0 where
  own : v.part ≡ part
  called : v.begun ≡ true
  comes : v.at.phase ≡ phase

passes-called : (begun : Bool) (part : Part) (at : State) (told : Option Reply) → begun ≡ true → want_when begun part at ≡ Phase → (state_after begun part at told).phase ≡ suc at.phase
passes-called true part at told called wants = step-phase part at told ∙ passes-left part at told (left part at) wants
passes-called false part at told called wants = absurd (cc)

stays-called : (begun : Bool) (part : Part) (at : State) (told : Option Reply) (asked : Op) → begun ≡ true → want_when begun part at ≡ Do asked → (state_after begun part at told).phase ≡ at.phase
stays-called true part at told asked called wants = step-phase part at told ∙ stays-left part at told (left part at) asked wants
stays-called false part at told asked called wants = absurd (cc)

-- what a shell wants is what its process asks
abbrev pub AsksByShell : Type 0
AsksByShell = (s : Content) (p : ProcName) (heard : Heard) → asked_by shell_wants shell_after (shell_of s p) heard ≡ ask s p heard

-- waiting for a phase, a process has a command in a later one
awaits-early : (early : Bool) → cond early Phase Done ≡ Phase → early ≡ true
awaits-early true wants = refl
awaits-early false wants = absurd (cc)

awaits-at : (part : Part) (at : State) (job : Job) (stage : Stage) → want_in part at job stage ≡ Phase → at.phase < job.phase
awaits-at part at job Between wants = let early = awaits-early (nat_lt at.phase job.phase) wants in grind (arith, nat_tests, early)
awaits-at part at job First wants = absurd (no_phase (op_in (ops_at part at job) First) wants)
awaits-at part at job (Second first) wants = absurd (no_phase (op_in (ops_at part at job) (Second first)) wants)
awaits-at part at job (Talking talk) wants = absurd (no_phase (op_in (ops_at part at job) (Talking talk)) wants)
awaits-at part at job (Listing home last text) wants = absurd (no_phase (op_in (ops_at part at job) (Listing home last text)) wants)

awaits-within : (part : Part) (at : State) (last : ℕ) (jobs : List Job) → All (λ job. job.phase ≤ last) jobs → want_left part at jobs ≡ Phase → at.phase < last
awaits-within part at last [] within wants = absurd (cc)
awaits-within part at last (job ∷ jobs) within wants =
    let below = awaits-at part at job at.stage wants in
    let most = All-head (λ (j : Job). j.phase ≤ last) job jobs within in
    omega (arith, below, most)

called-within : (v : Shelled) (last : ℕ) → v.begun ≡ true → All (λ job. job.phase ≤ last) v.part.jobs → shell_wants v ≡ Phase → v.at.phase < last
called-within v last called within wants =
    awaits-within v.part v.at last (left v.part v.at) (All-drop (λ (j : Job). j.phase ≤ last) (length v.at.answers) v.part.jobs within)
    (subst (λ b. want_when b v.part v.at ≡ Phase) called wants)

module _ (asks_are : AsksByShell) (s : Content) (p : ProcName) where
  abbrev after : Heard → Shelled
  after heard = program_after shell_after (shell_of s p) heard

  -- a shell counts the phases that it passed
  comes-to : {told : List Entry} {heard : Heard} {phase : ℕ} → Reaches (ask s p) told heard phase → ComesTo (part_of s p) phase (after heard)
  comes-to starts = record { own = refl; called = refl; comes = settled-phase (part_of s p) (beginning (part_of s p)) Between }
  comes-to (answered {past} {heard} {phase} e is asks same) =
      let before = comes-to is in
      let v = after heard in
      record {
        own = before.own;
        called = refl;
        comes = stays-called v.begun v.part v.at (Some e.reply) e.op before.called (asks_are s p heard ∙ asks) ∙ before.comes;
      }
  comes-to (passed {past} {heard} {phase} is asks) =
      let before = comes-to is in
      let v = after heard in
      record {
        own = before.own;
        called = refl;
        comes = passes-called v.begun v.part v.at None before.called (asks_are s p heard ∙ asks) ∙ ap suc before.comes;
      }

  jobs-within : IsContent s → All (λ job. job.phase ≤ s.phases) (jobs_of s p)
  jobs-within content =
      All-map (λ (j : Job). j.phase ≤ s.phases) (job_of (declared_object s.objects)) (filter (λ row. same_proc row.proc p) s.commands)
      (All-filter (λ row. same_proc row.proc p) (λ (row : CommandRow). row.phase ≤ s.phases) s.commands
      (All-weaker (IsCommandRow (length s.nodes) s.phases) (λ row. row.phase ≤ s.phases) (λ row h. h.phase_high) s.commands content.draft.commands))

  waits-within : IsContent s → (told : List Entry) (heard : Heard) (phase : ℕ) → Reaches (ask s p) told heard phase → ask s p heard ≡ Phase → phase < s.phases
  waits-within content told heard phase is asks =
      let comes = comes-to is in
      let within : All (λ job. job.phase ≤ s.phases) (after heard).part.jobs = subst (λ (part : Part). All (λ job. job.phase ≤ s.phases) part.jobs) (sym comes.own) (jobs-within content) in
      subst (λ n. n < s.phases) comes.comes (called-within (after heard) s.phases comes.called within (asks_are s p heard ∙ asks))

pub paced-is : AsksByShell → (s : Content) → IsContent s → ArePaced (setup_of s)
paced-is asks_are s content = record {
  phases = λ p told heard phase is asks. waits-within asks_are s p content told heard phase is asks;
  absent = λ p none. wants-nothing s content p none;
}
